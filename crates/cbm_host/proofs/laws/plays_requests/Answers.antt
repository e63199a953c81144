use Rattle.cbm_host.proofs.Requests.{plays_requests}
use Rattle.cbm_host.proofs.laws.plays_requests.Goals as goal

pub returns : goal.returns
returns c = plays_requests
