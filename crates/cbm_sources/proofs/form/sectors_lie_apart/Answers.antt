use Rattle.cbm_sources.proofs.Places.{lie_apart}
use Rattle.cbm_sources.proofs.form.sectors_lie_apart.Goals as goal

pub returns : goal.returns
returns c = lie_apart
