use Rattle.cbm_chain.proofs.Ending.{chain_ended}
use Rattle.cbm_chain.proofs.laws.a_last_block_makes_a_chain.Goals as goal

pub returns : goal.returns
returns c = λ old new s blocks bytes wrote ends. chain_ended old new s blocks bytes wrote ends
