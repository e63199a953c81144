use Rattle.cbm_chain.proofs.After.{chain_wrote}
use Rattle.cbm_chain.proofs.laws.a_writer_after_a_chain_has_its_bytes.Goals as goal

pub returns : goal.returns
returns c = λ tracks content blocks s whole part after. chain_wrote tracks content blocks s whole part after
