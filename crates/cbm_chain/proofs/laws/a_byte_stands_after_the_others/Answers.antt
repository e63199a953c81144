use Rattle.cbm_chain.proofs.Putting.{one_put}
use Rattle.cbm_chain.proofs.laws.a_byte_stands_after_the_others.Goals as goal

pub returns : goal.returns
returns c = λ old new s t blocks bytes byte wrote taken puts. one_put old new s t blocks bytes byte wrote taken puts
