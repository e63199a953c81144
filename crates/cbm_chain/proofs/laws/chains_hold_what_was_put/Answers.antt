use Rattle.std.proofs.Common.{◌++◌, length}
use Rattle.cbm_chain.specs.Writing.{HasPut}
use Rattle.cbm_chain.proofs.Putting.{all_put}
use Rattle.cbm_chain.proofs.Ending.{chain_ended}
use Rattle.cbm_chain.proofs.laws.chains_hold_what_was_put.Goals as goal

pub returns : goal.returns
returns c = λ old middle new s t blocks bytes put wrote taken puts ends.
    let h : HasPut (length put) middle t blocks (bytes ++ put) = all_put put old middle s t blocks bytes wrote taken puts in
    (h.more, chain_ended middle new t (blocks ++ h.more) (bytes ++ put) h.wrote ends)
