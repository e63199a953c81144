use Rattle.std.proofs.Common.{◌≡◌, arith}
use Rattle.std.proofs.lemmas.Bool.Decides.{nat_tests}
use Rattle.cbm_relfile.proofs.Listed.{all_listed}
use Rattle.cbm_relfile.proofs.listing.is_full.Goals as goal

pub returns : goal.returns
returns c = λ e.
    let none : c.loop-number.zeros ≡ 0 = grind (arith, nat_tests) in
    all_listed 120 0 c.args.side.now (omega arith) (λ k h. c.loop-number.invariant.1 none k (omega arith))
