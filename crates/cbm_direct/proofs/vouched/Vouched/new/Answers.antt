use Rattle.cbm_machine.specs.Machines.{start}
use Rattle.std.proofs.Common.{ap, sym, subst, ◌≡◌, rules}
use Rattle.cbm_direct.specs.Vouching.{StandsAtStart, IsVouchOf}
use Rattle.cbm_direct.proofs.Sounds.{begun}
use Rattle.cbm_direct.proofs.vouched.Vouched.new.Goals as goal

pub invariant_of-result : goal.invariant_of-result
invariant_of-result g c =
    let seen = g.M.Medium.seen in
    begun seen c.of-vouch.result (seen c.into_medium.result) c.new.result (λ d. start d (seen c.into_medium.result).protected (seen c.into_medium.result).tracks) (ap seen c.new.ensures.medium)
    (subst (λ x. IsVouchOf (seen x) c.of-vouch.result) (sym c.into_medium.ensures) c.of-vouch.ensures.shown)
    c.new.ensures.stands

-- as the DOS does
pub returns-clause-stands : goal.returns-clause-stands
returns-clause-stands g c =
    let same : c.into_medium.result ≡ c.args.medium = search rules in
    subst (λ x. StandsAtStart g.M.Medium.seen x c.new.result) same c.new.ensures.stands
