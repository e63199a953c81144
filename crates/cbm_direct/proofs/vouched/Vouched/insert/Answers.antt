use Rattle.cbm_machine.specs.Machines.{start}
use Rattle.cbm_channel.specs.Exchanged.{still_telling}
use Rattle.std.proofs.Common.{ap, sym, subst, ◌≡◌, rules}
use Rattle.cbm_direct.specs.Vouching.{Vouching, StandsExchanged, IsVouchOf}
use Rattle.cbm_direct.proofs.Sounds.{begun}
use Rattle.cbm_direct.proofs.vouched.Vouched.insert.Goals as goal

pub invariant_of-self : goal.invariant_of-self
invariant_of-self g c =
    let seen = g.M.Medium.seen in
    begun seen c.of-vouch.result (seen c.into_medium.result) c.insert.new.self
    (λ d. still_telling c.self.inside.dos.told (start d (seen c.into_medium.result).protected (seen c.into_medium.result).tracks)) (ap seen c.insert.ensures.medium)
    (subst (λ x. IsVouchOf (seen x) c.of-vouch.result) (sym c.into_medium.ensures) c.of-vouch.ensures.shown)
    c.insert.ensures.stands

-- as the DOS does
pub returns-clause-stands : goal.returns-clause-stands
returns-clause-stands g c =
    let same : c.into_medium.result ≡ c.args.medium = search rules in
    subst (λ x. StandsExchanged g.M.Medium.seen x c.args.self.now.dos.told c.insert.new.self) same
    (subst (λ (v : Vouching _). StandsExchanged g.M.Medium.seen c.into_medium.result v.dos.told c.insert.new.self) c.self.view_is c.insert.ensures.stands)
