use Rattle.std.proofs.Common.{inr, subst}
use Rattle.cbm_direct.specs.Vouching.{GivesBy, access_of}
use Rattle.cbm_direct.specs.Directs.{Reports, UnlessProtected}
use Rattle.cbm_direct.proofs.direct.DirectDos.free.Goals as goal

-- drive 0, and the disk has the sector
pub returns-in-Some-clause-done : goal.returns-in-Some-clause-done
returns-in-Some-clause-done g c =
    let seen = g.M.Medium.seen in
    let old = c.args.self.now in
    let e = c.in-Some.ensures in
    inr (c.if-sector-ne0.false, inr (e.0, subst (λ p. UnlessProtected seen (Reports p (GivesBy (access_of old.vouched.vouch) seen p)) old c.free_at.new.self) e.1 c.free_at.ensures.done))
