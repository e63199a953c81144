use Rattle.std.proofs.Common.{inr, subst}
use Rattle.cbm_direct.specs.Vouching.{WritesBy, access_of}
use Rattle.cbm_direct.specs.Directs.{Reports, UnlessProtected}
use Rattle.cbm_direct.proofs.direct.DirectDos.write_block.Goals as goal

-- drive 0, and the medium has the sector
pub returns-in-Some-clause-done : goal.returns-in-Some-clause-done
returns-in-Some-clause-done g c =
    let seen = g.M.Medium.seen in
    let old = c.args.self.now in
    let e = c.in-Some.ensures in
    inr (c.if-block-ne0.false, inr (e.0, subst (λ p. UnlessProtected seen (Reports p (WritesBy (access_of old.vouched.vouch) seen p c.args.bytes.now)) old c.write_at.new.self) e.1 c.write_at.ensures.done))
