use Rattle.std.proofs.Common.{◌≡◌, false, inr, refl, subst, rules}
use Rattle.cbm_direct.specs.Vouching.{WritesBy, access_of}
use Rattle.cbm_direct.specs.Directs.{Direct, Reports}
use Rattle.cbm_direct.proofs.Handed.{reported}
use Rattle.cbm_direct.proofs.direct.DirectDos.write_at.Goals as goal

-- the disk isn't protected
pub returns-clause-done : goal.returns-clause-done
returns-clause-done g c =
    let seen = g.M.Medium.seen in
    let unprotected : (seen c.args.self.now.vouched.dos.medium).protected ≡ false = search rules in
    let inside : Direct _ = record { vouched = c.self.inside.vouched; buffers = c.self.inside.buffers; reply = c.self.inside.reply } in
    inr (
      unprotected,
      subst (λ (d : Direct _). Reports c.args.at (WritesBy (access_of d.vouched.vouch) seen c.args.at c.args.bytes.now) d c.report.new.self) c.self.view_is
          (reported c.args.at (WritesBy (access_of inside.vouched.vouch) seen c.args.at c.args.bytes.now) inside inside c.report.new.self refl c.write_at-written.new.self c.write_at-written.result
          c.write_at-written.ensures.writes c.write_at-written.ensures.keeps.vouch c.report.ensures.done),
    )
