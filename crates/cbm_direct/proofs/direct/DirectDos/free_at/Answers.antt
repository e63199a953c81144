use Rattle.std.proofs.Common.{◌≡◌, false, inr, refl, subst, rules}
use Rattle.cbm_direct.specs.Vouching.{GivesBy, access_of}
use Rattle.cbm_direct.specs.Directs.{Direct, Reports}
use Rattle.cbm_direct.proofs.Handed.{reported}
use Rattle.cbm_direct.proofs.direct.DirectDos.free_at.Goals as goal

-- the disk isn't protected
pub returns-clause-done : goal.returns-clause-done
returns-clause-done g c =
    let seen = g.M.Medium.seen in
    let unprotected : (seen c.args.self.now.vouched.dos.medium).protected ≡ false = search rules in
    let inside : Direct _ = record { vouched = c.self.inside.vouched; buffers = c.self.inside.buffers; reply = c.self.inside.reply } in
    inr (
      unprotected,
      subst (λ (d : Direct _). Reports c.args.at (GivesBy (access_of d.vouched.vouch) seen c.args.at) d c.report.new.self) c.self.view_is
          (reported c.args.at (GivesBy (access_of inside.vouched.vouch) seen c.args.at) inside inside c.report.new.self refl c.give_at-given.new.self c.give_at-given.result
          c.give_at-given.ensures.gives c.give_at-given.ensures.keeps.vouch c.report.ensures.done),
    )
