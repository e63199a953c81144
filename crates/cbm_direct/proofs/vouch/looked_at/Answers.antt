use Rattle.std.proofs.Common.{ap, ◌∙◌}
use Rattle.cbm_direct.proofs.Sounds.{shows_disk}
use Rattle.cbm_direct.proofs.vouch.looked_at.Goals as goal

-- a sound layout means a disk
pub returns-in-Ok-clause-shown : goal.returns-in-Ok-clause-shown
returns-in-Ok-clause-shown g c = (c.failures.ensures ∙ ap (λ x. (g.M.Medium.seen x).failures) c.medium.ensures, shows_disk (g.M.Medium.seen c.args.volume.now) c.in-Ok.ensures.sound)
