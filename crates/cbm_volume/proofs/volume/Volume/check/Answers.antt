use Rattle.std.proofs.Common.{rules, refl}
use Rattle.cbm_bam.specs.Map.{geometry_of}
use Rattle.cbm_volume.proofs.checked.CheckedSound.{checked_sound, ends_exact}
use Rattle.cbm_volume.proofs.volume.Volume.check.Goals as goal

-- what is claimed is a sound disk
pub returns-clause-sound : goal.returns-clause-sound
returns-clause-sound g c =
    checked_sound (geometry_of (g.M.Medium.seen c.args.self.now).tracks (g.M.Medium.seen c.args.self.now).content) (g.M.Medium.seen c.args.self.now).content (search rules)

-- and of a sound disk all is claimed
pub returns-in_err-check_disk-clause-exact : goal.returns-in_err-check_disk-clause-exact
returns-in_err-check_disk-clause-exact g c = λ l s.
    ends_exact (g.M.Medium.seen c.args.self.now).tracks (g.M.Medium.seen c.args.self.now).content l c.from_residual.result (search rules) s

pub returns-clause-exact : goal.returns-clause-exact
returns-clause-exact g c = λ l s. refl

pub returns-clause-err : goal.returns-clause-err
returns-clause-err g c = tt
