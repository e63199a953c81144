use Rattle.std.proofs.Common.{true}
use Rattle.cbm_volume.specs.Layouts.{Sound}
use Rattle.cbm_bam.specs.Map.{geometry_of}
use Rattle.cbm_shell.specs.Images.{IsChecked}
use Rattle.cbm_shell.proofs.ImageLemmas.{as_checked}
use Rattle.cbm_device.specs.ImageDisks.{counted_seen}
use Rattle.cbm_device.proofs.Opening.{of_disk, to_disk}
use Rattle.cbm_device.proofs.looking.check.Goals as goal

pub returns-clause-ok : goal.returns-clause-ok
returns-clause-ok c =
    let now = counted_seen c.in_ok-volume.volume in
    of_disk (λ n content. IsChecked n content c.check.result) c.args.image.now true c.in_ok-volume.volume c.in_ok-volume.ensures.ok
    (as_checked now.tracks now.content c.check.result c.check.ensures.sound c.check.ensures.err)

pub returns-clause-exact : goal.returns-clause-exact
returns-clause-exact c = λ l sound.
    c.check.ensures.exact l
    (to_disk (λ n content. Sound (geometry_of n content) content l) c.args.image.now true c.in_ok-volume.volume c.in_ok-volume.ensures.ok sound)
