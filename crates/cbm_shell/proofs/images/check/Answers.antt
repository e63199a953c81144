use Rattle.cbm_image.specs.AnyDisks.{any_seen}
use Rattle.cbm_shell.proofs.ImageLemmas.{checked_image, as_checked}
use Rattle.cbm_shell.proofs.images.check.Goals as goal

pub returns-clause-ok : goal.returns-clause-ok
returns-clause-ok c =
    let seen = any_seen in
    checked_image c.args.image.now (seen c.in_ok-volume.volume) c.check.result c.in_ok-volume.ensures.ok
    (as_checked (seen c.in_ok-volume.volume).tracks (seen c.in_ok-volume.volume).content c.check.result c.check.ensures.sound c.check.ensures.err)
