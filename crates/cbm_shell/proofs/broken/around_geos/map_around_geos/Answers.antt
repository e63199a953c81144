use Rattle.std.proofs.Common.{subst, ◌∙◌}
use Rattle.std.specs.Prelude.{IfOk}
use Rattle.cbm_image.specs.AnyDisks.{any_seen}
use Rattle.cbm_image.specs.Images.{kind_of, content_of}
use Rattle.cbm_shell.specs.AroundGeos.{IsMappedAround}
use Rattle.cbm_shell.specs.Images.{IsSoundImage, disk_tracks}
use Rattle.cbm_shell.specs.Remaking.{MakesFault}
use Rattle.cbm_shell.proofs.ImageLemmas.{in_sectors}
use Rattle.cbm_shell.proofs.RemakeLemmas.{stopped_new, of_image}
use Rattle.cbm_shell.proofs.broken.around_geos.map_around_geos.Goals as goal

pub returns-clause-fault : goal.returns-clause-fault
returns-clause-fault c =
    let seen = any_seen in
    let image = c.args.image.now in
    let new = seen c.in_ok-disk.disk in
    let opened = c.in_ok-volume.ensures.ok in
    stopped_new c.sound_image.result image new (IsMappedAround (disk_tracks image) (content_of (kind_of image) image))
    (MakesFault image (IsMappedAround (disk_tracks image) (content_of (kind_of image) image)))
    (c.in_ok-disk.ensures.tracks ∙ opened.same_tracks)
    (of_image (λ t old. IsMappedAround t old new.content) image (seen c.in_ok-volume.volume) opened c.in_ok-disk.ensures.mapped) (λ u h. h) c.sound_image.ensures.fault

pub returns-clause-sound : goal.returns-clause-sound
returns-clause-sound c = subst (λ k. IfOk c.sound_image.result (λ v. IsSoundImage k v.items)) c.kind_of.ensures c.sound_image.ensures.image

pub returns-clause-opens : goal.returns-clause-opens
returns-clause-opens c = in_sectors (λ v. v.items) c.sound_image.result c.args.image.now c.kind_of.result (any_seen c.in_ok-volume.volume) (any_seen c.in_ok-disk.disk) c.kind_of.ensures c.in_ok-volume.ensures.ok c.in_ok-disk.ensures.outside c.sound_image.ensures.saved
