use Rattle.std.proofs.Common.{subst}
use Rattle.std.specs.Prelude.{IfOk}
use Rattle.cbm_shell.specs.Images.{IsSoundImage}
use Rattle.cbm_image.specs.AnyDisks.{any_seen}
use Rattle.cbm_shell.proofs.ImageLemmas.{in_sectors}
use Rattle.cbm_odd.proofs.changing.map_around.Goals as goal

pub returns-clause-sound : goal.returns-clause-sound
returns-clause-sound c = subst (λ k. IfOk c.sound_image.result (λ v. IsSoundImage k v.items)) c.kind_of.ensures c.sound_image.ensures.image

pub returns-clause-opens : goal.returns-clause-opens
returns-clause-opens c =
    in_sectors (λ v. v.items) c.sound_image.result c.args.image.now c.kind_of.result (any_seen c.in_ok-volume.volume) (any_seen c.in_ok-disk.disk) c.kind_of.ensures c.in_ok-volume.ensures.ok c.in_ok-disk.ensures.outside c.sound_image.ensures.saved
