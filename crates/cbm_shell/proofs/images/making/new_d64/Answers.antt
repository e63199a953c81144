use Rattle.std.proofs.Common.{subst, length}
use Rattle.cbm_d64.specs.Image.{IsImageSize, Image}
use Rattle.cbm_shell.proofs.NewImages.{new_sectors, of_form}
use Rattle.cbm_shell.proofs.images.making.new_d64.Goals as goal

pub returns-in-Ok : goal.returns-in-Ok
returns-in-Ok c = new_sectors c.args.form c.args.title.now c.args.id c.in-Ok.image.items _ c.formatted-disk.result c.requires.form
    (subst (λ (d : Image). IsImageSize (length d.bytes)) c.disk.view_is c.disk.invariant) c.in-Ok.ensures.ok (of_form c.requires.blank.same_tracks c.formatted-disk.ensures)
