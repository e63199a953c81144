use Rattle.cbm_shell.proofs.NewImages.{new_circles, of_form}
use Rattle.cbm_shell.proofs.images.making.new_g64.Goals as goal

pub returns-in-Ok : goal.returns-in-Ok
returns-in-Ok c =
    new_circles c.args.form c.args.title.now c.args.id c.in-Ok.image.items c.args.disk c.formatted-disk.result c.requires.form c.in-Ok.ensures.again c.in-Ok.ensures.rest (of_form c.requires.blank.same_tracks c.formatted-disk.ensures)
