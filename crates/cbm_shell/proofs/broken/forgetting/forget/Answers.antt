use Rattle.std.proofs.Common.{sym}
use Rattle.cbm_image.specs.AnyDisks.{any_seen}
use Rattle.cbm_shell.proofs.ImageLemmas.{sound_image, sectors_only}
use Rattle.cbm_shell.proofs.ForgetLemmas.{forgot}
use Rattle.cbm_shell.proofs.broken.forgetting.forget.Goals as goal

pub returns-in-Ok-clause-forgotten : goal.returns-in-Ok-clause-forgotten
returns-in-Ok-clause-forgotten c =
    let seen = any_seen in
    sound_image c.args.image.now (seen c.in_ok-volume.volume) c.in_ok-volume.ensures.ok c.in-Ok.ensures.sound

pub returns-in_ok-new-in-Err-clause-forgotten : goal.returns-in_ok-new-in-Err-clause-forgotten
returns-in_ok-new-in-Err-clause-forgotten c =
    let seen = any_seen in
    forgot c.args.image.now c.in_ok-new-in-Err.new.items (seen c.in_ok-volume.volume) c.kind_of.result c.args.slot c.in-Err.field-0 c.in_ok-volume.ensures.ok (sym c.kind_of.ensures)
    c.in-Err.ensures.err c.in_ok-new-in-Err.ensures.cleared

pub returns-in_ok-new-in-Err-clause-opens : goal.returns-in_ok-new-in-Err-clause-opens
returns-in_ok-new-in-Err-clause-opens c =
    sectors_only c.args.image.now c.in_ok-new-in-Err.new.items c.kind_of.result (any_seen c.in_ok-volume.volume) c.kind_of.ensures c.in_ok-volume.ensures.ok c.in_ok-new-in-Err.ensures.opens c.in_ok-new-in-Err.ensures.outside
