use Rattle.std.proofs.Common.{ap, subst, ◌∙◌, Err}
use Rattle.std.specs.Prelude.{IfOk}
use Rattle.std.proofs.lemmas.Result.{err_from_is_err_and}
use Rattle.cbm_image.specs.AnyDisks.{any_seen}
use Rattle.cbm_shell.specs.Images.{IsSoundImage}
use Rattle.cbm_shell.proofs.ImageLemmas.{sectors_if}
use Rattle.cbm_slots.proofs.RetypingLemmas.{was_unsound, not_retyped}
use Rattle.cbm_slots.proofs.retyping.retype.Goals as goal

pub returns-in_err-require_sound-clause-fault : goal.returns-in_err-require_sound-clause-fault
returns-in_err-require_sound-clause-fault c =
    let seen = any_seen in
    let f = c.in_err-require_sound.field-0.0 in
    let p = err_from_is_err_and c.from_residual-in_err-require_sound.result c.from_residual-in_err-require_sound.ensures.1 in
    rw (p.1 ∙ ap Err p.2) (was_unsound c.args.image.now (seen c.in_ok-volume.volume) c.args.slot c.args.kind f c.in_ok-volume.ensures.ok
    c.in_err-require_sound.ensures.fault)

pub returns-clause-stays : goal.returns-clause-stays
returns-clause-stays c = subst (λ k. IfOk c.retyped_image.result (λ v. IsSoundImage k v.items)) c.kind_of.ensures c.retyped_image.ensures.sound

pub returns-clause-fault : goal.returns-clause-fault
returns-clause-fault c =
    let seen = any_seen in
    not_retyped c.args.image.now (seen c.in_ok-volume.volume) c.args.slot c.args.kind c.retyped_image.result c.in_ok-volume.ensures.ok
    c.retyped_image.ensures.fault

pub returns-clause-opens : goal.returns-clause-opens
returns-clause-opens c =
    sectors_if (λ v. v.items) c.retyped_image.result c.args.image.now c.kind_of.result (any_seen c.in_ok-volume.volume) c.kind_of.ensures c.in_ok-volume.ensures.ok c.retyped_image.ensures.opens
    c.retyped_image.ensures.outside
