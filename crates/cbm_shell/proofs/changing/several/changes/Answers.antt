use Rattle.std.proofs.Common.{sym, ◌≡◌, ap, subst, ◌∙◌, Err, false}
use Rattle.std.specs.Prelude.{◌⊎◌}
use Rattle.cbm_image.specs.AnyDisks.{any_seen}
use Rattle.cbm_shell.specs.declared.fault.ShellFault.TheVariants as fault
use Rattle.std.proofs.lemmas.Result.{err_from_is_err_and}
use Rattle.cbm_image.specs.Images.{kind_of, tracks_of}
use Rattle.cbm_shell.specs.Several.{any_formats, AreUndone, HoldsAfter}
use Rattle.cbm_shell.proofs.ImageLemmas.{opened_holds, as_open_fault, again_if, bytes_if, outside_either, outside_none}
use Rattle.cbm_shell.proofs.SeveralLemmas.{saved_after, never_image, or_memory}
use Rattle.cbm_shell.proofs.changing.several.changes.Goals as goal

pub returns-in_err-disk-clause-made : goal.returns-in_err-disk-clause-made
returns-in_err-disk-clause-made c = λ d h.
    let p = err_from_is_err_and c.from_residual.result c.from_residual.ensures.1 in
    rw (p.1 ∙ ap Err p.2) (as_open_fault c.args.image.now (AreUndone c.args.changes.now false (tracks_of (kind_of c.args.image.now) c.args.image.now) d) _ c.in_err-disk.ensures.err)

pub returns-in_err-disk-2-clause-made : goal.returns-in_err-disk-2-clause-made
returns-in_err-disk-2-clause-made c = λ d h.
    let seen = any_seen c.in_ok-disk.disk in
    let opened = c.in_ok-disk.ensures.ok in
    let p = err_from_is_err_and c.from_residual-in_err-disk-2.result c.from_residual-in_err-disk-2.ensures.1 in
    rw (p.1 ∙ ap Err p.2) (or_memory c.args.image.now (AreUndone c.args.changes.now false (tracks_of (kind_of c.args.image.now) c.args.image.now) d) _ (never_image c.args.changes.now false (tracks_of (kind_of c.args.image.now) c.args.image.now) d)
    (subst (λ t. (c.in_err-disk-2.field-0.0 ≡ fault.Memory) ⊎ AreUndone c.args.changes.now false t d c.in_err-disk-2.field-0.0) opened.same_tracks
    (subst (λ b. (c.in_err-disk-2.field-0.0 ≡ fault.Memory) ⊎ AreUndone c.args.changes.now b seen.tracks d c.in_err-disk-2.field-0.0) opened.free
    (c.in_err-disk-2.ensures.made d (opened_holds c.args.image.now seen d opened h)))))

pub returns-clause-made : goal.returns-clause-made
returns-clause-made c = λ d h.
    let seen = any_seen c.in_ok-disk.disk in
    let opened = c.in_ok-disk.ensures.ok in
    let after = any_seen c.in_ok-disk-2.disk in
    let made = subst (λ t. HoldsAfter c.args.changes.now false t d after) opened.same_tracks
    (subst (λ b. HoldsAfter c.args.changes.now b seen.tracks d after) opened.free (c.in_ok-disk-2.ensures.made d (opened_holds c.args.image.now seen d opened h))) in
    saved_after c.args.image.now (λ v. v.items) c.args.changes.now c.kind_of.result (kind_of c.args.image.now) (tracks_of (kind_of c.args.image.now) c.args.image.now) d after c.saved.result (sym c.kind_of.ensures) c.saved.ensures.ok c.saved.ensures.err made

pub returns-clause-opens : goal.returns-clause-opens
returns-clause-opens c = again_if (λ v. v.items) c.saved.result c.args.image.now c.kind_of.result (any_seen c.in_ok-disk.disk) (any_seen c.in_ok-disk-2.disk) c.kind_of.ensures c.in_ok-disk.ensures.ok
    (outside_either (any_formats c.args.changes.now) _ _ c.in_ok-disk-2.ensures.outside) c.saved.ensures.ok

pub returns-clause-bytes : goal.returns-clause-bytes
returns-clause-bytes c = λ none. bytes_if (λ v. v.items) c.saved.result c.args.image.now c.kind_of.result (any_seen c.in_ok-disk.disk) (any_seen c.in_ok-disk-2.disk) c.kind_of.ensures c.in_ok-disk.ensures.ok
    (outside_none (any_formats c.args.changes.now) _ _ none c.in_ok-disk-2.ensures.outside) c.saved.ensures.ok
