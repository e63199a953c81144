use Rattle.std.proofs.Common.{ap, subst, sym, ◌∙◌, inl, inr, Err}
use Rattle.std.proofs.lemmas.Result.{err_from_is_err_and}
use Rattle.cbm_shell.specs.Images.{OfHeld, IsFailed, machine_on}
use Rattle.cbm_image.specs.Images.{OpensAgain, KeepsOtherBytes, ChangesSectors}
use Rattle.cbm_odd.proofs.ChangeLemmas.{changed_around, not_changed, again_around, bytes_around}
use Rattle.cbm_odd.proofs.changing.change.Goals as goal

pub returns-in_err-changed-clause-fault : goal.returns-in_err-changed-clause-fault
returns-in_err-changed-clause-fault c =
    let p = err_from_is_err_and c.from_residual-in_err-changed.result c.from_residual-in_err-changed.ensures.1 in
    let f = c.in_err-changed.field-0.0 in
    rw (p.1 ∙ ap Err p.2) (inr (
      c.in_ok-away.away,
      c.in_ok-away.ensures.away,
      inl (subst (λ xs. OfHeld xs (λ d. IsFailed xs c.args.change.now (machine_on xs d) f)) c.as_slice.ensures.value c.in_err-changed.ensures.made),
    ))

pub returns-clause-made : goal.returns-clause-made
returns-clause-made c =
    changed_around (λ v. v.items) c.put_back.result c.args.image.now c.args.change.now c.in_ok-away.away c.in_ok-changed.changed.items c.as_slice.result.now c.as_slice-2.result.now c.as_slice-3.result.now
    c.in_ok-away.ensures.away c.as_slice.ensures.value c.as_slice-2.ensures.value c.as_slice-3.ensures.value c.in_ok-changed.ensures.made c.put_back.ensures.back

pub returns-clause-fault : goal.returns-clause-fault
returns-clause-fault c =
    not_changed c.put_back.result c.args.image.now c.args.change.now c.in_ok-away.away c.in_ok-changed.changed.items c.as_slice.result.now c.as_slice-2.result.now c.as_slice-3.result.now
    c.in_ok-away.ensures.away c.as_slice.ensures.value c.as_slice-2.ensures.value c.as_slice-3.ensures.value c.in_ok-changed.ensures.made c.put_back.ensures.fault

pub returns-clause-opens : goal.returns-clause-opens
returns-clause-opens c =
    again_around (λ v. v.items) c.put_back.result c.args.image.now c.as_slice.result.now c.as_slice-3.result.now
    (subst (λ xs. ChangesSectors c.args.image.now xs) (sym c.as_slice.ensures.value) c.in_ok-away.ensures.opens)
    (subst (λ xs. OpensAgain c.as_slice.result.now xs) (sym c.as_slice-3.ensures.value) c.in_ok-changed.ensures.opens) c.put_back.ensures.opens

pub returns-clause-bytes : goal.returns-clause-bytes
returns-clause-bytes c = λ plain.
    bytes_around (λ v. v.items) c.put_back.result c.args.image.now c.as_slice.result.now c.as_slice-3.result.now
    (subst (λ xs. ChangesSectors c.args.image.now xs) (sym c.as_slice.ensures.value) c.in_ok-away.ensures.opens)
    (subst (λ xs. OpensAgain c.as_slice.result.now xs) (sym c.as_slice-3.ensures.value) c.in_ok-changed.ensures.opens)
    (subst (λ xs. KeepsOtherBytes c.as_slice.result.now xs) (sym c.as_slice-3.ensures.value) (c.in_ok-changed.ensures.bytes plain)) c.put_back.ensures.opens
