use Rattle.std.proofs.Common.{◌≡◌, ◌-◌, ap, sym, subst, ◌∙◌, arith, Some, []}
use Rattle.std.proofs.lemmas.Result.{err_from_is_err_and}
use Rattle.cbm_medium.specs.Place.{Place}
use Rattle.cbm_bam.specs.Marks.{is_marked}
use Rattle.cbm_salvage.specs.Trails.{follow_once}
use Rattle.cbm_salvage.proofs.TrailLemmas.{once_off, once_full, once_again, once_fault, once_next, cut_told}
use Rattle.cbm_salvage.proofs.trail.enter.Goals.{then-left-eq0-via-then-left-eq0, then-left-eq0-via-else-left-eq0+then-has}
use Rattle.cbm_salvage.proofs.trail.enter.Goals as goal

pub returns-in_default-clause-err : goal.returns-in_default-clause-err
returns-in_default-clause-err g c =
    cut_told _ 66 c.args.at _ (once_off c.args.geometry (g.M.Medium.seen c.args.medium.now).content c.args.left (is_marked c.args.seen.now) c.args.at c.requires.going (λ h. c.in_default.ensures h))
    c.trouble.ensures

pub returns-then-left-eq0-clause-err : goal.returns-then-left-eq0-clause-err
returns-then-left-eq0-clause-err g c =
    let content = (g.M.Medium.seen c.args.medium.now).content in
    elim c.then-left-eq0.branch [
      | then-left-eq0-via-then-left-eq0 w ↦ cut_told _ 71 c.args.at _
          (once_full c.args.geometry content c.args.left (is_marked c.args.seen.now) c.args.at c.requires.going c.in-Some.ensures.0 (omega arith)) c.trouble-then-left-eq0.ensures
      | then-left-eq0-via-else-left-eq0+then-has w ↦ cut_told _ 71 c.args.at _
          (once_again c.args.geometry content c.args.left (is_marked c.args.seen.now) c.args.at c.requires.going c.in-Some.ensures.0
          (ap (is_marked c.args.seen.now) (sym c.in-Some.ensures.1) ∙ sym w.has.ensures ∙ w.if-has.true)) c.trouble-then-left-eq0.ensures
    ]

pub returns-in_err-bytes-clause-err : goal.returns-in_err-bytes-clause-err
returns-in_err-bytes-clause-err g c =
    let content = (g.M.Medium.seen c.args.medium.now).content in
    let p = err_from_is_err_and c.from_residual.result c.from_residual.ensures.1 in
    rw (p.1, p.2)
    (subst (λ (x : Place). follow_once c.args.geometry content c.args.left (is_marked c.args.seen.now) c.args.at
    ≡ record { blocks = []; trouble = Some (record { code = c.in_err-bytes.field-0.0.code; track = x.track; sector = x.sector }) })
    (sym (c.in_err-bytes.ensures.err.1 ∙ c.in-Some.ensures.1))
    (once_fault c.args.geometry content c.args.left (c.args.left - 1) (is_marked c.args.seen.now) c.args.at c.in_err-bytes.field-0.0.code c.requires.going c.in-Some.ensures.0
    (ap (is_marked c.args.seen.now) (sym c.in-Some.ensures.1) ∙ sym c.has.ensures ∙ c.if-has.false) (omega (arith, c.if-left-eq0.false))
    (ap content (sym c.in-Some.ensures.1) ∙ c.in_err-bytes.ensures.err.0)))

pub returns-clause-ok : goal.returns-clause-ok
returns-clause-ok g c =
    let content = (g.M.Medium.seen c.args.medium.now).content in
    let step = once_next c.args.geometry content c.args.left (c.args.left - 1) (is_marked c.args.seen.now) c.args.at c.in_ok-bytes.bytes c.requires.going c.in-Some.ensures.0
    (ap (is_marked c.args.seen.now) (sym c.in-Some.ensures.1) ∙ sym c.has.ensures ∙ c.if-has.false) (omega (arith, c.if-left-eq0.false))
    (ap content (sym c.in-Some.ensures.1) ∙ c.in_ok-bytes.ensures.ok) in
    rw (c.insert.ensures, c.in-Some.ensures.1) step
