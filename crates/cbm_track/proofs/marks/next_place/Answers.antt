use Rattle.std.proofs.Common.{◌∙◌, ap, sym, arith, Some}
use Rattle.cbm_track.proofs.Tens.{mark_is, mark_next, mark_never, mark_full}
use Rattle.cbm_track.proofs.marks.next_place.Goals as goal

pub returns-in_default-clause-value : goal.returns-in_default-clause-value
returns-in_default-clause-value c = sym (mark_never c.args.track.now c.args.from c.ten_before-start.result (omega arith) c.ten_before-start.ensures.value c.in_default.ensures.value)

pub returns-then-run-bits-clause-value : goal.returns-then-run-bits-clause-value
returns-then-run-bits-clause-value c = sym (mark_full c.args.track.now c.args.from c.wrapped-at.result c.wrapped-at.ensures.below (λ j l. c.run_at-run.ensures.ones j (omega arith)))

pub returns-clause-value : goal.returns-clause-value
returns-clause-value c =
    ap Some c.wrapped.ensures.value
    ∙ sym (mark_next c.args.track.now c.args.from c.in-Some.far c.wrapped-at.result c.run_at-run.result
    (mark_is c.args.track.now c.args.from c.ten_before-start.result c.in-Some.far c.wrapped-at.result c.run_at-run.result (omega arith) c.ten_before-start.ensures.value c.in-Some.ensures.value c.wrapped-at.ensures.value c.run_at-run.ensures.ones)
    (c.run_at-run.ensures.zero (omega arith)))
