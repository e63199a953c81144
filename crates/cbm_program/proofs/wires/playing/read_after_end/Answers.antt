use Rattle.std.proofs.Common.{◌∙◌, ◌≤◌, length, ap, subst, Err, None, arith, sym}
use Rattle.std.proofs.lemmas.Result.{err_from_is_err_and}
use Rattle.bus_traces.specs.Lines.{source_bytes_left}
use Rattle.cbm_program.specs.Timed.{timed_of, timed_after, is_skipped}
use Rattle.cbm_program.proofs.TimedLines.{stands, after_skipped, after_another, after_none_left, after_faulted}
use Rattle.cbm_program.proofs.wires.playing.read_after_end.Goals as goal

pub returns-in_err-next_line : goal.returns-in_err-next_line
returns-in_err-next_line g c =
    let p = err_from_is_err_and c.from_residual.result c.from_residual.ensures.1 in
    let left = source_bytes_left g.R.Read.remaining in
    after_faulted (left c.lines.lines) (left c.next_line.new.lines) (left c.args.lines.now) c.lines.number c.args.first c.next_line.new.bytes.items c.from_residual.result _ c.lines.invariant.0 c.in_err-next_line.ensures (p.1 ∙ ap Err p.2)

pub lines-preserved : goal.lines-preserved
lines-preserved g c =
    let left = source_bytes_left g.R.Read.remaining in
    let read = rw c.if-branch.true at c.in_ok-next_line.ensures in
    let few = read.1 in
    let may = stands c.lines.number c.next_line.new.bytes.items (omega (arith, few)) (subst (λ l. length l ≤ 1000) c.as_slice.ensures.value c.as_slice.ensures.fits) in (
      (λ bad h. c.lines.invariant.0 bad (after_skipped (left c.lines.lines) (left c.next_line.new.lines) c.lines.number c.next_line.new.bytes.items bad read.0 may (ap (λ l. is_skipped (timed_after 0 (timed_of l))) (sym c.as_slice.ensures.value) ∙ sym c.is_skipped.ensures ∙ c.if-not-is_skipped.false) h)),
      omega (arith, few),
    )

pub returns : goal.returns
returns g c = c.lines.invariant.0 None (after_none_left (source_bytes_left g.R.Read.remaining c.lines.lines) c.lines.number (rw c.if-branch.false at c.in_ok-next_line.ensures))

pub returns-then-not-is_skipped : goal.returns-then-not-is_skipped
returns-then-not-is_skipped g c =
    let left = source_bytes_left g.R.Read.remaining in
    let read = rw c.if-branch.true at c.in_ok-next_line.ensures in
    let few = read.1 in
    let may = stands c.lines.number c.next_line.new.bytes.items (omega (arith, few)) (subst (λ l. length l ≤ 1000) c.as_slice.ensures.value c.as_slice.ensures.fits) in
    c.lines.invariant.0 _ (after_another (left c.lines.lines) (left c.next_line.new.lines) c.lines.number c.next_line.new.bytes.items read.0 may (ap (λ l. is_skipped (timed_after 0 (timed_of l))) (sym c.as_slice.ensures.value) ∙ sym c.is_skipped.ensures ∙ c.if-not-is_skipped.true))
