use Rattle.std.proofs.Common.{◌==◌, length, slice_index, sym, ◌∙◌}
use Rattle.std.proofs.lemmas.Bool.{ne_eqb}
use Rattle.cbm_sources.proofs.LynxLemmas.{first_passed}
use Rattle.cbm_sources.proofs.lines.line_end.Goals as goal

pub loop-place-preserved : goal.loop-place-preserved
loop-place-preserved c =
    sym (first_passed (λ k. slice_index c.args.bytes.now k == 13) (length c.args.bytes.now) c.loop-place.place c.loop-place-test.true
    (ne_eqb (slice_index c.args.bytes.now c.loop-place.place) 13 c.if-bytes-place-eq-RETURN.false))
    ∙ c.loop-place.invariant
