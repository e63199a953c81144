use Rattle.std.proofs.Common.{not, length, slice_index, ap, sym, ◌∙◌}
use Rattle.cbm_sources.specs.Lynxes.{is_numeric}
use Rattle.cbm_sources.proofs.LynxLemmas.{first_passed}
use Rattle.cbm_sources.proofs.lines.number_end.Goals as goal

pub loop-place-preserved : goal.loop-place-preserved
loop-place-preserved c =
    sym (first_passed (λ k. not (is_numeric (slice_index c.args.bytes.now k))) (length c.args.bytes.now) c.loop-place.place c.loop-place-test.true
    (ap not (sym c.is_numeric.ensures ∙ c.if-not-is_numeric.false)))
    ∙ c.loop-place.invariant
