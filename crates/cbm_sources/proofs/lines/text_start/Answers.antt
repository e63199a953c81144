use Rattle.std.proofs.Common.{◌<◌, ◌-◌, ℕ, length, subst, sym, ◌∙◌}
use Rattle.cbm_sources.specs.Lynxes.{ends_program}
use Rattle.cbm_sources.proofs.LynxLemmas.{first_passed}
use Rattle.cbm_sources.proofs.lines.text_start.Goals as goal

pub loop-place-preserved : goal.loop-place-preserved
loop-place-preserved c =
    sym (first_passed (ends_program c.args.bytes.now) (length c.args.bytes.now - 3) c.loop-place.place
    (subst (λ (n : ℕ). c.loop-place.place < n) c.saturating_sub-place-end.ensures c.loop-place-test.true) (sym c.ends_program.ensures ∙ c.if-ends_program.false))
    ∙ c.loop-place.invariant
