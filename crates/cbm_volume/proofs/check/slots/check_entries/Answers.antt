use Rattle.std.proofs.Common.{rules, ◌+◌, List, ℕ, refl, sym, subst}
use Rattle.cbm_bam.specs.Marks.{is_marked}
use Rattle.cbm_volume.specs.check.SlotWalk.{ClaimsEntries, entries_after}
use Rattle.cbm_volume.proofs.checked.SlotSteps.{entries_next, entries_end, entries_step, fault_step, fault_here}
use Rattle.cbm_volume.proofs.check.slots.check_entries.Goals as goal

pub returns-in_err-check_entry-clause-err : goal.returns-in_err-check_entry-clause-err
returns-in_err-check_entry-clause-err g c =
    let named = entries_next c.loop-number.number c.args.sector.now c.of-entry.result c.loop-number-test.true c.of-entry.ensures in
    let w = c.loop-number.invariant.faulty c.in_err-check_entry.field-0.0
    (fault_here c.args.geometry (g.M.Medium.seen c.args.medium.now).content (is_marked c.loop-number.claimed) c.args.at c.in_err-check_entry.field-0.0 c.of-entry.result
    (entries_after c.loop-number.number c.args.sector.now) (entries_after (c.loop-number.number + 1) c.args.sector.now) named c.in_err-check_entry.ensures.err) in
    search rules

pub loop-number-preserved : goal.loop-number-preserved
loop-number-preserved g c =
    let named = entries_next c.loop-number.number c.args.sector.now c.of-entry.result c.loop-number-test.true c.of-entry.ensures in
    let whole : List (List ℕ) = entries_after c.loop-number.number c.args.sector.now in
    let rest : List (List ℕ) = entries_after (c.loop-number.number + 1) c.args.sector.now in record {
      forth = λ after w. c.loop-number.invariant.forth after (entries_step c.args.geometry (g.M.Medium.seen c.args.medium.now).content (is_marked c.loop-number.claimed) (is_marked c.check_entry.new.claimed) after c.of-entry.result whole rest named c.in_ok-check_entry.ensures.ok w);
      faulty = λ u w. c.loop-number.invariant.faulty u (fault_step c.args.geometry (g.M.Medium.seen c.args.medium.now).content (is_marked c.loop-number.claimed) (is_marked c.check_entry.new.claimed) c.args.at u c.of-entry.result whole rest named c.in_ok-check_entry.ensures.ok w);
    }

pub returns-clause-ok : goal.returns-clause-ok
returns-clause-ok g c = c.loop-number.invariant.forth (is_marked c.loop-number.claimed)
    (subst (λ (es : List (List ℕ)). ClaimsEntries c.args.geometry (g.M.Medium.seen c.args.medium.now).content (is_marked c.loop-number.claimed) es (is_marked c.loop-number.claimed))
    (sym (entries_end c.loop-number.number c.args.sector.now c.loop-number-test.false)) refl)
