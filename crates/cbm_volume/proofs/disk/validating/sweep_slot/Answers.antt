use Rattle.std.proofs.Common.{rules, inl, inr}
use Rattle.std.proofs.lemmas.Result.{err_from_is_err_and}
use Rattle.cbm_medium.proofs.Sequences.{only_nothing}
use Rattle.cbm_directory.proofs.Codes.{directory_never_26, directory_shown}
use Rattle.cbm_volume.proofs.mended.Walked.{no_break, slot_past, slot_stays, slot_cleared, slot_hindered}
use Rattle.cbm_volume.proofs.disk.validating.sweep_slot.Goals as goal
use Rattle.cbm_volume.proofs.disk.validating.sweep_slot.Goals.{then-is_closed-via-then-is_closed, then-is_closed-via-else-is_closed+then-is_empty}

pub returns-in_err-entry-clause-cause : goal.returns-in_err-entry-clause-cause
returns-in_err-entry-clause-cause g c = λ xs h. absurd (no_break c.args.geometry (g.M.Medium.seen c.args.medium.now).content xs c.args.number c.in_err-entry.field-0.0 h c.in_err-entry.ensures)

-- what breaks the directory off is never told as protection
pub returns-in_err-entry-clause-only : goal.returns-in_err-entry-clause-only
returns-in_err-entry-clause-only g c =
    let p = err_from_is_err_and c.from_residual.result c.from_residual.ensures.1 in
    only_nothing c.from_residual.result (g.M.Medium.seen c.args.medium.now) (g.M.Medium.seen c.args.medium.now) (λ i. g.M.Medium.seen c.args.medium.now)
    (rw (p.1, p.2) (λ is. absurd (directory_never_26 c.args.geometry (g.M.Medium.seen c.args.medium.now).content c.in_err-entry.field-0.0 (λ q. g.met.M.Medium.codes c.args.medium.now q) c.in_err-entry.ensures.1 is)))
    (rw (p.1, p.2) (directory_shown c.args.geometry (g.M.Medium.seen c.args.medium.now) c.in_err-entry.field-0.0 c.in_err-entry.ensures.1))

pub returns-in_default-clause-swept : goal.returns-in_default-clause-swept
returns-in_default-clause-swept g c = slot_past c.args.geometry (g.M.Medium.seen c.args.medium.now).content c.args.number c.in_ok-entry.field-0 c.in_default.is c.in_ok-entry.ensures

-- it stays, closed or empty
pub returns-then-is_closed-clause-swept : goal.returns-then-is_closed-clause-swept
returns-then-is_closed-clause-swept g c = slot_stays c.args.geometry (g.M.Medium.seen c.args.medium.now).content c.args.number c.in-Some.entry (search rules)
    (elim c.then-is_closed.branch [ then-is_closed-via-then-is_closed w ↦ inl (search rules) | then-is_closed-via-else-is_closed+then-is_empty w ↦ inr (search rules) ])

pub returns-clause-swept : goal.returns-clause-swept
returns-clause-swept g c = slot_cleared c.args.geometry (g.M.Medium.seen c.args.medium.now).content (g.M.Medium.seen c.clear_slot.new.medium).content c.args.number c.in-Some.entry c.clear_slot.result (search rules) (search rules) c.clear_slot.ensures.cleared

pub returns-clause-cause : goal.returns-clause-cause
returns-clause-cause g c = slot_hindered c.args.geometry (g.M.Medium.seen c.args.medium.now) (g.M.Medium.seen c.clear_slot.new.medium) c.args.number c.in-Some.entry c.clear_slot.result (search rules) c.clear_slot.ensures.cause
