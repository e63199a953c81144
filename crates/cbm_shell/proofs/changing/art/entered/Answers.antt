use Rattle.std.proofs.Common.{subst}
use Rattle.cbm_directory.specs.Empties.{TakesSlot}
use Rattle.cbm_shell.proofs.SlotLemmas.{search_at, put_after_at}
use Rattle.cbm_shell.proofs.changing.art.entered.Goals as goal

pub returns-in_err-slot-clause-never : goal.returns-in_err-slot-clause-never
returns-in_err-slot-clause-never g c = λ can.
    absurd (search_at g.M.Medium.seen c.args.volume c.into_medium-medium.result c.empty_slot.new.medium c.geometry-geometry.result c.in_err-slot.field-0.0
    (λ m. g.met.M.Steady.steady m) c.into_medium-medium.ensures c.geometry-geometry.ensures.value can c.in_err-slot.ensures.cause)

pub returns-in_err-put_slot-clause-never : goal.returns-in_err-put_slot-clause-never
returns-in_err-put_slot-clause-never g c = λ can.
    let seen = g.M.Medium.seen in
    let takes = subst (λ o. TakesSlot c.geometry-geometry.result (seen c.into_medium-medium.result).content (seen c.empty_slot.new.medium).content o) c.in-Some.is c.in_ok-slot.ensures.taken in
    absurd (put_after_at seen c.args.volume c.into_medium-medium.result c.empty_slot.new.medium c.put_slot.new.medium c.geometry-geometry.result c.in-Some.slot c.in_err-put_slot.field-0.0
    (λ m. g.met.M.Steady.steady m) c.into_medium-medium.ensures c.geometry-geometry.ensures.value can takes c.empty_slot.ensures.only.protected c.in_err-put_slot.ensures.cause)
