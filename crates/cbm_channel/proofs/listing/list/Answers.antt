use Rattle.std.proofs.Common.{ap, subst}
use Rattle.std.specs.Prelude.{Ok}
use Rattle.cbm_listing.specs.Listed.{ListedBytes}
use Rattle.cbm_directory.specs.Slots.{Gives, listed_left}
use Rattle.cbm_volume.specs.Holding.{TellsOf}
use Rattle.cbm_channel.proofs.ListedLines.{listed_all, never_broken}
use Rattle.cbm_channel.proofs.listing.list.Goals as goal

pub returns-in_err-entry-clause-whole : goal.returns-in_err-entry-clause-whole
returns-in_err-entry-clause-whole g c = λ d h.
    let tells = subst (TellsOf d) c.slots-slots.ensures.left (c.slots-slots.ensures.means d h) in
    absurd (never_broken _ _ d _ _ _ _ c.in_err-entry.field-0.0 tells c.slots.invariant.1 c.in_err-entry.ensures.gives.0)

pub returns-clause-whole : goal.returns-clause-whole
returns-clause-whole g c = λ d h.
    let tells = subst (TellsOf d) c.slots-slots.ensures.left (c.slots-slots.ensures.means d h) in
    let label = c.in_ok-label.ensures.means d h in
    let end = subst (λ r. Gives (listed_left (g.M.Medium.seen c.args.volume.now).content c.slots.slots) (listed_left (g.M.Medium.seen c.args.volume.now).content c.next_slot.new.slots) (Ok r)) c.in_default.is c.in_ok-entry.ensures.gives in
    listed_all _ _ _ _ c.in_ok-free.free d _ _ _ c.slots.listing c.finish.new.self tells (ap (λ (l : ListedBytes). l.bytes) c.begin-listing.ensures.value)
    label.0 label.1 (c.in_ok-free.ensures.means d h) c.slots.invariant.1 end.0 c.finish.ensures.value
