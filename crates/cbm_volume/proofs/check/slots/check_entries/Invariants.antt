use Rattle.std.proofs.Common.{Bool}
use Rattle.cbm_medium.specs.Place.{Place}
use Rattle.cbm_bam.specs.Marks.{is_marked}
use Rattle.cbm_volume.specs.check.SlotWalk.{ClaimsEntries, EntriesFault, entries_after, entries_in}
use Rattle.cbm_volume.specs.declared.check.unsound.Unsound.{Unsound}
use Rattle.cbm_volume.proofs.check.slots.check_entries.Given as goal

-- what is still to be claimed, or met, makes the whole
abbrev pub invariant-loop-number : goal.invariant-loop-number
invariant-loop-number g l = record {
  forth : (after : Place → Bool) → ClaimsEntries l.fn.geometry (g.M.Medium.seen l.medium).content (is_marked l.claimed) (entries_after l.number l.sector) after
      → ClaimsEntries l.fn.geometry (g.M.Medium.seen l.medium).content (is_marked l.fn.claimed) (entries_in l.sector) after;
  faulty : (u : Unsound) → EntriesFault l.fn.geometry (g.M.Medium.seen l.medium).content (is_marked l.claimed) l.fn.at (entries_after l.number l.sector) u
      → EntriesFault l.fn.geometry (g.M.Medium.seen l.medium).content (is_marked l.fn.claimed) l.fn.at (entries_in l.sector) u;
}
