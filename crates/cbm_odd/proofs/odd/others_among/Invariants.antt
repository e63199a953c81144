use Rattle.std.proofs.Common.{◌≡◌, ◌++◌, drop}
use Rattle.cbm_odd.specs.Odd.{others_among}
use Rattle.cbm_odd.proofs.odd.others_among.Given as goal

abbrev pub invariant-loop-entry : goal.invariant-loop-entry
invariant-loop-entry l =
    (l.out.items ++ others_among l.odds l.slot (drop l.entry-index l.entries) ≡ others_among l.odds 0 l.entries) × (l.slot ≡ l.entry-index)
