use Rattle.std.proofs.Common.{◌≡◌, ◌++◌, drop}
use Rattle.cbm_odd.specs.Odd.{odds_among}
use Rattle.cbm_odd.proofs.odd.odds_among.Given as goal

abbrev pub invariant-loop-entry : goal.invariant-loop-entry
invariant-loop-entry l =
    (l.out.items ++ odds_among l.flaws l.slot (drop l.entry-index l.entries) ≡ odds_among l.flaws 0 l.entries) × (l.slot ≡ l.entry-index)
