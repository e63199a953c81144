use Rattle.std.proofs.Common.{◌≡◌, ◌≤◌, take}
use Rattle.cbm_sources.specs.Tapes.{trimmed}
use Rattle.cbm_sources.proofs.record.trimmed.Given as goal

abbrev pub invariant-loop-i : goal.invariant-loop-i
invariant-loop-i l = record {
  front : take l.end l.name ≡ trimmed (take l.i l.name);
  inside : l.end ≤ l.i;
}
