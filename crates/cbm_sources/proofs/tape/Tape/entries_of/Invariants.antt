use Rattle.std.proofs.Common.{◌≡◌, map, take}
use Rattle.cbm_sources.specs.Tapes.{tape_entry}
use Rattle.cbm_sources.proofs.tape.Tape.entries_of.Given as goal

abbrev pub invariant-loop-record : goal.invariant-loop-record
invariant-loop-record l = l.entries.items ≡ map (tape_entry l.self) (take l.record-index l.records)
