use Rattle.std.proofs.Common.{◌≡◌, drop}
use Rattle.cbm_sources.specs.Tapes.{limit_after}
use Rattle.cbm_sources.proofs.tape.limit_after.Given as goal

abbrev pub invariant-loop-record : goal.invariant-loop-record
invariant-loop-record l = limit_after l.from l.limit (drop l.record-index l.records) ≡ limit_after l.from l.end l.records
