use Rattle.std.proofs.Common.{◌≡◌, ◌-◌, ◌++◌, filter}
use Rattle.cbm_sources.specs.Tapes.{is_used, records_from, tape_record_count, used_records}
use Rattle.cbm_sources.proofs.tape.used_records.Given as goal

abbrev pub invariant-loop-number : goal.invariant-loop-number
invariant-loop-number l =
    l.records.items ++ filter is_used (records_from (tape_record_count l.bytes - l.number) l.bytes l.number) ≡ used_records l.bytes
