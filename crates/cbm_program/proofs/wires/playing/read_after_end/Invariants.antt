use Rattle.std.proofs.Common.{ℕ, ◌-◌, ◌≤◌, Option}
use Rattle.bus_traces.specs.Lines.{source_bytes_left}
use Rattle.cbm_program.specs.TimedReading.{IsBadAfter}
use Rattle.cbm_program.proofs.wires.playing.read_after_end.Given as goal

-- the lines so far are skipped
abbrev pub invariant-lines : goal.invariant-lines
invariant-lines g l =
    ((bad : Option ℕ) → IsBadAfter (source_bytes_left g.R.Read.remaining l.lines) l.number bad → IsBadAfter (source_bytes_left g.R.Read.remaining l.initial.lines) l.fn.first bad) × (l.number ≤ 1000001)

abbrev pub decreases-lines : goal.decreases-lines
decreases-lines g l = 1000001 - l.number
