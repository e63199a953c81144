use Rattle.std.proofs.Common.{◌≡◌, ◌-◌, length}
use Rattle.cbm_sources.specs.Lynxes.{first_where, ends_program}
use Rattle.cbm_sources.proofs.lines.text_start.Given as goal

abbrev pub invariant-loop-place : goal.invariant-loop-place
invariant-loop-place l = first_where (ends_program l.bytes) (length l.bytes - 3 - l.place) l.place ≡ first_where (ends_program l.bytes) (length l.bytes - 3) 0
