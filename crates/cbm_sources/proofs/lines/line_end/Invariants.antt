use Rattle.std.proofs.Common.{◌≡◌, ◌-◌, ◌==◌, length, slice_index}
use Rattle.cbm_sources.specs.Lynxes.{first_where, line_end}
use Rattle.cbm_sources.proofs.lines.line_end.Given as goal

abbrev pub invariant-loop-place : goal.invariant-loop-place
invariant-loop-place l = first_where (λ k. slice_index l.bytes k == 13) (length l.bytes - l.place) l.place ≡ line_end l.bytes l.fn.at
