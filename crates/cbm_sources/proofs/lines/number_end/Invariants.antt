use Rattle.std.proofs.Common.{◌≡◌, ◌-◌, not, length, slice_index}
use Rattle.cbm_sources.specs.Lynxes.{first_where, number_end, is_numeric}
use Rattle.cbm_sources.proofs.lines.number_end.Given as goal

abbrev pub invariant-loop-place : goal.invariant-loop-place
invariant-loop-place l = first_where (λ k. not (is_numeric (slice_index l.bytes k))) (length l.bytes - l.place) l.place ≡ number_end l.bytes l.fn.at
