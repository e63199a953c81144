use Rattle.std.proofs.Common.{rules, ◌≡◌, ℕ, ◌<◌, ◌≤◌, ◌+◌, ◌*◌, ◌%◌, ◌↔◌, false, length, slice_index_or, IfSome, IsSome, ◌-◌, ◌/◌, Bool, true, nat_eq, nat_lt, List, [], ◌∷◌, ◌++◌, slice_set, bit_and, bit_or, Fits, w8, w32, w64, Bor, MutBor}
use Rattle.cbm_track.specs.Circle.{circle_bits_of, circle_bit, is_clear, next_block, stretch}
use Rattle.cbm_track.proofs.track.Track.from_bytes.Goals as goal

pub returns-then-is_empty-clause-some : goal.returns-then-is_empty-clause-some
returns-then-is_empty-clause-some c = search rules

pub returns-then-is_empty-clause-which : goal.returns-then-is_empty-clause-which
returns-then-is_empty-clause-which c = search rules

pub returns-in_err-ok-clause-some : goal.returns-in_err-ok-clause-some
returns-in_err-ok-clause-some c = search rules

pub returns-in_err-ok-clause-which : goal.returns-in_err-ok-clause-which
returns-in_err-ok-clause-which c = search rules

pub returns-clause-some : goal.returns-clause-some
returns-clause-some c = search rules

pub returns-clause-which : goal.returns-clause-which
returns-clause-which c = search rules
