use Rattle.std.proofs.Common.{◌≡◌, ℕ, ◌+◌, ◌<◌, get_or, length, []}
use Rattle.cbm_sector.specs.Fresh.{fresh}
use Rattle.cbm_g64.proofs.copying.fresh_tracks.Given as goal

abbrev pub invariant-loop-track : goal.invariant-loop-track
invariant-loop-track l = record { count : length l.tracks.items + 1 ≡ l.track; fresh : (j : ℕ) → j + 1 < l.track → get_or l.tracks.items j [] ≡ fresh (j + 1) l.id }
