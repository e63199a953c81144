use Rattle.std.proofs.Common.{◌≡◌, ℕ, ◌<◌, true}
use Rattle.cbm_shell.specs.Converting.{is_plain_table}
use Rattle.cbm_shell.proofs.images.converting.has_more_tracks.Given as goal

abbrev pub invariant-loop-entry : goal.invariant-loop-entry
invariant-loop-entry l = (j : ℕ) → j < l.entry → is_plain_table l.file j ≡ true
