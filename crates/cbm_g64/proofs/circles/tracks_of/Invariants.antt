use Rattle.std.proofs.Common.{◌≡◌}
use Rattle.cbm_g64.specs.File.{g64_circles}
use Rattle.cbm_g64.proofs.circles.tracks_of.Given as goal

abbrev pub invariant-loop-i : goal.invariant-loop-i
invariant-loop-i l = l.tracks.items ≡ g64_circles l.file l.i
