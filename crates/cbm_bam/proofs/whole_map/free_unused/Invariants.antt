use Rattle.std.proofs.Common.{ℕ, ◌≤◌, List}
use Rattle.cbm_bam.specs.Marks.{is_marked}
use Rattle.cbm_bam.specs.WrittenAnew.{IsAnew}
use Rattle.cbm_bam.proofs.whole_map.free_unused.Given as goal

abbrev pub invariant-loop-sector : goal.invariant-loop-sector
invariant-loop-sector l = (tracks : ℕ) (old : List ℕ) → l.track ≤ tracks → tracks ≤ 40 → IsAnew tracks old l.fn.map (is_marked l.used) l.track 0 → IsAnew tracks old l.map (is_marked l.used) l.track l.sector
