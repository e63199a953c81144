use Rattle.std.proofs.Common.{◌≡◌, ◌-◌, ◌⊎◌, true, false}
use Rattle.cbm_medium.specs.Place.{Place}
use Rattle.cbm_bam.specs.Marks.{is_marked}
use Rattle.cbm_volume.specs.Loose.{IsOffLinks, IsOnLinks}
use Rattle.cbm_volume.proofs.loose.sparing.insert_linked.Given as goal

-- what is off the links that are left, and isn't marked, is off all of them; what is on those that are left is on one of all
abbrev pub invariant-loop-passed : goal.invariant-loop-passed
invariant-loop-passed g l = record {
  off : (p : Place) → is_marked l.set p ≡ false → IsOffLinks l.geometry (g.M.Medium.seen l.medium).content (l.most - l.passed) l.at p
      → IsOffLinks l.geometry (g.M.Medium.seen l.medium).content l.most l.fn.first p;
  keeps : (p : Place) → is_marked l.set p ≡ false → is_marked l.fn.set p ≡ false;
  on : (p : Place) → IsOnLinks l.geometry (g.M.Medium.seen l.medium).content (l.most - l.passed) l.at p → IsOnLinks l.geometry (g.M.Medium.seen l.medium).content l.most l.fn.first p;
  only : (p : Place) → is_marked l.set p ≡ true → (is_marked l.fn.set p ≡ true) ⊎ IsOnLinks l.geometry (g.M.Medium.seen l.medium).content l.most l.fn.first p;
}
