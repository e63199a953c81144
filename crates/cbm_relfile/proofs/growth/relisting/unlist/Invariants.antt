use Rattle.std.proofs.Common.{◌≡◌, ◌-◌, List, length, Ok}
use Rattle.cbm_medium.specs.Place.{Place}
use Rattle.cbm_medium.specs.Seen.{OnlyContent}
use Rattle.cbm_medium.specs.declared.fault.Trouble.{Trouble}
use Rattle.cbm_relfile.specs.Records.{AllWhole, Relative, IsLaid}
use Rattle.cbm_relfile.specs.Relisting.{NamesSides, AreApart}
use Rattle.cbm_relfile.proofs.Relisted.{Unlisting}
use Rattle.cbm_relfile.proofs.growth.relisting.unlist.Given as goal

-- the side sectors from here on list nothing
abbrev pub invariant-loop-passed : goal.invariant-loop-passed
invariant-loop-passed g l =
    OnlyContent {A = Unit {0}} l.geometry (Ok tt) (g.M.Medium.seen l.initial.medium) (g.M.Medium.seen l.medium)
    × ((file : Relative) (xs ss : List Place) → AllWhole (g.M.Medium.seen l.initial.medium).content → IsLaid l.geometry (g.M.Medium.seen l.initial.medium).content file xs ss → AreApart xs ss → NamesSides l.head ss → length ss ≡ l.sides
    → Unlisting l.geometry (g.M.Medium.seen l.initial.medium).content (g.M.Medium.seen l.medium).content file xs ss (l.sides - l.passed))
