use Rattle.std.proofs.Common.{◌≡◌, ℕ, ◌<◌, List, [], length, Ok}
use Rattle.cbm_medium.specs.Place.{Place}
use Rattle.cbm_medium.specs.Seen.{OnlyContent}
use Rattle.cbm_relfile.specs.Records.{AllWhole, Relative, IsLaid}
use Rattle.cbm_relfile.specs.Relisting.{lists_at, NamesSides, AreApart}
use Rattle.cbm_relfile.proofs.Relisted.{Relisting}
use Rattle.cbm_relfile.proofs.growth.relisting.relist.Given as goal

-- the side sectors so far list their blocks
abbrev pub invariant-loop-number : goal.invariant-loop-number
invariant-loop-number g l =
    OnlyContent {A = Unit {0}} l.geometry (Ok tt) (g.M.Medium.seen l.initial.medium) (g.M.Medium.seen l.medium)
    × ((file : Relative) (xs ss : List Place) → AllWhole (g.M.Medium.seen l.initial.medium).content → IsLaid l.geometry (g.M.Medium.seen l.initial.medium).content file xs ss → AreApart xs ss → l.initial.at ≡ file.first → NamesSides l.head ss → length ss ≡ l.sides
    → ((i : ℕ) → i < length ss → lists_at (g.M.Medium.seen l.initial.medium).content ss i ≡ [])
    → Relisting l.geometry (g.M.Medium.seen l.initial.medium).content (g.M.Medium.seen l.medium).content file xs ss l.number l.at)
