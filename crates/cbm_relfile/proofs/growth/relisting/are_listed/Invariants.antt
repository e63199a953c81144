use Rattle.std.proofs.Common.{◌≡◌, ℕ, ◌*◌, ◌<◌, true, List, take, drop, length}
use Rattle.cbm_medium.specs.Place.{Place}
use Rattle.cbm_medium.specs.Links.{Chain}
use Rattle.cbm_relfile.specs.Records.{Relative, IsLaid}
use Rattle.cbm_relfile.specs.Relisting.{SidesRead, lists_at, NamesSides, AreInForm}
use Rattle.cbm_relfile.proofs.growth.relisting.are_listed.Given as goal

-- the side sectors so far list their blocks, where all were right, and they were where the file is in the drive's form; and they read
abbrev pub invariant-loop-number : goal.invariant-loop-number
invariant-loop-number g l =
    ((file : Relative) (xs ss : List Place) → IsLaid l.geometry (g.M.Medium.seen l.medium).content file xs ss → l.initial.at ≡ file.first → NamesSides l.head ss → length ss ≡ l.sides
    → (l.same ≡ true → (i : ℕ) → i < l.number → lists_at (g.M.Medium.seen l.medium).content ss i ≡ take 120 (drop (120 * i) xs)) × Chain l.geometry (g.M.Medium.seen l.medium).content l.at (drop (120 * l.number) xs)
    × (AreInForm (g.M.Medium.seen l.medium).content ss xs → l.same ≡ true))
    × SidesRead (g.M.Medium.seen l.medium).content l.head l.number
