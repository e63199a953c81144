use Rattle.std.proofs.Common.{◌≡◌, ℕ, ◌+◌, ◌*◌, ◌<◌, ◌≤◌, List, length, get_or}
use Rattle.cbm_medium.specs.Place.{Place}
use Rattle.cbm_medium.specs.Links.{Chain}
use Rattle.cbm_relfile.proofs.Relisted.{Listing}
use Rattle.cbm_relfile.proofs.growth.relisting.listed_from.Given as goal

-- the blocks so far are listed, and zeros stand after them
abbrev pub invariant-loop-number : goal.invariant-loop-number
invariant-loop-number g l = (length l.new ≡ 256) × ((i : ℕ) → i < 16 → get_or l.new i 0 ≡ get_or l.side i 0) × ((i : ℕ) → 16 + 2 * l.number ≤ i → get_or l.new i 0 ≡ 0)
    × ((blocks : List Place) → Chain l.fn.geometry (g.M.Medium.seen l.medium).content l.initial.at blocks → Listing l.fn.geometry (g.M.Medium.seen l.medium).content blocks l.number l.new l.at)
