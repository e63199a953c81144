-- Sectors that are no part of a disk: those that channels have to themselves, and what a claim or a release of one makes of the disk.
use Rattle.std.specs.Prelude.{ℕ, ◌+◌, ◌-◌, ◌==◌, ◌≤◌, ◌≡◌, ◌⊎◌, Bool, true, false, List, [], ◌∷◌, length, if◌then◌else◌, IsOk}
use Rattle.cbm_medium.specs.Place.{Place, Has}
use Rattle.cbm_medium.specs.Content.{Content}
use Rattle.cbm_medium.specs.Seen.{Seen}
use Rattle.cbm_medium.specs.Links.{IsApart, follow, ended, link, bytes_at}
use Rattle.cbm_file.specs.Files.{Disk}
use Rattle.cbm_chain.specs.Writing.{Wrote}
use Rattle.cbm_volume.specs.declared.check.unsound.Unsound.{Unsound}
use Rattle.cbm_volume.specs.check.WholeDisk.{ClaimsSeen, SeenFault}
use Rattle.cbm_volume.specs.Writers.{Use, Idle, Reads, Relates, Writes}

-- from a on links lead along these sectors; what the last one holds is open
abbrev pub AreLinked : ℕ → Content → Place → List Place → Type 0
AreLinked tracks c a [] = Unit {0}
AreLinked tracks c a (b ∷ []) = (a ≡ b) × Has tracks b
AreLinked tracks c a (b ∷ b' ∷ rest) = (a ≡ b) × Has tracks b × IsOk (c b) × AreLinked tracks c (link (bytes_at c b)) (b' ∷ rest)

-- the sector is none of the first so many along which links lead from a on
abbrev pub IsOffLinks : ℕ → Content → ℕ → Place → Place → Type 0
IsOffLinks tracks c most a p = (blocks : List Place) → AreLinked tracks c a blocks → length blocks ≤ most → IsApart p blocks

-- the sector is one of these
abbrev pub IsOnLinks : ℕ → Content → ℕ → Place → Place → Type 0
IsOnLinks tracks c most a p = (blocks : List Place) × AreLinked tracks c a blocks × (length blocks ≤ most) × (IsApart p blocks → ⊥)

-- THE SECTOR IS NO CHANNEL'S: it is none of those that the channel still has to read, nor of those that it writes
abbrev pub IsSpared : Content → Place → Use → Type 0
IsSpared c p Idle = Unit {0}
IsSpared c p (Relates slot) = Unit {0}
IsSpared c p (Reads slot r left) = (blocks : List Place) → follow r.tracks c r.left r.next ≡ ended blocks → IsApart p blocks
IsSpared c p (Writes w bytes n) = (places : List Place) → Wrote c w.chain places bytes → length places ≤ 65535 → IsApart p places

-- what isn't marked is no channel's
abbrev pub AreSpared : Content → (Place → Bool) → (ℕ → Use) → Type 0
AreSpared c marked uses = (p : Place) → marked p ≡ false → (ch : ℕ) → IsSpared c p (uses ch)

-- THE SECTOR IS LOOSE: the disk is sound, none of its parts has the sector, and it isn't marked
abbrev pub IsLooseOn : Seen → (Place → Bool) → Place → Type 0
IsLooseOn now marked p = (k : ClaimsSeen now) × (k.after p ≡ false) × (marked p ≡ false)

-- THE SECTOR IS HELD: the disk isn't sound, or a part of it has the sector, or it is marked
abbrev pub IsNotLoose : Seen → (Place → Bool) → Place → Type 0
IsNotLoose now marked p = ((u : Unsound) × SeenFault now u) ⊎ (((k : ClaimsSeen now) × (k.after p ≡ true)) ⊎ (marked p ≡ true))

-- one sector of this track fewer is free: for the directory on track 18, for files on any other
abbrev pub one_fewer_free : ℕ → Disk → Disk
one_fewer_free t d = record d { room = if t == 18 then d.room - 1 else d.room; free = if t == 18 then d.free else d.free - 1 }

-- one more is
abbrev pub one_more_free : ℕ → Disk → Disk
one_more_free t d = record d { room = if t == 18 then d.room + 1 else d.room; free = if t == 18 then d.free else d.free + 1 }
