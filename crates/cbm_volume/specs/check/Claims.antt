-- The walk along the sectors of a part of the disk, each of which is claimed once, and what is wrong with one of them.
use Rattle.std.specs.Prelude.{ℕ, ◌≤◌, ◌≡◌, ◌≢◌, ◌==◌, ◌&&◌, not, List, [], ◌∷◌, Bool, true, false, if◌then◌else◌, Option, Some, None, Ok, Err, IsOk}
use Rattle.cbm_medium.specs.Place.{Place, directory_head, has, sectors_on}
use Rattle.cbm_medium.specs.Content.{Cell, Content}
use Rattle.cbm_medium.specs.Links.{bytes_at, link}
use Rattle.cbm_medium.specs.Seen.{Seen}
use Rattle.cbm_bam.specs.Map.{map_of, is_free_in, with_bit, tally, number}
use Rattle.cbm_volume.specs.declared.check.unsound.Part.{Part}
use Rattle.cbm_volume.specs.declared.check.unsound.Part.TheVariants.{OfDirectory, OfFile}
use Rattle.cbm_volume.specs.declared.check.unsound.Unsound.{Unsound}

-- what is asked of a medium on which a disk is looked at: it has as many tracks, and the disk's map reads
pub record HasMap (tracks : ℕ) (now : Seen) : Type 0 where
  pub within : tracks ≤ now.tracks
  pub head : IsOk (now.content directory_head)

-- a cell that holds bytes
abbrev pub reads : Cell → Bool
reads (Ok bytes) = true
reads (Err code) = false

-- the directory lies on track 18, the files off it
abbrev pub is_inside : Part → ℕ → Place → Bool
is_inside OfDirectory tracks p = has tracks p && (p.track == 18)
is_inside OfFile tracks p = has tracks p && not (p.track == 18)

-- the number of a link to elsewhere: 6 of the directory, 4 of a file
abbrev pub outside_number : Part → ℕ
outside_number OfDirectory = 6
outside_number OfFile = 4

-- What is wrong with the next sector of a part, where these were claimed before, by the number of the first thing that is:
-- it is no sector for this part, it was claimed before (3), it doesn't read (9), or the map has it as free (2).
abbrev pub wrong_at : Part → ℕ → Content → (Place → Bool) → Place → Option ℕ
wrong_at part tracks content claimed p =
    if not (is_inside part tracks p) then Some (outside_number part)
    else if claimed p then Some 3
    else if not (reads (content p)) then Some 9
    else if is_free_in (map_of content) p then Some 2
    else None

-- From a these sectors are the whole chain, nothing is wrong with any of them, and they are claimed.
abbrev pub ClaimsChain : Part → ℕ → Content → (Place → Bool) → Place → List Place → (Place → Bool) → Type 0
ClaimsChain part tracks content claimed a [] after = (a.track ≡ 0) × (after ≡ claimed)
ClaimsChain part tracks content claimed a (b ∷ rest) after =
    (a ≡ b) × (wrong_at part tracks content claimed b ≡ None) × ClaimsChain part tracks content (with_bit claimed b true) (link (bytes_at content b)) rest after

-- the fault of a place
abbrev pub fault_at : ℕ → Place → Unsound
fault_at number p = record { number = number; track = p.track; sector = p.sector }

-- the next sector of a part has this fault
abbrev pub IsWrongAt : Part → ℕ → Content → (Place → Bool) → Place → Unsound → Type 0
IsWrongAt part tracks content claimed p u = (wrong_at part tracks content claimed p ≡ Some u.number) × (u ≡ fault_at u.number p)

-- From a these sectors are claimed, and the next one has this fault.
abbrev pub MeetsFault : Part → ℕ → Content → (Place → Bool) → Place → List Place → Unsound → Type 0
MeetsFault part tracks content claimed a [] u = (a.track ≢ 0) × (wrong_at part tracks content claimed a ≡ Some u.number) × (u ≡ fault_at u.number a)
MeetsFault part tracks content claimed a (b ∷ rest) u =
    (a ≡ b) × (wrong_at part tracks content claimed b ≡ None) × MeetsFault part tracks content (with_bit claimed b true) (link (bytes_at content b)) rest u

-- from a the whole chain is claimed
abbrev pub ClaimsFrom : Part → ℕ → Content → (Place → Bool) → Place → (Place → Bool) → Type 0
ClaimsFrom part tracks content claimed a after = (blocks : List Place) × ClaimsChain part tracks content claimed a blocks after

-- from a some sector of the chain has this fault, and those before it are claimed
abbrev pub MeetsFrom : Part → ℕ → Content → (Place → Bool) → Place → Unsound → Type 0
MeetsFrom part tracks content claimed a u = (blocks : List Place) × MeetsFault part tracks content claimed a blocks u

-- how many sectors for this part are still to be claimed
unfoldable pub unclaimed : Part → (Place → Bool) → ℕ
unclaimed OfDirectory claimed = tally (λ p. not (claimed p)) 18 (sectors_on 18)
unclaimed OfFile claimed = number 40 (λ p. not (claimed p))
