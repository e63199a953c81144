-- The side sectors of a relative file, and its records.
use Rattle.std.specs.Prelude.{ℕ, ◌+◌, ◌⊎◌, ◌≡◌, ◌==◌, ◌&&◌, nat_lt, List, [], ◌∷◌, drop, slice_index, Bool, true, false, if◌then◌else◌, Option, Some, None, is_some}
use Rattle.cbm_medium.specs.Place.{Place, is_place, has}
use Rattle.cbm_medium.specs.Content.{Content}
use Rattle.cbm_medium.specs.Links.{bytes_at, place_in, link}
use Rattle.cbm_bam.specs.Map.{with_bit}
use Rattle.cbm_directory.specs.Entries.{first_block, first_side, width_of}
use Rattle.cbm_relfile.specs.SideSectors.{sides_listed, listed_following}
use Rattle.cbm_volume.specs.declared.check.unsound.Part.{Part}
use Rattle.cbm_volume.specs.declared.check.unsound.Part.TheVariants.{OfFile}
use Rattle.cbm_volume.specs.declared.check.unsound.Unsound.{Unsound}
use Rattle.cbm_volume.specs.check.Claims.{wrong_at, fault_at, IsWrongAt}

-- Nothing is wrong with any of these sectors, in their order, and they are claimed.
abbrev pub ClaimsEach : Part → ℕ → Content → (Place → Bool) → List Place → (Place → Bool) → Type 0
ClaimsEach part tracks content claimed [] after = after ≡ claimed
ClaimsEach part tracks content claimed (p ∷ rest) after = (wrong_at part tracks content claimed p ≡ None) × ClaimsEach part tracks content (with_bit claimed p true) rest after

-- One of these sectors has this fault, and those before it are claimed.
abbrev pub MeetsAmong : Part → ℕ → Content → (Place → Bool) → List Place → Unsound → Type 0
MeetsAmong part tracks content claimed [] u = ⊥
MeetsAmong part tracks content claimed (p ∷ rest) u =
    IsWrongAt part tracks content claimed p u
    ⊎ ((wrong_at part tracks content claimed p ≡ None) × MeetsAmong part tracks content (with_bit claimed p true) rest u)

-- the side sectors of a relative file that a sector lists after the first
abbrev pub after_the_first : List ℕ → List Place
after_the_first bytes = drop 1 (sides_listed bytes)

-- the side sectors of a relative file: the first, and those that it lists after itself
abbrev pub sides_from : Content → Place → List Place
sides_from content first = first ∷ after_the_first (bytes_at content first)

-- where a chain goes on after a place, if this is the place and a sector of the disk
abbrev pub step_along : ℕ → Content → Place → Place → Option Place
step_along tracks content p a = if is_place p a && has tracks a then Some (link (bytes_at content a)) else None

-- where the chain from a goes on after these blocks, if it begins with them
abbrev pub along : ℕ → Content → List Place → Place → Option Place
along tracks content [] a = Some a
along tracks content (p ∷ rest) a = elim (step_along tracks content p a) [ Some b ↦ along tracks content rest b | None ↦ None ]

-- a side sector has its number and the records' length, and lists the next blocks of the chain: where that goes on
abbrev pub side_along : ℕ → Content → ℕ → ℕ → List ℕ → Place → Option Place
side_along tracks content width n side a =
    if (slice_index side 2 == n) && (slice_index side 3 == width) then along tracks content (listed_following 0 side) a else None

-- the same of the side sector at a place of the disk
abbrev pub side_found : ℕ → Content → ℕ → ℕ → Place → Place → Option Place
side_found tracks content width n s a = if has tracks s then side_along tracks content width n (bytes_at content s) a else None

-- the same of side sectors in order, counted from n
abbrev pub sides_along : ℕ → Content → ℕ → ℕ → List Place → Place → Option Place
sides_along tracks content width n [] a = Some a
sides_along tracks content width n (s ∷ rest) a = elim (side_found tracks content width n s a) [ Some b ↦ sides_along tracks content width (n + 1) rest b | None ↦ None ]

-- the same of the first one with these bytes, and those that it lists after itself
abbrev pub all_along : ℕ → Content → ℕ → List ℕ → Place → Option Place
all_along tracks content width first a = elim (side_along tracks content width 0 first a) [ Some b ↦ sides_along tracks content width 1 (after_the_first first) b | None ↦ None ]

-- The records of a relative file: of 1 to 254 bytes, with a first side sector that lists itself first, and side sectors whose
-- lists are the beginning of the chain.
abbrev pub are_records_in : ℕ → Content → List ℕ → List ℕ → Bool
are_records_in tracks content e first =
    nat_lt 0 (width_of e) && (nat_lt (width_of e) 255
    && (is_place (place_in first 4) (first_side e) && is_some (all_along tracks content (width_of e) first (first_block e))))

-- the side sectors of an entry list its records
abbrev pub are_records : ℕ → Content → List ℕ → Bool
are_records tracks content e = are_records_in tracks content e (bytes_at content (first_side e))

-- the side sectors of a relative file are claimed, and its records are right
abbrev pub ClaimsSides : ℕ → Content → (Place → Bool) → List ℕ → (Place → Bool) → Type 0
ClaimsSides tracks content claimed e after = ClaimsEach OfFile tracks content claimed (sides_from content (first_side e)) after × (are_records tracks content e ≡ true)

-- a side sector has a fault, or all are claimed and the records aren't right (7)
abbrev pub SidesFault : ℕ → Content → (Place → Bool) → List ℕ → Unsound → Type 0
SidesFault tracks content claimed e u =
    MeetsAmong OfFile tracks content claimed (sides_from content (first_side e)) u
    ⊎ ((after : Place → Bool) × (ClaimsEach OfFile tracks content claimed (sides_from content (first_side e)) after × (are_records tracks content e ≡ false) × (u ≡ fault_at 7 (first_side e))))
