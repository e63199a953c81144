-- The side sectors of a file are written anew, so that each lists its next 120 blocks.
use Rattle.std.specs.Prelude.{ℕ, ◌+◌, ◌*◌, ◌<◌, ◌≤◌, ◌≡◌, ◌⊎◌, true, List, length, take, drop, slice_index, slice_index_or, Ok, IsOk, IsOkAnd}
use Rattle.cbm_medium.specs.Place.{Place, directory_head}
use Rattle.cbm_medium.specs.Content.{Content, written}
use Rattle.cbm_medium.specs.Links.{bytes_at, IsApart}
use Rattle.cbm_medium.specs.Seen.{Seen, HasFailed}
use Rattle.cbm_relfile.specs.Records.{AllWhole, Relative, IsLaid}
use Rattle.cbm_relfile.specs.SideSectors.{most_blocks, blocks_begin, blocks_of_side, listed_side, IsEnded}

-- A side sector lists these blocks, with zeros after them; its number, the records' length and the list of the side sectors stay.
pub record ListsThese (old : List ℕ) (blocks : List Place) (new : List ℕ) : Type 0 where
  pub whole : length new ≡ 256
  pub ended : IsEnded old (length blocks) new
  pub front : (i : ℕ) → 2 ≤ i → i < blocks_begin → slice_index new i ≡ slice_index old i
  pub lists : blocks_of_side new ≡ blocks
  pub zeros : (i : ℕ) → blocks_begin + 2 * length blocks ≤ i → slice_index new i ≡ 0

-- it is written
pub record IsSideListed (old new : Content) (t : Place) (blocks : List Place) : Type 0 where
  pub side : List ℕ
  pub reads : old t ≡ Ok side
  pub bytes : List ℕ
  pub these : ListsThese side blocks bytes
  pub written : new ≡ written old t bytes

-- the side sector of a number lists these blocks
abbrev pub lists_at : Content → List Place → ℕ → List Place
lists_at c sides i = blocks_of_side (bytes_at c (slice_index_or sides i directory_head))

-- these are the side sectors that the first one names
abbrev pub NamesSides : List ℕ → List Place → Type 0
NamesSides head sides = (i : ℕ) → i < length sides → slice_index_or sides i directory_head ≡ listed_side head i

-- this many side sectors read, counted from the first that a side sector names
abbrev pub SidesRead : Content → List ℕ → ℕ → Type 0
SidesRead c head sides = (i : ℕ) → i < sides → IsOk (c (listed_side head i))

-- THE SIDE SECTORS READ: the first one, and this many that it names.
abbrev pub HaveSides : Content → Place → ℕ → Type 0
HaveSides c side sides = IsOkAnd (c side) (λ head. SidesRead c head sides)

-- Why a side sector that reads isn't written: the medium is protected, which is reported as 26, or it failed by itself.
abbrev pub IsSideRefused : Seen → Seen → ℕ → Type 0
IsSideRefused old new code = ((old.protected ≡ true) × (code ≡ 26)) ⊎ HasFailed old new

-- the blocks that the side sector of this number lists in the drive's form
abbrev pub next_blocks : List Place → ℕ → List Place
next_blocks blocks i = take most_blocks (drop (most_blocks * i) blocks)

-- THE DRIVE'S FORM: each side sector lists its next 120 blocks.
abbrev pub AreListed : Content → List Place → List Place → Type 0
AreListed c sides blocks = (i : ℕ) → i < length sides → lists_at c sides i ≡ next_blocks blocks i

-- AS THE DRIVE LEAVES THEM: each side sector lists its next 120 blocks, and zeros stand after them.
pub record AreInForm (c : Content) (sides blocks : List Place) : Type 0 where
  pub listed : AreListed c sides blocks
  pub zeros : (i : ℕ) → i < length sides → (j : ℕ) → blocks_begin + 2 * length (next_blocks blocks i) ≤ j → slice_index (bytes_at c (slice_index_or sides i directory_head)) j ≡ 0

-- A side sector is as it was; or it was written anew: it ends after what it lists, or links where it linked, zeros stand after the
-- list, and its number, the records' length and the list of the side sectors are as they were.
abbrev pub IsSideKept : Content → Content → List Place → ℕ → Type 0
IsSideKept old new sides i =
    let p = slice_index_or sides i directory_head in
    (new p ≡ old p) ⊎ ListsThese (bytes_at old p) (lists_at new sides i) (bytes_at new p)

-- Each side sector is another, and none is a data block.
pub record AreApart (blocks sides : List Place) : Type 0 where
  pub distinct : (i j : ℕ) → i < length sides → j < length sides → slice_index_or sides i directory_head ≡ slice_index_or sides j directory_head → i ≡ j
  pub apart : (i : ℕ) → i < length sides → IsApart (slice_index_or sides i directory_head) blocks

-- THE FILE LIES WHERE IT LAY, and only its side sectors are others.
pub record IsRelisted (tracks : ℕ) (old new : Content) (file : Relative) (blocks sides : List Place) : Type 0 where
  pub laid : IsLaid tracks new file blocks sides
  pub whole : AllWhole new
  pub kept : (i : ℕ) → i < length sides → IsSideKept old new sides i
  pub others : (p : Place) → IsApart p sides → new p ≡ old p
