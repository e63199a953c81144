-- A relative file grows by a block: it is claimed, written and linked to, and then a side sector lists it.
use Rattle.std.specs.Prelude.{ℕ, ◌+◌, ◌-◌, ◌*◌, ◌%◌, ◌<◌, ◌≤◌, ◌≡◌, ◌≢◌, ◌⊎◌, ◌==◌, Bool, if◌then◌else◌, List, [], length, slice_index, find, Some, Result, Ok, Err, IsOk, MatchResult}
use Rattle.cbm_medium.specs.Place.{Place, Has, directory_head}
use Rattle.cbm_medium.specs.Content.{Content, written}
use Rattle.cbm_medium.specs.Links.{bytes_at, link}
use Rattle.cbm_medium.specs.Seen.{Seen}
use Rattle.cbm_medium.specs.declared.fault.Trouble.{Trouble}
use Rattle.cbm_bam.specs.Map.{map_of, is_free_in, Claims}
use Rattle.cbm_bam.specs.Orders.{next_order}
use Rattle.cbm_bam.specs.Causes.{HasCause}
use Rattle.cbm_relfile.specs.Changing.{IsWriteRefused}
use Rattle.cbm_relfile.specs.Fresh.{IsFilledFrom, full_end}
use Rattle.cbm_relfile.specs.SideSectors.{sides_begin, blocks_begin, listed_side, IsEnded}

-- where in the last of this many full data blocks the first fresh record begins: after its last whole record
abbrev pub fresh_place : ℕ → ℕ → ℕ
fresh_place w blocks = 254 - 254 * blocks % w

-- A FILE OF b FULL DATA BLOCKS HAS ONE MORE: the next that is free after the last one is claimed and filled with fresh records, and the last one links to it, with fresh
-- bytes after its last whole record.
pub record IsLengthened (tracks : ℕ) (old new : Content) (last : Place) (w b : ℕ) (q : Place) : Type 0 where
  pub one : Content
  pub claims : Claims tracks old one q
  pub next : find (is_free_in (map_of old)) (next_order tracks last) ≡ Some q
  pub fresh : List ℕ
  pub filled : IsFilledFrom w (b + 1) b 0 [] full_end fresh
  pub sector : List ℕ
  pub reads : old last ≡ Ok sector
  pub linked : List ℕ
  pub joined : IsFilledFrom w (b + 1) (b - 1) (fresh_place w b) sector q linked
  pub written : new ≡ written (written one q fresh) last linked

-- no block is claimed so far; or one is, and it may be written
abbrev pub IsBegun : ℕ → Content → Content → Type 0
IsBegun tracks old new =
    (new ≡ old) ⊎ ((q : Place) × (one : Content) × Claims tracks old one q × ((new ≡ one) ⊎ ((bytes : List ℕ) × (new ≡ written one q bytes))))

-- One of the three writes was refused, or the last block doesn't read.
pub record IsLengthenStopped (tracks : ℕ) (old new : Seen) (last : Place) (code : ℕ) : Type 0 where
  pub mid : Seen
  pub before : IsBegun tracks old.content mid.content
  pub protected : mid.protected ≡ old.protected
  pub counted : old.failures ≤ mid.failures
  pub same : new.content ≡ mid.content
  pub cause : (mid.content last ≡ Err code) ⊎ (HasCause mid new directory_head code ⊎ IsWriteRefused tracks mid new code)

-- A SIDE SECTOR LISTS ONE BLOCK MORE after this many: nothing else in it changes but what stands after, and in the last one the second byte.
pub record ListsMore (old : List ℕ) (k : ℕ) (q : Place) (new : List ℕ) : Type 0 where
  pub whole : length new ≡ 256
  pub ended : IsEnded old (k + 1) new
  pub front : (i : ℕ) → 2 ≤ i → i < blocks_begin + 2 * k → slice_index new i ≡ slice_index old i
  pub track : slice_index new (blocks_begin + 2 * k) ≡ q.track
  pub sector : slice_index new (blocks_begin + 1 + 2 * k) ≡ q.sector
  pub zeros : (i : ℕ) → blocks_begin + 2 + 2 * k ≤ i → slice_index new i ≡ 0

-- this holds of the side sector of this number that a first one lists, if it is on the disk and reads
abbrev pub OfSideAt : ℕ → Content → List ℕ → ℕ → (Place → Type 0) → Type 0
OfSideAt tracks c head i P = Has tracks (listed_side head i) → IsOk (c (listed_side head i)) → P (listed_side head i)

-- the side sector at this place lists one block more after this many
pub record IsBlockListed (old new : Content) (at : Place) (k : ℕ) (q : Place) : Type 0 where
  pub side : List ℕ
  pub reads : old at ≡ Ok side
  pub more : List ℕ
  pub lists : ListsMore side k q more
  pub written : new ≡ written old at more

-- the write was refused
abbrev pub IsListStopped : ℕ → Seen → Seen → ℕ → Type 0
IsListStopped tracks old new code = (new.content ≡ old.content) × IsWriteRefused tracks old new code

-- A SIDE SECTOR'S LIST OF SIDE SECTORS HAS ONE MORE after this many, and ends after it; its number, the records' length and the blocks
-- that it lists stay. It links to the new one where that follows it, and else where it linked.
pub record ListsSide (old : List ℕ) (k : ℕ) (t : Place) (follows : Bool) (new : List ℕ) : Type 0 where
  pub whole : length new ≡ 256
  pub link_is : link new ≡ (if follows then t else link old)
  pub front : (i : ℕ) → 2 ≤ i → i < sides_begin + 2 * k → slice_index new i ≡ slice_index old i
  pub track : slice_index new (sides_begin + 2 * k) ≡ t.track
  pub sector : slice_index new (sides_begin + 1 + 2 * k) ≡ t.sector
  pub last : k < 5 → slice_index new (sides_begin + 2 + 2 * k) ≡ 0
  pub last_sector : k < 5 → slice_index new (sides_begin + 3 + 2 * k) ≡ 0
  pub afterwards : (i : ℕ) → sides_begin + 4 + 2 * k ≤ i → i < blocks_begin → slice_index new i ≡ slice_index old i
  pub back : (i : ℕ) → blocks_begin ≤ i → slice_index new i ≡ slice_index old i

-- The side sector at this place, which is the one of number i, lists one side sector more after this many.
pub record IsSideLinked (old new : Content) (at : Place) (i k : ℕ) (t : Place) : Type 0 where
  pub side : List ℕ
  pub reads : old at ≡ Ok side
  pub more : List ℕ
  pub lists : ListsSide side k t (i + 1 == k) more
  pub written : new ≡ written old at more

-- a block is listed, or that is refused; and a side sector is named by another one, or that is refused
abbrev pub ListsBlock : {A : Type 0} → Result A Trouble → ℕ → Seen → Seen → Place → ℕ → Place → Type 0
ListsBlock result tracks old new at k q = MatchResult result (λ x. IsBlockListed old.content new.content at k q) (λ t. IsListStopped tracks old new t.code)

abbrev pub LinksSide : {A : Type 0} → Result A Trouble → ℕ → Seen → Seen → Place → ℕ → ℕ → Place → Type 0
LinksSide result tracks old new at i k side = MatchResult result (λ x. IsSideLinked old.content new.content at i k side) (λ t. IsListStopped tracks old new t.code)

-- A new side sector t, the one after this many others: it is the last, and lists one block.
pub record IsNewSide (head : List ℕ) (k w : ℕ) (q t : Place) (new : List ℕ) : Type 0 where
  pub whole : length new ≡ 256
  pub ends : (slice_index new 0 ≡ 0) × (slice_index new 1 ≡ 17)
  pub number : slice_index new 2 ≡ k
  pub width : slice_index new 3 ≡ w
  pub others : (i : ℕ) → sides_begin ≤ i → i < sides_begin + 2 * k → slice_index new i ≡ slice_index head i
  pub itself : (slice_index new (sides_begin + 2 * k) ≡ t.track) × (slice_index new (sides_begin + 1 + 2 * k) ≡ t.sector)
  pub last : k < 5 → (slice_index new (sides_begin + 2 + 2 * k) ≡ 0) × (slice_index new (sides_begin + 3 + 2 * k) ≡ 0)
  pub afterwards : (i : ℕ) → sides_begin + 4 + 2 * k ≤ i → i < blocks_begin → slice_index new i ≡ slice_index head i
  pub track : slice_index new blocks_begin ≡ q.track
  pub sector : slice_index new (blocks_begin + 1) ≡ q.sector
  pub zeros : (i : ℕ) → blocks_begin + 2 ≤ i → slice_index new i ≡ 0

-- it is claimed, the next that is free after the block, and written
pub record IsSideBegun (tracks : ℕ) (old new : Content) (head : List ℕ) (k w : ℕ) (q t : Place) : Type 0 where
  pub one : Content
  pub claims : Claims tracks old one t
  pub next : find (is_free_in (map_of old)) (next_order tracks q) ≡ Some t
  pub side : List ℕ
  pub is_new : IsNewSide head k w q t side
  pub written : new ≡ written one t side

-- THE SIDE SECTORS OF A FILE, of which the first one names this many: it names itself first, each is a sector of the disk that reads, and no two
-- are the same.
pub record AreSides (tracks : ℕ) (c : Content) (first : Place) (head : List ℕ) (k : ℕ) : Type 0 where
  pub reads : Has tracks first × (c first ≡ Ok head)
  pub itself : listed_side head 0 ≡ first
  pub there : (i : ℕ) → i < k → Has tracks (listed_side head i) × IsOk (c (listed_side head i))
  pub distinct : (i j : ℕ) → i < k → j < k → listed_side head i ≡ listed_side head j → i ≡ j

-- EACH OF THEM FROM THIS NUMBER ON NAMES A NEW ONE after this many; what else it says stays, and so does each other sector.
pub record AreSidesLinked (old new : Content) (head : List ℕ) (from k : ℕ) (t : Place) : Type 0 where
  pub each : (i : ℕ) → from ≤ i → i < k → ListsSide (bytes_at old (listed_side head i)) k t (i + 1 == k) (bytes_at new (listed_side head i))
  pub others : (p : Place) → ((i : ℕ) → from ≤ i → i < k → p ≢ listed_side head i) → new p ≡ old p
