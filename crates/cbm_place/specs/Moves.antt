-- A file that is moved to other blocks of its disk.
use Rattle.std.specs.Prelude.{ℕ, ◌≡◌, ◌==◌, ◌&&◌, ◌||◌, not, nat_le, Bool, true, false, List, [], ◌∷◌, map, length, replicate, if◌then◌else◌, slice_set, Some, Ok}
use Rattle.cbm_medium.specs.Place.{Place, directory_head}
use Rattle.cbm_medium.specs.Content.{Cell, Content, written}
use Rattle.cbm_medium.specs.Links.{bytes_at}
use Rattle.cbm_bam.specs.Map.{with_bit}
use Rattle.cbm_bam.specs.Marks.{nothing}
use Rattle.cbm_directory.specs.Entries.{is_closed, is_relative, first_block, type_byte, EntersLed}
use Rattle.cbm_directory.specs.Slots.{Answers, directory_of}
use Rattle.cbm_shell.specs.Mapping.{chain_of, free_by, is_among}
use Rattle.cbm_shell.specs.Passing.{places_in}
use Rattle.cbm_shell.specs.Undeleting.{IsMapAnew}

-- ---- where a file may go

-- a block may be taken for a file: it is on the disk, free or the file's own, and wasn't named before
abbrev pub is_open_to : ℕ → Cell → (Place → Bool) → (Place → Bool) → Place → Bool
is_open_to tracks head own named p = nat_le p.track tracks && ((free_by head p || own p) && not (named p))

-- each of these may, one after another
abbrev pub are_open : ℕ → Cell → (Place → Bool) → (Place → Bool) → List Place → Bool
are_open tracks head own named [] = true
are_open tracks head own named (p ∷ rest) = is_open_to tracks head own named p && are_open tracks head own (with_bit named p true) rest

-- ---- the blocks

-- the bytes of a block before these places: it leads to the first of them; the last block keeps its own two bytes
abbrev pub led : List ℕ → List Place → List ℕ
led bytes [] = bytes
led bytes (next ∷ rest) = slice_set (slice_set bytes 0 next.track) 1 next.sector

-- a disk with blocks written to these places in order, each leading to the next
abbrev pub laid_out : List Place → List (List ℕ) → Content → Content
laid_out [] blocks content = content
laid_out (p ∷ places) [] content = content
laid_out (p ∷ places) (block ∷ blocks) content = laid_out places blocks (written content p (led block places))

-- a disk on which a sector is zeros, unless it is claimed
abbrev pub wiped_at : Bool → Place → Content → Content
wiped_at claimed p content = if claimed then content else written content p (replicate 256 0)

-- a disk on which each of these sectors is that isn't claimed
abbrev pub wiped : (Place → Bool) → List Place → Content → Content
wiped claimed [] content = content
wiped claimed (p ∷ rest) content = wiped claimed rest (wiped_at (claimed p) p content)

-- what these places hold
abbrev pub held_blocks : Content → List Place → List (List ℕ)
held_blocks content places = map (bytes_at content) places

-- ---- the BAM

-- a sector is taken: the BAM has it as taken and it isn't one of those that are left, or it is one of those that are claimed
abbrev pub is_taken : Cell → (Place → Bool) → (Place → Bool) → Place → Bool
is_taken head left claimed p = (not (free_by head p) && not (left p)) || claimed p

-- the sectors that are taken on a disk, without some, and with others
abbrev pub taken_places : ℕ → Content → (Place → Bool) → (Place → Bool) → List Place
taken_places tracks content left claimed = places_in (is_taken (content directory_head) left claimed) tracks

-- ---- the entry

-- an entry whose file begins at the first of these places
abbrev pub entry_at_first : List ℕ → List Place → List ℕ
entry_at_first entry [] = entry
entry_at_first entry (p ∷ rest) = slice_set (slice_set entry 1 p.track) 2 p.sector

-- the entry of a slot is that of a closed file that isn't relative
pub record IsMovable (tracks : ℕ) (content : Content) (slot : ℕ) (entry : List ℕ) : Type 0 where
  pub stands : Answers (directory_of tracks content) slot (Ok (Some entry))
  pub taken : (type_byte entry == 0) ≡ false
  pub closed : is_closed entry ≡ true
  pub plain : is_relative entry ≡ false

-- these places are as many as the file's blocks, and each may be taken for it
pub record IsRoom (tracks : ℕ) (content : Content) (chain places : List Place) : Type 0 where
  pub many : length places ≡ length chain
  pub each_open : are_open tracks (content directory_head) (is_among chain) nothing places ≡ true

-- a file of these blocks, which lay there, is carried to these places: they are claimed, the blocks are written to them, its entry leads to the first, and those that it left are zeros and free
pub record IsCarried (tracks : ℕ) (old new : Content) (slot : ℕ) (entry : List ℕ) (chain : List Place) (blocks : List (List ℕ)) (places : List Place) : Type 0 where
  pub claimed : Content
  pub claims : IsMapAnew tracks old claimed (is_among (taken_places tracks old nothing (is_among places)))
  pub leading : Content
  pub leads : EntersLed tracks (laid_out places blocks claimed) leading slot (entry_at_first entry places)
  pub frees : let left = wiped (is_among places) chain leading in IsMapAnew tracks left new (is_among (taken_places tracks left (is_among chain) (is_among places)))

-- THE FILE OF A SLOT IS MOVED to these places, and nothing else is changed
pub record IsRelaid (tracks : ℕ) (old new : Content) (slot : ℕ) (places : List Place) : Type 0 where
  pub entry : List ℕ
  pub movable : IsMovable tracks old slot entry
  pub room : IsRoom tracks old (chain_of tracks old (first_block entry)) places
  pub carried : IsCarried tracks old new slot entry (chain_of tracks old (first_block entry)) (held_blocks old (chain_of tracks old (first_block entry))) places
