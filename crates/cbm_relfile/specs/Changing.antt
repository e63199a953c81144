-- A record is written in place.
use Rattle.std.specs.Prelude.{ℕ, ◌+◌, ◌-◌, ◌*◌, ◌/◌, ◌%◌, ◌<◌, ◌≤◌, ◌≡◌, ◌≢◌, ◌⊎◌, nat_lt, Bool, List, length, take, drop, slice_index_or, Option, None, Some, Ok, IsOk}
use Rattle.cbm_medium.specs.Place.{Place, Has, directory_head}
use Rattle.cbm_medium.specs.Content.{Content}
use Rattle.cbm_medium.specs.Links.{link}
use Rattle.cbm_medium.specs.Seen.{Seen, write_refusal, HasFailed}
use Rattle.cbm_file.specs.Records.{with_bytes}
use Rattle.cbm_chain.specs.Data.{data_of, chain_bytes}
use Rattle.cbm_relfile.specs.Records.{record_in, front_written, IsRewritten}

-- the bytes of record k, which counts from 1
abbrev pub record_bytes : ℕ → List ℕ → ℕ → List ℕ
record_bytes w bytes k = take w (drop ((k - 1) * w) bytes)

-- A record lies in the block of a number from a place on, and this is the sector's content.
pub record LiesFrom (c : Content) (blocks : List Place) (w k : ℕ) (at : Place) (sector : List ℕ) (place : ℕ) : Type 0 where
  pub block : (k - 1) * w / 254 < length blocks
  pub at_is : at ≡ slice_index_or blocks ((k - 1) * w / 254) directory_head
  pub holds : c at ≡ Ok sector
  pub place_is : place ≡ (k - 1) * w % 254
  pub whole : k * w ≤ length (chain_bytes c blocks)

-- RECORD K HAS THESE BYTES from position p on, as far as they fit; `cut` says that they don't.
pub record IsChanged (c c' : Content) (blocks : List Place) (w k p : ℕ) (bytes : List ℕ) (cut : Bool) : Type 0 where
  pub at : Place
  pub sector : List ℕ
  pub place : ℕ
  pub lies : LiesFrom c blocks w k at sector place
  pub rewritten : IsRewritten c c' at sector place (with_bytes w (record_bytes w (chain_bytes c blocks) k) p bytes)
  pub cut_is : cut ≡ nat_lt (w + 1 - p) (length bytes)

-- The record isn't there, and nothing has changed; or it is changed.
abbrev pub IsChangedIfThere : Content → Content → List Place → ℕ → ℕ → ℕ → List ℕ → Option Bool → Type 0
IsChangedIfThere c c' blocks w k p bytes None = (record_in w (chain_bytes c blocks) k ≡ None) × (c' ≡ c)
IsChangedIfThere c c' blocks w k p bytes (Some cut) = IsChanged c c' blocks w k p bytes cut

-- the block goes on in a sector of the disk that reads, or nowhere
abbrev pub HasNextBlock : ℕ → Content → List ℕ → Type 0
HasNextBlock tracks c sector = ((link sector).track ≢ 0) → Has tracks (link sector) × IsOk (c (link sector))

-- why a sector of the disk isn't written
abbrev pub IsWriteRefused : ℕ → Seen → Seen → ℕ → Type 0
IsWriteRefused tracks old new code = ((p : Place) × Has tracks p × (write_refusal old p ≡ Some code)) ⊎ HasFailed old new

-- of a stretch over two blocks the first is written
abbrev pub IsHalfRewritten : Content → Content → Place → List ℕ → ℕ → List ℕ → Type 0
IsHalfRewritten c c' p sector place bytes =
    (more : List ℕ) × (length (data_of sector) < place + length bytes) × (c (link sector) ≡ Ok more) × (place + length bytes ≤ 254 + length (data_of more)) × (c' ≡ front_written c p sector place bytes)

-- A STRETCH IS WRITTEN IN PART: nothing of it, or its first block alone.
abbrev pub IsRewrittenInPart : Content → Content → Place → List ℕ → ℕ → List ℕ → Type 0
IsRewrittenInPart c c' p sector place bytes = (c' ≡ c) ⊎ IsHalfRewritten c c' p sector place bytes

-- A WRITE OF A RECORD WAS REFUSED: nothing has changed, or of the record's two blocks the first is written.
pub record IsChangeStopped (tracks : ℕ) (old new : Seen) (blocks : List Place) (w k p : ℕ) (bytes : List ℕ) (code : ℕ) : Type 0 where
  pub at : Place
  pub sector : List ℕ
  pub place : ℕ
  pub lies : LiesFrom old.content blocks w k at sector place
  pub so_far : IsRewrittenInPart old.content new.content at sector place (with_bytes w (record_bytes w (chain_bytes old.content blocks) k) p bytes)
  pub cause : IsWriteRefused tracks old new code
