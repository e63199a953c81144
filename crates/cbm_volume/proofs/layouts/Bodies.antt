-- The file of an entry that the drive wrote.
use Rattle.std.proofs.Common.{◌≡◌, ℕ, ◌+◌, ◌%◌, List, length, Bool, true, false, refl, ap, ◌∙◌}
use Rattle.std.specs.Prelude.{◌==◌, ◌&&◌}
use Rattle.cbm_medium.specs.Place.{Place}
use Rattle.cbm_file.specs.Files.{Bytes}
use Rattle.cbm_directory.specs.Entries.{first_block, is_closed, is_relative, bit_of, type_of_number, name_in}
use Rattle.cbm_file.specs.Padding.{before_filler}
use Rattle.cbm_volume.specs.Blocks.{Blocks, IsBody, file_of, body_as}

pub first_of_body : (body name : List ℕ) (type shown : ℕ) (first : Place) → IsBody body type first name shown → first_block body ≡ first
first_of_body body name type shown first h = λ i. record { track = h.track i; sector = h.sector i }

pub file_of_body : (body name bytes : List ℕ) (type shown : ℕ) (first : Place) (b : Blocks) → IsBody body type first name shown → (type % 16 == 4) ≡ false
    → file_of bytes body b ≡ record { kind = type_of_number (type % 16); closed = bit_of type 7; locked = bit_of type 6; name = before_filler name; shown = shown; held = length b.data_blocks + length b.sides; body = Bytes bytes }
unfolding file_of name_in
file_of_body body name bytes type shown first b h plain =
    let r : is_relative body ≡ false = ap (λ (x : ℕ). x % 16 == 4) h.kind ∙ plain in
    let y : body_as (is_closed body && is_relative body) bytes body b ≡ Bytes bytes =
    ap (λ (x : Bool). body_as (is_closed body && x) bytes body b) r ∙ never (is_closed body) in
    λ i. record { kind = type_of_number (h.kind i % 16); closed = bit_of (h.kind i) 7; locked = bit_of (h.kind i) 6; name = before_filler (h.named i); shown = h.blocks i; held = length b.data_blocks + length b.sides; body = y i }
  where
    never : (x : Bool) → body_as (x && false) bytes body b ≡ Bytes bytes
    never true = refl
    never false = refl
