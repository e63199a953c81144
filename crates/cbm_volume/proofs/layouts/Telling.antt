-- The entries of a sound directory tell of the disk's slots, one by one.
use Rattle.std.proofs.Common.{◌≡◌, ℕ, zero, suc, ◌*◌, ◌%◌, ◌<◌, List, [], ◌∷◌, length, Bool, true, false, Option, Some, None, refl, sym, ◌∙◌, subst, arith}
use Rattle.std.specs.Prelude.{slice_get, slice_index_or, if◌then◌else◌, ◌&&◌, ◌==◌}
use Rattle.std.specs.List.{AllZip}
use Rattle.cbm_medium.specs.Content.{Content}
use Rattle.cbm_file.specs.declared.file_type.FileType.TheVariants.{Rel}
use Rattle.cbm_file.specs.Types.{type_with, is_same_type}
use Rattle.cbm_file.specs.Files.{Disk, File, Bytes, bytes_in, record_length_in, file_at}
use Rattle.cbm_chain.specs.Data.{chain_bytes}
use Rattle.cbm_directory.specs.Entries.{entry_at, type_byte, type_of_number, is_closed, width_of}
use Rattle.cbm_directory.specs.Slots.{all_entries, directory_of}
use Rattle.cbm_volume.specs.Blocks.{Blocks, file_of, slot_with, body_as}
use Rattle.cbm_volume.specs.Layouts.{Layout, HasLayout}
use Rattle.cbm_volume.specs.Holding.{EntrySays, SlotSays, TellsOf}
use Rattle.cbm_volume.proofs.layouts.Listing.{entries_length, nth_entry, directory_listed}

-- a number below 5 is a type's
kind_told : (n : ℕ) → n < 5 → type_with n ≡ Some (type_of_number n)
kind_told zero h = refl
kind_told (suc zero) h = refl
kind_told (suc (suc zero)) h = refl
kind_told (suc (suc (suc zero))) h = refl
kind_told (suc (suc (suc (suc zero)))) h = refl
kind_told (suc (suc (suc (suc (suc n))))) h = absurd (omega arith)

bytes_told : (closed : Bool) (n : ℕ) (bytes e : List ℕ) (b : Blocks) → n < 5 → is_same_type Rel (type_of_number n) ≡ false
    → body_as (closed && (n == 4)) bytes e b ≡ Bytes (bytes_in (body_as (closed && (n == 4)) bytes e b))
bytes_told false n bytes e b h k = refl
bytes_told true zero bytes e b h k = refl
bytes_told true (suc zero) bytes e b h k = refl
bytes_told true (suc (suc zero)) bytes e b h k = refl
bytes_told true (suc (suc (suc zero))) bytes e b h k = refl
bytes_told true (suc (suc (suc (suc zero)))) bytes e b h k = absurd (cc)
bytes_told true (suc (suc (suc (suc (suc n))))) bytes e b h k = absurd (omega arith)

length_told : (closed : Bool) (n : ℕ) (bytes e : List ℕ) (b : Blocks) → n < 5 → closed ≡ true → is_same_type Rel (type_of_number n) ≡ true
    → record_length_in (body_as (closed && (n == 4)) bytes e b) ≡ width_of e
length_told false n bytes e b h shut k = absurd (cc)
length_told true zero bytes e b h shut k = absurd (cc)
length_told true (suc zero) bytes e b h shut k = absurd (cc)
length_told true (suc (suc zero)) bytes e b h shut k = absurd (cc)
length_told true (suc (suc (suc zero))) bytes e b h shut k = absurd (cc)
length_told true (suc (suc (suc (suc zero)))) bytes e b h shut k = refl
length_told true (suc (suc (suc (suc (suc n))))) bytes e b h shut k = absurd (omega arith)

file_says : (bytes e : List ℕ) (b : Blocks) → (type_byte e == 0) ≡ false → type_byte e % 16 < 5 → EntrySays (file_of bytes e b) e
unfolding file_of
file_says bytes e b used small = record {
  used = used;
  kind = kind_told (type_byte e % 16) small;
  closed = refl;
  locked = refl;
  name = refl;
  blocks = refl;
  body = λ k. bytes_told (is_closed e) (type_byte e % 16) bytes e b small k;
  record_length = λ shut k. length_told (is_closed e) (type_byte e % 16) bytes e b small shut k;
}

pub slot_says : (bytes e : List ℕ) (b : Blocks) → type_byte e % 16 < 5 → SlotSays (slot_with bytes e b) e
slot_says bytes e b small = by_test (type_byte e == 0) refl
  where
    by_test : (t : Bool) → (type_byte e == 0) ≡ t → SlotSays (if t then None else Some (file_of bytes e b)) e
    by_test true is = is
    by_test false is = file_says bytes e b is small

-- two lists of one length whose places go together
zipped : (R : Option File → List ℕ → Type 0) (xs : List (Option File)) (ys : List (List ℕ)) → length xs ≡ length ys
    → ((n : ℕ) → n < length ys → (y : List ℕ) → slice_get ys n ≡ Some y → R (slice_index_or xs n None) y) → AllZip R xs ys
zipped R [] [] same h = tt
zipped R [] (y ∷ ys) same h = absurd (omega (arith, same))
zipped R (x ∷ xs) [] same h = absurd (omega (arith, same))
zipped R (x ∷ xs) (y ∷ ys) same h = (h 0 (omega arith) y refl, zipped R xs ys (omega (arith, same)) (λ n lt z e. h (suc n) (omega (arith, lt)) z e))

same_some : {x z : List ℕ} → Some x ≡ Some z → x ≡ z
same_some e = cc

-- A SOUND DISK'S DIRECTORY TELLS OF ITS SLOTS
pub told : (tracks : ℕ) (c : Content) (l : Layout) (d : Disk) → HasLayout tracks c l d → TellsOf d (directory_of tracks c)
told tracks c l d st =
    subst (TellsOf d) (sym (directory_listed tracks c l st.sound)) (record {
      whole = refl;
      each = zipped SlotSays d.slots (all_entries c l.directory) (omega (arith, st.describes.size, entries_length c l.directory)) (λ n lt y e. here n (omega (arith, lt, entries_length c l.directory)) y e);
    })
  where
    here : (n : ℕ) → n < 8 * length l.directory → (y : List ℕ) → slice_get (all_entries c l.directory) n ≡ Some y → SlotSays (file_at d n) y
    here n room y e =
        let is : entry_at c l.directory n ≡ y = same_some (sym (nth_entry c l.directory n room) ∙ e) in
        subst (SlotSays (file_at d n)) is
        (subst (λ (s : Option File). SlotSays s (entry_at c l.directory n)) (sym (st.describes.slots n room))
        (slot_says (chain_bytes c (l.files n).data_blocks) (entry_at c l.directory n) (l.files n) (st.sound.kinds n room)))
