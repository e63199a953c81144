-- A disk on which slots that were never closed became empty: it is sound where its map is right.
use Rattle.std.proofs.Common.{◌≡◌, ◌⊎◌, ℕ, ◌%◌, ◌<◌, List, Bool, true, false, IsOk, refl, sym, ap, subst, ◌∙◌, arith, inl, inr, Some, None}
use Rattle.std.specs.Prelude.{◌==◌, if◌then◌else◌}
use Rattle.std.proofs.lemmas.Bool.{eq-eqb}
use Rattle.cbm_medium.specs.Place.{Place, Has, directory_head}
use Rattle.cbm_medium.specs.Content.{Content}
use Rattle.cbm_bam.specs.Map.{is_free_in, IsCounted, map_of}
use Rattle.cbm_directory.specs.Entries.{type_byte, bit_of, is_closed, is_relative, entry_at, first_directory}
use Rattle.cbm_volume.specs.Blocks.{Blocks, no_blocks, Lies, LiesAs, slot_with, file_of}
use Rattle.cbm_volume.specs.Layouts.{Nobody, Directory, DataOf, SideOf, Layout, IsCellWritable, slot_count, Sound}
use Rattle.cbm_volume.specs.Writers.{known}
use Rattle.cbm_file.specs.Changes.{only_closed}
use Rattle.cbm_volume.proofs.layouts.Frames.{Keeps, KeepsLinks, chain_links, lies_kept}
use Rattle.cbm_volume.proofs.layouts.Listing.{closed_of}
use Rattle.cbm_volume.specs.Sweeps.{IsSweptAs}

-- a closed entry stays, and one that isn't closed may have become an empty slot
pub record MaySweep (old new : List ℕ) : Type 0 where
  pub closed : is_closed old ≡ true → new ≡ old
  pub unclosed : is_closed old ≡ false → (type_byte new ≡ 0) ⊎ (new ≡ old)

pub swept_may : (old new : List ℕ) → IsSweptAs old new → MaySweep old new
swept_may old new h = record { closed = h.closed; unclosed = λ e. inl (h.unclosed e) }

pub same_may : (old new : List ℕ) → new ≡ old → MaySweep old new
same_may old new e = record { closed = λ _. e; unclosed = λ _. inr e }

pub empty_open : (e : List ℕ) → type_byte e ≡ 0 → is_closed e ≡ false
empty_open e z = ap (λ (n : ℕ). bit_of n 7) z

pub stays_open : (old new : List ℕ) → MaySweep old new → is_closed old ≡ false → is_closed new ≡ false
stays_open old new m h = elim (m.unclosed h) [ inl z ↦ empty_open new z | inr e ↦ ap is_closed e ∙ h ]

-- two that come from one entry: the first one's closed entry is the second one's
pub swept_both : (e v f : List ℕ) → IsSweptAs e v → IsSweptAs e f → IsSweptAs v f
swept_both e v f a b = by_test (is_closed e) refl
  where
    by_test : (x : Bool) → is_closed e ≡ x → IsSweptAs v f
    by_test true h = record { closed = λ _. b.closed h ∙ sym (a.closed h); unclosed = λ z. absurd (let y = sym h ∙ ap is_closed (sym (a.closed h)) ∙ z in cc) }
    by_test false h = record { closed = λ z. absurd (let y = sym (empty_open v (a.unclosed h)) ∙ z in cc); unclosed = λ _. b.unclosed h }

-- THE FILES OF CLOSED SLOTS ARE AS THEY WERE, the directory links as it did, and of its entries some that weren't closed are empty
pub record Sweeps (a b : Content) (l : Layout) : Type 0 where
  pub blocks : (n : ℕ) → Keeps a b l.owner (DataOf n)
  pub sides : (n : ℕ) → Keeps a b l.owner (SideOf n)
  pub links : KeepsLinks a b l.owner Directory
  pub entries : (n : ℕ) → n < slot_count l → MaySweep (entry_at a l.directory n) (entry_at b l.directory n)

lies_open : (tracks : ℕ) (c c' : Content) (e e' : List ℕ) (b : Blocks) → is_closed e ≡ false → is_closed e' ≡ false → Lies tracks c e b → Lies tracks c' e' b
lies_open tracks c c' e e' b x y h =
    let none : b ≡ no_blocks = subst (λ (z : Bool). LiesAs z (is_relative e) tracks c e b) x h in
    subst (λ (z : Bool). LiesAs z (is_relative e') tracks c' e' b) (sym y) none

kind_swept : (e e' : List ℕ) → MaySweep e e' → type_byte e % 16 < 5 → type_byte e' % 16 < 5
kind_swept e e' m h = by_test (is_closed e) refl
  where
    by_test : (x : Bool) → is_closed e ≡ x → type_byte e' % 16 < 5
    by_test true z = subst (λ (y : List ℕ). type_byte y % 16 < 5) (sym (m.closed z)) h
    by_test false z = elim (m.unclosed z) [
      | inl none ↦ subst (λ (n : ℕ). n % 16 < 5) (sym none) (omega arith)
      | inr same ↦ subst (λ (y : List ℕ). type_byte y % 16 < 5) (sym same) h
    ]

lies_swept : (tracks : ℕ) (a b : Content) (l : Layout) (n : ℕ) → Sound tracks a l → Sweeps a b l → n < slot_count l → Lies tracks b (entry_at b l.directory n) (l.files n)
lies_swept tracks a b l n s w k = by_test (is_closed (entry_at a l.directory n)) refl
  where
    by_test : (x : Bool) → is_closed (entry_at a l.directory n) ≡ x → Lies tracks b (entry_at b l.directory n) (l.files n)
    by_test true z = subst (λ (e : List ℕ). Lies tracks b e (l.files n)) (sym ((w.entries n k).closed z))
        (lies_kept tracks a b l.owner (DataOf n) (SideOf n) (entry_at a l.directory n) (l.files n) (w.blocks n) (w.sides n) (s.owned.blocks n k) (s.owned.sides n k) (s.lies n k))
    by_test false z = lies_open tracks a b (entry_at a l.directory n) (entry_at b l.directory n) (l.files n) z (stays_open (entry_at a l.directory n) (entry_at b l.directory n) (w.entries n k) z) (s.lies n k)

-- A SOUND DISK STAYS SOUND, where the map that it has then is right
pub sound_swept : (tracks : ℕ) (a b : Content) (l : Layout) → Sound tracks a l → Sweeps a b l → ((p : Place) → Has tracks p → IsCellWritable (b p)) → IsOk (b directory_head)
    → ((p : Place) → Has tracks p → is_free_in (map_of b) p ≡ true → l.owner p ≡ Nobody) → IsCounted tracks (map_of b) → Sound tracks b l
sound_swept tracks a b l s w writable reads free counted = record {
  owned = s.owned;
  writable = writable;
  map_reads = reads;
  directory = chain_links tracks a b l.owner Directory w.links first_directory l.directory s.owned.directory s.directory;
  kinds = λ n k. kind_swept (entry_at a l.directory n) (entry_at b l.directory n) (w.entries n k) (s.kinds n k);
  lies = λ n k. lies_swept tracks a b l n s w k;
  free = free;
  counted = counted;
}

-- ---- slots

pub open_known : (bytes e : List ℕ) (b : Blocks) → is_closed e ≡ false → known (slot_with bytes e b) ≡ None
open_known bytes e b h = by_test (type_byte e == 0)
  where
    by_test : (x : Bool) → known (if x then None else Some (file_of bytes e b)) ≡ None
    by_test true = refl
    by_test false = ap (λ (y : Bool). if y then Some (file_of bytes e b) else None) (closed_of bytes e b ∙ h)

pub open_goes : (bytes e : List ℕ) (b : Blocks) → is_closed e ≡ false → only_closed (slot_with bytes e b) ≡ None
open_goes bytes e b h = by_test (type_byte e == 0)
  where
    by_test : (x : Bool) → only_closed (if x then None else Some (file_of bytes e b)) ≡ None
    by_test true = refl
    by_test false = ap (λ (y : Bool). if y then Some (file_of bytes e b) else None) (closed_of bytes e b ∙ h)

pub closed_stays : (bytes e : List ℕ) (b : Blocks) → is_closed e ≡ true → only_closed (slot_with bytes e b) ≡ slot_with bytes e b
closed_stays bytes e b h = by_test (type_byte e == 0)
  where
    by_test : (x : Bool) → only_closed (if x then None else Some (file_of bytes e b)) ≡ (if x then None else Some (file_of bytes e b))
    by_test true = refl
    by_test false = ap (λ (y : Bool). if y then Some (file_of bytes e b) else None) (closed_of bytes e b ∙ h)

pub empty_slot : (bytes e : List ℕ) (b : Blocks) → type_byte e ≡ 0 → slot_with bytes e b ≡ None
empty_slot bytes e b z = ap (λ (x : Bool). if x then None else Some (file_of bytes e b)) (eq-eqb (type_byte e) 0 z)
