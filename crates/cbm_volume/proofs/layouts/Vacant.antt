-- What a sound disk has room for: its free blocks are the map's free bits, and a slot is empty where an entry is.
use Rattle.std.proofs.Common.{◌≡◌, ◌⊎◌, ℕ, ◌+◌, ◌≤◌, List, [], ◌∷◌, Bool, true, false, IsOk, refl, sym, ap, subst, ◌∙◌, arith, inl, inr, Option, Some, None, Result, Ok, Err}
use Rattle.std.specs.Prelude.{◌||◌, nat_lt, if◌then◌else◌, find, is_some, IfOk, IfErr, IsOkAnd}
use Rattle.std.specs.List.{AllZip}
use Rattle.cbm_medium.specs.Place.{directory_head}
use Rattle.cbm_medium.specs.Content.{Cell, Content}
use Rattle.cbm_medium.specs.declared.fault.Trouble.{Trouble}
use Rattle.cbm_file.specs.Files.{File, Disk, empty_from}
use Rattle.cbm_file.specs.Changes.{has_slot}
use Rattle.cbm_bam.specs.Map.{is_free_in, map_of, number, geometry_of}
use Rattle.cbm_bam.specs.Orders.{directory_order}
use Rattle.cbm_bam.proofs.Counts.{free_is_number}
use Rattle.cbm_bam.proofs.Rooms.{room_found}
use Rattle.cbm_directory.specs.Slots.{directory_of}
use Rattle.cbm_directory.specs.Empties.{empty_in}
use Rattle.cbm_volume.specs.declared.disk.room.Room.{Room}
use Rattle.cbm_volume.specs.Layouts.{Layout, Sound, HasLayout}
use Rattle.cbm_volume.specs.Holding.{HoldsDisk, SlotSays}
use Rattle.cbm_volume.proofs.layouts.Telling.{told}
use Rattle.cbm_volume.proofs.written.Storing.{few}

-- the first empty entry stands in the first empty slot
pub empty_told : (k : ℕ) (slots : List (Option File)) (entries : List (List ℕ)) → AllZip SlotSays slots entries → empty_in k entries ≡ empty_from k slots
empty_told k [] [] h = refl
empty_told k [] (e ∷ es) h = absurd h
empty_told k (s ∷ ss) [] h = absurd h
empty_told k (None ∷ ss) (e ∷ es) h = ap (λ (b : Bool). if b then Some k else empty_in (k + 1) es) h.0
empty_told k (Some f ∷ ss) (e ∷ es) h = ap (λ (b : Bool). if b then Some k else empty_in (k + 1) es) h.0.used ∙ empty_told (k + 1) ss es h.1

pub empty_of : (tracks : ℕ) (c : Content) (l : Layout) (d : Disk) → HasLayout tracks c l d → empty_in 0 (directory_of tracks c).entries ≡ empty_from 0 d.slots
empty_of tracks c l d st = empty_told 0 d.slots (directory_of tracks c).entries (told tracks c l d st).each

-- the map's own sector isn't free
pub head_taken : (tracks : ℕ) (c : Content) (l : Layout) → 18 ≤ tracks → Sound tracks c l → is_free_in (map_of c) directory_head ≡ false
head_taken tracks c l few s = by_bit (is_free_in (map_of c) directory_head) refl
  where
    by_bit : (b : Bool) → is_free_in (map_of c) directory_head ≡ b → is_free_in (map_of c) directory_head ≡ false
    by_bit false e = e
    by_bit true e = absurd (let z = sym s.owned.map ∙ s.free directory_head (omega arith, few, omega arith) e in (cc))

pub room_of : (tracks : ℕ) (c : Content) (l : Layout) (d : Disk) → 18 ≤ tracks → HasLayout tracks c l d → is_some (find (is_free_in (map_of c)) directory_order) ≡ nat_lt 0 d.room
room_of tracks c l d few st = room_found (is_free_in (map_of c)) (head_taken tracks c l few st.sound) ∙ ap (nat_lt 0) (sym st.describes.room)

pub slot_of_disk : (tracks : ℕ) (c : Content) (l : Layout) (d : Disk) → 18 ≤ tracks → HasLayout tracks c l d
    → (is_some (empty_in 0 (directory_of tracks c).entries) || is_some (find (is_free_in (map_of c)) directory_order)) ≡ has_slot d
slot_of_disk tracks c l d few st =
    ap (λ (o : Option ℕ). is_some o || is_some (find (is_free_in (map_of c)) directory_order)) (empty_of tracks c l d st)
    ∙ ap (λ (b : Bool). is_some (empty_from 0 d.slots) || b) (room_of tracks c l d few st)

pub free_of_disk : (tracks : ℕ) (c : Content) (l : Layout) (d : Disk) → HasLayout tracks c l d → number tracks (is_free_in (map_of c)) ≡ d.free
free_of_disk tracks c l d st = sym (st.describes.free ∙ free_is_number tracks (map_of c) st.sound.counted)

-- the map of a sound disk reads
pub map_reads : (tracks : ℕ) (c : Content) (l : Layout) (code : ℕ) → Sound tracks c l → c directory_head ≡ Err code → ⊥
map_reads tracks c l code s e = let z = subst (λ (y : Cell). IsOk y) e s.map_reads in (cc)

-- nothing breaks a sound disk's directory off
pub never_broken : (tracks : ℕ) (c : Content) (l : Layout) (d : Disk) (t : Trouble) → HasLayout tracks c l d → (directory_of tracks c).trouble ≡ Some t → ⊥
never_broken tracks c l d t st e = let z = sym (told tracks c l d st).whole ∙ e in (cc)

-- WHAT A SOUND DISK HAS ROOM FOR
-- how many blocks are free on a sound disk
pub blocks_mean : (medium : ℕ) (c : Content) (r : Result ℕ Trouble) → IfOk r (λ n. n ≡ number (geometry_of medium c) (is_free_in (map_of c)))
    → IfErr r (λ t. (c directory_head ≡ Err t.code) × (t.track ≡ 18) × (t.sector ≡ 0)) → (d : Disk) → HoldsDisk medium c d → IsOkAnd r (λ n. n ≡ d.free)
blocks_mean medium c (Ok n) blocks err d m = blocks ∙ free_of_disk (geometry_of medium c) c m.layout d m.stands
blocks_mean medium c (Err t) blocks err d m = absurd (map_reads (geometry_of medium c) c m.layout t.code m.stands.sound err.0)

pub room_means : (medium : ℕ) (c : Content) (r : Result Room Trouble) → IfOk r (λ x. x.blocks ≡ number (geometry_of medium c) (is_free_in (map_of c)))
    → IfOk r (λ x. x.slot ≡ (is_some (empty_in 0 (directory_of (geometry_of medium c) c).entries) || is_some (find (is_free_in (map_of c)) directory_order)))
    → IfErr r (λ t. ((c directory_head ≡ Err t.code) × (t.track ≡ 18) × (t.sector ≡ 0)) ⊎ ((directory_of (geometry_of medium c) c).trouble ≡ Some t))
    → (d : Disk) → HoldsDisk medium c d → IsOkAnd r (λ x. (x.blocks ≡ d.free) × (x.slot ≡ has_slot d))
room_means medium c (Ok x) blocks slot err d m =
    (blocks ∙ free_of_disk (geometry_of medium c) c m.layout d m.stands, slot ∙ slot_of_disk (geometry_of medium c) c m.layout d (few medium c) m.stands)
room_means medium c (Err t) blocks slot (inl k) d m = absurd (map_reads (geometry_of medium c) c m.layout t.code m.stands.sound k.0)
room_means medium c (Err t) blocks slot (inr k) d m = absurd (never_broken (geometry_of medium c) c m.layout d t m.stands k)
