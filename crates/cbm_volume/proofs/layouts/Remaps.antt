-- A write of the map: claims, releases, a map written anew.
use Rattle.std.proofs.Common.{◌≡◌, ◌≢◌, ℕ, ◌%◌, ◌<◌, List, Bool, true, IsOk, refl, sym, ap, subst, ◌∙◌, arith, inl, inr}
use Rattle.std.specs.Prelude.{slice_range}
use Rattle.cbm_medium.specs.Place.{Place, directory_head, Has}
use Rattle.cbm_medium.specs.Content.{Cell, Content, written}
use Rattle.cbm_medium.specs.Links.{bytes_at}
use Rattle.cbm_file.specs.Files.{Disk}
use Rattle.cbm_bam.specs.Map.{is_free_in, free_in, tally, IsCounted, IsMapped, map_of}
use Rattle.cbm_directory.specs.Entries.{type_byte, entry_at, first_directory}
use Rattle.cbm_volume.specs.Blocks.{Lies, slot_of}
use Rattle.cbm_volume.specs.Layouts.{Owner, Nobody, TheMap, Directory, DataOf, SideOf, Layout, IsOwned, Sound, Describes}
use Rattle.cbm_medium.proofs.Places.{written_there}
use Rattle.cbm_directory.proofs.Written.{range_same}
use Rattle.cbm_volume.proofs.layouts.Frames.{Keeps, chain_kept, lies_kept, slot_kept, write_keeps}
use Rattle.cbm_volume.proofs.layouts.Loose.{entry_kept, writable_written}

abbrev pub with_owner : Layout → (Place → Owner) → Layout
with_owner l owner = record l { owner = owner }

abbrev pub with_map : Content → List ℕ → Content
with_map c map = written c directory_head map

pub map_is : (c : Content) (map : List ℕ) → bytes_at (with_map c map) directory_head ≡ map
map_is c map = ap (λ (x : Cell). bytes_at (λ q. x) directory_head) (written_there c directory_head map)

map_apart : (l : Layout) → IsOwned l → (o : Owner) → TheMap ≢ o → l.owner directory_head ≢ o
map_apart l w o ne e = ne (sym w.map ∙ e)

pub map_keeps : (c : Content) (l : Layout) (map : List ℕ) (o : Owner) → IsOwned l → TheMap ≢ o → Keeps c (with_map c map) l.owner o
map_keeps c l map o w ne = write_keeps c directory_head map l.owner o (map_apart l w o ne)

-- SOUND SURVIVES A WRITE OF THE MAP in which what is free is nobody's
pub sound_remap : (tracks : ℕ) (c : Content) (l : Layout) (map : List ℕ) (free : Place → Bool) (owner : Place → Owner) → Sound tracks c l → IsMapped tracks (map_of c) map free
    → IsOwned (with_owner l owner) → ((p : Place) → Has tracks p → free p ≡ true → owner p ≡ Nobody) → Sound tracks (with_map c map) (with_owner l owner)
sound_remap tracks c l map free owner s m w f =
    let c' : Content = with_map c map in
    let new : map_of c' ≡ map = map_is c map in
    let dir : Keeps c c' l.owner Directory = map_keeps c l map Directory s.owned (λ e. (cc)) in
    record {
      owned = w;
      writable = writable_written tracks c directory_head map s.writable;
      map_reads = subst (λ (x : Cell). IsOk x) (sym (written_there c directory_head map)) refl;
      directory = chain_kept tracks c c' l.owner Directory dir first_directory l.directory s.owned.directory s.directory;
      kinds = λ n k. subst (λ (x : List ℕ). type_byte x % 16 < 5) (sym (entry_kept c c' l s.owned dir n k)) (s.kinds n k);
      lies = λ n k. lies_kept tracks c c' l.owner (DataOf n) (SideOf n) (entry_at c' l.directory n) (l.files n)
          (map_keeps c l map (DataOf n) s.owned (λ e. (cc))) (map_keeps c l map (SideOf n) s.owned (λ e. (cc))) (s.owned.blocks n k) (s.owned.sides n k)
          (subst (λ (x : List ℕ). Lies tracks c x (l.files n)) (sym (entry_kept c c' l s.owned dir n k)) (s.lies n k));
      free = λ p k e. f p k (sym (m.bits p k) ∙ subst (λ (x : List ℕ). is_free_in x p ≡ true) new e);
      counted = subst (λ (x : List ℕ). IsCounted tracks x) (sym new) (m.counted s.counted);
    }

-- the disk with what the map now has
abbrev pub with_counts : ℕ → Disk → List ℕ → Disk
with_counts tracks d map = record d { room = tally (is_free_in map) 18 19; free = free_in tracks map }

pub describes_remap : (tracks : ℕ) (c : Content) (l : Layout) (d : Disk) (map : List ℕ) (free : Place → Bool) (owner : Place → Owner) → Sound tracks c l → Describes tracks c l d → IsMapped tracks (map_of c) map free
    → Describes tracks (with_map c map) (with_owner l owner) (with_counts tracks d map)
describes_remap tracks c l d map free owner s m h =
    let c' : Content = with_map c map in
    let new : map_of c' ≡ map = map_is c map in
    let dir : Keeps c c' l.owner Directory = map_keeps c l map Directory s.owned (λ e. (cc)) in
    record {
      title = m.title ∙ sym (ap (λ (x : List ℕ). slice_range x 144 160) new ∙ range_same map (map_of c) 144 160 h.length (λ i a b. h.outside i (inr (a, inr (inl (omega arith))))));
      mark = m.mark ∙ sym (ap (λ (x : List ℕ). slice_range x 162 167) new ∙ range_same map (map_of c) 162 167 h.length (λ i a b. h.outside i (inr (omega arith, inr (inl (omega arith))))));
      size = m.size;
      slots = λ n k. m.slots n k ∙ sym (slot_kept c c' l.owner (DataOf n) (entry_at c l.directory n) (l.files n) (map_keeps c l map (DataOf n) s.owned (λ e. (cc))) (s.owned.blocks n k))
          ∙ ap (λ (x : List ℕ). slot_of c' x (l.files n)) (sym (entry_kept c c' l s.owned dir n k));
      total = m.total;
      room = ap (λ (x : List ℕ). tally (is_free_in x) 18 19) (sym new);
      free = ap (λ (x : List ℕ). free_in tracks x) (sym new);
    }
