-- A write to a sector that is no part of the disk changes nothing.
use Rattle.std.proofs.Common.{◌≡◌, ◌≢◌, ℕ, ◌/◌, ◌%◌, ◌<◌, List, true, false, IsOk, refl, sym, ap, subst, ◌∙◌, arith}
use Rattle.cbm_medium.specs.Place.{Place, directory_head, Has}
use Rattle.cbm_medium.specs.Content.{Cell, Content, written}
use Rattle.cbm_file.specs.Files.{Disk}
use Rattle.cbm_bam.specs.Map.{is_free_in, IsCounted, map_of}
use Rattle.cbm_directory.specs.Entries.{entry_of, type_byte, sector_of, entry_at, first_directory}
use Rattle.cbm_volume.specs.Blocks.{Lies, slot_of}
use Rattle.cbm_volume.specs.Layouts.{Owner, TheMap, Directory, DataOf, SideOf, is_loose, Layout, IsOwned, IsCellWritable, slot_count, Sound, Describes}
use Rattle.cbm_medium.proofs.Places.{written_each}
use Rattle.cbm_volume.proofs.layouts.Frames.{Keeps, owned_nth, sector_kept, chain_kept, lies_kept, slot_kept, write_keeps}

pub loose_apart : (x o : Owner) → is_loose x ≡ true → is_loose o ≡ false → x ≢ o
loose_apart x o h k e = let f = ap is_loose e in cc

-- a slot's sector is the directory's
pub sector_owned : (l : Layout) → IsOwned l → (n : ℕ) → n < slot_count l → l.owner (sector_of l.directory n) ≡ Directory
sector_owned l w n h = owned_nth l.owner Directory l.directory (n / 8) directory_head w.directory (omega arith)

pub entry_kept : (c c' : Content) (l : Layout) → IsOwned l → Keeps c c' l.owner Directory → (n : ℕ) → n < slot_count l → entry_at c' l.directory n ≡ entry_at c l.directory n
entry_kept c c' l w k n h = ap (λ (x : List ℕ). entry_of x (n % 8)) (sector_kept c c' l.owner Directory k (sector_of l.directory n) (sector_owned l w n h))

pub writable_written : (tracks : ℕ) (c : Content) (p : Place) (bytes : List ℕ) → ((q : Place) → Has tracks q → IsCellWritable (c q)) → (q : Place) → Has tracks q → IsCellWritable (written c p bytes q)
writable_written tracks c p bytes h q k = written_each IsCellWritable c p bytes q tt (h q k)

-- (a) SOUND SURVIVES A WRITE TO A SECTOR THAT IS NO PART OF THE DISK
pub sound_loose : (tracks : ℕ) (c : Content) (l : Layout) (p : Place) (bytes : List ℕ) → Sound tracks c l → is_loose (l.owner p) ≡ true → Sound tracks (written c p bytes) l
sound_loose tracks c l p bytes s h =
    let c' : Content = written c p bytes in
    let map : map_of c' ≡ map_of c = sector_kept c c' l.owner TheMap (keep TheMap refl) directory_head s.owned.map in
    let dir : Keeps c c' l.owner Directory = keep Directory refl in
    record {
      owned = s.owned;
      writable = writable_written tracks c p bytes s.writable;
      map_reads = subst (λ (x : Cell). IsOk x) (sym (keep TheMap refl directory_head s.owned.map)) s.map_reads;
      directory = chain_kept tracks c c' l.owner Directory dir first_directory l.directory s.owned.directory s.directory;
      kinds = λ n k. subst (λ (x : List ℕ). type_byte x % 16 < 5) (sym (entry_kept c c' l s.owned dir n k)) (s.kinds n k);
      lies = λ n k. lies_kept tracks c c' l.owner (DataOf n) (SideOf n) (entry_at c' l.directory n) (l.files n) (keep (DataOf n) refl) (keep (SideOf n) refl) (s.owned.blocks n k) (s.owned.sides n k)
          (subst (λ (x : List ℕ). Lies tracks c x (l.files n)) (sym (entry_kept c c' l s.owned dir n k)) (s.lies n k));
      free = λ q k f. s.free q k (subst (λ (x : List ℕ). is_free_in x q ≡ true) map f);
      counted = subst (λ (x : List ℕ). IsCounted tracks x) (sym map) s.counted;
    }
  where
    keep : (o : Owner) → is_loose o ≡ false → Keeps c (written c p bytes) l.owner o
    keep o k = write_keeps c p bytes l.owner o (loose_apart (l.owner p) o h k)

-- and the disk is the same
pub describes_loose : (tracks : ℕ) (c : Content) (l : Layout) (d : Disk) (p : Place) (bytes : List ℕ) → Sound tracks c l → Describes tracks c l d → is_loose (l.owner p) ≡ true → Describes tracks (written c p bytes) l d
describes_loose tracks c l d p bytes s m h =
    let c' : Content = written c p bytes in
    let map : map_of c' ≡ map_of c = sector_kept c c' l.owner TheMap (keep TheMap refl) directory_head s.owned.map in
    record {
      title = rw map m.title;
      mark = rw map m.mark;
      size = m.size;
      slots = λ n k. m.slots n k ∙ sym (slot_kept c c' l.owner (DataOf n) (entry_at c l.directory n) (l.files n) (keep (DataOf n) refl) (s.owned.blocks n k))
          ∙ ap (λ (x : List ℕ). slot_of c' x (l.files n)) (sym (entry_kept c c' l s.owned (keep Directory refl) n k));
      total = m.total;
      room = rw map m.room;
      free = rw map m.free;
    }
  where
    keep : (o : Owner) → is_loose o ≡ false → Keeps c (written c p bytes) l.owner o
    keep o k = write_keeps c p bytes l.owner o (loose_apart (l.owner p) o h k)
