-- A write of one entry of the directory changes one slot.
use Rattle.std.proofs.Common.{◌≡◌, ◌≢◌, ℕ, ◌/◌, ◌%◌, ◌<◌, List, get_or, true, IsOk, refl, sym, ap, subst, ◌∙◌, arith, inl, inr, None}
use Rattle.std.proofs.lemmas.Bool.{cases_eq, eq-eqb, ne_eqb}
use Rattle.std.proofs.lemmas.List.{length-set, get_or-set_same, get_or-set_other}
use Rattle.cbm_medium.specs.Place.{Place, directory_head, Has}
use Rattle.cbm_medium.specs.Content.{Cell, Content, written}
use Rattle.cbm_medium.specs.Links.{bytes_at, link}
use Rattle.cbm_file.specs.Files.{Disk, with_slot, file_at}
use Rattle.cbm_bam.specs.Map.{is_free_in, IsCounted, map_of}
use Rattle.cbm_directory.specs.Entries.{HasEntry, entry_of, type_byte, sector_of, entry_at, first_directory}
use Rattle.cbm_volume.specs.Blocks.{Blocks, Lies, slot_of}
use Rattle.cbm_volume.specs.Layouts.{Owner, Nobody, TheMap, Directory, DataOf, SideOf, OwnedBy, Layout, IsOwned, with_blocks, slot_count, Sound, Describes}
use Rattle.cbm_medium.proofs.Places.{place_decide, written_there, written_elsewhere}
use Rattle.cbm_volume.proofs.layouts.Frames.{Keeps, KeepsLinks, owned_nth, sector_kept, chain_links, lies_kept, slot_kept, write_keeps}
use Rattle.cbm_volume.proofs.layouts.Loose.{writable_written, sector_owned}
use Rattle.cbm_volume.proofs.layouts.Chained.{chain_distinct}

abbrev pub with_file : Layout → ℕ → Blocks → (Place → Owner) → Layout
with_file l n b owner = record l { files = with_blocks l.files n b; owner = owner }

-- the content with this sector of the directory in the slot's place
abbrev pub with_sector : Content → Layout → ℕ → List ℕ → Content
with_sector c l n new = written c (sector_of l.directory n) new

pub blocks_here : (f : ℕ → Blocks) (n : ℕ) (b : Blocks) → with_blocks f n b n ≡ b
blocks_here f n b = rw (eq-eqb n n refl) refl

pub blocks_other : (f : ℕ → Blocks) (n m : ℕ) (b : Blocks) → m ≢ n → with_blocks f n b m ≡ f m
blocks_other f n m b ne = rw (ne_eqb m n ne) refl

new_sector : (c : Content) (l : Layout) (n : ℕ) (new : List ℕ) → bytes_at (with_sector c l n new) (sector_of l.directory n) ≡ new
new_sector c l n new = ap (λ (x : Cell). bytes_at (λ q. x) directory_head) (written_there c (sector_of l.directory n) new)

pub entry_here : (c : Content) (l : Layout) (n : ℕ) (new entry : List ℕ) → HasEntry (bytes_at c (sector_of l.directory n)) new (n % 8) entry → entry_at (with_sector c l n new) l.directory n ≡ entry
entry_here c l n new entry h = ap (λ (x : List ℕ). entry_of x (n % 8)) (new_sector c l n new) ∙ h.here

pub entry_other : (tracks : ℕ) (c : Content) (l : Layout) (n m : ℕ) (new entry : List ℕ) → Sound tracks c l → n < slot_count l → m < slot_count l → m ≢ n
    → HasEntry (bytes_at c (sector_of l.directory n)) new (n % 8) entry → entry_at (with_sector c l n new) l.directory m ≡ entry_at c l.directory m
entry_other tracks c l n m new entry s a b ne h = elim (cases_eq (m / 8) (n / 8)) [
  | inl e ↦ (let same : sector_of l.directory m ≡ sector_of l.directory n = ap (λ (i : ℕ). get_or l.directory i directory_head) e in
      ap (λ (p : Place). entry_of (bytes_at (with_sector c l n new) p) (m % 8)) same
      ∙ ap (λ (x : List ℕ). entry_of x (m % 8)) (new_sector c l n new)
      ∙ h.others (m % 8) (omega arith) (omega arith)
      ∙ ap (λ (p : Place). entry_of (bytes_at c p) (m % 8)) (sym same))
  | inr apart ↦ ap (λ (x : Cell). entry_of (bytes_at (λ q. x) directory_head) (m % 8))
      (written_elsewhere c (sector_of l.directory n) (sector_of l.directory m) new
      (λ e. apart (chain_distinct tracks c first_directory l.directory (m / 8) (n / 8) directory_head s.directory (omega arith) (omega arith) (sym e))))
]

-- the directory's links stay
dir_links : (tracks : ℕ) (c : Content) (l : Layout) (n : ℕ) (new entry : List ℕ) → HasEntry (bytes_at c (sector_of l.directory n)) new (n % 8) entry → KeepsLinks c (with_sector c l n new) l.owner Directory
dir_links tracks c l n new entry h p w ok = elim (place_decide (sector_of l.directory n) p) [
  | inl e ↦ subst (λ (q : Place). IsOk (with_sector c l n new q) × (link (bytes_at (with_sector c l n new) q) ≡ link (bytes_at c q))) e
      (subst (λ (x : Cell). IsOk x) (sym (written_there c (sector_of l.directory n) new)) refl, ap link (new_sector c l n new) ∙ h.link)
  | inr ne ↦ (let e = written_elsewhere c (sector_of l.directory n) p new ne in
      (subst (λ (x : Cell). IsOk x) (sym e) ok, ap (λ (x : Cell). link (bytes_at (λ q. x) p)) e))
]

-- what the directory's sectors are not
dir_keeps : (c : Content) (l : Layout) (owner : Place → Owner) (n : ℕ) (new : List ℕ) (o : Owner) → owner (sector_of l.directory n) ≡ Directory → Directory ≢ o → Keeps c (with_sector c l n new) owner o
dir_keeps c l owner n new o w ne = write_keeps c (sector_of l.directory n) new owner o (λ e. ne (sym w ∙ e))

map_stays : (c : Content) (l : Layout) (n : ℕ) (new : List ℕ) → IsOwned l → n < slot_count l → map_of (with_sector c l n new) ≡ map_of c
map_stays c l n new w k = sector_kept c (with_sector c l n new) l.owner TheMap (dir_keeps c l l.owner n new TheMap (sector_owned l w n k) (λ e. (cc))) directory_head w.map

-- (c) SOUND SURVIVES A WRITE OF ONE ENTRY whose file lies where its owner says
pub sound_entry : (tracks : ℕ) (c : Content) (l : Layout) (n : ℕ) (new entry : List ℕ) (b : Blocks) (owner : Place → Owner) → Sound tracks c l → n < slot_count l
    → HasEntry (bytes_at c (sector_of l.directory n)) new (n % 8) entry → type_byte entry % 16 < 5 → Lies tracks c entry b
    → IsOwned (with_file l n b owner) → ((p : Place) → Has tracks p → is_free_in (map_of c) p ≡ true → owner p ≡ Nobody)
    → Sound tracks (with_sector c l n new) (with_file l n b owner)
sound_entry tracks c l n new entry b owner s k h t lie w f =
    let c' : Content = with_sector c l n new in
    let map : map_of c' ≡ map_of c = map_stays c l n new s.owned k in
    record {
      owned = w;
      writable = writable_written tracks c (sector_of l.directory n) new s.writable;
      map_reads = subst (λ (x : Cell). IsOk x) (sym (dir_keeps c l l.owner n new TheMap (sector_owned l s.owned n k) (λ e. (cc)) directory_head s.owned.map)) s.map_reads;
      directory = chain_links tracks c c' l.owner Directory (dir_links tracks c l n new entry h) first_directory l.directory s.owned.directory s.directory;
      kinds = λ m j. elim (cases_eq m n) [
        | inl e ↦ subst (λ (i : ℕ). type_byte (entry_at c' l.directory i) % 16 < 5) (sym e) (subst (λ (x : List ℕ). type_byte x % 16 < 5) (sym (entry_here c l n new entry h)) t)
        | inr ne ↦ subst (λ (x : List ℕ). type_byte x % 16 < 5) (sym (entry_other tracks c l n m new entry s k j ne h)) (s.kinds m j)
      ];
      lies = λ m j. elim (cases_eq m n) [
        | inl e ↦ subst (λ (i : ℕ). Lies tracks c' (entry_at c' l.directory i) (with_blocks l.files n b i)) (sym e)
            (subst (λ (x : List ℕ). Lies tracks c' x (with_blocks l.files n b n)) (sym (entry_here c l n new entry h))
            (subst (λ (x : Blocks). Lies tracks c' entry x) (sym (blocks_here l.files n b))
            (lies_kept tracks c c' owner (DataOf n) (SideOf n) entry b (moved (DataOf n) (λ z. (cc))) (moved (SideOf n) (λ z. (cc)))
            (subst (λ (x : Blocks). OwnedBy owner (DataOf n) x.data_blocks) (blocks_here l.files n b) (w.blocks n k))
            (subst (λ (x : Blocks). OwnedBy owner (SideOf n) x.sides) (blocks_here l.files n b) (w.sides n k)) lie)))
        | inr ne ↦ subst (λ (x : List ℕ). Lies tracks c' x (with_blocks l.files n b m)) (sym (entry_other tracks c l n m new entry s k j ne h))
            (subst (λ (x : Blocks). Lies tracks c' (entry_at c l.directory m) x) (sym (blocks_other l.files n m b ne))
            (lies_kept tracks c c' l.owner (DataOf m) (SideOf m) (entry_at c l.directory m) (l.files m) (stay (DataOf m) (λ z. (cc))) (stay (SideOf m) (λ z. (cc)))
            (s.owned.blocks m j) (s.owned.sides m j) (s.lies m j)))
      ];
      free = λ p j e. f p j (subst (λ (x : List ℕ). is_free_in x p ≡ true) map e);
      counted = subst (λ (x : List ℕ). IsCounted tracks x) (sym map) s.counted;
    }
  where
    stay : (o : Owner) → Directory ≢ o → Keeps c (with_sector c l n new) l.owner o
    stay o ne = dir_keeps c l l.owner n new o (sector_owned l s.owned n k) ne

    moved : (o : Owner) → Directory ≢ o → Keeps c (with_sector c l n new) owner o
    moved o ne = dir_keeps c l owner n new o (owned_nth owner Directory l.directory (n / 8) directory_head w.directory (omega arith)) ne

-- and the disk has this file in the slot
pub describes_entry : (tracks : ℕ) (c : Content) (l : Layout) (d : Disk) (n : ℕ) (new entry : List ℕ) (b : Blocks) (owner : Place → Owner) → Sound tracks c l → Describes tracks c l d → n < slot_count l
    → HasEntry (bytes_at c (sector_of l.directory n)) new (n % 8) entry → IsOwned (with_file l n b owner)
    → Describes tracks (with_sector c l n new) (with_file l n b owner) (with_slot d n (slot_of c entry b))
describes_entry tracks c l d n new entry b owner s g k h w =
    let c' : Content = with_sector c l n new in
    let map : map_of c' ≡ map_of c = map_stays c l n new s.owned k in
    record {
      title = rw map g.title;
      mark = rw map g.mark;
      size = length-set d.slots n (slot_of c entry b) ∙ g.size;
      slots = λ m j. elim (cases_eq m n) [
        | inl e ↦ subst (λ (i : ℕ). file_at (with_slot d n (slot_of c entry b)) i ≡ slot_of c' (entry_at c' l.directory i) (with_blocks l.files n b i)) (sym e)
            (get_or-set_same d.slots n (slot_of c entry b) None (omega (arith, g.size))
            ∙ sym (slot_kept c c' owner (DataOf n) entry b (moved (DataOf n) (λ z. (cc))) (subst (λ (x : Blocks). OwnedBy owner (DataOf n) x.data_blocks) (blocks_here l.files n b) (w.blocks n k)))
            ∙ ap (λ (x : List ℕ). slot_of c' x b) (sym (entry_here c l n new entry h))
            ∙ ap (λ (x : Blocks). slot_of c' (entry_at c' l.directory n) x) (sym (blocks_here l.files n b)))
        | inr ne ↦ get_or-set_other d.slots n m (slot_of c entry b) None ne ∙ g.slots m j
            ∙ sym (slot_kept c c' l.owner (DataOf m) (entry_at c l.directory m) (l.files m) (stay (DataOf m) (λ z. (cc))) (s.owned.blocks m j))
            ∙ ap (λ (x : List ℕ). slot_of c' x (l.files m)) (sym (entry_other tracks c l n m new entry s k j ne h))
            ∙ ap (λ (x : Blocks). slot_of c' (entry_at c' l.directory m) x) (sym (blocks_other l.files n m b ne))
      ];
      total = g.total;
      room = rw map g.room;
      free = rw map g.free;
    }
  where
    stay : (o : Owner) → Directory ≢ o → Keeps c (with_sector c l n new) l.owner o
    stay o ne = dir_keeps c l l.owner n new o (sector_owned l s.owned n k) ne

    moved : (o : Owner) → Directory ≢ o → Keeps c (with_sector c l n new) owner o
    moved o ne = dir_keeps c l owner n new o (owned_nth owner Directory l.directory (n / 8) directory_head w.directory (omega arith)) ne
