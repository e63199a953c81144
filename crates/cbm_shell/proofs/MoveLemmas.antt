-- Entries change places, and their files stay where they lie: the disk stays sound.
use Rattle.std.proofs.Common.{◌≡◌, ◌≢◌, ℕ, ◌*◌, ◌/◌, ◌%◌, ◌<◌, List, [], ◌∷◌, length, get_or, true, IsOk, refl, sym, ap, subst, ◌∙◌, arith, inl, inr}
use Rattle.std.specs.Prelude.{◌==◌, if◌then◌else◌}
use Rattle.std.proofs.lemmas.Bool.{cases_eq, eq-eqb, ne_eqb}
use Rattle.cbm_medium.specs.Place.{Place, directory_head, Has}
use Rattle.cbm_medium.specs.Content.{Cell, Content}
use Rattle.cbm_medium.specs.Links.{or_nothing, bytes_at, Chain}
use Rattle.cbm_medium.proofs.Places.{written_there, written_elsewhere}
use Rattle.cbm_bam.specs.Map.{is_free_in, IsCounted, map_of}
use Rattle.cbm_directory.specs.Entries.{Enters, entry_of, entry_at, sector_of, first_directory, type_byte}
use Rattle.cbm_volume.specs.Blocks.{Lies}
use Rattle.cbm_volume.specs.Layouts.{Owner, Nobody, TheMap, Directory, DataOf, SideOf, Writer, OwnedBy, IsCellWritable, Layout, IsOwned, slot_count, Sound}
use Rattle.cbm_volume.proofs.layouts.Chained.{chain_distinct}
use Rattle.cbm_volume.proofs.layouts.Frames.{Keeps, sector_kept, lies_kept}
use Rattle.cbm_volume.proofs.layouts.Listing.{entry_found}
use Rattle.cbm_volume.proofs.layouts.Loose.{writable_written, sector_owned}
use Rattle.cbm_shell.specs.declared.changing.swapping.Swap.{Swap}
use Rattle.cbm_shell.specs.Editing.{IsDirectory}
use Rattle.cbm_shell.specs.Swapping.{Swaps, AreSwapped}
use Rattle.cbm_shell.proofs.EntryLemmas.{entered_in, StaysSound, stays_same, then_sound}
use Rattle.cbm_shell.proofs.SlotLemmas.{sound_directory, entered_directory}

-- ---- each slot has the entry of another one

-- the owner under the new numbers of the slots
abbrev moved_owner : (ℕ → ℕ) → Owner → Owner
moved_owner place (DataOf n) = DataOf (place n)
moved_owner place (SideOf n) = SideOf (place n)
moved_owner place Nobody = Nobody
moved_owner place TheMap = TheMap
moved_owner place Directory = Directory
moved_owner place (Writer w) = Writer w

-- the slots with the entries of others, by numbers that lead back, and all but the directory as it was
record Moves (tracks : ℕ) (c c2 : Content) (l : Layout) (place : ℕ → ℕ) : Type 0 where
  pub keeps : (o : Owner) → Directory ≢ o → Keeps c c2 l.owner o
  pub writable : (p : Place) → Has tracks p → IsCellWritable (c2 p)
  pub directory : Chain tracks c2 first_directory l.directory
  pub back : (n : ℕ) → place (place n) ≡ n
  pub room : (n : ℕ) → n < slot_count l → place n < slot_count l
  pub entries : (n : ℕ) → n < slot_count l → entry_at c2 l.directory n ≡ entry_at c l.directory (place n)

abbrev moved : Layout → (ℕ → ℕ) → Layout
moved l place = record { directory = l.directory; files = λ n. l.files (place n); owner = λ p. moved_owner place (l.owner p) }

owned_moved : (place : ℕ → ℕ) (owner : Place → Owner) (o : Owner) (xs : List Place) → OwnedBy owner o xs → OwnedBy (λ p. moved_owner place (owner p)) (moved_owner place o) xs
owned_moved place owner o [] h = tt
owned_moved place owner o (x ∷ xs) h = (ap (moved_owner place) h.0, owned_moved place owner o xs h.1)

from_directory : (place : ℕ → ℕ) (o : Owner) → moved_owner place o ≡ Directory → o ≡ Directory
from_directory place Directory e = refl
from_directory place Nobody e = absurd (cc)
from_directory place TheMap e = absurd (cc)
from_directory place (DataOf n) e = absurd (cc)
from_directory place (SideOf n) e = absurd (cc)
from_directory place (Writer w) e = absurd (cc)

from_data : (place : ℕ → ℕ) (back : (n : ℕ) → place (place n) ≡ n) (o : Owner) (n : ℕ) → moved_owner place o ≡ DataOf n → o ≡ DataOf (place n)
from_data place back (DataOf m) n e = let same : place m ≡ n = cc in ap DataOf (sym (back m) ∙ ap place same)
from_data place back Directory n e = absurd (cc)
from_data place back Nobody n e = absurd (cc)
from_data place back TheMap n e = absurd (cc)
from_data place back (SideOf m) n e = absurd (cc)
from_data place back (Writer w) n e = absurd (cc)

from_side : (place : ℕ → ℕ) (back : (n : ℕ) → place (place n) ≡ n) (o : Owner) (n : ℕ) → moved_owner place o ≡ SideOf n → o ≡ SideOf (place n)
from_side place back (SideOf m) n e = let same : place m ≡ n = cc in ap SideOf (sym (back m) ∙ ap place same)
from_side place back Directory n e = absurd (cc)
from_side place back Nobody n e = absurd (cc)
from_side place back TheMap n e = absurd (cc)
from_side place back (DataOf m) n e = absurd (cc)
from_side place back (Writer w) n e = absurd (cc)

moved_owned : (tracks : ℕ) (c c2 : Content) (l : Layout) (place : ℕ → ℕ) → IsOwned l → Moves tracks c c2 l place → IsOwned (moved l place)
moved_owned tracks c c2 l place w m = record {
  map = ap (moved_owner place) w.map;
  directory = owned_moved place l.owner Directory l.directory w.directory;
  blocks = λ n k. subst (λ (i : ℕ). OwnedBy (λ p. moved_owner place (l.owner p)) (DataOf i) (l.files (place n)).data_blocks) (m.back n)
      (owned_moved place l.owner (DataOf (place n)) (l.files (place n)).data_blocks (w.blocks (place n) (m.room n k)));
  sides = λ n k. subst (λ (i : ℕ). OwnedBy (λ p. moved_owner place (l.owner p)) (SideOf i) (l.files (place n)).sides) (m.back n)
      (owned_moved place l.owner (SideOf (place n)) (l.files (place n)).sides (w.sides (place n) (m.room n k)));
  on_18 = λ p e. w.on_18 p (from_directory place (l.owner p) e);
  off_18 = λ p t n. (λ e. (w.off_18 p t (place n)).0 (from_data place m.back (l.owner p) n e), λ e. (w.off_18 p t (place n)).1 (from_side place m.back (l.owner p) n e));
}

moved_sound : (tracks : ℕ) (c c2 : Content) (l : Layout) (place : ℕ → ℕ) → Sound tracks c l → Moves tracks c c2 l place → StaysSound tracks c c2
moved_sound tracks c c2 l place s m =
    let head : c2 directory_head ≡ c directory_head = m.keeps TheMap (λ e. (cc)) directory_head s.owned.map in
    let map : map_of c2 ≡ map_of c = sector_kept c c2 l.owner TheMap (m.keeps TheMap (λ e. (cc))) directory_head s.owned.map in
    record {
      layout = moved l place;
      sound = record {
        owned = moved_owned tracks c c2 l place s.owned m;
        writable = m.writable;
        map_reads = subst (λ (x : Cell). IsOk x) (sym head) s.map_reads;
        directory = m.directory;
        kinds = λ n k. subst (λ (x : List ℕ). type_byte x % 16 < 5) (sym (m.entries n k)) (s.kinds (place n) (m.room n k));
        lies = λ n k. subst (λ (x : List ℕ). Lies tracks c2 x (l.files (place n))) (sym (m.entries n k))
            (lies_kept tracks c c2 l.owner (DataOf (place n)) (SideOf (place n)) (entry_at c l.directory (place n)) (l.files (place n)) (m.keeps (DataOf (place n)) (λ e. (cc))) (m.keeps (SideOf (place n)) (λ e. (cc)))
            (s.owned.blocks (place n) (m.room n k)) (s.owned.sides (place n) (m.room n k)) (s.lies (place n) (m.room n k)));
        free = λ p k f. ap (moved_owner place) (s.free p k (subst (λ (x : List ℕ). is_free_in x p ≡ true) map f));
        counted = subst (λ (x : List ℕ). IsCounted tracks x) (sym map) s.counted;
      };
      head = head;
    }

-- ---- one write of an entry, on a directory of a disk that needn't be sound

there : (c c2 : Content) (p : Place) (k : ℕ) (entry : List ℕ) (e : Enters c c2 p k entry) → bytes_at c2 p ≡ e.sector
there c c2 p k entry e = ap (λ (x : Content). or_nothing (x p)) e.written ∙ ap or_nothing (written_there c p e.sector)

entry_put : (c c2 : Content) (directory : List Place) (n : ℕ) (entry : List ℕ) → Enters c c2 (sector_of directory n) (n % 8) entry → entry_at c2 directory n ≡ entry
entry_put c c2 directory n entry e = ap (λ (x : List ℕ). entry_of x (n % 8)) (there c c2 (sector_of directory n) (n % 8) entry e) ∙ e.has.here

entry_stays : (tracks : ℕ) (c c2 : Content) (directory : List Place) (n m : ℕ) (entry : List ℕ) → Chain tracks c first_directory directory → n < 8 * length directory → m < 8 * length directory → m ≢ n
    → Enters c c2 (sector_of directory n) (n % 8) entry → entry_at c2 directory m ≡ entry_at c directory m
entry_stays tracks c c2 directory n m entry chain a b ne e = elim (cases_eq (m / 8) (n / 8)) [
  | inl q ↦ (let same : sector_of directory m ≡ sector_of directory n = ap (λ (i : ℕ). get_or directory i directory_head) q in
      ap (λ (p : Place). entry_of (bytes_at c2 p) (m % 8)) same
      ∙ ap (λ (x : List ℕ). entry_of x (m % 8)) (there c c2 (sector_of directory n) (n % 8) entry e)
      ∙ e.has.others (m % 8) (omega arith) (omega arith)
      ∙ ap (λ (p : Place). entry_of (bytes_at c p) (m % 8)) (sym same))
  | inr apart ↦ ap (λ (x : Content). entry_of (bytes_at x (sector_of directory m)) (m % 8)) e.written
      ∙ ap (λ (x : Cell). entry_of (or_nothing x) (m % 8)) (written_elsewhere c (sector_of directory n) (sector_of directory m) e.sector
      (λ z. apart (chain_distinct tracks c first_directory directory (m / 8) (n / 8) directory_head chain (omega arith) (omega arith) (sym z))))
]

put_keeps : (c c2 : Content) (l : Layout) (n k : ℕ) (entry : List ℕ) → IsOwned l → n < slot_count l → Enters c c2 (sector_of l.directory n) k entry → (o : Owner) → Directory ≢ o → Keeps c c2 l.owner o
put_keeps c c2 l n k entry w room e o ne p mine =
    ap (λ (x : Content). x p) e.written ∙ written_elsewhere c (sector_of l.directory n) p e.sector (λ z. ne (sym (sector_owned l w n room) ∙ ap l.owner z ∙ mine))

put_writable : (tracks : ℕ) (c c2 : Content) (at : Place) (k : ℕ) (entry : List ℕ) → Enters c c2 at k entry → ((p : Place) → Has tracks p → IsCellWritable (c p)) → (p : Place) → Has tracks p → IsCellWritable (c2 p)
put_writable tracks c c2 at k entry e h = subst (λ (x : Content). (p : Place) → Has tracks p → IsCellWritable (x p)) (sym e.written) (writable_written tracks c at e.sector h)

-- ---- two slots change places

abbrev other_of : ℕ → ℕ → ℕ → ℕ
other_of a b n = if n == b then a else if n == a then b else n

at_second : (a b n : ℕ) → n ≡ b → other_of a b n ≡ a
at_second a b n e = rw (eq-eqb n b e) refl

at_first : (a b n : ℕ) → n ≢ b → n ≡ a → other_of a b n ≡ b
at_first a b n ne e = rw (ne_eqb n b ne) (rw (eq-eqb n a e) refl)

at_neither : (a b n : ℕ) → n ≢ b → n ≢ a → other_of a b n ≡ n
at_neither a b n ne ne2 = rw (ne_eqb n b ne) (rw (ne_eqb n a ne2) refl)

leads_back : (a b n : ℕ) → other_of a b (other_of a b n) ≡ n
leads_back a b n = elim (cases_eq n b) [
  | inl e ↦ ap (other_of a b) (at_second a b n e) ∙ elim (cases_eq a b) [
    | inl same ↦ at_second a b a same ∙ same ∙ sym e
    | inr apart ↦ at_first a b a apart refl ∙ sym e
  ]
  | inr ne ↦ elim (cases_eq n a) [
    | inl e ↦ ap (other_of a b) (at_first a b n ne e) ∙ at_second a b b refl ∙ sym e
    | inr ne2 ↦ ap (other_of a b) (at_neither a b n ne ne2) ∙ at_neither a b n ne ne2
  ]
]

still_below : (a b n most : ℕ) → a < most → b < most → n < most → other_of a b n < most
still_below a b n most ka kb kn = elim (cases_eq n b) [
  | inl e ↦ subst (λ (i : ℕ). i < most) (sym (at_second a b n e)) ka
  | inr ne ↦ elim (cases_eq n a) [
    | inl e ↦ subst (λ (i : ℕ). i < most) (sym (at_first a b n ne e)) kb
    | inr ne2 ↦ subst (λ (i : ℕ). i < most) (sym (at_neither a b n ne ne2)) kn
  ]
]

-- TWO ENTRIES CHANGE PLACES, and the disk is sound again after both writes
swap_sound : (tracks : ℕ) (swap : Swap) (c c2 : Content) (l : Layout) → Sound tracks c l → Swaps tracks swap c c2 → StaysSound tracks c c2
swap_sound tracks swap c c2 l s h = moved_sound tracks c c2 l (other_of a b) s (record {
  keeps = λ o ne p mine. put_keeps h.between c2 l b (b % 8) h.one s.owned room_b second o ne p mine ∙ put_keeps c h.between l a (a % 8) h.other s.owned room_a first o ne p mine;
  writable = put_writable tracks h.between c2 (sector_of dir b) (b % 8) h.one second (put_writable tracks c h.between (sector_of dir a) (a % 8) h.other first s.writable);
  directory = (entered_directory tracks h.between c2 dir b h.one whole second).chain;
  back = leads_back a b;
  room = λ n k. still_below a b n (slot_count l) room_a room_b k;
  entries = entries;
})
  where
    a : ℕ
    a = swap.first

    b : ℕ
    b = swap.second

    dir : List Place
    dir = l.directory

    found_a : (a < slot_count l) × (h.one ≡ entry_at c dir a)
    found_a = entry_found tracks c l a h.one s h.at_first

    found_b : (b < slot_count l) × (h.other ≡ entry_at c dir b)
    found_b = entry_found tracks c l b h.other s h.at_second

    room_a : a < slot_count l
    room_a = found_a.0

    room_b : b < slot_count l
    room_b = found_b.0

    first : Enters c h.between (sector_of dir a) (a % 8) h.other
    first = entered_in tracks c h.between dir a h.other s.directory room_a h.first

    whole : IsDirectory tracks h.between dir
    whole = entered_directory tracks c h.between dir a h.other (sound_directory tracks c l s) first

    second : Enters h.between c2 (sector_of dir b) (b % 8) h.one
    second = entered_in tracks h.between c2 dir b h.one whole.chain room_b h.second

    entries : (n : ℕ) → n < slot_count l → entry_at c2 dir n ≡ entry_at c dir (other_of a b n)
    entries n k = elim (cases_eq n b) [
      | inl e ↦ ap (entry_at c2 dir) e ∙ entry_put h.between c2 dir b h.one second ∙ found_a.1 ∙ ap (entry_at c dir) (sym (at_second a b n e))
      | inr ne ↦ entry_stays tracks h.between c2 dir b n h.one whole.chain room_b k ne second ∙ elim (cases_eq n a) [
        | inl e ↦ ap (entry_at h.between dir) e ∙ entry_put c h.between dir a h.other first ∙ found_b.1 ∙ ap (entry_at c dir) (sym (at_first a b n ne e))
        | inr ne2 ↦ entry_stays tracks c h.between dir a n h.other s.directory room_a k ne2 first ∙ ap (entry_at c dir) (sym (at_neither a b n ne ne2))
      ]
    ]

-- one pair after the other
pub swaps_sound : (tracks : ℕ) (swaps : List Swap) (c c2 : Content) (l : Layout) → Sound tracks c l → AreSwapped tracks swaps c c2 → StaysSound tracks c c2
swaps_sound tracks [] c c2 l s h = stays_same tracks c c2 l s h
swaps_sound tracks (swap ∷ rest) c c2 l s h =
    let a = swap_sound tracks swap c h.0 l s h.1 in
    then_sound tracks c h.0 c2 a (swaps_sound tracks rest h.0 c2 a.layout a.sound h.2)
