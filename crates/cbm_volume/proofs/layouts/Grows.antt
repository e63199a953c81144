-- One more sector of the directory: it was claimed and written, and now the last one links to it.
use Rattle.std.proofs.Common.{◌≡◌, ◌≢◌, ℕ, suc, ◌-◌, ◌/◌, ◌%◌, ◌<◌, ◌≤◌, List, [], ◌∷◌, ◌++◌, length, get_or, Bool, false, Ok, IsOk, refl, sym, ap, subst, ◌∙◌, arith, rules, inl, inr, Option, Some, None, length-append}
use Rattle.std.specs.Prelude.{if◌then◌else◌, replicate}
use Rattle.std.proofs.lemmas.Bool.{cases_lt, lt-ltb, le-ltb, eq-eqb}
use Rattle.std.proofs.lemmas.List.{get_or-append_right, get_or-replicate, places}
use Rattle.cbm_medium.specs.Place.{Place, directory_head, Has}
use Rattle.cbm_medium.specs.Content.{Cell, Content, written}
use Rattle.cbm_medium.specs.Links.{bytes_at, link, Chain, or_nothing}
use Rattle.cbm_file.specs.Files.{Disk, File}
use Rattle.cbm_bam.specs.Map.{is_free_in, IsCounted, map_of}
use Rattle.cbm_directory.specs.Entries.{entry_of, type_byte, bit_of, is_relative, sector_of, entry_at, first_directory, HasLink, IsBlank}
use Rattle.cbm_chain.specs.Data.{chain_bytes}
use Rattle.cbm_volume.specs.Blocks.{Blocks, no_blocks, Lies, LiesAs, slot_of, file_of}
use Rattle.cbm_volume.specs.Layouts.{Owner, Nobody, TheMap, Directory, DataOf, SideOf, OwnedBy, Layout, IsCellWritable, slot_count, HasLayout, own, layout_grown}
use Rattle.cbm_chain.specs.Writing.{last_of}
use Rattle.cbm_medium.proofs.Places.{place_decide, written_there, written_elsewhere}
use Rattle.cbm_volume.proofs.layouts.Frames.{Keeps, owned_nth, owned_same, sector_kept, lies_kept, slot_kept, write_keeps}
use Rattle.cbm_volume.proofs.layouts.Loose.{writable_written}
use Rattle.cbm_volume.proofs.layouts.Chained.{chain_distinct}
use Rattle.cbm_volume.proofs.layouts.Steps.{own_there, own_elsewhere}

pub last_nth : (b : Place) (rest : List Place) (d : Place) → last_of b rest ≡ get_or (b ∷ rest) (length rest) d
last_nth b [] d = refl
last_nth b (x ∷ xs) d = last_nth x xs d

-- a chain whose last sector now links to one more
pub chain_push : (tracks : ℕ) (c c' : Content) (a b q : Place) (rest : List Place) → Chain tracks c a (b ∷ rest) → ((p : Place) → p ≢ last_of b rest → c' p ≡ c p) → IsOk (c' (last_of b rest)) → link (bytes_at c' (last_of b rest)) ≡ q
    → Has tracks q → IsOk (c' q) → (link (bytes_at c' q)).track ≡ 0 → Chain tracks c' a (b ∷ rest ++ q ∷ [])
chain_push tracks c c' a b q [] h same ok to hq okq zq = (h.0, h.1, ok, (to, hq, okq, zq))
chain_push tracks c c' a b q (x ∷ xs) h same ok to hq okq zq =
    let apart : b ≢ last_of x xs = λ e. (let z = chain_distinct tracks c a (b ∷ x ∷ xs) 0 (suc (length xs)) directory_head h (omega arith) (omega arith) (e ∙ last_nth x xs directory_head) in omega arith) in
    let e : c' b ≡ c b = same b apart in (
      h.0,
      h.1,
      subst (λ (y : Cell). IsOk y) (sym e) h.2,
      subst (λ (y : Place). Chain tracks c' y (x ∷ xs ++ q ∷ [])) (sym (ap (λ (y : Cell). link (or_nothing y)) e)) (chain_push tracks c c' (link (bytes_at c b)) x q xs h.3 same ok to hq okq zq),
    )

pub owned_push : (owner : Place → Owner) (o : Owner) (xs : List Place) (q : Place) → OwnedBy owner o xs → owner q ≡ o → OwnedBy owner o (xs ++ q ∷ [])
owned_push owner o [] q h e = (e, tt)
owned_push owner o (x ∷ xs) q h e = (h.0, owned_push owner o xs q h.1 e)

front : (xs : List Place) (q d : Place) (i : ℕ) → i < length xs → get_or (xs ++ q ∷ []) i d ≡ get_or xs i d
front xs q d i h = search (rules, places)

slots_front : (xs ys : List (Option File)) (i : ℕ) → i < length xs → get_or (xs ++ ys) i None ≡ get_or xs i None
slots_front xs ys i h = search (rules, places)

-- where the directory grows
pub record CanGrow (tracks : ℕ) (c c' : Content) (l : Layout) (b : Place) (rest : List Place) (q : Place) (new blank : List ℕ) : Type 0 where
  pub directory : l.directory ≡ b ∷ rest
  pub has : Has tracks q
  pub on_18 : q.track ≡ 18
  pub nobody : l.owner q ≡ Nobody
  pub taken : is_free_in (map_of c) q ≡ false
  pub holds : c q ≡ Ok blank
  pub is_blank : IsBlank blank
  pub linked : HasLink (bytes_at c (last_of b rest)) new q
  pub written : c' ≡ written c (last_of b rest) new

abbrev pub more_slots : Disk → Disk
more_slots d = record d { slots = d.slots ++ replicate 8 None }

pub stands_grow : (tracks : ℕ) (c c' : Content) (l : Layout) (d : Disk) (b : Place) (rest : List Place) (q : Place) (new blank : List ℕ) → HasLayout tracks c l d → CanGrow tracks c c' l b rest q new blank → HasLayout tracks c' (layout_grown l q) (more_slots d)
stands_grow tracks c c' l d b rest q new blank st g = record {
  sound = record {
    owned = record {
      map = own_elsewhere l.owner q directory_head Directory (λ e. (let z = sym g.nobody ∙ ap l.owner e ∙ st.sound.owned.map in (cc))) ∙ st.sound.owned.map;
      directory = owned_push owner Directory l.directory q (owned_same l.owner owner Directory l.directory (λ p e. keep p Directory (λ z. (cc)) e) st.sound.owned.directory) (own_there l.owner q Directory);
      blocks = λ n k. elim (cases_lt n (slot_count l)) [
        | inl old ↦ subst (λ (x : Blocks). OwnedBy owner (DataOf n) x.data_blocks) (sym (files_old n old)) (owned_same l.owner owner (DataOf n) (l.files n).data_blocks (λ p e. keep p (DataOf n) (λ z. (cc)) e) (st.sound.owned.blocks n old))
        | inr fresh ↦ subst (λ (x : Blocks). OwnedBy owner (DataOf n) x.data_blocks) (sym (files_new n fresh)) tt
      ];
      sides = λ n k. elim (cases_lt n (slot_count l)) [
        | inl old ↦ subst (λ (x : Blocks). OwnedBy owner (SideOf n) x.sides) (sym (files_old n old)) (owned_same l.owner owner (SideOf n) (l.files n).sides (λ p e. keep p (SideOf n) (λ z. (cc)) e) (st.sound.owned.sides n old))
        | inr fresh ↦ subst (λ (x : Blocks). OwnedBy owner (SideOf n) x.sides) (sym (files_new n fresh)) tt
      ];
      on_18 = λ p e. elim (place_decide q p) [
        | inl s ↦ ap (λ (x : Place). x.track) (sym s) ∙ g.on_18
        | inr ne ↦ st.sound.owned.on_18 p (sym (own_elsewhere l.owner q p Directory ne) ∙ e)
      ];
      off_18 = λ p t n. elim (place_decide q p) [
        | inl s ↦ (λ e. (let z = sym (own_there l.owner q Directory) ∙ ap owner s ∙ e in (cc)), λ e. (let z = sym (own_there l.owner q Directory) ∙ ap owner s ∙ e in (cc)))
        | inr ne ↦ (λ e. (st.sound.owned.off_18 p t n).0 (sym (own_elsewhere l.owner q p Directory ne) ∙ e), λ e. (st.sound.owned.off_18 p t n).1 (sym (own_elsewhere l.owner q p Directory ne) ∙ e))
      ];
    };
    writable = subst (λ (x : Content). (p : Place) → Has tracks p → IsCellWritable (x p)) (sym g.written) (writable_written tracks c last new st.sound.writable);
    map_reads = subst (λ (x : Cell). IsOk x) (sym (others TheMap (λ z. (cc)) directory_head st.sound.owned.map)) st.sound.map_reads;
    directory = subst (λ (x : List Place). Chain tracks c' first_directory (x ++ q ∷ [])) (sym g.directory)
        (chain_push tracks c c' first_directory b q rest (subst (λ (x : List Place). Chain tracks c first_directory x) g.directory st.sound.directory)
        (λ p ne. ap (λ (x : Content). x p) g.written ∙ written_elsewhere c last p new (λ e. ne (sym e)))
        (subst (λ (x : Cell). IsOk x) (sym at_last) refl) (ap (λ (x : Cell). link (or_nothing x)) at_last ∙ g.linked.link)
        g.has (subst (λ (x : Cell). IsOk x) (sym at_q) refl) (ap (λ (x : Cell). (link (or_nothing x)).track) at_q ∙ g.is_blank.last));
    kinds = λ n k. elim (cases_lt n (slot_count l)) [
      | inl old ↦ subst (λ (x : List ℕ). type_byte x % 16 < 5) (sym (entry_old n old)) (st.sound.kinds n old)
      | inr fresh ↦ subst (λ (x : ℕ). x % 16 < 5) (sym (type_new n fresh k)) (omega arith)
    ];
    lies = λ n k. elim (cases_lt n (slot_count l)) [
      | inl old ↦ subst (λ (x : List ℕ). Lies tracks c' x ((layout_grown l q).files n)) (sym (entry_old n old))
          (subst (λ (x : Blocks). Lies tracks c' (entry_at c l.directory n) x) (sym (files_old n old))
          (lies_kept tracks c c' l.owner (DataOf n) (SideOf n) (entry_at c l.directory n) (l.files n) (others (DataOf n) (λ z. (cc))) (others (SideOf n) (λ z. (cc))) (st.sound.owned.blocks n old) (st.sound.owned.sides n old) (st.sound.lies n old)))
      | inr fresh ↦ subst (λ (x : Blocks). Lies tracks c' (entry_at c' (layout_grown l q).directory n) x) (sym (files_new n fresh))
          (subst (λ (x : Bool). LiesAs x (is_relative (entry_at c' (layout_grown l q).directory n)) tracks c' (entry_at c' (layout_grown l q).directory n) no_blocks) (sym (ap (λ (x : ℕ). bit_of x 7) (type_new n fresh k))) refl)
    ];
    free = λ p h e. elim (place_decide q p) [
      | inl s ↦ absurd (let z = sym g.taken ∙ ap (is_free_in (map_of c)) s ∙ ap (λ (x : List ℕ). is_free_in x p) (sym same_map) ∙ e in (cc))
      | inr ne ↦ own_elsewhere l.owner q p Directory ne ∙ st.sound.free p h (ap (λ (x : List ℕ). is_free_in x p) (sym same_map) ∙ e)
    ];
    counted = subst (λ (x : List ℕ). IsCounted tracks x) (sym same_map) st.sound.counted;
  };
  describes = record {
    title = rw same_map st.describes.title;
    mark = rw same_map st.describes.mark;
    size = length-append d.slots (replicate 8 None) ∙ omega (arith, st.describes.size, length-append l.directory (q ∷ []));
    slots = λ n k. elim (cases_lt n (slot_count l)) [
      | inl old ↦ slots_front d.slots (replicate 8 None) n (omega (arith, st.describes.size)) ∙ st.describes.slots n old
          ∙ sym (slot_kept c c' l.owner (DataOf n) (entry_at c l.directory n) (l.files n) (others (DataOf n) (λ z. (cc))) (st.sound.owned.blocks n old))
          ∙ ap (λ (x : List ℕ). slot_of c' x (l.files n)) (sym (entry_old n old)) ∙ ap (λ (x : Blocks). slot_of c' (entry_at c' (layout_grown l q).directory n) x) (sym (files_old n old))
      | inr fresh ↦ get_or-append_right d.slots (replicate 8 None) (length d.slots) n None refl (omega (arith, st.describes.size))
          ∙ get_or-replicate 8 (n - length d.slots) None None (omega (arith, k, st.describes.size, length-append l.directory (q ∷ [])))
          ∙ sym (ap (λ (x : Bool). if x then None else Some (file_of (chain_bytes c' ((layout_grown l q).files n).data_blocks) (entry_at c' (layout_grown l q).directory n) ((layout_grown l q).files n))) (eq-eqb (type_byte (entry_at c' (layout_grown l q).directory n)) 0 (type_new n fresh k)))
    ];
    total = st.describes.total;
    room = rw same_map st.describes.room;
    free = rw same_map st.describes.free;
  };
}
  where
    last : Place
    last = last_of b rest

    owner : Place → Owner
    owner = own l.owner q Directory

    last_is : last_of b rest ≡ get_or l.directory (length rest) directory_head
    last_is = last_nth b rest directory_head ∙ ap (λ (x : List Place). get_or x (length rest) directory_head) (sym g.directory)

    last_owned : l.owner (last_of b rest) ≡ Directory
    last_owned = ap l.owner last_is ∙ owned_nth l.owner Directory l.directory (length rest) directory_head st.sound.owned.directory (omega (arith, ap length g.directory))

    others : (o : Owner) → Directory ≢ o → Keeps c c' l.owner o
    others o ne p e = ap (λ (x : Content). x p) g.written ∙ write_keeps c (last_of b rest) new l.owner o (λ z. ne (sym last_owned ∙ z)) p e

    at_last : c' (last_of b rest) ≡ Ok new
    at_last = ap (λ (x : Content). x (last_of b rest)) g.written ∙ written_there c (last_of b rest) new

    at_q : c' q ≡ Ok blank
    at_q = others Nobody (λ z. (cc)) q g.nobody ∙ g.holds

    keep : (p : Place) (o : Owner) → o ≢ Nobody → l.owner p ≡ o → own l.owner q Directory p ≡ o
    keep p o ne e = own_elsewhere l.owner q p Directory (λ z. ne (sym e ∙ ap l.owner (sym z) ∙ g.nobody)) ∙ e

    same_map : map_of c' ≡ map_of c
    same_map = sector_kept c c' l.owner TheMap (others TheMap (λ z. (cc))) directory_head st.sound.owned.map

    files_old : (n : ℕ) → n < slot_count l → (layout_grown l q).files n ≡ l.files n
    files_old n h = rw (lt-ltb n (slot_count l) h) refl

    files_new : (n : ℕ) → slot_count l ≤ n → (layout_grown l q).files n ≡ no_blocks
    files_new n h = rw (le-ltb n (slot_count l) h) refl

    sector_old : (n : ℕ) → n < slot_count l → sector_of (l.directory ++ q ∷ []) n ≡ sector_of l.directory n
    sector_old n h = front l.directory q directory_head (n / 8) (omega arith)

    sector_new : (n : ℕ) → slot_count l ≤ n → n < slot_count (layout_grown l q) → sector_of (l.directory ++ q ∷ []) n ≡ q
    sector_new n h k =
        let e : n / 8 - length l.directory ≡ 0 = omega (arith, k, length-append l.directory (q ∷ [])) in
        get_or-append_right l.directory (q ∷ []) (length l.directory) (n / 8) directory_head refl (omega arith) ∙ ap (λ (i : ℕ). get_or (q ∷ []) i directory_head) e

    entry_old : (n : ℕ) → n < slot_count l → entry_at c' (l.directory ++ q ∷ []) n ≡ entry_at c l.directory n
    entry_old n h = ap (λ (p : Place). entry_of (bytes_at c' p) (n % 8)) (sector_old n h) ∙ (elim (place_decide (last_of b rest) (sector_of l.directory n)) [
      | inl e ↦ subst (λ (p : Place). entry_of (bytes_at c' p) (n % 8) ≡ entry_of (bytes_at c p) (n % 8)) e (ap (λ (x : Cell). entry_of (or_nothing x) (n % 8)) at_last ∙ g.linked.entries (n % 8) (omega arith))
      | inr ne ↦ ap (λ (x : Cell). entry_of (or_nothing x) (n % 8)) (ap (λ (x : Content). x (sector_of l.directory n)) g.written ∙ written_elsewhere c (last_of b rest) (sector_of l.directory n) new ne)
    ])

    type_new : (n : ℕ) → slot_count l ≤ n → n < slot_count (layout_grown l q) → type_byte (entry_at c' (l.directory ++ q ∷ []) n) ≡ 0
    type_new n h k = ap (λ (p : Place). type_byte (entry_of (bytes_at c' p) (n % 8))) (sector_new n h k) ∙ ap (λ (x : Cell). type_byte (entry_of (or_nothing x) (n % 8))) at_q ∙ g.is_blank.empty (n % 8) (omega arith)
