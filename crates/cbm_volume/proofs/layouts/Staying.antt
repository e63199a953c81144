-- The closed files stay where they lie: which writes leave the entries that lead to them alone.
use Rattle.std.proofs.Common.{◌≡◌, ◌≢◌, ℕ, zero, suc, ◌+◌, ◌/◌, ◌%◌, ◌<◌, ◌++◌, List, [], ◌∷◌, length, get_or, Bool, true, false, refl, sym, ap, subst, ◌∙◌, arith, inl, inr, Ok, length-append}
use Rattle.std.specs.Prelude.{◌||◌, ◌==◌, if◌then◌else◌, Some, None}
use Rattle.std.proofs.lemmas.Bool.{cases_eq, eq-eqb, eqb-true}
use Rattle.cbm_medium.specs.Place.{Place, directory_head}
use Rattle.cbm_medium.specs.Content.{Cell, Content, written}
use Rattle.cbm_medium.specs.Links.{AllSame, bytes_at, link, or_nothing}
use Rattle.cbm_medium.proofs.Places.{place_decide, written_there, written_elsewhere}
use Rattle.cbm_file.specs.Files.{Disk, File, file_at}
use Rattle.cbm_bam.specs.Map.{Claims}
use Rattle.cbm_chain.specs.Data.{chain_bytes}
use Rattle.cbm_chain.specs.Writing.{last_of}
use Rattle.cbm_directory.specs.Entries.{Enters, HasLink, entry_of, type_byte, bit_of, first_directory, sector_of, entry_at, is_closed, is_relative, first_block, first_side, width_of}
use Rattle.cbm_volume.specs.Blocks.{Blocks, Lies, LiesAs, file_of}
use Rattle.cbm_volume.specs.Layouts.{Owner, TheMap, Directory, DataOf, SideOf, Layout, IsOwned, slot_count, Sound, HasLayout}
use Rattle.cbm_volume.specs.Staying.{IsInPlace, StaysInPlace, LeavesClosed}
pub use Rattle.cbm_volume.specs.Reaches.{LeadsAlike, KeepsEntries, KeepsClosed, IsFront}
use Rattle.cbm_volume.proofs.layouts.Chained.{chain_front, chain_distinct}
use Rattle.cbm_volume.proofs.layouts.Frames.{Keeps, owned_nth, sector_kept, lies_kept, lies_alike, write_keeps}
use Rattle.cbm_volume.proofs.layouts.Grows.{last_nth}
use Rattle.cbm_volume.proofs.layouts.Loose.{entry_kept, sector_owned}
use Rattle.cbm_volume.proofs.layouts.Settled.{lies_settled, same_directory, same_files, untouched_in}
use Rattle.cbm_volume.proofs.layouts.Untouched.{is_file, files_same, files_then, files_written, all_kept}

-- ---- one entry

pub leads_same : (e e' : List ℕ) → e' ≡ e → LeadsAlike e e'
leads_same e e' p = record { closed = ap is_closed p; relative = ap is_relative p; first = ap first_block (sym p); side = ap first_side (sym p); width = ap width_of (sym p) }

pub leads_then : (a b c : List ℕ) → LeadsAlike a b → LeadsAlike b c → LeadsAlike a c
leads_then a b c h k = record { closed = k.closed ∙ h.closed; relative = k.relative ∙ h.relative; first = h.first ∙ k.first; side = h.side ∙ k.side; width = h.width ∙ k.width }

-- ---- the directory, as far as it reached before

get_front : (xs rest : List Place) (i : ℕ) (d : Place) → i < length xs → get_or (xs ++ rest) i d ≡ get_or xs i d
get_front [] rest i d h = absurd (omega arith)
get_front (x ∷ xs) rest zero d h = refl
get_front (x ∷ xs) rest (suc i) d h = get_front xs rest i d (omega arith)

front_of : (tracks tracks' : ℕ) (c c' : Content) (l l' : Layout) (but : ℕ → Bool) → Sound tracks c l → Sound tracks' c' l' → KeepsEntries l c c' but → IsFront l l'
front_of tracks tracks' c c' l l' but s t k =
    chain_front tracks tracks' c c' first_directory l.directory l'.directory s.directory t.directory k.links

front_longer : (l l' : Layout) → IsFront l l' → (n : ℕ) → n < length l.directory → n < length l'.directory
front_longer l l' f n h = omega (arith, h, ap length f.1, length-append l.directory f.0)

front_nth : (l l' : Layout) → IsFront l l' → (i : ℕ) → i < length l.directory → get_or l'.directory i directory_head ≡ get_or l.directory i directory_head
front_nth l l' f i h = ap (λ (xs : List Place). get_or xs i directory_head) f.1 ∙ get_front l.directory f.0 i directory_head h

front_entry : (c : Content) (l l' : Layout) → IsFront l l' → (n : ℕ) → n < slot_count l → entry_at c l'.directory n ≡ entry_at c l.directory n
front_entry c l l' f n h = ap (λ (p : Place). entry_of (bytes_at c p) (n % 8)) (front_nth l l' f (n / 8) (omega arith))

-- ---- which writes keep the entries

pub entries_same : (l : Layout) (c c' : Content) (but : ℕ → Bool) → c' ≡ c → KeepsEntries l c c' but
entries_same l c c' but e = record {
  links = λ i h. ap (λ (x : Content). link (bytes_at x (get_or l.directory i directory_head))) e;
  entries = λ m h b z. leads_same (entry_at c l.directory m) (entry_at c' l.directory m) (ap (λ (x : Content). entry_at x l.directory m) e);
}

pub entries_then : (l : Layout) (c c' c'' : Content) (but : ℕ → Bool) → KeepsEntries l c c' but → KeepsEntries l c' c'' but → KeepsEntries l c c'' but
entries_then l c c' c'' but a b = record {
  links = λ i h. b.links i h ∙ a.links i h;
  entries = λ m h e z.
      let x = a.entries m h e z in
      leads_then (entry_at c l.directory m) (entry_at c' l.directory m) (entry_at c'' l.directory m) x (b.entries m h e (x.closed ∙ z));
}

-- the directory's sectors are as they were
pub entries_kept : (l : Layout) (c c' : Content) (but : ℕ → Bool) → IsOwned l → Keeps c c' l.owner Directory → KeepsEntries l c c' but
entries_kept l c c' but w k = record {
  links = λ i h. ap link (sector_kept c c' l.owner Directory k (get_or l.directory i directory_head) (owned_nth l.owner Directory l.directory i directory_head w.directory (omega arith)));
  entries = λ m h e z. leads_same (entry_at c l.directory m) (entry_at c' l.directory m) (entry_kept c c' l w k m h);
}

-- a sector off the directory
pub entries_written : (l : Layout) (c c' : Content) (p : Place) (bytes : List ℕ) (o : Owner) (but : ℕ → Bool) → IsOwned l → l.owner p ≡ o → o ≢ Directory → c' ≡ written c p bytes → KeepsEntries l c c' but
entries_written l c c' p bytes o but w is ne e = entries_kept l c c' but w (λ q f. ap (λ (x : Content). x q) e ∙ write_keeps c p bytes l.owner Directory (λ z. ne (sym is ∙ z)) q f)

-- an entry: that of an exempted slot, or one that wasn't closed, or one that leads to the same sectors
pub entries_entered : (tracks : ℕ) (l : Layout) (c0 c c' : Content) (n : ℕ) (body : List ℕ) (but : ℕ → Bool) → Sound tracks c0 l → n < slot_count l → Enters c c' (sector_of l.directory n) (n % 8) body
    → (but n ≡ false → is_closed (entry_at c l.directory n) ≡ true → LeadsAlike (entry_at c l.directory n) body) → KeepsEntries l c c' but
entries_entered tracks l c0 c c' n body but s k enters alike = record {
  links = λ i h. elim (place_decide (sector_of l.directory n) (get_or l.directory i directory_head)) [
    | inl e ↦ subst (λ (p : Place). link (bytes_at c' p) ≡ link (bytes_at c p)) e (ap link here ∙ enters.has.link)
    | inr ne ↦ ap (λ (x : Cell). link (or_nothing x)) (elsewhere (get_or l.directory i directory_head) ne)
  ];
  entries = λ m h e z. elim (cases_eq m n) [
    | inl same ↦ subst (λ (i : ℕ). LeadsAlike (entry_at c l.directory i) (entry_at c' l.directory i)) (sym same)
        (subst (λ (x : List ℕ). LeadsAlike (entry_at c l.directory n) x) (sym (ap (λ (x : List ℕ). entry_of x (n % 8)) here ∙ enters.has.here))
        (alike (ap but (sym same) ∙ e) (ap (λ (i : ℕ). is_closed (entry_at c l.directory i)) (sym same) ∙ z)))
    | inr ne ↦ leads_same (entry_at c l.directory m) (entry_at c' l.directory m) (other m h ne)
  ];
}
  where
    here : bytes_at c' (sector_of l.directory n) ≡ enters.sector
    here = ap or_nothing (ap (λ (x : Content). x (sector_of l.directory n)) enters.written ∙ written_there c (sector_of l.directory n) enters.sector)

    elsewhere : (p : Place) → sector_of l.directory n ≢ p → c' p ≡ c p
    elsewhere p ne = ap (λ (x : Content). x p) enters.written ∙ written_elsewhere c (sector_of l.directory n) p enters.sector ne

    other : (m : ℕ) → m < slot_count l → m ≢ n → entry_at c' l.directory m ≡ entry_at c l.directory m
    other m h ne = elim (cases_eq (m / 8) (n / 8)) [
      | inl e ↦ (let same : sector_of l.directory m ≡ sector_of l.directory n = ap (λ (i : ℕ). get_or l.directory i directory_head) e in
          ap (λ (p : Place). entry_of (bytes_at c' p) (m % 8)) same ∙ ap (λ (x : List ℕ). entry_of x (m % 8)) here
          ∙ enters.has.others (m % 8) (omega arith) (omega arith) ∙ ap (λ (p : Place). entry_of (bytes_at c p) (m % 8)) (sym same))
      | inr apart ↦ ap (λ (x : Cell). entry_of (or_nothing x) (m % 8))
          (elsewhere (sector_of l.directory m) (λ e. apart (chain_distinct tracks c0 first_directory l.directory (m / 8) (n / 8) directory_head s.directory (omega arith) (omega arith) (sym e))))
    ]

-- the last sector of the directory links to a new one
pub entries_linked : (tracks : ℕ) (l : Layout) (c0 c c' : Content) (j : ℕ) (q : Place) (new : List ℕ) (but : ℕ → Bool) → Sound tracks c0 l → j + 1 ≡ length l.directory → HasLink (bytes_at c (get_or l.directory j directory_head)) new q
    → c' ≡ written c (get_or l.directory j directory_head) new → KeepsEntries l c c' but
entries_linked tracks l c0 c c' j q new but s last has e = record {
  links = λ i h. ap (λ (x : Cell). link (or_nothing x)) (elsewhere (get_or l.directory i directory_head)
      (λ z. (let y : j ≡ i = chain_distinct tracks c0 first_directory l.directory j i directory_head s.directory (omega (arith, last)) (omega arith) z in omega (arith, y, h, last))));
  entries = λ m h b z. leads_same (entry_at c l.directory m) (entry_at c' l.directory m) (elim (place_decide (get_or l.directory j directory_head) (sector_of l.directory m)) [
    | inl y ↦ subst (λ (p : Place). entry_of (bytes_at c' p) (m % 8) ≡ entry_of (bytes_at c p) (m % 8)) y (ap (λ (x : Cell). entry_of (or_nothing x) (m % 8)) here ∙ has.entries (m % 8) (omega arith))
    | inr ne ↦ ap (λ (x : Cell). entry_of (or_nothing x) (m % 8)) (elsewhere (sector_of l.directory m) ne)
  ]);
}
  where
    here : c' (get_or l.directory j directory_head) ≡ Ok new
    here = ap (λ (x : Content). x (get_or l.directory j directory_head)) e ∙ written_there c (get_or l.directory j directory_head) new

    elsewhere : (p : Place) → get_or l.directory j directory_head ≢ p → c' p ≡ c p
    elsewhere p ne = ap (λ (x : Content). x p) e ∙ written_elsewhere c (get_or l.directory j directory_head) p new ne

-- what is written later, in the layout that stands then
pub entries_later : (l l' : Layout) (c c' c'' : Content) (but : ℕ → Bool) → IsFront l l' → KeepsEntries l c c' but → KeepsEntries l' c' c'' but → KeepsEntries l c c'' but
entries_later l l' c c' c'' but f a b = record {
  links = λ i h. subst (λ (p : Place). link (bytes_at c'' p) ≡ link (bytes_at c' p)) (front_nth l l' f i (omega arith)) (b.links i (front_longer l l' f (i + 1) h)) ∙ a.links i h;
  entries = λ m h e z.
      let x = a.entries m h e z in
      leads_then (entry_at c l.directory m) (entry_at c' l.directory m) (entry_at c'' l.directory m) x (second m h e (x.closed ∙ z));
}
  where
    second : (m : ℕ) → m < slot_count l → but m ≡ false → is_closed (entry_at c' l.directory m) ≡ true → LeadsAlike (entry_at c' l.directory m) (entry_at c'' l.directory m)
    second m h e z =
        let one : entry_at c' l'.directory m ≡ entry_at c' l.directory m = front_entry c' l l' f m h in
        let two : entry_at c'' l'.directory m ≡ entry_at c'' l.directory m = front_entry c'' l l' f m h in
        let more : m < slot_count l' = omega (arith, h, ap length f.1, length-append l.directory f.0) in
        subst (λ (x : List ℕ). LeadsAlike x (entry_at c'' l.directory m)) one (subst (λ (x : List ℕ). LeadsAlike (entry_at c' l'.directory m) x) two (b.entries m more e (ap is_closed one ∙ z)))

-- ---- the sectors and the entries of the closed files

pub kept_same : (l : Layout) (c c' : Content) (but : ℕ → Bool) → c' ≡ c → KeepsClosed l c c' but
kept_same l c c' but e = record { files = files_same l c c' e; entries = entries_same l c c' but e }

pub kept_then : (l : Layout) (c c' c'' : Content) (but : ℕ → Bool) → KeepsClosed l c c' but → KeepsClosed l c' c'' but → KeepsClosed l c c'' but
kept_then l c c' c'' but a b = record { files = files_then l c c' c'' a.files b.files; entries = entries_then l c c' c'' but a.entries b.entries }

-- a sector that is no file's and not the directory's
pub kept_written : (l : Layout) (c c' : Content) (p : Place) (bytes : List ℕ) (o : Owner) (but : ℕ → Bool) → IsOwned l → l.owner p ≡ o → is_file o ≡ false → o ≢ Directory → c' ≡ written c p bytes → KeepsClosed l c c' but
kept_written l c c' p bytes o but w is file ne e = record { files = files_written l c c' p bytes o is file e; entries = entries_written l c c' p bytes o but w is ne e }

-- the map
pub kept_mapped : (l : Layout) (c c' : Content) (map : List ℕ) (but : ℕ → Bool) → IsOwned l → c' ≡ written c directory_head map → KeepsClosed l c c' but
kept_mapped l c c' map but w e = kept_written l c c' directory_head map TheMap but w w.map refl (λ z. (cc)) e

pub kept_claimed : (tracks : ℕ) (l : Layout) (c c' : Content) (p : Place) (but : ℕ → Bool) → IsOwned l → Claims tracks c c' p → KeepsClosed l c c' but
kept_claimed tracks l c c' p but w k = kept_mapped l c c' k.remaps.map but w k.remaps.written

-- an entry: that of an exempted slot, or one that wasn't closed, or one that leads to the same sectors
pub kept_entered : (tracks : ℕ) (l : Layout) (c0 c c' : Content) (n : ℕ) (body : List ℕ) (but : ℕ → Bool) → Sound tracks c0 l → n < slot_count l → Enters c c' (sector_of l.directory n) (n % 8) body
    → (but n ≡ false → is_closed (entry_at c l.directory n) ≡ true → LeadsAlike (entry_at c l.directory n) body) → KeepsClosed l c c' but
kept_entered tracks l c0 c c' n body but s k enters alike = record {
  files = files_written l c c' (sector_of l.directory n) enters.sector Directory (sector_owned l s.owned n k) refl enters.written;
  entries = entries_entered tracks l c0 c c' n body but s k enters alike;
}

-- one that wasn't closed
pub kept_opened : (tracks : ℕ) (l : Layout) (c0 c c' : Content) (n : ℕ) (body : List ℕ) (but : ℕ → Bool) → Sound tracks c0 l → n < slot_count l → Enters c c' (sector_of l.directory n) (n % 8) body
    → is_closed (entry_at c l.directory n) ≡ false → KeepsClosed l c c' but
kept_opened tracks l c0 c c' n body but s k enters open_ = kept_entered tracks l c0 c c' n body but s k enters (λ e z. absurd (let y = sym z ∙ open_ in (cc)))

is_none_of : (x : Bool) (f : File) → (if x then None else Some f) ≡ None → x ≡ true
is_none_of true f h = refl
is_none_of false f h = absurd (cc)

-- an empty slot's entry isn't closed
pub empty_open : (tracks : ℕ) (c : Content) (l : Layout) (d : Disk) (n : ℕ) → HasLayout tracks c l d → n < slot_count l → file_at d n ≡ None → is_closed (entry_at c l.directory n) ≡ false
empty_open tracks c l d n st k none =
    let e : List ℕ = entry_at c l.directory n in
    let zero_type : (type_byte e == 0) ≡ true = is_none_of (type_byte e == 0) (file_of (chain_bytes c (l.files n).data_blocks) e (l.files n)) (sym (st.describes.slots n k) ∙ none) in
    ap (λ (t : ℕ). bit_of t 7) (eqb-true (type_byte e) 0 zero_type)

-- that of the one slot that is exempted
pub kept_exempt : (tracks : ℕ) (l : Layout) (c0 c c' : Content) (n : ℕ) (body : List ℕ) → Sound tracks c0 l → n < slot_count l → Enters c c' (sector_of l.directory n) (n % 8) body → KeepsClosed l c c' (λ m. m == n)
kept_exempt tracks l c0 c c' n body s k enters = kept_entered tracks l c0 c c' n body (λ m. m == n) s k enters (λ e z. absurd (let y = sym e ∙ eq-eqb n n refl in (cc)))

-- the last sector of the directory links to a new one
pub kept_linked : (tracks : ℕ) (l : Layout) (c0 c c' : Content) (b : Place) (rest : List Place) (q : Place) (new : List ℕ) (but : ℕ → Bool) → Sound tracks c0 l → l.directory ≡ b ∷ rest → HasLink (bytes_at c (last_of b rest)) new q
    → c' ≡ written c (last_of b rest) new → KeepsClosed l c c' but
kept_linked tracks l c0 c c' b rest q new but s is has e =
    let at : last_of b rest ≡ get_or l.directory (length rest) directory_head = last_nth b rest directory_head ∙ ap (λ (x : List Place). get_or x (length rest) directory_head) (sym is) in
    let last : length rest + 1 ≡ length l.directory = omega (arith, ap length is) in
    let mine : l.owner (last_of b rest) ≡ Directory = ap l.owner at ∙ owned_nth l.owner Directory l.directory (length rest) directory_head s.owned.directory (omega (arith, last)) in
    record {
      files = files_written l c c' (last_of b rest) new Directory mine refl e;
      entries = entries_linked tracks l c0 c c' (length rest) q new but s last (subst (λ (p : Place). HasLink (bytes_at c p) new q) at has) (e ∙ ap (λ (p : Place). written c p new) at);
    }

-- what is written later, in the layout that stands then
pub kept_later : (l l' : Layout) (c c' c'' : Content) (but : ℕ → Bool) → IsFront l l' → ((p : Place) → is_file (l.owner p) ≡ true → is_file (l'.owner p) ≡ true) → KeepsClosed l c c' but → KeepsClosed l' c' c'' but → KeepsClosed l c c'' but
kept_later l l' c c' c'' but front later a b = record { files = λ p f. b.files p (later p f) ∙ a.files p f; entries = entries_later l l' c c' c'' but front a.entries b.entries }

-- ---- the files lie where they lay

lies_closed : (x : Bool) (r : Bool) (tracks : ℕ) (c : Content) (e : List ℕ) (b : Blocks) → x ≡ true → LiesAs x r tracks c e b → LiesAs true r tracks c e b
lies_closed x r tracks c e b z h = subst (λ (y : Bool). LiesAs y r tracks c e b) z h

-- EACH CLOSED FILE STAYS where its own sectors and its entry are kept
stays_by : (tracks : ℕ) (c c' : Content) (k : Layout) (but : ℕ → Bool) → Sound tracks c k → ((m : ℕ) → but m ≡ false → Keeps c c' k.owner (DataOf m) × Keeps c c' k.owner (SideOf m)) → KeepsEntries k c c' but → StaysInPlace tracks c c' but
stays_by tracks c c' k but t files entries tracks' l l' s s' m h closed free = record {
  there = omega (arith, h', ap length f.1, length-append k.directory f.0);
  closed = ap is_closed same_entry ∙ alike.closed ∙ closed_k;
  blocks = sym blocks ∙ sym same_k;
  same = subst (λ (x : Blocks). AllSame c c' x.data_blocks × AllSame c c' x.sides) (sym same_k)
      (all_kept c c' k.owner (DataOf m) (files m free).0 (k.files m).data_blocks (t.owned.blocks m h'), all_kept c c' k.owner (SideOf m) (files m free).1 (k.files m).sides (t.owned.sides m h'));
}
  where
    h' : m < slot_count k
    h' = omega (arith, h, ap length (same_directory tracks c l k s t))

    same_k : l.files m ≡ k.files m
    same_k = same_files tracks c l k m s t h

    old : List ℕ
    old = entry_at c k.directory m

    new : List ℕ
    new = entry_at c' k.directory m

    closed_k : is_closed (entry_at c k.directory m) ≡ true
    closed_k = ap (λ (x : List Place). is_closed (entry_at c x m)) (sym (same_directory tracks c l k s t)) ∙ closed

    alike : LeadsAlike (entry_at c k.directory m) (entry_at c' k.directory m)
    alike = entries.entries m h' free closed_k

    f : IsFront k l'
    f = front_of tracks tracks' c c' k l' but t s' entries

    same_entry : entry_at c' l'.directory m ≡ entry_at c' k.directory m
    same_entry = front_entry c' k l' f m h'

    there : m < slot_count l'
    there = omega (arith, h', ap length f.1, length-append k.directory f.0)

    -- in the content after, by the entry after
    lies : LiesAs true (is_relative (entry_at c' k.directory m)) tracks c' (entry_at c' k.directory m) (k.files m)
    lies = subst (λ (r : Bool). LiesAs true r tracks c' (entry_at c' k.directory m) (k.files m)) (sym alike.relative)
        (lies_alike true (is_relative (entry_at c k.directory m)) tracks c' (entry_at c k.directory m) (entry_at c' k.directory m) (k.files m) alike.first alike.side alike.width
        (lies_closed (is_closed (entry_at c k.directory m)) (is_relative (entry_at c k.directory m)) tracks c' (entry_at c k.directory m) (k.files m) closed_k
        (lies_kept tracks c c' k.owner (DataOf m) (SideOf m) (entry_at c k.directory m) (k.files m) (files m free).0 (files m free).1 (t.owned.blocks m h') (t.owned.sides m h') (t.lies m h'))))

    lies' : LiesAs true (is_relative (entry_at c' k.directory m)) tracks' c' (entry_at c' k.directory m) (l'.files m)
    lies' = lies_closed (is_closed (entry_at c' k.directory m)) (is_relative (entry_at c' k.directory m)) tracks' c' (entry_at c' k.directory m) (l'.files m) (alike.closed ∙ closed_k)
        (subst (λ (x : List ℕ). Lies tracks' c' x (l'.files m)) same_entry (s'.lies m there))

    blocks : k.files m ≡ l'.files m
    blocks = lies_settled true (is_relative (entry_at c' k.directory m)) tracks tracks' c' (entry_at c' k.directory m) (k.files m) (l'.files m) lies lies'

pub stays_in : (tracks : ℕ) (c c' : Content) (k : Layout) (but : ℕ → Bool) → Sound tracks c k → KeepsClosed k c c' but → StaysInPlace tracks c c' but
stays_in tracks c c' k but t kept = stays_by tracks c c' k but t (λ m free. (λ p e. kept.files p (ap is_file e), λ p e. kept.files p (ap is_file e))) kept.entries

-- what a call leaves that writes no sector of a file
pub leaves_in : (tracks : ℕ) (c c' : Content) (k : Layout) (moved : ℕ → Bool) → Sound tracks c k → KeepsClosed k c c' moved → LeavesClosed tracks c c' (λ m. false) moved
leaves_in tracks c c' k moved t kept = record { untouched = untouched_in tracks c c' k (λ m. false) t kept.files; stays = stays_in tracks c c' k moved t kept }

-- and one that writes those of a slot's file alone
pub leaves_others : (tracks : ℕ) (c c' : Content) (k : Layout) (n : ℕ) → Sound tracks c k → ((m : ℕ) → m ≢ n → Keeps c c' k.owner (DataOf m) × Keeps c c' k.owner (SideOf m)) → KeepsEntries k c c' (λ m. m == n) → LeavesClosed tracks c c' (λ m. m == n) (λ m. m == n)
leaves_others tracks c c' k n t keeps entries = record {
  untouched = λ l s m h b.
      let h' : m < slot_count k = omega (arith, h, ap length (same_directory tracks c l k s t)) in
      subst (λ (x : Blocks). AllSame c c' x.data_blocks × AllSame c c' x.sides) (sym (same_files tracks c l k m s t h)) (
        all_kept c c' k.owner (DataOf m) (keeps m (apart m b)).0 (k.files m).data_blocks (t.owned.blocks m h'),
        all_kept c c' k.owner (SideOf m) (keeps m (apart m b)).1 (k.files m).sides (t.owned.sides m h'),
      );
  stays = stays_by tracks c c' k (λ m. m == n) t (λ m b. keeps m (apart m b)) entries;
}
  where
    apart : (m : ℕ) → (m == n) ≡ false → m ≢ n
    apart m b e = (let z = sym (eq-eqb m n e) ∙ b in (cc))

-- ---- over several calls

either_false : (a b : Bool) → (a || b) ≡ false → (a ≡ false) × (b ≡ false)
either_false true b h = absurd (cc)
either_false false b h = (refl, h)

all_same_then : (c c' c'' : Content) (xs : List Place) → AllSame c c' xs → AllSame c' c'' xs → AllSame c c'' xs
all_same_then c c' c'' [] a b = tt
all_same_then c c' c'' (x ∷ xs) a b = (b.0 ∙ a.0, all_same_then c c' c'' xs a.1 b.1)

-- ONE CALL AFTER ANOTHER: what stays in place over each stays in place over both
pub stays_then : (tracks between : ℕ) (c c' c'' : Content) (l' : Layout) (one two : ℕ → Bool) → StaysInPlace tracks c c' one → Sound between c' l' → StaysInPlace between c' c'' two → StaysInPlace tracks c c'' (λ m. one m || two m)
stays_then tracks between c c' c'' l' one two first sound second tracks'' l l'' s s'' m h closed free =
    let f = either_false (one m) (two m) free in
    let a : IsInPlace c c' l l' m = first between l l' s sound m h closed f.0 in
    let b : IsInPlace c' c'' l' l'' m = second tracks'' l' l'' sound s'' m a.there a.closed f.1 in
    let again = subst (λ (x : Blocks). AllSame c' c'' x.data_blocks × AllSame c' c'' x.sides) a.blocks b.same in
    record {
      there = b.there;
      closed = b.closed;
      blocks = b.blocks ∙ a.blocks;
      same = (all_same_then c c' c'' (l.files m).data_blocks a.same.0 again.0, all_same_then c c' c'' (l.files m).sides a.same.1 again.1);
    }

-- with more that is exempted
pub stays_more : (tracks : ℕ) (c c' : Content) (one more : ℕ → Bool) → ((m : ℕ) → more m ≡ false → one m ≡ false) → StaysInPlace tracks c c' one → StaysInPlace tracks c c' more
stays_more tracks c c' one more less stay tracks' l l' s s' m h closed free = stay tracks' l l' s s' m h closed (less m free)

-- where nothing is written all stay
pub stays_same : (tracks : ℕ) (c c' : Content) (k : Layout) (but : ℕ → Bool) → Sound tracks c k → c' ≡ c → StaysInPlace tracks c c' but
stays_same tracks c c' k but t e = stays_in tracks c c' k but t (kept_same k c c' but e)
