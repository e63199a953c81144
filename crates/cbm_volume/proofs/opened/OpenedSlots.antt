-- OPEN for writing finds an empty slot, for which the directory may have grown: what the medium holds then.
use Rattle.std.proofs.Common.{◌≡◌, ◌≢◌, ◌⊎◌, ℕ, zero, suc, ◌-◌, ◌<◌, arith, List, [], ◌∷◌, ◌++◌, false, refl, sym, ap, subst, ◌∙◌, append-nil, inl, inr, Option, Some, None, Ok}
use Rattle.std.specs.Prelude.{if◌then◌else◌, replicate, is_none, is_some, nat_lt, ◌||◌}
use Rattle.cbm_medium.specs.Place.{Place, directory_head}
use Rattle.cbm_medium.specs.Content.{Content, written}
use Rattle.cbm_medium.specs.Links.{bytes_at, or_nothing}
use Rattle.cbm_medium.specs.declared.fault.Trouble.{Trouble}
use Rattle.cbm_medium.proofs.Places.{place_decide, written_there, written_elsewhere}
use Rattle.cbm_file.specs.Files.{Disk, file_at, empty_from}
use Rattle.cbm_file.specs.Changes.{grown, has_slot}
use Rattle.cbm_bam.specs.Map.{map_of, is_free_in, with_bit, geometry_of, Claims, ClaimsOn18}
use Rattle.cbm_bam.proofs.Counts.{bit_there}
use Rattle.cbm_chain.specs.Writing.{last_of}
use Rattle.cbm_directory.specs.Entries.{first_directory, HasLink, entry_of, type_byte}
use Rattle.cbm_directory.specs.Slots.{directory_of}
use Rattle.cbm_directory.specs.Growth.{new_sector, CannotGrow, Grows}
use Rattle.cbm_directory.specs.Empties.{FindsEmpty, TakesSlot, SlotStopped}
use Rattle.cbm_volume.specs.Layouts.{Nobody, TheMap, Directory, OwnedBy, Layout, HasLayout, own}
use Rattle.cbm_volume.specs.Layouts as layouts
use Rattle.cbm_volume.specs.Writers.{Use, HoldsAt, Holds, HoldsNow}
pub use Rattle.cbm_volume.specs.Reaches.{Reached, SlotLost}
use Rattle.cbm_volume.proofs.layouts.Chained.{chain_settled}
use Rattle.cbm_volume.proofs.written.Finishes.{last_owned}
use Rattle.cbm_volume.proofs.layouts.Grows.{CanGrow, more_slots}
use Rattle.cbm_volume.proofs.opened.Growing.{spares_write, claimed_on_18, written_loose, grown_over, same_slots}
use Rattle.cbm_volume.proofs.written.Replacements.{geometry_remapped}
use Rattle.cbm_volume.proofs.written.Replaced.{holds_all}
use Rattle.cbm_volume.proofs.layouts.Rooms.{less_room}
use Rattle.cbm_volume.proofs.layouts.Steps.{one_less, own_elsewhere, Claimed, stands_claim}
use Rattle.cbm_volume.proofs.written.Storing.{few, geometry_claimed, geometry_elsewhere}
use Rattle.cbm_volume.proofs.layouts.Untouched.{is_file}
use Rattle.cbm_volume.proofs.layouts.Staying.{KeepsClosed, kept_same, kept_then, kept_written, kept_mapped, kept_claimed, kept_linked, kept_later}
use Rattle.cbm_volume.proofs.layouts.FullDirectory.{full_directory}
use Rattle.cbm_volume.proofs.layouts.Vacant.{empty_of, room_of, never_broken}

pub reached_now : (medium : ℕ) (c : Content) (l : Layout) (c1 : Content) (d1 : Disk) (uses : ℕ → Use) → Reached medium c l c1 d1 uses → HoldsNow medium c1 d1 uses
reached_now medium c l c1 d1 uses r = subst (λ (k : ℕ). Holds k c1 d1 uses) (sym r.same) (record { layout = r.layout; so = r.so })

-- nothing has changed
pub stays : (medium : ℕ) (c c1 : Content) (d : Disk) (uses : ℕ → Use) (h : HoldsNow medium c d uses) → c1 ≡ c → Reached medium c h.layout c1 d uses
stays medium c c1 d uses h e = record {
  layout = h.layout;
  so = subst (λ (x : Content). HoldsAt (geometry_of medium c) x h.layout d uses) (sym e) h.so;
  same = ap (geometry_of medium) e;
  front = ([], sym (append-nil h.layout.directory));
  kept = kept_same h.layout c c1 (λ m. false) e;
  later = λ p f. f;
}

-- the same, where a write was refused after it
pub reached_same : (medium : ℕ) (c : Content) (l : Layout) (c1 c2 : Content) (d1 : Disk) (uses : ℕ → Use) → c2 ≡ c1 → Reached medium c l c1 d1 uses → Reached medium c l c2 d1 uses
reached_same medium c l c1 c2 d1 uses e r = subst (λ (x : Content). Reached medium c l x d1 uses) (sym e) r

-- a block is claimed, which is nobody's yet
pub claimed_too : (medium : ℕ) (c : Content) (l : Layout) (c1 c2 : Content) (d1 : Disk) (uses : ℕ → Use) (q : Place) → Reached medium c l c1 d1 uses → Claims (geometry_of medium c) c1 c2 q → Reached medium c l c2 (one_less d1) uses
claimed_too medium c l c1 c2 d1 uses q r k =
    let tracks : ℕ = geometry_of medium c in
    let claimed : Claimed tracks c1 c2 r.layout d1 q = stands_claim tracks c1 c2 r.layout d1 q r.so.stands (few medium c) k in
    let kept : KeepsClosed r.layout c1 c2 (λ m. false) = kept_claimed tracks r.layout c1 c2 q (λ m. false) r.so.stands.sound.owned k in
    record {
      layout = r.layout;
      so = holds_all tracks c1 c2 r.layout r.layout d1 (one_less d1) uses (λ n. false) r.so claimed.stands
          (spares_write c1 c2 r.layout d1 (one_less d1) directory_head k.remaps.map TheMap k.remaps.written r.so.stands.sound.owned.map (λ x e. (cc)) (λ n e. (cc)) (λ n. refl)) (λ m n f. refl);
      same = geometry_claimed medium c1 c2 r.layout q (subst (λ (n : ℕ). layouts.Sound n c1 r.layout) (sym r.same) r.so.stands.sound) (subst (λ (n : ℕ). Claims n c1 c2 q) (sym r.same) k) ∙ r.same;
      front = r.front;
      kept = kept_later l r.layout c c1 c2 (λ m. false) r.front r.later r.kept kept;
      later = r.later;
    }

-- ---- the directory grows

-- a list that ends with a sector
record Ends (xs : List Place) (p : Place) : Type 0 where
  first : Place
  rest : List Place
  is : xs ≡ first ∷ rest
  last : last_of first rest ≡ p

last_after_it : (b : Place) (xs : List Place) (p : Place) → last_of b (xs ++ p ∷ []) ≡ p
last_after_it b [] p = refl
last_after_it b (x ∷ xs) p = last_after_it x xs p

ends : (xs : List Place) (p : Place) → Ends (xs ++ p ∷ []) p
ends [] p = record { first = p; rest = []; is = refl; last = refl }
ends (x ∷ xs) p = record { first = x; rest = xs ++ p ∷ []; is = refl; last = last_after_it x xs p }

pub blank_entry : (k : ℕ) → k < 8 → type_byte (entry_of new_sector k) ≡ 0
blank_entry zero h = refl
blank_entry (suc zero) h = refl
blank_entry (suc (suc zero)) h = refl
blank_entry (suc (suc (suc zero))) h = refl
blank_entry (suc (suc (suc (suc zero)))) h = refl
blank_entry (suc (suc (suc (suc (suc zero))))) h = refl
blank_entry (suc (suc (suc (suc (suc (suc zero)))))) h = refl
blank_entry (suc (suc (suc (suc (suc (suc (suc zero))))))) h = refl
blank_entry (suc (suc (suc (suc (suc (suc (suc (suc k)))))))) h = absurd (omega arith)

-- the disk has eight slots more where none is empty
pub grown_is : (d : Disk) → empty_from 0 d.slots ≡ None → more_slots (less_room d) ≡ grown d
grown_is d none = ap (λ (o : Option ℕ). if is_none o then record d { slots = d.slots ++ replicate 8 None; room = d.room - 1 } else d) (sym none)

pub grown_none : (d : Disk) (n : ℕ) → empty_from 0 d.slots ≡ Some n → d ≡ grown d
grown_none d n some = ap (λ (o : Option ℕ). if is_none o then record d { slots = d.slots ++ replicate 8 None; room = d.room - 1 } else d) (sym some)

-- THE DIRECTORY HAS GROWN
pub has_more : (medium : ℕ) (c c1 : Content) (d : Disk) (uses : ℕ → Use) (h : HoldsNow medium c d uses) → Grows (geometry_of medium c) c c1 → Reached medium c h.layout c1 (more_slots (less_room d)) uses
has_more medium c c1 d uses h g = record {
  layout = layouts.layout_grown l g.more;
  so = grown_over tracks c2 c1 l (less_room d) uses e.first e.rest g.more g.sector new_sector two can;
  same = geometry_elsewhere medium g.claimed c1 head ∙ geometry_remapped medium c g.claimed l (with_bit (is_free_in (map_of c)) g.more false) h.so.stands.sound g.claims.remaps;
  front = (g.more ∷ [], refl);
  kept = kept_then l c g.claimed c1 (λ m. false) (kept_mapped l c g.claimed g.claims.remaps.map (λ m. false) h.so.stands.sound.owned g.claims.remaps.written)
      (kept_then l g.claimed c2 c1 (λ m. false) (kept_written l g.claimed c2 g.more new_sector Nobody (λ m. false) h.so.stands.sound.owned nobody refl (λ z. (cc)) refl)
      (kept_linked tracks l c c2 c1 e.first e.rest g.more g.sector (λ m. false) h.so.stands.sound directory can.linked can.written));
  later = λ p f. elim (place_decide g.more p) [
    | inl s ↦ absurd (let z = sym (ap is_file nobody) ∙ ap (λ (x : Place). is_file (l.owner x)) s ∙ f in (cc))
    | inr ne ↦ ap is_file (own_elsewhere l.owner g.more p Directory ne) ∙ f
  ];
}
  where
    tracks : ℕ
    tracks = geometry_of medium c

    l : Layout
    l = h.layout

    c2 : Content
    c2 = written g.claimed g.more new_sector

    nobody : l.owner g.more ≡ Nobody
    nobody = h.so.stands.sound.free g.more g.claims.has g.claims.was_free

    e : Ends (g.is_last.0 ++ g.last ∷ []) g.last
    e = ends g.is_last.0 g.last

    directory : l.directory ≡ e.first ∷ e.rest
    directory = chain_settled tracks c first_directory l.directory (g.is_last.0 ++ g.last ∷ []) h.so.stands.sound.directory g.is_last.1.0 ∙ e.is

    mine : l.owner g.last ≡ Directory
    mine = ap l.owner (sym e.last) ∙ last_owned l.owner Directory e.first e.rest (subst (λ (xs : List Place). OwnedBy l.owner Directory xs) directory h.so.stands.sound.owned.directory)

    one : HoldsAt tracks g.claimed l (less_room d) uses
    one = claimed_on_18 tracks c g.claimed l d uses g.more (few medium c) h.so g.claims

    two : HoldsAt tracks c2 l (less_room d) uses
    two = written_loose tracks g.claimed c2 l (less_room d) uses g.more new_sector one nobody refl

    not_head : (p : Place) → l.owner p ≢ TheMap → p ≢ directory_head
    not_head p ne k = ne (ap l.owner k ∙ h.so.stands.sound.owned.map)

    head_2 : c2 directory_head ≡ g.claimed directory_head
    head_2 = written_elsewhere g.claimed g.more directory_head new_sector (not_head g.more (λ z. (let y = sym nobody ∙ z in (cc))))

    head : c1 directory_head ≡ g.claimed directory_head
    head = ap (λ (x : Content). x directory_head) g.written ∙ written_elsewhere c2 g.last directory_head g.sector (not_head g.last (λ z. (let y = sym mine ∙ z in (cc)))) ∙ head_2

    map_2 : map_of c2 ≡ g.claims.remaps.map
    map_2 = ap or_nothing (head_2 ∙ ap (λ (x : Content). x directory_head) g.claims.remaps.written ∙ written_there c directory_head g.claims.remaps.map)

    last_2 : bytes_at c2 g.last ≡ bytes_at c g.last
    last_2 = ap or_nothing (written_elsewhere g.claimed g.more g.last new_sector (λ z. (let y = sym nobody ∙ ap l.owner z ∙ mine in (cc)))
        ∙ ap (λ (x : Content). x g.last) g.claims.remaps.written ∙ written_elsewhere c directory_head g.last g.claims.remaps.map (λ z. not_head g.last (λ y. (let x = sym mine ∙ y in (cc))) (sym z)))

    can : CanGrow tracks c2 c1 l e.first e.rest g.more g.sector new_sector
    can = record {
      directory = directory;
      has = g.claims.has;
      on_18 = g.claims.on_18;
      nobody = nobody;
      taken = ap (λ (x : List ℕ). is_free_in x g.more) map_2 ∙ g.claims.remaps.mapped.bits g.more g.claims.has ∙ bit_there (is_free_in (map_of c)) g.more false;
      holds = written_there g.claimed g.more new_sector;
      is_blank = record { last = refl; empty = blank_entry };
      linked = subst (λ (p : Place). HasLink (bytes_at c2 p) g.sector g.more) (sym e.last) (subst (λ (x : List ℕ). HasLink x g.sector g.more) (sym last_2) g.links);
      written = g.written ∙ ap (λ (p : Place). written c2 p g.sector) (sym e.last);
    }

pub has_grown : (medium : ℕ) (c c1 : Content) (d : Disk) (uses : ℕ → Use) (h : HoldsNow medium c d uses) → empty_from 0 d.slots ≡ None → Grows (geometry_of medium c) c c1 → Reached medium c h.layout c1 (grown d) uses
has_grown medium c c1 d uses h none g = subst (λ (x : Disk). Reached medium c h.layout c1 x uses) (grown_is d none) (has_more medium c c1 d uses h g)

-- ---- the slot

none_in : (medium : ℕ) (c : Content) (d : Disk) (uses : ℕ → Use) → HoldsNow medium c d uses → FindsEmpty (directory_of (geometry_of medium c) c) (Ok None) → empty_from 0 d.slots ≡ None
none_in medium c d uses h f = sym (empty_of (geometry_of medium c) c h.layout d h.so.stands) ∙ f.0

-- THE SLOT IS THERE, on the disk with its room for it
pub record SlotReady (medium : ℕ) (c : Content) (l : Layout) (c1 : Content) (d : Disk) (uses : ℕ → Use) (n : ℕ) : Type 0 where
  pub reached : Reached medium c l c1 (grown d) uses
  pub slot : empty_from 0 (grown d).slots ≡ Some n

pub slot_ready : (medium : ℕ) (c c1 : Content) (n : ℕ) (d : Disk) (uses : ℕ → Use) (h : HoldsNow medium c d uses) → TakesSlot (geometry_of medium c) c c1 (Some n) → SlotReady medium c h.layout c1 d uses n
slot_ready medium c c1 n d uses h (inl k) =
    let some : empty_from 0 d.slots ≡ Some n = sym (empty_of (geometry_of medium c) c h.layout d h.so.stands) ∙ k.0 in
    let same : d ≡ grown d = grown_none d n some in
    record {
      reached = subst (λ (x : Disk). Reached medium c h.layout c1 x uses) same (stays medium c c1 d uses h k.1);
      slot = ap (λ (x : Disk). empty_from 0 x.slots) (sym same) ∙ some;
    }
slot_ready medium c c1 n d uses h (inr k) =
    let r : Reached medium c h.layout c1 (grown d) uses = has_grown medium c c1 d uses h (none_in medium c d uses h k.0) k.1 in
    record { reached = r; slot = sym (empty_of (geometry_of medium c) c1 r.layout (grown d) r.so.stands) ∙ k.2 }

-- there is no place for a name, and nothing has changed
pub no_slot : (medium : ℕ) (c c1 : Content) (d : Disk) (uses : ℕ → Use) → HoldsNow medium c d uses → TakesSlot (geometry_of medium c) c c1 None → (has_slot d ≡ false) × (c1 ≡ c)
no_slot medium c c1 d uses h k = (ap (λ (o : Option ℕ). is_some o || nat_lt 0 d.room) (none_in medium c d uses h k.0) ∙ none_on_18 k.1, k.2)
  where
    none_on_18 : CannotGrow (geometry_of medium c) c → nat_lt 0 d.room ≡ false
    none_on_18 (inl none) = sym (room_of (geometry_of medium c) c h.layout d (few medium c) h.so.stands) ∙ ap is_some none.1
    none_on_18 (inr full) = ap (nat_lt 0) (full_directory (geometry_of medium c) c h.layout d h.so.stands (few medium c) full)

-- ---- stopped on the way

pub same_files_grown : (d : Disk) (m : ℕ) → file_at (grown d) m ≡ file_at d m
same_files_grown d m = by_empty (empty_from 0 d.slots) refl
  where
    by_empty : (o : Option ℕ) → empty_from 0 d.slots ≡ o → file_at (grown d) m ≡ file_at d m
    by_empty None e = ap (λ (x : Disk). file_at x m) (sym (grown_is d e)) ∙ same_slots d.slots m
    by_empty (Some n) e = ap (λ (x : Disk). file_at x m) (sym (grown_none d n e))

pub slot_lost : (medium : ℕ) (c c1 : Content) (t : Trouble) (d : Disk) (uses : ℕ → Use) (h : HoldsNow medium c d uses) → SlotStopped (geometry_of medium c) c c1 t → SlotLost medium c h.layout c1 d uses
slot_lost medium c c1 t d uses h (inl k) = absurd (never_broken (geometry_of medium c) c h.layout d t h.so.stands k.0.1)
slot_lost medium c c1 t d uses h (inr (n, inl (inl same))) = record { disk = d; reached = stays medium c c1 d uses h same; slots = λ m. refl }
slot_lost medium c c1 t d uses h (inr (n, inl (inr k))) = record { disk = less_room d; reached = by_write k.1.1.1; slots = λ m. refl }
  where
    tracks : ℕ
    tracks = geometry_of medium c

    l : Layout
    l = h.layout

    q : Place
    q = k.0

    claims : ClaimsOn18 tracks c k.1.0 q
    claims = k.1.1.0

    nobody : l.owner q ≡ Nobody
    nobody = h.so.stands.sound.free q claims.has claims.was_free

    claimed : Reached medium c l k.1.0 (less_room d) uses
    claimed = record {
      layout = l;
      so = claimed_on_18 tracks c k.1.0 l d uses q (few medium c) h.so claims;
      same = geometry_remapped medium c k.1.0 l (with_bit (is_free_in (map_of c)) q false) h.so.stands.sound claims.remaps;
      front = ([], sym (append-nil l.directory));
      kept = kept_mapped l c k.1.0 claims.remaps.map (λ m. false) h.so.stands.sound.owned claims.remaps.written;
      later = λ p f. f;
    }

    by_write : (c1 ≡ k.1.0) ⊎ (c1 ≡ written k.1.0 q new_sector) → Reached medium c l c1 (less_room d) uses
    by_write (inl e) = reached_same medium c l k.1.0 c1 (less_room d) uses e claimed
    by_write (inr e) = record {
      layout = l;
      so = written_loose tracks k.1.0 c1 l (less_room d) uses q new_sector claimed.so nobody e;
      same = geometry_elsewhere medium k.1.0 c1 (ap (λ (x : Content). x directory_head) e ∙ written_elsewhere k.1.0 q directory_head new_sector (λ z. (let y = sym nobody ∙ ap l.owner z ∙ h.so.stands.sound.owned.map in (cc)))) ∙ claimed.same;
      front = ([], sym (append-nil l.directory));
      kept = kept_then l c k.1.0 c1 (λ m. false) claimed.kept (kept_written l k.1.0 c1 q new_sector Nobody (λ m. false) h.so.stands.sound.owned nobody refl (λ z. (cc)) e);
      later = λ p f. f;
    }
slot_lost medium c c1 t d uses h (inr (n, inr k)) =
    let g : Reached medium c h.layout c1 (grown d) uses = has_grown medium c c1 d uses h (none_in medium c d uses h n) k.0 in
    absurd (never_broken (geometry_of medium c) c1 g.layout (grown d) t g.so.stands k.1.1)
