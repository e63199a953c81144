-- VALIDATE on any disk, and on a sound one: what the medium holds after each of its steps.
use Rattle.std.proofs.Common.{◌≡◌, ◌⊎◌, ℕ, ◌+◌, ◌-◌, ◌*◌, ◌/◌, ◌<◌, ◌≤◌, List, length, get_or, Bool, true, false, IsOk, refl, sym, ap, subst, ◌∙◌, arith, inl, inr, Option, Some, None, Result, Ok, Err, IfErr}
use Rattle.std.specs.Prelude.{not, map, sum_by, slice_range, slice_index, OnOk, OnErr}
use Rattle.std.proofs.lemmas.Bool.{cases_lt}
use Rattle.std.proofs.lemmas.List.{get_or_past, length-map}
use Rattle.cbm_medium.specs.Place.{Place, Has, directory_head}
use Rattle.cbm_medium.specs.Content.{Cell, Content, IsWhole, written}
use Rattle.cbm_medium.specs.Links.{or_nothing}
use Rattle.cbm_medium.specs.Seen.{Seen, write_refusal, HasFailed}
use Rattle.cbm_medium.specs.declared.fault.Trouble.{Trouble}
use Rattle.cbm_medium.proofs.Places.{written_there, written_elsewhere}
use Rattle.cbm_file.specs.Files.{File, Disk, blocks_held, held_on, blocks_on}
use Rattle.cbm_file.specs.Changes.{only_closed, validated}
use Rattle.cbm_bam.specs.Map.{is_free_in, IsCounted, IsOutsideMap, map_of, geometry_of, tally, number, at}
use Rattle.cbm_bam.proofs.Counts.{free_is_number, number_same, tally_same}
use Rattle.cbm_directory.specs.Entries.{type_byte, is_closed, entry_at}
use Rattle.cbm_directory.specs.Slots.{all_entries}
use Rattle.cbm_directory.proofs.Written.{range_same}
use Rattle.cbm_chain.specs.Data.{chain_bytes}
use Rattle.cbm_volume.specs.Blocks.{Blocks, no_blocks, slot_of}
use Rattle.cbm_volume.specs.Layouts.{Owner, DataOf, OwnedBy, IsCellWritable, Layout, slot_count, Sound, HasLayout}
use Rattle.cbm_volume.specs.Opens.{IsHindered}
use Rattle.cbm_volume.specs.Writers.{Use, Idle, IsUsed, HoldsNow, known, Stopped, writes_slot}
use Rattle.cbm_volume.specs.Holding.{HoldsDisk}
use Rattle.cbm_volume.specs.Unmendable.{IsUnmendable}
use Rattle.cbm_volume.specs.Views.{view_of}
use Rattle.cbm_volume.specs.Sweeps.{IsSweptAs, IsDirectoryChain, IsSwept, IsPutInOrder, IsPartlyInOrder}
use Rattle.cbm_volume.specs.check.WholeDisk.{ClaimsInto}
use Rattle.cbm_volume.proofs.checked.Claimed.{IsClaimedOnce}
use Rattle.cbm_volume.proofs.checked.ClaimedSound.{layout_of, IsLaidOut, laid_out}
use Rattle.cbm_volume.proofs.checked.CheckedSound.{checked_once}
use Rattle.cbm_volume.proofs.checked.Counting.{left, size, sums_same, slots_length, files_counted, room_counted}
use Rattle.cbm_volume.proofs.layouts.Frames.{Keeps, slot_kept}
use Rattle.cbm_volume.proofs.layouts.Listing.{geometry_size, entries_length}
use Rattle.cbm_volume.proofs.layouts.Meaning.{sound_stands}
use Rattle.cbm_volume.proofs.mended.Recounts.{recounted_geometry}
use Rattle.cbm_volume.proofs.layouts.Settled.{same_directory, same_files}
use Rattle.cbm_volume.proofs.written.Storing.{few, geometry_elsewhere}
use Rattle.cbm_volume.proofs.mended.Sweeping.{MaySweep, Sweeps, swept_may, same_may, stays_open, sound_swept, open_known, open_goes, closed_stays, empty_slot}
use Rattle.cbm_volume.proofs.layouts.Hindered.{has_head}
use Rattle.cbm_volume.proofs.layouts.Lengths.{directory_length}
use Rattle.cbm_volume.proofs.layouts.Refusals.{write_hindered, hindered_since, by_protection}
use Rattle.cbm_volume.proofs.mended.Validates.{IsMended, IsLaid, IsWhollyAnew, SweptAll, laid_anew, settled_slot, held_slot, held_same, slots_as, view_sound, apart_from, not_directory, directory_was, claimed_directory, claimed_reads}

-- ---- the disk that a mended content means

-- the slots of the disk are those of the closed files
slot_mended : (c c2 : Content) (owner : Place → Owner) (n : ℕ) (e e2 : List ℕ) (b : Blocks) → IsSweptAs e e2 → Keeps c c2 owner (DataOf n) → OwnedBy owner (DataOf n) b.data_blocks → slot_of c2 e2 b ≡ only_closed (slot_of c e b)
slot_mended c c2 owner n e e2 b w keeps own = by_test (is_closed e) refl
  where
    by_test : (x : Bool) → is_closed e ≡ x → slot_of c2 e2 b ≡ only_closed (slot_of c e b)
    by_test true h = ap (λ (y : List ℕ). slot_of c2 y b) (w.closed h) ∙ slot_kept c c2 owner (DataOf n) e b keeps own ∙ sym (closed_stays (chain_bytes c b.data_blocks) e b h)
    by_test false h = empty_slot (chain_bytes c2 b.data_blocks) e2 b (w.unclosed h) ∙ sym (open_goes (chain_bytes c b.data_blocks) e b h)

closed_or_empty : (e e2 : List ℕ) → IsSweptAs e e2 → (is_closed e2 ≡ true) ⊎ (type_byte e2 ≡ 0)
closed_or_empty e e2 w = by_test (is_closed e) refl
  where
    by_test : (x : Bool) → is_closed e ≡ x → (is_closed e2 ≡ true) ⊎ (type_byte e2 ≡ 0)
    by_test true h = inl (ap is_closed (w.closed h) ∙ h)
    by_test false h = inr (w.unclosed h)

-- what is settled by its counts
as_validated : (e d : Disk) → e.title ≡ d.title → e.mark ≡ d.mark → e.total ≡ d.total → e.slots ≡ map only_closed d.slots → e.free ≡ e.total - held_on e → e.room ≡ 18 - length e.slots / 8 → e ≡ validated d
as_validated e d title mark total slots free room =
    let held : held_on e ≡ held_on d = ap (λ (xs : List (Option File)). sum_by blocks_held xs) slots ∙ held_same d.slots in
    let long : length e.slots ≡ length d.slots = ap length slots ∙ length-map d.slots only_closed in
    let f : e.free ≡ d.total - held_on d = free ∙ ap (λ (n : ℕ). n - held_on e) total ∙ ap (λ (n : ℕ). d.total - n) held in
    let r : e.room ≡ 18 - length d.slots / 8 = room ∙ ap (λ (n : ℕ). 18 - n / 8) long in
    λ i. record { title = title i; mark = mark i; slots = slots i; room = r i; free = f i; total = total i }

mended_laid : (medium : ℕ) (c c1 c2 : Content) (old new : List ℕ) (k : IsClaimedOnce (geometry_of medium c) (view_of (geometry_of medium c) c)) → ((p : Place) → IsWhole (c p)) → c directory_head ≡ Ok old
    → SweptAll (geometry_of medium c) c c1 → IsWhollyAnew (geometry_of medium c) old new k.after → c2 ≡ written c1 directory_head new → IsMended medium c c2
mended_laid medium c c1 c2 old new k whole reads swept anew is =
    let tracks : ℕ = geometry_of medium c in
    let v : Content = view_of tracks c in
    let laid : IsLaidOut tracks v k = laid_out tracks v k in
    let l : Layout = layout_of k.directory k.files laid.owner in
    let w : IsLaid tracks c c2 k laid.owner = laid_anew medium c c1 c2 old new k laid whole swept anew is in
    let m = sound_stands tracks c2 l w.sound in
    let e : Disk = m.0 in
    let st : HasLayout tracks c2 l e = m.1 in
    let head : c2 directory_head ≡ Ok new = ap (λ (x : Content). x directory_head) is ∙ written_there c1 directory_head new in
    let same : geometry_of medium c2 ≡ tracks = recounted_geometry medium c c2 old new reads head anew.recounted in
    let all : number tracks (left k.after) + sum_by size k.files ≡ blocks_on tracks = files_counted tracks v k (geometry_size medium c) in
    let long : length e.slots ≡ 8 * length k.directory = st.describes.size in
    let files : length e.slots ≡ length k.files = long ∙ sym (entries_length v k.directory) ∙ slots_length tracks v k.middle (all_entries v k.directory) k.files k.after k.files_claimed in
    let held : held_on e ≡ sum_by size k.files = sums_same blocks_held size e.slots k.files None no_blocks files (λ i h.
    ap blocks_held (st.describes.slots i (omega (arith, h, long))) ∙ held_slot tracks c2 (chain_bytes c2 (l.files i).data_blocks) (entry_at c2 k.directory i) (l.files i) (w.sound.lies i (omega (arith, h, long)))) in
    let free : e.free ≡ number tracks (left k.after) = st.describes.free ∙ free_is_number tracks (map_of c2) w.sound.counted ∙ number_same tracks (is_free_in (map_of c2)) (left k.after) w.map in
    let counted : e.free ≡ e.total - held_on e = omega (arith, free, all, held, st.describes.total) in
    let room : e.room ≡ 18 - length e.slots / 8 =
    (let t : e.room ≡ tally (left k.after) 18 19 = st.describes.room ∙ tally_same (is_free_in (map_of c2)) (left k.after) 18 19 (λ s h. w.map (at 18 s) (omega arith, few medium c, h)) in
    omega (arith, t, room_counted tracks v k, long)) in
    record {
      disk = e;
      layout = l;
      stands = subst (λ (n : ℕ). HasLayout n c2 l e) (sym same) st;
      mended = as_validated e e refl refl refl
          (slots_as e.slots e.slots refl (λ i h. let at : i < slot_count l = omega (arith, h, long) in
          st.describes.slots i at ∙ sym (settled_slot (chain_bytes c2 (l.files i).data_blocks) (entry_at c2 k.directory i) (l.files i) (closed_or_empty (entry_at c k.directory i) (entry_at c2 k.directory i) (w.entries i at)))
          ∙ ap only_closed (sym (st.describes.slots i at))))
          counted room;
      as_before = λ l0 d s0.
          let shown : Sound tracks v l0 = view_sound medium c l0 whole s0.sound in
          let dirs : k.directory ≡ l0.directory = same_directory tracks v l l0 laid.sound shown in
          let was : map_of c ≡ old = ap or_nothing reads in
          let now : map_of c2 ≡ new = ap or_nothing head in
          let outer : (i : ℕ) → 144 ≤ i → i < 192 → get_or new i 0 ≡ get_or old i 0 = λ i a b. anew.recounted.outside i (inr (a, inr (inl b))) in
          let slots : (i : ℕ) → i < length e.slots → get_or e.slots i None ≡ only_closed (get_or d.slots i None) = λ i h.
          (let at : i < slot_count l = omega (arith, h, long) in
          let at0 : i < slot_count l0 = omega (arith, at, ap length dirs) in
          let file : l.files i ≡ l0.files i = same_files tracks v l l0 i laid.sound shown at in
          st.describes.slots i at
          ∙ slot_mended c c2 laid.owner i (entry_at c k.directory i) (entry_at c2 k.directory i) (l.files i) (w.entries i at) (w.blocks i) (w.sound.owned.blocks i at)
          ∙ ap only_closed (ap (λ (x : List Place). slot_of c (entry_at c x i) (l.files i)) dirs ∙ ap (λ (x : Blocks). slot_of c (entry_at c l0.directory i) x) file ∙ sym (s0.describes.slots i at0))) in
          as_validated e d
          (st.describes.title ∙ title_same old new outer anew.long was now 144 160 (omega arith) (omega arith) ∙ sym s0.describes.title)
          (st.describes.mark ∙ title_same old new outer anew.long was now 162 167 (omega arith) (omega arith) ∙ sym s0.describes.mark)
          (st.describes.total ∙ sym s0.describes.total)
          (slots_as e.slots d.slots (omega (arith, long, ap length dirs, s0.describes.size)) slots)
          counted room;
    }
  where
    title_same : (xs ys : List ℕ) → ((i : ℕ) → 144 ≤ i → i < 192 → get_or ys i 0 ≡ get_or xs i 0) → length ys ≡ length xs → map_of c ≡ xs → map_of c2 ≡ ys → (a b : ℕ) → 144 ≤ a → b < 192 → slice_range (map_of c2) a b ≡ slice_range (map_of c) a b
    title_same xs ys same long was now a b low high = ap (λ (x : List ℕ). slice_range x a b) now ∙ range_same ys xs a b long (λ i p q. same i (omega (arith, p, low)) (omega (arith, q, high))) ∙ sym (ap (λ (x : List ℕ). slice_range x a b) was)

-- ---- the clauses of the call, over plain values

-- the disk is mended, on any content
pub is_mended : (medium : ℕ) (c c1 c2 : Content) (old new : List ℕ) (used : Place → Bool) → ((p : Place) → IsWhole (c p)) → ClaimsInto (geometry_of medium c) (view_of (geometry_of medium c) c) used → c directory_head ≡ Ok old
    → SweptAll (geometry_of medium c) c c1 → IsWhollyAnew (geometry_of medium c) old new used → c2 ≡ written c1 directory_head new → IsMended medium c c2
is_mended medium c c1 c2 old new used whole claims reads swept anew is =
    let once = checked_once (geometry_of medium c) (view_of (geometry_of medium c) c) claims.0 in
    mended_laid medium c c1 c2 old new once.0 whole reads swept (subst (λ (f : Place → Bool). IsWhollyAnew (geometry_of medium c) old new f) (sym (once.1 ∙ claims.1)) anew) is

-- what is changed, on any content
pub put_in_order : (medium : ℕ) (c c1 c2 : Content) (old new : List ℕ) (used : Place → Bool) → ((p : Place) → IsWhole (c p)) → ClaimsInto (geometry_of medium c) (view_of (geometry_of medium c) c) used → c directory_head ≡ Ok old
    → SweptAll (geometry_of medium c) c c1 → IsWhollyAnew (geometry_of medium c) old new used → c2 ≡ written c1 directory_head new → IsPutInOrder (geometry_of medium c) c c2
put_in_order medium c c1 c2 old new used whole claims reads swept anew is =
    let tracks : ℕ = geometry_of medium c in
    let v : Content = view_of tracks c in
    let once = checked_once tracks v claims.0 in
    let k : IsClaimedOnce tracks v = once.0 in
    let laid : IsLaidOut tracks v k = laid_out tracks v k in
    let l : Layout = layout_of k.directory k.files laid.owner in
    let w : IsLaid tracks c c2 k laid.owner = laid_anew medium c c1 c2 old new k laid whole swept (subst (λ (f : Place → Bool). IsWhollyAnew tracks old new f) (sym (once.1 ∙ claims.1)) anew) is in
    let was : IsDirectoryChain tracks c k.directory = directory_was medium c k laid in
    let all : IsSwept c c1 k.directory 144 = swept k.directory was in
    record {
      directory = k.directory;
      was = was;
      stays = (w.sound.directory, was.1);
      slots = w.entries;
      label = λ i o. ap (λ (x : List ℕ). slice_index x i) (ap or_nothing (ap (λ (x : Content). x directory_head) is ∙ written_there c1 directory_head new)) ∙ anew.recounted.outside i o ∙ sym (ap (λ (x : List ℕ). slice_index x i) (ap or_nothing reads));
      elsewhere = λ p apart ne. ap (λ (x : Content). x p) is ∙ written_elsewhere c1 directory_head p new (λ e. ne (sym e)) ∙ all.elsewhere p apart;
    }

pub mended_sound : (medium : ℕ) (c c2 : Content) → IsMended medium c c2 → (e : Disk) × HoldsDisk medium c2 e × (e ≡ validated e)
mended_sound medium c c2 m = (m.disk, record { layout = m.layout; stands = m.stands }, m.mended)

-- no channel uses the disk
abbrev pub AreIdle : (ℕ → Use) → Type 0
AreIdle uses = (ch : ℕ) → uses ch ≡ Idle

idle_holds : (medium : ℕ) (c : Content) (l : Layout) (d : Disk) (uses : ℕ → Use) → AreIdle uses → HasLayout (geometry_of medium c) c l d → HoldsNow medium c d uses
idle_holds medium c l d uses idle st = record {
  layout = l;
  so = record {
    stands = st;
    each = λ ch. subst (λ (u : Use). IsUsed (geometry_of medium c) c l d ch u) (sym (idle ch)) tt;
    alone = λ a b n w h. absurd (let z = sym (ap (writes_slot n) (idle a)) ∙ w in cc);
  };
}

pub mended_holds : (medium : ℕ) (c c2 : Content) (d : Disk) (uses : ℕ → Use) → IsMended medium c c2 → HoldsNow medium c d uses → AreIdle uses → HoldsNow medium c2 (validated d) uses
mended_holds medium c c2 d uses m h idle = subst (λ (x : Disk). HoldsNow medium c2 x uses) (m.as_before h.layout d h.so.stands) (idle_holds medium c2 m.layout m.disk uses idle m.stands)

-- ---- a stop

-- nothing has changed
pub unchanged : (medium : ℕ) (c : Content) (d : Disk) (uses : ℕ → Use) → HoldsNow medium c d uses → Stopped medium c d (validated d) uses
unchanged medium c d uses h = record { disk = d; holds = h; either = λ n. inl refl; total = refl }

-- the slots so far are swept, of a sound disk
swept_sweeps : (tracks : ℕ) (c c1 : Content) (l : Layout) (k : ℕ) → Sound tracks c l → IsSwept c c1 l.directory k → Sweeps c c1 l
swept_sweeps tracks c c1 l k s w = record {
  blocks = λ n p e. w.elsewhere p (apart_from l.owner p l.directory (not_directory l.owner n p (inl e)) s.owned.directory);
  sides = λ n p e. w.elsewhere p (apart_from l.owner p l.directory (not_directory l.owner n p (inr e)) s.owned.directory);
  links = λ p e ok. w.links p ok;
  entries = λ n h. elim (cases_lt n k) [
    | inl b ↦ swept_may (entry_at c l.directory n) (entry_at c1 l.directory n) (w.before n h b)
    | inr b ↦ same_may (entry_at c l.directory n) (entry_at c1 l.directory n) (w.afterwards n h b)
  ];
}

head_stays : (tracks : ℕ) (c c1 : Content) (l : Layout) (k : ℕ) → Sound tracks c l → IsSwept c c1 l.directory k → c1 directory_head ≡ c directory_head
head_stays tracks c c1 l k s w = w.elsewhere directory_head (apart_from l.owner directory_head l.directory (λ e. let z = sym s.owned.map ∙ e in cc) s.owned.directory)

swept_sound : (tracks : ℕ) (c c1 : Content) (l : Layout) (k : ℕ) → Sound tracks c l → IsSwept c c1 l.directory k → Sound tracks c1 l
swept_sound tracks c c1 l k s w =
    let head = head_stays tracks c c1 l k s w in
    let map_is : map_of c1 ≡ map_of c = ap or_nothing head in
    sound_swept tracks c c1 l s (swept_sweeps tracks c c1 l k s w) (λ p h. w.writable p (s.writable p h)) (subst (λ (x : Cell). IsOk x) (sym head) s.map_reads)
    (λ p h f. s.free p h (subst (λ (x : List ℕ). is_free_in x p ≡ true) map_is f)) (subst (λ (x : List ℕ). IsCounted tracks x) (sym map_is) s.counted)

slot_known : (c c1 : Content) (owner : Place → Owner) (n : ℕ) (e e1 : List ℕ) (b : Blocks) → MaySweep e e1 → Keeps c c1 owner (DataOf n) → OwnedBy owner (DataOf n) b.data_blocks → known (slot_of c1 e1 b) ≡ known (slot_of c e b)
slot_known c c1 owner n e e1 b w keeps own = by_test (is_closed e) refl
  where
    by_test : (x : Bool) → is_closed e ≡ x → known (slot_of c1 e1 b) ≡ known (slot_of c e b)
    by_test true h = ap known (ap (λ (y : List ℕ). slot_of c1 y b) (w.closed h) ∙ slot_kept c c1 owner (DataOf n) e b keeps own)
    by_test false h = open_known (chain_bytes c1 b.data_blocks) e1 b (stays_open e e1 w h) ∙ sym (open_known (chain_bytes c b.data_blocks) e b h)

-- STOPPED WHERE SOME SLOTS ARE SWEPT: each closed file is there
swept_stopped : (medium : ℕ) (c c1 : Content) (d : Disk) (uses : ℕ → Use) (k : ℕ) (h : HoldsNow medium c d uses) → AreIdle uses → IsSwept c c1 h.layout.directory k → Stopped medium c1 d (validated d) uses
swept_stopped medium c c1 d uses k h idle w =
    let l : Layout = h.layout in
    let tracks : ℕ = geometry_of medium c in
    let s : Sound tracks c l = h.so.stands.sound in
    let sweeps : Sweeps c c1 l = swept_sweeps tracks c c1 l k s w in
    let m = sound_stands tracks c1 l (swept_sound tracks c c1 l k s w) in
    let same : geometry_of medium c1 ≡ tracks = geometry_elsewhere medium c c1 (head_stays tracks c c1 l k s w) in
    record {
      disk = m.0;
      holds = idle_holds medium c1 l m.0 uses idle (subst (λ (n : ℕ). HasLayout n c1 l m.0) (sym same) m.1);
      either = λ n. inl (elim (cases_lt n (slot_count l)) [
        | inl at ↦ ap known (m.1.describes.slots n at)
            ∙ slot_known c c1 l.owner n (entry_at c l.directory n) (entry_at c1 l.directory n) (l.files n) (sweeps.entries n at) (sweeps.blocks n) (s.owned.blocks n at)
            ∙ sym (ap known (h.so.stands.describes.slots n at))
        | inr past ↦ ap known (get_or_past m.0.slots n None (omega (arith, past, m.1.describes.size)) ∙ sym (get_or_past d.slots n None (omega (arith, past, h.so.stands.describes.size))))
      ]);
      total = m.1.describes.total ∙ sym h.so.stands.describes.total;
    }

pub of_directory : (tracks : ℕ) (c : Content) (l : Layout) → Sound tracks c l → IsDirectoryChain tracks c l.directory
of_directory tracks c l s = (s.directory, directory_length tracks c l s)

pub stopped_at : (medium : ℕ) (c c1 : Content) (d : Disk) (uses : ℕ → Use) → HoldsNow medium c d uses → AreIdle uses → ((xs : List Place) → IsDirectoryChain (geometry_of medium c) c xs → (k : ℕ) × IsSwept c c1 xs k) → Stopped medium c1 d (validated d) uses
stopped_at medium c c1 d uses h idle swept =
    let w = swept h.layout.directory (of_directory (geometry_of medium c) c h.layout h.so.stands.sound) in
    swept_stopped medium c c1 d uses w.0 h idle w.1

-- ---- why it is refused

pub walk_hindered : (old new : Seen) (t : Trouble) (d : Disk) (uses : ℕ → Use) → HoldsNow old.tracks old.content d uses → ((xs : List Place) → IsDirectoryChain (geometry_of old.tracks old.content) old.content xs → IsHindered old new t) → IsHindered old new t
walk_hindered old new t d uses h cause = cause h.layout.directory (of_directory (geometry_of old.tracks old.content) old.content h.layout h.so.stands.sound)

-- nothing is wrong with a sound disk, and its map reads
pub no_refusal : (medium : ℕ) (c : Content) (d : Disk) (uses : ℕ → Use) → HoldsNow medium c d uses → ((l : Layout) → Sound (geometry_of medium c) c l → false ≡ true) → ⊥
no_refusal medium c d uses h exact = let z = exact h.layout h.so.stands.sound in cc

pub map_reads : (medium : ℕ) (c : Content) (d : Disk) (uses : ℕ → Use) (code : ℕ) → HoldsNow medium c d uses → c directory_head ≡ Err code → ⊥
map_reads medium c d uses code h e = let z = subst (λ (x : Cell). IsOk x) e h.so.stands.sound.map_reads in cc

pub map_hindered : (old mid new : Seen) (t : Trouble) (d : Disk) (uses : ℕ → Use) → HoldsNow old.tracks old.content d uses → SweptAll (geometry_of old.tracks old.content) old.content mid.content → mid.protected ≡ old.protected → old.failures ≤ mid.failures
    → (write_refusal mid directory_head ≡ Some t.code) ⊎ HasFailed mid new → IsHindered old new t
map_hindered old mid new t d uses h swept protected counted cause =
    let tracks : ℕ = geometry_of old.tracks old.content in
    let l : Layout = h.layout in
    let s : Sound tracks old.content l = h.so.stands.sound in
    hindered_since old mid new t protected counted
    (write_hindered tracks mid new l directory_head t (swept_sound tracks old.content mid.content l 144 s (swept l.directory (of_directory tracks old.content l s))) (has_head tracks (few old.tracks old.content)) cause)

-- ---- the clauses, by the result of the last write

-- what a call says of the medium inside is so of the volume's
pub here : (P : ℕ → Seen → Type 0) (inside old : Seen) (k : ℕ) → inside ≡ old → k ≡ geometry_of old.tracks old.content → P k inside → P (geometry_of old.tracks old.content) old
here P inside old k same size h = subst (λ (s : Seen). P (geometry_of old.tracks old.content) s) same (subst (λ (m : ℕ). P m inside) size h)

whole_long : (c : Content) (map : List ℕ) → ((p : Place) → IsWhole (c p)) → c directory_head ≡ Ok map → length map ≡ 256
whole_long c map whole e = subst (λ (x : Cell). IsWhole x) e (whole directory_head)

pub wholly_anew : (tracks k : ℕ) (c : Content) (old new : List ℕ) (used : Place → Bool) → k ≡ tracks → ((p : Place) → IsWhole (c p)) → c directory_head ≡ Ok old → ((p : Place) → Has k p → is_free_in new p ≡ not (used p)) → IsCounted k new
    → ((i : ℕ) → IsOutsideMap k i → slice_index new i ≡ slice_index old i) → length new ≡ 256 → IsWhollyAnew tracks old new used
wholly_anew tracks k c old new used same whole reads free counted outside long =
    subst (λ (n : ℕ). IsWhollyAnew n old new used) same (record { free = free; recounted = record { counted = counted; outside = outside }; long = long ∙ sym (whole_long c old whole reads) })

pub ends_mended : (medium : ℕ) (c c1 c2 : Content) (old new : List ℕ) (used : Place → Bool) (r : Result (Unit {0}) Trouble) → OnOk r (c2 ≡ written c1 directory_head new) → ((p : Place) → IsWhole (c p))
    → ClaimsInto (geometry_of medium c) (view_of (geometry_of medium c) c) used → c directory_head ≡ Ok old → SweptAll (geometry_of medium c) c c1 → IsWhollyAnew (geometry_of medium c) old new used → OnOk r (IsMended medium c c2)
ends_mended medium c c1 c2 old new used (Ok x) is whole claims reads swept anew = is_mended medium c c1 c2 old new used whole claims reads swept anew is
ends_mended medium c c1 c2 old new used (Err t) is whole claims reads swept anew = tt

pub ends_sound : (medium : ℕ) (c c2 : Content) (r : Result (Unit {0}) Trouble) → OnOk r (IsMended medium c c2) → OnOk r ((e : Disk) × HoldsDisk medium c2 e × (e ≡ validated e))
ends_sound medium c c2 (Ok x) m = mended_sound medium c c2 m
ends_sound medium c c2 (Err t) m = tt

pub ends_in_order : (medium : ℕ) (c c1 c2 : Content) (old new : List ℕ) (used : Place → Bool) (r : Result (Unit {0}) Trouble) → OnOk r (c2 ≡ written c1 directory_head new) → ((p : Place) → IsWhole (c p))
    → ClaimsInto (geometry_of medium c) (view_of (geometry_of medium c) c) used → c directory_head ≡ Ok old → SweptAll (geometry_of medium c) c c1 → IsWhollyAnew (geometry_of medium c) old new used → OnOk r (IsPutInOrder (geometry_of medium c) c c2)
ends_in_order medium c c1 c2 old new used (Ok x) is whole claims reads swept anew = put_in_order medium c c1 c2 old new used whole claims reads swept anew is
ends_in_order medium c c1 c2 old new used (Err t) is whole claims reads swept anew = tt

-- all slots are swept, and the map is refused
pub ends_partly : (medium : ℕ) (c c1 c2 : Content) (used : Place → Bool) (r : Result (Unit {0}) Trouble) → OnErr r (c2 ≡ c1) → ClaimsInto (geometry_of medium c) (view_of (geometry_of medium c) c) used → SweptAll (geometry_of medium c) c c1 → OnErr r (IsPartlyInOrder (geometry_of medium c) c c2)
ends_partly medium c c1 c2 used (Ok x) same claims swept = tt
ends_partly medium c c1 c2 used (Err t) same claims swept =
    let d = claimed_directory medium c used claims in
    inr (d.0, d.1, 144, subst (λ (x : Content). IsSwept c x d.0 144) (sym same) (swept d.0 d.1))

-- a slot is refused
pub stops_partly : (medium : ℕ) (c c2 : Content) (used : Place → Bool) → ClaimsInto (geometry_of medium c) (view_of (geometry_of medium c) c) used
    → ((xs : List Place) → IsDirectoryChain (geometry_of medium c) c xs → (k : ℕ) × IsSwept c c2 xs k) → IsPartlyInOrder (geometry_of medium c) c c2
stops_partly medium c c2 used claims swept = let d = claimed_directory medium c used claims in let w = swept d.0 d.1 in inr (d.0, d.1, w.0, w.1)

pub ends_validated : (medium : ℕ) (c c2 : Content) (r : Result (Unit {0}) Trouble) (d : Disk) (uses : ℕ → Use) → OnOk r (IsMended medium c c2) → HoldsNow medium c d uses → AreIdle uses → OnOk r (HoldsNow medium c2 (validated d) uses)
ends_validated medium c c2 (Ok x) d uses m h idle = mended_holds medium c c2 d uses m h idle
ends_validated medium c c2 (Err t) d uses m h idle = tt

pub ends_stopped : (medium : ℕ) (c c1 c2 : Content) (r : Result (Unit {0}) Trouble) (d : Disk) (uses : ℕ → Use) → OnErr r (c2 ≡ c1) → SweptAll (geometry_of medium c) c c1 → HoldsNow medium c d uses → AreIdle uses → OnErr r (Stopped medium c2 d (validated d) uses)
ends_stopped medium c c1 c2 (Ok x) d uses same swept h idle = tt
ends_stopped medium c c1 c2 (Err t) d uses same swept h idle =
    subst (λ (x : Content). Stopped medium x d (validated d) uses) (sym same) (stopped_at medium c c1 d uses h idle (λ xs k. (144, swept xs k)))

pub ends_hindered : (old mid new : Seen) (r : Result (Unit {0}) Trouble) (d : Disk) (uses : ℕ → Use) → IfErr r (λ t. (write_refusal mid directory_head ≡ Some t.code) ⊎ HasFailed mid new) → SweptAll (geometry_of old.tracks old.content) old.content mid.content
    → mid.protected ≡ old.protected → old.failures ≤ mid.failures → HoldsNow old.tracks old.content d uses → IfErr r (IsHindered old new)
ends_hindered old mid new (Ok x) d uses cause swept protected counted h = tt
ends_hindered old mid new (Err t) d uses cause swept protected counted h = map_hindered old mid new t d uses h swept protected counted cause

-- ---- why it is refused, on any content

-- a flaw is told, and nothing has changed; or the medium refused a write
abbrev pub IsRefusal : Seen → Seen → Trouble → Type 0
IsRefusal old new t = (IsUnmendable (geometry_of old.tracks old.content) old.content t × (new.content ≡ old.content)) ⊎ IsHindered old new t

-- a flaw that is told
pub flaw_told : (inside old new : Seen) (t : Trouble) → inside ≡ old → new.content ≡ old.content → IsUnmendable (geometry_of inside.tracks inside.content) inside.content t → IsRefusal old new t
flaw_told inside old new t same kept u = inl (subst (λ (s : Seen). IsUnmendable (geometry_of s.tracks s.content) s.content t) same u, kept)

-- the map of what was claimed reads
pub map_read : (medium : ℕ) (c : Content) (used : Place → Bool) (code : ℕ) → ClaimsInto (geometry_of medium c) (view_of (geometry_of medium c) c) used → c directory_head ≡ Err code → ⊥
map_read medium c used code claims e = let z = subst (λ (x : Cell). IsOk x) e (claimed_reads medium c used claims) in cc

-- a slot is refused
pub slot_refused : (old new : Seen) (t : Trouble) (used : Place → Bool) → ClaimsInto (geometry_of old.tracks old.content) (view_of (geometry_of old.tracks old.content) old.content) used
    → ((xs : List Place) → IsDirectoryChain (geometry_of old.tracks old.content) old.content xs → IsHindered old new t) → IsRefusal old new t
slot_refused old new t used claims cause = let d = claimed_directory old.tracks old.content used claims in inr (cause d.0 d.1)

-- the map is refused
pub map_refused : (old mid new : Seen) (map : List ℕ) (used : Place → Bool) (r : Result (Unit {0}) Trouble) → IfErr r (λ t. (write_refusal mid directory_head ≡ Some t.code) ⊎ HasFailed mid new) → old.content directory_head ≡ Ok map
    → ClaimsInto (geometry_of old.tracks old.content) (view_of (geometry_of old.tracks old.content) old.content) used → SweptAll (geometry_of old.tracks old.content) old.content mid.content → mid.protected ≡ old.protected → old.failures ≤ mid.failures
    → IfErr r (IsRefusal old new)
map_refused old mid new map used (Ok x) cause reads claims swept protected counted = tt
map_refused old mid new map used (Err t) cause reads claims swept protected counted =
    let d = claimed_directory old.tracks old.content used claims in
    let w : IsSwept old.content mid.content d.0 144 = swept d.0 d.1 in
    inr (hindered_since old mid new t protected counted (by_cause (w.writable directory_head (subst (λ (x : Cell). IsCellWritable x) (sym reads) tt)) cause))
  where
    by_cause : IsCellWritable (mid.content directory_head) → (write_refusal mid directory_head ≡ Some t.code) ⊎ HasFailed mid new → IsHindered mid new t
    by_cause ok (inl e) = inl (by_protection mid.protected (mid.content directory_head) t.code ok e)
    by_cause ok (inr f) = inr f
