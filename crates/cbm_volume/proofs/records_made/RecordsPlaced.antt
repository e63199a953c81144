-- A new relative file on its way: its two sectors are claimed and written, while no slot has them; and each stop.
use Rattle.std.proofs.Common.{◌≡◌, ◌≢◌, ℕ, suc, ◌≤◌, ◌⊎◌, List, false, arith, refl, sym, ap, subst, ◌∙◌, inl, inr, Option, Some, None}
use Rattle.std.specs.Prelude.{MatchOption}
use Rattle.std.proofs.lemmas.Bool.{eq-eqb}
use Rattle.cbm_medium.specs.Place.{Place, directory_head}
use Rattle.cbm_medium.specs.Content.{Content, written}
use Rattle.cbm_medium.specs.Seen.{Seen}
use Rattle.cbm_medium.specs.declared.fault.Trouble.{Trouble}
use Rattle.cbm_medium.proofs.Places.{written_there, written_elsewhere}
use Rattle.cbm_file.specs.Files.{Disk, file_at, empty_from}
use Rattle.cbm_file.specs.Changes.{grown}
use Rattle.cbm_bam.specs.Map.{map_of, geometry_of, IsFull, Claims}
use Rattle.cbm_relfile.specs.Making.{one_listed, AreClaimed, LacksBlocks, IsClaimStopped, IsNewRelfile, IsNewStopped}
use Rattle.cbm_volume.specs.Copies.{less, IsCopyCut}
use Rattle.cbm_volume.specs.Layouts.{Owner, Nobody, TheMap, DataOf, Writer, is_loose, Layout, HasLayout, own}
use Rattle.cbm_volume.specs.NewRecords.{HasTwo, HoldsNew}
use Rattle.cbm_volume.specs.Reaches.{Reached}
use Rattle.cbm_volume.specs.Writers.{Use, Idle, HoldsAt, HoldsNow}
use Rattle.cbm_volume.proofs.layouts.Frames.{Keeps}
use Rattle.cbm_volume.proofs.copied.Making.{holds_on, less_one, less_none, later_own, same_files_less}
use Rattle.cbm_volume.proofs.opened.OpenedFiles.{free_grown}
use Rattle.cbm_volume.proofs.opened.OpenedSlots.{SlotReady, reached_same, claimed_too, same_files_grown}
use Rattle.cbm_volume.proofs.written.Puts.{spares_owned}
use Rattle.cbm_volume.proofs.layouts.Refusals.{write_hindered, sector_hindered, hindered_since}
use Rattle.cbm_volume.proofs.layouts.Remaps.{with_owner}
use Rattle.cbm_volume.proofs.layouts.Steps.{one_less, Claimed, stands_claim, stands_loose, own_there, own_elsewhere}
use Rattle.cbm_volume.proofs.written.Storing.{few, geometry_claimed, geometry_elsewhere, none_free}
use Rattle.cbm_volume.proofs.layouts.Staying.{KeepsClosed, kept_written, kept_claimed, kept_later}
use Rattle.cbm_volume.proofs.layouts.Writers.{Spares, stands_owned, written_keeps}
use Rattle.cbm_volume.specs.Layouts as layouts

-- ---- a block is claimed for a number that no channel has

pub record OwnsMore (medium : ℕ) (c : Content) (l : Layout) (c1 c2 : Content) (d : Disk) (n : ℕ) (uses : ℕ → Use) (ch : ℕ) (q : Place) (r : Reached medium c l c1 (less n d) uses) : Type 0 where
  pub reached : Reached medium c l c2 (less (suc n) d) uses
  pub owner : reached.layout.owner ≡ own r.layout.owner q (Writer ch)
  pub nobody : r.layout.owner q ≡ Nobody

pub own_claimed : (medium : ℕ) (c : Content) (l : Layout) (c1 c2 : Content) (d : Disk) (n : ℕ) (uses : ℕ → Use) (ch : ℕ) (q : Place) → uses ch ≡ Idle → (r : Reached medium c l c1 (less n d) uses) → Claims (geometry_of medium c) c1 c2 q → OwnsMore medium c l c1 c2 d n uses ch q r
own_claimed medium c l c1 c2 d n uses ch q idle r k =
    let tracks : ℕ = geometry_of medium c in
    let d1 : Disk = less n d in
    let claimed : Claimed tracks c1 c2 r.layout d1 q = stands_claim tracks c1 c2 r.layout d1 q r.so.stands (few medium c) k in
    let l' : Layout = with_owner r.layout (own r.layout.owner q (Writer ch)) in
    let e : one_less d1 ≡ less (suc n) d = less_one d n (suc n) refl in
    let spares : Spares c1 c2 r.layout l' d1 (one_less d1) (λ x. false) (λ m. false) = spares_owned tracks c1 c2 r.layout d1 q ch r.so.stands k claimed.taken.nobody in
    let so : HoldsAt tracks c2 l' (one_less d1) uses = holds_on tracks c1 c2 r.layout l' d1 (one_less d1) uses ch (λ m. false) idle r.so (stands_owned tracks c2 r.layout (one_less d1) q ch claimed.stands claimed.taken)
    (record { writers = λ x o. spares.writers x refl; writers_own = λ x p o. spares.writers_own x p refl; files = λ m o. spares.files m refl; files_own = λ m p o. spares.files_own m p refl; more = omega arith; slots = λ m o. refl }) (λ m i h. refl) in
    let kept : KeepsClosed r.layout c1 c2 (λ m. false) = kept_claimed tracks r.layout c1 c2 q (λ m. false) r.so.stands.sound.owned k in
    record {
      reached = record {
        layout = l';
        so = subst (λ (x : Disk). HoldsAt tracks c2 l' x uses) e so;
        same = geometry_claimed medium c1 c2 r.layout q (subst (λ (m : ℕ). layouts.Sound m c1 r.layout) (sym r.same) r.so.stands.sound) (subst (λ (m : ℕ). Claims m c1 c2 q) (sym r.same) k) ∙ r.same;
        front = r.front;
        kept = kept_later l r.layout c c1 c2 (λ m. false) r.front r.later r.kept kept;
        later = λ p f. later_own r.layout.owner q ch claimed.taken.nobody p (r.later p f);
      };
      owner = refl;
      nobody = claimed.taken.nobody;
    }

-- ---- a sector of that number is written

pub record WritesOwn (medium : ℕ) (c : Content) (l : Layout) (c1 c2 : Content) (d1 : Disk) (uses : ℕ → Use) (r : Reached medium c l c1 d1 uses) : Type 0 where
  pub reached : Reached medium c l c2 d1 uses
  pub owner : reached.layout.owner ≡ r.layout.owner

pub own_written : (medium : ℕ) (c : Content) (l : Layout) (c1 c2 : Content) (d1 : Disk) (uses : ℕ → Use) (ch : ℕ) (p : Place) (sector : List ℕ) → uses ch ≡ Idle → (r : Reached medium c l c1 d1 uses) → r.layout.owner p ≡ Writer ch → c2 ≡ written c1 p sector → WritesOwn medium c l c1 c2 d1 uses r
own_written medium c l c1 c2 d1 uses ch p sector idle r mine e =
    let tracks : ℕ = geometry_of medium c in
    let owner : Place → Owner = r.layout.owner in
    let stands : HasLayout tracks c2 r.layout d1 = stands_loose tracks c1 c2 r.layout d1 p sector r.so.stands (ap is_loose mine) e in
    let head : c2 directory_head ≡ c1 directory_head = ap (λ (x : Content). x directory_head) e ∙ written_elsewhere c1 p directory_head sector (λ z. (let y = sym mine ∙ ap owner z ∙ r.so.stands.sound.owned.map in (cc))) in
    let kept : KeepsClosed r.layout c1 c2 (λ m. false) = kept_written r.layout c1 c2 p sector (Writer ch) (λ m. false) r.so.stands.sound.owned mine refl (λ z. (cc)) e in
    let keeps : (o : Owner) → Writer ch ≢ o → Keeps c1 c2 owner o = λ o ne. written_keeps c1 c2 p sector owner o e (λ z. ne (sym mine ∙ z)) in
    record {
      reached = record {
        layout = r.layout;
        so = holds_on tracks c1 c2 r.layout r.layout d1 d1 uses ch (λ n. false) idle r.so stands
            (record {
              writers = λ x out. keeps (Writer x) (λ z. (let g : x ≡ ch = cc in let t = sym (eq-eqb x ch g) ∙ out in (cc)));
              writers_own = λ x q out z. z;
              files = λ n no. keeps (DataOf n) (λ z. (cc));
              files_own = λ n q no z. z;
              more = omega arith;
              slots = λ n no. refl;
            }) (λ m n h. refl);
        same = geometry_elsewhere medium c1 c2 head ∙ r.same;
        front = r.front;
        kept = kept_later l r.layout c c1 c2 (λ m. false) r.front r.later r.kept kept;
        later = r.later;
      };
      owner = refl;
    }

-- ---- both sectors

pub two_claimed : (medium : ℕ) (c : Content) (l : Layout) (c1 c2 : Content) (d : Disk) (uses : ℕ → Use) (ch : ℕ) (p q : Place) → uses ch ≡ Idle → Reached medium c l c1 (grown d) uses → AreClaimed (geometry_of medium c) c1 c2 p q → HasTwo medium c l d uses ch c2 p q
two_claimed medium c l c1 c2 d uses ch p q idle r k =
    let r0 : Reached medium c l c1 (less 0 d) uses = subst (λ (x : Disk). Reached medium c l c1 x uses) (less_none d) r in
    let one : OwnsMore medium c l c1 k.one d 0 uses ch p r0 = own_claimed medium c l c1 k.one d 0 uses ch p idle r0 k.first in
    let two : OwnsMore medium c l k.one c2 d 1 uses ch q one.reached = own_claimed medium c l k.one c2 d 1 uses ch q idle one.reached k.second in
    let mine : one.reached.layout.owner p ≡ Writer ch = ap (λ (f : Place → Owner). f p) one.owner ∙ own_there r0.layout.owner p (Writer ch) in
    let apart : p ≢ q = λ z. (let y = sym mine ∙ ap one.reached.layout.owner z ∙ two.nobody in (cc)) in
    record {
      idle = idle;
      reached = two.reached;
      block = ap (λ (f : Place → Owner). f p) two.owner ∙ own_elsewhere one.reached.layout.owner q p (Writer ch) (λ z. apart (sym z)) ∙ mine;
      side = ap (λ (f : Place → Owner). f q) two.owner ∙ own_there one.reached.layout.owner q (Writer ch);
      apart = apart;
      has_block = k.first.has;
      has_side = k.second.has;
      block_off = k.first.off_18;
      side_off = k.second.off_18;
    }

pub two_written : (medium : ℕ) (c : Content) (l : Layout) (c1 c2 : Content) (d : Disk) (uses : ℕ → Use) (ch : ℕ) (p q : Place) (w : ℕ) → HasTwo medium c l d uses ch c1 p q → IsNewRelfile c1 c2 p q w → HasTwo medium c l d uses ch c2 p q × HoldsNew c2 p q w
two_written medium c l c1 c2 d uses ch p q w h k =
    let mid : Content = written c1 p k.block in
    let one : WritesOwn medium c l c1 mid (less 2 d) uses h.reached = own_written medium c l c1 mid (less 2 d) uses ch p k.block h.idle h.reached h.block refl in
    let two : WritesOwn medium c l mid c2 (less 2 d) uses one.reached = own_written medium c l mid c2 (less 2 d) uses ch q (one_listed p q w) h.idle one.reached (ap (λ (f : Place → Owner). f q) one.owner ∙ h.side) k.written in (
      record {
        idle = h.idle;
        reached = two.reached;
        block = ap (λ (f : Place → Owner). f p) (two.owner ∙ one.owner) ∙ h.block;
        side = ap (λ (f : Place → Owner). f q) (two.owner ∙ one.owner) ∙ h.side;
        apart = h.apart;
        has_block = h.has_block;
        has_side = h.has_side;
        block_off = h.block_off;
        side_off = h.side_off;
      },
      record {
        bytes = k.block;
        fresh = k.fresh;
        at_block = ap (λ (x : Content). x p) k.written ∙ written_elsewhere mid q p (one_listed p q w) (λ z. h.apart (sym z)) ∙ written_there c1 p k.block;
        at_side = ap (λ (x : Content). x q) k.written ∙ written_there mid q (one_listed p q w);
      },
    )

-- ---- a claim is refused, or finds no block

pub claims_cut : (old mid new : Seen) (geometry n : ℕ) (t : Trouble) (d : Disk) (uses : ℕ → Use) (h : HoldsNow old.tracks old.content d uses) → SlotReady old.tracks old.content h.layout mid.content d uses n → mid.protected ≡ old.protected → old.failures ≤ mid.failures
    → geometry ≡ geometry_of old.tracks old.content → IsClaimStopped geometry mid new t.code → IsCopyCut old new old.content h.layout d uses t
claims_cut old mid new geometry n t d uses h ready protected counted e k = by_before k.before
  where
    hindered : (disk : Disk) → (r : Reached old.tracks old.content h.layout k.mid.content disk uses) → ((m : ℕ) → file_at disk m ≡ file_at d m) → IsCopyCut old new old.content h.layout d uses t
    hindered disk r slots = (
      record { disk = disk; reached = reached_same old.tracks old.content h.layout k.mid.content new.content disk uses k.same r; slots = slots },
      hindered_since old k.mid new t (k.protected ∙ protected) (omega (arith, k.counted, counted)) (sector_hindered k.mid new directory_head t r.so.stands.sound.map_reads k.cause),
    )

    by_before : (k.mid.content ≡ mid.content) ⊎ ((p : Place) × Claims geometry mid.content k.mid.content p) → IsCopyCut old new old.content h.layout d uses t
    by_before (inl same) = hindered (grown d) (reached_same old.tracks old.content h.layout mid.content k.mid.content (grown d) uses same ready.reached) (same_files_grown d)
    by_before (inr c) = hindered (one_less (grown d)) (claimed_too old.tracks old.content h.layout mid.content k.mid.content (grown d) uses c.0 ready.reached (subst (λ (i : ℕ). Claims i mid.content k.mid.content c.0) e c.1)) (same_files_grown d)

pub two_there : (old : Seen) (mid new : Content) (geometry n : ℕ) (d : Disk) (uses : ℕ → Use) (h : HoldsNow old.tracks old.content d uses) → SlotReady old.tracks old.content h.layout mid d uses n → geometry ≡ geometry_of old.tracks old.content → 2 ≤ d.free → LacksBlocks geometry mid new → ⊥
two_there old mid new geometry n d uses h ready e room (inl k) =
    let none : (grown d).free ≡ 0 = none_free (geometry_of old.tracks old.content) mid ready.reached.layout (grown d) ready.reached.so.stands (subst (λ (i : ℕ). IsFull i (map_of mid)) e k.0) in
    omega (arith, none, free_grown d, room)
two_there old mid new geometry n d uses h ready e room (inr k) =
    let r : Reached old.tracks old.content h.layout new (one_less (grown d)) uses = claimed_too old.tracks old.content h.layout mid new (grown d) uses k.0 ready.reached (subst (λ (i : ℕ). Claims i mid new k.0) e k.1) in
    let none : (one_less (grown d)).free ≡ 0 = none_free (geometry_of old.tracks old.content) new r.layout (one_less (grown d)) r.so.stands (subst (λ (i : ℕ). IsFull i (map_of new)) e k.2) in
    omega (arith, none, free_grown d, room)

-- ---- a write is refused

pub new_cut : (old new : Seen) (c : Content) (l : Layout) (d : Disk) (uses : ℕ → Use) (ch : ℕ) (p q : Place) (t : Trouble) → HasTwo old.tracks c l d uses ch old.content p q → IsNewStopped old new p q t.code → IsCopyCut old new c l d uses t
new_cut old new c l d uses ch p q t h (inl k) = (
  record { disk = less 2 d; reached = reached_same old.tracks c l old.content new.content (less 2 d) uses k.0 h.reached; slots = same_files_less d 2 },
  write_hindered (geometry_of old.tracks c) old new h.reached.layout p t h.reached.so.stands.sound h.has_block k.1,
)
new_cut old new c l d uses ch p q t h (inr k) =
    let one : WritesOwn old.tracks c l old.content k.0.content (less 2 d) uses h.reached = own_written old.tracks c l old.content k.0.content (less 2 d) uses ch p k.1.block h.idle h.reached h.block k.1.written in (
      record { disk = less 2 d; reached = reached_same old.tracks c l k.0.content new.content (less 2 d) uses k.2 one.reached; slots = same_files_less d 2 },
      hindered_since old k.0 new t k.1.protected k.1.counted (write_hindered (geometry_of old.tracks c) k.0 new one.reached.layout q t one.reached.so.stands.sound h.has_side k.3),
    )

-- ---- what the claims answer

abbrev pub ClaimsTwo : ℕ → Content → Content → Option (Place × Place) → Type 0
ClaimsTwo geometry c c' o = MatchOption o (LacksBlocks geometry c c') (λ r. AreClaimed geometry c c' r.0 r.1)

pub lacks_none : (old mid new : Seen) (geometry n : ℕ) (o : Option (Place × Place)) (d : Disk) (uses : ℕ → Use) (h : HoldsNow old.tracks old.content d uses) → SlotReady old.tracks old.content h.layout mid.content d uses n → geometry ≡ geometry_of old.tracks old.content → 2 ≤ d.free → o ≡ None
    → ClaimsTwo geometry mid.content new.content o → ⊥
lacks_none old mid new geometry n o d uses h ready e room none claimed =
    two_there old mid.content new.content geometry n d uses h ready e room (subst (λ (x : Option (Place × Place)). ClaimsTwo geometry mid.content new.content x) none claimed)

pub has_two : (old mid new : Seen) (geometry n : ℕ) (o : Option (Place × Place)) (s : Place × Place) (d : Disk) (uses : ℕ → Use) (ch : ℕ) (h : HoldsNow old.tracks old.content d uses) → uses ch ≡ Idle → SlotReady old.tracks old.content h.layout mid.content d uses n → geometry ≡ geometry_of old.tracks old.content → o ≡ Some s
    → ClaimsTwo geometry mid.content new.content o → (empty_from 0 (grown d).slots ≡ Some n) × HasTwo old.tracks old.content h.layout d uses ch new.content s.0 s.1
has_two old mid new geometry n o s d uses ch h idle ready e some claimed =
    let k : ClaimsTwo (geometry_of old.tracks old.content) mid.content new.content (Some s) = subst (λ (x : ℕ). ClaimsTwo x mid.content new.content (Some s)) e (subst (λ (x : Option (Place × Place)). ClaimsTwo geometry mid.content new.content x) some claimed) in
    (ready.slot, two_claimed old.tracks old.content h.layout mid.content new.content d uses ch s.0 s.1 idle ready.reached k)
