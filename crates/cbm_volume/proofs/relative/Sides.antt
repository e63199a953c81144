-- The side sectors in the drive's form, each of which lists the next 120 blocks; and one block more in the list.
use Rattle.std.proofs.Common.{◌≡◌, ◌≢◌, ℕ, zero, suc, ◌+◌, ◌-◌, ◌*◌, ◌/◌, ◌<◌, List, [], ◌∷◌, ◌++◌, length, take, drop, get_or, true, Ok, IsOk, refl, sym, ap, subst, ◌∙◌, arith, inl, inr, None}
use Rattle.std.proofs.lemmas.Bool.{cases_lt}
use Rattle.std.proofs.lemmas.List.{length-append, length-drop, append-nil, take-append-drop, take-append-le, drop-append-le, take_all, drop_all, set-get_or}
use Rattle.cbm_medium.specs.Place.{Place, directory_head}
use Rattle.cbm_medium.specs.Content.{Cell, Content, written}
use Rattle.cbm_medium.specs.Links.{bytes_at, or_nothing, IsApart}
use Rattle.cbm_medium.proofs.Places.{place_decide, written_there, written_elsewhere}
use Rattle.cbm_file.specs.Files.{Disk, with_slot}
use Rattle.cbm_relfile.specs.SideSectors.{named_in, sides_listed, blocks_listed, Numbered}
use Rattle.cbm_directory.specs.Entries.{entry_at, first_block, first_side, is_closed, is_relative, width_of}
use Rattle.cbm_volume.specs.Blocks.{Blocks, Lies, HasRecords, slot_of}
use Rattle.cbm_volume.specs.Layouts.{DataOf, SideOf, Layout, slot_count, HasLayout}
pub use Rattle.cbm_volume.specs.Growing.{listed_by, IsListed}
use Rattle.cbm_volume.specs.Plain.{IsDistinct}
use Rattle.cbm_volume.proofs.layouts.Frames.{Keeps, owned_nth, write_keeps, chain_kept, slot_kept}
use Rattle.cbm_volume.proofs.layouts.OneSlot.{with_file}
use Rattle.cbm_volume.proofs.checked.SoundClaimed.{sides_distinct}
use Rattle.cbm_volume.proofs.layouts.Steps.{extends_itself}
use Rattle.cbm_volume.proofs.relative.Inside.{stands_inside}
use Rattle.cbm_volume.proofs.relative.Longer.{LiesRelative, lies_open, lies_so}

pub listed_all : (c : Content) (ss xs : List Place) → IsListed c ss xs → blocks_listed c ss ≡ xs
listed_all c [] xs h = sym h
listed_all c (s ∷ ss) xs h = ap (λ (ys : List Place). ys ++ blocks_listed c ss) h.0 ∙ ap (λ (ys : List Place). take 120 xs ++ ys) (listed_all c ss (drop 120 xs) h.1) ∙ take-append-drop 120 xs

-- the same but for one sector
abbrev pub OnlyAt : Content → Content → Place → Type 0
OnlyAt c c' t = (s : Place) → t ≢ s → c' s ≡ c s

listed_apart : (c c' : Content) (t : Place) (ss xs : List Place) → OnlyAt c c' t → IsApart t ss → IsListed c ss xs → IsListed c' ss xs
listed_apart c c' t [] xs o a h = h
listed_apart c c' t (s ∷ ss) xs o a h = (ap (λ (x : Cell). named_in 120 (drop 16 (or_nothing x))) (o s a.0) ∙ h.0, listed_apart c c' t ss (drop 120 xs) o a.1 h.1)

apart_nth : (s : Place) (ss : List Place) (i : ℕ) (d : Place) → IsApart s ss → i < length ss → get_or ss i d ≢ s
apart_nth s [] i d a l = absurd (omega arith)
apart_nth s (x ∷ xs) zero d a l = λ e. a.0 (sym e)
apart_nth s (x ∷ xs) (suc i) d a l = apart_nth s xs i d a.1 (omega arith)

-- ONE BLOCK MORE IN THE LIST, where there is room for it
pub listed_push : (c c' : Content) (ss xs : List Place) (q t : Place) → OnlyAt c c' t → IsDistinct ss → length xs < 120 * length ss → t ≡ get_or ss (length xs / 120) directory_head
    → listed_by c' t ≡ listed_by c t ++ q ∷ [] → IsListed c ss xs → IsListed c' ss (xs ++ q ∷ [])
listed_push c c' [] xs q t o a l is more h = absurd (omega (arith, l))
listed_push c c' (s ∷ ss) xs q t o a l is more h = elim (cases_lt (length xs) 120) [
  | inl short ↦
      (let zero_th : length xs / 120 ≡ 0 = omega (arith, short) in
      let here : t ≡ s = is ∙ ap (λ (i : ℕ). get_or (s ∷ ss) i directory_head) zero_th in
      let front : listed_by c t ≡ xs = ap (listed_by c) here ∙ h.0 ∙ take_all 120 xs (omega (arith, short)) in
      let none : drop 120 (xs ++ q ∷ []) ≡ drop 120 xs = drop_all 120 (xs ++ q ∷ []) (omega (arith, short, length-append xs (q ∷ []))) ∙ sym (drop_all 120 xs (omega (arith, short))) in (
        ap (listed_by c') (sym here) ∙ more ∙ ap (λ (ys : List Place). ys ++ q ∷ []) front ∙ sym (take_all 120 (xs ++ q ∷ []) (omega (arith, short, length-append xs (q ∷ [])))),
        subst (λ (ys : List Place). IsListed c' ss ys) (sym none) (listed_apart c c' t ss (drop 120 xs) o (subst (λ (p : Place). IsApart p ss) (sym here) a.0) h.1),
      ))
  | inr long ↦
      (let left : length (drop 120 xs) ≡ length xs - 120 = length-drop 120 xs in
      let step : length xs / 120 ≡ suc (length (drop 120 xs) / 120) = omega (arith, long, left) in
      let room : length (drop 120 xs) < 120 * length ss = omega (arith, l, left, long) in
      let there : t ≡ get_or ss (length (drop 120 xs) / 120) directory_head = is ∙ ap (λ (i : ℕ). get_or (s ∷ ss) i directory_head) step in
      let ne : t ≢ s = λ e. apart_nth s ss (length (drop 120 xs) / 120) directory_head a.0 (omega (arith, room)) (sym there ∙ e) in (
        ap (λ (x : Cell). named_in 120 (drop 16 (or_nothing x))) (o s ne) ∙ h.0 ∙ sym (take-append-le 120 xs (q ∷ []) long),
        subst (λ (ys : List Place). IsListed c' ss ys) (sym (drop-append-le 120 xs (q ∷ []) long)) (listed_push c c' ss (drop 120 xs) q t o a.1 room there more h.1),
      ))
]

-- a side sector that keeps its number and the records' length
pub numbered_written : (tracks : ℕ) (c c' : Content) (width n : ℕ) (t : Place) (new : List ℕ) (ss : List Place) → OnlyAt c c' t → c' t ≡ Ok new → get_or new 2 0 ≡ get_or (bytes_at c t) 2 0 → get_or new 3 0 ≡ get_or (bytes_at c t) 3 0
    → Numbered tracks c width n ss → Numbered tracks c' width n ss
numbered_written tracks c c' width n t new [] o there e f h = tt
numbered_written tracks c c' width n t new (s ∷ ss) o there e f h = elim (place_decide t s) [
  | inl same ↦
      (let at : c' s ≡ Ok new = ap c' (sym same) ∙ there in (
        h.0,
        subst (λ (x : Cell). IsOk x) (sym at) refl,
        ap (λ (x : Cell). get_or (or_nothing x) 2 0) at ∙ e ∙ ap (λ (p : Place). get_or (bytes_at c p) 2 0) same ∙ h.2,
        ap (λ (x : Cell). get_or (or_nothing x) 3 0) at ∙ f ∙ ap (λ (p : Place). get_or (bytes_at c p) 3 0) same ∙ h.3,
        numbered_written tracks c c' width (n + 1) t new ss o there e f h.4,
      ))
  | inr ne ↦
      (let at : c' s ≡ c s = o s ne in (
        h.0,
        subst (λ (x : Cell). IsOk x) (sym at) h.1,
        ap (λ (x : Cell). get_or (or_nothing x) 2 0) at ∙ h.2,
        ap (λ (x : Cell). get_or (or_nothing x) 3 0) at ∙ h.3,
        numbered_written tracks c c' width (n + 1) t new ss o there e f h.4,
      ))
]

-- the list of side sectors is as it was
pub list_kept : (c c' : Content) (t f : Place) (new : List ℕ) → OnlyAt c c' t → c' t ≡ Ok new → sides_listed new ≡ sides_listed (bytes_at c t) → sides_listed (bytes_at c' f) ≡ sides_listed (bytes_at c f)
list_kept c c' t f new o there e = elim (place_decide t f) [
  | inl same ↦ ap (λ (p : Place). sides_listed (bytes_at c' p)) (sym same) ∙ ap (λ (x : Cell). sides_listed (or_nothing x)) there ∙ e ∙ ap (λ (p : Place). sides_listed (bytes_at c p)) same
  | inr ne ↦ ap (λ (x : Cell). sides_listed (or_nothing x)) (o f ne)
]

-- what the write of a side sector with one block more needs
pub record CanPush (tracks : ℕ) (c c' : Content) (l : Layout) (n : ℕ) (xs : List Place) (q t : Place) (new : List ℕ) : Type 0 where
  pub closed : is_closed (entry_at c l.directory n) ≡ true
  pub relative : is_relative (entry_at c l.directory n) ≡ true
  pub blocks : (l.files n).data_blocks ≡ xs ++ q ∷ []
  pub listed : IsListed c (l.files n).sides xs
  pub room : length xs < 120 * length (l.files n).sides
  pub side : t ≡ get_or (l.files n).sides (length xs / 120) directory_head
  pub number : get_or new 2 0 ≡ get_or (bytes_at c t) 2 0
  pub length_kept : get_or new 3 0 ≡ get_or (bytes_at c t) 3 0
  pub list : sides_listed new ≡ sides_listed (bytes_at c t)
  pub more : named_in 120 (drop 16 new) ≡ listed_by c t ++ q ∷ []
  pub written : c' ≡ written c t new

pub record Pushed (tracks : ℕ) (c' : Content) (l : Layout) (d : Disk) (n : ℕ) : Type 0 where
  pub stands : HasLayout tracks c' (with_file l n (l.files n) l.owner) d
  pub listed : IsListed c' (l.files n).sides (l.files n).data_blocks

-- THE DISK IS THE SAME, and all blocks of the file are listed
pub stands_pushed : (tracks : ℕ) (c c' : Content) (l : Layout) (d : Disk) (n : ℕ) (xs : List Place) (q t : Place) (new : List ℕ) → HasLayout tracks c l d → n < slot_count l → CanPush tracks c c' l n xs q t new → Pushed tracks c' l d n
stands_pushed tracks c c' l d n xs q t new s k g =
    let e : List ℕ = entry_at c l.directory n in
    let b : Blocks = l.files n in
    let was : LiesRelative tracks c e b = lies_open (is_closed e) (is_relative e) tracks c e b g.closed g.relative (s.sound.lies n k) in
    let only : OnlyAt c c' t = λ x ne. ap (λ (y : Content). y x) g.written ∙ written_elsewhere c t x new ne in
    let there : c' t ≡ Ok new = ap (λ (y : Content). y t) g.written ∙ written_there c t new in
    let owned : l.owner t ≡ SideOf n = ap l.owner g.side ∙ owned_nth l.owner (SideOf n) b.sides (length xs / 120) directory_head (s.sound.owned.sides n k) (omega (arith, g.room)) in
    let keep : Keeps c c' l.owner (DataOf n) = λ x h. ap (λ (y : Content). y x) g.written ∙ write_keeps c t new l.owner (DataOf n) (λ z. (let y = sym owned ∙ z in (cc))) x h in
    let listed : IsListed c' b.sides (xs ++ q ∷ []) = listed_push c c' b.sides xs q t only (sides_distinct tracks c (width_of e) 0 b.sides was.records.numbered) g.room g.side
    (ap (λ (x : Cell). named_in 120 (drop 16 (or_nothing x))) there ∙ g.more) g.listed in
    let records : HasRecords tracks c' e b = record {
      some_block = was.records.some_block;
      some_width = was.records.some_width;
      width = was.records.width;
      first = was.records.first;
      listed = was.records.listed ∙ sym (list_kept c c' t (first_side e) new only there g.list);
      numbered = numbered_written tracks c c' (width_of e) 0 t new b.sides only there g.number g.length_kept was.records.numbered;
      joined = ([], append-nil (blocks_listed c' b.sides) ∙ listed_all c' b.sides (xs ++ q ∷ []) listed ∙ sym g.blocks);
    } in
    let lies : Lies tracks c' e b = lies_so (is_closed e) (is_relative e) tracks c' e b g.closed g.relative (record { chain = chain_kept tracks c c' l.owner (DataOf n) keep (first_block e) b.data_blocks (s.sound.owned.blocks n k) was.chain; records = records }) in
    let same : with_slot d n (slot_of c' e b) ≡ d =
    ap (with_slot d n) (slot_kept c c' l.owner (DataOf n) e b keep (s.sound.owned.blocks n k) ∙ sym (s.describes.slots n k))
    ∙ (λ i. record d { slots = set-get_or d.slots n None i }) in
    record {
      stands = subst (λ (x : Disk). HasLayout tracks c' (with_file l n b l.owner) x) same
          (stands_inside tracks c c' l d n t new b l.owner s k (inr owned) g.written lies (extends_itself l n s.sound.owned) (s.sound.owned.blocks n k) (s.sound.owned.sides n k) s.sound.free);
      listed = subst (λ (ys : List Place). IsListed c' b.sides ys) (sym g.blocks) listed;
    }
