-- One side sector more: it was claimed and written, and now the first side sector lists it.
use Rattle.std.proofs.Common.{◌≡◌, ◌≢◌, ℕ, ◌+◌, ◌*◌, ◌<◌, ◌≤◌, List, [], ◌∷◌, ◌++◌, length, drop, get_or, Ok, IsOk, refl, sym, ap, subst, ◌∙◌, arith, inl, inr, true}
use Rattle.std.proofs.lemmas.List.{length-drop, append-nil, take-append-le, drop-append-le}
use Rattle.cbm_medium.specs.Place.{Place, Has}
use Rattle.cbm_medium.specs.Content.{Cell, Content, written}
use Rattle.cbm_medium.specs.Links.{bytes_at, or_nothing}
use Rattle.cbm_medium.proofs.Places.{place_decide, written_there, written_elsewhere}
use Rattle.cbm_file.specs.Files.{Disk, with_slot}
use Rattle.cbm_bam.specs.Map.{is_free_in, map_of}
use Rattle.cbm_relfile.specs.SideSectors.{named_in, sides_listed, blocks_listed, Numbered}
use Rattle.cbm_directory.specs.Entries.{entry_at, first_block, first_side, is_closed, is_relative, width_of}
use Rattle.cbm_volume.specs.Blocks.{Blocks, Lies, HasRecords, slot_of}
use Rattle.cbm_volume.specs.Layouts.{Owner, Nobody, DataOf, SideOf, is_loose, OwnedBy, Layout, IsOwned, slot_count, HasLayout, Extends, own}
use Rattle.cbm_volume.proofs.layouts.Frames.{Keeps, owned_same, write_keeps, chain_kept}
use Rattle.cbm_volume.proofs.layouts.Grows.{owned_push}
use Rattle.cbm_volume.proofs.layouts.OneSlot.{with_file}
use Rattle.cbm_volume.proofs.layouts.Steps.{IsTaken, own_there, own_elsewhere}
use Rattle.cbm_volume.proofs.relative.Inside.{stands_inside}
use Rattle.cbm_volume.proofs.relative.Longer.{LiesRelative, lies_open, lies_so}
use Rattle.cbm_volume.proofs.relative.Sides.{listed_by, IsListed, listed_all, OnlyAt, numbered_written}

-- a sector that is no part of the disk goes to a file, as a side sector
pub extends_side : (l : Layout) (p : Place) (n : ℕ) → IsOwned l → is_loose (l.owner p) ≡ true → p.track ≢ 18 → Extends l n (own l.owner p (SideOf n))
extends_side l p n w h off = record {
  keeps = λ q o k e. elim (place_decide p q) [
    | inl s ↦ absurd (let z = ap is_loose (sym e ∙ ap l.owner (sym s)) ∙ h in let f = k.part in (cc))
    | inr ne ↦ own_elsewhere l.owner p q (SideOf n) ne ∙ e
  ];
  on_18 = λ q e. elim (place_decide p q) [
    | inl s ↦ absurd (let z = sym (own_there l.owner p (SideOf n)) ∙ ap (own l.owner p (SideOf n)) s ∙ e in (cc))
    | inr ne ↦ w.on_18 q (sym (own_elsewhere l.owner p q (SideOf n) ne) ∙ e)
  ];
  off_18 = λ q t m. elim (place_decide p q) [
    | inl s ↦ absurd (off (ap (λ (x : Place). x.track) s ∙ t))
    | inr ne ↦ (λ e. (w.off_18 q t m).0 (sym (own_elsewhere l.owner p q (SideOf n) ne) ∙ e), λ e. (w.off_18 q t m).1 (sym (own_elsewhere l.owner p q (SideOf n) ne) ∙ e))
  ];
}

-- the list goes on in the new side sector, where those before are full
listed_add : (c : Content) (ss xs : List Place) (q t : Place) → length xs ≡ 120 * length ss → listed_by c t ≡ q ∷ [] → IsListed c ss xs → IsListed c (ss ++ t ∷ []) (xs ++ q ∷ [])
listed_add c [] xs q t full is h =
    let none : xs ++ q ∷ [] ≡ q ∷ [] = ap (λ (ys : List Place). ys ++ q ∷ []) h in
    subst (λ (ys : List Place). IsListed c (t ∷ []) ys) (sym none) (is, refl)
listed_add c (s ∷ ss) xs q t full is h =
    let long : 120 ≤ length xs = omega (arith, full) in (
      h.0 ∙ sym (take-append-le 120 xs (q ∷ []) long),
      subst (λ (ys : List Place). IsListed c (ss ++ t ∷ []) ys) (sym (drop-append-le 120 xs (q ∷ []) long)) (listed_add c ss (drop 120 xs) q t (omega (arith, full, length-drop 120 xs)) is h.1),
    )

pub numbered_add : (tracks : ℕ) (c : Content) (width n : ℕ) (ss : List Place) (t : Place) → Numbered tracks c width n ss → Has tracks t → IsOk (c t) → get_or (bytes_at c t) 2 0 ≡ n + length ss → get_or (bytes_at c t) 3 0 ≡ width → Numbered tracks c width n (ss ++ t ∷ [])
numbered_add tracks c width n [] t h has ok num wid = (has, ok, (let e : get_or (bytes_at c t) 2 0 ≡ n = omega (arith, num) in e), wid, tt)
numbered_add tracks c width n (s ∷ ss) t h has ok num wid = (h.0, h.1, h.2, h.3, numbered_add tracks c width (n + 1) ss t h.4 has ok (omega (arith, num)) wid)

-- a side sector's list of blocks is as it was
pub listed_written : (c c' : Content) (t : Place) (new : List ℕ) (ss xs : List Place) → OnlyAt c c' t → c' t ≡ Ok new → named_in 120 (drop 16 new) ≡ listed_by c t → IsListed c ss xs → IsListed c' ss xs
listed_written c c' t new [] xs o there e h = h
listed_written c c' t new (s ∷ ss) xs o there e h = (
  (elim (place_decide t s) [
    | inl same ↦ ap (listed_by c') (sym same) ∙ ap (λ (x : Cell). named_in 120 (drop 16 (or_nothing x))) there ∙ e ∙ ap (listed_by c) same
    | inr ne ↦ ap (λ (x : Cell). named_in 120 (drop 16 (or_nothing x))) (o s ne)
  ]) ∙ h.0,
  listed_written c c' t new ss (drop 120 xs) o there e h.1,
)

pub all_listed_written : (c c' : Content) (t : Place) (new : List ℕ) (ss : List Place) → OnlyAt c c' t → c' t ≡ Ok new → named_in 120 (drop 16 new) ≡ listed_by c t → blocks_listed c' ss ≡ blocks_listed c ss
all_listed_written c c' t new [] o there e = refl
all_listed_written c c' t new (s ∷ ss) o there e =
    let here : listed_by c' s ≡ listed_by c s = elim (place_decide t s) [
      | inl same ↦ ap (listed_by c') (sym same) ∙ ap (λ (x : Cell). named_in 120 (drop 16 (or_nothing x))) there ∙ e ∙ ap (listed_by c) same
      | inr ne ↦ ap (λ (x : Cell). named_in 120 (drop 16 (or_nothing x))) (o s ne)
    ] in
    λ i. here i ++ all_listed_written c c' t new ss o there e i

abbrev pub sided : Blocks → Place → Blocks
sided b t = record { data_blocks = b.data_blocks; sides = b.sides ++ t ∷ [] }

-- what the write of the first side sector needs
pub record CanAdd (tracks : ℕ) (c c' : Content) (l : Layout) (n : ℕ) (xs : List Place) (q t : Place) (side new : List ℕ) : Type 0 where
  pub closed : is_closed (entry_at c l.directory n) ≡ true
  pub relative : is_relative (entry_at c l.directory n) ≡ true
  pub blocks : (l.files n).data_blocks ≡ xs ++ q ∷ []
  pub listed : IsListed c (l.files n).sides xs
  pub full : length xs ≡ 120 * length (l.files n).sides
  -- the new side sector lists the one block after those
  pub taken : IsTaken tracks c l t
  pub holds : c t ≡ Ok side
  pub its_number : get_or side 2 0 ≡ length (l.files n).sides
  pub its_length : get_or side 3 0 ≡ width_of (entry_at c l.directory n)
  pub its_list : named_in 120 (drop 16 side) ≡ q ∷ []
  -- the first one changes its list of side sectors alone
  pub number : get_or new 2 0 ≡ get_or (bytes_at c (first_side (entry_at c l.directory n))) 2 0
  pub length_kept : get_or new 3 0 ≡ get_or (bytes_at c (first_side (entry_at c l.directory n))) 3 0
  pub list : sides_listed new ≡ (l.files n).sides ++ t ∷ []
  pub blocks_kept : named_in 120 (drop 16 new) ≡ listed_by c (first_side (entry_at c l.directory n))
  pub written : c' ≡ written c (first_side (entry_at c l.directory n)) new

pub record Added (tracks : ℕ) (c' : Content) (l : Layout) (d : Disk) (n : ℕ) (e : List ℕ) (t : Place) : Type 0 where
  pub stands : HasLayout tracks c' (with_file l n (sided (l.files n) t) (own l.owner t (SideOf n))) (with_slot d n (slot_of c' e (sided (l.files n) t)))
  pub listed : IsListed c' ((l.files n).sides ++ t ∷ []) (l.files n).data_blocks

-- THE FILE HAS ONE SIDE SECTOR MORE, and all its blocks are listed
pub stands_added : (tracks : ℕ) (c c' : Content) (l : Layout) (d : Disk) (n : ℕ) (xs : List Place) (q t : Place) (side new : List ℕ) → HasLayout tracks c l d → n < slot_count l → CanAdd tracks c c' l n xs q t side new
    → Added tracks c' l d n (entry_at c l.directory n) t
stands_added tracks c c' l d n xs q t side new s k g =
    let e : List ℕ = entry_at c l.directory n in
    let b : Blocks = l.files n in
    let f : Place = first_side e in
    let owner : Place → Owner = own l.owner t (SideOf n) in
    let was : LiesRelative tracks c e b = lies_open (is_closed e) (is_relative e) tracks c e b g.closed g.relative (s.sound.lies n k) in
    let owned_f : l.owner f ≡ SideOf n = (subst (λ (ys : List Place). OwnedBy l.owner (SideOf n) ys) was.records.first.1 (s.sound.owned.sides n k)).0 in
    let apart : f ≢ t = λ z. (let y = sym owned_f ∙ ap l.owner z ∙ g.taken.nobody in (cc)) in
    let only : OnlyAt c c' f = λ x ne. ap (λ (y : Content). y x) g.written ∙ written_elsewhere c f x new ne in
    let there : c' f ≡ Ok new = ap (λ (y : Content). y f) g.written ∙ written_there c f new in
    let at_t : c' t ≡ Ok side = only t apart ∙ g.holds in
    let keep : Keeps c c' l.owner (DataOf n) = λ x h. ap (λ (y : Content). y x) g.written ∙ write_keeps c f new l.owner (DataOf n) (λ z. (let y = sym owned_f ∙ z in (cc))) x h in
    let listed : IsListed c' (b.sides ++ t ∷ []) (xs ++ q ∷ []) = listed_add c' b.sides xs q t g.full (ap (λ (x : Cell). named_in 120 (drop 16 (or_nothing x))) at_t ∙ g.its_list)
    (listed_written c c' f new b.sides xs only there g.blocks_kept g.listed) in
    let records : HasRecords tracks c' e (sided b t) = record {
      some_block = was.records.some_block;
      some_width = was.records.some_width;
      width = was.records.width;
      first = (was.records.first.0 ++ t ∷ [], ap (λ (ys : List Place). ys ++ t ∷ []) was.records.first.1);
      listed = sym (ap (λ (x : Cell). sides_listed (or_nothing x)) there ∙ g.list);
      numbered = numbered_add tracks c' (width_of e) 0 b.sides t (numbered_written tracks c c' (width_of e) 0 f new b.sides only there g.number g.length_kept was.records.numbered) g.taken.has
          (subst (λ (x : Cell). IsOk x) (sym at_t) refl) (ap (λ (x : Cell). get_or (or_nothing x) 2 0) at_t ∙ g.its_number ∙ (let z : length b.sides ≡ 0 + length b.sides = omega arith in z)) (ap (λ (x : Cell). get_or (or_nothing x) 3 0) at_t ∙ g.its_length);
      joined = ([], append-nil (blocks_listed c' (b.sides ++ t ∷ [])) ∙ listed_all c' (b.sides ++ t ∷ []) (xs ++ q ∷ []) listed ∙ sym g.blocks);
    } in
    let lies : Lies tracks c' e (sided b t) = lies_so (is_closed e) (is_relative e) tracks c' e (sided b t) g.closed g.relative
    (record { chain = chain_kept tracks c c' l.owner (DataOf n) keep (first_block e) b.data_blocks (s.sound.owned.blocks n k) was.chain; records = records }) in
    let other : (o : Owner) → Nobody ≢ o → (x : Place) → l.owner x ≡ o → owner x ≡ o = λ o ne x h. own_elsewhere l.owner t x (SideOf n) (λ z. ne (sym g.taken.nobody ∙ ap l.owner z ∙ h)) ∙ h in
    record {
      stands = stands_inside tracks c c' l d n f new (sided b t) owner s k (inr owned_f) g.written lies
          (extends_side l t n s.sound.owned (ap is_loose g.taken.nobody) g.taken.off_18)
          (owned_same l.owner owner (DataOf n) b.data_blocks (other (DataOf n) (λ z. (cc))) (s.sound.owned.blocks n k))
          (owned_push owner (SideOf n) b.sides t (owned_same l.owner owner (SideOf n) b.sides (other (SideOf n) (λ z. (cc))) (s.sound.owned.sides n k)) (own_there l.owner t (SideOf n)))
          (λ x h w. own_elsewhere l.owner t x (SideOf n) (λ z. (let y = sym g.taken.taken ∙ ap (is_free_in (map_of c)) z ∙ w in (cc))) ∙ s.sound.free x h w);
      listed = subst (λ (ys : List Place). IsListed c' (b.sides ++ t ∷ []) ys) (sym g.blocks) listed;
    }
