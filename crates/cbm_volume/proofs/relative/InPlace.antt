-- One data block of a file is written: its link and the length of its data stay.
use Rattle.std.proofs.Common.{◌≡◌, ◌≢◌, ℕ, zero, suc, ◌+◌, ◌*◌, ◌<◌, ◌≤◌, List, [], ◌∷◌, ◌++◌, length, get_or, true, Ok, IsOk, refl, sym, ap, subst, ◌∙◌, arith, inl}
use Rattle.std.proofs.lemmas.List.{append_assoc, length-append}
use Rattle.cbm_medium.specs.Place.{Place, directory_head}
use Rattle.cbm_medium.specs.Content.{Cell, Content, written}
use Rattle.cbm_medium.specs.Links.{bytes_at, or_nothing, link, Chain, IsApart}
use Rattle.cbm_medium.proofs.Places.{written_there, written_elsewhere}
use Rattle.cbm_file.specs.Files.{Disk, with_slot}
use Rattle.cbm_chain.specs.Data.{data_of, chain_bytes}
use Rattle.cbm_relfile.specs.Records.{AllWhole}
use Rattle.cbm_relfile.proofs.Positions.{whole_bytes, full_length}
use Rattle.cbm_directory.specs.Entries.{entry_at, first_block, is_closed, is_relative}
use Rattle.cbm_volume.specs.Blocks.{Blocks, Lies, slot_of}
use Rattle.cbm_volume.specs.Layouts.{DataOf, SideOf, Layout, slot_count, HasLayout}
use Rattle.cbm_volume.proofs.layouts.Chained.{chain_distinct}
use Rattle.cbm_volume.proofs.layouts.Frames.{Keeps, owned_nth, write_keeps, records_kept}
use Rattle.cbm_volume.proofs.layouts.OneSlot.{with_file}
use Rattle.cbm_volume.proofs.layouts.Releases.{apart_by_index}
use Rattle.cbm_volume.proofs.layouts.Steps.{extends_itself}
use Rattle.cbm_volume.proofs.relative.Inside.{stands_inside}
use Rattle.cbm_volume.proofs.relative.Longer.{LiesRelative, lies_open, lies_so}
use Rattle.cbm_volume.proofs.relative.Sides.{OnlyAt}
use Rattle.cbm_volume.proofs.relative.Put.{put, put_front, put_back}

-- a chain without the sector is as it was
same_after_it : (tracks : ℕ) (c c' : Content) (t a : Place) (xs : List Place) → OnlyAt c c' t → IsApart t xs → Chain tracks c a xs → Chain tracks c' a xs × (chain_bytes c' xs ≡ chain_bytes c xs)
same_after_it tracks c c' t a [] o p h = (h, refl)
same_after_it tracks c c' t a (x ∷ xs) o p h =
    let e : c' x ≡ c x = o x p.0 in
    let rest = same_after_it tracks c c' t (link (bytes_at c x)) xs o p.1 h.3 in (
      (h.0, h.1, subst (λ (y : Cell). IsOk y) (sym e) h.2, subst (λ (q : Place). Chain tracks c' q xs) (sym (ap (λ (y : Cell). link (or_nothing y)) e)) rest.0),
      (λ i. data_of (or_nothing (e i)) ++ rest.1 i),
    )

-- what the write of a block of a chain leaves
pub record Kept (tracks : ℕ) (c c' : Content) (a : Place) (xs : List Place) (i : ℕ) (new : List ℕ) : Type 0 where
  pub chain : Chain tracks c' a xs
  pub front : List ℕ
  pub back : List ℕ
  pub size : length front ≡ 254 * i
  pub was : chain_bytes c xs ≡ front ++ (data_of (bytes_at c (get_or xs i directory_head)) ++ back)
  pub is : chain_bytes c' xs ≡ front ++ (data_of new ++ back)

-- THE DATA OF ONE BLOCK OF A CHAIN IS WRITTEN
pub chain_written : (tracks : ℕ) (c c' : Content) (a : Place) (xs : List Place) (i : ℕ) (new : List ℕ) → AllWhole c → Chain tracks c a xs → i < length xs → OnlyAt c c' (get_or xs i directory_head) → c' (get_or xs i directory_head) ≡ Ok new
    → link new ≡ link (bytes_at c (get_or xs i directory_head)) → Kept tracks c c' a xs i new
chain_written tracks c c' a [] i new w h l o n k = absurd (omega arith)
chain_written tracks c c' a (x ∷ xs) zero new w h l o n k =
    let apart : IsApart x xs = apart_by_index x xs directory_head (λ j m e. let z = chain_distinct tracks c a (x ∷ xs) (suc j) 0 directory_head h (omega arith) (omega arith) e in omega arith) in
    let rest = same_after_it tracks c c' x (link (bytes_at c x)) xs o apart h.3 in
    let is : bytes_at c' x ≡ new = ap or_nothing n in
    record {
      chain = (h.0, h.1, subst (λ (y : Cell). IsOk y) (sym n) refl, subst (λ (q : Place). Chain tracks c' q xs) (sym (ap link is ∙ k)) rest.0);
      front = [];
      back = chain_bytes c xs;
      size = omega arith;
      was = refl;
      is = λ j. data_of (is j) ++ rest.1 j;
    }
chain_written tracks c c' a (x ∷ xs) (suc i) new w h l o n k =
    let apart : get_or xs i directory_head ≢ x = λ e. (let z = chain_distinct tracks c a (x ∷ xs) (suc i) 0 directory_head h (omega arith) (omega arith) e in omega arith) in
    let e : c' x ≡ c x = o x apart in
    let rest = chain_written tracks c c' (link (bytes_at c x)) xs i new w h.3 (omega arith) o n k in
    let full : length (data_of (bytes_at c x)) ≡ 254 = full_length (bytes_at c x) (whole_bytes c x w h.2) (goes_on (link (bytes_at c x)) xs h.3 (omega arith)) in
    record {
      chain = (h.0, h.1, subst (λ (y : Cell). IsOk y) (sym e) h.2, subst (λ (q : Place). Chain tracks c' q xs) (sym (ap (λ (y : Cell). link (or_nothing y)) e)) rest.chain);
      front = data_of (bytes_at c x) ++ rest.front;
      back = rest.back;
      size = omega (arith, length-append (data_of (bytes_at c x)) rest.front, full, rest.size);
      was = ap (λ (ys : List ℕ). data_of (bytes_at c x) ++ ys) rest.was ∙ sym (append_assoc (data_of (bytes_at c x)) rest.front (data_of (bytes_at c (get_or xs i directory_head)) ++ rest.back));
      is = (λ j. data_of (or_nothing (e j)) ++ rest.is j) ∙ sym (append_assoc (data_of (bytes_at c x)) rest.front (data_of new ++ rest.back));
    }
  where
    goes_on : (q : Place) (ys : List Place) → Chain tracks c q ys → 0 < length ys → q.track ≢ 0
    goes_on q [] g m = absurd (omega arith)
    goes_on q (y ∷ ys) g m = λ z. (let t = ap (λ (p : Place). p.track) g.0 in omega (arith, t, z, g.1.0))

-- bytes that are put into one block are put into the file
pub put_in_block : (front old back new : List ℕ) (bytes bytes' ys : List ℕ) (i j : ℕ) → length front ≡ 254 * i → bytes ≡ front ++ (old ++ back) → bytes' ≡ front ++ (new ++ back) → new ≡ put old j ys → j + length ys ≤ length old
    → bytes' ≡ put bytes (254 * i + j) ys
put_in_block front old back new bytes bytes' ys i j size was is e h =
    is ∙ (λ k. front ++ (e k ++ back))
    ∙ ap (λ (zs : List ℕ). front ++ zs) (sym (put_back old back j ys h))
    ∙ sym (put_front front (old ++ back) j ys)
    ∙ (λ k. put (sym was k) (size k + j) ys)

-- what the write of a data block needs
pub record CanWrite (tracks : ℕ) (c c' : Content) (l : Layout) (n i : ℕ) (new : List ℕ) : Type 0 where
  pub closed : is_closed (entry_at c l.directory n) ≡ true
  pub relative : is_relative (entry_at c l.directory n) ≡ true
  pub whole : AllWhole c
  pub there : i < length (l.files n).data_blocks
  pub linked : link new ≡ link (bytes_at c (get_or (l.files n).data_blocks i directory_head))
  pub written : c' ≡ written c (get_or (l.files n).data_blocks i directory_head) new

pub record WrittenIn (tracks : ℕ) (c c' : Content) (l : Layout) (d : Disk) (n i : ℕ) (new : List ℕ) : Type 0 where
  pub kept : Kept tracks c c' (first_block (entry_at c l.directory n)) (l.files n).data_blocks i new
  pub stands : HasLayout tracks c' (with_file l n (l.files n) l.owner) (with_slot d n (slot_of c' (entry_at c l.directory n) (l.files n)))

-- A DATA BLOCK OF A RELATIVE FILE IS WRITTEN: its slot has the bytes that lie there then, and all else is as it was
pub stands_written : (tracks : ℕ) (c c' : Content) (l : Layout) (d : Disk) (n i : ℕ) (new : List ℕ) → HasLayout tracks c l d → n < slot_count l → CanWrite tracks c c' l n i new → WrittenIn tracks c c' l d n i new
stands_written tracks c c' l d n i new s k g =
    let e : List ℕ = entry_at c l.directory n in
    let b : Blocks = l.files n in
    let p : Place = get_or b.data_blocks i directory_head in
    let was : LiesRelative tracks c e b = lies_open (is_closed e) (is_relative e) tracks c e b g.closed g.relative (s.sound.lies n k) in
    let only : OnlyAt c c' p = λ x ne. ap (λ (y : Content). y x) g.written ∙ written_elsewhere c p x new ne in
    let there : c' p ≡ Ok new = ap (λ (y : Content). y p) g.written ∙ written_there c p new in
    let owned : l.owner p ≡ DataOf n = owned_nth l.owner (DataOf n) b.data_blocks i directory_head (s.sound.owned.blocks n k) g.there in
    let keep : Keeps c c' l.owner (SideOf n) = λ x h. ap (λ (y : Content). y x) g.written ∙ write_keeps c p new l.owner (SideOf n) (λ z. (let y = sym owned ∙ z in (cc))) x h in
    let kept = chain_written tracks c c' (first_block e) b.data_blocks i new g.whole was.chain g.there only there g.linked in
    let lies : Lies tracks c' e b = lies_so (is_closed e) (is_relative e) tracks c' e b g.closed g.relative
    (record { chain = kept.chain; records = records_kept tracks c c' l.owner (SideOf n) e b keep (s.sound.owned.sides n k) was.records }) in
    record {
      kept = kept;
      stands = stands_inside tracks c c' l d n p new b l.owner s k (inl owned) g.written lies (extends_itself l n s.sound.owned) (s.sound.owned.blocks n k) (s.sound.owned.sides n k) s.sound.free;
    }
