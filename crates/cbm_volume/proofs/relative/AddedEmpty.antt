-- One side sector more that lists no block: it was claimed and written, and now the first side sector lists it.
use Rattle.std.proofs.Common.{◌≡◌, ◌≢◌, ℕ, ◌+◌, ◌<◌, List, [], ◌∷◌, ◌++◌, length, drop, get_or, Ok, IsOk, refl, sym, ap, subst, ◌∙◌, arith, inr, true}
use Rattle.cbm_medium.specs.Place.{Place}
use Rattle.cbm_medium.specs.Content.{Cell, Content, written}
use Rattle.cbm_medium.specs.Links.{bytes_at, or_nothing}
use Rattle.cbm_medium.proofs.Places.{written_there, written_elsewhere}
use Rattle.cbm_file.specs.Files.{Disk, with_slot}
use Rattle.cbm_bam.specs.Map.{is_free_in, map_of}
use Rattle.cbm_relfile.specs.SideSectors.{named_in, sides_listed, blocks_listed}
use Rattle.cbm_directory.specs.Entries.{entry_at, first_block, first_side, is_closed, is_relative, width_of}
use Rattle.cbm_volume.specs.Blocks.{Blocks, Lies, HasRecords, slot_of}
use Rattle.cbm_volume.specs.Layouts.{Owner, Nobody, DataOf, SideOf, is_loose, OwnedBy, Layout, slot_count, HasLayout, own}
use Rattle.cbm_volume.proofs.layouts.Frames.{Keeps, owned_same, write_keeps, chain_kept}
use Rattle.cbm_volume.proofs.layouts.Grows.{owned_push}
use Rattle.cbm_volume.proofs.layouts.OneSlot.{with_file}
use Rattle.cbm_volume.proofs.layouts.Steps.{IsTaken, own_there, own_elsewhere}
use Rattle.cbm_volume.proofs.relative.Added.{sided, extends_side, numbered_add, all_listed_written}
use Rattle.cbm_volume.proofs.relative.Inside.{stands_inside}
use Rattle.cbm_volume.proofs.relative.Longer.{LiesRelative, lies_open, lies_so}
use Rattle.cbm_volume.proofs.relative.Sides.{listed_by, OnlyAt, numbered_written}

-- nothing more is listed by a side sector that lists nothing
listed_more : (c : Content) (ss : List Place) (t : Place) → listed_by c t ≡ [] → blocks_listed c (ss ++ t ∷ []) ≡ blocks_listed c ss
listed_more c [] t e = ap (λ (ys : List Place). ys ++ []) e
listed_more c (s ∷ ss) t e = ap (λ (ys : List Place). listed_by c s ++ ys) (listed_more c ss t e)

-- what the write of the first side sector needs
pub record CanAddEmpty (tracks : ℕ) (c c' : Content) (l : Layout) (n : ℕ) (t : Place) (side new : List ℕ) : Type 0 where
  pub closed : is_closed (entry_at c l.directory n) ≡ true
  pub relative : is_relative (entry_at c l.directory n) ≡ true
  pub taken : IsTaken tracks c l t
  pub holds : c t ≡ Ok side
  pub its_number : get_or side 2 0 ≡ length (l.files n).sides
  pub its_length : get_or side 3 0 ≡ width_of (entry_at c l.directory n)
  pub its_list : named_in 120 (drop 16 side) ≡ []
  pub number : get_or new 2 0 ≡ get_or (bytes_at c (first_side (entry_at c l.directory n))) 2 0
  pub length_kept : get_or new 3 0 ≡ get_or (bytes_at c (first_side (entry_at c l.directory n))) 3 0
  pub list : sides_listed new ≡ (l.files n).sides ++ t ∷ []
  pub blocks_kept : named_in 120 (drop 16 new) ≡ listed_by c (first_side (entry_at c l.directory n))
  pub written : c' ≡ written c (first_side (entry_at c l.directory n)) new

-- THE FILE HAS ONE SIDE SECTOR MORE, and its side sectors list what they listed
pub stands_added_empty : (tracks : ℕ) (c c' : Content) (l : Layout) (d : Disk) (n : ℕ) (t : Place) (side new : List ℕ) → HasLayout tracks c l d → n < slot_count l → CanAddEmpty tracks c c' l n t side new
    → HasLayout tracks c' (with_file l n (sided (l.files n) t) (own l.owner t (SideOf n))) (with_slot d n (slot_of c' (entry_at c l.directory n) (sided (l.files n) t)))
stands_added_empty tracks c c' l d n t side new s k g =
    let e : List ℕ = entry_at c l.directory n in
    let b : Blocks = l.files n in
    let f : Place = first_side e in
    let owner : Place → Owner = own l.owner t (SideOf n) in
    let was : LiesRelative tracks c e b = lies_open (is_closed e) (is_relative e) tracks c e b g.closed g.relative (s.sound.lies n k) in
    let owned_f : l.owner f ≡ SideOf n = (subst (λ (ys : List Place). OwnedBy l.owner (SideOf n) ys) was.records.first.1 (s.sound.owned.sides n k)).0 in
    let apart : f ≢ t = λ z. (let y = sym owned_f ∙ ap l.owner z ∙ g.taken.nobody in (cc)) in
    let only : OnlyAt c c' f = λ x ne. ap (λ (y : Content). y x) g.written ∙ written_elsewhere c f x new ne in
    let there : c' f ≡ Ok new = ap (λ (y : Content). y f) g.written ∙ written_there c f new in
    let at_t : c' t ≡ Ok side = only t apart ∙ g.holds in
    let keep : Keeps c c' l.owner (DataOf n) = λ x h. ap (λ (y : Content). y x) g.written ∙ write_keeps c f new l.owner (DataOf n) (λ z. (let y = sym owned_f ∙ z in (cc))) x h in
    let lists : blocks_listed c' (b.sides ++ t ∷ []) ≡ blocks_listed c b.sides = listed_more c' b.sides t (ap (λ (x : Cell). named_in 120 (drop 16 (or_nothing x))) at_t ∙ g.its_list) ∙ all_listed_written c c' f new b.sides only there g.blocks_kept in
    let records : HasRecords tracks c' e (sided b t) = record {
      some_block = was.records.some_block;
      some_width = was.records.some_width;
      width = was.records.width;
      first = (was.records.first.0 ++ t ∷ [], ap (λ (ys : List Place). ys ++ t ∷ []) was.records.first.1);
      listed = sym (ap (λ (x : Cell). sides_listed (or_nothing x)) there ∙ g.list);
      numbered = numbered_add tracks c' (width_of e) 0 b.sides t (numbered_written tracks c c' (width_of e) 0 f new b.sides only there g.number g.length_kept was.records.numbered) g.taken.has
          (subst (λ (x : Cell). IsOk x) (sym at_t) refl) (ap (λ (x : Cell). get_or (or_nothing x) 2 0) at_t ∙ g.its_number ∙ (let z : length b.sides ≡ 0 + length b.sides = omega arith in z)) (ap (λ (x : Cell). get_or (or_nothing x) 3 0) at_t ∙ g.its_length);
      joined = (was.records.joined.0, ap (λ (ys : List Place). ys ++ was.records.joined.0) lists ∙ was.records.joined.1);
    } in
    let lies : Lies tracks c' e (sided b t) = lies_so (is_closed e) (is_relative e) tracks c' e (sided b t) g.closed g.relative
    (record { chain = chain_kept tracks c c' l.owner (DataOf n) keep (first_block e) b.data_blocks (s.sound.owned.blocks n k) was.chain; records = records }) in
    let other : (o : Owner) → Nobody ≢ o → (x : Place) → l.owner x ≡ o → owner x ≡ o = λ o ne x h. own_elsewhere l.owner t x (SideOf n) (λ z. ne (sym g.taken.nobody ∙ ap l.owner z ∙ h)) ∙ h in
    stands_inside tracks c c' l d n f new (sided b t) owner s k (inr owned_f) g.written lies
    (extends_side l t n s.sound.owned (ap is_loose g.taken.nobody) g.taken.off_18)
    (owned_same l.owner owner (DataOf n) b.data_blocks (other (DataOf n) (λ z. (cc))) (s.sound.owned.blocks n k))
    (owned_push owner (SideOf n) b.sides t (owned_same l.owner owner (SideOf n) b.sides (other (SideOf n) (λ z. (cc))) (s.sound.owned.sides n k)) (own_there l.owner t (SideOf n)))
    (λ x h w. own_elsewhere l.owner t x (SideOf n) (λ z. (let y = sym g.taken.taken ∙ ap (is_free_in (map_of c)) z ∙ w in (cc))) ∙ s.sound.free x h w)
