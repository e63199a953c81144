-- A relative file grows by one block: its last block now links to one that was claimed and written. Its side sectors stay.
use Rattle.std.proofs.Common.{◌≡◌, ◌≢◌, ℕ, ◌<◌, List, [], ◌∷◌, ◌++◌, Bool, true, false, Ok, IsOk, refl, sym, ap, subst, ◌∙◌, arith, inl}
use Rattle.std.proofs.lemmas.List.{append_assoc, length-append}
use Rattle.cbm_medium.specs.Place.{Place}
use Rattle.cbm_medium.specs.Content.{Cell, Content, written}
use Rattle.cbm_medium.specs.Links.{or_nothing, link, Chain}
use Rattle.cbm_file.specs.Files.{Disk, with_slot}
use Rattle.cbm_bam.specs.Map.{is_free_in, map_of}
use Rattle.cbm_relfile.specs.SideSectors.{blocks_listed}
use Rattle.cbm_directory.specs.Entries.{entry_at, first_block, is_closed, is_relative}
use Rattle.cbm_volume.specs.Blocks.{Blocks, Lies, LiesAs, HasRecords, slot_of}
use Rattle.cbm_volume.specs.Layouts.{Owner, Nobody, DataOf, SideOf, is_loose, OwnedBy, Layout, slot_count, HasLayout, own}
use Rattle.cbm_chain.specs.Writing.{last_of}
use Rattle.cbm_medium.proofs.Places.{written_there, written_elsewhere}
use Rattle.cbm_volume.proofs.layouts.Frames.{Keeps, owned_same, write_keeps, records_kept}
use Rattle.cbm_volume.proofs.layouts.Grows.{chain_push, owned_push}
use Rattle.cbm_volume.proofs.layouts.OneSlot.{with_file}
use Rattle.cbm_volume.proofs.layouts.Steps.{IsTaken, own_there, own_elsewhere, extends_own}
use Rattle.cbm_volume.proofs.relative.Inside.{stands_inside}
use Rattle.cbm_volume.proofs.written.Finishes.{last_owned}

-- what lies there as a closed relative file
pub record LiesRelative (tracks : ℕ) (c : Content) (e : List ℕ) (b : Blocks) : Type 0 where
  pub chain : Chain tracks c (first_block e) b.data_blocks
  pub records : HasRecords tracks c e b

pub lies_open : (cl r : Bool) (tracks : ℕ) (c : Content) (e : List ℕ) (b : Blocks) → cl ≡ true → r ≡ true → LiesAs cl r tracks c e b → LiesRelative tracks c e b
lies_open true true tracks c e b h k x = record { chain = x.0; records = x.1 }
lies_open true false tracks c e b h k x = absurd (cc)
lies_open false r tracks c e b h k x = absurd (cc)

pub lies_so : (cl r : Bool) (tracks : ℕ) (c : Content) (e : List ℕ) (b : Blocks) → cl ≡ true → r ≡ true → LiesRelative tracks c e b → LiesAs cl r tracks c e b
lies_so true true tracks c e b h k x = (x.chain, x.records)
lies_so true false tracks c e b h k x = absurd (cc)
lies_so false r tracks c e b h k x = absurd (cc)

abbrev pub longer : Blocks → Place → Blocks
longer b q = record { data_blocks = b.data_blocks ++ q ∷ []; sides = b.sides }

longer_records : (tracks : ℕ) (c : Content) (e : List ℕ) (b : Blocks) (q : Place) → HasRecords tracks c e b → HasRecords tracks c e (longer b q)
longer_records tracks c e b q h = record {
  some_block = omega (arith, h.some_block, length-append b.data_blocks (q ∷ []));
  some_width = h.some_width;
  width = h.width;
  first = h.first;
  listed = h.listed;
  numbered = h.numbered;
  joined = (h.joined.0 ++ q ∷ [], sym (append_assoc (blocks_listed c b.sides) h.joined.0 (q ∷ [])) ∙ ap (λ (xs : List Place). xs ++ q ∷ []) h.joined.1);
}

-- what the write of the last block needs
pub record CanLengthen (tracks : ℕ) (c c' : Content) (l : Layout) (n : ℕ) (b : Place) (rest : List Place) (q : Place) (new tail : List ℕ) : Type 0 where
  pub closed : is_closed (entry_at c l.directory n) ≡ true
  pub relative : is_relative (entry_at c l.directory n) ≡ true
  pub blocks : (l.files n).data_blocks ≡ b ∷ rest
  pub taken : IsTaken tracks c l q
  pub holds : c q ≡ Ok tail
  pub last : (link tail).track ≡ 0
  pub linked : link new ≡ q
  pub written : c' ≡ written c (last_of b rest) new

longer_lies : (tracks : ℕ) (c c' : Content) (l : Layout) (d : Disk) (n : ℕ) (b : Place) (rest : List Place) (q : Place) (new tail : List ℕ) → HasLayout tracks c l d → n < slot_count l → CanLengthen tracks c c' l n b rest q new tail
    → Lies tracks c' (entry_at c l.directory n) (longer (l.files n) q)
longer_lies tracks c c' l d n b rest q new tail s k g =
    let e : List ℕ = entry_at c l.directory n in
    let p : Place = last_of b rest in
    let was : LiesRelative tracks c e (l.files n) = lies_open (is_closed e) (is_relative e) tracks c e (l.files n) g.closed g.relative (s.sound.lies n k) in
    let own_b : OwnedBy l.owner (DataOf n) (b ∷ rest) = subst (λ (xs : List Place). OwnedBy l.owner (DataOf n) xs) g.blocks (s.sound.owned.blocks n k) in
    let own_p : l.owner p ≡ DataOf n = last_owned l.owner (DataOf n) b rest own_b in
    let apart : p ≢ q = λ z. (let y = sym own_p ∙ ap l.owner z ∙ g.taken.nobody in (cc)) in
    let there : c' p ≡ Ok new = ap (λ (x : Content). x p) g.written ∙ written_there c p new in
    let at_q : c' q ≡ Ok tail = ap (λ (x : Content). x q) g.written ∙ written_elsewhere c p q new apart ∙ g.holds in
    let chain : Chain tracks c' (first_block e) (b ∷ rest ++ q ∷ []) =
    chain_push tracks c c' (first_block e) b q rest (subst (λ (xs : List Place). Chain tracks c (first_block e) xs) g.blocks was.chain)
    (λ x ne. ap (λ (y : Content). y x) g.written ∙ written_elsewhere c p x new (λ z. ne (sym z)))
    (subst (λ (x : Cell). IsOk x) (sym there) refl) (ap (λ (x : Cell). link (or_nothing x)) there ∙ g.linked) g.taken.has
    (subst (λ (x : Cell). IsOk x) (sym at_q) refl) (ap (λ (x : Cell). (link (or_nothing x)).track) at_q ∙ g.last) in
    let keep : Keeps c c' l.owner (SideOf n) = λ x h. ap (λ (y : Content). y x) g.written ∙ write_keeps c p new l.owner (SideOf n) (λ z. (let y = sym own_p ∙ z in (cc))) x h in
    lies_so (is_closed e) (is_relative e) tracks c' e (longer (l.files n) q) g.closed g.relative (record {
      chain = subst (λ (xs : List Place). Chain tracks c' (first_block e) (xs ++ q ∷ [])) (sym g.blocks) chain;
      records = longer_records tracks c' e (l.files n) q (records_kept tracks c c' l.owner (SideOf n) e (l.files n) keep (s.sound.owned.sides n k) was.records);
    })

-- THE FILE IS ONE BLOCK LONGER, and all else is as it was
pub stands_longer : (tracks : ℕ) (c c' : Content) (l : Layout) (d : Disk) (n : ℕ) (b : Place) (rest : List Place) (q : Place) (new tail : List ℕ) → HasLayout tracks c l d → n < slot_count l → CanLengthen tracks c c' l n b rest q new tail
    → HasLayout tracks c' (with_file l n (longer (l.files n) q) (own l.owner q (DataOf n))) (with_slot d n (slot_of c' (entry_at c l.directory n) (longer (l.files n) q)))
stands_longer tracks c c' l d n b rest q new tail s k g =
    let owner : Place → Owner = own l.owner q (DataOf n) in
    let own_b : OwnedBy l.owner (DataOf n) (b ∷ rest) = subst (λ (xs : List Place). OwnedBy l.owner (DataOf n) xs) g.blocks (s.sound.owned.blocks n k) in
    let other : (o : Owner) → Nobody ≢ o → (x : Place) → l.owner x ≡ o → owner x ≡ o = λ o ne x h. own_elsewhere l.owner q x (DataOf n) (λ z. ne (sym g.taken.nobody ∙ ap l.owner z ∙ h)) ∙ h in
    stands_inside tracks c c' l d n (last_of b rest) new (longer (l.files n) q) owner s k (inl (last_owned l.owner (DataOf n) b rest own_b)) g.written
    (longer_lies tracks c c' l d n b rest q new tail s k g)
    (extends_own l q n s.sound.owned (ap is_loose g.taken.nobody) g.taken.off_18)
    (owned_push owner (DataOf n) (l.files n).data_blocks q (owned_same l.owner owner (DataOf n) (l.files n).data_blocks (other (DataOf n) (λ z. (cc))) (s.sound.owned.blocks n k)) (own_there l.owner q (DataOf n)))
    (owned_same l.owner owner (SideOf n) (l.files n).sides (other (SideOf n) (λ z. (cc))) (s.sound.owned.sides n k))
    (λ x h f. own_elsewhere l.owner q x (DataOf n) (λ z. (let y = sym g.taken.taken ∙ ap (is_free_in (map_of c)) z ∙ f in (cc))) ∙ s.sound.free x h f)
