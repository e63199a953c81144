-- Where each sector is claimed once, the disk is sound: what claims a sector owns it.
use Rattle.std.proofs.Common.{◌≡◌, ◌≢◌, ◌⊎◌, ℕ, zero, suc, ◌+◌, ◌*◌, ◌<◌, List, [], ◌∷◌, length, Bool, true, false, Some, None, Ok, Err, refl, sym, ap, ◌∙◌, subst, arith, inl, inr}
use Rattle.std.specs.Prelude.{slice_index_or, slice_get, if◌then◌else◌, ◌==◌, ◌%◌, ◌&&◌, not, IsOk}
use Rattle.cbm_medium.specs.Place.{Place, Has, has, is_place, directory_head}
use Rattle.cbm_medium.specs.Content.{Cell, Content}
use Rattle.cbm_medium.specs.Links.{Chain, bytes_at, link}
use Rattle.cbm_medium.proofs.Walks.{true_has}
use Rattle.cbm_medium.proofs.Places.{same_place, place_is_itself}
use Rattle.std.proofs.lemmas.Bool.{eq-eqb, eqb-true}
use Rattle.cbm_bam.specs.Map.{map_of, is_free_in, with_bit, IsCounted}
use Rattle.cbm_directory.specs.Entries.{type_byte, is_closed, is_relative, first_block, first_directory, entry_at}
use Rattle.cbm_directory.specs.Slots.{all_entries}
use Rattle.cbm_volume.specs.Blocks.{Blocks, no_blocks, Lies}
use Rattle.cbm_volume.specs.Layouts.{Owner, Nobody, TheMap, Directory, DataOf, SideOf, Layout, OwnedBy, Sound, own}
use Rattle.cbm_volume.specs.check.Claims.{wrong_at, is_inside, outside_number, reads, ClaimsChain}
use Rattle.cbm_volume.specs.check.SideLists.{ClaimsEach}
use Rattle.cbm_volume.specs.check.MapCounts.{IsMapRight}
use Rattle.cbm_volume.proofs.checked.Claimed.{head_claimed, ClaimsAs, ClaimsSlots, IsClaimedOnce}
use Rattle.cbm_volume.specs.declared.check.unsound.Part.{Part}
use Rattle.cbm_volume.specs.declared.check.unsound.Part.TheVariants.{OfDirectory, OfFile}
use Rattle.cbm_volume.proofs.layouts.Listing.{nth_entry}

-- ---- what is right with a sector that is claimed

pub record IsRight (part : Part) (tracks : ℕ) (c : Content) (claimed : Place → Bool) (p : Place) : Type 0 where
  pub inside : is_inside part tracks p ≡ true
  pub unclaimed : claimed p ≡ false
  pub reads : reads (c p) ≡ true
  pub taken : is_free_in (map_of c) p ≡ false

right : (part : Part) (tracks : ℕ) (c : Content) (claimed : Place → Bool) (p : Place) (a b d e : Bool) → is_inside part tracks p ≡ a → claimed p ≡ b → reads (c p) ≡ d → is_free_in (map_of c) p ≡ e
    → (if not a then Some (outside_number part) else if b then Some 3 else if not d then Some 9 else if e then Some 2 else None) ≡ None → IsRight part tracks c claimed p
right part tracks c claimed p false b d e i j k l h = absurd (cc)
right part tracks c claimed p true true d e i j k l h = absurd (cc)
right part tracks c claimed p true false false e i j k l h = absurd (cc)
right part tracks c claimed p true false true true i j k l h = absurd (cc)
right part tracks c claimed p true false true false i j k l h = record { inside = i; unclaimed = j; reads = k; taken = l }

pub is_right : (part : Part) (tracks : ℕ) (c : Content) (claimed : Place → Bool) (p : Place) → wrong_at part tracks c claimed p ≡ None → IsRight part tracks c claimed p
is_right part tracks c claimed p h = right part tracks c claimed p (is_inside part tracks p) (claimed p) (reads (c p)) (is_free_in (map_of c) p) refl refl refl refl h

both : (a b : Bool) → (a && b) ≡ true → (a ≡ true) × (b ≡ true)
both true true h = (refl, refl)
both true false h = absurd (cc)
both false b h = absurd (cc)

not_true : (a : Bool) → not a ≡ true → a ≡ false
not_true true h = absurd (cc)
not_true false h = refl

pub inside_has : (part : Part) (tracks : ℕ) (p : Place) → is_inside part tracks p ≡ true → Has tracks p
inside_has OfDirectory tracks p h = true_has tracks p (both (has tracks p) (p.track == 18) h).0
inside_has OfFile tracks p h = true_has tracks p (both (has tracks p) (not (p.track == 18)) h).0

cell_reads : (cell : Cell) → reads cell ≡ true → IsOk cell
cell_reads (Ok bytes) h = refl
cell_reads (Err code) h = absurd (cc)

-- ---- owners that agree with what is claimed

-- The part that an owner may be, and what follows from it.
abbrev OwnsIn : Part → Owner → Type 0
OwnsIn OfDirectory o = o ≡ Directory
OwnsIn OfFile o = (n : ℕ) × ((o ≡ DataOf n) ⊎ (o ≡ SideOf n))

pub record Agrees (c : Content) (claimed : Place → Bool) (owner : Place → Owner) : Type 0 where
  pub fresh : (p : Place) → claimed p ≡ false → owner p ≡ Nobody
  pub free : (p : Place) → is_free_in (map_of c) p ≡ true → owner p ≡ Nobody
  pub on_18 : (p : Place) → owner p ≡ Directory → p.track ≡ 18
  pub off_18 : (p : Place) → p.track ≡ 18 → (n : ℕ) → (owner p ≢ DataOf n) × (owner p ≢ SideOf n)

-- what had an owner keeps it
pub record Keeps (owner new : Place → Owner) : Type 0 where
  pub keeps : (p : Place) (o : Owner) → o ≢ Nobody → owner p ≡ o → new p ≡ o

keeps_both : (a b c : Place → Owner) → Keeps a b → Keeps b c → Keeps a c
keeps_both a b c x y = record { keeps = λ p o some e. y.keeps p o some (x.keeps p o some e) }

owned_kept : (a b : Place → Owner) (o : Owner) (xs : List Place) → o ≢ Nobody → Keeps a b → OwnedBy a o xs → OwnedBy b o xs
owned_kept a b o [] some k h = tt
owned_kept a b o (x ∷ xs) some k h = (k.keeps x o some h.0, owned_kept a b o xs some k h.1)

-- a sector gets its owner
own_cases : (owner : Place → Owner) (p q : Place) (o : Owner) → ((p ≡ q) × (own owner p o q ≡ o)) ⊎ ((is_place p q ≡ false) × (own owner p o q ≡ owner q))
own_cases owner p q o = by_test (is_place p q) refl
  where
    by_test : (b : Bool) → is_place p q ≡ b → ((p ≡ q) × ((if is_place p q then o else owner q) ≡ o)) ⊎ ((is_place p q ≡ false) × ((if is_place p q then o else owner q) ≡ owner q))
    by_test true e = inl (same_place p q e, rw e refl)
    by_test false e = inr (e, rw e refl)

owned_there : (owner : Place → Owner) (p : Place) (o : Owner) → own owner p o p ≡ o
owned_there owner p o = rw (place_is_itself p) refl

own_keeps : (owner : Place → Owner) (p : Place) (o : Owner) → owner p ≡ Nobody → Keeps owner (own owner p o)
own_keeps owner p o none = record {
  keeps = λ q x some e. elim (own_cases owner p q o) [
    | inl s ↦ absurd (some (sym e ∙ ap owner (sym s.0) ∙ none))
    | inr t ↦ t.1 ∙ e
  ];
}

unmarked : (claimed : Place → Bool) (p q : Place) → with_bit claimed p true q ≡ false → (is_place p q ≡ false) × (claimed q ≡ false)
unmarked claimed p q h = by_test (is_place p q) refl h
  where
    by_test : (b : Bool) → is_place p q ≡ b → (if b then true else claimed q) ≡ false → (is_place p q ≡ false) × (claimed q ≡ false)
    by_test true e g = absurd (cc)
    by_test false e g = (e, g)

track_18 : (part : Part) (tracks : ℕ) (p : Place) (o : Owner) → is_inside part tracks p ≡ true → OwnsIn part o → (o ≡ Directory → p.track ≡ 18) × (p.track ≡ 18 → (n : ℕ) → (o ≢ DataOf n) × (o ≢ SideOf n))
track_18 OfDirectory tracks p o h own = (
  λ _. eqb-true p.track 18 (both (has tracks p) (p.track == 18) h).1,
  λ _ n. (λ e. (let z = sym own ∙ e in absurd (cc)), λ e. (let z = sym own ∙ e in absurd (cc))),
)
track_18 OfFile tracks p o h (n, inl own) = (
  λ e. (let z = sym own ∙ e in absurd (cc)),
  λ e m. (let off = not_true (p.track == 18) (both (has tracks p) (not (p.track == 18)) h).1 in let on = eq-eqb p.track 18 e in let bad = sym on ∙ off in absurd (cc)),
)
track_18 OfFile tracks p o h (n, inr own) = (
  λ e. (let z = sym own ∙ e in absurd (cc)),
  λ e m. (let off = not_true (p.track == 18) (both (has tracks p) (not (p.track == 18)) h).1 in let on = eq-eqb p.track 18 e in let bad = sym on ∙ off in absurd (cc)),
)

pub claim_agrees : (part : Part) (tracks : ℕ) (c : Content) (claimed : Place → Bool) (owner : Place → Owner) (p : Place) (o : Owner) → OwnsIn part o → IsRight part tracks c claimed p → Agrees c claimed owner
    → Agrees c (with_bit claimed p true) (own owner p o)
claim_agrees part tracks c claimed owner p o may r a =
    let where_it_lies = track_18 part tracks p o r.inside may in record {
      fresh = λ q h. (let u = unmarked claimed p q h in rw u.0 (a.fresh q u.1));
      free = λ q h. elim (own_cases owner p q o) [
        | inl s ↦ (let bad = sym (ap (is_free_in (map_of c)) s.0 ∙ h) ∙ r.taken in absurd (cc))
        | inr t ↦ t.1 ∙ a.free q h
      ];
      on_18 = λ q h. elim (own_cases owner p q o) [
        | inl s ↦ subst (λ (x : Place). x.track ≡ 18) s.0 (where_it_lies.0 (sym s.1 ∙ h))
        | inr t ↦ a.on_18 q (sym t.1 ∙ h)
      ];
      off_18 = λ q h n. elim (own_cases owner p q o) [
        | inl s ↦ (let none = where_it_lies.1 (ap (λ (x : Place). x.track) s.0 ∙ h) n in (λ e. none.0 (sym s.1 ∙ e), λ e. none.1 (sym s.1 ∙ e)))
        | inr t ↦ (λ e. (a.off_18 q h n).0 (sym t.1 ∙ e), λ e. (a.off_18 q h n).1 (sym t.1 ∙ e))
      ];
    }

-- ---- chains and lists

-- all these have an owner then, and what had one keeps it
pub record Owned (c : Content) (owner : Place → Owner) (after : Place → Bool) (o : Owner) (xs : List Place) : Type 0 where
  pub new : Place → Owner
  pub agrees : Agrees c after new
  pub keeps : Keeps owner new
  pub each : OwnedBy new o xs

somebody : (part : Part) (o : Owner) → OwnsIn part o → o ≢ Nobody
somebody OfDirectory o h = λ e. (let z = sym h ∙ e in absurd (cc))
somebody OfFile o (n, inl h) = λ e. (let z = sym h ∙ e in absurd (cc))
somebody OfFile o (n, inr h) = λ e. (let z = sym h ∙ e in absurd (cc))

nothing_new : (c : Content) (owner : Place → Owner) (claimed after : Place → Bool) (o : Owner) → after ≡ claimed → Agrees c claimed owner → Owned c owner after o []
nothing_new c owner claimed after o e a = record { new = owner; agrees = subst (λ x. Agrees c x owner) (sym e) a; keeps = record { keeps = λ p x some h. h }; each = tt }

one_more : (part : Part) (tracks : ℕ) (c : Content) (claimed : Place → Bool) (owner : Place → Owner) (p : Place) (xs : List Place) (after : Place → Bool) (o : Owner) → OwnsIn part o
    → IsRight part tracks c claimed p → Agrees c claimed owner → Owned c (own owner p o) after o xs → Owned c owner after o (p ∷ xs)
one_more part tracks c claimed owner p xs after o may r a rest = record {
  new = rest.new;
  agrees = rest.agrees;
  keeps = keeps_both owner (own owner p o) rest.new (own_keeps owner p o (a.fresh p r.unclaimed)) rest.keeps;
  each = (rest.keeps.keeps p o (somebody part o may) (owned_there owner p o), rest.each);
}

pub chain_owned : (part : Part) (tracks : ℕ) (c : Content) (claimed : Place → Bool) (owner : Place → Owner) (a : Place) (xs : List Place) (after : Place → Bool) (o : Owner) → OwnsIn part o
    → Agrees c claimed owner → ClaimsChain part tracks c claimed a xs after → Owned c owner after o xs
chain_owned part tracks c claimed owner a [] after o may g h = nothing_new c owner claimed after o h.1 g
chain_owned part tracks c claimed owner a (b ∷ xs) after o may g h =
    let r = is_right part tracks c claimed b h.1 in
    one_more part tracks c claimed owner b xs after o may r g
    (chain_owned part tracks c (with_bit claimed b true) (own owner b o) (link (bytes_at c b)) xs after o may (claim_agrees part tracks c claimed owner b o may r g) h.2)

pub list_owned : (part : Part) (tracks : ℕ) (c : Content) (claimed : Place → Bool) (owner : Place → Owner) (xs : List Place) (after : Place → Bool) (o : Owner) → OwnsIn part o
    → Agrees c claimed owner → ClaimsEach part tracks c claimed xs after → Owned c owner after o xs
list_owned part tracks c claimed owner [] after o may g h = nothing_new c owner claimed after o h g
list_owned part tracks c claimed owner (b ∷ xs) after o may g h =
    let r = is_right part tracks c claimed b h.0 in
    one_more part tracks c claimed owner b xs after o may r g
    (list_owned part tracks c (with_bit claimed b true) (own owner b o) xs after o may (claim_agrees part tracks c claimed owner b o may r g) h.1)

pub claims_chain : (part : Part) (tracks : ℕ) (c : Content) (claimed : Place → Bool) (a : Place) (xs : List Place) (after : Place → Bool) → ClaimsChain part tracks c claimed a xs after → Chain tracks c a xs
claims_chain part tracks c claimed a [] after h = h.0
claims_chain part tracks c claimed a (b ∷ xs) after h =
    let r = is_right part tracks c claimed b h.1 in
    (h.0, inside_has part tracks b r.inside, cell_reads (c b) r.reads, claims_chain part tracks c (with_bit claimed b true) (link (bytes_at c b)) xs after h.2)

-- ---- slots

pub record SlotOwned (tracks : ℕ) (c : Content) (owner : Place → Owner) (after : Place → Bool) (n : ℕ) (e : List ℕ) (b : Blocks) : Type 0 where
  pub new : Place → Owner
  pub agrees : Agrees c after new
  pub keeps : Keeps owner new
  pub blocks : OwnedBy new (DataOf n) b.data_blocks
  pub sides : OwnedBy new (SideOf n) b.sides
  pub lies : Lies tracks c e b

data_somebody : (n : ℕ) → DataOf n ≢ Nobody
data_somebody n = λ e. absurd (cc)

side_somebody : (n : ℕ) → SideOf n ≢ Nobody
side_somebody n = λ e. absurd (cc)

slot_as : (closed relative : Bool) (tracks : ℕ) (c : Content) (claimed : Place → Bool) (owner : Place → Owner) (n : ℕ) (e : List ℕ) (b : Blocks) (after : Place → Bool)
    → is_closed e ≡ closed → is_relative e ≡ relative → Agrees c claimed owner → ClaimsAs closed relative tracks c claimed e b after → SlotOwned tracks c owner after n e b
slot_as false r tracks c claimed owner n e b after x y g h = record {
  new = owner;
  agrees = subst (λ z. Agrees c z owner) (sym h.1) g;
  keeps = record { keeps = λ p o some k. k };
  blocks = subst (λ (z : Blocks). OwnedBy owner (DataOf n) z.data_blocks) (sym h.0) tt;
  sides = subst (λ (z : Blocks). OwnedBy owner (SideOf n) z.sides) (sym h.0) tt;
  lies = rw x h.0;
}
slot_as true false tracks c claimed owner n e b after x y g h =
    let d = chain_owned OfFile tracks c claimed owner (first_block e) b.data_blocks after (DataOf n) (n, inl refl) g h.0 in record {
      new = d.new;
      agrees = d.agrees;
      keeps = d.keeps;
      blocks = d.each;
      sides = subst (OwnedBy d.new (SideOf n)) (sym h.1) tt;
      lies = rw (x, y) (claims_chain OfFile tracks c claimed (first_block e) b.data_blocks after h.0, h.1);
    }
slot_as true true tracks c claimed owner n e b after x y g h =
    let d = chain_owned OfFile tracks c claimed owner (first_block e) b.data_blocks h.0 (DataOf n) (n, inl refl) g h.1 in
    let s = list_owned OfFile tracks c h.0 d.new b.sides after (SideOf n) (n, inr refl) d.agrees h.2 in record {
      new = s.new;
      agrees = s.agrees;
      keeps = keeps_both owner d.new s.new d.keeps s.keeps;
      blocks = owned_kept d.new s.new (DataOf n) b.data_blocks (data_somebody n) s.keeps d.each;
      sides = s.each;
      lies = rw (x, y) (claims_chain OfFile tracks c claimed (first_block e) b.data_blocks h.0 h.1, h.3);
    }

-- the slots from n on
abbrev pub EachOwned : ℕ → Content → (Place → Owner) → ℕ → List (List ℕ) → List Blocks → Type 0
EachOwned tracks c owner n [] bs = Unit {0}
EachOwned tracks c owner n (e ∷ es) [] = ⊥
EachOwned tracks c owner n (e ∷ es) (b ∷ bs) =
    (type_byte e % 16 < 5) × OwnedBy owner (DataOf n) b.data_blocks × OwnedBy owner (SideOf n) b.sides × Lies tracks c e b × EachOwned tracks c owner (n + 1) es bs

pub record SlotsOwned (tracks : ℕ) (c : Content) (owner : Place → Owner) (after : Place → Bool) (n : ℕ) (es : List (List ℕ)) (bs : List Blocks) : Type 0 where
  pub new : Place → Owner
  pub agrees : Agrees c after new
  pub keeps : Keeps owner new
  pub each : EachOwned tracks c new n es bs

slots_owned : (tracks : ℕ) (c : Content) (claimed : Place → Bool) (owner : Place → Owner) (n : ℕ) (es : List (List ℕ)) (bs : List Blocks) (after : Place → Bool)
    → Agrees c claimed owner → ClaimsSlots tracks c claimed es bs after → SlotsOwned tracks c owner after n es bs
slots_owned tracks c claimed owner n [] [] after g h = record { new = owner; agrees = subst (λ z. Agrees c z owner) (sym h) g; keeps = record { keeps = λ p o some k. k }; each = tt }
slots_owned tracks c claimed owner n [] (b ∷ bs) after g h = absurd h
slots_owned tracks c claimed owner n (e ∷ es) [] after g h = absurd h
slots_owned tracks c claimed owner n (e ∷ es) (b ∷ bs) after g h =
    let s = slot_as (is_closed e) (is_relative e) tracks c claimed owner n e b h.0 refl refl g h.1.1 in
    let rest = slots_owned tracks c h.0 s.new (n + 1) es bs after s.agrees h.2 in record {
      new = rest.new;
      agrees = rest.agrees;
      keeps = keeps_both owner s.new rest.new s.keeps rest.keeps;
      each = (
        h.1.0,
        owned_kept s.new rest.new (DataOf n) b.data_blocks (data_somebody n) rest.keeps s.blocks,
        owned_kept s.new rest.new (SideOf n) b.sides (side_somebody n) rest.keeps s.sides,
        s.lies,
        rest.each,
      );
    }

-- one of them
pub record OneOwned (tracks : ℕ) (c : Content) (owner : Place → Owner) (n : ℕ) (e : List ℕ) (b : Blocks) : Type 0 where
  pub kind : type_byte e % 16 < 5
  pub blocks : OwnedBy owner (DataOf n) b.data_blocks
  pub sides : OwnedBy owner (SideOf n) b.sides
  pub lies : Lies tracks c e b

one_owned : (tracks : ℕ) (c : Content) (owner : Place → Owner) (n k : ℕ) (es : List (List ℕ)) (bs : List Blocks) (e : List ℕ) → EachOwned tracks c owner n es bs → slice_get es k ≡ Some e
    → OneOwned tracks c owner (n + k) e (slice_index_or bs k no_blocks)
one_owned tracks c owner n k [] bs e h at = absurd (cc)
one_owned tracks c owner n k (x ∷ es) [] e h at = absurd h
one_owned tracks c owner n zero (x ∷ es) (b ∷ bs) e h at =
    let same : x ≡ e = same_some at in
    let number : n ≡ n + 0 = omega arith in
    subst (λ (m : ℕ). OneOwned tracks c owner m e b) number
    (subst (λ (y : List ℕ). OneOwned tracks c owner n y b) same (record { kind = h.0; blocks = h.1; sides = h.2; lies = h.3 }))
  where
    same_some : {y z : List ℕ} → Some y ≡ Some z → y ≡ z
    same_some g = cc
one_owned tracks c owner n (suc k) (x ∷ es) (b ∷ bs) e h at =
    let number : (n + 1) + k ≡ n + suc k = omega arith in
    subst (λ (m : ℕ). OneOwned tracks c owner m e (slice_index_or bs k no_blocks)) number (one_owned tracks c owner (n + 1) k es bs e h.4 at)

from_zero : (tracks : ℕ) (c : Content) (owner : Place → Owner) (n : ℕ) (e : List ℕ) (b : Blocks) → OneOwned tracks c owner (0 + n) e b → OneOwned tracks c owner n e b
from_zero tracks c owner n e b h = let number : 0 + n ≡ n = omega arith in subst (λ (m : ℕ). OneOwned tracks c owner m e b) number h

-- ---- the disk

nobody_agrees : (c : Content) → is_free_in (map_of c) directory_head ≡ false → Agrees c head_claimed (own (λ _. Nobody) directory_head TheMap)
nobody_agrees c taken = record {
  fresh = λ q h. (let u = unmarked (λ _. false) directory_head q h in rw u.0 refl);
  free = λ q h. elim (own_cases (λ _. Nobody) directory_head q TheMap) [
    | inl s ↦ (let bad = sym (ap (is_free_in (map_of c)) s.0 ∙ h) ∙ taken in absurd (cc))
    | inr t ↦ t.1
  ];
  on_18 = λ q h. elim (own_cases (λ _. Nobody) directory_head q TheMap) [
    | inl s ↦ (let bad = sym s.1 ∙ h in absurd (cc))
    | inr t ↦ (let bad = sym t.1 ∙ h in absurd (cc))
  ];
  off_18 = λ q h n. elim (own_cases (λ _. Nobody) directory_head q TheMap) [
    | inl s ↦ (λ e. (let bad = sym s.1 ∙ e in absurd (cc)), λ e. (let bad = sym s.1 ∙ e in absurd (cc)))
    | inr t ↦ (λ e. (let bad = sym t.1 ∙ e in absurd (cc)), λ e. (let bad = sym t.1 ∙ e in absurd (cc)))
  ];
}

counted : (tracks : ℕ) (c : Content) → IsMapRight tracks c → IsCounted tracks (map_of c)
counted tracks c m = λ t some few. eqb-true _ _ (m.counted t some few)

-- the layout of what is claimed, and who owns its sectors: what wasn't claimed is nobody's
abbrev pub layout_of : List Place → List Blocks → (Place → Owner) → Layout
layout_of directory files owner = record { directory = directory; files = λ n. slice_index_or files n no_blocks; owner = owner }

pub record IsLaidOut (tracks : ℕ) (c : Content) (k : IsClaimedOnce tracks c) : Type 0 where
  pub owner : Place → Owner
  pub sound : Sound tracks c (layout_of k.directory k.files owner)
  pub fresh : (p : Place) → k.after p ≡ false → owner p ≡ Nobody

pub laid_out : (tracks : ℕ) (c : Content) (k : IsClaimedOnce tracks c) → IsLaidOut tracks c k
laid_out tracks c k =
    let start = own (λ _. Nobody) directory_head TheMap in
    let d = chain_owned OfDirectory tracks c head_claimed start first_directory k.directory k.middle Directory refl (nobody_agrees c k.map.taken) k.directory_claimed in
    let s = slots_owned tracks c k.middle d.new 0 (all_entries c k.directory) k.files k.after d.agrees k.files_claimed in
    let all = keeps_both start d.new s.new d.keeps s.keeps in
    let one = λ (n : ℕ) (lt : n < 8 * length k.directory). from_zero tracks c s.new n (entry_at c k.directory n) (slice_index_or k.files n no_blocks)
    (one_owned tracks c s.new 0 n (all_entries c k.directory) k.files (entry_at c k.directory n) s.each (nth_entry c k.directory n lt)) in record {
      owner = s.new;
      sound = record {
        owned = record {
          map = all.keeps directory_head TheMap (λ e. absurd (cc)) (owned_there (λ _. Nobody) directory_head TheMap);
          directory = owned_kept d.new s.new Directory k.directory (λ e. absurd (cc)) s.keeps d.each;
          blocks = λ n lt. (one n lt).blocks;
          sides = λ n lt. (one n lt).sides;
          on_18 = s.agrees.on_18;
          off_18 = s.agrees.off_18;
        };
        writable = k.writable;
        map_reads = k.map.reads;
        directory = claims_chain OfDirectory tracks c head_claimed first_directory k.directory k.middle k.directory_claimed;
        kinds = λ n lt. (one n lt).kind;
        lies = λ n lt. (one n lt).lies;
        free = λ p _ h. s.agrees.free p h;
        counted = counted tracks c k.map;
      };
      fresh = s.agrees.fresh;
    }

-- WHERE EACH SECTOR IS CLAIMED ONCE THE DISK IS SOUND
pub claimed_sound : (tracks : ℕ) (c : Content) → IsClaimedOnce tracks c → (l : Layout) × Sound tracks c l
claimed_sound tracks c k = let laid = laid_out tracks c k in (layout_of k.directory k.files laid.owner, laid.sound)
