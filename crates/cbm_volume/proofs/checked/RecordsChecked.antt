-- The test of a relative file's records says what the definition of a sound disk asks of them.
use Rattle.std.proofs.Common.{◌≡◌, ◌≢◌, ℕ, ◌+◌, ◌<◌, ◌≤◌, List, [], ◌∷◌, ◌++◌, length, drop, get_or, Bool, true, false, Option, Some, None, Ok, Err, refl, sym, ap, ◌∙◌, subst, arith}
use Rattle.std.specs.Prelude.{if◌then◌else◌, ◌==◌, ◌&&◌, is_some, slice_index, IsOk}
use Rattle.std.proofs.lemmas.Bool.{eq-eqb, eqb-true, ltb-true, lt-ltb}
use Rattle.std.proofs.lemmas.List.{append_assoc, get_or-drop}
use Rattle.cbm_medium.specs.Place.{Place, Has, has, is_place}
use Rattle.cbm_medium.specs.Content.{Cell, Content}
use Rattle.cbm_medium.specs.Links.{Chain, bytes_at, link, place_in}
use Rattle.cbm_medium.proofs.Walks.{has_true, true_has}
use Rattle.cbm_medium.proofs.Places.{same_place, place_is_itself}
use Rattle.cbm_bam.specs.Map.{with_bit}
use Rattle.cbm_relfile.proofs.Listed.{listed_first as listed_all}
use Rattle.cbm_relfile.specs.SideSectors.{named_in, sides_listed, blocks_listed, Numbered, listed_following}
use Rattle.cbm_directory.specs.Entries.{first_block, first_side, width_of}
use Rattle.cbm_volume.specs.Blocks.{Blocks, HasRecords}
use Rattle.cbm_volume.specs.check.Claims.{reads}
use Rattle.cbm_volume.specs.check.SideLists.{ClaimsEach, after_the_first, sides_from, step_along, along, side_along, side_found, sides_along, all_along, are_records}
use Rattle.cbm_volume.specs.declared.check.unsound.Part.TheVariants.{OfFile}
use Rattle.cbm_volume.proofs.checked.ClaimedSound.{is_right, inside_has}
use Rattle.cbm_volume.proofs.checked.SidesListed.{sides_some}

and_both : (a b : Bool) → (a && b) ≡ true → (a ≡ true) × (b ≡ true)
and_both true true h = (refl, refl)
and_both true false h = absurd (cc)
and_both false b h = absurd (cc)

-- ---- along a chain

stepped : (tracks : ℕ) (c : Content) (p a b : Place) → step_along tracks c p a ≡ Some b → (p ≡ a) × Has tracks a × (b ≡ link (bytes_at c a))
stepped tracks c p a b h = by_test (is_place p a && has tracks a) refl h
  where
    by_test : (t : Bool) → (is_place p a && has tracks a) ≡ t → (if t then Some (link (bytes_at c a)) else None) ≡ Some b → (p ≡ a) × Has tracks a × (b ≡ link (bytes_at c a))
    by_test true e g = let x = and_both (is_place p a) (has tracks a) e in (same_place p a x.0, true_has tracks a x.1, cc)
    by_test false e g = absurd (cc)

steps : (tracks : ℕ) (c : Content) (p : Place) → Has tracks p → step_along tracks c p p ≡ Some (link (bytes_at c p))
steps tracks c p h = rw (place_is_itself p, has_true tracks p h) refl

no_track : (tracks : ℕ) (a : Place) → Has tracks a → a.track ≡ 0 → ⊥
no_track tracks a h z = omega (arith, h.0, z)

-- the chain begins with these, and goes on from b
pub record Begins (tracks : ℕ) (c : Content) (ps xs : List Place) (b : Place) : Type 0 where
  pub rest : List Place
  pub joined : ps ++ rest ≡ xs
  pub chain : Chain tracks c b rest

pub along_begins : (tracks : ℕ) (c : Content) (ps xs : List Place) (a b : Place) → Chain tracks c a xs → along tracks c ps a ≡ Some b → Begins tracks c ps xs b
along_begins tracks c [] xs a b h e = record { rest = xs; joined = refl; chain = subst (λ x. Chain tracks c x xs) (same_place_of e) h }
  where
    same_place_of : {x y : Place} → Some x ≡ Some y → x ≡ y
    same_place_of g = cc
along_begins tracks c (p ∷ ps) xs a b h e = by_step (step_along tracks c p a) refl e (λ z g q. along_begins tracks c ps z (link (bytes_at c a)) b g q)
  where
    by_step : (r : Option Place) → step_along tracks c p a ≡ r → (elim r [ Some q ↦ along tracks c ps q | None ↦ None ]) ≡ Some b
        → ((z : List Place) → Chain tracks c (link (bytes_at c a)) z → along tracks c ps (link (bytes_at c a)) ≡ Some b → Begins tracks c ps z b) → Begins tracks c (p ∷ ps) xs b
    by_step None r g more = absurd (cc)
    by_step (Some q) r g more =
        let x = stepped tracks c p a q r in
        by_chain xs h x.0 x.1 (subst (λ y. along tracks c ps y ≡ Some b) x.2 g) more
      where
        by_chain : (ys : List Place) → Chain tracks c a ys → p ≡ a → Has tracks a → along tracks c ps (link (bytes_at c a)) ≡ Some b
            → ((z : List Place) → Chain tracks c (link (bytes_at c a)) z → along tracks c ps (link (bytes_at c a)) ≡ Some b → Begins tracks c ps z b) → Begins tracks c (p ∷ ps) ys b
        by_chain [] k same has_a g2 more2 = absurd (no_track tracks a has_a k)
        by_chain (y ∷ ys) k same has_a g2 more2 =
            let rest = more2 ys (subst (λ w. Chain tracks c (link (bytes_at c w)) ys) (sym k.0) k.3) g2 in
            record { rest = rest.rest; joined = λ i. (same ∙ k.0) i ∷ rest.joined i; chain = rest.chain }

pub begins_along : (tracks : ℕ) (c : Content) (ps rest : List Place) (a : Place) → Chain tracks c a (ps ++ rest) → (b : Place) × (along tracks c ps a ≡ Some b) × Chain tracks c b rest
begins_along tracks c [] rest a h = (a, refl, h)
begins_along tracks c (p ∷ ps) rest a h =
    let more = begins_along tracks c ps rest (link (bytes_at c p)) h.3 in
    let here : step_along tracks c p a ≡ Some (link (bytes_at c p)) = ap (step_along tracks c p) h.0 ∙ steps tracks c p h.1 in
    (more.0, ap (λ (o : Option Place). elim o [ Some q ↦ along tracks c ps q | None ↦ None ]) here ∙ more.1, more.2)

-- ---- side sectors

sided : (tracks : ℕ) (c : Content) (width n : ℕ) (side : List ℕ) (a b : Place) → side_along tracks c width n side a ≡ Some b
    → (slice_index side 2 ≡ n) × (slice_index side 3 ≡ width) × (along tracks c (listed_following 0 side) a ≡ Some b)
sided tracks c width n side a b h = by_test ((slice_index side 2 == n) && (slice_index side 3 == width)) refl h
  where
    by_test : (t : Bool) → ((slice_index side 2 == n) && (slice_index side 3 == width)) ≡ t → (if t then along tracks c (listed_following 0 side) a else None) ≡ Some b
        → (slice_index side 2 ≡ n) × (slice_index side 3 ≡ width) × (along tracks c (listed_following 0 side) a ≡ Some b)
    by_test true e g = let x = and_both (slice_index side 2 == n) (slice_index side 3 == width) e in (eqb-true (slice_index side 2) n x.0, eqb-true (slice_index side 3) width x.1, g)
    by_test false e g = absurd (cc)

sides_on : (tracks : ℕ) (c : Content) (width n : ℕ) (side : List ℕ) (a : Place) → slice_index side 2 ≡ n → slice_index side 3 ≡ width → side_along tracks c width n side a ≡ along tracks c (listed_following 0 side) a
sides_on tracks c width n side a e f = rw (eq-eqb (slice_index side 2) n e, eq-eqb (slice_index side 3) width f) refl

-- what these side sectors say: their numbers and length, and the beginning of the chain
pub record Sided (tracks : ℕ) (c : Content) (width n : ℕ) (ss xs : List Place) : Type 0 where
  pub numbered : Numbered tracks c width n ss
  pub rest : List Place
  pub joined : blocks_listed c ss ++ rest ≡ xs

one_sided : (tracks : ℕ) (c : Content) (width n : ℕ) (s : Place) (ss xs : List Place) (a b : Place) → Has tracks s → IsOk (c s) → Chain tracks c a xs
    → side_along tracks c width n (bytes_at c s) a ≡ Some b → ((z : List Place) → Chain tracks c b z → Sided tracks c width (n + 1) ss z) → Sided tracks c width n (s ∷ ss) xs
one_sided tracks c width n s ss xs a b has_s reads h e more =
    let x = sided tracks c width n (bytes_at c s) a b e in
    let front = along_begins tracks c (listed_following 0 (bytes_at c s)) xs a b h x.2 in
    let rest = more front.rest front.chain in
    record {
      numbered = (has_s, reads, x.0, x.1, rest.numbered);
      rest = rest.rest;
      joined = append_assoc (named_in 120 (drop 16 (bytes_at c s))) (blocks_listed c ss) rest.rest ∙ (λ i. sym (listed_all (bytes_at c s)) i ++ rest.joined i) ∙ front.joined;
    }

pub all_sided : (tracks : ℕ) (c : Content) (claimed after : Place → Bool) (width n : ℕ) (ss xs : List Place) (a b : Place) → ClaimsEach OfFile tracks c claimed ss after → Chain tracks c a xs
    → sides_along tracks c width n ss a ≡ Some b → Sided tracks c width n ss xs
all_sided tracks c claimed after width n [] xs a b k h e = record { numbered = tt; rest = xs; joined = refl }
all_sided tracks c claimed after width n (s ∷ ss) xs a b k h e =
    let r = is_right OfFile tracks c claimed s k.0 in
    let has_s = inside_has OfFile tracks s r.inside in
    by_side (side_found tracks c width n s a) refl e has_s (ok_of (c s) r.reads) (λ q z g t. all_sided tracks c (with_bit claimed s true) after width (n + 1) ss z q b k.1 g t)
  where
    ok_of : (cell : Cell) → reads cell ≡ true → IsOk cell
    ok_of (Ok bytes) g = refl
    ok_of (Err code) g = absurd (cc)

    by_side : (r : Option Place) → side_found tracks c width n s a ≡ r → (elim r [ Some q ↦ sides_along tracks c width (n + 1) ss q | None ↦ None ]) ≡ Some b → Has tracks s → IsOk (c s)
        → ((q : Place) (z : List Place) → Chain tracks c q z → sides_along tracks c width (n + 1) ss q ≡ Some b → Sided tracks c width (n + 1) ss z) → Sided tracks c width n (s ∷ ss) xs
    by_side None r g has_s ok more = absurd (cc)
    by_side (Some q) r g has_s ok more =
        let side : side_along tracks c width n (bytes_at c s) a ≡ Some q = sym (ap (λ t. if t then side_along tracks c width n (bytes_at c s) a else None) (has_true tracks s has_s)) ∙ r in
        one_sided tracks c width n s ss xs a q has_s ok h side (λ z f. more q z f g)

pub sides_all : (tracks : ℕ) (c : Content) (width n : ℕ) (ss rest : List Place) (a : Place) → Numbered tracks c width n ss → Chain tracks c a (blocks_listed c ss ++ rest) → (b : Place) × (sides_along tracks c width n ss a ≡ Some b)
sides_all tracks c width n [] rest a h k = (a, refl)
sides_all tracks c width n (s ∷ ss) rest a h k =
    let front = begins_along tracks c (named_in 120 (drop 16 (bytes_at c s))) (blocks_listed c ss ++ rest) a
    (subst (Chain tracks c a) (append_assoc (named_in 120 (drop 16 (bytes_at c s))) (blocks_listed c ss) rest) k) in
    let more = sides_all tracks c width (n + 1) ss rest front.0 h.4 front.2 in
    let here : side_found tracks c width n s a ≡ Some front.0 =
    ap (λ t. if t then side_along tracks c width n (bytes_at c s) a else None) (has_true tracks s h.0) ∙ sides_on tracks c width n (bytes_at c s) a h.2 h.3
    ∙ ap (λ ps. along tracks c ps a) (listed_all (bytes_at c s)) ∙ front.1 in
    (more.0, ap (λ (o : Option Place). elim o [ Some q ↦ sides_along tracks c width (n + 1) ss q | None ↦ None ]) here ∙ more.1)

-- ---- the records of an entry

place_four : (bytes : List ℕ) → place_in bytes 4 ≡ record { track = get_or bytes 4 0; sector = get_or bytes 5 0 }
place_four bytes = refl

listed_first : (bytes : List ℕ) (p : Place) → p ≡ place_in bytes 4 → p.track ≢ 0 → sides_listed bytes ≡ p ∷ named_in 5 (drop 6 bytes)
listed_first bytes p e ne = sides_some 0 bytes p (omega arith) e ne

-- THE TEST SAYS THAT THE RECORDS ARE RIGHT
pub records_right : (tracks : ℕ) (c : Content) (claimed after : Place → Bool) (e : List ℕ) (xs : List Place) → (first_block e).track ≢ 0 → Chain tracks c (first_block e) xs
    → ClaimsEach OfFile tracks c claimed (sides_from c (first_side e)) after → are_records tracks c e ≡ true
    → HasRecords tracks c e (record { data_blocks = xs; sides = sides_from c (first_side e) })
records_right tracks c claimed after e xs some_link h k t =
    let first = bytes_at c (first_side e) in
    let w = and_both _ _ t in
    let v = and_both _ _ w.1 in
    let p = and_both _ _ v.1 in
    let r = is_right OfFile tracks c claimed (first_side e) k.0 in
    let has_s = inside_has OfFile tracks (first_side e) r.inside in
    let same = same_place (place_in first 4) (first_side e) p.0 in
    let listed = listed_first first (first_side e) (sym same) (λ z. no_track tracks (first_side e) has_s z) in
    let some = some_of (all_along tracks c (width_of e) first (first_block e)) p.1 in
    let sided = first_sided first refl some.0 some.1 has_s (ok_of (c (first_side e)) r.reads) in
    record {
      some_block = some_block_of xs h some_link;
      some_width = ltb-true 0 (width_of e) w.0;
      width = below (ltb-true (width_of e) 255 v.0);
      first = (after_the_first first, refl);
      listed = sym (listed ∙ ap (λ ys. first_side e ∷ ys) (sym (ap (drop 1) listed)));
      numbered = sided.numbered;
      joined = (sided.rest, sided.joined);
    }
  where
    ok_of : (cell : Cell) → reads cell ≡ true → IsOk cell
    ok_of (Ok bytes) g = refl
    ok_of (Err code) g = absurd (cc)

    below : width_of e < 255 → width_of e ≤ 254
    below g = omega (arith, g)

    some_of : (o : Option Place) → is_some o ≡ true → (q : Place) × (o ≡ Some q)
    some_of None g = absurd (cc)
    some_of (Some q) g = (q, refl)

    some_block_of : (ys : List Place) → Chain tracks c (first_block e) ys → (first_block e).track ≢ 0 → 1 ≤ length ys
    some_block_of [] g z = absurd (z g)
    some_block_of (y ∷ ys) g z = omega arith

    first_sided : (bytes : List ℕ) → bytes_at c (first_side e) ≡ bytes → (q : Place) → all_along tracks c (width_of e) bytes (first_block e) ≡ Some q → Has tracks (first_side e) → IsOk (c (first_side e))
        → Sided tracks c (width_of e) 0 (sides_from c (first_side e)) xs
    first_sided bytes is q g has_s ok = by_first (side_along tracks c (width_of e) 0 bytes (first_block e)) refl g
      where
        by_first : (o : Option Place) → side_along tracks c (width_of e) 0 bytes (first_block e) ≡ o
            → (elim o [ Some b ↦ sides_along tracks c (width_of e) 1 (after_the_first bytes) b | None ↦ None ]) ≡ Some q → Sided tracks c (width_of e) 0 (sides_from c (first_side e)) xs
        by_first None o g2 = absurd (cc)
        by_first (Some b) o g2 =
            one_sided tracks c (width_of e) 0 (first_side e) (after_the_first (bytes_at c (first_side e))) xs (first_block e) b has_s ok h
            (ap (λ ys. side_along tracks c (width_of e) 0 ys (first_block e)) is ∙ o)
            (λ z f. all_sided tracks c (with_bit claimed (first_side e) true) after (width_of e) 1 (after_the_first (bytes_at c (first_side e))) z b q k.1 f
            (ap (λ ys. sides_along tracks c (width_of e) 1 (after_the_first ys) b) is ∙ g2))

all_is : (tracks : ℕ) (c : Content) (width : ℕ) (first a : Place) → Has tracks first → all_along tracks c width (bytes_at c first) a ≡ sides_along tracks c width 0 (sides_from c first) a
all_is tracks c width first a h =
    sym (ap (λ (t : Bool). elim (if t then side_along tracks c width 0 (bytes_at c first) a else None) [ Some b ↦ sides_along tracks c width 1 (after_the_first (bytes_at c first)) b | None ↦ None ]) (has_true tracks first h))

head_of : Place → List Place → Place
head_of p [] = p
head_of p (x ∷ xs) = x

head_listed : (bytes : List ℕ) (f : Place) (rest : List Place) → sides_listed bytes ≡ f ∷ rest → place_in bytes 4 ≡ f
unfolding head_of
head_listed bytes f rest h = by_test (slice_index (drop 4 bytes) 0 == 0) h
  where
    same : place_in (drop 4 bytes) 0 ≡ place_in bytes 4
    same = λ i. record { track = get_or-drop 4 bytes 0 0 i; sector = get_or-drop 4 bytes 1 0 i }

    by_test : (t : Bool) → (if t then [] else place_in (drop 4 bytes) 0 ∷ named_in 5 (drop 2 (drop 4 bytes))) ≡ f ∷ rest → place_in bytes 4 ≡ f
    by_test true g = absurd (cc)
    by_test false g = sym same ∙ ap (head_of f) g

-- RIGHT RECORDS PASS THE TEST
pub records_pass : (tracks : ℕ) (c : Content) (e : List ℕ) (b : Blocks) → Chain tracks c (first_block e) b.data_blocks → HasRecords tracks c e b
    → (sides_from c (first_side e) ≡ b.sides) × (are_records tracks c e ≡ true) × ((first_block e).track ≢ 0)
records_pass tracks c e b h k =
    let first = first_side e in
    let bytes = bytes_at c first in
    let listed : sides_listed bytes ≡ first ∷ k.first.0 = sym k.listed ∙ k.first.1 in
    let sides : sides_from c first ≡ b.sides = ap (λ (ys : List Place). first ∷ drop 1 ys) listed ∙ sym k.first.1 in
    let numbered = subst (Numbered tracks c (width_of e) 0) (sym sides) k.numbered in
    let joined = subst (λ (ys : List Place). blocks_listed c ys ++ k.joined.0 ≡ b.data_blocks) (sym sides) k.joined.1 in
    let all = sides_all tracks c (width_of e) 0 (sides_from c first) k.joined.0 (first_block e) numbered (subst (Chain tracks c (first_block e)) (sym joined) h) in
    let passes = all_is tracks c (width_of e) first (first_block e) numbered.0 ∙ all.1 in
    let here = same_test (place_in bytes 4) first (head_listed bytes first k.first.0 listed) in (
      sides,
      rw (lt-ltb 0 (width_of e) k.some_width, lt-ltb (width_of e) 255 (omega (arith, k.width)), here, passes) refl,
      some_link b.data_blocks h k.some_block,
    )
  where
    same_test : (p q : Place) → p ≡ q → is_place p q ≡ true
    same_test p q g = ap (is_place p) (sym g) ∙ place_is_itself p

    some_link : (ys : List Place) → Chain tracks c (first_block e) ys → 1 ≤ length ys → (first_block e).track ≢ 0
    some_link [] g some = absurd (omega (arith, some))
    some_link (y ∷ ys) g some = λ z. no_track tracks y g.1 (sym (ap (λ (p : Place). p.track) g.0) ∙ z)
