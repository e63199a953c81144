-- Sectors put into a set, blocks of a chain and blocks that are laid_out, one at a time.
use Rattle.std.proofs.Common.{◌≡◌, ℕ, suc, ◌+◌, ◌<◌, List, [], ◌∷◌, ◌++◌, map, length, drop, drop-cons, get_or, Bool, true, false, Ok, refl, sym, ap, ◌∙◌, arith, append_assoc, append-nil, ◌≢◌}
use Rattle.cbm_medium.specs.Place.{Place, Has, sectors_on, sector_count}
use Rattle.cbm_medium.specs.Content.{Cell, Content, written}
use Rattle.cbm_medium.specs.Links.{link, follow, bytes_at, or_nothing}
use Rattle.cbm_medium.proofs.Walks.{follow_next}
use Rattle.cbm_bam.specs.Map.{with_bit}
use Rattle.cbm_bam.specs.Marks.{nothing}
use Rattle.cbm_shell.specs.Mapping.{chain_of, is_among}
use Rattle.cbm_shell.specs.Marking.{with_places}
use Rattle.cbm_shell.specs.Passing.{place_if, places_on, places_in}
use Rattle.std.proofs.lemmas.List.{map-append}
use Rattle.cbm_shell.proofs.MapLemmas.{with-append, among}
use Rattle.std.specs.Prelude.{◌&&◌}
use Rattle.cbm_place.specs.Carving.{written_each}
use Rattle.cbm_place.specs.Moves.{laid_out, led, held_blocks, is_open_to, are_open, wiped_at, wiped}

-- ---- sectors of a track, and tracks

pub taking-none : (old : Place → Bool) (test : Place → Bool) (track : ℕ) → old ≡ with_places old (places_on test track 0)
unfolding places_on with_places
taking-none old test track = refl

next_on : (test : Place → Bool) (track n : ℕ) → places_on test track (n + 1) ≡ places_on test track n ++ place_if (test (record { track = track; sector = n })) (record { track = track; sector = n })
unfolding places_on
next_on test track n = ap (places_on test track) (let e : n + 1 ≡ suc n = omega arith in e)

pub taking-more : (old now next test : Place → Bool) (track n : ℕ) (at : Place) (b : Bool) → now ≡ with_places old (places_on test track n) → b ≡ test at
    → next ≡ with_places now (place_if b at) → at ≡ record { track = track; sector = n } → next ≡ with_places old (places_on test track (n + 1))
taking-more old now next test track n at b before is added same =
    let q : Place = record { track = track; sector = n } in
    added ∙ ap (λ (c : Bool). with_places now (place_if c at)) is ∙ ap (λ (p : Place). with_places now (place_if (test p) p)) same
    ∙ ap (λ (u : Place → Bool). with_places u (place_if (test q) q)) before
    ∙ sym (with-append old (places_on test track n) (place_if (test q) q))
    ∙ ap (with_places old) (sym (next_on test track n))

pub tracks-none : (none test : Place → Bool) → none ≡ nothing → none ≡ with_places nothing (places_in test 0)
unfolding places_in with_places
tracks-none none test e = e

next_in : (test : Place → Bool) (n : ℕ) → places_in test (n + 1) ≡ places_in test n ++ places_on test (n + 1) (sectors_on (n + 1))
unfolding places_in
next_in test n =
    let next : n + 1 ≡ suc n = omega arith in
    ap (places_in test) next ∙ sym (ap (λ (k : ℕ). places_in test n ++ places_on test k (sectors_on k)) next)

pub tracks-more : (now next test : Place → Bool) (n : ℕ) → now ≡ with_places nothing (places_in test n) → next ≡ with_places now (places_on test (n + 1) (sectors_on (n + 1)))
    → next ≡ with_places nothing (places_in test (n + 1))
tracks-more now next test n before added =
    added ∙ ap (λ (u : Place → Bool). with_places u (places_on test (n + 1) (sectors_on (n + 1)))) before
    ∙ sym (with-append nothing (places_in test n) (places_on test (n + 1) (sectors_on (n + 1))))
    ∙ ap (with_places nothing) (sym (next_in test n))

pub tracks-all : (now test : Place → Bool) (n tracks : ℕ) → now ≡ with_places nothing (places_in test n) → n ≡ tracks → now ≡ is_among (places_in test tracks)
tracks-all now test n tracks before e = before ∙ ap (λ (k : ℕ). with_places nothing (places_in test k)) e ∙ among (places_in test tracks)

-- ---- the places of a slice

pub one_off : {A : Type 0} (xs : List A) (x : A) (i : ℕ) → x ≡ get_or xs i x → i < length xs → drop i xs ≡ x ∷ drop (i + 1) xs
one_off xs x i e h =
    let next : suc i ≡ i + 1 = omega arith in
    drop-cons xs i x h ∙ ap (λ y. y ∷ drop (suc i) xs) (sym e) ∙ ap (λ k. x ∷ drop k xs) next

pub put-begins : (none : Place → Bool) (places : List Place) → none ≡ nothing → with_places none places ≡ is_among places
put-begins none places e = ap (λ (u : Place → Bool). with_places u places) e ∙ among places

pub put-more : (now next whole : Place → Bool) (p : Place) (left rest : List Place) → with_places now left ≡ whole → left ≡ p ∷ rest → next ≡ with_bit now p true → with_places next rest ≡ whole
unfolding with_places
put-more now next whole p left rest before begins is =
    ap (λ (u : Place → Bool). with_places u rest) is ∙ sym (ap (with_places now) begins) ∙ before

pub put-all : (now whole : Place → Bool) (left : List Place) → with_places now left ≡ whole → left ≡ [] → now ≡ whole
unfolding with_places
put-all now whole left before none = sym (ap (with_places now) none) ∙ before

-- ---- along a chain

pub walk-begins : (places : List Place) (tracks : ℕ) (content : Content) (n : ℕ) (a : Place) → places ≡ [] → n ≡ sector_count tracks
    → places ++ (follow tracks content n a).blocks ≡ chain_of tracks content a
unfolding chain_of
walk-begins places tracks content n a none e = ap (λ l. l ++ (follow tracks content n a).blocks) none ∙ ap (λ k. (follow tracks content k a).blocks) e

going : (tracks : ℕ) (p : Place) → Has tracks p → p.track ≢ 0
going tracks p h e = omega (arith, h.0)

pub walk-more : (places next whole : List Place) (tracks : ℕ) (content : Content) (m n : ℕ) (p : Place) (bytes : List ℕ)
    → places ++ (follow tracks content m p).blocks ≡ whole → Has tracks p → content p ≡ Ok bytes → m ≡ suc n → next ≡ places ++ p ∷ []
    → next ++ (follow tracks content n (link bytes)).blocks ≡ whole
walk-more places next whole tracks content m n p bytes before h reads less is =
    ap (λ l. l ++ (follow tracks content n (link bytes)).blocks) is
    ∙ append_assoc places (p ∷ []) (follow tracks content n (link bytes)).blocks
    ∙ sym (ap (λ f. places ++ f.blocks) (follow_next tracks content m n p bytes (going tracks p h) h less reads)) ∙ before

pub walk-all : (places rest whole : List Place) → places ++ rest ≡ whole → rest ≡ [] → places ≡ whole
walk-all places rest whole before none = sym (append-nil places) ∙ sym (ap (λ l. places ++ l) none) ∙ before

-- what the places hold
pub held-more : (content : Content) (places next : List Place) (blocks more : List (List ℕ)) (p : Place) (bytes : List ℕ) → blocks ≡ held_blocks content places → content p ≡ Ok bytes
    → next ≡ places ++ p ∷ [] → more ≡ blocks ++ bytes ∷ [] → more ≡ held_blocks content next
held-more content places next blocks more p bytes before reads is added =
    added ∙ ap (λ l. l ++ bytes ∷ []) before ∙ ap (λ c. held_blocks content places ++ c ∷ []) (sym (ap or_nothing reads))
    ∙ sym (map-append (bytes_at content) places (p ∷ [])) ∙ ap (held_blocks content) (sym is)

-- ---- blocks that are laid_out

pub laid-more : (places rest : List Place) (blocks more : List (List ℕ)) (p : Place) (block : List ℕ) (now next whole : Content) → laid_out places blocks now ≡ whole
    → places ≡ p ∷ rest → blocks ≡ block ∷ more → next ≡ written now p (led block rest) → laid_out rest more next ≡ whole
laid-more places rest blocks more p block now next whole before begins first is =
    ap (laid_out rest more) is ∙ sym (ap (λ l. laid_out (p ∷ rest) l now) first) ∙ sym (ap (λ l. laid_out l blocks now) begins) ∙ before

-- ---- a sector that is put in, or isn't

pub inserted : (old new : Place → Bool) (p : Place) (b : Bool) → b ≡ true → new ≡ with_bit old p true → new ≡ with_places old (place_if b p)
unfolding with_places
inserted old new p b so is = is ∙ sym (ap (λ (c : Bool). with_places old (place_if c p)) so)

pub left_out : (old : Place → Bool) (p : Place) (b : Bool) → b ≡ false → old ≡ with_places old (place_if b p)
unfolding with_places
left_out old p b so = sym (ap (λ (c : Bool). with_places old (place_if c p)) so)

-- ---- places that are open, one at a time

pub open-shut : (tracks : ℕ) (head : Cell) (own named : Place → Bool) (p : Place) (left rest : List Place) (whole : Bool) → are_open tracks head own named left ≡ whole → left ≡ p ∷ rest
    → is_open_to tracks head own named p ≡ false → false ≡ whole
open-shut tracks head own named p left rest whole before begins shut =
    sym (ap (λ (b : Bool). b && are_open tracks head own (with_bit named p true) rest) shut) ∙ sym (ap (are_open tracks head own named) begins) ∙ before

pub open-more : (tracks : ℕ) (head : Cell) (own named next : Place → Bool) (p : Place) (left rest : List Place) (whole : Bool) → are_open tracks head own named left ≡ whole → left ≡ p ∷ rest
    → is_open_to tracks head own named p ≡ true → next ≡ with_bit named p true → are_open tracks head own next rest ≡ whole
open-more tracks head own named next p left rest whole before begins is more =
    ap (λ (u : Place → Bool). are_open tracks head own u rest) more
    ∙ sym (ap (λ (b : Bool). b && are_open tracks head own (with_bit named p true) rest) is) ∙ sym (ap (are_open tracks head own named) begins) ∙ before

pub held-none : (content : Content) (places : List Place) (blocks : List (List ℕ)) → places ≡ [] → blocks ≡ [] → blocks ≡ held_blocks content places
held-none content places blocks none empty = empty ∙ sym (ap (held_blocks content) none)

-- ---- sectors that are wiped

pub wiped-more : (claimed : Place → Bool) (p : Place) (left rest : List Place) (now next whole : Content) → wiped claimed left now ≡ whole → left ≡ p ∷ rest → next ≡ wiped_at (claimed p) p now
    → wiped claimed rest next ≡ whole
wiped-more claimed p left rest now next whole before begins is = ap (wiped claimed rest) is ∙ sym (ap (λ l. wiped claimed l now) begins) ∙ before

-- ---- sectors that are written

pub written-more : (places rest : List Place) (blocks more : List (List ℕ)) (p : Place) (block : List ℕ) (now next whole : Content) → written_each places blocks now ≡ whole
    → places ≡ p ∷ rest → blocks ≡ block ∷ more → next ≡ written now p block → written_each rest more next ≡ whole
written-more places rest blocks more p block now next whole before begins first is =
    ap (written_each rest more) is ∙ sym (ap (λ l. written_each (p ∷ rest) l now) first) ∙ sym (ap (λ l. written_each l blocks now) begins) ∙ before
