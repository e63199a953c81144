-- A directory that grew is never found full, on any content: the walk meets the new sector, whose entries are empty, or breaks off.
use Rattle.std.proofs.Common.{◌≡◌, ◌≢◌, ◌⊎◌, ℕ, zero, suc, ◌+◌, List, [], ◌∷◌, ◌++◌, Bool, true, false, Some, None, Ok, Err, IsOk, refl, sym, ap, subst, ◌∙◌, inl, inr, arith, if◌then◌else◌}
use Rattle.std.specs.Prelude.{◌==◌}
use Rattle.cbm_medium.specs.Place.{Place, Has, directory_head}
use Rattle.cbm_medium.specs.Content.{Cell, Content, written}
use Rattle.cbm_medium.specs.Links.{Chain, link, or_nothing}
use Rattle.cbm_medium.proofs.Places.{place_decide, written_there, written_elsewhere}
use Rattle.cbm_medium.proofs.Walks.{follow_full, follow_next}
use Rattle.cbm_bam.specs.Map.{map_of}
use Rattle.cbm_directory.specs.Entries.{first_directory, type_byte}
use Rattle.cbm_directory.specs.Slots.{Listed, entries_from, listed_from, listed_after, directory_of}
use Rattle.cbm_directory.specs.Growth.{Grows, new_sector}
use Rattle.cbm_directory.specs.Empties.{empty_in, FindsEmpty}
use Rattle.cbm_directory.proofs.Stepping.{listed_cut, listed_next}

-- no entry is empty, and no trouble comes after them
abbrev IsTaken : ℕ → Listed → Type 0
IsTaken n d = (empty_in n d.entries ≡ None) × (d.trouble ≡ None)

taken_after : (n : ℕ) (xs : List (List ℕ)) (rest : Listed) → IsTaken n (listed_after xs rest) → (m : ℕ) × IsTaken m rest
taken_after n [] rest h = (n, h)
taken_after n (x ∷ xs) rest h = by_test (type_byte x == 0) h.0 (λ e. taken_after (n + 1) xs rest (e, h.1))
  where
    by_test : (b : Bool) → (if b then Some n else empty_in (n + 1) (xs ++ rest.entries)) ≡ None
        → (empty_in (n + 1) (xs ++ rest.entries) ≡ None → (m : ℕ) × IsTaken m rest) → (m : ℕ) × IsTaken m rest
    by_test true e more = absurd (cc)
    by_test false e more = more e

on_a_track : (tracks : ℕ) (p : Place) → Has tracks p → p.track ≢ 0
on_a_track tracks p h z = omega (arith, h.0)

-- one sector too many
none_left : (tracks : ℕ) (c : Content) (a : Place) (n : ℕ) → Has tracks a → IsTaken n (listed_from tracks c 0 a) → ⊥
none_left tracks c a n has h =
    let z = sym (ap (λ (d : Listed). d.trouble) (listed_cut tracks c 0 a (record { code = 71; track = a.track; sector = a.sector }) (follow_full tracks c 0 a (on_a_track tracks a has) has refl))) ∙ h.1 in
    cc

-- one sector on
one_on : (tracks : ℕ) (c : Content) (left : ℕ) (a : Place) (bytes : List ℕ) (n : ℕ) → Has tracks a → c a ≡ Ok bytes → IsTaken n (listed_from tracks c (suc left) a) → (m : ℕ) × IsTaken m (listed_from tracks c left (link bytes))
one_on tracks c left a bytes n has ok h =
    taken_after n (entries_from 8 bytes 0) (listed_from tracks c left (link bytes))
    (subst (IsTaken n) (listed_next tracks c (suc left) left a bytes ok (follow_next tracks c (suc left) left a bytes (on_a_track tracks a has) has refl ok)) h)

-- a sector that links to itself never ends
never_ends : (tracks : ℕ) (c : Content) (left : ℕ) (a : Place) (bytes : List ℕ) (n : ℕ) → Has tracks a → c a ≡ Ok bytes → link bytes ≡ a → IsTaken n (listed_from tracks c left a) → ⊥
never_ends tracks c zero a bytes n has ok e h = none_left tracks c a n has h
never_ends tracks c (suc left) a bytes n has ok e h =
    let k = one_on tracks c left a bytes n has ok h in
    never_ends tracks c left a bytes k.0 has ok e (subst (λ (p : Place). IsTaken k.0 (listed_from tracks c left p)) e k.1)

first_is_empty : (n : ℕ) (rest : List (List ℕ)) → empty_in n (entries_from 8 new_sector 0 ++ rest) ≡ Some n
first_is_empty n rest = refl

-- a new sector has empty entries
new_met : (tracks : ℕ) (c : Content) (left : ℕ) (a : Place) (n : ℕ) → Has tracks a → c a ≡ Ok new_sector → IsTaken n (listed_from tracks c left a) → ⊥
new_met tracks c zero a n has ok h = none_left tracks c a n has h
new_met tracks c (suc left) a n has ok h =
    let k : IsTaken n (listed_after (entries_from 8 new_sector 0) (listed_from tracks c left (link new_sector))) =
    subst (IsTaken n) (listed_next tracks c (suc left) left a new_sector ok (follow_next tracks c (suc left) left a new_sector (on_a_track tracks a has) has refl ok)) h in
    let z = sym (first_is_empty n (listed_from tracks c left (link new_sector)).entries) ∙ k.0 in
    cc

-- what a sector that read is after the growth: the last one, the new one, or one with the same link
abbrev Becomes : Content → Place → List ℕ → Place → Place → List ℕ → Type 0
Becomes c' last sector more b bytes =
    (b ≡ last) ⊎ ((b ≡ more) × (c' b ≡ Ok new_sector) ⊎ ((now : List ℕ) × (c' b ≡ Ok now) × (link now ≡ link bytes)))

becomes : (tracks : ℕ) (c c' : Content) (g : Grows tracks c c') (b : Place) (bytes : List ℕ) → c b ≡ Ok bytes → Becomes c' g.last g.sector g.more b bytes
becomes tracks c c' g b bytes ok = elim (place_decide g.last b) [
  | inl e ↦ inl (sym e)
  | inr far ↦ elim (place_decide g.more b) [
    | inl e ↦ inr (inl (sym e, now far ∙ ap (written g.claimed g.more new_sector) (sym e) ∙ written_there g.claimed g.more new_sector))
    | inr off ↦ elim (place_decide directory_head b) [
      | inl e ↦ inr (inr (
        g.claims.remaps.map,
        now far ∙ before off ∙ ap (λ (y : Content). y b) g.claims.remaps.written ∙ ap (written c directory_head g.claims.remaps.map) (sym e) ∙ written_there c directory_head g.claims.remaps.map,
        map_link (ap (λ (x : Cell). or_nothing x) (ap c e ∙ ok)),
      ))
      | inr out ↦ inr (inr (bytes, now far ∙ before off ∙ ap (λ (y : Content). y b) g.claims.remaps.written ∙ written_elsewhere c directory_head b g.claims.remaps.map out ∙ ok, refl))
    ]
  ]
]
  where
    now : g.last ≢ b → c' b ≡ written g.claimed g.more new_sector b
    now far = ap (λ (y : Content). y b) g.written ∙ written_elsewhere (written g.claimed g.more new_sector) g.last b g.sector far

    before : g.more ≢ b → written g.claimed g.more new_sector b ≡ g.claimed b
    before off = written_elsewhere g.claimed g.more b new_sector off

    map_link : map_of c ≡ bytes → link g.claims.remaps.map ≡ link bytes
    map_link e = (λ i. record { track = g.claims.remaps.mapped.outside 0 (inl (omega arith)) i; sector = g.claims.remaps.mapped.outside 1 (inl (omega arith)) i }) ∙ ap link e

-- at the sector that was the last one
at_last : (tracks : ℕ) (c c' : Content) (g : Grows tracks c c') (left n : ℕ) → Has tracks g.last → IsTaken n (listed_from tracks c' left g.last) → ⊥
at_last tracks c c' g zero n has h = none_left tracks c' g.last n has h
at_last tracks c c' g (suc left) n has h =
    let there : c' g.last ≡ Ok g.sector = ap (λ (y : Content). y g.last) g.written ∙ written_there (written g.claimed g.more new_sector) g.last g.sector in
    let k = one_on tracks c' left g.last g.sector n has there h in
    let at_more : IsTaken k.0 (listed_from tracks c' left g.more) = subst (λ (p : Place). IsTaken k.0 (listed_from tracks c' left p)) g.links.link k.1 in
    elim (place_decide g.last g.more) [
      | inl e ↦ never_ends tracks c' left g.last g.sector k.0 has there (g.links.link ∙ sym e) (subst (λ (p : Place). IsTaken k.0 (listed_from tracks c' left p)) (sym e) at_more)
      | inr ne ↦ new_met tracks c' left g.more k.0 g.claims.has
          (ap (λ (y : Content). y g.more) g.written ∙ written_elsewhere (written g.claimed g.more new_sector) g.last g.more g.sector ne ∙ written_there g.claimed g.more new_sector) at_more
    ]

-- along the sectors as they were before the growth
along : (tracks : ℕ) (c c' : Content) (g : Grows tracks c c') (left n : ℕ) (a : Place) (xs : List Place) → Chain tracks c a (xs ++ g.last ∷ []) → IsTaken n (listed_from tracks c' left a) → ⊥
along tracks c c' g left n a [] h k = at_last tracks c c' g left n h.1 (subst (λ (p : Place). IsTaken n (listed_from tracks c' left p)) h.0 k)
along tracks c c' g zero n a (b ∷ rest) h k = none_left tracks c' b n h.1 (subst (λ (p : Place). IsTaken n (listed_from tracks c' 0 p)) h.0 k)
along tracks c c' g (suc left) n a (b ∷ rest) h k = by_cell (c b) refl h.2 h.3 (λ m q tail j. along tracks c c' g left m q rest tail j)
  where
    here : IsTaken n (listed_from tracks c' (suc left) b)
    here = subst (λ (p : Place). IsTaken n (listed_from tracks c' (suc left) p)) h.0 k

    by_cell : (x : Cell) → c b ≡ x → IsOk x → Chain tracks c (link (or_nothing x)) (rest ++ g.last ∷ [])
        → ((m : ℕ) (q : Place) → Chain tracks c q (rest ++ g.last ∷ []) → IsTaken m (listed_from tracks c' left q) → ⊥) → ⊥
    by_cell (Err code) e ok tail more = absurd (cc)
    by_cell (Ok bytes) e ok tail more = elim (becomes tracks c c' g b bytes e) [
      | inl last ↦ at_last tracks c c' g (suc left) n (subst (Has tracks) last h.1) (subst (λ (p : Place). IsTaken n (listed_from tracks c' (suc left) p)) last here)
      | inr other ↦ elim other [
        | inl new ↦ new_met tracks c' (suc left) b n h.1 new.1 here
        | inr on ↦ (let m = one_on tracks c' left b on.0 n h.1 on.1 here in
            more m.0 (link bytes) tail (subst (λ (p : Place). IsTaken m.0 (listed_from tracks c' left p)) on.2 m.1))
      ]
    ]

-- A DIRECTORY THAT GREW HAS AN EMPTY SLOT, or breaks off
pub never_full : (tracks : ℕ) (c c' : Content) → Grows tracks c c' → FindsEmpty (directory_of tracks c') (Ok None) → ⊥
unfolding directory_of
never_full tracks c c' g found = along tracks c c' g 18 0 first_directory g.is_last.0 g.is_last.1.0 found
