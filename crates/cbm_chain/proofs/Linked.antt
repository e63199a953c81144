-- Blocks that are linked, and are given back one by one.
use Rattle.std.proofs.Common.{◌≡◌, ◌⊎◌, ℕ, zero, suc, ◌-◌, List, [], ◌∷◌, length, false, Option, Some, None, Ok, Err, IsOk, refl, sym, ap, subst, ◌∙◌, arith, inl, inr}
use Rattle.std.specs.Prelude.{◌≤◌, Result, OnOk, SomeIff, MatchOption}
use Rattle.cbm_medium.specs.Place.{Place, Has, has, directory_head}
use Rattle.cbm_medium.specs.Content.{Cell, Content, written}
use Rattle.cbm_medium.specs.declared.fault.Trouble.{Trouble}
use Rattle.cbm_medium.specs.Links.{Followed, ended, cut_at, with_block, followed_after, link, or_nothing}
use Rattle.cbm_medium.specs.Met.{IsReached, IsMetFrom}
use Rattle.cbm_medium.proofs.Walks.{has_true, true_has, bool_cases}
use Rattle.cbm_medium.proofs.Reached.{reached_on}
use Rattle.cbm_bam.specs.Map.{IsGiven, Frees}
use Rattle.cbm_chain.specs.Writing.{State, Part, Wrote}
use Rattle.cbm_chain.specs.GivenUp.{linked_blocks, GivesBack, GivesUpLed, IsGivenBack}

-- ---- one step

pub linked_last : (tracks : ℕ) (c : Content) (p : Place) → Has tracks p → linked_blocks tracks c 0 p ≡ ended (p ∷ [])
unfolding linked_blocks
linked_last tracks c p h = rw (has_true tracks p h) refl

pub linked_off : (tracks : ℕ) (c : Content) (n : ℕ) (p : Place) → has tracks p ≡ false → linked_blocks tracks c n p ≡ cut_at 66 p
unfolding linked_blocks
linked_off tracks c zero p h = rw h refl
linked_off tracks c (suc n) p h = rw h refl

linked_on : (tracks : ℕ) (c : Content) (n : ℕ) (p : Place) → Has tracks p → linked_blocks tracks c (suc n) p ≡ followed_after p (c p) (λ q. linked_blocks tracks c n q)
unfolding linked_blocks
linked_on tracks c n p h = rw (has_true tracks p h) refl

pub linked_next : (tracks : ℕ) (c : Content) (n : ℕ) (p : Place) (bytes : List ℕ) → Has tracks p → c p ≡ Ok bytes → linked_blocks tracks c (suc n) p ≡ with_block p (linked_blocks tracks c n (link bytes))
linked_next tracks c n p bytes h e = linked_on tracks c n p h ∙ ap (λ (cell : Cell). followed_after p cell (λ q. linked_blocks tracks c n q)) e

pub linked_fault : (tracks : ℕ) (c : Content) (n : ℕ) (p : Place) (code : ℕ) → Has tracks p → c p ≡ Err code → linked_blocks tracks c (suc n) p ≡ cut_at code p
linked_fault tracks c n p code h e = linked_on tracks c n p h ∙ ap (λ (cell : Cell). followed_after p cell (λ q. linked_blocks tracks c n q)) e

-- a link that names a sector of the disk
pub named : (o : Option Place) (P : Type 0) (v x : Place) → SomeIff o P v → o ≡ Some x → P
named None P v x h e = absurd (cc)
named (Some y) P v x h e = h.0

-- ---- the blocks of a writer are linked

pub part_linked : (tracks : ℕ) (c : Content) (b : Place) (rest : List Place) → Part tracks c (b ∷ rest) → linked_blocks tracks c (length rest) b ≡ ended (b ∷ rest)
part_linked tracks c b [] h = linked_last tracks c b h.0
part_linked tracks c b (b' ∷ rest) h = go (c b) refl h.3 h.4 (part_linked tracks c b' rest h.5)
  where
    go : (cell : Cell) → c b ≡ cell → IsOk cell → link (or_nothing cell) ≡ b' → linked_blocks tracks c (length rest) b' ≡ ended (b' ∷ rest) → linked_blocks tracks c (suc (length rest)) b ≡ ended (b ∷ b' ∷ rest)
    go (Err code) e ok to more = absurd (cc)
    go (Ok bytes) e ok to more = linked_next tracks c (length rest) b bytes h.0 e ∙ ap (λ (p : Place). with_block b (linked_blocks tracks c (length rest) p)) to ∙ ap (with_block b) more

-- ---- what cuts them off: a link that names no sector, or a block that doesn't read

cut_met : (tracks : ℕ) (c : Content) (starts : Place → Type 0) (p : Place) (code : ℕ) (f : Followed) (t : Trouble) → f ≡ cut_at code p → f.trouble ≡ Some t
    → IsReached tracks c starts p → ((code ≡ 66) × (has tracks p ≡ false)) ⊎ (Has tracks p × (c p ≡ Err code)) → IsMetFrom tracks c starts t
cut_met tracks c starts p code f t cut e r h =
    let z : Some (record { code = code; track = p.track; sector = p.sector }) ≡ Some t = sym (ap (λ (x : Followed). x.trouble) cut) ∙ e in
    let same : record { code = code; track = p.track; sector = p.sector } ≡ t = some_same z in
    subst (λ (x : Trouble). IsMetFrom tracks c starts x) same (r, h)
  where
    some_same : {x y : Trouble} → Some x ≡ Some y → x ≡ y
    some_same k = cc

met_on : (tracks : ℕ) (c : Content) (starts : Place → Type 0) (n : ℕ) (p : Place) (t : Trouble) → IsReached tracks c starts p → Has tracks p → (linked_blocks tracks c (suc n) p).trouble ≡ Some t
    → (cell : Cell) → c p ≡ cell → ((q : Place) → IsReached tracks c starts q → (linked_blocks tracks c n q).trouble ≡ Some t → IsMetFrom tracks c starts t) → IsMetFrom tracks c starts t
met_on tracks c starts n p t r h e (Ok bytes) z more =
    more (link bytes) (reached_on tracks c starts p (link bytes) bytes r h z refl) (sym (ap (λ (f : Followed). f.trouble) (linked_next tracks c n p bytes h z)) ∙ e)
met_on tracks c starts n p t r h e (Err code) z more = cut_met tracks c starts p code (linked_blocks tracks c (suc n) p) t (linked_fault tracks c n p code h z) e r (inr (h, z))

pub linked_met : (tracks : ℕ) (c : Content) (starts : Place → Type 0) (n : ℕ) (p : Place) (t : Trouble) → IsReached tracks c starts p → (linked_blocks tracks c n p).trouble ≡ Some t → IsMetFrom tracks c starts t
linked_met tracks c starts zero p t r e = elim (bool_cases (has tracks p)) [
  | inr off ↦ cut_met tracks c starts p 66 (linked_blocks tracks c 0 p) t (linked_off tracks c 0 p off) e r (inl (refl, off))
  | inl here ↦ absurd (let z = sym (ap (λ (f : Followed). f.trouble) (linked_last tracks c p (true_has tracks p here))) ∙ e in (cc))
]
linked_met tracks c starts (suc n) p t r e = elim (bool_cases (has tracks p)) [
  | inr off ↦ cut_met tracks c starts p 66 (linked_blocks tracks c (suc n) p) t (linked_off tracks c (suc n) p off) e r (inl (refl, off))
  | inl here ↦ met_on tracks c starts n p t r (true_has tracks p here) e (c p) refl (λ q m k. linked_met tracks c starts n q t m k)
]

-- ---- given back, one after another

pub given_then : (tracks : ℕ) (at : Place) (old r r' : List ℕ) (whole here next : Followed) → here ≡ with_block at next → IsGiven tracks r r' at
    → ((new : List ℕ) → Frees tracks r here.blocks new → Frees tracks old whole.blocks new) → (new : List ℕ) → Frees tracks r' next.blocks new → Frees tracks old whole.blocks new
given_then tracks at old r r' whole here next e m forth new f = forth new (subst (λ (y : Followed). Frees tracks r y.blocks new) (sym e) (r', m, f))

pub trouble_then : (at : Place) (whole here next : Followed) → here ≡ with_block at next → here.trouble ≡ whole.trouble → next.trouble ≡ whole.trouble
trouble_then at whole here next e t = sym (ap (λ (y : Followed). y.trouble) e) ∙ t

-- ---- all blocks of a writer

some_place : {x y : Place} → Some x ≡ Some y → x ≡ y
some_place k = cc

-- a writer's first block leads through all of them
wrote_linked : (c : Content) (s : State) (first : Place) (more : ℕ) (blocks : List Place) (bytes : List ℕ) → s.first ≡ Some first → more ≡ s.count - 1 → Wrote c s blocks bytes → length blocks ≤ 65535 → linked_blocks s.tracks c more first ≡ ended blocks
wrote_linked c s first more [] bytes e n w few = absurd (let z = sym e ∙ w.first in (cc))
wrote_linked c s first more (b ∷ rest) bytes e n w few =
    let at : first ≡ b = some_place (sym e ∙ w.first) in
    let number : more ≡ length rest = omega (arith, n, w.count) in
    (λ i. linked_blocks s.tracks c (number i) (at i)) ∙ part_linked s.tracks c b rest w.part

-- so nothing cuts them off
pub not_cut : (c : Content) (s : State) (first : Place) (more : ℕ) (t : Trouble) → s.first ≡ Some first → more ≡ s.count - 1 → (linked_blocks s.tracks c more first).trouble ≡ Some t
    → (blocks : List Place) (bytes : List ℕ) → Wrote c s blocks bytes → length blocks ≤ 65535 → ⊥
not_cut c s first more t e n cut blocks bytes w few = (let z = sym (ap (λ (f : Followed). f.trouble) (wrote_linked c s first more blocks bytes e n w few)) ∙ cut in (cc))

-- THE BLOCKS OF A WRITER ARE GIVEN BACK
pub all_given_back : (c c' : Content) (s : State) (first : Place) (more : ℕ) (map new : List ℕ) (r : Result (Unit {0}) Trouble) → s.first ≡ Some first → more ≡ s.count - 1 → c directory_head ≡ Ok map
    → Frees s.tracks map (linked_blocks s.tracks c more first).blocks new → OnOk r (c' ≡ written c directory_head new)
    → (blocks : List Place) (bytes : List ℕ) → Wrote c s blocks bytes → length blocks ≤ 65535 → OnOk r (IsGivenBack s.tracks c c' blocks)
all_given_back c c' s first more map new (Err t) e n head frees done blocks bytes w few = tt
all_given_back c c' s first more map new (Ok x) e n head frees done [] bytes w few = absurd (let z = sym e ∙ w.first in (cc))
all_given_back c c' s first more map new (Ok x) e n head frees done (b ∷ rest) bytes w few =
    let all : Frees s.tracks map (b ∷ rest) new = subst (λ (f : Followed). Frees s.tracks map f.blocks new) (wrote_linked c s first more (b ∷ rest) bytes e n w few) frees in
    (new, subst (λ (x : List ℕ). Frees s.tracks x (b ∷ rest) new) (sym (ap or_nothing head)) all, done)

-- ---- on any disk

-- the blocks that links lead to from this first one
abbrev GivesUpFrom : Content → Content → State → Option Place → Type 0
GivesUpFrom c c' s first = MatchOption first (c' ≡ c) (λ p. let linked = linked_blocks s.tracks c (s.count - 1) p in (linked.trouble ≡ None) × GivesBack s.tracks c c' linked.blocks)

pub none_given_up : (c : Content) (s : State) → s.first ≡ None → GivesUpLed c c s
none_given_up c s e = subst (GivesUpFrom c c s) (sym e) refl

pub led_given_up : (c c' : Content) (s : State) (first : Place) (more : ℕ) (map new : List ℕ) (r : Result (Unit {0}) Trouble) → s.first ≡ Some first → more ≡ s.count - 1 → c directory_head ≡ Ok map
    → (linked_blocks s.tracks c more first).trouble ≡ None → Frees s.tracks map (linked_blocks s.tracks c more first).blocks new → OnOk r (c' ≡ written c directory_head new) → OnOk r (GivesUpLed c c' s)
led_given_up c c' s first more map new (Err t) e n head whole frees done = tt
led_given_up c c' s first more map new (Ok x) e n head whole frees done =
    subst (GivesUpFrom c c' s) (sym e)
    (subst (λ (k : ℕ). let linked = linked_blocks s.tracks c k first in (linked.trouble ≡ None) × GivesBack s.tracks c c' linked.blocks) n (whole, (map, new, head, frees, done)))
