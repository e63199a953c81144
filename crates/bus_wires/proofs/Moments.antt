-- Lists of events, of changes and of looks, up to a moment.
use Rattle.std.proofs.Common.{◌≡◌, ℕ, ◌≤◌, ◌<◌, List, [], ◌∷◌, ◌++◌, Bool, true, false, refl, ◌∙◌, ap, arith, if◌then◌else◌, nat_le}
use Rattle.std.proofs.lemmas.Bool.{le-leb, lt-leb}
use Rattle.cbm_iec.specs.Changes.{lines_changed}
use Rattle.bus_wires.specs.Cable.{Parties, parties_after}
use Rattle.bus_wires.specs.Looks.{all_changed, all_after, changes_upto, events_upto, wires_at, InTurn, AllUpto, last_look}
use Rattle.bus_wires.specs.declared.looks.Look.{Look}
use Rattle.cbm_iec.specs.declared.event.Event.{Event}
use Rattle.cbm_iec.specs.declared.lines.Change.{Change}
use Rattle.cbm_iec.specs.declared.lines.Lines.{Lines}

-- a choice by a test that is known
pub where-true : (b : Bool) {A : Type 0} (x y : A) → b ≡ true → (if b then x else y) ≡ x
where-true true x y e = refl
where-true false x y e = absurd cc

pub where-false : (b : Bool) {A : Type 0} (x y : A) → b ≡ false → (if b then x else y) ≡ y
where-false true x y e = absurd cc
where-false false x y e = refl

either : (b : Bool) {A : Type 0} (x z y : A) → x ≡ z → (if b then x else y) ≡ (if b then z else y)
either true x z y e = e
either false x z y e = refl

-- one event more
pub after-more : (es : List Event) (e : Event) (p : Parties) → all_after (es ++ e ∷ []) p ≡ parties_after e (all_after es p)
after-more [] e p = refl
after-more (x ∷ es) e p = after-more es e (parties_after x p)

pub changed-more : (cs : List Change) (c : Change) (l : Lines) → all_changed (cs ++ c ∷ []) l ≡ lines_changed c (all_changed cs l)
changed-more [] c l = refl
changed-more (x ∷ cs) c l = changed-more cs c (lines_changed x l)

-- an event that comes later
pub events-later : (m : ℕ) (es : List Event) (e : Event) → m < e.change.moment → events_upto m (es ++ e ∷ []) ≡ events_upto m es
events-later m [] e l = where-false (nat_le e.change.moment m) (e ∷ []) [] (lt-leb e.change.moment m l)
events-later m (x ∷ es) e l = go (nat_le x.change.moment m) (events-later m es e l)
  where
    go : (b : Bool) → events_upto m (es ++ e ∷ []) ≡ events_upto m es
        → (if b then x ∷ events_upto m (es ++ e ∷ []) else events_upto m (es ++ e ∷ [])) ≡ (if b then x ∷ events_upto m es else events_upto m es)
    go true h = ap (λ (ys : List Event). x ∷ ys) h
    go false h = h

-- all of them
pub events-all : (n m : ℕ) (es : List Event) → AllUpto n es → n ≤ m → events_upto m es ≡ es
events-all n m [] a l = refl
events-all n m (x ∷ es) a l =
    where-true (nat_le x.change.moment m) (x ∷ events_upto m es) (events_upto m es) (le-leb x.change.moment m (let k = a.0 in omega (arith, k, l)))
    ∙ ap (λ (ys : List Event). x ∷ ys) (events-all n m es a.1 l)

pub upto-more : (m : ℕ) (es : List Event) (e : Event) → AllUpto m es → e.change.moment ≤ m → AllUpto m (es ++ e ∷ [])
upto-more m [] e a l = (l, tt)
upto-more m (x ∷ es) e a l = (a.0, upto-more m es e a.1 l)

pub upto-later : (m n : ℕ) (es : List Event) → m ≤ n → AllUpto m es → AllUpto n es
upto-later m n [] l a = tt
upto-later m n (x ∷ es) l a = (let k = a.0 in omega (arith, k, l), upto-later m n es l a.1)

-- a change that comes later, and one that doesn't
pub changes-later : (m : ℕ) (cs : List Change) (c : Change) → m < c.moment → changes_upto m (cs ++ c ∷ []) ≡ changes_upto m cs
changes-later m [] c l = where-false (nat_le c.moment m) (c ∷ []) [] (lt-leb c.moment m l)
changes-later m (x ∷ cs) c l = go (nat_le x.moment m) (changes-later m cs c l)
  where
    go : (b : Bool) → changes_upto m (cs ++ c ∷ []) ≡ changes_upto m cs
        → (if b then x ∷ changes_upto m (cs ++ c ∷ []) else changes_upto m (cs ++ c ∷ [])) ≡ (if b then x ∷ changes_upto m cs else changes_upto m cs)
    go true h = ap (λ (ys : List Change). x ∷ ys) h
    go false h = h

pub changes-more : (m : ℕ) (cs : List Change) (c : Change) → c.moment ≤ m → changes_upto m (cs ++ c ∷ []) ≡ changes_upto m cs ++ c ∷ []
changes-more m [] c l = where-true (nat_le c.moment m) (c ∷ []) [] (le-leb c.moment m l)
changes-more m (x ∷ cs) c l = go (nat_le x.moment m) (changes-more m cs c l)
  where
    go : (b : Bool) → changes_upto m (cs ++ c ∷ []) ≡ changes_upto m cs ++ c ∷ []
        → (if b then x ∷ changes_upto m (cs ++ c ∷ []) else changes_upto m (cs ++ c ∷ [])) ≡ (if b then x ∷ changes_upto m cs else changes_upto m cs) ++ c ∷ []
    go true h = ap (λ (ys : List Change). x ∷ ys) h
    go false h = h

-- looks in turn: the last is the latest
pub last-later : (b : Look) (ks : List Look) → InTurn b.moment ks → b.moment ≤ (last_look b ks).moment
last-later b [] i = omega arith
last-later b (k ∷ ks) i = let h = last-later k ks i.1 in let l = i.0 in omega (arith, h, l)

pub turn-more : (b : Look) (ks : List Look) (k : Look) → InTurn b.moment ks → (last_look b ks).moment ≤ k.moment → InTurn b.moment (ks ++ k ∷ [])
turn-more b [] k i l = (l, tt)
turn-more b (j ∷ ks) k i l = (i.0, turn-more j ks k i.1 l)

-- the wires where all that is ahead has come, and one look more
pub wires-last : (m : ℕ) (b : Look) (ks : List Look) → InTurn b.moment ks → (last_look b ks).moment ≤ m → wires_at m b.wires ks ≡ (last_look b ks).wires
wires-last m b [] i l = refl
wires-last m b (k ∷ ks) i l =
    let h = last-later k ks i.1 in
    where-true (nat_le k.moment m) (wires_at m k.wires ks) b.wires (le-leb k.moment m (omega (arith, h, l))) ∙ wires-last m k ks i.1 l

pub wires-later : (m : ℕ) (w : Lines) (ks : List Look) (k : Look) → m < k.moment → wires_at m w (ks ++ k ∷ []) ≡ wires_at m w ks
wires-later m w [] k l = where-false (nat_le k.moment m) k.wires w (lt-leb k.moment m l)
wires-later m w (j ∷ ks) k l = either (nat_le j.moment m) (wires_at m j.wires (ks ++ k ∷ [])) (wires_at m j.wires ks) w (wires-later m j.wires ks k l)

pub wires-more : (m : ℕ) (b : Look) (ks : List Look) (k : Look) → InTurn b.moment ks → (last_look b ks).moment ≤ k.moment → k.moment ≤ m → wires_at m b.wires (ks ++ k ∷ []) ≡ k.wires
wires-more m b [] k i l n = where-true (nat_le k.moment m) k.wires b.wires (le-leb k.moment m n)
wires-more m b (j ∷ ks) k i l n =
    let h = last-later j ks i.1 in
    where-true (nat_le j.moment m) (wires_at m j.wires (ks ++ k ∷ [])) b.wires (le-leb j.moment m (omega (arith, h, l, n))) ∙ wires-more m j ks k i.1 l n
