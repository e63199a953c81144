-- How what was read and given goes on: with a change, with an event, with the next moment.
use Rattle.std.proofs.Common.{◌≡◌, ℕ, ◌≤◌, ◌<◌, ◌⊎◌, inl, inr, List, [], ◌∷◌, ◌++◌, Bool, true, false, refl, sym, ◌∙◌, ap, subst, arith, nat_le, length, slice_index_or, remove, Result, Ok, Err, OnOk}
use Rattle.std.proofs.lemmas.Bool.{le-leb, lt-leb, leb-true, leb-false}
use Rattle.cbm_iec.specs.Changes.{lines_changed}
use Rattle.bus_wires.proofs.Moments.{where-true, where-false, after-more, changed-more, events-later, events-all, upto-more, upto-later, changes-later, changes-more, turn-more, last-later, wires-last, wires-later, wires-more}
use Rattle.bus_wires.specs.Cable.{Parties, parties_of, parties_at_rest, Shows, parties_after}
use Rattle.bus_wires.specs.Looks.{WiresStand, WiresStandAt, AreWiresSettled, IsSameLook, FirstAfter, NoneBefore, HaveWires, InTurn, all_after, no_line_low, changes_upto, all_changed, read_at, pulled_at, wires_at, last_look}
use Rattle.bus_wires.specs.declared.looks.Look.{Look}
use Rattle.bus_wires.specs.declared.wires.Wires.{Wires}
use Rattle.cbm_iec.specs.declared.event.Event.{Event}
use Rattle.cbm_iec.specs.declared.lines.Change.{Change}
use Rattle.cbm_iec.specs.declared.lines.Lines.{Lines}
use Rattle.cbm_iec.specs.declared.party.Party.{Party}

below-or-from : (m n : ℕ) → (m < n) ⊎ (n ≤ m)
below-or-from m n = go (nat_le n m) refl
  where
    go : (b : Bool) → nat_le n m ≡ b → (m < n) ⊎ (n ≤ m)
    go true e = inr (leb-true n m e)
    go false e = inl (leb-false n m e)

-- nothing was read
pub stands_at_rest : (bs : List Party) → WiresStandAt bs (parties_at_rest bs) 0 no_line_low [] [] []
stands_at_rest bs = record { parties = refl; given = tt; before = (λ m l. absurd (omega (arith, l))); ahead = (λ m l. refl); in_turn = tt }

-- the same in other words
pub stands_same : (bs : List Party) (p q : Parties) (m n : ℕ) (w v : Lines) (ks js : List Look) (cs : List Change) (es : List Event)
    → WiresStandAt bs p m w ks cs es → q ≡ p → n ≡ m → v ≡ w → js ≡ ks → WiresStandAt bs q n v js cs es
stands_same bs p q m n w v ks js cs es s a b c d =
    subst (λ (x : Parties). WiresStandAt bs x n v js cs es) (sym a)
    (subst (λ (x : ℕ). WiresStandAt bs p x v js cs es) (sym b)
    (subst (λ (x : Lines). WiresStandAt bs p m x js cs es) (sym c)
    (subst (λ (x : List Look). WiresStandAt bs p m w x cs es) (sym d) s)))

-- where it is done, both hold
pub both_done : {A E : Type 0} (r : Result A E) (P Q R : Type 0) → (P → Q → R) → OnOk r P → OnOk r Q → OnOk r R
both_done (Ok x) P Q R f p q = f p q
both_done (Err e) P Q R f p q = tt

-- what is read next
abbrev next_look : Look → List Look → Change → Look
next_look b ks c = record { moment = c.moment; wires = lines_changed c (last_look b ks).wires }

read-next : (m : ℕ) (b : Look) (ks : List Look) (cs : List Change) (c : Change) → InTurn b.moment ks → (last_look b ks).moment ≤ c.moment
    → read_at m cs ≡ wires_at m b.wires ks → (m < c.moment) ⊎ (c.moment ≤ m) → read_at m (cs ++ c ∷ []) ≡ wires_at m b.wires (ks ++ next_look b ks c ∷ [])
read-next m b ks cs c i l h (inl d) =
    ap (λ (xs : List Change). all_changed xs no_line_low) (changes-later m cs c d) ∙ (h ∙ sym (wires-later m b.wires ks (next_look b ks c) d))
read-next m b ks cs c i l h (inr d) =
    ap (λ (xs : List Change). all_changed xs no_line_low) (changes-more m cs c d)
    ∙ (changed-more (changes_upto m cs) c no_line_low
    ∙ (ap (λ (x : Lines). lines_changed c x) (h ∙ wires-last m b ks i (omega (arith, l, d)))
    ∙ sym (wires-more m b ks (next_look b ks c) i l d)))

-- one change more was read
pub stands_read : (bs : List Party) (p : Parties) (moment : ℕ) (w : Lines) (ks : List Look) (cs : List Change) (es : List Event) (c : Change)
    → WiresStandAt bs p moment w ks cs es → (last_look (record { moment = moment; wires = w }) ks).moment ≤ c.moment
    → WiresStandAt bs p moment w (ks ++ (record { moment = c.moment; wires = lines_changed c (last_look (record { moment = moment; wires = w }) ks).wires }) ∷ []) (cs ++ c ∷ []) es
stands_read bs p moment w ks cs es c s l =
    let b : Look = record { moment = moment; wires = w } in
    let k : Look = next_look b ks c in
    let first : moment ≤ (last_look b ks).moment = last-later b ks s.in_turn in
    record {
      parties = s.parties;
      given = s.given;
      before = (λ m n. subst (λ (x : Lines). Shows (pulled_at m bs es) x) (sym (ap (λ (xs : List Change). all_changed xs no_line_low) (changes-later m cs c (omega (arith, first, l, n))))) (s.before m n));
      ahead = (λ m n. read-next m b ks cs c s.in_turn l (s.ahead m n) (below-or-from m c.moment));
      in_turn = turn-more b ks k s.in_turn l;
    }

-- one event more was given
pub stands_given : (bs : List Party) (p : Parties) (moment : ℕ) (w : Lines) (ks : List Look) (cs : List Change) (es : List Event) (e : Event)
    → WiresStandAt bs p moment w ks cs es → e.change.moment ≡ moment → WiresStandAt bs (parties_after e p) moment w ks cs (es ++ e ∷ [])
stands_given bs p moment w ks cs es e s at = record {
  parties = ap (λ (x : Parties). parties_after e x) s.parties ∙ sym (after-more es e (parties_at_rest bs));
  given = upto-more moment es e s.given (omega (arith, at));
  before = (λ m n. subst (λ (xs : List Event). Shows (all_after xs (parties_at_rest bs)) (read_at m cs)) (sym (events-later m es e (omega (arith, at, n)))) (s.before m n));
  ahead = s.ahead;
  in_turn = s.in_turn;
}

-- the wires are shown from the present moment on, as long as no other is read
shown-from : (bs : List Party) (p : Parties) (moment m : ℕ) (w : Lines) (ks : List Look) (cs : List Change) (es : List Event)
    → WiresStandAt bs p moment w ks cs es → Shows p w → moment ≤ m → wires_at m w ks ≡ w → Shows (pulled_at m bs es) (read_at m cs)
shown-from bs p moment m w ks cs es s h l e =
    let now : pulled_at m bs es ≡ p = ap (λ (xs : List Event). all_after xs (parties_at_rest bs)) (events-all moment m es s.given l) ∙ sym s.parties in
    let read : read_at m cs ≡ w = s.ahead m l ∙ e in
    subst (λ (x : Lines). Shows (pulled_at m bs es) x) (sym read) (subst (λ (q : Parties). Shows q w) (sym now) h)

unread : (m : ℕ) (w : Lines) (ks : List Look) → FirstAfter m ks → wires_at m w ks ≡ w
unread m w [] f = refl
unread m w (k ∷ ks) f = where-false (nat_le k.moment m) (wires_at m k.wires ks) w (lt-leb k.moment m f)

first-before : (m n : ℕ) (ks : List Look) → m ≤ n → FirstAfter n ks → FirstAfter m ks
first-before m n [] l f = tt
first-before m n (k ∷ ks) l f = omega (arith, l, f)

still-before : (bs : List Party) (p : Parties) (moment next m : ℕ) (w : Lines) (ks : List Look) (cs : List Change) (es : List Event)
    → WiresStandAt bs p moment w ks cs es → Shows p w → FirstAfter m ks → (m < moment) ⊎ (moment ≤ m) → Shows (pulled_at m bs es) (read_at m cs)
still-before bs p moment next m w ks cs es s h f (inl l) = s.before m l
still-before bs p moment next m w ks cs es s h f (inr l) = shown-from bs p moment m w ks cs es s h l (unread m w ks f)

in-turn-from : (m n : ℕ) (ks : List Look) → InTurn m ks → FirstAfter n ks → InTurn n ks
in-turn-from m n [] i f = tt
in-turn-from m n (k ∷ ks) i f = (omega (arith, f), i.1)

-- a moment begins at which no wire changes
pub stands_due : (bs : List Party) (p : Parties) (moment due : ℕ) (w : Lines) (ks : List Look) (cs : List Change) (es : List Event)
    → WiresStandAt bs p moment w ks cs es → Shows p w → moment < due → FirstAfter due ks → WiresStandAt bs p due w ks cs es
stands_due bs p moment due w ks cs es s h l f = record {
  parties = s.parties;
  given = upto-later moment due es (omega (arith, l)) s.given;
  before = (λ m n. still-before bs p moment due m w ks cs es s h (first-before m due ks (omega (arith, n)) f) (below-or-from m moment));
  ahead = (λ m n. s.ahead m (omega (arith, l, n)));
  in_turn = in-turn-from moment due ks s.in_turn f;
}

taken-before : (bs : List Party) (p : Parties) (moment m : ℕ) (w : Lines) (k : Look) (ks : List Look) (cs : List Change) (es : List Event)
    → WiresStandAt bs p moment w (k ∷ ks) cs es → (moment < k.moment → Shows p w) → m < k.moment → (m < moment) ⊎ (moment ≤ m) → Shows (pulled_at m bs es) (read_at m cs)
taken-before bs p moment m w k ks cs es s h n (inl l) = s.before m l
taken-before bs p moment m w k ks cs es s h n (inr l) = shown-from bs p moment m w (k ∷ ks) cs es s (h (omega (arith, n, l))) l (unread m w (k ∷ ks) n)

-- the first moment that is ahead begins; where it isn't the present one, the wires are shown so far
pub stands_taken : (bs : List Party) (p : Parties) (moment : ℕ) (w : Lines) (k : Look) (ks : List Look) (cs : List Change) (es : List Event)
    → WiresStandAt bs p moment w (k ∷ ks) cs es → (moment < k.moment → Shows p w) → WiresStandAt bs p k.moment k.wires ks cs es
stands_taken bs p moment w k ks cs es s h =
    let first : moment ≤ k.moment = s.in_turn.0 in
    record {
      parties = s.parties;
      given = upto-later moment k.moment es first s.given;
      before = (λ m n. taken-before bs p moment m w k ks cs es s h n (below-or-from m moment));
      ahead = (λ m n. s.ahead m (omega (arith, first, n)) ∙ where-true (nat_le k.moment m) (wires_at m k.wires ks) w (le-leb k.moment m n));
      in_turn = s.in_turn.1;
    }

-- the same of a list that isn't empty
pub stands_first : (bs : List Party) (p : Parties) (moment : ℕ) (w : Lines) (ks : List Look) (d : Look) (cs : List Change) (es : List Event)
    → 1 ≤ length ks → WiresStandAt bs p moment w ks cs es → (FirstAfter moment ks → Shows p w)
    → WiresStandAt bs p (slice_index_or ks 0 d).moment (slice_index_or ks 0 d).wires (remove ks 0) cs es
stands_first bs p moment w [] d cs es l s h = absurd (omega (arith, l))
stands_first bs p moment w (k ∷ ks) d cs es l s h = stands_taken bs p moment w k ks cs es s h

pub none_after : (m n : ℕ) (ks : List Look) → m < n → NoneBefore n ks → FirstAfter m ks
none_after m n [] l h = tt
none_after m n (k ∷ ks) l h = omega (arith, l, h)

-- where nothing is ahead the events have the wires that were read
pub have_wires : (bs : List Party) (p : Parties) (moment : ℕ) (w : Lines) (ks : List Look) (cs : List Change) (es : List Event)
    → WiresStandAt bs p moment w ks cs es → Shows p w → ks ≡ [] → HaveWires bs es cs
have_wires bs p moment w ks cs es s h e = λ m. still-before bs p moment moment m w ks cs es s h (subst (λ (xs : List Look). FirstAfter m xs) (sym e) tt) (below-or-from m moment)

-- the same by the whole states
pub stands_alike : (bs : List Party) (v w : Wires) (cs : List Change) (es : List Event) → WiresStand bs w cs es → parties_of v.hands ≡ parties_of w.hands → IsSameLook v w → WiresStand bs v cs es
stands_alike bs v w cs es s p a = stands_same bs (parties_of w.hands) (parties_of v.hands) w.moment v.moment w.wires v.wires w.ahead.items v.ahead.items cs es s p a.0 a.1 a.2

pub stands_with : (bs : List Party) (v w : Wires) (cs : List Change) (es : List Event) (e : Event) → WiresStand bs w cs es → e.change.moment ≡ w.moment
    → parties_of v.hands ≡ parties_after e (parties_of w.hands) → IsSameLook v w → WiresStand bs v cs (es ++ e ∷ [])
stands_with bs v w cs es e s m p a =
    stands_same bs (parties_after e (parties_of w.hands)) (parties_of v.hands) w.moment v.moment w.wires v.wires w.ahead.items v.ahead.items cs (es ++ e ∷ [])
    (stands_given bs (parties_of w.hands) w.moment w.wires w.ahead.items cs es e s m) p a.0 a.1 a.2

pub all_given : (bs : List Party) (w : Wires) (cs : List Change) (es : List Event) → WiresStand bs w cs es → AreWiresSettled w → w.ahead.items ≡ [] → HaveWires bs es cs
all_given bs w cs es s h e =
    have_wires bs (parties_of w.hands) w.moment w.wires w.ahead.items cs es s (h (subst (λ (xs : List Look). FirstAfter w.moment xs) (sym e) tt)) e
