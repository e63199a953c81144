-- What a drive hears is a function of the wires.
use Rattle.std.proofs.Common.{◌≡◌, ℕ, Bool, true, false, List, ◌∷◌, Option, Some, None, ap, sym, ◌∙◌, subst}
use Rattle.std.specs.Prelude.{if◌then◌else◌}
use Rattle.cbm_iec.specs.declared.machine.Act.{Act}
use Rattle.cbm_iec.specs.declared.event.Event.{Event}
use Rattle.cbm_session.specs.Among.{wires_of}
use Rattle.cbm_session.specs.Handed.{Hearer, ear_time, hears, moves, atn_act, ear_act, rest_afterwards, comes_next, IsNothingDue, with_act, is_answer, heard_of, Hands, ends, tells, reacts, answers}

-- an answer isn't heard
answer_unheard : (act : Act) (rest : List Act) → is_answer act ≡ true → heard_of (act ∷ rest) ≡ heard_of rest
answer_unheard act rest e = ap (λ (v : Bool). if v then heard_of rest else act ∷ heard_of rest) e

-- nor does what is heard with an act change by what comes after it
with_heard : (o : Option Act) (xs ys : List Act) → heard_of xs ≡ heard_of ys → heard_of (with_act o xs) ≡ heard_of (with_act o ys)
with_heard None xs ys e = e
with_heard (Some act) xs ys e = ap (λ (l : List Act). if is_answer act then l else act ∷ l) e

-- what is quiet doesn't come next
quiet_not_next : (later : List ℕ) (end t : ℕ) (o : Option ℕ) (es : List Event) → o ≡ Some t → IsNothingDue later end o es → comes_next later end t es ≡ true → ⊥
quiet_not_next later end t o es e q n = cut (subst (λ (x : Option ℕ). IsNothingDue later end x es) e q) n
  where
    cut : comes_next later end t es ≡ false → comes_next later end t es ≡ true → ⊥
    cut a b = let c : false ≡ true = sym a ∙ b in absurd cc

pub hears_one : (later : List ℕ) (end : ℕ) (h : Hearer) (es : List Event) (xs ys : List Act) → Hands later end h es xs → Hands later end h es ys → heard_of xs ≡ heard_of ys
hears_one later end h es xs ys (answers act rest n a e f) g = ap heard_of e ∙ answer_unheard act rest a ∙ hears_one later end h es rest ys f g
hears_one later end h es xs ys (ends e a q) (answers act rest n b c f) = hears_one later end h es xs rest (ends e a q) f ∙ sym (answer_unheard act rest b) ∙ ap heard_of (sym c)
hears_one later end h es xs ys (tells x more l e q a f) (answers act rest n b c g) = hears_one later end h es xs rest (tells x more l e q a f) g ∙ sym (answer_unheard act rest b) ∙ ap heard_of (sym c)
hears_one later end h es xs ys (reacts t l e n a f) (answers act rest m b c g) = hears_one later end h es xs rest (reacts t l e n a f) g ∙ sym (answer_unheard act rest b) ∙ ap heard_of (sym c)
hears_one later end h es xs ys (ends e a q) (ends e2 a2 q2) = ap heard_of (a ∙ sym a2)
hears_one later end h es xs ys (ends e a q) (tells x more l e2 q2 a2 f) = absurd cc
hears_one later end h es xs ys (ends e a q) (reacts t l e2 n a2 f) = absurd (quiet_not_next later end t (ear_time h.ear) es e2 q n)
hears_one later end h es xs ys (tells x more l e q a f) (ends e2 a2 q2) = absurd cc
hears_one later end h es xs ys (tells x more l e q a f) (tells x2 more2 l2 e2 q2 a2 f2) =
    let ex : x2 ≡ x = cc in
    let em : more2 ≡ more = cc in
    let o = λ (y : Event). atn_act (wires_of h.rest) (wires_of (rest_afterwards y.who y.change.line y.change.way h.rest)) in
    let g = subst (λ (y : Event). Hands later end (hears y.change.moment (rest_afterwards y.who y.change.line y.change.way h.rest) h) more l2) ex (subst (λ (z : List Event). Hands later end (hears x2.change.moment (rest_afterwards x2.who x2.change.line x2.change.way h.rest) h) z l2) em f2) in
    ap heard_of a
    ∙ with_heard (o x) l l2 (hears_one later end (hears x.change.moment (rest_afterwards x.who x.change.line x.change.way h.rest) h) more l l2 f g)
    ∙ ap (λ (y : Event). heard_of (with_act (o y) l2)) (sym ex)
    ∙ ap heard_of (sym a2)
hears_one later end h es xs ys (tells x more l e q a f) (reacts t l2 e2 n a2 f2) = absurd (quiet_not_next later end t (ear_time h.ear) es e2 q n)
hears_one later end h es xs ys (reacts t l e n a f) (ends e2 a2 q2) = absurd (quiet_not_next later end t (ear_time h.ear) es e q2 n)
hears_one later end h es xs ys (reacts t l e n a f) (tells x2 more2 l2 e2 q2 a2 f2) = absurd (quiet_not_next later end t (ear_time h.ear) es e q2 n)
hears_one later end h es xs ys (reacts t l e n a f) (reacts t2 l2 e2 n2 a2 f2) =
    let et : t2 ≡ t = cc in
    ap heard_of a
    ∙ with_heard (ear_act h.party.pace (wires_of h.rest) h.ear) l l2 (hears_one later end (moves t h) es l l2 f (subst (λ (u : ℕ). Hands later end (moves u h) es l2) et f2))
    ∙ ap heard_of (sym a2)
