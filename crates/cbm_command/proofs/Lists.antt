-- The names of a list, one at a time.
use Rattle.std.proofs.Common.{◌≡◌, ℕ, true, false, List, [], ◌∷◌, ◌++◌, refl, ap, sym, ◌∙◌, append_assoc, Result, Ok, Err}
use Rattle.cbm_command.specs.declared.refusal.Refusal.{Refusal}
use Rattle.cbm_command.specs.Texts.{comma, before_byte, after_byte, holds_byte, parts_at}
use Rattle.cbm_command.specs.Names.{name_of}
use Rattle.cbm_command.specs.Refusals.{◌>>=◌}
use Rattle.cbm_command.specs.Commands.{later_name, later_names, names_in, names_and}
use Rattle.cbm_command.proofs.Parts.{more_parts, parts_at-cut}

-- a name and those after it, by the text
cut : (ns : List (List ℕ)) (text : List ℕ) →
    names_and ns (later_names (parts_at comma text)) ≡ names_and ns (later_names (before_byte comma text ∷ more_parts comma text))
cut ns text = ap (λ ps. names_and ns (later_names ps)) (parts_at-cut comma text)

-- one name more stands before the rest
one_more : (ns : List (List ℕ)) (n : List ℕ) (rest : Result (List (List ℕ)) Refusal) →
    names_and ns (rest >>= λ ms. Ok (n ∷ ms)) ≡ names_and (ns ++ n ∷ []) rest
one_more ns n (Ok ms) = ap Ok (sym (append_assoc ns (n ∷ []) ms))
one_more ns n (Err e) = refl

-- a name that is refused
pub names_refused : (ns : List (List ℕ)) (text : List ℕ) (e : Refusal) → later_name (before_byte comma text) ≡ Err e →
    names_and ns (later_names (parts_at comma text)) ≡ Err e
names_refused ns text e h = cut ns text ∙ rw h

-- a name after which others stand
pub names_more : (ns : List (List ℕ)) (text : List ℕ) (n : List ℕ) → later_name (before_byte comma text) ≡ Ok n → holds_byte comma text ≡ true →
    names_and ns (later_names (parts_at comma text)) ≡ names_and (ns ++ n ∷ []) (later_names (parts_at comma (after_byte comma text)))
names_more ns text n h more = cut ns text ∙ rw (h, more) (one_more ns n (later_names (parts_at comma (after_byte comma text))))

-- the last name
pub names_end : (ns : List (List ℕ)) (text : List ℕ) (n : List ℕ) → later_name (before_byte comma text) ≡ Ok n → holds_byte comma text ≡ false →
    names_and ns (later_names (parts_at comma text)) ≡ Ok (ns ++ n ∷ [])
names_end ns text n h more = cut ns text ∙ rw (h, more)

-- the first name, and later ones
pub first_more : (text : List ℕ) → holds_byte comma text ≡ true →
    names_in (parts_at comma text) ≡ names_and (name_of (before_byte comma text) ∷ []) (later_names (parts_at comma (after_byte comma text)))
first_more text more = ap names_in (parts_at-cut comma text) ∙ rw more

-- the first name alone
pub first_end : (text : List ℕ) → holds_byte comma text ≡ false → names_in (parts_at comma text) ≡ Ok (name_of (before_byte comma text) ∷ [])
first_end text more = ap names_in (parts_at-cut comma text) ∙ rw more
