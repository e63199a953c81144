-- The parts of a text.
use Rattle.std.proofs.Common.{◌≡◌, ℕ, ◌<◌, ◌≤◌, Bool, true, false, List, [], ◌∷◌, length, refl, ap, sym, ◌∙◌, arith, cond, eqb, if◌then◌else◌, ◌||◌, ◌⊎◌, inl, inr}
use Rattle.std.proofs.lemmas.Bool.Decides.{eqb_tells}
use Rattle.std.specs.Prelude.{slice_index_or}
use Rattle.cbm_command.specs.Texts.{comma, before_byte, after_byte, holds_byte, add_to_first, parts_at}
use Rattle.cbm_command.specs.Openings.{first_byte}

-- a test is true or false
pub bool_cases : (b : Bool) → (b ≡ true) ⊎ (b ≡ false)
bool_cases true = inl refl
bool_cases false = inr refl

-- of two tests that are both false, the first isn't true
no_or : (a b : Bool) → a ≡ true → (a || b) ≡ false → ⊥
no_or true b e h = cc
no_or false b e h = cc

-- both are false
pub left_false : (a b : Bool) → (a || b) ≡ false → a ≡ false
left_false true b h = cc
left_false false b h = refl

pub right_false : (a b : Bool) → (a || b) ≡ false → b ≡ false
right_false true b h = cc
right_false false b h = h

-- what follows a byte is shorter than the text
pub after_short : (c : ℕ) (text : List ℕ) → length (after_byte c text) ≤ length text
after_short c [] = omega arith
after_short c (x ∷ text) = let rest = after_short c text in
    elim (eqb x c) as (λ b. length (cond b text (after_byte c text)) ≤ length (x ∷ text)) [ true ↦ omega arith | false ↦ omega arith ]

pub after_shorter : (c : ℕ) (text : List ℕ) → holds_byte c text ≡ true → length (after_byte c text) < length text
after_shorter c [] h = cc
after_shorter c (x ∷ text) h = let rest = after_short c text in
    elim (eqb x c) as (λ b. length (cond b text (after_byte c text)) < length (x ∷ text)) [ true ↦ omega arith | false ↦ omega arith ]

-- what isn't there has nothing after it
pub afterwards-none : (c : ℕ) (text : List ℕ) → holds_byte c text ≡ false → after_byte c text ≡ []
afterwards-none c [] h = refl
afterwards-none c (x ∷ text) h = elim (eqb_tells x c) [
  | inl e ↦ absurd (no_or (eqb x c) (holds_byte c text) e.0 h)
  | inr e ↦ (rw e.0 (afterwards-none c text (right_false (eqb x c) (holds_byte c text) h)))
]

-- the parts after the first
abbrev pub more_parts : ℕ → List ℕ → List (List ℕ)
more_parts c text = if holds_byte c text then parts_at c (after_byte c text) else []

-- the first part is what stands before the first such byte
pub parts_at-cut : (c : ℕ) (text : List ℕ) → parts_at c text ≡ before_byte c text ∷ more_parts c text
parts_at-cut c [] = refl
parts_at-cut c (x ∷ text) = let rest = ap (add_to_first x) (parts_at-cut c text) in
    elim (eqb x c) as (λ b. (if b then [] ∷ parts_at c text else add_to_first x (parts_at c text))
    ≡ (if b then [] else x ∷ before_byte c text) ∷ (if b || holds_byte c text then parts_at c (if b then text else after_byte c text) else []))
    [ true ↦ refl | false ↦ rest ]

-- the first byte of parts that have one
first_byte-add : (x : ℕ) (ps : List (List ℕ)) → first_byte (add_to_first x ps) ≡ x
first_byte-add x [] = refl
first_byte-add x (p ∷ ps) = refl

-- a separator, and then what has a first part
first_byte-separator : (ps : List (List ℕ)) (p : List ℕ) (qs : List (List ℕ)) → ps ≡ p ∷ qs → first_byte ([] ∷ ps) ≡ comma
first_byte-separator ps p qs e = rw e

-- the first byte of a text, by its parts
pub first_byte-parts_at : (text : List ℕ) → first_byte (parts_at comma text) ≡ slice_index_or text 0 0
first_byte-parts_at [] = refl
first_byte-parts_at (x ∷ text) =
    let here = first_byte-separator (parts_at comma text) _ _ (parts_at-cut comma text) in
    let there = first_byte-add x (parts_at comma text) in
    elim (eqb_tells x comma) [ inl h ↦ (rw h.0 (here ∙ sym h.1)) | inr h ↦ (rw h.0 there) ]

-- the first byte after the first separator
pub first_byte-more_parts : (text : List ℕ) → first_byte (more_parts comma text) ≡ slice_index_or (after_byte comma text) 0 0
first_byte-more_parts text = elim (bool_cases (holds_byte comma text)) [
  | inl h ↦ (rw h (first_byte-parts_at (after_byte comma text)))
  | inr h ↦ (rw (h, afterwards-none comma text h))
]
