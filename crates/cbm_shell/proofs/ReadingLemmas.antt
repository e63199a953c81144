-- A chain that is read byte by byte.
use Rattle.std.proofs.Common.{◌≡◌, ℕ, ◌+◌, ◌<◌, ◌≤◌, List, [], ◌∷◌, ◌++◌, length, drop, Bool, Option, Some, None, refl, ap, sym, ◌∙◌, arith, append_assoc, append-nil, add-one}
use Rattle.cbm_file.specs.Waiting.{next_shown}
use Rattle.cbm_medium.specs.Content.{Content}
use Rattle.cbm_medium.specs.declared.fault.Trouble.{Trouble}
use Rattle.cbm_medium.proofs.Walks.{follow_end}
use Rattle.cbm_chain.specs.Reading.{RestOfFile, Reading, held_from, held_in, rest_of, with_front, one_less, IsSettled}

abbrev byte_in : Option (ℕ × Bool) → ℕ
byte_in None = 0
byte_in (Some p) = p.0

-- a byte that waits is the first of what is left
pub first_left : (c : Content) (r : Reading) (b : ℕ) (last : Bool) → next_shown r.bytes ≡ Some (b, last) → (rest_of c r).bytes ≡ b ∷ drop 1 (rest_of c r).bytes
unfolding rest_of
first_left c r b last e = by_bytes r.bytes e (held_from r.tracks c r.left r.next).bytes
  where
    by_bytes : (bytes : List ℕ) → next_shown bytes ≡ Some (b, last) → (more : List ℕ) → bytes ++ more ≡ b ∷ drop 1 (bytes ++ more)
    by_bytes [] h more = absurd (cc)
    by_bytes (x ∷ []) h more = let same : x ≡ b = ap byte_in h in ap (λ y. y ∷ more) same
    by_bytes (x ∷ y ∷ rest) h more = let same : x ≡ b = ap byte_in h in ap (λ z. z ∷ y ∷ rest ++ more) same

pub one_fewer : (c : Content) (old new : Reading) (b : ℕ) (last : Bool) → next_shown old.bytes ≡ Some (b, last) → rest_of c new ≡ one_less (rest_of c old)
    → length (rest_of c new).bytes < length (rest_of c old).bytes
one_fewer c old new b last e h =
    let first : length (rest_of c old).bytes ≡ length (drop 1 (rest_of c old).bytes) + 1 = ap (λ (t : List ℕ). length t) (first_left c old b last e) ∙ sym (add-one (length (drop 1 (rest_of c old).bytes))) in
    let less : length (rest_of c new).bytes ≡ length (drop 1 (rest_of c old).bytes) = ap (λ (r : RestOfFile). length r.bytes) h in
    omega (arith, first, less)

-- a byte goes from what is left to what was read
pub read_more : (c : Content) (whole : RestOfFile) (out items : List ℕ) (old new : Reading) (b : ℕ) (last : Bool) → whole ≡ with_front out (rest_of c old)
    → next_shown old.bytes ≡ Some (b, last) → items ≡ out ++ b ∷ [] → rest_of c new ≡ one_less (rest_of c old) → whole ≡ with_front items (rest_of c new)
read_more c whole out items old new b last w e i h =
    w ∙ (ap (λ t. let r : RestOfFile = record { bytes = out ++ t; trouble = (rest_of c old).trouble } in r) (first_left c old b last e)
    ∙ (ap (λ t. let r : RestOfFile = record { bytes = t; trouble = (rest_of c old).trouble } in r) (sym (append_assoc out (b ∷ []) (drop 1 (rest_of c old).bytes)))
    ∙ (ap (λ t. let r : RestOfFile = record { bytes = t ++ drop 1 (rest_of c old).bytes; trouble = (rest_of c old).trouble } in r) (sym i)
    ∙ ap (λ r. with_front items r) (sym h))))

-- nothing waits: all was read
pub read_all : (c : Content) (whole : RestOfFile) (out : List ℕ) (r : Reading) → whole ≡ with_front out (rest_of c r) → IsSettled r → next_shown r.bytes ≡ None
    → whole ≡ record { bytes = out; trouble = None }
unfolding rest_of held_from
read_all c whole out r w settled e =
    let none : r.bytes ≡ [] = no_bytes r.bytes e in
    let short : length r.bytes ≤ 1 = rw none (omega arith) in
    let over = follow_end r.tracks c r.left r.next (settled short) in
    w ∙ (ap (λ f. with_front out (with_front r.bytes (held_in c f))) over
    ∙ (ap (λ t. let q : RestOfFile = record { bytes = out ++ (t ++ []); trouble = None } in q) none
    ∙ ap (λ t. let q : RestOfFile = record { bytes = t; trouble = None } in q) (append-nil out)))
  where
    no_bytes : (bytes : List ℕ) → next_shown bytes ≡ None → bytes ≡ []
    no_bytes [] h = refl
    no_bytes (x ∷ []) h = absurd (cc)
    no_bytes (x ∷ y ∷ rest) h = absurd (cc)

-- the trouble that is met is the whole chain's
pub met_trouble : (whole rest : RestOfFile) (out : List ℕ) (t : Trouble) → whole ≡ with_front out rest → rest.trouble ≡ Some t → whole.trouble ≡ Some t
met_trouble whole rest out t w e = ap (λ (r : RestOfFile). r.trouble) w ∙ e

-- what a whole chain gave
pub these_bytes : (whole : RestOfFile) (out bytes : List ℕ) → whole ≡ record { bytes = out; trouble = None } → whole ≡ record { bytes = bytes; trouble = None } → out ≡ bytes
these_bytes whole out bytes a b = ap (λ (r : RestOfFile). r.bytes) (sym a ∙ b)

-- a whole chain meets no trouble
pub never_met : (whole rest : RestOfFile) (out bytes : List ℕ) (t : Trouble) → whole ≡ with_front out rest → rest.trouble ≡ Some t → whole ≡ record { bytes = bytes; trouble = None } → ⊥
never_met whole rest out bytes t w e h =
    let bad : ◌≡◌ {A = Option Trouble} None (Some t) = sym (ap (λ (r : RestOfFile). r.trouble) h) ∙ met_trouble whole rest out t w e in cc
