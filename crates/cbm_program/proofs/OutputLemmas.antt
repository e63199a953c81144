-- Text that was written piece by piece.
use Rattle.std.proofs.Common.{◌≡◌, ℕ, List, [], ◌++◌, take, drop, Option, ap, sym, ◌∙◌, append_assoc, append-nil, take-append-drop}
use Rattle.std.specs.Io.KnownBytes.{Appends, Keeps}
use Rattle.bus_traces.proofs.Appending.{appends-nothing, appends-more, appends-kept}
use Rattle.cbm_program.specs.Output.{AppendsPart, AppendsMore}

-- what only grows
pub grows_none : (o : Option (List ℕ)) → AppendsMore o o
grows_none o = ([], appends-nothing o)

pub grows_on : (a b c : Option (List ℕ)) → AppendsMore a b → AppendsMore b c → AppendsMore a c
grows_on a b c (xs, h) (ys, k) = (xs ++ ys, appends-more a b c xs ys h k)

pub part_after : (a b c : Option (List ℕ)) (xs ys : List ℕ) → Appends a b xs → AppendsPart b c ys → AppendsPart a c (xs ++ ys)
part_after a b c xs ys h (part, rest, k, e) =
    (xs ++ part, rest, appends-more a b c xs part h k, ap (λ t. xs ++ t) e ∙ sym (append_assoc xs part rest))

pub part_before : (a b : Option (List ℕ)) (xs ys : List ℕ) → AppendsPart a b xs → AppendsPart a b (xs ++ ys)
part_before a b xs ys (part, rest, k, e) = (part, rest ++ ys, k, ap (λ t. t ++ ys) e ∙ append_assoc part rest ys)

pub whole_part : (a b : Option (List ℕ)) (xs : List ℕ) → Appends a b xs → AppendsPart a b xs
whole_part a b xs h = (xs, [], h, sym (append-nil xs))

pub grows_kept : (a b c : Option (List ℕ)) → AppendsMore a b → Keeps b c → AppendsMore a c
grows_kept a b c (xs, h) k = (xs, appends-kept a b c xs h k)

-- a write that took some of what is left
pub written_on : (a b c : Option (List ℕ)) (bytes rest others : List ℕ) (n : ℕ) → ((part : List ℕ) × Appends a b part × (bytes ≡ part ++ rest))
    → Appends b c (take n rest) → others ≡ drop n rest → (part : List ℕ) × Appends a c part × (bytes ≡ part ++ others)
written_on a b c bytes rest others n (part, h, e) k o = (
  part ++ take n rest,
  appends-more a b c part (take n rest) h k,
  e ∙ (ap (λ t. part ++ t) (sym (take-append-drop n rest)) ∙ (sym (append_assoc part (take n rest) (drop n rest)) ∙ ap (λ t. (part ++ take n rest) ++ t) (sym o))),
)
