-- The byte that waits, and whether more follows it.
use Rattle.std.proofs.Common.{◌≡◌, ℕ, ◌-◌, ◌<◌, ◌≤◌, List, [], ◌∷◌, length, take, drop, ◌++◌, Option, Some, None, refl, sym, ap, ◌∙◌, arith, inl, inr, false}
use Rattle.std.specs.Prelude.{◌==◌, slice_range, option_to_list}
use Rattle.std.proofs.lemmas.Bool.{cases_eq, eq-eqb, ne_eqb}
use Rattle.std.proofs.lemmas.List.{length-take-le, length-drop}
use Rattle.cbm_medium.specs.Place.{Place}
use Rattle.cbm_medium.specs.Content.{Content}
use Rattle.cbm_medium.specs.Links.{Followed}
use Rattle.cbm_medium.proofs.Walks.{follow_end}
use Rattle.cbm_chain.specs.Data.{chain_bytes}
use Rattle.cbm_chain.specs.Reading.{RestOfFile, held_from, with_front, one_less}
use Rattle.cbm_file.specs.Waiting.{next_shown}

range_empty : (xs : List ℕ) (from to : ℕ) → to ≤ from → slice_range xs from to ≡ []
range_empty xs from to h = let none : to - from ≡ 0 = omega arith in ap (λ (k : ℕ). take k (drop from xs)) none

followed : (byte : ℕ) (xs : List ℕ) → 0 < length xs → next_shown (byte ∷ xs) ≡ Some (byte, false)
followed byte [] h = absurd (omega arith)
followed byte (x ∷ xs) h = refl

pub shown_next : (byte : ℕ) (xs : List ℕ) (from to : ℕ) → from ≤ to → to ≤ length xs → next_shown (byte ∷ slice_range xs from to) ≡ Some (byte, from == to)
shown_next byte xs from to h k = elim (cases_eq from to) [
  | inl e ↦ ap (λ ys. next_shown (byte ∷ ys)) (range_empty xs from to (omega arith)) ∙ (λ i. Some (byte, sym (eq-eqb from to e) i))
  | inr ne ↦ followed byte (slice_range xs from to) (omega (arith, length-take-le (to - from) (drop from xs) (omega (arith, length-drop {A = ℕ} from xs)), length-drop {A = ℕ} from xs))
      ∙ (λ i. Some (byte, sym (ne_eqb from to ne) i))
]

-- nothing is left after a link of track 0
pub held_end : (tracks : ℕ) (content : Content) (left : ℕ) (at : Place) → at.track ≡ 0 → (held_from tracks content left at).bytes ≡ []
unfolding held_from
held_end tracks content left at z = ap (λ (f : Followed). chain_bytes content f.blocks) (follow_end tracks content left at z)

-- the byte that waits was taken, and nothing is left but what its sector holds
pub taken_last : (waiting first : Option ℕ) (sector : List ℕ) (from afterwards to : ℕ) (rest : RestOfFile) → rest.bytes ≡ [] → (waiting ≡ None → to ≤ from)
    → option_to_list first ++ slice_range sector afterwards to ≡ slice_range sector from to
    → with_front (option_to_list first ++ slice_range sector afterwards to) rest ≡ one_less (with_front (option_to_list waiting ++ slice_range sector from to) rest)
taken_last (Some byte) first sector from afterwards to rest end some e = ap (λ (ys : List ℕ). with_front ys rest) e
taken_last None first sector from afterwards to rest end some e =
    let none : slice_range sector from to ≡ [] = range_empty sector from to (some refl) in
    ap (λ (ys : List ℕ). with_front ys rest) (e ∙ none)
    ∙ (λ i. record { bytes = (end ∙ sym (ap (λ (ys : List ℕ). drop 1 (ys ++ rest.bytes)) none ∙ ap (drop 1) end)) i; trouble = rest.trouble })
