-- Where the headers of a track's sectors stand: found one after another, and kept by writes.
use Rattle.std.proofs.Common.{◌≡◌, ℕ, zero, suc, ◌<◌, ◌≤◌, List, Bool, true, false, length, Option, Some, None, refl, sym, ap, subst, ◌∙◌, arith, inl, inr}
use Rattle.std.specs.Prelude.{◌+◌, slice_index_or, replicate, IfSome}
use Rattle.std.proofs.lemmas.Bool.{cases_eq}
use Rattle.cbm_medium.specs.Place.{Place}
use Rattle.cbm_track.specs.Circle.{begins, first_below, or_then, some_if}
use Rattle.cbm_track.proofs.Firsts.{found, Found, at, nowhere}
use Rattle.cbm_sector.specs.Decoding.{coded_at}
use Rattle.cbm_sector.specs.Answer.{header_at, header_of, names, passes}
use Rattle.cbm_sector.specs.Index.{IsIndex, IsIndexBelow, is_of}
use Rattle.cbm_sector.proofs.Reading.{no_header_here, header_here}
use Rattle.cbm_sector.proofs.Showing.{names_headers, first_header_kept}
use Rattle.cbm_sector.proofs.Writing.{IsWritten}

-- a sector's header stands on the track
header_below : (t : List Bool) (a : Place) → IfSome (header_of t a) (λ p. p < length t)
unfolding header_of
header_below t a = go (found (header_at (names a) t) (length t))
  where
    go : Found (header_at (names a) t) (length t) → IfSome (first_below (header_at (names a) t) (length t)) (λ p. p < length t)
    go (at k i e) = subst (λ (o : Option ℕ). IfSome o (λ p. p < length t)) (sym e) i.below
    go (nowhere none e) = subst (λ (o : Option ℕ). IfSome o (λ p. p < length t)) (sym e) tt

pub place_below : (t : List Bool) (a : Place) (header : Option ℕ) (p : ℕ) → header ≡ header_of t a → header ≡ Some p → p < length t
place_below t a header p e is = subst (λ (o : Option ℕ). IfSome o (λ q. q < length t)) (sym e ∙ is) (header_below t a)

-- a data block that is written is no header, before and after
pub header_of_kept : (old new : List Bool) (d : ℕ) (v : List ℕ) → IsWritten old new d v → (a : Place) → header_of new a ≡ header_of old a
unfolding header_of
header_of_kept old new d v w a = first_header_kept (names a) (names_headers a) old new d v w

pub index_kept : (old new : List Bool) (number : ℕ) (headers : List (Option ℕ)) → ((a : Place) → header_of new a ≡ header_of old a) → IsIndex old number headers → IsIndex new number headers
index_kept old new number headers same h s few = h s few ∙ sym (same (record { track = number; sector = s }))

-- ---- found one after another

or_none : (o : Option ℕ) → or_then o None ≡ o
or_none None = refl
or_none (Some k) = refl

-- none between two places is none more
first_stays : (f : ℕ → Bool) (from to : ℕ) → from ≤ to → ((q : ℕ) → from ≤ q → q < to → f q ≡ false) → first_below f to ≡ first_below f from
unfolding first_below
first_stays f from zero few none = ap (first_below f) {x = zero} {y = from} (omega (arith, few))
first_stays f from (suc to) few none = elim (cases_eq from (suc to)) [
  | inl e ↦ ap (first_below f) {x = suc to} {y = from} (sym e)
  | inr ne ↦
      ap (λ (b : Bool). or_then (first_below f to) (some_if b to)) {x = f to} (none to (omega arith) (omega arith))
      ∙ or_none (first_below f to)
      ∙ first_stays f from to (omega arith) (λ q l h. none q l (omega arith))
]

one_more : (f : ℕ → Bool) (from p : ℕ) (b : Bool) → from ≤ p → ((q : ℕ) → from ≤ q → q < p → f q ≡ false) → f p ≡ b → first_below f (suc p) ≡ or_then (first_below f from) (some_if b p)
unfolding first_below
one_more f from p b few none here =
    ap (λ (o : Option ℕ). or_then o (some_if (f p) p)) (first_stays f from p few none) ∙ ap (λ (c : Bool). or_then (first_below f from) (some_if c p)) here

-- none yet
nones : (n s : ℕ) → slice_index_or (replicate {A = Option ℕ} n None) s None ≡ None
nones zero s = refl
nones (suc n) zero = refl
nones (suc n) (suc s) = nones n s

pub index_none : (t : List Bool) (number : ℕ) → IsIndexBelow t number 0 (replicate 21 None)
unfolding first_below
index_none t number s few = nones 21 s

-- the first block after what was looked at, with the sector that its header names
pub index_more : (t : List Bool) (number from p : ℕ) (old new : List (Option ℕ)) (sector : Option ℕ)
    → IsIndexBelow t number from old → from ≤ p → begins t p ≡ true → ((q : ℕ) → from ≤ q → q < p → begins t q ≡ false)
    → ((s : ℕ) → is_of sector s ≡ passes (names (record { track = number; sector = s })) (coded_at t p 8))
    → ((s : ℕ) → s < 21 → slice_index_or new s None ≡ or_then (slice_index_or old s None) (some_if (is_of sector s) p))
    → IsIndexBelow t number (p + 1) new
index_more t number from p old new sector below few here none names_it kept s h =
    let f = header_at (names (record { track = number; sector = s })) t in
    kept s h
    ∙ ap (λ (o : Option ℕ). or_then o (some_if (is_of sector s) p)) (below s h)
    ∙ sym (ap (first_below f) {y = suc p} (omega arith) ∙ one_more f from p (is_of sector s) few (λ q l m. no_header_here (names (record { track = number; sector = s })) t q (none q l m)) (header_here (names (record { track = number; sector = s })) t p (is_of sector s) here (names_it s)))

-- no block begins after what was looked at
pub index_all : (t : List Bool) (number from : ℕ) (headers : List (Option ℕ)) → IsIndexBelow t number from headers → from ≤ length t → ((q : ℕ) → from ≤ q → q < length t → begins t q ≡ false) → IsIndex t number headers
unfolding header_of
index_all t number from headers below few none s h =
    let f = header_at (names (record { track = number; sector = s })) t in
    below s h ∙ sym (first_stays f from (length t) few (λ q l m. no_header_here (names (record { track = number; sector = s })) t q (none q l m)))
