-- A file is lengthened by a block: each stop; and a side sector lists one more.
use Rattle.std.proofs.Common.{◌≡◌, ◌⊎◌, ℕ, zero, suc, ◌+◌, ◌*◌, ◌<◌, ◌≤◌, List, [], ◌∷◌, length, drop, get_or, Option, Some, IsOk, ap, ◌∙◌, arith, inl, inr}
use Rattle.std.proofs.lemmas.Bool.{cases_eq}
use Rattle.cbm_medium.specs.Place.{Place, Has}
use Rattle.cbm_medium.specs.Content.{Content}
use Rattle.cbm_medium.specs.declared.fault.Fault.{Fault}
use Rattle.cbm_medium.specs.Seen.{Seen, write_refusal, HasFailed, IsRefused}
use Rattle.std.specs.Prelude.{MatchOption}
use Rattle.cbm_bam.specs.Map.{IsFull, map_of}
use Rattle.cbm_relfile.specs.Changing.{IsWriteRefused}
use Rattle.cbm_relfile.specs.Growing.{IsBegun, IsLengthened, IsLengthenStopped, IsSideBegun}
use Rattle.cbm_relfile.specs.SideSectors.{named_in, Numbered}
use Rattle.cbm_relfile.proofs.Listed.{at_bytes, named_none, named_some}

-- a write of a sector of the disk is refused
pub refused_write : (tracks : ℕ) (mid new : Seen) (p : Place) (fault : Fault) → Has tracks p → IsRefused (write_refusal mid p) fault mid new → IsWriteRefused tracks mid new fault.code
refused_write tracks mid new p fault has r = by_cause r.cause
  where
    by_cause : (write_refusal mid p ≡ Some fault.code) ⊎ HasFailed mid new → IsWriteRefused tracks mid new fault.code
    by_cause (inl e) = inl (p, has, e)
    by_cause (inr f) = inr f

pub stopped_at : (tracks : ℕ) (old mid new : Seen) (last p : Place) (fault : Fault) → IsBegun tracks old.content mid.content → mid.protected ≡ old.protected → old.failures ≤ mid.failures → Has tracks p → IsRefused (write_refusal mid p) fault mid new
    → IsLengthenStopped tracks old new last fault.code
stopped_at tracks old mid new last p fault begun protected counted has r = record {
  mid = mid;
  before = begun;
  protected = protected;
  counted = counted;
  same = ap (λ (s : Seen). s.content) r.same;
  cause = inr (inr (refused_write tracks mid new p fault has r));
}

-- what the call answers where no write is refused
abbrev pub LengthensBy : ℕ → Content → Content → Place → ℕ → ℕ → Option Place → Type 0
LengthensBy tracks c c' last w b o = MatchOption o (IsFull tracks (map_of c) × (c' ≡ c)) (λ q. IsLengthened tracks c c' last w b q)

abbrev pub BeginsSide : ℕ → Content → Content → List ℕ → ℕ → ℕ → Place → Option Place → Type 0
BeginsSide tracks c c' head k w q o = MatchOption o (IsFull tracks (map_of c) × (c' ≡ c)) (λ t. IsSideBegun tracks c c' head k w q t)

-- the place that a list names at a number
pub named_nth : (m k i : ℕ) (bytes : List ℕ) (d : Place) → i < length (named_in m (drop k bytes)) → get_or (named_in m (drop k bytes)) i d ≡ at_bytes bytes (k + 2 * i)
named_nth zero k i bytes d l = absurd (omega (arith, l))
named_nth (suc m) k i bytes d l = elim (cases_eq (get_or bytes k 0) 0) [
  | inl z ↦ absurd (let none = ap (λ (xs : List Place). length xs) (named_none m k bytes z) in omega (arith, l, none))
  | inr ne ↦
      (let some = named_some m k bytes ne in
      ap (λ (xs : List Place). get_or xs i d) some ∙ by_index i (omega (arith, l, ap (λ (xs : List Place). length xs) some)) (λ j. named_nth m (k + 2) j bytes d))
]
  where
    by_index : (j : ℕ) → j < suc (length (named_in m (drop (k + 2) bytes))) → ((h : ℕ) → h < length (named_in m (drop (k + 2) bytes)) → get_or (named_in m (drop (k + 2) bytes)) h d ≡ at_bytes bytes (k + 2 + 2 * h))
        → get_or (at_bytes bytes k ∷ named_in m (drop (k + 2) bytes)) j d ≡ at_bytes bytes (k + 2 * j)
    by_index zero h more = let e : k ≡ k + 2 * 0 = omega arith in ap (at_bytes bytes) e
    by_index (suc j) h more = more j (omega (arith, h)) ∙ (let e : k + 2 + 2 * j ≡ k + 2 * suc j = omega arith in ap (at_bytes bytes) e)

-- a side sector of a file
pub record IsSide (tracks : ℕ) (c : Content) (width n : ℕ) (p : Place) : Type 0 where
  pub has : Has tracks p
  pub reads : IsOk (c p)

pub numbered_nth : (tracks : ℕ) (c : Content) (width n : ℕ) (ss : List Place) (i : ℕ) (d : Place) → Numbered tracks c width n ss → i < length ss → IsSide tracks c width (n + i) (get_or ss i d)
numbered_nth tracks c width n [] i d h l = absurd (omega (arith, l))
numbered_nth tracks c width n (s ∷ ss) zero d h l = record { has = h.0; reads = h.1 }
numbered_nth tracks c width n (s ∷ ss) (suc i) d h l = let rest = numbered_nth tracks c width (n + 1) ss i d h.4 (omega (arith, l)) in record { has = rest.has; reads = rest.reads }
