-- The headers of a disk, track by track.
use Rattle.std.proofs.Common.{◌≡◌, ◌≢◌, ℕ, ◌+◌, ◌<◌, ◌≤◌, true, sym, subst, arith, inl, inr}
use Rattle.std.proofs.lemmas.Bool.{cases_eq}
use Rattle.cbm_medium.specs.Place.{Place, Has, sectors_on}
use Rattle.cbm_medium.specs.Content.{Content}
use Rattle.cbm_bam.specs.Map.{at}
use Rattle.cbm_volume.specs.Layouts.{IsCellWritable}
use Rattle.cbm_volume.specs.check.Headers.{is_bad_header, comes_before, IsFirstBad}

abbrev pub UpTo : ℕ → Content → ℕ → Type 0
UpTo tracks content t = (p : Place) → Has tracks p → p.track < t → IsCellWritable (content p)

-- one track more
pub up_more : (tracks : ℕ) (content : Content) (t : ℕ) → UpTo tracks content t → ((s : ℕ) → s < sectors_on t → IsCellWritable (content (at t s))) → UpTo tracks content (t + 1)
up_more tracks content t h k p has l = elim (cases_eq p.track t) [
  | inl e ↦ (let same : at t p.sector ≡ p = λ i. record { track = sym e i; sector = p.sector } in
      subst (λ (q : Place). IsCellWritable (content q)) same (k p.sector (subst (λ (u : ℕ). p.sector < sectors_on u) e has.2)))
  | inr ne ↦ h p has (omega arith)
]

before_cases : (q : Place) (t s : ℕ) → comes_before q (at t s) ≡ true → q.track ≢ t → q.track < t
before_cases q t s h ne = grind arith

before_here : (q : Place) (t s : ℕ) → comes_before q (at t s) ≡ true → q.track ≡ t → q.sector < s
before_here q t s h e = grind arith

-- the first on its track, after tracks without a fault, is the first of all
pub first_bad : (tracks : ℕ) (content : Content) (t s : ℕ) → 0 < t → t ≤ tracks → UpTo tracks content t → s < sectors_on t → is_bad_header (content (at t s)) ≡ true
    → ((r : ℕ) → r < s → IsCellWritable (content (at t r))) → IsFirstBad tracks content (at t s)
first_bad tracks content t s some few h l bad k = record {
  has = (some, few, l);
  bad = bad;
  first = λ q has before. elim (cases_eq q.track t) [
    | inl e ↦ (let same : at t q.sector ≡ q = λ i. record { track = sym e i; sector = q.sector } in
        subst (λ (x : Place). IsCellWritable (content x)) same (k q.sector (before_here q t s before e)))
    | inr ne ↦ h q has (before_cases q t s before ne)
  ];
}
