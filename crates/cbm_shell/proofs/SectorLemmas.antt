-- The faults of one more sector, or of one more track.
use Rattle.std.proofs.Common.{◌≡◌, ℕ, ◌+◌, ◌<◌, ◌≤◌, zero, suc, List, [], ◌∷◌, ◌++◌, Ok, Err, refl, sym, ap, subst, ◌∙◌, inl, inr, arith, append_assoc, append-nil}
use Rattle.std.proofs.lemmas.Bool.{cases_eq}
use Rattle.cbm_medium.specs.Place.{Place, sectors_on}
use Rattle.cbm_medium.specs.Content.{Cell, Content}
use Rattle.cbm_medium.specs.declared.fault.Fault.{Fault}
use Rattle.cbm_g64.specs.Tracks.{or_zeros}
use Rattle.cbm_shell.specs.Sectors.{sector_fault, faults_on, faults_in}

pub faults_on-none : (xs : List Fault) (content : Content) (track : ℕ) → xs ≡ xs ++ faults_on content track 0
unfolding faults_on
faults_on-none xs content track = sym (append-nil xs)

faults_on-next : (content : Content) (track n : ℕ) → faults_on content track (n + 1) ≡ faults_on content track n ++ sector_fault (record { track = track; sector = n }) (content (record { track = track; sector = n }))
unfolding faults_on
faults_on-next content track n = ap (faults_on content track) (let e : n + 1 ≡ suc n = omega arith in e)

pub faults_on-more : (xs ys zs : List Fault) (content : Content) (track n : ℕ) (at : Place) → ys ≡ xs ++ faults_on content track n → zs ≡ ys ++ sector_fault at (content at)
    → at ≡ record { track = track; sector = n } → zs ≡ xs ++ faults_on content track (n + 1)
faults_on-more xs ys zs content track n at before added same =
    added ∙ ap (λ (p : Place). ys ++ sector_fault p (content p)) same
    ∙ ap (λ (l : List Fault). l ++ sector_fault (record { track = track; sector = n }) (content (record { track = track; sector = n }))) before
    ∙ append_assoc xs (faults_on content track n) (sector_fault (record { track = track; sector = n }) (content (record { track = track; sector = n })))
    ∙ ap (λ (l : List Fault). xs ++ l) (sym (faults_on-next content track n))

pub faults_in-none : (content : Content) → [] ≡ faults_in content 0
unfolding faults_in
faults_in-none content = refl

pub faults_in-more : (xs ys : List Fault) (content : Content) (n : ℕ) → xs ≡ faults_in content n → ys ≡ xs ++ faults_on content (n + 1) (sectors_on (n + 1)) → ys ≡ faults_in content (n + 1)
unfolding faults_in
faults_in-more xs ys content n before added =
    let next : n + 1 ≡ suc n = omega arith in
    added ∙ ap (λ (l : List Fault). l ++ faults_on content (n + 1) (sectors_on (n + 1))) before
    ∙ ap (λ (k : ℕ). faults_in content n ++ faults_on content k (sectors_on k)) next
    ∙ sym (ap (faults_in content) next)

-- ---- where no fault is listed, each sector reads

nothing_left : (xs ys : List Fault) → xs ++ ys ≡ [] → xs ≡ []
nothing_left [] ys e = refl
nothing_left (x ∷ xs) ys e = absurd (cc)

nothing_right : (xs ys : List Fault) → xs ++ ys ≡ [] → ys ≡ []
nothing_right [] ys e = e
nothing_right (x ∷ xs) ys e = absurd (cc)

cell_read : (p : Place) (cell : Cell) → sector_fault p cell ≡ [] → or_zeros cell ≡ cell
cell_read p (Ok bytes) e = refl
cell_read p (Err code) e = absurd (cc)

abbrev at : ℕ → ℕ → Place
at t s = record { track = t; sector = s }

track_read : (content : Content) (t n s : ℕ) → faults_on content t n ≡ [] → s < n → or_zeros (content (at t s)) ≡ content (at t s)
unfolding faults_on
track_read content t zero s e l = absurd (omega arith)
track_read content t (suc n) s e l = elim (cases_eq s n) [
  | inl same ↦ subst (λ (k : ℕ). or_zeros (content (at t k)) ≡ content (at t k)) (sym same)
      (cell_read (at t n) (content (at t n)) (nothing_right (faults_on content t n) (sector_fault (at t n) (content (at t n))) e))
  | inr ne ↦ track_read content t n s (nothing_left (faults_on content t n) (sector_fault (at t n) (content (at t n))) e) (omega arith)
]

pub all_read : (content : Content) (n : ℕ) (p : Place) → faults_in content n ≡ [] → 0 < p.track → p.track ≤ n → p.sector < sectors_on p.track
    → or_zeros (content p) ≡ content p
unfolding faults_in
all_read content zero p e nz l s = absurd (omega arith)
all_read content (suc n) p e nz l s = elim (cases_eq p.track (suc n)) [
  | inl same ↦ track_read content p.track (sectors_on p.track) p.sector (subst (λ (k : ℕ). faults_on content k (sectors_on k) ≡ []) (sym same)
      (nothing_right (faults_in content n) (faults_on content (suc n) (sectors_on (suc n))) e)) s
  | inr ne ↦ all_read content n p (nothing_left (faults_in content n) (faults_on content (suc n) (sectors_on (suc n))) e) nz (omega arith) s
]
