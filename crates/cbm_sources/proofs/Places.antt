-- Where the sectors of a disk stand in its image.
use Rattle.std.proofs.Common.{◌≡◌, ℕ, zero, suc, ◌+◌, ◌-◌, ◌<◌, ◌≤◌, refl, ap, ◌∙◌, arith, inl, inr, add-one}
use Rattle.std.proofs.lemmas.Bool.{cases_lt, lt-ltb}
use Rattle.cbm_medium.specs.Place.{Place}
use Rattle.cbm_sources.specs.declared.form.Form.{Form}
use Rattle.cbm_sources.specs.declared.form.Form.TheVariants.{D64Of35, D64Of40, D64Of42, D71, D81}
use Rattle.cbm_sources.specs.Forms.{form_tracks, form_sectors, sectors_on_track, sectors_ahead, HasSector, index_in_image}

pub one_track_more : (form : Form) (t : ℕ) → sectors_ahead form (t + 1) ≡ sectors_ahead form t + sectors_on_track form t
unfolding sectors_ahead
one_track_more form t = rw add-one refl

pub no_track_yet : (form : Form) → sectors_ahead form 0 ≡ 0
unfolding sectors_ahead
no_track_yet form = refl

-- the tracks of a disk, all together
all_tracks : (form : Form) → sectors_ahead form (form_tracks form + 1) ≡ form_sectors form
unfolding sectors_ahead
all_tracks D64Of35 = refl
all_tracks D64Of40 = refl
all_tracks D64Of42 = refl
all_tracks D71 = refl
all_tracks D81 = refl

later : (form : Form) (t k : ℕ) → sectors_ahead form t ≤ sectors_ahead form (t + k)
later form t zero = omega (arith, ap (sectors_ahead form) (let e : t + 0 ≡ t = omega arith in e))
later form t (suc k) =
    let e : sectors_ahead form (t + suc k) ≡ sectors_ahead form (t + k + 1) = ap (sectors_ahead form) (omega arith) in
    omega (arith, e, one_track_more form (t + k), later form t k)

pub in_order : (form : Form) (t u : ℕ) → t ≤ u → sectors_ahead form t ≤ sectors_ahead form u
in_order form t u h =
    let e : sectors_ahead form (t + (u - t)) ≡ sectors_ahead form u = ap (sectors_ahead form) (omega arith) in
    omega (arith, e, later form t (u - t))

-- no sector lies on a track that the disk lacks
on_a_track : (form : Form) (p : Place) → HasSector form p → p.track ≤ form_tracks form
on_a_track form p h = elim (cases_lt (form_tracks form) p.track) [
  | inl beyond ↦ absurd (let none : sectors_on_track form p.track ≡ 0 = rw (lt-ltb (form_tracks form) p.track beyond) refl in omega arith)
  | inr on ↦ on
]

pub index_inside : (form : Form) (p : Place) → HasSector form p → index_in_image form p < form_sectors form
index_inside form p h =
    omega (arith, one_track_more form p.track, in_order form (p.track + 1) (form_tracks form + 1) (let t = on_a_track form p h in omega arith), all_tracks form)

-- ---- no two sectors stand at one place

before_it : (form : Form) (p q : Place) → HasSector form p → p.track < q.track → index_in_image form p < index_in_image form q
before_it form p q h less = omega (arith, one_track_more form p.track, in_order form (p.track + 1) q.track (omega arith))

same_track : (form : Form) (p q : Place) → HasSector form p → HasSector form q → index_in_image form p ≡ index_in_image form q → p.track ≡ q.track
same_track form p q h k e = elim (cases_lt p.track q.track) [
  | inl less ↦ absurd (omega (arith, before_it form p q h less))
  | inr more ↦ elim (cases_lt q.track p.track) [
    | inl less ↦ absurd (omega (arith, before_it form q p k less))
    | inr same ↦ omega arith
  ]
]

pub lie_apart : (form : Form) (p q : Place) → HasSector form p → HasSector form q → index_in_image form p ≡ index_in_image form q → p ≡ q
lie_apart form p q h k e =
    let t : p.track ≡ q.track = same_track form p q h k e in
    let b : sectors_ahead form p.track ≡ sectors_ahead form q.track = ap (sectors_ahead form) t in
    let s : p.sector ≡ q.sector = omega arith in
    ap (λ n. let r : Place = record { track = n; sector = p.sector } in r) t ∙ ap (λ n. let r : Place = record { track = q.track; sector = n } in r) s
