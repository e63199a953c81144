-- An image of 40 tracks has no error bytes.
use Rattle.std.specs.Prelude.{ℕ, ◌+◌, ◌<◌, ◌≡◌, ◌≢◌, ◌==◌, List, length, Bool, true, false, if◌then◌else◌, refl, None, Ok, slice_index, replicate}
use Rattle.std.proofs.Common.{ap, inl, inr, arith}
use Rattle.std.proofs.lemmas.Bool.{cases_eq, ne_eqb}
use Rattle.cbm_medium.specs.Place.{Place, has}
use Rattle.cbm_medium.specs.Content.{header_fault}
use Rattle.cbm_d64.specs.Image.{d64_tracks, index_of, code_of_error, cell_of, error_at, sector_at, d64_content}

narrow : (m n : ℕ) → m ≡ 35 → n ≡ 40 → m ≢ n
narrow m n a b e = absurd (omega arith)

wide_size : (n : ℕ) → d64_tracks n ≡ 40 → n ≡ 196608
wide_size n t = elim (cases_eq n 196608) [
  | inl e ↦ e
  | inr ne ↦ absurd (narrow 35 40 refl refl (rw (ne_eqb n 196608 ne) at t))
]

no_errors : (image : List ℕ) (i : ℕ) → length image ≡ 196608 → error_at image i ≡ 1
no_errors image i e = ap (λ n. if n == 175531 then slice_index image (174848 + i) else 1) e

both_good : (b : Bool) (e : ℕ) (bytes zeros : List ℕ) → e ≡ 1 → header_fault (if b then cell_of (code_of_error e) bytes else Ok zeros) ≡ None
both_good true e bytes zeros good = ap (λ n. header_fault (cell_of (code_of_error n) bytes)) good
both_good false e bytes zeros good = refl

-- no sector of the outer tracks has a fault of its header
pub d64_outer_good : (image : List ℕ) (p : Place) → d64_tracks (length image) ≡ 40 → 35 < p.track → header_fault (d64_content image p) ≡ None
unfolding d64_content
d64_outer_good image p t h =
    both_good (has (d64_tracks (length image)) p) (error_at image (index_of p)) (sector_at image (index_of p)) (replicate 256 0)
    (no_errors image (index_of p) (wide_size (length image) t))
