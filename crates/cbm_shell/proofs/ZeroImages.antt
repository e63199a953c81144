-- A D64 of zeros has zeros in each sector.
use Rattle.std.proofs.Common.{◌≡◌, ℕ, ◌+◌, ◌*◌, ◌-◌, ◌<◌, ◌≤◌, List, length, take, refl, ap, subst, ◌∙◌, arith, Bool, true, false, Ok, replicate, if◌then◌else◌}
use Rattle.std.specs.Prelude.{◌==◌, slice_index}
use Rattle.std.proofs.lemmas.List.{length-replicate, drop-replicate, take-replicate}
use Rattle.cbm_medium.specs.Place.{Place, Has, has}
use Rattle.cbm_medium.specs.Content.{Cell}
use Rattle.cbm_medium.proofs.Walks.{true_has}
use Rattle.cbm_d64.specs.Image.{IsImageSize, d64_tracks, sectors_in, index_of, cell_of, code_of_error, error_at, sector_at, d64_content}
use Rattle.cbm_d64.proofs.Sectors.{index_in, sector_room}

-- an image of 35 tracks without error bytes, or of 40, has no fault
pub good_at : (image : List ℕ) (i n : ℕ) → length image ≡ n → (if n == 175531 then slice_index image (174848 + i) else 1) ≡ 1 → error_at image i ≡ 1
good_at image i n e h = ap (λ (k : ℕ). if k == 175531 then slice_index image (174848 + i) else 1) e ∙ h

zero_cell : (b : Bool) (cell : Cell) → (b ≡ true → cell ≡ Ok (replicate 256 0)) → (if b then cell else Ok (replicate 256 0)) ≡ Ok (replicate 256 0)
zero_cell true cell h = h refl
zero_cell false cell h = refl

zero_sector : (n j : ℕ) → 256 * j + 256 ≤ n → sector_at (replicate n 0) j ≡ replicate 256 0
zero_sector n j h = ap (take 256) (drop-replicate (256 * j) n 0) ∙ take-replicate 256 (n - 256 * j) 0 (omega arith)

pub content_zeros : (n : ℕ) (image : List ℕ) (p : Place) → IsImageSize n → (n == 175531) ≡ false → image ≡ replicate n 0 → d64_content image p ≡ Ok (replicate 256 0)
unfolding d64_content
content_zeros n image p size plain is =
    let wide : length image ≡ n = ap length is ∙ length-replicate n 0 in
    let good : error_at image (index_of p) ≡ 1 = good_at image (index_of p) n wide (ap (λ (b : Bool). if b then slice_index image (174848 + index_of p) else 1) plain) in
    zero_cell (has (d64_tracks (length image)) p) (cell_of (code_of_error (error_at image (index_of p))) (sector_at image (index_of p))) (λ t.
    let there : Has (d64_tracks (length image)) p = true_has (d64_tracks (length image)) p t in
    let below : index_of p < sectors_in n = subst (λ (k : ℕ). index_of p < sectors_in k) wide (index_in (length image) p there.2 there.1) in
    ap (λ (k : ℕ). cell_of (code_of_error k) (sector_at image (index_of p))) good
    ∙ ap (λ (xs : List ℕ). cell_of (code_of_error 1) (sector_at xs (index_of p))) is
    ∙ ap (λ (bytes : List ℕ). cell_of (code_of_error 1) bytes) (zero_sector n (index_of p) (sector_room n (index_of p) size below)))
