-- The tracks 1 to 35 of a D64, and its error bytes.
use Rattle.std.proofs.Common.{◌≡◌, ℕ, ◌+◌, ◌*◌, ◌<◌, ◌≤◌, List, length, take, drop, refl, sym, ap, subst, ◌∙◌, arith, Bool, Ok}
use Rattle.std.specs.Prelude.{[], Result, Err, IfOk}
use Rattle.std.proofs.lemmas.List.{length-take-le, drop-take, take-take}
use Rattle.cbm_medium.specs.Place.{Place, Has}
use Rattle.cbm_d64.specs.Image.{d64_tracks, index_of, cell_of, code_of_error, sector_at, d64_content}
use Rattle.cbm_medium.specs.declared.fault.Fault.{Fault}
use Rattle.cbm_shell.specs.declared.fault.ShellFault.{ShellFault}
use Rattle.cbm_shell.specs.Converting.{content_held, IsConverted, AreLosses}
use Rattle.cbm_shell.proofs.SectorLemmas.{all_read}
use Rattle.cbm_shell.proofs.ZeroImages.{good_at}
use Rattle.cbm_d64.proofs.Sectors.{content_on_disk, index_in}

pub cut_length : (image : List ℕ) → length image ≡ 196608 → length (take 174848 image) ≡ 174848
cut_length image e = length-take-le 174848 image (omega (arith, e))

pub cut_tracks : (image : List ℕ) → length image ≡ 196608 → d64_tracks (length (take 174848 image)) ≡ 35
cut_tracks image e = ap d64_tracks (cut_length image e)

-- a sector in front of a cut
cut_sector : (n j : ℕ) (xs : List ℕ) → 256 * j + 256 ≤ n → sector_at (take n xs) j ≡ sector_at xs j
cut_sector n j xs h =
    sym (drop-take (256 * j) 256 (take n xs)) ∙ ap (drop (256 * j)) (take-take (256 * j + 256) n xs h) ∙ drop-take (256 * j) 256 xs

pub cut_content : (image : List ℕ) → length image ≡ 196608 → (p : Place) → Has 35 p → d64_content (take 174848 image) p ≡ d64_content image p
cut_content image e p h =
    let few : p.track ≤ d64_tracks (length (take 174848 image)) = subst (λ (n : ℕ). p.track ≤ n) (sym (cut_tracks image e)) h.1 in
    let wide : d64_tracks (length image) ≡ 40 = ap d64_tracks e in
    let many : p.track ≤ d64_tracks (length image) = subst (λ (n : ℕ). p.track ≤ n) (sym wide) (omega (arith, h.1)) in
    let below : index_of p < 683 = index_in 174848 p h.2 h.1 in
    content_on_disk (take 174848 image) p h.2 few
    ∙ ap (λ (n : ℕ). cell_of (code_of_error n) (sector_at (take 174848 image) (index_of p))) (good_at (take 174848 image) (index_of p) 174848 (cut_length image e) refl)
    ∙ ap (λ (bytes : List ℕ). cell_of (code_of_error 1) bytes) (cut_sector 174848 (index_of p) image (omega arith))
    ∙ sym (ap (λ (n : ℕ). cell_of (code_of_error n) (sector_at image (index_of p))) (good_at image (index_of p) 196608 e refl))
    ∙ sym (content_on_disk image p h.2 many)

-- ---- where nothing is lost

pub whole : {A : Type 0} (r : Result A ShellFault) (image : A → List ℕ) (unreadable : A → List Fault) (more errors id : A → Bool) (old : List ℕ)
    → IfOk r (λ c. IsConverted old (image c)) → IfOk r (λ c. AreLosses old (unreadable c) (more c) (errors c) (id c))
    → IfOk r (λ c. unreadable c ≡ [] → (p : Place) → Has 35 p → content_held (image c) p ≡ content_held old p)
whole (Ok c) image unreadable more errors id old converted lost =
    λ e p h. converted.kept p h ∙ all_read (content_held old) 35 p (sym lost.faults ∙ e) h.0 h.1 h.2
whole (Err f) image unreadable more errors id old converted lost = tt
