-- The format of a converted image, and the id that its headers lose.
use Rattle.std.proofs.Common.{◌≡◌, ◌≢◌, ℕ, List, Bool, true, false, length, take, refl, sym, ap, subst, ◌∙◌, arith, Ok, Err, None, inl, inr}
use Rattle.std.specs.Prelude.{codes, if◌then◌else◌, not, replicate, unwrap_or, IsTrue, ◌↔◌, [], ◌∷◌}
use Rattle.std.specs.Str.{bytes_eq}
use Rattle.std.proofs.lemmas.Bool.{cases_eq}
use Rattle.std.proofs.lemmas.List.{take-take}
use Rattle.std.proofs.lemmas.Slice.Eq.{bytes_eq-Decides}
use Rattle.cbm_medium.specs.Content.{Cell}
use Rattle.cbm_d64.specs.Image.{d64_content, cell_of, code_of_error, error_at}
use Rattle.cbm_d64.proofs.Sectors.{content_on_disk}
use Rattle.cbm_g64.specs.File.{g64_fault}
use Rattle.cbm_track.specs.Circle.{circle_bits_of, first_below, ten_ones, each_below, begins, circle_bit}
use Rattle.cbm_sector.specs.Answer.{id_shown, header_at}
use Rattle.cbm_g64.specs.File.{g64_circles, offset}
use Rattle.cbm_g64.specs.Image.{IsHeld}
use Rattle.cbm_g64.specs.NewFile.{base_of}
use Rattle.cbm_g64.specs.Tracks.{or_zeros, g64_content as circles_of, id_for, HasTrack, G64State}
use Rattle.cbm_image.specs.declared.kind.Kind.{Kind}
use Rattle.cbm_image.specs.declared.kind.Kind.TheVariants.{D64, G64}
use Rattle.cbm_image.specs.Images.{kind_of, content_of as image_content}
use Rattle.cbm_shell.specs.Converting.{content_held, told_id, HasOtherId}
use Rattle.cbm_image.proofs.Again.{d64_by_size, d64_size}
use Rattle.cbm_medium.specs.Seen.{Seen}
use Rattle.cbm_shell.specs.Images.{IsSaved}

-- a D64 that was saved is a D64
pub saved_kind : (image : List ℕ) (seen : Seen) → IsSaved D64 image seen → kind_of image ≡ D64
saved_kind image seen s = d64_by_size image (d64_size (length image) s.faultless)

-- ---- the disk of a G64

abbrev pub opened_disk : List ℕ → G64State
opened_disk image = record { tracks = g64_circles image 35; file = image; formatted = false; protected = false }

-- what a G64's disk shows is what its image holds
pub opened_holds : (image : List ℕ) (d : G64State) → d ≡ opened_disk image → kind_of image ≡ G64 → circles_of d.tracks ≡ content_held image
opened_holds image d e k = ap (λ (x : G64State). circles_of x.tracks) e ∙ sym (ap (λ (x : Kind). image_content x image) k)

-- a track that isn't there has no header
no_header : id_shown (circle_bits_of (0 ∷ [])) ≡ None
unfolding id_shown first_below ten_ones each_below header_at begins circle_bit
no_header = refl

pub no_id : (file : List ℕ) (tracks : List (List Bool)) → IsHeld file tracks → offset file 17 ≡ 0 → id_for tracks ≡ 0 ∷ 0 ∷ []
unfolding id_for
no_id file tracks h z = ap (λ o. unwrap_or o (0 ∷ 0 ∷ [])) (ap id_shown (h.absent 17 (omega arith) z) ∙ no_header)

-- the id of a disk's headers
pub id_found : (d : G64State) (id : List ℕ) → d.formatted ≡ false → IsHeld d.file d.tracks → (HasTrack d 18 → id ≡ id_for d.tracks) → ((HasTrack d 18 → ⊥) → id ≡ 0 ∷ 0 ∷ []) → id ≡ id_for d.tracks
id_found d id f h there missing = elim (cases_eq (offset d.file 17) 0) [
  | inl z ↦ missing (λ t. t.2 (subst (λ b. offset (base_of b d.file) 17 ≡ 0) (sym f) z)) ∙ sym (no_id d.file d.tracks h z)
  | inr ne ↦ there (omega arith, omega arith, subst (λ b. offset (base_of b d.file) 17 ≢ 0) (sym f) ne)
]

-- two lists differ where their bytes do
pub differ : (b : Bool) (xs ys : List ℕ) → b ≡ not (bytes_eq xs ys) → IsTrue b ↔ (xs ≢ ys)
differ b xs ys e = subst (λ v. IsTrue v ↔ (xs ≢ ys)) (sym e) (by_test (bytes_eq xs ys) refl)
  where
    by_test : (v : Bool) → bytes_eq xs ys ≡ v → IsTrue (not v) ↔ (xs ≢ ys)
    by_test true s = ((λ f. absurd (cc)), (λ n. absurd (n ((bytes_eq-Decides xs ys).0 s))))
    by_test false s = ((λ t same. absurd (let q = sym s ∙ (bytes_eq-Decides xs ys).1 same in cc)), (λ n. refl))

-- the headers have another id than 18/0 tells
pub other_id : (image : List ℕ) (d : G64State) (header told : List ℕ) (b : Bool) → d ≡ opened_disk image → kind_of image ≡ G64 → IsHeld (base_of d.formatted d.file) d.tracks
    → (HasTrack d 18 → header ≡ id_for d.tracks) → ((HasTrack d 18 → ⊥) → header ≡ 0 ∷ 0 ∷ []) → told ≡ told_id (circles_of d.tracks) → b ≡ not (bytes_eq header told) → IsTrue b ↔ HasOtherId image
other_id image d header told b e k held there missing tells is =
    let free : d.formatted ≡ false = ap (λ (x : G64State). x.formatted) e in
    let found : header ≡ id_for (g64_circles image 35) = id_found d header free (subst (λ f. IsHeld (base_of f d.file) d.tracks) free held) there missing ∙ ap (λ (x : G64State). id_for x.tracks) e in
    let said : told ≡ told_id (content_held image) = tells ∙ ap told_id (opened_holds image d e k) in
    let both = differ b header told is in
    ((λ t. (k, λ same. both.0 t (found ∙ same ∙ sym said))), (λ h. both.1 (λ same. h.1 (sym found ∙ same ∙ said))))
