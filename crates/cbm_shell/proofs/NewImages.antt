-- Images of new disks: they have no fault, and the format that was asked for.
use Rattle.std.proofs.Common.{◌≡◌, ℕ, ◌≤◌, List, [], ◌∷◌, length, take, refl, sym, ap, subst, ◌∙◌, arith, rules, Bool, true, false, Ok, Err, Option, Some, None, replicate, inl, inr}
use Rattle.std.specs.Prelude.{◌==◌}
use Rattle.std.proofs.lemmas.List.{length-replicate}
use Rattle.std.specs.Prelude.{Result, IfOk, option_map}
use Rattle.std.specs.declared.alloc.AllocError.{AllocError}
use Rattle.cbm_d64.specs.Image.{IsImageSize, d64_tracks, d64_content}
use Rattle.cbm_d64.specs.Image as sectors
use Rattle.cbm_g64.specs.File.{g64_fault, g64_circles as tracks_in_file}
use Rattle.cbm_g64.specs.NewFile.{base_of, new_file}
use Rattle.cbm_g64.specs.Rest.{g64_rest}
use Rattle.cbm_g64.proofs.NewFiles.{length-new_file}
use Rattle.cbm_g64.specs.Numbers.{g64_fault_number}
use Rattle.cbm_g64.specs.declared.fault.G64Fault.{G64Fault}
use Rattle.cbm_g64.specs.Tracks as circles
use Rattle.cbm_medium.specs.Content.{Content}
use Rattle.cbm_medium.specs.Seen.{Seen, Outside, formatted_outside}
use Rattle.cbm_volume.specs.Holding.{HoldsDisk}
use Rattle.cbm_volume.specs.NewDisks.{OnlyNew}
use Rattle.cbm_image.specs.declared.kind.Kind.{Kind}
use Rattle.cbm_image.specs.declared.kind.Kind.TheVariants.{D64, G64}
use Rattle.cbm_image.specs.AnyDisks.{any_kind, any_seen, IsDiskOfImage}
use Rattle.cbm_image.specs.declared.any_disk.AnyDisk.{AnyDisk}
use Rattle.cbm_image.specs.Images.{is_d64_size, kind_of, size_fault, image_fault, tracks_of, ImageHolds}
use Rattle.cbm_image.proofs.Again.{d64_by_size, has_kind, same_size}
use Rattle.cbm_image.specs.Images as images
use Rattle.cbm_image.proofs.ImageSizes.{right_size}
use Rattle.cbm_shell.specs.declared.images.making.Form.{Form}
use Rattle.cbm_shell.specs.declared.images.making.Form.TheVariants as form
use Rattle.cbm_shell.specs.Making.{kind_in, tracks_of_form, empty_disk, IsBlankDisk, IsBlankImage, IsEmpty, IsNew}
use Rattle.cbm_shell.proofs.ZeroImages.{content_zeros}

-- an image of one of a D64's sizes has such a size by the test
sized : (n : ℕ) → IsImageSize n → is_d64_size n ≡ true
sized n (inl e) = ap is_d64_size e
sized n (inr (inl e)) = ap is_d64_size e
sized n (inr (inr e)) = ap is_d64_size e

-- ---- before NEW

no_fault : (o : Option G64Fault) → option_map g64_fault_number o ≡ None → o ≡ None
no_fault None h = refl
no_fault (Some fault) h = absurd (cc)

-- a D64 of zeros
pub blank_sectors : (form : Form) (n : ℕ) (image : List ℕ) → kind_in form ≡ D64 → IsImageSize n → (n == 175531) ≡ false → d64_tracks n ≡ tracks_of_form form → image ≡ replicate n 0 → IsBlankImage form image
blank_sectors form n image kind size plain tracks is =
    let wide : length image ≡ n = ap length is ∙ length-replicate n 0 in
    record {
      opens = d64_by_size image (ap is_d64_size wide ∙ sized n size) ∙ sym kind;
      accepted = subst (λ (k : Kind). image_fault k image ≡ None) (sym kind) (ap size_fault wide ∙ right_size n size);
      tracks = subst (λ (k : Kind). tracks_of k image ≡ tracks_of_form form) (sym kind) (ap d64_tracks wide ∙ tracks);
      zeros = λ p h. subst (λ (k : Kind). images.content_of k image p ≡ Ok (replicate 256 0)) (sym kind) (content_zeros n image p size plain is);
    }

-- the disk of one has its form's format, and zeros in all sectors
pub its_kind : (form : Form) (image : List ℕ) (d : AnyDisk) → IsBlankImage form image → IsDiskOfImage (kind_of image) image false d → kind_in form ≡ any_kind d
its_kind form image d blank is = sym blank.opens ∙ sym is.same_format

pub blank_disk : (form : Form) (image : List ℕ) (d : AnyDisk) → IsBlankImage form image → IsDiskOfImage (kind_of image) image false d → IsBlankDisk (tracks_of_form form) (any_seen d)
blank_disk form image d blank is =
    let same = blank.opens in
    record {
      same_tracks = sym is.shown.same_tracks ∙ ap (λ (k : Kind). tracks_of k image) same ∙ blank.tracks;
      zeros = λ p h. ap (λ (x : Content). x p) (sym is.shown.same_content) ∙ ap (λ (k : Kind). images.content_of k image p) same ∙ blank.zeros p h;
      free = is.same_protection;
    }

pub blank_if : {A : Type 0} (r : Result A AllocError) (items : A → List ℕ) (form : Form) (n : ℕ) → kind_in form ≡ D64 → IsImageSize n → (n == 175531) ≡ false → d64_tracks n ≡ tracks_of_form form
    → IfOk r (λ v. items v ≡ replicate n 0) → IfOk r (λ v. IsBlankImage form (items v))
blank_if (Ok v) items form n kind size plain tracks h = blank_sectors form n (items v) kind size plain tracks h
blank_if (Err e) items form n kind size plain tracks h = tt

-- ---- after NEW

-- an id that the headers keep is the one given
given_id : (o : Option (List ℕ)) (id x : List ℕ) → option_map (λ (_ : List ℕ). id) o ≡ Some x → x ≡ id
given_id None id x e = absurd (cc)
given_id (Some y) id x e = cc

pub new_id : (id : List ℕ) (old new : Seen) (u : Unit {0}) → OnlyNew (Ok u) (Some id) old new → (x : List ℕ) → new.id ≡ Some x → x ≡ id
new_id id old new u (inl h) x e = given_id old.id id x (sym h.id ∙ e)
new_id id old new u (inr (err, h)) x e = absurd (cc)

-- and outside the sectors the medium is as a format leaves it
pub new_outside : (id : List ℕ) (old new : Seen) (u : Unit {0}) → OnlyNew (Ok u) (Some id) old new → new.outside ≡ formatted_outside old.outside
new_outside id old new u (inl h) = h.outside
new_outside id old new u (inr (err, h)) = absurd (cc)

-- the empty disk has the tracks of the form
pub of_form : {n m : ℕ} {title id : List ℕ} {outside : Outside} {seen : Seen} → n ≡ m → IsEmpty n title id outside seen → IsEmpty m title id outside seen
of_form {n = n} {m = m} {title = title} {id = id} {outside = outside} {seen = seen} same e = subst (λ (k : ℕ). IsEmpty k title id outside seen) same e

-- the image of a D64 that shows an empty disk
pub new_sectors : (form : Form) (title id image : List ℕ) (before : Outside) (disk : sectors.Image) → kind_in form ≡ D64 → IsImageSize (length disk.bytes) → image ≡ disk.bytes
    → IsEmpty (tracks_of_form form) title id before (sectors.d64_seen disk) → IsNew form title id image
new_sectors form title id image before disk kind size same e = record {
  opens = d64_by_size image (ap (λ (xs : List ℕ). is_d64_size (length xs)) same ∙ sized (length disk.bytes) size) ∙ sym kind;
  accepted = subst (λ (k : Kind). image_fault k image ≡ None) (sym kind) (ap (λ (xs : List ℕ). size_fault (length xs)) same ∙ right_size (length disk.bytes) size);
  holds = subst (λ (k : Kind). ImageHolds k image (empty_disk (tracks_of_form form) title id)) (sym kind)
      (subst (λ (xs : List ℕ). ImageHolds D64 xs (empty_disk (tracks_of_form form) title id)) (sym same)
      (subst (λ (n : ℕ). HoldsDisk n (d64_content disk.bytes) (empty_disk (tracks_of_form form) title id)) (sym e.same_tracks) e.holds));
  headers = λ circles. (let never : D64 ≡ G64 = sym kind ∙ circles in absurd (cc));
}

-- the image of a G64 that shows one
pub new_circles : (form : Form) (title id image : List ℕ) (before disk : circles.G64State) → kind_in form ≡ G64 → (g64_fault image ≡ None) × (tracks_in_file image 35 ≡ disk.tracks)
    → g64_rest image ≡ g64_rest (base_of disk.formatted disk.file) → IsEmpty (tracks_of_form form) title id (circles.g64_seen before).outside (circles.g64_seen disk) → IsNew form title id image
new_circles form title id image before disk kind again rest e = record {
  opens = has_kind image again.0 (ap is_d64_size (same_size image new_file (rest ∙ ap (λ (o : Outside). o.kept) e.same_outside) ∙ length-new_file)) ∙ sym kind;
  accepted = subst (λ (k : Kind). image_fault k image ≡ None) (sym kind) (ap (option_map g64_fault_number) again.0);
  holds = subst (λ (k : Kind). ImageHolds k image (empty_disk (tracks_of_form form) title id)) (sym kind)
      (subst (λ (ts : List (List Bool)). HoldsDisk 35 (circles.g64_content ts) (empty_disk (tracks_of_form form) title id)) (sym again.1)
      (subst (λ (n : ℕ). HoldsDisk n (circles.g64_content disk.tracks) (empty_disk (tracks_of_form form) title id)) (sym e.same_tracks) e.holds));
  headers = λ _. ap circles.id_for again.1 ∙ e.headers (circles.id_for disk.tracks) refl;
}
