-- An image that is made anew by a change of its disk: what was opened, what is saved, and why not.
use Rattle.std.proofs.Common.{◌≡◌, ℕ, List, None, sym, subst, ◌∙◌, inl, inr, Ok, Err}
use Rattle.std.specs.Prelude.{Result, IfOk, OnOk}
use Rattle.cbm_medium.specs.Content.{Content}
use Rattle.cbm_medium.specs.Seen.{Seen}
use Rattle.cbm_bam.specs.Map.{geometry_of}
use Rattle.cbm_image.specs.declared.kind.Kind.{Kind}
use Rattle.cbm_image.specs.Images.{kind_of, content_of, tracks_of}
use Rattle.cbm_volume.specs.check.WholeDisk.{DiskFault}
use Rattle.cbm_shell.specs.declared.fault.ShellFault.{ShellFault}
use Rattle.cbm_shell.specs.declared.fault.ShellFault.TheVariants as fault
use Rattle.cbm_shell.specs.Editing.{IsUnedited}
use Rattle.cbm_shell.specs.Images.{IsImageOpened, IsSaved, IsSoundDisk, IsSoundImage, disk_tracks}
use Rattle.cbm_shell.proofs.RemakeLemmas.{of_image}
use Rattle.cbm_place.specs.Placed.{IsNotMadeIn}

-- the old disk isn't sound
pub unsound_old : (Makes : ℕ → Content → Content → Type 0) (Refuses : ℕ → Content → ShellFault → Type 0) (image : List ℕ) (seen : Seen) (f : ShellFault) → IsImageOpened image seen
    → IsUnedited seen.tracks seen.content ⊥ f → IsNotMadeIn image Makes Refuses f
unsound_old Makes Refuses image seen (fault.Unsound u) opened h =
    inl (of_image (λ tracks content. DiskFault tracks content u) image seen opened h)
unsound_old Makes Refuses image seen f opened h = absurd h

-- the new one wouldn't be
pub unsound_new : (Makes : ℕ → Content → Content → Type 0) (Refuses : ℕ → Content → ShellFault → Type 0) (image : List ℕ) (old new : Seen) (f : ShellFault) → IsImageOpened image old
    → new.tracks ≡ old.tracks → Makes (geometry_of old.tracks old.content) old.content new.content → IsUnedited new.tracks new.content ⊥ f → IsNotMadeIn image Makes Refuses f
unsound_new Makes Refuses image old new (fault.Unsound u) opened same made h =
    inr (
      new.content,
      of_image (λ tracks content. Makes tracks content new.content) image old opened made,
      subst (λ t. DiskFault (geometry_of t new.content) new.content u) (same ∙ opened.same_tracks) h,
    )
unsound_new Makes Refuses image old new f opened same made h = absurd h

-- the image of the changed disk
pub made_in : {A : Type 0} (items : A → List ℕ) (r : Result A ShellFault) (Makes : ℕ → Content → Content → Type 0) (kind : Kind) (image : List ℕ) (old new : Seen) → kind_of image ≡ kind
    → IsImageOpened image old → Makes (geometry_of old.tracks old.content) old.content new.content → IfOk r (λ v. IsSaved kind (items v) new)
    → IfOk r (λ v. Makes (disk_tracks image) (content_of (kind_of image) image) (content_of (kind_of image) (items v)))
made_in items (Ok v) Makes kind image old new is opened made saved =
    subst (λ k. Makes (disk_tracks image) (content_of (kind_of image) image) (content_of k (items v))) (sym is)
    (subst (λ c. Makes (disk_tracks image) (content_of (kind_of image) image) c) saved.same_content
    (of_image (λ tracks content. Makes tracks content new.content) image old opened made))
made_in items (Err f) Makes kind image old new is opened made saved = tt

-- the old disk is sound
pub sound_opened : {A : Type 0} (r : Result A ShellFault) (image : List ℕ) (old : Seen) → IsImageOpened image old → IsSoundDisk old.tracks old.content → OnOk r (IsSoundImage (kind_of image) image)
sound_opened (Ok v) image old opened sound =
    subst (λ c. IsSoundDisk (tracks_of (kind_of image) image) c) opened.same_content (subst (λ t. IsSoundDisk t old.content) opened.same_tracks sound)
sound_opened (Err f) image old opened sound = tt
