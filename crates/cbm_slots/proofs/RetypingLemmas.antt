-- Why the file in a slot isn't retyped.
use Rattle.std.proofs.Common.{◌≡◌, ℕ, List, subst, inl, inr}
use Rattle.std.specs.Prelude.{Result, Ok, Err, IfErr}
use Rattle.cbm_medium.specs.Content.{Content}
use Rattle.cbm_medium.specs.Seen.{Seen}
use Rattle.cbm_file.specs.declared.file_type.FileType.{FileType}
use Rattle.cbm_bam.specs.Map.{geometry_of}
use Rattle.cbm_image.specs.Images.{kind_of, tracks_of, content_of}
use Rattle.cbm_shell.specs.declared.fault.ShellFault.{ShellFault}
use Rattle.cbm_shell.specs.declared.fault.ShellFault.TheVariants as fault
use Rattle.cbm_shell.specs.Editing.{IsUnedited}
use Rattle.cbm_shell.specs.Images.{IsImageOpened}
use Rattle.cbm_slots.specs.Retyping.{IsRetyped, IsUnfit, IsUnretyped, IsNotRetypedInSlot}

-- a disk that isn't sound gives no image
pub unfit_by : (tracks : ℕ) (content : Content) (f : ShellFault) → IsUnedited tracks content ⊥ f → IsUnfit tracks content f
unfit_by tracks content (fault.Unsound u) h = h
unfit_by tracks content fault.Memory h = absurd h
unfit_by tracks content (fault.Image n) h = absurd h
unfit_by tracks content (fault.Refused s) h = absurd h
unfit_by tracks content (fault.Trouble t) h = absurd h
unfit_by tracks content fault.NotFound h = absurd h
unfit_by tracks content fault.NotClosed h = absurd h
unfit_by tracks content fault.Mistaken h = absurd h

-- with the other type the disk gives no image
unretyped_by : (tracks : ℕ) (old new : Content) (slot : ℕ) (kind : FileType) (f : ShellFault) → IsRetyped (geometry_of tracks old) slot kind old new → IsUnfit tracks new f
    → IsUnretyped tracks old slot kind f
unretyped_by tracks old new slot kind (fault.Unsound u) is h = (new, is, h)
unretyped_by tracks old new slot kind fault.Memory is h = h
unretyped_by tracks old new slot kind (fault.Image n) is h = absurd h
unretyped_by tracks old new slot kind (fault.Refused s) is h = absurd h
unretyped_by tracks old new slot kind (fault.Trouble t) is h = absurd h
unretyped_by tracks old new slot kind fault.NotFound is h = absurd h
unretyped_by tracks old new slot kind fault.NotClosed is h = absurd h
unretyped_by tracks old new slot kind fault.Mistaken is h = absurd h

pub unretyped : {A : Type 0} (tracks after : ℕ) (old new : Content) (slot : ℕ) (kind : FileType) (r : Result A ShellFault) → after ≡ tracks
    → IsRetyped (geometry_of tracks old) slot kind old new → IfErr r (IsUnfit after new) → IfErr r (IsUnretyped tracks old slot kind)
unretyped tracks after old new slot kind (Ok v) same is h = tt
unretyped tracks after old new slot kind (Err f) same is h = unretyped_by tracks old new slot kind f is (subst (λ n. IsUnfit n new f) same h)

-- the disk of an image wasn't sound
unsound_by : (image : List ℕ) (slot : ℕ) (kind : FileType) (f : ShellFault) → IsUnedited (tracks_of (kind_of image) image) (content_of (kind_of image) image) ⊥ f
    → IsNotRetypedInSlot image slot kind f
unsound_by image slot kind (fault.Unsound u) h = inl h
unsound_by image slot kind fault.Memory h = absurd h
unsound_by image slot kind (fault.Image n) h = absurd h
unsound_by image slot kind (fault.Refused s) h = absurd h
unsound_by image slot kind (fault.Trouble t) h = absurd h
unsound_by image slot kind fault.NotFound h = absurd h
unsound_by image slot kind fault.NotClosed h = absurd h
unsound_by image slot kind fault.Mistaken h = absurd h

pub was_unsound : (image : List ℕ) (seen : Seen) (slot : ℕ) (kind : FileType) (f : ShellFault) → IsImageOpened image seen → IsUnedited seen.tracks seen.content ⊥ f
    → IsNotRetypedInSlot image slot kind f
was_unsound image seen slot kind f is h =
    unsound_by image slot kind f (subst (λ c. IsUnedited (tracks_of (kind_of image) image) c ⊥ f) is.same_content (subst (λ n. IsUnedited n seen.content ⊥ f) is.same_tracks h))

-- the file of an image isn't retyped
kept_by : (image : List ℕ) (slot : ℕ) (kind : FileType) (f : ShellFault) → IsUnretyped (tracks_of (kind_of image) image) (content_of (kind_of image) image) slot kind f
    → IsNotRetypedInSlot image slot kind f
kept_by image slot kind (fault.Unsound u) h = inr h
kept_by image slot kind fault.Memory h = h
kept_by image slot kind (fault.Image n) h = absurd h
kept_by image slot kind (fault.Refused s) h = h
kept_by image slot kind (fault.Trouble t) h = h
kept_by image slot kind fault.NotFound h = h
kept_by image slot kind fault.NotClosed h = absurd h
kept_by image slot kind fault.Mistaken h = absurd h

pub not_retyped : {A : Type 0} (image : List ℕ) (seen : Seen) (slot : ℕ) (kind : FileType) (r : Result A ShellFault) → IsImageOpened image seen
    → IfErr r (IsUnretyped seen.tracks seen.content slot kind) → IfErr r (IsNotRetypedInSlot image slot kind)
not_retyped image seen slot kind (Ok v) is h = tt
not_retyped image seen slot kind (Err f) is h =
    kept_by image slot kind f (subst (λ c. IsUnretyped (tracks_of (kind_of image) image) c slot kind f) is.same_content (subst (λ n. IsUnretyped n seen.content slot kind f) is.same_tracks h))
