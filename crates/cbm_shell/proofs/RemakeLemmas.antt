-- An image that isn't made anew: where it stops.
use Rattle.std.proofs.Common.{◌≡◌, ℕ, List, subst, Ok, Err}
use Rattle.std.specs.Prelude.{Result, IfErr, Option, Some, MatchOption}
use Rattle.cbm_medium.specs.Content.{Content}
use Rattle.cbm_medium.specs.Seen.{Seen}
use Rattle.cbm_bam.specs.Map.{geometry_of}
use Rattle.cbm_volume.specs.check.WholeDisk.{DiskFault}
use Rattle.cbm_volume.specs.declared.Unsound.{Unsound}
use Rattle.cbm_image.specs.Images.{kind_of, tracks_of, content_of}
use Rattle.cbm_shell.specs.declared.fault.ShellFault.{ShellFault}
use Rattle.cbm_shell.specs.declared.fault.ShellFault.TheVariants as fault
use Rattle.cbm_shell.specs.Editing.{IsUnedited}
use Rattle.cbm_shell.specs.Images.{IsImageOpened, IsOpenFault, OrOpenFault, disk_tracks}
use Rattle.cbm_shell.specs.Remaking.{IsHalted, IsNotSaved, IsFirstFault, MakesFault, IsHaltedBy}

-- at the image
pub stopped_open : (image : List ℕ) (Fault : Unsound → Type 0) (f : ShellFault) → IsOpenFault image f → OrOpenFault image (IsHaltedBy Fault) f
stopped_open image Fault fault.Memory h = tt
stopped_open image Fault (fault.Image n) h = h
stopped_open image Fault f h = absurd h

-- at the old disk
pub stopped_old : (image : List ℕ) (seen : Seen) (Fault : Unsound → Type 0) (f : ShellFault) → IsImageOpened image seen → ((u : Unsound) → IsFirstFault image u → Fault u)
    → IsUnedited seen.tracks seen.content ⊥ f → OrOpenFault image (IsHaltedBy Fault) f
stopped_old image seen Fault (fault.Unsound u) opened make h =
    make u (subst (λ c. DiskFault (geometry_of (tracks_of (kind_of image) image) c) c u) opened.same_content
    (subst (λ t. DiskFault (geometry_of t seen.content) seen.content u) opened.same_tracks h))
stopped_old image seen Fault f opened make h = absurd h

-- on the way
pub stopped_halted : (image : List ℕ) (Fault : Unsound → Type 0) (f : ShellFault) → IsHalted f → OrOpenFault image (IsHaltedBy Fault) f
stopped_halted image Fault fault.Memory h = tt
stopped_halted image Fault (fault.Trouble t) h = tt
stopped_halted image Fault f h = absurd h

-- at the new disk
pub stopped_saved : (image : List ℕ) (new : Seen) (Makes : Content → Type 0) (Fault : Unsound → Type 0) (f : ShellFault) → new.tracks ≡ tracks_of (kind_of image) image → Makes new.content
    → ((u : Unsound) → MakesFault image Makes u → Fault u) → IsNotSaved new f → OrOpenFault image (IsHaltedBy Fault) f
stopped_saved image new Makes Fault fault.Memory same made make h = tt
stopped_saved image new Makes Fault (fault.Unsound u) same made make h =
    make u (new.content, made, subst (λ t. DiskFault (geometry_of t new.content) new.content u) same h)
stopped_saved image new Makes Fault f same made make h = absurd h

pub stopped_new : {A : Type 0} (r : Result A ShellFault) (image : List ℕ) (new : Seen) (Makes : Content → Type 0) (Fault : Unsound → Type 0) → new.tracks ≡ tracks_of (kind_of image) image → Makes new.content
    → ((u : Unsound) → MakesFault image Makes u → Fault u) → IfErr r (IsNotSaved new) → IfErr r (OrOpenFault image (IsHaltedBy Fault))
stopped_new (Ok v) image new Makes Fault same made make h = tt
stopped_new (Err f) image new Makes Fault same made make h = stopped_saved image new Makes Fault f same made make h

-- the image of a disk that isn't sound
pub unsound_unsaved : (seen : Seen) (f : ShellFault) → IsUnedited seen.tracks seen.content ⊥ f → IsNotSaved seen f
unsound_unsaved seen (fault.Unsound u) h = h
unsound_unsaved seen f h = absurd h

-- what holds of the disk that was opened holds of the image's
pub of_image : (P : ℕ → Content → Type 0) (image : List ℕ) (old : Seen) → IsImageOpened image old → P (geometry_of old.tracks old.content) old.content
    → P (disk_tracks image) (content_of (kind_of image) image)
of_image P image old opened h =
    subst (λ c. P (geometry_of (tracks_of (kind_of image) image) c) c) opened.same_content (subst (λ t. P (geometry_of t old.content) old.content) opened.same_tracks h)

pub of_some : {A : Type 0} (o : Option A) (x : A) (P : Type 0) (Q : A → Type 0) → MatchOption o P Q → o ≡ Some x → Q x
of_some o x P Q h e = let s : MatchOption (Some x) P Q = subst (λ q. MatchOption q P Q) e h in s
