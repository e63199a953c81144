-- From the bytes of an image to its disk, and back.
use Rattle.std.proofs.Common.{◌≡◌, ◌⊎◌, ℕ, List, None, Bool, true, false, sym, ap, subst, ◌∙◌, inl, inr}
use Rattle.std.specs.Prelude.{Result, Ok, Err, MatchResult, IfErr, IfOk, OnOk}
use Rattle.cbm_medium.specs.Content.{Content}
use Rattle.cbm_medium.specs.Seen.{Seen, Outside}
use Rattle.cbm_file.specs.Files.{Disk}
use Rattle.cbm_file.specs.Changes.{validated}
use Rattle.cbm_bam.specs.Map.{geometry_of}
use Rattle.cbm_volume.specs.Layouts.{Layout, Sound}
use Rattle.cbm_volume.specs.check.WholeDisk.{DiskFault}
use Rattle.cbm_volume.specs.Holding.{HoldsDisk}
use Rattle.cbm_volume.specs.declared.Unsound.{Unsound}
use Rattle.cbm_machine.specs.Machines.{start}
use Rattle.cbm_channel.specs.Going.{IsOutsideKept}
use Rattle.cbm_image.specs.declared.kind.Kind.{Kind}
use Rattle.cbm_image.specs.Images.{kind_of, image_fault, tracks_of, content_of, outside_of, ImageHolds, OpensAgain, KeepsOtherBytes, ChangesSectors}
use Rattle.cbm_image.proofs.Again.{KeepsOrFormats, opens_again}
use Rattle.cbm_shell.specs.declared.fault.ShellFault.{ShellFault}
use Rattle.cbm_shell.specs.declared.fault.ShellFault.TheVariants as fault
use Rattle.cbm_shell.specs.Images.{IsImageOpened, IsSaved, IsOpenFault, OrOpenFault, IsChecked, IsInOrder}

-- the disk of an image holds what the image holds
pub opened_holds : (image : List ℕ) (seen : Seen) (d : Disk) → IsImageOpened image seen → ImageHolds (kind_of image) image d → HoldsDisk seen.tracks seen.content d
opened_holds image seen d o h =
    subst (λ c. HoldsDisk seen.tracks c d) (sym o.same_content) (subst (λ n. HoldsDisk n (content_of (kind_of image) image) d) (sym o.same_tracks) h)

-- the machine of the disk at power up is that of the image
pub same_start : (image : List ℕ) (seen : Seen) (d : Disk) → IsImageOpened image seen → start d seen.protected seen.tracks ≡ start d false (tracks_of (kind_of image) image)
same_start image seen d o = ap (λ b. start d b seen.tracks) o.free ∙ ap (λ n. start d false n) o.same_tracks

-- the image that is saved holds what the disk holds
pub saved_holds : (kind other : Kind) (image : List ℕ) (seen : Seen) (d : Disk) → other ≡ kind → IsSaved kind image seen → HoldsDisk seen.tracks seen.content d
    → ImageHolds other image d
saved_holds kind other image seen d same s h =
    subst (λ k. ImageHolds k image d) (sym same)
    (subst (λ c. HoldsDisk (tracks_of kind image) c d) s.same_content (subst (λ n. HoldsDisk n seen.content d) s.same_tracks h))

-- a fault of opening, or another one
pub as_open_fault : (image : List ℕ) (P : ShellFault → Type 0) (f : ShellFault) → IsOpenFault image f → OrOpenFault image P f
as_open_fault image P fault.Memory h = tt
as_open_fault image P (fault.Image n) h = h
as_open_fault image P (fault.Unsound u) h = absurd h
as_open_fault image P (fault.Refused s) h = absurd h
as_open_fault image P (fault.Trouble t) h = absurd h
as_open_fault image P fault.NotFound h = absurd h
as_open_fault image P fault.NotClosed h = absurd h
as_open_fault image P fault.Mistaken h = absurd h

pub as_other_fault : (image : List ℕ) (P : ShellFault → Type 0) (f : ShellFault) → ((n : ℕ) → P (fault.Image n) → ⊥) → P f → OrOpenFault image P f
as_other_fault image P fault.Memory never h = tt
as_other_fault image P (fault.Image n) never h = absurd (never n h)
as_other_fault image P (fault.Unsound u) never h = h
as_other_fault image P (fault.Refused s) never h = h
as_other_fault image P (fault.Trouble t) never h = h
as_other_fault image P fault.NotFound never h = h
as_other_fault image P fault.NotClosed never h = h
as_other_fault image P fault.Mistaken never h = h

-- a result whose fault may be one of opening, too
pub or_open_fault : {A : Type 0} (image : List ℕ) (r : Result A ShellFault) (P : A → Type 0) (Q : ShellFault → Type 0) → ((n : ℕ) → Q (fault.Image n) → ⊥) → MatchResult r P Q → MatchResult r P (OrOpenFault image Q)
or_open_fault image (Ok v) P Q never h = h
or_open_fault image (Err f) P Q never h = as_other_fault image Q f never h

-- want of memory is a fault of opening
pub memory_open : {A : Type 0} (image : List ℕ) (r : Result A ShellFault) → IfErr r (λ f. f ≡ fault.Memory) → IfErr r (IsOpenFault image)
memory_open image (Ok v) h = tt
memory_open image (Err f) h = subst (λ g. IsOpenFault image g) (sym h) tt

-- the disk is saved, or memory for its image is refused
pub saved_image : {A : Type 0} (image : List ℕ) (items : A → List ℕ) (kind other : Kind) (seen : Seen) (d : Disk) (Fine : Type 0) (P : ShellFault → Type 0) (r : Result A ShellFault) → other ≡ kind
    → IfOk r (λ v. IsSaved kind (items v) seen) → IfErr r (λ f. f ≡ fault.Memory) → Fine → HoldsDisk seen.tracks seen.content d
    → MatchResult r (λ v. Fine × ImageHolds other (items v) d) (OrOpenFault image P)
saved_image image items kind other seen d Fine P (Ok v) same s m fine h = (fine, saved_holds kind other (items v) seen d same s h)
saved_image image items kind other seen d Fine P (Err f) same s m fine h = subst (λ g. OrOpenFault image P g) (sym m) tt

-- what holds of a disk's content holds of the image's
pub sound_image : (image : List ℕ) (seen : Seen) → IsImageOpened image seen → (l : Layout) × Sound (geometry_of seen.tracks seen.content) seen.content l
    → (l : Layout) × Sound (geometry_of (tracks_of (kind_of image) image) (content_of (kind_of image) image)) (content_of (kind_of image) image) l
sound_image image seen o h =
    subst (λ n. (l : Layout) × Sound (geometry_of n (content_of (kind_of image) image)) (content_of (kind_of image) image) l) o.same_tracks
    (subst (λ c. (l : Layout) × Sound (geometry_of seen.tracks c) c l) o.same_content h)

pub checked_image : (image : List ℕ) (seen : Seen) (r : Result (Unit {0}) Unsound) → IsImageOpened image seen → IsChecked seen.tracks seen.content r
    → IsChecked (tracks_of (kind_of image) image) (content_of (kind_of image) image) r
checked_image image seen r o h =
    subst (λ n. IsChecked n (content_of (kind_of image) image) r) o.same_tracks (subst (λ c. IsChecked seen.tracks c r) o.same_content h)

pub as_checked : (tracks : ℕ) (content : Content) (r : Result (Unit {0}) Unsound) → OnOk r ((l : Layout) × Sound (geometry_of tracks content) content l)
    → IfErr r (λ u. DiskFault (geometry_of tracks content) content u) → IsChecked tracks content r
as_checked tracks content (Ok _) h k = h
as_checked tracks content (Err u) h k = k

-- the disk that was put in order is saved
pub in_order : {A : Type 0} (items : A → List ℕ) (kind other : Kind) (seen : Seen) (r : Result A ShellFault) → other ≡ kind → IfOk r (λ v. IsSaved kind (items v) seen)
    → (e : Disk) × HoldsDisk seen.tracks seen.content e × (e ≡ validated e) → IfOk r (λ v. IsInOrder other (items v))
in_order items kind other seen (Ok v) same s (e, holds, still) = record { faultless = subst (λ k. image_fault k (items v) ≡ None) (sym same) s.faultless; disk = e; holds = saved_holds kind other (items v) seen e same s holds; still = still }
in_order items kind other seen (Err f) same s h = tt

-- what holds of what a disk shows holds of its image
pub of_image : (P : ℕ → Content → Type 0) (image : List ℕ) (seen : Seen) → IsImageOpened image seen → P seen.tracks seen.content
    → P (tracks_of (kind_of image) image) (content_of (kind_of image) image)
of_image P image seen o h = subst (λ n. P n (content_of (kind_of image) image)) o.same_tracks (subst (λ c. P seen.tracks c) o.same_content h)

pub from_image : (P : ℕ → Content → Type 0) (image : List ℕ) (seen : Seen) → IsImageOpened image seen
    → P (tracks_of (kind_of image) image) (content_of (kind_of image) image) → P seen.tracks seen.content
from_image P image seen o h =
    subst (λ n. P n seen.content) (sym o.same_tracks) (subst (λ c. P (tracks_of (kind_of image) image) c) (sym o.same_content) h)

-- a fault of what follows the opening
pub or_other : {A : Type 0} (r : Result A ShellFault) (P Q : ShellFault → Type 0) → IfErr r Q → IfErr r (λ f. P f ⊎ Q f)
or_other (Ok v) P Q h = tt
or_other (Err f) P Q h = inr h

-- want of memory is a fault of opening, too
pub memory_alone : {A : Type 0} (image : List ℕ) (r : Result A ShellFault) → IfErr r (λ f. f ≡ fault.Memory) → IfErr r (IsOpenFault image)
memory_alone image (Ok v) h = tt
memory_alone image (Err f) h = subst (λ g. IsOpenFault image g) (sym h) tt

-- a result whose one fault is want of memory
pub or_memory : {A : Type 0} (image : List ℕ) (r : Result A ShellFault) (P : A → Type 0) → MatchResult r P (λ f. f ≡ fault.Memory) → MatchResult r P (IsOpenFault image)
or_memory image (Ok v) P h = h
or_memory image (Err f) P h = subst (λ g. IsOpenFault image g) (sym h) tt

-- ---- what is outside the sectors

-- what holds of the bytes outside the sectors before a change and after it holds of the images
outside_images : (P : Outside → Outside → Type 0) (image new : List ℕ) (kind : Kind) (old seen : Seen) → kind ≡ kind_of image → IsImageOpened image old → P old.outside seen.outside → IsSaved kind new seen
    → P (outside_of (kind_of image) image) (outside_of (kind_of image) new)
outside_images P image new kind old seen is opened h saved =
    subst (λ (o : Outside). P o (outside_of (kind_of image) new)) opened.same_outside
    (subst (λ (o : Outside). P old.outside o) (saved.same_outside ∙ ap (λ (k : Kind). outside_of k new) is) h)

-- the new image opens again
pub again_if : {A : Type 0} (items : A → List ℕ) (r : Result A ShellFault) (image : List ℕ) (kind : Kind) (old seen : Seen) → kind ≡ kind_of image → IsImageOpened image old → KeepsOrFormats old.outside seen.outside
    → IfOk r (λ v. IsSaved kind (items v) seen) → IfOk r (λ v. OpensAgain image (items v))
again_if items (Err f) image kind old seen is opened kept saved = tt
again_if items (Ok v) image kind old seen is opened kept saved =
    opens_again image (items v) (subst (λ (k : Kind). image_fault k (items v) ≡ None) is saved.faultless) (outside_images KeepsOrFormats image (items v) kind old seen is opened kept saved)

-- and has all other bytes of the old one
pub bytes_if : {A : Type 0} (items : A → List ℕ) (r : Result A ShellFault) (image : List ℕ) (kind : Kind) (old seen : Seen) → kind ≡ kind_of image → IsImageOpened image old → seen.outside ≡ old.outside
    → IfOk r (λ v. IsSaved kind (items v) seen) → IfOk r (λ v. KeepsOtherBytes image (items v))
bytes_if items (Err f) image kind old seen is opened same saved = tt
bytes_if items (Ok v) image kind old seen is opened same saved = outside_images (λ before after. after ≡ before) image (items v) kind old seen is opened same saved

-- AN IMAGE OF A DISK of which only the sectors were changed
pub in_sectors : {A : Type 0} (items : A → List ℕ) (r : Result A ShellFault) (image : List ℕ) (kind : Kind) (old seen : Seen) → kind ≡ kind_of image → IsImageOpened image old → seen.outside ≡ old.outside
    → IfOk r (λ v. IsSaved kind (items v) seen) → IfOk r (λ v. ChangesSectors image (items v))
in_sectors items r image kind old seen is opened same saved = both r (again_if items r image kind old seen is opened (inl same) saved) (bytes_if items r image kind old seen is opened same saved)
  where
    both : (q : Result _ ShellFault) → IfOk q (λ v. OpensAgain image (items v)) → IfOk q (λ v. KeepsOtherBytes image (items v)) → IfOk q (λ v. ChangesSectors image (items v))
    both (Err f) a b = tt
    both (Ok v) a b = record { again = a; bytes = b }

-- an image without fault that has the bytes outside the sectors of the disk that was opened
pub sectors_only : (image new : List ℕ) (kind : Kind) (old : Seen) → kind ≡ kind_of image → IsImageOpened image old → image_fault kind new ≡ None → outside_of kind new ≡ old.outside → ChangesSectors image new
sectors_only image new kind old is opened faultless kept =
    let same : outside_of (kind_of image) new ≡ outside_of (kind_of image) image = sym (ap (λ (k : Kind). outside_of k new) is) ∙ kept ∙ opened.same_outside in
    record { again = opens_again image new (subst (λ (k : Kind). image_fault k new ≡ None) is faultless) (inl same); bytes = same }

-- where it was saved at all
pub sectors_if : {A : Type 0} (items : A → List ℕ) (r : Result A ShellFault) (image : List ℕ) (kind : Kind) (old : Seen) → kind ≡ kind_of image → IsImageOpened image old → IfOk r (λ v. image_fault kind (items v) ≡ None)
    → IfOk r (λ v. outside_of kind (items v) ≡ old.outside) → IfOk r (λ v. ChangesSectors image (items v))
sectors_if items (Err f) image kind old is opened faultless kept = tt
sectors_if items (Ok v) image kind old is opened faultless kept = sectors_only image (items v) kind old is opened faultless kept

-- of two changes, one after the other
pub again_then : (a b c : List ℕ) → OpensAgain a b → OpensAgain b c → OpensAgain a c
again_then a b c first second = record {
  faultless = subst (λ (k : Kind). image_fault k c ≡ None) first.same_kind second.faultless;
  same_kind = second.same_kind ∙ first.same_kind;
}

pub bytes_then : (a b c : List ℕ) → kind_of b ≡ kind_of a → KeepsOtherBytes a b → KeepsOtherBytes b c → KeepsOtherBytes a c
bytes_then a b c same first second = subst (λ (k : Kind). outside_of k c ≡ outside_of k b) same second ∙ first

pub sectors_then : (a b c : List ℕ) → ChangesSectors a b → ChangesSectors b c → ChangesSectors a c
sectors_then a b c first second = record { again = again_then a b c first.again second.again; bytes = bytes_then a b c first.again.same_kind first.bytes second.bytes }

-- of two, the second of which may fail
pub sectors_after : {A : Type 0} (items : A → List ℕ) (r : Result A ShellFault) (a b : List ℕ) → ChangesSectors a b → IfOk r (λ v. ChangesSectors b (items v)) → IfOk r (λ v. ChangesSectors a (items v))
sectors_after items (Err f) a b first second = tt
sectors_after items (Ok v) a b first second = sectors_then a b (items v) first second

-- of three, the last of which may fail
pub sectors_thrice : {A : Type 0} (items : A → List ℕ) (r : Result A ShellFault) (a b c : List ℕ) → ChangesSectors a b → OpensAgain b c → KeepsOtherBytes b c → IfOk r (λ v. ChangesSectors c (items v)) → IfOk r (λ v. ChangesSectors a (items v))
sectors_thrice items r a b c first again bytes last = sectors_after items r a c (sectors_then a b c first (record { again = again; bytes = bytes })) last

-- ---- by whether a change formats

pub outside_either : (formats : Bool) (old new : Outside) → IsOutsideKept formats old new → KeepsOrFormats old new
outside_either false old new e = inl e
outside_either true old new h = h

pub outside_none : (formats : Bool) (old new : Outside) → formats ≡ false → IsOutsideKept formats old new → new ≡ old
outside_none formats old new none h = subst (λ (b : Bool). IsOutsideKept b old new) none h
