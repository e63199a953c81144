-- Why a disk isn't changed where no command of the drive changes it: of a sound disk that can be written, no trouble comes.
use Rattle.std.proofs.Common.{◌≡◌, ℕ, ◌*◌, ◌<◌, List, length, false, Result, Some, Ok, Err, sym, ap, subst, ◌∙◌, arith, inl, inr}
use Rattle.std.specs.Prelude.{IfErr, IfOk, ◌⊎◌}
use Rattle.cbm_medium.specs.Place.{Place}
use Rattle.cbm_medium.specs.Content.{Content}
use Rattle.cbm_medium.specs.Seen.{Seen}
use Rattle.cbm_medium.specs.Links.{Chain}
use Rattle.cbm_medium.specs.declared.fault.Trouble.{Trouble}
use Rattle.cbm_file.specs.Files.{Disk}
use Rattle.cbm_bam.specs.Causes.{HasCause}
use Rattle.cbm_directory.specs.Entries.{first_directory, sector_of}
use Rattle.cbm_bam.specs.Map.{geometry_of}
use Rattle.cbm_directory.specs.Slots.{Listed, Answers, directory_of}
use Rattle.cbm_volume.specs.Layouts.{Layout, slot_count, Sound}
use Rattle.cbm_volume.specs.Holding.{HoldsDisk}
use Rattle.cbm_volume.specs.Opens.{IsHindered}
use Rattle.cbm_volume.specs.Unmendable.{IsUnmendable, IsUnmended}
use Rattle.cbm_volume.proofs.layouts.Listing.{directory_listed, entry_found}
use Rattle.cbm_volume.proofs.layouts.Refusals.{sector_hindered, sector_reads}
use Rattle.cbm_volume.proofs.written.Storing.{geometry_elsewhere}
use Rattle.cbm_image.specs.declared.kind.Kind.{Kind}
use Rattle.cbm_image.specs.Images.{kind_of, tracks_of, content_of, ImageHolds}
use Rattle.cbm_shell.specs.declared.fault.ShellFault.{ShellFault}
use Rattle.cbm_shell.specs.declared.fault.ShellFault.TheVariants as fault
use Rattle.cbm_shell.specs.Images.{IsImageOpened, IsSaved, IsOpenFault, IsSoundDisk, IsSoundImage}
use Rattle.cbm_shell.specs.Editing.{IsUnedited, IsUneditedIn, CanBeEdited}
use Rattle.cbm_shell.proofs.ImageLemmas.{of_image, as_open_fault, as_other_fault, saved_holds}
use Rattle.cbm_shell.proofs.EntryLemmas.{StaysSound}

-- ---- no trouble comes

-- a medium that never fails by itself, and that isn't protected, hinders nothing
pub hindered_never : (old new : Seen) (t : Trouble) → old.protected ≡ false → old.failures ≡ 0 → new.failures ≡ 0 → IsHindered old new t → ⊥
hindered_never old new t free a b (inl k) = let z = sym free ∙ k.0 in (cc)
hindered_never old new t free a b (inr k) = omega arith

-- so what VALIDATE refuses there can't be mended
pub unmended : (old new : Seen) (t : Trouble) → old.protected ≡ false → old.failures ≡ 0 → new.failures ≡ 0 → IsUnmended old new t ⊎ IsHindered old new t → IsUnmendable (geometry_of old.tracks old.content) old.content t
unmended old new t free a b (inl h) = h.0
unmended old new t free a b (inr h) = absurd (hindered_never old new t free a b h)

-- the directory doesn't break off
pub whole_directory : (tracks : ℕ) (c : Content) (l : Layout) (t : Trouble) → Sound tracks c l → (directory_of tracks c).trouble ≡ Some t → ⊥
whole_directory tracks c l t s e = let z = sym (ap (λ (d : Listed). d.trouble) (directory_listed tracks c l s)) ∙ e in (cc)

-- an entry is put where it stands
pub put_never : (tracks n : ℕ) (old new : Seen) (entry : List ℕ) (t : Trouble) → CanBeEdited tracks old → Answers (directory_of tracks old.content) n (Ok (Some entry)) → old.failures ≡ 0 → new.failures ≡ 0
    → ((directory : List Place) → Chain tracks old.content first_directory directory → n < 8 * length directory → HasCause old new (sector_of directory n) t.code) → ⊥
put_never tracks n old new entry t can stands a b cause =
    let l : Layout = can.layout in
    let room : n < slot_count l = (entry_found tracks old.content l n entry can.sound stands).0 in
    hindered_never old new t can.free a b
    (sector_hindered old new (sector_of l.directory n) t (sector_reads tracks old.content l.directory n can.sound.directory room) (cause l.directory can.sound.directory room))

-- the same on the medium of a volume
pub put_at : {M : Type 0} (seen : M → Seen) (volume medium after : M) (tracks geometry n : ℕ) (entry : List ℕ) (t : Trouble) → ((m : M) → (seen m).failures ≡ 0) → medium ≡ volume → geometry ≡ tracks → CanBeEdited tracks (seen volume)
    → Answers (directory_of tracks (seen volume).content) n (Ok (Some entry))
    → ((directory : List Place) → Chain geometry (seen medium).content first_directory directory → n < 8 * length directory → HasCause (seen medium) (seen after) (sector_of directory n) t.code) → ⊥
put_at seen volume medium after tracks geometry n entry t steady same at can stands cause =
    put_never geometry n (seen medium) (seen after) entry t
    (subst (λ m. CanBeEdited geometry (seen m)) (sym same) (subst (λ k. CanBeEdited k (seen volume)) (sym at) can))
    (subst (λ m. Answers (directory_of geometry (seen m).content) n (Ok (Some entry))) (sym same) (subst (λ k. Answers (directory_of k (seen volume).content) n (Ok (Some entry))) (sym at) stands))
    (steady medium) (steady after) cause

-- ---- from the disk of an image to the image

pub edit_opened : (image : List ℕ) (absent : Type 0) (f : ShellFault) → IsOpenFault image f → IsUneditedIn image absent f
edit_opened image absent f h = as_open_fault image (IsUnedited (tracks_of (kind_of image) image) (content_of (kind_of image) image) absent) f h

pub edit_fault : (image : List ℕ) (seen : Seen) (absent : ℕ → Content → Type 0) (f : ShellFault) → IsImageOpened image seen → IsUnedited seen.tracks seen.content (absent seen.tracks seen.content) f
    → IsUneditedIn image (absent (tracks_of (kind_of image) image) (content_of (kind_of image) image)) f
edit_fault image seen absent f opened h =
    as_other_fault image (IsUnedited (tracks_of (kind_of image) image) (content_of (kind_of image) image) (absent (tracks_of (kind_of image) image) (content_of (kind_of image) image))) f (λ n k. k)
    (of_image (λ (n : ℕ) (c : Content). IsUnedited n c (absent n c) f) image seen opened h)

-- the disk isn't sound
pub edit_unsound : (image : List ℕ) (seen : Seen) (absent : Type 0) (f : ShellFault) → IsImageOpened image seen → IsUnedited seen.tracks seen.content ⊥ f → IsUneditedIn image absent f
edit_unsound image seen absent f opened h = edit_fault image seen (λ n c. absent) f opened (more f h)
  where
    more : (f : ShellFault) → IsUnedited seen.tracks seen.content ⊥ f → IsUnedited seen.tracks seen.content absent f
    more (fault.Unsound u) k = k
    more fault.NotFound k = absurd k
    more fault.Memory k = absurd k
    more (fault.Image n) k = absurd k
    more (fault.Refused s) k = absurd k
    more (fault.Trouble t) k = absurd k
    more fault.NotClosed k = absurd k
    more fault.Mistaken k = absurd k

-- a fault of the change itself, on the sound disk of an image
pub edit_sound : (image : List ℕ) (seen : Seen) (absent : ℕ → Content → Type 0) (f : ShellFault) → IsImageOpened image seen → IsSoundDisk seen.tracks seen.content
    → (CanBeEdited (geometry_of seen.tracks seen.content) seen → IsUnedited seen.tracks seen.content (absent seen.tracks seen.content) f)
    → IsUneditedIn image (absent (tracks_of (kind_of image) image) (content_of (kind_of image) image)) f
edit_sound image seen absent f is sound h = edit_fault image seen absent f is (h (record { layout = sound.0; sound = sound.1; free = is.free }))

-- there is no memory for the new image
pub edit_saved : {A : Type 0} (image : List ℕ) (absent : Type 0) (r : Result A ShellFault) → IfErr r (λ f. f ≡ fault.Memory) → IfErr r (IsUneditedIn image absent)
edit_saved image absent (Ok v) h = tt
edit_saved image absent (Err f) h = subst (λ g. IsUneditedIn image absent g) (sym h) tt

-- ---- the new image is sound

pub sound_anew : (old new : Seen) → new.tracks ≡ old.tracks → StaysSound (geometry_of old.tracks old.content) old.content new.content → IsSoundDisk new.tracks new.content
sound_anew old new t s =
    let g : geometry_of new.tracks new.content ≡ geometry_of old.tracks old.content = ap (λ (n : ℕ). geometry_of n new.content) t ∙ geometry_elsewhere old.tracks old.content new.content s.head in
    (s.layout, subst (λ (n : ℕ). Sound n new.content s.layout) (sym g) s.sound)

pub saved_sound : (kind other : Kind) (image : List ℕ) (seen : Seen) → other ≡ kind → IsSaved kind image seen → IsSoundDisk seen.tracks seen.content → IsSoundImage other image
saved_sound kind other image seen same s h =
    subst (λ k. IsSoundImage k image) (sym same)
    (subst (λ c. IsSoundDisk (tracks_of kind image) c) s.same_content (subst (λ n. IsSoundDisk n seen.content) s.same_tracks h))

pub image_sound : {A : Type 0} (items : A → List ℕ) (kind other : Kind) (seen : Seen) (r : Result A ShellFault) → other ≡ kind → IfOk r (λ v. IsSaved kind (items v) seen) → IsSoundDisk seen.tracks seen.content
    → IfOk r (λ v. IsSoundImage other (items v))
image_sound items kind other seen (Ok v) same s h = saved_sound kind other (items v) seen same s h
image_sound items kind other seen (Err f) same s h = tt

-- and holds what the disk holds
pub image_means : {A : Type 0} (items : A → List ℕ) (kind other : Kind) (seen : Seen) (d : Disk) (r : Result A ShellFault) → other ≡ kind → IfOk r (λ v. IsSaved kind (items v) seen) → HoldsDisk seen.tracks seen.content d
    → IfOk r (λ v. ImageHolds other (items v) d)
image_means items kind other seen d (Ok v) same s h = saved_holds kind other (items v) seen d same s h
image_means items kind other seen d (Err f) same s h = tt
