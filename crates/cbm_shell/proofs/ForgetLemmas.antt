-- From the disk of an image to the image, where an entry is cleared.
use Rattle.std.proofs.Common.{◌≡◌, ℕ, List, Some, Ok, Err, false, sym, subst, inl, inr, arith}
use Rattle.std.specs.Prelude.{Result, IfOk}
use Rattle.cbm_medium.specs.Content.{Content, refusal}
use Rattle.cbm_medium.specs.Seen.{Seen}
use Rattle.cbm_bam.specs.Map.{geometry_of}
use Rattle.cbm_volume.specs.check.WholeDisk.{DiskFault}
use Rattle.cbm_volume.specs.declared.Unsound.{Unsound}
use Rattle.cbm_medium.specs.declared.fault.Trouble.{Trouble}
use Rattle.cbm_directory.specs.EntryChanges.{ClearsLed, IsEntryRefused}
use Rattle.cbm_image.specs.declared.kind.Kind.{Kind}
use Rattle.cbm_image.specs.Images.{kind_of, tracks_of, content_of}
use Rattle.cbm_shell.specs.declared.fault.ShellFault.{ShellFault}
use Rattle.cbm_shell.specs.Images.{IsImageOpened, IsSaved}
use Rattle.cbm_shell.specs.Forgetting.{IsForgotten, IsOutOfReach}
use Rattle.cbm_shell.proofs.ImageLemmas.{of_image}

pub forgot : (image new : List ℕ) (seen : Seen) (kind : Kind) (slot : ℕ) (u : Unsound) → IsImageOpened image seen → kind_of image ≡ kind
    → DiskFault (geometry_of seen.tracks seen.content) seen.content u → ClearsLed (geometry_of seen.tracks seen.content) seen.content (content_of kind new) slot
    → IsForgotten (geometry_of (tracks_of (kind_of image) image) (content_of (kind_of image) image)) (content_of (kind_of image) image) (content_of (kind_of image) new) slot
forgot image new seen kind slot u opened same fault cleared =
    subst (λ (k : Kind). IsForgotten (geometry_of (tracks_of (kind_of image) image) (content_of (kind_of image) image)) (content_of (kind_of image) image) (content_of k new) slot) (sym same)
    (of_image (λ (n : ℕ) (c : Content). IsForgotten (geometry_of n c) c (content_of kind new) slot) image seen opened (record { fault = u; unsound = fault; cleared = cleared }))

-- the image of the disk that is left
pub image_cleared : {A : Type 0} (items : A → List ℕ) (kind : Kind) (tracks slot : ℕ) (old : Content) (seen : Seen) (r : Result A ShellFault) → IfOk r (λ v. IsSaved kind (items v) seen) → ClearsLed tracks old seen.content slot
    → IfOk r (λ v. ClearsLed tracks old (content_of kind (items v)) slot)
image_cleared items kind tracks slot old seen (Ok v) s h = subst (λ c. ClearsLed tracks old c slot) s.same_content h
image_cleared items kind tracks slot old seen (Err f) s h = tt

-- on a medium that never fails by itself, and that isn't protected, an entry is refused for what the disk shows
pub out_of_reach : (tracks n : ℕ) (old new : Seen) (t : Trouble) → old.protected ≡ false → old.failures ≡ 0 → new.failures ≡ 0 → IsEntryRefused tracks old new n t → IsOutOfReach tracks old.content n t
out_of_reach tracks n old new t free a b (inl h) = inl h
out_of_reach tracks n old new t free a b (inr (p, led, inl e)) = inr (p, led, inl e)
out_of_reach tracks n old new t free a b (inr (p, led, inr (inl e))) = inr (p, led, inr (subst (λ q. refusal q (old.content p) ≡ Some t.code) free e))
out_of_reach tracks n old new t free a b (inr (p, led, inr (inr failed))) = absurd (omega (arith, a, b, failed))
