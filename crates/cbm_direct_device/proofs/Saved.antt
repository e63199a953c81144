-- The image of a drive's disk holds a sound disk, if the disk was put in sound.
use Rattle.std.proofs.Common.{◌≡◌, ℕ, List, Some, arith, sym, subst}
use Rattle.std.specs.Prelude.{Result, Ok, Err, IfErr, IfOk, MatchResult}
use Rattle.cbm_volume.specs.Holding.{HoldsDisk}
use Rattle.cbm_image.specs.Images.{content_of}
use Rattle.cbm_image.specs.declared.kind.Kind.{Kind}
use Rattle.cbm_device.specs.declared.refusal.DeviceRefusal.{DeviceRefusal}
use Rattle.cbm_device.specs.declared.refusal.DeviceRefusal.TheVariants.{Memory}
use Rattle.cbm_device.specs.Devices.{IsUnsaved}
use Rattle.cbm_device.specs.ImageDisks.{Counted, counted_seen, never_fails, IsImageIn}
use Rattle.cbm_direct.specs.declared.vouch.Vouch.{Vouch}
use Rattle.cbm_direct.specs.declared.vouch.Vouch.TheVariants.{Sound, Unsound, Unknown}
use Rattle.cbm_direct_device.specs.DirectDevices.{DirectOnLines, disk_in, vouch_in, HoldsIfSound, IsImageFromDirect, ShowsSoundDisk}

-- it never failed by itself, so it is sound, and the image holds what it holds
pub holds_if_sound : (v : Vouch) (kind : Kind) (disk : Counted) (image : List ℕ) → ShowsSoundDisk v disk → IsImageIn kind disk image → HoldsIfSound v kind image
holds_if_sound Unsound kind disk image sound is = tt
holds_if_sound Unknown kind disk image sound is = tt
holds_if_sound (Sound n) kind disk image sound is =
    let none = never_fails disk in
    let shown = sound (omega (arith, none)) in
    (shown.0, subst (λ k. HoldsDisk k (content_of kind image) shown.0) (sym is.same_tracks) (subst (λ c. HoldsDisk (counted_seen disk).tracks c shown.0) (sym is.same_content) shown.1))

-- the image of the disk was saved, or memory ran out
pub saved_from : {A : Type 0} (items : A → List ℕ) (r : Result A DeviceRefusal) (d : DirectOnLines) (kind : Kind) (disk : Counted) → d.kind ≡ Some kind → disk ≡ disk_in d
    → ShowsSoundDisk (vouch_in d) disk → IfOk r (λ v. IsImageIn kind disk (items v)) → IfErr r (λ why. why ≡ Memory) → MatchResult r (λ v. IsImageFromDirect d (items v)) (IsUnsaved d.kind)
saved_from items (Ok v) d kind disk e same sound ok err = (kind, e, subst (λ k. IsImageIn kind k (items v)) same ok, holds_if_sound (vouch_in d) kind disk (items v) sound ok)
saved_from items (Err why) d kind disk e same sound ok err = subst (λ q. IsUnsaved d.kind q) (sym err) tt
