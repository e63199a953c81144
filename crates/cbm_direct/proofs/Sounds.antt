-- That a drive represents some machine, if its disk was sound when it was put in and its medium didn't fail since, is kept by each call.
use Rattle.std.proofs.Common.{◌≡◌, ◌≤◌, Bool, true, false, Result, Ok, Err, refl, sym, subst, arith, inr}
use Rattle.cbm_medium.specs.Seen.{Seen, HasFailed}
use Rattle.cbm_file.specs.Files.{Disk}
use Rattle.cbm_medium.specs.Place.{Place}
use Rattle.cbm_medium.specs.declared.fault.Trouble.{Trouble}
use Rattle.cbm_bam.specs.Map.{geometry_of, map_of, is_free_in}
use Rattle.cbm_volume.specs.Holding.{HoldsDisk, HasSoundLayout}
use Rattle.cbm_volume.proofs.layouts.Meaning.{sound_means}
use Rattle.cbm_machine.specs.Machines.{Machine}
use Rattle.cbm_channel.specs.Standing.{Kept, Stands}
use Rattle.cbm_channel.proofs.Stands.{means_of}
use Rattle.cbm_channel.specs.Loosely.{ClaimsAt, GivesAt, with_one_fewer, with_one_more}
use Rattle.cbm_direct.specs.declared.access.Access.{Access}
use Rattle.cbm_direct.specs.declared.access.Access.TheVariants.{Guarded, Raw}
use Rattle.cbm_direct.specs.declared.vouch.Vouch.{Vouch}
use Rattle.cbm_direct.specs.declared.vouch.Vouch.TheVariants.{Sound, Unsound, Unknown}
use Rattle.cbm_direct.specs.Spared.{is_spared_by}
use Rattle.cbm_direct.specs.Vouching.{ShowsDisk, IsSoundSince, IsVouchOf, StandsIfSound, GivesBy}

-- a sound layout means a disk
pub shows_disk : (now : Seen) → HasSoundLayout now → ShowsDisk now
shows_disk now l = sound_means (geometry_of now.tracks now.content) now.content l.0 l.1

-- put in, with a machine for each disk that it may show
pub begun : {M : Type 0} (seen : M → Seen) (v : Vouch) (now : Seen) (k : Kept M) (made : Disk → Machine) → seen k.medium ≡ now
    → IsVouchOf now v
    → ((d : Disk) → HoldsDisk now.tracks now.content d → Stands seen k (made d)) → StandsIfSound seen v k
begun seen Unsound now k made same h stands = tt
begun seen Unknown now k made same h stands = tt
begun seen (Sound n) now k made same h stands = record {
  counted = (let e : (seen k.medium).failures ≡ n = rw same (sym h.0) in omega (arith, e));
  stands = λ few. (made h.1.0, stands h.1.0 h.1.1);
}

-- what represents some machine has a sound disk
pub sound_as_it_stands : {M : Type 0} (seen : M → Seen) (v : Vouch) (k : Kept M) (medium : M) → k.medium ≡ medium → StandsIfSound seen v k → IsSoundSince v (seen medium)
sound_as_it_stands seen Unsound k medium same h = tt
sound_as_it_stands seen Unknown k medium same h = tt
sound_as_it_stands seen (Sound n) k medium same h = λ few.
    let m = h.stands (subst (λ x. (seen x).failures ≤ n) (sym same) few) in
    (m.0.disk, subst (λ x. HoldsDisk (seen x).tracks (seen x).content m.0.disk) same (means_of _ _ _ _ _ _ m.0 m.1))

module _ {M : Type 0} (seen : M → Seen) (old new : Kept M) where
  -- a call in which the medium may have failed
  pub kept : (v : Vouch) → (seen old.medium).failures ≤ (seen new.medium).failures
      → ((HasFailed (seen old.medium) (seen new.medium) → ⊥) → (m : Machine) → Stands seen old m → (n : Machine) × Stands seen new n)
      → StandsIfSound seen v old → StandsIfSound seen v new
  kept Unsound up goes h = tt
  kept Unknown up goes h = tt
  kept (Sound n) up goes h = record {
    counted = (let was = h.counted in omega (arith, up, was));
    stands = λ few. (let was = h.counted in let m = h.stands (omega (arith, few, up)) in goes (λ f. omega (arith, f, few, was)) m.0 m.1);
  }

-- a claim leaves a machine, whatever came of it
pub claims_stand : {M : Type 0} (seen : M → Seen) (p : Place) (r : Result Bool Trouble) (old new : Kept M) → ClaimsAt seen p r old new → (m : Machine) → Stands seen old m → (n : Machine) × Stands seen new n
claims_stand seen p (Ok true) old new h m s = (with_one_fewer p.track m, h.leads refl m s)
claims_stand seen p (Ok false) old new h m s = (m, h.stays (λ e. (cc)) m s)
claims_stand seen p (Err t) old new h m s = (m, h.stays (λ e. (cc)) m s)

-- and so does a release
pub gives_stand : {M : Type 0} (seen : M → Seen) (p : Place) (r : Result Bool Trouble) (old new : Kept M) → GivesAt seen p r old new → (m : Machine) → Stands seen old m → (n : Machine) × Stands seen new n
gives_stand seen p (Ok true) old new h m s = by_bit (is_free_in (map_of (seen old.medium).content) p) refl
  where
    by_bit : (b : Bool) → is_free_in (map_of (seen old.medium).content) p ≡ b → (n : Machine) × Stands seen new n
    by_bit true e = (m, h.free refl e m s)
    by_bit false e = (with_one_more p.track m, h.leads refl e m s)
gives_stand seen p (Ok false) old new h m s = (m, h.stays (λ e. (cc)) m s)
gives_stand seen p (Err t) old new h m s = (m, h.stays (λ e. (cc)) m s)

-- a release of a sector that isn't spared, by the access
pub gives_other : {M : Type 0} (seen : M → Seen) (p : Place) (access : Access) (r : Result Bool Trouble) (old new : Kept M) → is_spared_by access (seen old.medium) p ≡ false
    → GivesAt seen p r old new → GivesBy access seen p r old new
gives_other seen p Guarded r old new unspared h = inr (unspared, h)
gives_other seen p Raw r old new unspared h = h
