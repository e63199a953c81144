-- A drive whose state is given goes on.
use Rattle.std.proofs.Common.{◌≡◌, ℕ, List, Option, Some, refl, sym, subst}
use Rattle.std.specs.Prelude.{ℤ}
use Rattle.yellowadze1541.specs.AnyDevices.{OfEither, ActsOn}
use Rattle.yellowadze1541.specs.Drives.{Acts}
use Rattle.yellowadze1541.specs.Snapshots.{GivesState, GivesNoState, SavesState, SavesNoState}
use Rattle.yellowadze1541.specs.declared.any_device.AnyDevice.{AnyDevice}
use Rattle.yellowadze1541.specs.declared.any_device.AnyDevice.TheVariants.{Plain, Direct}
use Rattle.yellowadze1541.specs.declared.inner.Inner.{Inner}

module _ (n : ℤ) (out made : List ℕ) (before needed : ℕ) where
  goes_on : (d : AnyDevice) → OfEither (GivesState n out made before needed) (GivesNoState n out made before needed) d
      → ActsOn (SavesState n out made before needed) (SavesNoState n out made before needed) d d
  goes_on (Plain d) h = (h, refl)
  goes_on (Direct d) h = (h, refl)

  pub saved_by : (old new : Option Inner) (inner : Inner) → old ≡ Some inner → new ≡ Some inner → OfEither (GivesState n out made before needed) (GivesNoState n out made before needed) inner.device
      → Acts old new n (SavesState n out made before needed) (SavesNoState n out made before needed)
  saved_by old new inner e f h =
      subst (λ o. Acts o new n (SavesState n out made before needed) (SavesNoState n out made before needed)) (sym e)
      (subst (λ o. Acts (Some inner) o n (SavesState n out made before needed) (SavesNoState n out made before needed)) (sym f) (goes_on inner.device h))
