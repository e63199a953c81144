-- What is known of any truth value.
use Rattle.std.proofs.Common.{◌≡◌, Bool, true, false, refl}
use Rattle.std.specs.Prelude.{◌||◌}
use Rattle.cbm_iec.specs.Hearing.{is_same}

pub same_self : (v : Bool) → is_same v v ≡ true
same_self true = refl
same_self false = refl

pub or_there : (v : Bool) → (v || true) ≡ true
or_there true = refl
or_there false = refl
