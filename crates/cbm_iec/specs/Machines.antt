-- The machine above the wires and what it is told by the bus.
use Rattle.std.specs.Prelude.{ℕ, ◌≡◌, ◌<◌, ◌&&◌, Bool, true, false, not, Option, Some, None, IfSome, IsSome}
use Rattle.cbm_iec.specs.declared.machine.Act.{Act}
use Rattle.cbm_iec.specs.declared.machine.Act.TheVariants.{Said}

module _ (M : Type 0) (step : M → Act → M) where
  -- the machine after an act, or after none
  abbrev pub acted : Option Act → M → M
  acted None m = m
  acted (Some act) m = step m act

-- a byte that isn't the last
abbrev pub goes_on : Option (ℕ × Bool) → Bool
goes_on None = false
goes_on (Some said) = not said.1

-- with this act such a byte was said, so there must be another
abbrev pub owes : Act → Option (ℕ × Bool) → Bool
owes (Said byte last) shown = not last && goes_on shown
owes act shown = false

-- WHAT A MACHINE SHOWS AFTER AN ACT, before which it showed this: a byte, or nothing to say; and after a byte that isn't the last there is another.
abbrev pub IsShownAfter : Act → Option (ℕ × Bool) → Option (ℕ × Bool) → Type 0
IsShownAfter act before now = IfSome now (λ s. s.0 < 256) × (owes act before ≡ true → IsSome now)
