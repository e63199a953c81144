-- What a channel says from a byte on.
use Rattle.std.proofs.Common.{◌≡◌, ℕ, zero, suc, List, [], ◌∷◌, ◌++◌, Option, Some, None, refl, ap, true, false, Bool, if◌then◌else◌}
use Rattle.cbm_machine.specs.Machines.{Machine}
use Rattle.cbm_machine.specs.Talking.{peek, taken}
use Rattle.cbm_talk.specs.Talks.{TalkSaid, says}

-- by the byte that waits
abbrev pub says_from : Option (ℕ × Bool) → ℕ → ℕ → List ℕ → Machine → TalkSaid
says_from p n ch so_far m = elim p [
  | None ↦ record { bytes = so_far; marked = false; machine = m }
  | Some p ↦
      if p.1 then record { bytes = so_far ++ p.0 ∷ []; marked = true; machine = taken ch m }
      else says n ch (so_far ++ p.0 ∷ []) (taken ch m)
]

pub says-suc : (n ch : ℕ) (so_far : List ℕ) (m : Machine) → says (suc n) ch so_far m ≡ says_from (peek ch m) n ch so_far m
says-suc n ch so_far m = refl

-- nothing waits
pub none_said : (n ch : ℕ) (so_far : List ℕ) (m : Machine) → peek ch m ≡ None → says n ch so_far m ≡ record { bytes = so_far; marked = false; machine = m }
none_said zero ch so_far m e = refl
none_said (suc n) ch so_far m e = ap (λ p. says_from p n ch so_far m) e
