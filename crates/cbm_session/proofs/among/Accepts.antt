-- A drive among others accepts a byte with them.
use Rattle.std.proofs.Common.{◌≡◌, ℕ, zero, suc, Bool, true, false, List, [], ◌∷◌, ◌++◌, Option, Some, None, ap, sym, refl}
use Rattle.std.specs.Prelude.{if◌then◌else◌, nat_eq}
use Rattle.cbm_iec.specs.declared.machine.Act.{Act}
use Rattle.cbm_iec.specs.declared.ear.Ear.TheVariants.{Holding, Accepting}
use Rattle.cbm_iec.specs.declared.lines.Way.TheVariants.{Pull}
use Rattle.cbm_iec.specs.declared.party.Party.{Party}
use Rattle.cbm_iec.specs.declared.party.Role.{Role}
use Rattle.cbm_iec.specs.declared.port.Port.{Port}
use Rattle.cbm_iec.specs.declared.port.Side.TheVariants.{Hearing}
use Rattle.cbm_session.proofs.alone.Frames.{wires, stands, accepted_role, told_by}
use Rattle.cbm_session.proofs.among.Changes.{Changes, none, other, own, own_after_it}
use Rattle.cbm_session.proofs.joining.Merging.{NoneBefore, InOrder}
use Rattle.cbm_session.specs.Among.{Rest, some, FirstIsAfter, FollowsAmong, hears, reacts}
use Rattle.cbm_session.specs.Seats.{lines}
use Rattle.cbm_session.specs.Steps.{Mark, Step, For}

-- what counts for another drive counts nothing for this one
pub unmarked : (d o : ℕ) (act : Act) → nat_eq d o ≡ false → None ≡ (if nat_eq d o then Some act else None)
unmarked d o act h = sym (ap (λ (v : Bool). if v then Some act else None) h)

-- k drives hold it, and m more
abbrev pub up : ℕ → ℕ → ℕ
up zero k = k
up (suc m) k = up m (suc k)

module _ (peek : Option (ℕ × Bool)) (b : Party) (role : Role) (eoi : Bool) (byte : ℕ) (r2 : Rest) (q2 : Port) (ys : List Step) where
  -- the host holds CLOCK, so many drives DATA
  abbrev pub kept : Bool → ℕ → Rest
  kept atn k = record { host = wires atn true false; clocks = zero; datas = k }

  abbrev pub accepting : Bool → ℕ → ℕ → Port
  accepting atn at k = stands b role (lines false false) (wires atn true (some k)) (Hearing (Accepting at eoi byte))

  abbrev pub again : Bool → ℕ → Port
  again atn k = stands b (accepted_role peek b role atn byte) (lines false true) (wires atn true (some k)) (Hearing Holding)

  abbrev pub marked : Bool → ℕ → Mark
  marked atn o = For o (told_by peek b role atn byte eoi)

  again_follows : (atn : Bool) (at m k : ℕ) (ss : List Step) → Changes Pull (marked atn) b.device at ss m false → FollowsAmong peek (kept atn (up m k)) (again atn (up m k)) ys r2 q2 → FollowsAmong peek (kept atn k) (again atn k) (ss ++ ys) r2 q2
  again_follows atn at m k [] none f = f
  again_follows true at (suc m) zero (s ∷ ss) (other o t h rest) f = hears h tt (unmarked b.device o (told_by peek b role true byte eoi) h) (again_follows true at m 1 ss rest f)
  again_follows false at (suc m) zero (s ∷ ss) (other o t h rest) f = hears h tt (unmarked b.device o (told_by peek b role false byte eoi) h) (again_follows false at m 1 ss rest f)
  again_follows true at (suc m) (suc k) (s ∷ ss) (other o t h rest) f = hears h tt (unmarked b.device o (told_by peek b role true byte eoi) h) (again_follows true at m (suc (suc k)) ss rest f)
  again_follows false at (suc m) (suc k) (s ∷ ss) (other o t h rest) f = hears h tt (unmarked b.device o (told_by peek b role false byte eoi) h) (again_follows false at m (suc (suc k)) ss rest f)
  again_follows true at zero k (s ∷ ss) x f = elim x [ ]
  again_follows false at zero k (s ∷ ss) x f = elim x [ ]

  later : (atn : Bool) (at m : ℕ) (ss : List Step) → Changes Pull (marked atn) b.device at ss m false → NoneBefore at ss → FirstIsAfter at ys → FirstIsAfter at (ss ++ ys)
  later atn at m [] none i l = l
  later atn at zero (s ∷ ss) x i l = elim x [ ]
  later atn at (suc m) (s ∷ ss) (other o t h rest) i l = i.0

  pub accepting_follows : (atn : Bool) (at m k : ℕ) (ss : List Step) → Changes Pull (marked atn) b.device at ss m true → InOrder ss → FirstIsAfter at ys → FollowsAmong peek (kept atn (up m k)) (again atn (up m k)) ys r2 q2
      → FollowsAmong peek (kept atn k) (accepting atn at k) (ss ++ ys) r2 q2
  accepting_follows atn at m k [] x i l f = elim x [ ]
  accepting_follows true at (suc m) zero (s ∷ ss) (other o t h rest) i l f = hears h (own_after_it Pull (marked true) b.device at t ss m rest i.0) (unmarked b.device o (told_by peek b role true byte eoi) h) (accepting_follows true at m 1 ss rest i.1 l f)
  accepting_follows false at (suc m) zero (s ∷ ss) (other o t h rest) i l f = hears h (own_after_it Pull (marked false) b.device at t ss m rest i.0) (unmarked b.device o (told_by peek b role false byte eoi) h) (accepting_follows false at m 1 ss rest i.1 l f)
  accepting_follows true at (suc m) (suc k) (s ∷ ss) (other o t h rest) i l f = hears h (own_after_it Pull (marked true) b.device at t ss m rest i.0) (unmarked b.device o (told_by peek b role true byte eoi) h) (accepting_follows true at m (suc (suc k)) ss rest i.1 l f)
  accepting_follows false at (suc m) (suc k) (s ∷ ss) (other o t h rest) i l f = hears h (own_after_it Pull (marked false) b.device at t ss m rest i.0) (unmarked b.device o (told_by peek b role false byte eoi) h) (accepting_follows false at m (suc (suc k)) ss rest i.1 l f)
  accepting_follows true at m k (s ∷ ss) (own rest) i l f = reacts at (ss ++ ys) refl refl tt (later true at m ss rest i.0 l) (again_follows true at m k ss rest f)
  accepting_follows false at m k (s ∷ ss) (own rest) i l f = reacts at (ss ++ ys) refl refl tt (later false at m ss rest i.0 l) (again_follows false at m k ss rest f)
