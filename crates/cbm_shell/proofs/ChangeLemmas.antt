-- What a change leaves of the machine, or why it wasn't made.
use Rattle.std.proofs.Common.{◌≡◌, ℕ, ◌≤◌, sym, subst, inl, inr}
use Rattle.std.specs.Prelude.{Result, Ok, Err, MatchResult}
use Rattle.cbm_channel.specs.declared.Status.{Status}
use Rattle.cbm_machine.specs.Codes.{code_number}
use Rattle.cbm_machine.specs.Machines.{Machine}
use Rattle.cbm_medium.specs.Content.{Content}
use Rattle.cbm_shell.specs.declared.changing.DiskChange.{DiskChange}
use Rattle.cbm_shell.specs.declared.fault.ShellFault.{ShellFault}
use Rattle.cbm_shell.specs.declared.fault.ShellFault.TheVariants as fault
use Rattle.cbm_shell.specs.Changing.{begun, disk_after_change, IsFine, IsUndone, IsStatusRefusal, IsFaultOf}
use Rattle.cbm_shell.specs.Editing.{IsUnedited}

-- the status at the end decides
pub made : (change : DiskChange) (m : Machine) (stands : Machine → Type 0) (r : Result (Unit {0}) ShellFault) (s : Status) → stands (disk_after_change change m)
    → s ≡ (disk_after_change change m).status → MatchResult r (λ _. IsFine s) (λ f. (f ≡ fault.Refused s) × (20 ≤ code_number s.code))
    → MatchResult r (λ _. IsFine (disk_after_change change m).status × stands (disk_after_change change m)) (IsUndone change m)
made change m stands (Ok _) s now e h = (subst IsFine e h, now)
made change m stands (Err f) s now e h = subst (IsUndone change m) (sym h.0) (record { told = inr e; error = h.1 })

-- what was to be written wasn't opened
pub not_begun : (change : DiskChange) (m : Machine) (stands : Machine → Type 0) (r : Result (Unit {0}) ShellFault) (f : ShellFault) (s : Status) → r ≡ Err f → s ≡ (begun change m).status → f ≡ fault.Refused s
    → 20 ≤ code_number s.code → MatchResult r (λ _. IsFine (disk_after_change change m).status × stands (disk_after_change change m)) (IsUndone change m)
not_begun change m stands r f s err e is error =
    subst (λ (x : Result (Unit {0}) ShellFault). MatchResult x (λ _. IsFine (disk_after_change change m).status × stands (disk_after_change change m)) (IsUndone change m)) (sym err)
    (subst (IsUndone change m) (sym is) (record { told = inl e; error = error }))

-- a disk that isn't sound isn't changed
pub unsound_of : (tracks : ℕ) (content : Content) (f : ShellFault) → IsUnedited tracks content ⊥ f → IsFaultOf tracks content f
unsound_of tracks content (fault.Unsound u) h = h
unsound_of tracks content fault.Memory h = absurd h
unsound_of tracks content (fault.Image n) h = absurd h
unsound_of tracks content (fault.Refused s) h = absurd h
unsound_of tracks content (fault.Trouble t) h = absurd h
unsound_of tracks content fault.NotFound h = absurd h
unsound_of tracks content fault.NotClosed h = absurd h
unsound_of tracks content fault.Mistaken h = absurd h

-- a refusal isn't for want of soundness
pub refusal_of : (tracks : ℕ) (content : Content) (f : ShellFault) → IsStatusRefusal f → IsFaultOf tracks content f
refusal_of tracks content f (s, e) = subst (IsFaultOf tracks content) (sym e) tt
