-- No reaction is late, and the host leaves out no change that is due. `among` is a set of sessions.
use Rattle.std.specs.Prelude.{◌≡◌, ℕ, ◌+◌, ◌≤◌, ◌<◌, List, [], ◌∷◌, ◌++◌, Bool, true, false}
use Rattle.cbm_iec.specs.declared.event.Event.{Event}
use Rattle.cbm_iec.specs.declared.event.Who.TheVariants.{Host, Drive}
use Rattle.cbm_iec.specs.declared.event.Who.{Who}
use Rattle.cbm_iec.specs.declared.party.Party.{Party}
use Rattle.cbm_session.specs.Pieces.{Piece}
use Rattle.cbm_session.specs.Sessions.{Splits, IsBeginning}
use Rattle.cbm_session.specs.Steps.{Step, moment_of, events_of}

-- whether the host makes the change
abbrev pub is_host : Who → Bool
is_host Host = true
is_host (Drive d) = false

-- the first of these is later than e, or they are none and the end isn't before
abbrev pub StartsLater : ℕ → ℕ → List Event → Type 0
StartsLater e end [] = e ≤ end
StartsLater e end (x ∷ xs) = e < x.change.moment

-- the host's among these are later than e
abbrev pub LaterHost : ℕ → List Step → Type 0
LaterHost e [] = Unit {0}
LaterHost e (s ∷ ss) = (is_host s.event.who ≡ true → e < moment_of s) × LaterHost e ss

-- the front of a trace is the front of this session, which has no further host change at or before e
pub record IsQuiet (bs : List Party) (front : List Event) (e : ℕ) (ks : List Piece) (done more : List Step) : Type 0 where
  pub splits : Splits bs ks done more
  pub shown : events_of done ≡ front
  pub quiet : LaterHost e more

-- there is a session among these with this front and no further host change at or before e
abbrev pub SomeQuiet : List Party → (List Piece → Type 0) → List Event → ℕ → Type 0
SomeQuiet bs among front e = (ks : List Piece) × ((done : List Step) × ((more : List Step) × (among ks × IsQuiet bs front e ks done more)))

-- the next event of these is a drive's change at or before e, which the front lacks
abbrev pub Owes : ℕ → List Step → Type 0
Owes e [] = ⊥
Owes e (s ∷ more) = (is_host s.event.who ≡ false) × (moment_of s ≤ e)

-- a drive is late at e: such a session is there, and each one that is there has a drive's change that the front lacks
pub record IsLateAt (bs : List Party) (among : List Piece → Type 0) (front : List Event) (e : ℕ) : Type 0 where
  pub some : SomeQuiet bs among front e
  pub each : (ks : List Piece) (done more : List Step) → among ks → IsQuiet bs front e ks done more → Owes e more

-- a drive is late at some moment before m, by the part of the trace up to that moment
abbrev pub IsLateBefore : List Party → (List Piece → Type 0) → List Event → ℕ → Type 0
IsLateBefore bs among trace m = (front : List Event) × ((back : List Event) × ((e : ℕ) × ((trace ≡ front ++ back) × ((e < m) × (StartsLater e m back × IsLateAt bs among front e)))))

-- a drive is late at some moment up to the end
abbrev pub IsLate : List Party → (List Piece → Type 0) → List Event → ℕ → Type 0
IsLate bs among trace end = IsLateBefore bs among trace (end + 1)

-- all sessions
abbrev pub any : List Piece → Type 0
any ks = Unit {0}

-- Unless a reaction was late before, each host change goes on with a session, and none that is due is left out.
pub record HostKeeps (bs : List Party) (trace : List Event) (end : ℕ) : Type 0 where
  pub changes : (front back : List Event) (x : Event) → trace ≡ front ++ x ∷ back → is_host x.who ≡ true → IsBeginning bs front → (IsLateBefore bs any front x.change.moment → ⊥) → IsBeginning bs (front ++ x ∷ [])
  pub due : (front back : List Event) (e : ℕ) → trace ≡ front ++ back → StartsLater e end back → IsBeginning bs front → (IsLateBefore bs any front e → ⊥) → SomeQuiet bs any front e
