-- Half of a bit of a byte that a drive says: one reaction, which changes CLOCK, and perhaps DATA after it.
use Rattle.std.specs.Prelude.{ℕ, ◌+◌, ◌≡◌, ◌<◌, Bool, false, not, ◌&&◌, nat_lt, is_some, List, [], ◌∷◌, Option, Some, None, IfSome, ◌≤◌}
use Rattle.cbm_drive.specs.Cables.{Cabled}
use Rattle.cbm_drive.specs.Players.{Turns, IsLessLeft}
use Rattle.cbm_drive.specs.Seats.{Seated}
use Rattle.cbm_drive.specs.declared.half.Half.{Half}
use Rattle.cbm_iec.specs.Ports.{port_due, port_half, reacted, reaction_act, changes_between}
use Rattle.cbm_iec.specs.declared.event.Event.{Event}
use Rattle.cbm_iec.specs.declared.lines.Change.{Change}
use Rattle.cbm_iec.specs.declared.port.Port.{Port}
use Rattle.cbm_session.specs.Playing.{IsLaterDue, drive_events}

-- ---- whether it comes

-- whether there is a moment, and it is before a limit
abbrev pub is_due_before : ℕ → Option ℕ → Bool
is_due_before limit None = false
is_due_before limit (Some t) = nat_lt t limit

-- whether a drive's next reaction is half of a bit before a limit
abbrev pub half_before : ℕ → Port → Bool
half_before limit p = is_due_before limit (port_due p) && port_half p

-- whether a drive alone on the bus has such a reaction next
abbrev pub half_alone : {D : Type 0} → ℕ → List (Seated D) → Bool
half_alone limit [] = false
half_alone limit (x ∷ []) = half_before limit x.port
half_alone limit (x ∷ y ∷ xs) = false

-- No change is pending, and none is still to be given.
abbrev pub has_nothing : Turns → Bool
has_nothing p = not (is_some p.waiting) && not (is_some p.second)

-- ---- what it is

-- the changes of half of a bit, CLOCK's and then DATA's where it changes
abbrev pub half_lines : Half → List Change
half_lines h = changes_between h.moment h.was h.now

-- the events of half of a bit
abbrev pub half_events : Half → List Event
half_events h = drive_events h.device (half_lines h)

-- a player after it: nothing is pending, and the host may change a line just after it
abbrev pub half_given : Turns → Half → Turns
half_given p h = record { waiting = None; second = None; from = h.moment + 1; taken = p.taken }

-- A DRIVE SAID HALF OF A BIT before a limit: the reaction that was due, whatever there is to say, and no act came of it.
pub record SaysHalf {D : Type 0} (limit : ℕ) (x y : Seated D) (h : Half) : Type 0 where
  pub due : port_due x.port ≡ Some h.moment
  pub before : h.moment < limit
  pub which : h.device ≡ x.port.party.device
  pub was : h.was ≡ x.port.own
  pub now : h.now ≡ y.port.own
  pub clock : h.now.clock_low ≡ not h.was.clock_low
  pub port : (peek : Option (ℕ × Bool)) → y.port ≡ reacted h.moment peek x.port
  pub act : (peek : Option (ℕ × Bool)) → reaction_act peek x.port ≡ None
  pub machine : y.machine ≡ x.machine
  pub later : IsLaterDue h.moment (port_due y.port)

-- and it is the only drive on the cable
pub record SaysHalfAlone {D : Type 0} (limit : ℕ) (b c : Cabled D) (h : Half) : Type 0 where
  pub old : Seated D
  pub new : Seated D
  pub was : b.drives ≡ old ∷ []
  pub now : c.drives ≡ new ∷ []
  pub host : c.host ≡ b.host
  pub half : SaysHalf limit old new h

-- HALF OF A BIT UP TO A MOMENT, whatever the machines represent.
pub record IsHalfEvent {D : Type 0} (p q : Turns) (b c : Cabled D) (upto : ℕ) (result : Option Half) : Type 0 where
  -- Where there is none, all is as it was.
  pub none : result ≡ None → (q ≡ p) × (c ≡ b)
  -- No change was pending, and none was still to be given.
  pub alone : IfSome result (λ h. (p.waiting ≡ None) × (p.second ≡ None))
  -- The host may change a line after it.
  pub player : IfSome result (λ h. q ≡ half_given p h)
  -- It comes at that moment or before.
  pub moment : IfSome result (λ h. h.moment ≤ upto)
  -- CLOCK is changed.
  pub clock : IfSome result (λ h. h.now.clock_low ≡ not h.was.clock_low)
  -- Less is left to come after it.
  pub fewer : IfSome result (λ h. IsLessLeft (upto + 1) p q b c)
