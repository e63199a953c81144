-- Reactions that change no line. Nobody on the wires sees them, so who asks for the next change looks past them.
use Rattle.std.specs.Prelude.{ℕ, ◌≡◌, ◌<◌, Bool, true, false, List, [], ◌∷◌, ◌⊎◌, Option, Some}
use Rattle.cbm_iec.specs.Ports.{port_due, reacted, reaction_changes}
use Rattle.cbm_iec.specs.declared.machine.Act.{Act}
use Rattle.cbm_iec.specs.declared.port.Port.{Port}
use Rattle.cbm_session.specs.Following.{IsInTime}
use Rattle.cbm_session.specs.Playing.{Station, react, shown}

-- WHETHER A PORT CHANGES A LINE before a limit, with this byte to say, which stays, if nobody else changes one. No: nothing is due before the limit. Yes: what
-- is due shows. Where what is due shows nothing, it is as after that reaction.
pub data Foretold (limit : ℕ) (peek : Option (ℕ × Bool)) : Bool → Port → Type 0 where
  idle : {p : Port} → IsInTime limit (port_due p) → Foretold limit peek false p
  seen : {p : Port} (t : ℕ) → port_due p ≡ Some t → t < limit → (reaction_changes t peek p ≡ [] → ⊥) → Foretold limit peek true p
  over : {p : Port} {answer : Bool} (t : ℕ) → port_due p ≡ Some t → t < limit → reaction_changes t peek p ≡ [] → Foretold limit peek answer (reacted t peek p) → Foretold limit peek answer p

module _ (M : Type 0) (step : M → Act → M) (says : M → Option (ℕ × Bool)) where
  -- the same of a drive, whose machine may be told an act with such a reaction
  pub data Foreseen (limit : ℕ) : Bool → Station M → Type 0 where
    quiet : {s : Station M} → IsInTime limit (port_due s.port) → Foreseen limit false s
    shows : {s : Station M} (t : ℕ) → port_due s.port ≡ Some t → t < limit → (shown M step says t s ≡ [] → ⊥) → Foreseen limit true s
    passes : {s : Station M} {answer : Bool} (t : ℕ) → port_due s.port ≡ Some t → t < limit → shown M step says t s ≡ [] → Foreseen limit answer (react M step says t s) → Foreseen limit answer s

  -- one of these drives does
  abbrev pub AnyShows : ℕ → List (Station M) → Type 0
  AnyShows limit [] = ⊥
  AnyShows limit (s ∷ ss) = Foreseen limit true s ⊎ AnyShows limit ss

  -- none of them does, as each port with the byte to say now shows already
  abbrev pub AreSilent : ℕ → List (Station M) → Type 0
  AreSilent limit [] = Unit {0}
  AreSilent limit (s ∷ ss) = Foretold limit (says s.machine) false s.port × Foreseen limit false s × AreSilent limit ss
