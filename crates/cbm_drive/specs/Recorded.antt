-- What a drive does, whatever its machine represents: by what that shows before, and after each act.
use Rattle.std.specs.Prelude.{ℕ, ◌≡◌, List}
use Rattle.cbm_iec.specs.Ports.{told, told_act, reacted, reaction_act, reaction_changes}
use Rattle.cbm_iec.specs.declared.lines.Change.{Change}
use Rattle.cbm_iec.specs.declared.lines.Lines.{Lines}
use Rattle.cbm_session.specs.Among.{Rest, wires_of}
use Rattle.cbm_drive.specs.declared.wires.Wires.{Wires}
use Rattle.cbm_drive.specs.Playback.{Shown, IsActed}
use Rattle.cbm_drive.specs.Seats.{Seated, IsWithout}

module _ {D : Type 0} (shows : D → Shown) where
  -- THE DRIVE WAS TOLD at this moment what all others hold, once these are the lines held.
  pub record IsToldBy (moment : ℕ) (all : Wires) (x y : Seated D) : Type 0 where
    pub others : Lines
    pub lines : (r : Rest) → IsWithout all x.port.own r → others ≡ wires_of r
    pub port : y.port ≡ told moment others x.port
    pub machine : IsActed shows (told_act others x.port) x.machine y.machine

  -- THE REACTION that was due at this moment, with these changes
  pub record ReactsBy (moment : ℕ) (x y : Seated D) (changes : List Change) : Type 0 where
    pub port : y.port ≡ reacted moment (shows x.machine) x.port
    pub changed : changes ≡ reaction_changes moment (shows x.machine) x.port
    pub machine : IsActed shows (reaction_act (shows x.machine) x.port) x.machine y.machine
