-- A machine that plays back what another one showed, act by act. So a drive on any disk is a machine, too: of what it showed nothing else is known.
use Rattle.std.specs.Prelude.{ℕ, ◌≡◌, ◌<◌, Bool, true, List, [], ◌∷◌, Option, Some, None, IfSome, IsSome, if◌then◌else◌}
use Rattle.cbm_iec.specs.Machines.{owes, IsShownAfter}
use Rattle.cbm_iec.specs.declared.machine.Act.{Act}

-- the byte to say, and whether it is the last
abbrev pub Shown : Type 0
Shown = Option (ℕ × Bool)

-- what it shows now, and after each act to come; and whether a byte that isn't the last was said, so that there must be another
pub record Playback : Type 0 where
  pub shown : List Shown
  pub owed : Bool

-- what there is to say; where nothing is recorded any more, nothing, or, where a byte is owed, a last 0
abbrev pub says_or : Bool → Shown → Shown
says_or owed None = if owed then Some (0, true) else None
says_or owed (Some said) = Some said

-- what is shown first; where nothing is recorded any more, nothing to say
abbrev pub shown_first : List Shown → Shown
shown_first [] = None
shown_first (now ∷ later) = now

-- what is shown after that
abbrev pub shown_later : List Shown → List Shown
shown_later [] = []
shown_later (now ∷ later) = later

-- what a machine that plays back has to say now
abbrev pub played_says : Playback → Shown
played_says p = says_or p.owed (shown_first p.shown)

-- after each act the next is shown
abbrev pub played_step : Playback → Act → Playback
played_step p act = record { shown = shown_later p.shown; owed = owes act (played_says p) }

module _ {D : Type 0} (shows : D → Shown) where
  -- IT PLAYS BACK THIS MACHINE: what that shows now, and then these.
  pub record IsPlayedBack (later : List Shown) (x : D) (p : Playback) : Type 0 where
    pub shown : p.shown ≡ shows x ∷ later
    pub owed : p.owed ≡ true → IsSome (shows x)
    pub byte : IfSome (shows x) (λ s. s.0 < 256)

  -- WHAT A MACHINE BECOMES with an act, or with none: without one it stays.
  abbrev pub IsActed : Option Act → D → D → Type 0
  IsActed None x y = y ≡ x
  IsActed (Some act) x y = IsShownAfter act (shows x) (shows y)

  -- what is recorded of that
  abbrev pub recorded : Option Act → D → List Shown
  recorded None y = []
  recorded (Some act) y = shows y ∷ []
