-- The drives as the code keeps them, each under both hosts, and the stations of the two plays that they represent.
use Rattle.std.specs.Prelude.{◌≡◌, ◌≤◌, ◌+◌, ℕ, zero, List, [], ◌∷◌}
use Rattle.cbm_iec.specs.Ports.{resting}
use Rattle.cbm_iec.specs.declared.party.Party.{Party}
use Rattle.cbm_session.specs.Playing.{Station, nobody}
use Rattle.bus_beside.specs.declared.wired.Wired.{Wired}
use Rattle.bus_beside.specs.Rests.{rest_by}

-- a drive: under the host as it is, under the tidy one, and the machine of both
pub record SeatedTwice (D : Type 0) : Type 0 where
  pub real : Wired
  pub tidy : Wired
  pub machine : D

-- a drive at work under one of the hosts, with the state of its machine
abbrev pub station : {M : Type 0} → Wired → M → Station M
station w m = record { port = w.port; rest = rest_by w.others; machine = m }

-- a drive as it is switched on, and nobody holds a line
abbrev pub IsPortAtRest : Wired → Party → Type 0
IsPortAtRest w b = (w.port ≡ resting b) × (rest_by w.others ≡ nobody)

-- how often these drives' machines failed, all together
abbrev pub failed_in_all : {D : Type 0} → (D → ℕ) → List (SeatedTwice D) → ℕ
failed_in_all failures [] = zero
failed_in_all failures (x ∷ xs) = failures x.machine + failed_in_all failures xs

-- The machine failed no less often than before, and this holds if it didn't fail in between.
abbrev pub GoesAlone : {D : Type 0} → (D → ℕ) → SeatedTwice D → SeatedTwice D → Type 0 → Type 0
GoesAlone failures old new P = (failures old.machine ≤ failures new.machine) × (failures new.machine ≤ failures old.machine → P)

-- The same of all drives.
abbrev pub GoesUnfailed : {D : Type 0} → (D → ℕ) → List (SeatedTwice D) → List (SeatedTwice D) → Type 0 → Type 0
GoesUnfailed failures old new P = (failed_in_all failures old ≤ failed_in_all failures new) × (failed_in_all failures new ≤ failed_in_all failures old → P)

module _ (D M : Type 0) (stands : D → M → Type 0) where
  -- THE DRIVE REPRESENTS ONE OF EACH PLAY: both have the same machine.
  pub record Sits (x : SeatedTwice D) (s t : Station M) : Type 0 where
    pub state : M
    pub real : s ≡ station x.real state
    pub tidy : t ≡ station x.tidy state
    pub machine : stands x.machine state

  -- the same of all drives, one by one
  abbrev pub Sit : List (SeatedTwice D) → List (Station M) → List (Station M) → Type 0
  Sit [] [] [] = Unit {0}
  Sit (x ∷ xs) (s ∷ ss) (t ∷ ts) = Sits x s t × Sit xs ss ts
  Sit xs ss ts = ⊥
