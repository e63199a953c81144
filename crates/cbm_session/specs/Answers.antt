-- What the machines above the lines allow: each byte talked is the answer of the talker's machine. One machine for each drive, by its device.
use Rattle.std.specs.Prelude.{◌≡◌, ℕ, List, [], ◌∷◌, Bool, Option, Some, None}
use Rattle.cbm_iec.specs.declared.machine.Act.TheVariants.{Released, Said, Silent}
use Rattle.cbm_iec.specs.declared.machine.Act.{Act}
use Rattle.cbm_session.specs.Bits.{number_of}
use Rattle.cbm_session.specs.Frames.{is_last}
use Rattle.cbm_session.specs.Pieces.{Whole, Piece, Point, piece_steps, point_after, ToTalker, Nothing, Talk, Full, Cut}
use Rattle.cbm_session.specs.Seats.{Seat, device, talker_of}
use Rattle.cbm_session.specs.Steps.{Step, acts_for}

module _ (M : Type 0) (step : M → Act → M) (peek : M → Option (ℕ × Bool)) where
  -- an act is the machine's answer: a byte said is the one that it has to say, and silence that it has none; any other act is allowed
  abbrev pub AnswersAct : M → Act → Type 0
  AnswersAct m (Said byte last) = peek m ≡ Some (byte, last)
  AnswersAct m Silent = peek m ≡ None
  AnswersAct m act = Unit {0}

  -- the acts are this machine's answers one after another, and lead it to that one
  abbrev pub Run : M → List Act → M → Type 0
  Run m [] m2 = m2 ≡ m
  Run m (act ∷ acts) m2 = AnswersAct m act × Run (step m act) acts m2

  -- the machine after these acts
  abbrev pub run_acts : M → List Act → M
  run_acts m [] = m
  run_acts m (act ∷ acts) = run_acts (step m act) acts

  -- A frame, whole or cut, is that of peek. A turnaround, also one that is cut, is up to Lead where peek has a byte, and nothing to say where it has none.
  abbrev pub IsAnswer : M → Whole → Type 0
  IsAnswer m (Talk at f) = peek m ≡ Some (number_of f.bits, is_last f)
  IsAnswer m (ToTalker at clock) = (x : ℕ × Bool) × (peek (step m Released) ≡ Some x)
  IsAnswer m (Nothing at clock freed) = peek (step m Released) ≡ None
  IsAnswer m w = Unit {0}

  -- the same of a piece, whole or cut
  abbrev pub PieceAnswers : M → Piece → Type 0
  PieceAnswers m (Full w) = IsAnswer m w
  PieceAnswers m (Cut w at) = IsAnswer m w

  -- each drive's machine, after its acts among these steps
  abbrev pub run_each : (ℕ → M) → List Step → ℕ → M
  run_each ms steps d = run_acts (ms d) (acts_for d steps)

  -- each drive's acts among these steps are its machine's answers
  abbrev pub RunEach : List Seat → (ℕ → M) → List Step → Type 0
  RunEach [] ms steps = Unit {0}
  RunEach (s ∷ ss) ms steps = Run (ms (device s)) (acts_for (device s) steps) (run_each ms steps (device s)) × RunEach ss ms steps

  -- each piece is its talker's answer, and the acts in it are the answers of each drive's machine
  abbrev pub Allowed : Point → (ℕ → M) → List Piece → Type 0
  Allowed p ms [] = Unit {0}
  Allowed p ms (k ∷ ks) =
      PieceAnswers (ms (talker_of p.seats).device) k × RunEach p.seats ms (piece_steps p k) × Allowed (point_after p k) (run_each ms (piece_steps p k)) ks
