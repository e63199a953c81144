-- A session is a join of pieces, and a beginning of one is a prefix.
use Rattle.std.specs.Prelude.{◌≡◌, ℕ, ◌≤◌, List, [], ◌∷◌, ◌++◌, map, length, None, false}
use Rattle.cbm_iec.specs.Profile.{slowest_reaction}
use Rattle.cbm_iec.specs.declared.machine.Act.{Act}
use Rattle.cbm_iec.specs.declared.event.Event.{Event}
use Rattle.cbm_iec.specs.declared.party.Party.{Party}
use Rattle.cbm_iec.specs.declared.party.Role.TheVariants.{Absent}
use Rattle.cbm_session.specs.Pieces.{Piece, BusPlace, Point, piece_steps, PieceFits, point_after, Open, Leading, Cutting}
use Rattle.cbm_session.specs.Seats.{lines, device}
use Rattle.cbm_session.specs.Steps.{Step, events_of, acts_for}

-- all lines free, no roles, nothing due; the drives in the caller's order of ties
abbrev pub rest : List Party → Point
rest bs = record {
  place = Open;
  seats = map (λ b. (record { party = b; role = Absent; own = lines false false })) bs;
  host = lines false false;
  pulled = 0;
  released = None;
  accepted = 0;
  since = 0;
}

-- a session may end at each place but where a frame is led or a cut waits for its pull
abbrev pub MayEnd : BusPlace → Type 0
MayEnd (Leading at) = ⊥
MayEnd (Cutting at) = ⊥
MayEnd place = Unit {0}

-- each piece fits at the point after those before it, and the session may end after the last
abbrev pub Linked : Point → List Piece → Type 0
Linked p [] = MayEnd p.place
Linked p (k ∷ ks) = PieceFits p k × Linked (point_after p k) ks

-- the steps of pieces, one after another from a point
abbrev pub session_steps : Point → List Piece → List Step
session_steps p [] = []
session_steps p (k ∷ ks) = piece_steps p k ++ session_steps (point_after p k) ks

-- these pieces are a session, and its steps up to a place are these, with the others after it
pub record Splits (bs : List Party) (ks : List Piece) (done more : List Step) : Type 0 where
  pub linked : Linked (rest bs) ks
  pub steps : session_steps (rest bs) ks ≡ done ++ more

-- the acts of each drive, in the order of the drives
abbrev pub acts_of : List Party → List Step → List (List Act)
acts_of bs steps = map (λ b. acts_for b.device steps) bs

-- the trace is a beginning of a session of these drives, in which these acts count for each
abbrev pub Begins : List Party → List (List Act) → List Event → Type 0
Begins bs acts trace = (ks : List Piece) × ((done : List Step) × ((more : List Step) × (Splits bs ks done more × (events_of done ≡ trace) × (acts_of bs done ≡ acts))))

-- the trace is a beginning of a session of these drives
abbrev pub IsBeginning : List Party → List Event → Type 0
IsBeginning bs trace = (acts : List (List Act)) × Begins bs acts trace

-- a drive's device is 8 to 11, it reacts in time
pub record IsDrive (b : Party) : Type 0 where
  pub from : 8 ≤ b.device
  pub upto : b.device ≤ 11
  pub some : 1 ≤ b.reaction
  pub prompt : b.reaction ≤ slowest_reaction

-- each of these is such a drive
abbrev pub AreDrives : List Party → Type 0
AreDrives [] = Unit {0}
AreDrives (b ∷ bs) = IsDrive b × AreDrives bs

-- none of these has this device number
abbrev pub Unlike : ℕ → List Party → Type 0
Unlike device [] = Unit {0}
Unlike device (b ∷ bs) = (device ≡ b.device → ⊥) × Unlike device bs

-- no two of these have the same device number
abbrev pub AllUnlike : List Party → Type 0
AllUnlike [] = Unit {0}
AllUnlike (b ∷ bs) = Unlike b.device bs × AllUnlike bs

-- one to four drives of unlike devices
pub record IsBus (bs : List Party) : Type 0 where
  pub some : 1 ≤ length bs
  pub few : length bs ≤ 4
  pub drives : AreDrives bs
  pub unlike : AllUnlike bs
