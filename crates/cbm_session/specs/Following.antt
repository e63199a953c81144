-- A drive among the host's changes: told each of them, it makes its own changes when they are due, and gives the acts that count.
use Rattle.std.specs.Prelude.{◌≡◌, ◌⊎◌, ℕ, ◌≤◌, ◌<◌, Bool, true, false, List, [], ◌∷◌, ◌++◌, Option, Some, None}
use Rattle.cbm_iec.specs.Changes.{is_pull, lines_after}
use Rattle.cbm_iec.specs.Ports.{resting, side_due, port_due, told, told_act, reaction_act, reacted, reaction_changes}
use Rattle.cbm_iec.specs.Profile.{slowest_reaction}
use Rattle.cbm_iec.specs.declared.machine.Act.{Act}
use Rattle.cbm_iec.specs.declared.ear.Ear.TheVariants.{Idle, Holding}
use Rattle.cbm_iec.specs.declared.event.Who.TheVariants.{Host, Drive}
use Rattle.cbm_iec.specs.declared.event.Who.{Who}
use Rattle.cbm_iec.specs.declared.lines.Change.{Change}
use Rattle.cbm_iec.specs.declared.lines.Line.TheVariants.{Atn, Clock, Data}
use Rattle.cbm_iec.specs.declared.lines.Line.{Line}
use Rattle.cbm_iec.specs.declared.lines.Way.{Way}
use Rattle.cbm_iec.specs.declared.lines.Held.{Held}
use Rattle.cbm_iec.specs.declared.lines.Lines.{Lines}
use Rattle.cbm_iec.specs.declared.mouth.Mouth.TheVariants.{Led, Over}
use Rattle.cbm_iec.specs.declared.party.Party.{Party}
use Rattle.cbm_iec.specs.declared.party.Role.TheVariants.{Listener, Talker}
use Rattle.cbm_iec.specs.declared.party.Role.{Role}
use Rattle.cbm_iec.specs.declared.port.Port.{Port}
use Rattle.cbm_iec.specs.declared.port.Side.TheVariants.{Hearing, Speaking}
use Rattle.cbm_iec.specs.declared.port.Side.{Side}
use Rattle.cbm_session.specs.Bits.{number_of}
use Rattle.cbm_session.specs.Frames.{is_last}
use Rattle.cbm_session.specs.Pieces.{Whole, Piece, BusPlace, Point, steps_of, before, piece_steps, Fits, some_from, whole_point, point_after, ToTalker, Nothing, Talk, Full, Cut, Open, Commanding, Listening, Leading, Cutting}
use Rattle.cbm_session.specs.Seats.{lines, Seat, device, reaction}
use Rattle.cbm_session.specs.Sessions.{rest, Linked}
use Rattle.cbm_session.specs.Steps.{Mark, Step, event_of, host, moment_of, Plain, ForEach, For}

-- nothing is due before this moment
abbrev pub IsInTime : ℕ → Option ℕ → Type 0
IsInTime moment None = Unit {0}
IsInTime moment (Some t) = moment ≤ t

-- the next change is no change of the host at this moment or before
abbrev pub IsLaterBy : ℕ → Who → ℕ → Type 0
IsLaterBy t Host moment = t < moment
IsLaterBy t (Drive o) moment = Unit {0}

-- the same of the first of these steps
abbrev pub IsLater : ℕ → List Step → Type 0
IsLater t [] = Unit {0}
IsLater t (s ∷ ss) = IsLaterBy t s.event.who (moment_of s)

-- what the drive was told by a change is what counts with it
abbrev pub Counts : Mark → Option Act → Type 0
Counts Plain told = told ≡ None
Counts (ForEach act) told = told ≡ Some act
Counts (For device act) told = told ≡ Some act

-- a change of a drive as a step, with the act that counts with it or none
abbrev pub own_step : ℕ → Change → Option Act → Step
own_step d c None = record { event = record { who = Drive d; change = c }; mark = Plain }
own_step d c (Some act) = record { event = record { who = Drive d; change = c }; mark = For d act }

-- the changes of a reaction as steps, two at most; its act counts with the last one
abbrev pub own_steps : ℕ → List Change → Option Act → List Step
own_steps d [] act = []
own_steps d (c ∷ []) act = own_step d c act ∷ []
own_steps d (c ∷ e ∷ []) act = own_step d c None ∷ own_step d e act ∷ []
own_steps d (c ∷ e ∷ x ∷ cs) act = []

-- the reaction that is due at t, with the byte to say
abbrev pub reaction_steps : ℕ → Option (ℕ × Bool) → Port → List Step
reaction_steps t peek q = own_steps q.party.device (reaction_changes t peek q) (reaction_act peek q)

-- an act shows on the wires
abbrev pub IsShown : List Step → Option Act → Type 0
IsShown ss None = Unit {0}
IsShown [] (Some act) = ⊥
IsShown (s ∷ ss) (Some act) = Unit {0}

-- The drive follows these steps: it is in time for each change of the host, which counts what it was told, and its reaction is what comes when it is due.
pub data Follows (peek : Option (ℕ × Bool)) : Port → List Step → Port → Type 0 where
  ends : {q q2 : Port} → q2 ≡ q → Follows peek q [] q2
  tells : {q q2 : Port} {t : ℕ} {line : Line} {way : Way} {mark : Mark} {ss : List Step} → IsInTime t (port_due q) → Counts mark (told_act (lines_after q.others line way) q)
      → Follows peek (told t (lines_after q.others line way) q) ss q2 → Follows peek q (record { event = event_of Host t line way; mark = mark } ∷ ss) q2
  reacts : {q q2 : Port} {ss : List Step} (t : ℕ) (more : List Step) → port_due q ≡ Some t → ss ≡ reaction_steps t peek q ++ more → IsShown (reaction_steps t peek q) (reaction_act peek q) → IsLater t more
      → Follows peek (reacted t peek q) more q2 → Follows peek q ss q2

-- a bus with one drive
abbrev pub alone : Point → Seat → Point
alone p s = record { place = p.place; seats = s ∷ []; host = p.host; pulled = p.pulled; released = p.released; accepted = p.accepted; since = p.since }

-- whether ATN is pulled at a place
abbrev pub in_attention : BusPlace → Bool
in_attention (Commanding some) = true
in_attention place = false

-- the drive neither listens nor talks on: it waits for ATN alone, as one that never talked, or whose talk is over
abbrev pub IsDone : Side → Type 0
IsDone side = (side ≡ Hearing Idle) ⊎ (side ≡ Speaking Over)

-- what the drive waits for at a place
abbrev pub SideAt : BusPlace → Role → Side → Type 0
SideAt Open role side = IsDone side
SideAt (Commanding some) role side = side ≡ Hearing Holding
SideAt Listening role side = (role ≡ Listener) × (side ≡ Hearing Holding)
SideAt (Leading at) role side = (role ≡ Talker) × (side ≡ Speaking (Led at))
SideAt (Cutting at) role side = IsInTime at (side_due side)

-- the lines there: a drive that hears holds DATA and the host CLOCK, a drive that leads holds CLOCK and the host DATA
abbrev pub LinesAt : BusPlace → Held → Held → Type 0
LinesAt Open own host = Unit {0}
LinesAt (Commanding some) own host = (own ≡ lines false true) × (host ≡ lines true false)
LinesAt Listening own host = (own ≡ lines false true) × (host ≡ lines true false)
LinesAt (Leading at) own host = (own ≡ lines true false) × (host ≡ lines false true)
LinesAt (Cutting at) own host = Unit {0}

-- the drive stands at a point of a session as the session has it
pub record StandsAt (p : Point) (s : Seat) (q : Port) : Type 0 where
  pub party : q.party ≡ s.party
  pub role : q.role ≡ s.role
  pub own : q.own ≡ s.own
  pub others : q.others ≡ record { atn_low = in_attention p.place; clock_low = p.host.clock_low; data_low = p.host.data_low }
  pub side : SideAt p.place s.role q.side
  pub lines_there : LinesAt p.place s.own p.host

-- the byte to say is that of the piece
abbrev pub Says : Whole → Option (ℕ × Bool) → Type 0
Says (ToTalker at clock) peek = (x : ℕ × Bool) × (peek ≡ Some x)
Says (Nothing at clock freed) peek = peek ≡ None
Says (Talk at f) peek = peek ≡ Some (number_of f.bits, is_last f)
Says w peek = Unit {0}

-- a drive that stands at a point follows each piece that fits there, and then stands at the point after it
abbrev pub FollowsPieces : Type 0
FollowsPieces = (p : Point) (s : Seat) (w : Whole) (q : Port) (peek : Option (ℕ × Bool)) → 1 ≤ reaction s → reaction s ≤ slowest_reaction → StandsAt (alone p s) s q → Fits (alone p s) w → Says w peek
    → (q2 : Port) × ((s2 : Seat) × (Follows peek q (steps_of (alone p s) w) q2 × ((whole_point (alone p s) w).seats ≡ s2 ∷ []) × StandsAt (whole_point (alone p s) w) s2 q2))

-- Cut at any moment before its last event, a piece is followed up to there too: what stands before is made, and nothing is overdue.
abbrev pub FollowsFronts : Type 0
FollowsFronts = (p : Point) (s : Seat) (w : Whole) (q : Port) (peek : Option (ℕ × Bool)) (c : ℕ) → 1 ≤ reaction s → reaction s ≤ slowest_reaction → StandsAt (alone p s) s q → Fits (alone p s) w → Says w peek
    → some_from c (steps_of (alone p s) w) ≡ true → (q2 : Port) × (Follows peek q (before c (steps_of (alone p s) w)) q2 × IsInTime c (port_due q2))

-- the byte to say is that of the piece, whole or cut
abbrev pub SaysPiece : Piece → Option (ℕ × Bool) → Type 0
SaysPiece (Full w) peek = Says w peek
SaysPiece (Cut w c) peek = Says w peek

-- the drive follows these pieces one after another, whatever there is to say
abbrev pub FollowsAll : Port → Point → List Piece → Type 0
FollowsAll q p [] = Unit {0}
FollowsAll q p (k ∷ ks) = (peek : Option (ℕ × Bool)) → SaysPiece k peek → (q2 : Port) × (Follows peek q (piece_steps p k) q2 × FollowsAll q2 (point_after p k) ks)

-- from rest a drive alone with the host follows every session, cut pieces too
abbrev pub FollowsSessions : Type 0
FollowsSessions = (b : Party) (ks : List Piece) → 1 ≤ b.reaction → b.reaction ≤ slowest_reaction → Linked (rest (b ∷ [])) ks → FollowsAll (resting b) (rest (b ∷ [])) ks
