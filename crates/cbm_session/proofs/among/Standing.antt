-- How the drives of a bus stand at a point of a session, and what a piece leaves of each.
use Rattle.std.proofs.Common.{◌≡◌, ℕ, ◌≤◌, Bool, true, false, List, [], ◌∷◌, Option}
use Rattle.std.specs.Prelude.{nat_eq, if◌then◌else◌}
use Rattle.cbm_iec.specs.declared.event.Who.TheVariants.{Host, Drive}
use Rattle.cbm_iec.specs.declared.event.Who.{Who}
use Rattle.cbm_iec.specs.declared.lines.Line.{Line}
use Rattle.cbm_iec.specs.declared.lines.Way.{Way}
use Rattle.cbm_iec.specs.declared.lines.Held.{Held}
use Rattle.cbm_iec.specs.declared.port.Port.{Port}
use Rattle.cbm_session.proofs.frames.Phases.{Each}
use Rattle.cbm_session.proofs.reading.OneReading.{IsSeated}
use Rattle.cbm_session.proofs.reading.PieceReadings.{next_seat}
use Rattle.cbm_session.specs.Among.{Rest, after_another, after_the_host, FollowsAmong}
use Rattle.cbm_session.specs.Buses.{rest_at, SaysAs, SideAmong, OwnAt, StandsAmong}
use Rattle.cbm_session.specs.Laws.{SeatsReact}
use Rattle.cbm_session.specs.Pieces.{Whole, BusPlace, Point, steps_of, Fits, whole_point, Full, Open, Commanding, Listening, Leading, Cutting}
use Rattle.cbm_session.specs.Seats.{lines, Seat, device}
use Rattle.cbm_session.specs.Steps.{Step}

-- what the host holds at a place
abbrev pub HostAt : BusPlace → Held → Type 0
HostAt Open host = Unit {0}
HostAt (Commanding some) host = host ≡ lines true false
HostAt Listening host = host ≡ lines true false
HostAt (Leading at) host = host ≡ lines false true
HostAt (Cutting at) host = Unit {0}

-- a point of a session of a bus on which this drive sits
pub record IsSound (p : Point) (s : Seat) : Type 0 where
  pub seated : IsSeated (device s) p s
  pub some : 1 ≤ device s
  pub react : SeatsReact p.seats
  pub own : Each (λ x. OwnAt p.place x.role x.own) p.seats
  pub host : HostAt p.place p.host

-- what drive d's others hold after a step, and after steps
abbrev pub rest_next : ℕ → Who → Line → Way → Rest → Rest
rest_next d Host line way r = after_the_host line way r
rest_next d (Drive o) line way r = if nat_eq d o then r else after_another line way r

abbrev pub rest_afterwards : ℕ → Rest → List Step → Rest
rest_afterwards d r [] = r
rest_afterwards d r (s ∷ ss) = rest_afterwards d (rest_next d s.event.who s.event.change.line s.event.change.way r) ss

-- the drive follows a whole piece, and has the role, lines and side that the session has after it
pub record Result (p : Point) (s : Seat) (w : Whole) (q : Port) (peek : Option (ℕ × Bool)) : Type 0 where
  pub rest : Rest
  pub port : Port
  pub follows : FollowsAmong peek (rest_at (device s) p) q (steps_of p w) rest port
  pub role : port.role ≡ (next_seat w s).role
  pub own : port.own ≡ (next_seat w s).own
  pub side : SideAmong (whole_point p w).place (next_seat w s).role port.side

abbrev pub AmongLaw : Whole → Type 0
AmongLaw w = (p : Point) (s : Seat) (q : Port) (peek : Option (ℕ × Bool)) → IsSound p s → StandsAmong p s q → Fits p w → SaysAs s.role (Full w) peek → Result p s w q peek
