-- Every drive of a bus follows every session: how it stands at each point, what the others hold there, and the law.
use Rattle.cbm_iec.specs.declared.pace.Pace.TheVariants.{Profile}
use Rattle.std.specs.Prelude.{◌≡◌, ℕ, ◌+◌, zero, Bool, true, false, List, [], ◌∷◌, Option, nat_eq, if◌then◌else◌}
use Rattle.cbm_iec.specs.Ports.{resting, side_due, port_due}
use Rattle.cbm_iec.specs.declared.ear.Ear.TheVariants.{Idle, Holding}
use Rattle.cbm_iec.specs.declared.lines.Line.TheVariants.{Atn, Clock, Data}
use Rattle.cbm_iec.specs.declared.lines.Line.{Line}
use Rattle.cbm_iec.specs.declared.lines.Held.{Held}
use Rattle.cbm_iec.specs.declared.mouth.Mouth.TheVariants.{Led}
use Rattle.cbm_iec.specs.declared.party.Party.{Party}
use Rattle.cbm_iec.specs.declared.party.Role.TheVariants.{Absent, Listener, Talker}
use Rattle.cbm_iec.specs.declared.party.Role.{Role}
use Rattle.cbm_iec.specs.declared.port.Port.{Port}
use Rattle.cbm_iec.specs.declared.port.Side.TheVariants.{Hearing, Speaking}
use Rattle.cbm_iec.specs.declared.port.Side.{Side}
use Rattle.cbm_session.specs.Among.{Rest, wires_of, FollowsAmong}
use Rattle.cbm_session.specs.Following.{IsInTime, IsDone, in_attention, SaysPiece}
use Rattle.cbm_session.specs.Pieces.{Piece, BusPlace, Point, before, piece_steps, some_from, point_after, Open, Commanding, Listening, Leading, Cutting}
use Rattle.cbm_session.specs.Seats.{lines, Seat, device}
use Rattle.cbm_session.specs.Sessions.{rest, Linked, IsBus}

-- whether a drive holds this line; ATN is the host's alone
abbrev pub is_held : Line → Held → Bool
is_held Atn h = false
is_held Clock h = h.clock_low
is_held Data h = h.data_low

-- 1 for a line that is held, 0 for one that isn't
abbrev pub one_where : Bool → ℕ
one_where true = 1
one_where false = zero

-- how many drives but d hold it
abbrev pub holding : Line → ℕ → List Seat → ℕ
holding line d [] = zero
holding line d (x ∷ xs) = if nat_eq d (device x) then holding line d xs else one_where (is_held line x.own) + holding line d xs

-- what all but drive d hold at a point of a session
abbrev pub rest_at : ℕ → Point → Rest
rest_at d p = record { host = record { atn_low = in_attention p.place; clock_low = p.host.clock_low; data_low = p.host.data_low }; clocks = holding Clock d p.seats; datas = holding Data d p.seats }

-- What a drive waits for at a place, by its role: in attention, and as a listener, for CLOCK to be freed; as a talker that leads, for the moment of its
-- next frame; else for nothing but ATN, and nobody listens or talks on. At a cut nothing is due before it.
abbrev pub SideAmong : BusPlace → Role → Side → Type 0
SideAmong Open role side = IsDone side
SideAmong (Commanding some) role side = side ≡ Hearing Holding
SideAmong Listening Absent side = side ≡ Hearing Idle
SideAmong Listening Listener side = side ≡ Hearing Holding
SideAmong Listening Talker side = ⊥
SideAmong (Leading at) Absent side = side ≡ Hearing Idle
SideAmong (Leading at) Listener side = ⊥
SideAmong (Leading at) Talker side = side ≡ Speaking (Led at)
SideAmong (Cutting at) role side = IsInTime at (side_due side)

-- The lines that it holds there: in attention, and as a listener, DATA; as a talker that leads, CLOCK; else none.
abbrev pub OwnAt : BusPlace → Role → Held → Type 0
OwnAt Open role own = own ≡ lines false false
OwnAt (Commanding some) role own = own ≡ lines false true
OwnAt Listening Absent own = own ≡ lines false false
OwnAt Listening Listener own = own ≡ lines false true
OwnAt Listening Talker own = ⊥
OwnAt (Leading at) Absent own = own ≡ lines false false
OwnAt (Leading at) Listener own = ⊥
OwnAt (Leading at) Talker own = own ≡ lines true false
OwnAt (Cutting at) role own = Unit {0}

-- the drive on this seat stands at a point of a session: its role and lines are the seat's, it sees what all others hold, and it waits for what it should
pub record StandsAmong (p : Point) (s : Seat) (q : Port) : Type 0 where
  pub party : q.party ≡ s.party
  pub role : q.role ≡ s.role
  pub own : q.own ≡ s.own
  pub others : q.others ≡ wires_of (rest_at (device s) p)
  pub side : SideAmong p.place s.role q.side

-- the seat of a device; of one that isn't on the bus a seat that isn't there
abbrev pub seat_for : ℕ → List Seat → Seat
seat_for d [] = record { party = record { device = 0; reaction = 0; pace = Profile }; role = Absent; own = lines false false }
seat_for d (s ∷ ss) = if nat_eq d (device s) then s else seat_for d ss

-- the drive stands on its own seat at this point, and holds the lines that its role holds there
abbrev pub StandsThere : Point → Port → Type 0
StandsThere p q = StandsAmong p (seat_for q.party.device p.seats) q × OwnAt p.place q.role q.own

-- the byte to say is that of the piece, for the drive that talks; the others may have any
abbrev pub SaysAs : Role → Piece → Option (ℕ × Bool) → Type 0
SaysAs Absent k peek = Unit {0}
SaysAs Listener k peek = Unit {0}
SaysAs Talker k peek = SaysPiece k peek

-- up to each moment before a piece's last change: what stands before is made, and nothing is overdue
abbrev pub FollowsUpTo : Option (ℕ × Bool) → Port → Point → Piece → Type 0
FollowsUpTo peek q p k = (c : ℕ) → some_from c (piece_steps p k) ≡ true
    → (r2 : Rest) × ((q2 : Port) × (FollowsAmong peek (rest_at q.party.device p) q (before c (piece_steps p k)) r2 q2 × IsInTime c (port_due q2)))

-- The drive follows these pieces one after another among all others. Before each and after the last it stands as the session has it, and after each
-- the others hold what the session says.
abbrev pub FollowsAllAmong : Port → Point → List Piece → Type 0
FollowsAllAmong q p [] = StandsThere p q
FollowsAllAmong q p (k ∷ ks) =
    StandsThere p q
    × ((peek : Option (ℕ × Bool)) → SaysAs q.role k peek
    → FollowsUpTo peek q p k × ((q2 : Port) × (FollowsAmong peek (rest_at q.party.device p) q (piece_steps p k) (rest_at q.party.device (point_after p k)) q2 × FollowsAllAmong q2 (point_after p k) ks)))

-- each of these drives, from rest, follows these pieces among all others
abbrev pub EachFollows : List Party → Point → List Piece → Type 0
EachFollows [] p ks = Unit {0}
EachFollows (b ∷ bs) p ks = FollowsAllAmong (resting b) p ks × EachFollows bs p ks

-- From rest each of one to four unlike drives on a bus follows every session, cut pieces too, and stands at each of its points as the session has it.
abbrev pub FollowsBuses : Type 0
FollowsBuses = (bs : List Party) (ks : List Piece) → IsBus bs → Linked (rest bs) ks → EachFollows bs (rest bs) ks
