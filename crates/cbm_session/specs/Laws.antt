-- Laws of the definitions: what must hold of them if they say what they mean.
use Rattle.std.specs.Prelude.{◌≡◌, ℕ, ◌+◌, ◌≤◌, ◌<◌, ◌⊎◌, Bool, true, false, List, [], ◌∷◌, ◌++◌, map}
use Rattle.cbm_iec.specs.Profile.{slowest_reaction, eoi_wait}
use Rattle.cbm_iec.specs.declared.machine.Act.TheVariants.{Attention, Heard}
use Rattle.cbm_iec.specs.declared.machine.Act.{Act}
use Rattle.cbm_iec.specs.declared.event.Event.{Event}
use Rattle.cbm_iec.specs.declared.event.Who.TheVariants.{Host, Drive}
use Rattle.cbm_iec.specs.declared.event.Who.{Who}
use Rattle.cbm_iec.specs.declared.lines.Line.TheVariants.{Clock, Data}
use Rattle.cbm_iec.specs.declared.lines.Way.TheVariants.{Pull, Free}
use Rattle.cbm_iec.specs.declared.party.Party.{Party}
use Rattle.cbm_session.specs.Among.{ComesAfter}
use Rattle.cbm_session.specs.Bits.{where_held, cells_steps, held_after, byte_in_cells}
use Rattle.cbm_session.specs.Frames.{Sent, wire, end_of, pulse_from, longest_lasting, pulse_to, pulse, SentFits}
use Rattle.cbm_session.specs.Pieces.{Whole, Piece, Point, steps_of, Fits, whole_point, PullPiece, Command, Byte, ToListener, ToNobody, ToTalker, Nothing, Talk}
use Rattle.cbm_session.specs.Seats.{Seat, device, reaction, listeners, fastest}
use Rattle.cbm_session.specs.Sessions.{rest, Linked, session_steps, Splits, Begins, IsBus}
use Rattle.cbm_session.specs.Steps.{Step, host, drive, for_one, moment_of, events_of, merge_all}
use Rattle.cbm_session.specs.Timing.{LaterHost, Owes, IsLate, any, HostKeeps}

-- each of these drives takes at least one microsecond to react, and reacts in time
abbrev pub SeatsReact : List Seat → Type 0
SeatsReact [] = Unit {0}
SeatsReact (s ∷ ss) = (1 ≤ reaction s) × (reaction s ≤ slowest_reaction) × SeatsReact ss

-- one of these drives holds DATA in its pulse at moment m, where T is t
abbrev pub IsPulsing : List Seat → ℕ → ℕ → Type 0
IsPulsing [] t m = ⊥
IsPulsing (s ∷ ss) t m = ((pulse_from t s ≤ m) × (m < pulse_to t s)) ⊎ IsPulsing ss t m

-- the pulses of listeners are one pulse on the wire: DATA is held exactly from the fastest's pull to the last release
pub record IsOnePulse (hs : List Seat) (t m : ℕ) : Type 0 where
  pub from : IsPulsing hs t m → t + eoi_wait + fastest hs ≤ m
  pub upto : IsPulsing hs t m → m < t + eoi_wait + longest_lasting hs
  pub held : t + eoi_wait + fastest hs ≤ m → m < t + eoi_wait + longest_lasting hs → IsPulsing hs t m

-- the pulses of one or more drives that react in time are one pulse
abbrev pub OnePulse : Type 0
OnePulse = (s : Seat) (ss : List Seat) (t m : ℕ) → SeatsReact (s ∷ ss) → IsOnePulse (s ∷ ss) t m

-- the pulse has ended before the host may pull CLOCK
abbrev pub PulseEnds : Type 0
PulseEnds = (s : Seat) (ss : List Seat) (f : Sent) (m : ℕ) → SeatsReact (s ∷ ss) → SentFits (s ∷ ss) true f → IsPulsing (s ∷ ss) (wire (s ∷ ss) f) m → m < f.start

-- the host's first change of a piece
abbrev pub begin_of : Whole → ℕ
begin_of (PullPiece at) = at
begin_of (Command f) = f.ready
begin_of (Byte eoi f) = f.ready
begin_of (ToListener at) = at
begin_of (ToNobody at clock) = at
begin_of (ToTalker at clock) = at
begin_of (Nothing at clock freed) = at
begin_of (Talk at f) = f.free

-- each of these has pulled DATA after the last bit, before that moment
abbrev pub AllAccepted : List Seat → Sent → ℕ → Type 0
AllAccepted [] f m = Unit {0}
AllAccepted (s ∷ ss) f m = (end_of f + reaction s < m) × AllAccepted ss f m

-- each listener has accepted a byte before the host may go on
abbrev pub ListenersAccepted : Type 0
ListenersAccepted = (p : Point) (eoi : Bool) (f : Sent) (next : Whole) → SeatsReact p.seats → Fits p (Byte eoi f) → Fits (whole_point p (Byte eoi f)) next
    → AllAccepted (listeners p.seats) f (begin_of next)

-- each drive has accepted a byte in attention before the host may go on
abbrev pub DrivesAccepted : Type 0
DrivesAccepted = (p : Point) (f : Sent) (next : Whole) → SeatsReact p.seats → Fits p (Command f) → Fits (whole_point p (Command f)) next → AllAccepted p.seats f (begin_of next)

-- all drives let go of DATA in a frame of the host, joined by moments
abbrev pub releases : List Seat → Sent → List Step
releases hs f = merge_all [] (map (λ s. drive (device s) (f.ready + reaction s) Data Free ∷ []) hs)

-- all drives pulse where EOI is signalled, joined by moments
abbrev pub pulses : List Seat → ℕ → Bool → List Step
pulses hs t eoi = merge_all [] (map (λ s. pulse t eoi s) hs)

-- the host's bits, from the start on
abbrev pub from_start : Sent → List Step
from_start f = host f.start Clock Pull ∷ (cells_steps false f.cells ++ where_held (held_after false f.cells) (host (end_of f) Data Free))

-- all drives accept, joined by moments
abbrev pub accepts : List Seat → Sent → Act → List Step
accepts hs f act = merge_all [] (map (λ s. for_one (device s) act (drive (device s) (end_of f + reaction s) Data Pull) ∷ []) hs)

-- a frame of the host in five parts, one after another: ready, all let go of DATA, all pulse, the bits, all accept
abbrev pub frame_in_parts : List Seat → Bool → Act → Sent → List Step
frame_in_parts hs eoi act f = host f.ready Clock Free ∷ (releases hs f ++ (pulses hs (wire hs f) eoi ++ (from_start f ++ accepts hs f act)))

-- A frame in attention goes so, one part whole after the other, with any number of drives and whatever their reactions are.
abbrev pub CommandsGoInParts : Type 0
CommandsGoInParts = (p : Point) (f : Sent) → SeatsReact p.seats → Fits p (Command f) → steps_of p (Command f) ≡ frame_in_parts p.seats false (Attention (byte_in_cells f.cells)) f

-- A frame to listeners goes so too, with those that listen.
abbrev pub BytesGoInParts : Type 0
BytesGoInParts = (p : Point) (eoi : Bool) (f : Sent) → SeatsReact p.seats → Fits p (Byte eoi f) → steps_of p (Byte eoi f) ≡ frame_in_parts (listeners p.seats) eoi (Heard (byte_in_cells f.cells) eoi) f

-- the second change isn't sooner than the first, and later where the first is a drive's and the second the host's
abbrev pub NotSooner : Who → ℕ → Who → ℕ → Type 0
NotSooner Host m w n = m ≤ n
NotSooner (Drive o) m w n = ComesAfter m w n

-- each of these steps comes so after a change
abbrev pub AllAfter : Who → ℕ → List Step → Type 0
AllAfter w m [] = Unit {0}
AllAfter w m (s ∷ ss) = NotSooner w m s.event.who (moment_of s) × AllAfter w m ss

-- each of these steps comes so after all before it
abbrev pub GoesOn : List Step → Type 0
GoesOn [] = Unit {0}
GoesOn (s ∷ ss) = AllAfter s.event.who (moment_of s) ss × GoesOn ss

-- A session's moments never go back, and a change of the host comes later than the drives' changes before it.
abbrev pub SessionsGoOn : Type 0
SessionsGoOn = (bs : List Party) (ks : List Piece) → IsBus bs → Linked (rest bs) ks → GoesOn (session_steps (rest bs) ks)

-- A trace has only one reading: the acts that count in it are determined, for every bus.
abbrev pub OneReading : Type 0
OneReading = (bs : List Party) (trace : List Event) (x y : List (List Act)) → IsBus bs → Begins bs x trace → Begins bs y trace → x ≡ y

-- A host that goes on with a session, which then has no further change of it up to an end, keeps the timing up to there.
abbrev pub FrontsKeep : Type 0
FrontsKeep = (bs : List Party) (ks : List Piece) (done more : List Step) (end : ℕ) → IsBus bs → Splits bs ks done more → LaterHost end more → HostKeeps bs (events_of done) end

-- And where no drive owes a change there, none was late; among any set of sessions that has this one.
abbrev pub InTimeAmong : (List Piece → Type 0) → Type 0
InTimeAmong among = (bs : List Party) (ks : List Piece) (done more : List Step) (end : ℕ) → IsBus bs → among ks → Splits bs ks done more → LaterHost end more
    → (Owes end more → ⊥) → IsLate bs among (events_of done) end → ⊥

-- the same among all sessions
abbrev pub FrontsInTime : Type 0
FrontsInTime = InTimeAmong any
