-- The pieces of a session: the host's events and each drive's own, their bounds, and what may follow.
use Rattle.cbm_iec.specs.declared.pace.Pace.{Pace}
use Rattle.cbm_iec.specs.declared.pace.Pace.TheVariants.{Profile, Kernal}
use Rattle.std.specs.Prelude.{◌≡◌, ℕ, ◌+◌, ◌≤◌, max, Bool, true, false, not, List, [], ◌∷◌, ◌++◌, map, Option, Some, None, if◌then◌else◌, nat_le, nat_lt, filter}
use Rattle.cbm_iec.specs.Changes.{is_pull}
use Rattle.cbm_iec.specs.Profile.{lead, mute, next_byte, settle, settle_all, turn_settle, pause, pull_pause}
use Rattle.cbm_iec.specs.Roles.{role_after}
use Rattle.cbm_iec.specs.declared.machine.Act.TheVariants.{Pulled, Attention, Released, Heard, Silent}
use Rattle.cbm_iec.specs.declared.lines.Line.TheVariants.{Atn, Clock, Data}
use Rattle.cbm_iec.specs.declared.lines.Way.TheVariants.{Pull, Free}
use Rattle.cbm_iec.specs.declared.lines.Way.{Way}
use Rattle.cbm_iec.specs.declared.lines.Held.{Held}
use Rattle.cbm_iec.specs.declared.party.Party.{Party}
use Rattle.cbm_iec.specs.declared.party.Role.TheVariants.{Absent, Listener, Talker}
use Rattle.cbm_iec.specs.declared.party.Role.{Role}
use Rattle.cbm_session.specs.Bits.{where_held, where_free, byte_in_cells}
use Rattle.cbm_session.specs.Frames.{Sent, Told, wire, accept_of, hearing, sending, SentFits, is_last, telling, taking, ToldFits}
use Rattle.cbm_session.specs.Seats.{at_pace, lines, Seat, device, reaction, is_listener, is_talker, has_listener, has_talker, talker_of, listeners, spread, bus_pace}
use Rattle.cbm_session.specs.Steps.{Step, host, drive, for_each, for_one, moment_of, merge_all}

-- the eight pieces of a session, each with its moments
pub data Whole : Type 0 where
  -- the part of an attention up to its first byte: ATN's pull
  PullPiece : (at : ℕ) → Whole
  -- a frame of the host in attention; to listeners, with EOI or without
  Command : (frame : Sent) → Whole
  Byte : (eoi : Bool) → (frame : Sent) → Whole
  -- ATN's release: with a listener; with neither, and CLOCK freed then
  ToListener : (at : ℕ) → Whole
  ToNobody : (at : ℕ) → (clock : ℕ) → Whole
  -- ATN's release with a talker and CLOCK freed then: up to Lead; or nothing to say, and the host may free DATA
  ToTalker : (at : ℕ) → (clock : ℕ) → Whole
  Nothing : (at : ℕ) → (clock : ℕ) → (freed : Option ℕ) → Whole
  -- a frame of the drive, which frees CLOCK at that moment
  Talk : (at : ℕ) → (frame : Told) → Whole

-- a piece of a session, whole or cut
pub data Piece : Type 0 where
  Full : Whole → Piece
  -- a piece of a talking drive that a pull at this moment cuts
  Cut : Whole → (at : ℕ) → Piece

-- where a session stands between two pieces
pub data BusPlace : Type 0 where
  -- from rest, and after a talk is over
  Open : BusPlace
  -- in attention, after a byte or before the first
  Commanding : (some : Bool) → BusPlace
  Listening : BusPlace
  -- the drive frees CLOCK at that moment for its next frame
  Leading : (at : ℕ) → BusPlace
  -- a pull at that moment comes next
  Cutting : (at : ℕ) → BusPlace

-- what the next piece reads of the past
pub record Point : Type 0 where
  pub place : BusPlace
  pub seats : List Seat
  pub host : Held
  -- ATN's last pull, and its release where no drive talks; none before the first
  pub pulled : ℕ
  pub released : Option ℕ
  -- the accept of the last byte that the host sent: DATA pulled on the wire, by the fastest that hears it
  pub accepted : ℕ
  -- no pull comes before: the last event, or the moment after it where that was a drive's
  pub since : ℕ

-- the host's release of DATA, or none
abbrev pub freed_steps : Option ℕ → List Step
freed_steps None = []
freed_steps (Some at) = host at Data Free ∷ []

-- the host's part of each piece
abbrev pub host_part : Point → Whole → List Step
host_part p (PullPiece at) = for_each Pulled (host at Atn Pull) ∷ (where_free p.host.clock_low (host at Clock Pull) ++ where_held p.host.data_low (host at Data Free))
host_part p (Command f) = sending f
host_part p (Byte eoi f) = sending f
host_part p (ToListener at) = for_each Released (host at Atn Free) ∷ []
host_part p (ToNobody at clock) = for_each Released (host at Atn Free) ∷ host clock Clock Free ∷ []
host_part p (ToTalker at clock) = host at Data Pull ∷ for_each Released (host at Atn Free) ∷ host clock Clock Free ∷ []
host_part p (Nothing at clock freed) = host at Data Pull ∷ for_each Released (host at Atn Free) ∷ host clock Clock Free ∷ freed_steps freed
host_part p (Talk at f) = taking (talker_of p.seats) f

-- a drive without a role lets go of DATA at ATN's release
abbrev pub let_go : ℕ → Seat → List Step
let_go at s = drive (device s) (at + reaction s) Data Free ∷ []

-- A talker that has nothing to say lets go of DATA; at a KERNAL's pace it pulls CLOCK and holds both lines for a while first.
abbrev pub silent_part : Pace → ℕ → ℕ → List Step
silent_part Profile d t = for_one d Silent (drive d t Data Free) ∷ []
silent_part Kernal d t = drive d t Clock Pull ∷ drive d (t + mute) Clock Free ∷ for_one d Silent (drive d (t + mute) Data Free) ∷ []

-- when it has let go, where its reaction comes at t
abbrev pub silent_at : Pace → ℕ → ℕ
silent_at Profile t = t
silent_at Kernal t = t + mute

-- when it has let go, where the host freed CLOCK at that moment
abbrev pub silent_end : Party → ℕ → ℕ
silent_end b clock = silent_at b.pace (clock + b.reaction)

-- each drive's own part
abbrev pub own_part : Point → Whole → Seat → List Step
own_part p (PullPiece at) s = where_held s.own.clock_low (drive (device s) (at + reaction s) Clock Free) ++ where_free s.own.data_low (drive (device s) (at + reaction s) Data Pull)
own_part p (Command f) s = hearing (wire p.seats f) false (Attention (byte_in_cells f.cells)) f s
own_part p (Byte eoi f) s = if is_listener s.role then hearing (wire (listeners p.seats) f) eoi (Heard (byte_in_cells f.cells) eoi) f s else []
own_part p (ToListener at) s = elim s.role [ Absent ↦ let_go at s | Listener ↦ [] | Talker ↦ [] ]
own_part p (ToNobody at clock) s = let_go at s
own_part p (ToTalker at clock) s = elim s.role [
  | Absent ↦ let_go at s
  | Listener ↦ []
  | Talker ↦ drive (device s) (clock + reaction s) Clock Pull ∷ drive (device s) (clock + reaction s) Data Free ∷ []
]
own_part p (Nothing at clock freed) s = elim s.role [
  | Absent ↦ let_go at s
  | Listener ↦ []
  | Talker ↦ silent_part s.party.pace (device s) (clock + reaction s)
]
own_part p (Talk at f) s = if is_talker s.role then telling (at_pace (talker_of p.seats).pace s.party) at f else []

-- the events of a piece: all parts joined by moments, at one moment the host's first, then the drives' as they are listed
abbrev pub steps_of : Point → Whole → List Step
steps_of p w = merge_all (host_part p w) (map (λ s. own_part p w s) p.seats)

-- the steps before a moment
abbrev pub before : ℕ → List Step → List Step
before at steps = filter (λ s. nat_lt (moment_of s) at) steps

-- the steps of a piece; of one that is cut, those before the cut
abbrev pub piece_steps : Point → Piece → List Step
piece_steps p (Full w) = steps_of p w
piece_steps p (Cut w at) = before at (steps_of p w)

-- the moment is at least this gap after an earlier one, where there is an earlier one
abbrev pub AtLeast : ℕ → Option ℕ → ℕ → Type 0
AtLeast gap None moment = Unit {0}
AtLeast gap (Some since) moment = since + gap ≤ moment

-- from a byte's first accept to the next change of ATN, at the pace Profile: with one drive, with several
abbrev pub profile_gap : List Seat → ℕ
profile_gap [] = settle
profile_gap (s ∷ ss) = elim ss [ [] ↦ settle | t ∷ ts ↦ settle_all ]

-- the same, by the pace of the bus, the drives that heard the byte, and all: at a KERNAL's it is just after the last accept, too
abbrev pub gap_at : Pace → List Seat → List Seat → ℕ
gap_at Profile hs seats = profile_gap seats
gap_at Kernal hs seats = max settle (spread hs + 1)

-- from a byte's first accept, where these drives heard it and all are those, to the next change of ATN
abbrev pub gap : List Seat → List Seat → ℕ
gap hs seats = gap_at (bus_pace seats) hs seats

-- the host may free ATN: a byte was sent in attention, a listener and a talker are there or not as the piece says, and the gap since the last accept
-- has passed
pub record MayRelease (p : Point) (listens talks : Bool) (at : ℕ) : Type 0 where
  pub commanding : p.place ≡ Commanding true
  pub listener : has_listener p.seats ≡ listens
  pub talker : has_talker p.seats ≡ talks
  pub gap : p.accepted + gap p.seats p.seats ≤ at

-- when the host may pull ATN: where nothing is under way or drives listen, a pause after ATN's release and after what came last; at a cut, at its
-- moment; at no other place
abbrev pub PullFits : Point → ℕ → BusPlace → Type 0
PullFits p at Open = AtLeast (pull_pause (bus_pace p.seats)) p.released at × (p.since ≤ at)
PullFits p at (Commanding some) = ⊥
PullFits p at Listening = AtLeast (pull_pause (bus_pace p.seats)) p.released at × (p.accepted + gap (listeners p.seats) p.seats ≤ at)
PullFits p at (Leading s) = ⊥
PullFits p at (Cutting cut) = at ≡ cut

-- where the host frees DATA, it is after the drive's own release
abbrev pub FreedFits : ℕ → Option ℕ → Type 0
FreedFits since None = Unit {0}
FreedFits since (Some at) = since + 1 ≤ at

-- the place is in attention
pub data IsCommanding : BusPlace → Type 0 where
  commanding : {some : Bool} → IsCommanding (Commanding some)

-- a whole piece may follow at a point, and its moments keep their bounds
abbrev pub Fits : Point → Whole → Type 0
Fits p (PullPiece at) = PullFits p at p.place
Fits p (Command f) = IsCommanding p.place × (p.pulled + pause ≤ f.ready) × (p.accepted + pause ≤ f.ready) × SentFits p.seats false f
Fits p (Byte eoi f) = (p.place ≡ Listening) × AtLeast pause p.released f.ready × (p.accepted + pause ≤ f.ready) × SentFits (listeners p.seats) eoi f
Fits p (ToListener at) = MayRelease p true false at
Fits p (ToNobody at clock) = MayRelease p false false at × (at ≤ clock)
Fits p (ToTalker at clock) = MayRelease p false true at × (at + turn_settle (talker_of p.seats).pace ≤ clock)
Fits p (Nothing at clock freed) = MayRelease p false true at × (at + turn_settle (talker_of p.seats).pace ≤ clock) × FreedFits (silent_end (talker_of p.seats) clock) freed
Fits p (Talk at f) = (p.place ≡ Leading at) × ToldFits (talker_of p.seats) at f

-- A cut is of a piece of a talking drive, after the moment at which that begins. A frame begins where the piece before ends.
abbrev pub CutFits : Point → Whole → ℕ → Type 0
CutFits p (ToTalker at clock) cut = at + 1 ≤ cut
CutFits p (Nothing at clock freed) cut = at + 1 ≤ cut
CutFits p (Talk at f) cut = p.since ≤ cut
CutFits p w cut = ⊥

-- whether some of these steps isn't before that moment
abbrev pub some_from : ℕ → List Step → Bool
some_from at [] = false
some_from at (s ∷ ss) = if nat_le at (moment_of s) then true else some_from at ss

-- a piece may follow at a point; one that is cut could follow whole, is cut where that is allowed, and loses at least its last step
abbrev pub PieceFits : Point → Piece → Type 0
PieceFits p (Full w) = Fits p w
PieceFits p (Cut w at) = Fits p w × CutFits p w at × (some_from at (steps_of p w) ≡ true)

-- the lines that a party holds after these steps of its own
abbrev pub held_by : Held → List Step → Held
held_by held [] = held
held_by held (s ∷ ss) =
    held_by (elim s.event.change.line [ Atn ↦ held | Clock ↦ record held { clock_low = is_pull s.event.change.way } | Data ↦ record held { data_low = is_pull s.event.change.way } ]) ss

-- the place after a byte of the talker: open after its last, else the next frame is led
abbrev pub told_place : Told → BusPlace
told_place f = if is_last f then Open else Leading (f.accept + next_byte)

-- the moment before which no pull of ATN comes, after a byte of the talker
abbrev pub told_since : Party → Told → ℕ
told_since b f = if is_last f then f.accept + b.reaction + 1 else f.accept

-- the moment before which no pull of ATN comes, where a talker has nothing to say: just after its answer, or the host's release of DATA
abbrev pub afterwards : ℕ → Option ℕ → ℕ
afterwards answer None = answer + 1
afterwards answer (Some at) = at

-- the same, and just after the releases of DATA of drives without a role, where ATN is freed at that moment
abbrev pub after_all_of : ℕ → ℕ → List Seat → ℕ
after_all_of at moment [] = moment
after_all_of at moment (s ∷ ss) = elim s.role [ Absent ↦ max (at + reaction s + 1) (after_all_of at moment ss) | Listener ↦ after_all_of at moment ss | Talker ↦ after_all_of at moment ss ]

-- whether there is no moment
abbrev pub is_none : Option ℕ → Bool
is_none None = true
is_none (Some at) = false

-- a seat with this role and these lines
abbrev pub seat_with : Role → Held → Seat → Seat
seat_with role own s = record { party = s.party; role = role; own = own }

-- a drive after a byte in attention: the role that the byte gives it, and DATA held
abbrev pub obeying : ℕ → Seat → Seat
obeying byte s = seat_with (role_after (device s) byte s.role) (lines false true) s

-- a drive when ATN is free: a listener holds DATA, a talker these lines, the others nothing
abbrev pub standing : Held → Seat → Seat
standing talking s = elim s.role [ Absent ↦ seat_with Absent (lines false false) s | Listener ↦ seat_with Listener (lines false true) s | Talker ↦ seat_with Talker talking s ]

-- the point after a whole piece
abbrev pub whole_point : Point → Whole → Point
whole_point p (PullPiece at) = record { place = Commanding false; seats = map (λ s. seat_with s.role (lines false true) s) p.seats; host = lines true false; pulled = at; released = None; accepted = p.accepted; since = at }
whole_point p (Command f) = record { place = Commanding true; seats = map (λ s. obeying (byte_in_cells f.cells) s) p.seats; host = lines true false; pulled = p.pulled; released = None; accepted = accept_of p.seats f; since = p.since }
whole_point p (Byte eoi f) = record { place = Listening; seats = map (λ s. standing (lines false false) s) p.seats; host = lines true false; pulled = p.pulled; released = p.released; accepted = accept_of (listeners p.seats) f; since = p.since }
whole_point p (ToListener at) = record { place = Listening; seats = map (λ s. standing (lines false false) s) p.seats; host = lines true false; pulled = p.pulled; released = Some at; accepted = p.accepted; since = at }
whole_point p (ToNobody at clock) = record { place = Open; seats = map (λ s. standing (lines false false) s) p.seats; host = lines false false; pulled = p.pulled; released = Some at; accepted = p.accepted; since = clock }
whole_point p (ToTalker at clock) = record {
  place = Leading (clock + (talker_of p.seats).reaction + lead);
  seats = map (λ s. standing (lines true false) s) p.seats;
  host = lines false true;
  pulled = p.pulled;
  released = None;
  accepted = p.accepted;
  since = after_all_of at (clock + (talker_of p.seats).reaction + 1) p.seats;
}
whole_point p (Nothing at clock freed) = record {
  place = Open;
  seats = map (λ s. standing (lines false false) s) p.seats;
  host = lines false (is_none freed);
  pulled = p.pulled;
  released = None;
  accepted = p.accepted;
  since = after_all_of at (afterwards (silent_end (talker_of p.seats) clock) freed) p.seats;
}
whole_point p (Talk at f) = record {
  place = told_place f;
  seats = map (λ s. standing (lines (not (is_last f)) false) s) p.seats;
  host = lines false true;
  pulled = p.pulled;
  released = None;
  accepted = p.accepted;
  since = told_since (talker_of p.seats) f;
}

-- the point after a piece; after one that is cut, each party holds what its own steps before the cut leave, and ATN's pull comes next
abbrev pub point_after : Point → Piece → Point
point_after p (Full w) = whole_point p w
point_after p (Cut w at) = record {
  place = Cutting at;
  seats = map (λ s. seat_with s.role (held_by s.own (before at (own_part p w s))) s) p.seats;
  host = held_by p.host (before at (host_part p w));
  pulled = p.pulled;
  released = None;
  accepted = p.accepted;
  since = at;
}
