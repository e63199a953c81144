-- The pieces of a request on the wires, from its first change on, for a drive of either pace alone with the host: in the field's words LISTEN or TALK, a secondary
-- address, the bytes with EOI on the last, and UNLISTEN or UNTALK.
use Rattle.std.specs.Prelude.{replicate, ◌≡◌, ◌≤◌, ℕ, ◌+◌, Bool, true, false, List, [], ◌∷◌, ◌++◌, Some, if◌then◌else◌, nat_lt, length}
use Rattle.cbm_iec.specs.Profile.{lead, next_byte}
use Rattle.cbm_iec.specs.declared.pace.Pace.TheVariants.{Profile, Kernal}
use Rattle.cbm_iec.specs.declared.pace.Pace.{Pace}
use Rattle.cbm_iec.specs.declared.party.Party.{Party}
use Rattle.cbm_session.specs.Frames.{end_of}
use Rattle.cbm_session.specs.Pieces.{Piece, Point, point_after, Open, PullPiece, Command, Byte, ToListener, ToNobody, ToTalker, Nothing, Talk, Full, Cut}
use Rattle.cbm_session.specs.Seats.{lines}
use Rattle.cbm_session.specs.Sessions.{rest, Linked, session_steps, IsDrive}
use Rattle.cbm_session.specs.Steps.{Step, moment_of}
use Rattle.cbm_iec.specs.declared.party.Role.TheVariants.{Absent}
use Rattle.cbm_iec.specs.Attentions.{listen, unlisten, talk, untalk, data_on, close_on, open_on}
use Rattle.cbm_host.specs.Engines.{Engined, engine_at, is_last_byte, channel_of, sent_by, most_bytes, most_of}
use Rattle.cbm_host.specs.Framed.{frame_for, told_for, hushed_for}
use Rattle.cbm_host.specs.Performing.{Performs}
use Rattle.cbm_host.specs.Waits.{ready_wait, answer_wait, phase, turn_wait}
use Rattle.cbm_host.specs.declared.request.Request.{Request}
use Rattle.cbm_host.specs.declared.request.Request.TheVariants.{Open, Put, Fill, Get, Close, Status}
use Rattle.cbm_host.specs.declared.stage.Stage.TheVariants.{Ending}

-- when the drive accepts a byte of the host for which CLOCK is freed then
abbrev pub accept_for : Party → Bool → ℕ → ℕ → ℕ
accept_for b eoi byte ready = end_of (frame_for b eoi byte ready) + b.reaction

-- the last accept of the bytes of an attention, after ATN's pull or an accept at t
abbrev pub commanded : Party → ℕ → List ℕ → ℕ
commanded b t [] = t
commanded b t (byte ∷ bytes) = commanded b (accept_for b false byte (t + ready_wait)) bytes

-- the frames of the bytes of an attention, after ATN's pull or an accept at t
abbrev pub commands : Party → ℕ → List ℕ → List Piece
commands b t [] = []
commands b t (byte ∷ bytes) = Full (Command (frame_for b false byte (t + ready_wait))) ∷ commands b (accept_for b false byte (t + ready_wait)) bytes

-- AN ATTENTION: ATN's pull and these bytes
abbrev pub attention : Party → ℕ → List ℕ → List Piece
attention b at bytes = Full (PullPiece at) ∷ commands b at bytes

-- when ATN is freed after an attention
abbrev pub released_for : Party → ℕ → List ℕ → ℕ
released_for b at bytes = commanded b at bytes + turn_wait

-- THE LAST ATTENTION of a request: nobody listens or talks after it, and ATN and CLOCK are freed at one moment
abbrev pub leave : Party → ℕ → List ℕ → List Piece
leave b at bytes = attention b at bytes ++ Full (ToNobody (released_for b at bytes) (released_for b at bytes)) ∷ []

-- BYTES TO THE LISTENER, after ATN's release or an accept at t, with EOI on the last, and UNLISTEN. Where none is left ATN is pulled a wait after t.
abbrev pub bytes_sent : Party → ℕ → ℕ → List ℕ → List Piece
bytes_sent b t wait [] = leave b (t + wait) (unlisten ∷ [])
bytes_sent b t wait (byte ∷ left) = Full (Byte (is_last_byte left) (frame_for b (is_last_byte left) byte (t + ready_wait))) ∷ bytes_sent b (accept_for b (is_last_byte left) byte (t + ready_wait)) turn_wait left

-- a request that sends: LISTEN and a secondary address in attention, the bytes, and UNLISTEN
abbrev pub sending_pieces : Party → ℕ → ℕ → List ℕ → List Piece
sending_pieces b start second bytes =
    let first = (listen + b.device) ∷ second ∷ [] in
    let at = released_for b start first in
    attention b start first ++ Full (ToListener at) ∷ bytes_sent b at ready_wait bytes

-- What the talker said: nothing; bytes up to the one with EOI; or as many as were wanted, and after them this byte is pending, the last one or not.
pub data Said : Type 0 where
  Mute : Said
  UpToLast : (first : ℕ) → (more : List ℕ) → Said
  UpToMost : (first : ℕ) → (more : List ℕ) → (next : ℕ) → (last : Bool) → Said

-- The last byte of the talker, which frees CLOCK for it at that moment, and UNTALK. A drive that reacts soon frees CLOCK before ATN is pulled; a slower
-- one is cut there.
abbrev pub at_last : Party → ℕ → ℕ → List Piece
at_last b byte at =
    let f = told_for b true byte at in
    (if nat_lt b.reaction answer_wait then Full (Talk at f) else Cut (Talk at f) (f.accept + answer_wait)) ∷ leave b (f.accept + answer_wait) (untalk ∷ [])

-- the bytes of the talker up to its last one, and UNTALK
abbrev pub up_to_last : Party → ℕ → ℕ → List ℕ → List Piece
up_to_last b at byte [] = at_last b byte at
up_to_last b at byte (next ∷ more) = Full (Talk at (told_for b false byte at)) ∷ up_to_last b ((told_for b false byte at).accept + next_byte) next more

-- The last byte that is wanted: the frame of the next one is cut before it begins.
abbrev pub taken_at_most : Party → ℕ → Bool → ℕ → ℕ → List Piece
taken_at_most b next last byte at =
    let f = told_for b false byte at in
    let at2 = f.accept + next_byte in
    Full (Talk at f) ∷ Cut (Talk at2 (told_for b last next at2)) (f.accept + answer_wait) ∷ leave b (f.accept + answer_wait) (untalk ∷ [])

-- as many bytes of the talker as are wanted, and UNTALK
abbrev pub up_to_most : Party → ℕ → Bool → ℕ → ℕ → List ℕ → List Piece
up_to_most b next last at byte [] = taken_at_most b next last byte at
up_to_most b next last at byte (byte2 ∷ more) = Full (Talk at (told_for b false byte at)) ∷ up_to_most b next last ((told_for b false byte at).accept + next_byte) byte2 more

-- BYTES OF THE TALKER, after ATN's release at that moment
abbrev pub turnaround_pieces : Party → ℕ → Said → List Piece
turnaround_pieces b at Mute =
    let freed = hushed_for b.pace b.reaction (at + phase) in
    Full (Nothing at (at + phase) (Some freed)) ∷ leave b (freed + answer_wait) (untalk ∷ [])
turnaround_pieces b at (UpToLast first more) = Full (ToTalker at (at + phase)) ∷ up_to_last b (at + phase + b.reaction + lead) first more
turnaround_pieces b at (UpToMost first more next last) = Full (ToTalker at (at + phase)) ∷ up_to_most b next last (at + phase + b.reaction + lead) first more

-- a request that takes: TALK and a secondary address in attention, the turnaround, the bytes, and UNTALK
abbrev pub taking_pieces : Party → ℕ → ℕ → Said → List Piece
taking_pieces b start channel said =
    let first = (talk + b.device) ∷ (data_on + channel) ∷ [] in
    attention b start first ++ turnaround_pieces b (released_for b start first) said

-- THE PIECES OF A REQUEST, by what the talker says
abbrev pub pieces_of : Party → ℕ → Said → Request → List Piece
pieces_of b start said (Open channel text) = sending_pieces b start (open_on + channel) text.now
pieces_of b start said (Put channel bytes) = sending_pieces b start (data_on + channel) bytes.now
pieces_of b start said (Fill channel count byte) = sending_pieces b start (data_on + channel) (replicate count byte)
pieces_of b start said (Get channel most) = taking_pieces b start channel said
pieces_of b start said (Close channel) = leave b start ((listen + b.device) ∷ (close_on + channel) ∷ unlisten ∷ [])
pieces_of b start said Status = taking_pieces b start 15 said

-- how many bytes were said
abbrev pub said_count : Said → ℕ
said_count Mute = 0
said_count (UpToLast first more) = length more + 1
said_count (UpToMost first more next last) = length more + 1

-- what the talker said is what a request takes that wants this many bytes at most
abbrev pub IsSaidFor : ℕ → Said → Type 0
IsSaidFor most Mute = Unit {0}
IsSaidFor most (UpToLast first more) = length more + 1 ≤ most
IsSaidFor most (UpToMost first more next last) = length more + 1 ≡ most

-- THE LONGEST REQUEST, in microseconds: of 200,000 bytes that a drive says each takes 1,160 at most, at a KERNAL's pace 1,480, with its bits of 160.
abbrev pub longest : Pace → ℕ
longest Profile = 250000000
longest Kernal = 320000000

-- the point of a session after pieces
abbrev pub end_point : Point → List Piece → Point
end_point p [] = p
end_point p (k ∷ ks) = end_point (point_after p k) ks

-- These pieces go on a session from a point to one where all lines are free and the drive has no role, and the host performs its part of them, from
-- its engine at that point until it only waits for the end, which is after the last step and not later than a limit.
pub record IsPlayed (b : Party) (p : Point) (e : Engined) (ks : List Piece) (limit : ℕ) : Type 0 where
  pub linked : Linked p ks
  pub afterwards : Engined
  pub until : ℕ
  pub ending : afterwards.stage ≡ Ending until
  pub performs : Performs e (session_steps p ks) afterwards
  pub soon : until ≤ limit
  pub front : List Step
  pub last : Step
  pub steps : session_steps p ks ≡ front ++ last ∷ []
  pub over : moment_of last ≤ until
  pub at_rest : (end_point p ks).place ≡ Open
  pub free : (end_point p ks).host ≡ lines false false
  pub alone : (end_point p ks).seats ≡ (record { party = b; role = Absent; own = lines false false }) ∷ []

-- EVERY REQUEST is a session of its own, whatever the drive says in it, and the host performs its part of it.
abbrev pub PlaysRequests : Type 0
PlaysRequests = (b : Party) (start : ℕ) (said : Said) (request : Request) → IsDrive b → channel_of request ≤ 15 → length (sent_by request) ≤ most_bytes → IsSaidFor (most_of request) said → said_count said ≤ most_bytes
    → IsPlayed b (rest (b ∷ [])) (engine_at start b.device request) (pieces_of b start said request) (start + longest b.pace)
