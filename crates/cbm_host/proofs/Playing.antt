-- A request goes on piece by piece: each fits the point after the one before, and the host performs its part of it.
use Rattle.std.proofs.Common.{◌≡◌, ℕ, zero, suc, ◌+◌, ◌*◌, ◌/◌, ◌%◌, ◌≤◌, ◌<◌, Bool, true, false, not, List, [], ◌∷◌, ◌++◌, append_assoc, append-nil, Option, None, ap, sym, ◌∙◌, subst, arith, refl}
use Rattle.std.proofs.Math.Nat.{max-le}
use Rattle.std.proofs.lemmas.Bool.{ne_eqb, le-leb, lt-leb, eq-eqb, eqb-true, eqb-false}
use Rattle.std.specs.Prelude.{if◌then◌else◌, ◌==◌}
use Rattle.cbm_iec.specs.Profile.{turn_settle, pull_pause}
use Rattle.cbm_iec.specs.Roles.{role_after}
use Rattle.cbm_iec.specs.declared.lines.Held.{Held}
use Rattle.cbm_iec.specs.declared.pace.Pace.TheVariants.{Profile, Kernal}
use Rattle.cbm_iec.specs.declared.pace.Pace.{Pace}
use Rattle.cbm_iec.specs.declared.party.Party.{Party}
use Rattle.cbm_iec.specs.declared.party.Role.TheVariants.{Absent, Listener, Talker}
use Rattle.cbm_iec.specs.declared.party.Role.{Role}
use Rattle.cbm_session.proofs.reading.PieceReadings.{seat}
use Rattle.cbm_session.specs.Bits.{byte_in_cells}
use Rattle.cbm_session.specs.Following.{alone}
use Rattle.cbm_session.specs.Pieces.{Piece, BusPlace, Point, gap_at, gap, PullFits, PieceFits, piece_steps, point_after, PullPiece, Command, ToNobody, Full, Commanding, commanding}
use Rattle.cbm_session.specs.Seats.{lines, Seat, bus_pace}
use Rattle.cbm_session.specs.Steps.{Step, host, drive, for_each}
use Rattle.cbm_iec.specs.declared.machine.Act.TheVariants.{Released}
use Rattle.cbm_iec.specs.declared.lines.Line.TheVariants.{Atn, Clock, Data}
use Rattle.cbm_iec.specs.declared.lines.Way.TheVariants.{Free}
use Rattle.cbm_host.proofs.Composing.{performs_then}
use Rattle.cbm_host.proofs.Frames.{framing, frame_fits, cells_end}
use Rattle.cbm_host.proofs.Pieces.{at_stage, pull_performed, command_performed, nobody_steps, nobody_performed}
use Rattle.cbm_host.specs.Engines.{Engined, accepted}
use Rattle.cbm_host.specs.Framed.{cells_for, start_for, frame_for}
use Rattle.cbm_host.specs.Performing.{Performs}
use Rattle.cbm_host.specs.Requests.{accept_for, leave, IsPlayed}
use Rattle.cbm_host.specs.Sending.{starts_low}
use Rattle.cbm_host.specs.Stages as stages
use Rattle.cbm_host.specs.Waits.{ready_wait, turn_wait, phase}
use Rattle.cbm_host.specs.declared.commands.Commands.TheVariants.{One}
use Rattle.cbm_host.specs.declared.frame.Frame.TheVariants.{Readying, Sent}
use Rattle.cbm_host.specs.declared.stage.Afterwards.{Afterwards}
use Rattle.cbm_host.specs.declared.stage.Afterwards.TheVariants.{Commanded}
use Rattle.cbm_host.specs.declared.stage.Errand.TheVariants.{Leaves}
use Rattle.cbm_host.specs.declared.stage.Pulls.TheVariants.{PullAtn}
use Rattle.cbm_host.specs.declared.stage.Sequence.{Sequence}
use Rattle.cbm_host.specs.declared.stage.Stage.TheVariants.{Attending, Ending}

-- ---- the byte that the bits make

low_one : (l : ℕ) (v : Bool) → ((l % 2) == 0) ≡ v → (if not v then 1 else 0) + 2 * (l / 2) ≡ l
low_one l true e = let even = eqb-true (l % 2) 0 e in omega (arith, even)
low_one l false e = let odd = eqb-false (l % 2) 0 e in omega (arith, odd)

abbrev power : ℕ → ℕ
power zero = 1
power (suc n) = 2 * power n

cells_number : (n l t : ℕ) → l < power n → byte_in_cells (cells_for n l t) ≡ l
cells_number zero l t h = omega (arith, h)
cells_number (suc n) l t h =
    let rest = cells_number n (l / 2) (t + phase + phase) (omega (arith, h)) in
    ap (λ (m : ℕ). (if not (starts_low l) then 1 else 0) + 2 * m) rest ∙ low_one l (starts_low l) refl

pub frame_byte : (b : Party) (eoi : Bool) (byte ready : ℕ) → byte < 256 → byte_in_cells (frame_for b eoi byte ready).cells ≡ byte
frame_byte b eoi byte ready h = cells_number 8 byte (start_for b eoi ready) h

-- ---- the role that it makes

pub listens : (d : ℕ) → role_after d (32 + d) Absent ≡ Listener
listens d = rw (eq-eqb (32 + d) (32 + d) refl) refl

pub talks : (d : ℕ) → role_after d (64 + d) Absent ≡ Talker
talks d = rw (ne_eqb (64 + d) (32 + d) (λ (x : 64 + d ≡ 32 + d). omega (arith, x)), eq-eqb (64 + d) (64 + d) refl) refl

pub still_listens : (d byte : ℕ) → d ≤ 11 → 96 ≤ byte → role_after d byte Listener ≡ Listener
still_listens d byte l h = rw (ne_eqb byte 63 (λ (x : byte ≡ 63). omega (arith, x, h)), ne_eqb byte (64 + d) (λ (x : byte ≡ 64 + d). omega (arith, x, l, h))) refl

pub still_talks : (d byte : ℕ) → d ≤ 11 → 96 ≤ byte → role_after d byte Talker ≡ Talker
still_talks d byte l h =
    rw (ne_eqb byte (32 + d) (λ (x : byte ≡ 32 + d). omega (arith, x, l, h)), ne_eqb byte (64 + d) (λ (x : byte ≡ 64 + d). omega (arith, x, l, h)), le-leb 64 byte (omega (arith, h)), lt-leb byte 95 (omega (arith, h))) refl

pub untalked : (d : ℕ) → d ≤ 11 → role_after d 95 Talker ≡ Absent
untalked d l = rw (ne_eqb 95 (32 + d) (λ (x : 95 ≡ 32 + d). omega (arith, x, l)), ne_eqb 95 (64 + d) (λ (x : 95 ≡ 64 + d). omega (arith, x, l))) refl

-- ---- what the host waits is enough at either pace

pub pause_enough : (e : Pace) → pull_pause e ≤ 100
pause_enough Profile = omega arith
pause_enough Kernal = omega arith

pub turn_enough : (e : Pace) → turn_settle e ≤ 20
turn_enough Profile = omega arith
turn_enough Kernal = omega arith

one_gap : (e : Pace) (s : Seat) → gap_at e (s ∷ []) (s ∷ []) ≤ 20
one_gap Profile s = omega arith
one_gap Kernal s = max-le (omega arith) (omega arith)

-- with a drive alone
pub gap_enough : (b : Party) (role : Role) (own : Held) → gap (seat b role own ∷ []) (seat b role own ∷ []) ≤ 20
gap_enough b role own = one_gap (bus_pace (seat b role own ∷ [])) (seat b role own)

-- ---- one piece, and those after it

pub go_on : {b : Party} {p : Point} {e : Engined} (k : Piece) (ks : List Piece) (limit : ℕ) (e1 : Engined) → PieceFits p k → Performs e (piece_steps p k) e1 → IsPlayed b (point_after p k) e1 ks limit → IsPlayed b p e (k ∷ ks) limit
go_on {p} k ks limit e1 fits here more = record {
  linked = (fits, more.linked);
  afterwards = more.afterwards;
  until = more.until;
  ending = more.ending;
  performs = performs_then here more.performs;
  soon = more.soon;
  front = piece_steps p k ++ more.front;
  last = more.last;
  steps = ap (λ (l : List Step). piece_steps p k ++ l) more.steps ∙ sym (append_assoc (piece_steps p k) more.front (more.last ∷ []));
  over = more.over;
  at_rest = more.at_rest;
  free = more.free;
  alone = more.alone;
}

-- a drive alone at a point
abbrev pub point : Party → Role → Held → BusPlace → Held → ℕ → Option ℕ → ℕ → ℕ → Point
point b role own place host pulled released accepted since = record {
  place = place;
  seats = seat b role own ∷ [];
  host = host;
  pulled = pulled;
  released = released;
  accepted = accepted;
  since = since;
}

-- in attention
abbrev pub attending : Party → Role → Bool → ℕ → ℕ → ℕ → Point
attending b role some pulled accepted since = point b role (lines false true) (Commanding some) (lines true false) pulled None accepted since

module _ (b : Party) (some : 1 ≤ b.reaction) (prompt : b.reaction ≤ 60) (left : List ℕ) (most : ℕ) where
  -- a byte of an attention
  pub command_then : (role : Role) (first : Bool) (pulled accept since t byte limit : ℕ) (afterwards : Afterwards) (ks : List Piece) → byte < 256 → pulled ≤ t → accept ≤ t
      → IsPlayed b (attending b (role_after b.device byte role) true pulled (accept_for b false byte (t + ready_wait)) since) (accepted (accept_for b false byte (t + ready_wait)) afterwards (framing afterwards left most Sent)) ks limit
      → IsPlayed b (attending b role first pulled accept since) (framing afterwards left most (Readying (t + ready_wait) byte false)) (Full (Command (frame_for b false byte (t + ready_wait))) ∷ ks) limit
  command_then role first pulled accept since t byte limit afterwards ks small p a more =
      let s = seat b role (lines false true) in
      let f = frame_for b false byte (t + ready_wait) in
      let e1 = accepted (accept_for b false byte (t + ready_wait)) afterwards (framing afterwards left most Sent) in
      go_on (Full (Command f)) ks limit e1 (commanding, omega (arith, p), omega (arith, a), frame_fits s false byte (t + ready_wait))
      (command_performed s some prompt left most (attending b role first pulled accept since) byte (t + ready_wait) afterwards)
      (subst (λ (n : ℕ). IsPlayed b (attending b (role_after b.device n role) true pulled (accept_for b false byte (t + ready_wait)) since) e1 ks limit) (sym (frame_byte b false byte (t + ready_wait) small)) more)

  -- ATN's release to nobody, and the end
  pub nobody_then : (role : Role) (pulled accept since limit : ℕ) → role ≡ Absent → accept + 160 ≤ limit
      → IsPlayed b (attending b role true pulled accept since) (at_stage left most (stages.releasing accept Leaves)) (Full (ToNobody (accept + turn_wait) (accept + turn_wait)) ∷ []) limit
  nobody_then role pulled accept since limit absent soon =
      subst (λ (x : Role). IsPlayed b (attending b x true pulled accept since) (at_stage left most (stages.releasing accept Leaves)) (Full (ToNobody (accept + turn_wait) (accept + turn_wait)) ∷ []) limit) (sym absent)
      (record {
        linked = ((record { commanding = refl; listener = refl; talker = refl; gap = (let few = gap_enough b Absent (lines false true) in omega (arith, few)) }, omega arith), tt);
        afterwards = at_stage left most (Ending (accept + turn_wait + ready_wait));
        until = accept + turn_wait + ready_wait;
        ending = refl;
        performs = subst (λ (l : List Step). Performs (at_stage left most (stages.releasing accept Leaves)) l (at_stage left most (Ending (accept + turn_wait + ready_wait)))) (sym (append-nil _))
            (nobody_performed (seat b Absent (lines false true)) some prompt left most (attending b Absent true pulled accept since) (lines false true) (accept + turn_wait));
        soon = omega (arith, soon);
        front = for_each Released (host (accept + turn_wait) Atn Free) ∷ host (accept + turn_wait) Clock Free ∷ [];
        last = drive b.device (accept + turn_wait + b.reaction) Data Free;
        steps = append-nil _ ∙ nobody_steps (seat b Absent (lines false true)) some prompt left most (attending b Absent true pulled accept since) (lines false true) (accept + turn_wait);
        over = omega (arith, prompt);
        at_rest = refl;
        free = refl;
        alone = refl;
      })

  -- ATN's pull
  pub pull_then : (p : Point) (s : Seat) (a : Sequence) (at limit : ℕ) (ks : List Piece) → s.party ≡ b → PullFits (alone p s) at p.place
      → IsPlayed b (attending b s.role false at p.accepted at) (at_stage left most (stages.commanding at a)) ks limit
      → IsPlayed b (alone p s) (at_stage left most (Attending at (PullAtn p.host.clock_low p.host.data_low) a)) (Full (PullPiece at) ∷ ks) limit
  pull_then p s a at limit ks same fits more =
      go_on (Full (PullPiece at)) ks limit (at_stage left most (stages.commanding at a)) fits
      (pull_performed s (subst (λ (x : Party). 1 ≤ x.reaction) (sym same) some) (subst (λ (x : Party). x.reaction ≤ 60) (sym same) prompt) left most p at a)
      (subst (λ (x : Party). IsPlayed b (attending x s.role false at p.accepted at) (at_stage left most (stages.commanding at a)) ks limit) (sym same) more)

  -- the last attention, of one byte
  abbrev pub only : ℕ → Sequence
  only byte = record { commands = One byte; errand = Leaves }

  pub leave_then : (p : Point) (s : Seat) (at byte limit : ℕ) → s.party ≡ b → PullFits (alone p s) at p.place → p.accepted ≤ at → byte < 256 → role_after b.device byte s.role ≡ Absent → at + 720 ≤ limit
      → IsPlayed b (alone p s) (at_stage left most (Attending at (PullAtn p.host.clock_low p.host.data_low) (only byte))) (leave b at (byte ∷ [])) limit
  leave_then p s at byte limit same fits late small absent soon =
      let accept = accept_for b false byte (at + ready_wait) in
      let end = cells_end 8 byte (start_for b false (at + ready_wait)) in
      pull_then p s (only byte) at limit (Full (Command (frame_for b false byte (at + ready_wait))) ∷ Full (ToNobody (accept + turn_wait) (accept + turn_wait)) ∷ []) same fits
      (command_then s.role false at p.accepted at at byte limit (Commanded None Leaves) (Full (ToNobody (accept + turn_wait) (accept + turn_wait)) ∷ []) small (omega arith) late
      (nobody_then (role_after b.device byte s.role) at accept at limit absent (omega (arith, end, prompt, soon))))
