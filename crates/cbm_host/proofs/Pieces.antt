-- The host performs each piece of a request.
use Rattle.std.proofs.Common.{◌≡◌, ℕ, ◌+◌, ◌≤◌, Bool, true, false, List, [], ◌∷◌, ◌++◌, Some, ap, sym, ◌∙◌, subst, arith, refl}
use Rattle.cbm_iec.specs.declared.machine.Act.TheVariants.{Pulled, Attention, Released, Heard, Silent}
use Rattle.cbm_iec.specs.declared.lines.Line.TheVariants.{Atn, Clock, Data}
use Rattle.cbm_iec.specs.declared.lines.Way.TheVariants.{Pull, Free}
use Rattle.cbm_iec.specs.Profile.{mute}
use Rattle.cbm_iec.specs.declared.lines.Held.{Held}
use Rattle.cbm_iec.specs.declared.pace.Pace.TheVariants.{Profile, Kernal}
use Rattle.cbm_iec.specs.declared.pace.Pace.{Pace}
use Rattle.cbm_iec.specs.declared.party.Party.{Party}
use Rattle.cbm_iec.specs.declared.party.Role.TheVariants.{Absent, Listener, Talker}
use Rattle.cbm_session.proofs.joining.Merging.{merge_here, merge_there}
use Rattle.cbm_session.proofs.joining.OneDrive.{pull_is, frame_is}
use Rattle.cbm_session.proofs.reading.PieceReadings.{seat, turn_first}
use Rattle.cbm_session.specs.Bits.{where_held, where_free, byte_in_cells}
use Rattle.cbm_session.specs.Following.{alone}
use Rattle.cbm_session.specs.Frames.{end_of}
use Rattle.cbm_session.specs.Pieces.{silent_part, silent_at, Point, steps_of, PullPiece, Command, Byte, ToListener, ToNobody, ToTalker, Nothing}
use Rattle.cbm_session.specs.Seats.{at_pace, Seat, device, reaction}
use Rattle.cbm_session.specs.Steps.{Step, host, drive, for_each, for_one}
use Rattle.cbm_host.proofs.Composing.{performs_then}
use Rattle.cbm_host.proofs.Frames.{framing, frame_performs, last_performs, cells_fit}
use Rattle.cbm_host.specs.Engines.{Engined, accepted, sending_on}
use Rattle.cbm_host.specs.Framed.{frame_for, hushed_for}
use Rattle.cbm_host.specs.Performing.{Performs, ends, makes, sees, passes}
use Rattle.cbm_host.specs.Stages.{commanding, leaving}
use Rattle.cbm_iec.specs.Attentions.{untalk}
use Rattle.cbm_host.specs.Waits.{ready_wait, answer_wait, phase, silence}
use Rattle.cbm_host.specs.declared.frame.Frame.TheVariants.{Readying, Sent}
use Rattle.cbm_host.specs.declared.stage.Afterwards.{Afterwards}
use Rattle.cbm_host.specs.declared.stage.Sequence.{Sequence}
use Rattle.cbm_host.specs.declared.stage.Pulls.TheVariants.{PullAtn}
use Rattle.cbm_host.specs.declared.stage.Release.TheVariants.{AtnToNobody, DataToTalker}
use Rattle.cbm_host.specs.declared.stage.Stage.{Stage}
use Rattle.cbm_host.specs.declared.stage.Stage.TheVariants.{Attending, Calling, Releasing, Taking, Ending}
use Rattle.cbm_host.specs.declared.take.Take.TheVariants.{Awaiting}

-- a host at a stage of a request
abbrev pub at_stage : List ℕ → ℕ → Stage → Engined
at_stage left most stage = record { stage = stage; left = left; most = most }

module _ (s : Seat) (some : 1 ≤ reaction s) (prompt : reaction s ≤ 60) (left : List ℕ) (most : ℕ) where
  abbrev is_at : Stage → Engined
  is_at stage = at_stage left most stage

  -- ATN's pull
  host_pulls : (c d : Bool) (at : ℕ) (a : Sequence) → Performs (is_at (Attending at (PullAtn c d) a)) (for_each Pulled (host at Atn Pull) ∷ (where_free c (host at Clock Pull) ++ where_held d (host at Data Free))) (is_at (commanding at a))
  host_pulls true true at a = makes refl refl (makes refl refl (ends refl))
  host_pulls true false at a = makes refl refl (ends refl)
  host_pulls false true at a = makes refl refl (makes refl refl (makes refl refl (ends refl)))
  host_pulls false false at a = makes refl refl (makes refl refl (ends refl))

  drive_pulled : (oc od : Bool) (at : ℕ) (a : Sequence) → Performs (is_at (commanding at a)) (where_held oc (drive (device s) (at + reaction s) Clock Free) ++ where_free od (drive (device s) (at + reaction s) Data Pull)) (is_at (commanding at a))
  drive_pulled true true at a = sees (omega (arith, prompt)) (ends refl)
  drive_pulled true false at a = sees (omega (arith, prompt)) (sees (omega (arith, prompt)) (ends refl))
  drive_pulled false true at a = ends refl
  drive_pulled false false at a = sees (omega (arith, prompt)) (ends refl)

  pub pull_performed : (p : Point) (at : ℕ) (a : Sequence) → Performs (is_at (Attending at (PullAtn p.host.clock_low p.host.data_low) a)) (steps_of (alone p s) (PullPiece at)) (is_at (commanding at a))
  pull_performed p at a =
      subst (λ (zs : List Step). Performs (is_at (Attending at (PullAtn p.host.clock_low p.host.data_low) a)) zs (is_at (commanding at a))) (sym (pull_is (alone p s) s at))
      (performs_then (host_pulls p.host.clock_low p.host.data_low at a) (drive_pulled s.own.clock_low s.own.data_low at a))

  -- a byte in attention, and one to a listener
  pub command_performed : (p : Point) (byte ready : ℕ) (afterwards : Afterwards) → let f = frame_for s.party false byte ready in
      Performs (framing afterwards left most (Readying ready byte false)) (steps_of (alone p s) (Command f)) (accepted (end_of f + reaction s) afterwards (framing afterwards left most Sent))
  command_performed p byte ready afterwards =
      let f = frame_for s.party false byte ready in
      let e = framing afterwards left most (Readying ready byte false) in
      let e2 = accepted (end_of f + reaction s) afterwards (framing afterwards left most Sent) in
      subst (λ (zs : List Step). Performs e zs e2) (sym (frame_is (ready + reaction s) s (Attention (byte_in_cells f.cells)) f false (omega arith) (cells_fit false 8 byte f.start)))
      (frame_performs afterwards left most s (Attention (byte_in_cells f.cells)) byte ready)

  -- ATN's release
  pub listener_performed : (p : Point) (o : Held) (at : ℕ) → let t = seat s.party Listener o in
      Performs (is_at (Calling at)) (steps_of (alone p t) (ToListener at)) (sending_on at ready_wait most left)
  listener_performed p o at = makes refl refl (ends refl)

  pub nobody_steps : (p : Point) (o : Held) (at : ℕ) → steps_of (alone p (seat s.party Absent o)) (ToNobody at at) ≡ for_each Released (host at Atn Free) ∷ host at Clock Free ∷ drive (device s) (at + reaction s) Data Free ∷ []
  nobody_steps p o at =
      let freed = drive (device s) (at + reaction s) Data Free in
      merge_here (for_each Released (host at Atn Free)) (host at Clock Free ∷ []) freed [] (omega arith) ∙ ap (λ (zs : List Step). for_each Released (host at Atn Free) ∷ zs) (merge_here (host at Clock Free) [] freed [] (omega arith))

  pub nobody_performed : (p : Point) (o : Held) (at : ℕ) → let t = seat s.party Absent o in
      Performs (is_at (Releasing at AtnToNobody)) (steps_of (alone p t) (ToNobody at at)) (is_at (Ending (at + ready_wait)))
  nobody_performed p o at =
      subst (λ (zs : List Step). Performs (is_at (Releasing at AtnToNobody)) zs (is_at (Ending (at + ready_wait)))) (sym (nobody_steps p o at))
      (makes refl refl (makes refl refl (sees (omega (arith, prompt)) (ends refl))))

  -- the turnaround
  pub talker_steps : (p : Point) (o : Held) (at : ℕ) → steps_of (alone p (seat s.party Talker o)) (ToTalker at (at + phase))
      ≡ host at Data Pull ∷ for_each Released (host at Atn Free) ∷ host (at + phase) Clock Free ∷ drive (device s) (at + phase + reaction s) Clock Pull ∷ drive (device s) (at + phase + reaction s) Data Free ∷ []
  talker_steps p o at =
      let clock = at + phase in
      let answer = drive (device s) (clock + reaction s) Clock Pull ∷ drive (device s) (clock + reaction s) Data Free ∷ [] in
      turn_first at (host clock Clock Free ∷ []) answer (omega arith)
      ∙ ap (λ (zs : List Step). host at Data Pull ∷ for_each Released (host at Atn Free) ∷ zs) (merge_here (host clock Clock Free) [] (drive (device s) (clock + reaction s) Clock Pull) (drive (device s) (clock + reaction s) Data Free ∷ []) (omega arith))

  pub talker_performed : (p : Point) (o : Held) (at : ℕ) → let t = seat s.party Talker o in
      Performs (is_at (Releasing at DataToTalker)) (steps_of (alone p t) (ToTalker at (at + phase))) (is_at (Taking Awaiting))
  talker_performed p o at =
      subst (λ (zs : List Step). Performs (is_at (Releasing at DataToTalker)) zs (is_at (Taking Awaiting))) (sym (talker_steps p o at))
      (makes refl refl (makes refl refl (makes refl refl (sees (omega (arith, prompt)) (sees tt (ends refl))))))

-- a byte to a listener
pub byte_performed : (b : Party) (o : Held) (left : List ℕ) (most : ℕ) (p : Point) (eoi : Bool) (byte ready : ℕ) (afterwards : Afterwards) → let s = seat b Listener o in let f = frame_for b eoi byte ready in
    Performs (framing afterwards left most (Readying ready byte eoi)) (steps_of (alone p s) (Byte eoi f)) (accepted (end_of f + b.reaction) afterwards (framing afterwards left most Sent))
byte_performed b o left most p false byte ready afterwards =
    let s = seat b Listener o in
    let f = frame_for b false byte ready in
    subst (λ (zs : List Step). Performs (framing afterwards left most (Readying ready byte false)) zs (accepted (end_of f + b.reaction) afterwards (framing afterwards left most Sent)))
    (sym (frame_is (ready + b.reaction) s (Heard (byte_in_cells f.cells) false) f false (omega arith) (cells_fit false 8 byte f.start))) (frame_performs afterwards left most s (Heard (byte_in_cells f.cells) false) byte ready)
byte_performed b o left most p true byte ready afterwards =
    let s = seat b Listener o in
    let f = frame_for b true byte ready in
    subst (λ (zs : List Step). Performs (framing afterwards left most (Readying ready byte true)) zs (accepted (end_of f + b.reaction) afterwards (framing afterwards left most Sent)))
    (sym (frame_is (ready + b.reaction) s (Heard (byte_in_cells f.cells) true) f true (omega arith, omega arith) (cells_fit false 8 byte f.start))) (last_performs afterwards left most s (Heard (byte_in_cells f.cells) true) byte ready)

-- ---- nothing to say

-- the host lets go of DATA after the talker, and not later than a talker at the profile's pace has it
pub hushed_from : (e : Pace) (r clock : ℕ) → r ≤ 60 → silent_at e (clock + r) + 1 ≤ hushed_for e r clock
hushed_from Profile r clock prompt = omega (arith, prompt)
hushed_from Kernal r clock prompt = omega arith

pub hushed_upto : (e : Pace) (r clock : ℕ) → r ≤ 60 → hushed_for e r clock ≤ clock + silence
hushed_upto Profile r clock prompt = omega arith
hushed_upto Kernal r clock prompt = omega (arith, prompt)

-- the turnaround up to the host's release of DATA
abbrev pub nothing_said : Party → ℕ → List Step
nothing_said b at =
    let clock = at + phase in
    host at Data Pull ∷ for_each Released (host at Atn Free) ∷ host clock Clock Free ∷ (silent_part b.pace b.device (clock + b.reaction) ++ host (hushed_for b.pace b.reaction clock) Data Free ∷ [])

module _ (left : List ℕ) (most : ℕ) (p : Point) (o : Held) (at : ℕ) where
  abbrev pub nothing : Party → List Step
  nothing b = steps_of (alone p (seat b Talker o)) (Nothing at (at + phase) (Some (hushed_for b.pace b.reaction (at + phase))))

  nothing_at : (e : Pace) (v : Party) → v.reaction ≤ 60 → nothing (at_pace e v) ≡ nothing_said (at_pace e v) at
  nothing_at Profile v prompt =
      let clock = at + phase in
      let freed = host (clock + silence) Data Free in
      let silent = for_one v.device Silent (drive v.device (clock + v.reaction) Data Free) in
      turn_first at (host clock Clock Free ∷ freed ∷ []) (silent ∷ []) (omega arith)
      ∙ ap (λ (zs : List Step). host at Data Pull ∷ for_each Released (host at Atn Free) ∷ zs)
      (merge_here (host clock Clock Free) (freed ∷ []) silent [] (omega arith) ∙ ap (λ (zs : List Step). host clock Clock Free ∷ zs) (merge_there freed [] silent [] (omega (arith, prompt))))
  nothing_at Kernal v prompt =
      let clock = at + phase in
      let t = clock + v.reaction in
      let freed = host (hushed_for Kernal v.reaction clock) Data Free in
      let low = drive v.device t Clock Pull in
      let high = drive v.device (t + mute) Clock Free in
      let silent = for_one v.device Silent (drive v.device (t + mute) Data Free) in
      turn_first at (host clock Clock Free ∷ freed ∷ []) (low ∷ high ∷ silent ∷ []) (omega arith)
      ∙ ap (λ (zs : List Step). host at Data Pull ∷ for_each Released (host at Atn Free) ∷ zs)
      (merge_here (host clock Clock Free) (freed ∷ []) low (high ∷ silent ∷ []) (omega arith)
      ∙ ap (λ (zs : List Step). host clock Clock Free ∷ zs)
      (merge_there freed [] low (high ∷ silent ∷ []) (omega arith)
      ∙ ap (λ (zs : List Step). low ∷ zs)
      (merge_there freed [] high (silent ∷ []) (omega arith) ∙ ap (λ (zs : List Step). high ∷ zs) (merge_there freed [] silent [] (omega arith)))))

  pub nothing_steps : (b : Party) → b.reaction ≤ 60 → nothing b ≡ nothing_said b at
  nothing_steps b prompt = nothing_at b.pace b prompt

  -- the host waits for CLOCK in vain; or it waits for the talker's byte, and hears it let go of both lines
  said_performed : (e : Pace) (v : Party) → v.reaction ≤ 60
      → Performs (at_stage left most (Releasing at DataToTalker)) (nothing_said (at_pace e v) at) (at_stage left most (leaving (hushed_for e v.reaction (at + phase) + answer_wait) untalk false false))
  said_performed Profile v prompt = makes refl refl (makes refl refl (makes refl refl (sees (omega (arith, prompt)) (passes (at + phase + silence) refl tt (makes refl refl (ends refl))))))
  said_performed Kernal v prompt = makes refl refl (makes refl refl (makes refl refl (sees (omega (arith, prompt)) (sees tt (sees (omega arith) (makes refl refl (ends refl)))))))

  pub nothing_performed : (b : Party) → b.reaction ≤ 60
      → Performs (at_stage left most (Releasing at DataToTalker)) (nothing b) (at_stage left most (leaving (hushed_for b.pace b.reaction (at + phase) + answer_wait) untalk false false))
  nothing_performed b prompt =
      subst (λ (zs : List Step). Performs (at_stage left most (Releasing at DataToTalker)) zs (at_stage left most (leaving (hushed_for b.pace b.reaction (at + phase) + answer_wait) untalk false false))) (sym (nothing_steps b prompt)) (said_performed b.pace b prompt)
