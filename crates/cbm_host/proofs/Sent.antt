-- Requests to a listener: the bytes with EOI on the last, and UNLISTEN.
use Rattle.std.proofs.Common.{◌≡◌, ℕ, ◌+◌, ◌*◌, ◌≤◌, Bool, true, false, List, [], ◌∷◌, length, Some, sym, subst, arith, refl}
use Rattle.cbm_iec.specs.declared.party.Party.{Party}
use Rattle.cbm_iec.specs.declared.party.Role.TheVariants.{Listener}
use Rattle.cbm_iec.specs.declared.party.Role.{Role}
use Rattle.cbm_iec.specs.Profile.{eoi_pulse}
use Rattle.cbm_iec.specs.declared.pace.Pace.TheVariants.{Profile, Kernal}
use Rattle.cbm_iec.specs.declared.pace.Pace.{Pace}
use Rattle.cbm_session.proofs.reading.PieceReadings.{seat}
use Rattle.cbm_session.specs.Pieces.{Point, Byte, ToListener, Full, Listening}
use Rattle.cbm_session.specs.Seats.{lines, bus_pace}
use Rattle.cbm_host.proofs.Frames.{frame_fits, cells_end}
use Rattle.cbm_host.proofs.Pieces.{at_stage, listener_performed, byte_performed}
use Rattle.cbm_host.proofs.Playing.{pause_enough, gap_enough, go_on, point, attending, leave_then}
use Rattle.cbm_host.specs.Engines.{is_last_byte, sending_on}
use Rattle.cbm_host.specs.Framed.{start_for, frame_for}
use Rattle.cbm_host.specs.Requests.{accept_for, bytes_sent, IsPlayed}
use Rattle.cbm_host.specs.Stages as stages
use Rattle.cbm_host.specs.Waits.{ready_wait, turn_wait}
use Rattle.cbm_host.specs.declared.stage.Afterwards.TheVariants.{Listened}
use Rattle.cbm_host.specs.declared.stage.Errand.TheVariants.{Sends}

-- with a listener, ATN free
abbrev pub listening : Party → ℕ → ℕ → ℕ → ℕ → Point
listening b pulled released accepted since = point b Listener (lines false true) Listening (lines true false) pulled (Some released) accepted since

-- a drive's pulse is shorter than a few bits, at either pace
pulse_upto : (e : Pace) → eoi_pulse e ≤ 80
pulse_upto Profile = omega arith
pulse_upto Kernal = omega arith

-- a byte is accepted soon
pub accepted_soon : (b : Party) (eoi : Bool) (byte ready : ℕ) → b.reaction ≤ 60 → (ready + 340 ≤ accept_for b eoi byte ready) × (accept_for b eoi byte ready ≤ ready + 800)
accepted_soon b true byte ready h = let end = cells_end 8 byte (start_for b true ready) in let pulse = pulse_upto b.pace in (omega (arith, end), omega (arith, end, h, pulse))
accepted_soon b false byte ready h = let end = cells_end 8 byte (start_for b false ready) in (omega (arith, end), omega (arith, end, h))

module _ (b : Party) (some : 1 ≤ b.reaction) (prompt : b.reaction ≤ 60) (most : ℕ) where
  pub sent_then : (pulled released accept since t wait limit : ℕ) (bytes : List ℕ) → released ≤ t → accept ≤ t → released + 100 ≤ t + wait → accept + 20 ≤ t + wait → wait ≤ 100 → t + 820 + 900 * length bytes ≤ limit
      → IsPlayed b (listening b pulled released accept since) (sending_on t wait most bytes) (bytes_sent b t wait bytes) limit
  sent_then pulled released accept since t wait limit [] a c d e f soon =
      let s = seat b Listener (lines false true) in
      let pause = pause_enough (bus_pace (s ∷ [])) in
      let few = gap_enough b Listener (lines false true) in
      leave_then b some prompt [] most (listening b pulled released accept since) s (t + wait) 63 limit refl (omega (arith, d, pause), omega (arith, e, few)) (omega (arith, c)) (omega arith) refl (omega (arith, f, soon))
  sent_then pulled released accept since t wait limit (byte ∷ left) a c d e f soon =
      let p = listening b pulled released accept since in
      let s = seat b Listener (lines false true) in
      let eoi = is_last_byte left in
      let ready = t + ready_wait in
      let later = accepted_soon b eoi byte ready prompt in
      let next = accept_for b eoi byte ready in
      let after = later.0 in
      let upto = later.1 in
      go_on (Full (Byte eoi (frame_for b eoi byte ready))) (bytes_sent b next turn_wait left) limit (sending_on next turn_wait most left)
      (refl, omega (arith, a), omega (arith, c), frame_fits s eoi byte ready)
      (byte_performed b (lines false true) left most p eoi byte ready Listened)
      (sent_then pulled released next since next turn_wait limit left (omega (arith, a, after)) (omega arith) (omega (arith, a, after)) (omega arith) (omega arith) (omega (arith, upto, soon)))

  -- ATN's release to a listener, and the bytes
  pub listener_then : (role : Role) (pulled accept since limit : ℕ) (bytes : List ℕ) → role ≡ Listener → accept + 880 + 900 * length bytes ≤ limit
      → IsPlayed b (attending b role true pulled accept since) (at_stage bytes most (stages.releasing accept Sends)) (Full (ToListener (accept + turn_wait)) ∷ bytes_sent b (accept + turn_wait) ready_wait bytes) limit
  listener_then role pulled accept since limit bytes listens soon =
      let at = accept + turn_wait in
      subst (λ (x : Role). IsPlayed b (attending b x true pulled accept since) (at_stage bytes most (stages.releasing accept Sends)) (Full (ToListener at) ∷ bytes_sent b at ready_wait bytes) limit) (sym listens)
      (go_on (Full (ToListener at)) (bytes_sent b at ready_wait bytes) limit (sending_on at ready_wait most bytes)
      (record { commanding = refl; listener = refl; talker = refl; gap = (let few = gap_enough b Listener (lines false true) in omega (arith, few)) })
      (listener_performed (seat b Listener (lines false true)) some prompt bytes most (attending b Listener true pulled accept since) (lines false true) at)
      (sent_then pulled at accept at at ready_wait limit bytes (omega arith) (omega arith) (omega arith) (omega arith) (omega arith) (omega (arith, soon))))
