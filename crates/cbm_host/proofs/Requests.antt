-- Every request is a session of its own, and the host performs its part of it.
use Rattle.std.proofs.Common.{replicate, ◌≡◌, ℕ, ◌+◌, ◌*◌, ◌≤◌, ◌<◌, true, false, List, [], ◌∷◌, ◌++◌, length, Some, None, ap, ◌∙◌, arith, refl}
use Rattle.cbm_iec.specs.Profile.{lead}
use Rattle.cbm_iec.specs.Roles.{role_after}
use Rattle.cbm_iec.specs.declared.pace.Pace.TheVariants.{Profile, Kernal}
use Rattle.cbm_iec.specs.declared.pace.Pace.{Pace}
use Rattle.cbm_iec.specs.declared.party.Party.{Party}
use Rattle.cbm_iec.specs.declared.party.Role.TheVariants.{Absent, Talker}
use Rattle.cbm_iec.specs.declared.party.Role.{Role}
use Rattle.cbm_session.proofs.reading.PieceReadings.{seat}
use Rattle.cbm_session.specs.Pieces.{Piece}
use Rattle.cbm_session.specs.Seats.{lines}
use Rattle.cbm_session.specs.Sessions.{rest, IsDrive}
use Rattle.cbm_host.proofs.Pieces.{at_stage}
use Rattle.cbm_host.proofs.Playing.{attending, pull_then, command_then, nobody_then, listens, talks, still_listens, still_talks}
use Rattle.cbm_host.proofs.Sent.{accepted_soon, listener_then}
use Rattle.cbm_host.proofs.Taken.{byte_time, talker_then, nothing_then, up_to_last_then, as_many_then}
use Rattle.cbm_iec.specs.Attentions.{listen, unlisten, talk, data_on, close_on, open_on}
use Rattle.cbm_host.specs.Engines.{most_bytes}
use Rattle.cbm_host.specs.Requests.{accept_for, attention, sending_pieces, Said, Mute, UpToLast, UpToMost, turnaround_pieces, taking_pieces, leave, said_count, IsSaidFor, longest, IsPlayed, PlaysRequests}
use Rattle.cbm_host.specs.Stages as stages
use Rattle.cbm_host.specs.Waits.{ready_wait, turn_wait, phase}
use Rattle.cbm_host.specs.declared.commands.Commands.TheVariants.{One, Two, Three}
use Rattle.cbm_host.specs.declared.request.Request.TheVariants.{Open, Put, Fill, Get, Close, Status}
use Rattle.cbm_host.specs.declared.stage.Afterwards.TheVariants.{Commanded}
use Rattle.cbm_host.specs.declared.stage.Errand.{Errand}
use Rattle.cbm_host.specs.declared.stage.Errand.TheVariants.{Sends, Takes, Leaves}
use Rattle.cbm_host.specs.declared.stage.Pulls.TheVariants.{PullAtn}
use Rattle.cbm_host.specs.declared.stage.Stage.TheVariants.{Attending}

module _ (b : Party) (drive : IsDrive b) (start : ℕ) (left : List ℕ) (most : ℕ) where
  abbrev r : ℕ
  r = b.reaction

  abbrev d : ℕ
  d = b.device

  -- the accept of the first byte of a request, and of the second
  abbrev first_accept : ℕ → ℕ
  first_accept byte = accept_for b false byte (start + ready_wait)

  abbrev second_accept : ℕ → ℕ → ℕ
  second_accept one two = accept_for b false two (first_accept one + ready_wait)

  second_soon : (one two : ℕ) → (start ≤ first_accept one) × (first_accept one ≤ second_accept one two) × (second_accept one two ≤ start + 1800)
  second_soon one two =
      let a = accepted_soon b false one (start + ready_wait) drive.prompt in
      let c = accepted_soon b false two (first_accept one + ready_wait) drive.prompt in
      let a0 = a.0 in
      let a1 = a.1 in
      let c0 = c.0 in
      let c1 = c.1 in
      (omega (arith, a0), omega (arith, c0), omega (arith, a1, c1))

  abbrev role_after_two : ℕ → ℕ → Role
  role_after_two one two = role_after d two (role_after d one Absent)

  -- ATN's pull and two bytes
  two_then : (one two limit : ℕ) (errand : Errand) (ks : List Piece) → one < 256 → two < 256
      → IsPlayed b (attending b (role_after_two one two) true start (second_accept one two) start) (at_stage left most (stages.releasing (second_accept one two) errand)) ks limit
      → IsPlayed b (rest (b ∷ [])) (at_stage left most (Attending start (PullAtn false false) (record { commands = Two one two; errand = errand }))) (attention b start (one ∷ two ∷ []) ++ ks) limit
  two_then one two limit errand ks small small2 more =
      let soon = second_soon one two in
      let early = soon.0 in
      pull_then b drive.some drive.prompt left most (rest (b ∷ [])) (seat b Absent (lines false false)) (record { commands = Two one two; errand = errand }) start limit _ refl (tt, omega arith)
      (command_then b drive.some drive.prompt left most Absent false start 0 start start one limit (Commanded (Some (One two)) errand) _ small (omega arith) (omega arith)
      (command_then b drive.some drive.prompt left most (role_after d one Absent) true start (first_accept one) start (first_accept one) two limit (Commanded None errand) ks small2 early (omega arith) more))

  -- a request that sends
  pub sends : (second limit : ℕ) → 96 ≤ second → second < 256 → start + 2700 + 900 * length left ≤ limit
      → IsPlayed b (rest (b ∷ [])) (at_stage left most (Attending start (PullAtn false false) (record { commands = Two (listen + d) second; errand = Sends }))) (sending_pieces b start second left) limit
  sends second limit high small soon =
      let few = drive.upto in
      let two = second_soon (listen + d) second in
      let two_soon = two.2 in
      let role = ap (λ (x : Role). role_after d second x) (listens d) ∙ still_listens d second few high in
      two_then (listen + d) second limit Sends _ (omega (arith, few)) small (listener_then b drive.some drive.prompt most (role_after_two (listen + d) second) start (second_accept (listen + d) second) start limit left role (omega (arith, two_soon, soon)))

  -- a request that takes
  pub takes : (channel limit : ℕ) (said : Said) → channel ≤ 15 → IsSaidFor most said → start + 5000 + byte_time b.pace * said_count said ≤ limit
      → IsPlayed b (rest (b ∷ [])) (at_stage left most (Attending start (PullAtn false false) (record { commands = Two (talk + d) (data_on + channel); errand = Takes }))) (taking_pieces b start channel said) limit
  takes channel limit said few_channels wanted soon =
      two_then (talk + d) (data_on + channel) limit Takes _ (omega (arith, few)) (omega (arith, few_channels)) (by_said said wanted soon)
    where
      few : d ≤ 11
      few = drive.upto

      accept : ℕ
      accept = second_accept (talk + d) (data_on + channel)

      two_soon : accept ≤ start + 1800
      two_soon = (second_soon (talk + d) (data_on + channel)).2

      role : role_after_two (talk + d) (data_on + channel) ≡ Talker
      role = ap (λ (x : Role). role_after d (data_on + channel) x) (talks d) ∙ still_talks d (data_on + channel) few (omega arith)

      by_said : (said : Said) → IsSaidFor most said → start + 5000 + byte_time b.pace * said_count said ≤ limit
          → IsPlayed b (attending b (role_after_two (talk + d) (data_on + channel)) true start accept start) (at_stage left most (stages.releasing accept Takes)) (turnaround_pieces b (accept + turn_wait) said) limit
      by_said Mute wanted soon = nothing_then b drive.some drive.prompt (role_after_two (talk + d) (data_on + channel)) left most start accept start limit role few (let t = two_soon in omega (arith, t, soon))
      by_said (UpToLast first more) wanted soon =
          let t = two_soon in
          let p = drive.prompt in
          talker_then b drive.some drive.prompt (role_after_two (talk + d) (data_on + channel)) left most start accept start limit _ role
          (up_to_last_then b drive.some drive.prompt left most start accept (accept + turn_wait + phase + r + 1) (accept + turn_wait + phase + r + lead) first limit more wanted few (omega arith) (omega arith) (omega (arith, t, p, soon)))
      by_said (UpToMost first more next last) wanted soon =
          let t = two_soon in
          let p = drive.prompt in
          talker_then b drive.some drive.prompt (role_after_two (talk + d) (data_on + channel)) left most start accept start limit _ role
          (as_many_then b drive.some drive.prompt left most start accept (accept + turn_wait + phase + r + 1) next (accept + turn_wait + phase + r + lead) first limit last more wanted few (omega arith) (omega (arith, t, p, soon)))

  -- CLOSE
  pub closes : (channel limit : ℕ) → channel ≤ 15 → start + 5000 ≤ limit
      → IsPlayed b (rest (b ∷ [])) (at_stage left most (Attending start (PullAtn false false) (record { commands = Three (listen + d) (close_on + channel) unlisten; errand = Leaves }))) (leave b start ((listen + d) ∷ (close_on + channel) ∷ unlisten ∷ [])) limit
  closes channel limit few_channels soon =
      let few = drive.upto in
      let one = listen + d in
      let two = close_on + channel in
      let both = second_soon one two in
      let early = both.0 in
      let later = both.1 in
      let two_soon = both.2 in
      let third = accept_for b false unlisten (second_accept one two + ready_wait) in
      let third_soon = (accepted_soon b false unlisten (second_accept one two + ready_wait) drive.prompt).1 in
      let role = ap (λ (x : Role). role_after d unlisten x) (ap (λ (x : Role). role_after d two x) (listens d) ∙ still_listens d two few (omega arith)) in
      pull_then b drive.some drive.prompt left most (rest (b ∷ [])) (seat b Absent (lines false false)) (record { commands = Three one two unlisten; errand = Leaves }) start limit _ refl (tt, omega arith)
      (command_then b drive.some drive.prompt left most Absent false start 0 start start one limit (Commanded (Some (Two two unlisten)) Leaves) _ (omega (arith, few)) (omega arith) (omega arith)
      (command_then b drive.some drive.prompt left most (role_after d one Absent) true start (first_accept one) start (first_accept one) two limit (Commanded (Some (One unlisten)) Leaves) _ (omega (arith, few_channels)) early (omega arith)
      (command_then b drive.some drive.prompt left most (role_after_two one two) true start (second_accept one two) start (second_accept one two) unlisten limit (Commanded None Leaves) _ (omega arith) (omega (arith, early, later)) (omega arith)
      (nobody_then b drive.some drive.prompt left most (role_after d unlisten (role_after_two one two)) start third start limit role (omega (arith, two_soon, third_soon, soon))))))

-- so long are the greatest request of bytes to the drive, and of bytes of it
sent_long : (p : Pace) (n : ℕ) → n ≤ most_bytes → 2700 + 900 * n ≤ longest p
sent_long Profile n few = omega (arith, few)
sent_long Kernal n few = omega (arith, few)

taken_long : (p : Pace) (n : ℕ) → n ≤ most_bytes → 5000 + byte_time p * n ≤ longest p
taken_long Profile n few = omega (arith, few)
taken_long Kernal n few = omega (arith, few)

pub plays_requests : PlaysRequests
plays_requests b start said (Open channel text) drive c n w m = sends b drive start text.now 0 (open_on + channel) (start + longest b.pace) (omega arith) (omega (arith, c)) (omega (arith, sent_long b.pace (length text.now) n))
plays_requests b start said (Put channel bytes) drive c n w m = sends b drive start bytes.now 0 (data_on + channel) (start + longest b.pace) (omega arith) (omega (arith, c)) (omega (arith, sent_long b.pace (length bytes.now) n))
plays_requests b start said (Fill channel count byte) drive c n w m =
    sends b drive start (replicate count byte) 0 (data_on + channel) (start + longest b.pace) (omega arith) (omega (arith, c)) (omega (arith, sent_long b.pace (length (replicate count byte)) n))
plays_requests b start said (Get channel most) drive c n w m = takes b drive start [] most channel (start + longest b.pace) said c w (omega (arith, taken_long b.pace (said_count said) m))
plays_requests b start said (Close channel) drive c n w m = closes b drive start [] 0 channel (start + longest b.pace) c (omega (arith, taken_long b.pace 0 (omega arith)))
plays_requests b start said Status drive c n w m = takes b drive start [] most_bytes 15 (start + longest b.pace) said (omega arith) w (omega (arith, taken_long b.pace (said_count said) m))
