-- What the host is at on the wires, and what becomes of it after each change.
use Rattle.std.specs.Prelude.{ℕ, ◌+◌, Bool, true, false, Option, Some, None}
use Rattle.cbm_iec.specs.Ports.{change_at}
use Rattle.cbm_iec.specs.declared.lines.Change.{Change}
use Rattle.cbm_iec.specs.declared.lines.Line.{Line}
use Rattle.cbm_iec.specs.declared.lines.Line.TheVariants.{Atn, Clock, Data}
use Rattle.cbm_iec.specs.declared.lines.Way.{Way}
use Rattle.cbm_iec.specs.declared.lines.Way.TheVariants.{Pull, Free}
use Rattle.cbm_host.specs.AttentionBytes.{first_command, other_commands}
use Rattle.cbm_iec.specs.Attentions.{untalk}
use Rattle.cbm_host.specs.Sending.{frame_change, frame_made, frame_seen}
use Rattle.cbm_host.specs.Taking.{take_change, take_made, take_seen}
use Rattle.cbm_host.specs.Waits.{ready_wait, answer_wait, phase, turn_wait, silence}
use Rattle.cbm_host.specs.declared.commands.Commands.TheVariants.{One}
use Rattle.cbm_host.specs.declared.due.Due.{Due}
use Rattle.cbm_host.specs.declared.due.Due.TheVariants.{Makes, Waits, Hears, Over}
use Rattle.cbm_host.specs.declared.frame.Frame.TheVariants.{Readying}
use Rattle.cbm_host.specs.declared.stage.Sequence.{Sequence}
use Rattle.cbm_host.specs.declared.stage.Afterwards.TheVariants.{Commanded}
use Rattle.cbm_host.specs.declared.stage.Errand.{Errand}
use Rattle.cbm_host.specs.declared.stage.Errand.TheVariants.{Sends, Takes, Leaves}
use Rattle.cbm_host.specs.declared.stage.Pulls.{Pulls}
use Rattle.cbm_host.specs.declared.stage.Pulls.TheVariants.{PullAtn, PullClock, FreeData}
use Rattle.cbm_host.specs.declared.stage.Release.{Release}
use Rattle.cbm_host.specs.declared.stage.Release.TheVariants.{AtnToNobody, ClockToNobody, DataToTalker, AtnToTalker, ClockToTalker, DataToSilent}
use Rattle.cbm_host.specs.declared.stage.Stage.{Stage}
use Rattle.cbm_host.specs.declared.stage.Stage.TheVariants.{Attending, Framing, Calling, Releasing, Turning, Taking, Ending, Done}
use Rattle.cbm_host.specs.declared.take.Take.{Take}
use Rattle.cbm_host.specs.declared.take.Take.TheVariants.{Awaiting, Freeing, Listening, Marking}

-- the next byte of an attention, after ATN's pull or an accept at t
abbrev pub commanding : ℕ → Sequence → Stage
commanding t a = Framing (Readying (t + ready_wait) (first_command a.commands) false) (Commanded (other_commands a.commands) a.errand)

-- ATN's release after the last accept of an attention, at t
abbrev pub releasing : ℕ → Errand → Stage
releasing t Sends = Calling (t + turn_wait)
releasing t Takes = Releasing (t + turn_wait) DataToTalker
releasing t Leaves = Releasing (t + turn_wait) AtnToNobody

-- the last attention of a request, by whether the host holds CLOCK and DATA before it
abbrev pub leaving : ℕ → ℕ → Bool → Bool → Stage
leaving at byte clock_low data_low = Attending at (PullAtn clock_low data_low) (record { commands = One byte; errand = Leaves })

-- ATN's pull: CLOCK is pulled and DATA freed with it where they aren't so already
abbrev pub pull_change : ℕ → Pulls → Change
pull_change at (PullAtn clock_low data_low) = change_at at Atn Pull
pull_change at (PullClock data_low) = change_at at Clock Pull
pull_change at FreeData = change_at at Data Free

-- what is still to be changed after one of these changes, or nothing
abbrev pub after_a_pull : Pulls → Option Pulls
after_a_pull (PullAtn false data_low) = Some (PullClock data_low)
after_a_pull (PullAtn true true) = Some FreeData
after_a_pull (PullAtn true false) = None
after_a_pull (PullClock true) = Some FreeData
after_a_pull (PullClock false) = None
after_a_pull FreeData = None

-- what the host is at after one of these changes, made at t: the next of them, or the first byte of the attention
abbrev pub stage_attended : ℕ → Sequence → Option Pulls → Stage
stage_attended t a None = commanding t a
stage_attended t a (Some p) = Attending t p a

-- ATN's release, and what goes with it
abbrev pub release_change : ℕ → Release → Change
release_change at AtnToNobody = change_at at Atn Free
release_change at ClockToNobody = change_at at Clock Free
release_change at DataToTalker = change_at at Data Pull
release_change at AtnToTalker = change_at at Atn Free
release_change at ClockToTalker = change_at at Clock Free
release_change at DataToSilent = change_at at Data Free

-- what the host is at after a change of ATN's release, made at t
abbrev pub released : ℕ → Release → Stage
released t AtnToNobody = Releasing t ClockToNobody
released t ClockToNobody = Ending (t + ready_wait)
released t DataToTalker = Releasing t AtnToTalker
released t AtnToTalker = Releasing (t + phase) ClockToTalker
released t ClockToTalker = Turning (t + silence)
released t DataToSilent = leaving (t + answer_wait) untalk false false

-- ---- what the host does next

-- the host makes a change, or where there is none it waits for the drive
abbrev pub due_of : Option Change → Due
due_of None = Hears
due_of (Some c) = Makes c

-- what the host does next in a byte of the talker
abbrev pub take_due : Take → Due
take_due (Listening until) = Waits until
take_due take = due_of (take_change take)

-- what the host does next, by what it is at
abbrev pub stage_due : Stage → Due
stage_due (Attending at p a) = Makes (pull_change at p)
stage_due (Framing frame afterwards) = due_of (frame_change frame)
stage_due (Calling at) = Makes (change_at at Atn Free)
stage_due (Releasing at r) = Makes (release_change at r)
stage_due (Turning until) = Waits until
stage_due (Taking take) = take_due take
stage_due (Ending until) = Waits until
stage_due (Done at) = Over at

-- ---- after its own change, made at t; what comes of a release to a listener, and of an accept, is the engine's

-- what the host is at after its own change, made at t
abbrev pub stage_made : ℕ → Stage → Stage
stage_made t (Attending at p a) = stage_attended t a (after_a_pull p)
stage_made t (Framing frame afterwards) = Framing (frame_made t frame) afterwards
stage_made t (Releasing at r) = released t r
stage_made t (Taking take) = Taking (take_made t take)
stage_made t stage = stage

-- ---- after a change of the drive; what comes of its accept is the engine's

-- the turnaround: the talker pulls CLOCK
abbrev pub turned : Line → Way → ℕ → Stage
turned Clock Pull until = Taking Awaiting
turned line way until = Turning until

-- Where the talker lets go of DATA, too, before the host does, it has nothing to say: the host does it, and leaves.
abbrev pub hushed : Change → Line → Way → ℕ → Stage
hushed c Data Free at = Releasing at DataToSilent
hushed c line way at = Taking (take_seen c (Freeing at))

-- what the host is at after a change of the drive in a byte of the talker
abbrev pub taking_seen : Change → Take → Stage
taking_seen c (Freeing at) = hushed c c.line c.way at
taking_seen c take = Taking (take_seen c take)

-- what the host is at after a change of the drive
abbrev pub stage_seen : Change → Stage → Stage
stage_seen c (Framing frame afterwards) = Framing (frame_seen c frame) afterwards
stage_seen c (Turning until) = turned c.line c.way until
stage_seen c (Taking take) = taking_seen c take
stage_seen c stage = stage

-- ---- the drive changed nothing for as long as the host waits

-- a byte of the talker after the wait: where no bit has begun by then, it is the last one and the host answers EOI
abbrev pub take_passed : Take → Take
take_passed (Listening until) = Marking until
take_passed take = take

-- what the host is at after the wait: a talker that hasn't pulled CLOCK has nothing to say, and the end is reached
abbrev pub stage_passed : Stage → Stage
stage_passed (Turning until) = Releasing until DataToSilent
stage_passed (Taking take) = Taking (take_passed take)
stage_passed (Ending until) = Done until
stage_passed stage = stage
