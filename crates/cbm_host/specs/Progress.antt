-- How much of a request is still to come, whatever the drive says: changes of the host, and between them changes of the drive.
use Rattle.std.specs.Prelude.{◌≡◌, ◌≤◌, ◌<◌, ◌⊎◌, ℕ, ◌+◌, ◌-◌, ◌*◌, List, length, Option, Some, None, IfSome}
use Rattle.cbm_drive.specs.Cables.{Cabled}
use Rattle.cbm_drive.specs.Players.{at_most, IsDrives, IsWaitingFrom}
use Rattle.cbm_iec.specs.declared.event.Event.{Event}
use Rattle.cbm_host.specs.Engines.{Engined, engine_due}
use Rattle.cbm_host.specs.Performers.{Performing}
use Rattle.cbm_iec.specs.declared.event.Who.TheVariants.{Host, Drive}
use Rattle.cbm_iec.specs.declared.event.Who.{Who}
use Rattle.cbm_iec.specs.declared.lines.Change.{Change}
use Rattle.cbm_host.specs.declared.commands.Commands.{Commands}
use Rattle.cbm_host.specs.declared.commands.Commands.TheVariants.{One, Two, Three}
use Rattle.cbm_host.specs.declared.due.Due.TheVariants.{Makes}
use Rattle.cbm_host.specs.declared.frame.Frame.{Frame}
use Rattle.cbm_host.specs.declared.frame.Frame.TheVariants.{Readying, Ready, EoiSent, EoiHeard, Starting, Setting, Showing, Hiding, Clearing, Sent}
use Rattle.cbm_host.specs.declared.stage.Afterwards.{Afterwards}
use Rattle.cbm_host.specs.declared.stage.Afterwards.TheVariants.{Commanded, Listened}
use Rattle.cbm_host.specs.declared.stage.Errand.{Errand}
use Rattle.cbm_host.specs.declared.stage.Errand.TheVariants.{Sends, Takes, Leaves}
use Rattle.cbm_host.specs.declared.stage.Pulls.{Pulls}
use Rattle.cbm_host.specs.declared.stage.Pulls.TheVariants.{PullAtn, PullClock, FreeData}
use Rattle.cbm_host.specs.declared.stage.Release.{Release}
use Rattle.cbm_host.specs.declared.stage.Release.TheVariants.{AtnToNobody, ClockToNobody, DataToTalker, AtnToTalker, ClockToTalker, DataToSilent}
use Rattle.cbm_host.specs.declared.stage.Stage.{Stage}
use Rattle.cbm_host.specs.declared.stage.Stage.TheVariants.{Attending, Framing, Calling, Releasing, Turning, Taking, Ending, Done}
use Rattle.cbm_host.specs.declared.take.Take.{Take}
use Rattle.cbm_host.specs.declared.take.Take.TheVariants.{Awaiting, Freeing, Listening, Marking, Unmarking, Gathering, Accepting}

-- ---- the host's changes that are still to come at most

-- the host's changes for this many bits: DATA, and CLOCK twice, for each; and DATA's release
abbrev pub bits_left : ℕ → ℕ
bits_left count = 3 * count + 1

-- the host's changes left of a byte to the drive, at most
abbrev pub frame_left : Frame → ℕ
frame_left (Readying at byte eoi) = 27
frame_left (Ready byte eoi) = 26
frame_left (EoiSent byte) = 26
frame_left (EoiHeard byte) = 26
frame_left (Starting at byte) = 26
frame_left (Setting at b) = 3 + bits_left (b.count - 1)
frame_left (Showing at b) = 2 + bits_left (b.count - 1)
frame_left (Hiding at b) = 1 + bits_left (b.count - 1)
frame_left (Clearing at) = 1
frame_left Sent = 0

-- the host's changes for bytes to the drive, with the last attention after them, at most
abbrev pub sends_left : List ℕ → ℕ
sends_left left = 27 * length left + 32

-- the host's changes left of a byte of the drive, at most
abbrev pub take_left : Take → ℕ
take_left Awaiting = 5
take_left (Freeing at) = 5
take_left (Listening until) = 4
take_left (Marking at) = 3
take_left (Unmarking at) = 2
take_left (Gathering c) = 1
take_left (Accepting at byte last) = 1

-- the host's changes for the bytes after it, with the last attention, at most
abbrev pub takes_left : ℕ → ℕ
takes_left most = 5 * (most - 1) + 32

-- the host's changes for the bytes of an attention, at most
abbrev pub commands_left : Commands → ℕ
commands_left (One a) = 27
commands_left (Two a b) = 54
commands_left (Three a b c) = 81

-- the host's changes for what follows an attention, with these bytes to be sent and this many wanted, at most
abbrev pub errand_left : Errand → List ℕ → ℕ → ℕ
errand_left Sends left most = 1 + sends_left left
errand_left Takes left most = 8 + takes_left most
errand_left Leaves left most = 2

-- the host's changes for what follows a byte to the drive, at most
abbrev pub afterwards_left : Afterwards → List ℕ → ℕ → ℕ
afterwards_left (Commanded None errand) left most = errand_left errand left most
afterwards_left (Commanded (Some commands) errand) left most = commands_left commands + errand_left errand left most
afterwards_left Listened left most = sends_left left

-- the host's changes left of ATN's pull and of what goes with it, at most
abbrev pub pulls_left : Pulls → ℕ
pulls_left (PullAtn clock data_low) = 3
pulls_left (PullClock data_low) = 2
pulls_left FreeData = 1

-- the host's changes left of ATN's release, of what goes with it and of what follows, at most
abbrev pub release_left : Release → List ℕ → ℕ → ℕ
release_left AtnToNobody left most = 2
release_left ClockToNobody left most = 1
release_left DataToTalker left most = 8 + takes_left most
release_left AtnToTalker left most = 7 + takes_left most
release_left ClockToTalker left most = 6 + takes_left most
release_left DataToSilent left most = 33

-- the host's changes left at what the host is at and after it, at most
abbrev pub stage_left : Stage → List ℕ → ℕ → ℕ
stage_left (Attending at p a) left most = pulls_left p + (commands_left a.commands + errand_left a.errand left most)
stage_left (Framing frame afterwards) left most = frame_left frame + afterwards_left afterwards left most
stage_left (Calling at) left most = 1 + sends_left left
stage_left (Releasing at r) left most = release_left r left most
stage_left (Turning until) left most = 5 + takes_left most
stage_left (Taking take) left most = take_left take + takes_left most
stage_left (Ending until) left most = 0
stage_left (Done at) left most = 0

-- the host's changes left of a request, at most
abbrev pub engine_left : Engined → ℕ
engine_left e = stage_left e.stage e.left e.most

-- ---- and those of the drive

-- more than may come of this many drives between two changes of the host
abbrev pub more_than : ℕ → ℕ → ℕ
more_than limit drives = 10 * limit + 2 * drives + 2

-- WHAT IS LEFT of a request up to its limit falls with each event.
abbrev pub left_of : {D : Type 0} → Performing → Cabled D → ℕ
left_of p b = engine_left p.engine * more_than (p.limit + 1) (length b.drives) + at_most (p.limit + 1) p.player.second b.drives

-- The same of an event of which the engine is still to be told: where it is the host's, the host's change was due.
abbrev pub FallsBy : {D : Type 0} → Who → Performing → Performing → Cabled D → Cabled D → Type 0
FallsBy Host old new b c = (change : Change) × (engine_due new.engine ≡ Makes change) × (engine_left new.engine ≤ engine_left old.engine)
FallsBy (Drive d) old new b c = (engine_left new.engine < engine_left old.engine)
    ⊎ ((engine_left new.engine ≤ engine_left old.engine) × (at_most (old.limit + 1) new.player.second c.drives < at_most (old.limit + 1) old.player.second b.drives))

-- WHAT THE PLAYER WAS ASKED FOR: the next event, whatever the machine represents.
pub record HasAsked {D : Type 0} (p q : Performing) (b c : Cabled D) (result : Option Event) : Type 0 where
  pub waiting : IsWaitingFrom q.player.from q.player.waiting
  -- Less is left to come before the host gives up, after a change of the drive.
  pub fewer : IfSome result (λ e. IsDrives e.who → at_most (p.limit + 1) q.player.second c.drives < at_most (p.limit + 1) p.player.second b.drives)
  pub engine : q.engine ≡ p.engine
  pub limit : q.limit ≡ p.limit

-- WHAT THE DRIVE DID, where no change of the host was due, whatever the machine represents.
pub record HasHeeded {D : Type 0} (p q : Performing) (b c : Cabled D) (result : Option Event) : Type 0 where
  pub waiting : IsWaitingFrom q.player.from q.player.waiting
  pub drive : IfSome result (λ e. IsDrives e.who)
  -- Less is left to come before the host gives up.
  pub fewer : IfSome result (λ e. at_most (p.limit + 1) q.player.second c.drives < at_most (p.limit + 1) p.player.second b.drives)
  pub engine : q.engine ≡ p.engine
  pub limit : q.limit ≡ p.limit
