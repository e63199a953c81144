-- A request under way: what the host is at, the bytes that are left, and what becomes of it after each change.
use Rattle.std.specs.Prelude.{ℕ, ◌+◌, ◌-◌, Bool, true, false, List, [], ◌∷◌, Option, Some, None, nat_le, ◌||◌, replicate, if◌then◌else◌}
use Rattle.cbm_iec.specs.declared.lines.Change.{Change}
use Rattle.cbm_iec.specs.declared.lines.Line.{Line}
use Rattle.cbm_iec.specs.declared.lines.Line.TheVariants.{Data}
use Rattle.cbm_iec.specs.declared.lines.Way.{Way}
use Rattle.cbm_iec.specs.declared.lines.Way.TheVariants.{Pull}
use Rattle.cbm_iec.specs.Attentions.{listen, unlisten, talk, untalk, data_on, close_on, open_on}
use Rattle.cbm_host.specs.Stages.{commanding, releasing, leaving, stage_due, stage_made, stage_seen, stage_passed}
use Rattle.cbm_host.specs.Sending.{frame_seen}
use Rattle.cbm_host.specs.Taking.{take_made, gathers}
use Rattle.cbm_host.specs.Waits.{ready_wait, answer_wait, turn_wait}
use Rattle.cbm_host.specs.declared.commands.Commands.TheVariants.{Two, Three}
use Rattle.cbm_host.specs.declared.due.Due.{Due}
use Rattle.cbm_host.specs.declared.frame.Frame.{Frame}
use Rattle.cbm_host.specs.declared.frame.Frame.TheVariants.{Readying, Sent}
use Rattle.cbm_host.specs.declared.request.Request.{Request}
use Rattle.cbm_host.specs.declared.request.Request.TheVariants.{Open, Put, Fill, Get, Close, Status}
use Rattle.cbm_host.specs.declared.stage.Sequence.{Sequence}
use Rattle.cbm_host.specs.declared.stage.Afterwards.{Afterwards}
use Rattle.cbm_host.specs.declared.stage.Afterwards.TheVariants.{Commanded, Listened}
use Rattle.cbm_host.specs.declared.stage.Errand.TheVariants.{Sends, Takes, Leaves}
use Rattle.cbm_host.specs.declared.stage.Pulls.TheVariants.{PullAtn}
use Rattle.cbm_host.specs.declared.stage.Stage.{Stage}
use Rattle.cbm_host.specs.declared.stage.Stage.TheVariants.{Attending, Framing, Calling, Taking, Done}
use Rattle.cbm_host.specs.declared.take.Take.{Take}
use Rattle.cbm_host.specs.declared.take.Take.TheVariants.{Awaiting, Accepting}

-- what the host is at, the bytes that are still to be sent, and how many are still to be taken at most
pub record Engined : Type 0 where
  pub stage : Stage
  pub left : List ℕ
  pub most : ℕ

-- ---- before the first change

-- the first attention of a request, and what follows it
abbrev pub attention_of : ℕ → Request → Sequence
attention_of d (Open channel text) = record { commands = Two (listen + d) (open_on + channel); errand = Sends }
attention_of d (Put channel bytes) = record { commands = Two (listen + d) (data_on + channel); errand = Sends }
attention_of d (Fill channel count byte) = record { commands = Two (listen + d) (data_on + channel); errand = Sends }
attention_of d (Get channel most) = record { commands = Two (talk + d) (data_on + channel); errand = Takes }
attention_of d (Close channel) = record { commands = Three (listen + d) (close_on + channel) unlisten; errand = Leaves }
attention_of d Status = record { commands = Two (talk + d) (data_on + 15); errand = Takes }

-- the channel of a request
abbrev pub channel_of : Request → ℕ
channel_of (Open channel text) = channel
channel_of (Put channel bytes) = channel
channel_of (Fill channel count byte) = channel
channel_of (Get channel most) = channel
channel_of (Close channel) = channel
channel_of Status = 15

-- the bytes that it sends
abbrev pub sent_by : Request → List ℕ
sent_by (Open channel text) = text.now
sent_by (Put channel bytes) = bytes.now
sent_by (Fill channel count byte) = replicate count byte
sent_by request = []

-- the longest request, in bytes
abbrev pub most_bytes : ℕ
most_bytes = 200000

-- how many bytes it takes at most: of a status, whose line is far shorter, as many as of the longest get
abbrev pub most_of : Request → ℕ
most_of (Get channel most) = most
most_of Status = most_bytes
most_of request = 0

-- a request before its first change, which is at this moment
abbrev pub engine_at : ℕ → ℕ → Request → Engined
engine_at start d request = record { stage = Attending start (PullAtn false false) (attention_of d request); left = sent_by request; most = most_of request }

-- ---- what it does next

-- what the host does next in a request
abbrev pub engine_due : Engined → Due
engine_due e = stage_due e.stage

-- the byte that the host's next change accepts, and whether it is the last
abbrev pub taken_in : Take → Option (ℕ × Bool)
taken_in (Accepting at byte last) = Some (byte, last)
taken_in take = None

-- the same of what the host is at
abbrev pub stage_taken : Stage → Option (ℕ × Bool)
stage_taken (Taking take) = taken_in take
stage_taken stage = None

-- when a request was over
abbrev pub stage_end : Stage → Option ℕ
stage_end (Done at) = Some at
stage_end stage = None

-- ---- what becomes of it

-- a request whose host is now at this, with the same bytes left
abbrev pub at_stage : Stage → Engined → Engined
at_stage stage e = record { stage = stage; left = e.left; most = e.most }

-- no byte is left
abbrev pub is_last_byte : List ℕ → Bool
is_last_byte [] = true
is_last_byte (byte ∷ left) = false

-- The next byte to the listener, after ATN's release or the accept of the byte before it; where none is left UNLISTEN comes after a wait.
abbrev pub sending_on : ℕ → ℕ → ℕ → List ℕ → Engined
sending_on t wait most [] = record { stage = leaving (t + wait) unlisten true false; left = []; most = most }
sending_on t wait most (byte ∷ left) = record { stage = Framing (Readying (t + ready_wait) byte (is_last_byte left)) Listened; left = left; most = most }

-- A byte of the talker was accepted: the next one is awaited; after the last, or where no more are wanted, UNTALK comes.
abbrev pub taking_on : ℕ → Bool → Engined → Engined
taking_on t last e =
    if last || nat_le e.most 1
    then at_stage (leaving (t + answer_wait) untalk false true) e
    else record { stage = Taking Awaiting; left = e.left; most = e.most - 1 }

-- the byte of the host was accepted
abbrev pub accepted : ℕ → Afterwards → Engined → Engined
accepted t (Commanded (Some commands) errand) e = at_stage (commanding t (record { commands = commands; errand = errand })) e
accepted t (Commanded None errand) e = at_stage (releasing t errand) e
accepted t Listened e = sending_on t turn_wait e.most e.left

-- a request after the host's change in a byte of the talker, made at t
abbrev pub took : ℕ → Take → Engined → Engined
took t (Accepting at byte last) e = taking_on t last e
took t take e = at_stage (Taking (take_made t take)) e

-- the same of what the host is at; a release to a listener sends the first byte
abbrev pub made_at : ℕ → Stage → Engined → Engined
made_at t (Calling at) e = sending_on t ready_wait e.most e.left
made_at t (Taking take) e = took t take e
made_at t stage e = at_stage (stage_made t stage) e

-- a request after the host's change that was due, made at t
abbrev pub engine_made : ℕ → Engined → Engined
engine_made t e = made_at t e.stage e

-- a request after a change of DATA by the drive: a frame that was sent waits for it to be pulled
abbrev pub heard_data : Change → Way → Frame → Afterwards → Engined → Engined
heard_data c Pull Sent afterwards e = accepted c.moment afterwards e
heard_data c way frame afterwards e = at_stage (Framing (frame_seen c frame) afterwards) e

-- a request after a change of the drive in a frame of the host
abbrev pub heard : Change → Line → Frame → Afterwards → Engined → Engined
heard c Data frame afterwards e = heard_data c c.way frame afterwards e
heard c line frame afterwards e = at_stage (Framing (frame_seen c frame) afterwards) e

-- the same of what the host is at
abbrev pub seen_at : Change → Stage → Engined → Engined
seen_at c (Framing frame afterwards) e = heard c c.line frame afterwards e
seen_at c stage e = at_stage (stage_seen c stage) e

-- a request after a change of the drive
abbrev pub engine_seen : Change → Engined → Engined
engine_seen c e = seen_at c e.stage e

-- a request after changes of the drive, one after the other
abbrev pub engine_heard : List Change → Engined → Engined
engine_heard [] e = e
engine_heard (c ∷ cs) e = engine_heard cs (engine_seen c e)

-- bits of the drive come, one of them at least
abbrev pub stage_gathers : Stage → Bool
stage_gathers (Taking take) = gathers take
stage_gathers stage = false

-- the drive changed nothing for as long as the host waits
abbrev pub engine_passed : Engined → Engined
engine_passed e = at_stage (stage_passed e.stage) e
