-- What a request asks of the named-files machine of the drive, and what that says.
use Rattle.cbm_talk.specs.Talks.{puts, TalkSaid, says, status_said}
use Rattle.std.specs.Prelude.{◌≡◌, ◌≤◌, ℕ, Bool, false, List, [], length, replicate}
use Rattle.cbm_machine.specs.Machines.{Machine}
use Rattle.cbm_machine.specs.Closing.{close}
use Rattle.cbm_iec.specs.declared.pace.Pace.{Pace}
use Rattle.cbm_machine.specs.Calls.{after_open, end_put}
use Rattle.cbm_drive.specs.Desks.{Desk, at_first, with_pace, talked_to, listened_to}
use Rattle.cbm_host.specs.CarriedOut.{AreBytes}
use Rattle.cbm_host.specs.Engines.{sent_by, most_bytes}
use Rattle.cbm_host.specs.declared.request.Request.{Request}
use Rattle.cbm_host.specs.declared.request.Request.TheVariants.{Open, Put, Fill, Get, Close, Status}

-- the same of a drive of this pace: at a KERNAL's an error stays that nobody has begun to read
abbrev pub talked_at : Pace → ℕ → ℕ → Machine → TalkSaid
talked_at pace ch most m = says most ch [] (talked_to pace ch m)

-- What a channel hears, from a computer at a drive of this pace: at a KERNAL's an error stays that nobody has begun to read.
abbrev pub heard_at : Pace → ℕ → List ℕ → Machine → Machine
heard_at pace ch bytes m = end_put ch (puts ch bytes (listened_to pace ch m))

-- nothing is said
abbrev pub unsaid : Machine → TalkSaid
unsaid m = record { bytes = []; marked = false; machine = m }

-- EACH REQUEST as calls of the machine, at a drive's pace: only the status that a get or a put leaves may depend on it
abbrev pub served : Pace → Request → Machine → TalkSaid
served pace (Open channel text) m = unsaid (after_open channel text.now m)
served pace (Put channel bytes) m = unsaid (heard_at pace channel bytes.now m)
served pace (Fill channel count byte) m = unsaid (heard_at pace channel (replicate count byte) m)
served pace (Get channel most) m = talked_at pace channel most m
served pace (Close channel) m = unsaid (close channel m)
served pace Status m = status_said m

-- the desk of a drive of this pace at power up
abbrev pub at_power_up : Pace → ℕ → Machine → Desk Machine
at_power_up pace d m = with_pace pace (at_first d m)

-- A DRIVE WITH THIS DEVICE NUMBER SERVED A REQUEST: after it its desk is as at power up, with the machine that the request leads to, and these are the bytes
-- that were said, the last with EOI or not.
pub record IsServed (pace : Pace) (d : ℕ) (request : Request) (m : Machine) (bytes : List ℕ) (last : Bool) (desk : Desk Machine) : Type 0 where
  pub afterwards : desk ≡ at_power_up pace d (served pace request m).machine
  pub said : bytes ≡ (served pace request m).bytes
  pub marked : last ≡ (served pace request m).marked

-- A request moves at most 200,000 bytes: no more are sent, or at least one is wanted and no more than that.
abbrev pub MovesFew : Request → Type 0
MovesFew (Open channel text) = length text.now ≤ most_bytes
MovesFew (Put channel bytes) = length bytes.now ≤ most_bytes
MovesFew (Fill channel count byte) = count ≤ most_bytes
MovesFew (Get channel most) = (1 ≤ most) × (most ≤ most_bytes)
MovesFew (Close channel) = Unit {0}
MovesFew Status = Unit {0}

-- A request of at most 200,000 bytes: no more are sent, or at least one is wanted and no more than that. A status is never longer.
abbrev pub IsModest : Request → Type 0
IsModest (Get channel most) = (1 ≤ most) × (most ≤ most_bytes)
IsModest Status = Unit {0}
IsModest request = (length (sent_by request) ≤ most_bytes) × AreBytes (sent_by request)
