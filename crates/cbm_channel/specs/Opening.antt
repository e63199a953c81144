-- An OPEN on a channel that may be open: a CLOSE, and then the OPEN itself.
use Rattle.std.specs.Prelude.{ℕ, ◌≡◌, ◌⊎◌, ◌==◌, ◌||◌, if◌then◌else◌, Bool, List, true, false, is_some, slice_index_or, Option, Some, None, Result, Ok, Err, IfOk, IfErr, MatchOption, OnErr}
use Rattle.cbm_medium.specs.Seen.{Seen, HasFailed}
use Rattle.cbm_medium.specs.declared.fault.Trouble.{Trouble}
use Rattle.cbm_bam.specs.Map.{geometry_of}
use Rattle.cbm_volume.specs.Writers.{Idle, Stopped}
use Rattle.cbm_machine.specs.declared.code.Code.{Code}
use Rattle.cbm_machine.specs.declared.code.Code.TheVariants.{Fine}
use Rattle.cbm_machine.specs.Machines as machine
use Rattle.cbm_machine.specs.Machines.{Machine, say}
use Rattle.cbm_machine.specs.declared.status.Status.{Status}
use Rattle.cbm_machine.specs.Plans as plans
use Rattle.cbm_command.specs.declared.opening.Opening.{Opening}
use Rattle.cbm_command.specs.Openings.{opening_of}
use Rattle.cbm_file.specs.Files.{File}
use Rattle.cbm_channel.specs.declared.channel.Channel.{Channel}
use Rattle.cbm_channel.specs.declared.channel.Channel.TheVariants.{Closed}
use Rattle.cbm_channel.specs.declared.finding.Found.{Found}
use Rattle.cbm_channel.specs.declared.plan.Plan.{Plan}
use Rattle.cbm_channel.specs.ChannelCalls.{KeepsRest, LeavesRest}
use Rattle.cbm_channel.specs.Standing.{Kept, SameBut, HaveSameFiles, Stands, uses_of}
use Rattle.cbm_channel.specs.Grounds.{HasGround, IsNotOk, IsFromDirectory, KeepsGrounded, KeepsIfRefused, OrdersDisk, ShowsTrouble, TellsGrounded}
use Rattle.cbm_channel.specs.Going.{IsFailureCounted, GoesFrom, KeepsMedium, WentFrom, opening_parts}
use Rattle.cbm_channel.specs.Commanded.{AreSameBut, open_formats, open_validates, text_moves, text_clears}
use Rattle.cbm_channel.specs.Shown.{is_writing_on, appends_on, appended_by, finished_by}
use Rattle.cbm_channel.specs.Meant.{TextWasDone, OpeningWasDone}
use Rattle.cbm_channel.specs.BytesMeant.{ClosingWasDone}
use Rattle.cbm_channel.specs.Parts.{IsClosedOn, OnlyTells, OnlyTellsFor}
use Rattle.cbm_channel.specs.Planned.{PlannedAs, IsFound, IsOfText, IsOpened, IsSized, begun_by, disk_opened, plan_writes, text_writes}

-- THE CHANNEL WAS CLOSED FIRST, on any disk, as CLOSE does it, and from there the OPEN itself is measured: where it isn't for writing it
-- leaves the medium as it is, and its status has its ground; where it is refused each sector is as it was; where it is reported as done it
-- was done. The medium refused at most one write in each of both.
pub record ClosesFirst {M : Type 0} (seen : M → Seen) (ch : ℕ) (text : List ℕ) (old new : Kept M) : Type 0 where
  pub closed : Kept M
  pub is_closed : slice_index_or closed.channels ch Closed ≡ Closed
  pub others : SameBut ch old.channels closed.channels
  pub close_counted : IsFailureCounted seen old closed
  pub finished : ClosingWasDone seen ch old closed
  pub quiet : text_writes ch text ≡ false → OnlyTells seen closed new
  pub spared : KeepsIfRefused seen closed new
  pub counted : IsFailureCounted seen closed new
  pub done : (asked : Opening) → opening_of ch text ≡ Ok asked → OpeningWasDone seen ch asked closed new

-- from each machine that the drive stood for it is done, or stopped
abbrev pub OpensFrom : {M : Type 0} → (M → Seen) → ℕ → List ℕ → Kept M → Kept M → Type 0
OpensFrom seen ch text old new = (m : machine.Machine) → Stands seen old m → GoesFrom seen old new (opening_parts ch text) m

-- what isn't for writing, on a channel that isn't written, leaves the medium as it is
abbrev pub OpensQuietly : {M : Type 0} → (M → Seen) → ℕ → List ℕ → Kept M → Kept M → Type 0
OpensQuietly seen ch text old new = is_writing_on ch old ≡ false → text_writes ch text ≡ false → OnlyTellsFor seen old new

-- the status says that it went well, or the channel is closed
abbrev pub IsClosedUnlessFine : {M : Type 0} → ℕ → Kept M → Type 0
IsClosedUnlessFine ch new = (new.told.status.code ≡ Fine) ⊎ IsClosedOn ch new

-- WHAT AN OPEN OF A CHANNEL FROM 0 TO 14 LEAVES on any disk: the other channels as they were, and this one open or closed, as the status
-- says; CLOSE comes first, and what the OPEN itself does is measured from there. The status that it reports has its ground.
pub record OpensChannel {M : Type 0} (seen : M → Seen) (ch : ℕ) (text : List ℕ) (old new : Kept M) : Type 0 where
  pub others : SameBut ch old.channels new.channels
  pub refused : IsClosedUnlessFine ch new
  pub closes : ClosesFirst seen ch text old new
  pub grounded : TellsGrounded seen old new

-- WHAT AN OPEN OF CHANNEL 15 LEAVES on any disk: each channel keeps its file, and its place but for one that the command sets; a command
-- that is reported as done was done; the medium refused one write at most; and a status that is reported has its ground.
pub record OpensCommand {M : Type 0} (seen : M → Seen) (text : List ℕ) (old new : Kept M) : Type 0 where
  pub channels : HaveSameFiles old.channels new.channels
  pub places : AreSameBut (text_moves text) old.channels new.channels
  pub done : TextWasDone seen text old new
  pub counted : IsFailureCounted seen old new
  pub grounded : KeepsGrounded seen old new

-- On a channel that isn't written, what isn't for writing leaves the medium as it is, and what is refused has changed nothing of the disk.
pub record OpensUnwritten {M : Type 0} (seen : M → Seen) (ch : ℕ) (text : List ℕ) (old new : Kept M) : Type 0 where
  pub quiet : OpensQuietly seen ch text old new
  pub spared : is_writing_on ch old ≡ false → KeepsIfRefused seen old new

-- the slots that OPEN may change: those that a command clears; on another channel the one whose file was being written on it,
-- and the one to whose file it will append. A file that it will replace stays, and one whose records it opens.
abbrev pub changed_by_open : {M : Type 0} → ℕ → List ℕ → Kept M → Kept M → Machine → ℕ → Bool
changed_by_open ch text old new m n = if ch == 15 then text_clears text m n else finished_by ch old n || appended_by ch new n

-- WHAT EACH OPEN LEAVES on any disk: closed files, where it is V; tracks and protection of the medium; and, but with NEW, the rest of the
-- disk but for those slots.
pub record LeavesByOpen {M : Type 0} (seen : M → Seen) (ch : ℕ) (text : List ℕ) (old new : Kept M) : Type 0 where
  pub ordered : open_validates ch text ≡ true → OrdersDisk seen old new
  pub medium : KeepsMedium (open_formats ch text) (seen old.medium) (seen new.medium)
  pub rest : open_formats ch text ≡ false → LeavesRest seen (changed_by_open ch text old new) old new

-- ---- what a plan is

-- what is planned writes nothing on a protected disk
abbrev pub IsAllowed : {M : Type 0} → (M → Seen) → M → Plan → Type 0
IsAllowed seen medium plan = plan_writes plan ≡ true → (seen medium).protected ≡ false

-- A PLAN OR ITS REFUSAL on any disk: what refuses has its ground, and isn't 00; nothing is to be written on a protected disk; and the records
-- of a new relative file have 1 to 254 bytes.
pub record IsSoundPlan {M : Type 0} (seen : M → Seen) (medium : M) (result : Result Plan Status) : Type 0 where
  pub ground : IfErr result (HasGround seen medium)
  pub denied : IfErr result IsNotOk
  pub allowed : IfOk result (IsAllowed seen medium)
  pub sized : IfOk result IsSized

-- over what the medium holds the code plans what the machine plans, or refuses by the same code
abbrev pub PlansAs : {M : Type 0} → (M → Seen) → M → Machine → Result plans.Plan Code → Result Plan Status → Type 0
PlansAs seen medium m plan result = PlannedAs (seen medium).tracks (seen medium).content m plan result

-- the file in the slot was found over what the medium holds
abbrev pub IsFoundIn : {M : Type 0} → (M → Seen) → M → Machine → ℕ → File → Found → Type 0
IsFoundIn seen medium m s f found = IsFound (seen medium).tracks (seen medium).content m.disk s f found

-- an OPEN that was read is planned and done on a closed channel, or stopped
abbrev pub BeginsOpening : {M : Type 0} → (M → Seen) → ℕ → Opening → Kept M → Kept M → Type 0
BeginsOpening seen ch opening old new = (m : Machine) → IsOfText opening → IsClosedOn ch old → Stands seen old m → WentFrom seen old new ch (begun_by ch opening) m

-- what was planned is done on a closed channel, or stopped
abbrev pub ActsOnPlan : {M : Type 0} → (M → Seen) → ℕ → Plan → Kept M → Kept M → Type 0
ActsOnPlan seen ch plan old new = (m : Machine) (p : plans.Plan) → PlansAs seen old.medium m (Ok p) (Ok plan) → IsClosedOn ch old → Stands seen old m → WentFrom seen old new ch (λ n. say Fine (plans.act ch p n)) m

-- ---- what a plan opens

-- for each machine and plan of its own for which the code's plan stands, what is opened on a channel that uses nothing of the disk
abbrev pub OpensPlan : {M : Type 0} → (M → Seen) → Plan → Result (Option Channel) Trouble → Kept M → Kept M → Type 0
OpensPlan seen plan result old new = (m : machine.Machine) (p : plans.Plan) (ch : ℕ) → PlansAs seen old.medium m (Ok p) (Ok plan) → Stands seen old m → uses_of old.channels m.channels ch ≡ Idle
    → IfOk result (IsOpened (seen old.medium).tracks (seen new.medium).content m ch p (uses_of old.channels m.channels))

-- where a write was refused, the medium failed by itself, and each slot is as before or as after
abbrev pub StopsPlan : {M : Type 0} → (M → Seen) → Plan → Result (Option Channel) Trouble → Kept M → Kept M → Type 0
StopsPlan seen plan result old new = (m : machine.Machine) (p : plans.Plan) → PlansAs seen old.medium m (Ok p) (Ok plan) → Stands seen old m
    → OnErr result (Stopped (seen old.medium).tracks (seen new.medium).content m.disk (disk_opened m.disk p) (uses_of old.channels m.channels) × HasFailed (seen old.medium) (seen new.medium))

-- on a sound disk the rest of it stays whatever is opened, but for the slots that pass the test
abbrev pub OpensRest : {M : Type 0} → (M → Seen) → Plan → (ℕ → Bool) → Kept M → Kept M → Type 0
OpensRest seen plan but old new = (m : machine.Machine) (p : plans.Plan) → PlansAs seen old.medium m (Ok p) (Ok plan) → Stands seen old m → KeepsRest (seen old.medium) (seen new.medium) but

-- the slot to whose file bytes will be put, if one was opened so
abbrev pub opened_in : Result (Option Channel) Trouble → ℕ → Bool
opened_in (Ok (Some x)) n = appends_on n x
opened_in (Ok None) n = false
opened_in (Err t) n = false

-- where nothing is written, the content shows why it is refused
abbrev pub ShowsWhy : {M : Type 0} → (M → Seen) → Plan → Result (Option Channel) Trouble → M → Type 0
ShowsWhy seen plan result medium = plan_writes plan ≡ false → IsFromDirectory seen medium plan → IfErr result (ShowsTrouble (geometry_of (seen medium).tracks (seen medium).content) (seen medium).content)

-- WHAT A PLAN OPENS on a sound disk: the channel, or the stop; and the rest of the disk stays, but for the slot to whose file bytes will be put.
pub record OpensByPlan {M : Type 0} (seen : M → Seen) (plan : Plan) (result : Result (Option Channel) Trouble) (old new : Kept M) : Type 0 where
  pub opened : OpensPlan seen plan result old new
  pub stopped : StopsPlan seen plan result old new
  pub rest : OpensRest seen plan (opened_in result) old new

-- WHAT AN OPENING WRITES on any disk: nothing where the plan writes nothing, and then there is a channel, or the content shows why not;
-- nothing where no channel is opened for want of a place; and nothing where the disk is protected.
pub record WritesByPlan {M : Type 0} (seen : M → Seen) (plan : Plan) (result : Result (Option Channel) Trouble) (old new : Kept M) : Type 0 where
  pub quiet : plan_writes plan ≡ false → (new.medium ≡ old.medium) × IfOk result (λ o. is_some o ≡ true)
  pub shown : ShowsWhy seen plan result old.medium
  pub kept : IfOk result (λ o. MatchOption o ((seen new.medium).content ≡ (seen old.medium).content) (λ w. Unit {0}))
  pub guarded : IsAllowed seen old.medium plan → IfErr result (λ t. t.code ≡ 26 → (seen new.medium).content ≡ (seen old.medium).content)
