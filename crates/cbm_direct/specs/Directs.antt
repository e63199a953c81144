-- A drive with direct access: its DOS, its three buffers, and what is left of M-R's answer.
use Rattle.std.specs.Prelude.{ℕ, ◌+◌, ◌≤◌, ◌≡◌, ◌≢◌, ◌⊎◌, ◌==◌, Bool, true, false, List, Option, Some, None, Result, Ok, Err, IsOk, sum_by, if◌then◌else◌}
use Rattle.cbm_medium.specs.Place.{Place, Has, directory_head}
use Rattle.cbm_medium.specs.Seen.{Seen}
use Rattle.cbm_medium.specs.declared.fault.Trouble.{Trouble}
use Rattle.cbm_machine.specs.declared.code.Code.{Code}
use Rattle.cbm_machine.specs.declared.code.Code.TheVariants.{Fine, WriteProtected, NoBlock, NoChannel, WriteFileOpen, WrongLink, Syntax, DriveNotReady}
use Rattle.cbm_machine.specs.declared.status.Status.{Status}
use Rattle.cbm_machine.specs.Talking.{taken}
use Rattle.cbm_machine.specs.Statuses.{plain, trouble_status}
use Rattle.cbm_channel.specs.Standing.{Kept, Leads}
use Rattle.cbm_channel.specs.Loosely.{ClaimsAt}
use Rattle.cbm_channel.specs.Parts.{OnlyText}
use Rattle.cbm_channel.specs.Going.{Goes, closing}
use Rattle.cbm_channel.specs.Opening.{OpensFrom}
use Rattle.cbm_direct.specs.declared.wanted.Wanted.{Wanted}
use Rattle.cbm_direct.specs.declared.wanted.Wanted.TheVariants.{Any, Number}
use Rattle.cbm_direct.specs.declared.wanted.Wanted.TheVariants as wanted
use Rattle.cbm_channel.specs.Shown.{shown_by, cost_on}
use Rattle.cbm_direct.specs.declared.access.Access.{Access}
use Rattle.cbm_direct.specs.declared.access.Access.TheVariants.{Guarded}
use Rattle.cbm_direct.specs.declared.vouch.Vouch.TheVariants.{Sound}
use Rattle.cbm_direct.specs.declared.asked.Block.{Block}
use Rattle.cbm_direct.specs.declared.asked.Sector.{Sector}
use Rattle.cbm_direct.specs.declared.asked.Asked.{Asked}
use Rattle.cbm_direct.specs.declared.asked.Asked.TheVariants.{Read, ReadCounted, Write, WriteCounted, Allocate, Free, Seek, Memory, Restart, Nothing, Held, Denied, Unread}
use Rattle.cbm_direct.specs.declared.form.Form.{Form}
use Rattle.cbm_direct.specs.declared.form.Form.TheVariants.{Whole, Counted}
use Rattle.cbm_direct.specs.declared.memory.Reply.{Reply}
use Rattle.cbm_direct.specs.Buffered.{ThreeBuffers, three_free, has_buffer, on_buffer, shown_in, loaded, bytes_of_channel, at_place, given_back, taken_count, with_any_for, with_number_for}
use Rattle.cbm_direct.specs.Asking.{buffer_wanted, command_asked}
use Rattle.cbm_direct.specs.Spared.{keeps_geos}
use Rattle.cbm_direct.specs.NextFree.{next_behind}
use Rattle.cbm_bam.specs.Map.{map_of, is_free_in}
use Rattle.cbm_bam.specs.Causes.{IsHeadFault}
use Rattle.cbm_volume.specs.SeenDisks.{seen_tracks}
use Rattle.cbm_direct.specs.Memories.{reply_shown, reply_behind}
use Rattle.cbm_direct.specs.Vouching.{Vouching, IsSectorUnread, OnlyStatus, ShowsDisk, StandsAtStart, StandsExchanged, WritesBy, GivesBy, access_of}

-- the drive
pub record Direct (M : Type 0) : Type 0 where
  pub vouched : Vouching M
  pub buffers : ThreeBuffers
  pub reply : Option Reply

-- The status has become this one; the buffers are these, and the reply is this. All else is as it was.
pub record TellsOnly {M : Type 0} (status : Status) (have : ThreeBuffers) (answer : Option Reply) (old new : Direct M) : Type 0 where
  pub only : OnlyStatus status old.vouched.dos new.vouched.dos
  pub vouch : new.vouched.vouch ≡ old.vouched.vouch
  pub buffers : new.buffers ≡ have
  pub reply : new.reply ≡ answer

-- the status alone has become this one
abbrev pub DirectAnswers : {M : Type 0} → Status → Direct M → Direct M → Type 0
DirectAnswers status old new = TellsOnly status old.buffers old.reply old new

-- the sector of a command
abbrev pub sector_asked : Block → Place
sector_asked block = record { track = block.track; sector = block.sector }

-- A SECTOR WAS READ into the channel's buffer, and the status is 00; or the status is why it wasn't, and the buffers are as they were.
abbrev pub WasBlockRead : {M : Type 0} → (M → Seen) → Form → Block → Direct M → Direct M → Type 0
WasBlockRead seen form block old new =
    ((bytes : List ℕ) × ((seen old.vouched.dos.medium).content (sector_asked block) ≡ Ok bytes) × TellsOnly (plain Fine) (on_buffer (loaded form bytes) block.channel old.buffers) old.reply old new)
    ⊎ ((t : Trouble) × IsSectorUnread (seen old.vouched.dos.medium) (sector_asked block) t × DirectAnswers (trouble_status t) old new)

-- A command on a sector: 70 if the channel has no buffer, 74 if it names another drive, else the sector is read.
abbrev pub IsReadAsked : {M : Type 0} → (M → Seen) → Form → Block → Direct M → Direct M → Type 0
IsReadAsked seen form block old new =
    ((has_buffer block.channel old.buffers ≡ false) × DirectAnswers (plain NoChannel) old new)
    ⊎ ((has_buffer block.channel old.buffers ≡ true) × (block.drive ≢ 0) × DirectAnswers (plain DriveNotReady) old new)
    ⊎ ((has_buffer block.channel old.buffers ≡ true) × (block.drive ≡ 0) × WasBlockRead seen form block old new)

-- ---- commands that write

-- the sector of a command without a channel
abbrev pub place_asked : Sector → Place
place_asked sector = record { track = sector.track; sector = sector.sector }

-- a code with a sector's two numbers
abbrev pub at_sector : Code → Place → Status
at_sector code p = record { code = code; first = p.track; second = p.sector }

-- what is reported of such a command: 00 if it is done, 26 with the sector if the rule refuses it, or the medium's fault
abbrev pub result_status : Place → Result Bool Trouble → Status
result_status p (Ok true) = plain Fine
result_status p (Ok false) = at_sector WriteProtected p
result_status p (Err t) = trouble_status t

-- The DOS carried it out, and its result is the status; the buffers and M-R's answer are as they were.
pub record Reports {M : Type 0} (p : Place) (Does : Result Bool Trouble → Kept M → Kept M → Type 0) (old new : Direct M) : Type 0 where
  pub result : Result Bool Trouble
  pub middle : Direct M
  pub call : Does result old.vouched.dos middle.vouched.dos
  pub vouch : middle.vouched.vouch ≡ old.vouched.vouch
  pub buffers : middle.buffers ≡ old.buffers
  pub reply : middle.reply ≡ old.reply
  pub answers : DirectAnswers (result_status p result) middle new

-- On a disk that is protected 26 is reported; else this holds.
abbrev pub UnlessProtected : {M : Type 0} → (M → Seen) → (Direct M → Direct M → Type 0) → Direct M → Direct M → Type 0
UnlessProtected seen Does old new =
    (((seen old.vouched.dos.medium).protected ≡ true) × DirectAnswers (plain WriteProtected) old new)
    ⊎ (((seen old.vouched.dos.medium).protected ≡ false) × Does old new)

-- On a disk of so many tracks without such a sector 66 is reported; else this holds.
abbrev pub IfHas : {M : Type 0} → ℕ → Place → (Direct M → Direct M → Type 0) → Direct M → Direct M → Type 0
IfHas tracks p Does old new = ((Has tracks p → ⊥) × DirectAnswers (at_sector WrongLink p) old new) ⊎ (Has tracks p × Does old new)

-- If another drive is named 74 is reported; else this holds.
abbrev pub IfDrive0 : {M : Type 0} → ℕ → (Direct M → Direct M → Type 0) → Direct M → Direct M → Type 0
IfDrive0 drive Does old new = ((drive ≢ 0) × DirectAnswers (plain DriveNotReady) old new) ⊎ ((drive ≡ 0) × Does old new)

-- U2 AND B-W: 70 if the channel has no buffer, 74 if another drive is named, 66 if the medium has no such sector, 26 if the disk is
-- protected; else the sector gets these bytes, if any may be written, or if it is nobody's and isn't spared.
abbrev pub IsWriteAsked : {M : Type 0} → (M → Seen) → Option (List ℕ) → Block → Direct M → Direct M → Type 0
IsWriteAsked seen None block old new = DirectAnswers (plain NoChannel) old new
IsWriteAsked seen (Some bytes) block old new =
    IfDrive0 block.drive (IfHas (seen old.vouched.dos.medium).tracks (sector_asked block)
    (UnlessProtected seen (Reports (sector_asked block) (WritesBy (access_of old.vouched.vouch) seen (sector_asked block) bytes)))) old new

-- what is told of a sector that is taken: 65 with the next one that is free, or with zeros
abbrev pub next_status : Option Place → Status
next_status None = plain NoBlock
next_status (Some p) = at_sector NoBlock p

-- A SECTOR IS CLAIMED: if the map doesn't read its fault is reported, if the sector is taken 65, else it is claimed if the disk is sound.
abbrev pub WasAllocated : {M : Type 0} → (M → Seen) → Place → Direct M → Direct M → Type 0
WasAllocated seen p old new =
    let now = seen old.vouched.dos.medium in
    ((t : Trouble) × IsHeadFault now.content t × DirectAnswers (trouble_status t) old new)
    ⊎ ((IsOk (now.content directory_head) × (is_free_in (map_of now.content) p ≡ false)
    × DirectAnswers (next_status (next_behind (is_free_in (map_of now.content)) (seen_tracks now) p)) old new)
    ⊎ ((is_free_in (map_of now.content) p ≡ true) × Reports p (ClaimsAt seen p) old new))

-- B-A: 74 if another drive is named, 66 if the disk has no such sector, 26 if it is protected; else the sector is claimed.
abbrev pub IsAllocateAsked : {M : Type 0} → (M → Seen) → Sector → Direct M → Direct M → Type 0
IsAllocateAsked seen sector old new =
    IfDrive0 sector.drive (IfHas (seen_tracks (seen old.vouched.dos.medium)) (place_asked sector)
    (UnlessProtected seen (WasAllocated seen (place_asked sector)))) old new

-- B-F: the same, and the sector is given back, if it is nobody's, and isn't spared unless any may be written.
abbrev pub IsFreeAsked : {M : Type 0} → (M → Seen) → Sector → Direct M → Direct M → Type 0
IsFreeAsked seen sector old new =
    IfDrive0 sector.drive (IfHas (seen_tracks (seen old.vouched.dos.medium)) (place_asked sector)
    (UnlessProtected seen (Reports (place_asked sector) (GivesBy (access_of old.vouched.vouch) seen (place_asked sector))))) old new

-- B-P: 70 if the channel has no buffer, else its next byte is the one of this place
abbrev pub IsSought : {M : Type 0} → ℕ → ℕ → Direct M → Direct M → Type 0
IsSought ch place old new =
    ((has_buffer ch old.buffers ≡ false) × DirectAnswers (plain NoChannel) old new)
    ⊎ ((has_buffer ch old.buffers ≡ true) × TellsOnly (plain Fine) (on_buffer (at_place place) ch old.buffers) old.reply old new)

-- THE DRIVE IS SWITCHED ON with this medium: no channel is open, and none has a buffer; unless any sector may be written, it is known whether the
-- disk is sound.
pub record IsPoweredWith {M : Type 0} (seen : M → Seen) (medium : M) (access : Access) (d : Direct M) : Type 0 where
  pub stands : StandsAtStart seen medium d.vouched.dos
  pub inside : d.vouched.dos.medium ≡ medium
  pub allowed : access_of d.vouched.vouch ≡ access
  pub sound : access ≡ Guarded → ShowsDisk (seen medium) → d.vouched.vouch ≡ Sound (seen medium).failures
  pub buffers : d.buffers ≡ three_free
  pub reply : d.reply ≡ None

-- ANOTHER DISK WAS PUT IN: no channel is open, and none has a buffer; the status stays, and unless any sector may be written, it is known whether that
-- disk is sound.
pub record HasTakenDisk {M : Type 0} (seen : M → Seen) (medium : M) (old new : Direct M) : Type 0 where
  pub stands : StandsExchanged seen medium old.vouched.dos.told new.vouched.dos
  pub inside : new.vouched.dos.medium ≡ medium
  pub told : new.vouched.dos.told ≡ old.vouched.dos.told
  pub access : access_of new.vouched.vouch ≡ access_of old.vouched.vouch
  pub sound : access_of old.vouched.vouch ≡ Guarded → ShowsDisk (seen medium) → new.vouched.vouch ≡ Sound (seen medium).failures
  pub buffers : new.buffers ≡ three_free
  pub reply : new.reply ≡ None

-- The drive has started again: its medium stays, no channel is open, and none has a buffer.
pub record HasStarted {M : Type 0} (seen : M → Seen) (old new : Direct M) : Type 0 where
  pub stands : StandsAtStart seen old.vouched.dos.medium new.vouched.dos
  pub medium : new.vouched.dos.medium ≡ old.vouched.dos.medium
  pub vouch : new.vouched.vouch ≡ old.vouched.vouch
  pub buffers : new.buffers ≡ three_free
  pub reply : new.reply ≡ None

-- what the text of a command asks of a drive with direct access; none if it is the DOS's
abbrev pub asked_on : {M : Type 0} → (M → Seen) → List ℕ → Direct M → Option Asked
asked_on seen text d = command_asked (keeps_geos (access_of d.vouched.vouch) (seen d.vouched.dos.medium)) (taken_count d.buffers) text

-- WHAT A COMMAND OF DIRECT ACCESS DOES
abbrev pub IsAskedDone : {M : Type 0} → (M → Seen) → Asked → Direct M → Direct M → Type 0
IsAskedDone seen (Read block) old new = IsReadAsked seen Whole block old new
IsAskedDone seen (ReadCounted block) old new = IsReadAsked seen Counted block old new
IsAskedDone seen (Write block) old new = IsWriteAsked seen (bytes_of_channel Whole block.channel old.buffers) block old new
IsAskedDone seen (WriteCounted block) old new = IsWriteAsked seen (bytes_of_channel Counted block.channel old.buffers) block old new
IsAskedDone seen (Allocate sector) old new = IsAllocateAsked seen sector old new
IsAskedDone seen (Free sector) old new = IsFreeAsked seen sector old new
IsAskedDone seen (Seek ch place) old new = IsSought ch place old new
IsAskedDone seen (Memory address count) old new = TellsOnly (plain Fine) old.buffers (Some (record { address = address; left = count })) old new
IsAskedDone seen Restart old new = HasStarted seen old new
IsAskedDone seen Nothing old new = DirectAnswers (plain Fine) old new
IsAskedDone seen Held old new = DirectAnswers (plain WriteFileOpen) old new
IsAskedDone seen Denied old new = DirectAnswers (plain WriteProtected) old new
IsAskedDone seen Unread old new = DirectAnswers (plain Syntax) old new

-- what channel 15 shows: what is left of M-R's answer, else the status
abbrev pub told_or : Option Reply → Option (ℕ × Bool) → Option (ℕ × Bool)
told_or None told = told
told_or (Some reply) told = Some (reply_shown reply)

-- WHAT A CHANNEL SHOWS: channel 15 the answer of M-R or the status, a channel with a buffer its next byte, any other what the DOS shows
abbrev pub direct_shown : {M : Type 0} → ℕ → Direct M → Option (ℕ × Bool)
direct_shown ch d =
    if ch == 15 then told_or d.reply (shown_by 15 d.vouched.dos)
    else if has_buffer ch d.buffers then shown_in ch d.buffers
    else shown_by ch d.vouched.dos

-- A call of the DOS: it does this, and the buffers are as they were.
pub record OfDos {M : Type 0} (does : Kept M → Kept M → Type 0) (answer : Option Reply) (old new : Direct M) : Type 0 where
  pub call : does old.vouched.dos new.vouched.dos
  pub buffers : new.buffers ≡ old.buffers
  pub reply : new.reply ≡ answer

-- nothing but the buffers has changed, which have become these
abbrev pub OnlyBuffers : {M : Type 0} → ThreeBuffers → Direct M → Direct M → Type 0
OnlyBuffers buffers old new = new ≡ record old { buffers = buffers }

-- A command of direct access: what was put to channel 15 and M-R's answer go, and it is carried out.
abbrev pub IsDirectCommand : {M : Type 0} → (M → Seen) → Asked → Direct M → Direct M → Type 0
IsDirectCommand {M} seen asked old new = (mid : Direct M) × OfDos OnlyText None old mid × IsAskedDone seen asked mid new

-- A channel was closed: its buffer was given back, or the DOS closed it.
abbrev pub IsClosedHere : {M : Type 0} → (M → Seen) → ℕ → Direct M → Direct M → Type 0
IsClosedHere seen ch old new =
    ((has_buffer ch old.buffers ≡ true) × OnlyBuffers (on_buffer given_back ch old.buffers) old new)
    ⊎ ((has_buffer ch old.buffers ≡ false) × OfDos (λ before after. Goes seen before after (closing ch)) old.reply old new)

-- the buffers after an OPEN with `#`, if it gets one
abbrev pub buffer_opened_by : Wanted → ℕ → ThreeBuffers → Option ThreeBuffers
buffer_opened_by Any ch b = with_any_for ch b
buffer_opened_by (Number n) ch b = with_number_for n ch b
buffer_opened_by wanted.Unread ch b = None

-- WHAT AN OPEN WITH `#` DOES to a closed channel: 30 if its text can't be read, 70 if all three buffers are taken or the one that it asks for is,
-- else the buffer is the channel's, and the status is 00.
abbrev pub IsBufferOpened : {M : Type 0} → Wanted → ℕ → Direct M → Direct M → Type 0
IsBufferOpened w ch old new =
    ((w ≡ wanted.Unread) × DirectAnswers (plain Syntax) old new)
    ⊎ ((3 ≤ sum_by cost_on old.vouched.dos.channels + taken_count old.buffers) × DirectAnswers (plain NoChannel) old new)
    ⊎ ((buffer_opened_by w ch old.buffers ≡ None) × DirectAnswers (plain NoChannel) old new)
    ⊎ ((have : ThreeBuffers) × (buffer_opened_by w ch old.buffers ≡ Some have) × TellsOnly (plain Fine) have old.reply old new)

-- WHAT ANOTHER OPEN DOES to a closed channel while channels have buffers: what the DOS does, or 70; the disk has what the DOS left there.
abbrev pub IsOpenedBeside : {M : Type 0} → (M → Seen) → ℕ → List ℕ → Direct M → Direct M → Type 0
IsOpenedBeside {M} seen ch text old new =
    DirectAnswers (plain NoChannel) old new
    ⊎ OfDos (OpensFrom seen ch text) old.reply old new
    ⊎ ((mid : Direct M) × (closed : Direct M) × OfDos (OpensFrom seen ch text) old.reply old mid
    × OfDos (λ before after. Goes seen before after (closing ch)) old.reply mid closed × DirectAnswers (plain NoChannel) closed new)

-- all channels were closed: the DOS's, and those with a buffer
pub record AreAllClosed {M : Type 0} (seen : M → Seen) (old new : Direct M) : Type 0 where
  pub dos : Goes seen old.vouched.dos new.vouched.dos (closing 15)
  pub buffers : new.buffers ≡ (record { first = given_back old.buffers.first; second = given_back old.buffers.second; third = given_back old.buffers.third })
  pub reply : new.reply ≡ None

-- nothing but the buffers has changed, which were opened so
abbrev pub OnlyBuffersOf : {M : Type 0} → Option ThreeBuffers → Direct M → Direct M → Type 0
OnlyBuffersOf opened old new = (opened ≡ Some new.buffers) × OnlyBuffers new.buffers old new

-- AN OPEN OF A CHANNEL FROM 0 TO 14: with `#` the channel is closed, and gets a buffer; any other is the DOS's, and while channels have buffers
-- the channel is closed first.
abbrev pub IsOpenedHere : {M : Type 0} → (M → Seen) → ℕ → List ℕ → Direct M → Direct M → Type 0
IsOpenedHere {M} seen ch text old new =
    ((w : Wanted) × (closed : Direct M) × (buffer_wanted text ≡ Some w) × IsClosedHere seen ch old closed × IsBufferOpened w ch closed new)
    ⊎ ((buffer_wanted text ≡ None) × (taken_count old.buffers ≡ 0) × OfDos (OpensFrom seen ch text) old.reply old new)
    ⊎ ((closed : Direct M) × (buffer_wanted text ≡ None) × IsClosedHere seen ch old closed × IsOpenedBeside seen ch text closed new)

-- The byte that channel 15 showed was sent: the next one of M-R's answer, else one of the status.
abbrev pub IsToldOn : {M : Type 0} → (M → Seen) → Option Reply → Direct M → Direct M → Type 0
IsToldOn seen None old new = OfDos (λ before after. Leads seen before after (taken 15)) None old new
IsToldOn seen (Some reply) old new = new ≡ record old { reply = reply_behind reply }
