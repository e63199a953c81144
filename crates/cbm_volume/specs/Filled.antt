-- What the calls leave of a sound disk on which a channel writes a file: a byte more, CLOSE, and a replacement that is given up.
use Rattle.std.specs.Prelude.{ℕ, ◌+◌, ◌≡◌, ◌==◌, Bool, true, false, Result, IfOk, MatchBool}
use Rattle.cbm_medium.specs.Seen.{Seen}
use Rattle.cbm_medium.specs.declared.fault.Trouble.{Trouble}
use Rattle.cbm_file.specs.Changes.{with_finished, with_replaced}
use Rattle.cbm_chain.specs.Writing.{State, IsForFiles, Puts, IsFullFor}
use Rattle.cbm_volume.specs.Writers.{Filling, Idle, HoldsNow, with_use, IsStored, IsFullDisk, Stopped}
use Rattle.cbm_volume.specs.Calls.{OfWriter, IsCall, IsChange}

-- A BYTE IS STORED: the channel's file has it as its last one. Where the disk is full, nothing has changed; where a write was refused, the
-- disk is as it was and the channel is idle.
abbrev pub StoresByte : Result Bool Trouble → Seen → Seen → Filling → Filling → ℕ → Type 0
StoresByte result old new before after byte =
    OfWriter old before (λ d uses ch bytes blocks. IsCall result old new
    (λ done. MatchBool done (IsStored old.tracks new.content d uses ch after bytes blocks byte)
    (IsFullDisk old.content new.content d before after bytes blocks))
    (Stopped old.tracks new.content d d (with_use uses ch Idle)) (λ m. false))

-- THE FILE IS CLOSED: its slot has the channel's bytes in their blocks, and the channel is idle.
abbrev pub FinishesWriting : Result (Unit {0}) Trouble → Seen → Seen → Filling → Type 0
FinishesWriting result old new w =
    OfWriter old w (λ d uses ch bytes blocks.
    IsChange result old new d (with_finished d w.slot bytes blocks) (with_use uses ch Idle) (λ m. m == w.slot))

-- THE REPLACEMENT IS CLOSED: its slot has the channel's bytes in place of the old file, whose blocks are free, and the channel is idle.
abbrev pub FinishesReplacing : Result (Unit {0}) Trouble → Seen → Seen → Filling → Type 0
FinishesReplacing result old new w =
    OfWriter old w (λ d uses ch bytes blocks. w.replaces ≡ true →
    IsChange result old new d (with_replaced d w.slot bytes blocks) (with_use uses ch Idle) (λ m. m == w.slot))

-- WHAT IS WRITTEN IS GIVEN UP: its blocks are free again, all else of the disk is as it was, and the channel is idle.
abbrev pub GivesUpWriting : Result (Unit {0}) Trouble → Seen → Seen → Filling → Type 0
GivesUpWriting result old new w =
    OfWriter old w (λ d uses ch bytes blocks. IsCall result old new
    (λ x. HoldsNow old.tracks new.content (record d { free = d.free + blocks }) (with_use uses ch Idle))
    (Stopped old.tracks new.content d d (with_use uses ch Idle)) (λ m. false))

-- A BYTE IS STORED ON ANY DISK by a writer whose block is one of files: the writer has it as its last one; or the map reads, no block is free,
-- and nothing has changed.
abbrev pub StoresLed : Result Bool Trouble → Seen → Seen → State → ℕ → State → Type 0
StoresLed result old new s byte t =
    IsForFiles s.tracks s.current → IfOk result (λ done. MatchBool done (Puts old.content new.content s byte t) (IsFullFor old.content new.content s t))
