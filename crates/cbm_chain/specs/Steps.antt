-- A writer that needs a block: what becomes of it, and why it is refused.
use Rattle.std.specs.Prelude.{ℕ, ◌≡◌, ◌⊎◌, Bool, true, Option, Some, Result, IfOk, IfErr, OnErr, MatchBool, MatchOption}
use Rattle.cbm_medium.specs.Place.{Place}
use Rattle.cbm_medium.specs.Seen.{Seen, write_refusal, HasFailed}
use Rattle.cbm_medium.specs.declared.fault.Trouble.{Trouble}
use Rattle.cbm_bam.specs.Map.{map_of}
use Rattle.cbm_chain.specs.Writing.{State, IsForFiles, GoesOnWriting, IsFullFor, IsWriteStopped, IsRefusedFor, free_after}

-- a writer that fills a block of files, or none, goes on to one of its own, or no block is free
abbrev pub GoesOnIfFree : Result Bool Trouble → Seen → Seen → Option Place → State → State → Type 0
GoesOnIfFree result old new current s t =
    IsForFiles s.tracks current → IfOk result (λ gone. MatchBool gone (GoesOnWriting old.content new.content current s t) (IsFullFor old.content new.content s t))

-- the block that it goes on to is the first that is free in the order of search
abbrev pub IsNextFree : Result Bool Trouble → Seen → Option Place → State → State → Type 0
IsNextFree result old current s t = IfOk result (λ gone. gone ≡ true → t.current ≡ free_after s.tracks (map_of old.content) current)

-- where it is refused a block, the content is as it was, or a block was claimed that is nobody's
abbrev pub StopsFor : Result Bool Trouble → Seen → Seen → ℕ → Option Place → Type 0
StopsFor result old new tracks current = IsForFiles tracks current → OnErr result (IsWriteStopped tracks old.content new.content)

-- where it is refused a block, the map refuses it, or the block that is full
abbrev pub IsHeldUp : Result Bool Trouble → Seen → Seen → ℕ → Option Place → Type 0
IsHeldUp result old new tracks current = IsForFiles tracks current → IfErr result (λ t. IsRefusedFor old new current t.code)

-- where a writer's last block is refused, it refuses a write, or the medium failed; without a block nothing is refused
abbrev pub IsEndRefused : Seen → Seen → Option Place → ℕ → Type 0
IsEndRefused old new current code = MatchOption current ⊥ (λ p. (write_refusal old p ≡ Some code) ⊎ HasFailed old new)
