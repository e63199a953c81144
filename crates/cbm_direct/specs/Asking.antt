-- What the texts of direct access ask for (Commodore 1541 User's Guide; Immers and Neufeld, Inside Commodore DOS).
use Rattle.cbm_command.specs.Commands.{command_of}
use Rattle.cbm_command.specs.declared.command.Command.{Command}
use Rattle.cbm_command.specs.declared.command.Command.TheVariants.{New, Validate}
use Rattle.cbm_command.specs.declared.refusal.Refusal.{Refusal}
use Rattle.cbm_machine.specs.Calls.{without_return}
use Rattle.std.specs.Prelude.{ℕ, ◌+◌, ◌-◌, ◌*◌, ◌==◌, ◌&&◌, ◌||◌, nat_lt, nat_le, min, max, Bool, true, false, List, [], ◌∷◌, drop, length, slice_index_or, Option, Some, None, Result, Ok, if◌then◌else◌}
use Rattle.cbm_direct.specs.declared.asked.Block.{Block}
use Rattle.cbm_direct.specs.declared.asked.Sector.{Sector}
use Rattle.cbm_direct.specs.declared.asked.Asked.{Asked}
use Rattle.cbm_direct.specs.declared.asked.Asked.TheVariants.{Read, ReadCounted, Write, WriteCounted, Allocate, Free, Seek, Memory, Restart, Nothing, Held, Denied, Unread}
use Rattle.cbm_direct.specs.declared.wanted.Wanted.{Wanted}
use Rattle.cbm_direct.specs.declared.wanted.Wanted.TheVariants as wanted

-- what may stand before a number: a space, a comma, or a cursor right
abbrev pub is_gap : ℕ → Bool
is_gap c = (c == 32) || (c == 44) || (c == 29)

-- a digit 0 to 9
abbrev pub is_figure : ℕ → Bool
is_figure c = nat_le 48 c && nat_le c 57

-- the text behind what may stand before a number
abbrev pub without_gap : List ℕ → List ℕ
without_gap [] = []
without_gap (c ∷ text) = if is_gap c then without_gap text else c ∷ text

-- the number that the first digits spell behind these, of which what is above 255 counts as 256
abbrev pub figures_spelled : ℕ → List ℕ → ℕ
figures_spelled n [] = n
figures_spelled n (c ∷ text) = if is_figure c then figures_spelled (min 256 (10 * n + (c - 48))) text else n

-- the text behind its first digits
abbrev pub without_figures : List ℕ → List ℕ
without_figures [] = []
without_figures (c ∷ text) = if is_figure c then without_figures text else c ∷ text

-- whether a text begins with a number of at most 255
abbrev pub begins_with_number : List ℕ → Bool
begins_with_number [] = false
begins_with_number (c ∷ text) = is_figure c && nat_lt (figures_spelled 0 (c ∷ text)) 256

-- THE FIRST NUMBER of a text, from 0 to 255: what may stand before it, and at least one digit
abbrev pub first_number : List ℕ → Option ℕ
first_number text = if begins_with_number (without_gap text) then Some (figures_spelled 0 (without_gap text)) else None

-- the text behind its first number
abbrev pub behind_number : List ℕ → List ℕ
behind_number text = without_figures (without_gap text)

-- the text behind the first such byte; none if it doesn't stand there
abbrev pub behind_byte : ℕ → List ℕ → Option (List ℕ)
behind_byte c [] = None
behind_byte c (x ∷ text) = if x == c then Some text else behind_byte c text

-- where the numbers of a command begin: behind its first colon, or if it has none behind this many bytes
abbrev pub numbers_behind : Option (List ℕ) → ℕ → List ℕ → List ℕ
numbers_behind None n text = drop n text
numbers_behind (Some rest) n text = rest

-- the same of a whole text
abbrev pub numbers_of : ℕ → List ℕ → List ℕ
numbers_of n text = numbers_behind (behind_byte 58 text) n text

-- the four numbers of a command on a sector: channel, drive, track and sector
abbrev pub block_from : Option ℕ → Option ℕ → Option ℕ → Option ℕ → Option Block
block_from (Some channel) (Some drive) (Some track) (Some sector) = Some (record { channel = channel; drive = drive; track = track; sector = sector })
block_from _ _ _ _ = None

-- the same in a text
abbrev pub block_in : List ℕ → Option Block
block_in text =
    let second = behind_number text in
    let third = behind_number second in
    block_from (first_number text) (first_number second) (first_number third) (first_number (behind_number third))

-- a command on a sector, or that its numbers can't be read
abbrev pub on_block : (Block → Asked) → Option Block → Asked
on_block f None = Unread
on_block f (Some block) = f block

-- the three numbers of a command on a sector without a channel: drive, track and sector
abbrev pub sector_from : Option ℕ → Option ℕ → Option ℕ → Option Sector
sector_from (Some drive) (Some track) (Some sector) = Some (record { drive = drive; track = track; sector = sector })
sector_from _ _ _ = None

-- the same in a text
abbrev pub sector_in : List ℕ → Option Sector
sector_in text = let second = behind_number text in sector_from (first_number text) (first_number second) (first_number (behind_number second))

-- such a command, or that its numbers can't be read
abbrev pub on_sector : (Sector → Asked) → Option Sector → Asked
on_sector f None = Unread
on_sector f (Some sector) = f sector

-- B-P's two numbers: a channel and a place
abbrev pub place_from : Option ℕ → Option ℕ → Asked
place_from (Some channel) (Some place) = Seek channel place
place_from _ _ = Unread

-- UI and U9 start again, but with a plus or a minus behind them they do nothing
abbrev pub start_asked : List ℕ → Asked
start_asked text = if (slice_index_or text 0 0 == 43) || (slice_index_or text 0 0 == 45) then Nothing else Restart

-- U and a letter, with what follows: U1 and UA read, U2 and UB write, UI, U9, UJ and U: start again, but UI+ and UI- do nothing
abbrev pub user_asked : ℕ → List ℕ → Option Asked
user_asked c rest =
    if (c == 49) || (c == 65) then Some (on_block Read (block_in (numbers_of 1 rest)))
    else if (c == 50) || (c == 66) then Some (on_block Write (block_in (numbers_of 1 rest)))
    else if (c == 74) || (c == 58) then Some Restart
    else if (c == 73) || (c == 57) then Some (start_asked rest)
    else None

-- behind the U
abbrev pub user_text : List ℕ → Option Asked
user_text [] = None
user_text (c ∷ rest) = user_asked c rest

-- B, and the letter behind its first dash
abbrev pub block_asked : List ℕ → List ℕ → Option Asked
block_asked text [] = None
block_asked text (c ∷ rest) =
    if c == 82 then Some (on_block ReadCounted (block_in (numbers_of 2 text)))
    else if c == 87 then Some (on_block WriteCounted (block_in (numbers_of 2 text)))
    else if c == 65 then Some (on_sector Allocate (sector_in (numbers_of 2 text)))
    else if c == 70 then Some (on_sector Free (sector_in (numbers_of 2 text)))
    else if c == 80 then Some (place_from (first_number (numbers_of 2 text)) (first_number (behind_number (numbers_of 2 text))))
    else None

-- B without a dash is nothing that direct access knows
abbrev pub block_letter : List ℕ → Option (List ℕ) → Option Asked
block_letter text None = None
block_letter text (Some rest) = block_asked text rest

-- an address, low byte first, and a count that is 1 if it is missing or 0
abbrev pub memory_read : List ℕ → Asked
memory_read (low ∷ high ∷ rest) = Memory (low + 256 * high) (max 1 (slice_index_or rest 0 0))
memory_read _ = Unread

-- M-R and what it reads
abbrev pub memory_asked : List ℕ → Option Asked
memory_asked (dash ∷ letter ∷ rest) = if (dash == 45) && (letter == 82) then Some (memory_read rest) else None
memory_asked _ = None

-- WHAT THE TEXT OF A COMMAND ASKS of direct access; none if it is the DOS's.
abbrev pub asked_in : List ℕ → Option Asked
asked_in [] = None
asked_in (c ∷ text) =
    if c == 66 then block_letter text (behind_byte 45 text)
    else if c == 77 then memory_asked text
    else if c == 85 then user_text text
    else None

-- which buffer the text of an OPEN wants
abbrev pub buffer_wanted : List ℕ → Option Wanted
buffer_wanted [] = None
buffer_wanted (c ∷ []) = if c == 35 then Some wanted.Any else None
buffer_wanted (c ∷ d ∷ []) = if c == 35 then Some (if is_figure d then wanted.Number (d - 48) else wanted.Unread) else None
buffer_wanted (c ∷ d ∷ e ∷ rest) = if c == 35 then Some wanted.Unread else None

-- whether a command is about the whole disk: N and V
abbrev pub is_of_whole_disk : Result Command Refusal → Bool
is_of_whole_disk (Ok (New title id)) = true
is_of_whole_disk (Ok Validate) = true
is_of_whole_disk _ = false

-- whether a command is V
abbrev pub asks_validate : Result Command Refusal → Bool
asks_validate (Ok Validate) = true
asks_validate _ = false

-- What the text of a command asks of direct access on a drive that keeps a disk of GEOS or not, while so many channels have buffers, without one
-- return at its end: nothing if it has more than 58 bytes; N and V are held back if a channel has a buffer, and V is denied on a disk of GEOS.
abbrev pub command_asked : Bool → ℕ → List ℕ → Option Asked
command_asked keeps buffers text =
    if nat_lt 58 (length (without_return text)) then None
    else if nat_lt 0 buffers && is_of_whole_disk (command_of (without_return text)) then Some Held
    else if asks_validate (command_of (without_return text)) && keeps then Some Denied
    else asked_in (without_return text)
