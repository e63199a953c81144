-- The codes of a status: their numbers, and their texts.
use Rattle.std.specs.Prelude.{ℕ, ◌≡◌, ◌==◌, List, codes, if◌then◌else◌}
use Rattle.cbm_command.specs.declared.refusal.Refusal.{Refusal}
use Rattle.cbm_command.specs.declared.refusal.Refusal.TheVariants as refusal
use Rattle.cbm_machine.specs.declared.code.Code.{Code}
use Rattle.cbm_machine.specs.declared.code.Code.TheVariants.{Fine, FilesScratched, NoHeader, NoSync, NoData, DataChecksum, DataCode, WriteFailed, WriteProtected, HeaderChecksum, LongData, WrongId, Syntax, UnknownCommand, LongText, WildName, NoName, NoRecord, RecordOverflow, FileTooLarge, WriteFileOpen, FileNotOpen, FileNotFound, FileExists, WrongType, NoBlock, WrongLink, NoChannel, EndlessChain, DiskFull, PowerUp, DriveNotReady}

-- the number of a code
abbrev pub code_number : Code → ℕ
code_number Fine = 0
code_number FilesScratched = 1
code_number NoHeader = 20
code_number NoSync = 21
code_number NoData = 22
code_number DataChecksum = 23
code_number DataCode = 24
code_number WriteFailed = 25
code_number WriteProtected = 26
code_number HeaderChecksum = 27
code_number LongData = 28
code_number WrongId = 29
code_number Syntax = 30
code_number UnknownCommand = 31
code_number LongText = 32
code_number WildName = 33
code_number NoName = 34
code_number NoRecord = 50
code_number RecordOverflow = 51
code_number FileTooLarge = 52
code_number WriteFileOpen = 60
code_number FileNotOpen = 61
code_number FileNotFound = 62
code_number FileExists = 63
code_number WrongType = 64
code_number NoBlock = 65
code_number WrongLink = 66
code_number NoChannel = 70
code_number EndlessChain = 71
code_number DiskFull = 72
code_number PowerUp = 73
code_number DriveNotReady = 74

-- the text of a code
abbrev pub code_text : Code → List ℕ
code_text Fine = codes " OK"
code_text FilesScratched = codes " FILES SCRATCHED"
code_text NoHeader = codes "READ ERROR"
code_text NoSync = codes "READ ERROR"
code_text NoData = codes "READ ERROR"
code_text DataChecksum = codes "READ ERROR"
code_text DataCode = codes "READ ERROR"
code_text WriteFailed = codes "WRITE ERROR"
code_text WriteProtected = codes "WRITE PROTECT ON"
code_text HeaderChecksum = codes "READ ERROR"
code_text LongData = codes "WRITE ERROR"
code_text WrongId = codes "DISK ID MISMATCH"
code_text Syntax = codes "SYNTAX ERROR"
code_text UnknownCommand = codes "SYNTAX ERROR"
code_text LongText = codes "SYNTAX ERROR"
code_text WildName = codes "SYNTAX ERROR"
code_text NoName = codes "SYNTAX ERROR"
code_text NoRecord = codes "RECORD NOT PRESENT"
code_text RecordOverflow = codes "OVERFLOW IN RECORD"
code_text FileTooLarge = codes "FILE TOO LARGE"
code_text WriteFileOpen = codes "WRITE FILE OPEN"
code_text FileNotOpen = codes "FILE NOT OPEN"
code_text FileNotFound = codes "FILE NOT FOUND"
code_text FileExists = codes "FILE EXISTS"
code_text WrongType = codes "FILE TYPE MISMATCH"
code_text NoBlock = codes "NO BLOCK"
code_text WrongLink = codes "ILLEGAL TRACK OR SECTOR"
code_text NoChannel = codes "NO CHANNEL"
code_text EndlessChain = codes "DIR ERROR"
code_text DiskFull = codes "DISK FULL"
code_text PowerUp = codes "CBM DOS V2.6 1541"
code_text DriveNotReady = codes "DRIVE NOT READY"

-- a text's refusal as a code of the same number
abbrev pub code_of_refusal : Refusal → Code
code_of_refusal refusal.Syntax = Syntax
code_of_refusal refusal.UnknownCommand = UnknownCommand
code_of_refusal refusal.LongText = LongText
code_of_refusal refusal.WildName = WildName
code_of_refusal refusal.NoName = NoName
code_of_refusal refusal.NoChannel = NoChannel
code_of_refusal refusal.DriveNotReady = DriveNotReady

-- the code that represents a refusal
abbrev pub refusal_gives : Refusal → Code → Type 0
refusal_gives r c = c ≡ code_of_refusal r

-- The code that reports a fault of a sector (20 to 29), a link to no sector (66) or a chain that never ends (71).
-- Only a write that a medium refuses by a failure of its own can have another number, which is reported as 25.
abbrev pub code_of_fault : ℕ → Code
code_of_fault n =
    if n == 20 then NoHeader else
    if n == 21 then NoSync else
    if n == 22 then NoData else
    if n == 23 then DataChecksum else
    if n == 24 then DataCode else
    if n == 25 then WriteFailed else
    if n == 26 then WriteProtected else
    if n == 27 then HeaderChecksum else
    if n == 28 then LongData else
    if n == 29 then WrongId else
    if n == 66 then WrongLink else
    if n == 71 then EndlessChain else WriteFailed
