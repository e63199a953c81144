-- The code that has a number, where one has it.
use Rattle.std.specs.Prelude.{ℕ, ◌==◌, if◌then◌else◌, Option, Some, None}
use Rattle.cbm_machine.specs.declared.code.Code.{Code}
use Rattle.cbm_machine.specs.declared.code.Code.TheVariants.{Fine, FilesScratched, NoHeader, NoSync, NoData, DataChecksum, DataCode, WriteFailed, WriteProtected, HeaderChecksum, LongData, WrongId, Syntax, UnknownCommand, LongText, WildName, NoName, NoRecord, RecordOverflow, FileTooLarge, WriteFileOpen, FileNotOpen, FileNotFound, FileExists, WrongType, NoBlock, WrongLink, NoChannel, EndlessChain, DiskFull, PowerUp, DriveNotReady}

-- the code of a number; no other number has one
abbrev pub code_with : ℕ → Option Code
code_with n =
    if n == 0 then Some Fine else
    if n == 1 then Some FilesScratched else
    if n == 20 then Some NoHeader else
    if n == 21 then Some NoSync else
    if n == 22 then Some NoData else
    if n == 23 then Some DataChecksum else
    if n == 24 then Some DataCode else
    if n == 25 then Some WriteFailed else
    if n == 26 then Some WriteProtected else
    if n == 27 then Some HeaderChecksum else
    if n == 28 then Some LongData else
    if n == 29 then Some WrongId else
    if n == 30 then Some Syntax else
    if n == 31 then Some UnknownCommand else
    if n == 32 then Some LongText else
    if n == 33 then Some WildName else
    if n == 34 then Some NoName else
    if n == 50 then Some NoRecord else
    if n == 51 then Some RecordOverflow else
    if n == 52 then Some FileTooLarge else
    if n == 60 then Some WriteFileOpen else
    if n == 61 then Some FileNotOpen else
    if n == 62 then Some FileNotFound else
    if n == 63 then Some FileExists else
    if n == 64 then Some WrongType else
    if n == 65 then Some NoBlock else
    if n == 66 then Some WrongLink else
    if n == 70 then Some NoChannel else
    if n == 71 then Some EndlessChain else
    if n == 72 then Some DiskFull else
    if n == 73 then Some PowerUp else
    if n == 74 then Some DriveNotReady else
    None
