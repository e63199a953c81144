-- What a disk holds: for each sector its bytes, or the fault that stands in their place.
use Rattle.std.specs.Prelude.{ℕ, List, Bool, true, false, Option, Some, None, Result, Ok, Err, ◌==◌, ◌||◌, if◌then◌else◌, replicate, length, ◌≡◌}
use Rattle.cbm_medium.specs.Place.{Place, is_place}

-- a sector's 256 bytes, or the code of the fault that stands in their place
abbrev pub Cell : Type 0
Cell = Result (List ℕ) ℕ

-- a sector that reads has 256 bytes
abbrev pub IsWhole : Cell → Type 0
IsWhole (Ok bytes) = length bytes ≡ 256
IsWhole (Err code) = Unit {0}

-- the codes of the faults that reading a sector meets: 20 to 24, 27 and 29; 25, 26 and 28 are answers to a write
abbrev pub is_fault_code : ℕ → Bool
is_fault_code code =
    (code == 20) || ((code == 21) || ((code == 22) || ((code == 23) || ((code == 24) || ((code == 27) || (code == 29))))))

-- in place of a sector's bytes stands one of these codes
abbrev pub HasFaultCode : Cell → Type 0
HasFaultCode (Ok bytes) = Unit {0}
HasFaultCode (Err code) = is_fault_code code ≡ true

-- what each sector holds
abbrev pub Content : Type 0
Content = Place → Cell

-- the content after these bytes are written at a place
abbrev pub written : Content → Place → List ℕ → Content
written content at bytes p = if is_place at p then Ok bytes else content p

-- 256 zeros everywhere
abbrev pub blank : Content
blank p = Ok (replicate 256 0)

-- a fault of the sector's header, which refuses a write too
abbrev pub is_header_fault : ℕ → Bool
is_header_fault code = (code == 20) || ((code == 21) || ((code == 27) || (code == 29)))

-- the code that refuses a write to a cell by itself; a data fault is mended by the write
abbrev pub header_fault : Cell → Option ℕ
header_fault (Ok bytes) = None
header_fault (Err code) = if is_header_fault code then Some code else None

-- the code that refuses a write where the medium has no failure of its own: protection comes first
abbrev pub refusal : Bool → Cell → Option ℕ
refusal true cell = Some 26
refusal false cell = header_fault cell

-- the same of a format, which no fault of a sector refuses
abbrev pub format_refusal : Bool → Option ℕ
format_refusal true = Some 26
format_refusal false = None
