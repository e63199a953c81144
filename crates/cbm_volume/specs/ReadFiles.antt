-- A file of bytes is read from its first byte to its last.
use Rattle.std.specs.Prelude.{ℕ, ◌≡◌, List, None, drop, Result, IsOk, IfOk, IsOkAnd}
use Rattle.cbm_medium.specs.Seen.{Seen}
use Rattle.cbm_medium.specs.declared.fault.Trouble.{Trouble}
use Rattle.cbm_file.specs.Files.{Disk}
use Rattle.cbm_chain.specs.Reading.{Reading, rest_of}
use Rattle.cbm_volume.specs.Holding.{HoldsDisk, EntryStandsAt, HasBytes}
use Rattle.cbm_volume.specs.Opens.{IsUnwritten}
use Rattle.cbm_volume.specs.Writers.{Use, Reads, HoldsNow, with_use}

-- THE READER GIVES THE BYTES OF THE FILE: all of them, and nothing breaks them off, where the entry stands in the directory of a disk that
-- the medium holds and its slot has a closed file of bytes.
abbrev pub IsReadWhole : Result Reading Trouble → Seen → List ℕ → Type 0
IsReadWhole result now entry = (d : Disk) (n : ℕ) (bytes : List ℕ) → HoldsDisk now.tracks now.content d → EntryStandsAt now.tracks now.content n entry → HasBytes d n bytes
    → IsOkAnd result (λ r. rest_of now.content r ≡ record { bytes = bytes; trouble = None })

-- A CHANNEL BEGINS TO READ such a file, which no channel writes: the medium holds the disk, and the channel has all the bytes left.
abbrev pub BeginsReading : Result Reading Trouble → Seen → List ℕ → Type 0
BeginsReading result now entry = (d : Disk) (uses : ℕ → Use) (ch n : ℕ) (bytes : List ℕ) → HoldsNow now.tracks now.content d uses → EntryStandsAt now.tracks now.content n entry → HasBytes d n bytes
    → IsUnwritten uses n → IfOk result (λ r. HoldsNow now.tracks now.content d (with_use uses ch (Reads n r bytes)))

-- A CHANNEL READS ON without trouble: the medium holds the disk, and the channel has the bytes after the first one left.
abbrev pub ReadsFurther : Result (Unit {0}) Trouble → Seen → Reading → Reading → Type 0
ReadsFurther result now old new = (d : Disk) (uses : ℕ → Use) (ch n : ℕ) (left : List ℕ) → HoldsNow now.tracks now.content d uses → uses ch ≡ Reads n old left
    → IsOk result × HoldsNow now.tracks now.content d (with_use uses ch (Reads n new (drop 1 left)))
