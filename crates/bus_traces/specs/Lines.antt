-- What bytes are as lines.
use Rattle.std.specs.Prelude.{◌≡◌, ℕ, ◌+◌, ◌<◌, List, [], ◌∷◌, ◌++◌, length, drop, ◌==◌, if◌then◌else◌, ⊤, Option, Some, None, slice_range}
use Rattle.std.specs.Io.KnownBytes.{prepend_known, Keeps, IsAtEnd, Consumes}
use Rattle.bus_traces.specs.declared.text.source.Source.{Source}

-- a byte in front of the first line
abbrev pub onto_first : ℕ → List (List ℕ) → List (List ℕ)
onto_first b [] = (b ∷ []) ∷ []
onto_first b (line ∷ lines) = (b ∷ line) ∷ lines

-- the lines of a text, each ended by byte 10, which the last may lack
abbrev pub lines_of : List ℕ → List (List ℕ)
lines_of [] = []
lines_of (b ∷ bytes) = if b == 10 then [] ∷ lines_of bytes else onto_first b (lines_of bytes)

-- the bytes that weren't taken yet, where the reader's are known
abbrev pub source_bytes_left : {R : Type 0} → (R → Option (List ℕ)) → Source R → Option (List ℕ)
source_bytes_left remaining source = prepend_known (slice_range source.block source.start source.end) (remaining source.reader)

-- the next byte was taken, or none is left
abbrev pub TakesByte : Option (List ℕ) → Option (List ℕ) → Option ℕ → Type 0
TakesByte old new None = Keeps old new × IsAtEnd new
TakesByte old new (Some b) = Consumes old new (b ∷ [])

-- the first line was taken
abbrev pub TakesLine : Option (List ℕ) → Option (List ℕ) → List ℕ → Type 0
TakesLine None new line = ⊤
TakesLine (Some xs) None line = ⊥
TakesLine (Some xs) (Some ys) line = lines_of xs ≡ line ∷ lines_of ys

-- a line stands first, and its end after it, whatever follows the bytes
abbrev pub BeginsWithLine : List ℕ → List ℕ → Type 0
BeginsWithLine bytes line = (length line < length bytes) × ((more : List ℕ) → lines_of (bytes ++ more) ≡ line ∷ lines_of (drop (length line + 1) bytes ++ more))

-- the first line has more than 1,000 bytes
abbrev pub BeginsTooLong : Option (List ℕ) → Type 0
BeginsTooLong None = ⊤
BeginsTooLong (Some xs) = (line : List ℕ) × (lines : List (List ℕ)) × (lines_of xs ≡ line ∷ lines) × (1000 < length line)
