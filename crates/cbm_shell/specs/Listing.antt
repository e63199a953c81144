-- The directory as readable text.
use Rattle.std.specs.Prelude.{ℕ, ◌≡◌, ◌≢◌, List, [], ◌∷◌, ◌++◌, codes}
use Rattle.cbm_machine.specs.Machines.{Machine}
use Rattle.cbm_machine.specs.Codes.{code_number}
use Rattle.cbm_machine.specs.Calls.{after_open}
use Rattle.cbm_talk.specs.Talks.{talked}
use Rattle.cbm_shell.specs.declared.texts.petscii.Charset.{Charset}
use Rattle.cbm_shell.specs.declared.fault.ShellFault.{ShellFault}
use Rattle.cbm_shell.specs.declared.fault.ShellFault.TheVariants as fault
use Rattle.cbm_shell.specs.Readable.{readable}

-- what an OPEN of the directory says; without a pattern all files are meant
abbrev pub list_text : List ℕ → List ℕ
list_text [] = codes "$"
list_text (c ∷ pattern) = codes "$0:" ++ (c ∷ pattern)

-- the machine after that OPEN
abbrev pub opened : List ℕ → Machine → Machine
opened pattern m = after_open 0 (list_text pattern) m

-- the machine after it has sent the directory
abbrev pub listed : List ℕ → Machine → Machine
listed pattern m = (talked 0 5000 (opened pattern m)).machine

-- what the machine then sends: a listing has at most 4,672 bytes
unfoldable pub listing_sent : Machine → List ℕ
listing_sent m = (talked 0 5000 m).bytes

-- The OPEN isn't refused, and these are the bytes that the machine sends.
pub record IsSent (pattern : List ℕ) (m : Machine) (bytes : List ℕ) : Type 0 where
  pub fine : code_number (opened pattern m).status.code ≡ 0
  pub same : bytes ≡ listing_sent (opened pattern m)

-- The OPEN isn't refused, and these are the lines that the machine sends, made readable in a character set.
pub record IsListing (charset : Charset) (pattern : List ℕ) (m : Machine) (lines : List ℕ) : Type 0 where
  pub fine : code_number (opened pattern m).status.code ≡ 0
  pub same : lines ≡ readable charset (listing_sent (opened pattern m))

-- The machine refused the OPEN with this status, or memory ran out.
abbrev pub IsUnlisted : List ℕ → Machine → ShellFault → Type 0
IsUnlisted pattern m (fault.Refused s) = (s ≡ (opened pattern m).status) × (code_number s.code ≢ 0)
IsUnlisted pattern m fault.Memory = Unit {0}
IsUnlisted pattern m (fault.Image n) = ⊥
IsUnlisted pattern m (fault.Unsound u) = ⊥
IsUnlisted pattern m (fault.Trouble t) = ⊥
IsUnlisted pattern m fault.NotFound = ⊥
IsUnlisted pattern m fault.NotClosed = ⊥
IsUnlisted pattern m fault.Mistaken = ⊥
