-- A get as it is printed: a byte at a time.
use Rattle.std.specs.Prelude.{ℕ, ◌≡◌, List, [], ◌++◌, codes, decimal, flat_map, Bool, true, false, Option, Some, None}
use Rattle.std.specs.Io.KnownBytes.{Appends}
use Rattle.cbm_program.specs.Output.{AppendsPart}
use Rattle.cbm_talk.specs.Talks.{TalkSaid}
use Rattle.cbm_program.specs.Scripts.{hex, eoi_mark}

-- what is printed of a byte
abbrev pub unit_text : Option (ℕ × Bool) → List ℕ
unit_text None = []
unit_text (Some (b, true)) = hex b ++ codes " eoi"
unit_text (Some (b, false)) = hex b

-- and of all bytes so far
abbrev pub said_text : List ℕ → Bool → List ℕ
said_text bytes marked = flat_map hex bytes ++ eoi_mark marked

-- the beginning of a get's line
abbrev pub get_head : ℕ → List ℕ → List ℕ
get_head ch tail = codes "get " ++ decimal ch ++ tail

-- After these bytes all others of what was said were written,
pub record PrintsRest (a b : Option (List ℕ)) (bytes : List ℕ) (last : Bool) (said : TalkSaid) : Type 0 where
  pub rest : List ℕ
  pub whole : said_text said.bytes said.marked ≡ said_text bytes last ++ rest
  pub written : Appends a b rest

-- or a beginning of them.
pub record PrintsRestPart (a b : Option (List ℕ)) (bytes : List ℕ) (last : Bool) (said : TalkSaid) : Type 0 where
  pub rest : List ℕ
  pub whole : said_text said.bytes said.marked ≡ said_text bytes last ++ rest
  pub written : AppendsPart a b rest
