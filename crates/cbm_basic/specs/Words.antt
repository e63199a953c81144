-- The words of BASIC 2.0.
use Rattle.std.specs.Prelude.{ℕ, ◌-◌, nat_lt, ◌&&◌, not, if◌then◌else◌, List, [], Option, Some, None, slice_index_or}
use Rattle.cbm_basic.specs.declared.words.TheConstants.{WORDS}

-- the tokens of words are 128 ($80, END) to 203 ($CB, GO)
abbrev pub word_row : ℕ → Option (List ℕ)
word_row token = if not (nat_lt token 128) && nat_lt token 204 then Some (slice_index_or WORDS (token - 128) []) else None
