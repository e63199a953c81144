-- The words of a line of a script, and the numbers in them.
use Rattle.bus_traces.specs.Words.{is_between, trace_number, number_upto}
use Rattle.std.specs.Prelude.{ℕ, ◌+◌, ◌*◌, List, [], ◌∷◌, ◌&&◌, Option, Some, None, option_and_then, if◌then◌else◌}
use Rattle.cbm_program.specs.Texts.{is_hex, hex_value}

-- the number, if it lies between these
abbrev pub number_within : ℕ → ℕ → List ℕ → Option ℕ
number_within low high word = option_and_then (λ n. if is_between low high n then Some n else None) (trace_number word)

-- the channel of a word, 0 to 15
abbrev pub channel_number : List ℕ → Option ℕ
channel_number word = number_within 0 15 word

-- the count of a word, 1 to 200,000
abbrev pub count_of : List ℕ → Option ℕ
count_of word = number_within 1 200000 word

-- a moment in microseconds
abbrev pub moment_number : List ℕ → Option ℕ
moment_number word = number_upto 1000000000000000 word

-- two lower case hexadecimal digits
abbrev pub hex_byte : List ℕ → Option ℕ
hex_byte (high ∷ low ∷ []) = if is_hex high && is_hex low then Some (16 * hex_value high + hex_value low) else None
hex_byte _ = None
