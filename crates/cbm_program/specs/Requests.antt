-- What a line asks for.
use Rattle.std.specs.Prelude.{ℕ, List, [], ◌∷◌, codes, ◌==◌, Option, Some, None, option_map, option_and_then, if◌then◌else◌}
use Rattle.std.specs.Str.{bytes_eq}
use Rattle.cbm_program.specs.Texts.{text_of}
use Rattle.bus_traces.specs.Words.{first_word, after_word}
use Rattle.cbm_program.specs.Words.{channel_number, count_of, hex_byte}
use Rattle.cbm_program.specs.declared.request.ScriptRequest.{ScriptRequest}
use Rattle.cbm_program.specs.declared.request.ScriptRequest.TheVariants.{Open, Put, Fill, Get, Close, Status}
use Rattle.cbm_program.specs.declared.line.ScriptLine.{ScriptLine}
use Rattle.cbm_program.specs.declared.line.ScriptLine.TheVariants.{Skipped, Asks}

-- the text of an open or a put, which may be missing with its space
abbrev pub text_after : Option (List ℕ) → Option (List ℕ)
text_after None = Some []
text_after (Some text) = text_of text

-- a fill of a count and a byte, where both are right
abbrev pub fill_with : ℕ → Option ℕ → Option ℕ → Option ScriptRequest
fill_with channel (Some count) (Some byte) = Some (Fill channel count byte)
fill_with channel _ _ = None

-- a fill asks for a count and a byte
abbrev pub fill_of : ℕ → Option (List ℕ) → Option ScriptRequest
fill_of channel None = None
fill_of channel (Some words) = fill_with channel (count_of (first_word words)) (option_and_then hex_byte (after_word words))

-- a get asks for a count
abbrev pub get_of : ℕ → Option (List ℕ) → Option ScriptRequest
get_of channel None = None
get_of channel (Some word) = option_map (λ count. Get channel count) (count_of word)

-- a close asks for nothing more
abbrev pub close_of : ℕ → Option (List ℕ) → Option ScriptRequest
close_of channel None = Some (Close channel)
close_of channel (Some _) = None

-- a status asks for nothing more
abbrev pub status_of : Option (List ℕ) → Option ScriptRequest
status_of None = Some Status
status_of (Some _) = None

-- what a request's first word asks of a channel
abbrev pub asked_of : List ℕ → ℕ → Option (List ℕ) → Option ScriptRequest
asked_of verb channel rest =
    if bytes_eq verb (codes "open") then option_map (λ text. Open channel (record { items = text })) (text_after rest)
    else if bytes_eq verb (codes "put") then option_map (λ text. Put channel (record { items = text })) (text_after rest)
    else if bytes_eq verb (codes "fill") then fill_of channel rest
    else if bytes_eq verb (codes "get") then get_of channel rest
    else if bytes_eq verb (codes "close") then close_of channel rest
    else None

-- what a request's first word asks of the channel that follows it
abbrev pub channel_asked : List ℕ → Option (List ℕ) → Option ScriptRequest
channel_asked verb None = None
channel_asked verb (Some words) = option_and_then (λ channel. asked_of verb channel (after_word words)) (channel_number (first_word words))

-- the request of a line, None where it is refused
abbrev pub request_of : List ℕ → Option ScriptRequest
request_of bytes =
    if bytes_eq (first_word bytes) (codes "status") then status_of (after_word bytes)
    else channel_asked (first_word bytes) (after_word bytes)

-- what a line is, None where it is refused
abbrev pub line_of : List ℕ → Option ScriptLine
line_of [] = Some Skipped
line_of (b ∷ bytes) = if b == 59 then Some Skipped else option_map Asks (request_of (b ∷ bytes))
