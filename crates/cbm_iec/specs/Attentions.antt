-- The bytes in attention.
use Rattle.std.specs.Prelude.{ℕ}

-- LISTEN, to be joined with a device number: $20
abbrev pub listen : ℕ
listen = 32

-- UNLISTEN, to all drives: $3F
abbrev pub unlisten : ℕ
unlisten = 63

-- TALK, to be joined with a device number: $40
abbrev pub talk : ℕ
talk = 64

-- UNTALK, to all drives: $5F
abbrev pub untalk : ℕ
untalk = 95

-- the secondary address for bytes, to be joined with a channel: $60
abbrev pub data_on : ℕ
data_on = 96

-- the secondary address of CLOSE, to be joined with a channel: $E0
abbrev pub close_on : ℕ
close_on = 224

-- the secondary address of OPEN, to be joined with a channel: $F0
abbrev pub open_on : ℕ
open_on = 240
