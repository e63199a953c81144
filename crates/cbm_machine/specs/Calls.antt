-- The calls that take bytes or a text.
use Rattle.std.specs.Prelude.{ℕ, ◌==◌, Bool, true, false, ◌||◌, List, [], ◌∷◌, ◌++◌, if◌then◌else◌, Option, Some, None}
use Rattle.cbm_command.specs.Refusals.{◌>>=◌}
use Rattle.cbm_command.specs.Commands.{command_of}
use Rattle.cbm_machine.specs.Statuses.{return}
use Rattle.cbm_machine.specs.Machines.{Channel, Relative, Machine, answered, channel}
use Rattle.cbm_machine.specs.Records.{write_record}
use Rattle.cbm_machine.specs.Closing.{put_on, close, without_text}
use Rattle.cbm_machine.specs.Plans.{asked, open_text}
use Rattle.cbm_machine.specs.Running.{run}

-- the text without one return at its end
abbrev pub without_return : List ℕ → List ℕ
without_return [] = []
without_return (c ∷ []) = if c == return then [] else c ∷ []
without_return (c ∷ d ∷ text) = c ∷ without_return (d ∷ text)

-- A text that is empty does nothing.
abbrev pub command_text : List ℕ → Machine → Machine
command_text [] m = m
command_text (c ∷ text) m = answered m (asked (command_of (c ∷ text)) >>= λ command. run command m)

-- a text for channel 15
abbrev pub command : List ℕ → Machine → Machine
command text m = command_text (without_return text) m

-- OPEN: on 15 a command; on an open channel a CLOSE comes first
abbrev pub after_open : ℕ → List ℕ → Machine → Machine
after_open ch text m = if ch == 15 then command text m else open_text ch text (close ch m)

-- the text that was gathered for a channel
abbrev pub text_for : ℕ → Option (ℕ × List ℕ) → List ℕ
text_for ch None = []
text_for ch (Some t) = if t.0 == ch then t.1 else []

-- a byte goes to the text of its channel, and another channel's text is dropped
abbrev pub gather : ℕ → ℕ → Machine → Machine
gather ch b m = record m { text = Some (ch, text_for ch m.text ++ b ∷ []) }

-- the channel has records
abbrev pub is_relative_channel : Channel → Bool
is_relative_channel (Relative s k p) = true
is_relative_channel _ = false

-- a byte is put: gathered for 15 and for records, else written
abbrev pub put : ℕ → ℕ → Machine → Machine
put ch b m =
    if (ch == 15) || is_relative_channel (channel m ch) then gather ch b m
    else put_on ch b (channel m ch) m

-- the gathered text is a command, or one write of records
abbrev pub store_text : ℕ → List ℕ → Machine → Machine
store_text ch [] m = m
store_text ch (c ∷ text) m =
    let n = without_text ch m in
    if ch == 15 then command (c ∷ text) n else write_record ch (channel n ch) (c ∷ text) n

-- the end of what is put
abbrev pub end_put : ℕ → Machine → Machine
end_put ch m = store_text ch (text_for ch m.text) m
