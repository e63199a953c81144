-- What M-R answers of the drive's memory.
use Rattle.std.specs.Prelude.{ℕ, ◌+◌, ◌-◌, ◌%◌, ◌==◌, ◌&&◌, ◌||◌, nat_lt, nat_le, Bool, List, [], ◌∷◌, slice_index_or, Option, Some, None, if◌then◌else◌}
use Rattle.cbm_direct.specs.declared.memory.Reply.{Reply}

-- the text of status 73 as the ROM has it from $E5B6 on: its number, and the text, whose first and last byte have bit 7 set
abbrev pub rom_text : List ℕ
rom_text = 115 ∷ 195 ∷ 66 ∷ 77 ∷ 32 ∷ 68 ∷ 79 ∷ 83 ∷ 32 ∷ 86 ∷ 50 ∷ 46 ∷ 54 ∷ 32 ∷ 49 ∷ 53 ∷ 52 ∷ 177 ∷ []

-- THE BYTE OF AN ADDRESS: that text, the two bytes of $FEA0 and of $FF40 by which programs know a 1541, and 0 elsewhere
abbrev pub byte_at : ℕ → ℕ
byte_at a =
    if nat_le 58806 a && nat_lt a 58824 then slice_index_or rom_text (a - 58806) 0
    else if a == 65184 then 13
    else if a == 65185 then 237
    else if (a == 65344) || (a == 65345) then 170
    else 0

-- the next byte of a reply, and whether it is the last
abbrev pub reply_shown : Reply → ℕ × Bool
reply_shown r = (byte_at r.address, nat_le r.left 1)

-- what is left of a reply behind its next byte; the address goes on from $FFFF to 0
abbrev pub reply_behind : Reply → Option Reply
reply_behind r = if nat_le r.left 1 then None else Some (record { address = (r.address + 1) % 65536; left = r.left - 1 })
