-- What a channel hears between LISTEN and UNLISTEN, and says between TALK and UNTALK.
use Rattle.std.specs.Prelude.{ℕ, zero, suc, Bool, true, false, List, [], ◌∷◌, ◌++◌, length, if◌then◌else◌, Some, None}
use Rattle.cbm_machine.specs.Statuses.{status_line}
use Rattle.cbm_machine.specs.Machines.{Machine}
use Rattle.cbm_machine.specs.Talking.{peek, taken, after_talk, after_listen}
use Rattle.cbm_machine.specs.Calls.{put, end_put}

-- bytes are put one after another
abbrev pub puts : ℕ → List ℕ → Machine → Machine
puts ch [] m = m
puts ch (b ∷ bytes) m = puts ch bytes (put ch b m)

-- a channel listens, takes the bytes, and their end
abbrev pub hear_bytes : ℕ → List ℕ → Machine → Machine
hear_bytes ch bytes m = end_put ch (puts ch bytes (after_listen ch m))

-- what a channel said: the bytes, whether the last of them was marked so, and the machine after them
pub record TalkSaid : Type 0 where
  pub bytes : List ℕ
  pub marked : Bool
  pub machine : Machine

-- Up to this many bytes, after those so far. The byte that is marked as the last one ends them.
abbrev pub says : ℕ → ℕ → List ℕ → Machine → TalkSaid
says zero ch so_far m = record { bytes = so_far; marked = false; machine = m }
says (suc n) ch so_far m = elim (peek ch m) [
  | None ↦ record { bytes = so_far; marked = false; machine = m }
  | Some p ↦
      if p.1 then record { bytes = so_far ++ p.0 ∷ []; marked = true; machine = taken ch m }
      else says n ch (so_far ++ p.0 ∷ []) (taken ch m)
]

-- a channel talks: up to this many bytes
abbrev pub talked : ℕ → ℕ → Machine → TalkSaid
talked ch most m = says most ch [] (after_talk ch m)

-- the status line to its end
abbrev pub status_said : Machine → TalkSaid
status_said m = talked 15 (length (status_line m.status)) m
