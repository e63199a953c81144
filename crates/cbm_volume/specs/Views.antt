-- The disk as VALIDATE looks at it: its map has no sector as free, and each slot that was never closed is empty.
use Rattle.std.specs.Prelude.{ℕ, zero, suc, ◌+◌, ◌*◌, ◌==◌, ◌++◌, nat_lt, List, true, if◌then◌else◌, take, drop, replicate, slice_set, Ok, Err}
use Rattle.cbm_medium.specs.Place.{Place}
use Rattle.cbm_medium.specs.Content.{Cell, Content}
use Rattle.cbm_medium.specs.Seen.{Seen}
use Rattle.cbm_directory.specs.Entries.{entry_of, is_closed}

-- this many bytes from a place on are zeros
abbrev pub zeroed : ℕ → ℕ → List ℕ → List ℕ
zeroed from n bytes = take from bytes ++ (replicate n 0 ++ drop n (drop from bytes))

-- the map with the rows of all tracks zero: no sector is free, and each count says so
abbrev pub taken_map : ℕ → List ℕ → List ℕ
taken_map tracks map = if nat_lt tracks 40 then zeroed 4 140 map else zeroed 192 20 (zeroed 4 140 map)

-- an entry that isn't closed gets the type byte 0
abbrev pub clear_open : ℕ → List ℕ → List ℕ
clear_open e sector = if is_closed (entry_of sector e) then sector else slice_set sector (32 * e + 2) 0

-- this many entries of a sector of the directory, each empty unless it is closed
unfoldable pub swept : ℕ → List ℕ → List ℕ
swept zero sector = sector
swept (suc n) sector = clear_open n (swept n sector)

-- what a sector shows: 18/0 the taken map, another one of track 18 its closed entries, and each other one its bytes
abbrev pub view_at : ℕ → Place → List ℕ → List ℕ
view_at tracks p bytes = if p.track == 18 then (if p.sector == 0 then taken_map tracks bytes else swept 8 bytes) else bytes

-- the bytes of a sector changed so; a fault stays
abbrev pub on_cell : (List ℕ → List ℕ) → Cell → Cell
on_cell f (Ok bytes) = Ok (f bytes)
on_cell f (Err code) = Err code

-- what each sector shows
unfoldable pub view_of : ℕ → Content → Content
view_of tracks c p = on_cell (view_at tracks p) (c p)

-- what a medium shows so; each write is refused
abbrev pub viewed : ℕ → Seen → Seen
viewed tracks s = record s { content = view_of tracks s.content; protected = true }
