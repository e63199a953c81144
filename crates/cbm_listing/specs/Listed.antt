-- A listing that is made and taken.
use Rattle.std.specs.Prelude.{ℕ, ◌+◌, nat_lt, List, ◌++◌, length, if◌then◌else◌}

-- the bytes so far, and how many of them were taken
pub record ListedBytes : Type 0 where
  pub bytes : List ℕ
  pub taken : ℕ

-- one line more
abbrev pub with_listing_line : List ℕ → ListedBytes → ListedBytes
with_listing_line bytes l = record l { bytes = l.bytes ++ bytes }

-- one byte more is taken, if one is left
abbrev pub with_next_taken : ListedBytes → ListedBytes
with_next_taken l = if nat_lt l.taken (length l.bytes) then record l { taken = l.taken + 1 } else l
