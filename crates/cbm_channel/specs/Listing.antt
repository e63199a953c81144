-- The listing as it is made from the directory's entries.
use Rattle.std.specs.Prelude.{ℕ, ◌+◌, ◌*◌, ◌%◌, List, [], flat_map, slice_index, if◌then◌else◌, None}
use Rattle.cbm_file.specs.Types.{type_with}
use Rattle.cbm_listing.specs.Lines.{entry_line}
use Rattle.cbm_directory.specs.Entries.{type_byte, bit_of, is_closed, name_in}
use Rattle.cbm_channel.specs.Sought.{is_sought}

-- the line of an entry that isn't empty and matches
abbrev pub listing_line : List ℕ → List ℕ → List ℕ
listing_line pattern entry =
    if is_sought pattern None entry
    then entry_line (slice_index entry 28 + 256 * slice_index entry 29) (name_in entry) (type_with (type_byte entry % 16)) (is_closed entry) (bit_of (type_byte entry) 6)
    else []

-- the lines of these entries
abbrev pub listing_lines : List ℕ → List (List ℕ) → List ℕ
listing_lines pattern entries = flat_map (listing_line pattern) entries
