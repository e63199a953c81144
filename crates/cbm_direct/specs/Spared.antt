-- What a drive with guarded direct access spares beside what the DOS has: the blocks of files that were never closed, and those of a disk of GEOS.
use Rattle.std.specs.Prelude.{ℕ, ◌==◌, ◌&&◌, ◌||◌, not, Bool, true, false, List, [], ◌∷◌, codes, take, drop, Ok, Err}
use Rattle.std.specs.List.{list_any}
use Rattle.std.specs.Str.{bytes_eq}
use Rattle.cbm_medium.specs.Place.{Place, is_place, sector_count, directory_head}
use Rattle.cbm_medium.specs.Content.{Cell, Content}
use Rattle.cbm_medium.specs.Links.{follow}
use Rattle.cbm_medium.specs.Seen.{Seen}
use Rattle.cbm_bam.specs.Map.{is_free_in}
use Rattle.cbm_directory.specs.Entries.{type_byte, is_closed, is_relative, first_block, first_side}
use Rattle.cbm_directory.specs.Slots.{directory_of}
use Rattle.cbm_volume.specs.SeenDisks.{seen_tracks}
use Rattle.cbm_direct.specs.declared.access.Access.{Access}
use Rattle.cbm_direct.specs.declared.access.Access.TheVariants.{Guarded, Raw}

-- ---- files that were never closed

-- an entry of a file that was never closed: it isn't empty, and bit 7 of its type byte is 0
abbrev pub is_unclosed : List ℕ → Bool
is_unclosed e = not (type_byte e == 0) && not (is_closed e)

-- the sector is one of these
abbrev pub is_any_of : Place → List Place → Bool
is_any_of p [] = false
is_any_of p (q ∷ rest) = is_place q p || is_any_of p rest

-- links lead to the sector from a place on, as far as the sectors on the way read and are on the disk
abbrev pub is_on_chain : ℕ → Content → Place → Place → Bool
is_on_chain tracks content first p = is_any_of p (follow tracks content (sector_count tracks) first).blocks

-- an entry leads to the sector: from its first block on, or from its first side sector on if its file is relative
abbrev pub leads_to : ℕ → Content → Place → List ℕ → Bool
leads_to tracks content p e = is_on_chain tracks content (first_block e) p || (is_relative e && is_on_chain tracks content (first_side e) p)

-- it is one of a file that was never closed, and leads to the sector
abbrev pub is_of_unclosed : ℕ → Content → Place → List ℕ → Bool
is_of_unclosed tracks content p e = is_unclosed e && leads_to tracks content p e

-- A FILE THAT WAS NEVER CLOSED HAS THE SECTOR: an entry leads to it, among those that the directory shows before its end or before what breaks it off.
abbrev pub has_unclosed : ℕ → Content → Place → Bool
has_unclosed tracks content p = list_any (is_of_unclosed tracks content p) (directory_of tracks content).entries

-- ---- disks of GEOS

-- a text that begins as GEOS marks a disk
abbrev pub begins_as_geos : List ℕ → Bool
begins_as_geos text = bytes_eq (take 11 text) (codes "GEOS format")

-- GEOS formatted the disk whose 18/0 this is: it says so from byte 173 on
abbrev pub shows_geos : Cell → Bool
shows_geos (Ok map) = begins_as_geos (drop 173 map)
shows_geos (Err code) = false

-- this map has the sector as taken
abbrev pub is_taken_in : Cell → Place → Bool
is_taken_in (Ok map) p = not (is_free_in map p)
is_taken_in (Err code) p = false

-- GEOS MAY HAVE THE SECTOR: it formatted the disk, and the map has the sector as taken.
abbrev pub has_geos : Cell → Place → Bool
has_geos map p = shows_geos map && is_taken_in map p

-- ---- what is spared

-- THE SECTOR IS SPARED: a file that was never closed has it, or GEOS may have it.
abbrev pub is_spared : Seen → Place → Bool
is_spared now p = has_unclosed (seen_tracks now) now.content p || has_geos (now.content directory_head) p

-- the same, if not any sector may be written
abbrev pub is_spared_by : Access → Seen → Place → Bool
is_spared_by Guarded now p = is_spared now p
is_spared_by Raw now p = false

-- V is refused: GEOS formatted the disk, and not any sector may be written
abbrev pub keeps_geos : Access → Seen → Bool
keeps_geos Guarded now = shows_geos (now.content directory_head)
keeps_geos Raw now = false
