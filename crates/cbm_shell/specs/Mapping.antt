-- A picture of the sectors.
use Rattle.std.specs.Prelude.{ℕ, zero, suc, ◌||◌, nat_lt, if◌then◌else◌, Bool, true, false, List, [], ◌∷◌, ◌++◌, codes, decimal, Option, Some, None, Ok, Err}
use Rattle.cbm_medium.specs.declared.fault.Trouble.{Trouble}
use Rattle.cbm_medium.specs.Place.{Place, is_place, sectors_on, sector_count, directory_head}
use Rattle.cbm_medium.specs.Content.{Cell, Content}
use Rattle.cbm_medium.specs.Links.{follow}
use Rattle.cbm_bam.specs.Map.{is_free_in}
use Rattle.cbm_directory.specs.Entries.{is_closed, is_relative, first_block, first_side, first_directory}
use Rattle.cbm_directory.specs.Slots.{Listed, directory_of}
use Rattle.cbm_shell.specs.declared.looking.mapping.Mark.{Mark}
use Rattle.cbm_shell.specs.declared.looking.mapping.Mark.TheVariants.{Free, Used, Lost, Clash, Unreadable}

-- a sector by whether it is used and whether the BAM has it as free
abbrev pub mark_by : Bool → Bool → Mark
mark_by true true = Clash
mark_by true false = Used
mark_by false true = Free
mark_by false false = Lost

-- the mark of a sector; first of all, whether it reads
abbrev pub mark_of : Cell → Bool → Bool → Mark
mark_of (Ok bytes) used free = mark_by used free
mark_of (Err code) used free = Unreadable

-- its sign: . # ? ! x
abbrev pub sign_of : Mark → ℕ
sign_of Free = 46
sign_of Used = 35
sign_of Lost = 63
sign_of Clash = 33
sign_of Unreadable = 120

-- ---- what is used

-- the sectors that links lead to from a place on, up to the chain's end or to what cuts it off
unfoldable pub chain_of : ℕ → Content → Place → List Place
chain_of tracks content a = (follow tracks content (sector_count tracks) a).blocks

-- the side sectors of the file of an entry
abbrev pub sides_of : ℕ → Content → List ℕ → List Place
sides_of tracks content e = if is_relative e then chain_of tracks content (first_side e) else []

-- the sectors of the file of an entry, and its side sectors; none where it wasn't closed
abbrev pub sectors_of : ℕ → Content → List ℕ → List Place
sectors_of tracks content e = if is_closed e then chain_of tracks content (first_block e) ++ sides_of tracks content e else []

-- the sectors of the files of these entries
unfoldable pub in_files : ℕ → Content → List (List ℕ) → List Place
in_files tracks content [] = []
in_files tracks content (e ∷ rest) = sectors_of tracks content e ++ in_files tracks content rest

-- entries, and none where trouble was met on the way
abbrev pub entries_by : Option Trouble → List (List ℕ) → List (List ℕ)
entries_by None entries = entries
entries_by (Some t) entries = []

-- the entries of a directory; none where it can't be followed to its end
abbrev pub entries_shown : Listed → List (List ℕ)
entries_shown listed = entries_by listed.trouble listed.entries

-- WHAT IS USED: the BAM's sector, the directory, the sectors of each closed file
abbrev pub used_in : ℕ → Content → List (List ℕ) → List Place
used_in tracks content entries = chain_of tracks content directory_head ++ (chain_of tracks content first_directory ++ in_files tracks content entries)

-- the place is one of these
unfoldable pub is_among : List Place → Place → Bool
is_among [] p = false
is_among (q ∷ rest) p = is_place q p || is_among rest p

-- ---- the picture

-- the BAM has a sector as free; no sector where 18/0 doesn't read
abbrev pub free_by : Cell → Place → Bool
free_by (Ok map) p = is_free_in map p
free_by (Err code) p = false

-- the sign of the sector at a place
abbrev pub sign_at : Content → (Place → Bool) → Place → ℕ
sign_at content used p = sign_of (mark_of (content p) (used p) (free_by (content directory_head) p))

-- the signs of the first n sectors of a track
unfoldable pub signs_on : Content → (Place → Bool) → ℕ → ℕ → List ℕ
signs_on content used track zero = []
signs_on content used track (suc n) = signs_on content used track n ++ sign_at content used (record { track = track; sector = n }) ∷ []

-- the line of a track
abbrev pub row_of : Content → (Place → Bool) → ℕ → List ℕ
row_of content used track =
    (if nat_lt track 10 then codes " " else []) ++ decimal track ++ codes "     " ++ signs_on content used track (sectors_on track) ++ codes "\n"

-- the lines of the first n tracks
unfoldable pub rows_of : Content → (Place → Bool) → ℕ → List ℕ
rows_of content used zero = []
rows_of content used (suc n) = rows_of content used n ++ row_of content used (suc n)

-- THE PICTURE of a disk that uses this many tracks: the sectors' numbers, a line for each track, and what the signs mean
abbrev pub picture_of : ℕ → Content → List ℕ
picture_of tracks content =
    codes "sector 0         1         2\ntrack  012345678901234567890\n"
    ++ rows_of content (is_among (used_in tracks content (entries_shown (directory_of tracks content)))) tracks
    ++ codes ". free   # used   x can't be read\n? lost: no file uses it, but it isn't free   ! used, but marked free\n"
