-- What a check answers, in words.
use Rattle.std.specs.Prelude.{ℕ, List, ◌++◌, codes, decimal, Result, Ok, Err, ◌==◌, if◌then◌else◌}
use Rattle.cbm_volume.specs.declared.Unsound.{Unsound}

-- what a number of the check means
abbrev pub words : ℕ → List ℕ
words number =
    if number == 1 then codes "the count of the track's free blocks isn't the number of blocks marked free"
    else if number == 2 then codes "the block is in use, but marked free"
    else if number == 3 then codes "the block is used twice"
    else if number == 4 then codes "a file's chain leads here, where no block of a file can be"
    else if number == 5 then codes "the sector's header can't be read"
    else if number == 6 then codes "the directory's chain leads here, off the directory's track"
    else if number == 7 then codes "the side sectors that begin here don't list the blocks of their relative file"
    else if number == 8 then codes "an entry in this sector of the directory has a type that no file has"
    else if number == 9 then codes "the block is in use, but can't be read"
    else codes "it isn't sound"

-- the line of what is wrong first: where, and what it means
abbrev pub unsound_text : Unsound → List ℕ
unsound_text u = codes "track " ++ decimal u.track ++ codes ", sector " ++ decimal u.sector ++ codes ": " ++ words u.number ++ codes "\n"

-- the line of what a check answers
abbrev pub check_text : Result (Unit {0}) Unsound → List ℕ
check_text (Ok _) = codes "sound\n"
check_text (Err u) = unsound_text u
