use Rattle.std.proofs.Common.{rules, ◌≡◌, ◌≤◌, ℕ, List, true, ◌+◌, ◌-◌, ◌*◌, ◌<◌, length, ◌/◌, ◌%◌, Bool, false, nat_eq, nat_lt, [], ◌∷◌, ◌++◌, slice_index_or, slice_set, bit_and, bit_or, Fits, w8, w32, w64, Bor, MutBor}
use Rattle.cbm_file.specs.declared.file_type.FileType.{FileType}
use Rattle.cbm_command.specs.declared.opening.Mode.{Mode}
use Rattle.cbm_command.specs.Spelling.{IsPlain, spelled, holds_bytes, usual_file}
use Rattle.cbm_command.specs.Texts.{comma, parts_at}
use Rattle.cbm_command.specs.Openings.{pattern_asked, listing_asked, with_piece, with_pieces, set_kind, set_mode, is_length_piece, by_channel, default_kind, or_default, is_named_whole, file_named, file_asked, headed_file, by_first, opening_of}
use Rattle.cbm_command.proofs.open_text.by_first.Goals as goal

pub returns-in_default : goal.returns-in_default
returns-in_default c = search rules

pub returns-in-35 : goal.returns-in-35
returns-in-35 c = search rules

pub returns-in-36 : goal.returns-in-36
returns-in-36 c = search rules

pub returns-in-36-2 : goal.returns-in-36-2
returns-in-36-2 c = search rules

pub returns-in_default-first : goal.returns-in_default-first
returns-in_default-first c = search rules
