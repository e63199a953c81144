use Rattle.std.proofs.Common.{rules, ◌*◌, ◌≢◌, ◌≤◌, ◌≡◌, ℕ, ◌<◌, ◌+◌, length, ◌↔◌, IsTrue, ◌-◌, ◌/◌, ◌%◌, Bool, true, false, nat_eq, nat_lt, List, [], ◌∷◌, ◌++◌, slice_index_or, slice_set, bit_and, bit_or, Fits, w8, w32, w64, Bor, MutBor}
use Rattle.cbm_d64.specs.Image.{index_of, IsImageSize, IsSectorStored, IsErased, code_of_error, mended, error_at, sector_at, d64_tracks, sectors_in}
use Rattle.cbm_medium.specs.Place.{IsOnDisk}
use Rattle.cbm_d64.proofs.image.is_size.Goals as goal

pub returns-in-174848 : goal.returns-in-174848
returns-in-174848 c = search rules

pub returns-in_default : goal.returns-in_default
returns-in_default c = search rules
