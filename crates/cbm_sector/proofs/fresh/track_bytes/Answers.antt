use Rattle.std.proofs.Common.{rules, ◌≡◌, ℕ, ◌<◌, ◌≤◌, ◌+◌, ◌*◌, ◌++◌, Ok, Some, length, replicate, ◌-◌, ◌/◌, ◌%◌, Bool, true, false, nat_eq, nat_lt, List, [], ◌∷◌, slice_index_or, slice_set, bit_and, bit_or, Fits, w8, w32, w64, Bor, MutBor}
use Rattle.arrayvec.specs.ArrayVec.{array_vec_len}
use Rattle.cbm_gcr.specs.Code.{code, bits_of}
use Rattle.cbm_medium.specs.Place.{sectors_on}
use Rattle.cbm_sector.specs.Answer.{block_of, sector_shown, id_shown, data_block}
use Rattle.cbm_sector.specs.Fresh.{block_place, bytes_on, fresh, fresh_sector, fresh_sectors, header_block, laid}
use Rattle.cbm_sector.proofs.fresh.track_bytes.Goals as goal

pub returns-in-0-to-17-clause-value : goal.returns-in-0-to-17-clause-value
returns-in-0-to-17-clause-value c = search rules

pub returns-in-0-to-17-clause-most : goal.returns-in-0-to-17-clause-most
returns-in-0-to-17-clause-most c = search rules

pub returns-in-18-to-24-clause-value : goal.returns-in-18-to-24-clause-value
returns-in-18-to-24-clause-value c = search rules

pub returns-in-18-to-24-clause-most : goal.returns-in-18-to-24-clause-most
returns-in-18-to-24-clause-most c = search rules

pub returns-in-25-to-30-clause-value : goal.returns-in-25-to-30-clause-value
returns-in-25-to-30-clause-value c = search rules

pub returns-in-25-to-30-clause-most : goal.returns-in-25-to-30-clause-most
returns-in-25-to-30-clause-most c = search rules

pub returns-in_default-clause-value : goal.returns-in_default-clause-value
returns-in_default-clause-value c = search rules

pub returns-in_default-clause-most : goal.returns-in_default-clause-most
returns-in_default-clause-most c = search rules
