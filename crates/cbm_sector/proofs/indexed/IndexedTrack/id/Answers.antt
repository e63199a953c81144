use Rattle.std.proofs.Common.{rules, ◌≡◌, ◌≢◌, ℕ, ◌<◌, ◌≤◌, List, Ok, Err, None, Some, length, slice_index_or, IfSome, IfOk, IfErr, OnOk, OnErr, ◌+◌, ◌-◌, ◌*◌, ◌/◌, ◌%◌, Bool, true, false, nat_eq, nat_lt, [], ◌∷◌, ◌++◌, slice_set, bit_and, bit_or, Fits, w8, w32, w64, Bor, MutBor}
use Rattle.cbm_gcr.specs.Code.{code}
use Rattle.cbm_medium.specs.Place.{Place}
use Rattle.cbm_medium.specs.Content.{header_fault}
use Rattle.cbm_track.specs.Circle.{or_then, some_if}
use Rattle.cbm_sector.specs.Decoding.{coded_at}
use Rattle.cbm_sector.specs.Answer.{sector_shown, header_of, names, passes, block_of, id_shown, data_block, IsOverwritten}
use Rattle.cbm_sector.specs.Fresh.{block_place}
use Rattle.cbm_sector.specs.Index.{IsIndex, is_of}
use Rattle.cbm_sector.proofs.indexed.IndexedTrack.id.Goals as goal

pub returns : goal.returns
returns c = search rules
