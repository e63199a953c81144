use Rattle.std.proofs.Common.{rules, ◌≡◌, ◌≢◌, ℕ, ◌<◌, ◌≤◌, List, Ok, Err, None, Some, length, slice_index_or, IfSome, IfOk, IfErr, OnOk, OnErr, ◌+◌, ◌-◌, ◌*◌, ◌/◌, ◌%◌, Bool, true, false, nat_eq, nat_lt, [], ◌∷◌, ◌++◌, slice_set, bit_and, bit_or, Fits, w8, w32, w64, Bor, MutBor}
use Rattle.cbm_gcr.specs.Code.{code}
use Rattle.cbm_medium.specs.Place.{Place}
use Rattle.cbm_medium.specs.Content.{header_fault}
use Rattle.cbm_track.specs.Circle.{or_then, some_if}
use Rattle.cbm_sector.specs.Decoding.{coded_at}
use Rattle.cbm_sector.specs.Answer.{sector_shown, header_of, names, passes, block_of, id_shown, data_block, IsOverwritten}
use Rattle.cbm_sector.specs.Fresh.{block_place}
use Rattle.cbm_sector.specs.Index.{IsIndex, is_of}
use Rattle.cbm_sector.proofs.indexed.IndexedTrack.write_sector.Goals as goal

pub returns-clause-ok : goal.returns-clause-ok
returns-clause-ok c = search rules

pub returns-clause-others : goal.returns-clause-others
returns-clause-others c = search rules

pub returns-clause-bits : goal.returns-clause-bits
returns-clause-bits c = search rules

pub returns-clause-id : goal.returns-clause-id
returns-clause-id c = search rules

pub returns-clause-length : goal.returns-clause-length
returns-clause-length c = search rules

pub returns-clause-long : goal.returns-clause-long
returns-clause-long c = search rules

pub returns-clause-err : goal.returns-clause-err
returns-clause-err c = search rules

pub returns-clause-refused : goal.returns-clause-refused
returns-clause-refused c = search rules

pub returns-clause-cause : goal.returns-clause-cause
returns-clause-cause c = search rules
