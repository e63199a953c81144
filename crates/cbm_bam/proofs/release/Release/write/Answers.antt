use Rattle.std.proofs.Common.{rules, ◌≡◌, ◌≢◌, ℕ, true, ◌≤◌, ◌⊎◌, IfOk, IfErr, OnErr, OnOk, Some, Ok, Err, ◌+◌, ◌-◌, ◌*◌, ◌<◌, length, ◌/◌, ◌%◌, Bool, false, nat_eq, nat_lt, List, [], ◌∷◌, ◌++◌, slice_index_or, slice_set, bit_and, bit_or, Fits, w8, w32, w64, Bor, MutBor}
use Rattle.cbm_medium.specs.Place.{directory_head}
use Rattle.cbm_medium.specs.Content.{written}
use Rattle.cbm_medium.specs.Seen.{write_refusal, HasFailed, OnlyContent}
use Rattle.cbm_bam.specs.Map.{IsGiven}
use Rattle.cbm_bam.proofs.release.Release.write.Goals as goal

pub returns-in_err-write-clause-ok : goal.returns-in_err-write-clause-ok
returns-in_err-write-clause-ok g c = search rules

pub returns-in_err-write-clause-err : goal.returns-in_err-write-clause-err
returns-in_err-write-clause-err g c = search rules

pub returns-in_err-write-clause-cause : goal.returns-in_err-write-clause-cause
returns-in_err-write-clause-cause g c = search rules

pub returns-in_err-write-clause-place : goal.returns-in_err-write-clause-place
returns-in_err-write-clause-place g c = search rules

pub returns-in_err-write-clause-only : goal.returns-in_err-write-clause-only
returns-in_err-write-clause-only g c = search rules

pub returns-clause-ok : goal.returns-clause-ok
returns-clause-ok g c = search rules

pub returns-clause-err : goal.returns-clause-err
returns-clause-err g c = search rules

pub returns-clause-cause : goal.returns-clause-cause
returns-clause-cause g c = search rules

pub returns-clause-place : goal.returns-clause-place
returns-clause-place g c = search rules

pub returns-clause-only : goal.returns-clause-only
returns-clause-only g c = search rules
