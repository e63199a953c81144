use Rattle.std.proofs.Common.{rules, refl, ◌≡◌, ◌≢◌, ◌≤◌, ◌↔◌, length, IfOk, IfErr, OnOk, OnErr, IfSome, ℕ, ◌+◌, ◌-◌, ◌*◌, ◌<◌, ◌/◌, ◌%◌, Bool, true, false, nat_eq, nat_lt, List, [], ◌∷◌, ◌++◌, slice_index_or, slice_set, bit_and, bit_or, Fits, w8, w32, w64, Bor, MutBor}
use Rattle.cbm_d64.specs.Image.{IsImageSize, IsSectorStored, IsErased, d64_content, d64_tracks, d64_seen, index_of}
use Rattle.cbm_medium.specs.Place.{directory_head}
use Rattle.cbm_medium.specs.Content.{written, blank, refusal, format_refusal}
use Rattle.cbm_medium.specs.Seen.{with_content, write_refusal, IsRefused}
use Rattle.cbm_d64.proofs.disk.D64Disk.from_bytes.Goals as goal

pub returns-then-not-is_size-clause-ok : goal.returns-then-not-is_size-clause-ok
returns-then-not-is_size-clause-ok c = search rules

pub returns-then-not-is_size-clause-size : goal.returns-then-not-is_size-clause-size
returns-then-not-is_size-clause-size c = search rules

pub returns-then-not-is_size-clause-err : goal.returns-then-not-is_size-clause-err
returns-then-not-is_size-clause-err c = search rules

pub returns-in_err-bytes-clause-ok : goal.returns-in_err-bytes-clause-ok
returns-in_err-bytes-clause-ok c = search rules

pub returns-in_err-bytes-clause-size : goal.returns-in_err-bytes-clause-size
returns-in_err-bytes-clause-size c = search rules

pub returns-in_err-bytes-clause-err : goal.returns-in_err-bytes-clause-err
returns-in_err-bytes-clause-err c = search rules

pub returns-clause-ok : goal.returns-clause-ok
returns-clause-ok c = search rules

pub returns-clause-size : goal.returns-clause-size
returns-clause-size c = search rules

pub returns-clause-err : goal.returns-clause-err
returns-clause-err c = search rules
