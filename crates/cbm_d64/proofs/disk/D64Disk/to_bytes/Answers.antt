use Rattle.std.proofs.Common.{rules, refl, ◌≡◌, ◌≢◌, ◌≤◌, ◌↔◌, length, IfOk, IfErr, OnOk, OnErr, IfSome, ℕ, ◌+◌, ◌-◌, ◌*◌, ◌<◌, ◌/◌, ◌%◌, Bool, true, false, nat_eq, nat_lt, List, [], ◌∷◌, ◌++◌, slice_index_or, slice_set, bit_and, bit_or, Fits, w8, w32, w64, Bor, MutBor}
use Rattle.cbm_d64.specs.Image.{IsImageSize, IsSectorStored, IsErased, d64_content, d64_tracks, d64_seen, index_of}
use Rattle.cbm_medium.specs.Place.{directory_head}
use Rattle.cbm_medium.specs.Content.{written, blank, refusal, format_refusal}
use Rattle.cbm_medium.specs.Seen.{with_content, write_refusal, IsRefused}
use Rattle.cbm_d64.proofs.disk.D64Disk.to_bytes.Goals as goal

pub returns-clause-ok : goal.returns-clause-ok
returns-clause-ok c = search rules

pub returns-clause-err : goal.returns-clause-err
returns-clause-err c = search rules
