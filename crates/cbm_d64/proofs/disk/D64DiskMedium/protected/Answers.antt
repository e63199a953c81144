use Rattle.std.proofs.Common.{rules, refl, ◌≡◌, ◌≢◌, ◌≤◌, ◌↔◌, length, IfOk, IfErr, OnOk, OnErr, IfSome, ℕ, ◌+◌, ◌-◌, ◌*◌, ◌<◌, ◌/◌, ◌%◌, Bool, true, false, nat_eq, nat_lt, List, [], ◌∷◌, ◌++◌, slice_index_or, slice_set, bit_and, bit_or, Fits, w8, w32, w64, Bor, MutBor}
use Rattle.cbm_d64.specs.Image.{IsImageSize, IsSectorStored, IsErased, d64_content, d64_tracks, d64_seen, index_of}
use Rattle.cbm_medium.specs.Place.{directory_head}
use Rattle.cbm_medium.specs.Content.{written, blank, refusal, format_refusal}
use Rattle.cbm_medium.specs.Seen.{with_content, write_refusal, IsRefused}
use Rattle.cbm_d64.specs.Outer.{d64_outer_good}
use Rattle.cbm_d64.specs.Faults.{d64_has_codes}
use Rattle.cbm_d64.proofs.disk.D64DiskMedium.protected.Goals as goal

pub returns : goal.returns
returns c = search rules
