use Rattle.std.proofs.Common.{rules, refl, ◌≡◌, ◌≤◌, ◌-◌, ◌⊎◌, ◌↔◌, ℕ, Ok, Err, None, Some, false, true, IfErr, IfOk, IfSome, IsSome, OnErr, OnOk, length, ◌+◌, ◌*◌, ◌<◌, ◌/◌, ◌%◌, Bool, nat_eq, nat_lt, List, [], ◌∷◌, ◌++◌, slice_index_or, slice_set, bit_and, bit_or, Fits, w8, w32, w64, Bor, MutBor}
use Rattle.cbm_medium.specs.Place.{Has, Place, directory_head}
use Rattle.cbm_medium.specs.Content.{blank, format_refusal, refusal, written}
use Rattle.cbm_medium.specs.Seen.{with_content, write_refusal, IsRefused}
use Rattle.cbm_g64.specs.File.{g64_fault, g64_circles}
use Rattle.cbm_g64.specs.NewFile.{base_of, new_file}
use Rattle.cbm_g64.specs.Tracks.{bits_at, g64_content, id_for, or_zeros, g64_seen, AreFilled, AreFresh, AreLaid, HasTrack, IsCircleChanged, IsPut}
use Rattle.cbm_g64.specs.Image.{IsImageOf}
use Rattle.cbm_g64.specs.Outer.{no_outer}
use Rattle.cbm_g64.specs.Faults.{g64_has_codes}
use Rattle.cbm_g64.proofs.disk.G64DiskMedium.tracks.Goals as goal

pub returns-clause-value : goal.returns-clause-value
returns-clause-value c = search rules

pub returns-clause-either : goal.returns-clause-either
returns-clause-either c = search rules
