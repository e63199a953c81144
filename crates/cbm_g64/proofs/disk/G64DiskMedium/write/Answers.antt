use Rattle.std.proofs.Common.{rules, refl, sym, ap, subst, arith, ◌≡◌, ◌≤◌, ◌-◌, ◌⊎◌, ◌↔◌, ℕ, Ok, Err, None, Some, false, true, IfErr, IfOk, IfSome, IsSome, OnErr, OnOk, length, ◌+◌, ◌*◌, ◌<◌, ◌/◌, ◌%◌, Bool, nat_eq, nat_lt, List, [], ◌∷◌, ◌++◌, slice_index_or, slice_set, bit_and, bit_or, Fits, w8, w32, w64, Bor, MutBor}
use Rattle.cbm_medium.specs.Place.{Has, Place, directory_head}
use Rattle.cbm_medium.specs.Content.{blank, format_refusal, refusal, written}
use Rattle.cbm_medium.specs.Seen.{with_content, write_refusal, IsRefused}
use Rattle.cbm_g64.specs.File.{g64_fault, g64_circles}
use Rattle.cbm_g64.specs.NewFile.{base_of, new_file}
use Rattle.cbm_g64.specs.Tracks.{bits_at, g64_content, id_for, or_zeros, g64_seen, AreFilled, AreFresh, AreLaid, HasTrack, IsCircleChanged, IsPut}
use Rattle.cbm_g64.specs.Head.{IsHead}
use Rattle.cbm_g64.specs.Image.{IsHeld, IsImageOf}
use Rattle.cbm_g64.proofs.Held.{held_changed}
use Rattle.std.proofs.lemmas.List.{take_at}
use Rattle.cbm_g64.specs.Outer.{no_outer}
use Rattle.cbm_g64.specs.Faults.{g64_has_codes}
use Rattle.cbm_g64.proofs.disk.G64DiskMedium.write.Goals as goal

pub returns-then-self-clause-ok : goal.returns-then-self-clause-ok
returns-then-self-clause-ok c = search rules

pub returns-then-self-clause-refused : goal.returns-then-self-clause-refused
returns-then-self-clause-refused c = search rules

pub returns-then-self-clause-err : goal.returns-then-self-clause-err
returns-then-self-clause-err c = search rules

pub returns-then-self-clause-changed : goal.returns-then-self-clause-changed
returns-then-self-clause-changed c = search rules

pub returns-then-self-clause-block : goal.returns-then-self-clause-block
returns-then-self-clause-block c = search rules

pub returns-then-self-clause-kept : goal.returns-then-self-clause-kept
returns-then-self-clause-kept c = search rules

pub returns-then-self-clause-unchanged : goal.returns-then-self-clause-unchanged
returns-then-self-clause-unchanged c = search rules

pub returns-clause-refused : goal.returns-clause-refused
returns-clause-refused c = search rules

pub returns-clause-kept : goal.returns-clause-kept
returns-clause-kept c = search rules

pub invariant_of-self : goal.invariant_of-self
invariant_of-self c =
    let l : length c.write_on.new.tracks ≡ 35 = omega (arith, c.write_on.ensures.changed.count, ap length c.as_mut_slice.ensures.value, c.self.invariant.0.count) in
    subst (λ (t : List (List Bool)). (IsHeld (base_of c.self.inside.formatted c.self.inside.file.items) t) × (IsHead t c.write_on.new.head))
    (sym (take_at c.write_on.new.tracks _ c.self.inside.tracks.len (omega (arith, l, ap length c.as_mut_slice.ensures.value, c.self.invariant.0.count))))
    (held_changed _ _ _ _ c.self.invariant.0 (rw c.as_mut_slice.ensures.value at c.write_on.ensures.changed), c.write_on.ensures.head)
