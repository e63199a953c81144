use Rattle.std.proofs.Common.{rules, ◌≡◌, false, Some, ◌==◌, refl, subst, ◌≤◌, length, true, inl, inr}
use Rattle.std.specs.Prelude.{slice_get}
use Rattle.std.proofs.lemmas.Option.{slice_get_read}
use Rattle.cbm_directory.specs.Entries.{type_byte}
use Rattle.cbm_slots.proofs.meant.find_meant.Goals as goal

pub returns-in_default-clause-err : goal.returns-in_default-clause-err
returns-in_default-clause-err c =
    let h = c.in_default.ensures.lookup in
    let past : length c.in_ok-entries.entries.items ≤ c.args.slot = subst (λ xs. length xs ≤ c.args.slot) c.as_slice.ensures.value h.3 in
    inr (c.in_ok-entries.entries.items, c.in_ok-entries.ensures.ok, inl past, refl)

pub returns-then-is_empty-clause-err : goal.returns-then-is_empty-clause-err
returns-then-is_empty-clause-err c =
    let h = c.in-Some.ensures.lookup in
    let entry = c.in-Some.entry.now in
    let empty : (type_byte entry == 0) ≡ true = search rules in
    let found = subst (λ xs. slice_get xs c.args.slot ≡ Some entry) c.as_slice.ensures.value (slice_get_read c.as_slice.result.now _ c.args.slot entry refl h.3.0 h.1) in
    inr (c.in_ok-entries.entries.items, c.in_ok-entries.ensures.ok, inr (entry, found, empty), refl)

pub returns-clause-there : goal.returns-clause-there
returns-clause-there c =
    let h = c.in-Some.ensures.lookup in
    let entry = c.in-Some.entry.now in
    let taken : (type_byte entry == 0) ≡ false = search rules in
    record {
      entry = entry;
      there = record {
        there = subst (λ xs. slice_get xs c.args.slot ≡ Some entry) c.as_slice.ensures.value (slice_get_read c.as_slice.result.now _ c.args.slot entry refl h.3.0 h.1);
        taken = taken;
      };
      name = search rules;
      blocks = search rules;
      locked = search rules;
    }
