use Rattle.std.proofs.Common.{subst}
use Rattle.cbm_bam.specs.Map.{geometry_of}
use Rattle.cbm_directory.specs.Entries.{EntersLed}
use Rattle.cbm_slots.proofs.retyping.retyped.Goals as goal

-- The medium that is written is the volume's, with its geometry.
pub returns-clause-retyped : goal.returns-clause-retyped
returns-clause-retyped g c =
    let seen = g.M.Medium.seen in
    let old = (seen c.args.volume).content in
    let new = (seen c.put_slot.new.medium).content in
    record {
      entry = c.in_ok-entry.entry;
      file = c.in_ok-entry.ensures.plain;
      entered = subst (λ e. EntersLed (geometry_of (seen c.args.volume).tracks old) old new c.args.slot e) c.retyped_entry.ensures
          (subst (λ k. EntersLed k old new c.args.slot c.retyped_entry.result) c.geometry-geometry.ensures.value
          (subst (λ m. EntersLed c.geometry-geometry.result (seen m).content new c.args.slot c.retyped_entry.result) c.into_medium-medium.ensures c.in_ok-put_slot.ensures.exact));
    }
