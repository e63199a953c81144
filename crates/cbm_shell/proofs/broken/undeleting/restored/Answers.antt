use Rattle.std.proofs.Common.{subst}
use Rattle.cbm_bam.specs.Map.{geometry_of}
use Rattle.cbm_directory.specs.Entries.{EntersLed}
use Rattle.cbm_shell.proofs.broken.undeleting.restored.Goals as goal

pub returns-clause-entered : goal.returns-clause-entered
returns-clause-entered g c =
    let seen = g.M.Medium.seen in
    let old = (seen c.args.volume).content in
    let new = (seen c.put_slot.new.medium).content in
    subst (λ e. EntersLed (geometry_of (seen c.args.volume).tracks old) old new c.args.slot e) c.restored_entry.ensures
    (subst (λ k. EntersLed k old new c.args.slot c.restored_entry.result) c.geometry-geometry.ensures.value
    (subst (λ m. EntersLed c.geometry-geometry.result (seen m).content new c.args.slot c.restored_entry.result) c.into_medium-medium.ensures c.in_ok-put_slot.ensures.exact))
