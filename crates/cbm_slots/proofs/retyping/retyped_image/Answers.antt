use Rattle.cbm_image.specs.AnyDisks.{any_seen}
use Rattle.cbm_slots.proofs.RetypingLemmas.{unretyped}
use Rattle.cbm_slots.proofs.retyping.retyped_image.Goals as goal

pub returns-clause-fault : goal.returns-clause-fault
returns-clause-fault c =
    let old = any_seen c.args.volume in
    let new = any_seen c.in_ok-disk.disk in
    unretyped old.tracks new.tracks old.content new.content c.args.slot c.args.kind c.fit_image.result c.in_ok-disk.ensures.tracks c.in_ok-disk.ensures.retyped c.fit_image.ensures.fault
