use Rattle.cbm_drive.proofs.Unfailed.{never_failed}
use Rattle.std.proofs.Common.{◌≡◌, Some, ap, subst, sym, ◌∙◌}
use Rattle.cbm_machine.specs.Machines.{start}
use Rattle.cbm_drive.specs.Desks.{DeskStands, at_first}
use Rattle.cbm_drive.specs.Ordered.{fault_of}
use Rattle.cbm_device.specs.ImageDisks.{counted_seen, never_fails}
use Rattle.cbm_device.specs.Plays.{machine_of, drive_powered}
use Rattle.cbm_device.proofs.Played.{never_memory, no_fault, on_bus, played_all}
use Rattle.cbm_device.proofs.playing.play.Goals as goal

pub returns-in-Ok-clause-played : goal.returns-in-Ok-clause-played
returns-in-Ok-clause-played c = λ d h.
    let b = c.args.party in
    let now = counted_seen c.args.disk in
    let m = start d now.protected now.tracks in
    let desk = c.with_pace-desk.ensures.stands (at_first b.device m) (c.at_power_up.ensures.stands d h) in
    let bus = on_bus b m c.new-bus.result.host c.new-bus.result.drives c.new.result c.new-bus.ensures.host c.new-bus.ensures.drives c.new.ensures.port
    (subst (λ x. DeskStands counted_seen x (machine_of b m b.device)) (sym c.new.ensures.machine) desk) in
    let none = no_fault (fault_of 0 0 c.args.end c.args.changes.now) (λ f e. let bad = (c.in-Ok.ensures.fault f e).0 in absurd cc) in
    played_all b m c.args.changes.now c.args.end c.args.events.now.items c.play.new.events.items c.play.new.self.host c.play.new.self.drives c.disk_of.result c.disk_of.ensures
    (c.in-Ok.ensures.played (never_failed (λ x. (counted_seen x.dos.medium).failures) (λ x. never_fails x.dos.medium) c.new-bus.result.drives c.play.new.self.drives) (drive_powered b m) none bus)

pub returns-in-Err-Memory-clause-refused : goal.returns-in-Err-Memory-clause-refused
returns-in-Err-Memory-clause-refused c =
    let fault = fault_of 0 0 c.args.end c.args.changes.now in
    let none = no_fault fault (λ f e.
    let same = (c.in-Err-Memory.ensures.fault f e).0 in
    let is : c.in-Err-Memory.field-0 ≡ f = cc in
    never_memory c.args.changes.now 0 0 c.args.end (e ∙ ap Some (sym is ∙ c.in-Err-Memory.field-0-is))) in
    rw none tt
