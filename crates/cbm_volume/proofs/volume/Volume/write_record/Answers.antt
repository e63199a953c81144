use Rattle.std.proofs.Common.{ap, subst}
use Rattle.cbm_medium.specs.Seen.{Seen}
use Rattle.cbm_volume.specs.RecordWrites.{PutsRecord}
use Rattle.cbm_volume.specs.RecordFaults.{NoneLacksRecord}
use Rattle.cbm_volume.proofs.volume.Volume.write_record.Goals as goal

pub returns-clause-put : goal.returns-clause-put
returns-clause-put g c =
    subst (λ (old : Seen). PutsRecord c.write_in_slot.result old (g.M.Medium.seen c.write_in_slot.new.medium) c.args.slot c.args.number c.args.position c.args.bytes.now) (ap (λ m. g.M.Medium.seen m) c.self.view_is) c.write_in_slot.ensures.put

pub returns-clause-missing : goal.returns-clause-missing
returns-clause-missing g c =
    subst (λ (old : Seen). NoneLacksRecord c.write_in_slot.result old c.args.slot c.args.number c.args.position) (ap (λ m. g.M.Medium.seen m) c.self.view_is) c.write_in_slot.ensures.missing
