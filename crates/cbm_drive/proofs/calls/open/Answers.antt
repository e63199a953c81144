use Rattle.cbm_channel.proofs.DoneParts.{unfailed_open}
use Rattle.cbm_drive.proofs.calls.open.Goals as goal

pub returns-clause-leads : goal.returns-clause-leads
returns-clause-leads g c = λ u. unfailed_open g.M.Medium.seen c.args.dos.now c.open.new.self u c.args.channel c.args.name.now c.open.ensures.goes
