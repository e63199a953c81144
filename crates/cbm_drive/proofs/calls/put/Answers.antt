use Rattle.cbm_channel.proofs.DoneParts.{unfailed_put}
use Rattle.cbm_drive.proofs.calls.put.Goals as goal

pub returns-clause-leads : goal.returns-clause-leads
returns-clause-leads g c = λ u. unfailed_put g.M.Medium.seen c.args.dos.now c.put.new.self u c.args.channel c.args.byte c.put.ensures.goes
