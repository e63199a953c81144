use Rattle.cbm_channel.proofs.DoneParts.{unfailed_end}
use Rattle.cbm_drive.proofs.calls.end_put.Goals as goal

pub returns-clause-leads : goal.returns-clause-leads
returns-clause-leads g c = λ u. unfailed_end g.M.Medium.seen c.args.dos.now c.end_put.new.self u c.args.channel c.end_put.ensures.goes
