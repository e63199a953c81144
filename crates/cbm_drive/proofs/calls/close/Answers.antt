use Rattle.cbm_channel.proofs.DoneParts.{unfailed_close}
use Rattle.cbm_drive.proofs.calls.close.Goals as goal

pub returns-clause-leads : goal.returns-clause-leads
returns-clause-leads g c = λ u. unfailed_close g.M.Medium.seen c.args.dos.now c.close.new.self u c.args.channel c.close.ensures.goes
