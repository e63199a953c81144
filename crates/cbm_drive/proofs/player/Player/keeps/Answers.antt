use Rattle.cbm_drive.proofs.Kept.{kept_after}
use Rattle.cbm_drive.proofs.player.Player.keeps.Goals as goal

pub returns : goal.returns
returns g c = λ bs ms es end is_bus none a late timing. kept_after _ g.D.Machine.State g.D.Machine.stands g.D.Machine.step g.D.Machine.says g.met.D.Machine.more c.args.self.now c.args.bus.now bs ms es end is_bus none a late timing
