use Rattle.std.proofs.Common.{rules}
use Rattle.cbm_channel.proofs.Stands.{told_anew, stood}
use Rattle.cbm_channel.proofs.dos.Dos.set.Goals as goal

pub returns-clause-leads : goal.returns-clause-leads
returns-clause-leads g c = λ m s. told_anew _ _ _ _ _ _ m c.args.status _ (search rules) (stood g.M.Medium.seen _ _ m c.self.view_is s)
