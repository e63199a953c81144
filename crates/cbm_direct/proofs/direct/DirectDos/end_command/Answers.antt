use Rattle.std.proofs.Common.{◌≡◌, Some, rules}
use Rattle.cbm_direct.proofs.Handed.{commanded}
use Rattle.cbm_direct.proofs.direct.DirectDos.end_command.Goals as goal

pub returns-in-Some-clause-command : goal.returns-in-Some-clause-command
returns-in-Some-clause-command g c = λ a e.
    let same : Some c.in-Some.asked ≡ Some a = search rules in
    commanded g.M.Medium.seen c.in-Some.asked a _ c.forget_command.new.self _ same c.forget_command.ensures.dos c.carry_out.ensures.carried
