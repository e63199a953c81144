use Rattle.std.proofs.Common.{sym, subst}
use Rattle.cbm_program.specs.Checking.{PrintsCheck}
use Rattle.cbm_program.proofs.images.checking.print_check.Goals as goal

pub returns-then-checks-clause-check : goal.returns-then-checks-clause-check
returns-then-checks-clause-check g c =
    subst (λ b. PrintsCheck c.print_line.result (g.M.Medium.seen c.args.volume.now) b (g.W.Write.contents c.args.writer.now) (g.W.Write.contents c.print_line.new.writer)) (sym c.if-checks.true) c.print_line.ensures
