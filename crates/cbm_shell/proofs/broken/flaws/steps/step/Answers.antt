use Rattle.std.proofs.Common.{sym}
use Rattle.cbm_bam.specs.Marks.{is_marked}
use Rattle.cbm_shell.specs.Flaws.{flawed}
use Rattle.cbm_shell.proofs.FlawLemmas.{step_on}
use Rattle.cbm_shell.proofs.broken.flaws.steps.step.Goals as goal

pub returns : goal.returns
returns g c =
    step_on c.args.whose c.args.geometry (g.M.Medium.seen c.args.medium.now).content (is_marked c.args.found.now.claimed) (is_marked c.insert.new.self) c.args.at c.in-Some.address c.in-Ok.bytes
    c.is_free_at-is_free.result (flawed c.args.whose c.args.before c.args.at) c.flawed-2.result c.args.found.now.flaws.items c.add_free.new.out.items
    c.in-Some.ensures.0 c.in-Some.ensures.1 (sym c.if-has.ensures) c.in-Ok.ensures.ok c.is_free_at-is_free.ensures c.flawed-2.ensures c.in_ok-add_free.ensures c.insert.ensures
