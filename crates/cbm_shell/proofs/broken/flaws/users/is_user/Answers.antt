use Rattle.cbm_bam.specs.Marks.{is_marked}
use Rattle.cbm_shell.proofs.FlawLemmas.{uses}
use Rattle.cbm_shell.proofs.broken.flaws.users.is_user.Goals as goal

pub returns : goal.returns
returns g c =
    uses c.args.geometry (g.M.Medium.seen c.args.medium.now).content c.args.entry.now (is_marked c.use_file.new.used) c.args.at (is_marked c.new-used.result) c.has.result
    c.new-used.ensures c.use_file.ensures c.has.ensures
