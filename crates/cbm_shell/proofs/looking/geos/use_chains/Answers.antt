use Rattle.cbm_bam.specs.Marks.{is_marked}
use Rattle.cbm_shell.proofs.GeosLemmas.{chains-none, chains-more}
use Rattle.cbm_shell.proofs.looking.geos.use_chains.Goals as goal

pub loop-number-init : goal.loop-number-init
loop-number-init g c = chains-none (is_marked c.args.used.now) c.args.geometry (g.M.Medium.seen c.args.medium.now).content c.args.block.now

pub loop-number-preserved : goal.loop-number-preserved
loop-number-preserved g c =
    chains-more (is_marked c.args.used.now) (is_marked c.loop-number.used) (is_marked c.use_chain.new.used) c.args.geometry (g.M.Medium.seen c.args.medium.now).content
    c.args.block.now c.loop-number.number c.new-first.result c.loop-number.invariant c.use_chain.ensures c.new-first.ensures
