use Rattle.std.proofs.Common.{sym, ap, ◌∙◌}
use Rattle.cbm_bam.specs.Marks.{is_marked}
use Rattle.cbm_shell.specs.Mapping.{chain_of}
use Rattle.cbm_shell.specs.Marking.{with_places}
use Rattle.cbm_odd.proofs.ReachLemmas.{reach_plain, reach_sides}
use Rattle.cbm_odd.proofs.held.reach_one.Goals as goal

pub returns-then-is_relative : goal.returns-then-is_relative
returns-then-is_relative g c =
    let content = (g.M.Medium.seen c.args.medium.now).content in
    reach_sides (is_marked c.args.reached.now) (is_marked c.use_chain.new.used) (is_marked c.use_chain-then-is_relative.new.used) c.args.geometry content c.args.entry.now
    (sym c.if-is_relative.ensures)
    (c.use_chain.ensures ∙ ap (λ p. with_places (is_marked c.args.reached.now) (chain_of c.args.geometry content p)) c.first_block.ensures)
    (c.use_chain-then-is_relative.ensures ∙ ap (λ p. with_places (is_marked c.use_chain.new.used) (chain_of c.args.geometry content p)) c.first_side.ensures)

pub returns-else-is_relative : goal.returns-else-is_relative
returns-else-is_relative g c =
    let content = (g.M.Medium.seen c.args.medium.now).content in
    reach_plain (is_marked c.args.reached.now) (is_marked c.use_chain.new.used) c.args.geometry content c.args.entry.now
    (sym c.if-is_relative.ensures)
    (c.use_chain.ensures ∙ ap (λ p. with_places (is_marked c.args.reached.now) (chain_of c.args.geometry content p)) c.first_block.ensures)
