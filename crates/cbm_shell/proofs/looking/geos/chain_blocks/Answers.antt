use Rattle.std.proofs.Common.{ap, ◌∙◌}
use Rattle.cbm_bam.specs.Marks.{is_marked}
use Rattle.cbm_shell.specs.Mapping.{chain_of}
use Rattle.cbm_shell.specs.Marking.{with_places}
use Rattle.cbm_shell.proofs.GeosLemmas.{one_geos}
use Rattle.cbm_shell.proofs.looking.geos.chain_blocks.Goals as goal

pub returns : goal.returns
returns g c =
    one_geos (is_marked c.new-used.result) (is_marked c.use_chain.new.used) _ c.new-used.ensures
    (c.use_chain.ensures ∙ ap (λ p. with_places (is_marked c.new-used.result) (chain_of c.args.geometry (g.M.Medium.seen c.args.medium.now).content p)) c.first_block.ensures)
