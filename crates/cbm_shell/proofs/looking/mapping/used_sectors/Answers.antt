use Rattle.std.proofs.Common.{◌∙◌, ap}
use Rattle.cbm_bam.specs.Marks.{is_marked}
use Rattle.cbm_shell.specs.Mapping.{chain_of}
use Rattle.cbm_shell.specs.Marking.{with_places}
use Rattle.cbm_shell.proofs.MapLemmas.{all_used}
use Rattle.cbm_shell.proofs.looking.mapping.used_sectors.Goals as goal

pub returns : goal.returns
returns g c =
    let content = (g.M.Medium.seen c.args.medium.now).content in
    all_used (is_marked c.new-used.result) (is_marked c.use_chain.new.used) (is_marked c.use_chain-2.new.used) (is_marked c.use_files.new.used) _ _ _ c.new-used.ensures
    (c.use_chain.ensures ∙ ap (λ p. with_places (is_marked c.new-used.result) (chain_of c.args.geometry content p)) c.new.ensures)
    (c.use_chain-2.ensures ∙ ap (λ p. with_places (is_marked c.use_chain.new.used) (chain_of c.args.geometry content p)) c.new-2.ensures)
    c.use_files.ensures
