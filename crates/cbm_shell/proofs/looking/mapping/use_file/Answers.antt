use Rattle.std.proofs.Common.{sym, ap, ◌∙◌}
use Rattle.cbm_bam.specs.Marks.{is_marked}
use Rattle.cbm_shell.specs.Mapping.{chain_of}
use Rattle.cbm_shell.specs.Marking.{with_places}
use Rattle.cbm_shell.proofs.MapLemmas.{used_by_none, used_by_sides}
use Rattle.cbm_shell.proofs.looking.mapping.use_file.Goals as goal

pub returns-then-not-is_closed : goal.returns-then-not-is_closed
returns-then-not-is_closed g c = used_by_none (is_marked c.args.used.now) c.args.geometry (g.M.Medium.seen c.args.medium.now).content c.args.entry.now (sym c.if-not-is_closed.ensures)

pub returns-then-is_relative : goal.returns-then-is_relative
returns-then-is_relative g c =
    let content = (g.M.Medium.seen c.args.medium.now).content in
    used_by_sides (is_marked c.args.used.now) (is_marked c.use_chain.new.used) (is_marked c.use_chain-then-is_relative.new.used) c.args.geometry content c.args.entry.now
    (sym c.if-not-is_closed.ensures) (sym c.if-is_relative.ensures)
    (c.use_chain.ensures ∙ ap (λ p. with_places (is_marked c.args.used.now) (chain_of c.args.geometry content p)) c.first_block.ensures)
    (c.use_chain-then-is_relative.ensures ∙ ap (λ p. with_places (is_marked c.use_chain.new.used) (chain_of c.args.geometry content p)) c.first_side.ensures)
