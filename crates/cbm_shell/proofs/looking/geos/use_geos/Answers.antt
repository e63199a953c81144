use Rattle.std.proofs.Common.{sym, ap, ◌∙◌}
use Rattle.cbm_bam.specs.Marks.{is_marked}
use Rattle.cbm_shell.specs.Mapping.{chain_of}
use Rattle.cbm_shell.specs.Geos.{records_of}
use Rattle.cbm_shell.specs.Marking.{with_places}
use Rattle.cbm_shell.proofs.GeosLemmas.{nothing_more, no_geos, geos_plain, geos_listed}
use Rattle.cbm_shell.proofs.looking.geos.use_geos.Goals as goal

pub returns-then-not-is_geos : goal.returns-then-not-is_geos
returns-then-not-is_geos g c = nothing_more (is_marked c.args.used.now) _ (no_geos c.args.geometry (g.M.Medium.seen c.args.medium.now).content c.args.entry.now (sym c.if-not-is_geos.ensures))

pub returns-then-has_records : goal.returns-then-has_records
returns-then-has_records g c =
    let content = (g.M.Medium.seen c.args.medium.now).content in
    geos_listed (is_marked c.args.used.now) (is_marked c.use_chain.new.used) (is_marked c.use_records.new.used) c.args.geometry content c.args.entry.now
    (sym c.if-not-is_geos.ensures) (sym c.if-has_records.ensures)
    (c.use_chain.ensures ∙ ap (λ p. with_places (is_marked c.args.used.now) (chain_of c.args.geometry content p)) c.first_side.ensures)
    (c.use_records.ensures ∙ ap (λ p. with_places (is_marked c.use_chain.new.used) (records_of c.args.geometry content p)) c.first_block.ensures)

pub returns-else-has_records : goal.returns-else-has_records
returns-else-has_records g c =
    let content = (g.M.Medium.seen c.args.medium.now).content in
    geos_plain (is_marked c.args.used.now) (is_marked c.use_chain.new.used) c.args.geometry content c.args.entry.now
    (sym c.if-not-is_geos.ensures) (sym c.if-has_records.ensures)
    (c.use_chain.ensures ∙ ap (λ p. with_places (is_marked c.args.used.now) (chain_of c.args.geometry content p)) c.first_side.ensures)
