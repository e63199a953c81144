use Rattle.std.proofs.Common.{◌∙◌, sym, ap, subst, ◌≡◌, true, false, Ok, Err}
use Rattle.cbm_bam.specs.Marks.{is_marked}
use Rattle.cbm_shell.specs.Mapping.{chain_of}
use Rattle.cbm_shell.specs.Marking.{with_places}
use Rattle.cbm_shell.proofs.GeosLemmas.{nothing_more, border_off, border_read}
use Rattle.cbm_shell.proofs.looking.geos.use_border.Goals as goal

pub returns-in_default : goal.returns-in_default
returns-in_default g c =
    let content = (g.M.Medium.seen c.args.medium.now).content in
    nothing_more (is_marked c.args.used.now) _ (border_off c.args.geometry content c.in_default.field-0.code
    (subst (λ p. content p ≡ Err c.in_default.field-0.code) c.of_map.ensures.value c.in_default.ensures.err.0))

pub returns-then-is_geos_map : goal.returns-then-is_geos_map
returns-then-is_geos_map g c =
    let content = (g.M.Medium.seen c.args.medium.now).content in
    c.use_chain.ensures ∙ ap (λ p. with_places (is_marked c.args.used.now) (chain_of c.args.geometry content p)) c.new-border.ensures
    ∙ ap (with_places (is_marked c.args.used.now)) (sym (border_read c.args.geometry content c.in-Ok.map true
    (subst (λ p. content p ≡ Ok c.in-Ok.map) c.of_map.ensures.value c.in-Ok.ensures.ok) (sym c.if-is_geos_map.ensures)))

pub returns-else-is_geos_map : goal.returns-else-is_geos_map
returns-else-is_geos_map g c =
    let content = (g.M.Medium.seen c.args.medium.now).content in
    nothing_more (is_marked c.args.used.now) _ (border_read c.args.geometry content c.in-Ok.map false
    (subst (λ p. content p ≡ Ok c.in-Ok.map) c.of_map.ensures.value c.in-Ok.ensures.ok) (sym c.if-is_geos_map.ensures))
