use Rattle.std.proofs.Common.{◌∙◌, sym, ap, subst, Ok, Err, ◌≡◌}
use Rattle.cbm_bam.specs.Marks.{is_marked}
use Rattle.cbm_shell.specs.Marking.{with_places}
use Rattle.cbm_shell.proofs.GeosLemmas.{nothing_more, records_off, records_read}
use Rattle.cbm_shell.proofs.looking.geos.use_records.Goals as goal

pub returns-in_default : goal.returns-in_default
returns-in_default g c =
    nothing_more (is_marked c.args.used.now) _ (records_off c.args.geometry (g.M.Medium.seen c.args.medium.now).content c.args.list (λ h. c.in_default.ensures h))

pub returns-in_default-read : goal.returns-in_default-read
returns-in_default-read g c =
    let content = (g.M.Medium.seen c.args.medium.now).content in
    nothing_more (is_marked c.args.used.now) _ (records_read c.args.geometry content c.args.list (Err c.in_default-read.field-0.code) c.in-Some.ensures.0
    (subst (λ q. content q ≡ Err c.in_default-read.field-0.code) c.in-Some.ensures.1 c.in_default-read.ensures.err.0))

pub returns : goal.returns
returns g c =
    let content = (g.M.Medium.seen c.args.medium.now).content in
    c.use_chains.ensures ∙ ap (with_places (is_marked c.args.used.now))
    (sym (records_read c.args.geometry content c.args.list (Ok c.in-Ok.block) c.in-Some.ensures.0
    (subst (λ q. content q ≡ Ok c.in-Ok.block) c.in-Some.ensures.1 c.in-Ok.ensures.ok)))
