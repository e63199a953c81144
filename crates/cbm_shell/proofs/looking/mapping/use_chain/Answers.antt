use Rattle.std.proofs.Common.{◌≡◌, ◌+◌, ◌-◌, sym, ap, subst, ◌∙◌, arith, true, Ok, Err}
use Rattle.cbm_bam.specs.Marks.{is_marked}
use Rattle.cbm_medium.specs.Links.{follow}
use Rattle.cbm_bam.specs.Map.{with_bit}
use Rattle.cbm_shell.specs.Mapping.{chain_of}
use Rattle.cbm_shell.specs.Marking.{with_places}
use Rattle.cbm_shell.proofs.MapLemmas.{chain_begins, used_all, used_more, stops_off, stops_unread, stops_full}
use Rattle.cbm_shell.proofs.looking.mapping.use_chain.Goals as goal

pub loop-done-init : goal.loop-done-init
loop-done-init g c =
    chain_begins (is_marked c.args.used.now) c.args.geometry (g.M.Medium.seen c.args.medium.now).content _ c.args.from (omega (arith, c.sectors-count.ensures))

pub loop-done-preserved : goal.loop-done-preserved
loop-done-preserved g c =
    let content = (g.M.Medium.seen c.args.medium.now).content in
    let m = c.sectors-count.result - c.loop-done.done in
    let n = c.sectors-count.result - (c.loop-done.done + 1) in
    let whole = with_places (is_marked c.args.used.now) (chain_of c.args.geometry content c.args.from) in
    subst (λ q. with_places (is_marked c.insert.new.self) (follow c.args.geometry content n q).blocks ≡ whole) (sym c.of-link.ensures)
    (used_more (is_marked c.loop-done.used) (is_marked c.insert.new.self) whole c.args.geometry content m n c.loop-done.link c.in-Ok.bytes c.loop-done.invariant
    c.in-Some.ensures.0 (subst (λ q. content q ≡ Ok c.in-Ok.bytes) c.in-Some.ensures.1 c.in-Ok.ensures.ok)
    (omega (arith, c.loop-done-test.true)) (c.insert.ensures ∙ ap (λ q. with_bit (is_marked c.loop-done.used) q true) c.in-Some.ensures.1))

pub returns-in_default : goal.returns-in_default
returns-in_default g c =
    used_all _ _ _ c.loop-done.invariant (stops_off c.args.geometry (g.M.Medium.seen c.args.medium.now).content _ c.loop-done.link (λ h. c.in_default.ensures h))

pub returns-in_default-read : goal.returns-in_default-read
returns-in_default-read g c =
    let content = (g.M.Medium.seen c.args.medium.now).content in
    used_all _ _ _ c.loop-done.invariant (stops_unread c.args.geometry content _ c.loop-done.link c.in_default-read.field-0.code
    c.in-Some.ensures.0
    (subst (λ q. content q ≡ Err c.in_default-read.field-0.code) c.in-Some.ensures.1 c.in_default-read.ensures.err.0))

pub returns : goal.returns
returns g c = used_all _ _ _ c.loop-done.invariant (stops_full c.args.geometry (g.M.Medium.seen c.args.medium.now).content _ c.loop-done.link (omega (arith, c.loop-done-test.false)))
