use Rattle.std.proofs.Common.{◌≡◌, ◌+◌, ◌-◌, sym, ap, subst, ◌∙◌, arith, Ok, Err}
use Rattle.cbm_medium.specs.Place.{directory_head}
use Rattle.cbm_medium.specs.Links.{follow}
use Rattle.cbm_shell.specs.Mapping.{chain_of, free_by}
use Rattle.cbm_shell.specs.Undeleting.{all_blocks_free}
use Rattle.cbm_shell.proofs.MapLemmas.{stops_off, stops_unread, stops_full}
use Rattle.cbm_shell.proofs.UndeleteLemmas.{free_begins, free_over, free_not, free_more}
use Rattle.cbm_shell.proofs.broken.undeleting.is_free_chain.Goals as goal

pub loop-done-init : goal.loop-done-init
loop-done-init g c = free_begins c.args.geometry (g.M.Medium.seen c.args.medium.now).content _ c.args.from (omega (arith, c.sectors-count.ensures))

pub loop-done-preserved : goal.loop-done-preserved
loop-done-preserved g c =
    let content = (g.M.Medium.seen c.args.medium.now).content in
    let m = c.sectors-count.result - c.loop-done.done in
    let n = c.sectors-count.result - (c.loop-done.done + 1) in
    let whole = all_blocks_free content (chain_of c.args.geometry content c.args.from) in
    subst (λ q. all_blocks_free content (follow c.args.geometry content n q).blocks ≡ whole) (sym c.of-link.ensures)
    (free_more c.args.geometry content m n c.loop-done.link c.in-Ok.bytes whole c.loop-done.invariant c.in-Some.ensures.0
    (subst (λ q. content q ≡ Ok c.in-Ok.bytes) c.in-Some.ensures.1 c.in-Ok.ensures.ok) (omega (arith, c.loop-done-test.true))
    (ap (free_by (content directory_head)) (sym c.in-Some.ensures.1) ∙ sym c.if-not-is_free_at.ensures))

pub returns-in_default : goal.returns-in_default
returns-in_default g c =
    let content = (g.M.Medium.seen c.args.medium.now).content in
    free_over content _ _ c.loop-done.invariant (stops_off c.args.geometry content _ c.loop-done.link (λ h. c.in_default.ensures h))

pub returns-in_default-read : goal.returns-in_default-read
returns-in_default-read g c =
    let content = (g.M.Medium.seen c.args.medium.now).content in
    free_over content _ _ c.loop-done.invariant (stops_unread c.args.geometry content _ c.loop-done.link c.in_default-read.field-0.code
    c.in-Some.ensures.0 (subst (λ q. content q ≡ Err c.in_default-read.field-0.code) c.in-Some.ensures.1 c.in_default-read.ensures.err.0))

pub returns-then-not-is_free_at : goal.returns-then-not-is_free_at
returns-then-not-is_free_at g c =
    let content = (g.M.Medium.seen c.args.medium.now).content in
    let m = c.sectors-count.result - c.loop-done.done in
    let n = c.sectors-count.result - (c.loop-done.done + 1) in
    let whole = all_blocks_free content (chain_of c.args.geometry content c.args.from) in
    free_not c.args.geometry content m n c.loop-done.link c.in-Ok.bytes whole c.loop-done.invariant c.in-Some.ensures.0
    (subst (λ q. content q ≡ Ok c.in-Ok.bytes) c.in-Some.ensures.1 c.in-Ok.ensures.ok) (omega (arith, c.loop-done-test.true))
    (ap (free_by (content directory_head)) (sym c.in-Some.ensures.1) ∙ sym c.if-not-is_free_at.ensures)

pub returns : goal.returns
returns g c =
    let content = (g.M.Medium.seen c.args.medium.now).content in
    free_over content _ _ c.loop-done.invariant (stops_full c.args.geometry content _ c.loop-done.link (omega (arith, c.loop-done-test.false)))
