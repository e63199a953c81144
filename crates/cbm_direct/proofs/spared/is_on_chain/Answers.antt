use Rattle.std.proofs.Common.{◌≡◌, ◌+◌, ◌-◌, ◌∙◌, sym, subst, arith, true, false, Ok, Err}
use Rattle.cbm_medium.specs.Place.{is_place}
use Rattle.cbm_direct.proofs.Sparing.{Decides, decides_first, ends_off, ends_unread, ends_full, is_here, goes_on}
use Rattle.cbm_direct.proofs.spared.is_on_chain.Goals as goal

pub loop-done-init : goal.loop-done-init
loop-done-init g c = decides_first c.args.geometry (g.M.Medium.seen c.args.medium.now).content c.args.at c.args.first _ (omega (arith, c.sectors-count.ensures))

-- it isn't this one
pub loop-done-preserved : goal.loop-done-preserved
loop-done-preserved g c =
    let content = (g.M.Medium.seen c.args.medium.now).content in
    let n = c.sectors-count.result - (c.loop-done.done + 1) in
    let other : is_place c.in-Some.block c.args.at ≡ false = sym c.eq.ensures ∙ c.if-eq.false in
    subst (λ q. Decides c.args.geometry content c.args.at c.args.first n q) (sym c.of-link.ensures)
    (goes_on c.args.geometry content c.args.at c.args.first (c.sectors-count.result - c.loop-done.done) n c.loop-done.link c.in-Some.block c.in-Ok.bytes c.loop-done.invariant
    c.in-Some.ensures.0 (subst (λ q. content q ≡ Ok c.in-Ok.bytes) c.in-Some.ensures.1 c.in-Ok.ensures.ok) (omega (arith, c.loop-done-test.true)) c.in-Some.ensures.1 other)

-- it is this one
pub returns-then-eq : goal.returns-then-eq
returns-then-eq g c =
    let content = (g.M.Medium.seen c.args.medium.now).content in
    let same : is_place c.in-Some.block c.args.at ≡ true = sym c.eq.ensures ∙ c.if-eq.true in
    is_here c.args.geometry content c.args.at c.args.first (c.sectors-count.result - c.loop-done.done) (c.sectors-count.result - (c.loop-done.done + 1)) c.loop-done.link c.in-Some.block
    c.in-Ok.bytes c.loop-done.invariant c.in-Some.ensures.0 (subst (λ q. content q ≡ Ok c.in-Ok.bytes) c.in-Some.ensures.1 c.in-Ok.ensures.ok)
    (omega (arith, c.loop-done-test.true)) c.in-Some.ensures.1 same

-- the link names no sector
pub returns-in_default : goal.returns-in_default
returns-in_default g c =
    ends_off c.args.geometry (g.M.Medium.seen c.args.medium.now).content c.args.at c.args.first _ c.loop-done.link c.loop-done.invariant (λ h. c.in_default.ensures h)

-- the sector doesn't read
pub returns-in_default-read : goal.returns-in_default-read
returns-in_default-read g c =
    let content = (g.M.Medium.seen c.args.medium.now).content in
    ends_unread c.args.geometry content c.args.at c.args.first _ c.loop-done.link c.in_default-read.field-0.code c.loop-done.invariant c.in-Some.ensures.0
    (subst (λ q. content q ≡ Err c.in_default-read.field-0.code) c.in-Some.ensures.1 c.in_default-read.ensures.err.0)

-- no more sectors are left
pub returns : goal.returns
returns g c =
    ends_full c.args.geometry (g.M.Medium.seen c.args.medium.now).content c.args.at c.args.first _ c.loop-done.link c.loop-done.invariant (omega (arith, c.loop-done-test.false))
