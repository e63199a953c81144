use Rattle.std.proofs.Common.{◌≡◌, ◌+◌, ◌-◌, ◌++◌, [], ◌∷◌, sym, ap, subst, ◌∙◌, arith, Ok, Err, refl}
use Rattle.cbm_medium.specs.Links.{follow}
use Rattle.cbm_shell.specs.Mapping.{chain_of}
use Rattle.cbm_shell.proofs.MapLemmas.{stops_off, stops_unread, stops_full}
use Rattle.cbm_place.specs.Moves.{held_blocks}
use Rattle.cbm_place.proofs.MoveParts.{walk-begins, walk-more, walk-all, held-none, held-more}
use Rattle.cbm_place.proofs.chain.chain_of.Goals as goal

pub loop-done-init : goal.loop-done-init
loop-done-init g c =
    let content = (g.M.Medium.seen c.args.medium.now).content in (
      walk-begins c.new.result.items c.args.geometry content _ c.args.from c.new.ensures.items (omega (arith, c.sectors-count.ensures)),
      held-none content c.new.result.items c.new-2.result.items c.new.ensures.items c.new-2.ensures.items,
    )

pub loop-done-preserved : goal.loop-done-preserved
loop-done-preserved g c =
    let content = (g.M.Medium.seen c.args.medium.now).content in
    let m = c.sectors-count.result - c.loop-done.done in
    let n = c.sectors-count.result - (c.loop-done.done + 1) in
    let whole = chain_of c.args.geometry content c.args.from in
    let reads = subst (λ q. content q ≡ Ok c.in-Ok.bytes) c.in-Some.ensures.1 c.in-Ok.ensures.ok in (
      subst (λ q. c.add_block.new.chain.places.items ++ (follow c.args.geometry content n q).blocks ≡ whole) (sym c.of-link.ensures)
          (walk-more c.loop-done.chain.places.items c.add_block.new.chain.places.items whole c.args.geometry content m n c.loop-done.link c.in-Ok.bytes c.loop-done.invariant.0
          c.in-Some.ensures.0 reads (omega (arith, c.loop-done-test.true))
          (c.in_ok-add_block.ensures.places ∙ ap (λ q. c.loop-done.chain.places.items ++ q ∷ []) c.in-Some.ensures.1)),
      held-more content c.loop-done.chain.places.items c.add_block.new.chain.places.items c.loop-done.chain.blocks.items c.add_block.new.chain.blocks.items c.in-Some.at c.in-Ok.bytes
          c.loop-done.invariant.1 c.in-Ok.ensures.ok c.in_ok-add_block.ensures.places c.in_ok-add_block.ensures.blocks,
    )

pub returns-in_default-clause-places : goal.returns-in_default-clause-places
returns-in_default-clause-places g c =
    walk-all _ _ _ c.loop-done.invariant.0 (stops_off c.args.geometry (g.M.Medium.seen c.args.medium.now).content _ c.loop-done.link (λ h. c.in_default.ensures h))

pub returns-in_default-clause-blocks : goal.returns-in_default-clause-blocks
returns-in_default-clause-blocks g c =
    let content = (g.M.Medium.seen c.args.medium.now).content in
    c.loop-done.invariant.1 ∙ ap (held_blocks content) (walk-all _ _ _ c.loop-done.invariant.0 (stops_off c.args.geometry content _ c.loop-done.link (λ h. c.in_default.ensures h)))

pub returns-in_default-read-clause-places : goal.returns-in_default-read-clause-places
returns-in_default-read-clause-places g c =
    let content = (g.M.Medium.seen c.args.medium.now).content in
    walk-all _ _ _ c.loop-done.invariant.0 (stops_unread c.args.geometry content _ c.loop-done.link c.in_default-read.field-0.code c.in-Some.ensures.0
    (subst (λ q. content q ≡ Err c.in_default-read.field-0.code) c.in-Some.ensures.1 c.in_default-read.ensures.err.0))

pub returns-in_default-read-clause-blocks : goal.returns-in_default-read-clause-blocks
returns-in_default-read-clause-blocks g c =
    let content = (g.M.Medium.seen c.args.medium.now).content in
    c.loop-done.invariant.1 ∙ ap (held_blocks content) (walk-all _ _ _ c.loop-done.invariant.0 (stops_unread c.args.geometry content _ c.loop-done.link c.in_default-read.field-0.code c.in-Some.ensures.0
    (subst (λ q. content q ≡ Err c.in_default-read.field-0.code) c.in-Some.ensures.1 c.in_default-read.ensures.err.0)))

pub returns-clause-places : goal.returns-clause-places
returns-clause-places g c =
    walk-all _ _ _ c.loop-done.invariant.0 (stops_full c.args.geometry (g.M.Medium.seen c.args.medium.now).content _ c.loop-done.link (omega (arith, c.loop-done-test.false)))

pub returns-clause-blocks : goal.returns-clause-blocks
returns-clause-blocks g c =
    let content = (g.M.Medium.seen c.args.medium.now).content in
    c.loop-done.invariant.1 ∙ ap (held_blocks content) (walk-all _ _ _ c.loop-done.invariant.0 (stops_full c.args.geometry content _ c.loop-done.link (omega (arith, c.loop-done-test.false))))
