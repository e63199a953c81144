use Rattle.std.proofs.Common.{◌+◌, ◌-◌, arith, refl}
use Rattle.cbm_medium.proofs.Sequences.{nothing_yet, only_more}
use Rattle.cbm_medium.specs.Seen.{Seen}
use Rattle.cbm_relfile.proofs.SidesLinked.{linked_none, linked_more, linked_all}
use Rattle.cbm_volume.specs.Growing.{IsGrowthStopped}
use Rattle.cbm_volume.proofs.copied.CopySteps.{handed}
use Rattle.cbm_volume.proofs.grown.GrowingJoined.{copied_none, copied_more, copied_stop}
use Rattle.cbm_volume.proofs.grown.SidesAnswers.{OfEmpty, ok_then, stop_then}
use Rattle.cbm_volume.proofs.OneAfterAnother.{second_refused}
use Rattle.cbm_volume.proofs.records.growing_blocks.copy_sides.Goals as goal

pub loop-passed-init : goal.loop-passed-init
loop-passed-init g c = (copied_none (g.M.Medium.seen c.args.medium.now) c.args.file c.args.geometry c.args.sides c.args.side, nothing_yet (g.M.Medium.seen c.args.medium.now), omega arith, λ head sides. linked_none (g.M.Medium.seen c.args.medium.now).content head (c.args.sides + 1 - 1) c.args.sides c.args.side (omega arith), λ c0 d uses n w b s rs o e h. h)

pub returns-in_err-copy_side-clause-copied : goal.returns-in_err-copy_side-clause-copied
returns-in_err-copy_side-clause-copied g c = λ b1 q c0 d uses n w b s rs o e h.
    let old : Seen = g.M.Medium.seen c.args.medium.now in
    let mid : Seen = g.M.Medium.seen c.loop-passed.medium in
    let new : Seen = g.M.Medium.seen c.copy_side.new.medium in
    handed c.from_residual.result c.in_err-copy_side.field-0.0 _ (IsGrowthStopped old new c0 o.holds.layout d uses n w rs) c.from_residual.ensures.1
    (copied_stop _ old mid new c.args.file c.args.geometry c.args.sides (c.args.sides - c.loop-passed.passed) c.args.side c.in_err-copy_side.field-0.0 c.loop-passed.invariant.0 c.loop-passed.invariant.1 (omega (arith, c.loop-passed-test.true)) (λ c1 d1 uses1 n1 w1 b2 s2 bb rs1 q1 o1 e1 h1 some1. c.in_err-copy_side.ensures.copied bb q1 some1 c1 d1 uses1 n1 w1 b2 s2 rs1 o1 e1 h1) c0 d uses n w b s b1 rs q o e h)

pub loop-passed-preserved : goal.loop-passed-preserved
loop-passed-preserved g c =
    let old : Seen = g.M.Medium.seen c.args.medium.now in
    let mid : Seen = g.M.Medium.seen c.loop-passed.medium in
    let new : Seen = g.M.Medium.seen c.copy_side.new.medium in (
      copied_more old mid new c.args.file c.args.geometry c.args.sides (c.args.sides - c.loop-passed.passed) c.args.side c.loop-passed.invariant.0 c.loop-passed.invariant.1.tracks (omega (arith, c.loop-passed-test.true)) (λ c1 d1 uses1 n1 w1 b2 s2 bb rs1 q1 o1 e1 h1 some1. c.in_ok-copy_side.ensures.copied bb q1 some1 c1 d1 uses1 n1 w1 b2 s2 rs1 o1 e1 h1),
      only_more c.in_ok-copy_side.field-0 old mid new c.loop-passed.invariant.1 c.in_ok-copy_side.ensures.only,
      omega (arith, c.loop-passed.invariant.2),
      λ head. linked_more c.args.geometry old.content mid.content new.content c.args.file.side head (c.args.sides - c.loop-passed.passed) (c.args.sides + 1 - c.loop-passed.passed) (c.args.sides + 1 - (c.loop-passed.passed + 1)) c.args.sides c.args.side
          (omega (arith, c.loop-passed-test.true)) (omega (arith, c.loop-passed-test.true)) (omega (arith, c.loop-passed-test.true)) (omega (arith, c.loop-passed-test.true, c.loop-passed.invariant.2)) c.in_ok-copy_side.ensures.linked (c.loop-passed.invariant.3 head),
      ok_then old mid new c.args.geometry (OfEmpty c.args.file c.args.sides c.args.side) (OfEmpty c.args.file c.args.sides c.args.side) (OfEmpty c.args.file c.args.sides c.args.side) c.loop-passed.invariant.1.tracks c.loop-passed.invariant.4
          (c.in_ok-copy_side.ensures.copied_empty (omega (arith, c.loop-passed-test.true))),
    )

pub returns-clause-copied : goal.returns-clause-copied
returns-clause-copied g c = λ b1 q c0 d uses n w b s rs o e h. c.loop-passed.invariant.0 c0 d uses n w b s b1 rs q o e h

pub returns-clause-linked : goal.returns-clause-linked
returns-clause-linked g c = λ head sides.
    linked_all (g.M.Medium.seen c.args.medium.now).content (g.M.Medium.seen c.loop-passed.medium).content head (c.args.sides + 1 - c.loop-passed.passed) c.args.sides c.args.side
    (omega (arith, c.loop-passed-test.false)) (λ some. omega (arith, some, c.loop-passed.auto.passed-end)) (c.loop-passed.invariant.3 head sides)

-- the new one lists no block
pub returns-in_err-copy_side-clause-copied_empty : goal.returns-in_err-copy_side-clause-copied_empty
returns-in_err-copy_side-clause-copied_empty g c = λ c0 d uses n w b s rs o e h.
    let old : Seen = g.M.Medium.seen c.args.medium.now in
    let mid : Seen = g.M.Medium.seen c.loop-passed.medium in
    let new : Seen = g.M.Medium.seen c.copy_side.new.medium in
    let i = c.loop-passed.invariant in
    handed c.from_residual.result c.in_err-copy_side.field-0.0 _ (IsGrowthStopped old new c0 o.holds.layout d uses n w rs) c.from_residual.ensures.1
    (stop_then old mid new c.args.geometry c.in_err-copy_side.field-0.0 (OfEmpty c.args.file c.args.sides c.args.side) (OfEmpty c.args.file c.args.sides c.args.side) (OfEmpty c.args.file c.args.sides c.args.side) i.1.tracks i.1.protected i.1.counted i.4
    (c.in_err-copy_side.ensures.copied_empty (omega (arith, c.loop-passed-test.true))) c0 d uses n w b s rs o e h)

pub returns-clause-copied_empty : goal.returns-clause-copied_empty
returns-clause-copied_empty g c = c.loop-passed.invariant.4

pub returns-in_err-copy_side-clause-only : goal.returns-in_err-copy_side-clause-only
returns-in_err-copy_side-clause-only g c = second_refused c.from_residual.result refl c.in_err-copy_side.was c.from_residual.ensures.1 c.loop-passed.invariant.1 c.copy_side.ensures.only
