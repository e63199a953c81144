use Rattle.std.proofs.Common.{◌≡◌, ◌+◌, ℕ, subst, arith, refl}
use Rattle.cbm_medium.proofs.Sequences.{nothing_yet, only_more}
use Rattle.cbm_medium.specs.Seen.{Seen}
use Rattle.cbm_volume.specs.Growing.{HasGrown, IsGrowthStopped}
use Rattle.cbm_file.specs.Records.{sides_for}
use Rattle.cbm_volume.proofs.copied.CopySteps.{handed}
use Rattle.cbm_volume.proofs.grown.GrowingJoined.{turned_none, turned_more, turned_stop}
use Rattle.cbm_volume.proofs.OneAfterAnother.{second_refused}
use Rattle.cbm_volume.proofs.records.growing_blocks.grow_blocks.Goals as goal

pub loop-passed-init : goal.loop-passed-init
loop-passed-init g c = (
  turned_none (g.M.Medium.seen c.args.medium.now) c.args.file c.args.geometry c.args.from.blocks c.args.from.sides c.args.from.last c.args.count,
  nothing_yet (g.M.Medium.seen c.args.medium.now),
  omega arith,
  c.requires.sides,
  c.requires.last,
  omega arith,
)

pub returns-in_err-reach-clause-grown : goal.returns-in_err-reach-clause-grown
returns-in_err-reach-clause-grown g c = λ c0 d uses n w b s rs o e both.
    let h = both.0 in
    let room = both.1 in
    let old : Seen = g.M.Medium.seen c.args.medium.now in
    let mid : Seen = g.M.Medium.seen c.loop-passed.medium in
    let new : Seen = g.M.Medium.seen c.grow_once.new.medium in
    handed c.from_residual.result c.in_err-reach.field-0.0 _ (IsGrowthStopped old new c0 o.holds.layout d uses n w rs) c.from_residual.ensures.1
    (turned_stop old mid new c.args.file c.args.geometry c.args.from.blocks c.args.from.sides c.args.from.last c.args.count c.loop-passed.passed c.loop-passed.reach.blocks c.loop-passed.reach.sides c.loop-passed.reach.last 0 c.args.from.last c.in_err-reach.field-0.0
    c.loop-passed.invariant.0 c.loop-passed.invariant.1.tracks c.loop-passed.invariant.1.protected c.loop-passed.invariant.1.counted c.loop-passed.invariant.2 c.loop-passed-test.true (λ c1 d1 uses1 n1 w1 b2 s2 rs1 o1 e1 h1 room1. c.in_err-reach.ensures.grown c1 d1 uses1 n1 w1 b2 s2 rs1 o1 e1 (h1, room1)) c0 d uses n w b s rs o e h room)

pub loop-passed-preserved : goal.loop-passed-preserved
loop-passed-preserved g c =
    let old : Seen = g.M.Medium.seen c.args.medium.now in
    let mid : Seen = g.M.Medium.seen c.loop-passed.medium in
    let new : Seen = g.M.Medium.seen c.grow_once.new.medium in
    let bound = c.in_ok-reach.ensures.bound in (
      turned_more old mid new c.args.file c.args.geometry c.args.from.blocks c.args.from.sides c.args.from.last c.args.count c.loop-passed.passed c.loop-passed.reach.blocks c.loop-passed.reach.sides c.loop-passed.reach.last c.in_ok-reach.reach.blocks c.in_ok-reach.reach.sides c.in_ok-reach.reach.last
          c.loop-passed.invariant.0 c.loop-passed.invariant.1.tracks c.loop-passed.invariant.2 c.loop-passed-test.true bound.0 (λ c1 d1 uses1 n1 w1 b2 s2 rs1 o1 e1 h1 room1. c.in_ok-reach.ensures.grown c1 d1 uses1 n1 w1 b2 s2 rs1 o1 e1 (h1, room1)),
      only_more c.in_ok-reach.reach old mid new c.loop-passed.invariant.1 c.in_ok-reach.ensures.only,
      omega (arith, bound.0, c.loop-passed.invariant.2),
      bound.2,
      bound.1,
      omega (arith, c.loop-passed-test.true),
    )

pub returns-clause-grown : goal.returns-clause-grown
returns-clause-grown g c = λ c0 d uses n w b s rs o e both.
    let h = both.0 in
    let room = both.1 in
    let old : Seen = g.M.Medium.seen c.args.medium.now in
    let new : Seen = g.M.Medium.seen c.loop-passed.medium in
    let all : c.loop-passed.passed ≡ c.args.count = omega (arith, c.loop-passed-test.false, c.loop-passed.invariant.5) in
    let end = c.loop-passed.invariant.0 c0 d uses n w b s rs o e h room in
    let blocks : c.loop-passed.reach.blocks ≡ c.args.from.blocks + c.args.count = omega (arith, c.loop-passed.invariant.2, all) in
    (subst (λ (m : ℕ). c.loop-passed.reach.sides ≡ sides_for c.args.from.sides (c.args.from.blocks + m)) all end.0, subst (λ (m : ℕ). HasGrown old.tracks c0 d uses n w b s rs o c.args.file new.content m c.loop-passed.reach.sides c.loop-passed.reach.last) blocks end.1)

pub returns-in_err-reach-clause-only : goal.returns-in_err-reach-clause-only
returns-in_err-reach-clause-only g c = second_refused c.from_residual.result refl c.in_err-reach.was c.from_residual.ensures.1 c.loop-passed.invariant.1 c.grow_once.ensures.only
