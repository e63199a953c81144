use Rattle.std.proofs.Common.{◌≡◌, ◌<◌, ◌+◌, ◌*◌, ℕ, subst, arith}
use Rattle.cbm_medium.specs.Seen.{Seen}
use Rattle.cbm_file.specs.Records.{sides_for}
use Rattle.cbm_volume.specs.Growing.{IsGrowthStopped}
use Rattle.cbm_volume.proofs.copied.CopySteps.{handed}
use Rattle.cbm_volume.proofs.grown.GrowingJoined.{ListsBy, SidesBy, grown_listed, sides_full, sides_room}
use Rattle.cbm_volume.proofs.grown.GrowingLists.{stop_later}
use Rattle.cbm_volume.proofs.OneAfterAnother.{second_refused, both_done}
use Rattle.cbm_volume.proofs.records.growing_blocks.grow_once.Goals as goal

-- a write of the new block was refused, or the claim
pub returns-in_err-block-clause-grown : goal.returns-in_err-block-clause-grown
returns-in_err-block-clause-grown g c = λ c0 d uses n w b s rs o e both.
    let h = both.0 in
    let room = both.1 in
    let old : Seen = g.M.Medium.seen c.args.medium.now in
    let new : Seen = g.M.Medium.seen c.lengthen_file.new.medium in
    handed c.from_residual.result c.in_err-block.field-0.0 _ (IsGrowthStopped old new c0 o.holds.layout d uses n w rs) c.from_residual.ensures.1
    (c.in_err-block.ensures.longer c.args.reach.sides c0 d uses n w b s rs o e (h, omega (arith, room, h.more.0, h.more.1)))

-- of the new side sector
pub returns-in_err-add_side-clause-grown : goal.returns-in_err-add_side-clause-grown
returns-in_err-add_side-clause-grown g c = λ c0 d uses n w b s rs o e both.
    let h = both.0 in
    let room = both.1 in
    let old : Seen = g.M.Medium.seen c.args.medium.now in
    let mid : Seen = g.M.Medium.seen c.lengthen_file.new.medium in
    let new : Seen = g.M.Medium.seen c.add_side.new.medium in
    let only = c.in_ok-block.ensures.only in
    let full : c.args.reach.blocks ≡ 120 * c.args.reach.sides = c.if-reach.true in
    let more : c.args.reach.sides + 1 ≡ sides_for c.args.reach.sides (c.args.reach.blocks + 1) = sides_full c.args.reach.blocks c.args.reach.sides full in
    let longer = c.in_ok-block.ensures.longer c.args.reach.sides c0 d uses n w b s rs o e (h, omega (arith, room, h.more.0, h.more.1)) in
    handed c.from_residual-in_err-add_side.result c.in_err-add_side.field-0.0 _ (IsGrowthStopped old new c0 o.holds.layout d uses n w rs) c.from_residual-in_err-add_side.ensures.1
    (stop_later old mid new c0 o.holds.layout d uses n w rs c.in_err-add_side.field-0.0 only.tracks only.protected only.counted
    (subst (λ (m : ℕ). SidesBy m mid new c.args.file c.args.geometry c.args.reach.sides c.in_ok-block.block (λ p y. y c.in_err-add_side.field-0.0)) only.tracks (λ c1 d1 uses1 n1 w1 b2 s2 bb rs1 o1 e1 h1 some1 whole1. c.in_err-add_side.ensures.added bb whole1 c1 d1 uses1 n1 w1 b2 s2 rs1 o1 e1 (h1, some1)) c0 d uses n w b s c.args.reach.blocks rs o e longer
    (omega (arith, room, more, h.more.0, h.more.1)) full))

pub returns-then-reach-clause-grown : goal.returns-then-reach-clause-grown
returns-then-reach-clause-grown g c = λ c0 d uses n w b s rs o e both.
    let h = both.0 in
    let room = both.1 in
    let old : Seen = g.M.Medium.seen c.args.medium.now in
    let mid : Seen = g.M.Medium.seen c.lengthen_file.new.medium in
    let new : Seen = g.M.Medium.seen c.add_side.new.medium in
    let only = c.in_ok-block.ensures.only in
    let full : c.args.reach.blocks ≡ 120 * c.args.reach.sides = c.if-reach.true in
    let more : c.args.reach.sides + 1 ≡ sides_for c.args.reach.sides (c.args.reach.blocks + 1) = sides_full c.args.reach.blocks c.args.reach.sides full in
    let longer = c.in_ok-block.ensures.longer c.args.reach.sides c0 d uses n w b s rs o e (h, omega (arith, room, h.more.0, h.more.1)) in (
      more,
      subst (λ (m : ℕ). SidesBy m mid new c.args.file c.args.geometry c.args.reach.sides c.in_ok-block.block (λ p y. p)) only.tracks (λ c1 d1 uses1 n1 w1 b2 s2 bb rs1 o1 e1 h1 some1 whole1. c.in_ok-add_side.ensures.added bb whole1 c1 d1 uses1 n1 w1 b2 s2 rs1 o1 e1 (h1, some1)) c0 d uses n w b s c.args.reach.blocks rs o e longer
          (omega (arith, room, more, h.more.0, h.more.1)) full,
    )

-- of the side sector that lists the block
pub returns-in_err-list_last-clause-grown : goal.returns-in_err-list_last-clause-grown
returns-in_err-list_last-clause-grown g c = λ c0 d uses n w b s rs o e both.
    let h = both.0 in
    let room = both.1 in
    let old : Seen = g.M.Medium.seen c.args.medium.now in
    let mid : Seen = g.M.Medium.seen c.lengthen_file.new.medium in
    let new : Seen = g.M.Medium.seen c.list_last.new.medium in
    let only = c.in_ok-block.ensures.only in
    let few : c.args.reach.blocks < 120 * c.args.reach.sides = omega (arith, grown_listed old.tracks c0 d uses n w b s rs o c.args.file old.content c.args.reach.blocks c.args.reach.sides c.args.reach.last h, c.if-reach.false) in
    let longer = c.in_ok-block.ensures.longer c.args.reach.sides c0 d uses n w b s rs o e (h, omega (arith, room, h.more.0, h.more.1)) in
    handed c.from_residual-in_err-list_last.result c.in_err-list_last.field-0.0 _ (IsGrowthStopped old new c0 o.holds.layout d uses n w rs) c.from_residual-in_err-list_last.ensures.1
    (stop_later old mid new c0 o.holds.layout d uses n w rs c.in_err-list_last.field-0.0 only.tracks only.protected only.counted
    (subst (λ (m : ℕ). ListsBy m mid new c.args.file c.args.geometry c.args.reach.blocks c.in_ok-block.block (λ p y. y c.in_err-list_last.field-0.0)) only.tracks (λ c1 d1 uses1 n1 w1 b2 s2 s3 rs1 o1 e1 h1 few1. c.in_err-list_last.ensures.listed s3 few1 c1 d1 uses1 n1 w1 b2 s2 rs1 o1 e1 h1) c0 d uses n w b s c.args.reach.sides rs o e longer few))

pub returns-clause-grown : goal.returns-clause-grown
returns-clause-grown g c = λ c0 d uses n w b s rs o e both.
    let h = both.0 in
    let room = both.1 in
    let old : Seen = g.M.Medium.seen c.args.medium.now in
    let mid : Seen = g.M.Medium.seen c.lengthen_file.new.medium in
    let new : Seen = g.M.Medium.seen c.list_last.new.medium in
    let only = c.in_ok-block.ensures.only in
    let few : c.args.reach.blocks < 120 * c.args.reach.sides = omega (arith, grown_listed old.tracks c0 d uses n w b s rs o c.args.file old.content c.args.reach.blocks c.args.reach.sides c.args.reach.last h, c.if-reach.false) in
    let longer = c.in_ok-block.ensures.longer c.args.reach.sides c0 d uses n w b s rs o e (h, omega (arith, room, h.more.0, h.more.1)) in
    (sides_room c.args.reach.blocks c.args.reach.sides few, subst (λ (m : ℕ). ListsBy m mid new c.args.file c.args.geometry c.args.reach.blocks c.in_ok-block.block (λ p y. p)) only.tracks (λ c1 d1 uses1 n1 w1 b2 s2 s3 rs1 o1 e1 h1 few1. c.in_ok-list_last.ensures.listed s3 few1 c1 d1 uses1 n1 w1 b2 s2 rs1 o1 e1 h1) c0 d uses n w b s c.args.reach.sides rs o e longer few)

pub returns-in_err-add_side-clause-only : goal.returns-in_err-add_side-clause-only
returns-in_err-add_side-clause-only g c = second_refused c.from_residual-in_err-add_side.result c.in_ok-block.was c.in_err-add_side.was c.from_residual-in_err-add_side.ensures.1 c.lengthen_file.ensures.only c.add_side.ensures.only

pub returns-then-reach-clause-only : goal.returns-then-reach-clause-only
returns-then-reach-clause-only g c = both_done _ c.in_ok-block.was c.in_ok-add_side.was c.lengthen_file.ensures.only c.add_side.ensures.only

pub returns-in_err-list_last-clause-only : goal.returns-in_err-list_last-clause-only
returns-in_err-list_last-clause-only g c = second_refused c.from_residual-in_err-list_last.result c.in_ok-block.was c.in_err-list_last.was c.from_residual-in_err-list_last.ensures.1 c.lengthen_file.ensures.only c.list_last.ensures.only

pub returns-clause-only : goal.returns-clause-only
returns-clause-only g c = both_done _ c.in_ok-block.was c.in_ok-list_last.was c.lengthen_file.ensures.only c.list_last.ensures.only
