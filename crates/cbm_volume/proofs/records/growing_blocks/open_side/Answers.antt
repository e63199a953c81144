use Rattle.cbm_medium.specs.Seen.{Seen}
use Rattle.cbm_volume.specs.Growing.{HasSide, IsGrowthStopped}
use Rattle.cbm_volume.proofs.copied.CopySteps.{handed}
use Rattle.cbm_volume.proofs.grown.GrowingAnswers.{side_stopped, side_none, side_some}
use Rattle.cbm_volume.proofs.records.growing_blocks.open_side.Goals as goal

-- a write was refused
pub returns-in_err-side-clause-begun : goal.returns-in_err-side-clause-begun
returns-in_err-side-clause-begun g c = λ b1 c0 d uses n w b s rs o e h.
    let old : Seen = g.M.Medium.seen c.args.medium.now in
    let new : Seen = g.M.Medium.seen c.begin_side.new.medium in
    handed c.from_residual.result c.in_err-side.field-0.0 (λ t. HasSide old.tracks c0 d uses n w b s rs o c.args.file new.content b1 c.args.sides c.args.block t) (IsGrowthStopped old new c0 o.holds.layout d uses n w rs) c.from_residual.ensures.1
    (side_stopped old new c0 d uses n w b s rs o c.args.file c.args.geometry b1 c.args.sides c.args.block e h.0 c.in_err-side.field-0.0 c.in_err-side.ensures.begun)

-- a block is free
pub returns-in_default-clause-begun : goal.returns-in_default-clause-begun
returns-in_default-clause-begun g c = λ b1 c0 d uses n w b s rs o e h.
    let old : Seen = g.M.Medium.seen c.args.medium.now in
    let new : Seen = g.M.Medium.seen c.begin_side.new.medium in
    absurd (side_none old new c0 d uses n w b s rs o c.args.file c.args.geometry b1 c.args.sides c.args.block e h.0 c.args.file.width c.in_ok-side.field-0 c.in_default.is h.1 c.in_ok-side.ensures.begun)

pub returns-clause-begun : goal.returns-clause-begun
returns-clause-begun g c = λ b1 c0 d uses n w b s rs o e h.
    let old : Seen = g.M.Medium.seen c.args.medium.now in
    let new : Seen = g.M.Medium.seen c.begin_side.new.medium in
    side_some old new c0 d uses n w b s rs o c.args.file c.args.geometry b1 c.args.sides c.args.block e h.0 c.args.file.width c.in_ok-side.field-0 c.in-Some.side c.in-Some.is (λ i. c.args.file.width) c.in_ok-side.ensures.begun
