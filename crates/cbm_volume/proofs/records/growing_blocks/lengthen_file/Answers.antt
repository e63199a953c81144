use Rattle.cbm_medium.specs.Seen.{Seen}
use Rattle.cbm_volume.specs.Growing.{HasLonger, IsGrowthStopped}
use Rattle.cbm_volume.proofs.copied.CopySteps.{handed}
use Rattle.cbm_volume.proofs.grown.GrowingAnswers.{lengthen_stopped, lengthen_none, lengthen_some}
use Rattle.cbm_volume.proofs.records.growing_blocks.lengthen_file.Goals as goal

-- a write was refused
pub returns-in_err-block-clause-longer : goal.returns-in_err-block-clause-longer
returns-in_err-block-clause-longer g c = λ s1 c0 d uses n w b s rs o e h.
    let old : Seen = g.M.Medium.seen c.args.medium.now in
    let new : Seen = g.M.Medium.seen c.lengthen.new.medium in
    handed c.from_residual.result c.in_err-block.field-0.0 (λ q. HasLonger old.tracks c0 d uses n w b s rs o c.args.file new.content c.args.blocks s1 q) (IsGrowthStopped old new c0 o.holds.layout d uses n w rs) c.from_residual.ensures.1
    (lengthen_stopped old new c0 d uses n w b s rs o c.args.file c.args.geometry c.args.blocks s1 c.args.last e h.0 c.in_err-block.field-0.0 c.in_err-block.ensures.lengthened)

-- a block is free
pub returns-in_default-clause-longer : goal.returns-in_default-clause-longer
returns-in_default-clause-longer g c = λ s1 c0 d uses n w b s rs o e h.
    let old : Seen = g.M.Medium.seen c.args.medium.now in
    let new : Seen = g.M.Medium.seen c.lengthen.new.medium in
    absurd (lengthen_none old new c0 d uses n w b s rs o c.args.file c.args.geometry c.args.blocks s1 c.args.last e h.0 c.length.result c.in_ok-block.field-0 c.in_default.is h.1 c.in_ok-block.ensures.lengthened)

pub returns-clause-longer : goal.returns-clause-longer
returns-clause-longer g c = λ s1 c0 d uses n w b s rs o e h.
    let old : Seen = g.M.Medium.seen c.args.medium.now in
    let new : Seen = g.M.Medium.seen c.lengthen.new.medium in
    lengthen_some old new c0 d uses n w b s rs o c.args.file c.args.geometry c.args.blocks s1 c.args.last e h.0 c.length.result c.in_ok-block.field-0 c.in-Some.block c.in-Some.is c.length.ensures c.tracks-tracks.ensures.whole c.in_ok-block.ensures.lengthened
