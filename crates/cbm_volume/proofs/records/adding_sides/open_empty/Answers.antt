use Rattle.std.proofs.Common.{refl}
use Rattle.cbm_medium.specs.Seen.{Seen}
use Rattle.cbm_volume.specs.AddingSides.{HasEmptySide}
use Rattle.cbm_volume.specs.Growing.{IsGrowthStopped}
use Rattle.cbm_volume.proofs.copied.CopySteps.{handed}
use Rattle.cbm_volume.proofs.grown.SidesAnswers.{empty_stopped, empty_none, empty_some}
use Rattle.cbm_volume.proofs.records.adding_sides.open_empty.Goals as goal

-- a write was refused
pub returns-in_err-side-clause-opened : goal.returns-in_err-side-clause-opened
returns-in_err-side-clause-opened g c = λ c0 d uses n w b s rs o e h.
    let old : Seen = g.M.Medium.seen c.args.medium.now in
    let new : Seen = g.M.Medium.seen c.begin_empty_side.new.medium in
    handed c.from_residual.result c.in_err-side.field-0.0 (λ t. HasEmptySide old.tracks c0 d uses n w b s rs o c.args.file new.content c.args.sides t) (IsGrowthStopped old new c0 o.holds.layout d uses n w rs) c.from_residual.ensures.1
    (empty_stopped old new c0 d uses n w b s rs o c.args.file c.args.geometry c.args.sides e h.0 c.in_err-side.field-0.0 c.in_err-side.ensures.begun)

-- a block is free
pub returns-in_default-clause-opened : goal.returns-in_default-clause-opened
returns-in_default-clause-opened g c = λ c0 d uses n w b s rs o e h.
    let old : Seen = g.M.Medium.seen c.args.medium.now in
    let new : Seen = g.M.Medium.seen c.begin_empty_side.new.medium in
    absurd (empty_none old new c0 d uses n w b s rs o c.args.file c.args.geometry c.args.sides e h.0 c.args.file.width c.in_ok-side.field-0 c.in_default.is h.1 c.in_ok-side.ensures.begun)

pub returns-clause-opened : goal.returns-clause-opened
returns-clause-opened g c = λ c0 d uses n w b s rs o e h.
    let old : Seen = g.M.Medium.seen c.args.medium.now in
    let new : Seen = g.M.Medium.seen c.begin_empty_side.new.medium in
    empty_some old new c0 d uses n w b s rs o c.args.file c.args.geometry c.args.sides e h.0 c.args.file.width c.in_ok-side.field-0 c.in-Some.side c.in-Some.is refl c.in_ok-side.ensures.begun
