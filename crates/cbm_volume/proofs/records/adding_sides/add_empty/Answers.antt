use Rattle.std.proofs.Common.{◌+◌, refl}
use Rattle.cbm_medium.specs.Seen.{Seen}
use Rattle.cbm_volume.specs.Growing.{IsGrowthStopped}
use Rattle.cbm_volume.proofs.copied.CopySteps.{handed}
use Rattle.cbm_volume.proofs.grown.SidesAnswers.{OfRoom, OfEmpty, OfSides, stop_then, both_then}
use Rattle.cbm_medium.proofs.Sequences.{only_after}
use Rattle.cbm_volume.proofs.OneAfterAnother.{second_refused}
use Rattle.cbm_volume.proofs.records.adding_sides.add_empty.Goals as goal

-- it isn't claimed or written
pub returns-in_err-side-clause-added : goal.returns-in_err-side-clause-added
returns-in_err-side-clause-added g c = λ c0 d uses n w b s rs o e h.
    let old : Seen = g.M.Medium.seen c.args.medium.now in
    let new : Seen = g.M.Medium.seen c.open_empty.new.medium in
    handed c.from_residual.result c.in_err-side.field-0.0 _ (IsGrowthStopped old new c0 o.holds.layout d uses n w rs) c.from_residual.ensures.1 (c.in_err-side.ensures.opened c0 d uses n w b s rs o e h)

-- one of the others isn't written
pub returns-in_err-copy_sides-clause-added : goal.returns-in_err-copy_sides-clause-added
returns-in_err-copy_sides-clause-added g c = λ c0 d uses n w b s rs o e h.
    let old : Seen = g.M.Medium.seen c.args.medium.now in
    let mid : Seen = g.M.Medium.seen c.open_empty.new.medium in
    let new : Seen = g.M.Medium.seen c.copy_sides.new.medium in
    handed c.from_residual-in_err-copy_sides.result c.in_err-copy_sides.field-0.0 _ (IsGrowthStopped old new c0 o.holds.layout d uses n w rs) c.from_residual-in_err-copy_sides.ensures.1
    (stop_then old mid new c.args.geometry c.in_err-copy_sides.field-0.0 (OfRoom c.args.file c.args.sides) (OfEmpty c.args.file c.args.sides c.in_ok-side.side) (OfEmpty c.args.file c.args.sides c.in_ok-side.side)
    c.in_ok-side.ensures.only.tracks c.in_ok-side.ensures.only.protected c.in_ok-side.ensures.only.counted c.in_ok-side.ensures.opened
    c.in_err-copy_sides.ensures.copied_empty c0 d uses n w b s rs o e h)

pub returns-clause-added : goal.returns-clause-added
returns-clause-added g c = λ c0 d uses n w b s rs o e h.
    let old : Seen = g.M.Medium.seen c.args.medium.now in
    let one : Seen = g.M.Medium.seen c.open_empty.new.medium in
    let two : Seen = g.M.Medium.seen c.copy_sides.new.medium in
    let new : Seen = g.M.Medium.seen c.copy_side.new.medium in
    both_then c.copy_side.result old one new c.args.geometry (OfRoom c.args.file c.args.sides) (OfEmpty c.args.file c.args.sides c.in_ok-side.side) (OfSides c.args.file (c.args.sides + 1))
    c.in_ok-side.ensures.only.tracks c.in_ok-side.ensures.only.protected c.in_ok-side.ensures.only.counted c.in_ok-side.ensures.opened
    (both_then c.copy_side.result one two new c.args.geometry (OfEmpty c.args.file c.args.sides c.in_ok-side.side) (OfEmpty c.args.file c.args.sides c.in_ok-side.side) (OfSides c.args.file (c.args.sides + 1))
    c.in_ok-copy_sides.ensures.only.tracks c.in_ok-copy_sides.ensures.only.protected c.in_ok-copy_sides.ensures.only.counted c.in_ok-copy_sides.ensures.copied_empty
    (c.copy_side.ensures.added_empty refl)) c0 d uses n w b s rs o e h

pub returns-in_err-copy_sides-clause-only : goal.returns-in_err-copy_sides-clause-only
returns-in_err-copy_sides-clause-only g c = second_refused c.from_residual-in_err-copy_sides.result c.in_ok-side.was c.in_err-copy_sides.was c.from_residual-in_err-copy_sides.ensures.1 c.open_empty.ensures.only c.copy_sides.ensures.only

pub returns-clause-only : goal.returns-clause-only
returns-clause-only g c = only_after _ _ _ _ _ _ c.in_ok-copy_sides.was (only_after _ _ _ _ _ _ c.in_ok-side.was c.open_empty.ensures.only c.copy_sides.ensures.only) c.copy_side.ensures.only
