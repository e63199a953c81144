use Rattle.std.proofs.Common.{◌+◌, List, refl, sym, ap, ◌∙◌}
use Rattle.cbm_medium.specs.Place.{Place}
use Rattle.cbm_relfile.specs.SideSectors.{listed_following}
use Rattle.cbm_volume.specs.check.SideLists.{along}
use Rattle.cbm_volume.proofs.checked.SidesListed.{block_some, along_some, along_none}
use Rattle.cbm_relfile.proofs.Listed.{listed_none, listed_end}
use Rattle.cbm_volume.proofs.check.records.walk_listed.Goals as goal

pub returns-then-is_end : goal.returns-then-is_end
returns-then-is_end g c =
    let zero = ap (λ (p : Place). p.track) (sym c.new-listed.ensures) ∙ c.if-is_end.ensures.0 refl in
    sym (ap (λ (xs : List Place). along c.args.geometry (g.M.Medium.seen c.args.medium.now).content xs c.loop-number.at) (listed_none c.loop-number.number c.args.side.now c.loop-number-test.true zero)) ∙ c.loop-number.invariant

pub returns-in_err-at : goal.returns-in_err-at
returns-in_err-at g c =
    let named = block_some c.loop-number.number c.args.side.now c.new-listed.result c.loop-number-test.true c.new-listed.ensures (λ z. let f = c.if-is_end.ensures.1 z in cc) in
    c.from_residual.ensures
    ∙ sym (along_none c.args.geometry (g.M.Medium.seen c.args.medium.now).content c.new-listed.result c.loop-number.at (listed_following c.loop-number.number c.args.side.now) (listed_following (c.loop-number.number + 1) c.args.side.now) named (sym c.in_err-at.ensures))
    ∙ c.loop-number.invariant

pub loop-number-preserved : goal.loop-number-preserved
loop-number-preserved g c =
    let named = block_some c.loop-number.number c.args.side.now c.new-listed.result c.loop-number-test.true c.new-listed.ensures (λ z. let f = c.if-is_end.ensures.1 z in cc) in
    sym (along_some c.args.geometry (g.M.Medium.seen c.args.medium.now).content c.new-listed.result c.loop-number.at c.in_ok-at.at (listed_following c.loop-number.number c.args.side.now) (listed_following (c.loop-number.number + 1) c.args.side.now) named (sym c.in_ok-at.ensures))
    ∙ c.loop-number.invariant

pub returns : goal.returns
returns g c =
    sym (ap (λ (xs : List Place). along c.args.geometry (g.M.Medium.seen c.args.medium.now).content xs c.loop-number.at) (listed_end c.loop-number.number c.args.side.now c.loop-number-test.false)) ∙ c.loop-number.invariant
