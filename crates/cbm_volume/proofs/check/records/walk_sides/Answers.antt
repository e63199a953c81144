use Rattle.std.proofs.Common.{◌+◌, ◌-◌, ◌*◌, List, drop, refl, sym, ap, ◌∙◌}
use Rattle.cbm_medium.specs.Place.{Place}
use Rattle.cbm_relfile.specs.SideSectors.{named_in}
use Rattle.cbm_volume.specs.check.SideLists.{sides_along}
use Rattle.cbm_volume.proofs.checked.SidesListed.{sides_none, sides_some, sides_one, sides_stop}
use Rattle.cbm_volume.proofs.check.records.walk_sides.Goals as goal

pub returns-then-is_end : goal.returns-then-is_end
returns-then-is_end g c =
    let zero = ap (λ (p : Place). p.track) (sym c.new-side.ensures) ∙ c.if-is_end.ensures.0 refl in
    sym (ap (λ (xs : List Place). sides_along c.args.geometry (g.M.Medium.seen c.args.medium.now).content c.args.length c.loop-number.number xs c.loop-number.at) (sides_none c.loop-number.number c.args.first.now c.loop-number-test.true zero)) ∙ c.loop-number.invariant

pub returns-in_err-at-2 : goal.returns-in_err-at-2
returns-in_err-at-2 g c =
    let named = sides_some c.loop-number.number c.args.first.now c.new-side.result c.loop-number-test.true c.new-side.ensures (λ z. let f = c.if-is_end.ensures.1 z in cc) in
    c.from_residual-in_err-at-2.ensures
    ∙ sym (sides_stop c.args.geometry (g.M.Medium.seen c.args.medium.now).content c.args.length c.loop-number.number c.new-side.result c.loop-number.at (named_in (6 - c.loop-number.number) (drop (4 + 2 * c.loop-number.number) c.args.first.now)) (named_in (6 - (c.loop-number.number + 1)) (drop (4 + 2 * (c.loop-number.number + 1)) c.args.first.now)) named (sym c.in_err-at-2.ensures))
    ∙ c.loop-number.invariant

pub loop-number-preserved : goal.loop-number-preserved
loop-number-preserved g c =
    let named = sides_some c.loop-number.number c.args.first.now c.new-side.result c.loop-number-test.true c.new-side.ensures (λ z. let f = c.if-is_end.ensures.1 z in cc) in
    sym (sides_one c.args.geometry (g.M.Medium.seen c.args.medium.now).content c.args.length c.loop-number.number c.new-side.result c.loop-number.at c.in_ok-at-2.at (named_in (6 - c.loop-number.number) (drop (4 + 2 * c.loop-number.number) c.args.first.now)) (named_in (6 - (c.loop-number.number + 1)) (drop (4 + 2 * (c.loop-number.number + 1)) c.args.first.now)) named (sym c.in_ok-at-2.ensures))
    ∙ c.loop-number.invariant
