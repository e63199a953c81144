use Rattle.std.proofs.Common.{◌≡◌, ◌+◌, ◌-◌, ◌*◌, [], List, drop, refl, sym, ap, ◌∙◌, true, false, arith, append-nil}
use Rattle.cbm_medium.specs.Place.{Place}
use Rattle.cbm_relfile.specs.SideSectors.{named_in}
use Rattle.cbm_bam.specs.Marks.{is_marked}
use Rattle.cbm_volume.specs.check.SideLists.{after_the_first}
use Rattle.cbm_volume.proofs.checked.SidesListed.{sides_none, sides_some}
use Rattle.cbm_volume.specs.check.Claims.{wrong_at}
use Rattle.cbm_shell.specs.Flaws.{among, part_of, flawed, flaws_for}
use Rattle.cbm_shell.proofs.FlawLemmas.{only, over, one_more, among-none, among-on, among-off, stopped_by, went_by}
use Rattle.cbm_shell.proofs.broken.flaws.sides.walk_listed.Goals as goal

pub returns-then-first-eq0 : goal.returns-then-first-eq0
returns-then-first-eq0 g c =
    let none : after_the_first c.args.first.now ≡ [] = ap (λ (xs : List Place). drop 1 xs) (sides_none 0 c.args.first.now (omega arith) c.if-first-eq0.true) in
    only (among c.args.whose c.args.geometry (g.M.Medium.seen c.args.medium.now).content (is_marked c.args.found.now.claimed) (after_the_first c.args.first.now)) c.args.found.now.flaws.items c.args.found.now.flaws.items [] (is_marked c.args.found.now.claimed) true
    (among-none c.args.whose c.args.geometry (g.M.Medium.seen c.args.medium.now).content (is_marked c.args.found.now.claimed) (after_the_first c.args.first.now) none) (sym (append-nil c.args.found.now.flaws.items))

pub returns-then-is_end : goal.returns-then-is_end
returns-then-is_end g c =
    let zero = ap (λ (p : Place). p.track) (sym c.new-at.ensures) ∙ c.if-is_end.ensures.0 refl in
    let left : List Place = named_in (6 - c.loop-number.number) (drop (4 + 2 * c.loop-number.number) c.args.first.now) in
    over (among c.args.whose c.args.geometry (g.M.Medium.seen c.args.medium.now).content (is_marked c.loop-number.found.claimed) left) _ c.args.found.now.flaws.items c.loop-number.found.flaws.items c.loop-number.found.flaws.items []
    (is_marked c.loop-number.found.claimed) true c.loop-number.invariant
    (among-none c.args.whose c.args.geometry (g.M.Medium.seen c.args.medium.now).content (is_marked c.loop-number.found.claimed) left (sides_none c.loop-number.number c.args.first.now c.loop-number-test.true zero))
    (sym (append-nil c.loop-number.found.flaws.items))

pub returns : goal.returns
returns g c =
    let left : List Place = named_in (6 - c.loop-number.number) (drop (4 + 2 * c.loop-number.number) c.args.first.now) in
    let end : 6 - c.loop-number.number ≡ 0 = omega (arith, c.loop-number-test.false) in
    over (among c.args.whose c.args.geometry (g.M.Medium.seen c.args.medium.now).content (is_marked c.loop-number.found.claimed) left) _ c.args.found.now.flaws.items c.loop-number.found.flaws.items c.loop-number.found.flaws.items []
    (is_marked c.loop-number.found.claimed) true c.loop-number.invariant
    (among-none c.args.whose c.args.geometry (g.M.Medium.seen c.args.medium.now).content (is_marked c.loop-number.found.claimed) left
    (ap (λ m. named_in m (drop (4 + 2 * c.loop-number.number) c.args.first.now)) end))
    (sym (append-nil c.loop-number.found.flaws.items))

pub returns-then-is_none : goal.returns-then-is_none
returns-then-is_none g c =
    let content = (g.M.Medium.seen c.args.medium.now).content in
    let named = sides_some c.loop-number.number c.args.first.now c.new-at.result c.loop-number-test.true c.new-at.ensures (λ z. let f = c.if-is_end.ensures.1 z in cc) in
    let wrong = wrong_at (part_of c.args.whose) c.args.geometry content (is_marked c.loop-number.found.claimed) c.new-at.result in
    let flaw = flawed c.args.whose 0 c.new-at.result in
    let s = stopped_by wrong flaw content c.new-at.result (is_marked c.loop-number.found.claimed) (is_marked c.step.new.found.claimed) c.loop-number.found.flaws.items c.step.new.found.flaws.items c.in_ok-step.field-0 c.in_ok-step.ensures c.if-is_none.ensures in
    let left : List Place = named_in (6 - c.loop-number.number) (drop (4 + 2 * c.loop-number.number) c.args.first.now) in
    let rest : List Place = named_in (6 - (c.loop-number.number + 1)) (drop (4 + 2 * (c.loop-number.number + 1)) c.args.first.now) in
    over (among c.args.whose c.args.geometry content (is_marked c.loop-number.found.claimed) left) _ c.args.found.now.flaws.items c.loop-number.found.flaws.items c.step.new.found.flaws.items (flaws_for wrong flaw)
    (is_marked c.step.new.found.claimed) false c.loop-number.invariant
    (among-off c.args.whose c.args.geometry content (is_marked c.loop-number.found.claimed) (is_marked c.step.new.found.claimed) c.new-at.result left rest named s.0 s.1) c.in_ok-step.ensures.adds

pub loop-number-preserved : goal.loop-number-preserved
loop-number-preserved g c =
    let content = (g.M.Medium.seen c.args.medium.now).content in
    let named = sides_some c.loop-number.number c.args.first.now c.new-at.result c.loop-number-test.true c.new-at.ensures (λ z. let f = c.if-is_end.ensures.1 z in cc) in
    let wrong = wrong_at (part_of c.args.whose) c.args.geometry content (is_marked c.loop-number.found.claimed) c.new-at.result in
    let flaw = flawed c.args.whose 0 c.new-at.result in
    let w = went_by wrong flaw content c.new-at.result (is_marked c.loop-number.found.claimed) (is_marked c.step.new.found.claimed) c.loop-number.found.flaws.items c.step.new.found.flaws.items c.in_ok-step.field-0 c.in_ok-step.ensures c.if-is_none.ensures in
    let left : List Place = named_in (6 - c.loop-number.number) (drop (4 + 2 * c.loop-number.number) c.args.first.now) in
    let rest : List Place = named_in (6 - (c.loop-number.number + 1)) (drop (4 + 2 * (c.loop-number.number + 1)) c.args.first.now) in
    one_more (among c.args.whose c.args.geometry content (is_marked c.loop-number.found.claimed) left) (among c.args.whose c.args.geometry content (is_marked c.step.new.found.claimed) rest) _
    c.args.found.now.flaws.items c.loop-number.found.flaws.items c.step.new.found.flaws.items (flaws_for wrong flaw) c.new-at.result c.loop-number.invariant
    (among-on c.args.whose c.args.geometry content (is_marked c.loop-number.found.claimed) (is_marked c.step.new.found.claimed) c.new-at.result left rest named w.0 w.1) c.in_ok-step.ensures.adds
