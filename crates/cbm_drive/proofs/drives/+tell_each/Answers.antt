use Rattle.std.proofs.Common.{rules, List, ◌∷◌, sym, subst, arith}
use Rattle.std.specs.List.{AllZip}
use Rattle.cbm_iec.specs.declared.lines.Held.{Held}
use Rattle.cbm_drive.specs.Recorded.{IsToldBy}
use Rattle.cbm_drive.specs.Seats.{Seated, Meets, IsWithout, Unfailed}
use Rattle.cbm_drive.proofs.Told.{told_next}
use Rattle.cbm_drive.proofs.drives.+tell_each.Goals as goal

pub returns-clause-told : goal.returns-clause-told
returns-clause-told g t c = λ u.
    let so = subst (λ (xs : List (Seated _)). Unfailed g.D.Machine.failures xs (c.line.new.self ∷ c.tell_each.new.drives)) c.in-Some.ensures.cases.0 u in
    λ f ss h.
    told_next _ g.D.Machine.State g.D.Machine.stands g.D.Machine.step g.D.Machine.says c.args.wires.now c.without-others.result c.args.moment f c.in-Some.first.now c.line.new.self c.in-Some.rest.now c.tell_each.new.drives ss
    (λ q w. c.without-others.ensures q (subst (λ (o : Held). IsWithout c.args.wires.now o q) (sym c.own.ensures) w))
    c.line.ensures.port (c.line.ensures.machine (omega (arith, so, c.tell_each.ensures.carried.counted))) (λ us k. c.tell_each.ensures.told (omega (arith, so, c.line.ensures.counted)) f us k)
    (subst (λ (xs : List (Seated _)). AllZip (λ x s. Meets _ g.D.Machine.State g.D.Machine.stands c.args.wires.now (f s.rest) x s) xs ss) c.in-Some.ensures.cases.0 h)

pub returns-clause-carried : goal.returns-clause-carried
returns-clause-carried g t c = record {
  lasting = (search rules);
  counted = subst (λ (xs : List (Seated _)). Unfailed g.D.Machine.failures (c.line.new.self ∷ c.tell_each.new.drives) xs) (sym c.in-Some.ensures.cases.0) (omega (arith, c.line.ensures.counted, c.tell_each.ensures.carried.counted));
}

pub returns-clause-each : goal.returns-clause-each
returns-clause-each g t c =
    subst (λ (xs : List (Seated _)). AllZip (λ x y. IsToldBy g.D.Machine.shows c.args.moment c.args.wires.now x y) xs (c.line.new.self ∷ c.tell_each.new.drives)) (sym c.in-Some.ensures.cases.0) (
      record {
        others = c.without-others.result;
        lines = λ q w. c.without-others.ensures q (subst (λ (o : Held). IsWithout c.args.wires.now o q) (sym c.own.ensures) w);
        port = c.line.ensures.port;
        machine = c.line.ensures.acted;
      },
      c.tell_each.ensures.each,
    )
