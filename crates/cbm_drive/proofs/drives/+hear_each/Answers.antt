use Rattle.std.proofs.Common.{◌≡◌, ◌∷◌, List, [], refl, sym, subst, arith}
use Rattle.std.specs.List.{AllZip}
use Rattle.cbm_iec.specs.declared.lines.Change.{Change}
use Rattle.cbm_iec.specs.declared.lines.Held.{Held}
use Rattle.cbm_session.specs.Playing.{Station}
use Rattle.cbm_drive.specs.declared.wires.Wires.{Wires}
use Rattle.cbm_drive.specs.Reactions.{AreAtMoment, Toggles, IsAllOf, HaveHeard, after_a_change, wires_after_all, held_afterwards}
use Rattle.cbm_drive.specs.Seats.{IsSeat}
use Rattle.cbm_drive.proofs.Heard.{no_items, heard_none, heard_next, Told}
use Rattle.cbm_drive.proofs.Nearer.{kept_same, kept_then}
use Rattle.cbm_drive.proofs.Unfailed.{carried_on}
use Rattle.cbm_drive.proofs.drives.+hear_each.Goals as goal

pub returns-in_default-clause-heard : goal.returns-in_default-clause-heard
returns-in_default-clause-heard g t c = λ u v own bs hs when toggles counts b h.
    (let none : c.args.changes.now ≡ [] = no_items c.args.changes.now c.in_default.ensures.cases in
    subst (λ (cs : List Change). HaveHeard _ g.D.Machine.State g.D.Machine.stands g.D.Machine.step g.D.Machine.says (wires_after_all cs c.args.wires) (held_afterwards cs own) cs c.args.front.now c.args.back.now bs hs) (sym none)
    (heard_none _ g.D.Machine.State g.D.Machine.stands g.D.Machine.step g.D.Machine.says c.args.wires own c.args.front.now c.args.back.now bs hs counts b h))

pub returns-clause-heard : goal.returns-clause-heard
returns-clause-heard g t c = λ u v.
    let first = c.in-Some.change.now in
    let rest = c.in-Some.more.now in
    let now = after_a_change first.line first.way c.args.wires in
    let is : c.after-wires.result ≡ now = c.after-wires.ensures.value in
    let changes : c.args.changes.now ≡ first ∷ rest = c.in-Some.ensures.cases.0 in
    λ own bs hs when toggles counts b h.
    subst (λ (cs : List Change). HaveHeard _ g.D.Machine.State g.D.Machine.stands g.D.Machine.step g.D.Machine.says (wires_after_all cs c.args.wires) (held_afterwards cs own) cs c.hear_each.new.front c.hear_each.new.back bs hs) (sym changes)
    (heard_next _ g.D.Machine.State g.D.Machine.stands g.D.Machine.step g.D.Machine.says c.args.moment first rest c.args.wires own c.args.front.now c.args.back.now c.tell_others.new.drives c.tell_others-2.new.drives c.hear_each.new.front c.hear_each.new.back bs hs
    (subst (λ (w : Wires). Told _ g.D.Machine.State g.D.Machine.stands g.D.Machine.step g.D.Machine.says c.args.moment w c.args.front.now c.tell_others.new.drives) is (c.tell_others.ensures.told (omega (arith, u, c.hear_each.ensures.others.front_carried.counted)))) c.tell_others.ensures.own
    (subst (λ (w : Wires). Told _ g.D.Machine.State g.D.Machine.stands g.D.Machine.step g.D.Machine.says c.args.moment w c.args.back.now c.tell_others-2.new.drives) is (c.tell_others-2.ensures.told (omega (arith, v, c.hear_each.ensures.others.back_carried.counted)))) c.tell_others-2.ensures.own
    (subst (λ (w : Wires). (o : Held) (us es : List (Station g.D.Machine.State)) → AreAtMoment c.args.moment rest → Toggles o rest → IsAllOf w o c.tell_others.new.drives c.tell_others-2.new.drives
    → AllZip (IsSeat _ g.D.Machine.State g.D.Machine.stands w) c.tell_others.new.drives us → AllZip (IsSeat _ g.D.Machine.State g.D.Machine.stands w) c.tell_others-2.new.drives es
    → HaveHeard _ g.D.Machine.State g.D.Machine.stands g.D.Machine.step g.D.Machine.says (wires_after_all rest w) (held_afterwards rest o) rest c.hear_each.new.front c.hear_each.new.back us es) is (c.hear_each.ensures.heard (omega (arith, u, c.tell_others.ensures.carried.counted)) (omega (arith, v, c.tell_others-2.ensures.carried.counted))))
    (subst (AreAtMoment c.args.moment) changes when) (subst (Toggles own) changes toggles) counts b h)

pub returns-in_default-clause-others : goal.returns-in_default-clause-others
returns-in_default-clause-others g t c = record {
  front = kept_same c.args.moment c.args.front.now;
  back = kept_same c.args.moment c.args.back.now;
  front_carried = record { lasting = refl; counted = omega arith };
  back_carried = record { lasting = refl; counted = omega arith };
}

pub returns-clause-others : goal.returns-clause-others
returns-clause-others g t c =
    let later = c.hear_each.ensures.others in
    record {
      front = kept_then c.args.moment c.args.front.now c.tell_others.new.drives c.hear_each.new.front c.tell_others.ensures.kept later.front;
      back = kept_then c.args.moment c.args.back.now c.tell_others-2.new.drives c.hear_each.new.back c.tell_others-2.ensures.kept later.back;
      front_carried = carried_on c.tell_others.ensures.carried later.front_carried;
      back_carried = carried_on c.tell_others-2.ensures.carried later.back_carried;
    }
