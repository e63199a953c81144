use Rattle.std.proofs.Common.{◌≡◌, ◌<◌, ◌≤◌, Some, None, refl, sym, ap, subst, ◌∙◌}
use Rattle.cbm_iec.specs.Ports.{port_due, side_due}
use Rattle.cbm_iec.specs.Speaking.{mouth_due}
use Rattle.cbm_iec.specs.declared.party.Party.{Party}
use Rattle.cbm_iec.specs.declared.port.Port.{Port}
use Rattle.cbm_drive.specs.Halves.{SaysHalf}
use Rattle.cbm_session.specs.Playing.{IsLaterDue}
use Rattle.cbm_drive.specs.Seats.{Seated}
use Rattle.cbm_drive.proofs.Later.{reacted_later}
use Rattle.cbm_drive.proofs.drive.Drive.half.Goals as goal

-- its party stays
pub invariant_of-self-2 : goal.invariant_of-self-2
invariant_of-self-2 g c =
    subst (λ (b : Party). (b.device < 31) × (1 ≤ b.reaction)) (sym (ap (λ (p : Port). p.party) (c.if-not-send_on.ensures.sent None).0)) c.self.invariant

pub returns-clause-said : goal.returns-clause-said
returns-clause-said g c =
    let sent = c.if-not-send_on.ensures.sent in
    let due : port_due c.self.inside.port ≡ Some c.in-Speaking-Sending.at = ap side_due c.in-Speaking-Sending.is ∙ ap mouth_due (rw c.in-Speaking-Sending.is at c.in-Speaking-Sending.field-0-is) in
    subst (λ (x : Seated _). SaysHalf c.args.limit x (record { port = c.send_on.new.self; machine = c.self.inside.machine }) (record { moment = c.in-Speaking-Sending.at; device = c.send_on.new.self.party.device; was = c.self.inside.port.own; now = c.send_on.new.self.own })) c.self.view_is (record {
      due = due;
      before = c.if-at-limit.false;
      which = ap (λ (p : Port). p.party.device) (sent None).0;
      was = refl;
      now = refl;
      clock = c.if-not-send_on.ensures.clock refl;
      port = λ peek. (sent peek).0;
      act = λ peek. (sent peek).1;
      machine = refl;
      later = subst (λ (p : Port). IsLaterDue c.in-Speaking-Sending.at (port_due p)) (sym (sent None).0) (reacted_later c.in-Speaking-Sending.at None c.self.inside.port c.self.invariant.1 due);
    })
