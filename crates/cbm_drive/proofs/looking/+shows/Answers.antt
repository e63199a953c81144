use Rattle.std.proofs.Common.{◌∙◌, sym, subst, arith, ◌<◌, ◌≤◌, Bool}
use Rattle.std.specs.Prelude.{not}
use Rattle.cbm_iec.specs.Ports.{port_due}
use Rattle.cbm_iec.specs.declared.port.Port.{Port}
use Rattle.cbm_session.specs.Following.{IsInTime}
use Rattle.cbm_session.specs.Playing.{IsLaterDue}
use Rattle.cbm_drive.specs.Silence.{Foretold, idle, seen, over}
use Rattle.cbm_drive.proofs.Ahead.{less_time, none_of, some_of}
use Rattle.cbm_drive.proofs.Later.{reacted_later}
use Rattle.cbm_drive.proofs.looking.+shows.Goals as goal

pub returns-in_default : goal.returns-in_default
returns-in_default t c = idle (subst (IsInTime c.args.limit) c.in_default.ensures tt)

pub returns-then-moment-limit : goal.returns-then-moment-limit
returns-then-moment-limit t c = idle (subst (IsInTime c.args.limit) c.in-Some.ensures c.if-moment-limit.true)

pub shows-requires : goal.shows-requires
shows-requires t c = (
  (let falls = less_time c.args.limit c.in-Some.moment (port_due c.args.port) (port_due c.due-reaction.new.self) (sym c.in-Some.ensures) c.if-moment-limit.false
      (subst (λ (p : Port). IsLaterDue c.in-Some.moment (port_due p)) (sym c.due-reaction.ensures.stands) (reacted_later c.in-Some.moment c.args.peek c.args.port c.requires.reaction (sym c.in-Some.ensures))) in
      omega (arith, falls, c.decreases)),
  (c.requires.limit, subst (λ (p : Port). (p.party.device < 31) × (1 ≤ p.party.reaction)) (sym c.due-reaction.ensures.stands) (c.requires.device, c.requires.reaction)),
)

pub returns-then-not-is_empty : goal.returns-then-not-is_empty
returns-then-not-is_empty t c =
    subst (λ (b : Bool). Foretold c.args.limit c.args.peek (not b) c.args.port) (sym c.if-not-is_empty.true)
    (seen c.in-Some.moment (sym c.in-Some.ensures) c.if-moment-limit.false (λ e. some_of c.due-reaction.result.changes.items c.is_empty.result c.is_empty.ensures c.if-not-is_empty.true (c.due-reaction.ensures.changes ∙ e)))

pub returns-else-not-is_empty : goal.returns-else-not-is_empty
returns-else-not-is_empty t c =
    over c.in-Some.moment (sym c.in-Some.ensures) c.if-moment-limit.false (sym c.due-reaction.ensures.changes ∙ none_of c.due-reaction.result.changes.items c.is_empty.result c.is_empty.ensures c.if-not-is_empty.false)
    (subst (λ (p : Port). Foretold c.args.limit c.args.peek c.shows.result p) c.due-reaction.ensures.stands c.shows.ensures)
