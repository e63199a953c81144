use Rattle.std.proofs.Common.{ℕ, Bool, true, Option, refl, sym, ap, subst, ◌∙◌}
use Rattle.cbm_iec.specs.Ports.{port_due}
use Rattle.cbm_iec.specs.declared.port.Port.{Port}
use Rattle.cbm_session.specs.Following.{IsInTime}
use Rattle.cbm_drive.specs.Seats.{Seated}
use Rattle.cbm_drive.specs.Silence.{Foretold, quiet, idle, seen}
use Rattle.cbm_drive.proofs.Ahead.{foreseen_by}
use Rattle.cbm_drive.proofs.drive.Drive.shows_before.Goals as goal

pub returns-else-changes_surely : goal.returns-else-changes_surely
returns-else-changes_surely g c = record {
  foretold = λ s port stands.
      subst (λ (p : Port). Foretold c.args.limit (g.D.Machine.says s.machine) c.shows.result p) (ap (λ (x : Seated _). x.port) c.self.view_is ∙ port)
      (subst (λ (o : Option (ℕ × Bool)). Foretold c.args.limit o c.shows.result c.self.inside.port) (c.peek.ensures.says s.machine (subst (λ (x : Seated _). g.D.Machine.stands x.machine s.machine) (sym c.self.view_is) stands)) c.shows.ensures);
  foreseen = λ s port stands.
      foreseen_by g.D.Machine.State g.D.Machine.step g.D.Machine.says c.args.limit c.shows.result c.self.inside.port c.peek.result s (ap (λ (x : Seated _). x.port) c.self.view_is ∙ port)
      (c.peek.ensures.says s.machine (subst (λ (x : Seated _). g.D.Machine.stands x.machine s.machine) (sym c.self.view_is) stands)) c.shows.ensures;
  shows = subst (λ (x : Seated _). Foretold c.args.limit (g.D.Machine.shows x.machine) c.shows.result x.port) c.self.view_is
      (subst (λ (o : Option (ℕ × Bool)). Foretold c.args.limit o c.shows.result c.self.inside.port) c.peek.ensures.shows c.shows.ensures);
}

-- what is due surely changes a line
pub returns-then-changes_surely : goal.returns-then-changes_surely
returns-then-changes_surely g c =
    let foretold : (o : Option (ℕ × Bool)) → Foretold c.args.limit o true c.self.inside.port = λ o. seen c.in-Some.moment (sym c.in-Some.ensures) c.if-moment-limit.true (c.if-changes_surely.ensures refl c.in-Some.moment o) in
    record {
      foretold = λ s port stands. subst (λ (p : Port). Foretold c.args.limit (g.D.Machine.says s.machine) true p) (ap (λ (x : Seated _). x.port) c.self.view_is ∙ port) (foretold (g.D.Machine.says s.machine));
      foreseen = λ s port stands.
          foreseen_by g.D.Machine.State g.D.Machine.step g.D.Machine.says c.args.limit true c.self.inside.port (g.D.Machine.says s.machine) s (ap (λ (x : Seated _). x.port) c.self.view_is ∙ port) refl (foretold (g.D.Machine.says s.machine));
      shows = subst (λ (x : Seated _). Foretold c.args.limit (g.D.Machine.shows x.machine) true x.port) c.self.view_is (foretold (g.D.Machine.shows c.self.inside.machine));
    }

-- what is due comes at the limit or later
pub returns-in_default : goal.returns-in_default
returns-in_default g c = record {
  foretold = λ s port stands. idle (subst (IsInTime c.args.limit) (c.in-Some.ensures ∙ ap (λ (x : Seated _). port_due x.port) c.self.view_is ∙ ap port_due port) c.if-moment-limit.false);
  foreseen = λ s port stands. quiet (subst (IsInTime c.args.limit) (c.in-Some.ensures ∙ ap (λ (x : Seated _). port_due x.port) c.self.view_is ∙ ap port_due port) c.if-moment-limit.false);
  shows = idle (subst (IsInTime c.args.limit) (c.in-Some.ensures ∙ ap (λ (x : Seated _). port_due x.port) c.self.view_is) c.if-moment-limit.false);
}

-- nothing is due
pub returns-in_default-2 : goal.returns-in_default-2
returns-in_default-2 g c = record {
  foretold = λ s port stands. idle (subst (IsInTime c.args.limit) (c.in_default.ensures ∙ ap (λ (x : Seated _). port_due x.port) c.self.view_is ∙ ap port_due port) tt);
  foreseen = λ s port stands. quiet (subst (IsInTime c.args.limit) (c.in_default.ensures ∙ ap (λ (x : Seated _). port_due x.port) c.self.view_is ∙ ap port_due port) tt);
  shows = idle (subst (IsInTime c.args.limit) (c.in_default.ensures ∙ ap (λ (x : Seated _). port_due x.port) c.self.view_is) tt);
}
