use Rattle.std.proofs.Common.{◌≡◌, ℕ, List, sym, ap, subst, ◌∙◌}
use Rattle.std.specs.Prelude.{IfSome}
use Rattle.cbm_iec.specs.declared.lines.Lines.{Lines}
use Rattle.cbm_drive.specs.Cables.{Cabled}
use Rattle.cbm_drive.specs.Reactions.{HasReacted}
use Rattle.cbm_drive.specs.Seats.{Seated, IsBusAt, IsFirstDue, AreIdle, Unfailed}
use Rattle.cbm_drive.specs.Progress.{IsNearer}
use Rattle.cbm_drive.proofs.Firsts.{one_first}
use Rattle.cbm_drive.proofs.Nearer.{idle_first}
use Rattle.cbm_drive.proofs.bus.Bus.due.Goals as goal

-- the moment is that of the only reaction that is due first
pub returns-clause-reacted : goal.returns-clause-reacted
returns-clause-reacted g c = λ u.
    λ ss bus first.
    let was = c.args.self.now in
    let host : was.host ≡ c.self.inside.host = sym (ap (λ (b : Cabled _). b.host) c.self.view_is) in
    let drives : was.drives ≡ c.as_mut_slice.result.now = sym (c.as_mut_slice.ensures.value ∙ ap (λ (b : Cabled _). b.drives) c.self.view_is) in
    let seen : c.as_slice.result.now ≡ was.drives = c.as_slice.ensures ∙ ap (λ (b : Cabled _). b.drives) c.self.view_is in
    let mine : IsFirstDue was.drives (c.in_ok-place.place, c.in_ok-place.field-0-1) = subst (λ (xs : List (Seated _)). IsFirstDue xs (c.in_ok-place.place, c.in_ok-place.field-0-1)) seen c.in_ok-place.ensures.first in
    let place : first.0 ≡ c.in_ok-place.place = (one_first first.0 c.args.moment c.in_ok-place.place c.in_ok-place.field-0-1 was.drives first.1 mine).0 in
    let due : IsFirstDue c.as_mut_slice.result.now (c.in_ok-place.place, c.args.moment) = subst (λ (xs : List (Seated _)). IsFirstDue xs (c.in_ok-place.place, c.args.moment)) drives (subst (λ (n : ℕ). IsFirstDue was.drives (n, c.args.moment)) place first.1) in
    let at_bus : IsBusAt _ g.D.Machine.State g.D.Machine.stands c.self.inside.host c.as_mut_slice.result.now ss = subst (λ (l : Lines). IsBusAt _ g.D.Machine.State g.D.Machine.stands l c.as_mut_slice.result.now ss) host
    (subst (λ (xs : List (Seated _)). IsBusAt _ g.D.Machine.State g.D.Machine.stands was.host xs ss) drives bus) in
    subst (λ (l : Lines). IfSome c.react.result (λ a. HasReacted _ g.D.Machine.State g.D.Machine.stands g.D.Machine.step g.D.Machine.says l c.args.moment a.device c.react.new.drives a.changes.items ss)) (sym host)
    (c.react.ensures.made.reacted (subst (λ (xs : List (Seated _)). Unfailed g.D.Machine.failures xs c.react.new.drives) drives u) ss at_bus due)

pub returns-clause-nearer : goal.returns-clause-nearer
returns-clause-nearer g c = λ first.
    let was = c.args.self.now in
    let drives : was.drives ≡ c.as_mut_slice.result.now = sym (c.as_mut_slice.ensures.value ∙ ap (λ (b : Cabled _). b.drives) c.self.view_is) in
    let seen : c.as_slice.result.now ≡ was.drives = c.as_slice.ensures ∙ ap (λ (b : Cabled _). b.drives) c.self.view_is in
    let mine : IsFirstDue was.drives (c.in_ok-place.place, c.in_ok-place.field-0-1) = subst (λ (xs : List (Seated _)). IsFirstDue xs (c.in_ok-place.place, c.in_ok-place.field-0-1)) seen c.in_ok-place.ensures.first in
    let place : first.0 ≡ c.in_ok-place.place = (one_first first.0 c.args.moment c.in_ok-place.place c.in_ok-place.field-0-1 was.drives first.1 mine).0 in
    let due : IsFirstDue c.as_mut_slice.result.now (c.in_ok-place.place, c.args.moment) = subst (λ (xs : List (Seated _)). IsFirstDue xs (c.in_ok-place.place, c.args.moment)) drives (subst (λ (n : ℕ). IsFirstDue was.drives (n, c.args.moment)) place first.1) in
    subst (λ (xs : List (Seated _)). IsNearer c.args.moment xs c.react.new.drives) (sym drives) (c.react.ensures.nearer due)

pub returns-in_err-place-clause-nearer : goal.returns-in_err-place-clause-nearer
returns-in_err-place-clause-nearer g c = λ first.
    let seen : c.as_slice.result.now ≡ c.args.self.now.drives = c.as_slice.ensures ∙ ap (λ (b : Cabled _). b.drives) c.self.view_is in
    absurd (idle_first first.0 c.args.moment c.as_slice.result.now c.in_err-place.ensures.first (subst (λ (xs : List (Seated _)). IsFirstDue xs (first.0, c.args.moment)) (sym seen) first.1))

-- a drive whose reaction is due first isn't idle
pub returns-clause-idle : goal.returns-clause-idle
returns-clause-idle g c = λ idle.
    let seen : c.as_slice.result.now ≡ c.args.self.now.drives = c.as_slice.ensures ∙ ap (λ (b : Cabled _). b.drives) c.self.view_is in
    absurd (idle_first c.in_ok-place.place c.in_ok-place.field-0-1 c.as_slice.result.now (subst (λ (xs : List (Seated _)). AreIdle xs) (sym seen) idle) c.in_ok-place.ensures.first)
