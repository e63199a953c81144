use Rattle.std.proofs.Common.{ap, sym, ◌∙◌, arith, List, ◌++◌, subst}
use Rattle.cbm_drive.proofs.Unfailed.{carried_on}
use Rattle.cbm_host.proofs.Going.{gave_up, waited, waited_over, waited_then, made_or_held, waited_quiet}
use Rattle.cbm_host.proofs.Progress.{fall_waited}
use Rattle.cbm_host.proofs.Waiting.{passed_over}
use Rattle.cbm_host.proofs.performer.Performer.wait.Goals as goal
use Rattle.cbm_host.specs.Engines.{engine_due, engine_passed}
use Rattle.cbm_host.specs.Performers.{Performing, IsGoing}
use Rattle.cbm_host.specs.declared.due.Due.TheVariants.{Over}
use Rattle.cbm_host.proofs.Recorded.{as_it_was, made_or_held_back, waited_then_back}
use Rattle.cbm_drive.specs.Playback.{Shown, Playback, played_says, played_step, IsPlayedBack}
use Rattle.std.proofs.lemmas.List.{append_assoc}

-- the host gives up before
pub returns-then-until-self-clause-come : goal.returns-then-until-self-clause-come
returns-then-until-self-clause-come g c = λ u n ss es k.
    let late = c.if-until-self.true in
    let same = ap (λ (p : Performing). p.limit) c.self.view_is ∙ c.before-2.ensures.keeps.limit in
    gave_up _ g.D.Machine.State g.D.Machine.stands g.D.Machine.step g.D.Machine.says c.args.self.now c.before-2.new.self c.args.bus.now c.before-2.new.bus c.args.until n ss es c.requires.due c.before-2.ensures.keeps.engine c.before-2.ensures.keeps.limit (omega (arith, late, same)) (c.in_default.ensures.come u n ss es k) k

-- it goes on by itself
pub returns-in-Makes-clause-come : goal.returns-in-Makes-clause-come
returns-in-Makes-clause-come g c = λ u n ss es k.
    let soon = c.if-until-self.false in
    let same = ap (λ (p : Performing). p.limit) c.self.view_is ∙ c.before-2.ensures.keeps.limit in
    let player = ap (λ (p : Performing). p.player) c.self.view_is in
    let passed = c.passed.ensures ∙ ap engine_passed (ap (λ (p : Performing). p.engine) c.self.view_is ∙ c.before-2.ensures.keeps.engine) in
    let unmoved = c.in_default.ensures.come (omega (arith, u, c.play.ensures.carried.counted)) n ss es k in
    let mid : Performing = record { player = c.self.inside.player; engine = c.passed.new.self; byte = c.self.inside.byte; limit = c.self.inside.limit } in
    let going = waited _ g.D.Machine.State g.D.Machine.stands g.D.Machine.step g.D.Machine.says c.args.self.now c.before-2.new.self mid c.args.bus.now c.before-2.new.bus c.args.until n ss es c.requires.due (omega (arith, soon, same)) player passed same unmoved k in
    waited_then _ g.D.Machine.State g.D.Machine.stands g.D.Machine.step g.D.Machine.says c.args.self.now c.before-2.new.self mid c.args.bus.now c.before-2.new.bus c.args.until n ss es c.requires.due (omega (arith, soon, same)) player passed same unmoved k
    c.play.new.self c.play.new.bus c.play.result c.play.ensures.keeps.engine
    (made_or_held _ g.D.Machine.State g.D.Machine.stands g.D.Machine.step g.D.Machine.says mid c.play.new.self c.before-2.new.bus c.play.new.bus n ss es c.in-Makes.change c.play.result (sym c.in-Makes.ensures) c.play.ensures.keeps.engine c.play.ensures.keeps.limit (c.play.ensures.come (omega (arith, u, c.before-2.ensures.carried.counted)) n ss es going) going)

-- or the request is over
pub returns-in_default-due-clause-come : goal.returns-in_default-due-clause-come
returns-in_default-due-clause-come g c = λ u n ss es k.
    let soon = c.if-until-self.false in
    let same = ap (λ (p : Performing). p.limit) c.self.view_is ∙ c.before-2.ensures.keeps.limit in
    let player = ap (λ (p : Performing). p.player) c.self.view_is in
    let passed = c.passed.ensures ∙ ap engine_passed (ap (λ (p : Performing). p.engine) c.self.view_is ∙ c.before-2.ensures.keeps.engine) in
    let mid : Performing = record { player = c.self.inside.player; engine = c.passed.new.self; byte = c.self.inside.byte; limit = c.self.inside.limit } in
    let over = passed_over c.args.self.now.engine c.args.until c.requires.due (λ x e. c.in_default-due.not-Makes x (c.due.ensures ∙ ap engine_due passed ∙ e)) in
    waited_over _ g.D.Machine.State g.D.Machine.stands g.D.Machine.step g.D.Machine.says c.args.self.now c.before-2.new.self mid c.args.bus.now c.before-2.new.bus c.args.until n ss es c.requires.due (omega (arith, soon, same)) player passed same (c.in_default.ensures.come u n ss es k) k
    (Over c.args.until) (ap engine_due passed ∙ over) tt

pub returns-in-Makes-clause-carried : goal.returns-in-Makes-clause-carried
returns-in-Makes-clause-carried g c = carried_on c.before-2.ensures.carried c.play.ensures.carried

pub returns-in-Makes-clause-fewer : goal.returns-in-Makes-clause-fewer
returns-in-Makes-clause-fewer g c =
    let passed = c.passed.ensures ∙ ap engine_passed (ap (λ (p : Performing). p.engine) c.self.view_is ∙ c.before-2.ensures.keeps.engine) in
    let mid : Performing = record { player = c.self.inside.player; engine = c.passed.new.self; byte = c.self.inside.byte; limit = c.self.inside.limit } in
    fall_waited c.play.result c.args.self.now mid c.play.new.self c.args.bus.now c.before-2.new.bus c.play.new.bus c.args.until c.in-Makes.change c.requires.due passed (sym c.in-Makes.ensures) c.play.ensures.fewer

-- ---- the same on any disk

pub returns-then-until-self-clause-recorded : goal.returns-then-until-self-clause-recorded
returns-then-until-self-clause-recorded g c = λ one.
    let shows = g.D.Machine.shows in
    let late = c.if-until-self.true in
    let same = ap (λ (p : Performing). p.limit) c.self.view_is ∙ c.before-2.ensures.keeps.limit in
    let none = c.in_default.ensures.recorded one in (
      none.0,
      λ later n ss es k.
          let still = none.1 later n ss es k in
          gave_up _ Playback (IsPlayedBack shows later) played_step played_says c.args.self.now c.before-2.new.self c.args.bus.now c.before-2.new.bus c.args.until n ss es c.requires.due c.before-2.ensures.keeps.engine c.before-2.ensures.keeps.limit (omega (arith, late, same)) still.1
          (as_it_was _ _ _ (IsPlayedBack shows) played_step played_says none.0 later c.args.self.now c.args.bus.now n ss es still.0 k),
    )

pub returns-in-Makes-clause-recorded : goal.returns-in-Makes-clause-recorded
returns-in-Makes-clause-recorded g c = λ one.
    let shows = g.D.Machine.shows in
    let soon = c.if-until-self.false in
    let same = ap (λ (p : Performing). p.limit) c.self.view_is ∙ c.before-2.ensures.keeps.limit in
    let player = ap (λ (p : Performing). p.player) c.self.view_is in
    let passed = c.passed.ensures ∙ ap engine_passed (ap (λ (p : Performing). p.engine) c.self.view_is ∙ c.before-2.ensures.keeps.engine) in
    let mid : Performing = record { player = c.self.inside.player; engine = c.passed.new.self; byte = c.self.inside.byte; limit = c.self.inside.limit } in
    let none = c.in_default.ensures.recorded one in
    let come = c.play.ensures.recorded one in (
      none.0 ++ come.0,
      λ later n ss es k.
          let before : IsGoing g.row.D.Denot Playback (IsPlayedBack shows (none.0 ++ (come.0 ++ later))) played_step played_says c.args.self.now c.args.bus.now n ss es =
          subst (λ (l : List Shown). IsGoing g.row.D.Denot Playback (IsPlayedBack shows l) played_step played_says c.args.self.now c.args.bus.now n ss es) (append_assoc none.0 come.0 later) k in
          let still = none.1 (come.0 ++ later) n ss es before in
          let here = as_it_was _ _ _ (IsPlayedBack shows) played_step played_says none.0 (come.0 ++ later) c.args.self.now c.args.bus.now n ss es still.0 before in
          let going = waited _ Playback (IsPlayedBack shows (come.0 ++ later)) played_step played_says c.args.self.now c.before-2.new.self mid c.args.bus.now c.before-2.new.bus c.args.until n ss es c.requires.due (omega (arith, soon, same)) player passed same still.1 here in
          let quiet = waited_quiet _ Playback (IsPlayedBack shows (come.0 ++ later)) played_step played_says c.args.self.now c.before-2.new.self mid c.args.bus.now c.before-2.new.bus c.args.until n ss es c.requires.due (omega (arith, soon, same)) player passed same still.1 here in
          waited_then_back _ _ _ (IsPlayedBack shows) played_step played_says later c.args.self.now mid c.play.new.self c.play.new.bus c.args.until n ss es c.play.result c.requires.due passed (ap (λ x. x.from) (player ∙ still.1.player)) same quiet c.play.ensures.keeps.engine
          (made_or_held_back _ _ _ (IsPlayedBack shows) played_step played_says come.0 later mid c.play.new.self c.before-2.new.bus c.play.new.bus n ss es c.in-Makes.change c.play.result (sym c.in-Makes.ensures) c.play.ensures.keeps.engine c.play.ensures.keeps.limit (come.1 later n ss es going) going),
    )

pub returns-in_default-due-clause-recorded : goal.returns-in_default-due-clause-recorded
returns-in_default-due-clause-recorded g c = λ one.
    let shows = g.D.Machine.shows in
    let soon = c.if-until-self.false in
    let same = ap (λ (p : Performing). p.limit) c.self.view_is ∙ c.before-2.ensures.keeps.limit in
    let player = ap (λ (p : Performing). p.player) c.self.view_is in
    let passed = c.passed.ensures ∙ ap engine_passed (ap (λ (p : Performing). p.engine) c.self.view_is ∙ c.before-2.ensures.keeps.engine) in
    let mid : Performing = record { player = c.self.inside.player; engine = c.passed.new.self; byte = c.self.inside.byte; limit = c.self.inside.limit } in
    let over = passed_over c.args.self.now.engine c.args.until c.requires.due (λ x e. c.in_default-due.not-Makes x (c.due.ensures ∙ ap engine_due passed ∙ e)) in
    let none = c.in_default.ensures.recorded one in (
      none.0,
      λ later n ss es k.
          let still = none.1 later n ss es k in
          waited_over _ Playback (IsPlayedBack shows later) played_step played_says c.args.self.now c.before-2.new.self mid c.args.bus.now c.before-2.new.bus c.args.until n ss es c.requires.due (omega (arith, soon, same)) player passed same still.1
          (as_it_was _ _ _ (IsPlayedBack shows) played_step played_says none.0 later c.args.self.now c.args.bus.now n ss es still.0 k) (Over c.args.until) (ap engine_due passed ∙ over) tt,
    )
