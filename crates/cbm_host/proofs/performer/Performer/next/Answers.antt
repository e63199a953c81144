use Rattle.std.proofs.Common.{ap, arith}
use Rattle.cbm_host.proofs.Going.{told_next}
use Rattle.cbm_host.proofs.Progress.{falls_told, as_many}
use Rattle.cbm_host.proofs.performer.Performer.next.Goals as goal
use Rattle.cbm_host.proofs.Recorded.{match_none}
use Rattle.cbm_host.specs.Performers.{Performing}
use Rattle.cbm_drive.specs.Playback.{played_says, played_step, IsPlayedBack, Playback}

-- nothing comes later than the host gives up
pub returns-then-event-self-clause-next : goal.returns-then-event-self-clause-next
returns-then-event-self-clause-next g c = λ u n ss es k.
    let soon = (c.in_ok-event.ensures.come u n ss es k).moment in
    let same = ap (λ (p : Performing). p.limit) c.self.view_is in
    let late = c.if-event-self.true in
    absurd (omega (arith, soon, same, late))

pub returns-clause-next : goal.returns-clause-next
returns-clause-next g c = λ u n ss es k.
    told_next _ g.D.Machine.State g.D.Machine.stands g.D.Machine.step g.D.Machine.says c.args.self.now c.event.new.self c.tell.new.self c.event.new.bus n ss es c.in_ok-event.event (c.in_ok-event.ensures.come u n ss es k) c.tell.ensures.player c.tell.ensures.limit c.tell.ensures.engine c.tell.ensures.byte

pub returns-clause-fewer : goal.returns-clause-fewer
returns-clause-fewer g c =
    falls_told c.in_ok-event.event.who c.in_ok-event.event.change c.args.self.now c.event.new.self c.tell.new.self c.args.bus.now c.event.new.bus (as_many g.D.Machine.lasting c.args.bus.now.drives c.event.new.bus.drives c.event.ensures.carried.lasting) c.in_ok-event.ensures.fewer c.in_ok-event.ensures.limit c.tell.ensures.player c.tell.ensures.limit c.tell.ensures.engine

pub returns-then-event-self-clause-recorded : goal.returns-then-event-self-clause-recorded
returns-then-event-self-clause-recorded g c =
    let shows = g.D.Machine.shows in
    let come = c.in_ok-event.ensures.recorded c.requires.one in (
      come.0,
      λ later n ss es k.
          let soon = (come.1 later n ss es k).moment in
          let same = ap (λ (p : Performing). p.limit) c.self.view_is in
          let late = c.if-event-self.true in
          absurd (omega (arith, soon, same, late)),
    )

pub returns-clause-recorded : goal.returns-clause-recorded
returns-clause-recorded g c =
    let shows = g.D.Machine.shows in
    let come = c.in_ok-event.ensures.recorded c.requires.one in (
      come.0,
      λ later n ss es k.
          told_next _ Playback (IsPlayedBack shows later) played_step played_says c.args.self.now c.event.new.self c.tell.new.self c.event.new.bus n ss es c.in_ok-event.event (come.1 later n ss es k) c.tell.ensures.player c.tell.ensures.limit c.tell.ensures.engine
          c.tell.ensures.byte,
    )

pub returns-in_err-event-clause-recorded : goal.returns-in_err-event-clause-recorded
returns-in_err-event-clause-recorded g c =
    let shows = g.D.Machine.shows in
    let come = c.in_err-event.ensures.recorded c.requires.one in
    (come.0, λ later n ss es k. match_none c.from_residual.result _ _ c.from_residual.ensures (come.1 later n ss es k))
