use Rattle.std.proofs.Common.{◌<◌, [], ◌++◌, refl, sym, ◌∙◌, arith}
use Rattle.cbm_drive.proofs.Unfailed.{carried_none, carried_on}
use Rattle.cbm_host.proofs.Hosting.{taking_none, taking_some, taking_over}
use Rattle.cbm_host.proofs.Regrouped.{regrouped}
use Rattle.cbm_host.proofs.performer.Performer.next_byte.Goals as goal
use Rattle.cbm_drive.specs.Playback.{Playback, played_says, played_step, IsPlayedBack}
use Rattle.cbm_host.specs.Progress.{left_of}

pub events-init : goal.events-init
events-init g c = record { taking = λ u e limit bytes last ss t. t; carried = carried_none c.args.bus.now.drives; fewer = omega arith; limit = refl; recorded = ([], λ later e limit bytes last ss t. t) }

-- an event, and the halves of bits after it
pub events-preserved : goal.events-preserved
events-preserved g c =
    let less : left_of c.next.new.self c.next.new.bus < left_of c.events.self c.events.bus = c.in-Some.ensures.fewer in
    let more = c.gather.ensures.fewer in
    let least = c.events.invariant.fewer in
    record {
      taking = λ u e limit bytes last ss t.
          c.gather.ensures.taken e limit bytes last ss
          (taking_none _ g.D.Machine.State g.D.Machine.stands g.D.Machine.stands g.D.Machine.step g.D.Machine.says e limit c.events.self c.next.new.self c.events.bus c.next.new.bus bytes last ss c.in-Some.event (c.events.invariant.taking (omega (arith, u, c.next.ensures.carried.counted, c.gather.ensures.carried.counted)) e limit bytes last ss t) (c.in-Some.ensures.next (omega (arith, u, c.events.invariant.carried.counted, c.gather.ensures.carried.counted)))
          (sym c.byte.ensures ∙ c.in_default-byte.is));
      carried = carried_on (carried_on c.events.invariant.carried c.next.ensures.carried) c.gather.ensures.carried;
      fewer = omega (arith, less, more, least);
      limit = c.gather.ensures.limit ∙ c.next.ensures.limit ∙ c.events.invariant.limit;
      recorded =
          (let shows = g.D.Machine.shows in
          let before = c.events.invariant.recorded in
          let next = c.in-Some.ensures.recorded in (
            before.0 ++ next.0,
            λ later e limit bytes last ss t.
                c.gather.ensures.recorded later e limit bytes last ss
                (taking_none _ Playback (IsPlayedBack shows (next.0 ++ later)) (IsPlayedBack shows later) played_step played_says e limit c.events.self c.next.new.self c.events.bus c.next.new.bus bytes last ss c.in-Some.event
                (before.1 (next.0 ++ later) e limit bytes last ss (regrouped shows before.0 next.0 later e limit c.args.self.now c.args.bus.now bytes last ss t)) (next.1 later) (sym c.byte.ensures ∙ c.in_default-byte.is)),
          ));
    }

pub events-smaller : goal.events-smaller
events-smaller g c =
    let less : left_of c.next.new.self c.next.new.bus < left_of c.events.self c.events.bus = c.in-Some.ensures.fewer in
    let more = c.gather.ensures.fewer in
    omega (arith, less, more)

pub returns-in-Some-byte-clause-taken : goal.returns-in-Some-byte-clause-taken
returns-in-Some-byte-clause-taken g c = λ u e limit bytes last ss t.
    taking_some _ g.D.Machine.State g.D.Machine.stands g.D.Machine.stands g.D.Machine.step g.D.Machine.says e limit c.events.self c.next.new.self c.events.bus c.next.new.bus bytes last ss c.in-Some.event c.in-Some-byte.said (c.events.invariant.taking (omega (arith, u, c.next.ensures.carried.counted)) e limit bytes last ss t) (c.in-Some.ensures.next (omega (arith, u, c.events.invariant.carried.counted)))
    (sym c.byte.ensures ∙ c.in-Some-byte.is)

pub returns-in-Some-byte-clause-fewer : goal.returns-in-Some-byte-clause-fewer
returns-in-Some-byte-clause-fewer g c =
    let less : left_of c.next.new.self c.next.new.bus < left_of c.events.self c.events.bus = c.in-Some.ensures.fewer in
    let least = c.events.invariant.fewer in
    omega (arith, less, least)

pub returns-clause-taken : goal.returns-clause-taken
returns-clause-taken g c = λ u e limit bytes last ss t.
    taking_over _ g.D.Machine.State g.D.Machine.stands g.D.Machine.stands g.D.Machine.step g.D.Machine.says e limit c.events.self c.next.new.self c.events.bus c.next.new.bus bytes last ss (c.events.invariant.taking (omega (arith, u, c.next.ensures.carried.counted)) e limit bytes last ss t) (c.in_default.ensures.next (omega (arith, u, c.events.invariant.carried.counted)))

pub returns-in-Some-byte-clause-carried : goal.returns-in-Some-byte-clause-carried
returns-in-Some-byte-clause-carried g c = carried_on c.events.invariant.carried c.next.ensures.carried

pub returns-clause-carried : goal.returns-clause-carried
returns-clause-carried g c = carried_on c.events.invariant.carried c.next.ensures.carried

-- ---- on any disk

pub returns-in-Some-byte-clause-recorded : goal.returns-in-Some-byte-clause-recorded
returns-in-Some-byte-clause-recorded g c =
    let shows = g.D.Machine.shows in
    let before = c.events.invariant.recorded in
    let next = c.in-Some.ensures.recorded in (
      before.0 ++ next.0,
      λ later e limit bytes last ss t.
          taking_some _ Playback (IsPlayedBack shows (next.0 ++ later)) (IsPlayedBack shows later) played_step played_says e limit c.events.self c.next.new.self c.events.bus c.next.new.bus bytes last ss c.in-Some.event c.in-Some-byte.said
          (before.1 (next.0 ++ later) e limit bytes last ss (regrouped shows before.0 next.0 later e limit c.args.self.now c.args.bus.now bytes last ss t)) (next.1 later) (sym c.byte.ensures ∙ c.in-Some-byte.is),
    )

pub returns-clause-recorded : goal.returns-clause-recorded
returns-clause-recorded g c =
    let shows = g.D.Machine.shows in
    let before = c.events.invariant.recorded in
    let next = c.in_default.ensures.recorded in (
      before.0 ++ next.0,
      λ later e limit bytes last ss t.
          taking_over _ Playback (IsPlayedBack shows (next.0 ++ later)) (IsPlayedBack shows later) played_step played_says e limit c.events.self c.next.new.self c.events.bus c.next.new.bus bytes last ss
          (before.1 (next.0 ++ later) e limit bytes last ss (regrouped shows before.0 next.0 later e limit c.args.self.now c.args.bus.now bytes last ss t)) (next.1 later),
    )
