use Rattle.std.proofs.Common.{rules, [], refl, sym, ap, ◌∙◌, arith}
use Rattle.cbm_session.specs.Playing.{drive_events}
use Rattle.cbm_drive.proofs.Alone.{settles_none, settles_more, settles_to, settles_never}
use Rattle.cbm_drive.proofs.Ahead.{none_of, shows_on, shows_never}
use Rattle.cbm_drive.proofs.Firsts.{first_in_time, idle_in_time}
use Rattle.cbm_drive.proofs.Left.{less_left}
use Rattle.cbm_drive.proofs.Played.{settled_none, settled_more, settled_to}
use Rattle.cbm_drive.proofs.Unfailed.{carried_none, carried_on}
use Rattle.cbm_drive.proofs.looking.first_shown.Goals as goal

pub loop-place-init : goal.loop-place-init
loop-place-init g c = record {
  played = (λ u ss n until h l m. settled_none _ g.D.Machine.State g.D.Machine.stands g.D.Machine.step g.D.Machine.says g.met.D.Machine.byte c.args.host until c.args.drives.now [] n ss h l);
  still = (λ u ss h any. record { stations = ss; now = h; any = any });
  same = refl;
  fewer = (λ until l. omega arith);
  carried = carried_none c.args.drives.now;
  recorded = (λ one. settles_none g.D.Machine.shows c.args.host c.args.limit c.args.drives.now);
}

pub loop-place-smaller : goal.loop-place-smaller
loop-place-smaller g c =
    less_left c.in-Some.place c.in-Some.moment c.args.limit c.loop-place.drives c.react.new.drives c.in-Some.ensures.first (omega (arith, c.if-moment-limit.false))
    (omega (arith, c.requires.few, c.loop-place.invariant.same, c.in_ok-answer.ensures.same)) (c.in_ok-answer.ensures.nearer c.in-Some.ensures.first)

pub loop-place-preserved : goal.loop-place-preserved
loop-place-preserved g c =
    let none = none_of c.in_ok-answer.answer.changes.items c.is_empty.result c.is_empty.ensures c.if-not-is_empty.false in record {
      played = (λ u ss n until h l m.
          (let s = c.loop-place.invariant.played (omega (arith, u, c.in_ok-answer.ensures.carried.counted)) ss n until h l m in
          settled_more _ g.D.Machine.State g.D.Machine.stands g.D.Machine.stands g.D.Machine.step g.D.Machine.says g.met.D.Machine.byte g.met.D.Machine.byte c.args.host until c.in-Some.moment c.in_ok-answer.answer.device n c.loop-place.drives c.react.new.drives
          c.in_ok-answer.answer.changes.items [] [] [] ss s (c.in_ok-answer.ensures.made.reacted (omega (arith, u, c.loop-place.invariant.carried.counted)) s.stations s.now c.in-Some.ensures.first) (omega (arith, c.if-moment-limit.false, m))
          (sym (ap (λ cs. drive_events c.in_ok-answer.answer.device cs) none))));
      still = (λ u ss h any.
          (let k = c.loop-place.invariant.still (omega (arith, u, c.in_ok-answer.ensures.carried.counted)) ss h any in
          shows_on _ g.D.Machine.State g.D.Machine.stands g.D.Machine.stands g.D.Machine.step g.D.Machine.says c.args.host c.args.limit c.in-Some.moment c.in_ok-answer.answer.device c.loop-place.drives c.react.new.drives c.in_ok-answer.answer.changes.items k
          (c.in_ok-answer.ensures.made.reacted (omega (arith, u, c.loop-place.invariant.carried.counted)) k.stations k.now c.in-Some.ensures.first) none));
      same = c.in_ok-answer.ensures.same ∙ c.loop-place.invariant.same;
      fewer = (λ until l. (let less = less_left c.in-Some.place c.in-Some.moment until c.loop-place.drives c.react.new.drives c.in-Some.ensures.first (omega (arith, c.if-moment-limit.false, l)) (omega (arith, c.requires.few, c.loop-place.invariant.same, c.in_ok-answer.ensures.same)) (c.in_ok-answer.ensures.nearer c.in-Some.ensures.first) in let so_far = c.loop-place.invariant.fewer until l in omega (arith, less, so_far)));
      carried = carried_on c.loop-place.invariant.carried c.in_ok-answer.ensures.carried;
      recorded = (λ one. settles_more g.D.Machine.shows c.args.host c.args.limit c.in-Some.moment c.in_ok-answer.answer.device c.args.drives.now c.loop-place.drives c.react.new.drives c.in_ok-answer.answer.changes.items (c.loop-place.invariant.recorded one)
          (c.in_ok-answer.ensures.made.recorded (c.loop-place.invariant.same ∙ one) c.in-Some.ensures.first) (omega (arith, c.if-moment-limit.false)) none);
    }

pub returns-then-moment-limit-clause-shown : goal.returns-then-moment-limit-clause-shown
returns-then-moment-limit-clause-shown g c = record {
  played = (λ u ss n until h l m. c.loop-place.invariant.played u ss n until h l m);
  some = λ u ss h any.
      absurd (shows_never _ g.D.Machine.State g.D.Machine.stands g.D.Machine.step g.D.Machine.says c.args.host c.args.limit c.loop-place.drives
      (first_in_time c.args.limit c.in-Some.moment c.in-Some.place c.loop-place.drives c.if-moment-limit.true c.in-Some.ensures.first) (c.loop-place.invariant.still u ss h any));
  recorded = λ one.
      settles_never g.D.Machine.shows c.args.host c.args.limit c.args.drives.now c.loop-place.drives _ (first_in_time c.args.limit c.in-Some.moment c.in-Some.place c.loop-place.drives c.if-moment-limit.true c.in-Some.ensures.first) (c.loop-place.invariant.recorded one);
}

pub returns-then-moment-limit-clause-first : goal.returns-then-moment-limit-clause-first
returns-then-moment-limit-clause-first g c = record {
  before = tt;
  shows = tt;
  moments = tt;
  settled = λ e. first_in_time c.args.limit c.in-Some.moment c.in-Some.place c.loop-place.drives c.if-moment-limit.true c.in-Some.ensures.first;
  fewer = tt;
}

pub returns-clause-shown : goal.returns-clause-shown
returns-clause-shown g c = record {
  played = (λ u ss n until h l m. c.loop-place.invariant.played u ss n until h l m);
  some = λ u ss h any.
      absurd (shows_never _ g.D.Machine.State g.D.Machine.stands g.D.Machine.step g.D.Machine.says c.args.host c.args.limit c.loop-place.drives (idle_in_time c.args.limit c.loop-place.drives c.in_default.ensures.first)
      (c.loop-place.invariant.still u ss h any));
  recorded = λ one. settles_never g.D.Machine.shows c.args.host c.args.limit c.args.drives.now c.loop-place.drives _ (idle_in_time c.args.limit c.loop-place.drives c.in_default.ensures.first) (c.loop-place.invariant.recorded one);
}

pub returns-clause-first : goal.returns-clause-first
returns-clause-first g c = record {
  before = tt;
  shows = tt;
  moments = tt;
  settled = λ e. idle_in_time c.args.limit c.loop-place.drives c.in_default.ensures.first;
  fewer = tt;
}

pub returns-then-not-is_empty-clause-shown : goal.returns-then-not-is_empty-clause-shown
returns-then-not-is_empty-clause-shown g c = record {
  played = λ u ss n until h l m.
      let s = c.loop-place.invariant.played (omega (arith, u, c.in_ok-answer.ensures.carried.counted)) ss n until h l m in
      settled_to _ g.D.Machine.State g.D.Machine.stands g.D.Machine.stands g.D.Machine.step g.D.Machine.says g.met.D.Machine.byte g.met.D.Machine.byte c.args.host until c.in-Some.moment c.in_ok-answer.answer.device n c.loop-place.drives c.react.new.drives
      c.in_ok-answer.answer.changes.items ss s (c.in_ok-answer.ensures.made.reacted (omega (arith, u, c.loop-place.invariant.carried.counted)) s.stations s.now c.in-Some.ensures.first);
  some = λ u ss h any. refl;
  recorded = λ one.
      let s = settles_to g.D.Machine.shows c.args.host c.args.limit c.in-Some.moment c.in_ok-answer.answer.device c.args.drives.now c.loop-place.drives c.react.new.drives c.in_ok-answer.answer.changes.items (c.loop-place.invariant.recorded one)
      (c.in_ok-answer.ensures.made.recorded (c.loop-place.invariant.same ∙ one) c.in-Some.ensures.first) in
      (s.0, (λ later ss h. ((λ n until l m. s.1 later ss h n until l m), (λ any. refl))));
}

pub returns-then-not-is_empty-clause-first : goal.returns-then-not-is_empty-clause-first
returns-then-not-is_empty-clause-first g c = record {
  before = (search rules);
  shows = (search rules);
  moments = (search rules);
  settled = (search rules);
  fewer = λ until l.
      let less = less_left c.in-Some.place c.in-Some.moment until c.loop-place.drives c.react.new.drives c.in-Some.ensures.first (omega (arith, c.if-moment-limit.false, l)) (omega (arith, c.requires.few, c.loop-place.invariant.same, c.in_ok-answer.ensures.same)) (c.in_ok-answer.ensures.nearer c.in-Some.ensures.first) in
      let so_far = c.loop-place.invariant.fewer until l in
      omega (arith, less, so_far);
}

pub returns-then-not-is_empty-clause-carried : goal.returns-then-not-is_empty-clause-carried
returns-then-not-is_empty-clause-carried g c = carried_on c.loop-place.invariant.carried c.in_ok-answer.ensures.carried
