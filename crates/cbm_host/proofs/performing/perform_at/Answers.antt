use Rattle.std.proofs.Common.{◌+◌, ℕ, Some, [], ◌∷◌, false, refl, sym, ap, ◌∙◌, subst, arith, ◌++◌}
use Rattle.cbm_iec.specs.declared.pace.Pace.{Pace}
use Rattle.cbm_session.specs.Playing.{at_rest, IsMachine}
use Rattle.cbm_host.proofs.CarriedOut.{some_end, carried_soon, carried_out_then}
use Rattle.cbm_host.proofs.Performed.{performing_none}
use Rattle.cbm_host.proofs.performing.perform_at.Goals as goal
use Rattle.cbm_host.specs.CarriedOut.{IsShort}
use Rattle.cbm_host.proofs.EndsAt.{over_then}
use Rattle.cbm_host.specs.Engines.{engine_at, engine_due}
use Rattle.cbm_host.specs.Performed.{over_at, HasPerformed}
use Rattle.cbm_host.specs.Performers.{StopsPerforming}
use Rattle.cbm_host.specs.Requests.{longest}
use Rattle.cbm_drive.specs.Playback.{Playback, played_says, played_step, IsPlayedBack}
use Rattle.cbm_drive.specs.PlayedBack.{played_byte}
use Rattle.cbm_host.proofs.AnyDisk.{rest_played}
use Rattle.cbm_host.proofs.Anyway.{carried_anyway}

pub returns-in-Ok-clause-carried_out : goal.returns-in-Ok-clause-carried_out
returns-in-Ok-clause-carried_out g c = λ u b ms drive device pace short bus.
    let engine = engine_at c.args.start c.args.device c.args.request in
    let limit = c.args.start + longest c.args.pace in
    let ss = at_rest g.D.Machine.State g.D.Machine.step g.D.Machine.says ms (b ∷ []) in
    let h = c.in-Ok.ensures.performed u engine limit c.args.events.now.items ss
    (performing_none _ g.D.Machine.State g.D.Machine.stands g.D.Machine.step g.D.Machine.says g.met.D.Machine.byte engine limit c.with_pace-performer.result c.args.bus.now c.args.events.now.items c.new.result.items false ss bus c.with_pace-performer.ensures.player c.with_pace-performer.ensures.engine
    c.with_pace-performer.ensures.limit c.new.ensures.items refl) in
    let h2 = subst (λ (n : ℕ). HasPerformed _ g.D.Machine.State g.D.Machine.stands g.D.Machine.step g.D.Machine.says (engine_at c.args.start n c.args.request) (c.args.start + longest b.pace) c.run.new.performer c.run.new.bus c.args.events.now.items c.run.new.events.items c.run.new.done.bytes.items c.run.new.done.last ss) (sym device)
    (subst (λ (e : Pace). HasPerformed _ g.D.Machine.State g.D.Machine.stands g.D.Machine.step g.D.Machine.says engine (c.args.start + longest e) c.run.new.performer c.run.new.bus c.args.events.now.items c.run.new.events.items c.run.new.done.bytes.items c.run.new.done.last ss) (sym pace) h) in
    let short2 = subst (λ (n : ℕ). IsShort g.D.Machine.State g.D.Machine.step g.D.Machine.says n (ms n) c.args.request) (sym device) short in
    let machine : IsMachine g.D.Machine.State g.D.Machine.step g.D.Machine.says = record { more = g.met.D.Machine.more } in
    let end = some_end _ g.D.Machine.State g.D.Machine.stands g.D.Machine.step g.D.Machine.says machine b drive ms c.args.start c.args.request c.requires.channel short2 c.run.new.performer c.run.new.bus c.args.events.now.items c.run.new.events.items c.run.new.done.bytes.items c.run.new.done.last h2 in
    let soon = carried_soon _ g.D.Machine.State g.D.Machine.stands g.D.Machine.step g.D.Machine.says machine b drive ms c.args.start c.args.request c.requires.channel short2 c.run.new.performer c.run.new.bus c.args.events.now.items c.run.new.events.items c.run.new.done.bytes.items c.run.new.done.last h2 end.0 end.1 in
    let until = h2.until in
    let over = c.over.ensures.end end.0 end.1 (omega (arith, soon, until)) in
    carried_out_then _ g.D.Machine.State g.D.Machine.stands g.D.Machine.step g.D.Machine.says machine b drive ms c.args.start c.args.request c.requires.channel short2 c.run.new.performer c.run.new.bus c.args.events.now.items c.run.new.events.items c.run.new.done.bytes.items c.run.new.done.last h2
    c.over.result (end.1 ∙ ap (λ (t : ℕ). Some t) (sym over))

pub returns-in-Ok-clause-moments : goal.returns-in-Ok-clause-moments
returns-in-Ok-clause-moments g c = λ u ss bus.
    let engine = engine_at c.args.start c.args.device c.args.request in
    let limit = c.args.start + longest c.args.pace in
    let h = c.in-Ok.ensures.performed u engine limit c.args.events.now.items ss
    (performing_none _ g.D.Machine.State g.D.Machine.stands g.D.Machine.step g.D.Machine.says g.met.D.Machine.byte engine limit c.with_pace-performer.result c.args.bus.now c.args.events.now.items c.new.result.items false ss bus c.with_pace-performer.ensures.player c.with_pace-performer.ensures.engine
    c.with_pace-performer.ensures.limit c.new.ensures.items refl) in
    let stops = subst (λ (l : ℕ). StopsPerforming g.D.Machine.State g.D.Machine.step g.D.Machine.says c.run.new.performer.player l 0 ss h.made (engine_due c.run.new.performer.engine)) (sym h.until) h.stops in
    record {
      made = h.made;
      added = h.added;
      afterwards = h.afterwards;
      runs = h.runs;
      over = over_then g.D.Machine.State g.D.Machine.step g.D.Machine.says c.run.new.performer.player c.run.new.performer.limit c.over.result 0 ss h.made h.afterwards c.run.new.performer.engine h.goes_on stops c.over.ensures.end c.over.ensures.late c.over.ensures.given_up
          ∙ ap (λ (l : ℕ). over_at l h.afterwards.stage) h.until;
    }

pub returns-in-Err-clause-memory : goal.returns-in-Err-clause-memory
returns-in-Err-clause-memory g c = λ u ss bus.
    let engine = engine_at c.args.start c.args.device c.args.request in (
      refl,
      c.in-Err.ensures.memory u engine (c.args.start + longest c.args.pace) c.args.events.now.items ss
          (performing_none _ g.D.Machine.State g.D.Machine.stands g.D.Machine.step g.D.Machine.says g.met.D.Machine.byte engine (c.args.start + longest c.args.pace) c.with_pace-performer.result c.args.bus.now c.args.events.now.items c.new.result.items false ss bus c.with_pace-performer.ensures.player
          c.with_pace-performer.ensures.engine c.with_pace-performer.ensures.limit c.new.ensures.items refl),
    )

-- ---- on any disk

pub returns-in-Ok-clause-recorded : goal.returns-in-Ok-clause-recorded
returns-in-Ok-clause-recorded g c = λ b drive device pace rest.
    let shows = g.D.Machine.shows in
    let engine = engine_at c.args.start c.args.device c.args.request in
    let limit = c.args.start + longest c.args.pace in
    let run = c.in-Ok.ensures.recorded in
    let first = rest_played shows b c.args.bus.now (run.0 ++ []) rest in
    let ss = at_rest Playback played_step played_says (λ d. first.0) (b ∷ []) in
    let h = run.1 [] engine limit c.args.events.now.items ss
    (performing_none _ Playback (IsPlayedBack shows (run.0 ++ [])) played_step played_says (played_byte shows (run.0 ++ [])) engine limit c.with_pace-performer.result c.args.bus.now c.args.events.now.items c.new.result.items false ss first.1 c.with_pace-performer.ensures.player c.with_pace-performer.ensures.engine
    c.with_pace-performer.ensures.limit c.new.ensures.items refl) in
    let h2 = subst (λ (n : ℕ). HasPerformed _ Playback (IsPlayedBack shows []) played_step played_says (engine_at c.args.start n c.args.request) (c.args.start + longest b.pace) c.run.new.performer c.run.new.bus c.args.events.now.items c.run.new.events.items c.run.new.done.bytes.items c.run.new.done.last ss) (sym device)
    (subst (λ (e : Pace). HasPerformed _ Playback (IsPlayedBack shows []) played_step played_says engine (c.args.start + longest e) c.run.new.performer c.run.new.bus c.args.events.now.items c.run.new.events.items c.run.new.done.bytes.items c.run.new.done.last ss) (sym pace) h) in
    carried_anyway shows b drive c.args.start c.args.request c.requires.channel c.args.bus.now c.run.new.bus (run.0 ++ []) first.0 first.1 c.run.new.performer c.args.events.now.items c.run.new.events.items c.run.new.done.bytes.items c.run.new.done.last c.over.result h2 c.over.ensures.end

pub returns-in-Err-clause-recorded : goal.returns-in-Err-clause-recorded
returns-in-Err-clause-recorded g c = λ b drive device pace rest.
    let shows = g.D.Machine.shows in
    let engine = engine_at c.args.start c.args.device c.args.request in
    let limit = c.args.start + longest c.args.pace in
    let run = c.in-Err.ensures.recorded in
    let first = rest_played shows b c.args.bus.now (run.0 ++ []) rest in
    let ss = at_rest Playback played_step played_says (λ d. first.0) (b ∷ []) in
    record {
      played = first.0;
      trail = run.0 ++ [];
      began = first.1;
      cut = run.1 [] engine limit c.args.events.now.items ss
          (performing_none _ Playback (IsPlayedBack shows (run.0 ++ [])) played_step played_says (played_byte shows (run.0 ++ [])) engine limit c.with_pace-performer.result c.args.bus.now c.args.events.now.items c.new.result.items false ss first.1 c.with_pace-performer.ensures.player
          c.with_pace-performer.ensures.engine c.with_pace-performer.ensures.limit c.new.ensures.items refl);
    }
