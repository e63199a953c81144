use Rattle.std.proofs.Common.{◌∙◌, ◌<◌, length, rules}
use Rattle.bus_traces.proofs.Recorded.{has-step}
use Rattle.bus_traces.proofs.recorder.Recorder.events.Goals as goal

-- an event more was written
pub loop-event-preserved : goal.loop-event-preserved
loop-event-preserved g c =
    let within : c.loop-event.event-index < length c.args.events.now = search rules in
    record {
      written = rw (c.event.ensures.form, c.event.ensures.moment, c.event.ensures.cable) (has-step _ _ _ _ c.loop-event.self.form c.loop-event.self.moment c.loop-event.self.cable c.args.events.now c.loop-event.event-index _ within c.loop-event.invariant.written c.in_ok-event.ensures.written);
      form = c.event.ensures.form ∙ c.loop-event.invariant.form;
    }
