use Rattle.std.proofs.Common.{◌≡◌, drop}
use Rattle.bus_traces.specs.Records.{events_recorded, recorded_by}
use Rattle.bus_traces.proofs.Recorded.{HasRecorded}
use Rattle.bus_traces.proofs.recorder.Recorder.events.Given as goal

abbrev pub invariant-loop-event : goal.invariant-loop-event
invariant-loop-event g l = record {
  written : HasRecorded (recorded_by g.W.Write.contents l.initial.self) (recorded_by g.W.Write.contents l.self) (events_recorded l.initial.self.form l.initial.self.moment l.initial.self.cable l.events) (events_recorded l.self.form l.self.moment l.self.cable (drop l.event-index l.events));
  form : l.self.form ≡ l.initial.self.form;
}
