-- What is written of a trace, in either form.
use Rattle.std.specs.Prelude.{ℕ, List, [], ◌∷◌, ◌++◌, Option, nat_lt, if◌then◌else◌}
use Rattle.std.specs.Io.KnownBytes.{append_known}
use Rattle.cbm_iec.specs.declared.event.Event.{Event}
use Rattle.bus_traces.specs.declared.cable.Cable.{Cable}
use Rattle.bus_traces.specs.declared.recorder.Recorder.{Recorder}
use Rattle.bus_traces.specs.declared.recorder.TraceForm.{TraceForm}
use Rattle.bus_traces.specs.declared.recorder.TraceForm.TheVariants.{Lines, Vcd}
use Rattle.bus_traces.specs.Cables.{after}
use Rattle.bus_traces.specs.Dumps.{dump_event, time_text}
use Rattle.bus_traces.specs.Events.{event_text}

-- what is written of an event after those of a moment, where the cable was so
abbrev pub record_event : TraceForm → ℕ → Cable → Event → List ℕ
record_event Lines last cable e = event_text e
record_event Vcd last cable e = dump_event last cable e

-- WHAT IS WRITTEN OF EVENTS, one after the other, after those of a moment, where the cable was so
abbrev pub events_recorded : TraceForm → ℕ → Cable → List Event → List ℕ
events_recorded form last cable [] = []
events_recorded form last cable (e ∷ es) = record_event form last cable e ++ events_recorded form e.change.moment (after e cable) es

-- what ends a trace at a moment: in a VCD that moment, where it comes after the last event's
abbrev pub end_text : TraceForm → ℕ → ℕ → List ℕ
end_text Lines last moment = []
end_text Vcd last moment = if nat_lt last moment then time_text last moment else []

-- what a recorder has written, where it is known what its writer holds: that, and the text that waits to be handed on
abbrev pub recorded_by : {W : Type 0} → (W → Option (List ℕ)) → Recorder W → Option (List ℕ)
recorded_by contents r = append_known (contents r.writer) r.text.items
