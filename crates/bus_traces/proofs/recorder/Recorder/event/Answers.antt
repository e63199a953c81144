use Rattle.std.proofs.Common.{◌++◌, sym, ap, ◌∙◌}
use Rattle.std.proofs.lemmas.Result.{on_ok_weaker}
use Rattle.bus_traces.specs.Records.{record_event}
use Rattle.bus_traces.specs.declared.recorder.TraceForm.{TraceForm}
use Rattle.bus_traces.proofs.Recorded.{waits-more}
use Rattle.bus_traces.proofs.recorder.Recorder.event.Goals as goal

-- the line stands after what waited
pub returns-in-Lines-clause-written : goal.returns-in-Lines-clause-written
returns-in-Lines-clause-written g c =
    let room = c.make_room-handed in
    let form = sym room.ensures.form ∙ c.in-Lines.is in
    on_ok_weaker room.result (λ kept. waits-more _ _ c.args.self.now.text.items room.new.self.text.items _ _ kept
    (c.put_event.ensures ∙ ap (λ (f : TraceForm). room.new.self.text.items ++ record_event f c.args.self.now.moment c.args.self.now.cable c.args.event) (sym form))) room.ensures.kept
