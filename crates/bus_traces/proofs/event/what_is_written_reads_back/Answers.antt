use Rattle.bus_traces.proofs.ReadingBack.{event_back}
use Rattle.bus_traces.proofs.TraceBack.{trace_back, recorded_back}
use Rattle.bus_traces.proofs.event.what_is_written_reads_back.Goals as goal

pub returns-clause-event : goal.returns-clause-event
returns-clause-event c = event_back

pub returns-clause-trace : goal.returns-clause-trace
returns-clause-trace c = trace_back 0

pub returns-clause-recorded : goal.returns-clause-recorded
returns-clause-recorded c = recorded_back
