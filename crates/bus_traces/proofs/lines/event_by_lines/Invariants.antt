use Rattle.bus_traces.specs.Lines.{source_bytes_left}
use Rattle.bus_traces.proofs.ReadingLemmas.{SaysSame}
use Rattle.bus_traces.proofs.lines.event_by_lines.Given as goal

abbrev pub invariant-lines : goal.invariant-lines
invariant-lines g l = record {
  same : SaysSame l.from (source_bytes_left g.R.Read.remaining l.initial.source) (source_bytes_left g.R.Read.remaining l.source);
}
