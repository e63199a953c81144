use Rattle.std.proofs.Common.{◌-◌, length}
use Rattle.std.specs.Io.KnownBytes.{Consumes}
use Rattle.bus_traces.specs.Lines.{source_bytes_left}
use Rattle.bus_traces.proofs.LineLemmas.{IsUnbroken}
use Rattle.bus_traces.proofs.text.source.Source.next_line.Given as goal

abbrev pub invariant-bytes : goal.invariant-bytes
invariant-bytes g l = record {
  taken : Consumes (source_bytes_left g.R.Read.remaining l.initial.self) (source_bytes_left g.R.Read.remaining l.self) l.line.items;
  unbroken : IsUnbroken l.line.items;
}

abbrev pub decreases-bytes : goal.decreases-bytes
decreases-bytes g l = 1000 - length l.line.items
