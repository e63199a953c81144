use Rattle.bus_traces.proofs.BreakLemmas.{first_break}
use Rattle.bus_traces.proofs.text.source.Source.waiting_line.Goals as goal

-- the end was found
pub returns : goal.returns
returns g c = first_break _ c.in_ok-count.count c.in_ok-count.ensures
