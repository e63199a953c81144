use Rattle.bus_traces.proofs.BreakLemmas.{passed_line}
use Rattle.bus_traces.proofs.text.source.Source.pass_line.Goals as goal

-- the line is gone
pub returns : goal.returns
returns g c = λ line size begins. passed_line _ _ _ _ (g.R.Read.remaining c.args.self.now.reader) line c.requires size begins
