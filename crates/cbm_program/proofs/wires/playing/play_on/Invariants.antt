use Rattle.std.proofs.Common.{◌-◌}
use Rattle.bus_traces.specs.Lines.{source_bytes_left}
use Rattle.cbm_program.proofs.Playing.{Loops}
use Rattle.cbm_program.proofs.wires.playing.play_on.Given as goal

abbrev pub invariant-lines : goal.invariant-lines
invariant-lines g l =
    Loops g.M.Medium.seen l.initial.stage.player l.initial.stage.bus (g.W.Write.contents l.initial.writer) (g.W.Write.contents l.writer) (source_bytes_left g.R.Read.remaining l.initial.lines) (source_bytes_left g.R.Read.remaining l.lines) l.number l.from l.stage.player l.stage.bus

abbrev pub decreases-lines : goal.decreases-lines
decreases-lines g l = 1000001 - l.number
