use Rattle.std.proofs.Common.{arith, sym, ◌∙◌}
use Rattle.bus_traces.specs.Lines.{source_bytes_left}
use Rattle.cbm_program.proofs.TimedLines.{read_bytes}
use Rattle.cbm_program.proofs.numbered.next_line.Goals.{else-found-via-then-found+else-number-gt-LINES, else-found-via-else-found}
use Rattle.cbm_program.proofs.numbered.next_line.Goals as goal

pub returns : goal.returns
returns g c =
    elim c.else-found.branch [
      | else-found-via-then-found+else-number-gt-LINES w ↦ read_bytes (source_bytes_left g.R.Read.remaining c.args.lines.now) (source_bytes_left g.R.Read.remaining c.next_line.new.self) c.args.number c.next_line.new.line.items c.in-Ok.found c.in-Ok.ensures.line
          (λ e. omega (arith, w.if-number-gt-LINES.false))
      | else-found-via-else-found w ↦ read_bytes (source_bytes_left g.R.Read.remaining c.args.lines.now) (source_bytes_left g.R.Read.remaining c.next_line.new.self) c.args.number c.next_line.new.line.items c.in-Ok.found c.in-Ok.ensures.line
          (λ e. absurd (let z = sym e ∙ w.if-found.false in cc))
    ]
