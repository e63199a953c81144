use Rattle.cbm_program.proofs.OutputLemmas.{written_on}
use Rattle.cbm_program.proofs.output.print.Goals as goal

pub writes-preserved : goal.writes-preserved
writes-preserved g c = written_on _ _ _ _ _ _ c.in-Ok.count c.writes.invariant c.in-Ok.ensures.bytes c.split_at.ensures.back
