use Rattle.cbm_bam.specs.Marks.{is_marked}
use Rattle.cbm_bam.specs.WrittenAnew.{IsAnew}
use Rattle.cbm_bam.proofs.whole_map.anew.Given as goal

abbrev pub invariant-loop-track : goal.invariant-loop-track
invariant-loop-track l = IsAnew l.fn.geometry l.map l.anew (is_marked l.used) l.track 0
