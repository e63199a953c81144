use Rattle.std.proofs.Common.{arith}
use Rattle.cbm_bam.specs.Marks.{is_marked}
use Rattle.cbm_bam.proofs.WholeMaps.{all_free}
use Rattle.cbm_bam.proofs.whole_map.anew.Goals as goal

pub loop-track-init : goal.loop-track-init
loop-track-init c = c.all_taken-anew.ensures (is_marked c.args.used.now)

pub loop-track-preserved : goal.loop-track-preserved
loop-track-preserved c = c.free_unused.ensures c.args.geometry c.args.map.now (omega arith) (omega arith) c.loop-track.invariant

pub returns-clause-free : goal.returns-clause-free
returns-clause-free c = all_free c.args.geometry c.args.map.now c.loop-track.anew (is_marked c.args.used.now) c.loop-track.track (omega arith) c.loop-track.invariant
