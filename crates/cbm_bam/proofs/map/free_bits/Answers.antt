use Rattle.std.proofs.Common.{◌+◌, ap, arith}
use Rattle.cbm_bam.specs.Map.{is_free_in}
use Rattle.cbm_bam.proofs.Counts.{number_on}
use Rattle.cbm_bam.proofs.map.free_bits.Goals as goal

pub loop-track-preserved : goal.loop-track-preserved
loop-track-preserved c =
    (number_on (is_free_in c.args.map.now) c.loop-track.track c.loop-track.free (c.loop-track.free + c.free_for_files.result) (omega arith) c.loop-track.invariant.0 (ap (λ x. c.loop-track.free + x) c.free_for_files.ensures), omega arith)
