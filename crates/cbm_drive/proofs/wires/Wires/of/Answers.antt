use Rattle.std.proofs.Common.{ap, ◌∙◌, arith}
use Rattle.cbm_drive.specs.Seats.{pulls_counted, clock_of, data_pulls}
use Rattle.cbm_iec.specs.declared.lines.Held.{Held}
use Rattle.cbm_drive.proofs.Totals.{total_next}
use Rattle.cbm_drive.proofs.wires.Wires.of.Goals as goal

pub loop-drive-preserved : goal.loop-drive-preserved
loop-drive-preserved g c =
    let i = c.loop-drive.invariant in (
      total_next clock_of c.args.drives.now c.loop-drive.drive-index c.drive-item.result c.loop-drive.clocks c.bit-clocks.result c.loop-drive-test.true c.drive-item.is i.0 (c.bit-clocks.ensures.value ∙ ap (λ (h : Held). pulls_counted h.clock_low) c.own-own.ensures),
      total_next data_pulls c.args.drives.now c.loop-drive.drive-index c.drive-item.result c.loop-drive.datas c.bit-datas.result c.loop-drive-test.true c.drive-item.is i.1 (c.bit-datas.ensures.value ∙ ap (λ (h : Held). pulls_counted h.data_low) c.own-own.ensures),
      omega (arith, i.2, c.bit-clocks.ensures.most),
      omega (arith, i.3, c.bit-datas.ensures.most),
    )
