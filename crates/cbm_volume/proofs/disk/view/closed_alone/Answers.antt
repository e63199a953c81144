use Rattle.std.proofs.Common.{refl}
use Rattle.cbm_volume.proofs.mended.Viewed.{swept_none, swept_next}
use Rattle.cbm_volume.proofs.disk.view.closed_alone.Goals as goal

pub loop-number-init : goal.loop-number-init
loop-number-init c = swept_none c.args.sector.now c.args.sector.now refl

pub loop-number-preserved : goal.loop-number-preserved
loop-number-preserved c = swept_next c.loop-number.number _ c.args.sector.now c.loop-number.closed c.cleared-closed.result refl c.loop-number.invariant c.cleared-closed.ensures
