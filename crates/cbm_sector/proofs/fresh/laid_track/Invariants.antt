use Rattle.std.proofs.Common.{◌≡◌, ◌*◌}
use Rattle.arrayvec.specs.ArrayVec.{array_vec_len}
use Rattle.cbm_gcr.specs.Code.{bits_of}
use Rattle.cbm_sector.specs.Fresh.{fresh_sectors}
use Rattle.cbm_sector.proofs.fresh.laid_track.Given as goal

abbrev pub invariant-loop-sector : goal.invariant-loop-sector
invariant-loop-sector l = record { size : array_vec_len l.bytes ≡ 362 * l.sector; made : bits_of l.bytes.items ≡ fresh_sectors l.fn.track l.fn.id l.sector }
