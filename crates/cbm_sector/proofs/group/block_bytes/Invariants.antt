use Rattle.std.proofs.Common.{◌≡◌, ◌*◌, take, Some, length}
use Rattle.cbm_sector.specs.Decoding.{coded_at}
use Rattle.cbm_sector.proofs.group.block_bytes.Given as goal

abbrev pub invariant-loop-i : goal.invariant-loop-i
invariant-loop-i l = record { length : length l.block ≡ 260; read : coded_at l.track l.place (4 * l.i) ≡ Some (take (4 * l.i) l.block) }
