use Rattle.std.proofs.Common.{arith}
use Rattle.cbm_track.proofs.Joining.{joined_by}
use Rattle.cbm_track.proofs.stretches.joined.Goals as goal

pub returns : goal.returns
returns c = joined_by c.args.first c.args.second c.args.bit c.requires (omega arith) (omega arith)
