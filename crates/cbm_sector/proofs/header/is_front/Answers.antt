use Rattle.std.proofs.Common.{arith}
use Rattle.std.proofs.lemmas.Bool.{eqb-false}
use Rattle.cbm_sector.proofs.Coding.{byte_from_bits}
use Rattle.cbm_sector.proofs.header.is_front.Goals as goal

pub returns : goal.returns
returns c = λ n e. eqb-false c.args.byte 82 n (byte_from_bits c.args.byte 82 (omega arith) (omega arith) e)
