use Rattle.std.proofs.Common.{arith}
use Rattle.cbm_basic.proofs.ProgramLemmas.{lines-whole, links-whole, after-whole}
use Rattle.cbm_basic.proofs.laws.programs_are_listed.Goals as goal

pub returns-clause-listed : goal.returns-clause-listed
returns-clause-listed c = λ lines more kept. lines-whole 2049 lines more (omega arith) kept

pub returns-clause-known : goal.returns-clause-known
returns-clause-known c = λ lines more kept. links-whole 2049 lines more (omega arith) kept

pub returns-clause-followed : goal.returns-clause-followed
returns-clause-followed c = λ lines more kept. after-whole 2049 lines more (omega arith) kept
