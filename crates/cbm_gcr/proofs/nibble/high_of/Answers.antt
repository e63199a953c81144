use Rattle.cbm_gcr.proofs.Nibbles.{high_whole, high_code, high_most}
use Rattle.cbm_gcr.proofs.nibble.high_of.Goals as goal

pub returns-clause-known : goal.returns-clause-known
returns-clause-known c = λ l. (high_whole c.args.five c.requires l, high_code c.args.five c.requires l)

pub returns-clause-most : goal.returns-clause-most
returns-clause-most c = high_most c.args.five c.requires
