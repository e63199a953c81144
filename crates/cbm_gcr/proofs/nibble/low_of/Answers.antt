use Rattle.cbm_gcr.proofs.Nibbles.{low_small, low_code, low_most}
use Rattle.cbm_gcr.proofs.nibble.low_of.Goals as goal

pub returns-clause-known : goal.returns-clause-known
returns-clause-known c = λ l. (low_small c.args.five c.requires l, low_code c.args.five c.requires l)

pub returns-clause-most : goal.returns-clause-most
returns-clause-most c = low_most c.args.five c.requires
