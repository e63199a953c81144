use Rattle.std.proofs.Common.{rules}
use Rattle.cbm_directory.proofs.slots.Slots.begin.Goals as goal

pub returns-clause-tracks : goal.returns-clause-tracks
returns-clause-tracks c = search rules

pub returns-clause-most : goal.returns-clause-most
returns-clause-most c = search rules
