use Rattle.std.proofs.Common.{rules}
use Rattle.cbm_volume.proofs.volume.Volume.next_slot.Goals as goal

pub returns-clause-gives : goal.returns-clause-gives
returns-clause-gives g c = search rules

pub returns-clause-tracks : goal.returns-clause-tracks
returns-clause-tracks g c = search rules

pub returns-clause-most : goal.returns-clause-most
returns-clause-most g c = search rules
