use Rattle.std.proofs.Common.{refl}
use Rattle.std.specs.Fmt.{digits}
use Rattle.bus_traces.proofs.event.drive_text.Goals as goal

-- the digits of each number
pub returns-in-8-clause-text : goal.returns-in-8-clause-text
unfolding digits
returns-in-8-clause-text c = rw c.in-8.is refl

pub returns-in-9-clause-text : goal.returns-in-9-clause-text
unfolding digits
returns-in-9-clause-text c = rw c.in-9.is refl

pub returns-in-10-clause-text : goal.returns-in-10-clause-text
unfolding digits
returns-in-10-clause-text c = rw c.in-10.is refl

pub returns-in-11-clause-text : goal.returns-in-11-clause-text
unfolding digits
returns-in-11-clause-text c = rw c.in-11.is refl
