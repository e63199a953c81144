use Rattle.std.proofs.Common.{refl}
use Rattle.cbm_sources.specs.Lynxes.{members_of}
use Rattle.cbm_sources.proofs.lynx.members_of.Goals as goal

pub returns-in-Some : goal.returns-in-Some
unfolding members_of
returns-in-Some c = rw (← c.in-Some.ensures) c.members_after.ensures

pub returns-in-None : goal.returns-in-None
unfolding members_of
returns-in-None c = rw (← c.in-None.ensures, c.new.ensures.items, c.new-in-None.ensures.items) refl
