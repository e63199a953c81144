use Rattle.std.proofs.Common.{rules, ◌-◌}
use Rattle.cbm_g64.proofs.copying.copy_track.Goals as goal

pub returns-clause-here : goal.returns-clause-here
returns-clause-here g c = search rules

pub returns-clause-others : goal.returns-clause-others
returns-clause-others g c = search rules

pub returns-clause-disk : goal.returns-clause-disk
returns-clause-disk g c = search rules
