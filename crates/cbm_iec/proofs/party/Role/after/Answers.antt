use Rattle.std.proofs.Common.{rules}
use Rattle.cbm_iec.proofs.party.Role.after.Goals as goal

-- another drive's TALK ends this one's role
pub returns-in-Talker : goal.returns-in-Talker
returns-in-Talker c = search rules

-- what is no TALK leaves a talker as it is
pub returns-in_default-3 : goal.returns-in_default-3
returns-in_default-3 c = search rules
