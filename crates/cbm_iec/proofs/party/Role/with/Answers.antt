use Rattle.std.proofs.Common.{rules}
use Rattle.cbm_iec.proofs.party.Role.with.Goals as goal

-- a byte in attention turns the role as it says
pub returns-in-Some-Attention : goal.returns-in-Some-Attention
returns-in-Some-Attention c = search rules

-- no other act changes a role
pub returns-in_default : goal.returns-in_default
returns-in_default c = search rules
