use Rattle.std.proofs.Common.{rules}
use Rattle.cbm_iec.proofs.mouth.Mouth.answer.Goals as goal

-- a byte to say is led, and no act
pub returns-in-Some-default : goal.returns-in-Some-default
returns-in-Some-default c = search rules

-- with nothing to say the drive is silent
pub returns-in-None-Profile : goal.returns-in-None-Profile
returns-in-None-Profile c = search rules

-- and at a KERNAL's pace holds CLOCK first
pub returns-in-None-Kernal : goal.returns-in-None-Kernal
returns-in-None-Kernal c = search rules
