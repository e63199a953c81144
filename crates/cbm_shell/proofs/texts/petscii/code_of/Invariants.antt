use Rattle.std.proofs.Common.{◌≡◌, ◌-◌}
use Rattle.cbm_shell.specs.Petscii.{code_from}
use Rattle.cbm_shell.proofs.texts.petscii.code_of.Given as goal

-- the codes that are left make the whole
abbrev pub invariant-loop-number : goal.invariant-loop-number
invariant-loop-number l = code_from l.charset l.key (256 - l.number) l.number ≡ code_from l.charset l.key 256 0
