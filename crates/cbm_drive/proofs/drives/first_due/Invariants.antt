use Rattle.std.proofs.Common.{◌<◌, take}
use Rattle.std.specs.Prelude.{IfSome}
use Rattle.cbm_drive.proofs.Firsts.{FirstOf}
use Rattle.cbm_drive.proofs.drives.first_due.Given as goal

-- what is due first of those that were looked at
abbrev pub invariant-loop-place : goal.invariant-loop-place
invariant-loop-place g l = FirstOf (take l.place l.drives) l.first × IfSome l.first (λ f. f.0 < l.place)
