use Rattle.std.proofs.Common.{◌≡◌}
use Rattle.cbm_volume.specs.Views.{swept}
use Rattle.cbm_volume.proofs.disk.view.closed_alone.Given as goal

-- the entries so far are empty unless they are closed
abbrev pub invariant-loop-number : goal.invariant-loop-number
invariant-loop-number l = l.closed ≡ swept l.number l.fn.sector
