use Rattle.std.proofs.Common.{◌-◌}
use Rattle.cbm_direct.proofs.Sparing.{Decides}
use Rattle.cbm_direct.proofs.spared.is_on_chain.Given as goal

-- what is left of the chain decides for the whole
abbrev pub invariant-loop-done : goal.invariant-loop-done
invariant-loop-done g l = Decides l.geometry (g.M.Medium.seen l.medium).content l.at l.fn.first (l.count - l.done) l.link
