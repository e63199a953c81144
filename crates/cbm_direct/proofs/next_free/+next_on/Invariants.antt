use Rattle.cbm_direct.proofs.next_free.+next_on.Given as goal

abbrev pub decreases-next_on : goal.decreases-next_on
decreases-next_on g l = l.left
