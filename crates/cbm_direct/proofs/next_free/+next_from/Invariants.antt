use Rattle.cbm_direct.proofs.next_free.+next_from.Given as goal

abbrev pub decreases-next_from : goal.decreases-next_from
decreases-next_from g l = l.left
