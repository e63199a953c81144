use Rattle.bus_beside.proofs.plays.Plays.+next_shown.Given as goal

abbrev pub decreases-next_shown : goal.decreases-next_shown
decreases-next_shown g l = l.fuel
