use Rattle.cbm_session.proofs.laws.rows.Goals as goal
use Rattle.cbm_session.proofs.reading.Numbers.{listen_own, listen_other, talk_cut, talk_cut_early, two_listeners, ties_9_8, ties_8_9, beside_a_listener, silent_beside}

pub returns : goal.returns
returns c = record { listen_own = listen_own; listen_other = listen_other; talk_cut = talk_cut; talk_cut_early = talk_cut_early; two_listeners = two_listeners; ties_9_8 = ties_9_8; ties_8_9 = ties_8_9; beside_a_listener = beside_a_listener; silent_beside = silent_beside }
