use Rattle.cbm_saved.proofs.Seals.{seal_opens}
use Rattle.cbm_saved.proofs.Again.{two_again, eight_again, text_again}
use Rattle.cbm_saved.proofs.laws.what_is_saved_reads_back.Goals as goal

pub returns-clause-two : goal.returns-clause-two
returns-clause-two c = two_again

pub returns-clause-eight : goal.returns-clause-eight
returns-clause-eight c = eight_again

pub returns-clause-text : goal.returns-clause-text
returns-clause-text c = text_again

pub returns-clause-seal : goal.returns-clause-seal
returns-clause-seal c = seal_opens
