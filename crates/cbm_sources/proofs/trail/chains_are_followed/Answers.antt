use Rattle.cbm_sources.proofs.ChainLemmas.{chain_told, told_met}
use Rattle.cbm_sources.proofs.trail.chains_are_followed.Goals as goal

pub returns-clause-told : goal.returns-clause-told
returns-clause-told c = chain_told

pub returns-clause-only : goal.returns-clause-only
returns-clause-only c = told_met
