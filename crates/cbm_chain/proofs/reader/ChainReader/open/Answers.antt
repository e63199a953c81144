use Rattle.std.proofs.Common.{rules}
use Rattle.cbm_chain.proofs.reader.ChainReader.open.Goals as goal

pub returns-then-is_end-clause-err : goal.returns-then-is_end-clause-err
returns-then-is_end-clause-err g c = search rules

pub returns-then-is_end-clause-tracks : goal.returns-then-is_end-clause-tracks
returns-then-is_end-clause-tracks g c = search rules

pub returns-then-is_end-clause-settled : goal.returns-then-is_end-clause-settled
returns-then-is_end-clause-settled g c = search rules

pub returns-then-is_end-clause-begins : goal.returns-then-is_end-clause-begins
returns-then-is_end-clause-begins g c = search rules

pub returns-then-is_end-clause-never_26 : goal.returns-then-is_end-clause-never_26
returns-then-is_end-clause-never_26 g c = search rules

pub returns-in_err-sector-clause-ok : goal.returns-in_err-sector-clause-ok
returns-in_err-sector-clause-ok g c = search rules

pub returns-in_err-sector-clause-err : goal.returns-in_err-sector-clause-err
returns-in_err-sector-clause-err g c = search rules

pub returns-in_err-sector-clause-tracks : goal.returns-in_err-sector-clause-tracks
returns-in_err-sector-clause-tracks g c = search rules

pub returns-in_err-sector-clause-settled : goal.returns-in_err-sector-clause-settled
returns-in_err-sector-clause-settled g c = search rules

pub returns-in_err-sector-clause-begins : goal.returns-in_err-sector-clause-begins
returns-in_err-sector-clause-begins g c = search rules

pub returns-in_err-sector-clause-never_26 : goal.returns-in_err-sector-clause-never_26
returns-in_err-sector-clause-never_26 g c = search rules

pub returns-clause-err : goal.returns-clause-err
returns-clause-err g c = search rules

pub returns-clause-tracks : goal.returns-clause-tracks
returns-clause-tracks g c = search rules

pub returns-clause-settled : goal.returns-clause-settled
returns-clause-settled g c = search rules

pub returns-clause-begins : goal.returns-clause-begins
returns-clause-begins g c = search rules

pub returns-clause-never_26 : goal.returns-clause-never_26
returns-clause-never_26 g c = search rules
