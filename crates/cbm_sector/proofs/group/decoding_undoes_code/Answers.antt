use Rattle.cbm_sector.proofs.Coding.{decoded_again, code_from_decoded, no_ten_ones}
use Rattle.cbm_sector.proofs.group.decoding_undoes_code.Goals as goal

pub returns : goal.returns
returns c = record { again = decoded_again; only = code_from_decoded; no_sync = no_ten_ones }
