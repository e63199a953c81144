use Rattle.std.proofs.Common.{◌∙◌, sym, ap, arith, refl, List, Bool, get_or, false}
use Rattle.cbm_gcr.specs.Code.{code}
use Rattle.cbm_sector.specs.Answer.{data_block}
use Rattle.cbm_sector.proofs.Writing.{IsWritten}
use Rattle.cbm_sector.proofs.Showing.{code_size, written, overwritten, own_shown, other_shown, id_kept, fault_shown, no_fault_shown, block_fits}
use Rattle.cbm_sector.proofs.Headers.{header_of_kept}
use Rattle.cbm_sector.proofs.sector.write_at.Goals as goal
use Rattle.cbm_sector.proofs.sector.write_at.Goals.{After-overwrite}

pub overwrite-requires-clause-fits : goal.overwrite-requires-clause-fits
overwrite-requires-clause-fits c = omega (
  arith,
  code_size c.coded_block.result c.data_block.result c.args.bytes.now c.told-bytes c.data_block.ensures c.coded_block.ensures,
  block_fits c.args.track.now c.args.id c.args.at c.in-Ok.place c.in-Ok.ensures.below (sym c.block_of.ensures.value ∙ c.in-Ok.is),
)

pub returns-in-Err-clause-refused : goal.returns-in-Err-clause-refused
returns-in-Err-clause-refused c = rw (fault_shown c.args.track.now c.args.id c.args.at c.in-Err.code (sym c.block_of.ensures.value ∙ c.in-Err.is)) refl

pub returns-in-Err-clause-cause : goal.returns-in-Err-clause-cause
returns-in-Err-clause-cause c = (fault_shown c.args.track.now c.args.id c.args.at c.in-Err.code (sym c.block_of.ensures.value ∙ c.in-Err.is), refl)

-- what the write leaves
done : (c : After-overwrite) → IsWritten c.args.track.now c.overwrite.new.self c.in-Ok.place (data_block c.args.bytes.now)
done c =
    let size = code_size c.coded_block.result c.data_block.result c.args.bytes.now c.told-bytes c.data_block.ensures c.coded_block.ensures in
    written c.args.track.now c.overwrite.new.self c.args.id c.args.at c.in-Ok.place c.args.bytes.now
    c.in-Ok.ensures.below (sym c.block_of.ensures.value ∙ c.in-Ok.is) c.overwrite.ensures.length c.told-bytes c.fits-bytes
    (λ k l. c.overwrite.ensures.bytes.written k (omega (arith, size))
    ∙ ap (λ (bs : List Bool). get_or bs k false) (c.coded_block.ensures ∙ ap code c.data_block.ensures))
    (λ k g l. c.overwrite.ensures.bytes.others k (omega (arith, size)) l)

pub returns-in-Ok-clause-ok : goal.returns-in-Ok-clause-ok
returns-in-Ok-clause-ok c = own_shown c.args.track.now c.overwrite.new.self c.in-Ok.place c.args.bytes.now (done c) c.told-bytes c.args.id c.args.at (sym c.block_of.ensures.value ∙ c.in-Ok.is)

pub returns-in-Ok-clause-others : goal.returns-in-Ok-clause-others
returns-in-Ok-clause-others c = λ id2 other ne. other_shown c.args.track.now c.overwrite.new.self c.in-Ok.place (data_block c.args.bytes.now) (done c) c.args.id id2 c.args.at other (sym c.block_of.ensures.value ∙ c.in-Ok.is) ne

pub returns-in-Ok-clause-id : goal.returns-in-Ok-clause-id
returns-in-Ok-clause-id c = id_kept c.args.track.now c.overwrite.new.self c.in-Ok.place (data_block c.args.bytes.now) (done c)

pub returns-in-Ok-clause-refused : goal.returns-in-Ok-clause-refused
returns-in-Ok-clause-refused c = rw (no_fault_shown c.args.track.now c.args.id c.args.at c.in-Ok.place (sym c.block_of.ensures.value ∙ c.in-Ok.is)) tt

pub returns-in-Ok-clause-long : goal.returns-in-Ok-clause-long
returns-in-Ok-clause-long c = block_fits c.args.track.now c.args.id c.args.at c.in-Ok.place c.in-Ok.ensures.below (sym c.block_of.ensures.value ∙ c.in-Ok.is)

pub returns-in-Ok-clause-bits : goal.returns-in-Ok-clause-bits
returns-in-Ok-clause-bits c = λ d e. overwritten c.args.track.now c.overwrite.new.self c.args.id c.args.at c.in-Ok.place c.args.bytes.now (done c) (sym c.block_of.ensures.value ∙ c.in-Ok.is) d e

pub returns-in-Ok-clause-headers : goal.returns-in-Ok-clause-headers
returns-in-Ok-clause-headers c = λ other. header_of_kept c.args.track.now c.overwrite.new.self c.in-Ok.place (data_block c.args.bytes.now) (done c) other
