use Rattle.std.proofs.Common.{◌∙◌, ap, arith, rules, length}
use Rattle.std.proofs.lemmas.List.{places}
use Rattle.cbm_gcr.specs.Code.{bits_of}
use Rattle.cbm_sector.proofs.Reading.{code_more}
use Rattle.cbm_sector.proofs.block.coded_block.Goals as goal

pub loop-i-preserved : goal.loop-i-preserved
loop-i-preserved c = record {
  length = search (rules, places);
  made = code_more c.loop-i.coded c.copy_from_slice.new.self c.args.block.now c.loop-i.i _ (omega arith) (omega (arith, c.loop-i.invariant.length)) (omega (arith, ap length c.copy_from_slice.ensures.after)) c.loop-i.invariant.made
      (ap bits_of c.copy_from_slice.ensures.after ∙ c.encode4.ensures);
}
