use Rattle.std.proofs.Common.{ap, sym, ◌∙◌, arith, take, get_or}
use Rattle.std.proofs.lemmas.List.{take_more}
use Rattle.cbm_sources.specs.Tapes.{trimmed}
use Rattle.cbm_sources.proofs.TapeLemmas.{trimmed_space, trimmed_other}
use Rattle.cbm_sources.proofs.record.trimmed.Goals.{then-byte-ne32, else-byte-ne32}
use Rattle.cbm_sources.proofs.record.trimmed.Goals as goal

pub loop-i-preserved : goal.loop-i-preserved
loop-i-preserved c =
    let name = c.args.name.now in
    let more = take_more name c.loop-i.i 0 c.loop-i-test.true in
    elim c.if-byte-ne32.branch [
      | then-byte-ne32 w ↦
          rw w.end-is (record {
            front = more ∙ sym (trimmed_other (take c.loop-i.i name) (get_or name c.loop-i.i 0) w.if-byte-ne32.true) ∙ ap trimmed (sym more);
            inside = omega arith;
          })
      | else-byte-ne32 w ↦
          rw w.end-is (record {
            front = c.loop-i.invariant.front ∙ sym (trimmed_space (take c.loop-i.i name) (get_or name c.loop-i.i 0) w.if-byte-ne32.false) ∙ ap trimmed (sym more);
            inside = omega (arith, c.loop-i.invariant.inside);
          })
    ]
