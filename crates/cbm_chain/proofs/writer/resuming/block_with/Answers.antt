use Rattle.std.proofs.Common.{◌≡◌, ◌+◌, ◌-◌, length, ap, ◌∙◌, arith}
use Rattle.cbm_chain.proofs.Resumed.{zeros_after}
use Rattle.cbm_chain.proofs.writer.resuming.block_with.Goals as goal

pub returns-clause-zeros : goal.returns-clause-zeros
returns-clause-zeros c =
    let same : length c.args.bytes.now ≡ 2 + length c.args.bytes.now - 2 = omega arith in
    λ i h. zeros_after c.copy_from_slice.new.self (2 + length c.args.bytes.now - 2) (ap length c.copy_from_slice.ensures.after ∙ same) i (omega arith)
