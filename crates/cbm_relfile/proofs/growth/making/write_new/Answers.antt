use Rattle.std.proofs.Common.{◌≡◌, ap, ◌∙◌}
use Rattle.cbm_medium.specs.Content.{written}
use Rattle.cbm_medium.specs.Seen.{Seen}
use Rattle.cbm_relfile.proofs.growth.making.write_new.Goals as goal

pub returns-clause-written : goal.returns-clause-written
returns-clause-written g c =
    let old : Seen = g.M.Medium.seen c.args.medium.now in
    let mid : Seen = g.M.Medium.seen c.write.new.self in
    let new : Seen = g.M.Medium.seen c.write-2.new.self in
    let block_is : mid.content ≡ written old.content c.args.block c.fresh_block.result = ap (λ (s : Seen). s.content) c.in_ok-write.ensures.ok in
    let side_is : new.content ≡ written mid.content c.args.side c.first_side.result = ap (λ (s : Seen). s.content) c.in_ok-write-2.ensures.ok in
    record {
      block = c.fresh_block.result;
      fresh = c.fresh_block.ensures;
      written = side_is ∙ (λ i. written (block_is i) c.args.side (c.first_side.ensures i));
    }
