use Rattle.std.proofs.Common.{◌≡◌, ℕ, ◌+◌, ◌*◌, ◌/◌, ap, ◌∙◌, arith, rules}
use Rattle.cbm_relfile.specs.Making.{fresh_byte}
use Rattle.cbm_relfile.proofs.growth.making.fresh_block.Goals as goal

-- a file of one block is that block
pub returns : goal.returns
returns c =
    let f = c.fresh_from.ensures in
    record {
      whole = f.whole;
      last = f.track ∙ (search rules);
      full = f.sector ∙ (search rules);
      each = λ o h. f.fresh o (omega arith) h ∙ (let e : 254 * 0 + o ≡ o = omega arith in ap (λ (n : ℕ). fresh_byte c.args.length (254 / c.args.length) n) e);
    }
