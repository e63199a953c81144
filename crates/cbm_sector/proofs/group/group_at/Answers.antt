use Rattle.std.proofs.Common.{◌∙◌, ◌≡◌, ◌+◌, ◌*◌, ap, arith, ℕ}
use Rattle.cbm_sector.specs.Decoding.{coded_at}
use Rattle.cbm_sector.proofs.Reading.{group_there}
use Rattle.cbm_sector.proofs.group.group_at.Goals as goal

pub returns : goal.returns
returns c = group_there c.args.track.now c.args.place c.bytes_at.new.out 0 40 c.group_in.result c.bytes_at.ensures (omega arith) c.group_in.ensures.value c.group_in.ensures.block
    ∙ (let q : c.args.place + 8 * 0 ≡ c.args.place = omega arith in ap (λ (p : ℕ). coded_at c.args.track.now p 4) q)
