use Rattle.std.proofs.Common.{◌∙◌, sym}
use Rattle.cbm_sector.proofs.Reading.{five_bits}
use Rattle.cbm_sector.proofs.group.group_in.Goals as goal

pub returns-clause-value : goal.returns-clause-value
returns-clause-value c = λ v b.
    let f = c.decode5.ensures.value v b in
    (λ e. f.0 e ∙ five_bits c.args.coded.now c.args.at c.requires.inside, λ e. f.1 (e ∙ sym (five_bits c.args.coded.now c.args.at c.requires.inside)))
