use Rattle.std.proofs.Common.{ap, ◌∙◌, arith, rules, length}
use Rattle.std.proofs.lemmas.List.{take_at}
use Rattle.cbm_d64.specs.Image.{d64_content, d64_rest, IsErased}
use Rattle.cbm_d64.proofs.Sectors.{content_blank, rest_erased, seen_formatted}
use Rattle.cbm_d64.proofs.disk.D64DiskMedium.format.Goals as goal

pub returns-clause-ok : goal.returns-clause-ok
returns-clause-ok c =
    let erased : IsErased c.args.self.now.bytes c.erase.new.image = search rules in
    let whole = take_at c.erase.new.image _ c.self.inside.bytes.len (omega arith) in
    seen_formatted c.args.self.now _ c.args.id
    (ap d64_content whole ∙ content_blank c.args.self.now.bytes c.erase.new.image erased) (ap length whole ∙ erased.size)
    (ap d64_rest whole ∙ rest_erased c.args.self.now.bytes c.erase.new.image erased) (search rules)
