use Rattle.std.proofs.Common.{ap, ◌∙◌, arith, rules, length}
use Rattle.std.proofs.lemmas.List.{take_at}
use Rattle.cbm_d64.specs.Image.{d64_content, d64_rest, index_of, IsSectorStored}
use Rattle.cbm_d64.proofs.Sectors.{content_written, rest_stored, seen_with}
use Rattle.cbm_d64.proofs.disk.D64DiskMedium.write.Goals as goal

pub returns-clause-ok : goal.returns-clause-ok
returns-clause-ok c =
    let stored : IsSectorStored c.args.self.now.bytes c.store.new.image (index_of c.args.at) c.args.bytes.now = search rules in
    let whole = take_at c.store.new.image _ c.self.inside.bytes.len (omega arith) in
    seen_with c.args.self.now _ _
    (ap d64_content whole ∙ content_written c.args.self.now.bytes c.store.new.image c.args.at c.args.bytes.now c.index.ensures.on_disk c.requires stored)
    (ap length whole ∙ stored.size) (ap d64_rest whole ∙ rest_stored c.args.self.now.bytes c.store.new.image (index_of c.args.at) c.args.bytes.now stored) (search rules)
