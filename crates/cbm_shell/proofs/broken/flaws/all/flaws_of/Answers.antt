use Rattle.std.proofs.Common.{sym, ◌∙◌}
use Rattle.cbm_bam.specs.Map.{geometry_of}
use Rattle.cbm_shell.proofs.FlawOrder.{sound_none, all_first}
use Rattle.cbm_shell.proofs.broken.flaws.all.flaws_of.Goals as goal

pub returns-in-Ok-clause-all : goal.returns-in-Ok-clause-all
returns-in-Ok-clause-all g c =
    let now = g.M.Medium.seen c.args.volume.now in
    c.new.ensures.items ∙ sym (sound_none (geometry_of now.tracks now.content) now.content c.in-Ok.ensures.ok)

pub returns-in-Err-clause-first : goal.returns-in-Err-clause-first
returns-in-Err-clause-first g c =
    all_first c.walk_disk.result (λ v. v.items) (g.M.Medium.seen c.args.volume.now).tracks (g.M.Medium.seen c.args.volume.now).content c.in-Err.field-0 c.walk_disk.ensures c.in-Err.ensures.err
