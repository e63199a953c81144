use Rattle.std.proofs.Common.{◌∙◌}
use Rattle.cbm_directory.proofs.Named.{fresh_as}
use Rattle.cbm_directory.proofs.entry.Entry.fresh.Goals as goal

pub returns-clause-says : goal.returns-clause-says
returns-clause-says c =
    fresh_as c.number.result c.track.result c.sector.result c.copy_from_slice.new.self c.args.name.now c.args.kind c.args.first
    c.number.ensures c.track.ensures c.sector.ensures (c.copy_from_slice.ensures.after ∙ c.padded.ensures) c.requires
