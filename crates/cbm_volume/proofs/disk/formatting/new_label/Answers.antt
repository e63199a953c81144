use Rattle.std.proofs.Common.{rules, ◌∙◌}
use Rattle.cbm_volume.proofs.formatted.NewHeads.{is_label}
use Rattle.cbm_volume.proofs.disk.formatting.new_label.Goals as goal

pub returns : goal.returns
returns c = is_label c.args.title.now c.args.id c.copy_from_slice.new.self (search rules) (c.copy_from_slice.ensures.after ∙ c.padded.ensures)
