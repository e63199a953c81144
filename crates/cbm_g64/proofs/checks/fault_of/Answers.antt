use Rattle.std.proofs.Common.{◌∙◌, sym}
use Rattle.cbm_g64.proofs.Sound.{long_tables, inside_at}
use Rattle.cbm_g64.proofs.checks.fault_of.Goals as goal

pub are_sized-requires-clause-tables : goal.are_sized-requires-clause-tables
are_sized-requires-clause-tables c = long_tables c.args.file.now (sym c.has_entries.ensures ∙ c.if-not-has_entries.false) (sym c.are_inside.ensures ∙ c.if-not-are_inside.false)

pub are_sized-requires-clause-inside : goal.are_sized-requires-clause-inside
are_sized-requires-clause-inside c = inside_at c.args.file.now (sym c.are_inside.ensures ∙ c.if-not-are_inside.false)

pub are_apart-requires-clause-tables : goal.are_apart-requires-clause-tables
are_apart-requires-clause-tables c = long_tables c.args.file.now (sym c.has_entries.ensures ∙ c.if-not-has_entries.false) (sym c.are_inside.ensures ∙ c.if-not-are_inside.false)

pub are_apart-requires-clause-inside : goal.are_apart-requires-clause-inside
are_apart-requires-clause-inside c = inside_at c.args.file.now (sym c.are_inside.ensures ∙ c.if-not-are_inside.false)
