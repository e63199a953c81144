use Rattle.std.proofs.Common.{refl, sym, ◌∙◌}
use Rattle.cbm_volume.proofs.changed.FileFreed.{no_cut, plain_freed, both_freed, plain_given, both_given}
use Rattle.cbm_directory.specs.Entries.{is_relative}
use Rattle.cbm_volume.proofs.files.scratching.free_file.Goals as goal

-- the chain doesn't break off
pub returns-in_err-free_chain-clause-freed : goal.returns-in_err-free_chain-clause-freed
returns-in_err-free_chain-clause-freed g c = λ b lies few.
    absurd (no_cut (is_relative c.args.entry.now) c.args.geometry (g.M.Medium.seen c.args.medium.now).content c.args.entry.now b c.first_block.result c.in_err-free_chain.field-0.0 lies few c.first_block.ensures c.in_err-free_chain.ensures.walk.cut)

-- a file without records
pub returns-then-not-is_relative-clause-freed : goal.returns-then-not-is_relative-clause-freed
returns-then-not-is_relative-clause-freed g c = λ b lies few. (
  refl,
  plain_freed (is_relative c.args.entry.now) c.args.geometry (g.M.Medium.seen c.args.medium.now).content c.args.entry.now b c.first_block.result c.args.release.now c.free_chain.new.release
      (sym c.is_relative.ensures ∙ c.if-not-is_relative.true) lies few c.first_block.ensures c.in_ok-free_chain.ensures.freed,
)

-- one with records
pub returns-clause-freed : goal.returns-clause-freed
returns-clause-freed g c = λ b lies few.
    both_freed c.args.geometry (g.M.Medium.seen c.args.medium.now).content c.args.entry.now b (is_relative c.args.entry.now) c.first_block.result c.first_side.result c.args.release.now c.free_chain.new.release c.free_sides.new.release c.free_sides.result
    (sym c.is_relative.ensures ∙ c.if-not-is_relative.false) lies few c.first_block.ensures c.first_side.ensures c.in_ok-free_chain.ensures.freed c.free_sides.ensures.freed c.free_sides.ensures.goes

-- ---- on any disk

pub returns-then-not-is_relative-clause-given : goal.returns-then-not-is_relative-clause-given
returns-then-not-is_relative-clause-given g c =
    plain_given c.args.geometry (g.M.Medium.seen c.args.medium.now).content c.args.entry.now c.first_block.result c.args.release.now c.free_chain.new.release
    (sym c.is_relative.ensures ∙ c.if-not-is_relative.true) c.first_block.ensures (c.in_ok-free_chain.ensures.walk.whole, c.in_ok-free_chain.ensures.freed)

pub returns-clause-given : goal.returns-clause-given
returns-clause-given g c =
    both_given c.args.geometry (g.M.Medium.seen c.args.medium.now).content c.args.entry.now c.first_block.result c.first_side.result c.args.release.now c.free_chain.new.release c.free_sides.new.release c.free_sides.result
    (sym c.is_relative.ensures ∙ c.if-not-is_relative.false) c.first_block.ensures c.first_side.ensures (c.in_ok-free_chain.ensures.walk.whole, c.in_ok-free_chain.ensures.freed) c.free_sides.ensures.freed c.free_sides.ensures.reads
