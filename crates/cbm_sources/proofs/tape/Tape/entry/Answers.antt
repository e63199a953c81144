use Rattle.std.proofs.Common.{refl}
use Rattle.cbm_sources.specs.Tapes.{tape_entry}
use Rattle.cbm_sources.proofs.tape.Tape.entry.Goals as goal

pub returns : goal.returns
unfolding tape_entry
returns c = rw (c.closed.ensures.value, c.fresh.ensures.value, c.name.ensures.value, c.blocks_of-blocks.ensures, c.size.ensures.value, c.new-nowhere.ensures) refl
