use Rattle.std.proofs.Common.{◌≡◌, ◌-◌, ◌++◌}
use Rattle.cbm_medium.specs.Links.{follow}
use Rattle.cbm_shell.specs.Mapping.{chain_of}
use Rattle.cbm_place.specs.Moves.{held_blocks}
use Rattle.cbm_place.proofs.chain.chain_of.Given as goal

abbrev pub invariant-loop-done : goal.invariant-loop-done
invariant-loop-done g l =
    let content = (g.M.Medium.seen l.medium).content in
    (l.chain.places.items ++ (follow l.geometry content (l.count - l.done) l.link).blocks ≡ chain_of l.geometry content l.fn.from)
    × (l.chain.blocks.items ≡ held_blocks content l.chain.places.items)
