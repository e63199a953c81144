use Rattle.std.proofs.Common.{◌≡◌, ◌-◌}
use Rattle.cbm_medium.specs.Links.{follow}
use Rattle.cbm_bam.specs.Marks.{is_marked}
use Rattle.cbm_shell.specs.Mapping.{chain_of}
use Rattle.cbm_shell.specs.Marking.{with_places}
use Rattle.cbm_shell.proofs.looking.mapping.use_chain.Given as goal

abbrev pub invariant-loop-done : goal.invariant-loop-done
invariant-loop-done g l =
    let content = (g.M.Medium.seen l.medium).content in
    with_places (is_marked l.used) (follow l.geometry content (l.count - l.done) l.link).blocks ≡ with_places (is_marked l.fn.used) (chain_of l.geometry content l.fn.from)
