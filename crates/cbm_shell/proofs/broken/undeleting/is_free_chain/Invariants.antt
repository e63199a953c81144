use Rattle.std.proofs.Common.{◌≡◌, ◌-◌}
use Rattle.cbm_medium.specs.Links.{follow}
use Rattle.cbm_shell.specs.Mapping.{chain_of}
use Rattle.cbm_shell.specs.Undeleting.{all_blocks_free}
use Rattle.cbm_shell.proofs.broken.undeleting.is_free_chain.Given as goal

abbrev pub invariant-loop-done : goal.invariant-loop-done
invariant-loop-done g l =
    let content = (g.M.Medium.seen l.medium).content in
    all_blocks_free content (follow l.geometry content (l.count - l.done) l.link).blocks ≡ all_blocks_free content (chain_of l.fn.geometry content l.fn.from)
