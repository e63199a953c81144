use Rattle.std.proofs.Common.{◌≡◌, ◌-◌, List, ℕ}
use Rattle.cbm_bam.specs.Map.{Frees}
use Rattle.cbm_chain.specs.GivenUp.{linked_blocks}
use Rattle.cbm_chain.proofs.given_up.give_linked.Given as goal

-- what is left to be given back makes the whole, and what cuts it off is the same
abbrev pub invariant-loop-passed : goal.invariant-loop-passed
invariant-loop-passed g l = record {
  forth : (new : List ℕ) → Frees l.geometry l.release (linked_blocks l.geometry (g.M.Medium.seen l.medium).content (l.more - l.passed) l.at).blocks new
      → Frees l.geometry l.fn.release (linked_blocks l.geometry (g.M.Medium.seen l.medium).content l.more l.fn.first).blocks new;
  trouble : (linked_blocks l.geometry (g.M.Medium.seen l.medium).content (l.more - l.passed) l.at).trouble ≡ (linked_blocks l.geometry (g.M.Medium.seen l.medium).content l.more l.fn.first).trouble;
}
