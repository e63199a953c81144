use Rattle.std.proofs.Common.{List, Bool}
use Rattle.cbm_medium.specs.Place.{Place}
use Rattle.cbm_bam.specs.Marks.{is_marked}
use Rattle.cbm_volume.specs.check.Claims.{ClaimsChain, MeetsFault, unclaimed}
use Rattle.cbm_volume.specs.declared.check.unsound.Unsound.{Unsound}
use Rattle.cbm_volume.proofs.check.claims.claim_chain.Given as goal

-- what is still to be claimed, or met, makes the whole
abbrev pub invariant-loop-geometry : goal.invariant-loop-geometry
invariant-loop-geometry g l = record {
  forth : (blocks : List Place) (after : Place → Bool) → ClaimsChain l.part l.geometry (g.M.Medium.seen l.medium).content (is_marked l.claimed) l.at blocks after
      → ((whole : List Place) × ClaimsChain l.part l.geometry (g.M.Medium.seen l.medium).content (is_marked l.fn.claimed) l.fn.first whole after);
  faulty : (blocks : List Place) (u : Unsound) → MeetsFault l.part l.geometry (g.M.Medium.seen l.medium).content (is_marked l.claimed) l.at blocks u
      → ((whole : List Place) × MeetsFault l.part l.geometry (g.M.Medium.seen l.medium).content (is_marked l.fn.claimed) l.fn.first whole u);
}

abbrev pub decreases-loop-geometry : goal.decreases-loop-geometry
decreases-loop-geometry g l = unclaimed l.part (is_marked l.claimed)
