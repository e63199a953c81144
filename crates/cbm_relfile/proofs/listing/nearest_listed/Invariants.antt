use Rattle.cbm_relfile.specs.OfFile.{IsNamedBlock}
use Rattle.cbm_relfile.proofs.Listed.{Nearing, Reading}
use Rattle.cbm_relfile.proofs.listing.nearest_listed.Given as goal

-- what is passed, and what of it is nearest; which side sectors read; and the file names the nearest one
abbrev pub invariant-loop-n : goal.invariant-loop-n
invariant-loop-n g l = record {
  nearing : Nearing (g.M.Medium.seen l.medium).content l.fn.file.first l.head l.n l.left l.fn.number l.near.at l.near.left;
  reading : Reading l.fn.geometry (g.M.Medium.seen l.medium).content l.fn.file.width l.head l.n l.left l.fn.number;
  place : IsNamedBlock l.fn.geometry (g.M.Medium.seen l.medium).content l.fn.file l.near.at;
}
