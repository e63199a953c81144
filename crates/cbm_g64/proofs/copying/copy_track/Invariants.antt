use Rattle.std.proofs.Common.{◌≡◌, ◌≢◌, ◌<◌, ◌≤◌, Ok, replicate}
use Rattle.cbm_medium.specs.Place.{Place}
use Rattle.cbm_g64.specs.Tracks.{g64_content, or_zeros}
use Rattle.cbm_g64.specs.Image.{AreOfNewDisk}
use Rattle.cbm_g64.proofs.copying.copy_track.Given as goal

abbrev pub invariant-loop-sector : goal.invariant-loop-sector
invariant-loop-sector g l = record {
  here : (p : Place) → p.track ≡ l.fn.track → p.sector < l.sector → g64_content l.tracks p ≡ or_zeros ((g.M.Medium.seen l.medium).content p);
  later : (p : Place) → p.track ≡ l.fn.track → l.sector ≤ p.sector → g64_content l.tracks p ≡ Ok (replicate 256 0);
  others : (p : Place) → p.track ≢ l.fn.track → g64_content l.tracks p ≡ g64_content l.fn.tracks p;
  disk : AreOfNewDisk l.id l.tracks;
}
