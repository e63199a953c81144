use Rattle.std.proofs.Common.{◌≡◌, ◌<◌, ◌≤◌, Ok, replicate}
use Rattle.cbm_medium.specs.Place.{Place, Has}
use Rattle.cbm_g64.specs.Tracks.{g64_content, or_zeros}
use Rattle.cbm_g64.specs.Image.{AreOfNewDisk}
use Rattle.cbm_g64.proofs.copying.copy_tracks.Given as goal

abbrev pub invariant-loop-track : goal.invariant-loop-track
invariant-loop-track g l = record {
  here : (p : Place) → Has 35 p → p.track < l.track → g64_content l.tracks p ≡ or_zeros ((g.M.Medium.seen l.medium).content p);
  later : (p : Place) → l.track ≤ p.track → g64_content l.tracks p ≡ Ok (replicate 256 0);
  disk : AreOfNewDisk l.id l.tracks;
}
