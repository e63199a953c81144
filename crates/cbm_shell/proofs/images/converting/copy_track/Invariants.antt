use Rattle.std.proofs.Common.{◌≡◌, ◌≢◌, ◌<◌, ◌≤◌, Ok, replicate, false, length}
use Rattle.cbm_medium.specs.Place.{Place}
use Rattle.cbm_d64.specs.Image.{d64_content}
use Rattle.cbm_g64.specs.Tracks.{or_zeros}
use Rattle.cbm_shell.proofs.images.converting.copy_track.Given as goal

abbrev pub invariant-loop-sector : goal.invariant-loop-sector
invariant-loop-sector g l = record {
  here : (p : Place) → p.track ≡ l.fn.track → p.sector < l.sector → d64_content l.disk.bytes p ≡ or_zeros ((g.M.Medium.seen l.medium).content p);
  later : (p : Place) → p.track ≡ l.fn.track → l.sector ≤ p.sector → d64_content l.disk.bytes p ≡ Ok (replicate 256 0);
  others : (p : Place) → p.track ≢ l.fn.track → d64_content l.disk.bytes p ≡ d64_content l.fn.disk.bytes p;
  free : l.disk.protected ≡ false;
  size : length l.disk.bytes ≡ length l.fn.disk.bytes;
}
