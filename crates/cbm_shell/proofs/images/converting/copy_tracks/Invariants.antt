use Rattle.std.proofs.Common.{◌≡◌, ◌<◌, ◌≤◌, Ok, replicate, false, length}
use Rattle.cbm_medium.specs.Place.{Place, Has}
use Rattle.cbm_d64.specs.Image.{d64_content}
use Rattle.cbm_g64.specs.Tracks.{or_zeros}
use Rattle.cbm_shell.proofs.images.converting.copy_tracks.Given as goal

abbrev pub invariant-loop-track : goal.invariant-loop-track
invariant-loop-track g l = record {
  here : (p : Place) → Has 35 p → p.track < l.track → d64_content l.disk.bytes p ≡ or_zeros ((g.M.Medium.seen l.medium).content p);
  later : (p : Place) → l.track ≤ p.track → d64_content l.disk.bytes p ≡ Ok (replicate 256 0);
  free : l.disk.protected ≡ false;
  size : length l.disk.bytes ≡ length l.fn.disk.bytes;
}
