use Rattle.cbm_g64.specs.NewFile.{base_of}
use Rattle.cbm_g64.proofs.Imaging.{IsPut}
use Rattle.cbm_g64.proofs.image.put_tracks.Given as goal

abbrev pub invariant-loop-i : goal.invariant-loop-i
invariant-loop-i l = IsPut (base_of l.formatted l.file) l.tracks l.out l.i
