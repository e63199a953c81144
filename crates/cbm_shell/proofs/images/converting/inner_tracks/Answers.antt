use Rattle.std.proofs.Common.{sym}
use Rattle.cbm_shell.proofs.ConvertLemmas.{cut_length, cut_tracks, cut_content}
use Rattle.cbm_shell.proofs.images.converting.inner_tracks.Goals as goal

pub slice_bounds-result-end : goal.slice_bounds-result-end
slice_bounds-result-end c = sym (cut_length c.args.image.now c.if-image-eq-OF_40_TRACKS.true)

pub returns-then-image-eq-OF_40_TRACKS-clause-tracks : goal.returns-then-image-eq-OF_40_TRACKS-clause-tracks
returns-then-image-eq-OF_40_TRACKS-clause-tracks c = cut_tracks c.args.image.now c.if-image-eq-OF_40_TRACKS.true

pub returns-then-image-eq-OF_40_TRACKS-clause-kept : goal.returns-then-image-eq-OF_40_TRACKS-clause-kept
returns-then-image-eq-OF_40_TRACKS-clause-kept c = cut_content c.args.image.now c.if-image-eq-OF_40_TRACKS.true
