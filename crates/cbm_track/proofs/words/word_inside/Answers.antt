use Rattle.std.proofs.Common.{◌∙◌}
use Rattle.cbm_track.proofs.Windows.{eight_inside, be_eight}
use Rattle.cbm_track.proofs.words.word_inside.Goals as goal

pub returns : goal.returns
returns c = c.from_be_bytes.ensures ∙ be_eight c.args.track.now _ c.args.i (eight_inside c.args.track.now c.args.i c.requires.inside)
