use Rattle.std.proofs.Common.{◌∙◌}
use Rattle.cbm_track.specs.Words.{eight}
use Rattle.cbm_track.proofs.Windows.{be_eight, list8}
use Rattle.cbm_track.proofs.words.word_around.Goals as goal

pub returns : goal.returns
unfolding eight
returns c = c.from_be_bytes.ensures ∙ be_eight c.args.track.now _ c.args.i (list8 _ _ _ _ _ _ _ _ _ _ _ _ _ _ _ _
    c.byte_around.ensures c.byte_around-2.ensures c.byte_around-3.ensures c.byte_around-4.ensures c.byte_around-5.ensures c.byte_around-6.ensures c.byte_around-7.ensures c.byte_around-8.ensures)
