use Rattle.cbm_g64.proofs.Contents.{has_of, answer_is}
use Rattle.cbm_g64.proofs.circles.read_on.Goals as goal

pub returns-clause-ok : goal.returns-clause-ok
returns-clause-ok c = rw (answer_is c.args.tracks.now c.args.at c.index-tracks-track.result c.index-tracks-track.result c.id_on.result c.track.result c.requires.count (has_of c.args.at c.track.ensures.on_disk c.requires.track) c.track.ensures.value c.index-tracks-track.is c.id_on.ensures) c.read_sector.ensures.ok

pub returns-clause-err : goal.returns-clause-err
returns-clause-err c = rw (answer_is c.args.tracks.now c.args.at c.index-tracks-track.result c.index-tracks-track.result c.id_on.result c.track.result c.requires.count (has_of c.args.at c.track.ensures.on_disk c.requires.track) c.track.ensures.value c.index-tracks-track.is c.id_on.ensures) c.read_sector.ensures.err
