use Rattle.cbm_medium.specs.Seen.{Seen}
use Rattle.cbm_volume.proofs.relative.LastGrown.{fills_means, fills_aside, fills_laid, fills_none}
use Rattle.cbm_volume.proofs.records.last_blocks.fill_last.Goals as goal

pub returns-clause-filled : goal.returns-clause-filled
returns-clause-filled g c = λ n s size d uses w rs o is listed.
    let old : Seen = g.M.Medium.seen c.args.medium.now in
    let new : Seen = g.M.Medium.seen c.fill_up.new.medium in
    fills_means old new d uses n w c.args.blocks s rs o c.tracks-tracks.ensures.whole c.args.file c.fill_up.result is listed
    (fills_laid old new d uses n w c.args.blocks s rs o c.tracks-tracks.ensures.whole c.args.geometry c.args.file c.fill_up.result size is c.fill_up.ensures.laid)

pub returns-clause-aside : goal.returns-clause-aside
returns-clause-aside g c = λ n s size d uses w rs o is.
    let old : Seen = g.M.Medium.seen c.args.medium.now in
    let new : Seen = g.M.Medium.seen c.fill_up.new.medium in
    fills_aside old new d uses n w c.args.blocks s rs o c.tracks-tracks.ensures.whole c.fill_up.result
    (fills_laid old new d uses n w c.args.blocks s rs o c.tracks-tracks.ensures.whole c.args.geometry c.args.file c.fill_up.result size is c.fill_up.ensures.laid)

pub returns-clause-full : goal.returns-clause-full
returns-clause-full g c = λ n s size d uses w rs o is.
    let old : Seen = g.M.Medium.seen c.args.medium.now in
    let new : Seen = g.M.Medium.seen c.fill_up.new.medium in
    fills_none old new d uses n w c.args.blocks s rs o c.tracks-tracks.ensures.whole c.args.geometry c.args.file c.fill_up.result size is c.fill_up.ensures.full
