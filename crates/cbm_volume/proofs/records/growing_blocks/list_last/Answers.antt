use Rattle.cbm_medium.specs.Seen.{Seen}
use Rattle.cbm_volume.proofs.grown.GrowingAnswers.{list_means}
use Rattle.cbm_volume.proofs.records.growing_blocks.list_last.Goals as goal

pub returns-clause-listed : goal.returns-clause-listed
returns-clause-listed g c = λ s1 room c0 d uses n w b s rs o e h.
    let old : Seen = g.M.Medium.seen c.args.medium.now in
    let new : Seen = g.M.Medium.seen c.list_block.new.medium in
    list_means old new c0 d uses n w b s rs o c.args.file c.args.geometry c.args.blocks s1 c.args.block e h c.list_block.result room c.side.result c.side.ensures c.list_block.ensures.listed
