use Rattle.cbm_medium.specs.Seen.{Seen}
use Rattle.cbm_volume.proofs.grown.GrowingAnswers.{copy_means, add_means}
use Rattle.cbm_volume.proofs.grown.SidesAnswers.{empty_copy_means, empty_add_means}
use Rattle.cbm_volume.proofs.records.growing_blocks.copy_side.Goals as goal

pub returns-clause-copied : goal.returns-clause-copied
returns-clause-copied g c = λ b1 q some c0 d uses n w b s rs o e h.
    let old : Seen = g.M.Medium.seen c.args.medium.now in
    let new : Seen = g.M.Medium.seen c.link_side.new.medium in
    copy_means old new c0 d uses n w b s rs o c.args.file c.args.geometry b1 c.args.sides c.args.number q c.args.side e h c.requires.number.0 c.link_side.result c.side.result c.side.ensures c.link_side.ensures.linked some

pub returns-clause-added : goal.returns-clause-added
returns-clause-added g c = λ b1 q zero whole c0 d uses n w b s rs o e h.
    let old : Seen = g.M.Medium.seen c.args.medium.now in
    let new : Seen = g.M.Medium.seen c.link_side.new.medium in
    add_means old new c0 d uses n w b s rs o c.args.file c.args.geometry b1 c.args.sides c.args.number q c.args.side e h c.requires.number.0 c.link_side.result c.side.result c.side.ensures c.link_side.ensures.linked zero whole c.requires.number.1

-- the new one lists no block
pub returns-clause-copied_empty : goal.returns-clause-copied_empty
returns-clause-copied_empty g c = λ some c0 d uses n w b s rs o e h.
    let old : Seen = g.M.Medium.seen c.args.medium.now in
    let new : Seen = g.M.Medium.seen c.link_side.new.medium in
    empty_copy_means old new c0 d uses n w b s rs o c.args.file c.args.geometry c.args.sides c.args.number c.args.side e h c.requires.number.0 c.link_side.result c.side.result c.side.ensures c.link_side.ensures.linked some

pub returns-clause-added_empty : goal.returns-clause-added_empty
returns-clause-added_empty g c = λ zero c0 d uses n w b s rs o e h.
    let old : Seen = g.M.Medium.seen c.args.medium.now in
    let new : Seen = g.M.Medium.seen c.link_side.new.medium in
    empty_add_means old new c0 d uses n w b s rs o c.args.file c.args.geometry c.args.sides c.args.number c.args.side e h c.requires.number.0 c.link_side.result c.side.result c.side.ensures c.link_side.ensures.linked zero c.requires.number.1
