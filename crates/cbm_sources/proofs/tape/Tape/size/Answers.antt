use Rattle.std.proofs.Common.{arith}
use Rattle.cbm_sources.proofs.TapeLemmas.{room_inside, room_is, size_is, size_inside, size_small}
use Rattle.cbm_sources.proofs.tape.Tape.size.Goals as goal

pub returns-clause-value : goal.returns-clause-value
returns-clause-value c =
    let room = room_is c.args.self.now c.self.inside.bytes.now c.args.record.now c.args.records.now c.offset-from.result c.limit_after.result c.saturating_sub-room.result
    c.self.view_is c.requires c.offset-from.ensures.value c.limit_after.ensures c.saturating_sub-room.ensures in
    size_is c.args.self.now c.args.record.now c.start-start.result c.end.result c.saturating_sub-stated.result c.saturating_sub-room.result c.size_in.result
    c.start-start.ensures c.end.ensures c.saturating_sub-stated.ensures room c.size_in.ensures

pub returns-clause-small : goal.returns-clause-small
returns-clause-small c =
    omega (
      arith,
      c.size_in.ensures,
      c.end.type_inv,
      c.saturating_sub-stated.ensures,
      size_small c.start-start.result c.saturating_sub-stated.result c.saturating_sub-room.result (omega (arith, c.end.type_inv, c.saturating_sub-stated.ensures)),
    )

pub returns-clause-inside : goal.returns-clause-inside
returns-clause-inside c =
    let room = room_is c.args.self.now c.self.inside.bytes.now c.args.record.now c.args.records.now c.offset-from.result c.limit_after.result c.saturating_sub-room.result
    c.self.view_is c.requires c.offset-from.ensures.value c.limit_after.ensures c.saturating_sub-room.ensures in
    omega (arith, c.size_in.ensures, size_inside c.start-start.result c.saturating_sub-stated.result c.saturating_sub-room.result, room, room_inside c.args.self.now c.args.record.now)
