use Rattle.std.proofs.Common.{◌≡◌, ◌*◌, ◌∷◌, ◌++◌, [], Some, arith, rules}
use Rattle.cbm_sources.specs.Lynxes.{members_in, member_entry, piece_of}
use Rattle.cbm_sources.proofs.LynxLemmas.{member_more, members_broken, members_done, members_begin}
use Rattle.cbm_sources.proofs.lynx.members_after.Goals as goal

pub loop-number-init : goal.loop-number-init
loop-number-init c = record {
  whole = members_begin c.args.bytes.now c.args.header.count c.args.header.next (254 * c.args.header.blocks) c.new-entries.result.items c.new-pieces.result.items
      c.new-entries.ensures.items c.new-pieces.ensures.items;
  small = omega arith;
}

pub loop-number-preserved : goal.loop-number-preserved
loop-number-preserved c =
    let entered : c.push.new.self.items ≡ c.loop-number.entries.items ++ member_entry c.args.bytes.now c.in-Some.member ∷ [] = search rules in
    let placed : c.push-in-loop-number.new.self.items ≡ c.loop-number.pieces.items ++ piece_of c.loop-number.start c.in-Some.member ∷ [] = search rules in
    record {
      whole = member_more c.args.bytes.now c.args.header.count c.loop-number.number c.loop-number.at c.loop-number.start (members_in c.args.bytes.now (Some c.args.header))
          c.loop-number.entries.items c.push.new.self.items c.loop-number.pieces.items c.push-in-loop-number.new.self.items c.in-Some.member c.loop-number-test.true
          c.loop-number.invariant.whole c.in-Some.ensures.value entered placed;
      small = omega (arith, c.loop-number.invariant.small);
    }

pub returns-in_default : goal.returns-in_default
returns-in_default c =
    members_broken c.args.bytes.now c.args.header.count c.loop-number.number c.loop-number.at c.loop-number.start (members_in c.args.bytes.now (Some c.args.header))
    c.loop-number.entries.items c.loop-number.pieces.items c.loop-number-test.true c.loop-number.invariant.whole c.in_default.ensures.value

pub returns : goal.returns
returns c =
    members_done c.args.bytes.now c.args.header.count c.loop-number.number c.loop-number.at c.loop-number.start (members_in c.args.bytes.now (Some c.args.header))
    c.loop-number.entries.items c.loop-number.pieces.items c.loop-number-test.false c.loop-number.invariant.whole
