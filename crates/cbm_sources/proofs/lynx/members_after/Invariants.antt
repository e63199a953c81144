use Rattle.std.proofs.Common.{◌≡◌, ◌≤◌, ◌+◌, ◌-◌, ◌*◌, Some}
use Rattle.cbm_sources.specs.Lynxes.{members_in, members_from, after_members}
use Rattle.cbm_sources.proofs.lynx.members_after.Given as goal

abbrev pub invariant-loop-number : goal.invariant-loop-number
invariant-loop-number l = record {
  whole : members_in l.bytes (Some l.fn.header) ≡ after_members l.entries.items l.pieces.items (members_from (l.fn.header.count - l.number) l.bytes l.at l.start);
  small : l.start ≤ 16645890 * (l.number + 1);
}
