use Rattle.std.proofs.Common.{◌∙◌, sym, ap, length}
use Rattle.cbm_g64.proofs.Sound.{passes, good}
use Rattle.cbm_g64.proofs.Held.{held_open, length-tracks_in}
use Rattle.cbm_g64.proofs.disk.G64Disk.from_bytes.Goals as goal

pub tracks_of-requires : goal.tracks_of-requires
tracks_of-requires c = good c.args.bytes.now (passes c.args.bytes.now (sym c.fault_of.ensures ∙ c.in-None.is))

pub read_on-head-requires-clause-count : goal.read_on-head-requires-clause-count
read_on-head-requires-clause-count c = ap length (c.as_slice.ensures.value ∙ c.in-Ok.ensures) ∙ length-tracks_in c.args.bytes.now 35

pub invariant_of-result : goal.invariant_of-result
invariant_of-result c =
    (rw (c.in-Ok-from_slice.ensures.items, c.in-Ok.ensures) (held_open c.args.bytes.now (sym c.fault_of.ensures ∙ c.in-None.is)), (rw (c.as_slice.ensures.value, c.of_map.ensures.value) at c.read_on-head.ensures.ok, rw (c.as_slice.ensures.value, c.of_map.ensures.value) at c.read_on-head.ensures.err))
