use Rattle.std.proofs.Common.{◌≡◌, rules, length}
use Rattle.bus_traces.proofs.LineLemmas.{consumes-more, unbroken-append, at_break, end_of_bytes, too_long}
use Rattle.bus_traces.proofs.text.source.Source.next_line.Goals as goal

pub bytes-preserved : goal.bytes-preserved
bytes-preserved g c =
    let took = rw c.in-Ok-Some.field-0-is at c.in-Ok-Some.ensures in
    record {
      taken = rw c.push.ensures.items (consumes-more _ _ _ _ _ c.bytes.invariant.taken took);
      unbroken = rw c.push.ensures.items (unbroken-append _ _ c.bytes.invariant.unbroken c.if-byte-eq10.false);
    }

pub returns-in-Ok-None-clause-line : goal.returns-in-Ok-None-clause-line
returns-in-Ok-None-clause-line g c =
    let ended = rw c.in-Ok-None.field-0-is at c.in-Ok-None.ensures in
    end_of_bytes _ _ _ _ _ c.is_empty.ensures c.bytes.invariant.taken ended c.bytes.invariant.unbroken

pub returns-then-byte-eq10-clause-line : goal.returns-then-byte-eq10-clause-line
returns-then-byte-eq10-clause-line g c =
    let took = rw (c.in-Ok-Some.field-0-is, c.if-byte-eq10.true) at c.in-Ok-Some.ensures in
    at_break _ _ _ _ c.bytes.invariant.taken took c.bytes.invariant.unbroken

pub returns-then-is_full-clause-long : goal.returns-then-is_full-clause-long
returns-then-is_full-clause-long g c =
    let took = rw c.in-Ok-Some.field-0-is at c.in-Ok-Some.ensures in
    let full : length c.bytes.line.items ≡ 1000 = search rules in
    λ _. too_long _ _ _ _ _ c.bytes.invariant.taken took c.if-byte-eq10.false c.bytes.invariant.unbroken full
