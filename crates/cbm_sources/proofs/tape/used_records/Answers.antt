use Rattle.std.proofs.Common.{◌≡◌, ◌<◌, ◌++◌, ◌∷◌, ◌-◌, ℕ, filter, [], subst, ap, sym, ◌∙◌, rules}
use Rattle.cbm_sources.specs.Tapes.{used_records, tape_record_count, records_from, is_used}
use Rattle.cbm_sources.proofs.TapeLemmas.{record_used, record_skipped, records_begin}
use Rattle.cbm_sources.proofs.tape.used_records.Goals.{then-is_used+in_ok-map_err, else-is_used}
use Rattle.cbm_sources.proofs.tape.used_records.Goals as goal

pub loop-number-init : goal.loop-number-init
loop-number-init c =
    let rest = filter is_used (records_from (tape_record_count c.args.bytes.now - 0) c.args.bytes.now 0) in
    ap (λ x. x ++ rest) c.new-records.ensures.items ∙ records_begin c.args.bytes.now

pub loop-number-preserved : goal.loop-number-preserved
loop-number-preserved c =
    let whole = used_records c.args.bytes.now in
    let count = tape_record_count c.args.bytes.now in
    let below : c.loop-number.number < count = subst (λ (n : ℕ). c.loop-number.number < n) c.record_count-number-end.ensures c.loop-number-test.true in
    elim c.if-is_used.branch [
      | then-is_used+in_ok-map_err w ↦
          (let pushed : w.push.new.self.items ≡ c.loop-number.records.items ++ c.of-record.result ∷ [] = search rules in
          rw w.records-is
          (record_used c.args.bytes.now count c.loop-number.number whole c.loop-number.records.items w.push.new.self.items c.of-record.result below
          c.loop-number.invariant c.of-record.ensures (sym c.is_used.ensures ∙ w.if-is_used.true) pushed))
      | else-is_used w ↦
          rw w.records-is
          (record_skipped c.args.bytes.now count c.loop-number.number whole c.loop-number.records.items c.of-record.result below c.loop-number.invariant
          c.of-record.ensures (sym c.is_used.ensures ∙ w.if-is_used.false))
    ]
