use Rattle.std.proofs.Common.{rules, ◌≡◌, ◌≢◌, ◌∷◌, ◌++◌, []}
use Rattle.cbm_directory.specs.Entries.{type_byte}
use Rattle.cbm_directory.specs.Slots.{entries_from}
use Rattle.cbm_sources.specs.Directories.{used}
use Rattle.cbm_sources.proofs.ChainLemmas.{entry_used, entry_skipped, entries_done}
use Rattle.cbm_sources.proofs.listing.add_entries.Goals.{then-not-is_empty+in_ok-map_err, else-not-is_empty}
use Rattle.cbm_sources.proofs.listing.add_entries.Goals as goal

pub loop-number-preserved : goal.loop-number-preserved
loop-number-preserved c =
    let whole = c.args.entries.now.items ++ used (entries_from 8 c.args.sector.now 0) in
    elim c.if-not-is_empty.branch [
      | then-not-is_empty+in_ok-map_err w ↦
          (let pushed : w.push.new.self.items ≡ c.loop-number.entries.items ++ c.of-entry.result ∷ [] = search rules in
          let going : type_byte c.of-entry.result ≢ 0 = λ z. let t = c.is_empty.ensures.1 z in let f = w.if-not-is_empty.true in cc in
          rw w.entries-is
          (entry_used c.args.sector.now c.loop-number.number whole c.loop-number.entries.items w.push.new.self.items c.of-entry.result c.loop-number-test.true
          c.loop-number.invariant c.of-entry.ensures going pushed))
      | else-not-is_empty w ↦
          rw w.entries-is
          (entry_skipped c.args.sector.now c.loop-number.number whole c.loop-number.entries.items c.of-entry.result c.loop-number-test.true c.loop-number.invariant
          c.of-entry.ensures (c.is_empty.ensures.0 w.if-not-is_empty.false))
    ]

pub returns : goal.returns
returns c =
    entries_done c.before.before.args.sector.now c.before.loop-number.number
    (c.before.before.args.entries.now.items ++ used (entries_from 8 c.before.before.args.sector.now 0)) c.before.loop-number.entries.items c.loop-number-test.false c.before.loop-number.invariant
