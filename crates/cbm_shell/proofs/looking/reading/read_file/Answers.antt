use Rattle.std.proofs.Common.{rules, sym, ◌∙◌}
use Rattle.cbm_chain.specs.Reading.{rest_of}
use Rattle.cbm_shell.proofs.ReadingLemmas.{one_fewer, read_more, read_all, these_bytes, never_met}
use Rattle.cbm_shell.proofs.looking.reading.read_file.Goals as goal

pub returns-in_err-reader-clause-means : goal.returns-in_err-reader-clause-means
returns-in_err-reader-clause-means g c = λ d n bytes h s b. absurd (c.in_err-reader.ensures.means d n bytes h s b)

pub bytes-smaller : goal.bytes-smaller
bytes-smaller g c = one_fewer _ c.bytes.reader c.read_on.new.reader c.in-Some.byte _ (sym c.in-Some.ensures) c.in_ok-read_on.ensures.ok

pub bytes-preserved : goal.bytes-preserved
bytes-preserved g c = record {
  inside = search rules;
  settled = c.read_on.ensures.settled;
  whole = read_more _ _ c.bytes.bytes.items c.push.new.self.items c.bytes.reader c.read_on.new.reader c.in-Some.byte _ c.bytes.invariant.whole (sym c.in-Some.ensures)
      (search rules) c.in_ok-read_on.ensures.ok;
}

pub returns-in_err-read_on-clause-means : goal.returns-in_err-read_on-clause-means
returns-in_err-read_on-clause-means g c = λ d n bytes h s b.
    absurd (never_met _ (rest_of (g.M.Medium.seen c.args.volume.now).content c.bytes.reader) c.bytes.bytes.items bytes _ c.bytes.invariant.whole c.in_err-read_on.ensures.err.0 (sym c.in_ok-reader.ensures.ok ∙ c.in_ok-reader.ensures.means d n bytes h s b))

pub returns-clause-ok : goal.returns-clause-ok
returns-clause-ok g c = read_all _ _ _ c.bytes.reader c.bytes.invariant.whole c.bytes.invariant.settled (sym c.in_default.ensures)

pub returns-clause-means : goal.returns-clause-means
returns-clause-means g c = λ d n bytes h s b.
    these_bytes _ _ bytes (read_all _ _ _ c.bytes.reader c.bytes.invariant.whole c.bytes.invariant.settled (sym c.in_default.ensures))
    (sym c.in_ok-reader.ensures.ok ∙ c.in_ok-reader.ensures.means d n bytes h s b)
