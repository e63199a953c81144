use Rattle.std.proofs.Common.{ℕ, Ok, refl, subst, ◌∙◌}
use Rattle.cbm_medium.proofs.Sequences.{nothing_yet, only_more}
use Rattle.cbm_medium.specs.Seen.{Seen, OnlyContent}
use Rattle.cbm_volume.specs.Copies.{IsCopyCut}
use Rattle.cbm_volume.proofs.OneAfterAnother.{second_refused}
use Rattle.cbm_volume.proofs.copied.Puts.{none_put, puts_more}
use Rattle.cbm_volume.proofs.copied.CopySteps.{handed, read_first, read_step, read_cut, all_read}
use Rattle.cbm_volume.proofs.files.copying.put_read.Goals as goal

pub loop-passed-init : goal.loop-passed-init
loop-passed-init g c = (read_first (g.M.Medium.seen c.args.medium.now) c.args.chain.now c.args.reader.now c.args.count, nothing_yet (g.M.Medium.seen c.args.medium.now), refl, refl, none_put (g.M.Medium.seen c.args.medium.now).content c.args.chain.now)

pub returns-in_err-put_next-clause-put : goal.returns-in_err-put_next-clause-put
returns-in_err-put_next-clause-put g c = λ c' l d uses ch number bytes left k settled e room.
    let old : Seen = g.M.Medium.seen c.args.medium.now in
    let mid : Seen = g.M.Medium.seen c.loop-passed.medium in
    let new : Seen = g.M.Medium.seen c.put_next.new.medium in
    handed c.from_residual.result c.in_err-put_next.field-0.0 _ (IsCopyCut old new c' l d uses) c.from_residual.ensures.1
    (read_cut old mid new c.args.chain.now c.loop-passed.chain c.put_next.new.chain c.args.reader.now c.loop-passed.reader c.put_next.new.reader c.args.count c.loop-passed.passed c.in_err-put_next.field-0.0 c.loop-passed-test.true
    c.loop-passed.invariant.1.tracks c.loop-passed.invariant.1.protected c.loop-passed.invariant.1.counted c.in_err-put_next.ensures.put c.loop-passed.invariant.0 c' l d uses ch number bytes left k settled e room)

pub loop-passed-preserved : goal.loop-passed-preserved
loop-passed-preserved g c =
    let old : Seen = g.M.Medium.seen c.args.medium.now in
    let mid : Seen = g.M.Medium.seen c.loop-passed.medium in
    let new : Seen = g.M.Medium.seen c.put_next.new.medium in (
      read_step old mid new c.args.chain.now c.loop-passed.chain c.put_next.new.chain c.args.reader.now c.loop-passed.reader c.put_next.new.reader c.args.count c.loop-passed.passed c.in_ok-put_next.field-0 c.loop-passed-test.true
          c.loop-passed.invariant.1.tracks c.in_ok-put_next.ensures.settled c.in_ok-put_next.ensures.put c.loop-passed.invariant.0,
      only_more c.in_ok-put_next.field-0 old mid new c.loop-passed.invariant.1 (subst (λ (n : ℕ). OnlyContent n (Ok c.in_ok-put_next.field-0) mid new) c.loop-passed.invariant.2 c.in_ok-put_next.ensures.only),
      c.in_ok-put_next.ensures.tracks.0 ∙ c.loop-passed.invariant.2,
      c.in_ok-put_next.ensures.tracks.1 ∙ c.loop-passed.invariant.3,
      puts_more old.content mid.content new.content c.args.chain.now c.loop-passed.chain c.put_next.new.chain c.loop-passed.invariant.4 c.in_ok-put_next.ensures.led,
    )

pub returns-clause-put : goal.returns-clause-put
returns-clause-put g c =
    all_read (g.M.Medium.seen c.args.medium.now) (g.M.Medium.seen c.loop-passed.medium) c.args.chain.now c.loop-passed.chain c.args.reader.now c.loop-passed.reader c.args.count c.loop-passed.passed c.loop-passed-test.false c.loop-passed.invariant.0

pub returns-in_err-put_next-clause-only : goal.returns-in_err-put_next-clause-only
returns-in_err-put_next-clause-only g c =
    second_refused c.from_residual.result refl c.in_err-put_next.was c.from_residual.ensures.1 c.loop-passed.invariant.1
    (subst (λ (n : ℕ). OnlyContent n c.put_next.result (g.M.Medium.seen c.loop-passed.medium) (g.M.Medium.seen c.put_next.new.medium)) c.loop-passed.invariant.2 c.put_next.ensures.only)
