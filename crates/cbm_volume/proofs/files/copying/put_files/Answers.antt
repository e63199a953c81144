use Rattle.std.proofs.Common.{ℕ, Ok, refl, subst, ◌∙◌}
use Rattle.cbm_medium.proofs.Sequences.{nothing_yet, only_more}
use Rattle.cbm_medium.specs.Seen.{Seen, OnlyContent}
use Rattle.cbm_volume.specs.Copies.{IsCopyCut}
use Rattle.cbm_volume.proofs.OneAfterAnother.{second_refused}
use Rattle.cbm_volume.proofs.copied.Puts.{none_put, puts_more}
use Rattle.cbm_volume.proofs.copied.CopySteps.{handed, copied_first, copied_step, copied_cut, all_copied}
use Rattle.cbm_volume.proofs.files.copying.put_files.Goals as goal

pub sources-init : goal.sources-init
sources-init g c = (copied_first (g.M.Medium.seen c.args.medium.now) c.args.chain.now c.args.sources.now, nothing_yet (g.M.Medium.seen c.args.medium.now), refl, none_put (g.M.Medium.seen c.args.medium.now).content c.args.chain.now)

pub returns-in_err-put_file-clause-put : goal.returns-in_err-put_file-clause-put
returns-in_err-put_file-clause-put g c = λ c' l d uses ch bytes k are room.
    let old : Seen = g.M.Medium.seen c.args.medium.now in
    let mid : Seen = g.M.Medium.seen c.sources.medium in
    let new : Seen = g.M.Medium.seen c.put_file.new.medium in
    handed c.from_residual.result c.in_err-put_file.field-0.0 _ (IsCopyCut old new c' l d uses) c.from_residual.ensures.1
    (copied_cut old mid new c.args.chain.now c.sources.chain c.put_file.new.chain c.args.sources.now c.sources.number-index c.in_err-put_file.field-0.0 c.sources-test.true
    c.sources.invariant.1.tracks c.sources.invariant.1.protected c.sources.invariant.1.counted c.in_err-put_file.ensures.put c.sources.invariant.0 c' l d uses ch bytes k are room)

pub sources-preserved : goal.sources-preserved
sources-preserved g c =
    let old : Seen = g.M.Medium.seen c.args.medium.now in
    let mid : Seen = g.M.Medium.seen c.sources.medium in
    let new : Seen = g.M.Medium.seen c.put_file.new.medium in (
      copied_step old mid new c.args.chain.now c.sources.chain c.put_file.new.chain c.args.sources.now c.sources.number-index c.in_ok-put_file.field-0 c.sources-test.true c.sources.invariant.1.tracks c.in_ok-put_file.ensures.put c.sources.invariant.0,
      only_more c.in_ok-put_file.field-0 old mid new c.sources.invariant.1 (subst (λ (n : ℕ). OnlyContent n (Ok c.in_ok-put_file.field-0) mid new) c.sources.invariant.2 c.in_ok-put_file.ensures.only),
      c.in_ok-put_file.ensures.tracks ∙ c.sources.invariant.2,
      puts_more old.content mid.content new.content c.args.chain.now c.sources.chain c.put_file.new.chain c.sources.invariant.3 c.in_ok-put_file.ensures.led,
    )

pub returns-clause-put : goal.returns-clause-put
returns-clause-put g c =
    all_copied (g.M.Medium.seen c.args.medium.now) (g.M.Medium.seen c.sources.medium) c.args.chain.now c.sources.chain c.args.sources.now c.sources.number-index c.sources-test.false c.sources.invariant.0

pub returns-in_err-put_file-clause-only : goal.returns-in_err-put_file-clause-only
returns-in_err-put_file-clause-only g c =
    second_refused c.from_residual.result refl c.in_err-put_file.was c.from_residual.ensures.1 c.sources.invariant.1
    (subst (λ (n : ℕ). OnlyContent n c.put_file.result (g.M.Medium.seen c.sources.medium) (g.M.Medium.seen c.put_file.new.medium)) c.sources.invariant.2 c.put_file.ensures.only)
