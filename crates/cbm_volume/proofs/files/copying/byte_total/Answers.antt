use Rattle.cbm_volume.proofs.copied.CopySteps.{counted_first, counted_step, counted_never, all_counted}
use Rattle.cbm_volume.proofs.files.copying.byte_total.Goals as goal

pub sources-init : goal.sources-init
sources-init g c = counted_first (g.M.Medium.seen c.args.medium.now) c.args.sources.now

pub returns-in_err-bytes-clause-total : goal.returns-in_err-bytes-clause-total
returns-in_err-bytes-clause-total g c = λ d uses holds are.
    absurd (counted_never (g.M.Medium.seen c.args.medium.now) c.args.sources.now c.sources.number-index c.sources.total c.sources-test.true c.in_err-bytes.ensures.count c.sources.invariant d uses holds are)

pub sources-preserved : goal.sources-preserved
sources-preserved g c =
    counted_step (g.M.Medium.seen c.args.medium.now) c.args.sources.now c.sources.number-index c.sources.total c.in_ok-bytes.bytes _ c.sources-test.true c.saturating_add-total.ensures c.in_ok-bytes.ensures.count c.sources.invariant

pub returns-clause-total : goal.returns-clause-total
returns-clause-total g c =
    all_counted (g.M.Medium.seen c.args.medium.now) c.args.sources.now c.sources.number-index c.sources.total c.sources-test.false c.sources.invariant
