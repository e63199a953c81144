use Rattle.std.proofs.Common.{◌-◌, sym, ◌∙◌, arith}
use Rattle.std.proofs.lemmas.Result.{err_from_is_err_and}
use Rattle.cbm_sources.specs.Sectors.{image_content}
use Rattle.cbm_sources.proofs.ChainLemmas.{met_fault, met_full, met_again, met_next, cut_told}
use Rattle.cbm_sources.proofs.trail.enter.Goals.{then-left-eq0-via-then-left-eq0, then-left-eq0-via-else-left-eq0+then-is_among}
use Rattle.cbm_sources.proofs.trail.enter.Goals as goal

pub returns-in_err-bytes-clause-err : goal.returns-in_err-bytes-clause-err
returns-in_err-bytes-clause-err c =
    let p = err_from_is_err_and c.from_residual.result c.from_residual.ensures.1 in
    rw (p.1, p.2)
    (cut_told _ c.in_err-bytes.field-0.0.code c.args.at c.in_err-bytes.field-0.0
    (met_fault (image_content c.args.disk.now) c.args.left c.args.blocks.now c.args.at c.in_err-bytes.field-0.0.code c.requires c.in_err-bytes.ensures.err)
    c.in_err-bytes.ensures.named)

pub returns-then-left-eq0-clause-err : goal.returns-then-left-eq0-clause-err
returns-then-left-eq0-clause-err c =
    elim c.then-left-eq0.branch [
      | then-left-eq0-via-then-left-eq0 w ↦ cut_told _ 71 c.args.at _
          (met_full (image_content c.args.disk.now) c.args.left c.args.blocks.now c.args.at c.in_ok-bytes.bytes c.requires c.in_ok-bytes.ensures.ok w.if-left-eq0.true) c.trouble.ensures
      | then-left-eq0-via-else-left-eq0+then-is_among w ↦ cut_told _ 71 c.args.at _
          (met_again (image_content c.args.disk.now) c.args.left c.args.blocks.now c.args.at c.in_ok-bytes.bytes c.requires c.in_ok-bytes.ensures.ok
          (sym w.is_among.ensures ∙ w.if-is_among.true)) c.trouble.ensures
    ]

pub returns-clause-ok : goal.returns-clause-ok
returns-clause-ok c =
    met_next (image_content c.args.disk.now) c.args.left (c.args.left - 1) c.args.blocks.now c.args.at c.in_ok-bytes.bytes c.requires c.in_ok-bytes.ensures.ok
    (sym c.is_among.ensures ∙ c.if-is_among.false) (omega (arith, c.if-left-eq0.false))
