use Rattle.std.proofs.Common.{ap, ◌∙◌, Err}
use Rattle.std.proofs.lemmas.Result.{err_from_is_err_and}
use Rattle.cbm_image.specs.AnyDisks.{any_seen}
use Rattle.cbm_shell.proofs.ImageLemmas.{sectors_only}
use Rattle.cbm_odd.proofs.FaultLemmas.{not_away}
use Rattle.cbm_odd.proofs.away.put_away.Goals as goal

pub returns-in_err-image-clause-fault : goal.returns-in_err-image-clause-fault
returns-in_err-image-clause-fault c =
    let p = err_from_is_err_and c.from_residual-in_err-image.result c.from_residual-in_err-image.ensures.1 in
    rw (p.1 ∙ ap Err p.2) (not_away c.args.image.now (any_seen c.in_ok-volume.volume) c.in_ok-odds.odds.items c.as_slice.result.now c.in_err-image.field-0.0
    c.in_ok-volume.ensures.ok c.as_slice.ensures.value c.in_ok-odds.ensures.odd c.in_err-image.ensures.fault)

pub returns-clause-opens : goal.returns-clause-opens
returns-clause-opens c =
    sectors_only c.args.image.now c.in_ok-image.image.items c.kind_of.result (any_seen c.in_ok-volume.volume) c.kind_of.ensures c.in_ok-volume.ensures.ok c.in_ok-image.ensures.opens c.in_ok-image.ensures.outside
