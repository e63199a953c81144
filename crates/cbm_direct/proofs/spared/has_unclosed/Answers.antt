use Rattle.std.proofs.Common.{◌∙◌, ap, sym}
use Rattle.cbm_direct.proofs.Sparing.{was_found, found_unclosed}
use Rattle.cbm_direct.proofs.spared.has_unclosed.Goals as goal

-- an entry leads to it, or none does
pub returns-in-Ok : goal.returns-in-Ok
returns-in-Ok g c =
    c.is_some.ensures ∙ sym (ap was_found c.in-Ok.is)
    ∙ found_unclosed (g.M.Medium.seen c.args.medium.now).content c.args.at _ c.geometry.result c.find.result c.geometry.ensures.value c.find.ensures

-- none does before what breaks the directory off
pub returns-in-Err : goal.returns-in-Err
returns-in-Err g c =
    sym (ap was_found c.in-Err.is)
    ∙ found_unclosed (g.M.Medium.seen c.args.medium.now).content c.args.at _ c.geometry.result c.find.result c.geometry.ensures.value c.find.ensures
