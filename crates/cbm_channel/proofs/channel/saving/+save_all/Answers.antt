use Rattle.std.proofs.Common.{◌≡◌, ◌∷◌, List, sym, subst}
use Rattle.std.specs.Prelude.{OnOk}
use Rattle.std.specs.List.{All}
use Rattle.cbm_channel.specs.declared.channel.Channel.{Channel}
use Rattle.cbm_channel.specs.Saved.{MayStand}
use Rattle.cbm_channel.specs.Standing.{FitsTracks}
use Rattle.cbm_channel.proofs.EachKept.{map_ok, all_more, all_first, all_others}
use Rattle.cbm_channel.proofs.channel.saving.+save_all.Goals as goal

-- the first channel may stand, and so may the others
pub returns-clause-again : goal.returns-clause-again
returns-clause-again t c = λ most fits.
    let first = c.in-Some.first.now in
    let rest = c.in-Some.rest.now in
    let is : c.args.channels.now ≡ first ∷ rest = c.in-Some.ensures.cases.0 in
    let all : All (FitsTracks most) (first ∷ rest) = subst (λ (xs : List Channel). All (FitsTracks most) xs) is fits in
    subst (λ (xs : List Channel). OnOk c.save_all.result (All (MayStand most) xs)) (sym is)
    (map_ok c.save_all.result _ _
    (all_more (MayStand most) first rest (c.in_ok-save.ensures.again most (all_first (FitsTracks most) first rest all)))
    (c.save_all.ensures.again most (all_others (FitsTracks most) first rest all)))
