use Rattle.std.proofs.Common.{◌≡◌, ℕ, List, set, subst}
use Rattle.cbm_medium.specs.Place.{Place}
use Rattle.cbm_directory.specs.EntryChanges.{IsRelativeAs}
use Rattle.cbm_directory.proofs.Closed.{relative_as}
use Rattle.cbm_directory.proofs.entry.Entry.relative.Goals as goal

pub returns : goal.returns
returns c =
    let side : Place = record { track = c.track.result; sector = c.sector.result } in
    let new : List ℕ = set (set (set c.self.inside.bytes 19 side.track) 20 side.sector) 21 c.args.length in
    let same : side ≡ c.args.side = λ i. record { track = c.track.ensures i; sector = c.sector.ensures i } in
    subst (λ (e : List ℕ). IsRelativeAs e new c.args.side c.args.length) c.self.view_is
    (subst (λ (p : Place). IsRelativeAs c.self.inside.bytes new p c.args.length) same (relative_as c.self.inside.bytes side c.args.length c.self.told))
