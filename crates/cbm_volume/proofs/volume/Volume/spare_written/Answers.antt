use Rattle.std.proofs.Common.{◌≤◌, ℕ, List, length, subst}
use Rattle.cbm_medium.specs.Place.{Place}
use Rattle.cbm_medium.specs.Content.{Content}
use Rattle.cbm_medium.specs.Links.{IsApart}
use Rattle.cbm_chain.specs.Writing.{State, Wrote, place_or_none}
use Rattle.cbm_volume.specs.Writers.{Filling}
use Rattle.cbm_volume.specs.Loose.{IsOffLinks}
use Rattle.cbm_volume.proofs.loosened.Linked.{off_wrote}
use Rattle.cbm_volume.proofs.volume.Volume.spare_written.Goals as goal

pub returns-clause-spares : goal.returns-clause-spares
returns-clause-spares g c = λ p free.
    let s : State = c.writer.inside.chain in
    let content : Content = (g.M.Medium.seen c.args.self.now).content in
    let here : IsOffLinks c.geometry.result content c.count.result c.first_block.result p
    = subst (λ v. IsOffLinks c.geometry.result (g.M.Medium.seen v).content c.count.result c.first_block.result p) c.self.view_is (c.insert_linked.ensures.off p free) in
    let off : IsOffLinks s.tracks content s.count (place_or_none s.first) p =
    subst (λ (q : Place). IsOffLinks s.tracks content s.count q p) c.first_block.ensures
    (subst (λ (n : ℕ). IsOffLinks s.tracks content n c.first_block.result p) c.count.ensures
    (subst (λ (n : ℕ). IsOffLinks n content c.count.result c.first_block.result p) c.geometry.ensures here)) in
    subst (λ (w : Filling). (places : List Place) (bytes : List ℕ) → Wrote content w.chain places bytes → length places ≤ 65535 → IsApart p places) c.writer.view_is
    (λ places bytes wrote few. off_wrote content s p places bytes off wrote few)
