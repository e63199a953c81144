use Rattle.std.proofs.Common.{ℕ, subst}
use Rattle.cbm_medium.specs.Place.{Place}
use Rattle.cbm_medium.specs.Content.{Content}
use Rattle.cbm_chain.specs.Reading.{Reading}
use Rattle.cbm_volume.specs.Loose.{IsOffLinks}
use Rattle.cbm_volume.proofs.loosened.Linked.{off_followed}
use Rattle.cbm_volume.proofs.volume.Volume.spare_read.Goals as goal

pub returns-clause-spares : goal.returns-clause-spares
returns-clause-spares g c = λ p free blocks follows.
    let r : Reading = c.args.reader.now in
    let inside : Content = (g.M.Medium.seen c.self.inside.medium).content in
    let content : Content = (g.M.Medium.seen c.args.self.now).content in
    let here : IsOffLinks c.geometry.result content c.sectors_left.result c.next_link.result p
    = subst (λ v. IsOffLinks c.geometry.result (g.M.Medium.seen v).content c.sectors_left.result c.next_link.result p) c.self.view_is (c.insert_linked.ensures.off p free) in
    let off : IsOffLinks r.tracks content r.left r.next p =
    subst (λ (q : Place). IsOffLinks r.tracks content r.left q p) c.next_link.ensures
    (subst (λ (n : ℕ). IsOffLinks r.tracks content n c.next_link.result p) c.sectors_left.ensures
    (subst (λ (n : ℕ). IsOffLinks n content c.sectors_left.result c.next_link.result p) c.geometry.ensures here)) in
    off_followed r.tracks content r.left r.next p blocks off follows
