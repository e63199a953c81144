use Rattle.std.proofs.Common.{◌≡◌, ap, subst, arith}
use Rattle.cbm_medium.specs.Place.{Place, Has}
use Rattle.cbm_bam.specs.Map.{IsGiven}
use Rattle.cbm_bam.proofs.Rings.{at_some}
use Rattle.cbm_chain.proofs.Linked.{named}
use Rattle.cbm_relfile.proofs.growth.freeing.give_named.Goals as goal

pub returns-clause-given : goal.returns-clause-given
returns-clause-given c =
    let e : c.in-Some.address ≡ c.args.at = at_some c.address.result _ c.args.at c.in-Some.address c.address.ensures c.in-Some.is in
    let has : Has c.args.geometry c.args.at = named c.address.result _ c.args.at c.in-Some.address c.address.ensures c.in-Some.is in
    let few = c.if-prove.false in
    subst (λ (p : Place). IsGiven c.args.geometry c.args.release.now c.give.new.self p) e
    (c.give.ensures c.args.geometry (omega (arith, ap (λ (p : Place). p.track) e, has.1)) (omega (arith, c.tracks.ensures.value, c.tracks.ensures.either)))
