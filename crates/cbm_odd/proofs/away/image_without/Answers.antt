use Rattle.std.proofs.Common.{◌≡◌, ◌∙◌, subst, rules}
use Rattle.cbm_image.specs.AnyDisks.{any_seen}
use Rattle.cbm_bam.specs.Map.{geometry_of}
use Rattle.cbm_odd.specs.Held.{held_places}
use Rattle.cbm_odd.specs.Marking.{AreHeldClaimed}
use Rattle.cbm_odd.proofs.FaultLemmas.{not_left}
use Rattle.cbm_odd.proofs.away.image_without.Goals as goal

pub returns-clause-fault : goal.returns-clause-fault
returns-clause-fault c =
    let old = any_seen c.args.volume in
    let new = any_seen c.in_ok-disk.disk in
    let left = any_seen c.in_ok-left.left in
    let bound = geometry_of old.tracks old.content in
    let first : c.as_slice.result.now ≡ held_places bound old.content c.args.odds.now = search rules in
    let second : c.as_slice-2.result.now ≡ held_places bound old.content c.args.odds.now = search rules in
    not_left old.tracks new.tracks old.content left.content new.content c.args.odds.now c.as_slice-2.result.now c.clear_image.result (c.in_ok-disk.ensures.tracks ∙ c.in_ok-left.ensures.tracks) second
    c.in_ok-left.ensures.away
    (subst (λ l. AreHeldClaimed bound l left.content new.content) first (subst (λ t. AreHeldClaimed t c.as_slice.result.now left.content new.content) c.geometry-geometry.ensures.value c.in_ok-disk.ensures.claimed))
    c.clear_image.ensures.fault
