use Rattle.std.proofs.Common.{◌≡◌, ◌⊎◌, List, ℕ, [], Err, inl, inr, refl, rules, subst, to_z, of_z, w32}
use Rattle.cbm_iec.specs.declared.event.Event.{Event}
use Rattle.cbm_iec.specs.declared.pace.Pace.{Pace}
use Rattle.cbm_image.specs.declared.kind.Kind.{Kind}
use Rattle.cbm_device.specs.declared.refusal.DeviceRefusal.TheVariants.{Invalid, Memory}
use Rattle.cbm_device.specs.Answers.{answer, answer_number}
use Rattle.cbm_device.specs.ImageDisks.{IsImageIn}
use Rattle.yellowadze1541.specs.Drives.{party_from}
use Rattle.yellowadze1541.specs.Plays.{HandsOut, IsOutOfRange, IsSignalPlay, Rooms, rooms}
use Rattle.yellowadze1541.proofs.Handing.{reported}
use Rattle.yellowadze1541.proofs.plays.y1541_play.Goals as goal

-- an argument is out of its range
pub returns-then-device : goal.returns-then-device
returns-then-device c =
    let same : to_z w32 (of_z w32 c.number.result) ≡ answer_number Invalid = search rules in
    let outside : IsOutOfRange (party_from c.args.device c.args.reaction c.args.pace) c.args.pace c.args.end = search rules in
    inr (Invalid, inl (refl, outside), same, refl)

pub returns-in-Ok : goal.returns-in-Ok
returns-in-Ok c =
    let image = c.args.image.now in
    let done = c.told.result in
    let n = to_z w32 (of_z w32 c.number-in-Ok.result) in
    let same : n ≡ answer done = search rules in
    let signals = c.args.changes.now in
    let events = c.played.new.events.items in
    let left = c.in-Ok.disk in
    let old : Rooms = rooms c.args.out.now c.args.count.now c.args.after.now c.args.needed.now in
    let new : Rooms = rooms c.told.new.out c.told.new.count c.told.new.after c.told.new.needed in
    let played = subst (λ (pace : Pace). IsSignalPlay image (record { device = c.args.device; reaction = c.args.reaction; pace = pace }) signals c.args.end [] events left) c.pace_with-pace.ensures
    (subst (λ (before : List Event). IsSignalPlay image (record { device = c.args.device; reaction = c.args.reaction; pace = c.pace_with-pace.result }) signals c.args.end before events left)
    c.new-events.ensures.items c.in-Ok.ensures) in
    let told = subst (λ (kind : Kind). ((bytes : List ℕ) × IsImageIn kind left bytes × HandsOut (answer done) events bytes old new) ⊎ ((done ≡ Err Memory) × (new ≡ old))) c.kind_of.ensures
    (subst (λ (es : List Event). ((bytes : List ℕ) × IsImageIn c.kind_of.result left bytes × HandsOut (answer done) es bytes old new) ⊎ ((done ≡ Err Memory) × (new ≡ old)))
    c.as_slice.ensures.value c.told.ensures) in
    reported done n image (party_from c.args.device c.args.reaction c.args.pace) c.args.pace signals c.args.end events left old new same played told
