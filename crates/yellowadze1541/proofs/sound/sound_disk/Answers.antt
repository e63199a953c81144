use Rattle.std.proofs.Common.{false, subst, sym, ◌∙◌}
use Rattle.cbm_volume.specs.Holding.{HoldsDisk}
use Rattle.cbm_shell.specs.Changing.{IsFaultOf}
use Rattle.cbm_shell.specs.Editing.{IsUnedited}
use Rattle.cbm_shell.proofs.ChangeLemmas.{unsound_of}
use Rattle.cbm_device.specs.ImageDisks.{counted_seen, IsDiskOf}
use Rattle.cbm_device.specs.Making.{IsUnchanged}
use Rattle.cbm_device.proofs.Opening.{holds_of, of_disk}
use Rattle.cbm_device.proofs.Refusing.{unchanged}
use Rattle.yellowadze1541.proofs.sound.sound_disk.Goals as goal

pub returns-in-Ok-clause-disk : goal.returns-in-Ok-clause-disk
returns-in-Ok-clause-disk c = subst (λ k. IsDiskOf c.args.image.now false k) (sym (c.into_medium.ensures ∙ c.open-volume.ensures)) c.in_ok-open.ensures.ok

-- a sound disk isn't refused
pub returns-in-Err-clause-exact : goal.returns-in-Err-clause-exact
returns-in-Err-clause-exact c = λ d h.
    let holds = holds_of c.args.image.now false c.in_ok-open.field-0 d c.in_ok-open.ensures.ok h in
    let bad = c.in-Err.ensures.exact d (subst (λ k. HoldsDisk (counted_seen k).tracks (counted_seen k).content d) (sym c.open-volume.ensures) holds) in absurd (cc)

pub returns-in-Err-clause-sound : goal.returns-in-Err-clause-sound
returns-in-Err-clause-sound c =
    let image = c.args.image.now in
    let disk = c.in_ok-open.field-0 in
    let is = c.in_ok-open.ensures.ok in
    let now = counted_seen disk in
    let fault = c.in-Err.fault in
    subst (λ r. IsUnchanged image r) (sym c.from.ensures)
    (unchanged image fault is.accepted (of_disk (λ n content. IsFaultOf n content fault) image false disk is (unsound_of now.tracks now.content fault
    (subst (λ k. IsUnedited (counted_seen k).tracks (counted_seen k).content ⊥ fault) c.open-volume.ensures c.in-Err.ensures.fault))))
