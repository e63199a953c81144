use Rattle.std.proofs.Common.{true, subst, sym}
use Rattle.cbm_volume.specs.Holding.{EntryStandsAt, HoldsDisk}
use Rattle.cbm_device.specs.Answers.{refusal_of}
use Rattle.cbm_device.specs.ImageDisks.{counted_seen, IsOpenRefusal}
use Rattle.cbm_device.proofs.Opening.{holds_of, to_disk}
use Rattle.yellowadze1541.proofs.slots.read.Goals as goal

pub returns-in-Ok-clause-means : goal.returns-in-Ok-clause-means
returns-in-Ok-clause-means c = λ d e bytes h stands has.
    let image = c.args.image.now in
    let slot = c.args.slot in
    let disk = c.in_ok-open.field-0 in
    let is = c.in_ok-open.ensures.ok in
    c.in-Ok.ensures.means d slot bytes (subst (λ k. HoldsDisk (counted_seen k).tracks (counted_seen k).content d) (sym c.open-volume.ensures) (holds_of image true disk d is h))
    (subst (λ k. EntryStandsAt (counted_seen k).tracks (counted_seen k).content slot c.in_ok-entry.entry) (sym c.open-volume.ensures)
    (to_disk (λ n content. EntryStandsAt n content slot c.in_ok-entry.entry) image true disk is c.in_ok-entry.ensures.ok)) has

pub returns-clause-means : goal.returns-clause-means
returns-clause-means c = λ d e bytes h stands has.
    let image = c.args.image.now in
    let slot = c.args.slot in
    let disk = c.in_ok-open.field-0 in
    let is = c.in_ok-open.ensures.ok in
    let memory = c.in-Err.ensures.means d slot bytes (subst (λ k. HoldsDisk (counted_seen k).tracks (counted_seen k).content d) (sym c.open-volume.ensures) (holds_of image true disk d is h))
    (subst (λ k. EntryStandsAt (counted_seen k).tracks (counted_seen k).content slot c.in_ok-entry.entry) (sym c.open-volume.ensures)
    (to_disk (λ n content. EntryStandsAt n content slot c.in_ok-entry.entry) image true disk is c.in_ok-entry.ensures.ok)) has in
    subst (λ r. IsOpenRefusal image r) (sym c.from.ensures) (subst (λ f. IsOpenRefusal image (refusal_of f)) (sym memory) tt)
