use Rattle.std.proofs.Common.{Some, false, ap, subst, sym, ◌∙◌}
use Rattle.cbm_machine.specs.Machines.{start}
use Rattle.cbm_image.specs.Images.{kind_of, tracks_of}
use Rattle.cbm_device.specs.ImageDisks.{counted_seen}
use Rattle.cbm_device.specs.Plays.{HasPlayedAll}
use Rattle.cbm_device.proofs.Opening.{holds_of, same_start}
use Rattle.yellowadze1541.proofs.Handing.{has_played}
use Rattle.yellowadze1541.proofs.Signalling.{of_ok}
use Rattle.yellowadze1541.proofs.plays.played.Goals as goal

pub returns : goal.returns
returns c =
    let image = c.args.image.now in
    let disk = c.in_ok-disk.disk in
    let is = c.in_ok-disk.ensures.ok in
    let now = counted_seen disk in
    let changes = c.as_slice.result.now in
    let before = c.args.events.now.items in
    let after = c.play.new.events.items in
    has_played _ c.play.result image c.args.party c.args.signals.now c.args.end changes before after
    (c.in_ok-changes.ensures.ok ∙ ap (λ cs. Some cs) (sym c.as_slice.ensures.value)) is.accepted c.play.ensures.refused c.play.ensures.cause (λ d h.
    of_ok c.play.result (λ left. HasPlayedAll c.args.party (start d now.protected now.tracks) changes c.args.end before after left)
    (λ left. HasPlayedAll c.args.party (start d false (tracks_of (kind_of image) image)) changes c.args.end before after left)
    (λ left played. subst (λ m. HasPlayedAll c.args.party m changes c.args.end before after left) (same_start image false disk d is) played)
    (c.play.ensures.played d (holds_of image false disk d is h)))
