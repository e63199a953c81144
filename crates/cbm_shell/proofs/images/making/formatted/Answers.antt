use Rattle.std.proofs.Common.{ℕ, ◌≡◌, ◌⊎◌, Some, ap, sym, subst, ◌∙◌}
use Rattle.cbm_medium.specs.Seen.{formatted_outside}
use Rattle.cbm_volume.specs.Holding.{HoldsDisk}
use Rattle.cbm_volume.specs.Writers.{Idle, HoldsNow}
use Rattle.cbm_volume.proofs.formatted.NewDisks.{new_keeps}
use Rattle.cbm_shell.specs.Making.{empty_disk}
use Rattle.cbm_shell.proofs.BlankDisks.{blank_holds, never_hindered}
use Rattle.cbm_shell.proofs.NewImages.{new_id, new_outside}
use Rattle.cbm_shell.proofs.images.making.formatted.Goals as goal

-- zeros are a sound disk, so only protection or a failure would refuse NEW
pub unreachable-requires : goal.unreachable-requires
unreachable-requires g c =
    let seen = g.M.Medium.seen in
    let either = subst (λ (n : ℕ). (n ≡ 35) ⊎ (n ≡ 40)) c.tracks-tracks.ensures.value c.tracks-tracks.ensures.either in
    let blank = blank_holds (seen c.args.medium).tracks (seen c.args.medium).content either c.requires.blank in
    let holds = subst (λ k. HoldsNow (seen k).tracks (seen k).content blank.0 (λ ch. Idle)) (sym c.open-volume.ensures) blank.1 in
    absurd (never_hindered (seen c.open-volume.result) (seen c.new_disk.new.self) c.in-Err.field-0
    (ap (λ k. (seen k).protected) c.open-volume.ensures ∙ c.requires.free) (g.met.M.Steady.steady c.open-volume.result) (g.met.M.Steady.steady c.new_disk.new.self)
    (c.in-Err.ensures.cause blank.0 (λ ch. Idle) holds))

pub returns : goal.returns
returns g c =
    let seen = g.M.Medium.seen in
    let made = c.in-Ok.ensures.formatted (λ e. cc) (empty_disk 35 c.args.title.now c.args.id) in
    record {
      same_tracks = ap (λ k. (seen k).tracks) c.into_medium.ensures ∙ ((new_keeps _ (Some c.args.id) (seen c.open-volume.result) (seen c.new_disk.new.self) c.in-Ok.ensures.only).0 ∙ ap (λ k. (seen k).tracks) c.open-volume.ensures);
      holds = subst (λ k. HoldsDisk (seen c.args.medium).tracks (seen k).content (empty_disk (seen c.args.medium).tracks c.args.title.now c.args.id)) (sym c.into_medium.ensures)
          (subst (λ k. HoldsDisk (seen k).tracks (seen c.new_disk.new.self).content (empty_disk (seen k).tracks c.args.title.now c.args.id)) c.open-volume.ensures made);
      same_outside = ap (λ k. (seen k).outside) c.into_medium.ensures
          ∙ (new_outside c.args.id (seen c.open-volume.result) (seen c.new_disk.new.self) _ c.in-Ok.ensures.only ∙ ap (λ k. formatted_outside (seen k).outside) c.open-volume.ensures);
      headers = λ x e. new_id c.args.id (seen c.open-volume.result) (seen c.new_disk.new.self) _ c.in-Ok.ensures.only x (sym (ap (λ k. (seen k).id) c.into_medium.ensures) ∙ e);
    }
