use Rattle.std.proofs.Common.{rules, subst, sym, ◌∙◌, ap, Err}
use Rattle.std.proofs.lemmas.Result.{err_from_is_err_and}
use Rattle.cbm_file.specs.Files.{Disk}
use Rattle.cbm_volume.specs.Holding.{HoldsDisk}
use Rattle.cbm_machine.specs.Machines.{start}
use Rattle.cbm_channel.specs.Standing.{Stands}
use Rattle.cbm_channel.proofs.Stands.{means_of}
use Rattle.cbm_channel.specs.Going.{IsOutsideKept}
use Rattle.cbm_shell.specs.Changing.{change_formats, disk_after_change}
use Rattle.cbm_shell.specs.Editing.{IsUnedited}
use Rattle.cbm_shell.proofs.ChangeLemmas.{unsound_of}
use Rattle.cbm_shell.proofs.changing.changed.Goals as goal

pub returns-in_err-require_sound-clause-made : goal.returns-in_err-require_sound-clause-made
returns-in_err-require_sound-clause-made g c = λ d h.
    let bad = c.in_err-require_sound.ensures.exact d (subst (λ k. HoldsDisk (g.M.Medium.seen k).tracks (g.M.Medium.seen k).content d) (sym c.open-volume.ensures) h) in absurd (cc)

pub returns-in_err-require_sound-clause-fault : goal.returns-in_err-require_sound-clause-fault
returns-in_err-require_sound-clause-fault g c =
    let seen = g.M.Medium.seen in
    let old = seen c.args.medium in
    let p = err_from_is_err_and c.from_residual.result c.from_residual.ensures.1 in
    rw (p.1 ∙ ap Err p.2) (unsound_of old.tracks old.content c.in_err-require_sound.field-0.0
    (subst (λ k. IsUnedited (seen k).tracks (seen k).content ⊥ c.in_err-require_sound.field-0.0) c.open-volume.ensures c.in_err-require_sound.ensures.fault))

pub returns-in_err-apply-clause-made : goal.returns-in_err-apply-clause-made
returns-in_err-apply-clause-made g c = λ d h.
    let seen = g.M.Medium.seen in
    let same = c.into_medium.ensures ∙ c.open-volume.ensures in
    let begins = subst (λ k. (d : Disk) → HoldsDisk (seen k).tracks (seen k).content d → Stands seen c.new-dos.result (start d (seen k).protected (seen k).tracks)) same
    c.new-dos.ensures.stands in
    let p = err_from_is_err_and c.from_residual-in_err-apply.result c.from_residual-in_err-apply.ensures.1 in
    rw (p.1 ∙ ap Err p.2) (c.in_err-apply.ensures.made _ (begins d h))

pub returns-clause-made : goal.returns-clause-made
returns-clause-made g c = λ d h.
    let seen = g.M.Medium.seen in
    let same = c.into_medium.ensures ∙ c.open-volume.ensures in
    let begins = subst (λ k. (d : Disk) → HoldsDisk (seen k).tracks (seen k).content d → Stands seen c.new-dos.result (start d (seen k).protected (seen k).tracks)) same
    c.new-dos.ensures.stands in
    let made = c.in_ok-apply.ensures.made _ (begins d h) in
    (made.0, subst (λ k. HoldsDisk (seen k).tracks (seen k).content (disk_after_change c.args.change.now (start d (seen c.args.medium).protected (seen c.args.medium).tracks)).disk) (sym c.into_medium-2.ensures) (means_of _ _ _ _ _ _ _ made.1))

pub returns-clause-sound : goal.returns-clause-sound
returns-clause-sound g c = search rules

pub returns-clause-same_tracks : goal.returns-clause-same_tracks
returns-clause-same_tracks g c =
    let seen = g.M.Medium.seen in
    ap (λ k. (seen k).tracks) c.into_medium-2.ensures ∙ c.in_ok-apply.ensures.medium.tracks
    ∙ ap (λ k. (seen k).tracks) (c.new-dos.ensures.medium ∙ c.into_medium.ensures ∙ c.open-volume.ensures)

pub returns-clause-same_protection : goal.returns-clause-same_protection
returns-clause-same_protection g c =
    let seen = g.M.Medium.seen in
    ap (λ k. (seen k).protected) c.into_medium-2.ensures ∙ c.in_ok-apply.ensures.medium.protected
    ∙ ap (λ k. (seen k).protected) (c.new-dos.ensures.medium ∙ c.into_medium.ensures ∙ c.open-volume.ensures)

pub returns-clause-same_outside : goal.returns-clause-same_outside
returns-clause-same_outside g c =
    let seen = g.M.Medium.seen in
    subst (λ k. IsOutsideKept (change_formats c.args.change.now) (seen c.args.medium).outside (seen k).outside) (sym c.into_medium-2.ensures)
    (subst (λ k. IsOutsideKept (change_formats c.args.change.now) (seen k).outside (seen c.apply.new.dos.medium).outside) (c.new-dos.ensures.medium ∙ c.into_medium.ensures ∙ c.open-volume.ensures) c.in_ok-apply.ensures.medium.outside)
