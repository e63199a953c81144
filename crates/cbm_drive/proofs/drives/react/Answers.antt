use Rattle.std.proofs.Common.{ℕ, sym, ◌≡◌, ◌∷◌, ◌++◌, List, ap, subst, ◌∙◌}
use Rattle.cbm_drive.specs.declared.wires.Wires.{Wires}
use Rattle.cbm_drive.specs.Seats.{Seated, IsBusAt, IsFirstDue, Unfailed, AreCarried, wires_held_by}
use Rattle.cbm_drive.specs.Reactions.{HasReacted, Hear}
use Rattle.cbm_drive.proofs.Alone.{reacts_alone}
use Rattle.cbm_drive.proofs.Reacted.{reacts}
use Rattle.cbm_drive.proofs.Unfailed.{unfailed_each, carried_all}
use Rattle.cbm_drive.specs.Progress.{IsNearer}
use Rattle.cbm_drive.proofs.Nearer.{nearer}
use Rattle.cbm_drive.proofs.drives.react.Goals as goal

pub returns-clause-made : goal.returns-clause-made
returns-clause-made g c = record {
  reacted = λ u.
      λ ss bus first.
      let front = c.split_at_mut-front.result.0.now in
      let x = c.in_ok-rest.drive.now in
      let back = c.in_ok-rest.back.now in
      let old : c.args.drives.now ≡ front ++ x ∷ back = c.split_at_mut-front.ensures.value ∙ ap (λ (ys : List (Seated _)). front ++ ys) c.in_ok-rest.ensures.cases.0 in
      let each = unfailed_each g.D.Machine.failures front x back c.hear_others.new.front c.due-changes.new.self c.hear_others.new.back c.hear_others.ensures.others.front_carried.counted c.due-changes.ensures.counted c.hear_others.ensures.others.back_carried.counted
      (subst (λ (xs : List (Seated _)). Unfailed g.D.Machine.failures xs (c.hear_others.new.front ++ c.due-changes.new.self ∷ c.hear_others.new.back)) old u) in
      subst (λ (device : ℕ). HasReacted _ g.D.Machine.State g.D.Machine.stands g.D.Machine.step g.D.Machine.says c.args.host c.args.moment device (c.hear_others.new.front ++ c.due-changes.new.self ∷ c.hear_others.new.back) c.due-changes.result.items ss) (sym c.device-device.ensures)
      (reacts _ g.D.Machine.State g.D.Machine.stands g.D.Machine.stands g.D.Machine.step g.D.Machine.says c.args.host c.args.moment c.args.place front x c.due-changes.new.self back c.hear_others.new.front c.hear_others.new.back c.due-changes.result.items ss
      c.split_at_mut-front.ensures.front_len c.due-changes.ensures.port c.due-changes.ensures.changes (c.due-changes.ensures.machine each.1)
      (subst (Hear _ g.D.Machine.State g.D.Machine.stands g.D.Machine.stands g.D.Machine.step g.D.Machine.says c.args.moment front back c.hear_others.new.front c.hear_others.new.back (wires_held_by c.args.host (front ++ x ∷ back))) c.deref.ensures.0
      (subst (λ (w : Wires). Hear _ g.D.Machine.State g.D.Machine.stands g.D.Machine.stands g.D.Machine.step g.D.Machine.says c.args.moment front back c.hear_others.new.front c.hear_others.new.back w c.deref.result.now)
      (c.of-wires.ensures.value ∙ ap (wires_held_by c.args.host) old) (c.hear_others.ensures.heard each.0 each.2)))
      (subst (λ (xs : List (Seated _)). IsBusAt _ g.D.Machine.State g.D.Machine.stands c.args.host xs ss) old bus)
      (subst (λ (xs : List (Seated _)). IsFirstDue xs (c.args.place, c.args.moment)) old first));
  recorded = λ one first.
      let front = c.split_at_mut-front.result.0.now in
      let x = c.in_ok-rest.drive.now in
      let back = c.in_ok-rest.back.now in
      let old : c.args.drives.now ≡ front ++ x ∷ back = c.split_at_mut-front.ensures.value ∙ ap (λ (ys : List (Seated _)). front ++ ys) c.in_ok-rest.ensures.cases.0 in
      reacts_alone g.D.Machine.shows c.args.host c.args.moment c.device-device.result c.args.place c.args.drives.now front x c.due-changes.new.self back c.hear_others.new.front c.hear_others.new.back c.due-changes.result.items one old
      c.hear_others.ensures.others.front c.hear_others.ensures.others.back first c.device-device.ensures c.due-changes.ensures.reacts;
}

pub returns-clause-carried : goal.returns-clause-carried
returns-clause-carried g c =
    let front = c.split_at_mut-front.result.0.now in
    let x = c.in_ok-rest.drive.now in
    let back = c.in_ok-rest.back.now in
    let old : c.args.drives.now ≡ front ++ x ∷ back = c.split_at_mut-front.ensures.value ∙ ap (λ (ys : List (Seated _)). front ++ ys) c.in_ok-rest.ensures.cases.0 in
    subst (λ (xs : List (Seated _)). AreCarried g.D.Machine.lasting g.D.Machine.failures xs (c.hear_others.new.front ++ c.due-changes.new.self ∷ c.hear_others.new.back)) (sym old)
    (carried_all front x back c.hear_others.new.front c.due-changes.new.self c.hear_others.new.back c.hear_others.ensures.others.front_carried c.due-changes.ensures.lasting c.due-changes.ensures.counted c.hear_others.ensures.others.back_carried)

pub returns-clause-nearer : goal.returns-clause-nearer
returns-clause-nearer g c = λ first.
    let front = c.split_at_mut-front.result.0.now in
    let x = c.in_ok-rest.drive.now in
    let back = c.in_ok-rest.back.now in
    let old : c.args.drives.now ≡ front ++ x ∷ back = c.split_at_mut-front.ensures.value ∙ ap (λ (ys : List (Seated _)). front ++ ys) c.in_ok-rest.ensures.cases.0 in
    subst (λ (xs : List (Seated _)). IsNearer c.args.moment xs (c.hear_others.new.front ++ c.due-changes.new.self ∷ c.hear_others.new.back)) (sym old)
    (nearer c.args.place c.args.moment front x c.due-changes.new.self back c.hear_others.new.front c.hear_others.new.back c.split_at_mut-front.ensures.front_len
    (subst (λ (xs : List (Seated _)). IsFirstDue xs (c.args.place, c.args.moment)) old first) c.due-changes.ensures.later c.hear_others.ensures.others.front c.hear_others.ensures.others.back)
