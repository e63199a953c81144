use Rattle.std.proofs.Common.{rules, ◌≡◌, refl, sym, ap, subst, ◌∙◌, inl, inr, List, ℕ, Some}
use Rattle.cbm_volume.specs.Led.{RenamesLed}
use Rattle.cbm_channel.proofs.Refused.{trouble_never}
use Rattle.cbm_medium.specs.Seen.{HasFailed}
use Rattle.cbm_file.specs.Padding.{before_filler}
use Rattle.cbm_file.specs.Files.{with_slot}
use Rattle.cbm_volume.specs.Opens.{IsUnwritten}
use Rattle.cbm_volume.specs.Writers.{HoldsNow}
use Rattle.cbm_machine.specs.Machines.{answered, say, with_status, with_disk, writes}
use Rattle.cbm_machine.specs.Running.{rename}
use Rattle.cbm_machine.specs.declared.code.Code.TheVariants.{Fine}
use Rattle.cbm_channel.specs.Standing.{StandsBy, uses_of}
use Rattle.cbm_channel.proofs.Commanding.{stopped_at_once, rename_done, rename_stands}
use Rattle.cbm_channel.proofs.Opens.{failed_by}
use Rattle.cbm_channel.proofs.Planning.{none_passes}
use Rattle.cbm_channel.proofs.Stands.{stood, unwritten_at}
use Rattle.cbm_channel.proofs.Stores.{renamed}
use Rattle.cbm_channel.proofs.Refused.{not_refused}
use Rattle.cbm_channel.proofs.Counted.{counted_told}
use Rattle.cbm_channel.proofs.Rest.{rest_seen, outside_held, rest_same}
use Rattle.cbm_channel.proofs.dos.Dos.rename_slot.Goals as goal
use Rattle.cbm_channel.proofs.Elses.{only_else}
use Rattle.cbm_channel.proofs.Goings.{keeps_call}
use Rattle.cbm_channel.proofs.GroundedReports.{answer_grounded}

pub returns-in-Ok-clause-goes : goal.returns-in-Ok-clause-goes
returns-in-Ok-clause-goes g c = λ cut m old is s.
    let here = c.self.inside in
    let st : StandsBy (g.M.Medium.seen here.volume).content (g.M.Medium.seen here.volume).tracks (g.M.Medium.seen here.volume).protected here.channels.items here.telling here.text m = stood g.M.Medium.seen c.args.self.now _ m c.self.view_is s in
    let unwritten : IsUnwritten (uses_of here.channels.items m.channels) c.args.slot = λ k. unwritten_at c.args.slot here.channels.items m.channels k st.each (λ j. none_passes (writes c.args.slot) refl m.channels j is.unwritten) in
    let name : before_filler c.bytes.result.now ≡ c.args.name.now = ap before_filler c.bytes.ensures.value ∙ cut in
    let holds = subst (λ (x : List ℕ). HoldsNow (g.M.Medium.seen here.volume).tracks (g.M.Medium.seen c.rename.new.self).content (with_slot m.disk c.args.slot (Some (record (is.file) { name = x }))) (uses_of here.channels.items m.channels)) name
    ((c.in-Ok.ensures.call m.disk (uses_of here.channels.items m.channels) st.holds).done is.file is.in_slot unwritten) in
    let next = rename_stands _ _ (g.M.Medium.seen c.rename.new.self).content _ here.channels.items here.telling here.text m st c.args.name.now old c.args.slot is holds in (
      say Fine (with_disk (with_slot m.disk c.args.slot (Some (record (is.file) { name = c.args.name.now }))) m),
      inl (sym (rename_done _ _ (g.M.Medium.seen c.rename.new.self).content _ here.channels.items here.telling here.text m st c.args.name.now old c.args.slot is)),
      c.say.ensures.leads _ (renamed _ _ _ _ _ _ _ _ _ c.rename.ensures.only.tracks c.rename.ensures.only.protected next),
    )

-- the write was refused
pub returns-in-Err-clause-goes : goal.returns-in-Err-clause-goes
returns-in-Err-clause-goes g c = λ cut m old is s.
    let here = c.self.inside in
    let new = g.M.Medium.seen c.rename.new.self in
    let st : StandsBy (g.M.Medium.seen here.volume).content (g.M.Medium.seen here.volume).tracks (g.M.Medium.seen here.volume).protected here.channels.items here.telling here.text m = stood g.M.Medium.seen c.args.self.now _ m c.self.view_is s in
    let failed = failed_by (g.M.Medium.seen here.volume) new c.in-Err.trouble m.protected st.same_protection is.unprotected (c.in-Err.ensures.call m.disk (uses_of here.channels.items m.channels) st.holds).cause in
    let same = subst (λ x. StandsBy x (g.M.Medium.seen here.volume).tracks (g.M.Medium.seen here.volume).protected here.channels.items here.telling here.text m) (sym c.in-Err.ensures.err) st in (
      with_status c.from.result m,
      inr (subst (λ v. HasFailed (g.M.Medium.seen v) (g.M.Medium.seen c.set.new.self.medium)) (ap (λ k. k.medium) c.self.view_is) (subst (λ v. HasFailed (g.M.Medium.seen here.volume) (g.M.Medium.seen v)) (sym c.set.ensures.medium) failed), stopped_at_once _ _ new.content _ here.channels.items here.telling here.text m st (answered m (rename c.args.name.now old m)) c.in-Err.trouble c.from.result c.self.invariant.count c.from.ensures),
      c.set.ensures.leads m (renamed _ _ _ _ _ _ _ _ _ c.rename.ensures.only.tracks c.rename.ensures.only.protected same),
    )

pub returns-in-Ok-clause-leaves : goal.returns-in-Ok-clause-leaves
returns-in-Ok-clause-leaves g c = record {
  channels = (search rules);
  spared = not_refused _ _ c.say.ensures.told refl;
  medium = (search rules);
  counted = (search rules);
  grounded = (search rules);
}

-- ---- what it leaves, on any disk

pub returns-in-Err-clause-leaves : goal.returns-in-Err-clause-leaves
returns-in-Err-clause-leaves g c = record {
  channels = (search rules);
  spared = (search rules);
  medium = keeps_call g.M.Medium.seen c.args.self.now.medium c.set.new.self.medium c.self.inside.volume c.rename.new.self c.rename.result (ap (λ k. k.medium) c.self.view_is) c.set.ensures.medium (only_else _ _ _ c.rename.ensures.only);
  counted = counted_told g.M.Medium.seen c.args.self.now c.set.new.self c.self.inside.volume c.rename.new.self (ap (λ k. k.medium) c.self.view_is) c.set.ensures.medium c.rename.result c.in-Err.trouble c.in-Err.is c.rename.ensures.only (ap (λ x. x.status) c.set.ensures.told ∙ c.from.ensures);
  grounded = answer_grounded g.M.Medium.seen c.args.self.now c.set.new.self c.self.inside.volume c.rename.new.self (ap (λ k. k.medium) c.self.view_is) c.set.ensures.medium c.rename.result c.in-Err.trouble c.in-Err.is (only_else _ _ _ c.rename.ensures.only) (ap (λ x. x.status) c.set.ensures.told ∙ c.from.ensures);
}

-- ---- the rest of the disk

pub returns-in-Ok-clause-rest : goal.returns-in-Ok-clause-rest
returns-in-Ok-clause-rest g c = λ m old is s.
    let here = c.self.inside in
    let st : StandsBy (g.M.Medium.seen here.volume).content (g.M.Medium.seen here.volume).tracks (g.M.Medium.seen here.volume).protected here.channels.items here.telling here.text m = stood g.M.Medium.seen c.args.self.now _ m c.self.view_is s in
    let unwritten : IsUnwritten (uses_of here.channels.items m.channels) c.args.slot = λ k. unwritten_at c.args.slot here.channels.items m.channels k st.each (λ j. none_passes (writes c.args.slot) refl m.channels j is.unwritten) in
    rest_seen g.M.Medium.seen c.args.self.now.medium c.say.new.self.medium c.self.inside.volume c.rename.new.self (ap (λ k. k.medium) c.self.view_is) c.say.ensures.medium
    (record {
      in_place = (c.in-Ok.ensures.call m.disk (uses_of here.channels.items m.channels) st.holds).untouched.stays;
      outside = outside_held c.rename.result (g.M.Medium.seen here.volume) (g.M.Medium.seen c.rename.new.self) m.disk (uses_of here.channels.items m.channels) c.rename.ensures.only refl st.holds
          (record { disk = _; uses = _; holds = (c.in-Ok.ensures.call m.disk (uses_of here.channels.items m.channels) st.holds).done is.file is.in_slot unwritten; total = refl });
    })

pub returns-in-Err-clause-rest : goal.returns-in-Err-clause-rest
returns-in-Err-clause-rest g c = λ m old is s. rest_seen g.M.Medium.seen c.args.self.now.medium c.set.new.self.medium c.self.inside.volume c.rename.new.self (ap (λ k. k.medium) c.self.view_is) c.set.ensures.medium (rest_same _ _ c.rename.ensures.only.tracks c.in-Err.ensures.err c.rename.ensures.only.outside)

-- ---- on any disk

pub returns-in-Ok-clause-done : goal.returns-in-Ok-clause-done
returns-in-Ok-clause-done g c = λ fine.
    subst (λ v. RenamesLed (g.M.Medium.seen v) (g.M.Medium.seen c.say.new.self.medium) c.args.slot c.args.name.now) (ap (λ k. k.medium) c.self.view_is)
    (subst (λ v. RenamesLed (g.M.Medium.seen c.self.inside.volume) (g.M.Medium.seen v) c.args.slot c.args.name.now) (sym c.say.ensures.medium)
    (subst (λ (name : List ℕ). RenamesLed (g.M.Medium.seen c.self.inside.volume) (g.M.Medium.seen c.rename.new.self) c.args.slot name) c.bytes.ensures.value c.in-Ok.ensures.led))

pub returns-in-Err-clause-done : goal.returns-in-Err-clause-done
returns-in-Err-clause-done g c = trouble_never c.in-Err.trouble c.from.result c.set.new.self.told Fine refl c.from.ensures c.set.ensures.told
