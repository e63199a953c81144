use Rattle.std.proofs.Common.{rules, ◌≡◌, ℕ, true, false, Ok, Err, sym, ap, subst, ◌∙◌, inl, inr, refl}
use Rattle.std.specs.Prelude.{OnOk}
use Rattle.cbm_medium.specs.Seen.{HasFailed}
use Rattle.cbm_file.specs.Changes.{new_disk}
use Rattle.cbm_volume.specs.NewDisks.{EmptiesDisk}
use Rattle.cbm_volume.specs.Writers.{Idle, HoldsNow}
use Rattle.cbm_machine.specs.Machines.{any_open, say, with_status, with_disk}
use Rattle.cbm_machine.specs.declared.code.Code.TheVariants.{Fine, WriteFileOpen, WriteProtected}
use Rattle.cbm_volume.proofs.formatted.NewDisks.{new_grounded, new_keeps, new_refusal}
use Rattle.cbm_channel.specs.Standing.{StandsBy, uses_of}
use Rattle.cbm_channel.proofs.Commanding.{new_open, new_done, new_guarded, new_stands, new_cut, all_idle}
use Rattle.cbm_channel.proofs.Opens.{failed_by}
use Rattle.cbm_channel.proofs.Stands.{stood}
use Rattle.cbm_channel.proofs.Stores.{renamed}
use Rattle.cbm_channel.proofs.Refused.{not_refused, refused_26, trouble_never}
use Rattle.cbm_channel.proofs.Counted.{counted_by, counted_well, new_counts}
use Rattle.cbm_channel.proofs.dos.Dos.format.Goals as goal
use Rattle.cbm_channel.proofs.Goings.{keeps_by, keeps_same}
use Rattle.cbm_channel.proofs.GroundedReports.{answer_grounded_by, new_medium, protected_grounded}

-- a channel is open
pub returns-then-is_any_open-clause-goes : goal.returns-then-is_any_open-clause-goes
returns-then-is_any_open-clause-goes g c = λ m s.
    (say WriteFileOpen m, inl (sym (new_open m c.args.title.now c.args.id (sym (c.is_any_open.ensures m s) ∙ c.if-is_any_open.true))), c.say.ensures.leads m s)

-- the disk is protected
pub returns-then-is_protected-clause-goes : goal.returns-then-is_protected-clause-goes
returns-then-is_protected-clause-goes g c = λ m s.
    let old = c.args.self.now in
    let shut : any_open m ≡ false = sym (c.is_any_open.ensures m s) ∙ c.if-is_any_open.false in
    let guarded : m.protected ≡ true = s.same_protection ∙ ap (λ v. (g.M.Medium.seen v).protected) (sym c.volume.ensures) ∙ sym c.is_protected.ensures ∙ c.if-is_protected.true in (
      say WriteProtected m,
      inl (sym (new_guarded _ (g.M.Medium.seen old.medium).content (g.M.Medium.seen old.medium).content _ old.channels old.told old.text m s shut c.args.title.now c.args.id guarded)),
      c.say-then-is_protected.ensures.leads m s,
    )

-- the disk is empty
pub returns-in-Ok-clause-goes : goal.returns-in-Ok-clause-goes
returns-in-Ok-clause-goes g c = λ m s.
    let here = c.self.inside in
    let new = g.M.Medium.seen c.new_disk.new.self in
    let st : StandsBy (g.M.Medium.seen here.volume).content (g.M.Medium.seen here.volume).tracks (g.M.Medium.seen here.volume).protected here.channels.items here.telling here.text m = stood g.M.Medium.seen c.args.self.now _ m c.self.view_is s in
    let shut : any_open m ≡ false = sym (c.is_any_open.ensures m s) ∙ c.if-is_any_open.false in
    let idle : (k : ℕ) → uses_of here.channels.items m.channels k ≡ Idle = all_idle here.channels.items m.channels st.each shut in
    let unprotected : m.protected ≡ false = s.same_protection ∙ ap (λ v. (g.M.Medium.seen v).protected) (sym c.volume.ensures) ∙ sym c.is_protected.ensures ∙ c.if-is_protected.false in
    let tracks = sym st.same_tracks in
    let holds = subst (λ x. HoldsNow (g.M.Medium.seen here.volume).tracks new.content x (uses_of here.channels.items m.channels))
    (λ i. new_disk (tracks i) (c.bytes.ensures.value i) c.args.id m.disk) (c.in-Ok.ensures.made m.disk (uses_of here.channels.items m.channels) st.holds idle) in
    let next = new_stands _ _ new.content _ here.channels.items here.telling here.text m st shut c.args.title.now c.args.id holds in
    let kept = new_keeps c.new_disk.result c.args.id (g.M.Medium.seen here.volume) new c.new_disk.ensures.only in (
      say Fine (with_disk (new_disk m.tracks c.args.title.now c.args.id m.disk) m),
      inl (sym (new_done _ _ new.content _ here.channels.items here.telling here.text m st shut c.args.title.now c.args.id unprotected)),
      c.say-in-Ok.ensures.leads _ (renamed _ _ _ _ _ _ _ _ _ kept.0 kept.1 next),
    )

-- a write was refused: nothing has changed, or no file is left
pub returns-in-Err-clause-goes : goal.returns-in-Err-clause-goes
returns-in-Err-clause-goes g c = λ m s.
    let here = c.self.inside in
    let new = g.M.Medium.seen c.new_disk.new.self in
    let st : StandsBy (g.M.Medium.seen here.volume).content (g.M.Medium.seen here.volume).tracks (g.M.Medium.seen here.volume).protected here.channels.items here.telling here.text m = stood g.M.Medium.seen c.args.self.now _ m c.self.view_is s in
    let shut : any_open m ≡ false = sym (c.is_any_open.ensures m s) ∙ c.if-is_any_open.false in
    let idle : (k : ℕ) → uses_of here.channels.items m.channels k ≡ Idle = all_idle here.channels.items m.channels st.each shut in
    let unprotected : m.protected ≡ false = s.same_protection ∙ ap (λ v. (g.M.Medium.seen v).protected) (sym c.volume.ensures) ∙ sym c.is_protected.ensures ∙ c.if-is_protected.false in
    let failed = failed_by (g.M.Medium.seen here.volume) new c.in-Err.trouble m.protected st.same_protection unprotected (c.in-Err.ensures.cause m.disk (uses_of here.channels.items m.channels) st.holds) in
    let next = new_cut _ _ new.content _ here.channels.items here.telling here.text m st shut c.args.title.now c.args.id unprotected (c.in-Err.ensures.stopped m.disk (uses_of here.channels.items m.channels) st.holds idle) in
    let kept = new_keeps c.new_disk.result c.args.id (g.M.Medium.seen here.volume) new c.new_disk.ensures.only in (
      with_status c.from.result next.0,
      inr (
        subst (λ v. HasFailed (g.M.Medium.seen v) (g.M.Medium.seen c.set.new.self.medium)) (ap (λ k. k.medium) c.self.view_is) (subst (λ v. HasFailed (g.M.Medium.seen here.volume) (g.M.Medium.seen v)) (sym c.set.ensures.medium) failed),
        next.1 c.in-Err.trouble c.from.result c.self.invariant.count c.from.ensures,
      ),
      c.set.ensures.leads next.0 (renamed _ _ _ _ _ _ _ _ _ kept.0 kept.1 next.2),
    )

-- ---- what is refused

pub returns-in-Ok-clause-leaves : goal.returns-in-Ok-clause-leaves
returns-in-Ok-clause-leaves g c = record {
  channels = (search rules);
  spared = not_refused _ _ c.say-in-Ok.ensures.told refl;
  medium = keeps_by g.M.Medium.seen c.args.self.now.medium c.say-in-Ok.new.self.medium c.self.inside.volume c.new_disk.new.self (ap (λ k. k.medium) c.self.view_is) c.say-in-Ok.ensures.medium (new_medium _ _ _ _ c.new_disk.ensures.only);
  counted = let k = new_counts c.new_disk.result c.args.id (g.M.Medium.seen c.self.inside.volume) (g.M.Medium.seen c.new_disk.new.self) c.new_disk.ensures.only in
      counted_well g.M.Medium.seen c.args.self.now c.say-in-Ok.new.self c.self.inside.volume c.new_disk.new.self (ap (λ k. k.medium) c.self.view_is) c.say-in-Ok.ensures.medium (subst (λ x. OnOk x ((g.M.Medium.seen c.new_disk.new.self).failures ≡ (g.M.Medium.seen c.self.inside.volume).failures)) c.in-Ok.is k.3);
  grounded = (search rules);
}

-- 26 says that the disk is protected
pub returns-in-Err-clause-leaves : goal.returns-in-Err-clause-leaves
returns-in-Err-clause-leaves g c = record {
  channels = (search rules);
  spared = λ is.
      ap (λ v. (g.M.Medium.seen v).content) c.set.ensures.medium
      ∙ (c.in-Err.ensures.protected (new_refusal (Err c.in-Err.trouble) c.args.id (g.M.Medium.seen c.self.inside.volume) (g.M.Medium.seen c.new_disk.new.self) c.in-Err.ensures.only (refused_26 c.in-Err.trouble c.from.result _ c.from.ensures c.set.ensures.told is))
      ∙ ap (λ k. (g.M.Medium.seen k.medium).content) c.self.view_is);
  medium = keeps_by g.M.Medium.seen c.args.self.now.medium c.set.new.self.medium c.self.inside.volume c.new_disk.new.self (ap (λ k. k.medium) c.self.view_is) c.set.ensures.medium (new_medium _ _ _ _ c.new_disk.ensures.only);
  counted = let k = new_counts c.new_disk.result c.args.id (g.M.Medium.seen c.self.inside.volume) (g.M.Medium.seen c.new_disk.new.self) c.new_disk.ensures.only in
      counted_by g.M.Medium.seen c.args.self.now c.set.new.self c.self.inside.volume c.new_disk.new.self (ap (λ k. k.medium) c.self.view_is) c.set.ensures.medium c.new_disk.result c.in-Err.trouble c.in-Err.is k.0 k.1 k.2 (ap (λ x. x.status) c.set.ensures.told ∙ c.from.ensures);
  grounded = answer_grounded_by g.M.Medium.seen c.args.self.now c.set.new.self c.self.inside.volume c.new_disk.new.self (ap (λ k. k.medium) c.self.view_is) c.set.ensures.medium c.new_disk.result c.in-Err.trouble c.in-Err.is (new_medium _ _ _ _ c.new_disk.ensures.only).protected (new_medium _ _ _ _ c.new_disk.ensures.only).readable (new_grounded _ _ _ _ c.new_disk.ensures.only) (ap (λ x. x.status) c.set.ensures.told ∙ c.from.ensures);
}

-- a channel is open
pub returns-then-is_any_open-clause-leaves : goal.returns-then-is_any_open-clause-leaves
returns-then-is_any_open-clause-leaves g c = record {
  channels = (search rules);
  spared = (search rules);
  medium = keeps_same _ _ (ap g.M.Medium.seen c.say.ensures.medium);
  counted = (search rules);
  grounded = (search rules);
}

pub returns-then-is_protected-clause-leaves : goal.returns-then-is_protected-clause-leaves
returns-then-is_protected-clause-leaves g c = record {
  channels = (search rules);
  spared = (search rules);
  medium = keeps_same _ _ (ap g.M.Medium.seen c.say-then-is_protected.ensures.medium);
  counted = (search rules);
  grounded = protected_grounded g.M.Medium.seen c.args.self.now c.say-then-is_protected.new.self (ap (λ x. x.status) c.say-then-is_protected.ensures.told) (ap (λ v. (g.M.Medium.seen v).protected) (sym c.volume.ensures) ∙ sym c.is_protected.ensures ∙ c.if-is_protected.true);
}

-- ---- on any disk

pub returns-in-Ok-clause-done : goal.returns-in-Ok-clause-done
returns-in-Ok-clause-done g c = λ fine.
    subst (λ v. EmptiesDisk (Ok tt) c.args.title.now c.args.id (g.M.Medium.seen v) (g.M.Medium.seen c.say-in-Ok.new.self.medium)) (ap (λ k. k.medium) c.self.view_is)
    (subst (λ v. EmptiesDisk (Ok tt) c.args.title.now c.args.id (g.M.Medium.seen c.self.inside.volume) (g.M.Medium.seen v)) (sym c.say-in-Ok.ensures.medium)
    (subst (λ title. EmptiesDisk (Ok tt) title c.args.id (g.M.Medium.seen c.self.inside.volume) (g.M.Medium.seen c.new_disk.new.self)) c.bytes.ensures.value c.in-Ok.ensures.emptied))

pub returns-in-Err-clause-done : goal.returns-in-Err-clause-done
returns-in-Err-clause-done g c = trouble_never c.in-Err.trouble c.from.result c.set.new.self.told Fine refl c.from.ensures c.set.ensures.told
