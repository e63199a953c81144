use Rattle.std.proofs.Common.{◌≡◌, ℕ, false, sym, ap, subst, ◌∙◌, inl, inr, refl, rules}
use Rattle.cbm_medium.specs.Seen.{HasFailed}
use Rattle.cbm_file.specs.Changes.{validated}
use Rattle.cbm_volume.specs.Writers.{Idle}
use Rattle.cbm_machine.specs.Machines.{any_open, say, with_status, with_disk}
use Rattle.cbm_machine.specs.declared.code.Code.TheVariants.{Fine, WriteFileOpen}
use Rattle.cbm_channel.specs.Standing.{StandsBy, uses_of}
use Rattle.cbm_channel.proofs.Commanding.{validate_open, validate_done, validate_guarded, validate_stands, validate_cut, protected_status, all_idle, true_or_false}
use Rattle.cbm_channel.proofs.Opens.{failed_by}
use Rattle.cbm_channel.proofs.Stands.{stood}
use Rattle.cbm_channel.proofs.Stores.{renamed}
use Rattle.cbm_channel.proofs.Orders.{not_so}
use Rattle.cbm_channel.proofs.Refused.{not_refused, refused_26}
use Rattle.cbm_channel.proofs.Ordered.{trouble_not_fine, fine_ordered, refused_ordered}
use Rattle.cbm_channel.proofs.Counted.{counted_told}
use Rattle.cbm_channel.proofs.Rest.{rest_itself, rest_seen, change_rest}
use Rattle.cbm_channel.proofs.dos.Dos.validate.Goals as goal
use Rattle.cbm_channel.proofs.Elses.{only_else}
use Rattle.cbm_channel.proofs.Goings.{keeps_call}
use Rattle.cbm_channel.proofs.GroundedReports.{answer_grounded}

-- a channel is open
pub returns-then-is_any_open-clause-goes : goal.returns-then-is_any_open-clause-goes
returns-then-is_any_open-clause-goes g c = λ m s.
    (say WriteFileOpen m, inl (sym (validate_open m (sym (c.is_any_open.ensures m s) ∙ c.if-is_any_open.true))), c.say.ensures.leads m s)

-- the map is written
pub returns-in-Ok-clause-goes : goal.returns-in-Ok-clause-goes
returns-in-Ok-clause-goes g c = λ m s.
    let here = c.self.inside in
    let st : StandsBy (g.M.Medium.seen here.volume).content (g.M.Medium.seen here.volume).tracks (g.M.Medium.seen here.volume).protected here.channels.items here.telling here.text m = stood g.M.Medium.seen c.args.self.now _ m c.self.view_is s in
    let shut : any_open m ≡ false = sym (c.is_any_open.ensures m s) ∙ c.if-is_any_open.false in
    let idle : (k : ℕ) → uses_of here.channels.items m.channels k ≡ Idle = all_idle here.channels.items m.channels st.each shut in
    let unprotected : m.protected ≡ false = not_so m.protected (λ e. c.in-Ok.ensures.guarded m.disk (uses_of here.channels.items m.channels) st.holds (sym st.same_protection ∙ e)) in
    let next = validate_stands _ _ (g.M.Medium.seen c.validate.new.self).content _ here.channels.items here.telling here.text m st shut (c.in-Ok.ensures.call m.disk (uses_of here.channels.items m.channels) st.holds idle).done in (
      say Fine (with_disk (validated m.disk) m),
      inl (sym (validate_done _ _ (g.M.Medium.seen c.validate.new.self).content _ here.channels.items here.telling here.text m st shut unprotected)),
      c.say-in-Ok.ensures.leads _ (renamed _ _ _ _ _ _ _ _ _ c.validate.ensures.only.tracks c.validate.ensures.only.protected next),
    )

-- the disk is protected, or a write was refused
pub returns-in-Err-clause-goes : goal.returns-in-Err-clause-goes
returns-in-Err-clause-goes g c = λ m s.
    let here = c.self.inside in
    let new = g.M.Medium.seen c.validate.new.self in
    let st : StandsBy (g.M.Medium.seen here.volume).content (g.M.Medium.seen here.volume).tracks (g.M.Medium.seen here.volume).protected here.channels.items here.telling here.text m = stood g.M.Medium.seen c.args.self.now _ m c.self.view_is s in
    let shut : any_open m ≡ false = sym (c.is_any_open.ensures m s) ∙ c.if-is_any_open.false in
    let idle : (k : ℕ) → uses_of here.channels.items m.channels k ≡ Idle = all_idle here.channels.items m.channels st.each shut in
    elim (true_or_false m.protected) [
      | inl guarded ↦ (
          let kept = subst (λ x. StandsBy x (g.M.Medium.seen here.volume).tracks (g.M.Medium.seen here.volume).protected here.channels.items here.telling here.text m) (sym (c.in-Err.ensures.kept (sym st.same_protection ∙ guarded))) st in
          let told = protected_status c.in-Err.trouble c.from.result c.from.ensures (c.in-Err.ensures.guarded m.disk (uses_of here.channels.items m.channels) st.holds (sym st.same_protection ∙ guarded)) in (
            with_status c.from.result m,
            inl (ap (λ x. with_status x m) told ∙ sym (validate_guarded _ _ new.content _ here.channels.items here.telling here.text m st shut guarded)),
            c.set.ensures.leads m (renamed _ _ _ _ _ _ _ _ _ c.validate.ensures.only.tracks c.validate.ensures.only.protected kept),
          ))
      | inr unprotected ↦ (
          let failed = failed_by (g.M.Medium.seen here.volume) new c.in-Err.trouble m.protected st.same_protection unprotected (c.in-Err.ensures.call m.disk (uses_of here.channels.items m.channels) st.holds idle).cause in
          let next = validate_cut _ _ new.content _ here.channels.items here.telling here.text m st shut unprotected (c.in-Err.ensures.call m.disk (uses_of here.channels.items m.channels) st.holds idle).stopped in (
            with_status c.from.result next.0,
            inr (
              subst (λ v. HasFailed (g.M.Medium.seen v) (g.M.Medium.seen c.set.new.self.medium)) (ap (λ k. k.medium) c.self.view_is) (subst (λ v. HasFailed (g.M.Medium.seen here.volume) (g.M.Medium.seen v)) (sym c.set.ensures.medium) failed),
              next.1 c.in-Err.trouble c.from.result c.self.invariant.count c.from.ensures,
            ),
            c.set.ensures.leads next.0 (renamed _ _ _ _ _ _ _ _ _ c.validate.ensures.only.tracks c.validate.ensures.only.protected next.2),
          ))
    ]

-- ---- what is refused

pub returns-in-Ok-clause-leaves : goal.returns-in-Ok-clause-leaves
returns-in-Ok-clause-leaves g c = record {
  channels = (search rules);
  spared = not_refused _ _ c.say-in-Ok.ensures.told refl;
  medium = (search rules);
  counted = (search rules);
  grounded = (search rules);
}

-- 26 says that the disk is protected
pub returns-in-Err-clause-leaves : goal.returns-in-Err-clause-leaves
returns-in-Err-clause-leaves g c = record {
  channels = (search rules);
  spared = λ is.
      ap (λ v. (g.M.Medium.seen v).content) c.set.ensures.medium
      ∙ (c.in-Err.ensures.kept (c.in-Err.ensures.only.guarded (refused_26 c.in-Err.trouble c.from.result _ c.from.ensures c.set.ensures.told is))
      ∙ ap (λ k. (g.M.Medium.seen k.medium).content) c.self.view_is);
  medium = keeps_call g.M.Medium.seen c.args.self.now.medium c.set.new.self.medium c.self.inside.volume c.validate.new.self c.validate.result (ap (λ k. k.medium) c.self.view_is) c.set.ensures.medium (only_else _ _ _ c.validate.ensures.only);
  counted = counted_told g.M.Medium.seen c.args.self.now c.set.new.self c.self.inside.volume c.validate.new.self (ap (λ k. k.medium) c.self.view_is) c.set.ensures.medium c.validate.result c.in-Err.trouble c.in-Err.is c.validate.ensures.only (ap (λ x. x.status) c.set.ensures.told ∙ c.from.ensures);
  grounded = answer_grounded g.M.Medium.seen c.args.self.now c.set.new.self c.self.inside.volume c.validate.new.self (ap (λ k. k.medium) c.self.view_is) c.set.ensures.medium c.validate.result c.in-Err.trouble c.in-Err.is (only_else _ _ _ c.validate.ensures.only) (ap (λ x. x.status) c.set.ensures.told ∙ c.from.ensures);
}

-- ---- what is changed

pub returns-then-is_any_open-clause-ordered : goal.returns-then-is_any_open-clause-ordered
returns-then-is_any_open-clause-ordered g c =
    let now = g.M.Medium.seen c.args.self.now.medium in
    refused_ordered g.M.Medium.seen c.args.self.now.medium _ _ now now _ (λ e. absurd cc) refl (search rules) c.say.ensures.told (inl refl)

pub returns-in-Ok-clause-ordered : goal.returns-in-Ok-clause-ordered
returns-in-Ok-clause-ordered g c =
    fine_ordered g.M.Medium.seen c.args.self.now.medium _ _ (g.M.Medium.seen c.self.inside.volume) (g.M.Medium.seen c.validate.new.self) (ap (λ k. g.M.Medium.seen k.medium) c.self.view_is) (ap g.M.Medium.seen c.say-in-Ok.ensures.medium)
    c.say-in-Ok.ensures.told c.in-Ok.ensures.in_order

pub returns-in-Err-clause-ordered : goal.returns-in-Err-clause-ordered
returns-in-Err-clause-ordered g c =
    refused_ordered g.M.Medium.seen c.args.self.now.medium _ _ (g.M.Medium.seen c.self.inside.volume) (g.M.Medium.seen c.validate.new.self) _ (trouble_not_fine c.in-Err.trouble c.from.result c.from.ensures) (ap (λ k. g.M.Medium.seen k.medium) c.self.view_is)
    (ap g.M.Medium.seen c.set.ensures.medium) c.set.ensures.told c.in-Err.ensures.in_order

-- ---- the rest of the disk

pub returns-then-is_any_open-clause-rest : goal.returns-then-is_any_open-clause-rest
returns-then-is_any_open-clause-rest g c = λ m s. rest_itself _ _ (ap g.M.Medium.seen c.say.ensures.medium)

pub returns-in-Ok-clause-rest : goal.returns-in-Ok-clause-rest
returns-in-Ok-clause-rest g c = λ m s.
    let here = c.self.inside in
    let st : StandsBy (g.M.Medium.seen here.volume).content (g.M.Medium.seen here.volume).tracks (g.M.Medium.seen here.volume).protected here.channels.items here.telling here.text m = stood g.M.Medium.seen c.args.self.now _ m c.self.view_is s in
    let shut : any_open m ≡ false = sym (c.is_any_open.ensures m s) ∙ c.if-is_any_open.false in
    let idle : (k : ℕ) → uses_of here.channels.items m.channels k ≡ Idle = all_idle here.channels.items m.channels st.each shut in
    rest_seen g.M.Medium.seen c.args.self.now.medium c.say-in-Ok.new.self.medium c.self.inside.volume c.validate.new.self (ap (λ k. k.medium) c.self.view_is) c.say-in-Ok.ensures.medium
    (change_rest c.validate.result (g.M.Medium.seen here.volume) (g.M.Medium.seen c.validate.new.self) m.disk (validated m.disk) (uses_of here.channels.items m.channels) _ _ c.validate.ensures.only refl st.holds (c.validate.ensures.call m.disk (uses_of here.channels.items m.channels) st.holds idle) refl)

pub returns-in-Err-clause-rest : goal.returns-in-Err-clause-rest
returns-in-Err-clause-rest g c = λ m s.
    let here = c.self.inside in
    let st : StandsBy (g.M.Medium.seen here.volume).content (g.M.Medium.seen here.volume).tracks (g.M.Medium.seen here.volume).protected here.channels.items here.telling here.text m = stood g.M.Medium.seen c.args.self.now _ m c.self.view_is s in
    let shut : any_open m ≡ false = sym (c.is_any_open.ensures m s) ∙ c.if-is_any_open.false in
    let idle : (k : ℕ) → uses_of here.channels.items m.channels k ≡ Idle = all_idle here.channels.items m.channels st.each shut in
    rest_seen g.M.Medium.seen c.args.self.now.medium c.set.new.self.medium c.self.inside.volume c.validate.new.self (ap (λ k. k.medium) c.self.view_is) c.set.ensures.medium
    (change_rest c.validate.result (g.M.Medium.seen here.volume) (g.M.Medium.seen c.validate.new.self) m.disk (validated m.disk) (uses_of here.channels.items m.channels) _ _ c.validate.ensures.only refl st.holds (c.validate.ensures.call m.disk (uses_of here.channels.items m.channels) st.holds idle) refl)
