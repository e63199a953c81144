use Rattle.std.proofs.Common.{rules, ◌≡◌, ℕ, Bool, false, List, sym, ap, subst, ◌∙◌, inl, inr, refl}
use Rattle.cbm_volume.specs.Copying.{CopyLed}
use Rattle.cbm_channel.proofs.Refused.{trouble_never}
use Rattle.std.specs.Prelude.{MatchBool, ◌||◌, nat_lt, not}
use Rattle.cbm_medium.specs.Seen.{HasFailed}
use Rattle.cbm_file.specs.Padding.{before_filler}
use Rattle.cbm_file.specs.Changes.{has_slot, copy_blocks, with_copy}
use Rattle.cbm_volume.specs.Copies.{HasNoRoomFor}
use Rattle.cbm_volume.specs.Writers.{HoldsNow, Stopped}
use Rattle.cbm_machine.specs.declared.code.Code.TheVariants.{Fine, DiskFull}
use Rattle.cbm_machine.specs.Machines.{answered, say, with_status, with_disk}
use Rattle.cbm_machine.specs.Running.{copy}
use Rattle.cbm_machine.specs.Codes.{code_number}
use Rattle.cbm_channel.specs.Grounds.{is_fault_number}
use Rattle.cbm_channel.specs.Standing.{StandsBy, uses_of}
use Rattle.cbm_channel.proofs.Commanding.{stopped_at_once, protected_status, true_or_false}
use Rattle.cbm_channel.proofs.Copies.{idle_15, kind_kept, kind_plain, all_copied, copy_full, copy_done, copy_guarded, copy_shows, copy_stands, copy_cut}
use Rattle.cbm_channel.proofs.Refused.{trouble_told}
use Rattle.cbm_channel.proofs.Opens.{failed_by}
use Rattle.cbm_channel.proofs.Orders.{not_so}
use Rattle.cbm_channel.proofs.Stands.{stood}
use Rattle.cbm_channel.proofs.Stores.{renamed}
use Rattle.cbm_channel.proofs.Refused.{not_refused, refused_26}
use Rattle.cbm_channel.proofs.Counted.{counted_told}
use Rattle.cbm_channel.proofs.Rest.{rest_seen, copy_rest, grown_total}
use Rattle.cbm_channel.proofs.dos.Dos.copy_slots.Goals as goal
use Rattle.cbm_channel.proofs.Elses.{only_else}
use Rattle.cbm_channel.proofs.Goings.{keeps_call}
use Rattle.cbm_channel.proofs.GroundedReports.{answer_grounded}

-- the new file is there
pub returns-in-Ok-true-clause-goes : goal.returns-in-Ok-true-clause-goes
returns-in-Ok-true-clause-goes g c = λ cut m olds is s.
    let here = c.self.inside in
    let old = g.M.Medium.seen here.volume in
    let new = g.M.Medium.seen c.copy.new.self in
    let st : StandsBy (g.M.Medium.seen here.volume).content (g.M.Medium.seen here.volume).tracks (g.M.Medium.seen here.volume).protected here.channels.items here.telling here.text m = stood g.M.Medium.seen c.args.self.now _ m c.self.view_is s in
    let uses = uses_of here.channels.items m.channels in
    let idle = idle_15 here.channels.items m.channels c.self.invariant.count in
    let kept = kind_kept m c.args.name.now olds c.args.kind c.args.slots.now is in
    let plain = kind_plain m c.args.name.now olds c.args.kind c.args.slots.now is in
    let can = all_copied m c.args.name.now olds c.args.kind c.args.slots.now is in
    let name : before_filler c.bytes.result.now ≡ c.args.name.now = ap before_filler c.bytes.ensures.value ∙ cut in
    let room : (nat_lt m.disk.free (copy_blocks m.disk c.args.slots.now) || not (has_slot m.disk)) ≡ false =
    not_so _ (λ e. let z = sym c.in-Ok-true.field-0-test ∙ c.in-Ok-true.ensures.full m.disk uses st.holds can e in absurd (cc)) in
    let made = subst (λ (b : Bool). MatchBool b (HoldsNow old.tracks new.content (with_copy m.disk c.args.kind (before_filler c.bytes.result.now) c.args.slots.now) uses) (HasNoRoomFor m.disk c.args.slots.now × (new.content ≡ old.content)))
    c.in-Ok-true.field-0-test (c.in-Ok-true.ensures.call m.disk uses 15 st.holds idle kept plain can).done in
    let holds = subst (λ (x : List ℕ). HoldsNow old.tracks new.content (with_copy m.disk c.args.kind x c.args.slots.now) uses) name made in
    let unprotected : m.protected ≡ false =
    not_so m.protected (λ e. copy_shows m c.args.name.now olds c.args.kind c.args.slots.now is room old.tracks old.content new.content uses (c.in-Ok-true.ensures.guarded (sym st.same_protection ∙ e)) st.holds holds) in
    let next = copy_stands m c.args.name.now olds c.args.kind c.args.slots.now is _ _ new.content _ here.channels.items here.telling here.text st holds in (
      say Fine (with_disk (with_copy m.disk c.args.kind c.args.name.now c.args.slots.now) m),
      inl (sym (copy_done m c.args.name.now olds c.args.kind c.args.slots.now is room unprotected)),
      c.say.ensures.leads _ (renamed _ _ _ _ _ _ _ _ _ c.copy.ensures.only.tracks c.copy.ensures.only.protected next),
    )

-- there is no room for it
pub returns-in-Ok-false-clause-goes : goal.returns-in-Ok-false-clause-goes
returns-in-Ok-false-clause-goes g c = λ cut m olds is s.
    let here = c.self.inside in
    let old = g.M.Medium.seen here.volume in
    let new = g.M.Medium.seen c.copy.new.self in
    let st : StandsBy (g.M.Medium.seen here.volume).content (g.M.Medium.seen here.volume).tracks (g.M.Medium.seen here.volume).protected here.channels.items here.telling here.text m = stood g.M.Medium.seen c.args.self.now _ m c.self.view_is s in
    let uses = uses_of here.channels.items m.channels in
    let idle = idle_15 here.channels.items m.channels c.self.invariant.count in
    let kept = kind_kept m c.args.name.now olds c.args.kind c.args.slots.now is in
    let plain = kind_plain m c.args.name.now olds c.args.kind c.args.slots.now is in
    let can = all_copied m c.args.name.now olds c.args.kind c.args.slots.now is in
    let none = subst (λ (b : Bool). MatchBool b (HoldsNow old.tracks new.content (with_copy m.disk c.args.kind (before_filler c.bytes.result.now) c.args.slots.now) uses) (HasNoRoomFor m.disk c.args.slots.now × (new.content ≡ old.content)))
    c.in-Ok-false.field-0-test (c.in-Ok-false.ensures.call m.disk uses 15 st.holds idle kept plain can).done in
    let same = subst (λ x. StandsBy x (g.M.Medium.seen here.volume).tracks (g.M.Medium.seen here.volume).protected here.channels.items here.telling here.text m) (sym none.1) st in (
      say DiskFull m,
      inl (sym (copy_full m c.args.name.now olds c.args.kind c.args.slots.now is none.0)),
      c.say-in-Ok-false.ensures.leads m (renamed _ _ _ _ _ _ _ _ _ c.copy.ensures.only.tracks c.copy.ensures.only.protected same),
    )

-- the disk is protected, or a write was refused
pub returns-in-Err-clause-goes : goal.returns-in-Err-clause-goes
returns-in-Err-clause-goes g c = λ cut m olds is s.
    let here = c.self.inside in
    let old = g.M.Medium.seen here.volume in
    let new = g.M.Medium.seen c.copy.new.self in
    let st : StandsBy (g.M.Medium.seen here.volume).content (g.M.Medium.seen here.volume).tracks (g.M.Medium.seen here.volume).protected here.channels.items here.telling here.text m = stood g.M.Medium.seen c.args.self.now _ m c.self.view_is s in
    let uses = uses_of here.channels.items m.channels in
    let idle = idle_15 here.channels.items m.channels c.self.invariant.count in
    let kept = kind_kept m c.args.name.now olds c.args.kind c.args.slots.now is in
    let plain = kind_plain m c.args.name.now olds c.args.kind c.args.slots.now is in
    let can = all_copied m c.args.name.now olds c.args.kind c.args.slots.now is in
    let name : before_filler c.bytes.result.now ≡ c.args.name.now = ap before_filler c.bytes.ensures.value ∙ cut in
    let room : (nat_lt m.disk.free (copy_blocks m.disk c.args.slots.now) || not (has_slot m.disk)) ≡ false =
    not_so _ (λ e. c.in-Err.ensures.full m.disk uses st.holds can e) in
    let cause = (c.in-Err.ensures.call m.disk uses 15 st.holds idle kept plain can).cause in
    let moved = λ (f : HasFailed old new). subst (λ v. HasFailed (g.M.Medium.seen v) (g.M.Medium.seen c.set.new.self.medium)) (ap (λ k. k.medium) c.self.view_is) (subst (λ v. HasFailed (g.M.Medium.seen here.volume) (g.M.Medium.seen v)) (sym c.set.ensures.medium) f) in
    elim (true_or_false m.protected) [
      | inl guarded ↦ (
          let same = subst (λ x. StandsBy x (g.M.Medium.seen here.volume).tracks (g.M.Medium.seen here.volume).protected here.channels.items here.telling here.text m) (sym (c.in-Err.ensures.guarded (sym st.same_protection ∙ guarded))) st in (
            with_status c.from.result m,
            elim cause [
              | inl x ↦ inl (ap (λ y. with_status y m) (protected_status c.in-Err.trouble c.from.result c.from.ensures x.1) ∙ sym (copy_guarded m c.args.name.now olds c.args.kind c.args.slots.now is room guarded))
              | inr f ↦ inr (moved f, stopped_at_once _ _ new.content _ here.channels.items here.telling here.text m st (answered m (copy c.args.name.now olds m)) c.in-Err.trouble c.from.result c.self.invariant.count c.from.ensures)
            ],
            c.set.ensures.leads m (renamed _ _ _ _ _ _ _ _ _ c.copy.ensures.only.tracks c.copy.ensures.only.protected same),
          ))
      | inr unprotected ↦ (
          let failed = failed_by old new c.in-Err.trouble m.protected st.same_protection unprotected cause in
          let stop = subst (λ (x : List ℕ). Stopped old.tracks new.content m.disk (with_copy m.disk c.args.kind x c.args.slots.now) uses) name (c.in-Err.ensures.call m.disk uses 15 st.holds idle kept plain can).stopped in
          let next = copy_cut m c.args.name.now olds c.args.kind c.args.slots.now is _ _ new.content _ here.channels.items here.telling here.text st room unprotected stop in (
            with_status c.from.result next.0,
            inr (moved failed, next.1 c.in-Err.trouble c.from.result c.self.invariant.count c.from.ensures),
            c.set.ensures.leads next.0 (renamed _ _ _ _ _ _ _ _ _ c.copy.ensures.only.tracks c.copy.ensures.only.protected next.2),
          ))
    ]

-- what was refused is told by a fault's number
pub returns-in-Err-clause-refused : goal.returns-in-Err-clause-refused
returns-in-Err-clause-refused g c = λ none.
    let fault = trouble_told c.in-Err.trouble c.from.result c.from.ensures in
    let z = sym fault ∙ sym (ap (λ t. is_fault_number (code_number t.status.code)) c.set.ensures.told) ∙ none in absurd (cc)

pub returns-in-Ok-true-clause-leaves : goal.returns-in-Ok-true-clause-leaves
returns-in-Ok-true-clause-leaves g c = record {
  channels = (search rules);
  spared = not_refused _ _ c.say.ensures.told refl;
  medium = keeps_call g.M.Medium.seen c.args.self.now.medium c.say.new.self.medium c.self.inside.volume c.copy.new.self c.copy.result (ap (λ k. k.medium) c.self.view_is) c.say.ensures.medium (only_else _ _ _ c.copy.ensures.only);
  counted = (search rules);
  grounded = (search rules);
}

-- 26 says that the disk is protected
pub returns-in-Err-clause-leaves : goal.returns-in-Err-clause-leaves
returns-in-Err-clause-leaves g c = record {
  channels = (search rules);
  spared = λ is.
      ap (λ v. (g.M.Medium.seen v).content) c.set.ensures.medium
      ∙ (c.in-Err.ensures.guarded (c.in-Err.ensures.only.guarded (refused_26 c.in-Err.trouble c.from.result _ c.from.ensures c.set.ensures.told is))
      ∙ ap (λ k. (g.M.Medium.seen k.medium).content) c.self.view_is);
  medium = keeps_call g.M.Medium.seen c.args.self.now.medium c.set.new.self.medium c.self.inside.volume c.copy.new.self c.copy.result (ap (λ k. k.medium) c.self.view_is) c.set.ensures.medium (only_else _ _ _ c.copy.ensures.only);
  counted = counted_told g.M.Medium.seen c.args.self.now c.set.new.self c.self.inside.volume c.copy.new.self (ap (λ k. k.medium) c.self.view_is) c.set.ensures.medium c.copy.result c.in-Err.trouble c.in-Err.is c.copy.ensures.only (ap (λ x. x.status) c.set.ensures.told ∙ c.from.ensures);
  grounded = answer_grounded g.M.Medium.seen c.args.self.now c.set.new.self c.self.inside.volume c.copy.new.self (ap (λ k. k.medium) c.self.view_is) c.set.ensures.medium c.copy.result c.in-Err.trouble c.in-Err.is (only_else _ _ _ c.copy.ensures.only) (ap (λ x. x.status) c.set.ensures.told ∙ c.from.ensures);
}

-- ---- the rest of the disk

pub returns-in-Ok-true-clause-rest : goal.returns-in-Ok-true-clause-rest
returns-in-Ok-true-clause-rest g c = λ m olds is s.
    let here = c.self.inside in
    let st : StandsBy (g.M.Medium.seen here.volume).content (g.M.Medium.seen here.volume).tracks (g.M.Medium.seen here.volume).protected here.channels.items here.telling here.text m = stood g.M.Medium.seen c.args.self.now _ m c.self.view_is s in
    let uses = uses_of here.channels.items m.channels in
    let idle = idle_15 here.channels.items m.channels c.self.invariant.count in
    let kept = kind_kept m c.args.name.now olds c.args.kind c.args.slots.now is in
    let plain = kind_plain m c.args.name.now olds c.args.kind c.args.slots.now is in
    let can = all_copied m c.args.name.now olds c.args.kind c.args.slots.now is in
    rest_seen g.M.Medium.seen c.args.self.now.medium c.say.new.self.medium c.self.inside.volume c.copy.new.self (ap (λ k. k.medium) c.self.view_is) c.say.ensures.medium
    (copy_rest c.copy.result (g.M.Medium.seen here.volume) (g.M.Medium.seen c.copy.new.self) m.disk _ uses _ _ c.copy.ensures.only refl st.holds (c.copy.ensures.call m.disk uses 15 st.holds idle kept plain can) (grown_total m.disk))

pub returns-in-Ok-false-clause-rest : goal.returns-in-Ok-false-clause-rest
returns-in-Ok-false-clause-rest g c = λ m olds is s.
    let here = c.self.inside in
    let st : StandsBy (g.M.Medium.seen here.volume).content (g.M.Medium.seen here.volume).tracks (g.M.Medium.seen here.volume).protected here.channels.items here.telling here.text m = stood g.M.Medium.seen c.args.self.now _ m c.self.view_is s in
    let uses = uses_of here.channels.items m.channels in
    let idle = idle_15 here.channels.items m.channels c.self.invariant.count in
    let kept = kind_kept m c.args.name.now olds c.args.kind c.args.slots.now is in
    let plain = kind_plain m c.args.name.now olds c.args.kind c.args.slots.now is in
    let can = all_copied m c.args.name.now olds c.args.kind c.args.slots.now is in
    rest_seen g.M.Medium.seen c.args.self.now.medium c.say-in-Ok-false.new.self.medium c.self.inside.volume c.copy.new.self (ap (λ k. k.medium) c.self.view_is) c.say-in-Ok-false.ensures.medium
    (copy_rest c.copy.result (g.M.Medium.seen here.volume) (g.M.Medium.seen c.copy.new.self) m.disk _ uses _ _ c.copy.ensures.only refl st.holds (c.copy.ensures.call m.disk uses 15 st.holds idle kept plain can) (grown_total m.disk))

pub returns-in-Err-clause-rest : goal.returns-in-Err-clause-rest
returns-in-Err-clause-rest g c = λ m olds is s.
    let here = c.self.inside in
    let st : StandsBy (g.M.Medium.seen here.volume).content (g.M.Medium.seen here.volume).tracks (g.M.Medium.seen here.volume).protected here.channels.items here.telling here.text m = stood g.M.Medium.seen c.args.self.now _ m c.self.view_is s in
    let uses = uses_of here.channels.items m.channels in
    let idle = idle_15 here.channels.items m.channels c.self.invariant.count in
    let kept = kind_kept m c.args.name.now olds c.args.kind c.args.slots.now is in
    let plain = kind_plain m c.args.name.now olds c.args.kind c.args.slots.now is in
    let can = all_copied m c.args.name.now olds c.args.kind c.args.slots.now is in
    rest_seen g.M.Medium.seen c.args.self.now.medium c.set.new.self.medium c.self.inside.volume c.copy.new.self (ap (λ k. k.medium) c.self.view_is) c.set.ensures.medium
    (copy_rest c.copy.result (g.M.Medium.seen here.volume) (g.M.Medium.seen c.copy.new.self) m.disk _ uses _ _ c.copy.ensures.only refl st.holds (c.copy.ensures.call m.disk uses 15 st.holds idle kept plain can) (grown_total m.disk))

-- ---- on any disk

pub returns-in-Ok-true-clause-done : goal.returns-in-Ok-true-clause-done
returns-in-Ok-true-clause-done g c = λ fine.
    subst (λ v. CopyLed (g.M.Medium.seen v) (g.M.Medium.seen c.say.new.self.medium) c.args.kind c.args.name.now) (ap (λ k. k.medium) c.self.view_is)
    (subst (λ v. CopyLed (g.M.Medium.seen c.self.inside.volume) (g.M.Medium.seen v) c.args.kind c.args.name.now) (sym c.say.ensures.medium)
    (subst (λ (name : List ℕ). CopyLed (g.M.Medium.seen c.self.inside.volume) (g.M.Medium.seen c.copy.new.self) c.args.kind name) c.bytes.ensures.value (c.in-Ok-true.ensures.led c.in-Ok-true.field-0-test)))

pub returns-in-Err-clause-done : goal.returns-in-Err-clause-done
returns-in-Err-clause-done g c = trouble_never c.in-Err.trouble c.from.result c.set.new.self.told Fine refl c.from.ensures c.set.ensures.told
