use Rattle.std.proofs.Common.{length, sym, ap, subst, ◌∙◌, inl, inr, refl}
use Rattle.cbm_channel.specs.Meant.{ScratchesEach}
use Rattle.cbm_channel.proofs.Refused.{trouble_never}
use Rattle.cbm_medium.specs.Seen.{HasFailed}
use Rattle.cbm_machine.specs.declared.code.Code.TheVariants.{Fine, FilesScratched}
use Rattle.cbm_machine.specs.Machines.{with_status, with_disk}
use Rattle.cbm_channel.specs.Commanded.{all_scratched}
use Rattle.cbm_channel.specs.Standing.{StandsBy, uses_of}
use Rattle.cbm_channel.proofs.Commanding.{scratch_stands, scratch_cut}
use Rattle.cbm_channel.proofs.Opens.{unused_at}
use Rattle.cbm_channel.proofs.Scratches.{scratch_done, all_can_go}
use Rattle.cbm_channel.proofs.Stores.{renamed}
use Rattle.cbm_channel.proofs.Refused.{not_refused, refused_26}
use Rattle.cbm_channel.proofs.Counted.{counted_else}
use Rattle.cbm_channel.proofs.Rest.{rest_seen}
use Rattle.cbm_channel.proofs.dos.Dos.scratch_slots.Goals as goal
use Rattle.cbm_channel.proofs.Goings.{keeps_call}
use Rattle.cbm_channel.proofs.GroundedReports.{answer_grounded}

pub returns-in-Ok-clause-goes : goal.returns-in-Ok-clause-goes
returns-in-Ok-clause-goes g c = λ m ps going s.
    let old = c.args.self.now in
    let whole = c.clear.ensures.only.rest in
    let can = all_can_go m ps (uses_of old.channels m.channels) (λ n u. unused_at n old.channels m s.each u) c.args.slots.now going.all in
    let next = scratch_stands _ _ (g.M.Medium.seen c.clear.new.self.medium).content _ old.channels old.told old.text m s ps c.args.slots.now going (c.in-Ok.ensures.scratched m s can) in (
      with_status (record { code = FilesScratched; first = length c.args.slots.now; second = 0 }) (with_disk (all_scratched m.disk c.args.slots.now) m),
      inl (sym (scratch_done m ps c.args.slots.now going)),
      c.set.ensures.leads _ (subst (λ k. StandsBy (g.M.Medium.seen k.medium).content (g.M.Medium.seen k.medium).tracks (g.M.Medium.seen k.medium).protected k.channels k.told k.text (with_disk (all_scratched m.disk c.args.slots.now) m)) (sym whole)
          (renamed _ _ _ _ _ _ _ _ _ c.clear.ensures.medium.tracks c.clear.ensures.medium.protected next)),
    )

-- a write was refused
pub returns-in-Err-clause-goes : goal.returns-in-Err-clause-goes
returns-in-Err-clause-goes g c = λ m ps going s.
    let old = c.args.self.now in
    let whole = c.clear.ensures.only.rest in
    let can = all_can_go m ps (uses_of old.channels m.channels) (λ n u. unused_at n old.channels m s.each u) c.args.slots.now going.all in
    let stop = c.in-Err.ensures.stopped m s can going.unprotected in
    let next = scratch_cut _ _ (g.M.Medium.seen c.clear.new.self.medium).content _ old.channels old.told old.text m s ps c.args.slots.now going stop.0 in (
      _,
      inr (subst (λ v. HasFailed (g.M.Medium.seen old.medium) (g.M.Medium.seen v)) (sym c.set-in-Err.ensures.medium) stop.1, next.1 c.in-Err.trouble c.from.result (sym (ap (λ k. length k.channels) whole) ∙ c.clear.ensures.only.count) c.from.ensures),
      c.set-in-Err.ensures.leads next.0 (subst (λ k. StandsBy (g.M.Medium.seen k.medium).content (g.M.Medium.seen k.medium).tracks (g.M.Medium.seen k.medium).protected k.channels k.told k.text next.0) (sym whole)
          (renamed _ _ _ _ _ _ _ _ _ c.clear.ensures.medium.tracks c.clear.ensures.medium.protected next.2)),
    )

-- ---- what is refused

pub returns-in-Ok-clause-spared : goal.returns-in-Ok-clause-spared
returns-in-Ok-clause-spared g c = λ free. not_refused _ _ c.set.ensures.told refl

pub returns-in-Err-clause-spared : goal.returns-in-Err-clause-spared
returns-in-Err-clause-spared g c = λ free is. absurd (c.in-Err.ensures.unguarded free (refused_26 c.in-Err.trouble c.from.result _ c.from.ensures c.set-in-Err.ensures.told is))

-- ---- what it leaves, on any disk

pub returns-in-Err-clause-leaves : goal.returns-in-Err-clause-leaves
returns-in-Err-clause-leaves g c = record {
  medium = keeps_call g.M.Medium.seen c.args.self.now.medium c.set-in-Err.new.self.medium c.args.self.now.medium c.clear.new.self.medium c.clear.result refl c.set-in-Err.ensures.medium c.clear.ensures.medium;
  counted = counted_else g.M.Medium.seen c.args.self.now c.set-in-Err.new.self c.args.self.now.medium c.clear.new.self.medium refl c.set-in-Err.ensures.medium c.clear.result c.in-Err.trouble c.in-Err.is c.clear.ensures.medium (ap (λ x. x.status) c.set-in-Err.ensures.told ∙ c.from.ensures);
  grounded = answer_grounded g.M.Medium.seen c.args.self.now c.set-in-Err.new.self c.args.self.now.medium c.clear.new.self.medium refl c.set-in-Err.ensures.medium c.clear.result c.in-Err.trouble c.in-Err.is c.clear.ensures.medium (ap (λ x. x.status) c.set-in-Err.ensures.told ∙ c.from.ensures);
}

-- ---- the rest of the disk

pub returns-in-Ok-clause-rest : goal.returns-in-Ok-clause-rest
returns-in-Ok-clause-rest g c = λ m ps going s.
    let old = c.args.self.now in
    let can = all_can_go m ps (uses_of old.channels m.channels) (λ n u. unused_at n old.channels m s.each u) c.args.slots.now going.all in
    rest_seen g.M.Medium.seen c.args.self.now.medium c.set.new.self.medium c.args.self.now.medium c.clear.new.self.medium refl c.set.ensures.medium (c.clear.ensures.rest m s can)

pub returns-in-Err-clause-rest : goal.returns-in-Err-clause-rest
returns-in-Err-clause-rest g c = λ m ps going s.
    let old = c.args.self.now in
    let can = all_can_go m ps (uses_of old.channels m.channels) (λ n u. unused_at n old.channels m s.each u) c.args.slots.now going.all in
    rest_seen g.M.Medium.seen c.args.self.now.medium c.set-in-Err.new.self.medium c.args.self.now.medium c.clear.new.self.medium refl c.set-in-Err.ensures.medium (c.clear.ensures.rest m s can)

-- ---- on any disk

pub returns-in-Ok-clause-done : goal.returns-in-Ok-clause-done
returns-in-Ok-clause-done g c = λ is. subst (λ v. ScratchesEach (g.M.Medium.seen c.args.self.now.medium) (g.M.Medium.seen v) c.args.slots.now) (sym c.set.ensures.medium) c.in-Ok.ensures.led

pub returns-in-Err-clause-done : goal.returns-in-Err-clause-done
returns-in-Err-clause-done g c = trouble_never c.in-Err.trouble c.from.result c.set-in-Err.new.self.told FilesScratched refl c.from.ensures c.set-in-Err.ensures.told

pub returns-in-Err-clause-not_ok : goal.returns-in-Err-clause-not_ok
returns-in-Err-clause-not_ok g c = trouble_never c.in-Err.trouble c.from.result c.set-in-Err.new.self.told Fine refl c.from.ensures c.set-in-Err.ensures.told

pub returns-in-Err-clause-number : goal.returns-in-Err-clause-number
returns-in-Err-clause-number g c = trouble_never c.in-Err.trouble c.from.result c.set-in-Err.new.self.told FilesScratched refl c.from.ensures c.set-in-Err.ensures.told
