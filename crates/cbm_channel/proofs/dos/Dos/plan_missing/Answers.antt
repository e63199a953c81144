use Rattle.std.proofs.Common.{rules, sym, ap, subst, ◌∙◌, arith}
use Rattle.std.specs.Prelude.{not}
use Rattle.std.proofs.lemmas.Bool.{ne_eqb, lt-ltb, le-ltb}
use Rattle.cbm_volume.specs.Holding.{HoldsDisk}
use Rattle.cbm_channel.proofs.Stands.{means_of}
use Rattle.cbm_channel.proofs.WritePlans.{either_first, either_second, neither}
use Rattle.cbm_channel.proofs.RelativePlans.{full_to_make, protected_to_make, made}
use Rattle.cbm_channel.proofs.dos.Dos.plan_missing.Goals.{then-room-lt2-via-then-room-lt2, then-room-lt2-via-else-room-lt2+then-not-room}
use Rattle.cbm_channel.proofs.dos.Dos.plan_missing.Goals as goal

-- on a disk that stands the room is known
pub returns-in_err-room-clause-planned : goal.returns-in_err-room-clause-planned
returns-in_err-room-clause-planned g c = λ m cut st.
    absurd (c.in_err-room.ensures.means m.disk (subst (λ v. HoldsDisk (g.M.Medium.seen v).tracks (g.M.Medium.seen v).content m.disk) (sym c.volume.ensures) (means_of _ _ _ _ _ _ m st)))

pub returns-then-room-lt2-clause-planned : goal.returns-then-room-lt2-clause-planned
returns-then-room-lt2-clause-planned g c = λ m cut st.
    let room = c.in_ok-room.ensures.means m.disk (subst (λ v. HoldsDisk (g.M.Medium.seen v).tracks (g.M.Medium.seen v).content m.disk) (sym c.volume.ensures) (means_of _ _ _ _ _ _ m st)) in
    full_to_make _ _ m c.args.wanted (ne_eqb _ 0 c.if-wanted-eq0.false) (ne_eqb _ 255 c.if-wanted-eq255.false) c.plain-then-room-lt2.result
    (elim c.then-room-lt2.branch [
      | then-room-lt2-via-then-room-lt2 x ↦ either_first _ _ (lt-ltb m.disk.free 2 (omega (arith, room.0, x.if-room-lt2.true)))
      | then-room-lt2-via-else-room-lt2+then-not-room x ↦ either_second _ _ (ap not (sym room.1) ∙ x.if-not-room.true)
    ])
    c.plain-then-room-lt2.ensures

pub returns-then-is_protected-clause-planned : goal.returns-then-is_protected-clause-planned
returns-then-is_protected-clause-planned g c = λ m cut st.
    let room = c.in_ok-room.ensures.means m.disk (subst (λ v. HoldsDisk (g.M.Medium.seen v).tracks (g.M.Medium.seen v).content m.disk) (sym c.volume.ensures) (means_of _ _ _ _ _ _ m st)) in
    protected_to_make _ _ m c.args.wanted (ne_eqb _ 0 c.if-wanted-eq0.false) (ne_eqb _ 255 c.if-wanted-eq255.false)
    (neither _ _ (le-ltb m.disk.free 2 (omega (arith, room.0, c.if-room-lt2.false))) (ap not (sym room.1) ∙ c.if-not-room.false)) c.plain-then-is_protected.result
    (st.same_protection ∙ sym (ap (λ v. (g.M.Medium.seen v).protected) c.volume-2.ensures) ∙ sym c.is_protected.ensures ∙ c.if-is_protected.true)
    c.plain-then-is_protected.ensures

pub returns-clause-planned : goal.returns-clause-planned
returns-clause-planned g c = λ m cut st.
    let room = c.in_ok-room.ensures.means m.disk (subst (λ v. HoldsDisk (g.M.Medium.seen v).tracks (g.M.Medium.seen v).content m.disk) (sym c.volume.ensures) (means_of _ _ _ _ _ _ m st)) in
    made _ _ m c.args.wanted (ne_eqb _ 0 c.if-wanted-eq0.false) (ne_eqb _ 255 c.if-wanted-eq255.false)
    (neither _ _ (le-ltb m.disk.free 2 (omega (arith, room.0, c.if-room-lt2.false))) (ap not (sym room.1) ∙ c.if-not-room.false))
    (st.same_protection ∙ sym (ap (λ v. (g.M.Medium.seen v).protected) c.volume-2.ensures) ∙ sym c.is_protected.ensures ∙ c.if-is_protected.false)
    cut (omega (arith, c.if-wanted-eq0.false))

pub returns-clause-sound : goal.returns-clause-sound
returns-clause-sound g c = record {
  ground = (search rules);
  denied = (search rules);
  allowed = λ writes. sym (ap (λ v. (g.M.Medium.seen v).protected) c.volume-2.ensures) ∙ sym c.is_protected.ensures ∙ c.if-is_protected.false;
  sized = (search rules);
}
