use Rattle.std.proofs.Common.{sym, ap, subst, ◌∙◌}
use Rattle.std.specs.Prelude.{◌==◌, not}
use Rattle.std.proofs.lemmas.Bool.{ne_eqb}
use Rattle.cbm_volume.specs.Holding.{HoldsDisk}
use Rattle.cbm_channel.proofs.Stands.{means_of}
use Rattle.cbm_channel.proofs.WritePlans.{either_first, either_second, is_true, full_to_write, protected_to_write, written}
use Rattle.cbm_channel.proofs.dos.Dos.plan_write.Goals as goal
use Rattle.cbm_channel.proofs.dos.Dos.plan_write.Goals.{then-room-eq0-via-then-room-eq0, then-room-eq0-via-else-room-eq0+then-not-room}

-- on a disk that stands the room is known
pub returns-in_err-room-clause-planned : goal.returns-in_err-room-clause-planned
returns-in_err-room-clause-planned g c = λ m w named there cut kept bytes st.
    absurd (c.in_err-room.ensures.means m.disk (subst (λ v. HoldsDisk (g.M.Medium.seen v).tracks (g.M.Medium.seen v).content m.disk) (sym c.volume.ensures) (means_of _ _ _ _ _ _ m st)))

pub returns-then-room-eq0-clause-planned : goal.returns-then-room-eq0-clause-planned
returns-then-room-eq0-clause-planned g c = λ m w named there cut kept bytes st.
    let room = c.in_ok-room.ensures.means m.disk (subst (λ v. HoldsDisk (g.M.Medium.seen v).tracks (g.M.Medium.seen v).content m.disk) (sym c.volume.ensures) (means_of _ _ _ _ _ _ m st)) in
    full_to_write _ _ m w c.args.kind c.args.name named there c.plain.result
    (elim c.then-room-eq0.branch [
      | then-room-eq0-via-then-room-eq0 x ↦ either_first _ _ (ap (λ n. n == 0) (sym room.0 ∙ x.if-room-eq0.true))
      | then-room-eq0-via-else-room-eq0+then-not-room x ↦ either_second _ _ (ap not (sym room.1) ∙ x.if-not-room.true)
    ])
    c.plain.ensures

pub returns-then-is_protected-clause-planned : goal.returns-then-is_protected-clause-planned
returns-then-is_protected-clause-planned g c = λ m w named there cut kept bytes st.
    let room = c.in_ok-room.ensures.means m.disk (subst (λ v. HoldsDisk (g.M.Medium.seen v).tracks (g.M.Medium.seen v).content m.disk) (sym c.volume.ensures) (means_of _ _ _ _ _ _ m st)) in
    protected_to_write _ _ m w c.args.kind c.args.name named there c.plain-then-is_protected.result
    (ne_eqb m.disk.free 0 (λ e. c.if-room-eq0.false (room.0 ∙ e))) (sym room.1 ∙ is_true _ c.if-not-room.false)
    (st.same_protection ∙ sym (ap (λ v. (g.M.Medium.seen v).protected) c.volume-2.ensures) ∙ sym c.is_protected.ensures ∙ c.if-is_protected.true)
    c.plain-then-is_protected.ensures

pub returns-clause-planned : goal.returns-clause-planned
returns-clause-planned g c = λ m w named there cut kept bytes st.
    let room = c.in_ok-room.ensures.means m.disk (subst (λ v. HoldsDisk (g.M.Medium.seen v).tracks (g.M.Medium.seen v).content m.disk) (sym c.volume.ensures) (means_of _ _ _ _ _ _ m st)) in
    written _ _ m w c.args.kind c.args.name named there
    (ne_eqb m.disk.free 0 (λ e. c.if-room-eq0.false (room.0 ∙ e))) (sym room.1 ∙ is_true _ c.if-not-room.false)
    (st.same_protection ∙ sym (ap (λ v. (g.M.Medium.seen v).protected) c.volume-2.ensures) ∙ sym c.is_protected.ensures ∙ c.if-is_protected.false)
    cut kept bytes

pub returns-clause-allowed : goal.returns-clause-allowed
returns-clause-allowed g c = λ writes. sym (ap (λ v. (g.M.Medium.seen v).protected) c.volume-2.ensures) ∙ sym c.is_protected.ensures ∙ c.if-is_protected.false
