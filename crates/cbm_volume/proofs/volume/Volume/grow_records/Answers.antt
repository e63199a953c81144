use Rattle.std.proofs.Common.{ap, subst, inl, inr}
use Rattle.std.proofs.lemmas.Result.{err_from_is_err_and}
use Rattle.cbm_medium.proofs.Sequences.{only_nothing}
use Rattle.cbm_medium.specs.Place.{directory_head}
use Rattle.cbm_medium.specs.Seen.{Seen}
use Rattle.cbm_medium.proofs.FaultCodes.{never_26}
use Rattle.cbm_bam.specs.Map.{geometry_of}
use Rattle.cbm_bam.proofs.Heads.{head_shown}
use Rattle.cbm_directory.proofs.Codes.{directory_never_26, directory_shown}
use Rattle.cbm_volume.proofs.grown.GrowingMeans.{SlotGrows}
use Rattle.cbm_volume.proofs.volume.Volume.grow_records.Goals as goal

-- the map and the directory of a sound disk read
pub returns-in_err-room-clause-call : goal.returns-in_err-room-clause-call
returns-in_err-room-clause-call g c = λ d uses w b s rs o. absurd (c.in_err-room.ensures.means d (record { layout = o.holds.layout; stands = o.holds.so.stands }))

-- neither the map's fault nor what breaks the directory off is told as protection
pub returns-in_err-room-clause-only : goal.returns-in_err-room-clause-only
returns-in_err-room-clause-only g c =
    let p = err_from_is_err_and c.from_residual.result c.from_residual.ensures.1 in
    let old : Seen = g.M.Medium.seen c.args.self.now in
    only_nothing c.from_residual.result (g.M.Medium.seen c.args.self.now) (g.M.Medium.seen c.args.self.now) (λ i. g.M.Medium.seen c.args.self.now)
    (rw (p.1, p.2) (λ is. absurd (elim c.in_err-room.ensures.err [
      | inl k ↦ never_26 (old.content directory_head) c.in_err-room.field-0.0.code (g.met.M.Medium.codes c.args.self.now directory_head) k.0 is
      | inr k ↦ directory_never_26 (geometry_of old.tracks old.content) old.content c.in_err-room.field-0.0 (λ q. g.met.M.Medium.codes c.args.self.now q) k is
    ])))
    (rw (p.1, p.2) (elim c.in_err-room.ensures.err [ inl k ↦ head_shown old c.in_err-room.field-0.0 k | inr k ↦ directory_shown (geometry_of old.tracks old.content) old c.in_err-room.field-0.0 k ]))

pub returns-clause-call : goal.returns-clause-call
returns-clause-call g c = λ d uses w b s rs o.
    let means = c.in_ok-room.ensures.means d (record { layout = o.holds.layout; stands = o.holds.so.stands }) in
    let new : Seen = g.M.Medium.seen c.grow_in_slot.new.medium in
    let seen = ap (λ m. g.M.Medium.seen m) c.self.view_is in
    subst (λ (x : Seen). SlotGrows x new c.args.slot c.args.number c.in_ok-room.room.blocks c.grow_in_slot.result) seen c.grow_in_slot.ensures.call d uses w b s rs o means.0
