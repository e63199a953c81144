use Rattle.std.proofs.Common.{◌∙◌, ℕ, ◌/◌, ◌%◌, get_or, refl, ap, arith}
use Rattle.cbm_track.proofs.Joining.{joined_is}
use Rattle.cbm_track.proofs.stretches.byte_at.Goals as goal
use Rattle.cbm_track.proofs.stretches.byte_at.Goals.{then-first-track, else-first-track}

pub returns : goal.returns
returns c = c.joined.ensures
    ∙ joined_is c.args.track.now c.args.place (c.args.place / 8) (c.args.place % 8) _ _ c.requires.size c.requires.place refl refl refl
    (λ h. ap (λ (n : ℕ). get_or c.args.track.now n 0) (elim c.if-first-track.branch [ then-first-track w ↦ w.second-is | else-first-track w ↦ absurd (omega (arith, w.if-first-track.false)) ]))
    (λ h. ap (λ (n : ℕ). get_or c.args.track.now n 0) (elim c.if-first-track.branch [ then-first-track w ↦ absurd (omega (arith, w.if-first-track.true)) | else-first-track w ↦ w.second-is ]))
