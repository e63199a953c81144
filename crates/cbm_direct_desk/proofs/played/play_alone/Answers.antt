use Rattle.std.proofs.Common.{arith, refl, subst}
use Rattle.cbm_d64.specs.Image.{d64_seen}
use Rattle.cbm_direct.specs.Vouching.{IsSoundSince}
use Rattle.cbm_direct_desk.proofs.played.play_alone.Goals as goal

-- it never fails by itself, so it is sound
pub returns : goal.returns
returns c = λ h.
    subst (λ v. IsSoundSince v (d64_seen c.play_out.result)) (c.drive_with.ensures.sound refl h) (c.play_out.ensures c.drive_with.result c.new.ensures.drives) (omega arith)
