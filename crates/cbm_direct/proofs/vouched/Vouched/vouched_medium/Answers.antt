use Rattle.std.proofs.Common.{subst, sym}
use Rattle.cbm_direct.specs.Vouching.{Vouching, IsSoundSince}
use Rattle.cbm_direct.proofs.Sounds.{sound_as_it_stands}
use Rattle.cbm_direct.proofs.vouched.Vouched.vouched_medium.Goals as goal

-- as each value of the type has it
pub returns-clause-sound : goal.returns-clause-sound
returns-clause-sound g c =
    let seen = g.M.Medium.seen in
    subst (λ (v : Vouching _). IsSoundSince v.vouch (seen c.medium.result.now)) c.self.view_is
    (sound_as_it_stands seen c.self.inside.vouch c.self.inside.dos c.medium.result.now (sym c.medium.ensures) c.self.invariant)
