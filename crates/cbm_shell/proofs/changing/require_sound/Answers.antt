use Rattle.cbm_shell.proofs.changing.require_sound.Goals as goal

pub returns-in-Err-clause-exact : goal.returns-in-Err-clause-exact
returns-in-Err-clause-exact g c = λ d h. let bad = c.in-Err.ensures.exact h.layout h.stands.sound in absurd (cc)

pub returns-in-Err-clause-sound : goal.returns-in-Err-clause-sound
returns-in-Err-clause-sound g c = tt
