use Rattle.std.proofs.Common.{ap, ◌∙◌, ◌∷◌, [], unwrap_or}
use Rattle.cbm_sector.specs.Answer.{id_shown}
use Rattle.cbm_g64.specs.Tracks.{id_for}
use Rattle.cbm_shell.proofs.images.converting.header_id.Goals as goal

pub returns-in-Some-clause-there : goal.returns-in-Some-clause-there
unfolding id_for
returns-in-Some-clause-there c = λ h. c.unwrap_or.ensures ∙ ap (λ o. unwrap_or o (0 ∷ 0 ∷ [])) (c.id_of.ensures ∙ ap id_shown c.in-Some.ensures.value)
