use Rattle.std.proofs.Common.{◌∙◌, ap, arith, List, [], ◌∷◌, ℕ, Option}
use Rattle.std.specs.Prelude.{unwrap_or}
use Rattle.std.proofs.lemmas.List.{get_or_read}
use Rattle.cbm_sector.specs.Answer.{id_shown}
use Rattle.cbm_g64.specs.Tracks.{id_for}
use Rattle.cbm_g64.proofs.circles.id_on.Goals as goal

pub returns : goal.returns
unfolding id_for
returns c = c.unwrap_or.ensures ∙ ap (λ (o : Option (List ℕ)). unwrap_or o (0 ∷ 0 ∷ [])) (c.id.ensures ∙ ap id_shown (get_or_read c.args.tracks.now 17 c.index-tracks-17.result (omega arith) c.index-tracks-17.is []))
