use Rattle.std.proofs.Common.{ap, ◌∙◌, get_or, ℕ, List}
use Rattle.std.specs.Prelude.{◌==◌}
use Rattle.std.specs.Int.{bit_at}
use Rattle.std.proofs.lemmas.Nat.Bits.{shr_and_one}
use Rattle.cbm_bam.specs.Marks.{is_marked}
use Rattle.cbm_bam.proofs.sector_set.SectorSet.has.Goals as goal

pub returns : goal.returns
unfolding is_marked
returns c = ap (λ (v : ℕ). v == 1) (shr_and_one (get_or c.self.inside.rows c.track-track.result 0) c.sector.result)
    ∙ ap (λ (t : ℕ). bit_at (get_or c.self.inside.rows t 0) c.sector.result == 1) c.track-track.ensures.value
    ∙ ap (λ (s : ℕ). bit_at (get_or c.self.inside.rows c.args.at.track 0) s == 1) c.sector.ensures.value
    ∙ ap (λ (rows : List ℕ). is_marked rows c.args.at) c.self.view_is
