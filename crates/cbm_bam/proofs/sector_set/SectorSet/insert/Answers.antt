use Rattle.std.proofs.Common.{ap, ◌∙◌, get_or, set, ℕ, ◌*◌, ◌^◌, ◌%◌, List, true}
use Rattle.std.specs.Prelude.{bit_or}
use Rattle.cbm_bam.specs.Map.{with_bit}
use Rattle.cbm_bam.specs.Marks.{is_marked, with_row_mark}
use Rattle.cbm_bam.proofs.Marks.{marks_one}
use Rattle.cbm_bam.proofs.sector_set.SectorSet.insert.Goals as goal

pub returns : goal.returns
unfolding with_row_mark
returns c =
    let rows : List ℕ = c.self.inside.rows in
    ap (λ (t : ℕ). is_marked (set rows t (bit_or (get_or rows t 0) (1 * 2 ^ c.sector.result % 4294967296)))) c.track-track.ensures.value
    ∙ ap (λ (s : ℕ). is_marked (set rows c.args.at.track (bit_or (get_or rows c.args.at.track 0) (1 * 2 ^ s % 4294967296)))) c.sector.ensures.value
    ∙ marks_one rows c.args.at c.self.invariant c.sector.ensures.on_disk
    ∙ ap (λ (r : List ℕ). with_bit (is_marked r) c.args.at true) c.self.view_is
