use Rattle.std.proofs.Common.{arith, ℕ, ◌≡◌, ◌⊎◌, subst}
use Rattle.cbm_bam.proofs.WholeMaps.{begun_35, begun_40}
use Rattle.cbm_bam.proofs.whole_map.all_taken.Goals as goal

pub returns-then-tracks-lt40 : goal.returns-then-tracks-lt40
returns-then-tracks-lt40 c used =
    begun_35 c.args.geometry c.args.map.now c.clear.new.map used (subst (λ (n : ℕ). (n ≡ 35) ⊎ (n ≡ 40)) c.tracks.ensures.value c.tracks.ensures.either)
    (omega arith) c.clear.array_long c.clear.ensures.zeros c.clear.ensures.others

pub returns : goal.returns
returns c used =
    begun_40 c.args.geometry c.args.map.now c.clear.new.map c.clear-2.new.map used (subst (λ (n : ℕ). (n ≡ 35) ⊎ (n ≡ 40)) c.tracks.ensures.value c.tracks.ensures.either)
    (omega arith) c.clear-2.array_long c.clear.ensures.zeros c.clear.ensures.others c.clear-2.ensures.zeros c.clear-2.ensures.others
