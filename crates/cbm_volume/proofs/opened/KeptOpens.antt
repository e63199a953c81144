-- An OPEN for writing finds a block where one was free, on any disk: the slot that it takes first takes none of the blocks of files.
use Rattle.std.proofs.Common.{◌≡◌, ◌≢◌, ℕ, Some, inl, inr, sym, ◌∙◌, subst, false}
use Rattle.cbm_medium.specs.Content.{Content}
use Rattle.cbm_bam.specs.Map.{map_of, is_free_in, number, IsFull}
use Rattle.cbm_bam.proofs.Counts.{number_none}
use Rattle.cbm_directory.specs.Empties.{TakesSlot}
use Rattle.cbm_directory.proofs.KeptBits.{bits_kept}

-- no block is left after a slot that was taken: so none was free before
pub block_left : (tracks : ℕ) (c c1 : Content) (n free : ℕ) → TakesSlot tracks c c1 (Some n) → free ≡ number tracks (is_free_in (map_of c)) → free ≢ 0 → IsFull tracks (map_of c1) → ⊥
block_left tracks c c1 n free (inl stays) e some full =
    some (e ∙ number_none tracks (is_free_in (map_of c)) (λ p has off. subst (λ (x : Content). is_free_in (map_of x) p ≡ false) stays.1 (full p has off)))
block_left tracks c c1 n free (inr grown) e some full =
    some (e ∙ number_none tracks (is_free_in (map_of c)) (λ p has off. sym (bits_kept tracks c c1 grown.1 p has off) ∙ full p has off))
