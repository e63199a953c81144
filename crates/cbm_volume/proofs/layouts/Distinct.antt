-- What the owners stand for: no sector is used twice, and what is used is not free.
use Rattle.std.proofs.Common.{◌≡◌, ℕ, ◌+◌, ◌<◌, ◌≤◌, List, length, get_or, Bool, true, false, sym, ap, subst, ◌∙◌, arith}
use Rattle.cbm_medium.specs.Place.{Place, sectors_on, directory_head}
use Rattle.cbm_medium.specs.Content.{Content}
use Rattle.cbm_bam.specs.Map.{number, with_freed, summed}
use Rattle.cbm_directory.specs.Entries.{first_block, is_closed, is_relative, entry_at}
use Rattle.cbm_volume.specs.Blocks.{Blocks, LiesAs}
use Rattle.cbm_volume.specs.Layouts.{DataOf, Layout, slot_count, Sound}
use Rattle.cbm_volume.proofs.layouts.Frames.{owned_nth}
use Rattle.cbm_volume.proofs.layouts.Chained.{chain_distinct}
use Rattle.cbm_bam.proofs.Counts.{AreTaken, number_freed, number_most}

distinct_as : (cl r : Bool) (tracks : ℕ) (c : Content) (e : List ℕ) (b : Blocks) (i j : ℕ) → LiesAs cl r tracks c e b → i < length b.data_blocks → j < length b.data_blocks
    → get_or b.data_blocks i directory_head ≡ get_or b.data_blocks j directory_head → i ≡ j
distinct_as false r tracks c e b i j h k l same = absurd (let z = ap (λ (x : Blocks). length x.data_blocks) h in omega arith)
distinct_as true false tracks c e b i j h k l same = chain_distinct tracks c (first_block e) b.data_blocks i j directory_head h.0 k l same
distinct_as true true tracks c e b i j h k l same = chain_distinct tracks c (first_block e) b.data_blocks i j directory_head h.0 k l same

-- NO BLOCK STANDS TWICE, in one file or in two
pub blocks_distinct : (tracks : ℕ) (c : Content) (l : Layout) (n m i j : ℕ) → Sound tracks c l → n < slot_count l → m < slot_count l → i < length (l.files n).data_blocks → j < length (l.files m).data_blocks
    → get_or (l.files n).data_blocks i directory_head ≡ get_or (l.files m).data_blocks j directory_head → (n ≡ m) × (i ≡ j)
blocks_distinct tracks c l n m i j s hn hm hi hj same =
    let a : DataOf n ≡ DataOf m = sym (owned_nth l.owner (DataOf n) (l.files n).data_blocks i directory_head (s.owned.blocks n hn) hi) ∙ ap l.owner same ∙ owned_nth l.owner (DataOf m) (l.files m).data_blocks j directory_head (s.owned.blocks m hm) hj in
    let e : n ≡ m = cc in (
      e,
      distinct_as (is_closed (entry_at c l.directory n)) (is_relative (entry_at c l.directory n)) tracks c (entry_at c l.directory n) (l.files n) i j (s.lies n hn) hi
          (subst (λ (x : ℕ). j < length (l.files x).data_blocks) (sym e) hj) (same ∙ ap (λ (x : ℕ). get_or (l.files x).data_blocks j directory_head) (sym e)),
    )

-- A LIST OF TAKEN BLOCKS and what is free are at most all there is
pub at_most_all : (tracks : ℕ) (free : Place → Bool) (xs : List Place) → AreTaken tracks free xs → number tracks free + length xs ≤ summed sectors_on tracks
at_most_all tracks free xs h = omega (arith, number_freed tracks free xs h, number_most tracks (with_freed free xs))
