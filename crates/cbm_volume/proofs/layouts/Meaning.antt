-- Each sound content means a disk.
use Rattle.std.proofs.Common.{◌≡◌, ℕ, zero, suc, ◌+◌, ◌<◌, List, [], ◌∷◌, length, get_or, refl, ap, ◌∙◌, arith, Option, None}
use Rattle.std.specs.Prelude.{slice_range}
use Rattle.cbm_medium.specs.Content.{Content}
use Rattle.cbm_file.specs.Files.{Disk, File, blocks_on}
use Rattle.cbm_bam.specs.Map.{map_of, is_free_in, free_in, tally}
use Rattle.cbm_directory.specs.Entries.{entry_at}
use Rattle.cbm_volume.specs.Blocks.{slot_of}
use Rattle.cbm_volume.specs.Layouts.{Layout, slot_count, Sound, HasLayout, Means}

-- n slots, counted from k
slots_from : (ℕ → Option File) → ℕ → ℕ → List (Option File)
slots_from f k zero = []
slots_from f k (suc n) = f k ∷ slots_from f (k + 1) n

slots_length : (f : ℕ → Option File) (k n : ℕ) → length (slots_from f k n) ≡ n
unfolding slots_from
slots_length f k zero = refl
slots_length f k (suc n) = ap suc (slots_length f (k + 1) n)

slots_at : (f : ℕ → Option File) (k n i : ℕ) → i < n → get_or (slots_from f k n) i None ≡ f (k + i)
unfolding slots_from
slots_at f k zero i h = absurd (omega arith)
slots_at f k (suc n) zero h = let e : k ≡ k + 0 = omega arith in ap f e
slots_at f k (suc n) (suc i) h = slots_at f (k + 1) n i (omega arith) ∙ (let e : k + 1 + i ≡ k + suc i = omega arith in ap f e)

-- where it lies as it lies
pub sound_stands : (tracks : ℕ) (c : Content) (l : Layout) → Sound tracks c l → (d : Disk) × HasLayout tracks c l d
sound_stands tracks c l s =
    let f : ℕ → Option File = λ n. slot_of c (entry_at c l.directory n) (l.files n) in
    let d : Disk = record {
      title = slice_range (map_of c) 144 160;
      mark = slice_range (map_of c) 162 167;
      slots = slots_from f 0 (slot_count l);
      room = tally (is_free_in (map_of c)) 18 19;
      free = free_in tracks (map_of c);
      total = blocks_on tracks;
    } in (
      d,
      record {
        sound = s;
        describes = record {
          title = refl;
          mark = refl;
          size = slots_length f 0 (slot_count l);
          slots = λ n h. slots_at f 0 (slot_count l) n h ∙ (let e : 0 + n ≡ n = omega arith in ap f e);
          total = refl;
          room = refl;
          free = refl;
        };
      },
    )

pub sound_means : (tracks : ℕ) (c : Content) (l : Layout) → Sound tracks c l → (d : Disk) × Means tracks c d
sound_means tracks c l s = let m = sound_stands tracks c l s in (m.0, record { layout = l; stands = m.1 })
