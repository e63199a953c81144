-- How long the chains of a sound disk are: the directory has at most 18 sectors, a file no more blocks than there are.
use Rattle.std.proofs.Common.{◌≡◌, ℕ, suc, ◌<◌, ◌≤◌, ◌⊎◌, inl, inr, List, [], ◌∷◌, length, Bool, true, false, refl, sym, ap, subst, ◌∙◌, arith}
use Rattle.cbm_medium.specs.Place.{Place, sectors_on, sector_count, directory_head}
use Rattle.cbm_medium.specs.Content.{Content}
use Rattle.cbm_medium.specs.Links.{bytes_at, link, Chain, IsApart}
use Rattle.cbm_bam.specs.Map.{tally, with_bit, with_freed, summed, map_of, is_free_in}
use Rattle.cbm_bam.proofs.Counts.{tally_more, tally_most, AreTaken, blocks_on_35, blocks_on_40}
use Rattle.cbm_volume.specs.Layouts.{Owner, Directory, DataOf, OwnedBy, Layout, Sound}
use Rattle.cbm_volume.proofs.layouts.Chained.{chain_distinct}
use Rattle.cbm_volume.proofs.layouts.Releases.{apart_by_index, freed_other, chain_taken}
use Rattle.cbm_volume.proofs.layouts.Distinct.{at_most_all}

abbrev nothing : Place → Bool
nothing p = false

-- sectors of track 18 in a chain are counted each once
counted_on_18 : (tracks : ℕ) (c : Content) (owner : Place → Owner) (a : Place) (xs : List Place) → ((p : Place) → owner p ≡ Directory → p.track ≡ 18) → Chain tracks c a xs → OwnedBy owner Directory xs
    → tally (with_freed nothing xs) 18 19 ≡ length xs
counted_on_18 tracks c owner a [] on h w = refl
counted_on_18 tracks c owner a (x ∷ xs) on h w =
    let apart : IsApart x xs = apart_by_index x xs directory_head (λ j k e. let z = chain_distinct tracks c a (x ∷ xs) (suc j) 0 directory_head h (omega arith) (omega arith) e in omega arith) in
    let here : x.track ≡ 18 = on x w.0 in
    let room : x.sector < 19 = subst (λ (t : ℕ). x.sector < sectors_on t) here h.1.2 in
    subst (λ (t : ℕ). tally (with_bit (with_freed nothing xs) x true) t 19 ≡ suc (tally (with_freed nothing xs) t 19)) here
    (tally_more (with_freed nothing xs) x 19 room (freed_other nothing x xs apart))
    ∙ ap suc (counted_on_18 tracks c owner (link (bytes_at c x)) xs on h.3 w.1)

-- 18/0 is no sector of the directory
pub head_apart : (tracks : ℕ) (c : Content) (l : Layout) (xs : List Place) → Sound tracks c l → OwnedBy l.owner Directory xs → IsApart directory_head xs
head_apart tracks c l [] s w = tt
head_apart tracks c l (x ∷ xs) s w = ((λ e. let z = sym s.owned.map ∙ ap l.owner e ∙ w.0 in (cc)), head_apart tracks c l xs s w.1)

pub directory_length : (tracks : ℕ) (c : Content) (l : Layout) → Sound tracks c l → length l.directory ≤ 18
directory_length tracks c l s =
    let counted : tally (with_freed nothing l.directory) 18 19 ≡ length l.directory
    = counted_on_18 tracks c l.owner (record { track = 18; sector = 1 }) l.directory s.owned.on_18 s.directory s.owned.directory in
    let with_head : tally (with_bit (with_freed nothing l.directory) directory_head true) 18 19 ≡ suc (tally (with_freed nothing l.directory) 18 19)
    = tally_more (with_freed nothing l.directory) directory_head 19 (omega arith) (freed_other nothing directory_head l.directory (head_apart tracks c l l.directory s s.owned.directory)) in
    omega (arith, tally_most (with_bit (with_freed nothing l.directory) directory_head true) 18 19)

blocks_fit : (tracks : ℕ) → (tracks ≡ 35) ⊎ (tracks ≡ 40) → summed sectors_on tracks ≤ sector_count tracks
blocks_fit tracks (inl e) = subst (λ (t : ℕ). summed sectors_on t ≤ sector_count t) (sym e) (omega (arith, blocks_on_35))
blocks_fit tracks (inr e) = subst (λ (t : ℕ). summed sectors_on t ≤ sector_count t) (sym e) (omega (arith, blocks_on_40))

pub file_length : (tracks : ℕ) (c : Content) (l : Layout) (n : ℕ) (a : Place) (xs : List Place) → (tracks ≡ 35) ⊎ (tracks ≡ 40) → Sound tracks c l → Chain tracks c a xs → OwnedBy l.owner (DataOf n) xs
    → length xs ≤ sector_count tracks
file_length tracks c l n a xs size s h w =
    let taken : AreTaken tracks (is_free_in (map_of c)) xs
    = chain_taken tracks c c l (DataOf n) s (λ e. (cc)) (λ p o t. (s.owned.off_18 p t n).0 o) a xs h w in
    omega (arith, at_most_all tracks (is_free_in (map_of c)) xs taken, blocks_fit tracks size)
