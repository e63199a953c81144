-- The sector of the map on an empty disk: what it says of the title and the id.
use Rattle.std.proofs.Common.{◌≡◌, ℕ, zero, suc, ◌+◌, ◌-◌, ◌≤◌, List, [], ◌∷◌, ◌++◌, length, take, drop, get_or, Bool, false, refl, sym, ap, ◌∙◌, arith, inl, inr, length-append}
use Rattle.std.specs.Prelude.{not, replicate, slice_range, slice_index}
use Rattle.std.proofs.lemmas.List.{length-replicate}
use Rattle.cbm_medium.specs.Place.{Place, Has}
use Rattle.cbm_file.specs.Padding.{padded}
use Rattle.cbm_bam.specs.Map.{is_free_in, IsCounted, IsOutsideMap, IsSpare}
use Rattle.cbm_directory.proofs.Written.{range_same}
use Rattle.cbm_volume.specs.NewDisks.{used_by_new, new_label, around_map, IsNewHead}

two_items : (xs : List ℕ) → length xs ≡ 2 → get_or xs 0 0 ∷ get_or xs 1 0 ∷ [] ≡ xs
two_items [] h = absurd (omega arith)
two_items (x ∷ []) h = absurd (omega arith)
two_items (x ∷ y ∷ []) h = refl
two_items (x ∷ y ∷ z ∷ rest) h = absurd (omega arith)

-- the label with the two bytes of an id
pub is_label : (title id name : List ℕ) → length id ≡ 2 → name ≡ padded title → name ++ (160 ∷ 160 ∷ get_or id 0 0 ∷ get_or id 1 0 ∷ 160 ∷ 50 ∷ 65 ∷ replicate 4 160) ≡ new_label title id
is_label title id name l e =
    ap (λ (x : List ℕ). x ++ (160 ∷ 160 ∷ get_or id 0 0 ∷ get_or id 1 0 ∷ 160 ∷ 50 ∷ 65 ∷ replicate 4 160)) e
    ∙ ap (λ (x : List ℕ). padded title ++ (160 ∷ 160 ∷ (x ++ (160 ∷ 50 ∷ 65 ∷ replicate 4 160)))) (two_items id l)

padded_length : (title : List ℕ) → length title ≤ 16 → length (padded title) ≡ 16
padded_length title h = length-append title (replicate (16 - length title) 160) ∙ omega (arith, length-replicate {A = ℕ} (16 - length title) 160)

take_front : (n : ℕ) (a b c : List ℕ) → length a ≡ n → take n ((a ++ b) ++ c) ≡ a
take_front zero [] b c h = refl
take_front zero (x ∷ a) b c h = absurd (omega arith)
take_front (suc n) [] b c h = absurd (omega arith)
take_front (suc n) (x ∷ a) b c h = ap (λ (r : List ℕ). x ∷ r) (take_front n a b c (omega arith))

drop_front : (n m k : ℕ) (a b c : List ℕ) → length a ≡ n → k ≡ n + m → drop k ((a ++ b) ++ c) ≡ drop m (b ++ c)
drop_front zero m k [] b c h e = ap (λ (i : ℕ). drop i (b ++ c)) (let f : k ≡ m = omega arith in f)
drop_front zero m k (x ∷ a) b c h e = absurd (omega arith)
drop_front (suc n) m k [] b c h e = absurd (omega arith)
drop_front (suc n) m zero (x ∷ a) b c h e = absurd (omega arith)
drop_front (suc n) m (suc k) (x ∷ a) b c h e = drop_front n m k a b c (omega arith) (omega arith)

mark_in : (id zeros : List ℕ) → length id ≡ 2 → take 5 (drop 2 ((160 ∷ 160 ∷ (id ++ (160 ∷ 50 ∷ 65 ∷ replicate 4 160))) ++ zeros)) ≡ id ++ 160 ∷ 50 ∷ 65 ∷ []
mark_in [] zeros h = absurd (omega arith)
mark_in (x ∷ []) zeros h = absurd (omega arith)
mark_in (x ∷ y ∷ []) zeros h = refl
mark_in (x ∷ y ∷ z ∷ rest) zeros h = absurd (omega arith)

title_around : (title id : List ℕ) → length title ≤ 16 → slice_range (around_map title id) 144 160 ≡ padded title
unfolding around_map
title_around title id h = take_front 16 (padded title) (160 ∷ 160 ∷ (id ++ (160 ∷ 50 ∷ 65 ∷ replicate 4 160))) (replicate 85 0) (padded_length title h)

mark_around : (title id : List ℕ) → length title ≤ 16 → length id ≡ 2 → slice_range (around_map title id) 162 167 ≡ id ++ 160 ∷ 50 ∷ 65 ∷ []
unfolding around_map
mark_around title id h l =
    ap (take 5) (drop_front 16 2 18 (padded title) (160 ∷ 160 ∷ (id ++ (160 ∷ 50 ∷ 65 ∷ replicate 4 160))) (replicate 85 0) (padded_length title h) refl)
    ∙ mark_in id (replicate 85 0) l

-- a part of the sector that the map leaves alone
outside_same : (tracks : ℕ) (old new : List ℕ) (from end : ℕ) → length new ≡ 256 → length old ≡ 256 → ((i : ℕ) → IsOutsideMap tracks i → slice_index new i ≡ slice_index old i) → 144 ≤ from → end ≤ 192
    → slice_range new from end ≡ slice_range old from end
outside_same tracks old new from end n o h a b = range_same new old from end (n ∙ sym o) (λ i p q. h i (inr (omega arith, inr (inl (omega arith)))))

-- THE MAP IS WRITTEN INTO A SECTOR THAT HAS THE LABEL
pub is_new_head : (tracks : ℕ) (title id around new : List ℕ) (used : Place → Bool) → length title ≤ 16 → length id ≡ 2 → used ≡ used_by_new → around ≡ around_map title id → length new ≡ 256 → length around ≡ 256
    → ((p : Place) → Has tracks p → is_free_in new p ≡ not (used p)) → IsCounted tracks new → ((p : Place) → IsSpare tracks p → is_free_in new p ≡ false)
    → ((i : ℕ) → IsOutsideMap tracks i → slice_index new i ≡ slice_index around i) → IsNewHead tracks title id new
is_new_head tracks title id around new used short two u is n o free counted spare outside = record {
  free = λ p h. free p h ∙ ap (λ (f : Place → Bool). not (f p)) u;
  counted = counted;
  spare = spare;
  around = λ i k. outside i k ∙ ap (λ (x : List ℕ). slice_index x i) is;
  titled = outside_same tracks around new 144 160 n o outside (omega arith) (omega arith) ∙ ap (λ (x : List ℕ). slice_range x 144 160) is ∙ title_around title id short;
  marked = outside_same tracks around new 162 167 n o outside (omega arith) (omega arith) ∙ ap (λ (x : List ℕ). slice_range x 162 167) is ∙ mark_around title id short two;
}
