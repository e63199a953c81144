-- Each sector that is claimed is one less that is left: so what is left and the files together are all blocks.
use Rattle.std.proofs.Common.{◌≡◌, ◌≢◌, ◌⊎◌, ℕ, zero, suc, ◌+◌, ◌<◌, List, [], ◌∷◌, length, get_or, Bool, true, false, refl, sym, ap, subst, ◌∙◌, arith, inl, inr}
use Rattle.std.specs.Prelude.{not, sum_by, if◌then◌else◌}
use Rattle.std.specs.List.{fold}
use Rattle.std.proofs.lemmas.Bool.{cases_eq, eq-eqb}
use Rattle.cbm_medium.specs.Place.{Place, sectors_on, directory_head}
use Rattle.cbm_medium.specs.Content.{Content}
use Rattle.cbm_medium.specs.Links.{bytes_at, link}
use Rattle.cbm_file.specs.Files.{blocks_on}
use Rattle.cbm_bam.specs.Map.{with_bit, tally, unless_18, summed, number, at}
use Rattle.cbm_bam.proofs.Counts.{bit_elsewhere, tally_same, tally_less, number_less, number_same}
use Rattle.cbm_directory.specs.Entries.{is_closed, is_relative, first_block, first_directory}
use Rattle.cbm_directory.specs.Slots.{all_entries}
use Rattle.cbm_volume.specs.Blocks.{Blocks}
use Rattle.cbm_volume.specs.check.Claims.{is_inside, ClaimsChain}
use Rattle.cbm_volume.specs.check.SideLists.{ClaimsEach}
use Rattle.cbm_volume.specs.declared.check.unsound.Part.{Part}
use Rattle.cbm_volume.specs.declared.check.unsound.Part.TheVariants.{OfDirectory, OfFile}
use Rattle.cbm_volume.proofs.checked.Claimed.{head_claimed, ClaimsAs, ClaimsSlots, IsClaimedOnce}
use Rattle.cbm_volume.proofs.checked.Claiming.{is_right, not_with, inside_has, on_18, off_18}

-- what is left
abbrev pub left : (Place → Bool) → Place → Bool
left claimed p = not (claimed p)

-- the sectors of a file
abbrev pub size : Blocks → ℕ
size b = length b.data_blocks + length b.sides

-- ---- sums

sum_from : {X : Type 0} (f : X → ℕ) (n : ℕ) (xs : List X) → fold (λ a x. a + f x) n xs ≡ n + sum_by f xs
sum_from f n [] = omega arith
sum_from f n (x ∷ xs) = omega (arith, sum_from f (n + f x) xs, sum_from f (0 + f x) xs)

pub sum_next : {X : Type 0} (f : X → ℕ) (x : X) (xs : List X) → sum_by f (x ∷ xs) ≡ f x + sum_by f xs
sum_next f x xs = omega (arith, sum_from f (0 + f x) xs)

-- two lists with the same numbers
pub sums_same : {X Y : Type 0} (f : X → ℕ) (g : Y → ℕ) (xs : List X) (ys : List Y) (d : X) (e : Y) → length xs ≡ length ys → ((i : ℕ) → i < length xs → f (get_or xs i d) ≡ g (get_or ys i e)) → sum_by f xs ≡ sum_by g ys
sums_same f g [] [] d e l h = refl
sums_same f g [] (y ∷ ys) d e l h = absurd (omega (arith, l))
sums_same f g (x ∷ xs) [] d e l h = absurd (omega (arith, l))
sums_same f g (x ∷ xs) (y ∷ ys) d e l h =
    omega (arith, sum_next f x xs, sum_next g y ys, h 0 (omega arith), sums_same f g xs ys d e (omega (arith, l)) (λ i k. h (suc i) (omega (arith, k))))

-- ---- other sectors

chain_elsewhere : (part : Part) (tracks : ℕ) (c : Content) (claimed : Place → Bool) (a : Place) (xs : List Place) (after : Place → Bool) (q : Place) → ((p : Place) → is_inside part tracks p ≡ true → p ≢ q)
    → ClaimsChain part tracks c claimed a xs after → after q ≡ claimed q
chain_elsewhere part tracks c claimed a [] after q apart h = ap (λ (f : Place → Bool). f q) h.1
chain_elsewhere part tracks c claimed a (b ∷ xs) after q apart h =
    chain_elsewhere part tracks c (with_bit claimed b true) (link (bytes_at c b)) xs after q apart h.2 ∙ bit_elsewhere claimed b q true (apart b (is_right part tracks c claimed b h.1).inside)

each_elsewhere : (part : Part) (tracks : ℕ) (c : Content) (claimed : Place → Bool) (xs : List Place) (after : Place → Bool) (q : Place) → ((p : Place) → is_inside part tracks p ≡ true → p ≢ q)
    → ClaimsEach part tracks c claimed xs after → after q ≡ claimed q
each_elsewhere part tracks c claimed [] after q apart h = ap (λ (f : Place → Bool). f q) h
each_elsewhere part tracks c claimed (b ∷ xs) after q apart h =
    each_elsewhere part tracks c (with_bit claimed b true) xs after q apart h.1 ∙ bit_elsewhere claimed b q true (apart b (is_right part tracks c claimed b h.0).inside)

as_elsewhere : (closed relative : Bool) (tracks : ℕ) (c : Content) (claimed : Place → Bool) (e : List ℕ) (b : Blocks) (after : Place → Bool) (q : Place) → ((p : Place) → is_inside OfFile tracks p ≡ true → p ≢ q)
    → ClaimsAs closed relative tracks c claimed e b after → after q ≡ claimed q
as_elsewhere false r tracks c claimed e b after q apart h = ap (λ (f : Place → Bool). f q) h.1
as_elsewhere true false tracks c claimed e b after q apart h = chain_elsewhere OfFile tracks c claimed (first_block e) b.data_blocks after q apart h.0
as_elsewhere true true tracks c claimed e b after q apart h = each_elsewhere OfFile tracks c h.0 b.sides after q apart h.2 ∙ chain_elsewhere OfFile tracks c claimed (first_block e) b.data_blocks h.0 q apart h.1

slots_elsewhere : (tracks : ℕ) (c : Content) (claimed : Place → Bool) (es : List (List ℕ)) (bs : List Blocks) (after : Place → Bool) (q : Place) → ((p : Place) → is_inside OfFile tracks p ≡ true → p ≢ q)
    → ClaimsSlots tracks c claimed es bs after → after q ≡ claimed q
slots_elsewhere tracks c claimed [] [] after q apart h = ap (λ (f : Place → Bool). f q) h
slots_elsewhere tracks c claimed [] (b ∷ bs) after q apart h = absurd h
slots_elsewhere tracks c claimed (e ∷ es) [] after q apart h = absurd h
slots_elsewhere tracks c claimed (e ∷ es) (b ∷ bs) after q apart h =
    slots_elsewhere tracks c h.0 es bs after q apart h.2 ∙ as_elsewhere (is_closed e) (is_relative e) tracks c claimed e b h.0 q apart h.1.1

-- ---- the blocks of files

one_less : (tracks : ℕ) (c : Content) (claimed : Place → Bool) (b : Place) → is_inside OfFile tracks b ≡ true → claimed b ≡ false → number tracks (left claimed) ≡ suc (number tracks (left (with_bit claimed b true)))
one_less tracks c claimed b inside fresh =
    number_less tracks (left claimed) b (inside_has OfFile tracks b inside) (off_18 tracks b inside) (ap not fresh)
    ∙ ap suc (number_same tracks (with_bit (left claimed) b false) (left (with_bit claimed b true)) (λ q k. not_with claimed b q))

chain_count : (tracks : ℕ) (c : Content) (claimed : Place → Bool) (a : Place) (xs : List Place) (after : Place → Bool) → ClaimsChain OfFile tracks c claimed a xs after → number tracks (left claimed) ≡ number tracks (left after) + length xs
chain_count tracks c claimed a [] after h = let e : number tracks (left claimed) ≡ number tracks (left after) = ap (λ (f : Place → Bool). number tracks (left f)) (sym h.1) in omega (arith, e)
chain_count tracks c claimed a (b ∷ xs) after h =
    let r = is_right OfFile tracks c claimed b h.1 in
    omega (arith, one_less tracks c claimed b r.inside r.fresh, chain_count tracks c (with_bit claimed b true) (link (bytes_at c b)) xs after h.2)

each_count : (tracks : ℕ) (c : Content) (claimed : Place → Bool) (xs : List Place) (after : Place → Bool) → ClaimsEach OfFile tracks c claimed xs after → number tracks (left claimed) ≡ number tracks (left after) + length xs
each_count tracks c claimed [] after h = let e : number tracks (left claimed) ≡ number tracks (left after) = ap (λ (f : Place → Bool). number tracks (left f)) (sym h) in omega (arith, e)
each_count tracks c claimed (b ∷ xs) after h =
    let r = is_right OfFile tracks c claimed b h.0 in
    omega (arith, one_less tracks c claimed b r.inside r.fresh, each_count tracks c (with_bit claimed b true) xs after h.1)

as_count : (closed relative : Bool) (tracks : ℕ) (c : Content) (claimed : Place → Bool) (e : List ℕ) (b : Blocks) (after : Place → Bool) → ClaimsAs closed relative tracks c claimed e b after
    → number tracks (left claimed) ≡ number tracks (left after) + size b
as_count false r tracks c claimed e b after h =
    let x : number tracks (left claimed) ≡ number tracks (left after) = ap (λ (f : Place → Bool). number tracks (left f)) (sym h.1) in
    let y : size b ≡ 0 = ap size h.0 in
    omega (arith, x, y)
as_count true false tracks c claimed e b after h = let y : length b.sides ≡ 0 = ap length h.1 in omega (arith, chain_count tracks c claimed (first_block e) b.data_blocks after h.0, y)
as_count true true tracks c claimed e b after h = omega (arith, chain_count tracks c claimed (first_block e) b.data_blocks h.0 h.1, each_count tracks c h.0 b.sides after h.2)

slots_count : (tracks : ℕ) (c : Content) (claimed : Place → Bool) (es : List (List ℕ)) (bs : List Blocks) (after : Place → Bool) → ClaimsSlots tracks c claimed es bs after → number tracks (left claimed) ≡ number tracks (left after) + sum_by size bs
slots_count tracks c claimed [] [] after h = let e : number tracks (left claimed) ≡ number tracks (left after) = ap (λ (f : Place → Bool). number tracks (left f)) (sym h) in omega (arith, e)
slots_count tracks c claimed [] (b ∷ bs) after h = absurd h
slots_count tracks c claimed (e ∷ es) [] after h = absurd h
slots_count tracks c claimed (e ∷ es) (b ∷ bs) after h = omega (arith, sum_next size b bs, as_count (is_closed e) (is_relative e) tracks c claimed e b h.0 h.1.1, slots_count tracks c h.0 es bs after h.2)

pub slots_length : (tracks : ℕ) (c : Content) (claimed : Place → Bool) (es : List (List ℕ)) (bs : List Blocks) (after : Place → Bool) → ClaimsSlots tracks c claimed es bs after → length es ≡ length bs
slots_length tracks c claimed [] [] after h = refl
slots_length tracks c claimed [] (b ∷ bs) after h = absurd h
slots_length tracks c claimed (e ∷ es) [] after h = absurd h
slots_length tracks c claimed (e ∷ es) (b ∷ bs) after h = ap suc (slots_length tracks c h.0 es bs after h.2)

-- ---- the directory

directory_count : (tracks : ℕ) (c : Content) (claimed : Place → Bool) (a : Place) (xs : List Place) (after : Place → Bool) → ClaimsChain OfDirectory tracks c claimed a xs after → tally (left claimed) 18 19 ≡ tally (left after) 18 19 + length xs
directory_count tracks c claimed a [] after h = let e : tally (left claimed) 18 19 ≡ tally (left after) 18 19 = ap (λ (f : Place → Bool). tally (left f) 18 19) (sym h.1) in omega (arith, e)
directory_count tracks c claimed a (b ∷ xs) after h =
    let r = is_right OfDirectory tracks c claimed b h.1 in
    let here : b.track ≡ 18 = on_18 tracks b r.inside in
    let room : b.sector < 19 = subst (λ (t : ℕ). b.sector < sectors_on t) here (inside_has OfDirectory tracks b r.inside).2 in
    let less : tally (left claimed) 18 19 ≡ suc (tally (left (with_bit claimed b true)) 18 19) =
    subst (λ (t : ℕ). tally (left claimed) t 19 ≡ suc (tally (left (with_bit claimed b true)) t 19)) here
    (tally_less (left claimed) b 19 room (ap not r.fresh) ∙ ap suc (tally_same (with_bit (left claimed) b false) (left (with_bit claimed b true)) b.track 19 (λ s k. not_with claimed b (at b.track s)))) in
    omega (arith, less, directory_count tracks c (with_bit claimed b true) (link (bytes_at c b)) xs after h.2)

-- ---- all of it

summed_off : (f g : Place → Bool) (n : ℕ) → ((p : Place) → p.track ≢ 18 → f p ≡ g p) → summed (λ t. tally f t (sectors_on t)) n ≡ summed (λ t. tally g t (sectors_on t)) n
summed_off f g zero h = refl
summed_off f g (suc t) h = elim (cases_eq (suc t) 18) [
  | inl e ↦ (let none : (n : ℕ) → unless_18 (suc t) n ≡ 0 = λ n. ap (λ (b : Bool). if b then 0 else n) (eq-eqb (suc t) 18 e) in
      ap (λ (n : ℕ). n + summed (λ u. tally f u (sectors_on u)) t) (none (tally f (suc t) (sectors_on (suc t))) ∙ sym (none (tally g (suc t) (sectors_on (suc t)))))
      ∙ ap (λ (n : ℕ). unless_18 (suc t) (tally g (suc t) (sectors_on (suc t))) + n) (summed_off f g t h))
  | inr ne ↦ ap (λ (n : ℕ). unless_18 (suc t) n + summed (λ u. tally f u (sectors_on u)) t) (tally_same f g (suc t) (sectors_on (suc t)) (λ s k. h (at (suc t) s) ne))
      ∙ ap (λ (n : ℕ). unless_18 (suc t) (tally g (suc t) (sectors_on (suc t))) + n) (summed_off f g t h)
]

all_there : (tracks : ℕ) → (tracks ≡ 35) ⊎ (tracks ≡ 40) → number tracks (λ _. true) ≡ blocks_on tracks
all_there tracks (inl e) = subst (λ (n : ℕ). number n (λ _. true) ≡ blocks_on n) (sym e) refl
all_there tracks (inr e) = subst (λ (n : ℕ). number n (λ _. true) ≡ blocks_on n) (sym e) refl

-- WHAT IS LEFT AND THE FILES ARE ALL BLOCKS
pub files_counted : (tracks : ℕ) (c : Content) (k : IsClaimedOnce tracks c) → (tracks ≡ 35) ⊎ (tracks ≡ 40) → number tracks (left k.after) + sum_by size k.files ≡ blocks_on tracks
files_counted tracks c k either =
    let all : number tracks (left k.middle) ≡ blocks_on tracks = summed_off (left k.middle) (λ _. true) tracks (λ q off. ap not
    (chain_elsewhere OfDirectory tracks c head_claimed first_directory k.directory k.middle q (λ p i e. off (ap (λ (x : Place). x.track) (sym e) ∙ on_18 tracks p i)) k.directory_claimed
    ∙ bit_elsewhere (λ _. false) directory_head q true (λ e. off (ap (λ (x : Place). x.track) (sym e))))) ∙ all_there tracks either in
    omega (arith, all, slots_count tracks c k.middle (all_entries c k.directory) k.files k.after k.files_claimed)

-- and what is left of track 18 and the directory are all of it but the map
pub room_counted : (tracks : ℕ) (c : Content) (k : IsClaimedOnce tracks c) → tally (left k.after) 18 19 + length k.directory ≡ 18
room_counted tracks c k =
    let same : tally (left k.after) 18 19 ≡ tally (left k.middle) 18 19 = tally_same (left k.after) (left k.middle) 18 19 (λ s h. ap not
    (slots_elsewhere tracks c k.middle (all_entries c k.directory) k.files k.after (at 18 s) (λ p i e. off_18 tracks p i (ap (λ (x : Place). x.track) e)) k.files_claimed)) in
    let head : tally (left head_claimed) 18 19 ≡ 18 = refl in
    omega (arith, same, head, directory_count tracks c head_claimed first_directory k.directory k.middle k.directory_claimed)
