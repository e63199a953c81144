-- A writer that goes on after a chain that is there takes up its blocks one by one.
use Rattle.std.proofs.Common.{◌≡◌, ℕ, ◌+◌, ◌-◌, List, [], ◌∷◌, ◌++◌, length, Option, None, Some, Ok, Err, refl, sym, ap, subst, ◌∙◌, arith}
use Rattle.std.specs.Prelude.{min}
use Rattle.std.specs.Prelude.{◌≤◌, take, drop, get_or, replicate, slice_range}
use Rattle.std.proofs.lemmas.List.{length-append, length-take, append_assoc, append-nil, drop-take, drop_all, length-drop, length-take-le, get_or-append_right}
use Rattle.std.proofs.lemmas.Slice.{take-put_mid_below}
use borrow.Rule.Slice.PartMut.{put_mid, post_of}
use Rattle.cbm_medium.specs.Place.{Place}
use Rattle.cbm_medium.specs.Content.{Cell, Content, IsWhole}
use Rattle.cbm_medium.specs.Links.{Followed, follow, with_block, bytes_at, or_nothing}
use Rattle.cbm_medium.proofs.Walks.{follow_end}
use Rattle.cbm_chain.specs.Data.{data_end, data_of, chain_bytes}
use Rattle.cbm_chain.proofs.Filling.{zeros_at}
use Rattle.cbm_chain.proofs.Parts.{part_chain_bytes}
use Rattle.cbm_chain.specs.Writing.{State, StandsAfter, taken_up, place_or, first_block_of, last_block_of, last_of, block_data_at, one_more, Part, part_bytes, Wrote}

-- what follows, with these blocks before it
abbrev pub after_these : List Place → Followed → Followed
after_these before f = record f { blocks = before ++ f.blocks }

pub none_before : (tracks : ℕ) (c : Content) (s : State) → s ≡ (record { tracks = tracks; first = None; current = None; count = 0; waiting = [] }) → StandsAfter tracks c [] s
none_before tracks c s e = record {
  same_tracks = ap (λ (x : State). x.tracks) e;
  first = ap (λ (x : State). x.first) e;
  current = ap (λ (x : State). x.current) e;
  count = ap (λ (x : State). x.count) e;
  waiting = ap (λ (x : State). x.waiting) e;
}

first_more : (before : List Place) (p : Place) → place_or (first_block_of before) p ≡ first_block_of (before ++ p ∷ [])
first_more [] p = refl
first_more (b ∷ rest) p = refl

last_more : (a : Place) (rest : List Place) (p : Place) → last_of a (rest ++ p ∷ []) ≡ p
last_more a [] p = refl
last_more a (b ∷ rest) p = last_more b rest p

end_more : (before : List Place) (p : Place) → last_block_of (before ++ p ∷ []) ≡ Some p
end_more [] p = refl
end_more (b ∷ rest) p = ap (λ (q : Place). Some q) (last_more b rest p)

-- one block more
pub one_taken : (tracks : ℕ) (c : Content) (before : List Place) (p : Place) (old new : State) → StandsAfter tracks c before old → new ≡ taken_up p (data_of (bytes_at c p)) old → StandsAfter tracks c (before ++ p ∷ []) new
one_taken tracks c before p old new s e = record {
  same_tracks = ap (λ (x : State). x.tracks) e ∙ s.same_tracks;
  first = ap (λ (x : State). x.first) e ∙ ap (λ (o : Option Place). place_or o p) s.first ∙ first_more before p;
  current = ap (λ (x : State). x.current) e ∙ sym (end_more before p);
  count = ap (λ (x : State). x.count) e ∙ ap one_more s.count ∙ more;
  waiting = ap (λ (x : State). x.waiting) e ∙ ap (block_data_at c) (sym (end_more before p));
}
  where
    more : one_more (min (length before) 65535) ≡ min (length (before ++ p ∷ [])) 65535
    more = omega (arith, length-append before (p ∷ []))

pub followed_on : (whole here next : Followed) (before : List Place) (p : Place) → whole ≡ after_these before here → here ≡ with_block p next → whole ≡ after_these (before ++ p ∷ []) next
followed_on whole here next before p e h = e ∙ ap (after_these before) h ∙ ap (λ (bs : List Place). record next { blocks = bs }) (sym (append_assoc before (p ∷ []) next.blocks))

-- at the end of the chain
pub all_taken : (tracks left : ℕ) (c : Content) (at : Place) (whole : Followed) (before : List Place) → at.track ≡ 0 → whole ≡ after_these before (follow tracks c left at) → (whole.blocks ≡ before) × (whole.trouble ≡ None)
all_taken tracks left c at whole before z e = (
  ap (λ (f : Followed). f.blocks) e ∙ ap (λ (f : Followed). before ++ f.blocks) (follow_end tracks c left at z) ∙ append-nil before,
  ap (λ (f : Followed). f.trouble) e ∙ ap (λ (f : Followed). f.trouble) (follow_end tracks c left at z),
)

-- ---- a block with zeros after its data

pub alone_data : (block zs : List ℕ) (end : ℕ) → length block ≡ 256 → 2 ≤ end → end ≤ 256 → slice_range (put_mid end (256 - end) block zs) 2 end ≡ slice_range block 2 end
alone_data block zs end l two few =
    let new : List ℕ = put_mid end (256 - end) block zs in
    let whole : 2 + (end - 2) ≡ end = omega arith in
    sym (drop-take 2 (end - 2) new) ∙ ap (λ (n : ℕ). drop 2 (take n new)) whole
    ∙ ap (drop 2) (take-put_mid_below end (256 - end) block zs end (omega arith) (omega arith))
    ∙ ap (λ (n : ℕ). drop 2 (take n block)) (sym whole) ∙ drop-take 2 (end - 2) block

pub alone_zeros : (block zs : List ℕ) (end n : ℕ) → length block ≡ 256 → end ≤ 256 → zs ≡ replicate n 0 → (i : ℕ) → end ≤ i → get_or (put_mid end (256 - end) block zs) i 0 ≡ 0
alone_zeros block zs end n l few z i h =
    let none : post_of end (256 - end) block ≡ [] = drop_all (256 - end) (drop end block) (omega (arith, length-drop end block)) in
    get_or-append_right (take end block) (zs ++ post_of end (256 - end) block) end i 0 (length-take-le end block (omega arith)) h
    ∙ ap (λ (xs : List ℕ). get_or (zs ++ xs) (i - end) 0) none ∙ ap (λ (xs : List ℕ). get_or xs (i - end) 0) (append-nil zs ∙ z) ∙ zeros_at n (i - end)

-- ---- what it has written

-- a block has at most 254 bytes of data
data_fits : (c : Content) (o : Option Place) → ((p : Place) → IsWhole (c p)) → length (block_data_at c o) ≤ 254
data_fits c None whole = omega arith
data_fits c (Some p) whole = by_cell (c p) (whole p)
  where
    by_cell : (cell : Cell) → IsWhole cell → length (data_of (or_nothing cell)) ≤ 254
    by_cell (Ok bytes) l = omega (arith, length-take (data_end bytes - 2) (drop 2 bytes), length-drop 2 bytes)
    by_cell (Err code) l = omega (arith, length-take (data_end [] - 2) (drop {A = ℕ} 2 []), length-drop {A = ℕ} 2 [])

-- A WRITER AFTER THE LAST BYTE OF A CHAIN has written its bytes
pub chain_wrote : (tracks : ℕ) (c : Content) (xs : List Place) (s : State) → ((p : Place) → IsWhole (c p)) → Part tracks c xs → StandsAfter tracks c xs s → Wrote c s xs (chain_bytes c xs)
chain_wrote tracks c xs s whole part after = record {
  part = subst (λ (n : ℕ). Part n c xs) (sym after.same_tracks) part;
  first = after.first;
  current = after.current;
  count = after.count;
  all = all xs part ∙ ap (λ (x : List ℕ). part_bytes c xs ++ x) (sym after.waiting);
  fits = subst (λ (x : List ℕ). length x ≤ 254) (sym after.waiting) (data_fits c (last_block_of xs) whole);
  none = λ e. after.waiting ∙ ap (block_data_at c) (sym after.current ∙ e);
}
  where
    all : (ys : List Place) → Part tracks c ys → chain_bytes c ys ≡ part_bytes c ys ++ block_data_at c (last_block_of ys)
    all [] h = refl
    all (b ∷ rest) h = part_chain_bytes tracks c b rest h
