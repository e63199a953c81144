-- The directory of a Lynx archive.
use Rattle.std.proofs.Common.{◌≡◌, ℕ, suc, ◌+◌, ◌-◌, ◌*◌, ◌<◌, ◌≤◌, List, slice_get, [], ◌∷◌, ◌++◌, append_assoc, append-nil, None, Bool, false, if◌then◌else◌, Option, Some, ap, ◌∙◌, sym, arith}
use Rattle.cbm_sources.specs.declared.lines.Member.{Member}
use Rattle.cbm_sources.specs.declared.lynx.Piece.{Piece}
use Rattle.cbm_sources.specs.Lynxes.{first_where, Members, member_at, member_entry, piece_of, after_members, members_after, members_from, members_of, lynx_told, lynx_file}

-- a place that doesn't pass
pub first_passed : (test : ℕ → Bool) (end k : ℕ) → k < end → test k ≡ false → first_where test (end - k) k ≡ first_where test (end - (k + 1)) (k + 1)
first_passed test end k h e =
    let less : end - k ≡ suc (end - (k + 1)) = omega arith in
    ap (λ m. first_where test m k) less ∙ ap (λ b. if b then Some k else first_where test (end - (k + 1)) (k + 1)) e

-- ---- the files, one after another

one_fewer : (bytes : List ℕ) (count n at start : ℕ) → n < count
    → members_from (count - n) bytes at start
    ≡ members_after bytes (member_at bytes at) at start (λ m. members_from (count - (n + 1)) bytes m.next (start + 254 * m.blocks))
unfolding members_from
one_fewer bytes count n at start h =
    let less : count - n ≡ suc (count - (n + 1)) = omega arith in ap (λ k. members_from k bytes at start) less

pub member_more : (bytes : List ℕ) (count n at start : ℕ) (whole : Members) (entries more_entries : List (List ℕ)) (pieces more_pieces : List Piece) (m : Member) → n < count
    → whole ≡ after_members entries pieces (members_from (count - n) bytes at start) → Some m ≡ member_at bytes at
    → more_entries ≡ entries ++ member_entry bytes m ∷ [] → more_pieces ≡ pieces ++ piece_of start m ∷ []
    → whole ≡ after_members more_entries more_pieces (members_from (count - (n + 1)) bytes m.next (start + 254 * m.blocks))
member_more bytes count n at start whole entries more_entries pieces more_pieces m h w f e p =
    let rest = members_from (count - (n + 1)) bytes m.next (start + 254 * m.blocks) in
    w ∙ ap (after_members entries pieces) (one_fewer bytes count n at start h
    ∙ ap (λ o. members_after bytes o at start (λ q. members_from (count - (n + 1)) bytes q.next (start + 254 * q.blocks))) (sym f))
    ∙ ap (λ xs. let r : Members = record { entries = xs; pieces = pieces ++ piece_of start m ∷ rest.pieces; broken = rest.broken } in r)
    (sym (append_assoc entries (member_entry bytes m ∷ []) rest.entries))
    ∙ ap (λ xs. let r : Members = record { entries = (entries ++ member_entry bytes m ∷ []) ++ rest.entries; pieces = xs; broken = rest.broken } in r)
    (sym (append_assoc pieces (piece_of start m ∷ []) rest.pieces))
    ∙ ap (λ xs. after_members xs (pieces ++ piece_of start m ∷ []) rest) (sym e)
    ∙ ap (λ xs. after_members more_entries xs rest) (sym p)

nothing_more : (entries : List (List ℕ)) (pieces : List Piece) (broken : Option ℕ)
    → after_members entries pieces (record { entries = []; pieces = []; broken = broken }) ≡ record { entries = entries; pieces = pieces; broken = broken }
nothing_more entries pieces broken =
    ap (λ xs. let r : Members = record { entries = xs; pieces = pieces ++ []; broken = broken } in r) (append-nil entries)
    ∙ ap (λ xs. let r : Members = record { entries = entries; pieces = xs; broken = broken } in r) (append-nil pieces)

pub members_broken : (bytes : List ℕ) (count n at start : ℕ) (whole : Members) (entries : List (List ℕ)) (pieces : List Piece) → n < count
    → whole ≡ after_members entries pieces (members_from (count - n) bytes at start) → None ≡ member_at bytes at
    → whole ≡ record { entries = entries; pieces = pieces; broken = Some at }
members_broken bytes count n at start whole entries pieces h w f =
    w ∙ ap (after_members entries pieces) (one_fewer bytes count n at start h
    ∙ ap (λ o. members_after bytes o at start (λ q. members_from (count - (n + 1)) bytes q.next (start + 254 * q.blocks))) (sym f))
    ∙ nothing_more entries pieces (Some at)

none_left : (bytes : List ℕ) (count n at start : ℕ) → count ≤ n → members_from (count - n) bytes at start ≡ record { entries = []; pieces = []; broken = None }
unfolding members_from
none_left bytes count n at start h = let none : count - n ≡ 0 = omega arith in ap (λ k. members_from k bytes at start) none

pub members_done : (bytes : List ℕ) (count n at start : ℕ) (whole : Members) (entries : List (List ℕ)) (pieces : List Piece) → count ≤ n
    → whole ≡ after_members entries pieces (members_from (count - n) bytes at start) → whole ≡ record { entries = entries; pieces = pieces; broken = None }
members_done bytes count n at start whole entries pieces h w =
    w ∙ ap (after_members entries pieces) (none_left bytes count n at start h) ∙ nothing_more entries pieces None

pub members_begin : (bytes : List ℕ) (count at start : ℕ) (entries : List (List ℕ)) (pieces : List Piece) → entries ≡ [] → pieces ≡ []
    → members_from count bytes at start ≡ after_members entries pieces (members_from (count - 0) bytes at start)
members_begin bytes count at start entries pieces e p =
    let same : count ≡ count - 0 = omega arith in
    ap (λ k. members_from k bytes at start) same
    ∙ ap (λ xs. after_members xs [] (members_from (count - 0) bytes at start)) (sym e) ∙ ap (λ xs. after_members entries xs (members_from (count - 0) bytes at start)) (sym p)

pub file_is : (bytes inner : List ℕ) (n : ℕ) (m : Members) → inner ≡ bytes → members_of inner ≡ m → lynx_file bytes n ≡ lynx_told inner m.broken (slice_get m.pieces n)
unfolding lynx_file
file_is bytes inner n m i e =
    ap (λ (xs : List ℕ). lynx_told xs (members_of xs).broken (slice_get (members_of xs).pieces n)) (sym i)
    ∙ ap (λ (x : Members). lynx_told inner x.broken (slice_get x.pieces n)) e
