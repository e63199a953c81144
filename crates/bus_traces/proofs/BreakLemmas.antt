-- The first end of a line among bytes that wait.
use Rattle.std.proofs.Common.{◌≡◌, ℕ, ◌+◌, ◌-◌, ◌<◌, ◌≤◌, List, [], ◌∷◌, ◌++◌, length, take, drop, slice_range, Option, Some, None, true, false, ◌==◌, refl, ap, sym, ◌∙◌, arith, ⊎_elim}
use Rattle.std.proofs.lemmas.Bool.{cases_Bool}
use Rattle.std.proofs.lemmas.List.{drop-take, drop-drop, length-take-le}
use Rattle.std.specs.List.{position_or_len}
use Rattle.std.specs.Io.KnownBytes.{prepend_known}
use Rattle.std.proofs.lemmas.List.Sums.{position_or_len_is}
use Rattle.std.proofs.lemmas.Grind.{common_steps}
use Rattle.memchr.specs.Find.{IsFirstByte, is_byte}
use Rattle.bus_traces.specs.Lines.{lines_of, TakesLine, BeginsWithLine}

-- the bytes before the first byte 10 are a line
split_there : (bytes more : List ℕ) → position_or_len (is_byte 10) bytes < length bytes
    → lines_of (bytes ++ more) ≡ take (position_or_len (is_byte 10) bytes) bytes ∷ lines_of (drop (position_or_len (is_byte 10) bytes + 1) bytes ++ more)
split_there [] more h = absurd (omega (arith, h))
split_there (b ∷ bytes) more h =
    ⊎_elim
    (λ is. grind (arith, common_steps, is))
    (λ other. let rest = split_there bytes more (grind (arith, other, h)) in grind (arith, common_steps, other, rest))
    (cases_Bool (b == 10))

-- what a search for the byte 10 says
pub first_break : (bytes : List ℕ) (k : ℕ) → IsFirstByte (is_byte 10) bytes (Some k) → BeginsWithLine bytes (take k bytes)
first_break bytes k h =
    let within : k < length bytes = h.0.high in
    let at : position_or_len (is_byte 10) bytes ≡ k = position_or_len_is (is_byte 10) bytes k 0 (omega (arith, within))
    (λ j below. ⊎_elim (λ is. absurd (h.0.before j (omega arith) below is)) (λ other. other) (cases_Bool _)) (λ _. h.1) in
    let size : length (take k bytes) ≡ k = length-take-le k bytes (omega (arith, within)) in
    rw size (within, λ more. rw at at (split_there bytes more (rw at within)))

-- as it was taken
pub passed_line : (block : List ℕ) (start end count : ℕ) (known : Option (List ℕ)) (line : List ℕ) → start + count < end → length line ≡ count
    → BeginsWithLine (slice_range block start end) line
    → TakesLine (prepend_known (slice_range block start end) known) (prepend_known (slice_range block (start + (count + 1)) end) known) line
passed_line block start end count None line room size h = tt
passed_line block start end count (Some more) line room size h =
    let others = end - (start + (count + 1)) in
    let all : end - start ≡ (count + 1) + others = omega (arith, room) in
    let left : drop (count + 1) (slice_range block start end) ≡ slice_range block (start + (count + 1)) end =
    ap (λ n. drop (count + 1) (take n (drop start block))) all ∙ (drop-take (count + 1) others (drop start block) ∙ ap (take others) (drop-drop (count + 1) start block)) in
    h.1 more ∙ ap (λ bytes. line ∷ lines_of (bytes ++ more)) (ap (λ n. drop (n + 1) (slice_range block start end)) size ∙ left)
