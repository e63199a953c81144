-- Tape archives: names, records, and how many bytes a file can have.
use Rattle.std.proofs.Common.{◌≡◌, ◌≢◌, ℕ, suc, ◌+◌, ◌-◌, ◌<◌, ◌≤◌, List, [], ◌∷◌, ◌++◌, length, filter, slice_index, slice_range, slice_get, Option, Some, Ok, Err, Bool, true, false, refl, ap, sym, ◌∙◌, arith, append_assoc, append-nil}
use Rattle.std.proofs.lemmas.Bool.{eq-eqb, ne_eqb, lt-ltb, le-ltb}
use Rattle.cbm_sources.specs.declared.fault.Fault.TheVariants.{Cut}
use Rattle.cbm_sources.specs.Answers.{FileTold}
use Rattle.cbm_sources.specs.Tapes.{trimmed, without_space, tape_record_count, tape_record, records_from, is_used, used_records, offset_of, nearer, limit_after, room_of, size_in, tape_size, start_address, end_address, tape_told, tape_file}

-- ---- names

pub trimmed_space : (xs : List ℕ) (c : ℕ) → c ≡ 32 → trimmed (xs ++ c ∷ []) ≡ trimmed xs
trimmed_space [] c e = rw (eq-eqb c 32 e) refl
trimmed_space (x ∷ xs) c e = ap (without_space x) (trimmed_space xs c e)

kept_before : (x : ℕ) (xs : List ℕ) (c : ℕ) → without_space x (xs ++ c ∷ []) ≡ x ∷ (xs ++ c ∷ [])
kept_before x [] c = refl
kept_before x (y ∷ ys) c = refl

pub trimmed_other : (xs : List ℕ) (c : ℕ) → c ≢ 32 → trimmed (xs ++ c ∷ []) ≡ xs ++ c ∷ []
trimmed_other [] c ne = rw (ne_eqb c 32 ne) refl
trimmed_other (x ∷ xs) c ne = ap (without_space x) (trimmed_other xs c ne) ∙ kept_before x xs c

-- ---- records

one_fewer : (bytes : List ℕ) (count n : ℕ) → n < count
    → filter is_used (records_from (count - n) bytes n) ≡ filter is_used (tape_record bytes n ∷ records_from (count - (n + 1)) bytes (n + 1))
one_fewer bytes count n k = let less : count - n ≡ suc (count - (n + 1)) = omega (arith, k) in ap (λ m. filter is_used (records_from m bytes n)) less

kept : (r : List ℕ) (rest : List (List ℕ)) (b : Bool) → is_used r ≡ b → b ≡ true → filter is_used (r ∷ rest) ≡ r ∷ filter is_used rest
kept r rest b e h = rw (e ∙ h) refl

passed : (r : List ℕ) (rest : List (List ℕ)) (b : Bool) → is_used r ≡ b → b ≡ false → filter is_used (r ∷ rest) ≡ filter is_used rest
passed r rest b e h = rw (e ∙ h) refl

pub record_used : (bytes : List ℕ) (count n : ℕ) (whole now after : List (List ℕ)) (r : List ℕ) → n < count → now ++ filter is_used (records_from (count - n) bytes n) ≡ whole
    → r ≡ tape_record bytes n → is_used r ≡ true → after ≡ now ++ r ∷ [] → after ++ filter is_used (records_from (count - (n + 1)) bytes (n + 1)) ≡ whole
record_used bytes count n whole now after r k w e u a =
    let rest = records_from (count - (n + 1)) bytes (n + 1) in
    ap (λ x. x ++ filter is_used rest) a ∙ append_assoc now (r ∷ []) (filter is_used rest)
    ∙ ap (λ x. now ++ x) (sym (kept r rest true u refl) ∙ ap (λ x. filter is_used (x ∷ rest)) e ∙ sym (one_fewer bytes count n k)) ∙ w

pub record_skipped : (bytes : List ℕ) (count n : ℕ) (whole now : List (List ℕ)) (r : List ℕ) → n < count → now ++ filter is_used (records_from (count - n) bytes n) ≡ whole
    → r ≡ tape_record bytes n → is_used r ≡ false → now ++ filter is_used (records_from (count - (n + 1)) bytes (n + 1)) ≡ whole
record_skipped bytes count n whole now r k w e u =
    let rest = records_from (count - (n + 1)) bytes (n + 1) in
    ap (λ x. now ++ x) (sym (passed r rest false u refl) ∙ ap (λ x. filter is_used (x ∷ rest)) e ∙ sym (one_fewer bytes count n k)) ∙ w

pub records_begin : (bytes : List ℕ) → filter is_used (records_from (tape_record_count bytes - 0) bytes 0) ≡ used_records bytes
unfolding used_records
records_begin bytes = let e : tape_record_count bytes - 0 ≡ tape_record_count bytes = omega arith in ap (λ m. filter is_used (records_from m bytes 0)) e

pub records_done : (bytes : List ℕ) (count n : ℕ) (whole now : List (List ℕ)) → count ≤ n → now ++ filter is_used (records_from (count - n) bytes n) ≡ whole → now ≡ whole
records_done bytes count n whole now k w =
    let none : count - n ≡ 0 = omega (arith, k) in
    sym (append-nil now) ∙ sym (ap (λ m. now ++ filter is_used (records_from m bytes n)) none) ∙ w

-- ---- how many bytes a file can have

nearer_small : (from limit at : ℕ) → nearer from limit at ≤ limit
nearer_small from limit at = grind arith

limit_small : (from limit : ℕ) (records : List (List ℕ)) → limit_after from limit records ≤ limit
limit_small from limit [] = omega arith
limit_small from limit (r ∷ rest) =
    omega (arith, limit_small from (nearer from limit (offset_of r)) rest, nearer_small from limit (offset_of r))

pub room_inside : (bytes r : List ℕ) → room_of bytes r ≤ length bytes - offset_of r
unfolding room_of
room_inside bytes r = omega (arith, limit_small (offset_of r) (length bytes) (used_records bytes))

pub room_is : (bytes inner r : List ℕ) (records : List (List ℕ)) (from limit room : ℕ) → inner ≡ bytes → records ≡ used_records bytes → from ≡ offset_of r
    → limit ≡ limit_after from (length inner) records → room ≡ limit - from → room ≡ room_of bytes r
unfolding room_of
room_is bytes inner r records from limit room i e f l h =
    h ∙ ap (λ n. n - from) (l ∙ ap (λ xs. limit_after from (length xs) records) i ∙ ap (λ x. limit_after from (length bytes) x) e)
    ∙ ap (λ n. limit_after n (length bytes) (used_records bytes) - n) f

pub size_is : (bytes r : List ℕ) (start end stated room size : ℕ) → start ≡ start_address r → end ≡ end_address r → stated ≡ end - start → room ≡ room_of bytes r
    → size ≡ size_in start stated room → size ≡ tape_size bytes r
size_is bytes r start end stated room size s e t h i =
    i ∙ ap (λ n. size_in start n room) (t ∙ ap (λ n. n - start) e) ∙ ap (λ n. size_in n (end_address r - n) room) s ∙ ap (λ n. size_in (start_address r) (end_address r - start_address r) n) h

pub size_inside : (start stated room : ℕ) → size_in start stated room ≤ room
size_inside start stated room = grind arith

pub size_small : (start stated room : ℕ) → stated ≤ 65536 → size_in start stated room ≤ 65536
size_small start stated room h = grind arith

-- ---- the bytes of a file

pub told_cut : (bytes r : List ℕ) (at : ℕ) → length bytes ≤ at → at ≡ offset_of r → tape_told bytes (Some r) ≡ Err (Cut at)
told_cut bytes r at h e = rw (le-ltb (offset_of r) (length bytes) (omega arith)) (ap (λ n. let t : FileTold = Err (Cut n) in t) (sym e))

pub told_whole : (bytes r file : List ℕ) (from size : ℕ) → from < length bytes → from ≡ offset_of r → size ≡ tape_size bytes r
    → file ≡ slice_index r 2 ∷ slice_index r 3 ∷ slice_range bytes from (from + size) → tape_told bytes (Some r) ≡ Ok file
told_whole bytes r file from size h e s f =
    rw (lt-ltb (offset_of r) (length bytes) (omega arith))
    (ap (λ n. let t : FileTold = Ok (slice_index r 2 ∷ slice_index r 3 ∷ slice_range bytes n (n + tape_size bytes r)) in t) (sym e)
    ∙ ap (λ n. let t : FileTold = Ok (slice_index r 2 ∷ slice_index r 3 ∷ slice_range bytes from (from + n)) in t) (sym s)
    ∙ ap (λ x. let t : FileTold = Ok x in t) (sym f))

pub file_is : (bytes : List ℕ) (n : ℕ) (records : List (List ℕ)) (found : Option (List ℕ)) → records ≡ used_records bytes → slice_get records n ≡ found
    → tape_file bytes n ≡ tape_told bytes found
unfolding tape_file
file_is bytes n records found e f = ap (tape_told bytes) (ap (λ x. slice_get x n) (sym e) ∙ f)
