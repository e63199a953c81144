-- Lines of bytes.
use Rattle.std.proofs.Common.{◌≡◌, ◌≢◌, ℕ, ◌+◌, ◌<◌, ◌≤◌, List, [], ◌∷◌, ◌++◌, length, Option, Some, None, refl, ap, sym, ◌∙◌, arith, append_assoc, append-nil, length-append, add-one, true, false}
use Rattle.std.proofs.Common.{◌==◌}
use Rattle.std.specs.Io.KnownBytes.{Keeps, Consumes, IsAtEnd}
use Rattle.std.specs.Bool.{MatchBool}
use Rattle.std.proofs.Common.{Bool, not}
use Rattle.bus_traces.specs.Lines.{lines_of, TakesLine, BeginsTooLong}

-- no byte is 10
abbrev pub IsUnbroken : List ℕ → Type 0
IsUnbroken [] = Unit {0}
IsUnbroken (b ∷ bytes) = (b ≢ 10) × IsUnbroken bytes

pub unbroken-append : (line : List ℕ) (b : ℕ) → IsUnbroken line → b ≢ 10 → IsUnbroken (line ++ b ∷ [])
unbroken-append [] b h n = (n, tt)
unbroken-append (x ∷ line) b h n = (h.0, unbroken-append line b h.1 n)

pub consumes-nothing : (old : Option (List ℕ)) → Consumes old old []
consumes-nothing None = tt
consumes-nothing (Some xs) = refl

pub consumes-more : (a b c : Option (List ℕ)) (xs ys : List ℕ) → Consumes a b xs → Consumes b c ys → Consumes a c (xs ++ ys)
consumes-more None b c xs ys h k = tt
consumes-more (Some l) None c xs ys h k = absurd h
consumes-more (Some l) (Some m) None xs ys h k = absurd k
consumes-more (Some l) (Some m) (Some n) xs ys h k = h ∙ ap (λ t. xs ++ t) k ∙ sym (append_assoc xs ys n)

pub consumes-kept : (a b c : Option (List ℕ)) (ys : List ℕ) → Keeps a b → Consumes b c ys → Consumes a c ys
consumes-kept None b c ys h k = tt
consumes-kept (Some l) None c ys h k = absurd h
consumes-kept (Some l) (Some m) None ys h k = absurd k
consumes-kept (Some l) (Some m) (Some n) ys h k = sym h ∙ k

pub then-kept : (a b c : Option (List ℕ)) (ys : List ℕ) → Consumes a b ys → Keeps b c → Consumes a c ys
then-kept None b c ys h k = tt
then-kept (Some l) None c ys h k = absurd h
then-kept (Some l) (Some m) None ys h k = absurd k
then-kept (Some l) (Some m) (Some n) ys h k = h ∙ ap (λ t. ys ++ t) (sym k)

pub end-kept : (a b : Option (List ℕ)) → Keeps a b → IsAtEnd b → IsAtEnd a
end-kept None b h k = tt
end-kept (Some l) None h k = absurd h
end-kept (Some l) (Some m) h k = sym h ∙ k

-- a line and its end
pub broken : (line rest : List ℕ) → IsUnbroken line → lines_of (line ++ 10 ∷ rest) ≡ line ∷ lines_of rest
broken [] rest h = refl
broken (b ∷ line) rest h = let r = broken line rest h.1 in let n = h.0 in grind (arith, r, n)

-- the last line may lack its end
unended : (b : ℕ) (line : List ℕ) → IsUnbroken (b ∷ line) → lines_of (b ∷ line) ≡ (b ∷ line) ∷ []
unended b [] h = let n = h.0 in grind (arith, n)
unended b (c ∷ line) h = let r = unended c line h.1 in let n = h.0 in grind (arith, r, n)

-- the first line is at least as long as what has no end in it
pub record BeginsAt (bytes : List ℕ) (n : ℕ) : Type 0 where
  pub first : List ℕ
  pub others : List (List ℕ)
  pub split : lines_of bytes ≡ first ∷ others
  pub long : n ≤ length first

-- a byte in front of lines of which the first has at least n bytes
onto : (b n : ℕ) (bytes : List ℕ) → b ≢ 10 → BeginsAt bytes n → BeginsAt (b ∷ bytes) (n + 1)
onto b n bytes other r = record {
  first = b ∷ r.first;
  others = r.others;
  split = let e = r.split in grind (arith, e, other);
  long = let l = r.long in omega (arith, l);
}

alone : (b : ℕ) (bytes : List ℕ) → b ≢ 10 → BeginsAt (b ∷ bytes) 1
alone b [] other = record { first = b ∷ []; others = []; split = grind (arith, other); long = omega arith }
alone b (c ∷ bytes) other =
    elim (lines_of (c ∷ bytes)) as (λ ls. lines_of (c ∷ bytes) ≡ ls → BeginsAt (b ∷ c ∷ bytes) 1) [
      | [] ↦ λ e. record { first = b ∷ []; others = []; split = grind (arith, e, other); long = omega arith }
      | line ∷ lines ↦ λ e. record { first = b ∷ line; others = lines; split = grind (arith, e, other); long = omega arith }
    ] refl

begins_at : (b : ℕ) (line rest : List ℕ) → IsUnbroken (b ∷ line) → BeginsAt ((b ∷ line) ++ rest) (length (b ∷ line))
begins_at b [] rest h = alone b rest h.0
begins_at b (c ∷ line) rest h = rw (← add-one (length (c ∷ line))) (onto b (length (c ∷ line)) ((c ∷ line) ++ rest) h.0 (begins_at c line rest h.1))

-- a line that is full, and a further byte
pub too_long : (a b c : Option (List ℕ)) (line : List ℕ) (x : ℕ) → Consumes a b line → Consumes b c (x ∷ []) → x ≢ 10 → IsUnbroken line
    → length line ≡ 1000 → BeginsTooLong a
too_long None b c line x h k n u full = tt
too_long (Some l) None c line x h k n u full = absurd h
too_long (Some l) (Some m) None line x h k n u full = absurd k
too_long (Some l) (Some m) (Some r) [] x h k n u full = absurd (omega arith)
too_long (Some l) (Some m) (Some r) (y ∷ line) x h k n u full =
    let b = begins_at y (line ++ x ∷ []) r (unbroken-append (y ∷ line) x u n) in
    let whole : l ≡ (y ∷ line ++ x ∷ []) ++ r = h ∙ (ap (λ t. (y ∷ line) ++ t) k ∙ sym (append_assoc (y ∷ line) (x ∷ []) r)) in
    let long : 1000 < length b.first = let e = b.long in omega (arith, e, length-append line (x ∷ [])) in
    (b.first, b.others, ap lines_of whole ∙ b.split, long)

-- what a line's end says of the bytes that were there
pub at_break : (a b c : Option (List ℕ)) (line : List ℕ) → Consumes a b line → Consumes b c (10 ∷ []) → IsUnbroken line → TakesLine a c line
at_break None b c line h k u = tt
at_break (Some l) None c line h k u = absurd h
at_break (Some l) (Some m) None line h k u = absurd k
at_break (Some l) (Some m) (Some n) line h k u = ap lines_of h ∙ (ap (λ t. lines_of (line ++ t)) k ∙ broken line n u)

-- what the end says, after a line and after none
pub at_end : (a b : Option (List ℕ)) (line : List ℕ) → Consumes a b line → IsAtEnd b → IsUnbroken line → 0 < length line → TakesLine a b line
at_end None b line h k u n = tt
at_end (Some l) None line h k u n = absurd h
at_end (Some l) (Some m) [] h k u n = absurd (omega arith)
at_end (Some l) (Some m) (x ∷ line) h k u n = rw (h, k) (ap lines_of (append-nil (x ∷ line)) ∙ unended x line u)

pub none_left : (a b : Option (List ℕ)) (line : List ℕ) → Consumes a b line → IsAtEnd b → length line ≡ 0 → IsAtEnd a
none_left None b line h k n = tt
none_left (Some l) None line h k n = absurd h
none_left (Some l) (Some m) [] h k n = h ∙ k
none_left (Some l) (Some m) (x ∷ line) h k n = absurd (omega arith)

pub end_of_bytes : (empty : Bool) (a b c : Option (List ℕ)) (line : List ℕ) → empty ≡ (length line == 0) → Consumes a b line → Keeps b c × IsAtEnd c
    → IsUnbroken line → MatchBool (not empty) (TakesLine a c line) (IsAtEnd a)
end_of_bytes true a b c line e h k u =
    let n : length line ≡ 0 = grind (arith, e) in none_left a b line h (end-kept b c k.0 k.1) n
end_of_bytes false a b c line e h k u =
    let n : 0 < length line = grind (arith, e) in at_end a c line (then-kept a b c line h k.0) k.1 u n
