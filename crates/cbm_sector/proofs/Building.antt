use Rattle.std.proofs.Common.{◌≡◌, ℕ, suc, ◌+◌, ◌*◌, ◌-◌, ◌<◌, ◌≤◌, List, [], ◌∷◌, ◌++◌, length, get_or, take, replicate, refl, sym, ap, ◌∙◌, arith, Bool}
use Rattle.std.proofs.lemmas.List.{append_assoc, take-replicate}
use Rattle.std.proofs.lemmas.Grind.{flat_map-append}
use Rattle.cbm_gcr.specs.Code.{code, bits, bits_of}
use Rattle.cbm_medium.specs.Place.{sectors_on}
use Rattle.cbm_sector.specs.Answer.{data_block}
use Rattle.cbm_sector.specs.Fresh.{mark, gap_bits, zero_bytes, laid, fresh, fresh_sectors, header_block, bytes_on}
use Rattle.cbm_sector.proofs.Reading.{code-append}

bits-append : (xs ys : List ℕ) → bits_of (xs ++ ys) ≡ bits_of xs ++ bits_of ys
bits-append xs ys = flat_map-append (bits 8) xs ys

eight : (v : List ℕ) → length v ≡ 8 → v ≡ (get_or v 0 0 ∷ get_or v 1 0 ∷ get_or v 2 0 ∷ get_or v 3 0 ∷ []) ++ (get_or v 4 0 ∷ get_or v 5 0 ∷ get_or v 6 0 ∷ get_or v 7 0 ∷ [])
eight [] l = absurd (omega arith)
eight (a ∷ []) l = absurd (omega arith)
eight (a ∷ b ∷ []) l = absurd (omega arith)
eight (a ∷ b ∷ c ∷ []) l = absurd (omega arith)
eight (a ∷ b ∷ c ∷ d ∷ []) l = absurd (omega arith)
eight (a ∷ b ∷ c ∷ d ∷ e ∷ []) l = absurd (omega arith)
eight (a ∷ b ∷ c ∷ d ∷ e ∷ f ∷ []) l = absurd (omega arith)
eight (a ∷ b ∷ c ∷ d ∷ e ∷ f ∷ g ∷ []) l = absurd (omega arith)
eight (a ∷ b ∷ c ∷ d ∷ e ∷ f ∷ g ∷ h ∷ []) l = refl
eight (a ∷ b ∷ c ∷ d ∷ e ∷ f ∷ g ∷ h ∷ i ∷ more) l = absurd (omega arith)

-- two groups appended are the code of a header
pub header_built : (xs ys zs p q h : List ℕ) → ys ≡ xs ++ p → zs ≡ ys ++ q → length h ≡ 8
    → bits_of p ≡ code (get_or h 0 0 ∷ get_or h 1 0 ∷ get_or h 2 0 ∷ get_or h 3 0 ∷ [])
    → bits_of q ≡ code (get_or h 4 0 ∷ get_or h 5 0 ∷ get_or h 6 0 ∷ get_or h 7 0 ∷ [])
    → bits_of zs ≡ bits_of xs ++ code h
header_built xs ys zs p q h e f l i j =
    ap bits_of f ∙ bits-append ys q
    ∙ ap (λ (b : List Bool). b ++ bits_of q) (ap bits_of e ∙ bits-append xs p)
    ∙ append_assoc (bits_of xs) (bits_of p) (bits_of q)
    ∙ ap (λ (b : List Bool). bits_of xs ++ (b ++ bits_of q)) i
    ∙ ap (λ (b : List Bool). bits_of xs ++ (code (get_or h 0 0 ∷ get_or h 1 0 ∷ get_or h 2 0 ∷ get_or h 3 0 ∷ []) ++ b)) j
    ∙ ap (λ (b : List Bool). bits_of xs ++ b) (sym (code-append (get_or h 0 0 ∷ get_or h 1 0 ∷ get_or h 2 0 ∷ get_or h 3 0 ∷ []) (get_or h 4 0 ∷ get_or h 5 0 ∷ get_or h 6 0 ∷ get_or h 7 0 ∷ [])))
    ∙ ap (λ (v : List ℕ). bits_of xs ++ code v) (sym (eight h l))

six : (o a b c d e f : List Bool) → (((((o ++ a) ++ b) ++ c) ++ d) ++ e) ++ f ≡ o ++ (a ++ (b ++ (c ++ (d ++ (e ++ f)))))
six o a b c d e f =
    append_assoc ((((o ++ a) ++ b) ++ c) ++ d) e f
    ∙ append_assoc (((o ++ a) ++ b) ++ c) d (e ++ f)
    ∙ append_assoc ((o ++ a) ++ b) c (d ++ (e ++ f))
    ∙ append_assoc (o ++ a) b (c ++ (d ++ (e ++ f)))
    ∙ append_assoc o a (b ++ (c ++ (d ++ (e ++ f))))

-- six parts appended are a sector
pub sector_built : (o x1 x2 x3 x4 x5 x6 h b : List ℕ) → x1 ≡ o ++ replicate 5 255 → bits_of x2 ≡ bits_of x1 ++ code h → x3 ≡ x2 ++ replicate 9 85
    → x4 ≡ x3 ++ replicate 5 255 → x5 ≡ x4 ++ b → x6 ≡ x5 ++ replicate 8 85 → bits_of x6 ≡ bits_of o ++ laid h (bits_of b)
unfolding laid mark gap_bits
sector_built o x1 x2 x3 x4 x5 x6 h b e1 e2 e3 e4 e5 e6 =
    ap bits_of e6 ∙ bits-append x5 (replicate 8 85)
    ∙ ap (λ (t : List Bool). t ++ bits_of (replicate 8 85)) (ap bits_of e5 ∙ bits-append x4 b
    ∙ ap (λ (t : List Bool). t ++ bits_of b) (ap bits_of e4 ∙ bits-append x3 (replicate 5 255)
    ∙ ap (λ (t : List Bool). t ++ bits_of (replicate 5 255)) (ap bits_of e3 ∙ bits-append x2 (replicate 9 85)
    ∙ ap (λ (t : List Bool). t ++ bits_of (replicate 9 85)) (e2
    ∙ ap (λ (t : List Bool). t ++ code h) (ap bits_of e1 ∙ bits-append o (replicate 5 255))))))
    ∙ six (bits_of o) (bits_of (replicate 5 255)) (code h) (bits_of (replicate 9 85)) (bits_of (replicate 5 255)) (bits_of b) (bits_of (replicate 8 85))

pub sectors_none : (track : ℕ) (id : List ℕ) → fresh_sectors track id 0 ≡ []
unfolding fresh_sectors
sectors_none track id = refl

pub sectors_more : (track : ℕ) (id : List ℕ) (s : ℕ) (old new : List ℕ) (header block raw : List ℕ) → bits_of old ≡ fresh_sectors track id s → bits_of new ≡ bits_of old ++ laid header (bits_of block)
    → header ≡ header_block track id s → bits_of block ≡ code raw → raw ≡ data_block (replicate 256 0) → bits_of new ≡ fresh_sectors track id (s + 1)
unfolding fresh_sectors zero_bytes
sectors_more track id s old new header block raw e f h b d =
    let m : suc s ≡ s + 1 = omega arith in
    f ∙ ap (λ (t : List Bool). t ++ laid header (bits_of block)) e
    ∙ ap (λ (v : List ℕ). fresh_sectors track id s ++ laid v (bits_of block)) h
    ∙ ap (λ (t : List Bool). fresh_sectors track id s ++ laid (header_block track id s) t) (b ∙ ap code d)
    ∙ ap (fresh_sectors track id) m

-- the zones
pub record IsSized (t : ℕ) : Type 0 where
  pub fits : 362 * sectors_on t ≤ bytes_on t
  pub rest : bytes_on t - 362 * sectors_on t ≤ 264
  pub few : sectors_on t ≤ 21
  pub some : 0 < sectors_on t
  pub most : bytes_on t ≤ 7692

pub sized : (t : ℕ) → 0 < t → t < 36 → IsSized t
sized t z h = record { fits = grind arith; rest = grind arith; few = grind arith; some = grind arith; most = grind arith }

pub track_built : (track : ℕ) (id items all : List ℕ) (r : ℕ) → bits_of items ≡ fresh_sectors track id (sectors_on track) → all ≡ items ++ take r (replicate 264 85) → r ≡ bytes_on track - 362 * sectors_on track → r ≤ 264 → bits_of all ≡ fresh track id
unfolding fresh gap_bits
track_built track id items all r e f g h =
    ap bits_of f ∙ bits-append items (take r (replicate 264 85))
    ∙ ap (λ (v : List ℕ). bits_of items ++ bits_of v) (take-replicate r 264 85 h)
    ∙ ap (λ (n : ℕ). bits_of items ++ bits_of (replicate n 85)) g
    ∙ ap (λ (t : List Bool). t ++ bits_of (replicate (bytes_on track - 362 * sectors_on track) 85)) e
