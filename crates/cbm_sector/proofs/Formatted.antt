use Rattle.std.proofs.Common.{◌≡◌, ℕ, zero, suc, ◌+◌, ◌*◌, ◌-◌, ◌/◌, ◌%◌, ◌<◌, List, [], ◌∷◌, ◌++◌, length, get_or, replicate, refl, sym, ap, ◌∙◌, arith, inl, inr, Bool, true, false}
use Rattle.std.proofs.lemmas.List.{get_or_append_left, get_or-append-add, get_or-replicate, length-replicate, length-append, get_or_past}
use Rattle.std.proofs.lemmas.Bool.{cases_lt, cases_eq, agree_below_at}
use Rattle.cbm_gcr.specs.Code.{code, bits_of}
use Rattle.cbm_medium.specs.Place.{sectors_on}
use Rattle.cbm_track.specs.Circle.{circle_bit}
use Rattle.cbm_track.proofs.Bytes.{bit_in, bit_at_byte, length-bits_of}
use Rattle.cbm_track.proofs.Places.{bit_below}
use Rattle.cbm_sector.specs.Decoding.{IsBytes}
use Rattle.cbm_sector.specs.Answer.{data_block}
use Rattle.cbm_sector.specs.Fresh.{mark, gap_bits, zero_bytes, laid, fresh, fresh_sector, fresh_sectors, header_block, bytes_on}
use Rattle.cbm_sector.proofs.Coding.{length-code}
use Rattle.cbm_sector.proofs.Showing.{block_length, block_is_bytes, xor_below}
use Rattle.cbm_sector.proofs.Laid.{IsLaid}
use Rattle.cbm_sector.proofs.Building.{sized}

-- ---- marks and gaps by the place

length-mark : length mark ≡ 40
unfolding mark
length-mark = length-bits_of (replicate 5 255)

length-gap : (n : ℕ) → length (gap_bits n) ≡ 8 * n
unfolding gap_bits
length-gap n = length-bits_of (replicate n 85) ∙ ap (λ (m : ℕ). 8 * m) (length-replicate {A = ℕ} n 85)

mark_bit : (k : ℕ) → k < 40 → get_or mark k false ≡ true
unfolding mark
mark_bit k h =
    let e : k ≡ 8 * (k / 8) + k % 8 = omega arith in
    ap (λ (p : ℕ). get_or (bits_of (replicate 5 255)) p false) e
    ∙ bit_at_byte (replicate 5 255) (k / 8) (k % 8) (omega (arith, length-replicate {A = ℕ} 5 255)) (omega arith)
    ∙ ap (λ (x : ℕ). bit_in x (k % 8)) (get_or-replicate {A = ℕ} 5 (k / 8) 255 0 (omega arith))
    ∙ agree_below_at (λ k. bit_in 255 k) (λ k. true) 8 (k % 8) refl (omega arith)

gap_bit : (n k : ℕ) → 2 * k < 8 * n → get_or (gap_bits n) (2 * k) false ≡ false
unfolding gap_bits
gap_bit n k h =
    let e : 2 * k ≡ 8 * (k / 4) + 2 * (k % 4) = omega arith in
    ap (λ (p : ℕ). get_or (bits_of (replicate n 85)) p false) e
    ∙ bit_at_byte (replicate n 85) (k / 4) (2 * (k % 4)) (omega (arith, length-replicate {A = ℕ} n 85)) (omega arith)
    ∙ ap (λ (x : ℕ). bit_in x (2 * (k % 4))) (get_or-replicate {A = ℕ} n (k / 4) 85 0 (omega arith))
    ∙ agree_below_at (λ q. bit_in 85 (2 * q)) (λ q. false) 4 (k % 4) refl (omega arith)

-- ---- a sector by the place

skip : (xs ys : List Bool) (n k q : ℕ) → length xs ≡ n → q ≡ n + k → get_or (xs ++ ys) q false ≡ get_or ys k false
skip xs ys n k q e f = ap (λ (p : ℕ). get_or (xs ++ ys) p false) (omega arith) ∙ get_or-append-add xs ys k false

-- what stands in a sector
pub record Parts (t : List Bool) (h : List ℕ) (b : List Bool) : Type 0 where
  pub size : length t ≡ 2896
  pub first_mark : (k : ℕ) → k < 40 → get_or t k false ≡ true
  pub header : (k : ℕ) → k < 80 → get_or t (40 + k) false ≡ get_or (code h) k false
  pub first_gap : (k : ℕ) → 2 * k < 72 → get_or t (120 + 2 * k) false ≡ false
  pub second_mark : (k : ℕ) → k < 40 → get_or t (192 + k) false ≡ true
  pub block : (k : ℕ) → k < 2600 → get_or t (232 + k) false ≡ get_or b k false
  pub second_gap : (k : ℕ) → 2 * k < 64 → get_or t (2832 + 2 * k) false ≡ false

pub parts : (h : List ℕ) (b : List Bool) → length h ≡ 8 → length b ≡ 2600 → Parts (laid h b) h b
unfolding laid
parts h b l m = record {
  size = omega (arith, length-append mark r1, length-append (code h) r2, length-append (gap_bits 9) r3, length-append mark r4, length-append b (gap_bits 8), length-mark, c, length-gap 9, length-gap 8);
  first_mark = λ k u. get_or_append_left mark r1 false k (omega (arith, length-mark)) ∙ mark_bit k u;
  header = λ k u. skip mark r1 40 k (40 + k) length-mark refl ∙ get_or_append_left (code h) r2 false k (omega (arith, c));
  first_gap = λ k u. skip mark r1 40 (80 + 2 * k) (120 + 2 * k) length-mark (omega arith) ∙ skip (code h) r2 80 (2 * k) (80 + 2 * k) c refl
      ∙ get_or_append_left (gap_bits 9) r3 false (2 * k) (omega (arith, length-gap 9)) ∙ gap_bit 9 k u;
  second_mark = λ k u. skip mark r1 40 (152 + k) (192 + k) length-mark (omega arith) ∙ skip (code h) r2 80 (72 + k) (152 + k) c (omega arith) ∙ skip (gap_bits 9) r3 72 k (72 + k) (length-gap 9) refl
      ∙ get_or_append_left mark r4 false k (omega (arith, length-mark)) ∙ mark_bit k u;
  block = λ k u. skip mark r1 40 (192 + k) (232 + k) length-mark (omega arith) ∙ skip (code h) r2 80 (112 + k) (192 + k) c (omega arith) ∙ skip (gap_bits 9) r3 72 (40 + k) (112 + k) (length-gap 9) (omega arith)
      ∙ skip mark r4 40 k (40 + k) length-mark refl ∙ get_or_append_left b (gap_bits 8) false k (omega (arith, m));
  second_gap = λ k u. skip mark r1 40 (2792 + 2 * k) (2832 + 2 * k) length-mark (omega arith) ∙ skip (code h) r2 80 (2712 + 2 * k) (2792 + 2 * k) c (omega arith) ∙ skip (gap_bits 9) r3 72 (2640 + 2 * k) (2712 + 2 * k) (length-gap 9) (omega arith)
      ∙ skip mark r4 40 (2600 + 2 * k) (2640 + 2 * k) length-mark (omega arith) ∙ skip b (gap_bits 8) 2600 (2 * k) (2600 + 2 * k) m refl ∙ gap_bit 8 k u;
}
  where
    r4 : List Bool
    r4 = b ++ gap_bits 8

    r3 : List Bool
    r3 = mark ++ r4

    r2 : List Bool
    r2 = gap_bits 9 ++ r3

    r1 : List Bool
    r1 = code h ++ r2

    c : length (code h) ≡ 80
    c = length-code h ∙ ap (λ (n : ℕ). 10 * n) l

-- ---- the sectors of a track

pub length-zeros : length zero_bytes ≡ 256
unfolding zero_bytes
length-zeros = length-replicate {A = ℕ} 256 0

zeros_bytes : IsBytes zero_bytes
unfolding zero_bytes
zeros_bytes i = elim (cases_lt i 256) [
  | inl l ↦ rw (get_or-replicate {A = ℕ} 256 i 0 0 l) (omega arith)
  | inr g ↦ rw (get_or_past {X = ℕ} (replicate 256 0) i 0 (omega (arith, length-replicate {A = ℕ} 256 0))) (omega arith)
]

pub sector_parts : (track : ℕ) (id : List ℕ) (s : ℕ) → Parts (fresh_sector track id s) (header_block track id s) (code (data_block zero_bytes))
sector_parts track id s = parts (header_block track id s) (code (data_block zero_bytes)) refl (length-code (data_block zero_bytes) ∙ ap (λ (n : ℕ). 10 * n) (block_length zero_bytes length-zeros))

pub length-fresh_sectors : (track : ℕ) (id : List ℕ) (n : ℕ) → length (fresh_sectors track id n) ≡ 2896 * n
unfolding fresh_sectors
length-fresh_sectors track id zero = refl
length-fresh_sectors track id (suc n) = omega (arith, length-append (fresh_sectors track id n) (fresh_sector track id n), length-fresh_sectors track id n, (sector_parts track id n).size)

sector_bits : (track : ℕ) (id : List ℕ) (n s r : ℕ) → s < n → r < 2896 → get_or (fresh_sectors track id n) (2896 * s + r) false ≡ get_or (fresh_sector track id s) r false
unfolding fresh_sectors
sector_bits track id zero s r h l = absurd (omega arith)
sector_bits track id (suc n) s r h l = elim (cases_eq s n) [
  | inr ne ↦ get_or_append_left (fresh_sectors track id n) (fresh_sector track id n) false (2896 * s + r) (omega (arith, length-fresh_sectors track id n)) ∙ sector_bits track id n s r (omega arith) l
  | inl e ↦ skip (fresh_sectors track id n) (fresh_sector track id n) (2896 * n) r (2896 * s + r) (length-fresh_sectors track id n) (omega arith) ∙ ap (λ (m : ℕ). get_or (fresh_sector track id m) r false) (sym e)
]

pub length-fresh : (track : ℕ) (id : List ℕ) → 0 < track → track < 36 → length (fresh track id) ≡ 8 * bytes_on track
unfolding fresh
length-fresh track id z h =
    let s = sized track z h in
    omega (arith, s.fits, length-append (fresh_sectors track id (sectors_on track)) (gap_bits (bytes_on track - 362 * sectors_on track)), length-fresh_sectors track id (sectors_on track), length-gap (bytes_on track - 362 * sectors_on track))

in_sectors : (track : ℕ) (id : List ℕ) (s r : ℕ) → s < sectors_on track → r < 2896 → get_or (fresh track id) (2896 * s + r) false ≡ get_or (fresh_sector track id s) r false
unfolding fresh
in_sectors track id s r l b =
    get_or_append_left (fresh_sectors track id (sectors_on track)) (gap_bits (bytes_on track - 362 * sectors_on track)) false (2896 * s + r) (omega (arith, length-fresh_sectors track id (sectors_on track)))
    ∙ sector_bits track id (sectors_on track) s r l b

fresh_bit : (track : ℕ) (id : List ℕ) (s r p : ℕ) → 0 < track → track < 36 → s < sectors_on track → r < 2896 → p ≡ 2896 * s + r → circle_bit (fresh track id) p ≡ get_or (fresh_sector track id s) r false
fresh_bit track id s r p z h l b e =
    ap (circle_bit (fresh track id)) e
    ∙ bit_below (fresh track id) (2896 * s + r) (omega (arith, length-fresh track id z h, (sized track z h).fits))
    ∙ in_sectors track id s r l b

-- ---- what is laid on a fresh track

header_bytes : (track : ℕ) (id : List ℕ) (s : ℕ) → track < 256 → IsBytes id → s < 256 → IsBytes (header_block track id s)
header_bytes track id s t b h zero = omega arith
header_bytes track id s t b h (suc zero) = xor_below (s ∷ track ∷ get_or id 1 0 ∷ get_or id 0 0 ∷ []) 0 (omega arith) (four_bytes)
  where
    four_bytes : IsBytes (s ∷ track ∷ get_or id 1 0 ∷ get_or id 0 0 ∷ [])
    four_bytes zero = h
    four_bytes (suc zero) = t
    four_bytes (suc (suc zero)) = b 1
    four_bytes (suc (suc (suc zero))) = b 0
    four_bytes (suc (suc (suc (suc i)))) = omega arith
header_bytes track id s t b h (suc (suc zero)) = h
header_bytes track id s t b h (suc (suc (suc zero))) = t
header_bytes track id s t b h (suc (suc (suc (suc zero)))) = b 1
header_bytes track id s t b h (suc (suc (suc (suc (suc zero))))) = b 0
header_bytes track id s t b h (suc (suc (suc (suc (suc (suc zero)))))) = omega arith
header_bytes track id s t b h (suc (suc (suc (suc (suc (suc (suc zero))))))) = omega arith
header_bytes track id s t b h (suc (suc (suc (suc (suc (suc (suc (suc i)))))))) = omega arith

pub header_laid : (track : ℕ) (id : List ℕ) (s : ℕ) → 0 < track → track < 36 → IsBytes id → s < sectors_on track → IsLaid (fresh track id) (2896 * s) (header_block track id s) 72
header_laid track id s z h b l =
    let p = sector_parts track id s in
    record {
      ones = λ k u. fresh_bit track id s k (2896 * s + k) z h l (omega arith) refl ∙ p.first_mark k u;
      bytes = header_bytes track id s (omega arith) b (omega (arith, (sized track z h).few));
      some = omega arith;
      first = refl;
      here = λ k u. fresh_bit track id s (40 + k) (2896 * s + 40 + k) z h l (omega arith) (omega arith) ∙ p.header k u;
      gaps = λ k u. fresh_bit track id s (120 + 2 * k) (2896 * s + 40 + 80 + 2 * k) z h l (omega arith) (omega arith) ∙ p.first_gap k u;
    }

pub data_laid : (track : ℕ) (id : List ℕ) (s : ℕ) → 0 < track → track < 36 → s < sectors_on track → IsLaid (fresh track id) (2896 * s + 192) (data_block zero_bytes) 64
data_laid track id s z h l =
    let p = sector_parts track id s in
    let m : length (data_block zero_bytes) ≡ 260 = block_length zero_bytes length-zeros in
    record {
      ones = λ k u. fresh_bit track id s (192 + k) (2896 * s + 192 + k) z h l (omega arith) (omega arith) ∙ p.second_mark k u;
      bytes = block_is_bytes zero_bytes zeros_bytes;
      some = omega (arith, m);
      first = refl;
      here = λ k u. fresh_bit track id s (232 + k) (2896 * s + 192 + 40 + k) z h l (omega (arith, m)) (omega arith) ∙ p.block k (omega (arith, m));
      gaps = λ k u. fresh_bit track id s (2832 + 2 * k) (2896 * s + 192 + 40 + 10 * length (data_block zero_bytes) + 2 * k) z h l (omega arith) (omega (arith, m)) ∙ p.second_gap k u;
    }
