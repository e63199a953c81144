-- Tracks that were formatted and then written keep their marks, headers and gaps, and their blocks are the code of what is shown.
use Rattle.std.proofs.Common.{◌≡◌, ◌≢◌, ◌⊎◌, ℕ, ◌+◌, ◌*◌, ◌-◌, ◌<◌, ◌≤◌, List, [], length, get_or, replicate, refl, sym, ap, subst, ◌∙◌, arith, inl, inr, Bool, false, Ok, Err}
use Rattle.std.proofs.lemmas.Bool.{cases_eq, cases_order}
use Rattle.cbm_medium.specs.Place.{Place, Has, sectors_on}
use Rattle.cbm_medium.specs.Content.{Cell, Content, written}
use Rattle.cbm_medium.proofs.Places.{place_decide, written_there, written_elsewhere}
use Rattle.cbm_track.specs.Circle.{circle_bit}
use Rattle.cbm_track.proofs.Places.{bit_round}
use Rattle.cbm_sector.specs.Answer.{data_block, block_code, IsOverwritten}
use Rattle.cbm_sector.specs.Decoding.{IsBytes}
use Rattle.cbm_sector.specs.Fresh.{block_place, bytes_on, fresh, zero_bytes}
use Rattle.cbm_sector.proofs.Coding.{length-code}
use Rattle.cbm_sector.proofs.Showing.{block_length}
use Rattle.cbm_sector.proofs.Building.{sized}
use Rattle.cbm_sector.proofs.Formatted.{length-fresh, length-zeros, data_laid}
use Rattle.cbm_g64.specs.Tracks.{bits_at, g64_content, IsCircleChanged, IsPut, AreFresh, AreLaid, AreFilled}
use Rattle.cbm_g64.proofs.Contents.{on_a_track}
use Rattle.cbm_g64.proofs.Held.{fresh_content}

-- a data block has 2,600 bits
block_bits : (bytes : List ℕ) → length bytes ≡ 256 → length (block_code bytes) ≡ 2600
block_bits bytes l = length-code (data_block bytes) ∙ ap (λ (n : ℕ). 10 * n) (block_length bytes l)

-- and its track has room for it
room : (p : Place) → Has 35 p → block_place p.sector + 2600 ≤ 8 * bytes_on p.track
room p h = let on = on_a_track p h in let s = sized p.track on.0 on.1 in omega (arith, s.fits, h.2)

-- what lies beside the bits that were written stays
kept : (old new bits : List Bool) (d n k : ℕ) → IsOverwritten old new d bits → length bits ≡ 2600 → length old ≡ n → length new ≡ n → d + 2600 ≤ n → k < n
    → (k < d) ⊎ (d + 2600 ≤ k) → circle_bit new k ≡ circle_bit old k
kept old new bits d n k o b l m f h (inl u) =
    sym (bit_round new k)
    ∙ ap (circle_bit new) (omega (arith, m))
    ∙ o.others (n + k - d) (omega (arith, b)) (omega (arith, l))
    ∙ ap (circle_bit old) (omega (arith, l))
    ∙ bit_round old k
kept old new bits d n k o b l m f h (inr u) =
    ap (circle_bit new) (omega arith) ∙ o.others (k - d) (omega (arith, b)) (omega (arith, l)) ∙ ap (circle_bit old) (omega arith)

same_ok : (xs ys : List ℕ) (cell : Cell) → cell ≡ Ok xs → cell ≡ Ok ys → xs ≡ ys
same_ok xs ys (Ok zs) e f = let a : zs ≡ xs = cc in let b : zs ≡ ys = cc in sym a ∙ b
same_ok xs ys (Err code) e f = cc

are_zeros : zero_bytes ≡ replicate 256 0
unfolding zero_bytes
are_zeros = refl

-- formatted tracks
pub filled_fresh : (id : List ℕ) (tracks : List (List Bool)) → IsBytes id → length id ≡ 2 → AreFresh id tracks → AreFilled id tracks
filled_fresh id tracks b l f = record {
  lengths = λ i h. ap length (f i h) ∙ length-fresh (i + 1) id (omega arith) (omega arith);
  between = λ i k h u c. ap (λ (t : List Bool). circle_bit t k) (f i h);
  blocks = λ p h bytes e k u.
      (let on = on_a_track p h in
      let on0 = on.0 in
      let on1 = on.1 in
      let there : bits_at tracks p.track ≡ fresh p.track id = f (p.track - 1) (omega arith) ∙ ap (λ (n : ℕ). fresh n id) (omega arith) in
      let same : zero_bytes ≡ bytes = are_zeros ∙ same_ok (replicate 256 0) bytes (g64_content tracks p) (ap (λ (c : Content). c p) (fresh_content id tracks b l f)) e in
      ap (λ (t : List Bool). circle_bit t (block_place p.sector + k)) there
      ∙ ap (circle_bit (fresh p.track id)) (omega arith)
      ∙ (data_laid p.track id p.sector on0 on1 h.2).here k (omega (arith, block_length zero_bytes length-zeros))
      ∙ ap (λ (v : List ℕ). get_or (block_code v) k false) same);
}

-- a sector is written
pub filled_put : (id : List ℕ) (old new : List (List Bool)) (a : Place) (bytes : List ℕ) → Has 35 a → length bytes ≡ 256 → AreLaid old → IsCircleChanged old new (a.track - 1) → IsPut old new a bytes
    → g64_content new ≡ written (g64_content old) a bytes → AreFilled id old → AreFilled id new
filled_put id old new a bytes h l laid changed put shows f = record {
  lengths = λ i u. changed.lengths i ∙ f.lengths i u;
  between = λ i k u m b. elim (cases_eq i (a.track - 1)) [
    | inr ne ↦ ap (λ (t : List Bool). circle_bit t k) (changed.others i ne) ∙ f.between i k u m b
    | inl e ↦ (let t : i + 1 ≡ a.track = omega (arith, on.0) in
        ap (λ (j : ℕ). circle_bit (get_or new j []) k) e
        ∙ here k (subst (λ (n : ℕ). k < 8 * bytes_on n) t m) (b a.sector (subst (λ (n : ℕ). a.sector < sectors_on n) (sym t) h.2))
        ∙ ap (λ (j : ℕ). circle_bit (get_or old j []) k) (sym e)
        ∙ f.between i k u m b)
  ];
  blocks = λ p q bs e k u. elim (place_decide p a) [
    | inl same ↦ (let shown : bytes ≡ bs = same_ok bytes bs (g64_content new a) (ap (λ (c : Content). c a) shows ∙ written_there (g64_content old) a bytes) (ap (g64_content new) (sym same) ∙ e) in
        ap (λ (x : Place). circle_bit (bits_at new x.track) (block_place x.sector + k)) same
        ∙ over.here k (omega (arith, block_bits bytes l))
        ∙ ap (λ (v : List ℕ). get_or (block_code v) k false) shown)
    | inr ne ↦ beside p q k u ne
        ∙ f.blocks p q bs (sym (ap (λ (c : Content). c p) shows ∙ written_elsewhere (g64_content old) a p bytes (λ w. ne (sym w))) ∙ e) k u
  ];
}
  where
    on : (0 < a.track) × (a.track < 36)
    on = on_a_track a h

    over : IsOverwritten (bits_at old a.track) (bits_at new a.track) (block_place a.sector) (block_code bytes)
    over = put.block (block_place a.sector) (laid.blocks a h)

    long : length (bits_at old a.track) ≡ 8 * bytes_on a.track
    long = let t : a.track - 1 + 1 ≡ a.track = omega (arith, on.0) in f.lengths (a.track - 1) (omega (arith, on.0, on.1)) ∙ ap (λ (n : ℕ). 8 * bytes_on n) t

    here : (k : ℕ) → k < 8 * bytes_on a.track → (k < block_place a.sector) ⊎ (block_place a.sector + 2600 ≤ k) → circle_bit (bits_at new a.track) k ≡ circle_bit (bits_at old a.track) k
    here k m b = kept (bits_at old a.track) (bits_at new a.track) (block_code bytes) (block_place a.sector) (8 * bytes_on a.track) k over (block_bits bytes l) long (changed.lengths (a.track - 1) ∙ long) (room a h) m b

    apart : (s z k : ℕ) → s ≢ z → k < 2600 → (block_place s + k < block_place z) ⊎ (block_place z + 2600 ≤ block_place s + k)
    apart s z k ne u = elim (cases_order s z) [ inl e ↦ absurd (ne e) | inr o ↦ elim o [ inl w ↦ inl (omega arith) | inr w ↦ inr (omega arith) ] ]

    beside : (p : Place) → Has 35 p → (k : ℕ) → k < 2600 → p ≢ a → circle_bit (bits_at new p.track) (block_place p.sector + k) ≡ circle_bit (bits_at old p.track) (block_place p.sector + k)
    beside p q k u ne = let its = on_a_track p q in elim (cases_eq p.track a.track) [
      | inr other ↦ ap (λ (t : List Bool). circle_bit t (block_place p.sector + k)) (changed.others (p.track - 1) (λ w. other (omega (arith, on.0, its.0))))
      | inl t ↦ (let sectors : p.sector ≢ a.sector = λ s. ne (λ i. record { track = t i; sector = s i }) in
          let fits : block_place p.sector + k < 8 * bytes_on p.track = omega (arith, room p q) in
          ap (λ (n : ℕ). circle_bit (bits_at new n) (block_place p.sector + k)) t
          ∙ here (block_place p.sector + k) (subst (λ (n : ℕ). block_place p.sector + k < 8 * bytes_on n) t fits) (apart p.sector a.sector k sectors u)
          ∙ ap (λ (n : ℕ). circle_bit (bits_at old n) (block_place p.sector + k)) (sym t))
    ]
