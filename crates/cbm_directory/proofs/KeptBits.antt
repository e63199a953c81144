-- A growth of the directory keeps the bits of all blocks of files, on any content.
use Rattle.std.proofs.Common.{◌≡◌, ◌≢◌, ℕ, ◌+◌, ◌-◌, ◌*◌, ◌/◌, ◌%◌, ◌<◌, ◌≤◌, List, drop, false, sym, ap, ◌∙◌, inl, inr, arith, refl}
use Rattle.std.specs.Prelude.{slice_index, slice_range}
use Rattle.std.proofs.lemmas.Bool.{cases_lt, cases_eq}
use Rattle.std.proofs.lemmas.List.{get_or-take, get_or-drop}
use Rattle.cbm_medium.specs.Place.{Place, Has, sectors_on, directory_head}
use Rattle.cbm_medium.specs.Content.{Cell, Content, written}
use Rattle.cbm_medium.specs.Links.{bytes_at, or_nothing}
use Rattle.cbm_medium.proofs.Places.{place_decide, written_there, written_elsewhere}
use Rattle.cbm_bam.specs.Map.{map_of, is_free_in, count_index}
use Rattle.cbm_bam.proofs.Bits.{index_bound, few_sectors, index_low, index_high}
use Rattle.cbm_bam.proofs.Counts.{bit_elsewhere}
use Rattle.cbm_directory.specs.Entries.{HasLink}
use Rattle.cbm_directory.specs.Growth.{Grows, new_sector}

-- a byte of an entry, and where it stands in the sector
byte_of : (xs : List ℕ) (a b j : ℕ) → j < b - a → slice_index (slice_range xs a b) j ≡ slice_index xs (a + j)
byte_of xs a b j h = get_or-take (b - a) (drop a xs) j 0 h ∙ get_or-drop a xs j 0

-- after the link every byte is as it was
after_link : (old new : List ℕ) (q : Place) (i : ℕ) → HasLink old new q → 2 ≤ i → i < 256 → slice_index new i ≡ slice_index old i
after_link old new q i h l m = elim (cases_lt (i % 32) 2) [
  | inl low ↦ elim (cases_eq (i % 32) 0) [
    | inl z ↦ (let e : i ≡ 32 * (i / 32) = omega arith in
        ap (slice_index new) e ∙ (h.between (i / 32) (omega arith) (omega arith)).0 ∙ ap (slice_index old) (sym e))
    | inr nz ↦ (let e : i ≡ 32 * (i / 32) + 1 = omega arith in
        ap (slice_index new) e ∙ (h.between (i / 32) (omega arith) (omega arith)).1 ∙ ap (slice_index old) (sym e))
  ]
  | inr high ↦ (let k : ℕ = i / 32 in
      let j : ℕ = i % 32 - 2 in
      let inside : j < 32 * k + 32 - (32 * k + 2) = omega arith in
      let e : i ≡ 32 * k + 2 + j = omega arith in
      ap (slice_index new) e ∙ sym (byte_of new (32 * k + 2) (32 * k + 32) j inside) ∙ ap (λ (xs : List ℕ). slice_index xs j) (h.entries k (omega arith))
      ∙ byte_of old (32 * k + 2) (32 * k + 32) j inside ∙ ap (slice_index old) (sym e))
]

few_tracks : (t s : ℕ) → s < sectors_on t → t ≤ 40
few_tracks t s h = grind arith

-- where a bit stands is after the link, and in the sector
bit_after : (tracks : ℕ) (p : Place) → Has tracks p → (2 ≤ count_index p.track + 1 + p.sector / 8) × (count_index p.track + 1 + p.sector / 8 < 256)
bit_after tracks p h =
    let low : p.track ≤ 40 = few_tracks p.track p.sector h.2 in
    let few = few_sectors p.track in
    let bound = index_bound p.track low in
    elim (cases_lt p.track 36) [
      | inl k ↦ (omega (arith, h.0, index_low p.track k), omega (arith, h.2))
      | inr k ↦ (omega (arith, h.0, index_high p.track k), omega (arith, h.2))
    ]

linked_bits : (tracks : ℕ) (old new : List ℕ) (q p : Place) → HasLink old new q → Has tracks p → is_free_in new p ≡ is_free_in old p
unfolding is_free_in
linked_bits tracks old new q p h has =
    let b = bit_after tracks p has in
    rw (after_link old new q (count_index p.track + 1 + p.sector / 8) h b.0 b.1) refl

pub bits_kept : (tracks : ℕ) (c c' : Content) (g : Grows tracks c c') (p : Place) → Has tracks p → p.track ≢ 18 → is_free_in (map_of c') p ≡ is_free_in (map_of c) p
bits_kept tracks c c' g p has off = elim (place_decide g.last directory_head) [
  | inl e ↦ (let there : map_of c' ≡ g.sector = ap (λ (x : Cell). or_nothing x) (ap (λ (y : Content). y directory_head) g.written ∙ ap (written (written g.claimed g.more new_sector) g.last g.sector) (sym e) ∙ written_there (written g.claimed g.more new_sector) g.last g.sector) in
      ap (λ (xs : List ℕ). is_free_in xs p) there ∙ linked_bits tracks (bytes_at c g.last) g.sector g.more p g.links has ∙ ap (λ (q : Place). is_free_in (bytes_at c q) p) e)
  | inr ne ↦ (let there : map_of c' ≡ g.claims.remaps.map = ap (λ (x : Cell). or_nothing x) (ap (λ (y : Content). y directory_head) g.written ∙ written_elsewhere (written g.claimed g.more new_sector) g.last directory_head g.sector ne
      ∙ written_elsewhere g.claimed g.more directory_head new_sector (λ z. omega (arith, g.claims.off_map, ap (λ (q : Place). q.sector) z))
      ∙ ap (λ (y : Content). y directory_head) g.claims.remaps.written ∙ written_there c directory_head g.claims.remaps.map) in
      ap (λ (xs : List ℕ). is_free_in xs p) there ∙ g.claims.remaps.mapped.bits p has
      ∙ bit_elsewhere (is_free_in (map_of c)) g.more p false (λ z. off (sym (ap (λ (q : Place). q.track) z) ∙ g.claims.on_18)))
]
