use Rattle.std.proofs.Common.{◌≡◌, ◌≢◌, ℕ, ◌+◌, ◌*◌, ◌-◌, ◌/◌, ◌%◌, ◌<◌, ◌≤◌, List, [], ◌∷◌, length, get_or, take, replicate, refl, sym, ap, ◌∙◌, arith, inl, inr, Bool, true, false, cond, Some, Result, Ok, Err}
use Rattle.std.specs.Prelude.{◌==◌, ◌||◌, is_some, not}
use Rattle.std.proofs.lemmas.List.{get_or-take}
use Rattle.std.proofs.lemmas.Bool.{cases_lt, cases_eq, cases_Bool, eq-eqb, ne_eqb, and_from, and_left}
use Rattle.std.proofs.Math.Nat.{mod-eq_of_lt}
use Rattle.cbm_gcr.specs.Code.{code}
use Rattle.cbm_medium.specs.Place.{Place, sectors_on}
use Rattle.cbm_track.specs.Circle.{circle_bit, begins, ten_ones, next_block, first_below}
use Rattle.cbm_track.proofs.Firsts.{first_some}
use Rattle.cbm_track.proofs.Steps.{next_some}
use Rattle.cbm_track.proofs.Round.{clear_from, ten_ones_at, ten_ones_not}
use Rattle.cbm_sector.specs.Decoding.{IsBytes, coded_at}
use Rattle.cbm_sector.specs.Answer.{is_header, is_right, has_id, names, names_18, passes, is_crowded, header_at, header_of, block_at, block_after_header, after_a_header, block_of, sector_shown, id_at, id_in, id_shown, data_block, xor_of}
use Rattle.cbm_sector.specs.Fresh.{fresh, header_block, zero_bytes}
use Rattle.cbm_sector.proofs.Coding.{code_in, no_ten_ones}
use Rattle.cbm_sector.proofs.Stands.{coded_front}
use Rattle.cbm_sector.proofs.Writing.{IsWritten}
use Rattle.cbm_sector.proofs.Showing.{IsOfHeaders, names_headers, names_18_headers, own_shown, block_length, block_end}
use Rattle.cbm_sector.proofs.Reading.{no_header_here, header_here}
use Rattle.cbm_sector.proofs.Laid.{IsLaid, laid_begins, laid_quiet}
use Rattle.cbm_sector.proofs.Building.{sized}
use Rattle.cbm_sector.proofs.Formatted.{header_laid, data_laid, length-fresh, length-zeros}

-- a sector of a fresh track
pub record IsFresh (track : ℕ) (id : List ℕ) (s : ℕ) : Type 0 where
  pub some : 0 < track
  pub most : track < 36
  pub bytes : IsBytes id
  pub below : s < sectors_on track

long : (track : ℕ) (id : List ℕ) (s : ℕ) → IsFresh track id s → 2896 * s + 2896 ≤ length (fresh track id)
long track id s f = omega (arith, length-fresh track id f.some f.most, (sized track f.some f.most).fits, f.below)

header : (track : ℕ) (id : List ℕ) (s : ℕ) → IsFresh track id s → IsLaid (fresh track id) (2896 * s) (header_block track id s) 72
header track id s f = header_laid track id s f.some f.most f.bytes f.below

block : (track : ℕ) (id : List ℕ) (s : ℕ) → IsFresh track id s → IsLaid (fresh track id) (2896 * s + 192) (data_block zero_bytes) 64
block track id s f = data_laid track id s f.some f.most f.below

size : length (data_block zero_bytes) ≡ 260
size = block_length zero_bytes length-zeros

-- ---- what is read there

header_coded : (track : ℕ) (id : List ℕ) (s : ℕ) → IsFresh track id s → coded_at (fresh track id) (2896 * s + 40) 8 ≡ Some (header_block track id s)
header_coded track id s f = let l = header track id s f in
    coded_front (fresh track id) (2896 * s + 40) 8 (header_block track id s) (omega arith) l.bytes (λ k u. l.here k u)

block_coded : (track : ℕ) (id : List ℕ) (s : ℕ) → IsFresh track id s → (m : ℕ) → m ≤ 260 → coded_at (fresh track id) (2896 * s + 232) m ≡ Some (take m (data_block zero_bytes))
block_coded track id s f m h = let l = block track id s f in
    coded_front (fresh track id) (2896 * s + 232) m (data_block zero_bytes) (omega (arith, size)) l.bytes (λ k u. ap (circle_bit (fresh track id)) (omega arith) ∙ l.here k (omega (arith, size)))

no_header : (test : List ℕ → Bool) → IsOfHeaders test → (track : ℕ) (id : List ℕ) (s : ℕ) → IsFresh track id s → (m : ℕ) → 0 < m → m ≤ 260 → passes test (coded_at (fresh track id) (2896 * s + 232) m) ≡ false
no_header test only track id s f m z h =
    ap (passes test) (block_coded track id s f m h)
    ∙ only (take m (data_block zero_bytes)) (ap (λ (x : ℕ). x == 8) (get_or-take m (data_block zero_bytes) 0 0 z))

-- ---- where blocks begin

enough : (track : ℕ) (id : List ℕ) (s : ℕ) → IsFresh track id s → 5 ≤ length (fresh track id)
enough track id s f = omega (arith, long track id s f)

header_begins : (track : ℕ) (id : List ℕ) (s : ℕ) → IsFresh track id s → begins (fresh track id) (2896 * s + 40) ≡ true
header_begins track id s f = laid_begins (fresh track id) (2896 * s) (header_block track id s) 72 (enough track id s f) (header track id s f)

block_begins : (track : ℕ) (id : List ℕ) (s : ℕ) → IsFresh track id s → begins (fresh track id) (2896 * s + 232) ≡ true
block_begins track id s f = ap (begins (fresh track id)) (omega arith) ∙ laid_begins (fresh track id) (2896 * s + 192) (data_block zero_bytes) 64 (enough track id s f) (block track id s f)

-- no other block begins in a sector
quiet : (track : ℕ) (id : List ℕ) (s : ℕ) → IsFresh track id s → (r : ℕ) → r < 2896 → r ≢ 40 → r ≢ 232 → begins (fresh track id) (2896 * s + r) ≡ false
quiet track id s f r h ne ne' = elim (cases_lt r 192) [
  | inl u ↦ laid_quiet (fresh track id) (2896 * s) (header_block track id s) 72 r (enough track id s f) (header track id s f) u ne
  | inr u ↦ ap (begins (fresh track id)) (omega arith)
      ∙ laid_quiet (fresh track id) (2896 * s + 192) (data_block zero_bytes) 64 (r - 192) (enough track id s f) (block track id s f) (omega (arith, size)) (λ e. ne' (omega arith))
]

lower : (track : ℕ) (id : List ℕ) (s q : ℕ) → IsFresh track id s → q ≤ s → IsFresh track id q
lower track id s q f h = record { some = f.some; most = f.most; bytes = f.bytes; below = omega (arith, f.below) }

-- no header that passes stands below a sector's own
none_before : (test : List ℕ → Bool) → IsOfHeaders test → (track : ℕ) (id : List ℕ) (s : ℕ) → IsFresh track id s → ((q : ℕ) → q < s → test (header_block track id q) ≡ false)
    → (p : ℕ) → p < 2896 * s + 40 → header_at test (fresh track id) p ≡ false
none_before test only track id s f none p h = in_sector (p / 2896) (p % 2896) (omega arith) (omega arith) (omega arith)
  where
    in_sector : (q r : ℕ) → q ≤ s → r < 2896 → p ≡ 2896 * q + r → header_at test (fresh track id) p ≡ false
    in_sector q r l b e =
        let g : IsFresh track id q = lower track id s q f l in
        elim (cases_eq r 40) [
          | inl i ↦ ap (header_at test (fresh track id)) (omega arith)
              ∙ header_here test (fresh track id) (2896 * q + 40) false (header_begins track id q g) (sym (ap (passes test) (header_coded track id q g) ∙ none q (omega arith)))
          | inr ne ↦ elim (cases_eq r 232) [
            | inl i ↦ ap (header_at test (fresh track id)) (omega arith)
                ∙ header_here test (fresh track id) (2896 * q + 232) false (block_begins track id q g) (sym (no_header test only track id q g 8 (omega arith) (omega arith)))
            | inr ne' ↦ no_header_here test (fresh track id) p (ap (begins (fresh track id)) e ∙ quiet track id q g r b ne ne')
          ]
        ]

header_first : (test : List ℕ → Bool) → IsOfHeaders test → (track : ℕ) (id : List ℕ) (s : ℕ) → IsFresh track id s → ((q : ℕ) → q < s → test (header_block track id q) ≡ false) → test (header_block track id s) ≡ true
    → first_below (header_at test (fresh track id)) (length (fresh track id)) ≡ Some (2896 * s + 40)
header_first test only track id s f none own = first_some (header_at test (fresh track id)) (length (fresh track id)) (2896 * s + 40) (omega (arith, long track id s f))
    (header_here test (fresh track id) (2896 * s + 40) true (header_begins track id s f) (sym (ap (passes test) (header_coded track id s f) ∙ own)))
    (none_before test only track id s f none)

-- ---- the data block after a header

next_is_block : (track : ℕ) (id : List ℕ) (s : ℕ) → IsFresh track id s → next_block (fresh track id) (2896 * s + 40 + 1) ≡ Some (2896 * s + 232)
next_is_block track id s f =
    next_some (fresh track id) (2896 * s + 40 + 1) 191 (omega (arith, long track id s f))
    (ap (begins (fresh track id)) (omega arith) ∙ block_begins track id s f)
    (λ j h. ap (begins (fresh track id)) (omega arith) ∙ quiet track id s f (41 + j) (omega arith) (λ e. omega arith) (λ e. omega arith))
    ∙ ap Some (mod-eq_of_lt (omega (arith, long track id s f)) ∙ omega arith)

first_is_some : (track : ℕ) (id : List ℕ) (s : ℕ) → IsFresh track id s → is_some (next_block (fresh track id) 0) ≡ true
first_is_some track id s f =
    let g : IsFresh track id 0 = lower track id s 0 f (omega arith) in
    ap is_some (next_some (fresh track id) 0 40 (omega (arith, long track id 0 g)) (header_begins track id 0 g) (λ j h. quiet track id 0 g j (omega arith) (λ e. omega arith) (λ e. omega arith)))

-- no ten ones begin in the data block
no_ten : (track : ℕ) (id : List ℕ) (s : ℕ) → IsFresh track id s → (j : ℕ) → j < 2600 → ten_ones (fresh track id) (2896 * s + 232 + j) ≡ false
no_ten track id s f j h =
    let l = block track id s f in
    let at : (k : ℕ) → k < 2600 → circle_bit (fresh track id) (2896 * s + 232 + k) ≡ get_or (code (data_block zero_bytes)) k false = λ k u. ap (circle_bit (fresh track id)) (omega arith) ∙ l.here k (omega (arith, size)) in
    elim (cases_lt 2590 j) [
      | inl u ↦ ten_ones_not (fresh track id) (2896 * s + 232 + j) (2599 - j) (omega arith)
          (ap (circle_bit (fresh track id)) (omega arith) ∙ at 2599 (omega arith) ∙ code_in (data_block zero_bytes) 259 9 (omega (arith, size)) (omega arith) ∙ ap (λ (x : ℕ). get_or (code (x ∷ [])) 9 false) (block_end zero_bytes length-zeros))
      | inr u ↦ elim (cases_Bool (ten_ones (fresh track id) (2896 * s + 232 + j))) [
        | inr e ↦ e
        | inl e ↦ absurd (no_ten_ones (data_block zero_bytes) l.bytes j (omega (arith, size)) (λ k b.
            sym (at (j + k) (omega arith)) ∙ ap (circle_bit (fresh track id)) (omega arith) ∙ ten_ones_at (fresh track id) (2896 * s + 232 + j) k e b))
      ]
    ]

room : (track : ℕ) (id : List ℕ) (s : ℕ) → IsFresh track id s → is_crowded (fresh track id) (2896 * s + 232) ≡ false
unfolding is_crowded
room track id s f = ap not (clear_from (fresh track id) (2896 * s + 232) 2600 (no_ten track id s f))

-- ---- the header itself

right : (track : ℕ) (id : List ℕ) (s : ℕ) → is_right (header_block track id s) ≡ true
right track id s = eq-eqb (xor_of (s ∷ track ∷ get_or id 1 0 ∷ get_or id 0 0 ∷ [])) _ refl

of_id : (track : ℕ) (id : List ℕ) (s : ℕ) → has_id id (header_block track id s) ≡ true
of_id track id s = and_from (get_or id 1 0 == get_or id 1 0) (get_or id 0 0 == get_or id 0 0) (eq-eqb (get_or id 1 0) (get_or id 1 0) refl) (eq-eqb (get_or id 0 0) (get_or id 0 0) refl)

named : (track : ℕ) (id : List ℕ) (s : ℕ) → names (record { track = track; sector = s }) (header_block track id s) ≡ true
named track id s = and_from (s == s) (track == track) (eq-eqb s s refl) (eq-eqb track track refl)

not_named : (track : ℕ) (id : List ℕ) (s q : ℕ) → q < s → names (record { track = track; sector = s }) (header_block track id q) ≡ false
not_named track id s q h = and_left (q == s) (track == track) (ne_eqb q s (λ e. omega arith))

named_18 : (id : List ℕ) (s : ℕ) → names_18 (header_block 18 id s) ≡ true
named_18 id s = right 18 id s

-- ---- what is shown

block_found : (track : ℕ) (id : List ℕ) (s : ℕ) → IsFresh track id s → block_of (fresh track id) id (record { track = track; sector = s }) ≡ Ok (2896 * s + 232)
unfolding block_of header_of
block_found track id s f =
    let t = fresh track id in
    let a : Place = record { track = track; sector = s } in
    let p = 2896 * s + 40 in
    ap (λ (x : Bool). cond {A = Result ℕ ℕ} x (after_a_header t id (header_of t a)) (Err 21)) (first_is_some track id s f)
    ∙ ap (after_a_header t id) (header_first (names a) (names_headers a) track id s f (λ q h. not_named track id s q h) (named track id s))
    ∙ ap (block_after_header t id p) (header_coded track id s f)
    ∙ ap (λ (x : Bool). cond {A = Result ℕ ℕ} x (cond (has_id id (header_block track id s)) (block_at t (next_block t (p + 1))) (Err 29)) (Err 27)) (right track id s)
    ∙ ap (λ (x : Bool). cond {A = Result ℕ ℕ} x (block_at t (next_block t (p + 1))) (Err 29)) (of_id track id s)
    ∙ ap (block_at t) (next_is_block track id s f)
    ∙ ap (λ (x : Bool). cond {A = Result ℕ ℕ} (x || is_crowded t (2896 * s + 232)) (Err 20) (Ok (2896 * s + 232))) (no_header is_header (λ v h. h) track id s f 4 (omega arith) (omega arith))
    ∙ ap (λ (x : Bool). cond {A = Result ℕ ℕ} x (Err 20) (Ok (2896 * s + 232))) (room track id s f)

-- it is as if zeros had been written there
as_written : (track : ℕ) (id : List ℕ) (s : ℕ) → IsFresh track id s → IsWritten (fresh track id) (fresh track id) (2896 * s + 232) (data_block zero_bytes)
as_written track id s f = let l = block track id s f in record {
  same_length = refl;
  size = size;
  bytes = l.bytes;
  seven = refl;
  last = block_end zero_bytes length-zeros;
  here = λ k u. ap (circle_bit (fresh track id)) (omega arith) ∙ l.here k (omega (arith, size));
  others = λ k u b. refl;
  place = omega (arith, long track id s f);
  begins = block_begins track id s f;
  header = no_header is_header (λ v h. h) track id s f 4 (omega arith) (omega arith);
  room = room track id s f;
}

pub fresh_shown : (track : ℕ) (id : List ℕ) (s : ℕ) → 0 < track → track < 36 → IsBytes id → s < sectors_on track → sector_shown (fresh track id) id (record { track = track; sector = s }) ≡ Ok zero_bytes
fresh_shown track id s z h b l =
    let f : IsFresh track id s = record { some = z; most = h; bytes = b; below = l } in
    own_shown (fresh track id) (fresh track id) (2896 * s + 232) zero_bytes (as_written track id s f) length-zeros id (record { track = track; sector = s }) (block_found track id s f)

pub fresh_block : (track : ℕ) (id : List ℕ) (s : ℕ) → 0 < track → track < 36 → IsBytes id → s < sectors_on track → block_of (fresh track id) id (record { track = track; sector = s }) ≡ Ok (2896 * s + 232)
fresh_block track id s z h b l = block_found track id s (record { some = z; most = h; bytes = b; below = l })

pub zeros_shown : (t : List Bool) (id : List ℕ) (a : Place) → sector_shown t id a ≡ Ok zero_bytes → sector_shown t id a ≡ Ok (replicate 256 0)
unfolding zero_bytes
zeros_shown t id a e = e

two : (v : List ℕ) → length v ≡ 2 → get_or v 0 0 ∷ get_or v 1 0 ∷ [] ≡ v
two [] l = absurd (omega arith)
two (a ∷ []) l = absurd (omega arith)
two (a ∷ b ∷ []) l = refl
two (a ∷ b ∷ c ∷ more) l = absurd (omega arith)

pub fresh_id : (id : List ℕ) → IsBytes id → length id ≡ 2 → id_shown (fresh 18 id) ≡ Some id
unfolding id_shown
fresh_id id b l =
    let f : IsFresh 18 id 0 = record { some = omega arith; most = omega arith; bytes = b; below = omega arith } in
    ap (id_at (fresh 18 id)) (header_first names_18 names_18_headers 18 id 0 f (λ q h. absurd (omega arith)) (named_18 id 0))
    ∙ ap id_in (header_coded 18 id 0 f)
    ∙ ap Some (two id l)
