use Rattle.std.proofs.Common.{◌≡◌, ◌≢◌, ◌⊎◌, ℕ, ◌+◌, ◌<◌, ◌≤◌, List, length, arith, inl, inr, refl, Bool, true, false, cond, Option, Some, None, leb, ltb}
use Rattle.std.specs.Prelude.{◌||◌, ◌==◌, not}
use Rattle.std.proofs.lemmas.Bool.{and_parts, ltb-true, leb-true, ne_eqb}
use Rattle.cbm_track.specs.Circle.{each_below}
use Rattle.cbm_track.proofs.Firsts.{each_at}
use Rattle.cbm_g64.specs.declared.fault.G64Fault.{G64Fault}
use Rattle.cbm_g64.specs.declared.fault.G64Fault.TheVariants.{Signature, Version, Entries, GreatestSize, OffsetOutside, TrackLength, Overlap}
use Rattle.cbm_g64.specs.File.{has_signature, has_version, has_entries, has_greatest, entries, greatest, tables_end, offset, size, is_track_inside, is_sized, is_apart, are_inside, are_sized, are_apart, g64_fault, IsGood}

-- what a file without fault passes
pub record Passes (file : List ℕ) : Type 0 where
  pub signature : has_signature file ≡ true
  pub version : has_version file ≡ true
  pub few_entries : has_entries file ≡ true
  pub few_bytes : has_greatest file ≡ true
  pub inside : are_inside file ≡ true
  pub sized : are_sized file ≡ true
  pub apart : are_apart file ≡ true

abbrev first_fault : Bool → Bool → Bool → Bool → Bool → Bool → Bool → Option G64Fault
first_fault a b c d e f g =
    cond (not a) (Some Signature) (cond (not b) (Some Version) (cond (not c) (Some Entries) (cond (not d) (Some GreatestSize) (cond (not e) (Some OffsetOutside) (cond (not f) (Some TrackLength) (cond (not g) (Some Overlap) None))))))

all_pass : (a b c d e f g : Bool) → first_fault a b c d e f g ≡ None → (a ≡ true) × (b ≡ true) × (c ≡ true) × (d ≡ true) × (e ≡ true) × (f ≡ true) × (g ≡ true)
all_pass false b c d e f g h = cc
all_pass true false c d e f g h = cc
all_pass true true false d e f g h = cc
all_pass true true true false e f g h = cc
all_pass true true true true false f g h = cc
all_pass true true true true true false g h = cc
all_pass true true true true true true false h = cc
all_pass true true true true true true true h = (refl, refl, refl, refl, refl, refl, refl)

pub passes : (file : List ℕ) → g64_fault file ≡ None → Passes file
passes file h =
    let p = all_pass (has_signature file) (has_version file) (has_entries file) (has_greatest file) (are_inside file) (are_sized file) (are_apart file) h in
    record { signature = p.0; version = p.1; few_entries = p.2; few_bytes = p.3; inside = p.4; sized = p.5; apart = p.6 }

pub no_fault : (file : List ℕ) → Passes file → g64_fault file ≡ None
no_fault file p = rw (p.signature, p.version, p.few_entries, p.few_bytes, p.inside, p.sized, p.apart) refl

pub many_entries : (file : List ℕ) → has_entries file ≡ true → (10 ≤ length file) × (69 ≤ entries file) × (entries file ≤ 84)
many_entries file h =
    let p = and_parts (leb 10 (length file)) _ h in
    let q = and_parts (leb 69 (entries file)) (leb (entries file) 84) p.1 in
    (leb-true 10 (length file) p.0, leb-true 69 (entries file) q.0, leb-true (entries file) 84 q.1)

pub tables_inside : (file : List ℕ) → are_inside file ≡ true → tables_end file ≤ length file
unfolding are_inside
tables_inside file h = leb-true (tables_end file) (length file) ((and_parts (leb (tables_end file) (length file)) _ h).0)

pub inside_at : (file : List ℕ) → are_inside file ≡ true → (i : ℕ) → i < 35 → is_track_inside file i ≡ true
unfolding are_inside
inside_at file h i l = each_at (is_track_inside file) 35 i ((and_parts (leb (tables_end file) (length file)) _ h).1) l

pub sized_at : (file : List ℕ) → are_sized file ≡ true → (i : ℕ) → i < 35 → is_sized file i ≡ true
unfolding are_sized
sized_at file h i l = each_at (is_sized file) 35 i h l

pub apart_at : (file : List ℕ) → are_apart file ≡ true → (i j : ℕ) → i < 35 → j < 35 → is_apart file i j ≡ true
unfolding are_apart
apart_at file h i j l m = each_at (is_apart file i) 35 j (each_at (λ i. each_below (is_apart file i) 35) 35 i h l) m

pub long_tables : (file : List ℕ) → has_entries file ≡ true → are_inside file ≡ true → 292 ≤ length file
long_tables file h i = let e = many_entries file h in omega (arith, e.1, tables_inside file i)

pub good : (file : List ℕ) → Passes file → IsGood file
good file p = record {
  tables = long_tables file p.few_entries p.inside;
  few = leb-true (greatest file) 7928 ((and_parts (leb 12 (length file)) (leb (greatest file) 7928) p.few_bytes).1);
  inside = inside_at file p.inside;
  sized = sized_at file p.sized;
}

-- where a track's length and bytes stand
pub record Stands (file : List ℕ) (i : ℕ) : Type 0 where
  pub afterwards : 564 ≤ offset file i
  pub tables : tables_end file ≤ offset file i
  pub within : offset file i + 2 + size file i ≤ length file
  pub some : 0 < size file i
  pub most : size file i ≤ greatest file

or_right : (x y : Bool) → (x || y) ≡ true → x ≡ false → y ≡ true
or_right true y h e = cc
or_right false y h e = h

pub stands : (file : List ℕ) → Passes file → (i : ℕ) → i < 35 → offset file i ≢ 0 → Stands file i
unfolding is_track_inside is_sized
stands file p i l ne =
    let z : (offset file i == 0) ≡ false = ne_eqb (offset file i) 0 ne in
    let a = and_parts (leb (tables_end file) (offset file i)) _ (or_right (offset file i == 0) _ (inside_at file p.inside i l) z) in
    let b = and_parts (leb (offset file i + 2) (length file)) _ a.1 in
    let c = and_parts (ltb 0 (size file i)) _ (or_right (offset file i == 0) _ (sized_at file p.sized i l) z) in
    let t : tables_end file ≤ offset file i = leb-true (tables_end file) (offset file i) a.0 in
    record {
      afterwards = omega (arith, t, (many_entries file p.few_entries).1);
      tables = t;
      within = leb-true (offset file i + 2 + size file i) (length file) b.1;
      some = ltb-true 0 (size file i) c.0;
      most = leb-true (size file i) (greatest file) c.1;
    }

-- two tracks share no byte
pub apart : (file : List ℕ) → Passes file → (i j : ℕ) → i < 35 → j < 35 → i ≢ j → offset file i ≢ 0 → offset file j ≢ 0
    → (offset file i + 2 + size file i ≤ offset file j) ⊎ (offset file j + 2 + size file j ≤ offset file i)
unfolding is_apart
apart file p i j l m ne z y = either (leb (offset file i + 2 + size file i) (offset file j)) (leb (offset file j + 2 + size file j) (offset file i)) refl refl
    (or_right (offset file j == 0) _ (or_right (offset file i == 0) _ (or_right (i == j) _ (apart_at file p.apart i j l m) (ne_eqb i j ne)) (ne_eqb (offset file i) 0 z)) (ne_eqb (offset file j) 0 y))
  where
    either : (a b : Bool) → leb (offset file i + 2 + size file i) (offset file j) ≡ a → leb (offset file j + 2 + size file j) (offset file i) ≡ b → (a || b) ≡ true
        → (offset file i + 2 + size file i ≤ offset file j) ⊎ (offset file j + 2 + size file j ≤ offset file i)
    either true b e f h = inl (leb-true (offset file i + 2 + size file i) (offset file j) e)
    either false true e f h = inr (leb-true (offset file j + 2 + size file j) (offset file i) f)
    either false false e f h = cc
