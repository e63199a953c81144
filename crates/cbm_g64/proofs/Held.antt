use Rattle.std.proofs.Common.{◌≡◌, ◌≢◌, ℕ, zero, suc, ◌+◌, ◌*◌, ◌-◌, ◌<◌, List, [], ◌∷◌, ◌++◌, length, get_or, take, drop, replicate, refl, sym, ap, ◌∙◌, arith, inl, inr, Bool, Option, None, Ok}
use Rattle.std.specs.Prelude.{is_some, unwrap_or}
use Rattle.std.proofs.lemmas.List.{get_or_append_left, get_or-append-add, length-append, length-take-le, length-drop}
use Rattle.std.proofs.lemmas.Bool.{cases_eq, cases_Bool, eq-eqb, ne_eqb, cond-true, cond-false}
use mathlib.Core.Path.{fun_ext}
use Rattle.cbm_medium.specs.Place.{Place, Has, has}
use Rattle.cbm_medium.specs.Content.{blank}
use Rattle.cbm_track.specs.Circle.{circle_bits_of}
use Rattle.cbm_track.proofs.Bytes.{length-bits_of}
use Rattle.cbm_sector.specs.Answer.{sector_shown, id_shown, block_of}
use Rattle.cbm_sector.specs.Decoding.{IsBytes}
use Rattle.cbm_sector.specs.Fresh.{fresh}
use Rattle.cbm_sector.proofs.Formatted.{length-fresh}
use Rattle.cbm_sector.proofs.Blank.{fresh_block, fresh_shown, fresh_id, zeros_shown}
use Rattle.cbm_g64.specs.File.{offset, size, g64_fault, track_in, g64_circles}
use Rattle.cbm_g64.specs.NewFile.{new_file}
use Rattle.cbm_g64.specs.Tracks.{bits_at, id_for, g64_content, IsCircleChanged, AreFresh, AreLaid}
use Rattle.cbm_g64.specs.Image.{IsHeld}
use Rattle.cbm_g64.proofs.Sound.{passes, no_fault, stands}
use Rattle.cbm_g64.proofs.NewFiles.{new_passes, new_offset, new_size}
use Rattle.cbm_g64.proofs.Contents.{content_on, content_off, has_parts, on_a_track}

-- ---- the tracks of a file

pub length-tracks_in : (file : List ℕ) (n : ℕ) → length (g64_circles file n) ≡ n
unfolding g64_circles
length-tracks_in file zero = refl
length-tracks_in file (suc n) = omega (arith, length-append (g64_circles file n) (track_in file n ∷ []), length-tracks_in file n)

pub tracks_at : (file : List ℕ) (n i : ℕ) → i < n → get_or (g64_circles file n) i [] ≡ track_in file i
unfolding g64_circles
tracks_at file zero i h = absurd (omega arith)
tracks_at file (suc n) i h = elim (cases_eq i n) [
  | inr ne ↦ get_or_append_left (g64_circles file n) (track_in file n ∷ []) [] i (omega (arith, length-tracks_in file n)) ∙ tracks_at file n i (omega arith)
  | inl e ↦ (let q : i ≡ length (g64_circles file n) + 0 = omega (arith, length-tracks_in file n) in
      ap (λ (p : ℕ). get_or (g64_circles file n ++ (track_in file n ∷ [])) p []) q ∙ get_or-append-add (g64_circles file n) (track_in file n ∷ []) 0 [] ∙ ap (track_in file) (sym e))
]

pub present : (file : List ℕ) (i : ℕ) → offset file i ≢ 0 → track_in file i ≡ circle_bits_of (take (size file i) (drop (offset file i + 2) file))
unfolding track_in
present file i ne = cond-false _ _ _ (ne_eqb (offset file i) 0 ne)

pub absent : (file : List ℕ) (i : ℕ) → offset file i ≡ 0 → track_in file i ≡ circle_bits_of (0 ∷ [])
unfolding track_in
absent file i e = cond-true _ _ _ (eq-eqb (offset file i) 0 e)

-- a disk that was opened
pub held_open : (file : List ℕ) → g64_fault file ≡ None → IsHeld file (g64_circles file 35)
held_open file e = let p = passes file e in record {
  count = length-tracks_in file 35;
  right = ap is_some e;
  lengths = λ i h ne. let s = stands file p i h ne in
      ap length (tracks_at file 35 i h ∙ present file i ne)
      ∙ length-bits_of (take (size file i) (drop (offset file i + 2) file))
      ∙ ap (λ (n : ℕ). 8 * n) (length-take-le (size file i) (drop (offset file i + 2) file) (omega (arith, length-drop (offset file i + 2) file, s.within)));
  absent = λ i h z. tracks_at file 35 i h ∙ absent file i z;
}

-- a disk that was written
pub held_changed : (file : List ℕ) (old new : List (List Bool)) (t : ℕ) → IsHeld file old → IsCircleChanged old new t → IsHeld file new
held_changed file old new t h c = record {
  count = c.count ∙ h.count;
  right = h.right;
  lengths = λ i l ne. c.lengths i ∙ h.lengths i l ne;
  absent = λ i l z. c.short i (let e : length (get_or old i []) ≡ 8 = ap length (h.absent i l z) in omega arith) ∙ h.absent i l z;
}

-- a disk that was formatted
pub held_fresh : (id : List ℕ) (tracks : List (List Bool)) → length tracks ≡ 35 → AreFresh id tracks → IsHeld new_file tracks
held_fresh id tracks l f = record {
  count = l;
  right = ap is_some (no_fault new_file new_passes);
  lengths = λ i h ne. ap length (f i h) ∙ length-fresh (i + 1) id (omega arith) (omega arith) ∙ ap (λ (n : ℕ). 8 * n) (sym (new_size i h));
  absent = λ i h z. absurd (let o = new_offset i h in omega arith);
}

-- its content
pub fresh_content : (id : List ℕ) (tracks : List (List Bool)) → IsBytes id → length id ≡ 2 → AreFresh id tracks → g64_content tracks ≡ blank
unfolding id_for
fresh_content id tracks b l f = fun_ext (λ p. elim (cases_Bool (has 35 p)) [
  | inr off ↦ content_off tracks p off
  | inl on ↦ here p (has_parts p on)
])
  where
    the_id : id_for tracks ≡ id
    the_id = ap (λ (o : Option (List ℕ)). unwrap_or o (0 ∷ 0 ∷ [])) (ap id_shown (f 17 (omega arith)) ∙ fresh_id id b l)

    here : (p : Place) → Has 35 p → g64_content tracks p ≡ Ok (replicate 256 0)
    here p h =
        let t = on_a_track p h in
        let t0 = t.0 in
        let t1 = t.1 in
        let e : p.track - 1 + 1 ≡ p.track = omega arith in
        content_on tracks p h
        ∙ ap (λ (n : List ℕ). sector_shown (bits_at tracks p.track) n p) the_id
        ∙ ap (λ (u : List Bool). sector_shown u id p) (f (p.track - 1) (omega arith) ∙ ap (λ (n : ℕ). fresh n id) e)
        ∙ zeros_shown (fresh p.track id) id p (fresh_shown p.track id p.sector t0 t1 b h.2)

-- its id
pub fresh_id_for : (id : List ℕ) (tracks : List (List Bool)) → IsBytes id → length id ≡ 2 → AreFresh id tracks → id_for tracks ≡ id
unfolding id_for
fresh_id_for id tracks b l f = ap (λ (o : Option (List ℕ)). unwrap_or o (0 ∷ 0 ∷ [])) (ap id_shown (f 17 (omega arith)) ∙ fresh_id id b l)

-- blocks stand where formatting put them
pub fresh_laid : (id : List ℕ) (tracks : List (List Bool)) → IsBytes id → length id ≡ 2 → AreFresh id tracks → AreLaid tracks
fresh_laid id tracks b l f = record {
  blocks = λ p h.
      (let on = on_a_track p h in
      let there : bits_at tracks p.track ≡ fresh p.track id = f (p.track - 1) (omega (arith, on.0, on.1)) ∙ (let q : p.track - 1 + 1 ≡ p.track = omega (arith, on.0) in ap (λ (n : ℕ). fresh n id) q) in
      ap (λ (x : List Bool). block_of x (id_for tracks) p) there
      ∙ ap (λ (n : List ℕ). block_of (fresh p.track id) n p) (fresh_id_for id tracks b l f)
      ∙ fresh_block p.track id p.sector on.0 on.1 b h.2);
}
