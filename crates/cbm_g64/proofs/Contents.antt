use Rattle.std.proofs.Common.{◌≡◌, ◌≢◌, ℕ, ◌-◌, ◌<◌, ◌≤◌, List, [], ◌∷◌, length, get_or, set, sym, ap, subst, ◌∙◌, arith, inl, inr, Bool, true, false, Option, Ok, Err, Result, replicate}
use Rattle.std.specs.Prelude.{unwrap_or, OnOk, OnErr}
use Rattle.std.proofs.lemmas.List.{get_or-set_same, get_or-set_other, get_or_default, length-set}
use Rattle.std.proofs.lemmas.Bool.{cases_eq, cases_Bool, cond-true, cond-false, false≢true}
use mathlib.Core.Path.{fun_ext}
use Rattle.cbm_medium.specs.Place.{Place, sectors_on, Has, has, is_place}
use Rattle.cbm_medium.specs.Content.{Cell, HasFaultCode, is_fault_code, written}
use Rattle.cbm_medium.proofs.Walks.{has_true, true_has, on_a_track as track_is}
use Rattle.cbm_medium.proofs.Places.{place_cases, place_is_itself, written_there, written_elsewhere}
use Rattle.cbm_sector.specs.Answer.{sector_shown, id_shown, block_of, block_code, IsOverwritten}
use Rattle.cbm_g64.specs.Tracks.{bits_at, id_for, g64_content, AreLaid, IsCircleChanged, IsPut}
use Rattle.cbm_g64.specs.Faults.{g64_has_codes}

-- a sector of the first 35 tracks, as a test and as a fact
pub has_parts : (p : Place) → has 35 p ≡ true → Has 35 p
has_parts p h = true_has 35 p h

pub has_test : (p : Place) → Has 35 p → has 35 p ≡ true
has_test p h = has_true 35 p h

pub has_of : (p : Place) → p.sector < sectors_on p.track → p.track ≤ 35 → Has 35 p
has_of p s t = (track_is p s, t, s)

pub content_on : (tracks : List (List Bool)) (p : Place) → Has 35 p → g64_content tracks p ≡ sector_shown (bits_at tracks p.track) (id_for tracks) p
unfolding g64_content
content_on tracks p h = cond-true _ _ _ (has_test p h)

pub content_off : (tracks : List (List Bool)) (p : Place) → has 35 p ≡ false → g64_content tracks p ≡ Ok (replicate 256 0)
unfolding g64_content
content_off tracks p h = cond-false _ _ _ h

-- a track of the disk is one of 35
pub on_a_track : (p : Place) → Has 35 p → (0 < p.track) × (p.track < 36)
on_a_track p h = let low = h.0 in let high = h.1 in (low, omega arith)

-- one track written anew, its id as it was
pub content_written : (tracks : List (List Bool)) (new : List Bool) (a : Place) (bytes : List ℕ) → length tracks ≡ 35 → Has 35 a
    → id_shown new ≡ id_shown (bits_at tracks a.track)
    → sector_shown new (id_for tracks) a ≡ Ok bytes
    → ((id2 : List ℕ) (b : Place) → a ≢ b → sector_shown new id2 b ≡ sector_shown (bits_at tracks a.track) id2 b)
    → g64_content (set tracks (a.track - 1) new) ≡ written (g64_content tracks) a bytes
unfolding id_for
content_written tracks new a bytes l h ids own others = fun_ext (λ p. here p)
  where
    after : List (List Bool)
    after = set tracks (a.track - 1) new

    at_track : bits_at after a.track ≡ new
    at_track = let b = on_a_track a h in get_or-set_same tracks (a.track - 1) new [] (omega (arith, b.0, b.1))

    at_other : (t : ℕ) → 0 < t → t ≢ a.track → bits_at after t ≡ bits_at tracks t
    at_other t z ne = let b = on_a_track a h in get_or-set_other tracks (a.track - 1) (t - 1) new [] (λ e. ne (omega (arith, b.0)))

    same_id : id_for after ≡ id_for tracks
    same_id = ap (λ (o : Option (List ℕ)). unwrap_or o (0 ∷ 0 ∷ [])) (elim (cases_eq 18 a.track) [
      | inl e ↦ ap (λ (t : ℕ). id_shown (bits_at after t)) e ∙ ap id_shown at_track ∙ ids ∙ sym (ap (λ (t : ℕ). id_shown (bits_at tracks t)) e)
      | inr ne ↦ ap id_shown (at_other 18 (omega arith) ne)
    ])

    -- the answer for another sector
    elsewhere_on : (p : Place) → a ≢ p → Has 35 p → sector_shown (bits_at after p.track) (id_for tracks) p ≡ sector_shown (bits_at tracks p.track) (id_for tracks) p
    elsewhere_on p ne on = elim (cases_eq p.track a.track) [
      | inl e ↦ ap (λ (t : ℕ). sector_shown (bits_at after t) (id_for tracks) p) e
          ∙ ap (λ (bits : List Bool). sector_shown bits (id_for tracks) p) at_track
          ∙ others (id_for tracks) p ne
          ∙ sym (ap (λ (t : ℕ). sector_shown (bits_at tracks t) (id_for tracks) p) e)
      | inr apart ↦ ap (λ (bits : List Bool). sector_shown bits (id_for tracks) p) (at_other p.track ((on_a_track p on).0) apart)
    ]

    elsewhere : (p : Place) → a ≢ p → g64_content after p ≡ g64_content tracks p
    elsewhere p ne = elim (cases_Bool (has 35 p)) [
      | inl t ↦ (let on = has_parts p t in content_on after p on ∙ ap (λ (id : List ℕ). sector_shown (bits_at after p.track) id p) same_id ∙ elsewhere_on p ne on ∙ sym (content_on tracks p on))
      | inr off ↦ content_off after p off ∙ sym (content_off tracks p off)
    ]

    there : g64_content after a ≡ Ok bytes
    there = content_on after a h ∙ ap (λ (id : List ℕ). sector_shown (bits_at after a.track) id a) same_id ∙ ap (λ (bits : List Bool). sector_shown bits (id_for tracks) a) at_track ∙ own

    apart_from : (p : Place) → is_place a p ≡ false → a ≢ p
    apart_from p f e = false≢true (sym f ∙ subst (λ (q : Place). is_place a q ≡ true) e (place_is_itself a))

    here : (p : Place) → g64_content after p ≡ written (g64_content tracks) a bytes p
    here p = elim (place_cases a p) [
      | inl e ↦ subst (λ (q : Place). g64_content after q ≡ written (g64_content tracks) a bytes q) e (there ∙ sym (written_there (g64_content tracks) a bytes))
      | inr f ↦ elsewhere p (apart_from p f) ∙ sym (written_elsewhere (g64_content tracks) a p bytes (apart_from p f))
    ]

bits_is : (tracks : List (List Bool)) (a : Place) (bits d : List Bool) (i : ℕ) → length tracks ≡ 35 → Has 35 a → i ≡ a.track → bits ≡ get_or tracks (i - 1) d → bits ≡ bits_at tracks a.track
bits_is tracks a bits d i l h t e = let b = on_a_track a h in
    e ∙ get_or_default tracks (i - 1) d [] (omega (arith, b.0, b.1)) ∙ ap (λ (n : ℕ). get_or tracks (n - 1) []) t

-- a sector's answer by its track and the disk's id
pub answer_is : (tracks : List (List Bool)) (a : Place) (bits d : List Bool) (id : List ℕ) (i : ℕ) → length tracks ≡ 35 → Has 35 a → i ≡ a.track → bits ≡ get_or tracks (i - 1) d → id ≡ id_for tracks → g64_content tracks a ≡ sector_shown bits id a
answer_is tracks a bits d id i l h t e f =
    content_on tracks a h
    ∙ ap (λ (n : List ℕ). sector_shown (bits_at tracks a.track) n a) (sym f)
    ∙ ap (λ (b : List Bool). sector_shown b id a) (sym (bits_is tracks a bits d i l h t e))

-- what a write of one track leaves, where it succeeds
pub write_is : {E : Type 0} (r : Result (Unit {0}) E) (tracks : List (List Bool)) (bits d new : List Bool) (a : Place) (bytes id : List ℕ) (i : ℕ)
    → length tracks ≡ 35 → Has 35 a → i ≡ a.track → bits ≡ get_or tracks (i - 1) d → id ≡ id_for tracks
    → id_shown new ≡ id_shown bits
    → OnOk r (sector_shown new id a ≡ Ok bytes)
    → OnOk r ((id2 : List ℕ) (b : Place) → a ≢ b → sector_shown new id2 b ≡ sector_shown bits id2 b)
    → OnOk r (g64_content (set tracks (i - 1) new) ≡ written (g64_content tracks) a bytes)
write_is (Err e) tracks bits d new a bytes id i l h t be f ids own others = tt
write_is (Ok u) tracks bits d new a bytes id i l h t be f ids own others =
    let b = bits_is tracks a bits d i l h t be in
    ap (λ (n : ℕ). g64_content (set tracks (n - 1) new)) t
    ∙ content_written tracks new a bytes l h (ids ∙ ap id_shown b)
    (ap (λ (n : List ℕ). sector_shown new n a) (sym f) ∙ own)
    (λ id2 c ne. others id2 c ne ∙ ap (λ (x : List Bool). sector_shown x id2 c) b)

-- which bits of its track it changes
pub put_is : {E : Type 0} (r : Result (Unit {0}) E) (tracks : List (List Bool)) (bits d new : List Bool) (a : Place) (bytes id : List ℕ) (i : ℕ)
    → length tracks ≡ 35 → Has 35 a → i ≡ a.track → bits ≡ get_or tracks (i - 1) d → id ≡ id_for tracks
    → OnOk r ((p : ℕ) → block_of bits id a ≡ Ok p → IsOverwritten bits new p (block_code bytes))
    → OnOk r (IsPut tracks (set tracks (i - 1) new) a bytes)
put_is (Err e) tracks bits d new a bytes id i l h t be f own = tt
put_is (Ok u) tracks bits d new a bytes id i l h t be f own =
    let b = bits_is tracks a bits d i l h t be in
    let on = on_a_track a h in
    let there : bits_at (set tracks (i - 1) new) a.track ≡ new =
    ap (λ (n : ℕ). get_or (set tracks (i - 1) new) (n - 1) []) (sym t) ∙ get_or-set_same tracks (i - 1) new [] (omega (arith, on.0, on.1)) in
    record {
      block = λ p e. subst (λ (x : List Bool). IsOverwritten (bits_at tracks a.track) x p (block_code bytes)) (sym there)
          (subst (λ (x : List Bool). IsOverwritten x new p (block_code bytes)) b
          (own p (ap (λ (n : List ℕ). block_of bits n a) f ∙ ap (λ (x : List Bool). block_of x (id_for tracks) a) b ∙ e)));
    }

-- the disk's id goes by track 18
id_same : (tracks : List (List Bool)) (new : List Bool) (i : ℕ) → i < length tracks → id_shown new ≡ id_shown (get_or tracks i []) → id_for (set tracks i new) ≡ id_for tracks
unfolding id_for
id_same tracks new i h e = ap (λ (o : Option (List ℕ)). unwrap_or o (0 ∷ 0 ∷ [])) (elim (cases_eq 17 i) [
  | inl f ↦ ap (λ (k : ℕ). id_shown (get_or (set tracks i new) k [])) f ∙ ap id_shown (get_or-set_same tracks i new [] h) ∙ e ∙ sym (ap (λ (k : ℕ). id_shown (get_or tracks k [])) f)
  | inr ne ↦ ap id_shown (get_or-set_other tracks i 17 new [] ne)
])

-- what a write of one track leaves
pub change_is : {E : Type 0} (r : Result (Unit {0}) E) (tracks : List (List Bool)) (bits d new : List Bool) (i : ℕ) → i < length tracks → bits ≡ get_or tracks i d
    → length new ≡ length bits → OnOk r (2610 ≤ length bits) → OnErr r (new ≡ bits) → id_shown new ≡ id_shown bits → IsCircleChanged tracks (set tracks i new) i
change_is {E = E} r tracks bits d new i h e l long same ids = record {
  count = length-set tracks i new;
  lengths = λ j. elim (cases_eq j i) [
    | inl f ↦ ap (λ (k : ℕ). length (get_or (set tracks i new) k [])) f ∙ ap length (get_or-set_same tracks i new [] h) ∙ l ∙ ap length there ∙ ap (λ (k : ℕ). length (get_or tracks k [])) (sym f)
    | inr ne ↦ ap length (get_or-set_other tracks i j new [] ne)
  ];
  others = λ j ne. get_or-set_other tracks i j new [] ne;
  short = λ j b. elim (cases_eq j i) [
    | inl f ↦ ap (λ (k : ℕ). get_or (set tracks i new) k []) f ∙ get_or-set_same tracks i new [] h ∙ own r long same (omega (arith, ap length there, ap (λ (k : ℕ). length (get_or tracks k [])) f)) ∙ there ∙ ap (λ (k : ℕ). get_or tracks k []) (sym f)
    | inr ne ↦ get_or-set_other tracks i j new [] ne
  ];
  id = id_same tracks new i h (ids ∙ ap id_shown there);
}
  where
    there : bits ≡ get_or tracks i []
    there = e ∙ get_or_default tracks i d [] h

    own : (r : Result (Unit {0}) E) → OnOk r (2610 ≤ length bits) → OnErr r (new ≡ bits) → length bits < 2610 → new ≡ bits
    own (Ok u) long same b = absurd (omega arith)
    own (Err u) long same b = same

-- blocks stay where they are when a sector is filled
pub laid_kept : (tracks : List (List Bool)) (bits d new : List Bool) (a : Place) (i : ℕ) → length tracks ≡ 35 → Has 35 a → i ≡ a.track → bits ≡ get_or tracks (i - 1) d
    → IsCircleChanged tracks (set tracks (i - 1) new) (i - 1) → ((id2 : List ℕ) (p : Place) → block_of new id2 p ≡ block_of bits id2 p) → AreLaid tracks → AreLaid (set tracks (i - 1) new)
laid_kept tracks bits d new a i l h t be c same laid = record {
  blocks = λ p q.
      (ap (λ (n : List ℕ). block_of (bits_at (set tracks (i - 1) new) p.track) n p) c.id
      ∙ (elim (cases_eq p.track i) [
        | inl e ↦ ap (λ (x : List Bool). block_of x (id_for tracks) p) (there p e) ∙ same (id_for tracks) p ∙ ap (λ (x : List Bool). block_of x (id_for tracks) p) (before p e)
        | inr ne ↦ (let on = on_a_track p q in let off = on_a_track a h in let apart : p.track - 1 ≢ i - 1 = λ f. ne (omega (arith, on.0, off.0)) in
            ap (λ (x : List Bool). block_of x (id_for tracks) p) (get_or-set_other tracks (i - 1) (p.track - 1) new [] apart))
      ])
      ∙ laid.blocks p q);
}
  where
    there : (p : Place) → p.track ≡ i → bits_at (set tracks (i - 1) new) p.track ≡ new
    there p e = let on = on_a_track a h in
        ap (λ (n : ℕ). get_or (set tracks (i - 1) new) (n - 1) []) e ∙ get_or-set_same tracks (i - 1) new [] (omega (arith, on.0, on.1))

    before : (p : Place) → p.track ≡ i → bits ≡ bits_at tracks p.track
    before p e = bits_is tracks a bits d i l h t be ∙ ap (bits_at tracks) (sym (e ∙ t))

-- the code of a sector that doesn't read is one of the seven
pub known_code : (tracks : List (List Bool)) (p : Place) (code : ℕ) → g64_content tracks p ≡ Err code → is_fault_code code ≡ true
known_code tracks p code e = subst (λ (x : Cell). HasFaultCode x) e (g64_has_codes tracks p)
