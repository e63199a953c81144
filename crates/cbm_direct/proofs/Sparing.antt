-- Sectors that are spared: on a chain, by the entries of the directory, and by GEOS.
use Rattle.std.proofs.Common.{◌≡◌, ◌≢◌, ◌⊎◌, ℕ, zero, suc, ◌+◌, ◌≤◌, List, [], ◌∷◌, Bool, true, false, Option, Some, None, Result, Ok, Err, take, refl, sym, ap, subst, ◌∙◌, arith, inl, inr}
use Rattle.std.specs.Prelude.{◌||◌, is_some}
use Rattle.std.specs.List.{list_any}
use Rattle.std.proofs.lemmas.Bool.{cases_eq}
use Rattle.cbm_medium.specs.Place.{Place, Has, has, is_place, sector_count}
use Rattle.cbm_medium.specs.Content.{Content}
use Rattle.cbm_medium.specs.Links.{link, follow}
use Rattle.cbm_medium.specs.Seen.{Seen}
use Rattle.cbm_medium.specs.declared.fault.Trouble.{Trouble}
use Rattle.cbm_medium.proofs.Walks.{true_has, has_true, bool_cases, follow_end, follow_off, follow_full, follow_fault, follow_next}
use Rattle.cbm_directory.specs.Slots.{Listed, Finds, first_from, directory_of}
use Rattle.cbm_direct.specs.Spared.{is_any_of, is_on_chain, is_of_unclosed, has_unclosed}

-- ---- along a chain

going : (tracks : ℕ) (p : Place) → Has tracks p → p.track ≢ 0
going tracks p h e = omega (arith, h.0)

stops_off : (tracks : ℕ) (content : Content) (n : ℕ) (p : Place) → (Has tracks p → ⊥) → (follow tracks content n p).blocks ≡ []
stops_off tracks content n p none = elim (cases_eq p.track 0) [
  | inl z ↦ ap (λ f. f.blocks) (follow_end tracks content n p z)
  | inr nz ↦ elim (bool_cases (has tracks p)) [
    | inl there ↦ absurd (none (true_has tracks p there))
    | inr off ↦ ap (λ f. f.blocks) (follow_off tracks content n p nz off)
  ]
]

stops_full : (tracks : ℕ) (content : Content) (n : ℕ) (p : Place) → n ≡ 0 → (follow tracks content n p).blocks ≡ []
stops_full tracks content n p e = elim (bool_cases (has tracks p)) [
  | inl there ↦ (let h : Has tracks p = true_has tracks p there in ap (λ f. f.blocks) (follow_full tracks content n p (going tracks p h) h e))
  | inr off ↦ stops_off tracks content n p (λ h. (let there = has_true tracks p h in absurd (cc)))
]

stops_unread : (tracks : ℕ) (content : Content) (n : ℕ) (p : Place) (code : ℕ) → Has tracks p → content p ≡ Err code → (follow tracks content n p).blocks ≡ []
stops_unread tracks content zero p code h e = stops_full tracks content 0 p refl
stops_unread tracks content (suc n) p code h e = ap (λ f. f.blocks) (follow_fault tracks content (suc n) n p code (going tracks p h) h refl e)

module _ (tracks : ℕ) (content : Content) (at first : Place) where
  -- whether the rest of a chain, so many sectors from a place on, decides for the whole
  abbrev pub Decides : ℕ → Place → Type 0
  Decides n p = is_any_of at (follow tracks content n p).blocks ≡ is_on_chain tracks content first at

  pub decides_first : (n : ℕ) → n ≡ sector_count tracks → Decides n first
  decides_first n e = ap (λ k. is_any_of at (follow tracks content k first).blocks) e

  none_left : (n : ℕ) (p : Place) → Decides n p → (follow tracks content n p).blocks ≡ [] → false ≡ is_on_chain tracks content first at
  none_left n p before none = sym (ap (is_any_of at) none) ∙ before

  pub ends_off : (n : ℕ) (p : Place) → Decides n p → (Has tracks p → ⊥) → false ≡ is_on_chain tracks content first at
  ends_off n p before off = none_left n p before (stops_off tracks content n p off)

  pub ends_unread : (n : ℕ) (p : Place) (code : ℕ) → Decides n p → Has tracks p → content p ≡ Err code → false ≡ is_on_chain tracks content first at
  ends_unread n p code before h e = none_left n p before (stops_unread tracks content n p code h e)

  pub ends_full : (n : ℕ) (p : Place) → Decides n p → n ≡ 0 → false ≡ is_on_chain tracks content first at
  ends_full n p before e = none_left n p before (stops_full tracks content n p e)

  -- one sector more, which it may be
  next_of : (m n : ℕ) (p : Place) (bytes : List ℕ) → Decides m p → Has tracks p → content p ≡ Ok bytes → m ≡ suc n
      → (is_place p at || is_any_of at (follow tracks content n (link bytes)).blocks) ≡ is_on_chain tracks content first at
  next_of m n p bytes before h reads less =
      sym (ap (λ f. is_any_of at f.blocks) (follow_next tracks content m n p bytes (going tracks p h) h less reads)) ∙ before

  pub is_here : (m n : ℕ) (p block : Place) (bytes : List ℕ) → Decides m p → Has tracks p → content p ≡ Ok bytes → m ≡ suc n → block ≡ p
      → is_place block at ≡ true → true ≡ is_on_chain tracks content first at
  is_here m n p block bytes before h reads less named same =
      sym (ap (λ b. b || is_any_of at (follow tracks content n (link bytes)).blocks) (ap (λ q. is_place q at) (sym named) ∙ same))
      ∙ next_of m n p bytes before h reads less

  pub goes_on : (m n : ℕ) (p block : Place) (bytes : List ℕ) → Decides m p → Has tracks p → content p ≡ Ok bytes → m ≡ suc n → block ≡ p
      → is_place block at ≡ false → Decides n (link bytes)
  goes_on m n p block bytes before h reads less named other =
      sym (ap (λ b. b || is_any_of at (follow tracks content n (link bytes)).blocks) (ap (λ q. is_place q at) (sym named) ∙ other))
      ∙ next_of m n p bytes before h reads less

-- ---- an entry that passes

any_found : (test : List ℕ → Bool) (n : ℕ) (entries : List (List ℕ)) (found : ℕ × List ℕ) → first_from test n entries ≡ Some found → list_any test entries ≡ true
any_found test n [] found e = absurd (cc)
any_found test n (entry ∷ rest) found e = elim (bool_cases (test entry)) [
  | inl passes ↦ ap (λ x. x || list_any test rest) passes
  | inr fails ↦ ap (λ x. x || list_any test rest) fails ∙ any_found test (n + 1) rest found (rw fails at e)
]

none_found : (test : List ℕ → Bool) (n : ℕ) (entries : List (List ℕ)) → first_from test n entries ≡ None → list_any test entries ≡ false
none_found test n [] e = refl
none_found test n (entry ∷ rest) e = elim (bool_cases (test entry)) [
  | inl passes ↦ absurd (let e = rw passes at e in cc)
  | inr fails ↦ ap (λ x. x || list_any test rest) fails ∙ none_found test (n + 1) rest (rw fails at e)
]

-- what looking for an entry answers
abbrev pub was_found : Result (Option (ℕ × List ℕ)) Trouble → Bool
was_found (Ok found) = is_some found
was_found (Err t) = false

-- an entry is found if one passes
found_any : (test : List ℕ → Bool) (listed : Listed) (r : Result (Option (ℕ × List ℕ)) Trouble) → Finds test listed r → was_found r ≡ list_any test listed.entries
found_any test listed (Ok (Some found)) h = sym (any_found test 0 listed.entries found h)
found_any test listed (Ok None) h = sym (none_found test 0 listed.entries h.0)
found_any test listed (Err t) h = sym (none_found test 0 listed.entries h.0)

-- so it is on a disk of so many tracks
pub found_unclosed : (content : Content) (at : Place) (tracks geometry : ℕ) (r : Result (Option (ℕ × List ℕ)) Trouble) → geometry ≡ tracks
    → Finds (is_of_unclosed tracks content at) (directory_of geometry content) r → was_found r ≡ has_unclosed tracks content at
found_unclosed content at tracks geometry r same finds =
    found_any (is_of_unclosed tracks content at) (directory_of tracks content) r (subst (λ n. Finds (is_of_unclosed tracks content at) (directory_of n content) r) same finds)

-- ---- the mark of GEOS

pub take_twice : (m n : ℕ) (xs : List ℕ) → m ≤ n → take m (take n xs) ≡ take m xs
take_twice zero n xs h = refl
take_twice (suc m) zero xs h = absurd (omega arith)
take_twice (suc m) (suc n) [] h = refl
take_twice (suc m) (suc n) (x ∷ xs) h = ap (λ l. x ∷ l) (take_twice m n xs (omega arith))
