-- Sectors put into a set along chains, and the picture line by line.
use Rattle.std.proofs.Common.{◌≡◌, ◌≢◌, ℕ, zero, suc, ◌+◌, List, [], ◌∷◌, ◌++◌, length, drop, drop-cons, get_or, ◌<◌, Bool, true, false, Ok, Err, refl, sym, ap, ◌∙◌, arith, inl, inr, append_assoc, append-nil}
use Rattle.std.specs.Prelude.{◌||◌, if◌then◌else◌}
use mathlib.Core.Path.{fun_ext}
use Rattle.std.proofs.lemmas.Bool.{cases_eq}
use Rattle.cbm_medium.specs.Place.{Place, Has, has, is_place, sector_count}
use Rattle.cbm_medium.specs.Content.{Content}
use Rattle.cbm_medium.specs.Links.{link, follow}
use Rattle.cbm_medium.proofs.Walks.{true_has, has_true, bool_cases, follow_end, follow_off, follow_full, follow_fault, follow_next}
use Rattle.cbm_bam.specs.Map.{with_bit}
use Rattle.cbm_bam.specs.Marks.{nothing}
use Rattle.cbm_directory.specs.Entries.{is_closed, is_relative, first_block, first_side}
use Rattle.cbm_shell.specs.Mapping.{chain_of, sides_of, sectors_of, in_files, is_among, sign_at, signs_on, row_of, rows_of}
use Rattle.cbm_shell.specs.Marking.{with_places}

-- ---- along a chain

pub stops_off : (tracks : ℕ) (content : Content) (n : ℕ) (p : Place) → (Has tracks p → ⊥) → (follow tracks content n p).blocks ≡ []
stops_off tracks content n p none = elim (cases_eq p.track 0) [
  | inl z ↦ ap (λ f. f.blocks) (follow_end tracks content n p z)
  | inr nz ↦ elim (bool_cases (has tracks p)) [
    | inl there ↦ absurd (none (true_has tracks p there))
    | inr off ↦ ap (λ f. f.blocks) (follow_off tracks content n p nz off)
  ]
]

going : (tracks : ℕ) (p : Place) → Has tracks p → p.track ≢ 0
going tracks p h e = omega (arith, h.0)

pub stops_full : (tracks : ℕ) (content : Content) (n : ℕ) (p : Place) → n ≡ 0 → (follow tracks content n p).blocks ≡ []
stops_full tracks content n p e = elim (bool_cases (has tracks p)) [
  | inl there ↦ (let h : Has tracks p = true_has tracks p there in ap (λ f. f.blocks) (follow_full tracks content n p (going tracks p h) h e))
  | inr off ↦ stops_off tracks content n p (λ h. (let there = has_true tracks p h in absurd (cc)))
]

pub stops_unread : (tracks : ℕ) (content : Content) (n : ℕ) (p : Place) (code : ℕ) → Has tracks p → content p ≡ Err code → (follow tracks content n p).blocks ≡ []
stops_unread tracks content zero p code h e = stops_full tracks content 0 p refl
stops_unread tracks content (suc n) p code h e = ap (λ f. f.blocks) (follow_fault tracks content (suc n) n p code (going tracks p h) h refl e)

-- nothing is left of a chain
pub used_all : (used whole : Place → Bool) (rest : List Place) → with_places used rest ≡ whole → rest ≡ [] → used ≡ whole
unfolding with_places
used_all used whole rest e none = sym (ap (with_places used) none) ∙ e

-- one sector more
pub used_more : (used new whole : Place → Bool) (tracks : ℕ) (content : Content) (m n : ℕ) (p : Place) (bytes : List ℕ)
    → with_places used (follow tracks content m p).blocks ≡ whole → Has tracks p → content p ≡ Ok bytes → m ≡ suc n → new ≡ with_bit used p true
    → with_places new (follow tracks content n (link bytes)).blocks ≡ whole
unfolding with_places
used_more used new whole tracks content m n p bytes e h reads less is =
    ap (λ u. with_places u (follow tracks content n (link bytes)).blocks) is
    ∙ sym (ap (λ f. with_places used f.blocks) (follow_next tracks content m n p bytes (going tracks p h) h less reads)) ∙ e

pub chain_begins : (used : Place → Bool) (tracks : ℕ) (content : Content) (n : ℕ) (a : Place) → n ≡ sector_count tracks
    → with_places used (follow tracks content n a).blocks ≡ with_places used (chain_of tracks content a)
unfolding chain_of
chain_begins used tracks content n a e = ap (λ k. with_places used (follow tracks content k a).blocks) e

-- ---- several lists, one after another

pub with-append : (used : Place → Bool) (xs ys : List Place) → with_places used (xs ++ ys) ≡ with_places (with_places used xs) ys
unfolding with_places
with-append used [] ys = refl
with-append used (p ∷ xs) ys = with-append (with_bit used p true) xs ys

or_bit : (a b c : Bool) → (a || (if b then true else c)) ≡ ((b || a) || c)
or_bit true true c = refl
or_bit true false c = refl
or_bit false true c = refl
or_bit false false c = refl

with_among : (used : Place → Bool) (xs : List Place) (p : Place) → with_places used xs p ≡ (is_among xs p || used p)
unfolding with_places is_among
with_among used [] p = refl
with_among used (q ∷ xs) p = with_among (with_bit used q true) xs p ∙ or_bit (is_among xs p) (is_place q p) (used p)

or_false : (b : Bool) → (b || false) ≡ b
or_false true = refl
or_false false = refl

pub among : (xs : List Place) → with_places nothing xs ≡ is_among xs
among xs = fun_ext (λ p. with_among nothing xs p ∙ or_false (is_among xs p))

-- ---- the files of a directory

-- a file that wasn't closed
pub used_by_none : (used : Place → Bool) (tracks : ℕ) (content : Content) (e : List ℕ) → is_closed e ≡ false → used ≡ with_places used (sectors_of tracks content e)
unfolding with_places
used_by_none used tracks content e unclosed = sym (ap (λ (b : Bool). with_places used (if b then chain_of tracks content (first_block e) ++ sides_of tracks content e else [])) unclosed)

-- a relative file
pub used_by_sides : (used blocks new : Place → Bool) (tracks : ℕ) (content : Content) (e : List ℕ) → is_closed e ≡ true → is_relative e ≡ true
    → blocks ≡ with_places used (chain_of tracks content (first_block e)) → new ≡ with_places blocks (chain_of tracks content (first_side e))
    → new ≡ with_places used (sectors_of tracks content e)
used_by_sides used blocks new tracks content e closed relative is more =
    more ∙ ap (λ u. with_places u (chain_of tracks content (first_side e))) is
    ∙ sym (with-append used (chain_of tracks content (first_block e)) (chain_of tracks content (first_side e)))
    ∙ sym (ap (λ (b : Bool). with_places used (if b then chain_of tracks content (first_block e) ++ (if is_relative e then chain_of tracks content (first_side e) else []) else [])) closed
    ∙ ap (λ (b : Bool). with_places used (chain_of tracks content (first_block e) ++ (if b then chain_of tracks content (first_side e) else []))) relative)

pub files_more : (used new whole : Place → Bool) (tracks : ℕ) (content : Content) (e : List ℕ) (rest left : List (List ℕ)) → left ≡ e ∷ rest
    → with_places used (in_files tracks content left) ≡ whole → new ≡ with_places used (sectors_of tracks content e)
    → with_places new (in_files tracks content rest) ≡ whole
unfolding in_files
files_more used new whole tracks content e rest left begins before is =
    ap (λ u. with_places u (in_files tracks content rest)) is ∙ sym (with-append used (sectors_of tracks content e) (in_files tracks content rest))
    ∙ sym (ap (λ l. with_places used (in_files tracks content l)) begins) ∙ before

pub files_all : (used whole : Place → Bool) (tracks : ℕ) (content : Content) (left : List (List ℕ)) → left ≡ []
    → with_places used (in_files tracks content left) ≡ whole → used ≡ whole
unfolding in_files with_places
files_all used whole tracks content left none before = sym (ap (λ l. with_places used (in_files tracks content l)) none) ∙ before

pub one_off : (xs : List (List ℕ)) (x : List ℕ) (i : ℕ) → x ≡ get_or xs i x → i < length xs → drop i xs ≡ x ∷ drop (i + 1) xs
one_off xs x i e h =
    let next : suc i ≡ i + 1 = omega arith in
    drop-cons xs i x h ∙ ap (λ y. y ∷ drop (suc i) xs) (sym e) ∙ ap (λ k. x ∷ drop k xs) next

-- the map's sector, the directory, and the files
pub all_used : (none head directory files : Place → Bool) (a b c : List Place) → none ≡ nothing → head ≡ with_places none a → directory ≡ with_places head b
    → files ≡ with_places directory c → files ≡ is_among (a ++ (b ++ c))
all_used none head directory files a b c e f g h =
    h ∙ ap (λ u. with_places u c) (g ∙ ap (λ u. with_places u b) (f ∙ ap (λ u. with_places u a) e))
    ∙ sym (with-append (with_places nothing a) b c) ∙ sym (with-append nothing a (b ++ c)) ∙ among (a ++ (b ++ c))

-- ---- the picture, a sign and a line at a time

pub signs-none : (out : List ℕ) (content : Content) (used : Place → Bool) (track : ℕ) → out ≡ out ++ signs_on content used track 0
unfolding signs_on
signs-none out content used track = sym (append-nil out)

signs-next : (content : Content) (used : Place → Bool) (track n : ℕ) → signs_on content used track (n + 1) ≡ signs_on content used track n ++ sign_at content used (record { track = track; sector = n }) ∷ []
unfolding signs_on
signs-next content used track n = ap (signs_on content used track) (let e : n + 1 ≡ suc n = omega arith in e)

pub signs-more : (out old new : List ℕ) (content : Content) (used : Place → Bool) (track n : ℕ) (at : Place) → old ≡ out ++ signs_on content used track n
    → new ≡ old ++ sign_at content used at ∷ [] → at ≡ record { track = track; sector = n } → new ≡ out ++ signs_on content used track (n + 1)
signs-more out old new content used track n at before added same =
    added ∙ ap (λ (p : Place). old ++ sign_at content used p ∷ []) same
    ∙ ap (λ (l : List ℕ). l ++ sign_at content used (record { track = track; sector = n }) ∷ []) before
    ∙ append_assoc out (signs_on content used track n) (sign_at content used (record { track = track; sector = n }) ∷ [])
    ∙ ap (λ (l : List ℕ). out ++ l) (sym (signs-next content used track n))

pub rows-none : (out : List ℕ) (content : Content) (used : Place → Bool) → out ≡ out ++ rows_of content used 0
unfolding rows_of
rows-none out content used = sym (append-nil out)

rows-next : (content : Content) (used : Place → Bool) (n : ℕ) → rows_of content used (n + 1) ≡ rows_of content used n ++ row_of content used (n + 1)
unfolding rows_of
rows-next content used n = let e : n + 1 ≡ suc n = omega arith in
    ap (rows_of content used) e ∙ ap (λ k. rows_of content used n ++ row_of content used k) (sym e)

pub rows-more : (out old new : List ℕ) (content : Content) (used : Place → Bool) (n : ℕ) → old ≡ out ++ rows_of content used n
    → new ≡ old ++ row_of content used (n + 1) → new ≡ out ++ rows_of content used (n + 1)
rows-more out old new content used n before added =
    added ∙ ap (λ (l : List ℕ). l ++ row_of content used (n + 1)) before
    ∙ append_assoc out (rows_of content used n) (row_of content used (n + 1)) ∙ ap (λ (l : List ℕ). out ++ l) (sym (rows-next content used n))
