-- Names as text, and read again: each code by itself, all 256 in both sets, and then names of any length.
use Rattle.std.proofs.Common.{◌≡◌, ◌≢◌, ℕ, suc, ◌+◌, ◌/◌, ◌%◌, ◌<◌, List, [], ◌∷◌, ◌++◌, length, get_or, Bool, true, false, Option, Some, None, refl, sym, ap, ◌∙◌, arith, inl, inr, append_assoc, append-nil}
use Rattle.std.specs.Prelude.{◌==◌, ◌||◌, if◌then◌else◌, IsUtf8, chars}
use Rattle.std.specs.Char.{digit_char}
use lib.Utf8.{scalars}
use Rattle.std.proofs.lemmas.Bool.{agree_below_at, cases_eq, or_cases, eq-eqb, ne_eqb, eqb-true, false≢true}
use Rattle.std.proofs.lemmas.Str.{chars-nil, chars-append, chars-encodes}
use Rattle.cbm_shell.specs.declared.texts.petscii.Charset.{Charset}
use Rattle.cbm_shell.specs.declared.texts.petscii.Charset.TheVariants.{Upper, Lower}
use Rattle.cbm_shell.specs.Petscii.{key_of, code_from, code_of}
use Rattle.cbm_shell.specs.Names.{numbered, code_written, shown_as, name_text, byte_of_digits, with_code, codes_of, number_in}

-- ---- one code

-- whether a code was found, and is this one
is_code : Option ℕ → ℕ → Bool
is_code None code = false
is_code (Some found) code = found == code

some-is_code : (found : Option ℕ) (code : ℕ) → is_code found code ≡ true → found ≡ Some code
unfolding is_code
some-is_code None code e = absurd (false≢true e)
some-is_code (Some found) code e = ap Some (eqb-true found code e)

-- a code whose key has a character is the first with it, or else it is written by its number
is_read : Charset → ℕ → Bool
is_read charset code = (key_of charset code == 123) || is_code (code_of charset (key_of charset code)) code

all_read : (charset : Charset) (code : ℕ) → code < 256 → is_read charset code ≡ true
unfolding is_read is_code key_of code_from
all_read Upper code h = agree_below_at (λ k. is_read Upper k) (λ k. true) 256 code refl h
all_read Lower code h = agree_below_at (λ k. is_read Lower k) (λ k. true) 256 code refl h

key-read : (charset : Charset) (code : ℕ) → code < 256 → key_of charset code ≢ 123 → code_of charset (key_of charset code) ≡ Some code
unfolding is_read
key-read charset code h other =
    elim (or_cases (key_of charset code == 123) (is_code (code_of charset (key_of charset code)) code) (all_read charset code h)) [
      | inl e ↦ absurd (other (eqb-true (key_of charset code) 123 e))
      | inr e ↦ some-is_code (code_of charset (key_of charset code)) code e
    ]

number-read : (code : ℕ) → code < 256 → byte_of_digits (digit_char (code / 16)) (digit_char (code % 16)) ≡ Some code
unfolding is_code
number-read code h = some-is_code (byte_of_digits (digit_char (code / 16)) (digit_char (code % 16))) code
    (agree_below_at (λ k. is_code (byte_of_digits (digit_char (k / 16)) (digit_char (k % 16))) k) (λ k. true) 256 code refl h)

-- a code in front of a text
written-read : (charset : Charset) (code : ℕ) (rest : List ℕ) → code < 256
    → codes_of charset (code_written charset code ++ rest) ≡ with_code (Some code) (codes_of charset rest)
unfolding codes_of number_in
written-read charset code rest h =
    let key = key_of charset code in
    elim (cases_eq key 123) [
      | inl e ↦ ap (λ (b : Bool). codes_of charset ((if b then numbered code else key ∷ []) ++ rest)) (eq-eqb key 123 e)
          ∙ ap (λ found. with_code found (codes_of charset rest)) (number-read code h)
      | inr other ↦ ap (λ (b : Bool). codes_of charset ((if b then numbered code else key ∷ []) ++ rest)) (ne_eqb key 123 other)
          ∙ (ap (λ (b : Bool). if b then number_in charset rest else with_code (code_of charset key) (codes_of charset rest)) (ne_eqb key 123 other)
          ∙ ap (λ found. with_code found (codes_of charset rest)) (key-read charset code h other))
    ]

-- ---- UTF-8

written-scalars : (charset : Charset) (code : ℕ) → code < 256 → scalars (code_written charset code) ≡ true
unfolding key_of
written-scalars Upper code h = agree_below_at (λ k. scalars (code_written Upper k)) (λ k. true) 256 code refl h
written-scalars Lower code h = agree_below_at (λ k. scalars (code_written Lower k)) (λ k. true) 256 code refl h

shown-chars : (charset : Charset) (code : ℕ) (more : List ℕ) → code < 256 → chars (shown_as charset code ++ more) ≡ code_written charset code ++ chars more
shown-chars charset code more h =
    let s = written-scalars charset code h in
    let text : IsUtf8 (shown_as charset code) = (code_written charset code, (s, refl)) in
    chars-append (shown_as charset code) more text ∙ ap (λ l. l ++ chars more) (chars-encodes (code_written charset code) s)

-- ---- names

-- WHAT IS SHOWN OF A NAME IS READ AS THE SAME BYTES
pub read_back : (charset : Charset) (name : List ℕ) → ((k : ℕ) → get_or name k 0 < 256) → codes_of charset (chars (name_text charset name)) ≡ Some name
unfolding name_text codes_of
read_back charset [] h = ap (codes_of charset) chars-nil
read_back charset (code ∷ rest) h =
    ap (codes_of charset) (shown-chars charset code (name_text charset rest) (h 0))
    ∙ (written-read charset code (chars (name_text charset rest)) (h 0)
    ∙ ap (with_code (Some code)) (read_back charset rest (λ k. h (suc k))))

-- ---- a code at a time

pub text-none : (out target rest : List ℕ) (charset : Charset) → out ++ name_text charset rest ≡ target → length rest ≡ 0 → out ≡ target
unfolding name_text
text-none out target [] charset h r = sym (append-nil out) ∙ h
text-none out target (x ∷ rest) charset h r = absurd (omega arith)

pub text-next : (out new target rest afterwards : List ℕ) (charset : Charset) (code : ℕ) → out ++ name_text charset rest ≡ target → rest ≡ code ∷ afterwards
    → new ≡ out ++ shown_as charset code → new ++ name_text charset afterwards ≡ target
unfolding name_text
text-next out new target rest afterwards charset code h r e =
    ap (λ t. t ++ name_text charset afterwards) e ∙ (append_assoc out (shown_as charset code) (name_text charset afterwards)
    ∙ (sym (ap (λ t. out ++ name_text charset t) r) ∙ h))

-- the codes so far before those of the rest
abbrev pub afterwards : List ℕ → Option (List ℕ) → Option (List ℕ)
afterwards out None = None
afterwards out (Some codes) = Some (out ++ codes)

afterwards-code : (out : List ℕ) (code : ℕ) (codes : Option (List ℕ)) → afterwards (out ++ code ∷ []) codes ≡ afterwards out (with_code (Some code) codes)
afterwards-code out code None = refl
afterwards-code out code (Some codes) = ap Some (append_assoc out (code ∷ []) codes)

pub codes-start : (codes : Option (List ℕ)) → afterwards [] codes ≡ codes
codes-start None = refl
codes-start (Some codes) = refl

pub codes-next : (out new rest front after : List ℕ) (charset : Charset) (first code : ℕ) (target : Option (List ℕ))
    → afterwards out (codes_of charset rest) ≡ target → rest ≡ first ∷ front
    → codes_of charset (first ∷ front) ≡ with_code (Some code) (codes_of charset after) → new ≡ out ++ code ∷ []
    → afterwards new (codes_of charset after) ≡ target
codes-next out new rest front after charset first code target h r e n =
    ap (λ l. afterwards l (codes_of charset after)) n ∙ (afterwards-code out code (codes_of charset after)
    ∙ (sym (ap (afterwards out) (ap (codes_of charset) r ∙ e)) ∙ h))

pub codes-refused : (out rest front : List ℕ) (charset : Charset) (first : ℕ) (target : Option (List ℕ))
    → afterwards out (codes_of charset rest) ≡ target → rest ≡ first ∷ front → codes_of charset (first ∷ front) ≡ None → target ≡ None
codes-refused out rest front charset first target h r e = sym h ∙ ap (afterwards out) (ap (codes_of charset) r ∙ e)

pub codes-end : (out rest : List ℕ) (charset : Charset) (target : Option (List ℕ)) → afterwards out (codes_of charset rest) ≡ target → length rest ≡ 0 → target ≡ Some out
unfolding codes_of
codes-end out [] charset target h r = sym h ∙ ap Some (append-nil out)
codes-end out (x ∷ rest) charset target h r = absurd (omega arith)

-- ---- a number

pub number-whole : (charset : Charset) (text a b rest : List ℕ) (high low brace : ℕ) (found : Option ℕ) → text ≡ high ∷ a → a ≡ low ∷ b → b ≡ brace ∷ rest → brace ≡ 125
    → byte_of_digits high low ≡ found → number_in charset text ≡ with_code found (codes_of charset rest)
unfolding number_in
number-whole charset text a b rest high low brace found e f g same is =
    ap (number_in charset) (e ∙ ap (λ t. high ∷ t) (f ∙ ap (λ t. low ∷ t) g))
    ∙ (ap (λ (b : Bool). if b then with_code (byte_of_digits high low) (codes_of charset rest) else None) (eq-eqb brace 125 same)
    ∙ ap (λ n. with_code n (codes_of charset rest)) is)

pub number-open : (charset : Charset) (text a b rest : List ℕ) (high low brace : ℕ) → text ≡ high ∷ a → a ≡ low ∷ b → b ≡ brace ∷ rest → brace ≢ 125
    → number_in charset text ≡ None
unfolding number_in
number-open charset text a b rest high low brace e f g other =
    ap (number_in charset) (e ∙ ap (λ t. high ∷ t) (f ∙ ap (λ t. low ∷ t) g))
    ∙ ap (λ (b : Bool). if b then with_code (byte_of_digits high low) (codes_of charset rest) else None) (ne_eqb brace 125 other)

pub number-short : (charset : Charset) (text : List ℕ) → length text < 3 → number_in charset text ≡ None
unfolding number_in
number-short charset [] h = refl
number-short charset (x ∷ []) h = refl
number-short charset (x ∷ y ∷ []) h = refl
number-short charset (x ∷ y ∷ z ∷ rest) h = absurd (omega arith)

-- the first character of a text
pub begins_number : (charset : Charset) (first : ℕ) (rest : List ℕ) → first ≡ 123 → codes_of charset (first ∷ rest) ≡ number_in charset rest
unfolding codes_of
begins_number charset first rest e = ap (λ (b : Bool). if b then number_in charset rest else with_code (code_of charset first) (codes_of charset rest)) (eq-eqb first 123 e)

pub begins_key : (charset : Charset) (first : ℕ) (rest : List ℕ) (found : Option ℕ) → first ≢ 123 → code_of charset first ≡ found
    → codes_of charset (first ∷ rest) ≡ with_code found (codes_of charset rest)
unfolding codes_of
begins_key charset first rest found other is =
    ap (λ (b : Bool). if b then number_in charset rest else with_code (code_of charset first) (codes_of charset rest)) (ne_eqb first 123 other)
    ∙ ap (λ n. with_code n (codes_of charset rest)) is
