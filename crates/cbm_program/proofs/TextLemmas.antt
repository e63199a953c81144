-- One step of reading a text.
use Rattle.std.proofs.Common.{◌≡◌, ℕ, ◌+◌, ◌*◌, ◌<◌, List, [], ◌∷◌, ◌++◌, length, Option, Some, None, refl, ap, sym, ◌∙◌, arith, append_assoc, true, false}
use Rattle.std.proofs.Common.{if◌then◌else◌, ◌&&◌, ◌≢◌}
use Rattle.std.proofs.lemmas.Option.{cond_some}
use Rattle.cbm_program.specs.Texts.{is_hex, hex_value, is_plain, with_text_front, text_of}

pub text_of-plain : (xs : List ℕ) (x : ℕ) (rest : List ℕ) → xs ≡ x ∷ rest → x ≢ 92 → is_plain x ≡ true → text_of xs ≡ with_text_front (x ∷ []) (text_of rest)
text_of-plain xs x rest e n p = rw e (grind arith)

pub text_of-other : (xs : List ℕ) (x : ℕ) (rest : List ℕ) → xs ≡ x ∷ rest → x ≢ 92 → is_plain x ≡ false → text_of xs ≡ None
text_of-other xs x rest e n p = rw e (grind arith)

pub text_of-short : (xs : List ℕ) (x : ℕ) (rest : List ℕ) → xs ≡ x ∷ rest → x ≡ 92 → length rest < 2 → text_of xs ≡ None
text_of-short xs x [] e b l = rw (e, b) refl
text_of-short xs x (h ∷ []) e b l = rw (e, b) refl
text_of-short xs x (h ∷ k ∷ rest) e b l = absurd (omega arith)

pub text_of-escape : (xs : List ℕ) (x h k : ℕ) (rest : List ℕ) → xs ≡ x ∷ h ∷ k ∷ rest → x ≡ 92
    → text_of xs ≡ (if is_hex h && is_hex k then with_text_front ((16 * hex_value h + hex_value k) ∷ []) (text_of rest) else None)
text_of-escape xs x h k rest e b = rw (e, b) refl

pub front-append : (a b : List ℕ) (o : Option (List ℕ)) → with_text_front (a ++ b) o ≡ with_text_front a (with_text_front b o)
front-append a b None = refl
front-append a b (Some x) = ap Some (append_assoc a b x)

pub plain_step : (items now xs rest : List ℕ) (x : ℕ) (T : Option (List ℕ)) → with_text_front items (text_of xs) ≡ T → xs ≡ x ∷ rest
    → x ≢ 92 → is_plain x ≡ true → now ≡ items ++ x ∷ [] → with_text_front now (text_of rest) ≡ T
plain_step items now xs rest x T inv e other plain pushed =
    rw pushed (rw (front-append items (x ∷ []) (text_of rest), ← text_of-plain xs x rest e other plain) inv)

hex_is : (h u : ℕ) → Some u ≡ (if is_hex h then Some (hex_value h) else None) → (is_hex h ≡ true) × (hex_value h ≡ u)
hex_is h u e = cond_some (is_hex h) (hex_value h) u (sym e)

pub escape_step : (items now xs a b rest : List ℕ) (x h k u v : ℕ) (T : Option (List ℕ)) → with_text_front items (text_of xs) ≡ T
    → xs ≡ x ∷ a → a ≡ h ∷ b → b ≡ k ∷ rest → x ≡ 92
    → Some u ≡ (if is_hex h then Some (hex_value h) else None) → Some v ≡ (if is_hex k then Some (hex_value k) else None)
    → now ≡ items ++ (16 * u + v) ∷ [] → with_text_front now (text_of rest) ≡ T
escape_step items now xs a b rest x h k u v T inv ex ea eb slash high low pushed =
    let whole : xs ≡ x ∷ h ∷ k ∷ rest = cc in
    let hs = hex_is h u high in
    let ls = hex_is k v low in
    let both : text_of xs ≡ with_text_front ((16 * u + v) ∷ []) (text_of rest) =
    text_of-escape xs x h k rest whole slash ∙ simp (hs.0, ls.0, hs.1, ls.1) in
    rw pushed (rw (front-append items ((16 * u + v) ∷ []) (text_of rest), ← both) inv)
