-- What a drive is told by a call, act by act, and the bytes that it says.
use Rattle.std.proofs.Common.{◌≡◌, ◌∙◌, ◌==◌, ◌<◌, ◌+◌, ◌-◌, ◌∷◌, [], ◌++◌, ℕ, Bool, true, false, List, Option, Some, None, ap, arith, drop, length, refl, slice_index, slice_set, subst, suc, sym}
use Rattle.std.proofs.Math.Seq.{drop-cons, set-append_seam}
use Rattle.std.proofs.lemmas.List.{append_assoc, append-nil, length-drop, length_push}
use Rattle.cbm_iec.specs.declared.machine.Act.{Act}
use Rattle.cbm_iec.specs.declared.machine.Act.TheVariants.{Heard, Said}
use Rattle.cbm_device.specs.Channels.{heard_each, IsToldAll, Speaks, full, silent, last, more}

-- the next byte of those that are left
one_off : (bytes : List ℕ) (i : ℕ) → i < length bytes → drop i bytes ≡ slice_index bytes i ∷ drop (i + 1) bytes
one_off bytes i lt = let next : suc i ≡ i + 1 = omega arith in subst (λ k. drop i bytes ≡ slice_index bytes i ∷ drop k bytes) next (drop-cons bytes i 0 lt)

-- how many are left after it
left_off : (bytes : List ℕ) (i : ℕ) → length (drop i bytes) ≡ length bytes - i
left_off bytes i = length-drop i bytes

module _ {D : Type 0} (tells : Act → D → D → Type 0) where
  -- acts, and then others
  pub told_then : (xs ys : List Act) (x y z : D) → IsToldAll tells xs x y → IsToldAll tells ys y z → IsToldAll tells (xs ++ ys) x z
  told_then [] ys x y z e t = subst (λ w. IsToldAll tells ys w z) e t
  told_then (act ∷ xs) ys x y z t u = (t.0, t.1, told_then xs ys t.0 y z t.2 u)

  -- some bytes were heard: with those that are left all are
  pub record Hearing (all : List ℕ) (place left : ℕ) (x now : D) : Type 0 where
    pub still : left ≡ length all - place
    pub on : (y : D) → IsToldAll tells (heard_each (drop place all)) now y → IsToldAll tells (heard_each all) x y

  -- one more
  pub heard_one : (all : List ℕ) (place left after : ℕ) (x now z : D) → place < length all → Hearing all place left x now → after ≡ left - 1
      → tells (Heard (slice_index all place) (after == 0)) now z → Hearing all (place + 1) after x z
  heard_one all place left after x now z lt h e told =
      let still : after ≡ length all - (place + 1) = omega (arith, e, h.still) in
      let act : tells (Heard (slice_index all place) (length (drop (place + 1) all) == 0)) now z =
      subst (λ (n : ℕ). tells (Heard (slice_index all place) (n == 0)) now z) (still ∙ sym (left_off all (place + 1))) told in
      record {
        still = still;
        on = λ y t. h.on y (subst (λ (l : List ℕ). IsToldAll tells (heard_each l) now y) (sym (one_off all place lt)) (z, act, t));
      }

  module _ (is_shown : D → Option (ℕ × Bool) → Type 0) where
    -- so many bytes were said, and lie at the beginning of the room: with those that are still said all are
    pub record Speaking (most count : ℕ) (room filled : List ℕ) (x now : D) : Type 0 where
      pub so_far : List ℕ
      pub counted : length so_far ≡ count
      pub lies : filled ≡ so_far ++ drop count room
      pub on : (bytes : List ℕ) (marked : Bool) (y : D) → Speaks tells is_shown (most - count) bytes marked now y → Speaks tells is_shown most (so_far ++ bytes) marked x y

    -- none yet
    pub speaking_first : (most : ℕ) (room : List ℕ) (x : D) → Speaking most 0 room room x x
    speaking_first most room x = record { so_far = []; counted = refl; lies = refl; on = λ bytes marked y s. (let none : most - 0 ≡ most = omega arith in subst (λ (n : ℕ). Speaks tells is_shown n bytes marked x y) none s) }

    -- these bytes are said, and lie at the beginning of the room
    abbrev pub AreSaid : ℕ → List ℕ → List ℕ → ℕ → Bool → D → D → Type 0
    AreSaid most room filled count marked x y = (bytes : List ℕ) × (length bytes ≡ count) × (filled ≡ bytes ++ drop count room) × Speaks tells is_shown most bytes marked x y

    -- the byte goes to its place
    seam : (so_far room filled : List ℕ) (count byte : ℕ) → length so_far ≡ count → count < length room → filled ≡ so_far ++ drop count room
        → slice_set filled count byte ≡ so_far ++ byte ∷ drop (count + 1) room
    seam so_far room filled count byte n lt e =
        ap (λ (l : List ℕ). slice_set l count byte) (e ∙ ap (λ (l : List ℕ). so_far ++ l) (one_off room count lt))
        ∙ subst (λ (k : ℕ). slice_set (so_far ++ slice_index room count ∷ drop (count + 1) room) k byte ≡ so_far ++ byte ∷ drop (count + 1) room) n
        (set-append_seam so_far (slice_index room count) (drop (count + 1) room) byte)

    -- one more byte, which isn't the last
    pub speaking_more : (most count byte : ℕ) (room filled : List ℕ) (x now z : D) → count < most → most ≡ length room → Speaking most count room filled x now
        → is_shown now (Some (byte, false)) → tells (Said byte false) now z → Speaking most (count + 1) room (slice_set filled count byte) x z
    speaking_more most count byte room filled x now z lt size s shows told = record {
      so_far = s.so_far ++ byte ∷ [];
      counted = length_push s.so_far byte ∙ ap (λ (n : ℕ). n + 1) s.counted;
      lies = seam s.so_far room filled count byte s.counted (omega arith) s.lies ∙ sym (append_assoc s.so_far (byte ∷ []) (drop (count + 1) room));
      on = λ bytes marked y t.
          (let next : most - count ≡ suc (most - (count + 1)) = omega arith in
          subst (λ (l : List ℕ). Speaks tells is_shown most l marked x y) (sym (append_assoc s.so_far (byte ∷ []) bytes))
          (s.on (byte ∷ bytes) marked y (more (most - (count + 1)) byte bytes z next shows told refl t)));
    }

    -- the last byte
    pub said_last : (most count byte : ℕ) (room filled : List ℕ) (x now z : D) → count < most → most ≡ length room → Speaking most count room filled x now
        → is_shown now (Some (byte, true)) → tells (Said byte true) now z → AreSaid most room (slice_set filled count byte) (count + 1) true x z
    said_last most count byte room filled x now z lt size s shows told =
        let next : most - count ≡ suc (most - (count + 1)) = omega arith in (
          s.so_far ++ byte ∷ [],
          length_push s.so_far byte ∙ ap (λ (n : ℕ). n + 1) s.counted,
          seam s.so_far room filled count byte s.counted (omega arith) s.lies ∙ sym (append_assoc s.so_far (byte ∷ []) (drop (count + 1) room)),
          s.on (byte ∷ []) true z (last (most - (count + 1)) byte next shows told refl refl),
        )

    -- nothing more is said
    pub said_silent : (most count : ℕ) (room filled : List ℕ) (x now : D) → Speaking most count room filled x now → is_shown now None → AreSaid most room filled count false x now
    said_silent most count room filled x now s shows = (
      s.so_far,
      s.counted,
      s.lies,
      subst (λ (l : List ℕ). Speaks tells is_shown most l false x now) (append-nil s.so_far) (s.on [] false now (silent shows refl refl refl)),
    )

    -- the room is full
    pub said_full : (most count : ℕ) (room filled : List ℕ) (x now : D) → Speaking most count room filled x now → most ≡ count → AreSaid most room filled count false x now
    said_full most count room filled x now s e = (
      s.so_far,
      s.counted,
      s.lies,
      subst (λ (l : List ℕ). Speaks tells is_shown most l false x now) (append-nil s.so_far) (s.on [] false now (let none : most - count ≡ 0 = omega arith in full none refl refl refl)),
    )
