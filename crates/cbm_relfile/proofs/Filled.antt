-- The last data block of a file is filled up: how many bytes the file has, and where fresh records begin.
use Rattle.std.proofs.Common.{◌≡◌, ◌≢◌, ◌⊎◌, ℕ, zero, suc, ◌+◌, ◌-◌, ◌*◌, ◌/◌, ◌<◌, ◌≤◌, List, [], ◌∷◌, length, get_or, Some, Ok, sym, ap, subst, ◌∙◌, arith, inl, inr}
use Rattle.std.proofs.lemmas.List.{length-append}
use Rattle.std.proofs.Math.Nat.{lt-div-mul-add, div-mul-le_self}
use Rattle.cbm_medium.specs.Place.{Place, directory_head}
use Rattle.cbm_medium.specs.Content.{Cell, Content, written}
use Rattle.cbm_medium.specs.Links.{bytes_at, or_nothing, link, Chain}
use Rattle.cbm_chain.specs.Data.{data_of, chain_bytes}
use Rattle.cbm_relfile.specs.Records.{AllWhole}
use Rattle.cbm_relfile.specs.Fresh.{full_end, IsFilledFrom}
use Rattle.cbm_relfile.specs.Filling.{IsRefilled, fresh_begin, last_begin, IsTailFilled}
use Rattle.cbm_medium.specs.Place.{Has}
use Rattle.cbm_medium.specs.Content.{refusal}
use Rattle.cbm_medium.specs.Seen.{Seen, write_refusal, HasFailed}
use Rattle.cbm_relfile.specs.Changing.{IsWriteRefused}
use Rattle.cbm_relfile.proofs.Changed.{back_refused}
use Rattle.cbm_relfile.proofs.Positions.{whole_bytes, full_length}

-- all blocks but the last one are full
pub chain_length : (tracks : ℕ) (c : Content) (a : Place) (xs : List Place) (i : ℕ) → AllWhole c → Chain tracks c a xs → suc i ≡ length xs → length (chain_bytes c xs) ≡ 254 * i + length (data_of (bytes_at c (get_or xs i directory_head)))
chain_length tracks c a [] i w h l = absurd (omega (arith, l))
chain_length tracks c a (x ∷ []) zero w h l = omega (arith, length-append (data_of (bytes_at c x)) [])
chain_length tracks c a (x ∷ y ∷ ys) zero w h l = absurd (omega (arith, l))
chain_length tracks c a (x ∷ []) (suc i) w h l = absurd (omega (arith, l))
chain_length tracks c a (x ∷ y ∷ ys) (suc i) w h l =
    let goes_on : (link (bytes_at c x)).track ≢ 0 = λ z. (let t = ap (λ (p : Place). p.track) h.3.0 in omega (arith, t, z, h.3.1.0)) in
    let full : length (data_of (bytes_at c x)) ≡ 254 = full_length (bytes_at c x) (whole_bytes c x w h.2) goes_on in
    omega (arith, length-append (data_of (bytes_at c x)) (chain_bytes c (y ∷ ys)), full, chain_length tracks c (link (bytes_at c x)) (y ∷ ys) i w h.3 (omega (arith, l)))

-- the last block's data are the file's last bytes
pub ends_with : (tracks : ℕ) (c : Content) (a : Place) (xs : List Place) (b : ℕ) (at : Place) (sector : List ℕ) → AllWhole c → Chain tracks c a xs → length xs ≡ b → 1 ≤ b → at ≡ get_or xs (b - 1) directory_head → c at ≡ Ok sector
    → length (chain_bytes c xs) ≡ 254 * (b - 1) + length (data_of sector)
ends_with tracks c a xs b at sector w h l some is holds =
    let long = chain_length tracks c a xs (b - 1) w h (omega (arith, l, some)) in
    let same : length (data_of (bytes_at c (get_or xs (b - 1) directory_head))) ≡ length (data_of sector) = ap (λ (p : Place). length (data_of (bytes_at c p))) (sym is) ∙ ap (λ (x : Cell). length (data_of (or_nothing x))) holds in
    omega (arith, long, same)

-- where fresh records begin
pub begins_at : (w n begin used : ℕ) → n ≡ begin + used → (begin + used) / w * w ≡ fresh_begin w n
begins_at w n begin used e = ap (λ (m : ℕ). m / w * w) (sym e)

-- at most one record before the end of the file's bytes
pub begins_late : (w n : ℕ) → 1 ≤ w → (n / w * w ≤ n) × (n < n / w * w + w)
begins_late w n s = (div-mul-le_self n w, lt-div-mul-add {a = n} {b = w} s)

-- the last block is refused for what the medium showed before the one before it was written, too
pub end_refused : (tracks : ℕ) (old mid new : Seen) (xs : List Place) (w from : ℕ) (q : Place) (sector : List ℕ) (code : ℕ) → IsTailFilled old.content mid.content xs w from → mid.protected ≡ old.protected → old.failures ≤ mid.failures → old.content q ≡ Ok sector → Has tracks q
    → (write_refusal mid q ≡ Some code) ⊎ HasFailed mid new → IsWriteRefused tracks old new code
end_refused tracks old mid new xs w from q sector code (inl (far, same)) protected counted holds has (inl refused) =
    inl (q, has, (λ i. refusal (sym protected i) (sym same i q)) ∙ refused)
end_refused tracks old mid new xs w from q sector code (inl (far, same)) protected counted holds has (inr failed) = inr (omega (arith, failed, counted))
end_refused tracks old mid new xs w from q sector code (inr (near, r)) protected counted holds has h =
    back_refused tracks old mid new (get_or xs (length xs - 2) directory_head) q r.new sector code r.written protected counted holds has h

-- the last block, as it is written
pub last_filled : (c mid c' : Content) (xs : List Place) (w b from place width : ℕ) (at next : Place) (sector new : List ℕ) → length xs ≡ b → width ≡ w → place ≡ from - 254 * (b - 1) → next ≡ full_end → at ≡ get_or xs (b - 1) directory_head
    → c at ≡ Ok sector → IsFilledFrom width b (b - 1) place sector next new → c' ≡ written mid at new → IsRefilled c mid c' xs w (length xs - 1) (from - last_begin xs) (λ s. full_end)
last_filled c mid c' xs w b from place width at next sector new l e p n is holds f wr = record {
  sector = sector;
  holds = ap c (ap (λ (m : ℕ). get_or xs (m - 1) directory_head) l ∙ sym is) ∙ holds;
  new = new;
  filled = subst (λ (m : ℕ). IsFilledFrom w m (m - 1) (from - 254 * (m - 1)) sector full_end new) (sym l)
      (subst (λ (m : ℕ). IsFilledFrom w b (b - 1) m sector full_end new) p (subst (λ (q : Place). IsFilledFrom w b (b - 1) place sector q new) n (subst (λ (m : ℕ). IsFilledFrom m b (b - 1) place sector next new) e f)));
  written = wr ∙ ap (λ (q : Place). written mid q new) (is ∙ ap (λ (m : ℕ). get_or xs (m - 1) directory_head) (sym l));
}
