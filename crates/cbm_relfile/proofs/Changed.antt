-- What a write of a record leaves.
use Rattle.std.proofs.Common.{◌≡◌, ◌≢◌, ◌⊎◌, ℕ, ◌+◌, ◌-◌, ◌*◌, ◌/◌, ◌%◌, ◌<◌, ◌≤◌, List, ◌∷◌, ◌++◌, length, take, Bool, true, false, Some, None, Result, Ok, Err, refl, sym, ap, subst, ◌∙◌, arith, inl, inr}
use Rattle.std.specs.Prelude.{slice_get, slice_index_or, replicate, min, IfErr, IsErrAnd, MatchResult}
use Rattle.std.proofs.lemmas.Bool.{cases_lt, cases_eq}
use Rattle.std.proofs.lemmas.List.{length-append, length-take, length-replicate, take_min, take-replicate}
use Rattle.std.proofs.Math.Nat.{min-le_left}
use Rattle.std.proofs.lemmas.Option.{slice_get-get_or}
use Rattle.cbm_medium.specs.Place.{Place, Has, directory_head}
use Rattle.cbm_medium.specs.Content.{Content, refusal, written}
use Rattle.cbm_medium.specs.Seen.{Seen, write_refusal, HasFailed}
use Rattle.cbm_medium.specs.Links.{link, Chain}
use Rattle.cbm_medium.proofs.Places.{place_decide, written_there, written_elsewhere}
use Rattle.cbm_file.specs.Records.{zeros, with_bytes}
use Rattle.cbm_chain.specs.Data.{data_of, chain_bytes}
use Rattle.cbm_relfile.specs.Records.{AllWhole, record_in, stretch_in, EndsBefore}
use Rattle.cbm_relfile.specs.Changing.{record_bytes, LiesFrom, HasNextBlock, IsWriteRefused}
use Rattle.cbm_relfile.proofs.Positions.{record_there, record_absent}
use Rattle.cbm_relfile.proofs.Stretches.{ends_here, ends_next, next_from, block_found, record_stretch}

pub handed : {A E : Type 0} (r : Result A E) (x : E) (P : E → Type 0) → IsErrAnd r (λ e. e ≡ x) → P x → IfErr r P
handed (Ok y) x P e h = tt
handed (Err y) x P e h = subst P (sym e) h

pub refused_by : {A E : Type 0} (r : Result A E) (x : E) (P : A → Type 0) (Q : E → Type 0) → IsErrAnd r (λ e. e ≡ x) → Q x → MatchResult r P Q
refused_by (Ok y) x P Q e h = absurd e
refused_by (Err y) x P Q e h = subst Q (sym e) h

-- a second write is refused for what the medium showed before the first one, too
pub back_refused : (tracks : ℕ) (old mid new : Seen) (p q : Place) (bytes more : List ℕ) (code : ℕ) → mid.content ≡ written old.content p bytes → mid.protected ≡ old.protected → old.failures ≤ mid.failures → old.content q ≡ Ok more → Has tracks q
    → (write_refusal mid q ≡ Some code) ⊎ HasFailed mid new → IsWriteRefused tracks old new code
back_refused tracks old mid new p q bytes more code w same counted holds has (inr failed) = inr (omega (arith, failed, counted))
back_refused tracks old mid new p q bytes more code w same counted holds has (inl refused) =
    inl (q, has, by_protection old.protected (sym (λ i. refusal (same i) (mid.content q)) ∙ refused))
  where
    reads : (b : Bool) → refusal b (mid.content q) ≡ refusal b (old.content q)
    reads true = refl
    reads false = elim (place_decide p q) [
      | inl e ↦ ap (refusal false) (ap (λ (x : Content). x q) w ∙ ap (written old.content p bytes) (sym e) ∙ written_there old.content p bytes) ∙ sym (ap (refusal false) holds)
      | inr ne ↦ ap (refusal false) (ap (λ (x : Content). x q) w ∙ written_elsewhere old.content p q bytes ne)
    ]

    by_protection : (b : Bool) → refusal b (mid.content q) ≡ Some code → refusal b (old.content q) ≡ Some code
    by_protection b e = sym (reads b) ∙ e

-- ---- the bytes

-- the record is there, and these are its bytes
pub record_is : (w : ℕ) (bytes : List ℕ) (k : ℕ) (old : List ℕ) → 0 < k → Some old ≡ record_in w bytes k → (k * w ≤ length bytes) × (old ≡ record_bytes w bytes k)
record_is w bytes k old some e = elim (cases_lt (length bytes) (k * w)) [
  | inl short ↦ absurd (let z = e ∙ record_absent w bytes k some short in (cc))
  | inr there ↦ (there, (let z = e ∙ record_there w bytes k some there in (cc)))
]

pub lies_from : (c : Content) (blocks : List Place) (k w from : ℕ) (at : Place) (sector items : List ℕ) → 0 < k → from ≡ (k - 1) * w → from / 254 < length blocks → Some at ≡ slice_get blocks (from / 254) → c at ≡ Ok sector
    → k * w ≤ length (chain_bytes c blocks) → LiesFrom c blocks w k at sector (from % 254)
lies_from c blocks k w from at sector items some e there is holds whole = record {
  block = subst (λ (n : ℕ). n / 254 < length blocks) e there;
  at_is = (let z = is ∙ slice_get-get_or blocks (from / 254) directory_head there in (cc)) ∙ ap (λ (n : ℕ). slice_index_or blocks (n / 254) directory_head) e;
  holds = holds;
  place_is = ap (λ (n : ℕ). n % 254) e;
  whole = whole;
}

-- the chain doesn't end before a record that is there
pub no_end : (tracks : ℕ) (c : Content) (x : Place) (xs : List Place) (sector items : List ℕ) (place w : ℕ) → AllWhole c → c x ≡ Ok sector → Chain tracks c x (x ∷ xs) → place < 254 → w ≤ 254
    → Some items ≡ stretch_in (chain_bytes c (x ∷ xs)) place w → EndsBefore c sector (place + w) → ⊥
no_end tracks c x xs sector items place w whole holds chain here few is (short, ends) = elim (cases_eq (link sector).track 0) [
  | inl z ↦ by_none (ends_here tracks c x xs sector (data_of sector) place w (place + w) holds refl refl short z chain.3)
  | inr ne ↦ by_next ne ends
]
  where
    by_none : None ≡ stretch_in (chain_bytes c (x ∷ xs)) place w → ⊥
    by_none e = let z = e ∙ sym is in (cc)

    by_next : (link sector).track ≢ 0 → ((link sector).track ≡ 0) ⊎ ((more : List ℕ) × (c (link sector) ≡ Ok more) × (254 + length (data_of more) < place + w)) → ⊥
    by_next ne (inl z) = ne z
    by_next ne (inr (more, h, l)) =
        by_none (ends_next tracks c x xs sector (data_of sector) more (data_of more) place w (place + w) (place + w - 254) whole holds chain.2 refl refl here few ne chain.3 h refl refl (omega (arith, l)))

pub has_next : (tracks : ℕ) (c : Content) (x : Place) (xs : List Place) (sector : List ℕ) → c x ≡ Ok sector → Chain tracks c x (x ∷ xs) → HasNextBlock tracks c sector
has_next tracks c x xs sector holds chain = λ ne. let next = next_from tracks c x xs sector holds ne chain.3 in (next.has, next.reads)

-- where a record lies that was read
pub record IsReadFrom (tracks : ℕ) (c : Content) (blocks : List Place) (w k : ℕ) (at : Place) (sector items : List ℕ) (place : ℕ) : Type 0 where
  pub lies : LiesFrom c blocks w k at sector place
  pub bytes : items ≡ record_bytes w (chain_bytes c blocks) k
  pub has : Has tracks at
  pub next : HasNextBlock tracks c sector
  pub goes_on : EndsBefore c sector (place + w) → ⊥

pub read_from : (tracks : ℕ) (c : Content) (a : Place) (blocks : List Place) (k w from : ℕ) (at : Place) (sector items : List ℕ) → AllWhole c → Chain tracks c a blocks → 0 < k → 0 < w → w ≤ 254 → from ≡ (k - 1) * w → Some at ≡ slice_get blocks (from / 254)
    → c at ≡ Ok sector → ((x : Place) (xs : List Place) → AllWhole c → c x ≡ Ok sector → Chain tracks c x (x ∷ xs) → Some items ≡ stretch_in (chain_bytes c (x ∷ xs)) (from % 254) w)
    → IsReadFrom tracks c blocks w k at sector items (from % 254)
read_from tracks c a blocks k w from at sector items whole chain some wide few e is holds reads =
    let found = block_found tracks c a blocks (from / 254) at chain is in
    let stretch = reads at found.rest whole holds found.chain in
    let record_at : Some items ≡ record_in w (chain_bytes c blocks) k = stretch ∙ (λ i. stretch_in (chain_bytes c (sym found.is i)) (from % 254) w)
    ∙ record_stretch tracks c a blocks k w from (from / 254) whole chain some wide e refl found.there in
    let there = record_is w (chain_bytes c blocks) k items some record_at in
    let here : from % 254 < 254 = omega arith in
    record {
      lies = lies_from c blocks k w from at sector items some e found.there is holds there.0;
      bytes = there.1;
      has = found.chain.1;
      next = has_next tracks c at found.rest sector holds found.chain;
      goes_on = no_end tracks c at found.rest sector items (from % 254) w whole holds found.chain here few stretch;
    }

-- no record is there where no stretch is
pub no_stretch : (tracks : ℕ) (c : Content) (a : Place) (blocks : List Place) (k w from : ℕ) (at : Place) (sector : List ℕ) → AllWhole c → Chain tracks c a blocks → 0 < k → 0 < w → from ≡ (k - 1) * w → Some at ≡ slice_get blocks (from / 254)
    → c at ≡ Ok sector → ((x : Place) (xs : List Place) → AllWhole c → c x ≡ Ok sector → Chain tracks c x (x ∷ xs) → None ≡ stretch_in (chain_bytes c (x ∷ xs)) (from % 254) w)
    → record_in w (chain_bytes c blocks) k ≡ None
no_stretch tracks c a blocks k w from at sector whole chain some wide e is holds reads =
    let found = block_found tracks c a blocks (from / 254) at chain is in
    sym (reads at found.rest whole holds found.chain ∙ (λ i. stretch_in (chain_bytes c (sym found.is i)) (from % 254) w)
    ∙ record_stretch tracks c a blocks k w from (from / 254) whole chain some wide e refl found.there)

-- ---- the new bytes of a record

pub changed_is : (old bytes front items : List ℕ) (p room size : ℕ) → size ≡ length old → 1 ≤ p → p ≤ length old → length old ≤ 254 → room ≡ min (size - (p - 1)) (length bytes) → front ≡ take (p - 1) old ++ take room bytes
    → items ≡ front ++ take (size - length front) (replicate 254 0) → items ≡ with_bytes (length old) old p bytes
changed_is old bytes front items p room size z some most few r f e =
    let fits : room ≡ min (length old + 1 - p) (length bytes) = r ∙ (let n : size - (p - 1) ≡ length old + 1 - p = omega (arith, z, some, most) in ap (λ (m : ℕ). min m (length bytes)) n) in
    let whole : front ≡ take (p - 1) old ++ take (length old + 1 - p) bytes = f ∙ ap (λ (ys : List ℕ). take (p - 1) old ++ ys) (ap (λ (m : ℕ). take m bytes) fits ∙ take_min (length old + 1 - p) bytes) in
    e ∙ ap (λ (m : ℕ). front ++ take (m - length front) (replicate 254 0)) z ∙ ap (λ (ys : List ℕ). front ++ ys) (take-replicate (length old - length front) 254 0 (omega (arith, few))) ∙ ap (λ (ys : List ℕ). ys ++ zeros (length old - length ys)) whole

pub with_bytes_length : (l : ℕ) (old : List ℕ) (p : ℕ) (bytes : List ℕ) → 1 ≤ p → p ≤ l → length (with_bytes l old p bytes) ≡ l
with_bytes_length l old p bytes some most =
    let front : List ℕ = take (p - 1) old ++ take (l + 1 - p) bytes in
    let few : length front ≤ l = omega (arith, length-append (take (p - 1) old) (take (l + 1 - p) bytes), length-take (p - 1) old, min-le_left (p - 1) (length old), length-take (l + 1 - p) bytes, min-le_left (l + 1 - p) (length bytes), some, most) in
    omega (arith, length-append front (zeros (l - length front)), length-replicate {A = ℕ} (l - length front) 0, few)
