-- Chains that enter no sector twice, step by step.
use Rattle.std.proofs.Common.{◌≡◌, ◌≢◌, ℕ, zero, suc, ◌+◌, ◌-◌, ◌<◌, ◌≤◌, List, [], ◌∷◌, ◌++◌, Bool, true, false, Option, Some, Ok, Err, refl, ap, sym, ◌∙◌, arith, append_assoc, append-nil}
use Rattle.std.proofs.lemmas.Bool.{eq-eqb, ne_eqb}
use Rattle.cbm_medium.specs.Place.{Place, Has}
use Rattle.cbm_medium.specs.Content.{Content}
use Rattle.cbm_medium.specs.Links.{Followed, bytes_at, link, ended, cut_at, with_block, followed_after}
use Rattle.cbm_medium.specs.declared.fault.Trouble.{Trouble}
use Rattle.cbm_medium.proofs.Walks.{has_true, has_none}
use Rattle.cbm_bam.specs.Map.{with_bit}
use Rattle.cbm_chain.specs.Data.{data_of, chain_bytes}
use Rattle.cbm_chain.specs.Reading.{RestOfFile, held_in, with_front}
use Rattle.cbm_directory.specs.Entries.{entry_of}
use Rattle.cbm_directory.specs.Slots.{entries_from, all_entries}
use Rattle.cbm_salvage.specs.Trails.{follow_once, unless_seen}

-- ---- one step

pub once_end : (tracks : ℕ) (content : Content) (n : ℕ) (seen : Place → Bool) (a : Place) → a.track ≡ 0 → follow_once tracks content n seen a ≡ ended []
unfolding follow_once
once_end tracks content zero seen a z = rw (eq-eqb a.track 0 z) refl
once_end tracks content (suc n) seen a z = rw (eq-eqb a.track 0 z) refl

pub once_off : (tracks : ℕ) (content : Content) (n : ℕ) (seen : Place → Bool) (a : Place) → a.track ≢ 0 → (Has tracks a → ⊥)
    → follow_once tracks content n seen a ≡ cut_at 66 a
unfolding follow_once
once_off tracks content zero seen a nz h = rw (ne_eqb a.track 0 nz, has_none tracks a h) refl
once_off tracks content (suc n) seen a nz h = rw (ne_eqb a.track 0 nz, has_none tracks a h) refl

pub once_full : (tracks : ℕ) (content : Content) (n : ℕ) (seen : Place → Bool) (a : Place) → a.track ≢ 0 → Has tracks a → n ≡ 0
    → follow_once tracks content n seen a ≡ cut_at 71 a
unfolding follow_once
once_full tracks content n seen a nz h e = ap (λ k. follow_once tracks content k seen a) e ∙ rw (ne_eqb a.track 0 nz, has_true tracks a h) refl

-- a sector that came already
pub once_again : (tracks : ℕ) (content : Content) (n : ℕ) (seen : Place → Bool) (a : Place) → a.track ≢ 0 → Has tracks a → seen a ≡ true
    → follow_once tracks content n seen a ≡ cut_at 71 a
unfolding follow_once
once_again tracks content zero seen a nz h s = rw (ne_eqb a.track 0 nz, has_true tracks a h) refl
once_again tracks content (suc n) seen a nz h s =
    rw (ne_eqb a.track 0 nz, has_true tracks a h) (ap (λ b. unless_seen b a (followed_after a (content a) (λ q. follow_once tracks content n (with_bit seen a true) q))) s)

once_on : (tracks : ℕ) (content : Content) (m n : ℕ) (seen : Place → Bool) (a : Place) → a.track ≢ 0 → Has tracks a → seen a ≡ false → m ≡ suc n
    → follow_once tracks content m seen a ≡ followed_after a (content a) (λ q. follow_once tracks content n (with_bit seen a true) q)
unfolding follow_once
once_on tracks content m n seen a nz h s e =
    ap (λ k. follow_once tracks content k seen a) e
    ∙ rw (ne_eqb a.track 0 nz, has_true tracks a h) (ap (λ b. unless_seen b a (followed_after a (content a) (λ q. follow_once tracks content n (with_bit seen a true) q))) s)

pub once_fault : (tracks : ℕ) (content : Content) (m n : ℕ) (seen : Place → Bool) (a : Place) (code : ℕ) → a.track ≢ 0 → Has tracks a → seen a ≡ false → m ≡ suc n
    → content a ≡ Err code → follow_once tracks content m seen a ≡ cut_at code a
once_fault tracks content m n seen a code nz h s e c =
    once_on tracks content m n seen a nz h s e ∙ ap (λ cell. followed_after a cell (λ q. follow_once tracks content n (with_bit seen a true) q)) c

pub once_next : (tracks : ℕ) (content : Content) (m n : ℕ) (seen : Place → Bool) (a : Place) (bytes : List ℕ) → a.track ≢ 0 → Has tracks a → seen a ≡ false → m ≡ suc n
    → content a ≡ Ok bytes → follow_once tracks content m seen a ≡ with_block a (follow_once tracks content n (with_bit seen a true) (link bytes))
once_next tracks content m n seen a bytes nz h s e c =
    once_on tracks content m n seen a nz h s e ∙ ap (λ cell. followed_after a cell (λ q. follow_once tracks content n (with_bit seen a true) q)) c

-- the trouble that is told
pub cut_told : (f : Followed) (code : ℕ) (p : Place) (t : Trouble) → f ≡ cut_at code p → t ≡ record { code = code; track = p.track; sector = p.sector }
    → f ≡ record { blocks = []; trouble = Some t }
cut_told f code p t e h = e ∙ ap (λ x. let q : Followed = record { blocks = []; trouble = Some x } in q) (sym h)

-- ---- the bytes of a chain

pub no_more : (content : Content) (whole rest : RestOfFile) (out : List ℕ) (f : Followed) (t : Option Trouble) → whole ≡ with_front out (held_in content f)
    → f ≡ record { blocks = []; trouble = t } → whole ≡ record { bytes = out; trouble = t }
no_more content whole rest out f t w e =
    w ∙ ap (λ x. with_front out (held_in content x)) e ∙ ap (λ b. let q : RestOfFile = record { bytes = b; trouble = t } in q) (append-nil out)

pub one_more : (content : Content) (whole : RestOfFile) (out items : List ℕ) (old new : Followed) (p : Place) (bytes : List ℕ) → whole ≡ with_front out (held_in content old)
    → old ≡ with_block p new → bytes_at content p ≡ bytes → items ≡ out ++ data_of bytes → whole ≡ with_front items (held_in content new)
one_more content whole out items old new p bytes w e b i =
    w ∙ ap (λ x. with_front out (held_in content x)) e
    ∙ ap (λ x. let q : RestOfFile = record { bytes = out ++ (data_of x ++ chain_bytes content new.blocks); trouble = new.trouble } in q) b
    ∙ ap (λ x. let q : RestOfFile = record { bytes = x; trouble = new.trouble } in q) (sym (append_assoc out (data_of bytes) (chain_bytes content new.blocks)))
    ∙ ap (λ x. let q : RestOfFile = record { bytes = x ++ chain_bytes content new.blocks; trouble = new.trouble } in q) (sym i)

-- ---- the entries of a directory

-- sectors, and what is met after them
abbrev pub after_blocks : List Place → Followed → Followed
after_blocks front rest = record { blocks = front ++ rest.blocks; trouble = rest.trouble }

pub no_sector_more : (whole f : Followed) (out : List Place) (t : Option Trouble) → whole ≡ after_blocks out f → f ≡ record { blocks = []; trouble = t }
    → record { blocks = out; trouble = t } ≡ whole
no_sector_more whole f out t w e =
    sym (w ∙ ap (λ x. after_blocks out x) e ∙ ap (λ b. let q : Followed = record { blocks = b; trouble = t } in q) (append-nil out))

pub one_sector_more : (whole old new : Followed) (out items : List Place) (p : Place) → whole ≡ after_blocks out old → old ≡ with_block p new → items ≡ out ++ p ∷ []
    → whole ≡ after_blocks items new
one_sector_more whole old new out items p w e i =
    w ∙ ap (λ x. after_blocks out x) e
    ∙ ap (λ x. let q : Followed = record { blocks = x; trouble = new.trouble } in q) (sym (append_assoc out (p ∷ []) new.blocks))
    ∙ ap (λ x. let q : Followed = record { blocks = x ++ new.blocks; trouble = new.trouble } in q) (sym i)

-- the entries of one sector more
all_entries_more : (content : Content) (out : List Place) (p : Place) → all_entries content (out ++ p ∷ []) ≡ all_entries content out ++ entries_from 8 (bytes_at content p) 0
all_entries_more content [] p = append-nil (entries_from 8 (bytes_at content p) 0)
all_entries_more content (q ∷ rest) p =
    ap (λ x. entries_from 8 (bytes_at content q) 0 ++ x) (all_entries_more content rest p)
    ∙ sym (append_assoc (entries_from 8 (bytes_at content q) 0) (all_entries content rest) (entries_from 8 (bytes_at content p) 0))

pub entries_more : (content : Content) (out items : List Place) (p : Place) (bytes : List ℕ) (before after : List (List ℕ)) → before ≡ all_entries content out
    → items ≡ out ++ p ∷ [] → bytes_at content p ≡ bytes → after ≡ before ++ entries_from 8 bytes 0 → after ≡ all_entries content items
entries_more content out items p bytes before after b i r a =
    a ∙ ap (λ x. x ++ entries_from 8 bytes 0) b ∙ ap (λ x. all_entries content out ++ entries_from 8 x 0) (sym r)
    ∙ sym (all_entries_more content out p) ∙ ap (all_entries content) (sym i)

-- the entries of a sector, one after another
pub entry_more : (bytes : List ℕ) (n : ℕ) (before now after : List (List ℕ)) (entry : List ℕ) → n < 8 → now ++ entries_from (8 - n) bytes n ≡ before ++ entries_from 8 bytes 0
    → entry ≡ entry_of bytes n → after ≡ now ++ entry ∷ [] → after ++ entries_from (8 - (n + 1)) bytes (n + 1) ≡ before ++ entries_from 8 bytes 0
entry_more bytes n before now after entry k w e a =
    let less : 8 - n ≡ suc (8 - (n + 1)) = omega (arith, k) in
    ap (λ x. x ++ entries_from (8 - (n + 1)) bytes (n + 1)) a
    ∙ append_assoc now (entry ∷ []) (entries_from (8 - (n + 1)) bytes (n + 1))
    ∙ ap (λ x. now ++ x ∷ entries_from (8 - (n + 1)) bytes (n + 1)) e
    ∙ sym (ap (λ m. now ++ entries_from m bytes n) less) ∙ w

-- nothing of the sector is left
pub entries_done : (bytes : List ℕ) (n : ℕ) (before now : List (List ℕ)) → 8 ≤ n → now ++ entries_from (8 - n) bytes n ≡ before ++ entries_from 8 bytes 0
    → now ≡ before ++ entries_from 8 bytes 0
entries_done bytes n before now k w =
    let none : 8 - n ≡ 0 = omega (arith, k) in
    sym (append-nil now) ∙ sym (ap (λ m. now ++ entries_from m bytes n) none) ∙ w
