-- A writer puts its bytes one after another, each into a block of its own chain.
use Rattle.std.proofs.Common.{◌≡◌, ◌≢◌, ℕ, ◌+◌, ◌<◌, ◌≤◌, length, arith, List, [], ◌∷◌, ◌++◌, Bool, true, false, IsOk, refl, sym, ap, subst, ◌∙◌, inl, inr, Option, Some, None, Ok}
use Rattle.std.specs.Prelude.{if◌then◌else◌}
use Rattle.std.proofs.lemmas.List.{append_assoc, append-nil, length-append}
use Rattle.cbm_medium.specs.Place.{Place, Has, directory_head, is_place}
use Rattle.cbm_medium.specs.Content.{Cell, Content, written}
use Rattle.cbm_medium.specs.Links.{bytes_at, link, or_nothing, IsApart}
use Rattle.cbm_medium.proofs.Places.{written_there, written_elsewhere, place_is_itself}
use Rattle.cbm_bam.specs.Map.{map_of, is_free_in, with_bit, Claims}
use Rattle.cbm_chain.specs.Data.{data_of}
use Rattle.cbm_chain.specs.Writing.{State, Part, part_bytes, last_of, Wrote, Fills, GoesOnWriting, Puts, with_byte, begun_at, gone_on, AreTaken, PutsAll, HasPut}
use Rattle.cbm_chain.proofs.Filling.{claim_leaves}
use Rattle.cbm_chain.proofs.Parts.{AreKept, part_kept, part_bytes_kept, last_push, last_off, part_push, part_push_bytes}

-- ---- a claim takes a block that is none of the writer's

-- what is free lies apart from what isn't
pub apart_free : (map : List ℕ) (q : Place) (xs : List Place) → is_free_in map q ≡ true → AreTaken map xs → IsApart q xs
apart_free map q [] f t = tt
apart_free map q (x ∷ xs) f t = ((λ e. (let z = sym f ∙ ap (is_free_in map) e ∙ t.0 in (cc))), apart_free map q xs f t.1)

pub claim_keeps : (tracks : ℕ) (c c' : Content) (q : Place) (xs : List Place) → Part tracks c xs → Claims tracks c c' q → AreKept c c' xs
claim_keeps tracks c c' q [] h k = tt
claim_keeps tracks c c' q (b ∷ []) h k = (claim_leaves tracks c c' b q k h.1, tt)
claim_keeps tracks c c' q (b ∷ b' ∷ rest) h k = (claim_leaves tracks c c' b q k h.1, claim_keeps tracks c c' q (b' ∷ rest) h.5 k)

-- what is free after a claim
free_after_it : (tracks : ℕ) (c c' : Content) (q p : Place) → Claims tracks c c' q → Has tracks p → is_free_in (map_of c') p ≡ with_bit (is_free_in (map_of c)) q false p
free_after_it tracks c c' q p k has =
    let new : map_of c' ≡ k.remaps.map = ap (λ (x : Content). map_of x) k.remaps.written ∙ ap (λ (x : Cell). or_nothing x) (written_there c directory_head k.remaps.map) in
    ap (λ (m : List ℕ). is_free_in m p) new ∙ k.remaps.mapped.bits p has

still_taken : (free : Place → Bool) (q p : Place) → free p ≡ false → with_bit free q false p ≡ false
still_taken free q p e = by_test (is_place q p)
  where
    by_test : (b : Bool) → (if b then false else free p) ≡ false
    by_test true = refl
    by_test false = e

claimed_taken : (tracks : ℕ) (c c' : Content) (q : Place) → Claims tracks c c' q → is_free_in (map_of c') q ≡ false
claimed_taken tracks c c' q k = free_after_it tracks c c' q q k k.has ∙ ap (λ (b : Bool). if b then false else is_free_in (map_of c) q) (place_is_itself q)

others_taken : (tracks : ℕ) (c c' : Content) (q : Place) (xs : List Place) → Part tracks c xs → Claims tracks c c' q → AreTaken (map_of c) xs → AreTaken (map_of c') xs
others_taken tracks c c' q [] h k t = tt
others_taken tracks c c' q (b ∷ []) h k t = (free_after_it tracks c c' q b k h.0 ∙ still_taken (is_free_in (map_of c)) q b t.0, tt)
others_taken tracks c c' q (b ∷ b' ∷ rest) h k t =
    (free_after_it tracks c c' q b k h.0 ∙ still_taken (is_free_in (map_of c)) q b t.0, others_taken tracks c c' q (b' ∷ rest) h.5 k t.1)

taken_push : (map : List ℕ) (q : Place) (xs : List Place) → AreTaken map xs → is_free_in map q ≡ false → AreTaken map (xs ++ q ∷ [])
taken_push map q [] t f = (f, tt)
taken_push map q (x ∷ xs) t f = (t.0, taken_push map q xs t.1 f)

-- ---- a byte is put

-- the block that is filled takes it
pub wrote_more : (c : Content) (s : State) (places : List Place) (bytes : List ℕ) (byte : ℕ) → Wrote c s places bytes → s.current ≢ None → length s.waiting < 254 → Wrote c (with_byte byte s) places (bytes ++ byte ∷ [])
wrote_more c s places bytes byte h some l = record {
  part = h.part;
  first = h.first;
  current = h.current;
  count = h.count;
  all = ap (λ (x : List ℕ). x ++ byte ∷ []) h.all ∙ append_assoc (part_bytes c places) s.waiting (byte ∷ []);
  fits = omega (arith, length-append s.waiting (byte ∷ []));
  none = λ e. absurd (some e);
}

-- the first block does
pub wrote_first : (tracks : ℕ) (c : Content) (q : Place) (bytes : List ℕ) (byte : ℕ) → Has tracks q → q.track ≢ 18 → bytes ≡ [] → Wrote c (with_byte byte (begun_at tracks q)) (q ∷ []) (bytes ++ byte ∷ [])
wrote_first tracks c q bytes byte has off empty = record {
  part = (has, off);
  first = refl;
  current = refl;
  count = refl;
  all = ap (λ (x : List ℕ). x ++ byte ∷ []) empty;
  fits = omega arith;
  none = λ z. absurd (cc);
}

-- the next block does, after a full one that links to it
pub wrote_on : (tracks : ℕ) (c mid c' : Content) (s : State) (b : Place) (rest : List Place) (bytes : List ℕ) (byte : ℕ) (q : Place) (sector : List ℕ) → Wrote c s (b ∷ rest) bytes → s.tracks ≡ tracks
    → AreKept c mid (b ∷ rest) → IsApart q (b ∷ rest) → c' ≡ written mid (last_of b rest) sector → link sector ≡ q → data_of sector ≡ s.waiting
    → Has tracks q → q.track ≢ 18 → Wrote c' (with_byte byte (gone_on q s)) (b ∷ rest ++ q ∷ []) (bytes ++ byte ∷ [])
wrote_on tracks c mid c' s b rest bytes byte q sector h same kept apart new to holds has off =
    let there : c' (last_of b rest) ≡ Ok sector = ap (λ (x : Content). x (last_of b rest)) new ∙ written_there mid (last_of b rest) sector in
    let bytes_there : bytes_at c' (last_of b rest) ≡ sector = ap (λ (x : Cell). or_nothing x) there in
    let others : (p : Place) → p ≢ last_of b rest → c' p ≡ mid p = λ p ne. ap (λ (x : Content). x p) new ∙ written_elsewhere mid (last_of b rest) p sector (λ z. ne (sym z)) in
    let part : Part s.tracks mid (b ∷ rest) = part_kept s.tracks c mid (b ∷ rest) kept h.part in
    record {
      part = part_push s.tracks mid c' b q rest part apart others (subst (λ (x : Cell). IsOk x) (sym there) refl) (ap link bytes_there ∙ to)
          (subst (λ (n : ℕ). Has n q) (sym same) has) off;
      first = h.first;
      current = ap Some (sym (last_push b q rest));
      count = omega (arith, h.count, length-append rest (q ∷ []));
      all = ap (λ (x : List ℕ). x ++ byte ∷ []) (h.all ∙ ap (λ (x : List ℕ). part_bytes c (b ∷ rest) ++ x) (sym holds ∙ ap data_of (sym bytes_there))
          ∙ ap (λ (x : List ℕ). x ++ data_of (bytes_at c' (last_of b rest))) (sym (part_bytes_kept c mid (b ∷ rest) kept))
          ∙ sym (part_push_bytes s.tracks mid c' b q rest part others));
      fits = omega arith;
      none = λ z. absurd (cc);
    }

-- ---- one byte, on any content

in_first : (c c' : Content) (s : State) (blocks : List Place) (bytes : List ℕ) (byte : ℕ) (q : Place) → Wrote c s blocks bytes → s.current ≡ None → Claims s.tracks c c' q
    → HasPut 1 c' (with_byte byte (begun_at s.tracks q)) blocks (bytes ++ byte ∷ [])
in_first c c' s [] bytes byte q h none k = record {
  more = q ∷ [];
  few = omega arith;
  wrote = wrote_first s.tracks c' q bytes byte k.has k.off_18 (h.all ∙ h.none none);
  taken = (claimed_taken s.tracks c c' q k, tt);
}
in_first c c' s (b ∷ rest) bytes byte q h none k = absurd (let z = sym none ∙ h.current in (cc))

in_next : (c c' : Content) (s : State) (blocks : List Place) (bytes : List ℕ) (byte : ℕ) (p q : Place) → Wrote c s blocks bytes → AreTaken (map_of c) blocks → s.current ≡ Some p → Fills s.tracks c c' p s.waiting q
    → HasPut 1 c' (with_byte byte (gone_on q s)) blocks (bytes ++ byte ∷ [])
in_next c c' s [] bytes byte p q h t some f = absurd (let z = sym some ∙ h.current in (cc))
in_next c c' s (b ∷ rest) bytes byte p q h t some f =
    let at : p ≡ last_of b rest = (let z = sym some ∙ h.current in (cc)) in
    let new : c' ≡ written f.middle (last_of b rest) f.sector = f.written ∙ ap (λ (x : Place). written f.middle x f.sector) at in
    let map : map_of c' ≡ map_of f.middle = ap (λ (x : Content). map_of x) new
    ∙ ap (λ (x : Cell). or_nothing x) (written_elsewhere f.middle (last_of b rest) directory_head f.sector (λ e. last_off s.tracks c b rest h.part (ap (λ (x : Place). x.track) e))) in
    record {
      more = q ∷ [];
      few = omega arith;
      wrote = wrote_on s.tracks c f.middle c' s b rest bytes byte q f.sector h refl (claim_keeps s.tracks c f.middle q (b ∷ rest) h.part f.claims)
          (apart_free (map_of c) q (b ∷ rest) f.claims.was_free t) new f.block.link f.block.holds f.claims.has f.claims.off_18;
      taken = subst (λ (m : List ℕ). AreTaken m (b ∷ rest ++ q ∷ [])) (sym map)
          (taken_push (map_of f.middle) q (b ∷ rest) (others_taken s.tracks c f.middle q (b ∷ rest) h.part f.claims t) (claimed_taken s.tracks c f.middle q f.claims));
    }

-- no block more
none_more : (most : ℕ) (c : Content) (s : State) (blocks : List Place) (bytes : List ℕ) → Wrote c s blocks bytes → AreTaken (map_of c) blocks → HasPut most c s blocks bytes
none_more most c s blocks bytes h t = record {
  more = [];
  few = omega arith;
  wrote = subst (λ (xs : List Place). Wrote c s xs bytes) (sym (append-nil blocks)) h;
  taken = subst (λ (xs : List Place). AreTaken (map_of c) xs) (sym (append-nil blocks)) t;
}

pub one_put : (c c' : Content) (s s' : State) (blocks : List Place) (bytes : List ℕ) (byte : ℕ) → Wrote c s blocks bytes → AreTaken (map_of c) blocks → Puts c c' s byte s' → HasPut 1 c' s' blocks (bytes ++ byte ∷ [])
one_put c c' s s' blocks bytes byte h t (inl stays) =
    subst (λ (x : State). HasPut 1 c' x blocks (bytes ++ byte ∷ [])) (sym stays.1)
    (subst (λ (x : Content). HasPut 1 x (with_byte byte s) blocks (bytes ++ byte ∷ [])) (sym stays.0)
    (none_more 1 c (with_byte byte s) blocks (bytes ++ byte ∷ []) (wrote_more c s blocks bytes byte h stays.2 stays.3) t))
one_put c c' s s' blocks bytes byte h t (inr goes) = subst (λ (x : State). HasPut 1 c' x blocks (bytes ++ byte ∷ [])) (sym goes.2) (by_current s.current refl goes.1)
  where
    by_current : (x : Option Place) → s.current ≡ x → GoesOnWriting c c' x s goes.0 → HasPut 1 c' (with_byte byte goes.0) blocks (bytes ++ byte ∷ [])
    by_current None z g = subst (λ (x : State). HasPut 1 c' (with_byte byte x) blocks (bytes ++ byte ∷ [])) (sym g.2) (in_first c c' s blocks bytes byte g.0 h z g.1)
    by_current (Some p) z g = subst (λ (x : State). HasPut 1 c' (with_byte byte x) blocks (bytes ++ byte ∷ [])) (sym g.2) (in_next c c' s blocks bytes byte p g.0 h t z g.1)

-- ---- any number of bytes

-- what was put after what was put before
joined : (m n k : ℕ) (c : Content) (s : State) (blocks more : List Place) (bytes : List ℕ) → length more ≤ m → m + n ≤ k → HasPut n c s (blocks ++ more) bytes → HasPut k c s blocks bytes
joined m n k c s blocks more bytes l e h = record {
  more = more ++ h.more;
  few = omega (arith, l, e, h.few, length-append more h.more);
  wrote = subst (λ (xs : List Place). Wrote c s xs bytes) (append_assoc blocks more h.more) h.wrote;
  taken = subst (λ (xs : List Place). AreTaken (map_of c) xs) (append_assoc blocks more h.more) h.taken;
}

pub all_put : (more : List ℕ) (c c' : Content) (s s' : State) (blocks : List Place) (bytes : List ℕ) → Wrote c s blocks bytes → AreTaken (map_of c) blocks → PutsAll more c s c' s' → HasPut (length more) c' s' blocks (bytes ++ more)
all_put [] c c' s s' blocks bytes h t p =
    subst (λ (x : List ℕ). HasPut 0 c' s' blocks x) (sym (append-nil bytes))
    (subst (λ (x : State). HasPut 0 c' x blocks bytes) (sym p.1) (subst (λ (x : Content). HasPut 0 x s blocks bytes) (sym p.0) (none_more 0 c s blocks bytes h t)))
all_put (byte ∷ rest) c c' s s' blocks bytes h t p =
    let one : HasPut 1 p.0 p.1 blocks (bytes ++ byte ∷ []) = one_put c p.0 s p.1 blocks bytes byte h t p.2 in
    let others : HasPut (length rest) c' s' (blocks ++ one.more) (bytes ++ byte ∷ [] ++ rest) = all_put rest p.0 c' p.1 s' (blocks ++ one.more) (bytes ++ byte ∷ []) one.wrote one.taken p.3 in
    subst (λ (x : List ℕ). HasPut (length (byte ∷ rest)) c' s' blocks x) (append_assoc bytes (byte ∷ []) rest)
    (joined 1 (length rest) (length (byte ∷ rest)) c' s' blocks one.more (bytes ++ byte ∷ [] ++ rest) one.few (omega arith) others)
