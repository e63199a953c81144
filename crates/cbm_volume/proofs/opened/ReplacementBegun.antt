-- OPEN with `@`: a block is claimed for what will replace the file, which stays as it is.
use Rattle.std.proofs.Common.{◌≡◌, ℕ, ◌<◌, ◌≤◌, length, arith, [], ◌∷◌, true, false, refl, sym, subst, ◌∙◌, inl, inr, Option, Some, None}
use Rattle.std.specs.Prelude.{MatchOption}
use Rattle.std.proofs.lemmas.Bool.{cases_eq, cases_lt}
use Rattle.std.proofs.lemmas.List.{get_or_past}
use Rattle.cbm_medium.specs.Place.{Place}
use Rattle.cbm_medium.specs.Content.{Content}
use Rattle.cbm_medium.specs.Seen.{Seen}
use Rattle.cbm_file.specs.Files.{File, Disk, file_at}
use Rattle.cbm_bam.specs.Map.{geometry_of, map_of, Claims, IsFull}
use Rattle.cbm_chain.specs.Writing.{State, begun_at}
use Rattle.cbm_volume.specs.Layouts.{Writer, Layout, own}
use Rattle.cbm_volume.specs.Opens.{CanBeWritten, BeginsFile}
use Rattle.cbm_volume.specs.Writers.{Filling, Use, Idle, Writes, IsWriting, IsUsed, HoldsAt, Holds, HoldsNow, with_use}
use Rattle.cbm_volume.proofs.opened.Beginning.{alone_more}
use Rattle.cbm_volume.proofs.written.Puts.{spares_owned}
use Rattle.cbm_volume.proofs.layouts.Remaps.{with_owner}
use Rattle.cbm_volume.proofs.layouts.Steps.{one_less, Claimed, stands_claim, own_there}
use Rattle.cbm_volume.proofs.written.Storing.{few, geometry_claimed, none_free}
use Rattle.cbm_volume.proofs.layouts.Writers.{Spares, used_kept, stands_owned, use_here, use_other}

-- a slot that has a file is one of the disk's
pub slot_within : (d : Disk) (n : ℕ) (f : File) → file_at d n ≡ Some f → n < length d.slots
slot_within d n f some = elim (cases_lt n (length d.slots)) [
  | inl h ↦ h
  | inr past ↦ absurd (let z = sym some ∙ get_or_past d.slots n None past in (cc))
]

-- THE CHANNEL HAS ONE BLOCK OF ITS OWN with nothing in it, and the slot has its file as before
pub replacement_begun : (tracks : ℕ) (c c1 : Content) (l : Layout) (d : Disk) (uses : ℕ → Use) (ch n : ℕ) (q : Place) (f : File) → 18 ≤ tracks → HoldsAt tracks c l d uses → uses ch ≡ Idle → CanBeWritten d uses n f → Claims tracks c c1 q
    → HoldsAt tracks c1 (with_owner l (own l.owner q (Writer ch))) (one_less d) (with_use uses ch (Writes (record { slot = n; replaces = true; chain = begun_at tracks q }) [] 1))
replacement_begun tracks c c1 l d uses ch n q f few h idle can claims =
    let l1 : Layout = with_owner l (own l.owner q (Writer ch)) in
    let w : Filling = record { slot = n; replaces = true; chain = begun_at tracks q } in
    let claimed : Claimed tracks c c1 l d q = stands_claim tracks c c1 l d q h.stands few claims in
    let s : Spares c c1 l l1 d (one_less d) (λ x. false) (λ m. false) = spares_owned tracks c c1 l d q ch h.stands claims claimed.taken.nobody in
    let mine : IsWriting tracks c1 l1 (one_less d) ch w [] 1 = record {
      places = q ∷ [];
      owned = (own_there l.owner q (Writer ch), tt);
      wrote = record { part = (claims.has, claims.off_18); first = refl; current = refl; count = refl; all = refl; fits = omega arith; none = λ z. refl };
      number = refl;
      same_tracks = refl;
      there = omega (arith, slot_within d n f can.in_slot, h.stands.describes.size);
      file = f;
      in_slot = can.in_slot;
      closed = can.closed;
      plain = can.plain;
      begun = λ z. omega arith;
    } in
    record {
      stands = stands_owned tracks c1 l (one_less d) q ch claimed.stands claimed.taken;
      each = λ m. elim (cases_eq m ch) [
        | inl e ↦ subst (λ (i : ℕ). IsUsed tracks c1 l1 (one_less d) i (with_use uses ch (Writes w [] 1) i)) (sym e) (subst (λ (x : Use). IsUsed tracks c1 l1 (one_less d) ch x) (sym (use_here uses ch (Writes w [] 1))) mine)
        | inr ne ↦ subst (λ (x : Use). IsUsed tracks c1 l1 (one_less d) m x) (sym (use_other uses ch m (Writes w [] 1) ne)) (used_kept tracks c c1 l l1 d (one_less d) (λ x. false) (λ i. false) m (uses m) s refl (λ i g. refl) (h.each m))
      ];
      alone = alone_more uses ch n w [] 1 h.alone can.unused refl idle;
    }

-- ---- the clause of the call, over plain values

-- a chain was begun, or no block is free
abbrev pub ChainBegins : ℕ → Content → Content → Option State → Type 0
ChainBegins tracks c c' o = MatchOption o (IsFull tracks (map_of c) × (c' ≡ c)) (λ s. (q : Place) × Claims tracks c c' q × (s ≡ begun_at tracks q))

-- the same of what a call has read and matched
pub chain_begins : (inside old : Seen) (new : Content) (tracks : ℕ) (o p : Option State) → inside ≡ old → tracks ≡ geometry_of old.tracks old.content → o ≡ p → ChainBegins tracks inside.content new o → ChainBegins (geometry_of old.tracks old.content) old.content new p
chain_begins inside old new tracks o p same size is h = subst (λ (x : Option State). ChainBegins (geometry_of old.tracks old.content) old.content new x) is
    (subst (λ (s : Seen). ChainBegins (geometry_of old.tracks old.content) s.content new o) same (subst (λ (n : ℕ). ChainBegins n inside.content new o) size h))

pub replacement_refused : (medium : ℕ) (c c' : Content) (d : Disk) (uses : ℕ → Use) → HoldsNow medium c d uses → ChainBegins (geometry_of medium c) c c' None → (d.free ≡ 0) × (c' ≡ c)
replacement_refused medium c c' d uses h none = (none_free (geometry_of medium c) c h.layout d h.so.stands none.0, none.1)

pub replacement : (medium : ℕ) (c c' : Content) (slot : ℕ) (s : State) (d : Disk) (uses : ℕ → Use) (ch : ℕ) (f : File) → HoldsNow medium c d uses → uses ch ≡ Idle → CanBeWritten d uses slot f → ChainBegins (geometry_of medium c) c c' (Some s)
    → BeginsFile medium c' (one_less d) uses ch slot true [] 1 (record { slot = slot; replaces = true; chain = s })
replacement medium c c' slot s d uses ch f h idle can begun = record {
  holds = subst (λ (x : State). HoldsNow medium c' (one_less d) (with_use uses ch (Writes (record { slot = slot; replaces = true; chain = x }) [] 1))) (sym begun.2)
      (subst (λ (n : ℕ). Holds n c' (one_less d) (with_use uses ch (Writes (record { slot = slot; replaces = true; chain = begun_at (geometry_of medium c) begun.0 }) [] 1))) (sym (geometry_claimed medium c c' h.layout begun.0 h.so.stands.sound begun.1))
      (record { layout = _; so = replacement_begun (geometry_of medium c) c c' h.layout d uses ch slot begun.0 f (few medium c) h.so idle can begun.1 }));
  same_slot = refl;
  same_way = refl;
}
