-- The steps of a copy as the calls answer them: a byte, a file, all files, and the counts before.
use Rattle.std.proofs.Common.{◌≡◌, ◌≢◌, ◌⊎◌, ℕ, suc, ◌+◌, ◌-◌, ◌*◌, ◌<◌, ◌≤◌, length, drop, arith, List, [], ◌∷◌, ◌++◌, Bool, true, false, refl, sym, ap, subst, ◌∙◌, inl, inr, Option, Some, None, Result, Ok, Err, IfOk, IfErr, IsErrAnd}
use Rattle.std.specs.Prelude.{min, slice_index_or, OnOk, IsOkAnd, MatchBool, MatchResult}
use Rattle.std.proofs.lemmas.List.{length-append, append_assoc, append-nil, at_drop_more, drop_all, get_or_past}
use Rattle.cbm_medium.specs.Place.{Place, sector_count}
use Rattle.cbm_medium.specs.Content.{Content}
use Rattle.cbm_medium.specs.Seen.{Seen}
use Rattle.cbm_medium.specs.Links.{Followed}
use Rattle.cbm_medium.specs.declared.fault.Trouble.{Trouble}
use Rattle.cbm_medium.proofs.Walks.{follow_end}
use Rattle.cbm_file.specs.Files.{File, Disk, Bytes, file_at, parts, blocks_of}
use Rattle.cbm_file.specs.Changes.{slot_bytes, joined}
use Rattle.cbm_file.specs.Waiting.{next_shown}
use Rattle.cbm_bam.specs.Map.{map_of, geometry_of, IsFull}
use Rattle.cbm_chain.specs.Data.{chain_bytes}
use Rattle.cbm_chain.specs.Reading.{Reading, RestOfFile, rest_of, held_from, one_less, IsSettled, BeginsAt, GoesAlong}
use Rattle.cbm_chain.specs.Writing.{State, Wrote, IsForFiles, Puts, IsFullFor, IsWriteStopped, IsRefusedFor}
use Rattle.cbm_directory.specs.Entries.{entry_at, first_block}
use Rattle.cbm_directory.specs.Slots.{Answers, directory_of}
use Rattle.cbm_relfile.specs.Records.{AllWhole}
use Rattle.cbm_volume.specs.Copies.{less, Making, CanBeCopied, AreCopied, IsCopyCut}
use Rattle.cbm_volume.specs.Holding.{HasBytes, SlotSays, EntrySays}
use Rattle.cbm_volume.specs.Layouts.{Layout, Sound, HasLayout}
use Rattle.cbm_volume.specs.Opens.{IsHindered}
use Rattle.cbm_volume.specs.Reaches.{SlotLost}
use Rattle.cbm_volume.specs.Writers.{Use, Idle, Reads, IsReading, HoldsNow}
use Rattle.cbm_volume.proofs.layouts.Hindered.{map_hindered}
use Rattle.cbm_volume.proofs.layouts.Listing.{entry_found, slot_shown, geometry_size, file_read}
use Rattle.cbm_volume.proofs.copied.Making.{making_puts, making_stopped, blocks_filled, has_block, same_files_less}
use Rattle.cbm_volume.proofs.written.Puts.{wrote_length}
use Rattle.cbm_volume.proofs.held.ReadingUses.{reading_along, reading_begun, rest_is}
use Rattle.cbm_volume.proofs.layouts.Refusals.{write_hindered, hindered_since}
use Rattle.cbm_volume.proofs.written.Storing.{for_files, none_free}
use Rattle.cbm_volume.proofs.layouts.Telling.{slot_says}

-- ---- results

pub handed : {A : Type 0} (r : Result A Trouble) (t : Trouble) (P : A → Type 0) (Q : Trouble → Type 0) → IsErrAnd r (λ x. x ≡ t) → Q t → MatchResult r P Q
handed {A} (Ok a) t P Q is h = absurd is
handed {A} (Err e) t P Q is h = subst Q (sym is) h

pub cut_since : (old mid new : Seen) (c : Content) (l : Layout) (d : Disk) (uses : ℕ → Use) (t : Trouble) → mid.tracks ≡ old.tracks → mid.protected ≡ old.protected → old.failures ≤ mid.failures → IsCopyCut mid new c l d uses t → IsCopyCut old new c l d uses t
cut_since old mid new c l d uses t same protected counted k =
    (subst (λ (n : ℕ). SlotLost n c l new.content d uses) same k.0, hindered_since old mid new t protected counted k.1)

-- ---- the blocks are enough

pub fewer : (m n : ℕ) → m ≤ n → blocks_of m ≤ blocks_of n
fewer m n l = let p : parts m 254 ≤ parts n 254 = omega arith in omega (arith, p)

-- ---- a byte is put

-- what waits is kept in a block of the disk
pub copy_for_files : (medium : ℕ) (c : Content) (l : Layout) (d : Disk) (uses : ℕ → Use) (ch : ℕ) (now : Content) (s : State) (bytes : List ℕ) (u : Use) → Making medium c l d uses ch now s bytes u → IsForFiles s.tracks s.current
copy_for_files medium c l d uses ch now s bytes u k = for_files now s k.places bytes k.wrote

pub byte_cut : (old new : Seen) (s : State) (t : Trouble) (c : Content) (l : Layout) (d : Disk) (uses : ℕ → Use) (ch : ℕ) (bytes : List ℕ) (u : Use) → (IsForFiles s.tracks s.current → IsWriteStopped s.tracks old.content new.content)
    → (IsForFiles s.tracks s.current → IsRefusedFor old new s.current t.code) → Making old.tracks c l d uses ch old.content s bytes u → IsCopyCut old new c l d uses t
byte_cut old new s t c l d uses ch bytes u stopped cause k =
    let files : IsForFiles s.tracks s.current = copy_for_files old.tracks c l d uses ch old.content s bytes u k in
    (making_stopped old.tracks c l d uses ch old.content new.content s bytes u k (stopped files), by_current s.current (subst (λ (n : ℕ). IsForFiles n s.current) (k.same_tracks ∙ sym k.reached.same) files) (cause files))
  where
    sound : Sound (geometry_of old.tracks old.content) old.content k.reached.layout
    sound = subst (λ (n : ℕ). Sound n old.content k.reached.layout) (sym k.reached.same) k.reached.so.stands.sound

    by_current : (x : Option Place) → IsForFiles (geometry_of old.tracks old.content) x → IsRefusedFor old new x t.code → IsHindered old new t
    by_current None f e = map_hindered old.tracks old new k.reached.layout t sound e
    by_current (Some p) f (inl e) = write_hindered (geometry_of old.tracks old.content) old new k.reached.layout p t sound f.0 (inl e)
    by_current (Some p) f (inr e) = map_hindered old.tracks old new k.reached.layout t sound e

-- a block is free for it
pub byte_has_room : (old new : Seen) (s s' : State) (byte : ℕ) (c : Content) (l : Layout) (d : Disk) (uses : ℕ → Use) (ch : ℕ) (bytes : List ℕ) (u : Use) → AllWhole old.content → IsFullFor old.content new.content s s'
    → (s.current ≢ None → length s.waiting ≡ 254) → Making old.tracks c l d uses ch old.content s bytes u → blocks_of (length (bytes ++ byte ∷ [])) ≤ d.free → ⊥
byte_has_room old new s s' byte c l d uses ch bytes u whole full needs k room =
    by_places k.places k.wrote (none_free (geometry_of old.tracks c) old.content k.reached.layout (less (length k.places) d) k.reached.so.stands (subst (λ (n : ℕ). IsFull n (map_of old.content)) k.same_tracks full.full))
  where
    waits : length s.waiting ≡ 254
    waits = needs (has_block old.tracks c l d uses ch old.content s bytes u k)

    by_places : (places : List Place) → Wrote old.content s places bytes → d.free - length places ≡ 0 → ⊥
    by_places [] h none = has_block old.tracks c l d uses ch old.content s bytes u k h.current
    by_places (b ∷ rest) h none =
        let n : length (bytes ++ byte ∷ []) ≡ 254 * length (b ∷ rest) + (0 + 1) = omega (arith, wrote_length old.content s b rest bytes whole h, waits, length-append bytes (byte ∷ [])) in
        let f : suc (length (b ∷ rest)) ≡ blocks_of (length (bytes ++ byte ∷ [])) = blocks_filled (length (b ∷ rest)) 0 (length (bytes ++ byte ∷ [])) (omega arith) n in
        omega (arith, f, none, room)

pub byte_put : (old new : Seen) (s s' : State) (byte : ℕ) (done : Bool) (c : Content) (l : Layout) (d : Disk) (uses : ℕ → Use) (ch : ℕ) (bytes : List ℕ) (u : Use) → AllWhole old.content
    → (IsForFiles s.tracks s.current → MatchBool done (Puts old.content new.content s byte s') (IsFullFor old.content new.content s s')) → done ≡ true
    → Making old.tracks c l d uses ch old.content s bytes u → Making old.tracks c l d uses ch new.content s' (bytes ++ byte ∷ []) u
byte_put old new s s' byte done c l d uses ch bytes u whole puts is k =
    making_puts old.tracks c l d uses ch old.content new.content s s' bytes byte u whole k
    (subst (λ (b : Bool). MatchBool b (Puts old.content new.content s byte s') (IsFullFor old.content new.content s s')) is (puts (copy_for_files old.tracks c l d uses ch old.content s bytes u k)))

pub byte_refused : (old new : Seen) (s s' : State) (byte : ℕ) (done : Bool) (c : Content) (l : Layout) (d : Disk) (uses : ℕ → Use) (ch : ℕ) (bytes : List ℕ) (u : Use) → AllWhole old.content
    → (IsForFiles s.tracks s.current → MatchBool done (Puts old.content new.content s byte s') (IsFullFor old.content new.content s s')) → (done ≡ false → s.current ≢ None → length s.waiting ≡ 254) → done ≡ false
    → Making old.tracks c l d uses ch old.content s bytes u → blocks_of (length (bytes ++ byte ∷ [])) ≤ d.free → ⊥
byte_refused old new s s' byte done c l d uses ch bytes u whole puts needs is k room =
    byte_has_room old new s s' byte c l d uses ch bytes u whole
    (subst (λ (b : Bool). MatchBool b (Puts old.content new.content s byte s') (IsFullFor old.content new.content s s')) is (puts (copy_for_files old.tracks c l d uses ch old.content s bytes u k))) (needs is) k room

-- ---- a byte of the source

front : Option (ℕ × Bool) → ℕ
front None = 0
front (Some p) = p.0

-- the byte that waits is the first that is left
pub waits_first : (xs ys left : List ℕ) (byte b : ℕ) (last : Bool) → next_shown xs ≡ Some (b, last) → byte ∷ left ≡ xs ++ ys → b ≡ byte
unfolding front
waits_first [] ys left byte b last e h = absurd (cc)
waits_first (x ∷ []) ys left byte b last e h = let y : b ≡ x = sym (ap front e) in let z : byte ≡ x = cc in y ∙ sym z
waits_first (x ∷ x' ∷ xs) ys left byte b last e h = let y : b ≡ x = sym (ap front e) in let z : byte ≡ x = cc in y ∙ sym z

pub some_waits : (tracks : ℕ) (c : Content) (l : Layout) (d : Disk) (n byte : ℕ) (r : Reading) (left : List ℕ) → IsReading tracks c l d n r (byte ∷ left) → IsSettled r → next_shown r.bytes ≡ None → ⊥
some_waits tracks c l d n byte r left k settled e =
    let none : r.bytes ≡ [] = nothing r.bytes e in
    let end : r.next.track ≡ 0 = settled (omega (arith, ap length none)) in
    let blocks : k.blocks ≡ [] = ap (λ (f : Followed). f.blocks) (sym k.followed ∙ follow_end r.tracks c r.left r.next end) in
    let all : byte ∷ left ≡ [] = k.all ∙ (λ i. none i ++ chain_bytes c (blocks i)) in (cc)
  where
    nothing : (xs : List ℕ) → next_shown xs ≡ None → xs ≡ []
    nothing [] e = refl
    nothing (x ∷ []) e = absurd (cc)
    nothing (x ∷ y ∷ xs) e = absurd (cc)

-- the reader goes along after a byte that was put
pub read_after_end : (medium : ℕ) (c : Content) (l : Layout) (d : Disk) (uses : ℕ → Use) (ch n byte : ℕ) (now : Content) (s : State) (bytes left : List ℕ) (old new : Reading) → new.tracks ≡ old.tracks → GoesAlong now old new → rest_of now new ≡ one_less (rest_of now old)
    → Making medium c l d uses ch now s bytes (Reads n old (byte ∷ left)) → Making medium c l d uses ch now s bytes (Reads n new left)
read_after_end medium c l d uses ch n byte now s bytes left old new same goes less_one k = record {
  idle = k.idle;
  places = k.places;
  reached = k.reached;
  owned = k.owned;
  wrote = k.wrote;
  same_tracks = k.same_tracks;
  count = k.count;
  reads = reading_along (geometry_of medium c) now k.reached.layout (less (length k.places) d) n (byte ∷ left) old new k.reads same goes less_one;
}

pub reader_goes : (old new : Seen) (c : Content) (l : Layout) (d : Disk) (uses : ℕ → Use) (ch n byte : ℕ) (s : State) (bytes left : List ℕ) (r r' : Reading) (res : Result (Unit {0}) Trouble) → r'.tracks ≡ r.tracks → OnOk res (GoesAlong new.content r r') → OnOk res (rest_of new.content r' ≡ one_less (rest_of new.content r))
    → IfErr res (λ t. ((rest_of new.content r).trouble ≡ Some t) × (r'.bytes ≡ drop 1 (rest_of new.content r).bytes)) → Making old.tracks c l d uses ch new.content s bytes (Reads n r (byte ∷ left))
    → MatchResult res (λ x. Making old.tracks c l d uses ch new.content s bytes (Reads n r' left)) (IsCopyCut old new c l d uses)
reader_goes old new c l d uses ch n byte s bytes left r r' (Ok x) same goes less_one bad k = read_after_end old.tracks c l d uses ch n byte new.content s bytes left r r' same goes less_one k
reader_goes old new c l d uses ch n byte s bytes left r r' (Err t) same goes less_one bad k = absurd (let z = sym bad.0 ∙ ap (λ (x : RestOfFile). x.trouble) (rest_is new.content r k.reads.blocks k.reads.followed) in (cc))

-- ---- the bytes of a reader

-- so many bytes are put, and the rest is left
pub record IsPassed (medium : ℕ) (c : Content) (l : Layout) (d : Disk) (uses : ℕ → Use) (ch number : ℕ) (now : Content) (s : State) (r : Reading) (bytes left : List ℕ) (passed : ℕ) : Type 0 where
  pub gone : List ℕ
  pub rest : List ℕ
  pub all : gone ++ rest ≡ left
  pub many : length gone ≡ passed
  pub making : Making medium c l d uses ch now s (bytes ++ gone) (Reads number r rest)
  pub settled : IsSettled r

abbrev pub IsReadOn : Seen → Seen → State → State → Reading → Reading → ℕ → ℕ → Type 0
IsReadOn old now s0 s r0 r count passed = (c : Content) (l : Layout) (d : Disk) (uses : ℕ → Use) (ch number : ℕ) (bytes left : List ℕ) → Making old.tracks c l d uses ch old.content s0 bytes (Reads number r0 left) → IsSettled r0
    → count ≡ length left → blocks_of (length (bytes ++ left)) ≤ d.free → IsPassed old.tracks c l d uses ch number now.content s r bytes left passed

pub read_first : (old : Seen) (s : State) (r : Reading) (count : ℕ) → IsReadOn old old s s r r count 0
read_first old s r count = λ c l d uses ch number bytes left k settled e room. record {
  gone = [];
  rest = left;
  all = refl;
  many = refl;
  making = subst (λ (x : List ℕ). Making old.tracks c l d uses ch old.content s x (Reads number r left)) (sym (append-nil bytes)) k;
  settled = settled;
}

-- what the call for one byte says
abbrev pub PutsNext : Seen → Seen → State → State → Reading → Reading → Result (Unit {0}) Trouble → Type 0
PutsNext old new s s' r r' res = (c : Content) (l : Layout) (d : Disk) (uses : ℕ → Use) (ch number byte : ℕ) (bytes left : List ℕ) → Making old.tracks c l d uses ch old.content s bytes (Reads number r (byte ∷ left)) → IsSettled r → blocks_of (length (bytes ++ byte ∷ [])) ≤ d.free
    → MatchResult res (λ x. Making old.tracks c l d uses ch new.content s' (bytes ++ byte ∷ []) (Reads number r' left)) (IsCopyCut old new c l d uses)

pub read_step : (old mid new : Seen) (s0 s s' : State) (r0 r r' : Reading) (count passed : ℕ) (x : Unit {0}) → passed < count → mid.tracks ≡ old.tracks → (IsSettled r → IsSettled r') → PutsNext mid new s s' r r' (Ok x) → IsReadOn old mid s0 s r0 r count passed → IsReadOn old new s0 s' r0 r' count (passed + 1)
read_step old mid new s0 s s' r0 r r' count passed x more same settles puts h = λ c l d uses ch number bytes left k settled e room. by_rest c l d uses ch number bytes left e room (h c l d uses ch number bytes left k settled e room)
  where
    by_rest : (c : Content) (l : Layout) (d : Disk) (uses : ℕ → Use) (ch number : ℕ) (bytes left : List ℕ) → count ≡ length left → blocks_of (length (bytes ++ left)) ≤ d.free → IsPassed old.tracks c l d uses ch number mid.content s r bytes left passed → IsPassed old.tracks c l d uses ch number new.content s' r' bytes left (passed + 1)
    by_rest c l d uses ch number bytes left e room p = go p.rest p.all p.making
      where
        go : (rest : List ℕ) → p.gone ++ rest ≡ left → Making old.tracks c l d uses ch mid.content s (bytes ++ p.gone) (Reads number r rest) → IsPassed old.tracks c l d uses ch number new.content s' r' bytes left (passed + 1)
        go [] all making = absurd (omega (arith, more, e, ap length all, length-append p.gone [], p.many))
        go (byte ∷ rest) all making =
            let f : length (bytes ++ p.gone ++ byte ∷ []) ≤ length (bytes ++ left) = omega (arith, length-append (bytes ++ p.gone) (byte ∷ []), length-append bytes p.gone, length-append bytes left, ap length all, length-append p.gone (byte ∷ rest)) in
            let k' = puts c l d uses ch number byte (bytes ++ p.gone) rest (subst (λ (n : ℕ). Making n c l d uses ch mid.content s (bytes ++ p.gone) (Reads number r (byte ∷ rest))) (sym same) making) p.settled (omega (arith, fewer (length (bytes ++ p.gone ++ byte ∷ [])) (length (bytes ++ left)) f, room)) in
            record {
              gone = p.gone ++ byte ∷ [];
              rest = rest;
              all = append_assoc p.gone (byte ∷ []) rest ∙ all;
              many = omega (arith, length-append p.gone (byte ∷ []), p.many);
              making = subst (λ (y : List ℕ). Making old.tracks c l d uses ch new.content s' y (Reads number r' rest)) (append_assoc bytes p.gone (byte ∷ [])) (subst (λ (n : ℕ). Making n c l d uses ch new.content s' (bytes ++ p.gone ++ byte ∷ []) (Reads number r' rest)) same k');
              settled = settles p.settled;
            }

pub read_cut : (old mid new : Seen) (s0 s s' : State) (r0 r r' : Reading) (count passed : ℕ) (t : Trouble) → passed < count → mid.tracks ≡ old.tracks → mid.protected ≡ old.protected → old.failures ≤ mid.failures → PutsNext mid new s s' r r' (Err t) → IsReadOn old mid s0 s r0 r count passed
    → (c : Content) (l : Layout) (d : Disk) (uses : ℕ → Use) (ch number : ℕ) (bytes left : List ℕ) → Making old.tracks c l d uses ch old.content s0 bytes (Reads number r0 left) → IsSettled r0 → count ≡ length left → blocks_of (length (bytes ++ left)) ≤ d.free → IsCopyCut old new c l d uses t
read_cut old mid new s0 s s' r0 r r' count passed t more same protected counted puts h c l d uses ch number bytes left k settled e room = go p.rest p.all p.making
  where
    p : IsPassed old.tracks c l d uses ch number mid.content s r bytes left passed
    p = h c l d uses ch number bytes left k settled e room

    go : (rest : List ℕ) → p.gone ++ rest ≡ left → Making old.tracks c l d uses ch mid.content s (bytes ++ p.gone) (Reads number r rest) → IsCopyCut old new c l d uses t
    go [] all making = absurd (omega (arith, more, e, ap length all, length-append p.gone [], p.many))
    go (byte ∷ rest) all making =
        let f : length (bytes ++ p.gone ++ byte ∷ []) ≤ length (bytes ++ left) = omega (arith, length-append (bytes ++ p.gone) (byte ∷ []), length-append bytes p.gone, length-append bytes left, ap length all, length-append p.gone (byte ∷ rest)) in
        cut_since old mid new c l d uses t same protected counted
        (puts c l d uses ch number byte (bytes ++ p.gone) rest (subst (λ (n : ℕ). Making n c l d uses ch mid.content s (bytes ++ p.gone) (Reads number r (byte ∷ rest))) (sym same) making) p.settled (omega (arith, fewer (length (bytes ++ p.gone ++ byte ∷ [])) (length (bytes ++ left)) f, room)))

pub without_reader : (medium : ℕ) (c : Content) (l : Layout) (d : Disk) (uses : ℕ → Use) (ch : ℕ) (now : Content) (s : State) (bytes : List ℕ) (u : Use) → Making medium c l d uses ch now s bytes u → Making medium c l d uses ch now s bytes Idle
without_reader medium c l d uses ch now s bytes u k = record { idle = k.idle; places = k.places; reached = k.reached; owned = k.owned; wrote = k.wrote; same_tracks = k.same_tracks; count = k.count; reads = tt }

pub all_read : (old now : Seen) (s0 s : State) (r0 r : Reading) (count passed : ℕ) → count ≤ passed → IsReadOn old now s0 s r0 r count passed
    → (c : Content) (l : Layout) (d : Disk) (uses : ℕ → Use) (ch number : ℕ) (bytes left : List ℕ) → Making old.tracks c l d uses ch old.content s0 bytes (Reads number r0 left) → IsSettled r0 → count ≡ length left → blocks_of (length (bytes ++ left)) ≤ d.free
    → Making old.tracks c l d uses ch now.content s (bytes ++ left) Idle
all_read old now s0 s r0 r count passed over h c l d uses ch number bytes left k settled e room = go p.rest p.all p.making
  where
    p : IsPassed old.tracks c l d uses ch number now.content s r bytes left passed
    p = h c l d uses ch number bytes left k settled e room

    go : (rest : List ℕ) → p.gone ++ rest ≡ left → Making old.tracks c l d uses ch now.content s (bytes ++ p.gone) (Reads number r rest) → Making old.tracks c l d uses ch now.content s (bytes ++ left) Idle
    go [] all making = subst (λ (x : List ℕ). Making old.tracks c l d uses ch now.content s (bytes ++ x) Idle) (sym (append-nil p.gone) ∙ all) (without_reader old.tracks c l d uses ch now.content s (bytes ++ p.gone) (Reads number r []) making)
    go (byte ∷ rest) all making = absurd (omega (arith, over, e, ap length all, length-append p.gone (byte ∷ rest), p.many))

-- ---- the files

abbrev pub PutsFile : Seen → Seen → State → State → ℕ → Result (Unit {0}) Trouble → Type 0
PutsFile old new s s' number res = (c : Content) (l : Layout) (d : Disk) (uses : ℕ → Use) (ch : ℕ) (bytes : List ℕ) → Making old.tracks c l d uses ch old.content s bytes Idle → CanBeCopied d number → blocks_of (length (bytes ++ slot_bytes (file_at d number))) ≤ d.free
    → MatchResult res (λ x. Making old.tracks c l d uses ch new.content s' (bytes ++ slot_bytes (file_at d number)) Idle) (IsCopyCut old new c l d uses)

-- so many files are put, and the others are left
pub record IsPut (medium : ℕ) (c : Content) (l : Layout) (d : Disk) (uses : ℕ → Use) (ch : ℕ) (now : Content) (s : State) (bytes sources rest : List ℕ) : Type 0 where
  pub gone : List ℕ
  pub all : gone ++ joined d rest ≡ joined d sources
  pub making : Making medium c l d uses ch now s (bytes ++ gone) Idle
  pub copied : AreCopied d rest

abbrev pub IsCopiedOn : Seen → Seen → State → State → List ℕ → ℕ → Type 0
IsCopiedOn old now s0 s sources i = (c : Content) (l : Layout) (d : Disk) (uses : ℕ → Use) (ch : ℕ) (bytes : List ℕ) → Making old.tracks c l d uses ch old.content s0 bytes Idle → AreCopied d sources → blocks_of (length (bytes ++ joined d sources)) ≤ d.free
    → IsPut old.tracks c l d uses ch now.content s bytes sources (drop i sources)

pub copied_first : (old : Seen) (s : State) (sources : List ℕ) → IsCopiedOn old old s s sources 0
copied_first old s sources = λ c l d uses ch bytes k are room. record { gone = []; all = refl; making = subst (λ (x : List ℕ). Making old.tracks c l d uses ch old.content s x Idle) (sym (append-nil bytes)) k; copied = are }

-- the next file has room
next_fits : (d : Disk) (bytes gone sources rest : List ℕ) (n : ℕ) → gone ++ joined d (n ∷ rest) ≡ joined d sources → blocks_of (length (bytes ++ joined d sources)) ≤ d.free → blocks_of (length (bytes ++ gone ++ slot_bytes (file_at d n))) ≤ d.free
next_fits d bytes gone sources rest n all room =
    let x : List ℕ = slot_bytes (file_at d n) in
    let f : length (bytes ++ gone ++ x) ≤ length (bytes ++ joined d sources) = omega (arith, length-append (bytes ++ gone) x, length-append bytes gone, length-append bytes (joined d sources), ap length all, length-append gone (joined d (n ∷ rest)), length-append x (joined d rest)) in
    omega (arith, fewer (length (bytes ++ gone ++ x)) (length (bytes ++ joined d sources)) f, room)

pub copied_step : (old mid new : Seen) (s0 s s' : State) (sources : List ℕ) (i : ℕ) (x : Unit {0}) → i < length sources → mid.tracks ≡ old.tracks → PutsFile mid new s s' (slice_index_or sources i 0) (Ok x) → IsCopiedOn old mid s0 s sources i → IsCopiedOn old new s0 s' sources (i + 1)
copied_step old mid new s0 s s' sources i x more same puts h = λ c l d uses ch bytes k are room.
    let n : ℕ = slice_index_or sources i 0 in
    let rest : List ℕ = drop (i + 1) sources in
    let p : IsPut old.tracks c l d uses ch mid.content s bytes sources (n ∷ rest) = subst (λ (xs : List ℕ). IsPut old.tracks c l d uses ch mid.content s bytes sources xs) (at_drop_more (λ (xs : List ℕ). xs) sources i 0 more) (h c l d uses ch bytes k are room) in
    let k' = puts c l d uses ch (bytes ++ p.gone) (subst (λ (m : ℕ). Making m c l d uses ch mid.content s (bytes ++ p.gone) Idle) (sym same) p.making) p.copied.0 (next_fits d bytes p.gone sources rest n p.all room) in
    record {
      gone = p.gone ++ slot_bytes (file_at d n);
      all = append_assoc p.gone (slot_bytes (file_at d n)) (joined d rest) ∙ p.all;
      making = subst (λ (y : List ℕ). Making old.tracks c l d uses ch new.content s' y Idle) (append_assoc bytes p.gone (slot_bytes (file_at d n))) (subst (λ (m : ℕ). Making m c l d uses ch new.content s' (bytes ++ p.gone ++ slot_bytes (file_at d n)) Idle) same k');
      copied = p.copied.1;
    }

pub copied_cut : (old mid new : Seen) (s0 s s' : State) (sources : List ℕ) (i : ℕ) (t : Trouble) → i < length sources → mid.tracks ≡ old.tracks → mid.protected ≡ old.protected → old.failures ≤ mid.failures → PutsFile mid new s s' (slice_index_or sources i 0) (Err t) → IsCopiedOn old mid s0 s sources i
    → (c : Content) (l : Layout) (d : Disk) (uses : ℕ → Use) (ch : ℕ) (bytes : List ℕ) → Making old.tracks c l d uses ch old.content s0 bytes Idle → AreCopied d sources → blocks_of (length (bytes ++ joined d sources)) ≤ d.free → IsCopyCut old new c l d uses t
copied_cut old mid new s0 s s' sources i t more same protected counted puts h c l d uses ch bytes k are room =
    let n : ℕ = slice_index_or sources i 0 in
    let rest : List ℕ = drop (i + 1) sources in
    let p : IsPut old.tracks c l d uses ch mid.content s bytes sources (n ∷ rest) = subst (λ (xs : List ℕ). IsPut old.tracks c l d uses ch mid.content s bytes sources xs) (at_drop_more (λ (xs : List ℕ). xs) sources i 0 more) (h c l d uses ch bytes k are room) in
    cut_since old mid new c l d uses t same protected counted
    (puts c l d uses ch (bytes ++ p.gone) (subst (λ (m : ℕ). Making m c l d uses ch mid.content s (bytes ++ p.gone) Idle) (sym same) p.making) p.copied.0 (next_fits d bytes p.gone sources rest n p.all room))

pub all_copied : (old now : Seen) (s0 s : State) (sources : List ℕ) (i : ℕ) → length sources ≤ i → IsCopiedOn old now s0 s sources i
    → (c : Content) (l : Layout) (d : Disk) (uses : ℕ → Use) (ch : ℕ) (bytes : List ℕ) → Making old.tracks c l d uses ch old.content s0 bytes Idle → AreCopied d sources → blocks_of (length (bytes ++ joined d sources)) ≤ d.free
    → Making old.tracks c l d uses ch now.content s (bytes ++ joined d sources) Idle
all_copied old now s0 s sources i over h c l d uses ch bytes k are room =
    let p : IsPut old.tracks c l d uses ch now.content s bytes sources [] = subst (λ (xs : List ℕ). IsPut old.tracks c l d uses ch now.content s bytes sources xs) (drop_all i sources over) (h c l d uses ch bytes k are room) in
    subst (λ (x : List ℕ). Making old.tracks c l d uses ch now.content s (bytes ++ x) Idle) (sym (append-nil p.gone) ∙ p.all) p.making

-- ---- the counts

-- so many files are counted
pub record IsCountedTo (d : Disk) (sources rest : List ℕ) (total : ℕ) : Type 0 where
  pub before : ℕ
  pub all : before + length (joined d rest) ≡ length (joined d sources)
  pub is : total ≡ min before 4294967295
  pub copied : AreCopied d rest

abbrev pub IsCounted : Seen → List ℕ → ℕ → ℕ → Type 0
IsCounted now sources i total = (d : Disk) (uses : ℕ → Use) → HoldsNow now.tracks now.content d uses → AreCopied d sources → IsCountedTo d sources (drop i sources) total

pub counted_first : (now : Seen) (sources : List ℕ) → IsCounted now sources 0 0
counted_first now sources = λ d uses h are. record { before = 0; all = omega arith; is = omega arith; copied = are }

pub counted_step : (now : Seen) (sources : List ℕ) (i total bytes more : ℕ) → i < length sources → more ≡ min (total + bytes) 4294967295
    → ((d : Disk) (uses : ℕ → Use) → HoldsNow now.tracks now.content d uses → CanBeCopied d (slice_index_or sources i 0) → bytes ≡ length (slot_bytes (file_at d (slice_index_or sources i 0)))) → IsCounted now sources i total → IsCounted now sources (i + 1) more
counted_step now sources i total bytes more below e counts h = λ d uses holds are.
    let n : ℕ = slice_index_or sources i 0 in
    let p : IsCountedTo d sources (n ∷ drop (i + 1) sources) total = subst (λ (xs : List ℕ). IsCountedTo d sources xs total) (at_drop_more (λ (xs : List ℕ). xs) sources i 0 below) (h d uses holds are) in
    record {
      before = p.before + bytes;
      all = omega (arith, p.all, counts d uses holds p.copied.0, length-append (slot_bytes (file_at d n)) (joined d (drop (i + 1) sources)));
      is = omega (arith, e, p.is);
      copied = p.copied.1;
    }

pub counted_never : (now : Seen) (sources : List ℕ) (i total : ℕ) → i < length sources → ((d : Disk) (uses : ℕ → Use) → HoldsNow now.tracks now.content d uses → CanBeCopied d (slice_index_or sources i 0) → ⊥) → IsCounted now sources i total
    → (d : Disk) (uses : ℕ → Use) → HoldsNow now.tracks now.content d uses → AreCopied d sources → ⊥
counted_never now sources i total below never h d uses holds are =
    let p = subst (λ (xs : List ℕ). IsCountedTo d sources xs total) (at_drop_more (λ (xs : List ℕ). xs) sources i 0 below) (h d uses holds are) in never d uses holds p.copied.0

pub all_counted : (now : Seen) (sources : List ℕ) (i total : ℕ) → length sources ≤ i → IsCounted now sources i total → (d : Disk) (uses : ℕ → Use) → HoldsNow now.tracks now.content d uses → AreCopied d sources → total ≡ min (length (joined d sources)) 4294967295
all_counted now sources i total over h d uses holds are =
    let p = subst (λ (xs : List ℕ). IsCountedTo d sources xs total) (drop_all i sources over) (h d uses holds are) in omega (arith, p.is, p.all)

-- ---- what the directory says of a source

-- a slot past the last one has no file
past_none : (d : Disk) (n : ℕ) (f : File) → length d.slots ≤ n → file_at d n ≡ Some f → ⊥
past_none d n f l e = let z = sym (get_or_past d.slots n None l) ∙ e in (cc)

pub source_there : (tracks : ℕ) (c : Content) (l : Layout) (d : Disk) (n : ℕ) → HasLayout tracks c l d → CanBeCopied d n → Answers (directory_of tracks c) n (Ok None) → ⊥
source_there tracks c l d n st can a = past_none d n can.file (slot_shown tracks c l d n (Ok None) st a) can.in_slot

pub source_reads : (tracks : ℕ) (c : Content) (l : Layout) (d : Disk) (n : ℕ) (t : Trouble) → HasLayout tracks c l d → Answers (directory_of tracks c) n (Err t) → ⊥
source_reads tracks c l d n t st a = slot_shown tracks c l d n (Err t) st a

pub source_bytes : (tracks : ℕ) (c : Content) (l : Layout) (d : Disk) (n : ℕ) (entry : List ℕ) → HasLayout tracks c l d → CanBeCopied d n → Answers (directory_of tracks c) n (Ok (Some entry)) → HasBytes d n (slot_bytes (file_at d n))
source_bytes tracks c l d n entry st can a =
    let found = entry_found tracks c l n entry st.sound a in
    let e : List ℕ = entry_at c l.directory n in
    let says : EntrySays can.file e = subst (λ (o : Option File). SlotSays o e) (sym (st.describes.slots n found.0) ∙ can.in_slot) (slot_says (chain_bytes c (l.files n).data_blocks) e (l.files n) (st.sound.kinds n found.0)) in
    record { file = can.file; in_slot = can.in_slot; closed = can.closed; body = says.body can.plain ∙ ap (λ (o : Option File). Bytes (slot_bytes o)) (sym can.in_slot) }

-- ---- the same, by what the calls answer

pub no_trouble : (tracks geometry : ℕ) (c : Content) (l : Layout) (d : Disk) (n : ℕ) (t : Trouble) → HasLayout tracks c l d → geometry ≡ tracks → Answers (directory_of geometry c) n (Err t) → ⊥
no_trouble tracks geometry c l d n t st e a = source_reads tracks c l d n t st (subst (λ (x : ℕ). Answers (directory_of x c) n (Err t)) e a)

pub no_end : (tracks geometry : ℕ) (c : Content) (l : Layout) (d : Disk) (n : ℕ) (o : Option (List ℕ)) → HasLayout tracks c l d → geometry ≡ tracks → CanBeCopied d n → o ≡ None → Answers (directory_of geometry c) n (Ok o) → ⊥
no_end tracks geometry c l d n o st e can none a = source_there tracks c l d n st can (subst (λ (x : ℕ). Answers (directory_of x c) n (Ok None)) e (subst (λ (x : Option (List ℕ)). Answers (directory_of geometry c) n (Ok x)) none a))

found_entry : (tracks geometry : ℕ) (c : Content) (n : ℕ) (o : Option (List ℕ)) (entry : List ℕ) → geometry ≡ tracks → o ≡ Some entry → Answers (directory_of geometry c) n (Ok o) → Answers (directory_of tracks c) n (Ok (Some entry))
found_entry tracks geometry c n o entry e some a = subst (λ (x : ℕ). Answers (directory_of x c) n (Ok (Some entry))) e (subst (λ (x : Option (List ℕ)). Answers (directory_of geometry c) n (Ok x)) some a)

pub source_held : (tracks geometry : ℕ) (c : Content) (l : Layout) (d : Disk) (n : ℕ) (o : Option (List ℕ)) (entry : List ℕ) (at : Place) → (tracks ≡ 35) ⊎ (tracks ≡ 40) → HasLayout tracks c l d → geometry ≡ tracks → CanBeCopied d n → o ≡ Some entry → Answers (directory_of geometry c) n (Ok o)
    → at ≡ first_block entry → held_from geometry c (sector_count geometry) at ≡ (record { bytes = slot_bytes (file_at d n); trouble = None })
source_held tracks geometry c l d n o entry at size st e can some a first =
    let found = found_entry tracks geometry c n o entry e some a in
    (λ i. held_from (e i) c (sector_count (e i)) (first i)) ∙ file_read tracks c l d n entry (slot_bytes (file_at d n)) size st found (source_bytes tracks c l d n entry st can found)

-- the source is the same while the copy is made
pub can_less : (d : Disk) (n m : ℕ) → CanBeCopied d m → CanBeCopied (less n d) m
can_less d n m can = record { file = can.file; in_slot = same_files_less d n m ∙ can.in_slot; closed = can.closed; plain = can.plain }

-- the geometry that a call reads
pub making_size : (medium geometry : ℕ) (c : Content) (l : Layout) (d : Disk) (uses : ℕ → Use) (ch : ℕ) (now : Content) (s : State) (bytes : List ℕ) (u : Use) → Making medium c l d uses ch now s bytes u → geometry ≡ geometry_of medium now → geometry ≡ geometry_of medium c
making_size medium geometry c l d uses ch now s bytes u k e = e ∙ k.reached.same

pub making_held : (medium geometry : ℕ) (c : Content) (l : Layout) (d : Disk) (uses : ℕ → Use) (ch : ℕ) (now : Content) (s : State) (bytes : List ℕ) (u : Use) (n : ℕ) (o : Option (List ℕ)) (entry : List ℕ) (at : Place) → Making medium c l d uses ch now s bytes u → geometry ≡ geometry_of medium now → CanBeCopied d n
    → o ≡ Some entry → Answers (directory_of geometry now) n (Ok o) → at ≡ first_block entry → held_from geometry now (sector_count geometry) at ≡ (record { bytes = slot_bytes (file_at d n); trouble = None })
making_held medium geometry c l d uses ch now s bytes u n o entry at k e can some a first =
    source_held (geometry_of medium c) geometry now k.reached.layout (less (length k.places) d) n o entry at (geometry_size medium c) k.reached.so.stands (e ∙ k.reached.same) (can_less d (length k.places) n can) some a first
    ∙ (λ i. record { bytes = slot_bytes (same_files_less d (length k.places) n i); trouble = None })

-- the source is begun to be read
pub making_reads : (medium geometry : ℕ) (c : Content) (l : Layout) (d : Disk) (uses : ℕ → Use) (ch : ℕ) (now : Content) (s : State) (bytes : List ℕ) (u : Use) (n : ℕ) (o : Option (List ℕ)) (entry : List ℕ) (at : Place) (r : Reading) → Making medium c l d uses ch now s bytes u → geometry ≡ geometry_of medium now
    → CanBeCopied d n → o ≡ Some entry → Answers (directory_of geometry now) n (Ok o) → at ≡ first_block entry → r.tracks ≡ geometry → BeginsAt now geometry at r → rest_of now r ≡ held_from geometry now (sector_count geometry) at
    → Making medium c l d uses ch now s bytes (Reads n r (slot_bytes (file_at d n)))
making_reads medium geometry c l d uses ch now s bytes u n o entry at r k e can some a first same begins rest = record {
  idle = k.idle;
  places = k.places;
  reached = k.reached;
  owned = k.owned;
  wrote = k.wrote;
  same_tracks = k.same_tracks;
  count = k.count;
  reads = reading_begun tracks now k.reached.layout d1 n entry (slot_bytes (file_at d n)) r (geometry_size medium c) k.reached.so.stands found
      (subst (λ (xs : List ℕ). HasBytes d1 n xs) (ap slot_bytes (same_files_less d (length k.places) n)) (source_bytes tracks now k.reached.layout d1 n entry k.reached.so.stands (can_less d (length k.places) n can) found))
      (same ∙ size) (subst (λ (x : ℕ). BeginsAt now x (first_block entry) r) size (subst (λ (p : Place). BeginsAt now geometry p r) first begins)) (rest ∙ making_held medium geometry c l d uses ch now s bytes u n o entry at k e can some a first);
}
  where
    tracks : ℕ
    tracks = geometry_of medium c

    d1 : Disk
    d1 = less (length k.places) d

    size : geometry ≡ tracks
    size = e ∙ k.reached.same

    found : Answers (directory_of tracks now) n (Ok (Some entry))
    found = found_entry tracks geometry now n o entry size some a

-- how much is counted
pub held_length : (count : ℕ) (rest : RestOfFile) (bytes : List ℕ) → count ≡ length rest.bytes → rest ≡ (record { bytes = bytes; trouble = None }) → count ≡ length bytes
held_length count rest bytes e h = e ∙ ap (λ (r : RestOfFile). length r.bytes) h

pub held_whole : (t : Trouble) (rest : RestOfFile) (bytes : List ℕ) → rest.trouble ≡ Some t → rest ≡ (record { bytes = bytes; trouble = None }) → ⊥
held_whole t rest bytes e h = let z = sym e ∙ ap (λ (r : RestOfFile). r.trouble) h in (cc)

pub counted_ok : (r : Result ℕ Trouble) (rest : RestOfFile) (bytes : List ℕ) → IfOk r (λ n. n ≡ length rest.bytes) → IfErr r (λ t. rest.trouble ≡ Some t) → rest ≡ (record { bytes = bytes; trouble = None }) → IsOkAnd r (λ n. n ≡ length bytes)
counted_ok (Ok n) rest bytes ok err h = held_length n rest bytes ok h
counted_ok (Err t) rest bytes ok err h = absurd (held_whole t rest bytes err h)
