-- A text for records: the record is written, which is made where it isn't there, and the place goes on.
use Rattle.std.proofs.Common.{◌≡◌, ◌≢◌, ℕ, ◌+◌, ◌-◌, ◌*◌, ◌<◌, ◌≤◌, Bool, true, false, List, [], ◌++◌, length, take, drop, refl, sym, ap, ◌∙◌, subst, arith, inl, inr, ◌⊎◌, Option, Some, None, Result, Ok, Err, IsOk}
use Rattle.std.specs.Prelude.{◌==◌, if◌then◌else◌, replicate, option_map, slice_get, slice_index_or, slice_set, is_some, IfErr, IfOk, IfSome, IsOkAnd, MatchBool, MatchResult}
use Rattle.std.proofs.lemmas.Bool.{cases_lt, ne_eqb}
use Rattle.std.proofs.lemmas.List.{get_or_past, get_or-set_same, get_or-set_other, length-append, length-replicate}
use Rattle.std.proofs.lemmas.Nat.{div-add-mod', le-div, mod_below}
use Rattle.std.proofs.lemmas.Option.{slice_get-get_or}
use Rattle.cbm_medium.specs.Seen.{Seen}
use Rattle.cbm_medium.specs.declared.fault.Trouble.{Trouble}
use Rattle.cbm_file.specs.Files.{Body, File, Disk, Records, file_at, with_slot}
use Rattle.cbm_file.specs.Records.{fresh_record, record_count, blocks_for, sides_for, with_body, with_sized_body, record_at}
use Rattle.cbm_medium.specs.Content.{Content}
use Rattle.cbm_volume.specs.Growth.{filled_up, with_growth, IsTooLarge, IsGrowthCut}
use Rattle.cbm_volume.specs.Holding.{HoldsDisk}
use Rattle.cbm_volume.specs.Opens.{IsHindered}
use Rattle.cbm_volume.specs.RecordWrites.{OfRecords, new_record, with_record, IsRecordPut, IsRecordCut}
use Rattle.cbm_volume.specs.Writers.{Use, HoldsNow}
use Rattle.cbm_channel.specs.Placed.{Placed, IsPlacedAt}
use Rattle.cbm_channel.specs.Recorded.{CanPut, CanGrow, disk_grown, blocks_grown, sides_grown, records_grown, IsReadAnew, IsTextStored, IsTextCut}
use Rattle.cbm_channel.specs.ChannelCalls.{KeepsRest, OfPlaced}
use Rattle.cbm_channel.specs.PlaceCalls.{GrowsToPlace, ReachesRecord}
use Rattle.cbm_channel.proofs.Rest.{rest_then}

-- ---- the disk, where one slot's file has other records

-- a slot that has a file is one of the disk's
within : (d : Disk) (n : ℕ) (f : File) → file_at d n ≡ Some f → n < length d.slots
within d n f some = elim (cases_lt n (length d.slots)) [
  | inl h ↦ h
  | inr past ↦ absurd (let z = sym some ∙ get_or_past d.slots n None past in (cc))
]

-- ALL ELSE IS AS IT WAS, and the slot has a closed file of records of this length.
pub record IsSameBut (d d' : Disk) (n w : ℕ) : Type 0 where
  pub file : File
  pub in_slot : file_at d' n ≡ Some file
  pub closed : file.closed ≡ true
  pub records : List (List ℕ)
  pub blocks : ℕ
  pub sides : ℕ
  pub body : file.body ≡ Records w records blocks sides
  pub others : (m : ℕ) → m ≢ n → file_at d' m ≡ file_at d m

pub but_itself : (d : Disk) (n w b s : ℕ) (rs : List (List ℕ)) (f : File) → file_at d n ≡ Some f → f.closed ≡ true → f.body ≡ Records w rs b s → IsSameBut d d n w
but_itself d n w b s rs f at shut is = record { file = f; in_slot = at; closed = shut; records = rs; blocks = b; sides = s; body = is; others = λ m ne. refl }

-- another file in the slot
but_file : (d d' : Disk) (n w b s : ℕ) (rs : List (List ℕ)) (f g : File) → file_at d n ≡ Some f → d'.slots ≡ slice_set d.slots n (Some g) → g.closed ≡ true → g.body ≡ Records w rs b s → IsSameBut d d' n w
but_file d d' n w b s rs f g at slots shut is = record {
  file = g;
  in_slot = ap (λ (xs : List (Option File)). slice_index_or xs n None) slots ∙ get_or-set_same d.slots n (Some g) None (within d n f at);
  closed = shut;
  records = rs;
  blocks = b;
  sides = s;
  body = is;
  others = λ m ne. ap (λ (xs : List (Option File)). slice_index_or xs m None) slots ∙ get_or-set_other d.slots n m (Some g) None ne;
}

-- the slot's file with another body
body_set : (d : Disk) (n : ℕ) (f : File) (body : Body) → file_at d n ≡ Some f → with_body d n body ≡ with_slot d n (Some (record f { body = body }))
body_set d n f body at = ap (λ (o : Option File). elim o [ None ↦ d | Some g ↦ with_slot d n (Some (record g { body = body })) ]) at

sized_set : (d : Disk) (n m : ℕ) (f : File) (body : Body) → file_at d n ≡ Some f → with_sized_body d n m body ≡ with_slot d n (Some (record f { shown = m; held = m; body = body }))
sized_set d n m f body at = ap (λ (o : Option File). elim o [ None ↦ d | Some g ↦ with_slot d n (Some (record g { shown = m; held = m; body = body })) ]) at

-- a record has other bytes
pub but_record : (d : Disk) (n w b s k : ℕ) (rs : List (List ℕ)) (bytes : List ℕ) (f : File) → file_at d n ≡ Some f → f.closed ≡ true → IsSameBut d (with_record d n w rs b s k bytes) n w
but_record d n w b s k rs bytes f at shut = but_file d (with_record d n w rs b s k bytes) n w b s (slice_set rs (k - 1) bytes) f (record f { body = Records w (slice_set rs (k - 1) bytes) b s }) at
    (ap (λ (x : Disk). x.slots) (body_set d n f (Records w (slice_set rs (k - 1) bytes) b s) at)) shut refl

-- the file has grown
abbrev pub grown_file : File → ℕ → ℕ → ℕ → ℕ → List (List ℕ) → File
grown_file f w b s k rs =
    let blocks = blocks_for w b k in
    let sides = sides_for s blocks in
    record f { shown = blocks + sides; held = blocks + sides; body = Records w (filled_up w blocks rs) blocks sides }

growth_slots : (d : Disk) (n w b s k : ℕ) (rs : List (List ℕ)) (f : File) → file_at d n ≡ Some f → (with_growth d n w b s rs k).slots ≡ slice_set d.slots n (Some (grown_file f w b s k rs))
growth_slots d n w b s k rs f at =
    let blocks : ℕ = blocks_for w b k in
    let sides : ℕ = sides_for s blocks in
    ap (λ (x : Disk). x.slots) (sized_set d n (blocks + sides) f (Records w (filled_up w blocks rs) blocks sides) at)

pub growth_there : (d : Disk) (n w b s k : ℕ) (rs : List (List ℕ)) (f : File) → file_at d n ≡ Some f → file_at (with_growth d n w b s rs k) n ≡ Some (grown_file f w b s k rs)
growth_there d n w b s k rs f at = ap (λ (xs : List (Option File)). slice_index_or xs n None) (growth_slots d n w b s k rs f at) ∙ get_or-set_same d.slots n (Some (grown_file f w b s k rs)) None (within d n f at)

pub but_growth : (d : Disk) (n w b s k : ℕ) (rs : List (List ℕ)) (f : File) → file_at d n ≡ Some f → f.closed ≡ true → IsSameBut d (with_growth d n w b s rs k) n w
but_growth d n w b s k rs f at shut =
    but_file d (with_growth d n w b s rs k) n w (blocks_for w b k) (sides_for s (blocks_for w b k)) (filled_up w (blocks_for w b k) rs) f (grown_file f w b s k rs) at (growth_slots d n w b s k rs f at) shut refl

-- a growth was refused
pub but_cut : (d : Disk) (n w b s shown free : ℕ) (rs : List (List ℕ)) (f : File) → file_at d n ≡ Some f → f.closed ≡ true → IsSameBut d (record (with_slot d n (Some (record f { shown = shown; held = b + s; body = Records w rs b s }))) { free = free }) n w
but_cut d n w b s shown free rs f at shut =
    but_file d (record (with_slot d n (Some (record f { shown = shown; held = b + s; body = Records w rs b s }))) { free = free }) n w b s rs f (record f { shown = shown; held = b + s; body = Records w rs b s }) at refl shut refl

-- one after another
pub but_then : (d d1 d2 : Disk) (n w : ℕ) → IsSameBut d d1 n w → IsSameBut d1 d2 n w → IsSameBut d d2 n w
but_then d d1 d2 n w a b = record { file = b.file; in_slot = b.in_slot; closed = b.closed; records = b.records; blocks = b.blocks; sides = b.sides; body = b.body; others = λ m ne. b.others m ne ∙ a.others m ne }

-- ---- the record is there after the growth

enough : (w b k : ℕ) → 0 < w → k ≤ record_count w (blocks_for w b k)
enough w b k some = le-div k (254 * blocks_for w b k) w some (omega (arith, div-add-mod' (k * w + 253) 254, mod_below (k * w + 253) 254 (omega arith)))

-- so many records at least
some_there : (rs : List (List ℕ)) (k : ℕ) → 1 ≤ k → k ≤ length rs → (w b s : ℕ) → is_some (record_at (Records w rs b s) k) ≡ true
some_there rs k first most w b s =
    let at : slice_get rs (k - 1) ≡ Some (slice_index_or rs (k - 1) []) = slice_get-get_or rs (k - 1) [] (omega (arith, first, most)) in
    ap (λ (t : Bool). is_some (if t then None else slice_get rs (k - 1))) (ne_eqb k 0 (λ e. omega (arith, first, e))) ∙ ap is_some at

pub grown_there : (w b s k : ℕ) (rs : List (List ℕ)) → 0 < w → 1 ≤ k → is_some (record_at (Records w (filled_up w (blocks_for w b k) rs) (blocks_for w b k) (sides_for s (blocks_for w b k))) k) ≡ true
grown_there w b s k rs some first =
    let c : ℕ = record_count w (blocks_for w b k) in
    some_there (filled_up w (blocks_for w b k) rs) k first
    (omega (arith, enough w b k some, length-append rs (replicate (c - length rs) (fresh_record w)), length-replicate (c - length rs) (fresh_record w))) w (blocks_for w b k) (sides_for s (blocks_for w b k))

-- ---- the place

-- the clause of the write, by the place
abbrev pub Writes : {A : Type 0} → (A → Bool) → Seen → Seen → Placed → List ℕ → Result (Option A) Trouble → Type 0
Writes cut old new r bytes result = (d : Disk) (uses : ℕ → Use) (b s : ℕ) (rs : List (List ℕ)) → CanPut old.tracks old.content d uses r b s rs
    → MatchResult result (λ o. IsRecordPut old.tracks old.content new.content d uses r.slot r.width b s rs r.number r.position bytes (option_map cut o)) (IsRecordCut old new d uses r.slot r.width b s rs r.number r.position bytes)

-- its clause of the record after it
abbrev pub ReadsOn : {A : Type 0} → (A → Option (List ℕ) → Type 0) → Seen → Seen → Placed → Result (Option A) Trouble → Type 0
ReadsOn Q old new r result = (d : Disk) (uses : ℕ → Use) (b s : ℕ) (rs : List (List ℕ)) → CanPut old.tracks old.content d uses r b s rs
    → IfOk result (λ o. IfSome o (λ x. OfRecords new r.slot (λ found. Q x (slice_get found r.number))))

-- the numbers of a place count from 1
pub no_place : (medium : ℕ) (c : Content) (d : Disk) (uses : ℕ → Use) (r r' : Placed) (b s : ℕ) (rs : List (List ℕ)) → r ≡ r' → CanPut medium c d uses r' b s rs → (r.number ≡ 0) ⊎ (r.position ≡ 0) → ⊥
no_place medium c d uses r r' b s rs e can (inl z) = omega (arith, can.number, z, ap (λ (x : Placed). x.number) e)
no_place medium c d uses r r' b s rs e can (inr z) = omega (arith, can.first, z, ap (λ (x : Placed). x.position) e)

-- the clauses of the growth as one
pub grows_by : (old new : Seen) (d : Disk) (uses : ℕ → Use) (r : Placed) (b s : ℕ) (rs : List (List ℕ)) (result : Result Bool Trouble) → record_at (Records r.width rs b s) r.number ≡ None
    → IfOk result (λ done. MatchBool done (HoldsNow old.tracks new.content (disk_grown d r b s rs) uses) (IsTooLarge d r.width b s r.number × (new.content ≡ old.content)))
    → (IsTooLarge d r.width b s r.number → IsOkAnd result (λ done. done ≡ false)) → IfErr result (IsGrowthCut old new d uses r.slot r.width rs)
    → MatchResult result (λ done. MatchBool done (HoldsNow old.tracks new.content (disk_grown d r b s rs) uses × CanGrow d r b s rs) (IsTooLarge d r.width b s r.number × (new.content ≡ old.content)))
    (λ t. IsGrowthCut old new d uses r.slot r.width rs t × CanGrow d r b s rs)
grows_by old new d uses r b s rs (Ok true) none grown full stopped = (grown, record { missing = none; room = λ large. let z = full large in (cc) })
grows_by old new d uses r b s rs (Ok false) none grown full stopped = grown
grows_by old new d uses r b s rs (Err t) none grown full stopped = (stopped, record { missing = none; room = λ large. full large })

-- on the same content the channel can put
pub can_still : (old mid : Seen) (d : Disk) (uses : ℕ → Use) (r : Placed) (b s : ℕ) (rs : List (List ℕ)) → CanPut old.tracks old.content d uses r b s rs → mid.tracks ≡ old.tracks → mid.content ≡ old.content → CanPut mid.tracks mid.content d uses r b s rs
can_still old mid d uses r b s rs can tracks content =
    subst (λ (t : ℕ). CanPut t mid.content d uses r b s rs) (sym tracks) (subst (λ (c : Content). CanPut old.tracks c d uses r b s rs) (sym content) can)

-- and where the file has grown
pub can_then : (old new : Seen) (d : Disk) (uses : ℕ → Use) (r : Placed) (b s : ℕ) (rs : List (List ℕ)) → CanPut old.tracks old.content d uses r b s rs → new.tracks ≡ old.tracks → HoldsNow old.tracks new.content (disk_grown d r b s rs) uses
    → CanPut new.tracks new.content (disk_grown d r b s rs) uses r (blocks_grown r b) (sides_grown r b s) (records_grown r b rs)
can_then old new d uses r b s rs can tracks holds = record {
  has = record {
    holds = subst (λ (t : ℕ). HoldsNow t new.content (disk_grown d r b s rs) uses) (sym tracks) holds;
    channel = can.has.channel;
    relates = can.has.relates;
    file = grown_file can.has.file r.width b s r.number rs;
    in_slot = growth_there d r.slot r.width b s r.number rs can.has.file can.has.in_slot;
    body = refl;
  };
  closed = can.closed;
  number = can.number;
  first = can.first;
  inside = can.inside;
}

-- a refusal since
pub hindered_since : (old mid new : Seen) (t : Trouble) → mid.protected ≡ old.protected → old.failures ≤ mid.failures → IsHindered mid new t → IsHindered old new t
hindered_since old mid new t protected counted (inl x) = inl (sym protected ∙ x.0, x.1)
hindered_since old mid new t protected counted (inr x) = inr (omega (arith, counted, x))

pub cut_since : (old mid new : Seen) (d : Disk) (uses : ℕ → Use) (n w b s k p : ℕ) (rs : List (List ℕ)) (bytes : List ℕ) (t : Trouble) → mid.tracks ≡ old.tracks → mid.protected ≡ old.protected → old.failures ≤ mid.failures
    → IsRecordCut mid new d uses n w b s rs k p bytes t → IsRecordCut old new d uses n w b s rs k p bytes t
cut_since old mid new d uses n w b s k p rs bytes t tracks protected counted h = record {
  there = h.there;
  so_far = h.so_far;
  holds = subst (λ (m : ℕ). HoldsNow m new.content (with_record d n w rs b s k (take h.so_far (new_record w rs k p bytes) ++ drop h.so_far (slice_index_or rs (k - 1) []))) uses) tracks h.holds;
  cause = hindered_since old mid new t protected counted h.cause;
}

pub growth_since : (old mid new : Seen) (d : Disk) (uses : ℕ → Use) (n w : ℕ) (rs : List (List ℕ)) (t : Trouble) → mid.tracks ≡ old.tracks → mid.protected ≡ old.protected → old.failures ≤ mid.failures → IsGrowthCut mid new d uses n w rs t → IsGrowthCut old new d uses n w rs t
growth_since old mid new d uses n w rs t tracks protected counted h = record {
  file = h.file;
  in_slot = h.in_slot;
  so_far = h.so_far;
  blocks = h.blocks;
  sides = h.sides;
  shown = h.shown;
  free = h.free;
  holds = subst (λ (m : ℕ). HoldsNow m new.content (record (with_slot d n (Some (record (h.file) { shown = h.shown; held = h.blocks + h.sides; body = Records w (rs ++ replicate h.so_far (fresh_record w)) h.blocks h.sides }))) { free = h.free }) uses) tracks h.holds;
  cause = hindered_since old mid new t protected counted h.cause;
}

-- ---- the place that is reached

-- it reads on a sound disk
pub read_there : (old new : Seen) (d : Disk) (uses : ℕ → Use) (r q : Placed) (b s : ℕ) (rs : List (List ℕ)) (bytes : List ℕ) (cut : Bool) (result : Result (Unit {0}) Trouble) → CanPut old.tracks old.content d uses r b s rs → new.tracks ≡ old.tracks → ReachesRecord new r q result
    → IsTextStored old.tracks old.content new.content d uses r b s rs bytes (Some cut) → IsOk result
read_there old new d uses r q b s rs bytes cut result can tracks reaches stored = by_way stored
  where
    on_disk : (d' : Disk) → IsSameBut d d' r.slot r.width → HoldsNow old.tracks new.content d' uses → IsOk result
    on_disk d' but h = (reaches d' but.file but.blocks but.sides but.records (subst (λ (t : ℕ). HoldsDisk t new.content d') (sym tracks) (record { layout = h.layout; stands = h.so.stands })) but.in_slot but.closed but.body).0

    by_way : IsTextStored old.tracks old.content new.content d uses r b s rs bytes (Some cut) → IsOk result
    by_way (inl x) = on_disk (with_record d r.slot r.width rs b s r.number (new_record r.width rs r.number r.position bytes)) (but_record d r.slot r.width b s r.number rs (new_record r.width rs r.number r.position bytes) can.has.file can.has.in_slot can.closed) x.2
    by_way (inr x) =
        let but = but_growth d r.slot r.width b s r.number rs can.has.file can.has.in_slot can.closed in
        let d1 : Disk = disk_grown d r b s rs in
        let bytes1 : List ℕ = new_record r.width (records_grown r b rs) r.number r.position bytes in
        on_disk (with_record d1 r.slot r.width (records_grown r b rs) (blocks_grown r b) (sides_grown r b s) r.number bytes1)
        (but_then d d1 (with_record d1 r.slot r.width (records_grown r b rs) (blocks_grown r b) (sides_grown r b s) r.number bytes1) r.slot r.width but (but_record d1 r.slot r.width (blocks_grown r b) (sides_grown r b s) r.number (records_grown r b rs) bytes1 but.file but.in_slot but.closed)) x.1.2

-- and shows what the file has there
pub read_anew : (now : Seen) (r q : Placed) (k p : ℕ) (result : Result (Unit {0}) Trouble) → ReachesRecord now r q result → IsPlacedAt r q k p → IsReadAnew now q
read_anew now r q k p result reaches at d f b s rs h there shut is =
    (reaches d f b s rs h (ap (file_at d) (sym at.same_slot) ∙ there) shut (is ∙ ap (λ (w : ℕ). Records w rs b s) at.same_width)).1

-- ---- the exits of the whole

module _ (old mid : Seen) (d : Disk) (uses : ℕ → Use) (r : Placed) (b s : ℕ) (rs : List (List ℕ)) (bytes : List ℕ) (can : CanPut old.tracks old.content d uses r b s rs) (tracks : mid.tracks ≡ old.tracks) (protected : mid.protected ≡ old.protected) (counted : old.failures ≤ mid.failures)
    (missing : IsRecordPut old.tracks old.content mid.content d uses r.slot r.width b s rs r.number r.position bytes None) where
  can_grow : CanPut mid.tracks mid.content d uses r b s rs
  can_grow = can_still old mid d uses r b s rs can tracks missing.1

  -- the file would be too large
  pub store_full : (new : Seen) → GrowsToPlace mid new r (Ok false) → IsTextStored old.tracks old.content new.content d uses r b s rs bytes None
  store_full new grows = let g = grows d uses b s rs can_grow missing.0 in (missing.0, g.0, g.1 ∙ missing.1)

  -- the growth was refused
  pub store_cut : (new : Seen) (t : Trouble) → GrowsToPlace mid new r (Err t) → IsTextCut old new d uses r b s rs bytes t
  store_cut new t grows = let g = grows d uses b s rs can_grow missing.0 in inr (g.1, inl (growth_since old mid new d uses r.slot r.width rs t tracks protected counted g.0))

  module _ (more : Seen) (grows : GrowsToPlace mid more r (Ok true)) (tracks2 : more.tracks ≡ mid.tracks) (protected2 : more.protected ≡ mid.protected) (counted2 : mid.failures ≤ more.failures) where
    grown : HoldsNow mid.tracks more.content (disk_grown d r b s rs) uses × CanGrow d r b s rs
    grown = grows d uses b s rs can_grow missing.0

    can_more : CanPut more.tracks more.content (disk_grown d r b s rs) uses r (blocks_grown r b) (sides_grown r b s) (records_grown r b rs)
    can_more = can_then mid more d uses r b s rs can_grow tracks2 grown.0

    -- the record that was made is written
    pub store_more : {A : Type 0} (cut : A → Bool) (new : Seen) (x : A) → Writes cut more new r bytes (Ok (Some x)) → IsTextStored old.tracks old.content new.content d uses r b s rs bytes (Some (cut x))
    store_more cut new x writes =
        let p = writes (disk_grown d r b s rs) uses (blocks_grown r b) (sides_grown r b s) (records_grown r b rs) can_more in
        inr (grown.1, (p.0, p.1, subst (λ (t : ℕ). HoldsNow t new.content (with_record (disk_grown d r b s rs) r.slot r.width (records_grown r b rs) (blocks_grown r b) (sides_grown r b s) r.number (new_record r.width (records_grown r b rs) r.number r.position bytes)) uses) (tracks2 ∙ tracks) p.2))

    pub store_more_cut : {A : Type 0} (cut : A → Bool) (new : Seen) (t : Trouble) → Writes cut more new r bytes (Err t) → IsTextCut old new d uses r b s rs bytes t
    store_more_cut cut new t writes = inr (
      grown.1,
      inr (cut_since old more new (disk_grown d r b s rs) uses r.slot r.width (blocks_grown r b) (sides_grown r b s) r.number r.position (records_grown r b rs) bytes t (tracks2 ∙ tracks) (protected2 ∙ protected) (omega (arith, counted, counted2))
          (writes (disk_grown d r b s rs) uses (blocks_grown r b) (sides_grown r b s) (records_grown r b rs) can_more)),
    )

    -- and the record after it is read
    pub store_next : {A : Type 0} (Q : A → Option (List ℕ) → Type 0) (new : Seen) (x : A) → ReadsOn Q more new r (Ok (Some x)) → OfRecords new r.slot (λ found. Q x (slice_get found r.number))
    store_next Q new x reads = reads (disk_grown d r b s rs) uses (blocks_grown r b) (sides_grown r b s) (records_grown r b rs) can_more

    -- it is there
    pub store_there : {A : Type 0} (cut : A → Bool) (new : Seen) → Writes cut more new r bytes (Ok None) → ⊥
    store_there cut new writes =
        let p = writes (disk_grown d r b s rs) uses (blocks_grown r b) (sides_grown r b s) (records_grown r b rs) can_more in
        let z = sym (grown_there r.width b s r.number rs (omega (arith, can.first, can.inside)) can.number) ∙ ap is_some p.0 in absurd (cc)

    -- the rest of the disk stays
    pub written_rest : (new : Seen) → KeepsRest old more (λ n. r.slot == n) → OfPlaced more r (λ d' uses' b' s' rs'. KeepsRest more new (λ n. r.slot == n)) → KeepsRest old new (λ n. r.slot == n)
    written_rest new first last = rest_then (λ n. r.slot == n) (λ n. r.slot == n) old more new (disk_grown d r b s rs) uses can_more.has.holds (λ n e. (e, e)) first (last (disk_grown d r b s rs) uses (blocks_grown r b) (sides_grown r b s) (records_grown r b rs) can_more)

  pub grown_rest : (more : Seen) → KeepsRest old mid (λ n. r.slot == n) → OfPlaced mid r (λ d' uses' b' s' rs'. KeepsRest mid more (λ n. r.slot == n)) → KeepsRest old more (λ n. r.slot == n)
  grown_rest more first last = rest_then (λ n. r.slot == n) (λ n. r.slot == n) old mid more d uses can_grow.has.holds (λ n e. (e, e)) first (last d uses b s rs can_grow)
