-- A text for records, beside the machine's write of a record.
use Rattle.std.proofs.Common.{◌≡◌, ◌≢◌, ℕ, zero, suc, ◌+◌, ◌-◌, ◌<◌, ◌≤◌, Bool, true, false, List, [], ◌∷◌, ◌++◌, length, take, drop, refl, sym, ap, ◌∙◌, subst, arith, inl, inr, ◌⊎◌, Option, Some, None, Result, Ok, Err}
use Rattle.std.specs.Prelude.{◌==◌, ◌||◌, nat_lt, replicate, if◌then◌else◌, slice_index_or, slice_set, is_some}
use Rattle.std.proofs.lemmas.Bool.{cases_lt, eq-eqb}
use Rattle.std.proofs.lemmas.Bool.Decides.{nat_tests}
use Rattle.cbm_file.specs.Files.{Body, Bytes, Records, File, Disk, file_at, with_slot, record_length_in}
use Rattle.cbm_file.specs.Records.{zeros, fresh_record, record_count, blocks_for, sides_for, with_sized_body, record_at}
use Rattle.cbm_medium.specs.Seen.{Seen, HasFailed}
use Rattle.cbm_volume.specs.Holding.{HoldsDisk}
use Rattle.cbm_command.specs.Refusals.{◌>>=◌, unless}
use Rattle.cbm_medium.specs.Content.{Content}
use Rattle.cbm_volume.specs.RecordWrites.{new_record, with_record}
use Rattle.cbm_volume.specs.Writers.{Use, Relates, HoldsNow, known}
use Rattle.cbm_machine.specs.declared.code.Code.TheVariants.{RecordOverflow, FileTooLarge, WriteProtected}
use Rattle.cbm_machine.specs.declared.code.Code.{Code}
use Rattle.cbm_volume.specs.Growth.{more_blocks, filled_up, with_growth, IsTooLarge}
use Rattle.cbm_volume.specs.Opens.{IsHindered}
use Rattle.cbm_machine.specs.Machines.{Machine, Relative, Channel, say, with_status, answered, channel, with_channel, with_disk}
use Rattle.cbm_machine.specs.Finding.{body_at}
use Rattle.cbm_machine.specs.Orderly.{IsPlace, channel_in, still_uses, still_writes}
use Rattle.cbm_machine.specs.Records.{with_written_record, grown_to, write_record}
use Rattle.cbm_machine.specs.Told.{ToldStatus}
use Rattle.cbm_machine.specs.Statuses.{plain, trouble_status}
use Rattle.cbm_machine.specs.declared.status.Status.{Status}
use Rattle.cbm_medium.specs.declared.fault.Trouble.{Trouble}
use Rattle.cbm_channel.specs.Going.{HasBegun, HasBegunToGrow, IsRecordStopped}
use Rattle.cbm_channel.specs.declared.channel.Channel as kept
use Rattle.cbm_channel.specs.declared.channel.Channel.TheVariants as code
use Rattle.cbm_channel.specs.Placed.{Placed, IsOnRecord, IsPlacedAt}
use Rattle.cbm_channel.specs.Recorded.{CanPut, disk_grown, blocks_grown, sides_grown, records_grown, IsReadAnew, IsTextStored, IsTextCut, IsTextStopped}
use Rattle.cbm_channel.specs.Shown.{records_on, has_records}
use Rattle.cbm_channel.proofs.Asked.{record_of_none, relative_of}
use Rattle.cbm_channel.proofs.Commanding.{protected_status}
use Rattle.cbm_channel.proofs.RecordPuts.{IsSameBut, but_itself, but_record, but_growth, but_cut, but_then, grown_file, growth_there}
use Rattle.cbm_channel.specs.Standing.{AreFit, ChannelStands, StandsBy, WaitsFor, use_of, uses_of}
use Rattle.cbm_channel.proofs.Kept.{take_all}
use Rattle.cbm_channel.proofs.OnRecords.{body_there}
use Rattle.cbm_channel.proofs.Orders.{FitsIn, less_fits, not_so, place_as}
use Rattle.cbm_channel.proofs.Stands.{any_default, stands_at, with_step, zip_at, zip_length}
use Rattle.cbm_channel.proofs.Stores.{same_machine, set_same}
use Rattle.cbm_volume.proofs.held.RecordUses.{records_most}
use Rattle.cbm_channel.proofs.Uses.{with_same}
use Rattle.cbm_channel.specs.ChannelCalls.{KeepsRest, OfPlaced}
use Rattle.cbm_channel.specs.PlaceCalls.{PutsText}
use Rattle.cbm_channel.proofs.Rest.{rest_itself}

-- ---- the first 256 bytes of a text

take_take : (n m : ℕ) (xs : List ℕ) → n ≤ m → take n (take m xs) ≡ take n xs
take_take zero m xs h = refl
take_take (suc n) zero xs h = absurd (omega (arith, h))
take_take (suc n) (suc m) [] h = refl
take_take (suc n) (suc m) (x ∷ xs) h = ap (λ ys. x ∷ ys) (take_take n m xs (omega (arith, h)))

take_length : (n : ℕ) (xs : List ℕ) → n ≤ length xs → length (take n xs) ≡ n
take_length zero xs h = refl
take_length (suc n) [] h = absurd (omega (arith, h))
take_length (suc n) (x ∷ xs) h = ap suc (take_length n xs (omega (arith, h)))

-- a record has no more
pub record_kept : (w p k : ℕ) (rs : List (List ℕ)) (text : List ℕ) → w ≤ 254 → 1 ≤ p → new_record w rs k p (take 256 text) ≡ new_record w rs k p text
record_kept w p k rs text most first =
    ap (λ (ys : List ℕ). (take (p - 1) (slice_index_or rs (k - 1) []) ++ ys) ++ zeros (w - length (take (p - 1) (slice_index_or rs (k - 1) []) ++ ys))) (take_take (w + 1 - p) 256 text (omega (arith, most, first)))

-- and whether some didn't fit can be told
pub cut_kept : (n : ℕ) (text : List ℕ) → n < 256 → nat_lt n (length (take 256 text)) ≡ nat_lt n (length text)
cut_kept n text few = elim (cases_lt 256 (length text)) [
  | inl over ↦ (let a : nat_lt n (length text) ≡ true = grind (arith, nat_tests, over, few) in
      let size : length (take 256 text) ≡ 256 = take_length 256 text (omega (arith, over)) in
      let b : nat_lt n (length (take 256 text)) ≡ true = grind (arith, nat_tests, size, few) in b ∙ sym a)
  | inr short ↦ ap (λ (xs : List ℕ). nat_lt n (length xs)) (take_all 256 text (omega (arith, short)))
]

-- ---- the machine's write

-- bytes that didn't fit are told
abbrev pub told_cut : Bool → Machine → Machine
told_cut cut m = if cut then say RecordOverflow m else m

-- the machine after the write
abbrev pub machine_after_write : Disk → ℕ → ℕ → ℕ → ℕ → ℕ → ℕ → ℕ → List (List ℕ) → List ℕ → Machine → Machine
machine_after_write d ch s k p l b sides rs bytes m = with_channel ch (Relative s (k + 1) 1) (with_disk (with_record d s l rs b sides k (new_record l rs k p bytes)) m)

written_is : (ch s k p l b sides : ℕ) (rs : List (List ℕ)) (bytes : List ℕ) (m : Machine) → body_at m.disk s ≡ Records l rs b sides → with_written_record ch s k p bytes m ≡ told_cut (nat_lt (l + 1 - p) (length bytes)) (machine_after_write m.disk ch s k p l b sides rs bytes m)
written_is ch s k p l b sides rs bytes m body = ap (λ (x : Body). elim x [
  | Bytes _ ↦ m
  | Records l rs b sides ↦
      (let next = with_channel ch (Relative s (k + 1) 1) (with_disk (with_record m.disk s l rs b sides k (new_record l rs k p bytes)) m) in
      if nat_lt (l + 1 - p) (length bytes) then say RecordOverflow next else next)
]) body

module _ (ch s k p l b sides : ℕ) (rs : List (List ℕ)) (bytes : List ℕ) (m : Machine) (body : body_at m.disk s ≡ Records l rs b sides) where
  by_there : (t : Bool) → is_some (record_at (Records l rs b sides) k) ≡ t
      → write_record ch (Relative s k p) bytes m ≡ answered m ((if t then unless ((m.protected, WriteProtected) ∷ []) (Ok m) else grown_to s k m) >>= λ n. Ok (with_written_record ch s k p bytes n))
  by_there t e = ap (λ (t : Bool). answered m ((if t then unless ((m.protected, WriteProtected) ∷ []) (Ok m) else grown_to s k m) >>= λ n. Ok (with_written_record ch s k p bytes n))) (ap (λ (x : Body). is_some (record_at x k)) body ∙ e)

  -- THE RECORD IS THERE
  pub record_written : is_some (record_at (Records l rs b sides) k) ≡ true → m.protected ≡ false → write_record ch (Relative s k p) bytes m ≡ told_cut (nat_lt (l + 1 - p) (length bytes)) (machine_after_write m.disk ch s k p l b sides rs bytes m)
  record_written e free = by_there true e ∙ ap (λ (t : Bool). answered m (unless ((t, WriteProtected) ∷ []) (Ok m) >>= λ n. Ok (with_written_record ch s k p bytes n))) free ∙ written_is ch s k p l b sides rs bytes m body

  -- on a protected disk
  pub record_guarded : is_some (record_at (Records l rs b sides) k) ≡ true → m.protected ≡ true → write_record ch (Relative s k p) bytes m ≡ say WriteProtected m
  record_guarded e closed = by_there true e ∙ ap (λ (t : Bool). answered m (unless ((t, WriteProtected) ∷ []) (Ok m) >>= λ n. Ok (with_written_record ch s k p bytes n))) closed

  -- IT ISN'T: the file grows
  abbrev too_large : Bool
  too_large = nat_lt m.disk.free (more_blocks l b sides k) || nat_lt 720 (blocks_for l b k) || nat_lt 65535 k

  grows_to : grown_to s k m ≡ unless ((too_large, FileTooLarge) ∷ (m.protected, WriteProtected) ∷ []) (Ok (with_disk (with_growth m.disk s l b sides rs k) m))
  grows_to = ap (λ (x : Body). elim x [
    | Bytes _ ↦ Ok m
    | Records l rs b sides ↦
        (let blocks = blocks_for l b k in
        let sectors = sides_for sides blocks in
        let more = (blocks - b) + (sectors - sides) in
        unless ((nat_lt m.disk.free more || nat_lt 720 blocks || nat_lt 65535 k, FileTooLarge) ∷ (m.protected, WriteProtected) ∷ [])
        (Ok (with_disk (record (with_sized_body m.disk s (blocks + sectors)
        (Records l (rs ++ replicate (record_count l blocks - length rs) (fresh_record l)) blocks sectors)) { free = m.disk.free - more }) m)))
  ]) body

  step_grown : record_at (Records l rs b sides) k ≡ None → (large closed : Bool) → too_large ≡ large → m.protected ≡ closed
      → write_record ch (Relative s k p) bytes m ≡ answered m (unless ((large, FileTooLarge) ∷ (closed, WriteProtected) ∷ []) (Ok (with_disk (with_growth m.disk s l b sides rs k) m)) >>= λ n. Ok (with_written_record ch s k p bytes n))
  step_grown none large closed e f = by_there false (ap is_some none) ∙ ap (λ (r : Result Machine Code). answered m (r >>= λ n. Ok (with_written_record ch s k p bytes n))) (grows_to ∙ (λ i. unless ((e i, FileTooLarge) ∷ (f i, WriteProtected) ∷ []) (Ok (with_disk (with_growth m.disk s l b sides rs k) m))))

  -- it can't
  pub record_large : record_at (Records l rs b sides) k ≡ None → too_large ≡ true → write_record ch (Relative s k p) bytes m ≡ say FileTooLarge m
  record_large none large = step_grown none true m.protected large refl

  module _ (none : record_at (Records l rs b sides) k ≡ None) (room : IsTooLarge m.disk l b sides k → ⊥) where
    fits : too_large ≡ false
    fits = not_so too_large room

    pub growth_guarded : m.protected ≡ true → write_record ch (Relative s k p) bytes m ≡ say WriteProtected m
    growth_guarded closed = step_grown none false true fits closed

    pub record_grown : m.protected ≡ false → body_at (with_growth m.disk s l b sides rs k) s ≡ Records l (filled_up l (blocks_for l b k) rs) (blocks_for l b k) (sides_for sides (blocks_for l b k))
        → write_record ch (Relative s k p) bytes m
        ≡ told_cut (nat_lt (l + 1 - p) (length bytes)) (machine_after_write (with_growth m.disk s l b sides rs k) ch s k p l (blocks_for l b k) (sides_for sides (blocks_for l b k)) (filled_up l (blocks_for l b k) rs) bytes m)
    record_grown free made = step_grown none false false fits free
        ∙ written_is ch s k p l (blocks_for l b k) (sides_for sides (blocks_for l b k)) (filled_up l (blocks_for l b k) rs) bytes (with_disk (with_growth m.disk s l b sides rs k) m) made

-- ---- the drive's channel

abbrev file_in : File → Option File → File
file_in f None = f
file_in f (Some g) = g

module _ (t : ℕ) (c c' : Content) (protected : Bool) (chs : List kept.Channel) (told : ToldStatus) (text : Option (ℕ × List ℕ)) (m : Machine) (ch : ℕ) (r : Placed) (lt : ch < 15) (fit : AreFit t chs) (st : StandsBy c t protected chs told text m) (at : slice_index_or chs ch code.Closed ≡ code.Records r) (on : IsOnRecord m.disk r) where
  -- the machine's channel is at the same place
  pub place_of : channel m ch ≡ Relative r.slot r.number r.position
  place_of = subst (λ (x : kept.Channel). ChannelStands x (channel m ch)) at (zip_at chs m.channels ch st.each)

  uses_it : uses_of chs m.channels ch ≡ Relates r.slot
  uses_it = ap (λ (x : kept.Channel). use_of x (channel m ch)) at

  was : IsPlace m.disk r.slot r.number r.position
  was = st.orderly.relative ch r.slot r.number r.position place_of

  same_width : was.record_length ≡ r.width
  same_width =
      let file : was.file ≡ on.file = ap (file_in on.file) (sym was.in_slot ∙ on.in_slot) in
      ap record_length_in (sym was.body ∙ ap (λ (f : File). f.body) file ∙ on.body)

  -- THE CHANNEL CAN PUT
  pub can_put : CanPut t c m.disk (uses_of chs m.channels) r on.blocks on.sides on.records
  can_put = record {
    has = record { holds = st.holds; channel = ch; relates = uses_it; file = on.file; in_slot = on.in_slot; body = on.body };
    closed = on.closed;
    number = was.number;
    first = was.inside.0;
    inside = omega (arith, was.inside.1, same_width);
  }

  pub most_width : r.width ≤ 254
  most_width = records_most t c m.disk r.slot on.file r.width on.blocks on.sides on.records (record { layout = st.holds.layout; stands = st.holds.so.stands }) on.in_slot on.body

  pub body_is : body_at m.disk r.slot ≡ Records r.width on.records on.blocks on.sides
  body_is = body_there m.disk r.slot on.file on.in_slot ∙ on.body

  -- no other channel has the slot open
  apart : (k slot : ℕ) → k ≢ ch → still_uses slot (channel_in m.channels k) ≡ true → slot ≢ r.slot
  apart k slot ne u e =
      let mine : still_writes slot (channel_in m.channels ch) ≡ true = ap (still_writes slot) place_of ∙ eq-eqb r.slot slot (sym e) in
      ne (sym (st.orderly.alone ch k slot mine u))

  -- the same file on another disk: its place fits in
  records_fit : (d' : Disk) (q : Placed) → IsOnRecord d' q → q.slot ≡ r.slot → 1 ≤ q.number → 1 ≤ q.position → q.position ≤ q.width → ((n : ℕ) → n ≢ r.slot → file_at d' n ≡ file_at m.disk n)
      → FitsIn m.disk d' m.protected m.channels ch (Relative q.slot q.number q.position)
  records_fit d' q now same number first inside others =
      let place : IsPlace d' q.slot q.number q.position = record {
        file = now.file;
        in_slot = now.in_slot;
        closed = now.closed;
        record_length = q.width;
        records = now.records;
        blocks = now.blocks;
        sides = now.sides;
        body = now.body;
        number = number;
        inside = (first, inside);
      } in
      less_fits m.disk d' m.protected m.channels ch (Relative q.slot q.number q.position) st.orderly
      (record {
        has = λ slot h. ap (still_uses slot) place_of ∙ ap (λ (n : ℕ). n == slot) (sym same) ∙ h;
        wrote = λ slot h. ap (still_writes slot) place_of ∙ ap (λ (n : ℕ). n == slot) (sym same) ∙ h;
      }) (λ slot left h. absurd (cc))
      (λ k slot ne u. ap known (others slot (apart k slot ne u)))
      (place_as d' q.slot q.number q.position place)
      (λ slot bytes blocks full replaces h. absurd (cc))

  -- THE DRIVE STANDS FOR THE MACHINE with this disk and this place
  pub records_stand : (d' : Disk) (q : Placed) → IsOnRecord d' q → q.slot ≡ r.slot → 1 ≤ q.number → 1 ≤ q.position → q.position ≤ q.width → ((n : ℕ) → n ≢ r.slot → file_at d' n ≡ file_at m.disk n) → HoldsNow t c' d' (uses_of chs m.channels)
      → StandsBy c' t protected (slice_set chs ch (code.Records q)) told text (with_channel ch (Relative q.slot q.number q.position) (with_disk d' m))
  records_stand d' q now same number first inside others holds =
      let used : uses_of chs m.channels ch ≡ Relates q.slot = uses_it ∙ ap Relates (sym same) in
      with_step c t protected chs told text m c' d' ch (code.Records q) (Relative q.slot q.number q.position) lt fit refl now
      (subst (HoldsNow t c' d') (sym (with_same (uses_of chs m.channels) ch (Relates q.slot) used)) holds) (records_fit d' q now same number first inside others) st

  -- the same place, of channels that are as they were
  pub same_place : (d' : Disk) (q : Placed) → IsPlacedAt r q r.number r.position → with_channel ch (Relative q.slot q.number q.position) (with_disk d' m) ≡ with_disk d' m
  same_place d' q s =
      let more : ch < length m.channels = omega (arith, lt, fit.count, zip_length chs m.channels st.each) in
      let is : channel m ch ≡ Relative q.slot q.number q.position = place_of ∙ (λ i. Relative (sym s.same_slot i) (sym s.at_number i) (sym s.at_position i)) in
      sym (same_machine ch (with_disk d' m) (Relative q.slot q.number q.position) more is)

  -- the medium holds a disk where only this file is another: the drive stands for the machine with it
  pub anew_stands : (new : Seen) (d' : Disk) (q : Placed) → new.tracks ≡ t → new.content ≡ c' → q.slot ≡ r.slot → q.width ≡ r.width → 1 ≤ q.number → 1 ≤ q.position → q.position ≤ r.width → IsReadAnew new q → IsSameBut m.disk d' r.slot r.width → HoldsNow t c' d' (uses_of chs m.channels)
      → StandsBy c' t protected (slice_set chs ch (code.Records q)) told text (with_channel ch (Relative q.slot q.number q.position) (with_disk d' m))
  anew_stands new d' q tracks content slot width number first inside anew but holds =
      let now : IsOnRecord d' q = anew d' but.file but.blocks but.sides but.records
      (subst (λ (k : ℕ). HoldsDisk k new.content d') (sym tracks) (subst (λ (x : Content). HoldsDisk t x d') (sym content) (record { layout = holds.layout; stands = holds.so.stands }))) (ap (file_at d') slot ∙ but.in_slot) but.closed
      (but.body ∙ ap (λ (w : ℕ). Records w but.records but.blocks but.sides) (sym width)) in
      records_stand d' q now slot number first (omega (arith, inside, width)) but.others holds

  -- at the next record
  pub next_stands : (new : Seen) (d' : Disk) (q : Placed) → new.tracks ≡ t → new.content ≡ c' → IsPlacedAt r q (r.number + 1) 1 → IsReadAnew new q → IsSameBut m.disk d' r.slot r.width → HoldsNow t c' d' (uses_of chs m.channels)
      → StandsBy c' t protected (slice_set chs ch (code.Records q)) told text (with_channel ch (Relative r.slot (r.number + 1) 1) (with_disk d' m))
  next_stands new d' q tracks content at anew but holds =
      subst (λ (y : Channel). StandsBy c' t protected (slice_set chs ch (code.Records q)) told text (with_channel ch y (with_disk d' m))) (λ i. Relative (at.same_slot i) (at.at_number i) (at.at_position i))
      (anew_stands new d' q tracks content at.same_slot at.same_width (omega (arith, at.at_number)) (omega (arith, at.at_position)) (omega (arith, at.at_position, can_put.first, can_put.inside)) anew but holds)

  -- at the same place
  pub still_stands : (new : Seen) (d' : Disk) (q : Placed) → new.tracks ≡ t → new.content ≡ c' → IsPlacedAt r q r.number r.position → IsReadAnew new q → IsSameBut m.disk d' r.slot r.width → HoldsNow t c' d' (uses_of chs m.channels)
      → StandsBy c' t protected (slice_set chs ch (code.Records q)) told text (with_disk d' m)
  still_stands new d' q tracks content at anew but holds =
      subst (λ (y : Machine). StandsBy c' t protected (slice_set chs ch (code.Records q)) told text y) (same_place d' q at)
      (anew_stands new d' q tracks content at.same_slot at.same_width (omega (arith, at.at_number, can_put.number)) (omega (arith, at.at_position, can_put.first)) (omega (arith, at.at_position, can_put.inside)) anew but holds)

  -- a record has other bytes, on this disk or on the grown one
  pub but_bytes : (bytes : List ℕ) → IsSameBut m.disk (with_record m.disk r.slot r.width on.records on.blocks on.sides r.number bytes) r.slot r.width
  but_bytes bytes = but_record m.disk r.slot r.width on.blocks on.sides r.number on.records bytes on.file on.in_slot on.closed

  pub but_more : IsSameBut m.disk (disk_grown m.disk r on.blocks on.sides on.records) r.slot r.width
  but_more = but_growth m.disk r.slot r.width on.blocks on.sides r.number on.records on.file on.in_slot on.closed

  pub but_more_bytes : (bytes : List ℕ) → IsSameBut m.disk (with_record (disk_grown m.disk r on.blocks on.sides on.records) r.slot r.width (records_grown r on.blocks on.records) (blocks_grown r on.blocks) (sides_grown r on.blocks on.sides) r.number bytes) r.slot r.width
  but_more_bytes bytes =
      let d1 : Disk = disk_grown m.disk r on.blocks on.sides on.records in
      but_then m.disk d1 (with_record d1 r.slot r.width (records_grown r on.blocks on.records) (blocks_grown r on.blocks) (sides_grown r on.blocks on.sides) r.number bytes) r.slot r.width but_more
      (but_record d1 r.slot r.width (blocks_grown r on.blocks) (sides_grown r on.blocks on.sides) r.number (records_grown r on.blocks on.records) bytes (grown_file on.file r.width on.blocks on.sides r.number on.records)
      (growth_there m.disk r.slot r.width on.blocks on.sides r.number on.records on.file on.in_slot) on.closed)

  body_grown : body_at (disk_grown m.disk r on.blocks on.sides on.records) r.slot ≡ Records r.width (records_grown r on.blocks on.records) (blocks_grown r on.blocks) (sides_grown r on.blocks on.sides)
  body_grown = body_there (disk_grown m.disk r on.blocks on.sides on.records) r.slot (grown_file on.file r.width on.blocks on.sides r.number on.records) (growth_there m.disk r.slot r.width on.blocks on.sides r.number on.records on.file on.in_slot)

  -- THE TEXT WAS STORED, and the machine does the same with all of it
  pub stored_ends : (new : Seen) (q : Placed) (bytes whole : List ℕ) (cut : Bool) → bytes ≡ take 256 whole → protected ≡ false → new.tracks ≡ t → new.content ≡ c' → IsPlacedAt r q (r.number + 1) 1 → IsReadAnew new q
      → IsTextStored t c c' m.disk (uses_of chs m.channels) r on.blocks on.sides on.records bytes (Some cut)
      → (now : Machine) × (told_cut cut now ≡ write_record ch (channel m ch) whole m) × StandsBy c' t protected (slice_set chs ch (code.Records q)) told text now
  stored_ends new q bytes whole cut e free tracks content at anew stored = by_way stored
    where
      same : (rs : List (List ℕ)) → new_record r.width rs r.number r.position bytes ≡ new_record r.width rs r.number r.position whole
      same rs = ap (λ (xs : List ℕ). new_record r.width rs r.number r.position xs) e ∙ record_kept r.width r.position r.number rs whole most_width can_put.first

      cuts : cut ≡ nat_lt (r.width + 1 - r.position) (length bytes) → nat_lt (r.width + 1 - r.position) (length whole) ≡ cut
      cuts is = sym (is ∙ ap (λ (xs : List ℕ). nat_lt (r.width + 1 - r.position) (length xs)) e ∙ cut_kept (r.width + 1 - r.position) whole (omega (arith, most_width)))

      by_way : IsTextStored t c c' m.disk (uses_of chs m.channels) r on.blocks on.sides on.records bytes (Some cut)
          → (now : Machine) × (told_cut cut now ≡ write_record ch (channel m ch) whole m) × StandsBy c' t protected (slice_set chs ch (code.Records q)) told text now
      by_way (inl x) =
          let d' : Disk = with_record m.disk r.slot r.width on.records on.blocks on.sides r.number (new_record r.width on.records r.number r.position bytes) in (
            with_channel ch (Relative r.slot (r.number + 1) 1) (with_disk d' m),
            sym (ap (λ (y : Channel). write_record ch y whole m) place_of
                ∙ record_written ch r.slot r.number r.position r.width on.blocks on.sides on.records whole m body_is x.0 (st.same_protection ∙ free)
                ∙ (λ i. told_cut (cuts x.1 i) (with_channel ch (Relative r.slot (r.number + 1) 1) (with_disk (with_record m.disk r.slot r.width on.records on.blocks on.sides r.number (sym (same on.records) i)) m)))),
            next_stands new d' q tracks content at anew (but_bytes (new_record r.width on.records r.number r.position bytes)) x.2,
          )
      by_way (inr x) =
          let d1 : Disk = disk_grown m.disk r on.blocks on.sides on.records in
          let rs1 : List (List ℕ) = records_grown r on.blocks on.records in
          let d' : Disk = with_record d1 r.slot r.width rs1 (blocks_grown r on.blocks) (sides_grown r on.blocks on.sides) r.number (new_record r.width rs1 r.number r.position bytes) in (
            with_channel ch (Relative r.slot (r.number + 1) 1) (with_disk d' m),
            sym (ap (λ (y : Channel). write_record ch y whole m) place_of
                ∙ record_grown ch r.slot r.number r.position r.width on.blocks on.sides on.records whole m body_is x.0.missing x.0.room (st.same_protection ∙ free) body_grown
                ∙ (λ i. told_cut (cuts x.1.1 i) (with_channel ch (Relative r.slot (r.number + 1) 1) (with_disk (with_record d1 r.slot r.width rs1 (blocks_grown r on.blocks) (sides_grown r on.blocks on.sides) r.number (sym (same rs1) i)) m)))),
            next_stands new d' q tracks content at anew (but_more_bytes (new_record r.width rs1 r.number r.position bytes)) x.1.2,
          )

  -- THE FILE WOULD BE TOO LARGE
  pub large_law : (whole : List ℕ) → record_at (Records r.width on.records on.blocks on.sides) r.number ≡ None → IsTooLarge m.disk r.width on.blocks on.sides r.number → write_record ch (channel m ch) whole m ≡ say FileTooLarge m
  large_law whole none large = ap (λ (y : Channel). write_record ch y whole m) place_of
      ∙ record_large ch r.slot r.number r.position r.width on.blocks on.sides on.records whole m body_is none large

  -- THE WRITE WAS REFUSED on a protected disk: nothing has changed
  pub guarded_law : (old new : Seen) (bytes whole : List ℕ) (tr : Trouble) → protected ≡ true → IsTextCut old new m.disk (uses_of chs m.channels) r on.blocks on.sides on.records bytes tr → write_record ch (channel m ch) whole m ≡ say WriteProtected m
  guarded_law old new bytes whole tr closed (inl x) = ap (λ (y : Channel). write_record ch y whole m) place_of
      ∙ record_guarded ch r.slot r.number r.position r.width on.blocks on.sides on.records whole m body_is x.there (st.same_protection ∙ closed)
  guarded_law old new bytes whole tr closed (inr x) = ap (λ (y : Channel). write_record ch y whole m) place_of
      ∙ growth_guarded ch r.slot r.number r.position r.width on.blocks on.sides on.records whole m body_is x.0.missing x.0.room (st.same_protection ∙ closed)

  -- OR STOPPED by a failure
  pub stopped_ends : (old new : Seen) (q : Placed) (bytes whole : List ℕ) (tr : Trouble) (s : Status) → bytes ≡ take 256 whole → s ≡ trouble_status tr → old.tracks ≡ t → new.tracks ≡ t → new.content ≡ c' → IsPlacedAt r q r.number r.position → IsReadAnew new q
      → IsTextCut old new m.disk (uses_of chs m.channels) r on.blocks on.sides on.records bytes tr
      → (d' : Disk) × IsRecordStopped ch whole m (with_status s (with_disk d' m)) × StandsBy c' t protected (slice_set chs ch (code.Records q)) told text (with_disk d' m)
  stopped_ends old new q bytes whole tr s e is same_tracks tracks content at anew cut = by_way cut
    where
      same : (rs : List (List ℕ)) → new_record r.width rs r.number r.position bytes ≡ new_record r.width rs r.number r.position whole
      same rs = ap (λ (xs : List ℕ). new_record r.width rs r.number r.position xs) e ∙ record_kept r.width r.position r.number rs whole most_width can_put.first

      held : (d' : Disk) → HoldsNow old.tracks new.content d' (uses_of chs m.channels) → HoldsNow t c' d' (uses_of chs m.channels)
      held d' h = subst (λ (x : Content). HoldsNow t x d' (uses_of chs m.channels)) content (subst (λ (k : ℕ). HoldsNow k new.content d' (uses_of chs m.channels)) same_tracks h)

      stopped : (d' : Disk)
          → HasBegun m.disk r.slot r.width on.blocks on.sides on.records r.number r.position whole d'
          ⊎ (HasBegunToGrow m.disk r.slot r.width on.records d'
          ⊎ HasBegun (disk_grown m.disk r on.blocks on.sides on.records) r.slot r.width (blocks_grown r on.blocks) (sides_grown r on.blocks on.sides) (records_grown r on.blocks on.records) r.number r.position whole d')
          → IsRecordStopped ch whole m (with_status s (with_disk d' m))
      stopped d' begun = record {
        slot = r.slot;
        record_number = r.number;
        position = r.position;
        place = place_of;
        width = r.width;
        records = on.records;
        blocks = on.blocks;
        sides = on.sides;
        body = body_is;
        disk = begun;
        same_channels = refl;
        same_tracks = refl;
        same_protection = refl;
        fault = (tr, is);
      }

      by_way : IsTextCut old new m.disk (uses_of chs m.channels) r on.blocks on.sides on.records bytes tr
          → (d' : Disk) × IsRecordStopped ch whole m (with_status s (with_disk d' m)) × StandsBy c' t protected (slice_set chs ch (code.Records q)) told text (with_disk d' m)
      by_way (inl x) =
          let half : List ℕ = take x.so_far (new_record r.width on.records r.number r.position bytes) ++ drop x.so_far (slice_index_or on.records (r.number - 1) []) in
          let d' : Disk = with_record m.disk r.slot r.width on.records on.blocks on.sides r.number half in (
            d',
            stopped d' (inl (x.so_far, ap (λ (ys : List ℕ). with_record m.disk r.slot r.width on.records on.blocks on.sides r.number (take x.so_far ys ++ drop x.so_far (slice_index_or on.records (r.number - 1) []))) (same on.records))),
            still_stands new d' q tracks content at anew (but_bytes half) (held d' x.holds),
          )
      by_way (inr (can, inl x)) =
          let rs : List (List ℕ) = on.records ++ replicate x.so_far (fresh_record r.width) in
          let d' : Disk = record (with_slot m.disk r.slot (Some (record (x.file) { shown = x.shown; held = x.blocks + x.sides; body = Records r.width rs x.blocks x.sides }))) { free = x.free } in
          let file : on.file ≡ x.file = ap (file_in on.file) (sym on.in_slot ∙ x.in_slot) in (
            d',
            stopped d' (inr (inl (record { file = x.file; in_slot = x.in_slot; so_far = x.so_far; blocks = x.blocks; sides = x.sides; shown = x.shown; free = x.free; disk = refl }))),
            still_stands new d' q tracks content at anew (but_cut m.disk r.slot r.width x.blocks x.sides x.shown x.free rs x.file x.in_slot (sym (ap (λ (f : File). f.closed) file) ∙ on.closed)) (held d' x.holds),
          )
      by_way (inr (can, inr x)) =
          let d1 : Disk = disk_grown m.disk r on.blocks on.sides on.records in
          let rs1 : List (List ℕ) = records_grown r on.blocks on.records in
          let half : List ℕ = take x.so_far (new_record r.width rs1 r.number r.position bytes) ++ drop x.so_far (slice_index_or rs1 (r.number - 1) []) in
          let d' : Disk = with_record d1 r.slot r.width rs1 (blocks_grown r on.blocks) (sides_grown r on.blocks on.sides) r.number half in (
            d',
            stopped d' (inr (inr (x.so_far, ap (λ (ys : List ℕ). with_record d1 r.slot r.width rs1 (blocks_grown r on.blocks) (sides_grown r on.blocks on.sides) r.number (take x.so_far ys ++ drop x.so_far (slice_index_or rs1 (r.number - 1) []))) (same rs1)))),
            still_stands new d' q tracks content at anew (but_more_bytes half) (held d' x.holds),
          )

-- ---- the call

abbrev pub placed_in : Placed → kept.Channel → Placed
placed_in r (code.Records q) = q
placed_in r _ = r

-- a channel has records open, or not
pub records_or_not : (x : kept.Channel) → (has_records x ≡ false) ⊎ ((r : Placed) × (x ≡ code.Records r))
records_or_not code.Closed = inl refl
records_or_not (code.Listing l) = inl refl
records_or_not (code.File slot r) = inl refl
records_or_not (code.Writing w full) = inl refl
records_or_not (code.Stopped slot) = inl refl
records_or_not (code.Records r) = inr (r, refl)

-- the drive stands for a machine with a status that is told anew
pub record EndsAs (old new : Seen) (chs : List kept.Channel) (told : ToldStatus) (text : Option (ℕ × List ℕ)) (whole : List ℕ) (m : Machine) (ch : ℕ) (x' : kept.Channel) (s : Status) : Type 0 where
  pub now : Machine
  pub either : (with_status s now ≡ write_record ch (channel m ch) whole m) ⊎ (HasFailed old new × IsRecordStopped ch whole m (with_status s now))
  pub stands : StandsBy new.content old.tracks old.protected (slice_set chs ch x') told text now

-- why a text was refused
cause_of : (old new : Seen) (d : Disk) (uses : ℕ → Use) (r : Placed) (b s : ℕ) (rs : List (List ℕ)) (bytes : List ℕ) (tr : Trouble) → IsTextCut old new d uses r b s rs bytes tr → IsHindered old new tr
cause_of old new d uses r b s rs bytes tr (inl x) = x.cause
cause_of old new d uses r b s rs bytes tr (inr (can, inl x)) = x.cause
cause_of old new d uses r b s rs bytes tr (inr (can, inr x)) = x.cause

module _ (old new : Seen) (chs : List kept.Channel) (told : ToldStatus) (text : Option (ℕ × List ℕ)) (m : Machine) (ch : ℕ) (lt : ch < 15) (fit : AreFit old.tracks chs) (st : StandsBy old.content old.tracks old.protected chs told text m) (x x' dflt : kept.Channel) (is_x : x ≡ slice_index_or chs ch dflt) (bytes whole : List ℕ) (first : bytes ≡ take 256 whole) (tracks : new.tracks ≡ old.tracks) where
  here : (r : Placed) → x ≡ code.Records r → slice_index_or chs ch code.Closed ≡ code.Records r
  here r e = any_default chs ch code.Closed dflt (omega (arith, lt, fit.count)) ∙ sym is_x ∙ e

  on_it : (r : Placed) → x ≡ code.Records r → IsOnRecord m.disk r
  on_it r e = subst (WaitsFor m.disk) (here r e) (st.waits ch)

  -- THE TEXT WAS STORED
  pub put_done : (cut : Bool) (r : Placed) → x ≡ code.Records r → old.protected ≡ false → PutsText old new x x' bytes (Ok (Some cut))
      → (now : Machine) × (told_cut cut now ≡ write_record ch (channel m ch) whole m) × StandsBy new.content old.tracks old.protected (slice_set chs ch x') told text now
  put_done cut r e free puts =
      let at = here r e in
      let on : IsOnRecord m.disk r = on_it r e in
      let q = puts r e m.disk (uses_of chs m.channels) on.blocks on.sides on.records (can_put old.tracks old.content new.content old.protected chs told text m ch r lt fit st at on) in
      let next = stored_ends old.tracks old.content new.content old.protected chs told text m ch r lt fit st at on new q.0 bytes whole cut first free tracks refl q.2.1.0 q.2.1.1 q.2.0 in
      (next.0, next.1, subst (λ (y : kept.Channel). StandsBy new.content old.tracks old.protected (slice_set chs ch y) told text next.0) (sym q.1) next.2)

  -- the file would be too large
  pub put_large : (r : Placed) → x ≡ code.Records r → PutsText old new x x' bytes (Ok None)
      → (say FileTooLarge m ≡ write_record ch (channel m ch) whole m) × StandsBy new.content old.tracks old.protected (slice_set chs ch x') told text m
  put_large r e puts =
      let at = here r e in
      let on : IsOnRecord m.disk r = on_it r e in
      let q = puts r e m.disk (uses_of chs m.channels) on.blocks on.sides on.records (can_put old.tracks old.content new.content old.protected chs told text m ch r lt fit st at on) in
      let same : x' ≡ slice_index_or chs ch code.Closed = q.1 ∙ ap code.Records q.2.1 ∙ sym at in (
        sym (large_law old.tracks old.content new.content old.protected chs told text m ch r lt fit st at on whole q.2.0.0 q.2.0.1),
        subst (λ (c : Content). StandsBy c old.tracks old.protected (slice_set chs ch x') told text m) (sym q.2.0.2)
            (subst (λ (ys : List kept.Channel). StandsBy old.content old.tracks old.protected ys told text m) (sym (ap (slice_set chs ch) same ∙ set_same chs ch code.Closed (omega (arith, lt, fit.count)))) st),
      )

  -- the rest of the disk stays
  pub put_rest : ((r : Placed) → x ≡ code.Records r → OfPlaced old r (λ d uses b s rs. KeepsRest old new (λ n. r.slot == n))) → (has_records x ≡ false → new ≡ old) → KeepsRest old new (λ n. records_on n x)
  put_rest puts quiet = elim (records_or_not x) [
    | inl none ↦ rest_itself old new (quiet none)
    | inr k ↦ (let on : IsOnRecord m.disk k.0 = on_it k.0 k.1 in
        subst (λ (y : kept.Channel). KeepsRest old new (λ n. records_on n y)) (sym k.1) (puts k.0 k.1 m.disk (uses_of chs m.channels) on.blocks on.sides on.records (can_put old.tracks old.content new.content old.protected chs told text m ch k.0 lt fit st (here k.0 k.1) on)))
  ]

  -- THE WRITE WAS REFUSED
  pub put_stopped : (tr : Trouble) (s : Status) (r : Placed) → x ≡ code.Records r → s ≡ trouble_status tr → (old.protected ≡ true → new.content ≡ old.content) → PutsText old new x x' bytes (Err tr)
      → EndsAs old new chs told text whole m ch x' s
  put_stopped tr s r e is guarded puts = by_cause (cause_of old new m.disk (uses_of chs m.channels) r on.blocks on.sides on.records bytes tr q.2.0)
    where
      at : slice_index_or chs ch code.Closed ≡ code.Records r
      at = here r e

      on : IsOnRecord m.disk r
      on = on_it r e

      q : (p : Placed) × (x' ≡ code.Records p) × IsTextStopped old new m.disk (uses_of chs m.channels) r p on.blocks on.sides on.records bytes tr
      q = puts r e m.disk (uses_of chs m.channels) on.blocks on.sides on.records (can_put old.tracks old.content new.content old.protected chs told text m ch r lt fit st at on)

      by_cause : ((old.protected ≡ true) × (tr.code ≡ 26)) ⊎ HasFailed old new → EndsAs old new chs told text whole m ch x' s
      by_cause (inl p) =
          let said : s ≡ plain WriteProtected = protected_status tr s is p.1 in
          record {
            now = m;
            either = inl (ap (λ (y : Status). with_status y m) said ∙ sym (guarded_law old.tracks old.content new.content old.protected chs told text m ch r lt fit st at on old new bytes whole tr p.0 q.2.0));
            stands = subst (λ (y : kept.Channel). StandsBy new.content old.tracks old.protected (slice_set chs ch y) told text m) (sym q.1)
                (still_stands old.tracks old.content new.content old.protected chs told text m ch r lt fit st at on new m.disk q.0 tracks refl q.2.1.0 q.2.1.1
                (but_itself m.disk r.slot r.width on.blocks on.sides on.records on.file on.in_slot on.closed on.body) (subst (λ (c : Content). HoldsNow old.tracks c m.disk (uses_of chs m.channels)) (sym (guarded p.0)) st.holds));
          }
      by_cause (inr failed) =
          let next = stopped_ends old.tracks old.content new.content old.protected chs told text m ch r lt fit st at on old new q.0 bytes whole tr s first is refl tracks refl q.2.1.0 q.2.1.1 q.2.0 in
          record {
            now = with_disk next.0 m;
            either = inr (failed, next.1);
            stands = subst (λ (y : kept.Channel). StandsBy new.content old.tracks old.protected (slice_set chs ch y) told text (with_disk next.0 m)) (sym q.1) next.2;
          }

-- nothing becomes of a text on a channel without records
pub none_done : (old new : Seen) (chs : List kept.Channel) (told : ToldStatus) (text : Option (ℕ × List ℕ)) (m : Machine) (ch : ℕ) → ch < 15 → AreFit old.tracks chs → StandsBy old.content old.tracks old.protected chs told text m
    → (x x' dflt : kept.Channel) → x ≡ slice_index_or chs ch dflt → (whole : List ℕ) → has_records x ≡ false → x' ≡ x → new ≡ old
    → (m ≡ write_record ch (channel m ch) whole m) × StandsBy new.content old.tracks old.protected (slice_set chs ch x') told text m
none_done old new chs told text m ch lt fit st x x' dflt is whole none same quiet =
    let stands : ChannelStands x (channel m ch) = subst (λ (y : kept.Channel). ChannelStands y (channel m ch)) (sym is) (stands_at old.content old.tracks old.protected chs told text m ch dflt lt fit st) in (
      sym (record_of_none ch whole m (channel m ch) (relative_of x (channel m ch) stands ∙ none)),
      subst (λ (v : Seen). StandsBy v.content old.tracks old.protected (slice_set chs ch x') told text m) (sym quiet)
          (subst (λ (ys : List kept.Channel). StandsBy old.content old.tracks old.protected ys told text m) (sym (ap (slice_set chs ch) (same ∙ is) ∙ set_same chs ch dflt (omega (arith, lt, fit.count)))) st),
    )
