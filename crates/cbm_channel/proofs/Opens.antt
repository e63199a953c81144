-- What an OPEN leaves: the channel that it opened, and the disk.
use Rattle.std.proofs.Common.{◌≡◌, ◌≢◌, ℕ, zero, suc, ◌+◌, ◌<◌, Bool, true, false, List, [], ◌∷◌, ◌++◌, length, refl, sym, ap, ◌∙◌, subst, arith, inl, inr}
use Rattle.std.specs.Prelude.{◌==◌, ◌||◌, not, nat_lt, unwrap_or, Option, Some, None, is_none, replicate, Result, Ok, Err, OnErr, MatchOption, slice_index_or, slice_set}
use Rattle.std.specs.List.{AllZip}
use Rattle.std.proofs.lemmas.Bool.{eq-eqb, eqb-true, eqb-false}
use Rattle.std.proofs.lemmas.List.{get_or_past, get_or-set_same, get_or-set_other, length-append}
use Rattle.cbm_medium.specs.Seen.{Seen, HasFailed}
use Rattle.cbm_medium.specs.declared.fault.Trouble.{Trouble}
use Rattle.cbm_file.specs.declared.file_type.FileType.{FileType}
use Rattle.cbm_file.specs.declared.file_type.FileType.TheVariants.{Del, Rel}
use Rattle.cbm_file.specs.Types.{is_same_type}
use Rattle.cbm_file.specs.Files.{File, Disk, file_at, with_slot, bytes_in, empty_from}
use Rattle.cbm_file.specs.Changes.{grown, has_slot, new_slot, with_file, unclosed, closed_file, reopened}
use Rattle.cbm_file.specs.Records.{fresh_record, record_count, new_records, with_new_records}
use Rattle.cbm_volume.specs.Layouts.{Layout}
use Rattle.cbm_bam.specs.Map.{geometry_of}
use Rattle.cbm_volume.specs.NewRecords.{HasNoRoomForRecords}
use Rattle.cbm_medium.specs.Content.{Content}
use Rattle.cbm_volume.specs.Opens.{BeginsFile, CanBeWritten, IsUnused, HasNoPlace, IsHindered}
use Rattle.cbm_volume.specs.Writers.{Filling, Use, IsUsed, Writes, HoldsNow, with_use, known, IsEither}
use Rattle.cbm_volume.specs.Writers as usage
use Rattle.cbm_volume.proofs.layouts.Writers.{use_here, use_other}
use Rattle.cbm_volume.proofs.written.Closing.{other_slot}
use Rattle.cbm_machine.specs.Machines as machine
use Rattle.cbm_machine.specs.Machines.{Machine, Channel, Closed, Reading, Writing, Stopped, Relative, with_channel, with_disk, in_use, say, with_status}
use Rattle.cbm_machine.specs.Orderly.{IsPlace, channel_in, still_uses, still_writes}
use Rattle.cbm_machine.specs.Plans.{Plan, ReadListing, ReadFile, WriteFile, AppendFile, ReplaceFile, OpenRecords, MakeRecords, act, append_slot}
use Rattle.cbm_machine.specs.Told.{ToldStatus}
use Rattle.cbm_machine.specs.declared.code.Code.TheVariants.{Fine}
use Rattle.cbm_machine.specs.declared.status.Status.{Status}
use Rattle.cbm_machine.specs.Statuses.{trouble_status}
use Rattle.cbm_channel.specs.Going.{IsStopped}
use Rattle.cbm_channel.proofs.Stores.{set_same}
use Rattle.cbm_channel.specs.declared.channel.Channel as kept
use Rattle.cbm_channel.specs.declared.channel.Channel.TheVariants as code
use Rattle.cbm_channel.specs.declared.plan.Plan as plan
use Rattle.cbm_channel.specs.declared.plan.Plan.TheVariants as planned
use Rattle.cbm_channel.specs.Standing.{ChannelStands, use_of, uses_of, StandsBy}
use Rattle.cbm_channel.specs.Planned.{PlannedAs, IsOpened, IsMakeable, IsRelatable, opened_by, disk_opened, appended_to, reopened_at}
use Rattle.cbm_channel.proofs.Orders.{FitsIn, writes_uses, closed_fits, not_so, place_as, reads_file}
use Rattle.cbm_channel.proofs.Planning.{none_passes}
use Rattle.cbm_channel.proofs.Uses.{by_kind}
use Rattle.cbm_channel.proofs.Places.{relative_unused}
use Rattle.cbm_volume.proofs.held.RecordUses.{of_records, relates_now}
use Rattle.cbm_channel.specs.declared.finding.Found.{Found}
use Rattle.cbm_channel.specs.Placed.{Placed, IsOnRecord}
use Rattle.cbm_channel.proofs.Stands.{zip_at, zip_length, means_of, moved, with_step_at, let_go_now}

-- ---- what the channels still use

uses_alike : (n : ℕ) (x : kept.Channel) (y : Channel) → ChannelStands x y → still_uses n y ≡ usage.uses_slot n (use_of x y)
uses_alike n = by_kind (λ x y. still_uses n y ≡ usage.uses_slot n (use_of x y)) refl (λ l. refl) (λ slot r left. refl) (λ w full bytes blocks. refl) (λ slot. refl) (λ r. refl)

uses_still : (n : ℕ) (y : Channel) → machine.uses n y ≡ false → still_uses n y ≡ false
uses_still n Closed h = refl
uses_still n (Reading None left) h = refl
uses_still n (Reading (Some s) left) h = h
uses_still n (Writing s bytes blocks full replaces) h = h
uses_still n (Stopped s) h = refl
uses_still n (Relative s k p) h = h

writes_still : (n : ℕ) (y : Channel) → machine.writes n y ≡ false → still_writes n y ≡ false
writes_still n Closed h = refl
writes_still n (Reading s left) h = refl
writes_still n (Writing s bytes blocks full replaces) h = h
writes_still n (Stopped s) h = refl
writes_still n (Relative s k p) h = h

-- a slot that no channel has open
pub unused_at : (n : ℕ) (chs : List kept.Channel) (m : Machine) → AllZip ChannelStands chs m.channels → in_use m n ≡ false → IsUnused (uses_of chs m.channels) n
unused_at n chs m each none k =
    sym (uses_alike n (slice_index_or chs k code.Closed) (channel_in m.channels k) (zip_at chs m.channels k each))
    ∙ uses_still n (channel_in m.channels k) (none_passes (machine.uses n) refl m.channels k none)

pub can_be : (n : ℕ) (chs : List kept.Channel) (m : Machine) (f : File) → AllZip ChannelStands chs m.channels → file_at m.disk n ≡ Some f → f.closed ≡ true → is_same_type Rel f.kind ≡ false → in_use m n ≡ false
    → CanBeWritten m.disk (uses_of chs m.channels) n f
can_be n chs m f each at closed plain none = record { in_slot = at; closed = closed; plain = plain; unused = unused_at n chs m each none }

-- ---- the channel that writes, among the others

module _ (t : ℕ) (c : Content) (d d' : Disk) (protected : Bool) (chs : List kept.Channel) (ys : List Channel) (each : AllZip ChannelStands chs ys) (ch : ℕ) (w : Filling) (bytes : List ℕ) (blocks : ℕ)
    (h : HoldsNow t c d' (with_use (uses_of chs ys) ch (Writes w bytes blocks))) where
  -- its slot is open on it alone
  alone_here : (k slot : ℕ) → k ≢ ch → (w.slot == slot) ≡ true → still_uses slot (channel_in ys k) ≡ false
  alone_here k slot ne same = not_so (still_uses slot (channel_in ys k)) (λ u.
      let has : usage.uses_slot slot (with_use (uses_of chs ys) ch (Writes w bytes blocks) k) ≡ true =
      ap (usage.uses_slot slot) (use_other (uses_of chs ys) ch k (Writes w bytes blocks) ne) ∙ sym (uses_alike slot (slice_index_or chs k code.Closed) (channel_in ys k) (zip_at chs ys k each)) ∙ u in
      let wrote : usage.writes_slot slot (with_use (uses_of chs ys) ch (Writes w bytes blocks) ch) ≡ true = ap (usage.writes_slot slot) (use_here (uses_of chs ys) ch (Writes w bytes blocks)) ∙ same in
      ne (sym (h.so.alone ch k slot wrote has)))

  pub begun_fits : (slot : ℕ) (replaces : Bool) → w.slot ≡ slot → protected ≡ false → ((n : ℕ) → n ≢ slot → known (file_at d' n) ≡ known (file_at d n))
      → FitsIn d d' protected ys ch (Writing slot bytes blocks false replaces)
  begun_fits slot replaces same free stays = record {
    reads = λ n left e. absurd (cc);
    stays = λ k n ne u. stays n (λ e. let z = sym (alone_here k n ne (eq-eqb w.slot n (same ∙ sym e))) ∙ u in absurd (cc));
    alone = λ k n ne e. alone_here k n ne (ap (λ (s : ℕ). s == n) same ∙ e);
    unwritten = λ k n ne e. not_so (still_writes n (channel_in ys k)) (λ u. let z = sym (alone_here k n ne (ap (λ (s : ℕ). s == n) same ∙ e)) ∙ writes_uses (channel_in ys k) n u in absurd (cc));
    place = λ n k p e. absurd (cc);
    writable = λ n xs b f r e. free;
  }

-- ---- the slots that stay

none_at : {A : Type 0} (k n : ℕ) → slice_index_or (replicate {A = Option A} k None) n None ≡ None
none_at zero n = refl
none_at (suc k) zero = refl
none_at (suc k) (suc n) = none_at k n

more_at : {A : Type 0} (xs : List (Option A)) (k n : ℕ) → slice_index_or (xs ++ replicate k None) n None ≡ slice_index_or xs n None
more_at [] k n = none_at k n
more_at (x ∷ xs) k zero = refl
more_at (x ∷ xs) k (suc n) = more_at xs k n

grown_at : (d : Disk) (n : ℕ) → file_at (grown d) n ≡ file_at d n
grown_at d n = by_none (is_none (empty_from 0 d.slots)) refl
  where
    by_none : (b : Bool) → is_none (empty_from 0 d.slots) ≡ b → file_at (grown d) n ≡ file_at d n
    by_none true e = rw e (more_at d.slots 8 n)
    by_none false e = rw e refl

pub new_else : (d : Disk) (f : File) (k n : ℕ) → n ≢ new_slot d → file_at (with_file d f k) n ≡ file_at d n
new_else d f k n ne = get_or-set_other (grown d).slots (new_slot d) n (Some f) None ne ∙ grown_at d n

-- the first empty slot is empty
empty_at : (k n : ℕ) (xs : List (Option File)) → empty_from k xs ≡ Some n → (i : ℕ) × (n ≡ k + i) × (slice_index_or xs i None ≡ None)
empty_at k n [] h = absurd (cc)
empty_at k n (None ∷ xs) h = (0, (let e : k ≡ n = cc in omega (arith, e)), refl)
empty_at k n (Some f ∷ xs) h = let r = empty_at (k + 1) n xs h in (suc r.0, omega (arith, r.1), r.2)

-- where none is, it comes after them
comes_next : (k : ℕ) (xs ys : List (Option File)) → empty_from k xs ≡ None → empty_from k (xs ++ None ∷ ys) ≡ Some (k + length xs)
comes_next k [] ys h = ap Some (omega arith)
comes_next k (None ∷ xs) ys h = absurd (cc)
comes_next k (Some f ∷ xs) ys h = comes_next (k + 1) xs ys h ∙ ap Some (omega arith)

past_end : {A : Type 0} (xs : List (Option A)) → slice_index_or xs (length xs) None ≡ None
past_end [] = refl
past_end (x ∷ xs) = past_end xs

pub new_empty : (d : Disk) → file_at d (new_slot d) ≡ None
new_empty d = by_slot (empty_from 0 d.slots) refl
  where
    by_slot : (o : Option ℕ) → empty_from 0 d.slots ≡ o → file_at d (new_slot d) ≡ None
    by_slot (Some n) e =
        let r = empty_at 0 n d.slots e in
        let at : new_slot d ≡ r.0 = rw (e, e) (omega (arith, r.1)) in
        ap (file_at d) at ∙ r.2
    by_slot None e =
        let at : new_slot d ≡ length d.slots = rw (e, comes_next 0 d.slots (replicate 7 None) e) (omega arith) in
        ap (file_at d) at ∙ past_end d.slots

-- and it is one of the disk's
empty_below : (k n : ℕ) (xs : List (Option File)) → empty_from k xs ≡ Some n → n < k + length xs
empty_below k n [] h = absurd (cc)
empty_below k n (None ∷ xs) h = (let e : k ≡ n = cc in omega (arith, e))
empty_below k n (Some f ∷ xs) h = let r = empty_below (k + 1) n xs h in omega (arith, r)

pub new_below : (d : Disk) → has_slot d ≡ true → new_slot d < length (grown d).slots
new_below d has = by_slot (empty_from 0 d.slots) refl
  where
    by_slot : (o : Option ℕ) → empty_from 0 d.slots ≡ o → new_slot d < length (grown d).slots
    by_slot (Some n) e = rw (e, e) (omega (arith, empty_below 0 n d.slots e))
    by_slot None e =
        let next : empty_from 0 (d.slots ++ replicate 8 None) ≡ Some (0 + length d.slots) = comes_next 0 d.slots (replicate 7 None) e in
        rw (e, next) (omega (arith, length-append d.slots (replicate {A = Option File} 8 None)))

-- a new file is there
pub new_there : (d : Disk) (f : File) (n : ℕ) → new_slot d < length (grown d).slots → file_at (with_file d f n) (new_slot d) ≡ Some f
new_there d f n below = get_or-set_same (grown d).slots (new_slot d) (Some f) None below

abbrev pub made_file : List ℕ → ℕ → File
made_file name len = closed_file Rel name 2 (new_records len)

second : (a b : Bool) → (a || not b) ≡ false → b ≡ true
second true b h = absurd (cc)
second false true h = refl
second false false h = absurd (cc)

pub has_place_of : (d : Disk) → (nat_lt d.free 2 || not (has_slot d)) ≡ false → has_slot d ≡ true
has_place_of d h = second (nat_lt d.free 2) (has_slot d) h

-- a slot that a channel still uses has a file
used_file : (tracks : ℕ) (c : Content) (l : Layout) (d : Disk) (n : ℕ) (u : Use) (slot : ℕ) → IsUsed tracks c l d n u → usage.uses_slot slot u ≡ true → (f : File) × (file_at d slot ≡ Some f)
used_file tracks c l d n usage.Idle slot h e = absurd (cc)
used_file tracks c l d n (usage.Reads s r left) slot h e = (h.file, ap (file_at d) (sym (eqb-true s slot e)) ∙ h.in_slot)
used_file tracks c l d n (usage.Relates s) slot h e = (h.file, ap (file_at d) (sym (eqb-true s slot e)) ∙ h.in_slot)
used_file tracks c l d n (usage.Writes w bytes blocks) slot h e = (h.file, ap (file_at d) (sym (eqb-true w.slot slot e)) ∙ h.in_slot)

-- and so isn't where a new one comes
pub used_else : (t : ℕ) (c : Content) (p : Bool) (chs : List kept.Channel) (told : ToldStatus) (text : Option (ℕ × List ℕ)) (m : Machine) → StandsBy c t p chs told text m → (k slot : ℕ) → still_uses slot (channel_in m.channels k) ≡ true → slot ≢ new_slot m.disk
used_else t c p chs told text m st k slot u e =
    let has = sym (uses_alike slot (slice_index_or chs k code.Closed) (channel_in m.channels k) (zip_at chs m.channels k st.each)) ∙ u in
    let file = used_file (geometry_of t c) c st.holds.layout m.disk k (uses_of chs m.channels k) slot (st.holds.so.each k) has in
    let z = sym file.1 ∙ ap (file_at m.disk) e ∙ new_empty m.disk in absurd (cc)

-- ---- what the machine does

appended_is : (o : Option File) (f : File) (s ch : ℕ) (m : Machine) → o ≡ Some f → append_slot o s ch m ≡ with_channel ch (appended_to o s) (with_disk (reopened_at o m.disk s) m)
appended_is None f s ch m e = absurd (cc)
appended_is (Some g) f s ch m e = refl

pub act_is : (t : ℕ) (c : Content) (ch : ℕ) (m : Machine) (p : Plan) (x : plan.Plan) → PlannedAs t c m (Ok p) (Ok x) → act ch p m ≡ with_channel ch (opened_by m.disk p) (with_disk (disk_opened m.disk p) m)
act_is t c ch m (ReadListing a) x h = refl
act_is t c ch m (ReadFile a) x h = refl
act_is t c ch m (WriteFile a b) x h = refl
act_is t c ch m (AppendFile a) (planned.ReadListing q) h = absurd h
act_is t c ch m (AppendFile a) (planned.ReadFile q) h = absurd h
act_is t c ch m (AppendFile a) (planned.WriteFile k n) h = absurd h
act_is t c ch m (AppendFile a) (planned.AppendFile q) h = appended_is (file_at m.disk a) h.file a ch m h.in_slot
act_is t c ch m (AppendFile a) (planned.ReplaceFile q) h = absurd h
act_is t c ch m (AppendFile a) (planned.OpenRecords q) h = absurd h
act_is t c ch m (AppendFile a) (planned.MakeRecords n l) h = absurd h
act_is t c ch m (ReplaceFile a) x h = refl
act_is t c ch m (OpenRecords a) (planned.ReadListing q) h = absurd h
act_is t c ch m (OpenRecords a) (planned.ReadFile q) h = absurd h
act_is t c ch m (OpenRecords a) (planned.WriteFile k n) h = absurd h
act_is t c ch m (OpenRecords a) (planned.AppendFile q) h = absurd h
act_is t c ch m (OpenRecords a) (planned.ReplaceFile q) h = absurd h
act_is t c ch m (OpenRecords a) (planned.OpenRecords q) h = refl
act_is t c ch m (OpenRecords a) (planned.MakeRecords n l) h = absurd h
act_is t c ch m (MakeRecords a b) x h = refl

-- ---- what a plan opens fits among the channels

abbrev slot_in : Channel → ℕ
slot_in (Writing s bytes blocks full replaces) = s
slot_in _ = 0

module _ (t : ℕ) (c : Content) (d d' : Disk) (protected : Bool) (chs : List kept.Channel) (ys : List Channel) (each : AllZip ChannelStands chs ys) (ch : ℕ) where
  -- a file that is written
  writing_fits : (slot : ℕ) (bytes : List ℕ) (blocks : ℕ) (replaces : Bool) (k : kept.Channel) → ChannelStands k (Writing slot bytes blocks false replaces)
      → HoldsNow t c d' (with_use (uses_of chs ys) ch (use_of k (Writing slot bytes blocks false replaces))) → protected ≡ false → ((n : ℕ) → n ≢ slot → known (file_at d' n) ≡ known (file_at d n))
      → FitsIn d d' protected ys ch (Writing slot bytes blocks false replaces)
  writing_fits slot bytes blocks replaces code.Closed h holds free stays = absurd (cc)
  writing_fits slot bytes blocks replaces (code.Listing l) h holds free stays = absurd (cc)
  writing_fits slot bytes blocks replaces (code.File s r) h holds free stays = absurd (let z = h.1 in (cc))
  writing_fits slot bytes blocks replaces (code.Writing w full) h holds free stays =
      begun_fits t c d d' protected chs ys each ch w bytes blocks holds slot replaces (sym (ap slot_in h.2)) free stays
  writing_fits slot bytes blocks replaces (code.Stopped s) h holds free stays = absurd (cc)
  writing_fits slot bytes blocks replaces (code.Records r) h holds free stays = absurd (cc)

other_of : (n k : ℕ) → n ≢ k → (n == k) ≡ false
other_of n k ne = not_so (n == k) (λ e. ne (eqb-true n k e))

pub opened_fits : (t : ℕ) (c c' : Content) (p : Bool) (chs : List kept.Channel) (told : ToldStatus) (text : Option (ℕ × List ℕ)) (m : Machine) (ch : ℕ) (q : Plan) (x : plan.Plan) (k : kept.Channel) → StandsBy c t p chs told text m
    → PlannedAs t c m (Ok q) (Ok x) → IsOpened t c' m ch q (uses_of chs m.channels) (Some k) → FitsIn m.disk (disk_opened m.disk q) m.protected m.channels ch (opened_by m.disk q)
opened_fits t c c' p chs told text m ch (ReadListing a) x k st h is = record {
  reads = λ slot left e. absurd (cc);
  stays = λ k slot ne u. refl;
  alone = λ k slot ne w. absurd (cc);
  unwritten = λ k slot ne u. absurd (cc);
  place = λ slot k p e. absurd (cc);
  writable = λ slot bytes blocks full replaces e. absurd (cc);
}
opened_fits t c c' p chs told text m ch (ReadFile s) (planned.ReadListing q) k st h is = absurd h
opened_fits t c c' p chs told text m ch (ReadFile s) (planned.ReadFile q) k st h is = record {
  reads = reads_file m.disk s h.has;
  stays = λ k slot ne u. refl;
  alone = λ k slot ne w. absurd (cc);
  unwritten = λ k slot ne u. writes_still slot (channel_in m.channels k) (ap (λ (n : ℕ). machine.writes n (channel_in m.channels k)) (sym (eqb-true s slot u)) ∙ none_passes (machine.writes s) refl m.channels k h.unwritten);
  place = λ slot k p e. absurd (cc);
  writable = λ slot bytes blocks full replaces e. absurd (cc);
}
opened_fits t c c' p chs told text m ch (ReadFile s) (planned.WriteFile a b) k st h is = absurd h
opened_fits t c c' p chs told text m ch (ReadFile s) (planned.AppendFile q) k st h is = absurd h
opened_fits t c c' p chs told text m ch (ReadFile s) (planned.ReplaceFile q) k st h is = absurd h
opened_fits t c c' p chs told text m ch (ReadFile s) (planned.OpenRecords q) k st h is = absurd h
opened_fits t c c' p chs told text m ch (ReadFile s) (planned.MakeRecords n l) k st h is = absurd h
opened_fits t c c' p chs told text m ch (WriteFile kind name) (planned.ReadListing q) k st h is = absurd h
opened_fits t c c' p chs told text m ch (WriteFile kind name) (planned.ReadFile q) k st h is = absurd h
opened_fits t c c' p chs told text m ch (WriteFile kind name) (planned.WriteFile a b) k st h is =
    writing_fits t c' m.disk (with_file m.disk (unclosed kind name) 1) m.protected chs m.channels st.each ch (new_slot m.disk) [] 1 false k is.0 is.2 h.2.unprotected
    (λ n ne. ap known (new_else m.disk (unclosed kind name) 1 n ne))
opened_fits t c c' p chs told text m ch (WriteFile kind name) (planned.AppendFile q) k st h is = absurd h
opened_fits t c c' p chs told text m ch (WriteFile kind name) (planned.ReplaceFile q) k st h is = absurd h
opened_fits t c c' p chs told text m ch (WriteFile kind name) (planned.OpenRecords q) k st h is = absurd h
opened_fits t c c' p chs told text m ch (WriteFile kind name) (planned.MakeRecords n l) k st h is = absurd h
opened_fits t c c' p chs told text m ch (AppendFile s) (planned.ReadListing q) k st h is = absurd h
opened_fits t c c' p chs told text m ch (AppendFile s) (planned.ReadFile q) k st h is = absurd h
opened_fits t c c' p chs told text m ch (AppendFile s) (planned.WriteFile a b) k st h is = absurd h
opened_fits t c c' p chs told text m ch (AppendFile s) (planned.AppendFile q) k st h is =
    let d' : Disk = with_slot m.disk s (Some (reopened h.file)) in
    let y : Channel = Writing s (bytes_in h.file.body) h.file.held false false in
    let channel : opened_by m.disk (AppendFile s) ≡ y = ap (λ (o : Option File). appended_to o s) h.in_slot in
    let disk : disk_opened m.disk (AppendFile s) ≡ d' = ap (λ (o : Option File). reopened_at o m.disk s) h.in_slot in
    let holds : HoldsNow t c' d' (with_use (uses_of chs m.channels) ch (use_of k y)) =
    subst (λ (z : Disk). HoldsNow t c' z (with_use (uses_of chs m.channels) ch (use_of k y))) disk
    (subst (λ (z : Channel). HoldsNow t c' (disk_opened m.disk (AppendFile s)) (with_use (uses_of chs m.channels) ch (use_of k z))) channel is.2) in
    subst (λ (z : Channel). FitsIn m.disk (disk_opened m.disk (AppendFile s)) m.protected m.channels ch z) (sym channel)
    (subst (λ (z : Disk). FitsIn m.disk z m.protected m.channels ch y) (sym disk)
    (writing_fits t c' m.disk d' m.protected chs m.channels st.each ch s (bytes_in h.file.body) h.file.held false k (subst (ChannelStands k) channel is.0) holds h.unprotected
    (λ n ne. ap known (other_slot m.disk s n (Some (reopened h.file)) (other_of n s ne)))))
opened_fits t c c' p chs told text m ch (AppendFile s) (planned.ReplaceFile q) k st h is = absurd h
opened_fits t c c' p chs told text m ch (AppendFile s) (planned.OpenRecords q) k st h is = absurd h
opened_fits t c c' p chs told text m ch (AppendFile s) (planned.MakeRecords n l) k st h is = absurd h
opened_fits t c c' p chs told text m ch (ReplaceFile s) (planned.ReadListing q) k st h is = absurd h
opened_fits t c c' p chs told text m ch (ReplaceFile s) (planned.ReadFile q) k st h is = absurd h
opened_fits t c c' p chs told text m ch (ReplaceFile s) (planned.WriteFile a b) k st h is = absurd h
opened_fits t c c' p chs told text m ch (ReplaceFile s) (planned.AppendFile q) k st h is = absurd h
opened_fits t c c' p chs told text m ch (ReplaceFile s) (planned.ReplaceFile q) k st h is =
    writing_fits t c' m.disk (disk_opened m.disk (ReplaceFile s)) m.protected chs m.channels st.each ch s [] 1 true k is.0 is.2 h.unprotected (λ n ne. refl)
opened_fits t c c' p chs told text m ch (ReplaceFile s) (planned.OpenRecords q) k st h is = absurd h
opened_fits t c c' p chs told text m ch (ReplaceFile s) (planned.MakeRecords n l) k st h is = absurd h
opened_fits t c c' p chs told text m ch (OpenRecords s) (planned.ReadListing q) k st h is = absurd h
opened_fits t c c' p chs told text m ch (OpenRecords s) (planned.ReadFile q) k st h is = absurd h
opened_fits t c c' p chs told text m ch (OpenRecords s) (planned.WriteFile a b) k st h is = absurd h
opened_fits t c c' p chs told text m ch (OpenRecords s) (planned.AppendFile q) k st h is = absurd h
opened_fits t c c' p chs told text m ch (OpenRecords s) (planned.ReplaceFile q) k st h is = absurd h
opened_fits t c c' p chs told text m ch (OpenRecords s) (planned.OpenRecords q) k st h is =
    let file = of_records t c m.disk s h.file (means_of c t p chs told text m st) h.in_slot h.closed h.relative in
    let unused = relative_unused m.disk m.protected m.channels s file.width file.blocks file.sides file.records h.file st.orderly h.in_slot file.body h.unwritten in
    let now : IsPlace m.disk s 1 1 = record {
      file = h.file;
      in_slot = h.in_slot;
      closed = h.closed;
      record_length = file.width;
      records = file.records;
      blocks = file.blocks;
      sides = file.sides;
      body = file.body;
      number = omega arith;
      inside = (omega arith, file.some);
    } in
    record {
      reads = λ slot left e. absurd (cc);
      stays = λ k slot ne u. refl;
      alone = λ k slot ne w. ap (λ (n : ℕ). still_uses n (channel_in m.channels k)) (sym (eqb-true s slot w)) ∙ unused k;
      unwritten = λ k slot ne u. not_so (still_writes slot (channel_in m.channels k)) (λ w. (let z = sym (unused k) ∙ ap (λ (n : ℕ). still_uses n (channel_in m.channels k)) (eqb-true s slot u) ∙ writes_uses (channel_in m.channels k) slot w in absurd (cc)));
      place = place_as m.disk s 1 1 now;
      writable = λ slot bytes blocks full replaces e. absurd (cc);
    }
opened_fits t c c' p chs told text m ch (OpenRecords s) (planned.MakeRecords n l) k st h is = absurd h
opened_fits t c c' p chs told text m ch (MakeRecords name len) (planned.ReadListing q) k st h is = absurd h
opened_fits t c c' p chs told text m ch (MakeRecords name len) (planned.ReadFile q) k st h is = absurd h
opened_fits t c c' p chs told text m ch (MakeRecords name len) (planned.WriteFile a b) k st h is = absurd h
opened_fits t c c' p chs told text m ch (MakeRecords name len) (planned.AppendFile q) k st h is = absurd h
opened_fits t c c' p chs told text m ch (MakeRecords name len) (planned.ReplaceFile q) k st h is = absurd h
opened_fits t c c' p chs told text m ch (MakeRecords name len) (planned.OpenRecords q) k st h is = absurd h
opened_fits t c c' p chs told text m ch (MakeRecords name len) (planned.MakeRecords n l) k st h is = record {
  reads = λ slot left e. absurd (cc);
  stays = λ k slot ne u. ap known (new_else m.disk (made_file name len) 2 slot (used_else t c p chs told text m st k slot u));
  alone = λ k slot ne w. new_unused slot w k;
  unwritten = λ k slot ne u. not_so (still_writes slot (channel_in m.channels k)) (λ w. (let z = sym (new_unused slot u k) ∙ writes_uses (channel_in m.channels k) slot w in absurd (cc)));
  place = place_as (with_new_records m.disk name len) (new_slot m.disk) 1 1 now;
  writable = λ slot bytes blocks full replaces e. absurd (cc);
}
  where
    new_unused : (slot : ℕ) → (new_slot m.disk == slot) ≡ true → (k : ℕ) → still_uses slot (channel_in m.channels k) ≡ false
    new_unused slot e k = not_so (still_uses slot (channel_in m.channels k)) (λ u. used_else t c p chs told text m st k slot u (sym (eqb-true (new_slot m.disk) slot e)))

    now : IsPlace (with_new_records m.disk name len) (new_slot m.disk) 1 1
    now = record {
      file = made_file name len;
      in_slot = new_there m.disk (made_file name len) 2 (new_below m.disk (has_place_of m.disk h.2.room));
      closed = refl;
      record_length = len;
      records = replicate (record_count len 1) (fresh_record len);
      blocks = 1;
      sides = 1;
      body = refl;
      number = omega arith;
      inside = (omega arith, h.2.some);
    }

-- ---- the ends of `opened`

-- a relative file
pub relates_opened : (t : ℕ) (c : Content) (p : Bool) (chs : List kept.Channel) (told : ToldStatus) (text : Option (ℕ × List ℕ)) (m : Machine) (ch : ℕ) (q : Plan) (s : ℕ) (found : Found) (r : Placed) → StandsBy c t p chs told text m → q ≡ OpenRecords s → IsRelatable t c m s found
    → r.slot ≡ found.slot → r.number ≡ 1 → r.position ≡ 1 → IsOnRecord m.disk r → IsOpened t c m ch q (uses_of chs m.channels) (Some (code.Records r))
relates_opened t c p chs told text m ch q s found r st e h slot number position on =
    let file = of_records t c m.disk s h.file (means_of c t p chs told text m st) h.in_slot h.closed h.relative in
    let unused : IsUnused (uses_of chs m.channels) s = λ k.
    sym (uses_alike s (slice_index_or chs k code.Closed) (channel_in m.channels k) (zip_at chs m.channels k st.each))
    ∙ relative_unused m.disk m.protected m.channels s file.width file.blocks file.sides file.records h.file st.orderly h.in_slot file.body h.unwritten k in
    let at : s ≡ r.slot = h.number ∙ sym slot in
    let disk : disk_opened m.disk q ≡ m.disk = ap (disk_opened m.disk) e in (
      ap (opened_by m.disk) e ∙ (λ i. Relative (at i) (sym number i) (sym position i)),
      subst (λ (d : Disk). IsOnRecord d r) (sym disk) on,
      subst (λ (d : Disk). HoldsNow t c d (with_use (uses_of chs m.channels) ch (usage.Relates r.slot))) (sym disk)
          (subst (λ (n : ℕ). HoldsNow t c m.disk (with_use (uses_of chs m.channels) ch (usage.Relates n))) at
          (relates_now t c m.disk (uses_of chs m.channels) ch s h.file st.holds unused h.in_slot h.closed h.relative)),
    )

-- a relative file that is made
pub makes_opened : (t : ℕ) (c c' : Content) (p : Bool) (chs : List kept.Channel) (told : ToldStatus) (text : Option (ℕ × List ℕ)) (m : Machine) (ch : ℕ) (q : Plan) (name : List ℕ) (len slot : ℕ) (r : Placed) → StandsBy c t p chs told text m → q ≡ MakeRecords name len → IsMakeable m name len
    → empty_from 0 (grown m.disk).slots ≡ Some slot → HoldsNow t c' (with_new_records m.disk name len) (uses_of chs m.channels) → r.slot ≡ slot → r.number ≡ 1 → r.position ≡ 1 → IsOnRecord (with_new_records m.disk name len) r
    → IsOpened t c' m ch q (uses_of chs m.channels) (Some (code.Records r))
makes_opened t c c' p chs told text m ch q name len slot r st e h empty holds at number position on =
    let new : new_slot m.disk ≡ slot = ap (λ (o : Option ℕ). unwrap_or o 0) empty in
    let same : r.slot ≡ new_slot m.disk = at ∙ sym new in
    let disk : disk_opened m.disk q ≡ with_new_records m.disk name len = ap (disk_opened m.disk) e in
    let unused : IsUnused (uses_of chs m.channels) (new_slot m.disk) = λ k.
    sym (uses_alike (new_slot m.disk) (slice_index_or chs k code.Closed) (channel_in m.channels k) (zip_at chs m.channels k st.each))
    ∙ not_so (still_uses (new_slot m.disk) (channel_in m.channels k)) (λ u. used_else t c p chs told text m st k (new_slot m.disk) u refl) in
    let there = new_there m.disk (made_file name len) 2 (new_below m.disk (has_place_of m.disk h.room)) in (
      ap (opened_by m.disk) e ∙ (λ i. Relative (sym same i) (sym number i) (sym position i)),
      subst (λ (d : Disk). IsOnRecord d r) (sym disk) on,
      subst (λ (d : Disk). HoldsNow t c' d (with_use (uses_of chs m.channels) ch (usage.Relates r.slot))) (sym disk)
          (subst (λ (n : ℕ). HoldsNow t c' (with_new_records m.disk name len) (with_use (uses_of chs m.channels) ch (usage.Relates n))) (sym same)
          (relates_now t c' (with_new_records m.disk name len) (uses_of chs m.channels) ch (new_slot m.disk) (made_file name len) holds unused there refl refl)),
    )

-- what waits there
pub made_there : (m : Machine) (name : List ℕ) (len slot : ℕ) → IsMakeable m name len → empty_from 0 (grown m.disk).slots ≡ Some slot → file_at (with_new_records m.disk name len) slot ≡ Some (made_file name len)
made_there m name len slot h empty =
    ap (file_at (with_new_records m.disk name len)) (sym (ap (λ (o : Option ℕ). unwrap_or o 0) empty)) ∙ new_there m.disk (made_file name len) 2 (new_below m.disk (has_place_of m.disk h.room))

-- there is room for it
pub has_room_of : (m : Machine) (name : List ℕ) (len : ℕ) → IsMakeable m name len → HasNoRoomForRecords m.disk → ⊥
has_room_of m name len h none = let z = sym h.room ∙ none in absurd (cc)

-- a writer that begins
pub begins_as : (t : ℕ) (c : Content) (m : Machine) (q : Plan) (d : Disk) (uses : ℕ → Use) (ch slot : ℕ) (replaces : Bool) (bytes : List ℕ) (blocks : ℕ) (w : Filling) → opened_by m.disk q ≡ Writing slot bytes blocks false replaces
    → disk_opened m.disk q ≡ d → BeginsFile t c d uses ch slot replaces bytes blocks w → IsOpened t c m ch q uses (Some (code.Writing w false))
begins_as t c m q d uses ch slot replaces bytes blocks w is same b = (
  (bytes, blocks, is ∙ (λ i. Writing (sym b.same_slot i) bytes blocks false (sym b.same_way i))),
  tt,
  subst (λ (y : Channel). HoldsNow t c (disk_opened m.disk q) (with_use uses ch (use_of (code.Writing w false) y))) (sym is)
      (subst (λ (x : Disk). HoldsNow t c x (with_use uses ch (Writes w bytes blocks))) (sym same) b.holds),
)

-- nothing has changed but that the medium failed
pub on_err : {A E : Type 0} (r : Result A E) (X : Type 0) → X → OnErr r X
on_err (Ok a) X x = tt
on_err (Err e) X x = x

pub nothing_begun : (t : ℕ) (c c' : Content) (d d' : Disk) (uses : ℕ → Use) → c' ≡ c → HoldsNow t c d uses → usage.Stopped t c' d d' uses
nothing_begun t c c' d d' uses e h = record { disk = d; holds = subst (λ x. HoldsNow t x d uses) (sym e) h; either = λ n. inl refl; total = refl }

pub failed_by : (old new : Seen) (e : Trouble) (p : Bool) → p ≡ old.protected → p ≡ false → IsHindered old new e → HasFailed old new
failed_by old new e p same free (inl x) = absurd (let z = sym x.0 ∙ sym same ∙ free in (cc))
failed_by old new e p same free (inr x) = x

pub not_del : (k : FileType) → is_same_type Del k ≡ false → k ≢ Del
not_del k h e = let z = sym (ap (is_same_type Del) e) ∙ h in absurd (cc)

pub match_some : {A : Type 0} (o : Option A) (w : A) (X : Type 0) (B : A → Type 0) → o ≡ Some w → MatchOption o X B → B w
match_some o w X B e h = subst (λ x. MatchOption x X B) e h

pub match_none : {A : Type 0} (o : Option A) (X : Type 0) (B : A → Type 0) → ((w : A) → o ≡ Some w → ⊥) → MatchOption o X B → X
match_none None X B none h = h
match_none (Some w) X B none h = absurd (none w refl)

-- a disk that was planned for has a place
pub has_place : (d : Disk) → (d.free == 0) ≡ false → has_slot d ≡ true → HasNoPlace d → ⊥
has_place d block place (inl e) = let z = sym (eq-eqb d.free 0 e) ∙ block in absurd (cc)
has_place d block place (inr e) = let z = sym e ∙ place in absurd (cc)

pub no_block : (d : Disk) → (d.free == 0) ≡ false → d.free ≡ 0 → ⊥
no_block d block e = let z = sym (eq-eqb d.free 0 e) ∙ block in absurd (cc)

-- ---- an OPEN that was stopped

-- a name that is written there counts as none
set_known : (xs : List (Option File)) (n : ℕ) (f : File) → f.closed ≡ false → known (slice_index_or (slice_set xs n (Some f)) n None) ≡ None
set_known [] n f e = refl
set_known (x ∷ xs) zero f e = rw e refl
set_known (x ∷ xs) (suc n) f e = set_known xs n f e

-- what other channels still use stays, whatever was planned
new_stays : (d : Disk) (f : File) (slot : ℕ) → f.closed ≡ false → known (file_at (with_file d f 1) slot) ≡ known (file_at d slot)
new_stays d f slot open_yet = by_test (slot == new_slot d) refl
  where
    by_test : (b : Bool) → (slot == new_slot d) ≡ b → known (file_at (with_file d f 1) slot) ≡ known (file_at d slot)
    by_test false e = ap known (new_else d f 1 slot (eqb-false slot (new_slot d) e))
    by_test true e =
        let same : slot ≡ new_slot d = eqb-true slot (new_slot d) e in
        ap (λ (n : ℕ). known (file_at (with_file d f 1) n)) same ∙ set_known (grown d).slots (new_slot d) f open_yet ∙ sym (ap known (ap (file_at d) same ∙ new_empty d))

opened_stays : (t : ℕ) (c : Content) (m : Machine) (q : Plan) (x : plan.Plan) → PlannedAs t c m (Ok q) (Ok x) → ((k slot : ℕ) → still_uses slot (channel_in m.channels k) ≡ true → slot ≢ new_slot m.disk) → (k slot : ℕ) → still_uses slot (channel_in m.channels k) ≡ true → known (file_at (disk_opened m.disk q) slot) ≡ known (file_at m.disk slot)
opened_stays t c m (ReadListing a) x h apart k slot u = refl
opened_stays t c m (ReadFile s) x h apart k slot u = refl
opened_stays t c m (WriteFile kind name) x h apart k slot u = new_stays m.disk (unclosed kind name) slot refl
opened_stays t c m (AppendFile s) (planned.ReadListing q) h apart k slot u = absurd h
opened_stays t c m (AppendFile s) (planned.ReadFile q) h apart k slot u = absurd h
opened_stays t c m (AppendFile s) (planned.WriteFile a b) h apart k slot u = absurd h
opened_stays t c m (AppendFile s) (planned.AppendFile q) h apart k slot u = by_test (slot == s) refl
  where
    by_test : (b : Bool) → (slot == s) ≡ b → known (file_at (disk_opened m.disk (AppendFile s)) slot) ≡ known (file_at m.disk slot)
    by_test true e =
        let none : still_uses s (channel_in m.channels k) ≡ false = uses_still s (channel_in m.channels k) (none_passes (machine.uses s) refl m.channels k h.unused) in
        let z = sym none ∙ ap (λ (n : ℕ). still_uses n (channel_in m.channels k)) (sym (eqb-true slot s e)) ∙ u in absurd (cc)
    by_test false e = ap known (ap (λ (o : Option File). file_at (reopened_at o m.disk s) slot) h.in_slot ∙ other_slot m.disk s slot (Some (reopened h.file)) e)
opened_stays t c m (AppendFile s) (planned.ReplaceFile q) h apart k slot u = absurd h
opened_stays t c m (AppendFile s) (planned.OpenRecords q) h apart k slot u = absurd h
opened_stays t c m (AppendFile s) (planned.MakeRecords n l) h apart k slot u = absurd h
opened_stays t c m (ReplaceFile s) x h apart k slot u = refl
opened_stays t c m (OpenRecords s) x h apart k slot u = refl
opened_stays t c m (MakeRecords name len) x h apart k slot u = ap known (new_else m.disk (made_file name len) 2 slot (apart k slot u))

pub either_stays : (before after now : Disk) (slot : ℕ) → IsEither before after now slot → known (file_at after slot) ≡ known (file_at before slot) → known (file_at now slot) ≡ known (file_at before slot)
either_stays before after now slot (inl e) h = e
either_stays before after now slot (inr e) h = e ∙ h

-- ---- the drive after an OPEN

module _ (t : ℕ) (c c' : Content) (p : Bool) (chs : List kept.Channel) (told : ToldStatus) (text : Option (ℕ × List ℕ)) (m : Machine) (ch : ℕ) (q : Plan) (x : plan.Plan) (more : ch < length chs) (st : StandsBy c t p chs told text m)
    (h : PlannedAs t c m (Ok q) (Ok x)) where
  pub opened_stands : (k : kept.Channel) → IsOpened t c' m ch q (uses_of chs m.channels) (Some k) → StandsBy c' t p (slice_set chs ch k) told text (act ch q m)
  opened_stands k is = moved _ _ _ _ _ _ _ _ (act_is t c ch m q x h)
      (with_step_at c t p chs told text m c' (disk_opened m.disk q) ch k (opened_by m.disk q) more is.0 is.1 is.2 (opened_fits t c c' p chs told text m ch q x k st h is) st)

  pub opened_cut : slice_index_or chs ch code.Closed ≡ code.Closed → usage.Stopped t c' m.disk (disk_opened m.disk q) (uses_of chs m.channels)
      → (n : Machine) × ((trouble : Trouble) (status : Status) → status ≡ trouble_status trouble → IsStopped ch m (say Fine (act ch q m)) (with_status status n)) × StandsBy c' t p chs told text n
  opened_cut shut stop =
      let also : ch < length m.channels = omega (arith, more, zip_length chs m.channels st.each) in
      let n : Machine = with_channel ch Closed (with_disk stop.disk m) in
      let same : (act ch q m).disk ≡ disk_opened m.disk q = ap (λ (y : Machine). y.disk) (act_is t c ch m q x h) in (
        n,
        (λ trouble status e. record {
          either = λ slot. subst (λ (y : Disk). IsEither m.disk y stop.disk slot) (sym same) (stop.either slot);
          same_tracks = refl;
          same_protection = refl;
          own = inl (get_or-set_same m.channels ch Closed Closed also);
          others = λ i ne. get_or-set_other m.channels ch i Closed Closed ne;
          fault = (trouble, e);
        }),
        subst (λ (xs : List kept.Channel). StandsBy c' t p xs told text n) (ap (slice_set chs ch) (sym shut) ∙ set_same chs ch code.Closed more)
            (with_step_at c t p chs told text m c' stop.disk ch code.Closed Closed more refl tt (let_go_now t c' stop.disk (uses_of chs m.channels) ch stop.holds)
            (closed_fits m.disk stop.disk m.protected m.channels ch st.orderly (λ k slot ne u. either_stays m.disk (disk_opened m.disk q) stop.disk slot (stop.either slot) (opened_stays t c m q x h (used_else t c p chs told text m st) k slot u))) st),
      )

-- past the fifteen channels there is none
pub idle_past : (chs : List kept.Channel) (ys : List Channel) → length chs ≡ 15 → uses_of chs ys 15 ≡ usage.Idle
idle_past chs ys count = ap (λ (x : kept.Channel). use_of x (slice_index_or ys 15 Closed)) (get_or_past chs 15 code.Closed (omega (arith, count)))

-- what a channel that is closed does with the disk
pub idle_at : (chs : List kept.Channel) (ys : List Channel) (ch : ℕ) → slice_index_or chs ch code.Closed ≡ code.Closed → uses_of chs ys ch ≡ usage.Idle
idle_at chs ys ch e = ap (λ (x : kept.Channel). use_of x (slice_index_or ys ch Closed)) e
