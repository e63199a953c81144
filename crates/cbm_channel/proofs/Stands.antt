-- A drive stands for a machine before and after each change of its parts.
use Rattle.std.proofs.Common.{◌≡◌, ℕ, zero, suc, ◌+◌, ◌<◌, ◌≤◌, Bool, true, false, List, [], ◌∷◌, ◌++◌, length, take, drop, refl, sym, ap, ◌∙◌, subst, arith, inl, inr, ◌≢◌}
use Rattle.std.specs.Prelude.{◌==◌, nat_lt, Option, Some, None, slice_index_or, slice_set, sum_by, replicate, if◌then◌else◌, Result, Ok, Err, IsOk, OnOk}
use Rattle.std.specs.List.{AllZip, list_any}
use Rattle.std.proofs.lemmas.List.Sums.{sum_by-cons}
use Rattle.std.proofs.lemmas.Bool.{ne_eqb, eq-eqb, cases_lt}
use Rattle.cbm_medium.specs.Links.{follow}
use Rattle.cbm_medium.proofs.Walks.{follow_end}
use Rattle.cbm_machine.specs.Statuses.{plain, status_line}
use Rattle.cbm_medium.specs.Seen.{Seen}
use Rattle.cbm_medium.specs.Content.{Content}
use Rattle.cbm_chain.specs.Reading.{Reading, RestOfFile, rest_of, held_from, held_in, IsSettled}
use Rattle.cbm_file.specs.Waiting.{next_shown}
use Rattle.cbm_file.specs.Files.{File, Disk, file_at}
use Rattle.cbm_volume.specs.Holding.{HoldsDisk}
use Rattle.cbm_bam.specs.Map.{geometry_of}
use Rattle.cbm_volume.specs.Writers.{Use, IsUsed, HoldsNow, with_use, writes_slot, known}
use Rattle.cbm_volume.specs.Writers as usage
use Rattle.cbm_listing.specs.Listed as listed
use Rattle.std.proofs.lemmas.List.{drop-drop, get_or-replicate, get_or_past, get_or-set_same, get_or-set_other, length-replicate}
use Rattle.std.proofs.lemmas.Bool.Decides.{nat_tests, eqb_tells}
use Rattle.cbm_channel.specs.declared.channel.Channel.{Channel}
use Rattle.cbm_channel.specs.declared.channel.Channel.TheVariants as code
use Rattle.cbm_machine.specs.declared.status.Status.{Status}
use Rattle.cbm_machine.specs.declared.code.Code.TheVariants.{Fine}
use Rattle.cbm_machine.specs.Machines as machine
use Rattle.cbm_machine.specs.Orderly.{channel_in, still_uses}
use Rattle.cbm_machine.specs.Closing.{forget_text, without_text}
use Rattle.cbm_machine.specs.Talking.{peek_on, taken, taken_on, next_of_record}
use Rattle.cbm_machine.specs.Calls.{text_for, is_relative_channel}
use Rattle.cbm_machine.specs.Told.{ToldStatus, told_by, after_the_next}
use Rattle.cbm_channel.specs.Exchanged.{still_telling}
use Rattle.cbm_channel.specs.Standing.{Kept, FitsTracks, AreFit, ChannelStands, WaitsFor, use_of, uses_of, kept_text, StandsBy, Stands, HasText, HasNoText}
use Rattle.cbm_channel.specs.Shown.{shown_on, cost_on, writes_on}
use Rattle.cbm_volume.proofs.written.Storing.{let_go}
use Rattle.cbm_volume.proofs.held.ReadingUses.{read_whole}
use Rattle.cbm_channel.specs.declared.on_record.Waiting.{Waiting}
use Rattle.cbm_channel.specs.declared.on_record.Waiting.TheVariants as waits
use Rattle.cbm_channel.specs.Placed.{record_of, is_broken, shown_at}
use Rattle.cbm_channel.proofs.OnRecords.{record_on}
use Rattle.cbm_channel.proofs.Orders.{FitsIn, known_is, orderly_set, first_orderly}
use Rattle.cbm_channel.proofs.Uses.{uses_set, by_kind, any_alike}
use Rattle.cbm_channel.proofs.Kept.{take_more, number_of, bytes_of}

-- ---- two lists, place by place

pub zip_set : {A B : Type 0} (R : A → B → Type 0) (xs : List A) (ys : List B) (i : ℕ) (x : A) (y : B) → AllZip R xs ys → R x y → AllZip R (slice_set xs i x) (slice_set ys i y)
zip_set R [] [] i x y h r = h
zip_set R [] (b ∷ ys) i x y h r = absurd h
zip_set R (a ∷ xs) [] i x y h r = absurd h
zip_set R (a ∷ xs) (b ∷ ys) zero x y h r = (r, h.1)
zip_set R (a ∷ xs) (b ∷ ys) (suc i) x y h r = (h.0, zip_set R xs ys i x y h.1 r)

-- what is known at one place; past the end both are closed
pub zip_at : (xs : List Channel) (ys : List machine.Channel) (i : ℕ) → AllZip ChannelStands xs ys
    → ChannelStands (slice_index_or xs i code.Closed) (slice_index_or ys i machine.Closed)
zip_at [] [] i h = refl
zip_at [] (b ∷ ys) i h = absurd h
zip_at (a ∷ xs) [] i h = absurd h
zip_at (a ∷ xs) (b ∷ ys) zero h = h.0
zip_at (a ∷ xs) (b ∷ ys) (suc i) h = zip_at xs ys i h.1

-- the two lists are of one length
pub zip_length : (xs : List Channel) (ys : List machine.Channel) → AllZip ChannelStands xs ys → length ys ≡ length xs
zip_length [] [] h = refl
zip_length [] (b ∷ ys) h = absurd h
zip_length (a ∷ xs) [] h = absurd h
zip_length (a ∷ xs) (b ∷ ys) h = ap suc (zip_length xs ys h.1)

-- each of so many is this one
pub any_of : {A : Type 0} (n : ℕ) (x : A) (i : ℕ) → slice_index_or (replicate n x) i x ≡ x
any_of n x i = elim (cases_lt i n) [
  | inl lt ↦ get_or-replicate n i x x lt
  | inr far ↦ get_or_past (replicate n x) i x (omega (arith, far, length-replicate n x))
]

-- the element that is there, with whatever would stand past the end
pub any_default : {A : Type 0} (xs : List A) (i : ℕ) (d e : A) → i < length xs → slice_index_or xs i d ≡ slice_index_or xs i e
any_default [] i d e lt = absurd (omega (arith, lt))
any_default (x ∷ xs) zero d e lt = refl
any_default (x ∷ xs) (suc i) d e lt = any_default xs i d e (omega (arith, lt))

-- the channel that a call borrows, as the drive was before it
pub borrowed_at : {xs before : List Channel} (ch : ℕ) (d : Channel) → xs ≡ before → ch < length xs → slice_index_or xs ch d ≡ slice_index_or before ch code.Closed
borrowed_at {xs} ch d same lt = any_default xs ch d code.Closed lt ∙ ap (λ (ys : List Channel). slice_index_or ys ch code.Closed) same

pub past_end : (xs : List Channel) (ys : List machine.Channel) (i : ℕ) → length xs ≤ i → AllZip ChannelStands xs ys → slice_index_or ys i machine.Closed ≡ machine.Closed
past_end [] [] i far h = refl
past_end [] (b ∷ ys) i far h = absurd h
past_end (a ∷ xs) [] i far h = absurd h
past_end (a ∷ xs) (b ∷ ys) zero far h = absurd (omega (arith, far))
past_end (a ∷ xs) (b ∷ ys) (suc i) far h = past_end xs ys i (omega (arith, far)) h.1

-- ---- one channel

-- what the channels cost
cost_same : (x : Channel) (y : machine.Channel) → ChannelStands x y → machine.cost y ≡ cost_on x
cost_same = by_kind (λ x y. machine.cost y ≡ cost_on x) refl (λ l. refl) (λ slot r left. refl) (λ w full bytes blocks. refl) (λ slot. refl) (λ r. refl)

pub costs_same : (xs : List Channel) (ys : List machine.Channel) → AllZip ChannelStands xs ys → sum_by machine.cost ys ≡ sum_by cost_on xs
costs_same [] [] h = refl
costs_same [] (y ∷ ys) h = absurd h
costs_same (x ∷ xs) [] h = absurd h
costs_same (x ∷ xs) (y ∷ ys) h =
    sum_by-cons machine.cost y ys ∙ (λ i. cost_same x y h.0 i + costs_same xs ys h.1 i) ∙ sym (sum_by-cons cost_on x xs)

-- a reader that holds one byte at most holds all that is left
more_shown : (xs ys : List ℕ) → (length xs ≤ 1 → ys ≡ []) → next_shown (xs ++ ys) ≡ next_shown xs
more_shown [] ys h = ap next_shown (h (omega arith))
more_shown (x ∷ []) ys h = ap (λ zs. next_shown (x ∷ zs)) (h (omega arith))
more_shown (x ∷ z ∷ xs) ys h = refl

rest_shown : (c : Content) (r : Reading) → IsSettled r → next_shown (rest_of c r).bytes ≡ next_shown r.bytes
unfolding rest_of held_from
rest_shown c r settled = more_shown r.bytes (held_in c (follow r.tracks c r.left r.next)).bytes (λ few. ap (λ f. (held_in c f).bytes) (follow_end r.tracks c r.left r.next (settled few)))

shown_as : (w : Waiting) (p : ℕ) → is_broken w ≡ false → next_of_record (record_of w) p ≡ shown_at w p
shown_as (waits.Record r) p h = refl
shown_as waits.Absent p h = refl
shown_as waits.Broken p h = absurd (cc)

-- what waits on a channel, where a file's reader gives what the machine has left
pub shows : (t : ℕ) (c : Content) (d : Disk) (uses : ℕ → Use) (ch : ℕ) (x : Channel) (y : machine.Channel) → FitsTracks t x → ChannelStands x y → WaitsFor d x → HoldsNow t c d uses → uses ch ≡ use_of x y → peek_on d y ≡ shown_on x
shows t c d uses ch code.Closed y f h w k e = ap (peek_on d) h
shows t c d uses ch (code.Listing l) y f h w k e = ap (peek_on d) h
shows t c d uses ch (code.File slot r) y f h w k e =
    ap (peek_on d) h.1 ∙ sym (ap (λ (x : RestOfFile). next_shown x.bytes) (read_whole t c d uses ch slot h.0 r k (e ∙ ap (use_of (code.File slot r)) h.1))) ∙ rest_shown c r f.1
shows t c d uses ch (code.Writing x full) y f h w k e = ap (peek_on d) h.2
shows t c d uses ch (code.Stopped slot) y f h w k e = ap (peek_on d) h
shows t c d uses ch (code.Records r) y f h w k e = ap (peek_on d) h ∙ ap (λ (o : Option (List ℕ)). next_of_record o r.position) (record_on d r w) ∙ shown_as r.waiting r.position w.waits.whole

-- a byte of the listing is taken
drop_on : (n : ℕ) (xs : List ℕ) → drop 1 (drop n xs) ≡ drop (n + 1) xs
drop_on n xs = drop-drop 1 n xs

drop_all : (n : ℕ) (xs : List ℕ) → length xs ≤ n → drop 1 (drop n xs) ≡ drop n xs
drop_all zero [] h = refl
drop_all zero (x ∷ xs) h = absurd (omega (arith, h))
drop_all (suc n) [] h = refl
drop_all (suc n) (x ∷ xs) h = drop_all n xs (omega (arith, h))

listed_on : (l : listed.ListedBytes) (b : Bool) → nat_lt l.taken (length l.bytes) ≡ b → drop 1 (drop l.taken l.bytes) ≡ drop (listed.with_next_taken l).taken (listed.with_next_taken l).bytes
listed_on l true e = rw e (drop_on l.taken l.bytes)
listed_on l false e = rw e (drop_all l.taken l.bytes (grind (arith, nat_tests, e)))

pub listing_on : (d : Disk) (l new : listed.ListedBytes) (y : machine.Channel) → new ≡ listed.with_next_taken l → y ≡ machine.Reading None (drop l.taken l.bytes)
    → taken_on d y ≡ machine.Reading None (drop new.taken new.bytes)
listing_on d l new y e h =
    ap (taken_on d) h ∙ ap (λ xs. machine.Reading None xs) (listed_on l (nat_lt l.taken (length l.bytes)) refl) ∙ ap (λ (x : listed.ListedBytes). machine.Reading None (drop x.taken x.bytes)) (sym e)

-- ---- the text

test_pushed : (b : Bool) (t : ℕ × List ℕ) → kept_text (if b then None else Some t) ≡ (if b then None else Some (t.0, take 256 t.1))
test_pushed true t = refl
test_pushed false t = refl

pub kept_forgotten : (ch : ℕ) (text : Option (ℕ × List ℕ)) → kept_text (forget_text ch text) ≡ forget_text ch (kept_text text)
kept_forgotten ch None = refl
kept_forgotten ch (Some t) = test_pushed (t.0 == ch) t

-- one channel uses the disk no more
pub let_go_now : (t : ℕ) (c : Content) (d : Disk) (uses : ℕ → Use) (ch : ℕ) → HoldsNow t c d uses → HoldsNow t c d (with_use uses ch usage.Idle)
let_go_now t c d uses ch h = record { layout = h.layout; so = let_go (geometry_of t c) c h.layout d uses ch h.so }

-- ---- what waits

-- what waits on a channel stays where the file does that it has open
pub waits_on : (d d' : Disk) (x : Channel) (y : machine.Channel) → ChannelStands x y
    → ((slot : ℕ) (f : File) → still_uses slot y ≡ true → file_at d slot ≡ Some f → f.closed ≡ true → (g : File) × (file_at d' slot ≡ Some g) × (g.closed ≡ f.closed) × (g.body ≡ f.body)) → WaitsFor d x → WaitsFor d' x
waits_on d d' code.Closed y h keeps w = tt
waits_on d d' (code.Listing l) y h keeps w = tt
waits_on d d' (code.File slot r) y h keeps w = tt
waits_on d d' (code.Writing x full) y h keeps w = tt
waits_on d d' (code.Stopped slot) y h keeps w = tt
waits_on d d' (code.Records r) y h keeps w =
    let kept = keeps r.slot w.file (ap (still_uses r.slot) h ∙ eq-eqb r.slot r.slot refl) w.in_slot w.closed in
    record { file = kept.0; in_slot = kept.1; closed = kept.2 ∙ w.closed; records = w.records; blocks = w.blocks; sides = w.sides; body = kept.3 ∙ w.body; waits = w.waits }

-- where it counts as the same file
pub waits_known : (d d' : Disk) (x : Channel) (y : machine.Channel) → ChannelStands x y → ((slot : ℕ) → still_uses slot y ≡ true → known (file_at d' slot) ≡ known (file_at d slot)) → WaitsFor d x → WaitsFor d' x
waits_known d d' x y h same w = waits_on d d' x y h (λ slot f u at shut. (f, known_is (file_at d slot) (file_at d' slot) f (same slot u) at shut, refl, refl)) w

-- on a channel without records nothing waits for the disk
pub plain_waits : (d : Disk) (x : Channel) (y : machine.Channel) → ChannelStands x y → is_relative_channel y ≡ false → WaitsFor d x
plain_waits d = by_kind (λ x y. is_relative_channel y ≡ false → WaitsFor d x) (λ e. tt) (λ l e. tt) (λ slot r left e. tt) (λ w full bytes blocks e. tt) (λ slot e. tt) (λ r e. absurd (cc))

waits_set : (d : Disk) (chs : List Channel) (ch : ℕ) (x : Channel) → ch < length chs → WaitsFor d x → ((k : ℕ) → k ≢ ch → WaitsFor d (slice_index_or chs k code.Closed)) → (k : ℕ) → WaitsFor d (slice_index_or (slice_set chs ch x) k code.Closed)
waits_set d chs ch x more w others k = elim (eqb_tells k ch) [
  | inl same ↦ subst (WaitsFor d) (sym (ap (λ (j : ℕ). slice_index_or (slice_set chs ch x) j code.Closed) same.1 ∙ get_or-set_same chs ch x code.Closed more)) w
  | inr other ↦ subst (WaitsFor d) (sym (get_or-set_other chs ch k x code.Closed other.1)) (others k other.1)
]

-- ---- the parts of a drive

module _ (c : Content) (t : ℕ) (p : Bool) (chs : List Channel) (told : ToldStatus) (text : Option (ℕ × List ℕ)) (m : machine.Machine) where
  -- the status, what is told of it and the text are others
  pub telling : (s : Status) (n : ℕ) (whole : Option (ℕ × List ℕ)) (new : ToldStatus) (kept : Option (ℕ × List ℕ)) → told_by (record m { status = s; told = n }) ≡ new → kept_text whole ≡ kept → StandsBy c t p chs told text m
      → StandsBy c t p chs new kept (record m { status = s; told = n; text = whole })
  telling s n whole new kept tells keeps st = record {
    holds = st.holds;
    orderly = st.orderly;
    same_tracks = st.same_tracks;
    same_protection = st.same_protection;
    each = st.each;
    waits = st.waits;
    same_told = tells;
    same_text = keeps;
  }

  pub told_anew : (s : Status) (new : ToldStatus) → new ≡ record { status = s; told = 0 } → StandsBy c t p chs told text m → StandsBy c t p chs new text (machine.with_status s m)
  told_anew s new is st = telling s 0 m.text new text (sym is) st.same_text st

  -- the machine's disk is what the medium holds
  pub means_of : StandsBy c t p chs told text m → HoldsDisk t c m.disk
  means_of st = record { layout = st.holds.layout; stands = st.holds.so.stands }

  -- a channel that uses nothing any more
  pub let_go_at : (ch : ℕ) → StandsBy c t p chs told text m → HoldsNow t c m.disk (with_use (uses_of chs m.channels) ch usage.Idle)
  let_go_at ch st = let_go_now t c m.disk (uses_of chs m.channels) ch st.holds

  -- one channel is another, and so are the content and the disk
  pub with_step_at : (c' : Content) (d' : Disk) (ch : ℕ) (x : Channel) (y : machine.Channel) → ch < length chs → ChannelStands x y → WaitsFor d' x
      → HoldsNow t c' d' (with_use (uses_of chs m.channels) ch (use_of x y)) → FitsIn m.disk d' m.protected m.channels ch y → StandsBy c t p chs told text m
      → StandsBy c' t p (slice_set chs ch x) told text (machine.with_channel ch y (machine.with_disk d' m))
  with_step_at c' d' ch x y more h w uses well st =
      let also : ch < length m.channels = omega (arith, more, zip_length chs m.channels st.each) in
      record {
        holds = subst (HoldsNow t c' d') (sym (uses_set chs m.channels ch x y more also)) uses;
        orderly = orderly_set m.disk d' m.protected m.channels ch y also st.orderly well;
        same_tracks = st.same_tracks;
        same_protection = st.same_protection;
        each = zip_set ChannelStands chs m.channels ch x y st.each h;
        waits = waits_set d' chs ch x more w (λ k ne. waits_known m.disk d' (slice_index_or chs k code.Closed) (channel_in m.channels k) (zip_at chs m.channels k st.each) (λ slot u. well.stays k slot ne u) (st.waits k));
        same_told = st.same_told;
        same_text = st.same_text;
      }

  pub with_step : (c' : Content) (d' : Disk) (ch : ℕ) (x : Channel) (y : machine.Channel) → ch < 15 → AreFit t chs → ChannelStands x y → WaitsFor d' x
      → HoldsNow t c' d' (with_use (uses_of chs m.channels) ch (use_of x y)) → FitsIn m.disk d' m.protected m.channels ch y → StandsBy c t p chs told text m
      → StandsBy c' t p (slice_set chs ch x) told text (machine.with_channel ch y (machine.with_disk d' m))
  with_step c' d' ch x y lt fit h w uses well st = with_step_at c' d' ch x y (omega (arith, lt, fit.count)) h w uses well st

  -- on the same disk
  pub with_one : (ch : ℕ) (x : Channel) (y : machine.Channel) → ch < 15 → AreFit t chs → ChannelStands x y → WaitsFor m.disk x
      → HoldsNow t c m.disk (with_use (uses_of chs m.channels) ch (use_of x y)) → FitsIn m.disk m.disk m.protected m.channels ch y → StandsBy c t p chs told text m
      → StandsBy c t p (slice_set chs ch x) told text (machine.with_channel ch y m)
  with_one ch x y lt fit h w uses well st = with_step c m.disk ch x y lt fit h w uses well st

  pub forgotten : (ch : ℕ) (new : Option (ℕ × List ℕ)) → new ≡ forget_text ch text → StandsBy c t p chs told text m → StandsBy c t p chs told new (without_text ch m)
  forgotten ch new is st = telling m.status m.told (forget_text ch m.text) told new st.same_told (kept_forgotten ch m.text ∙ ap (forget_text ch) st.same_text ∙ sym is) st

  -- the text is another one
  pub other_text : (new : Option (ℕ × List ℕ)) (whole : Option (ℕ × List ℕ)) → kept_text whole ≡ new → StandsBy c t p chs told text m
      → StandsBy c t p chs told new (record m { text = whole })
  other_text new whole e st = telling m.status m.told whole told new st.same_told e st

  stepped : nat_lt (m.told + 1) (length (status_line m.status)) ≡ true → told_by (record m { told = m.told + 1 }) ≡ after_the_next (told_by m)
  stepped e = rw e refl

  ended : nat_lt (m.told + 1) (length (status_line m.status)) ≡ false → told_by (machine.say Fine m) ≡ after_the_next (told_by m)
  ended e = rw e refl

  -- the byte that channel 15 tells was taken
  pub told_on : (new : ToldStatus) → new ≡ after_the_next told → StandsBy c t p chs told text m → StandsBy c t p chs new text (taken 15 m)
  told_on new is st = by_test (nat_lt (m.told + 1) (length (status_line m.status))) refl
    where
      by_test : (b : Bool) → nat_lt (m.told + 1) (length (status_line m.status)) ≡ b → StandsBy c t p chs new text (taken 15 m)
      by_test true e = rw e (telling m.status (m.told + 1) m.text new text (stepped e ∙ ap after_the_next st.same_told ∙ sym is) st.same_text st)
      by_test false e = rw e (telling (plain Fine) 0 m.text new text (ended e ∙ ap after_the_next st.same_told ∙ sym is) st.same_text st)

  -- what the channel of the code, with whatever would stand past the end, stands for
  pub stands_at : (ch : ℕ) (d : Channel) → ch < 15 → AreFit t chs → StandsBy c t p chs told text m → ChannelStands (slice_index_or chs ch d) (machine.channel m ch)
  stands_at ch d lt fit st =
      subst (λ x. ChannelStands x (machine.channel m ch)) (any_default chs ch code.Closed d (omega (arith, lt, fit.count))) (zip_at chs m.channels ch st.each)

  -- and what waits on it
  pub waits_at : (ch : ℕ) (d : Channel) → ch < 15 → AreFit t chs → StandsBy c t p chs told text m → WaitsFor m.disk (slice_index_or chs ch d)
  waits_at ch d lt fit st = subst (WaitsFor m.disk) (any_default chs ch code.Closed d (omega (arith, lt, fit.count))) (st.waits ch)

  -- past the end the machine's channel is closed too
  pub closed_past : (ch : ℕ) → 15 ≤ ch → AreFit t chs → StandsBy c t p chs told text m → machine.channel m ch ≡ machine.Closed
  closed_past ch far fit st = past_end chs m.channels ch (omega (arith, far, fit.count)) st.each

  -- the channel of the code, which was looked up
  pub stands_here : (ch : ℕ) (x : Channel) → x ≡ slice_index_or chs ch x → ch < 15 → AreFit t chs → StandsBy c t p chs told text m → ChannelStands x (machine.channel m ch)
  stands_here ch x is lt fit st = subst (λ y. ChannelStands y (machine.channel m ch)) (sym is) (stands_at ch x lt fit st)

  pub waits_here : (ch : ℕ) (x : Channel) → x ≡ slice_index_or chs ch x → ch < 15 → AreFit t chs → StandsBy c t p chs told text m → WaitsFor m.disk x
  waits_here ch x is lt fit st = subst (WaitsFor m.disk) (sym is) (waits_at ch x lt fit st)

-- the machine goes by another name
pub moved : (c : Content) (t : ℕ) (p : Bool) (chs : List Channel) (told : ToldStatus) (text : Option (ℕ × List ℕ)) (m n : machine.Machine) → m ≡ n → StandsBy c t p chs told text n → StandsBy c t p chs told text m
moved c t p chs told text m n e st = subst (λ x. StandsBy c t p chs told text x) (sym e) st

-- at power up no channel uses the disk
pub none_used : (c : Content) (t : ℕ) (d : Disk) → HoldsDisk t c d → HoldsNow t c d (uses_of (replicate 15 code.Closed) (replicate 15 machine.Closed))
none_used c t d h = record {
  layout = h.layout;
  so = record {
    stands = h.stands;
    each = λ k. subst (IsUsed (geometry_of t c) c h.layout d k) (sym (idle_used k)) tt;
    alone = λ a b n e. let bad = sym (ap (writes_slot n) (idle_used a)) ∙ e in absurd (cc);
  };
}
  where
    all_closed : (k : ℕ) → slice_index_or (replicate 15 code.Closed) k code.Closed ≡ code.Closed
    all_closed k = any_of 15 code.Closed k

    idle_used : (k : ℕ) → uses_of (replicate 15 code.Closed) (replicate 15 machine.Closed) k ≡ usage.Idle
    idle_used k = ap (λ x. use_of x (slice_index_or (replicate 15 machine.Closed) k machine.Closed)) (all_closed k)

zip_same : {A B : Type 0} (R : A → B → Type 0) (n : ℕ) (x : A) (y : B) → R x y → AllZip R (replicate n x) (replicate n y)
zip_same R zero x y h = tt
zip_same R (suc n) x y h = (h, zip_same R n x y h)

pub powered_up : (c : Content) (t : ℕ) (p : Bool) (d : Disk) → HoldsDisk t c d → StandsBy c t p (replicate 15 code.Closed) (told_by (machine.start d p t)) None (machine.start d p t)
powered_up c t p d h = record {
  holds = none_used c t d h;
  orderly = first_orderly d p (replicate 15 machine.Closed) (λ k. any_of 15 machine.Closed k);
  same_tracks = refl;
  same_protection = refl;
  each = zip_same ChannelStands 15 code.Closed machine.Closed refl;
  waits = λ k. subst (WaitsFor d) (sym (any_of 15 code.Closed k)) tt;
  same_told = refl;
  same_text = refl;
}

pub stands_at_first : (c : Content) (t : ℕ) (p : Bool) (d : Disk) (chs : List Channel) (told : ToldStatus) → chs ≡ replicate 15 code.Closed → told ≡ told_by (machine.start d p t)
    → HoldsDisk t c d → StandsBy c t p chs told None (machine.start d p t)
stands_at_first c t p d chs told e f h = subst (λ xs. StandsBy c t p xs told None (machine.start d p t)) (sym e) (subst (λ x. StandsBy c t p (replicate 15 code.Closed) x None (machine.start d p t)) (sym f) (powered_up c t p d h))

-- the same, where the status is another one
pub stands_telling : (c : Content) (t : ℕ) (p : Bool) (d : Disk) (chs : List Channel) (told : ToldStatus) → chs ≡ replicate 15 code.Closed
    → HoldsDisk t c d → StandsBy c t p chs told None (still_telling told (machine.start d p t))
stands_telling c t p d chs told e h =
    subst (λ xs. StandsBy c t p xs told None (still_telling told (machine.start d p t))) (sym e) (telling c t p (replicate 15 code.Closed) (told_by (machine.start d p t)) None (machine.start d p t) told.status told.told None told None refl refl (powered_up c t p d h))

-- what holds of each success holds of this one
pub ok_is : {A E : Type 0} {P : Type 0} (r : Result A E) → IsOk r → OnOk r P → P
ok_is (Ok x) ok h = h
ok_is (Err e) ok h = let bad = ok in absurd (cc)

-- what the channel of the code does with the disk, with whatever would stand past the end
pub use_at : (x : Channel) (xs : List Channel) (ys : List machine.Channel) (ch : ℕ) (d : Channel) → ch < length xs → x ≡ slice_index_or xs ch d
    → uses_of xs ys ch ≡ use_of x (slice_index_or ys ch machine.Closed)
use_at x xs ys ch d lt e = ap (λ z. use_of z (slice_index_or ys ch machine.Closed)) (any_default xs ch code.Closed d lt ∙ sym e)

-- a fault is no success
pub not_ok : {A E : Type 0} (e : E) (r : Result A E) → r ≡ Err e → IsOk r → ⊥
not_ok e r is ok = let z = subst IsOk is ok in absurd (cc)

-- a text that is taken
pub text_taken : (ch : ℕ) (text : ℕ × List ℕ) → text.0 ≡ ch → forget_text ch (Some text) ≡ None
text_taken ch text e = rw (eq-eqb text.0 ch e) refl

pub text_stays : (ch : ℕ) (text : ℕ × List ℕ) → text.0 ≢ ch → forget_text ch (Some text) ≡ Some text
text_stays ch text ne = rw (ne_eqb text.0 ch ne) refl

-- whether a text is gathered for the channel
pub none_there : (ch : ℕ) (m : machine.Machine) → kept_text m.text ≡ None → HasNoText ch m
none_there ch m e = by_text m.text refl e
  where
    by_text : (w : Option (ℕ × List ℕ)) → m.text ≡ w → kept_text w ≡ None → HasNoText ch m
    by_text None is h = record { none = ap (text_for ch) is; stays = ap (forget_text ch) is ∙ sym is }
    by_text (Some w) is h = absurd (cc)

pub other_there : (ch : ℕ) (m : machine.Machine) (text : ℕ × List ℕ) → kept_text m.text ≡ Some text → text.0 ≢ ch → HasNoText ch m
other_there ch m text e ne = by_text m.text refl e
  where
    by_text : (w : Option (ℕ × List ℕ)) → m.text ≡ w → kept_text w ≡ Some text → HasNoText ch m
    by_text None is h = absurd (cc)
    by_text (Some w) is h =
        let number : w.0 ≡ text.0 = ap number_of h in
        let other = ne_eqb w.0 ch (λ x. ne (sym number ∙ x)) in
        record { none = ap (text_for ch) is ∙ rw other refl; stays = ap (forget_text ch) is ∙ rw other (sym is) }

pub this_there : (ch : ℕ) (m : machine.Machine) (text : ℕ × List ℕ) → kept_text m.text ≡ Some text → text.0 ≡ ch → 1 ≤ length text.1 → HasText ch m text
this_there ch m text e same some = by_text m.text refl e
  where
    by_text : (w : Option (ℕ × List ℕ)) → m.text ≡ w → kept_text w ≡ Some text → HasText ch m text
    by_text None is h = absurd (cc)
    by_text (Some w) is h =
        let number : w.0 ≡ text.0 = ap number_of h in
        let bytes : take 256 w.1 ≡ text.1 = ap bytes_of h in
        let here = eq-eqb w.0 ch (number ∙ same) in
        record { number = same; kept = sym bytes ∙ sym (ap (λ x. take 256 (text_for ch x)) is ∙ rw here refl); some = some }

-- of a channel's text the first 256 bytes are kept
text_kept : (ch : ℕ) (text : Option (ℕ × List ℕ)) → text_for ch (kept_text text) ≡ take 256 (text_for ch text)
text_kept ch None = refl
text_kept ch (Some t) = by_channel (t.0 == ch)
  where
    by_channel : (b : Bool) → (if b then take 256 t.1 else []) ≡ take 256 (if b then t.1 else [])
    by_channel true = refl
    by_channel false = refl

-- a byte after the text of a channel
pub gathered : (ch b : ℕ) (m : machine.Machine) (old new : Option (ℕ × List ℕ)) → kept_text m.text ≡ old → new ≡ Some (ch, take 256 (text_for ch old ++ b ∷ []))
    → kept_text (Some (ch, text_for ch m.text ++ b ∷ [])) ≡ new
gathered ch b m old new is e =
    ap (λ (bytes : List ℕ). Some (ch, bytes)) (sym (take_more 256 (text_for ch m.text) (b ∷ [])))
    ∙ ap (λ (bytes : List ℕ). Some (ch, take 256 (bytes ++ b ∷ []))) (sym (text_kept ch m.text) ∙ ap (text_for ch) is)
    ∙ sym e

-- a drive that is known by its parts
pub stood : {M : Type 0} (seen : M → Seen) (k k' : Kept M) (m : machine.Machine) → k' ≡ k
    → Stands seen k m → Stands seen k' m
stood seen k k' m e s = subst (λ x. Stands seen x m) (sym e) s

-- ---- which slots are written

writes_same : (n : ℕ) (x : Channel) (y : machine.Channel) → ChannelStands x y → machine.writes n y ≡ writes_on n x
writes_same n = by_kind (λ x y. machine.writes n y ≡ writes_on n x) refl (λ l. refl) (λ slot r left. refl) (λ w full bytes blocks. refl) (λ slot. refl) (λ r. refl)

pub any_same : (n : ℕ) (xs : List Channel) (ys : List machine.Channel) → AllZip ChannelStands xs ys → list_any (machine.writes n) ys ≡ list_any (writes_on n) xs
any_same n = any_alike (machine.writes n) (writes_on n) (writes_same n)

use_writes : (n : ℕ) (x : Channel) (y : machine.Channel) → ChannelStands x y → machine.writes n y ≡ false → writes_slot n (use_of x y) ≡ false
use_writes n = by_kind (λ x y. machine.writes n y ≡ false → writes_slot n (use_of x y) ≡ false) (λ e. refl) (λ l e. refl) (λ slot r left e. refl) (λ w full bytes blocks e. e) (λ slot e. refl) (λ r e. e)

-- a slot that no channel writes is in no channel's use for writing
pub unwritten_at : (n : ℕ) (xs : List Channel) (ys : List machine.Channel) (k : ℕ) → AllZip ChannelStands xs ys → ((j : ℕ) → machine.writes n (channel_in ys j) ≡ false) → writes_slot n (uses_of xs ys k) ≡ false
unwritten_at n xs ys k h none = use_writes n (slice_index_or xs k code.Closed) (slice_index_or ys k machine.Closed) (zip_at xs ys k h) (none k)
