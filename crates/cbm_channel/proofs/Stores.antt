-- A byte goes to what a channel writes: the drive stands for the machine's next state, or it was stopped.
use Rattle.std.proofs.Common.{◌≡◌, ℕ, zero, suc, ◌<◌, Bool, true, false, List, [], ◌∷◌, ◌++◌, length, refl, sym, ap, ◌∙◌, subst, arith, inl, inr}
use Rattle.std.specs.Prelude.{◌==◌, ◌&&◌, not, Option, slice_set, slice_index_or}
use Rattle.std.proofs.lemmas.Bool.{ne_eqb, eq-eqb}
use Rattle.std.proofs.lemmas.List.{get_or-set_same, get_or-set_other}
use Rattle.cbm_file.specs.Files.{Disk, file_at}
use Rattle.cbm_medium.specs.declared.fault.Trouble.{Trouble}
use Rattle.cbm_medium.specs.Seen.{Seen, HasFailed}
use Rattle.cbm_medium.specs.Content.{Content}
use Rattle.cbm_volume.specs.Opens.{IsHindered}
use Rattle.cbm_volume.specs.Writers.{HoldsNow, with_use, known, needs_block, one_block_more}
use Rattle.cbm_volume.specs.Writers as usage
use Rattle.cbm_machine.specs.declared.code.Code.TheVariants.{DiskFull}
use Rattle.cbm_machine.specs.declared.status.Status.{Status}
use Rattle.cbm_machine.specs.Statuses.{trouble_status}
use Rattle.cbm_machine.specs.Machines as machine
use Rattle.cbm_machine.specs.Machines.{Machine, Channel, Closed, Reading, Writing, Stopped, Relative, with_channel, with_disk, say, with_status}
use Rattle.cbm_machine.specs.Orderly.{IsOrderly, channel_in, still_uses, still_writes}
use Rattle.cbm_machine.specs.Closing.{put_on, with_some_byte, finish_channel}
use Rattle.cbm_machine.specs.Statuses.{return}
use Rattle.cbm_machine.specs.Told.{ToldStatus}
use Rattle.cbm_machine.specs.Calls.{is_relative_channel}
use Rattle.cbm_channel.specs.Shown.{is_writing}
use Rattle.cbm_channel.specs.declared.channel.Channel.TheVariants as code
use Rattle.cbm_channel.specs.declared.channel.Channel as kept
use Rattle.cbm_channel.specs.Standing.{AreFit, ChannelStands, WaitsFor, uses_of, StandsBy}
use Rattle.cbm_channel.specs.Going.{IsStopped, put_written}
use Rattle.cbm_channel.specs.Written.{finds_none, is_lost, channel_put, disk_put, IsCutOff, is_unbegun, disk_closed}
use Rattle.cbm_channel.proofs.BytesPut.{IsPut}
use Rattle.cbm_channel.proofs.Finished.{put_else, stop_else, closed_else, finish_law}
use Rattle.cbm_channel.proofs.Orders.{FitsIn, less_fits, closed_fits, same_less}
use Rattle.cbm_channel.proofs.Stands.{with_step, zip_length, plain_waits}

-- ---- the machine's own rule

pub set_same : {A : Type 0} (xs : List A) (i : ℕ) (d : A) → i < length xs → slice_set xs i (slice_index_or xs i d) ≡ xs
set_same [] i d lt = absurd (omega (arith, lt))
set_same (x ∷ xs) zero d lt = refl
set_same (x ∷ xs) (suc i) d lt = ap (λ ys. x ∷ ys) (set_same xs i d (omega (arith, lt)))

pub same_machine : (ch : ℕ) (m : Machine) (x : Channel) → ch < length m.channels → machine.channel m ch ≡ x → m ≡ with_channel ch x m
same_machine ch m x lt e = λ i. record m { channels = (sym (set_same m.channels ch Closed lt) ∙ ap (slice_set m.channels ch) e) i }

abbrev next_of : ℕ → ℕ → Channel → Machine → Machine
next_of ch byte x m = with_channel ch (channel_put byte m.disk x) (with_disk (disk_put m.disk x) m)

put_free : (ch byte : ℕ) (m : Machine) (x : Channel) → ch < length m.channels → machine.channel m ch ≡ x → is_lost m.disk x ≡ false → put_on ch byte x m ≡ next_of ch byte x m
put_free ch byte m Closed lt e k = same_machine ch m Closed lt e
put_free ch byte m (Reading s left) lt e k = same_machine ch m (Reading s left) lt e
put_free ch byte m (Stopped s) lt e k = same_machine ch m (Stopped s) lt e
put_free ch byte m (Relative s n p) lt e k = same_machine ch m (Relative s n p) lt e
put_free ch byte m (Writing s bytes blocks true replaces) lt e k = same_machine ch m (Writing s bytes blocks true replaces) lt e
put_free ch byte m (Writing s bytes blocks false replaces) lt e k = by_need (needs_block bytes blocks) (m.disk.free == 0) refl refl k
  where
    by_need : (b f : Bool) → needs_block bytes blocks ≡ b → (m.disk.free == 0) ≡ f → (needs_block bytes blocks && (m.disk.free == 0)) ≡ false
        → put_on ch byte (Writing s bytes blocks false replaces) m ≡ next_of ch byte (Writing s bytes blocks false replaces) m
    by_need false f n z h = rw n refl
    by_need true false n z h = rw (n, z) refl
    by_need true true n z h = absurd (let y : true ≡ false = sym (rw (n, z) refl) ∙ h in (cc))

put_lost : (ch byte : ℕ) (m : Machine) (x : Channel) → is_lost m.disk x ≡ true → put_on ch byte x m ≡ say DiskFull (next_of ch byte x m)
put_lost ch byte m Closed k = absurd (cc)
put_lost ch byte m (Reading s left) k = absurd (cc)
put_lost ch byte m (Stopped s) k = absurd (cc)
put_lost ch byte m (Relative s n p) k = absurd (cc)
put_lost ch byte m (Writing s bytes blocks true replaces) k = absurd (cc)
put_lost ch byte m (Writing s bytes blocks false replaces) k = by_need (needs_block bytes blocks) (m.disk.free == 0) refl refl k
  where
    by_need : (b f : Bool) → needs_block bytes blocks ≡ b → (m.disk.free == 0) ≡ f → (needs_block bytes blocks && (m.disk.free == 0)) ≡ true
        → put_on ch byte (Writing s bytes blocks false replaces) m ≡ say DiskFull (next_of ch byte (Writing s bytes blocks false replaces) m)
    by_need false f n z h = absurd (let y : false ≡ true = sym (rw n refl) ∙ h in (cc))
    by_need true false n z h = absurd (let y : false ≡ true = sym (rw (n, z) refl) ∙ h in (cc))
    by_need true true n z h = rw (n, z) refl

-- ---- the channel fits in

pub same_fits : (d : Disk) (protected : Bool) (channels : List Channel) (ch : ℕ) (y : Channel) → channel_in channels ch ≡ y → IsOrderly d protected channels → FitsIn d d protected channels ch y
same_fits d protected channels ch y e old =
    less_fits d d protected channels ch y old (same_less y _ (sym e)) (λ slot left h. old.reading ch slot left (e ∙ h)) (λ k slot ne h. refl) (λ slot k p h. old.relative ch slot k p (e ∙ h))
    (λ slot bytes blocks full replaces h. old.writable ch slot bytes blocks full replaces (e ∙ h))

written_fits : (d d' : Disk) (protected : Bool) (channels : List Channel) (ch s blocks blocks' : ℕ) (bytes bytes' : List ℕ) (full full' replaces : Bool) → channel_in channels ch ≡ Writing s bytes blocks full replaces
    → ((slot : ℕ) → file_at d' slot ≡ file_at d slot) → IsOrderly d protected channels → FitsIn d d' protected channels ch (Writing s bytes' blocks' full' replaces)
written_fits d d' protected channels ch s blocks blocks' bytes bytes' full full' replaces e same old =
    less_fits d d' protected channels ch (Writing s bytes' blocks' full' replaces) old (record { has = λ slot h. ap (still_uses slot) e ∙ h; wrote = λ slot h. ap (still_writes slot) e ∙ h }) (λ slot left h. absurd (cc))
    (λ k slot ne h. ap known (same slot)) (λ slot k p h. absurd (cc)) (λ slot xs n f r h. old.writable ch s bytes blocks full replaces e)

put_fits : (byte : ℕ) (d : Disk) (protected : Bool) (channels : List Channel) (ch : ℕ) (x : Channel) → channel_in channels ch ≡ x → IsOrderly d protected channels
    → FitsIn d (disk_put d x) protected channels ch (channel_put byte d x)
put_fits byte d protected channels ch Closed e old = same_fits d protected channels ch Closed e old
put_fits byte d protected channels ch (Reading s left) e old = same_fits d protected channels ch (Reading s left) e old
put_fits byte d protected channels ch (Stopped s) e old = same_fits d protected channels ch (Stopped s) e old
put_fits byte d protected channels ch (Relative s k p) e old = same_fits d protected channels ch (Relative s k p) e old
put_fits byte d protected channels ch (Writing s bytes blocks true replaces) e old = same_fits d protected channels ch (Writing s bytes blocks true replaces) e old
put_fits byte d protected channels ch (Writing s bytes blocks false replaces) e old = by_none (finds_none d (Writing s bytes blocks false replaces)) refl
  where
    x : Channel
    x = Writing s bytes blocks false replaces

    by_none : (b : Bool) → finds_none d x ≡ b → FitsIn d (disk_put d x) protected channels ch (channel_put byte d x)
    by_none true t = subst (λ y. FitsIn d (disk_put d x) protected channels ch y) (sym (rw t refl))
        (written_fits d (disk_put d x) protected channels ch s blocks blocks bytes bytes false true replaces e (λ slot. put_else d x slot) old)
    by_none false t = subst (λ y. FitsIn d (disk_put d x) protected channels ch y) (sym (rw t refl))
        (written_fits d (disk_put d x) protected channels ch s blocks (one_block_more (needs_block bytes blocks) blocks) bytes (bytes ++ byte ∷ []) false false replaces e (λ slot. put_else d x slot) old)

cut_fits : (d d' : Disk) (protected : Bool) (channels : List Channel) (ch s : ℕ) → ((slot : ℕ) → known (file_at d' slot) ≡ known (file_at d slot)) → IsOrderly d protected channels
    → FitsIn d d' protected channels ch (Stopped s)
cut_fits d d' protected channels ch s same old =
    less_fits d d' protected channels ch (Stopped s) old (record { has = λ slot h. absurd (cc); wrote = λ slot h. absurd (cc) })
    (λ slot left h. absurd (cc)) (λ k slot ne h. same slot) (λ slot k p h. absurd (cc)) (λ slot xs n f r h. absurd (cc))

-- ---- what waits

put_plain : (byte : ℕ) (d : Disk) (s : ℕ) (bytes : List ℕ) (blocks : ℕ) (full replaces : Bool) → is_relative_channel (channel_put byte d (Writing s bytes blocks full replaces)) ≡ false
put_plain byte d s bytes blocks true replaces = refl
put_plain byte d s bytes blocks false replaces = by_none (finds_none d (Writing s bytes blocks false replaces)) refl
  where
    by_none : (b : Bool) → finds_none d (Writing s bytes blocks false replaces) ≡ b → is_relative_channel (channel_put byte d (Writing s bytes blocks false replaces)) ≡ false
    by_none true e = rw e refl
    by_none false e = rw e refl

-- after a byte nothing else waits
pub put_waits : (byte : ℕ) (d : Disk) (k k' : kept.Channel) (x : Channel) → ChannelStands k x → ChannelStands k' (channel_put byte d x) → (is_writing k ≡ false → k' ≡ k) → WaitsFor d k → WaitsFor (disk_put d x) k'
put_waits byte d code.Closed k' x h h' quiet w = subst (WaitsFor (disk_put d x)) (sym (quiet refl)) tt
put_waits byte d (code.Listing l) k' x h h' quiet w = subst (WaitsFor (disk_put d x)) (sym (quiet refl)) tt
put_waits byte d (code.File slot r) k' x h h' quiet w = subst (WaitsFor (disk_put d x)) (sym (quiet refl)) tt
put_waits byte d (code.Writing v full) k' x h h' quiet w = plain_waits (disk_put d x) k' (channel_put byte d x) h' (ap (λ (y : Channel). is_relative_channel (channel_put byte d y)) h.2 ∙ put_plain byte d v.slot h.0 h.1 full v.replaces)
put_waits byte d (code.Stopped slot) k' x h h' quiet w = subst (WaitsFor (disk_put d x)) (sym (quiet refl)) tt
put_waits byte d (code.Records r) k' x h h' quiet w =
    subst (WaitsFor (disk_put d x)) (sym (quiet refl)) (subst (λ (y : Channel). WaitsFor (disk_put d y) (code.Records r)) (sym h) w)

-- ---- the drive

not_lost : (b : Bool) → true ≡ not b → b ≡ false
not_lost true h = absurd (cc)
not_lost false h = refl

was_lost : (b : Bool) → false ≡ not b → b ≡ true
was_lost true h = refl
was_lost false h = absurd (cc)

module _ (c : Content) (t : ℕ) (p : Bool) (chs : List kept.Channel) (told : ToldStatus) (text : Option (ℕ × List ℕ)) (m : Machine) (ch : ℕ) (lt : ch < 15) (fit : AreFit t chs) (st : StandsBy c t p chs told text m) where
  also : ch < length m.channels
  also = omega (arith, lt, fit.count, zip_length chs m.channels st.each)

  -- the byte, and what the machine does with it but for what it tells
  put_kept : (c' : Content) (byte : ℕ) (k : kept.Channel) (done : Bool) → IsPut t c' m.disk (uses_of chs m.channels) ch k (machine.channel m ch) byte done
      → WaitsFor (disk_put m.disk (machine.channel m ch)) k → StandsBy c' t p (slice_set chs ch k) told text (next_of ch byte (machine.channel m ch) m)
  put_kept c' byte k done h w = with_step c t p chs told text m c' (disk_put m.disk (machine.channel m ch)) ch k (channel_put byte m.disk (machine.channel m ch)) lt fit h.1 w h.2
      (put_fits byte m.disk m.protected m.channels ch (machine.channel m ch) refl st.orderly) st

  pub put_stored : (c' : Content) (byte : ℕ) (k : kept.Channel) → IsPut t c' m.disk (uses_of chs m.channels) ch k (machine.channel m ch) byte true
      → WaitsFor (disk_put m.disk (machine.channel m ch)) k → StandsBy c' t p (slice_set chs ch k) told text (put_written ch byte m)
  put_stored c' byte k h w = subst (StandsBy c' t p (slice_set chs ch k) told text) (sym (put_free ch byte m (machine.channel m ch) also refl (not_lost _ h.0))) (put_kept c' byte k true h w)

  pub put_refused : (c' : Content) (byte : ℕ) (k : kept.Channel) → IsPut t c' m.disk (uses_of chs m.channels) ch k (machine.channel m ch) byte false
      → WaitsFor (disk_put m.disk (machine.channel m ch)) k → (n : Machine) × (put_written ch byte m ≡ say DiskFull n) × StandsBy c' t p (slice_set chs ch k) told text n
  put_refused c' byte k h w = (next_of ch byte (machine.channel m ch) m, put_lost ch byte m (machine.channel m ch) (was_lost _ h.0), put_kept c' byte k false h w)

  -- a write was refused
  abbrev cut_at : ℕ → Disk → Machine
  cut_at slot d = with_channel ch (Stopped slot) (with_disk d m)

  pub put_cut : (c' : Content) (k : kept.Channel) → IsCutOff k (machine.channel m ch) → usage.Stopped t c' m.disk m.disk (with_use (uses_of chs m.channels) ch usage.Idle)
      → (n : Machine) × ((next : Machine) (trouble : Trouble) (status : Status) → status ≡ trouble_status trouble → IsStopped ch m next (with_status status n)) × StandsBy c' t p (slice_set chs ch k) told text n
  put_cut c' k cut stop =
      let same : (slot : ℕ) → known (file_at stop.disk slot) ≡ known (file_at m.disk slot) = λ slot. stop_else m.disk m.disk stop.disk slot (stop.either slot) refl in
      let n : Machine = cut_at cut.slot stop.disk in (
        n,
        (λ next trouble status e. record {
          either = λ slot. inl (same slot);
          same_tracks = refl;
          same_protection = refl;
          own = inr (cut.slot, get_or-set_same m.channels ch (Stopped cut.slot) Closed also, ap (machine.writes cut.slot) cut.wrote ∙ eq-eqb cut.slot cut.slot refl);
          others = λ i ne. get_or-set_other m.channels ch i (Stopped cut.slot) Closed ne;
          fault = (trouble, e);
        }),
        subst (λ y. StandsBy c' t p (slice_set chs ch y) told text n) (sym cut.stopped)
            (with_step c t p chs told text m c' stop.disk ch (code.Stopped cut.slot) (Stopped cut.slot) lt fit refl tt stop.holds (cut_fits m.disk stop.disk m.protected m.channels ch cut.slot same st.orderly) st),
      )

-- a file that is written: its medium isn't protected, so it failed
pub has_failed : (d : Disk) (p : Bool) (channels : List Channel) (ch s : ℕ) (old new : Seen) (t : Trouble) → IsOrderly d p channels → p ≡ old.protected → (bytes : List ℕ) (blocks : ℕ) (full replaces : Bool) → channel_in channels ch ≡ Writing s bytes blocks full replaces
    → IsHindered old new t → HasFailed old new
has_failed d p channels ch s old new t o same bytes blocks full replaces at (inl h) = absurd (let z = sym h.0 ∙ sym same ∙ o.writable ch s bytes blocks full replaces at in (cc))
has_failed d p channels ch s old new t o same bytes blocks full replaces at (inr h) = h

-- the same with other names for tracks and protection
pub renamed : (c : Content) (t t' : ℕ) (p p' : Bool) (chs : List kept.Channel) (told : ToldStatus) (text : Option (ℕ × List ℕ)) (m : Machine) → t' ≡ t → p' ≡ p → StandsBy c t p chs told text m → StandsBy c t' p' chs told text m
renamed c t t' p p' chs told text m e f st = subst (λ x. StandsBy c x p' chs told text m) (sym e) (subst (λ y. StandsBy c t y chs told text m) (sym f) st)

-- ---- CLOSE

-- a file that has no byte yet gets a return
pub fills : (ch : ℕ) (x : Channel) (m : Machine) → is_unbegun x ≡ true → with_some_byte ch x m ≡ put_on ch return x m
fills ch Closed m e = absurd (cc)
fills ch (Reading s left) m e = absurd (cc)
fills ch (Stopped s) m e = absurd (cc)
fills ch (Relative s k p) m e = absurd (cc)
fills ch (Writing s [] blocks full replaces) m e = refl
fills ch (Writing s (b ∷ bytes) blocks full replaces) m e = absurd (let z = sym (ne_eqb (length (b ∷ bytes)) 0 (λ q. absurd (omega (arith, q)))) ∙ e in (cc))

pub fills_none : (ch : ℕ) (x : Channel) (m : Machine) → is_unbegun x ≡ false → with_some_byte ch x m ≡ m
fills_none ch Closed m e = refl
fills_none ch (Reading s left) m e = refl
fills_none ch (Stopped s) m e = refl
fills_none ch (Relative s k p) m e = refl
fills_none ch (Writing s [] blocks full replaces) m e = absurd (cc)
fills_none ch (Writing s (b ∷ bytes) blocks full replaces) m e = refl

module _ (c : Content) (t : ℕ) (p : Bool) (chs : List kept.Channel) (told : ToldStatus) (text : Option (ℕ × List ℕ)) (m : Machine) (ch : ℕ) (lt : ch < 15) (fit : AreFit t chs) (st : StandsBy c t p chs told text m) where
  pub finish_done : (c' : Content) → HoldsNow t c' (disk_closed m.disk (machine.channel m ch)) (with_use (uses_of chs m.channels) ch usage.Idle) → StandsBy c' t p (slice_set chs ch code.Closed) told text (finish_channel ch m)
  finish_done c' h = subst (StandsBy c' t p (slice_set chs ch code.Closed) told text) (sym (finish_law ch m (machine.channel m ch) refl))
      (with_step c t p chs told text m c' (disk_closed m.disk (machine.channel m ch)) ch code.Closed Closed lt fit refl tt h
      (closed_fits m.disk (disk_closed m.disk (machine.channel m ch)) m.protected m.channels ch st.orderly (λ k slot ne u. ap known (closed_else m.disk m.protected m.channels ch (machine.channel m ch) st.orderly refl k slot ne u))) st)

  pub finish_cut : (c' : Content) → usage.Stopped t c' m.disk (disk_closed m.disk (machine.channel m ch)) (with_use (uses_of chs m.channels) ch usage.Idle)
      → (n : Machine) × ((trouble : Trouble) (status : Status) → status ≡ trouble_status trouble → IsStopped ch m (finish_channel ch m) (with_status status n)) × StandsBy c' t p (slice_set chs ch code.Closed) told text n
  finish_cut c' stop =
      let x : Channel = machine.channel m ch in
      let more : ch < length m.channels = omega (arith, lt, fit.count, zip_length chs m.channels st.each) in
      let n : Machine = with_channel ch Closed (with_disk stop.disk m) in
      let same : finish_channel ch m ≡ with_channel ch Closed (with_disk (disk_closed m.disk x) m) = finish_law ch m x refl in (
        n,
        (λ trouble status e. subst (λ y. IsStopped ch m y (with_status status n)) (sym same) (record {
          either = stop.either;
          same_tracks = refl;
          same_protection = refl;
          own = inl (get_or-set_same m.channels ch Closed Closed more);
          others = λ i ne. get_or-set_other m.channels ch i Closed Closed ne;
          fault = (trouble, e);
        })),
        with_step c t p chs told text m c' stop.disk ch code.Closed Closed lt fit refl tt stop.holds
            (closed_fits m.disk stop.disk m.protected m.channels ch st.orderly (λ k slot ne u. stop_else m.disk (disk_closed m.disk x) stop.disk slot (stop.either slot) (closed_else m.disk m.protected m.channels ch x st.orderly refl k slot ne u))) st,
      )
