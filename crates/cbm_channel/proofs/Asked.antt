-- What the machine's calls do, by what the code keeps of a channel.
use Rattle.std.proofs.Common.{◌≡◌, ℕ, ◌<◌, ◌≤◌, Bool, true, false, List, [], ◌∷◌, length, refl, ap, ◌∙◌, arith}
use Rattle.std.specs.Prelude.{◌==◌, if◌then◌else◌, Option, Some, None, is_some, Err}
use Rattle.std.proofs.lemmas.Bool.{ne_eqb}
use Rattle.cbm_file.specs.Files.{Disk}
use Rattle.cbm_machine.specs.declared.code.Code.TheVariants.{FileNotOpen, NoChannel, NoRecord}
use Rattle.cbm_command.specs.declared.command.Command.TheVariants.{Position}
use Rattle.cbm_machine.specs.Machines.{Machine, Closed, Relative, channel, with_channel, say, answered}
use Rattle.cbm_machine.specs.Machines as machine
use Rattle.cbm_machine.specs.Closing.{put_on, without_text}
use Rattle.cbm_machine.specs.Talking.{peek, peek_on, taken, taken_on, after_talk, talk_refusal, after_listen, listen_refusal, only_refused}
use Rattle.cbm_machine.specs.Records.{write_record}
use Rattle.cbm_machine.specs.Calls.{put, gather, command, store_text, is_relative_channel}
use Rattle.cbm_machine.specs.Running.{place, run}
use Rattle.cbm_channel.specs.declared.channel.Channel.{Channel}
use Rattle.cbm_channel.specs.declared.channel.Channel.TheVariants as code
use Rattle.cbm_channel.specs.Standing.{ChannelStands, WaitsFor}
use Rattle.cbm_channel.specs.declared.on_record.Waiting.{Waiting}
use Rattle.cbm_channel.specs.declared.on_record.Waiting.TheVariants as waits
use Rattle.cbm_channel.specs.Placed.{record_of, is_broken, is_absent}
use Rattle.cbm_channel.proofs.OnRecords.{record_on}
use Rattle.cbm_channel.proofs.Uses.{by_kind}
use Rattle.cbm_machine.specs.declared.code.Code.{Code}
use Rattle.cbm_channel.specs.Shown.{talk_refused, is_written, has_records}

pub below_15 : (ch : ℕ) → ch < 15 → (ch == 15) ≡ false
below_15 ch lt = ne_eqb ch 15 (λ e. absurd (omega (arith, e, lt)))

-- ---- a channel by itself

listen_of : (x : Channel) (y : machine.Channel) → ChannelStands x y → listen_refusal y ≡ (if is_written x then None else Some FileNotOpen)
listen_of = by_kind (λ x y. listen_refusal y ≡ (if is_written x then None else Some FileNotOpen)) refl (λ l. refl) (λ slot r left. refl) (λ w full bytes blocks. refl) (λ slot. refl) (λ r. refl)

missing_as : (w : Waiting) → is_broken w ≡ false → (if is_some (record_of w) then None else Some NoRecord) ≡ (if is_absent w then Some NoRecord else None)
missing_as (waits.Record r) h = refl
missing_as waits.Absent h = refl
missing_as waits.Broken h = absurd (cc)

talk_of : (d : Disk) (x : Channel) (y : machine.Channel) → ChannelStands x y → WaitsFor d x → talk_refusal d y ≡ talk_refused x
talk_of d code.Closed y h w = ap (talk_refusal d) h
talk_of d (code.Listing l) y h w = ap (talk_refusal d) h
talk_of d (code.File s r) y h w = ap (talk_refusal d) h.1
talk_of d (code.Writing v full) y h w = ap (talk_refusal d) h.2
talk_of d (code.Stopped s) y h w = ap (talk_refusal d) h
talk_of d (code.Records r) y h w =
    ap (talk_refusal d) h ∙ ap (λ (o : Option (List ℕ)). if is_some o then None else Some NoRecord) (record_on d r w) ∙ missing_as r.waiting w.waits.whole

pub relative_of : (x : Channel) (y : machine.Channel) → ChannelStands x y → is_relative_channel y ≡ has_records x
relative_of = by_kind (λ x y. is_relative_channel y ≡ has_records x) refl (λ l. refl) (λ slot r left. refl) (λ w full bytes blocks. refl) (λ slot. refl) (λ r. refl)

-- a text changes nothing of a channel that has no records
pub record_of_none : (ch : ℕ) (text : List ℕ) (m : Machine) (y : machine.Channel) → is_relative_channel y ≡ false → write_record ch y text m ≡ m
record_of_none ch text m Closed e = refl
record_of_none ch text m (machine.Reading s left) e = refl
record_of_none ch text m (machine.Writing s bytes blocks full replaces) e = refl
record_of_none ch text m (machine.Stopped s) e = refl
record_of_none ch text m (Relative s k p) e = absurd (cc)

-- ---- the calls on channels 0 to 14

module _ (ch : ℕ) (m : Machine) (x : Channel) (other : (ch == 15) ≡ false) (stands : ChannelStands x (channel m ch)) where
  listen_is : (b : Bool) → is_written x ≡ b → after_listen ch m ≡ only_refused (if b then None else Some FileNotOpen) m
  listen_is b e = rw other (ap (λ r. only_refused r m) (listen_of x (channel m ch) stands ∙ ap (λ (t : Bool). if t then None else Some FileNotOpen) e))

  pub listen_written : is_written x ≡ true → after_listen ch m ≡ m
  listen_written e = listen_is true e

  pub listen_other : is_written x ≡ false → after_listen ch m ≡ say FileNotOpen m
  listen_other e = listen_is false e

  talk_is : (w : WaitsFor m.disk x) (o : Option Code) → talk_refused x ≡ o → after_talk ch m ≡ only_refused o m
  talk_is w o e = rw other (ap (λ r. only_refused r m) (talk_of m.disk x (channel m ch) stands w ∙ e))

  pub talk_fine : WaitsFor m.disk x → talk_refused x ≡ None → after_talk ch m ≡ m
  talk_fine w e = talk_is w None e

  pub talk_said : (code : Code) → WaitsFor m.disk x → talk_refused x ≡ Some code → after_talk ch m ≡ say code m
  talk_said code w e = talk_is w (Some code) e

  pub put_other : (b : ℕ) → has_records x ≡ false → put ch b m ≡ put_on ch b (channel m ch) m
  put_other b e = let plain = relative_of x (channel m ch) stands ∙ e in rw (other, plain)

  pub put_records : (b : ℕ) → has_records x ≡ true → put ch b m ≡ gather ch b m
  put_records b e = let relative = relative_of x (channel m ch) stands ∙ e in rw (other, relative)

  pub peek_other : peek ch m ≡ peek_on m.disk (channel m ch)
  peek_other = rw other

  pub taken_other : taken ch m ≡ with_channel ch (taken_on m.disk (channel m ch)) m
  taken_other = rw other

-- what isn't there is none
pub none_of : {A : Type 0} (o : Option A) → ((x : A) → o ≡ Some x → ⊥) → o ≡ None
none_of None none = refl
none_of (Some x) none = absurd (none x refl)

-- ---- channel 15, and past it

pub listen_15 : (ch : ℕ) (m : Machine) → ch ≡ 15 → after_listen ch m ≡ m
listen_15 ch m e = rw e refl

pub put_15 : (ch b : ℕ) (m : Machine) → ch ≡ 15 → put ch b m ≡ gather ch b m
put_15 ch b m e = rw e refl

pub talk_15 : (ch : ℕ) (m : Machine) → ch ≡ 15 → after_talk ch m ≡ m
talk_15 ch m e = rw e refl

-- P finds no channel
pub place_none : (ch k p : ℕ) (m : Machine) → 15 ≤ ch → channel m ch ≡ Closed → answered m (run (Position ch k p) m) ≡ say NoChannel m
place_none ch k p m far e = by_test (ch == 15)
  where
    by_test : (b : Bool) → answered m (if b then Err NoChannel else place ch k p (channel m ch) m) ≡ say NoChannel m
    by_test true = refl
    by_test false = rw e refl

-- the end of what was put
pub store_command : (ch : ℕ) (w : List ℕ) (m : Machine) → 1 ≤ length w → (ch == 15) ≡ true → store_text ch w m ≡ command w (without_text ch m)
store_command ch [] m some e = absurd (omega (arith, some))
store_command ch (c ∷ w) m some e = rw e refl

pub store_records : (ch : ℕ) (w : List ℕ) (m : Machine) → 1 ≤ length w → (ch == 15) ≡ false → store_text ch w m ≡ write_record ch (channel m ch) w (without_text ch m)
store_records ch [] m some e = absurd (omega (arith, some))
store_records ch (c ∷ w) m some e = rw e refl

pub store_nothing : (ch : ℕ) (w : List ℕ) (m : Machine) → w ≡ [] → store_text ch w m ≡ m
store_nothing ch w m e = ap (λ v. store_text ch v m) e
