-- Parts of a call one after another.
use Rattle.std.proofs.Common.{◌≡◌, ◌≢◌, ◌⊎◌, ℕ, ◌*◌, ◌<◌, ◌≤◌, Bool, true, false, List, [], ◌∷◌, ◌++◌, length, Result, refl, sym, ap, ◌∙◌, subst, arith, inl, inr}
use Rattle.cbm_medium.specs.Seen.{Seen, HasFailed, Outside, formatted_outside}
use Rattle.cbm_medium.specs.declared.fault.Trouble.{Trouble}
use Rattle.cbm_medium.proofs.Sequences.{readable_after, readable_same}
use Rattle.std.specs.Prelude.{◌==◌, Option, Some, None, slice_set, slice_index_or}
use Rattle.std.proofs.lemmas.Bool.{and_parts}
use Rattle.cbm_channel.specs.Commanded.{end_formats}
use Rattle.cbm_machine.specs.Plans.{open_text}
use Rattle.cbm_machine.specs.Calls.{command, end_put, text_for}
use Rattle.cbm_machine.specs.Records.{write_record}
use Rattle.std.proofs.lemmas.List.{get_or-set_same, get_or-set_other}
use Rattle.cbm_file.specs.Files.{Disk, file_at}
use Rattle.cbm_volume.specs.Writers.{known}
use Rattle.cbm_machine.specs.Statuses.{return}
use Rattle.cbm_machine.specs.Machines.{Machine, Channel, Closed, Reading, Writing, Stopped, Relative, channel, with_channel, with_disk}
use Rattle.cbm_machine.specs.Closing.{put_on, with_some_byte, finish_channel, close_one, without_text}
use Rattle.cbm_channel.specs.declared.channel.Channel.TheVariants as code
use Rattle.cbm_channel.specs.declared.channel.Channel as kept
use Rattle.cbm_channel.specs.ChannelCalls.{KeepsElse}
use Rattle.cbm_channel.specs.Written.{disk_closed}
use Rattle.cbm_channel.proofs.Finished.{finish_law}
use Rattle.cbm_channel.proofs.Stands.{zip_at}
use Rattle.cbm_channel.specs.Standing.{Kept, ChannelStands, Stands}
use Rattle.cbm_channel.specs.Going.{EndsPut, IsRecordStopped, IsStopped, Passes, PassesAll, WentFrom, Went, Goes, GoesFrom, opening_parts, IsOutsideKept, KeepsMedium, some_byte_put}

-- a part by another name, from this machine
pub part_same : (failed : Type 0) (ch : ℕ) (part part' : Machine → Machine) (m n : Machine) → part' m ≡ part m → Passes failed ch part m n → Passes failed ch part' m n
part_same failed ch part part' m n e (inl x) = inl (x ∙ sym e)
part_same failed ch part part' m n e (inr x) = inr (x.0, subst (λ y. IsStopped ch m y n) (sym e) x.1)

-- a failure in a part is one in the whole
pub passes_on : (failed failed' : Type 0) (ch : ℕ) (part : Machine → Machine) (m n : Machine) → (failed → failed') → Passes failed ch part m n → Passes failed' ch part m n
passes_on failed failed' ch part m n f (inl x) = inl x
passes_on failed failed' ch part m n f (inr x) = inr (f x.0, x.1)

-- the medium fails no less often after all parts
pub rises : (a b : Seen) (parts : List (ℕ × (Machine → Machine))) (m n : Machine) → PassesAll a b parts m n → a.failures ≤ b.failures
rises a b [] m n h = h.1
rises a b (x ∷ parts) m n h = let more : h.0.failures ≤ b.failures = rises h.0 b parts h.2 n h.4 in omega (arith, h.1, more)

-- a failure early, and late
pub early : (a b c : Seen) → b.failures ≤ c.failures → HasFailed a b → HasFailed a c
early a b c le h = omega (arith, h, le)

pub late : (a b c : Seen) → a.failures ≤ b.failures → HasFailed b c → HasFailed a c
late a b c le h = omega (arith, h, le)

-- one part is a call of one
pub one_part : (a b : Seen) (ch : ℕ) (part : Machine → Machine) (m n : Machine) → a.failures ≤ b.failures → Passes (HasFailed a b) ch part m n → PassesAll a b ((ch, part) ∷ []) m n
one_part a b ch part m n le p = (b, le, n, p, (refl, omega arith))

pub went_goes : {M : Type 0} {formats : Bool} (seen : M → Seen) (old new : Kept M) (ch : ℕ) (part : Machine → Machine) → KeepsMedium formats (seen old.medium) (seen new.medium) → Went seen old new ch part → Goes seen old new ((ch, part) ∷ [])
went_goes seen old new ch part k w m s = let x = w m s in (x.0, one_part (seen old.medium) (seen new.medium) ch part m x.0 k.counted x.1, x.2)

-- one more part after those
pub all_more : (a b c : Seen) (parts : List (ℕ × (Machine → Machine))) (ch : ℕ) (part : Machine → Machine) (m k n : Machine) → b.failures ≤ c.failures → PassesAll a b parts m k → Passes (HasFailed b c) ch part k n → PassesAll a c (parts ++ (ch, part) ∷ []) m n
all_more a b c [] ch part m k n le h p =
    let first : a.failures ≤ b.failures = h.1 in
    one_part a c ch part m n (omega (arith, first, le)) (passes_on _ _ ch part m n (late a b c first) (subst (λ y. Passes (HasFailed b c) ch part y n) h.0 p))
all_more a b c (x ∷ parts) ch part m k n le h p = (h.0, h.1, h.2, h.3, all_more h.0 b c parts ch part h.2 k n le h.4 p)

-- ---- CLOSE of a channel

-- what is near to a machine: a byte more on one channel
record IsNear (ch : ℕ) (m n : Machine) : Type 0 where
  pub slots : (slot : ℕ) → file_at n.disk slot ≡ file_at m.disk slot
  pub tracks : n.tracks ≡ m.tracks
  pub protection : n.protected ≡ m.protected
  pub others : (k : ℕ) → k ≢ ch → channel n k ≡ channel m k

near_itself : (ch : ℕ) (m : Machine) → IsNear ch m m
near_itself ch m = record { slots = λ slot. refl; tracks = refl; protection = refl; others = λ k ne. refl }

near_put : (ch byte : ℕ) (x : Channel) (m : Machine) → IsNear ch m (put_on ch byte x m)
near_put ch byte Closed m = near_itself ch m
near_put ch byte (Reading s left) m = near_itself ch m
near_put ch byte (Stopped s) m = near_itself ch m
near_put ch byte (Relative s k p) m = near_itself ch m
near_put ch byte (Writing s bytes blocks true replaces) m = near_itself ch m
near_put ch byte (Writing s bytes blocks false replaces) m = by_need (length bytes == 254 * blocks) (m.disk.free == 0) refl refl
  where
    other : (y : Channel) (k : ℕ) → k ≢ ch → slice_index_or (slice_set m.channels ch y) k Closed ≡ slice_index_or m.channels k Closed
    other y k ne = get_or-set_other m.channels ch k y Closed ne

    by_need : (b f : Bool) → (length bytes == 254 * blocks) ≡ b → (m.disk.free == 0) ≡ f → IsNear ch m (put_on ch byte (Writing s bytes blocks false replaces) m)
    by_need false f e g = rw e (record { slots = λ slot. refl; tracks = refl; protection = refl; others = λ k ne. other _ k ne })
    by_need true true e g = rw (e, g) (record { slots = λ slot. refl; tracks = refl; protection = refl; others = λ k ne. other _ k ne })
    by_need true false e g = rw (e, g) (record { slots = λ slot. refl; tracks = refl; protection = refl; others = λ k ne. other _ k ne })

near_some : (ch : ℕ) (x : Channel) (m : Machine) → IsNear ch m (with_some_byte ch x m)
near_some ch Closed m = near_itself ch m
near_some ch (Reading s left) m = near_itself ch m
near_some ch (Stopped s) m = near_itself ch m
near_some ch (Relative s k p) m = near_itself ch m
near_some ch (Writing s [] blocks full replaces) m = near_put ch return (Writing s [] blocks full replaces) m
near_some ch (Writing s (b ∷ bytes) blocks full replaces) m = near_itself ch m

-- a channel that is closed, or takes no more bytes: CLOSE writes nothing
quiet : {W : ℕ → Type 0} (d : Disk) (x : Channel) → (x ≡ Closed) ⊎ ((slot : ℕ) × (x ≡ Stopped slot) × W slot) → disk_closed d x ≡ d
quiet d x (inl e) = ap (disk_closed d) e
quiet d x (inr e) = ap (disk_closed d) e.1

module _ (failed : Type 0) (ch : ℕ) (m n1 n2 : Machine) (closed : channel n2 ch ≡ Closed) where
  finish_else : (k : ℕ) → k ≢ ch → channel (finish_channel ch n1) k ≡ channel n1 k
  finish_else k ne = ap (λ (y : Machine). channel y k) (finish_law ch n1 (channel n1 ch) refl) ∙ get_or-set_other n1.channels ch k Closed Closed ne

  -- the return was put, and then CLOSE was stopped
  stopped_late : n1 ≡ some_byte_put ch m → IsStopped ch n1 (finish_channel ch n1) n2 → IsStopped ch m (close_one ch m) (without_text ch n2)
  stopped_late e s =
      let near : IsNear ch m n1 = subst (IsNear ch m) (sym e) (near_some ch (channel m ch) m) in
      let after : (slot : ℕ) → file_at (finish_channel ch n1).disk slot ≡ file_at (close_one ch m).disk slot = λ slot. ap (λ (y : Machine). file_at (finish_channel ch y).disk slot) e in
      record {
        either = λ slot. elim (s.either slot) [ inl k ↦ inl (k ∙ ap known (near.slots slot)) | inr k ↦ inr (k ∙ ap known (after slot)) ];
        same_tracks = s.same_tracks ∙ near.tracks;
        same_protection = s.same_protection ∙ near.protection;
        own = inl closed;
        others = λ k ne. s.others k ne ∙ near.others k ne;
        fault = s.fault;
      }

  -- the return was refused, and CLOSE wrote nothing
  stopped_early : IsStopped ch m (some_byte_put ch m) n1 → n2 ≡ finish_channel ch n1 → IsStopped ch m (close_one ch m) (without_text ch n2)
  stopped_early s e =
      let same : finish_channel ch n1 ≡ with_channel ch Closed (with_disk n1.disk n1) = finish_law ch n1 (channel n1 ch) refl ∙ ap (λ d. with_channel ch Closed (with_disk d n1)) (quiet n1.disk (channel n1 ch) s.own) in
      let at : n2 ≡ with_channel ch Closed (with_disk n1.disk n1) = e ∙ same in
      record {
        either = λ slot. elim (s.either slot) [
          | inl k ↦ inl (ap (λ (y : Machine). known (file_at y.disk slot)) at ∙ k)
          | inr k ↦ inl (ap (λ (y : Machine). known (file_at y.disk slot)) at ∙ k ∙ ap known ((near_some ch (channel m ch) m).slots slot))
        ];
        same_tracks = ap (λ (y : Machine). y.tracks) at ∙ s.same_tracks;
        same_protection = ap (λ (y : Machine). y.protected) at ∙ s.same_protection;
        own = inl closed;
        others = λ k ne. ap (λ (y : Machine). channel y k) e ∙ finish_else k ne ∙ s.others k ne;
        fault = (s.fault.0, ap (λ (y : Machine). y.status) at ∙ s.fault.1);
      }

  -- both were refused
  stopped_twice : IsStopped ch m (some_byte_put ch m) n1 → IsStopped ch n1 (finish_channel ch n1) n2 → IsStopped ch m (close_one ch m) (without_text ch n2)
  stopped_twice s z =
      let disk : (finish_channel ch n1).disk ≡ n1.disk = ap (λ (y : Machine). y.disk) (finish_law ch n1 (channel n1 ch) refl) ∙ quiet n1.disk (channel n1 ch) s.own in
      let second : (slot : ℕ) → known (file_at n2.disk slot) ≡ known (file_at n1.disk slot) = λ slot. elim (z.either slot) [ inl k ↦ k | inr k ↦ k ∙ ap (λ (d : Disk). known (file_at d slot)) disk ] in
      record {
        either = λ slot. elim (s.either slot) [ inl k ↦ inl (second slot ∙ k) | inr k ↦ inl (second slot ∙ k ∙ ap known ((near_some ch (channel m ch) m).slots slot)) ];
        same_tracks = z.same_tracks ∙ s.same_tracks;
        same_protection = z.same_protection ∙ s.same_protection;
        own = inl closed;
        others = λ k ne. z.others k ne ∙ s.others k ne;
        fault = z.fault;
      }

  -- CLOSE IS ONE PART of a call
  pub close_passes : Passes failed ch (some_byte_put ch) m n1 → Passes failed ch (finish_channel ch) n1 n2 → Passes failed ch (close_one ch) m (without_text ch n2)
  close_passes (inl a) (inl b) = inl (ap (without_text ch) (b ∙ ap (finish_channel ch) a))
  close_passes (inl a) (inr b) = inr (b.0, stopped_late a b.1)
  close_passes (inr a) (inl b) = inr (a.0, stopped_early a.1 b)
  close_passes (inr a) (inr b) = inr (b.0, stopped_twice a.1 b.1)

-- the machine's channel of one that the code has closed
pub closed_at : {M : Type 0} (seen : M → Seen) (k : Kept M) (n : Machine) (chs : List kept.Channel) (ch : ℕ) → Stands seen k n → k.channels ≡ slice_set chs ch code.Closed → ch < length chs → channel n ch ≡ Closed
closed_at seen k n chs ch st e lt =
    subst (λ x. ChannelStands x (channel n ch)) (ap (λ xs. slice_index_or xs ch code.Closed) e ∙ get_or-set_same chs ch code.Closed code.Closed lt) (zip_at k.channels n.channels ch st.each)

-- ---- calls in several parts

pub outside_then : (formats : Bool) (a b c : Outside) → IsOutsideKept formats a b → IsOutsideKept formats b c → IsOutsideKept formats a c
outside_then false a b c x y = y ∙ x
outside_then true a b c (inl x) (inl y) = inl (y ∙ x)
outside_then true a b c (inl x) (inr y) = inr (y ∙ ap formatted_outside x)
outside_then true a b c (inr x) (inl y) = inr (y ∙ x)
outside_then true a b c (inr x) (inr y) = inr (y ∙ ap formatted_outside x)

pub outside_free : (formats : Bool) (a b : Outside) → b ≡ a → IsOutsideKept formats a b
outside_free false a b e = e
outside_free true a b e = inl e

pub keeps_then : {formats : Bool} (a b c : Seen) → KeepsMedium formats a b → KeepsMedium formats b c → KeepsMedium formats a c
keeps_then {formats} a b c x y = record {
  tracks = y.tracks ∙ x.tracks;
  protected = y.protected ∙ x.protected;
  counted = omega (arith, x.counted, y.counted);
  readable = readable_after a.content b.content c.content x.readable y.readable;
  outside = outside_then formats a.outside b.outside c.outside x.outside y.outside;
}

pub keeps_same : {formats : Bool} (a b : Seen) → b ≡ a → KeepsMedium formats a b
keeps_same {formats} a b e = record {
  tracks = ap (λ (s : Seen). s.tracks) e;
  protected = ap (λ (s : Seen). s.protected) e;
  counted = omega (arith, ap (λ (s : Seen). s.failures) e);
  readable = readable_same a.content b.content (ap (λ (s : Seen). s.content) e);
  outside = outside_free formats a.outside b.outside (ap (λ (s : Seen). s.outside) e);
}

-- what doesn't format keeps more
pub keeps_free : {formats : Bool} (a b : Seen) → KeepsMedium false a b → KeepsMedium formats a b
keeps_free {formats} a b h = record { tracks = h.tracks; protected = h.protected; counted = h.counted; readable = h.readable; outside = outside_free formats a.outside b.outside h.outside }

-- what may format only where another may keeps no less
pub outside_more : (few many : Bool) (a b : Outside) → (few ≡ true → many ≡ true) → IsOutsideKept few a b → IsOutsideKept many a b
outside_more false many a b more h = outside_free many a b h
outside_more true many a b more h = subst (λ (x : Bool). IsOutsideKept x a b) (sym (more refl)) h

pub keeps_more : (few many : Bool) (a b : Seen) → (few ≡ true → many ≡ true) → KeepsMedium few a b → KeepsMedium many a b
keeps_more few many a b more h = record { tracks = h.tracks; protected = h.protected; counted = h.counted; readable = h.readable; outside = outside_more few many a.outside b.outside more h.outside }

-- only a text for channel 15 formats
pub ends_15 : (ch : ℕ) (text : Option (ℕ × List ℕ)) → end_formats ch text ≡ true → (ch == 15) ≡ true
ends_15 ch None h = absurd (cc)
ends_15 ch (Some t) h = (and_parts (ch == 15) _ h).0

-- what a call keeps, of the medium that the drive had and has
pub keeps_by : {M : Type 0} {formats : Bool} (seen : M → Seen) (a b before after : M) → before ≡ a → b ≡ after → KeepsMedium formats (seen before) (seen after) → KeepsMedium formats (seen a) (seen b)
keeps_by {M} {formats} seen a b before after was is h = subst (λ (m : M). KeepsMedium formats (seen m) (seen b)) was (subst (λ (m : M). KeepsMedium formats (seen before) (seen m)) (sym is) h)

pub keeps_call : {M A : Type 0} {formats : Bool} (seen : M → Seen) (a b before after : M) (r : Result A Trouble) → before ≡ a → b ≡ after → KeepsElse r (seen before) (seen after) → KeepsMedium formats (seen a) (seen b)
keeps_call {formats = formats} seen a b before after r was is h = keeps_by seen a b before after was is
    (record { tracks = h.tracks; protected = h.protected; counted = h.counted; readable = h.readable; outside = outside_free formats (seen before).outside (seen after).outside h.outside })

module _ {M : Type 0} (seen : M → Seen) (old mid new : Kept M) (parts : List (ℕ × (Machine → Machine))) (ch : ℕ) (part : Machine → Machine) where
  -- one part more
  pub goes_on : KeepsMedium false (seen old.medium) (seen mid.medium) → KeepsMedium false (seen mid.medium) (seen new.medium) → Goes seen old mid parts → Went seen mid new ch part → Goes seen old new (parts ++ (ch, part) ∷ [])
  goes_on a b h w m s =
      let x = h m s in
      let y = w x.0 x.2 in (
        y.0,
        all_more (seen old.medium) (seen mid.medium) (seen new.medium) parts ch part m x.0 y.0 b.counted x.1 y.1,
        y.2,
      )

-- a part that can't be stopped
pub leads_went : {M : Type 0} (seen : M → Seen) (old new : Kept M) (ch : ℕ) (part : Machine → Machine) → ((m : Machine) → Stands seen old m → Stands seen new (part m)) → Went seen old new ch part
leads_went seen old new ch part h m s = (part m, inl refl, h m s)

-- CLOSE, and then a part that can't be stopped
pub close_then : {M : Type 0} (seen : M → Seen) (old mid new : Kept M) (ch : ℕ) (first second : Machine → Machine) (m : Machine) → KeepsMedium false (seen old.medium) (seen mid.medium) → seen new.medium ≡ seen mid.medium → Went seen old mid ch first → Stands seen old m
    → ((n : Machine) → Stands seen mid n → Stands seen new (second n)) → GoesFrom seen old new ((ch, first) ∷ (ch, second) ∷ []) m
close_then seen old mid new ch first second m a same w s h =
    let x = w m s in
    let le : (seen mid.medium).failures ≤ (seen new.medium).failures = omega (arith, ap (λ (v : Seen). v.failures) same) in
    (second x.0, (seen mid.medium, a.counted, x.0, x.1, one_part (seen mid.medium) (seen new.medium) ch second x.0 (second x.0) le (inl refl)), h x.0 x.2)

-- CLOSE, and then a part that may be stopped
pub close_begin : {M : Type 0} (seen : M → Seen) (old mid new : Kept M) (ch : ℕ) (first second : Machine → Machine) (m : Machine) → KeepsMedium false (seen old.medium) (seen mid.medium) → KeepsMedium false (seen mid.medium) (seen new.medium) → Went seen old mid ch first → Stands seen old m
    → ((n : Machine) → Stands seen mid n → WentFrom seen mid new ch second n) → GoesFrom seen old new ((ch, first) ∷ (ch, second) ∷ []) m
close_begin seen old mid new ch first second m a b w s h =
    let x = w m s in
    let y = h x.0 x.2 in
    (y.0, (seen mid.medium, a.counted, x.0, x.1, one_part (seen mid.medium) (seen new.medium) ch second x.0 y.0 b.counted y.1), y.2)

pub parts_other : (ch : ℕ) (text : List ℕ) → (ch == 15) ≡ false → opening_parts ch text ≡ (ch, close_one ch) ∷ (ch, open_text ch text) ∷ []
parts_other ch text e = rw e refl

pub parts_command : (ch : ℕ) (text : List ℕ) → (ch == 15) ≡ true → opening_parts ch text ≡ (15, command text) ∷ []
parts_command ch text e = rw e refl

-- ---- a text that was gathered

stopped_from : (ch number : ℕ) (m after now : Machine) → IsStopped ch (without_text number m) after now → IsStopped ch m after now
stopped_from ch number m after now s = record { either = s.either; same_tracks = s.same_tracks; same_protection = s.same_protection; own = s.own; others = s.others; fault = s.fault }

-- the text is dropped, and then carried out
pub text_passes : (failed : Type 0) (ch number : ℕ) (part whole : Machine → Machine) (m n : Machine) → whole m ≡ part (without_text number m) → Passes failed ch part (without_text number m) n → Passes failed ch whole m n
text_passes failed ch number part whole m n e (inl x) = inl (x ∙ sym e)
text_passes failed ch number part whole m n e (inr x) = inr (x.0, subst (λ y. IsStopped ch m y n) (sym e) (stopped_from ch number m (part (without_text number m)) n x.1))

stopped_record : (ch number : ℕ) (whole : List ℕ) (m now : Machine) → IsRecordStopped ch whole (without_text number m) now → IsRecordStopped ch whole m now
stopped_record ch number whole m now s = record {
  slot = s.slot;
  record_number = s.record_number;
  position = s.position;
  place = s.place;
  width = s.width;
  records = s.records;
  blocks = s.blocks;
  sides = s.sides;
  body = s.body;
  disk = s.disk;
  same_channels = s.same_channels;
  same_tracks = s.same_tracks;
  same_protection = s.same_protection;
  fault = s.fault;
}

-- the text is dropped, and is then one write of a record
pub record_ends : (failed failed' : Type 0) (ch : ℕ) (m now : Machine) → (failed → failed') → end_put ch m ≡ write_record ch (channel m ch) (text_for ch m.text) (without_text ch m)
    → (now ≡ write_record ch (channel m ch) (text_for ch m.text) (without_text ch m)) ⊎ (failed × IsRecordStopped ch (text_for ch m.text) (without_text ch m) now) → EndsPut failed' ch m now
record_ends failed failed' ch m now f law (inl e) = inl (inl (e ∙ sym law))
record_ends failed failed' ch m now f law (inr s) = inr (f s.0, stopped_record ch ch (text_for ch m.text) m now s.1)
