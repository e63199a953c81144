-- The rest of a disk stays: a call of the volume changes at most what the disk's own tracks hold, and leaves a disk of as many blocks; and
-- each closed file stays in place but for those that the call is for.
use Rattle.std.proofs.Common.{◌≡◌, ◌≢◌, ℕ, List, Bool, true, false, refl, sym, ap, ◌∙◌, subst, arith, inl, inr, Option, None, Some, Result, Ok, Err, IfOk, OnErr}
use Rattle.std.specs.Prelude.{◌+◌, ◌==◌, ◌||◌, max, IfErr, MatchBool, MatchOption, MatchResult, is_none, option_map}
use Rattle.std.proofs.lemmas.Bool.{eq-eqb}
use Rattle.std.proofs.lemmas.Bool.Decides.{eqb_tells}
use Rattle.cbm_medium.specs.Content.{Content}
use Rattle.cbm_medium.specs.Seen.{Seen, OnlyContent}
use Rattle.cbm_medium.specs.declared.fault.Trouble.{Trouble}
use Rattle.cbm_file.specs.declared.file_type.FileType.{FileType}
use Rattle.cbm_file.specs.declared.file_type.FileType.TheVariants.{Del, Rel}
use Rattle.cbm_file.specs.Types.{is_same_type}
use Rattle.cbm_file.specs.Files.{Body, File, Disk, empty_from, file_at}
use Rattle.cbm_file.specs.Records.{with_body, with_sized_body}
use Rattle.cbm_file.specs.Changes.{grown, scratched_in, finished_in, replaced_in}
use Rattle.cbm_bam.specs.Map.{geometry_of}
use Rattle.cbm_volume.specs.Calls.{IsCall, IsChange, LeavesFiles, LeavesOthers}
use Rattle.cbm_volume.specs.Staying.{StaysInPlace}
use Rattle.cbm_volume.specs.Writers.{Filling, Use, Idle, Writes, IsUsed, HoldsNow, Stopped, IsStored, IsFullDisk, needs_block, one_block_less}
use Rattle.cbm_volume.specs.Growth.{IsGrowth, IsGrowthCut, IsTooLarge, with_growth}
use Rattle.cbm_volume.specs.Opens.{BeginsFile, CanBeWritten}
use Rattle.cbm_volume.specs.RecordWrites.{IsRecordPut, IsRecordCut}
use Rattle.cbm_volume.proofs.layouts.Sizes.{same_size}
use Rattle.cbm_volume.proofs.layouts.Staying.{stays_same, stays_then}
use Rattle.cbm_channel.specs.ChannelCalls.{KeepsOutside, KeepsRest, no_slot}

-- ---- closed files

either : (a b : Bool) → a ≡ false → b ≡ false → (a || b) ≡ false
either a b p q = rw (p, q) refl

-- nothing has changed
pub stays_as : (tracks : ℕ) (c c' : Content) (but : ℕ → Bool) → c' ≡ c → StaysInPlace tracks c c' but
stays_as tracks c c' but e tracks' l l' s s' = stays_same tracks c c' l but s e tracks' l l' s s'

-- more slots may go
pub stays_more : (tracks : ℕ) (c c' : Content) (less but : ℕ → Bool) → ((n : ℕ) → but n ≡ false → less n ≡ false) → StaysInPlace tracks c c' less → StaysInPlace tracks c c' but
stays_more tracks c c' less but more h tracks' l l' s s' n there closed free = h tracks' l l' s s' n there closed (more n free)

-- the two numbers the other way round
pub turned_free : (m n : ℕ) → (n == m) ≡ false → (m == n) ≡ false
turned_free m n e = elim (eqb_tells m n) [
  | inl same ↦ absurd (let z = sym (eq-eqb n m (sym same.1)) ∙ e in (cc))
  | inr other ↦ other.0
]

pub turned : (tracks : ℕ) (c c' : Content) (n : ℕ) → StaysInPlace tracks c c' (λ m. m == n) → StaysInPlace tracks c c' (λ m. n == m)
turned tracks c c' n h = stays_more tracks c c' (λ m. m == n) (λ m. n == m) (λ m e. turned_free m n e) h

-- ---- the rest

-- nothing has changed
outside_same : (old new : Seen) → new.tracks ≡ old.tracks → new.content ≡ old.content → new.outside ≡ old.outside → KeepsOutside old new
outside_same old new tracks content bytes = record {
  size = (λ i. geometry_of (tracks i) (content i));
  beyond = record { same = λ p past. ap (λ (c : Content). c p) content };
  bytes = bytes;
}

pub rest_same : {but : ℕ → Bool} (old new : Seen) → new.tracks ≡ old.tracks → new.content ≡ old.content → new.outside ≡ old.outside → KeepsRest old new but
rest_same {but} old new tracks content bytes = record { outside = outside_same old new tracks content bytes; in_place = stays_as (geometry_of old.tracks old.content) old.content new.content but content }

pub rest_itself : {but : ℕ → Bool} (old new : Seen) → new ≡ old → KeepsRest old new but
rest_itself old new e = rest_same old new (ap (λ (s : Seen). s.tracks) e) (ap (λ (s : Seen). s.content) e) (ap (λ (s : Seen). s.outside) e)

-- more slots may go
pub rest_more : (less : ℕ → Bool) {but : ℕ → Bool} (old new : Seen) → ((n : ℕ) → but n ≡ false → less n ≡ false) → KeepsRest old new less → KeepsRest old new but
rest_more less {but} old new more k = record { outside = k.outside; in_place = stays_more (geometry_of old.tracks old.content) old.content new.content less but more k.in_place }

-- so where none may
pub rest_none : {but : ℕ → Bool} (old new : Seen) → KeepsRest old new no_slot → KeepsRest old new but
rest_none old new k = rest_more no_slot old new (λ n free. refl) k

outside_then : (old mid new : Seen) → KeepsOutside old mid → KeepsOutside mid new → KeepsOutside old new
outside_then old mid new a b = record {
  size = b.size ∙ a.size;
  beyond = record { same = λ p past. b.beyond.same p (omega (arith, past, a.size)) ∙ a.beyond.same p past };
  bytes = b.bytes ∙ a.bytes;
}

-- one call after another, over the disk that the first one leaves
pub rest_then : (one two : ℕ → Bool) {but : ℕ → Bool} (old mid new : Seen) (d : Disk) (uses : ℕ → Use) → HoldsNow mid.tracks mid.content d uses → ((n : ℕ) → but n ≡ false → (one n ≡ false) × (two n ≡ false)) → KeepsRest old mid one → KeepsRest mid new two → KeepsRest old new but
rest_then one two {but} old mid new d uses h both a b = record {
  outside = outside_then old mid new a.outside b.outside;
  in_place = stays_more (geometry_of old.tracks old.content) old.content new.content (λ n. one n || two n) but (λ n free. either (one n) (two n) (both n free).0 (both n free).1)
      (stays_then (geometry_of old.tracks old.content) (geometry_of mid.tracks mid.content) old.content mid.content new.content h.layout one two a.in_place h.so.stands.sound b.in_place);
}

-- the medium as the caller knows it
pub rest_seen : {M : Type 0} {but : ℕ → Bool} (seen : M → Seen) (old new here then : M) → here ≡ old → new ≡ then → KeepsRest (seen here) (seen then) but → KeepsRest (seen old) (seen new) but
rest_seen {M} {but} seen old new here then e f k = subst (λ x. KeepsRest (seen x) (seen new) but) e (subst (λ x. KeepsRest (seen here) (seen x) but) (sym f) k)

-- ---- a call of the volume

-- the medium holds a disk of as many blocks, whichever
pub record HoldsSized (medium : ℕ) (c : Content) (d : Disk) : Type 0 where
  pub disk : Disk
  pub uses : ℕ → Use
  pub holds : HoldsNow medium c disk uses
  pub total : disk.total ≡ d.total

pub outside_held : {disk : ℕ} {A : Type 0} (r : Result A Trouble) (old new : Seen) (d : Disk) (uses : ℕ → Use) → OnlyContent disk r old new → disk ≡ geometry_of old.tracks old.content → HoldsNow old.tracks old.content d uses → HoldsSized old.tracks new.content d → KeepsOutside old new
outside_held r old new d uses only size h then = record {
  size = ap (λ (t : ℕ). geometry_of t new.content) only.tracks ∙ same_size old.tracks old.tracks old.content new.content d then.disk uses then.uses h then.holds then.total;
  beyond = record { same = λ p past. only.beyond.same p (omega (arith, past, size)) };
  bytes = only.outside;
}

stopped_sized : (medium : ℕ) (c : Content) (before after : Disk) (uses : ℕ → Use) → Stopped medium c before after uses → HoldsSized medium c before
stopped_sized medium c before after uses s = record { disk = s.disk; uses = uses; holds = s.holds; total = s.total }

-- done, it holds this disk; or it was stopped
pub call_sized : {A : Type 0} (r : Result A Trouble) (old new : Seen) (Done : A → Type 0) (d before after : Disk) (uses : ℕ → Use) (but : ℕ → Bool) → IsCall r old new Done (Stopped old.tracks new.content before after uses) but → before ≡ d → ((x : A) → Done x → HoldsSized old.tracks new.content d) → HoldsSized old.tracks new.content d
call_sized r old new Done d before after uses but call same done = by_result r call.done call.stopped
  where
    by_result : (q : Result _ Trouble) → IfOk q Done → OnErr q (Stopped old.tracks new.content before after uses) → HoldsSized old.tracks new.content d
    by_result (Ok x) k s = done x k
    by_result (Err t) k s = subst (HoldsSized old.tracks new.content) same (stopped_sized old.tracks new.content before after uses s)

-- a call that makes one disk of another
pub change_rest : {disk : ℕ} (r : Result (Unit {0}) Trouble) (old new : Seen) (d after : Disk) (uses uses' : ℕ → Use) (but : ℕ → Bool) → OnlyContent disk r old new → disk ≡ geometry_of old.tracks old.content → HoldsNow old.tracks old.content d uses → IsChange r old new d after uses' but → after.total ≡ d.total → KeepsRest old new but
change_rest r old new d after uses uses' but only size h call total = record {
  in_place = call.untouched.stays;
  outside =
      outside_held r old new d uses only size h (call_sized r old new (λ x. HoldsNow old.tracks new.content after uses') d d after uses' but call refl (λ x k. record { disk = after; uses = uses'; holds = k; total = total }));
}

-- a channel writes on a disk of as many tracks
pub writer_size : (medium : ℕ) (c : Content) (d : Disk) (uses : ℕ → Use) (ch : ℕ) (w : Filling) (bytes : List ℕ) (blocks : ℕ) → HoldsNow medium c d uses → uses ch ≡ Writes w bytes blocks → w.chain.tracks ≡ geometry_of medium c
writer_size medium c d uses ch w bytes blocks h e = (subst (λ (u : Use). IsUsed (geometry_of medium c) c h.layout d ch u) e (h.so.each ch)).same_tracks

pub max_size : (m n : ℕ) → m ≡ n → max m n ≡ n
max_size m n e = omega (arith, e)

-- ---- disks of as many blocks

pub less_total : (b : Bool) (d : Disk) → (one_block_less b d).total ≡ d.total
less_total true d = refl
less_total false d = refl

pub scratched_total : (o : Option File) (d : Disk) (n : ℕ) → (scratched_in o d n).total ≡ d.total
scratched_total None d n = refl
scratched_total (Some f) d n = refl

pub finished_total : (o : Option File) (d : Disk) (n : ℕ) (bytes : List ℕ) (blocks : ℕ) → (finished_in o d n bytes blocks).total ≡ d.total
finished_total None d n bytes blocks = refl
finished_total (Some f) d n bytes blocks = refl

pub replaced_total : (o : Option File) (d : Disk) (n : ℕ) (bytes : List ℕ) (blocks : ℕ) → (replaced_in o d n bytes blocks).total ≡ d.total
replaced_total None d n bytes blocks = refl
replaced_total (Some f) d n bytes blocks = refl

pub grown_total : (d : Disk) → (grown d).total ≡ d.total
grown_total d = by_none (is_none (empty_from 0 d.slots)) refl
  where
    by_none : (b : Bool) → is_none (empty_from 0 d.slots) ≡ b → (grown d).total ≡ d.total
    by_none true e = rw e refl
    by_none false e = rw e refl

-- ---- what the calls of the volume leave

stored_sized : (medium : ℕ) (c c' : Content) (d : Disk) (uses : ℕ → Use) (ch : ℕ) (v w : Filling) (bytes : List ℕ) (blocks byte : ℕ) (done : Bool) → HoldsNow medium c d uses → MatchBool done (IsStored medium c' d uses ch w bytes blocks byte) (IsFullDisk c c' d v w bytes blocks) → HoldsSized medium c' d
stored_sized medium c c' d uses ch v w bytes blocks byte true h k = record { disk = _; uses = _; holds = k.holds; total = less_total (needs_block bytes blocks) d }
stored_sized medium c c' d uses ch v w bytes blocks byte false h k = record { disk = d; uses = uses; holds = subst (λ (x : Content). HoldsNow medium x d uses) (sym k.same) h; total = refl }

pub store_rest : {disk : ℕ} (r : Result Bool Trouble) (old new : Seen) (d : Disk) (uses uses' : ℕ → Use) (ch : ℕ) (v w : Filling) (bytes : List ℕ) (blocks byte : ℕ) (but : ℕ → Bool) → OnlyContent disk r old new → disk ≡ geometry_of old.tracks old.content → HoldsNow old.tracks old.content d uses
    → IsCall r old new (λ done. MatchBool done (IsStored old.tracks new.content d uses ch w bytes blocks byte) (IsFullDisk old.content new.content d v w bytes blocks)) (Stopped old.tracks new.content d d uses') but → KeepsRest old new but
store_rest r old new d uses uses' ch v w bytes blocks byte but only size h call = record {
  in_place = call.untouched.stays;
  outside =
      outside_held r old new d uses only size h (call_sized r old new _ d d d uses' but call refl (λ done k. stored_sized old.tracks old.content new.content d uses ch v w bytes blocks byte done h k));
}

pub given_rest : {disk : ℕ} (r : Result (Unit {0}) Trouble) (old new : Seen) (d : Disk) (uses uses' : ℕ → Use) (blocks : ℕ) (but : ℕ → Bool) → OnlyContent disk r old new → disk ≡ geometry_of old.tracks old.content → HoldsNow old.tracks old.content d uses
    → IsCall r old new (λ x. HoldsNow old.tracks new.content (record d { free = d.free + blocks }) uses') (Stopped old.tracks new.content d d uses') but → KeepsRest old new but
given_rest r old new d uses uses' blocks but only size h call = record {
  in_place = call.untouched.stays;
  outside =
      outside_held r old new d uses only size h (call_sized r old new _ d d d uses' but call refl (λ x k. record { disk = _; uses = _; holds = k; total = refl }));
}

-- a call that may find no room
pub copy_rest : {disk : ℕ} (r : Result Bool Trouble) (old new : Seen) (d after : Disk) (uses : ℕ → Use) (none : Type 0) (but : ℕ → Bool) → OnlyContent disk r old new → disk ≡ geometry_of old.tracks old.content → HoldsNow old.tracks old.content d uses
    → IsCall r old new (λ done. MatchBool done (HoldsNow old.tracks new.content after uses) (none × (new.content ≡ old.content))) (Stopped old.tracks new.content d after uses) but → after.total ≡ d.total → KeepsRest old new but
copy_rest r old new d after uses none but only size h call total = record { in_place = call.untouched.stays; outside = outside_held r old new d uses only size h (call_sized r old new _ d d after uses but call refl by_done) }
  where
    by_done : (done : Bool) → MatchBool done (HoldsNow old.tracks new.content after uses) (none × (new.content ≡ old.content)) → HoldsSized old.tracks new.content d
    by_done true k = record { disk = after; uses = uses; holds = k; total = total }
    by_done false k = record { disk = d; uses = uses; holds = subst (λ (x : Content). HoldsNow old.tracks x d uses) (sym k.1) h; total = refl }

pub made_rest : {disk : ℕ} (r : Result (Option ℕ) Trouble) (old new : Seen) (d after : Disk) (uses : ℕ → Use) (none : Type 0) (some : ℕ → Type 0) (but : ℕ → Bool) → OnlyContent disk r old new → disk ≡ geometry_of old.tracks old.content → HoldsNow old.tracks old.content d uses
    → IsCall r old new (λ o. MatchOption o (none × (new.content ≡ old.content)) (λ slot. some slot × HoldsNow old.tracks new.content after uses)) (Stopped old.tracks new.content d after uses) but → after.total ≡ d.total → KeepsRest old new but
made_rest r old new d after uses none some but only size h call total = record { in_place = call.untouched.stays; outside = outside_held r old new d uses only size h (call_sized r old new _ d d after uses but call refl by_option) }
  where
    by_option : (o : Option ℕ) → MatchOption o (none × (new.content ≡ old.content)) (λ slot. some slot × HoldsNow old.tracks new.content after uses) → HoldsSized old.tracks new.content d
    by_option (Some slot) k = record { disk = after; uses = uses; holds = k.1; total = total }
    by_option None k = record { disk = d; uses = uses; holds = subst (λ (x : Content). HoldsNow old.tracks x d uses) (sym k.1) h; total = refl }

-- a channel begins to write, or nothing has changed
pub begun_rest : {disk : ℕ} (r : Result (Option Filling) Trouble) (old new : Seen) (d after : Disk) (uses : ℕ → Use) (ch slot : ℕ) (replaces : Bool) (bytes : List ℕ) (blocks : ℕ) (none : Type 0) → OnlyContent disk r old new → disk ≡ geometry_of old.tracks old.content → HoldsNow old.tracks old.content d uses
    → IfOk r (λ o. MatchOption o (none × (new.content ≡ old.content)) (BeginsFile old.tracks new.content after uses ch slot replaces bytes blocks)) → OnErr r (HoldsSized old.tracks new.content d) → after.total ≡ d.total → LeavesFiles old new (λ m. false) → KeepsRest old new (λ m. false)
begun_rest r old new d after uses ch slot replaces bytes blocks none only size h done stopped total files = record { in_place = files.stays; outside = outside_held r old new d uses only size h (by_result r done stopped) }
  where
    by_result : (q : Result (Option Filling) Trouble) → IfOk q (λ o. MatchOption o (none × (new.content ≡ old.content)) (BeginsFile old.tracks new.content after uses ch slot replaces bytes blocks)) → OnErr q (HoldsSized old.tracks new.content d) → HoldsSized old.tracks new.content d
    by_result (Ok (Some w)) k s = record { disk = after; uses = _; holds = k.holds; total = total }
    by_result (Ok None) k s = record { disk = d; uses = uses; holds = subst (λ (x : Content). HoldsNow old.tracks x d uses) (sym k.1) h; total = refl }
    by_result (Err t) k s = s

pub same_sized : {A : Type 0} (r : Result A Trouble) (medium : ℕ) (c c' : Content) (d : Disk) (uses : ℕ → Use) → HoldsNow medium c d uses → OnErr r (c' ≡ c) → OnErr r (HoldsSized medium c' d)
same_sized (Ok x) medium c c' d uses h s = tt
same_sized (Err t) medium c c' d uses h s = record { disk = d; uses = uses; holds = subst (λ (x : Content). HoldsNow medium x d uses) (sym s) h; total = refl }

pub cut_sized : {A : Type 0} (r : Result A Trouble) (medium : ℕ) (c : Content) (before after : Disk) (uses : ℕ → Use) → OnErr r (Stopped medium c before after uses) → OnErr r (HoldsSized medium c before)
cut_sized (Ok x) medium c before after uses s = tt
cut_sized (Err t) medium c before after uses s = stopped_sized medium c before after uses s

-- the premises of an OPEN are met
pub begun_write : {A : Type 0} (r : Result A Trouble) (uses : ℕ → Use) (kind : FileType) (Q : ℕ → A → Type 0) (ch : ℕ) → uses ch ≡ Idle → kind ≢ Del → is_same_type Rel kind ≡ false
    → IfOk r (λ o. (n : ℕ) → uses n ≡ Idle → kind ≢ Del → is_same_type Rel kind ≡ false → Q n o) → IfOk r (Q ch)
begun_write (Ok o) uses kind Q ch idle kept plain h = h ch idle kept plain
begun_write (Err t) uses kind Q ch idle kept plain h = tt

pub on_both : {A : Type 0} (r : Result A Trouble) (P Q R : Type 0) → P → Q → OnErr r (P → Q → R) → OnErr r R
on_both (Ok o) P Q R p q h = tt
on_both (Err t) P Q R p q h = h p q

pub begun_replace : {A : Type 0} (r : Result A Trouble) (d : Disk) (uses : ℕ → Use) (slot : ℕ) (f : File) (Q : ℕ → A → Type 0) (ch : ℕ) → uses ch ≡ Idle → CanBeWritten d uses slot f
    → IfOk r (λ o. (n : ℕ) (g : File) → uses n ≡ Idle → CanBeWritten d uses slot g → Q n o) → IfOk r (Q ch)
begun_replace (Ok o) d uses slot f Q ch idle can h = h ch f idle can
begun_replace (Err t) d uses slot f Q ch idle can h = tt

-- ---- records

body_total : (d : Disk) (s : ℕ) (body : Body) → (with_body d s body).total ≡ d.total
body_total d s body = by_file (file_at d s) refl
  where
    by_file : (o : Option File) → file_at d s ≡ o → (with_body d s body).total ≡ d.total
    by_file None e = rw (e, with_body) refl
    by_file (Some f) e = rw (e, with_body) refl

sized_total : (d : Disk) (s n : ℕ) (body : Body) → (with_sized_body d s n body).total ≡ d.total
sized_total d s n body = by_file (file_at d s) refl
  where
    by_file : (o : Option File) → file_at d s ≡ o → (with_sized_body d s n body).total ≡ d.total
    by_file None e = rw (e, with_sized_body) refl
    by_file (Some f) e = rw (e, with_sized_body) refl

pub record_rest : {disk : ℕ} {A : Type 0} (cut : A → Bool) (r : Result (Option A) Trouble) (old new : Seen) (d : Disk) (uses : ℕ → Use) (n w b s : ℕ) (rs : List (List ℕ)) (k p : ℕ) (bytes : List ℕ) → OnlyContent disk r old new → disk ≡ geometry_of old.tracks old.content → HoldsNow old.tracks old.content d uses
    → MatchResult r (λ o. IsRecordPut old.tracks old.content new.content d uses n w b s rs k p bytes (option_map cut o)) (IsRecordCut old new d uses n w b s rs k p bytes) → LeavesOthers old new n → KeepsRest old new (λ m. n == m)
record_rest {A} cut r old new d uses n w b s rs k p bytes only size h call files = record { in_place = turned (geometry_of old.tracks old.content) old.content new.content n files.stays; outside = outside_held r old new d uses only size h (by_result r call) }
  where
    by_result : (q : Result (Option A) Trouble) → MatchResult q (λ o. IsRecordPut old.tracks old.content new.content d uses n w b s rs k p bytes (option_map cut o)) (IsRecordCut old new d uses n w b s rs k p bytes) → HoldsSized old.tracks new.content d
    by_result (Ok (Some x)) z = record { disk = _; uses = uses; holds = z.2; total = body_total d n _ }
    by_result (Ok None) z = record { disk = d; uses = uses; holds = subst (λ (x : Content). HoldsNow old.tracks x d uses) (sym z.1) h; total = refl }
    by_result (Err t) z = record { disk = _; uses = uses; holds = z.holds; total = body_total d n _ }

pub growth_rest : {disk : ℕ} (r : Result Bool Trouble) (old new : Seen) (d : Disk) (uses : ℕ → Use) (n w b s : ℕ) (rs : List (List ℕ)) (k : ℕ) → OnlyContent disk r old new → disk ≡ geometry_of old.tracks old.content → HoldsNow old.tracks old.content d uses
    → IsGrowth r old new d uses n w b s rs k → KeepsRest old new (λ m. n == m)
growth_rest r old new d uses n w b s rs k only size h call = record { in_place = turned (geometry_of old.tracks old.content) old.content new.content n call.untouched.stays; outside = outside_held r old new d uses only size h (by_result r call.grown call.stopped) }
  where
    by_result : (q : Result Bool Trouble) → IfOk q (λ done. MatchBool done (HoldsNow old.tracks new.content (with_growth d n w b s rs k) uses) (IsTooLarge d w b s k × (new.content ≡ old.content))) → IfErr q (IsGrowthCut old new d uses n w rs) → HoldsSized old.tracks new.content d
    by_result (Ok true) z c = record { disk = _; uses = uses; holds = z; total = sized_total d n _ _ }
    by_result (Ok false) z c = record { disk = d; uses = uses; holds = subst (λ (x : Content). HoldsNow old.tracks x d uses) (sym z.1) h; total = refl }
    by_result (Err t) z c = record { disk = _; uses = uses; holds = c.holds; total = refl }
