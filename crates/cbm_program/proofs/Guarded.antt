-- A protected machine keeps its disk, whatever it is asked: no channel of it has a file to be written.
use Rattle.std.proofs.Common.{◌≡◌, ℕ, zero, suc, ◌+◌, ◌-◌, ◌≤◌, Bool, true, false, not, ◌&&◌, ◌||◌, List, [], ◌∷◌, ◌++◌, length, replicate, slice_index_or, slice_set, if◌then◌else◌, nat_lt, ◌==◌, Option, Some, None, is_some, Result, Ok, Err, ltb-false, refl, sym, ap, ◌∙◌, subst, arith}
use Rattle.cbm_file.specs.Files.{File, Disk, Bytes, Records, Body, files, files_from, held_on, record_length_in}
use Rattle.cbm_command.specs.Refusals.{◌>>=◌, unless}
use Rattle.cbm_command.specs.declared.command.Command.{Command}
use Rattle.cbm_command.specs.declared.command.Command.TheVariants.{New, Scratch, Rename, Copy, Validate, Initialize, Position}
use Rattle.cbm_command.specs.declared.opening.Mode.TheVariants.{Read, Write, Append}
use Rattle.cbm_command.specs.declared.opening.Mode.{Mode}
use Rattle.cbm_command.specs.declared.opening.Wanted.{Wanted}
use Rattle.cbm_command.specs.declared.opening.Opening.{Opening}
use Rattle.cbm_command.specs.declared.opening.Opening.TheVariants as opening
use Rattle.cbm_command.specs.Openings.{wants_relative, opening_of}
use Rattle.cbm_command.specs.Commands.{command_of}
use Rattle.cbm_file.specs.declared.file_type.FileType.{FileType}
use Rattle.cbm_machine.specs.declared.code.Code.{Code}
use Rattle.cbm_machine.specs.declared.code.Code.TheVariants.{Fine, FilesScratched, WriteProtected, RecordOverflow, FileTooLarge}
use Rattle.cbm_machine.specs.Calls.{without_return, command_text, command, after_open, text_for, gather, is_relative_channel, put, store_text, end_put}
use Rattle.cbm_machine.specs.Closing.{put_on, with_some_byte, finish_on, without_text, close_one, close_all, channel_numbers, close}
use Rattle.cbm_machine.specs.Finding.{is_kind, is_there, found, body_at}
use Rattle.cbm_file.specs.Changes.{has_slot}
use Rattle.cbm_file.specs.declared.file_type.FileType.TheVariants.{Del, Rel}
use Rattle.cbm_machine.specs.Machines.{Channel, Closed, Reading, Writing, Stopped, Relative, Machine, start, with_channel, channel, say, with_status, with_disk, answered, in_writing, in_use}
use Rattle.cbm_machine.specs.Plans.{Plan, ReadListing, ReadFile, WriteFile, AppendFile, ReplaceFile, OpenRecords, MakeRecords, plan_read, plan_write, plan_append, plan_replace, plan_writing, plan_there, plan_missing, plan_relative, plan_by_mode, plan, act, asked, open_text}
use Rattle.cbm_machine.specs.Records.{with_written_record, grown_to, write_record}
use Rattle.cbm_file.specs.Records.{record_at, blocks_for, sides_for, with_sized_body, record_count, fresh_record, with_body, with_bytes}
use Rattle.cbm_machine.specs.Running.{may_go, kept_slots, scratched_disk, scratch, rename_to, sources, copied, place, run}
use Rattle.cbm_machine.specs.Talking.{taken_on, taken, only_refused, talk_refusal, after_talk, talk_keeping_error, listen_refusal, after_listen, listen_keeping_error}

-- the channel has no file to be written
abbrev pub IsUnwritten : Channel → Type 0
IsUnwritten Closed = Unit {0}
IsUnwritten (Reading slot left) = Unit {0}
IsUnwritten (Writing slot bytes blocks full replaces) = ⊥
IsUnwritten (Stopped slot) = Unit {0}
IsUnwritten (Relative slot k p) = Unit {0}

abbrev pub AreUnwritten : List Channel → Type 0
AreUnwritten [] = Unit {0}
AreUnwritten (c ∷ cs) = IsUnwritten c × AreUnwritten cs

-- A PROTECTED MACHINE with this disk.
abbrev pub IsGuarded : Disk → Machine → Type 0
IsGuarded d m = (m.protected ≡ true) × (m.disk ≡ d) × AreUnwritten m.channels

-- ---- lists of channels

set_unwritten : (cs : List Channel) (n : ℕ) (c : Channel) → AreUnwritten cs → IsUnwritten c → AreUnwritten (slice_set cs n c)
set_unwritten [] n c h k = tt
set_unwritten (x ∷ cs) zero c h k = (k, h.1)
set_unwritten (x ∷ cs) (suc n) c h k = (h.0, set_unwritten cs n c h.1 k)

at_unwritten : (cs : List Channel) (n : ℕ) → AreUnwritten cs → IsUnwritten (slice_index_or cs n Closed)
at_unwritten [] n h = tt
at_unwritten (x ∷ cs) zero h = h.0
at_unwritten (x ∷ cs) (suc n) h = at_unwritten cs n h.1

none_unwritten : (n : ℕ) → AreUnwritten (replicate n Closed)
none_unwritten zero = tt
none_unwritten (suc n) = (tt, none_unwritten n)

-- at power up
pub guarded_start : (d : Disk) (protected : Bool) (tracks : ℕ) → protected ≡ true → IsGuarded d (start d protected tracks)
guarded_start d protected tracks is = (is, refl, none_unwritten 15)

-- ---- choices and refusals

pub if_both : {A : Type 0} (P : A → Type 0) (b : Bool) (x y : A) → P x → P y → P (if b then x else y)
if_both P true x y h k = h
if_both P false x y h k = k

-- P of what isn't refused
abbrev IsOk : {A : Type 0} → (A → Type 0) → Result A Code → Type 0
IsOk P (Ok x) = P x
IsOk P (Err e) = Unit {0}

record OfOk {A : Type 0} (P : A → Type 0) (r : Result A Code) : Type 0 where
  pub so : IsOk P r

done : {A : Type 0} (P : A → Type 0) (x : A) → P x → OfOk P (Ok x)
done P x h = record { so = h }

refused : {A : Type 0} (P : A → Type 0) (e : Code) → OfOk P (Err e)
refused P e = record { so = tt }

binds : {A B : Type 0} (P : A → Type 0) (Q : B → Type 0) (r : Result A Code) (f : A → Result B Code) → OfOk P r → ((x : A) → P x → OfOk Q (f x)) → OfOk Q (r >>= f)
binds P Q (Ok x) f h k = k x h.so
binds P Q (Err e) f h k = record { so = tt }

of_any : {A : Type 0} (r : Result A Code) → OfOk (λ x. Unit {0}) r
of_any (Ok x) = record { so = tt }
of_any (Err e) = record { so = tt }

-- a case that may apply comes before, or one that does
skip : {A : Type 0} (P : A → Type 0) (b : Bool) (e : Code) (r : Result A Code) → OfOk P r → OfOk P (if b then Err e else r)
skip P true e r h = record { so = tt }
skip P false e r h = h

stop : {A : Type 0} (P : A → Type 0) (b : Bool) (e : Code) (r : Result A Code) → b ≡ true → OfOk P (if b then Err e else r)
stop P true e r same = record { so = tt }
stop P false e r same = let k : false ≡ true = same in absurd cc

module _ (d : Disk) where
  answers : (m : Machine) (r : Result Machine Code) → IsGuarded d m → OfOk (IsGuarded d) r → IsGuarded d (answered m r)
  answers m (Ok n) g h = h.so
  answers m (Err e) g h = g

  with_one : (m : Machine) (ch : ℕ) (c : Channel) → IsGuarded d m → IsUnwritten c → IsGuarded d (with_channel ch c m)
  with_one m ch c g h = (g.0, g.1, set_unwritten m.channels ch c g.2 h)

  own : (m : Machine) (ch : ℕ) → IsGuarded d m → IsUnwritten (channel m ch)
  own m ch g = at_unwritten m.channels ch g.2

  -- ---- CLOSE

  puts_on : (m : Machine) (ch b : ℕ) (c : Channel) → IsGuarded d m → IsUnwritten c → IsGuarded d (put_on ch b c m)
  puts_on m ch b Closed g h = g
  puts_on m ch b (Reading slot left) g h = g
  puts_on m ch b (Writing slot bytes blocks full replaces) g h = elim h [ ]
  puts_on m ch b (Stopped slot) g h = g
  puts_on m ch b (Relative slot k p) g h = g

  some_byte : (m : Machine) (ch : ℕ) (c : Channel) → IsGuarded d m → IsUnwritten c → IsGuarded d (with_some_byte ch c m)
  some_byte m ch Closed g h = g
  some_byte m ch (Reading slot left) g h = g
  some_byte m ch (Writing slot bytes blocks full replaces) g h = elim h [ ]
  some_byte m ch (Stopped slot) g h = g
  some_byte m ch (Relative slot k p) g h = g

  finishes : (m : Machine) (c : Channel) → IsGuarded d m → IsUnwritten c → IsGuarded d (finish_on c m)
  finishes m Closed g h = g
  finishes m (Reading slot left) g h = g
  finishes m (Writing slot bytes blocks full replaces) g h = elim h [ ]
  finishes m (Stopped slot) g h = g
  finishes m (Relative slot k p) g h = g

  closes_one : (ch : ℕ) (m : Machine) → IsGuarded d m → IsGuarded d (close_one ch m)
  closes_one ch m g =
      let n = with_some_byte ch (channel m ch) m in
      let k = some_byte m ch (channel m ch) g (own m ch g) in
      with_one (finish_on (channel n ch) n) ch Closed (finishes n (channel n ch) k (own n ch k)) tt

  closes_all : (chs : List ℕ) (m : Machine) → IsGuarded d m → IsGuarded d (close_all chs m)
  closes_all [] m g = g
  closes_all (ch ∷ chs) m g = closes_all chs (close_one ch m) (closes_one ch m g)

  pub closes : (ch : ℕ) (m : Machine) → IsGuarded d m → IsGuarded d (close ch m)
  closes ch m g = if_both (IsGuarded d) (ch == 15) (without_text 15 (close_all channel_numbers m)) (close_one ch m) (closes_all channel_numbers m g) (closes_one ch m g)

  -- ---- bytes

  taken_unwritten : (d2 : Disk) (c : Channel) → IsUnwritten c → IsUnwritten (taken_on d2 c)
  taken_unwritten d2 Closed h = tt
  taken_unwritten d2 (Reading slot left) h = tt
  taken_unwritten d2 (Writing slot bytes blocks full replaces) h = elim h [ ]
  taken_unwritten d2 (Stopped slot) h = tt
  taken_unwritten d2 (Relative slot k p) h = by (record_at (body_at d2 slot) k)
    where
      by : (o : Option (List ℕ)) → IsUnwritten (elim o [
        | None ↦ Relative slot k p
        | Some bytes ↦ if Rattle.std.specs.List.list_all (λ c. c == 0) (Rattle.std.specs.Prelude.drop p bytes) then Relative slot (k + 1) 1 else Relative slot k (p + 1)
      ])
      by None = tt
      by (Some bytes) = if_both IsUnwritten (Rattle.std.specs.List.list_all (λ c. c == 0) (Rattle.std.specs.Prelude.drop p bytes)) (Relative slot (k + 1) 1) (Relative slot k (p + 1)) tt tt

  pub takes : (ch : ℕ) (m : Machine) → IsGuarded d m → IsGuarded d (taken ch m)
  takes ch m g = if_both (IsGuarded d) (ch == 15) _ (with_channel ch (taken_on m.disk (channel m ch)) m) (if_both (IsGuarded d) _ (record m { told = m.told + 1 }) (say Rattle.cbm_machine.specs.declared.code.Code.TheVariants.Fine m) g g)
      (with_one m ch (taken_on m.disk (channel m ch)) g (taken_unwritten m.disk (channel m ch) (own m ch g)))

  refused_only : (o : Option Code) (m : Machine) → IsGuarded d m → IsGuarded d (only_refused o m)
  refused_only None m g = g
  refused_only (Some code) m g = g

  pub talks : (ch : ℕ) (m : Machine) → IsGuarded d m → IsGuarded d (after_talk ch m)
  talks ch m g = if_both (IsGuarded d) (ch == 15) m (only_refused (talk_refusal m.disk (channel m ch)) m) g (refused_only (talk_refusal m.disk (channel m ch)) m g)

  pub talks_keeping : (ch : ℕ) (m : Machine) → IsGuarded d m → IsGuarded d (talk_keeping_error ch m)
  talks_keeping ch m g = if_both (IsGuarded d) _ m (after_talk ch m) g (talks ch m g)

  pub listens : (ch : ℕ) (m : Machine) → IsGuarded d m → IsGuarded d (after_listen ch m)
  listens ch m g = if_both (IsGuarded d) (ch == 15) m (only_refused (listen_refusal (channel m ch)) m) g (refused_only (listen_refusal (channel m ch)) m g)

  pub listens_keeping : (ch : ℕ) (m : Machine) → IsGuarded d m → IsGuarded d (listen_keeping_error ch m)
  listens_keeping ch m g = if_both (IsGuarded d) _ m (after_listen ch m) g (listens ch m g)

  pub puts_one : (ch b : ℕ) (m : Machine) → IsGuarded d m → IsGuarded d (put ch b m)
  puts_one ch b m g = if_both (IsGuarded d) ((ch == 15) || is_relative_channel (channel m ch)) (gather ch b m) (put_on ch b (channel m ch) m) g (puts_on m ch b (channel m ch) g (own m ch g))

  -- ---- OPEN

  -- it writes nothing
  abbrev IsHarmless : Plan → Type 0
  IsHarmless (ReadListing pattern) = Unit {0}
  IsHarmless (ReadFile slot) = Unit {0}
  IsHarmless (WriteFile kind name) = ⊥
  IsHarmless (AppendFile slot) = ⊥
  IsHarmless (ReplaceFile slot) = ⊥
  IsHarmless (OpenRecords slot) = Unit {0}
  IsHarmless (MakeRecords name len) = ⊥

  reads : (w : Wanted) (m : Machine) (x : ℕ × File) → OfOk IsHarmless (plan_read w m x)
  reads w m (s, f) = skip IsHarmless (is_kind Del f || (is_kind Rel f && w.has_at)) _ _ (skip IsHarmless (not f.closed || in_writing m s) _ _ (done IsHarmless _ (if_both IsHarmless _ (OpenRecords s) (ReadFile s) tt tt)))

  there : (w : Wanted) (m : Machine) (x : ℕ × File) → OfOk IsHarmless (plan_there w m x)
  there w m (s, f) = skip IsHarmless (not f.closed || in_writing m s) _ _ (skip IsHarmless (not (w.record_length == 0) && not (w.record_length == record_length_in f.body)) _ _ (done IsHarmless _ tt))

  appends : (m : Machine) → IsGuarded d m → (x : ℕ × File) → OfOk IsHarmless (plan_append m x)
  appends m g (s, f) = skip IsHarmless (is_kind Del f || is_kind Rel f) _ _ (skip IsHarmless (not f.closed || in_use m s) _ _ (stop IsHarmless (m.protected) _ _ g.0))

  replaces : (m : Machine) → IsGuarded d m → (x : ℕ × File) → OfOk IsHarmless (plan_replace m x)
  replaces m g (s, f) = skip IsHarmless (not f.closed || in_use m s) _ _ (skip IsHarmless (f.locked) _ _ (skip IsHarmless (m.disk.free == 0) _ _ (stop IsHarmless (m.protected) _ _ g.0)))

  writes_new : (w : Wanted) (kind : FileType) (m : Machine) → IsGuarded d m → OfOk IsHarmless (plan_write w kind m)
  writes_new w kind m g = skip IsHarmless (is_there m.disk w.name) _ _ (skip IsHarmless ((m.disk.free == 0) || not (has_slot m.disk)) _ _ (stop IsHarmless (m.protected) _ _ g.0))

  writing : (w : Wanted) (kind : Option FileType) (m : Machine) → IsGuarded d m → OfOk IsHarmless (plan_writing w kind m)
  writing w None m g = refused IsHarmless _
  writing w (Some kind) m g = if_both (OfOk IsHarmless) _ (found m.disk w.name (Some kind) >>= plan_replace m) (plan_write w kind m)
      (binds (λ x. Unit {0}) IsHarmless (found m.disk w.name (Some kind)) (plan_replace m) (of_any _) (λ x u. replaces m g x)) (writes_new w kind m g)

  missing : (w : Wanted) (m : Machine) → IsGuarded d m → OfOk IsHarmless (plan_missing w m)
  missing w m g = skip IsHarmless (w.record_length == 0) _ _ (skip IsHarmless (w.record_length == 255) _ _ (skip IsHarmless (nat_lt m.disk.free 2 || not (has_slot m.disk)) _ _ (stop IsHarmless (m.protected) _ _ g.0)))

  relative : (ch : ℕ) (w : Wanted) (m : Machine) → IsGuarded d m → OfOk IsHarmless (plan_relative ch w m)
  relative ch w m g = skip IsHarmless _ _ _ (if_both (OfOk IsHarmless) _ (found m.disk w.name (Some Rel) >>= plan_there w m) (plan_missing w m)
      (binds (λ x. Unit {0}) IsHarmless (found m.disk w.name (Some Rel)) (plan_there w m) (of_any _) (λ x u. there w m x)) (missing w m g))

  by_mode : (mode : Mode) (w : Wanted) (m : Machine) → IsGuarded d m → OfOk IsHarmless (plan_by_mode mode w m)
  by_mode Read w m g = binds (λ x. Unit {0}) IsHarmless (found m.disk w.name w.kind) (plan_read w m) (of_any _) (λ x u. reads w m x)
  by_mode Append w m g = binds (λ x. Unit {0}) IsHarmless (found m.disk w.name w.kind) (plan_append m) (of_any _) (λ x u. appends m g x)
  by_mode Write w m g = writing w w.kind m g

  plans : (ch : ℕ) (o : Opening) (m : Machine) → IsGuarded d m → OfOk IsHarmless (plan ch o m)
  plans ch (opening.Listing pattern) m g = skip IsHarmless _ _ _ (done IsHarmless _ tt)
  plans ch (opening.File w) m g = skip IsHarmless _ _ _ (if_both (OfOk IsHarmless) (wants_relative w) (plan_relative ch w m) (plan_by_mode w.mode w m) (relative ch w m g) (by_mode w.mode w m g))

  acts : (ch : ℕ) (p : Plan) (m : Machine) → IsGuarded d m → IsHarmless p → IsGuarded d (act ch p m)
  acts ch (ReadListing pattern) m g h = with_one m ch _ g tt
  acts ch (ReadFile slot) m g h = with_one m ch _ g tt
  acts ch (WriteFile kind name) m g h = elim h [ ]
  acts ch (AppendFile slot) m g h = elim h [ ]
  acts ch (ReplaceFile slot) m g h = elim h [ ]
  acts ch (OpenRecords slot) m g h = with_one m ch _ g tt
  acts ch (MakeRecords name len) m g h = elim h [ ]

  opens_text : (ch : ℕ) (text : List ℕ) (m : Machine) → IsGuarded d m → IsGuarded d (open_text ch text m)
  opens_text ch text m g = answers m (asked (opening_of ch text) >>= λ o. plan ch o m >>= λ p. Ok (say Fine (act ch p m))) g
      (binds (λ x. Unit {0}) (IsGuarded d) (asked (opening_of ch text)) (λ o. plan ch o m >>= λ p. Ok (say Fine (act ch p m))) (of_any _)
      (λ o u. binds IsHarmless (IsGuarded d) (plan ch o m) (λ p. Ok (say Fine (act ch p m))) (plans ch o m g) (λ p h. done (IsGuarded d) _ (acts ch p m g h))))

  -- ---- records

  abbrev IsBytes : Body → Type 0
  IsBytes (Bytes bytes) = Unit {0}
  IsBytes (Records l rs b sides) = ⊥

  grows : (s k : ℕ) (m : Machine) → IsGuarded d m → OfOk (λ (n : Machine). (n ≡ m) × IsBytes (body_at m.disk s)) (grown_to s k m)
  grows s k m g = by (body_at m.disk s)
    where
      by : (body : Body) → OfOk (λ (n : Machine). (n ≡ m) × IsBytes body) (elim body [
        | Bytes _ ↦ Ok m
        | Records l rs b sides ↦
            (let blocks = blocks_for l b k in
            let sectors = sides_for sides blocks in
            let more = (blocks - b) + (sectors - sides) in
            unless ((nat_lt m.disk.free more || nat_lt 720 blocks || nat_lt 65535 k, FileTooLarge) ∷ (m.protected, WriteProtected) ∷ [])
            (Ok (with_disk (record (with_sized_body m.disk s (blocks + sectors)
            (Records l (rs ++ replicate (record_count l blocks - length rs) (fresh_record l)) blocks sectors)) { free = m.disk.free - more }) m)))
      ])
      by (Bytes bytes) = record { so = (refl, tt) }
      by (Records l rs b sides) = skip (λ (n : Machine). (n ≡ m) × IsBytes (Records l rs b sides)) _ _ _ (stop (λ (n : Machine). (n ≡ m) × IsBytes (Records l rs b sides)) _ _ _ g.0)

  writes_bytes : (ch s k p : ℕ) (bytes : List ℕ) (m : Machine) → IsGuarded d m → IsBytes (body_at m.disk s) → IsGuarded d (with_written_record ch s k p bytes m)
  writes_bytes ch s k p bytes m g h = by (body_at m.disk s) h
    where
      by : (body : Body) → IsBytes body → IsGuarded d (elim body [
        | Bytes _ ↦ m
        | Records l rs b sides ↦
            (let next = with_channel ch (Relative s (k + 1) 1) (with_disk (with_body m.disk s
            (Records l (slice_set rs (k - 1) (with_bytes l (slice_index_or rs (k - 1) []) p bytes)) b sides)) m) in
            if nat_lt (l + 1 - p) (length bytes) then say RecordOverflow next else next)
      ])
      by (Bytes bs) h = g
      by (Records l rs b sides) h = elim h [ ]

  writes_record : (ch : ℕ) (c : Channel) (bytes : List ℕ) (m : Machine) → IsGuarded d m → IsGuarded d (write_record ch c bytes m)
  writes_record ch Closed bytes m g = g
  writes_record ch (Reading slot left) bytes m g = g
  writes_record ch (Writing slot bs blocks full replaces) bytes m g = g
  writes_record ch (Stopped slot) bytes m g = g
  writes_record ch (Relative s k p) bytes m g =
      let there = is_some (record_at (body_at m.disk s) k) in
      let first = if there then unless ((m.protected, WriteProtected) ∷ []) (Ok m) else grown_to s k m in
      answers m (first >>= λ n. Ok (with_written_record ch s k p bytes n)) g
      (binds (λ (n : Machine). (n ≡ m) × IsBytes (body_at m.disk s)) (IsGuarded d) first (λ n. Ok (with_written_record ch s k p bytes n))
      (if_both (OfOk (λ (n : Machine). (n ≡ m) × IsBytes (body_at m.disk s))) there (unless ((m.protected, WriteProtected) ∷ []) (Ok m)) (grown_to s k m) (stop (λ (n : Machine). (n ≡ m) × IsBytes (body_at m.disk s)) _ _ _ g.0) (grows s k m g))
      (λ n h. done (IsGuarded d) _ (subst (λ (x : Machine). IsGuarded d (with_written_record ch s k p bytes x)) (sym h.0) (writes_bytes ch s k p bytes m g h.1))))

  -- ---- commands

  -- no more files are left than there were
  few : (m : Machine) (ps : List (List ℕ)) (k n : ℕ) (slots : List (Option File)) → length (files_from k (kept_slots m ps n slots)) ≤ length (files_from k slots)
  few m ps k n [] = omega arith
  few m ps k n (None ∷ slots) = few m ps (k + 1) (n + 1) slots
  few m ps k n (Some f ∷ slots) = by (may_go m ps n f) (few m ps k (n + 1) slots) (few m ps (k + 1) (n + 1) slots)
    where
      by : (b : Bool) → length (files_from k (kept_slots m ps (n + 1) slots)) ≤ length (files_from k slots) → length (files_from (k + 1) (kept_slots m ps (n + 1) slots)) ≤ length (files_from (k + 1) slots)
          → length (files_from k ((if b then None else Some f) ∷ kept_slots m ps (n + 1) slots)) ≤ suc (length (files_from (k + 1) slots))
      by true h1 h = omega (arith, h)
      by false h1 h = omega (arith, h)

  -- where as many are left, all of them are
  none_goes : (m : Machine) (ps : List (List ℕ)) (k n : ℕ) (slots : List (Option File)) → length (files_from k slots) ≤ length (files_from k (kept_slots m ps n slots)) → kept_slots m ps n slots ≡ slots
  none_goes m ps k n [] h = refl
  none_goes m ps k n (None ∷ slots) h = ap (λ (l : List (Option File)). None ∷ l) (none_goes m ps (k + 1) (n + 1) slots h)
  none_goes m ps k n (Some f ∷ slots) h = by (may_go m ps n f) (λ l. none_goes m ps (k + 1) (n + 1) slots l) h
    where
      by : (b : Bool) → (length (files_from (k + 1) slots) ≤ length (files_from (k + 1) (kept_slots m ps (n + 1) slots)) → kept_slots m ps (n + 1) slots ≡ slots)
          → suc (length (files_from (k + 1) slots)) ≤ length (files_from k ((if b then None else Some f) ∷ kept_slots m ps (n + 1) slots)) → (if b then None else Some f) ∷ kept_slots m ps (n + 1) slots ≡ Some f ∷ slots
      by true on h = let few_left = few m ps (k + 1) (n + 1) slots in absurd (omega (arith, h, few_left))
      by false on h = ap (λ (l : List (Option File)). Some f ∷ l) (on (omega (arith, h)))

  same_disk : (m : Machine) (ps : List (List ℕ)) → nat_lt 0 (length (files m.disk) - length (files (scratched_disk m ps))) ≡ false → scratched_disk m ps ≡ m.disk
  same_disk m ps none =
      let kept = none_goes m ps 0 0 m.disk.slots (let l = ltb-false _ _ none in omega (arith, l)) in
      ap (λ (s : List (Option File)). record (record m.disk { slots = s }) { free = m.disk.free + (held_on m.disk - held_on (record m.disk { slots = s })) }) kept
      ∙ ap (λ (n : ℕ). record m.disk { free = n }) (let h = held_on m.disk in omega arith)

  scratches : (ps : List (List ℕ)) (m : Machine) → IsGuarded d m → OfOk (IsGuarded d) (scratch ps m)
  scratches ps m g = by (nat_lt 0 count) refl
    where
      count : ℕ
      count = length (files m.disk) - length (files (scratched_disk m ps))

      by : (b : Bool) → nat_lt 0 count ≡ b → OfOk (IsGuarded d) (unless ((b && m.protected, WriteProtected) ∷ []) (Ok (with_status (record { code = FilesScratched; first = count; second = 0 }) (with_disk (scratched_disk m ps) m))))
      by true e = stop (IsGuarded d) _ _ _ g.0
      by false e = done (IsGuarded d) _ (g.0, same_disk m ps e ∙ g.1, g.2)

  renames_to : (new : List ℕ) (m : Machine) → IsGuarded d m → (x : ℕ × File) → OfOk (IsGuarded d) (rename_to new m x)
  renames_to new m g (s, f) = skip (IsGuarded d) (in_writing m s) _ _ (skip (IsGuarded d) (is_there m.disk new) _ _ (stop (IsGuarded d) (m.protected) _ _ g.0))

  copies : (new : List ℕ) (fs : List File) (m : Machine) → IsGuarded d m → OfOk (IsGuarded d) (copied new fs m)
  copies new [] m g = refused (IsGuarded d) _
  copies new (f ∷ fs) m g = skip (IsGuarded d) _ _ _ (stop (IsGuarded d) _ _ _ g.0)

  places : (ch k p : ℕ) (c : Channel) (m : Machine) → IsGuarded d m → OfOk (IsGuarded d) (place ch k p c m)
  places ch k p Closed m g = refused (IsGuarded d) _
  places ch k p (Reading slot left) m g = refused (IsGuarded d) _
  places ch k p (Writing slot bytes blocks full replaces) m g = refused (IsGuarded d) _
  places ch k p (Stopped slot) m g = refused (IsGuarded d) _
  places ch k p (Relative s k2 p2) m g = skip (IsGuarded d) _ _ _ (done (IsGuarded d) _ (with_one m ch (Relative s k p) g tt))

  runs : (c : Command) (m : Machine) → IsGuarded d m → OfOk (IsGuarded d) (run c m)
  runs (New name id) m g = skip (IsGuarded d) _ _ _ (stop (IsGuarded d) _ _ _ g.0)
  runs (Scratch patterns) m g = scratches patterns m g
  runs (Rename new old) m g = binds (λ x. Unit {0}) (IsGuarded d) (found m.disk old None) (rename_to new m) (of_any _) (λ x u. renames_to new m g x)
  runs (Copy new olds) m g = skip (IsGuarded d) _ _ _ (binds (λ x. Unit {0}) (IsGuarded d) (sources m.disk olds) (λ fs. copied new fs m) (of_any _) (λ fs u. copies new fs m g))
  runs Validate m g = skip (IsGuarded d) _ _ _ (stop (IsGuarded d) _ _ _ g.0)
  runs Initialize m g = done (IsGuarded d) _ g
  runs (Position ch k p) m g = skip (IsGuarded d) _ _ _ (places ch k p (channel m ch) m g)

  commands_text : (text : List ℕ) (m : Machine) → IsGuarded d m → IsGuarded d (command_text text m)
  commands_text [] m g = g
  commands_text (c ∷ text) m g = answers m (asked (command_of (c ∷ text)) >>= λ x. run x m) g (binds (λ x. Unit {0}) (IsGuarded d) (asked (command_of (c ∷ text))) (λ x. run x m) (of_any _) (λ x u. runs x m g))

  -- ---- the calls that take a text

  pub opens : (ch : ℕ) (text : List ℕ) (m : Machine) → IsGuarded d m → IsGuarded d (after_open ch text m)
  opens ch text m g = if_both (IsGuarded d) (ch == 15) (command text m) (open_text ch text (close ch m)) (commands_text (without_return text) m g) (opens_text ch text (close ch m) (closes ch m g))

  stores : (ch : ℕ) (text : List ℕ) (m : Machine) → IsGuarded d m → IsGuarded d (store_text ch text m)
  stores ch [] m g = g
  stores ch (c ∷ text) m g =
      let n = without_text ch m in
      if_both (IsGuarded d) (ch == 15) (command (c ∷ text) n) (write_record ch (channel n ch) (c ∷ text) n) (commands_text (without_return (c ∷ text)) n g) (writes_record ch (channel n ch) (c ∷ text) n g)

  pub ends_put : (ch : ℕ) (m : Machine) → IsGuarded d m → IsGuarded d (end_put ch m)
  ends_put ch m g = stores ch (text_for ch m.text) m g
