-- What an OPEN for writing or appending will do, or why it is refused, from the tests that the code makes.
use Rattle.std.proofs.Common.{◌≡◌, ℕ, Bool, true, false, List, [], ◌∷◌, refl, sym, ap, ◌∙◌, subst}
use Rattle.std.specs.Option.{option_eq}
use Rattle.cbm_file.specs.contracts.file_type.FileTypePartialEq.TheImpl.{eq-value}
use Rattle.std.specs.Prelude.{◌==◌, ◌&&◌, ◌||◌, not, filter, if◌then◌else◌, Option, Some, Result, Ok, Err}
use Rattle.cbm_file.specs.declared.file_type.FileType.{FileType}
use Rattle.cbm_file.specs.declared.file_type.FileType.TheVariants.{Del, Seq, Prg, Usr, Rel}
use Rattle.cbm_file.specs.Types.{is_same_type}
use Rattle.cbm_file.specs.Files.{Disk, File}
use Rattle.cbm_file.specs.Changes.{has_slot}
use Rattle.cbm_file.specs.Padding.{before_filler}
use Rattle.cbm_command.specs.declared.opening.Wanted.{Wanted}
use Rattle.cbm_command.specs.Openings.{wants_relative}
use Rattle.cbm_command.specs.Refusals.{◌>>=◌}
use Rattle.cbm_medium.specs.Content.{Content}
use Rattle.cbm_machine.specs.declared.code.Code.{Code}
use Rattle.cbm_machine.specs.declared.code.Code.TheVariants.{WriteProtected, WriteFileOpen, FileExists, FileNotFound, WrongType, DiskFull}
use Rattle.cbm_machine.specs.declared.status.Status.{Status}
use Rattle.cbm_machine.specs.Statuses.{plain}
use Rattle.cbm_machine.specs.Machines.{Machine, in_use}
use Rattle.cbm_machine.specs.Listings.{named}
use Rattle.cbm_machine.specs.Finding.{of_kind, is_there, first_or, found}
use Rattle.cbm_machine.specs.Plans.{WriteFile, AppendFile, ReplaceFile, plan_append, plan_replace, plan_write, plan_writing}
use Rattle.cbm_channel.specs.declared.finding.Found.{Found}
use Rattle.cbm_channel.specs.declared.plan.Plan as code
use Rattle.cbm_channel.specs.declared.plan.Plan.TheVariants as planned
use Rattle.cbm_channel.proofs.Asking.{refused_by, planned_by}
use Rattle.cbm_channel.specs.Planned.{FoundAs, PlannedAs, IsFound}

-- ---- tests

abbrev pub flag_in : Result Bool Status → Bool
flag_in (Ok b) = b
flag_in (Err e) = false

pub either_first : (a b : Bool) → a ≡ true → (a || b) ≡ true
either_first a b h = rw h refl

pub either_second : (a b : Bool) → b ≡ true → (a || b) ≡ true
either_second true b h = refl
either_second false b h = h

pub is_true : (b : Bool) → not b ≡ false → b ≡ true
is_true true h = refl
is_true false h = absurd (cc)

pub neither : (a b : Bool) → a ≡ false → b ≡ false → (a || b) ≡ false
neither a b h k = rw h k

pub both : (a b : Bool) → a ≡ true → b ≡ true → (a && b) ≡ true
both a b h k = rw h k

pub not_first : (a b : Bool) → a ≡ false → (a && b) ≡ false
not_first a b h = rw h refl

pub not_both : (a b : Bool) → b ≡ false → (a && b) ≡ false
not_both true b h = h
not_both false b h = refl

-- the code's test of a type is the definition's
same_tested : (x k : FileType) → is_same_type x k ≡ eq-value.it k x
same_tested Del Del = refl
same_tested Del Seq = refl
same_tested Del Prg = refl
same_tested Del Usr = refl
same_tested Del Rel = refl
same_tested Seq Del = refl
same_tested Seq Seq = refl
same_tested Seq Prg = refl
same_tested Seq Usr = refl
same_tested Seq Rel = refl
same_tested Prg Del = refl
same_tested Prg Seq = refl
same_tested Prg Prg = refl
same_tested Prg Usr = refl
same_tested Prg Rel = refl
same_tested Usr Del = refl
same_tested Usr Seq = refl
same_tested Usr Prg = refl
same_tested Usr Usr = refl
same_tested Usr Rel = refl
same_tested Rel Del = refl
same_tested Rel Seq = refl
same_tested Rel Prg = refl
same_tested Rel Usr = refl
same_tested Rel Rel = refl

pub type_tested : (x k : FileType) (kind : Option FileType) (b : Bool) → kind ≡ Some k → b ≡ option_eq eq-value.it kind (Some x) → is_same_type x k ≡ b
type_tested x k kind b is e = same_tested x k ∙ sym (e ∙ ap (λ y. option_eq eq-value.it y (Some x)) is)

-- what is found by its type is of that type
abbrev value_or : ℕ × File → Result (ℕ × File) Code → ℕ × File
value_or p (Ok q) = q
value_or p (Err e) = p

module _ (kind : Option FileType) (e : Code) (p : ℕ × File) where
  abbrev chosen : List (ℕ × File) → List (ℕ × File)
  chosen xs = filter (λ (q : ℕ × File). of_kind kind q.1) xs

  pub first_kind : (xs : List (ℕ × File)) → first_or (chosen xs) e ≡ Ok p → of_kind kind p.1 ≡ true
  first_kind [] h = absurd (cc)
  first_kind (x ∷ xs) h = by_test (of_kind kind x.1) refl (first_kind xs)
    where
      is_now : (b : Bool) → of_kind kind x.1 ≡ b → first_or (if b then x ∷ chosen xs else chosen xs) e ≡ Ok p
      is_now b t = ap (λ (y : Bool). first_or (if y then x ∷ chosen xs else chosen xs) e) (sym t) ∙ h

      by_test : (b : Bool) → of_kind kind x.1 ≡ b → (first_or (chosen xs) e ≡ Ok p → of_kind kind p.1 ≡ true) → of_kind kind p.1 ≡ true
      by_test true t more = ap (λ (q : ℕ × File). of_kind kind q.1) (sym (ap (value_or x) (is_now true t))) ∙ t
      by_test false t more = more (is_now false t)

pub found_kind : (d : Disk) (name : List ℕ) (kind : FileType) (s : ℕ) (f : File) → found d name (Some kind) ≡ Ok (s, f) → is_same_type kind f.kind ≡ true
found_kind d name kind s f h = first_kind (Some kind) (if is_there d name then WrongType else FileNotFound) (s, f) (named d name) h

-- and has no records where the type has none
bytes_kind : (k kind : FileType) → is_same_type kind k ≡ true → is_same_type Rel kind ≡ false → is_same_type Rel k ≡ false
bytes_kind Del kind h n = refl
bytes_kind Seq kind h n = refl
bytes_kind Prg kind h n = refl
bytes_kind Usr kind h n = refl
bytes_kind Rel Del h n = absurd (cc)
bytes_kind Rel Seq h n = absurd (cc)
bytes_kind Rel Prg h n = absurd (cc)
bytes_kind Rel Usr h n = absurd (cc)
bytes_kind Rel Rel h n = absurd (cc)

pub relative_is : (w : Wanted) (k : FileType) → w.kind ≡ Some k → wants_relative w ≡ is_same_type Rel k
relative_is w Del e = rw e refl
relative_is w Seq e = rw e refl
relative_is w Prg e = rw e refl
relative_is w Usr e = rw e refl
relative_is w Rel e = rw e refl

module _ (t : ℕ) (c : Content) (m : Machine) where
  -- ---- a file that was found

  module _ (s : ℕ) (f : File) (file : Found) (is : IsFound t c m.disk s f file) where
    -- what is open, or isn't closed, is answered 60
    pub open_to_append : (status : Status) → is_same_type Del f.kind ≡ false → is_same_type Rel f.kind ≡ false → (not f.closed || in_use m s) ≡ true → status ≡ plain WriteFileOpen
        → PlannedAs t c m (plan_append m (s, f)) (Err status)
    open_to_append status kept bytes busy e = rw (kept, bytes, busy) e

    pub protected_to_append : (status : Status) → is_same_type Del f.kind ≡ false → is_same_type Rel f.kind ≡ false → (not f.closed || in_use m s) ≡ false → m.protected ≡ true
        → status ≡ plain WriteProtected → PlannedAs t c m (plan_append m (s, f)) (Err status)
    protected_to_append status kept bytes free locked e = rw (kept, bytes, free, locked) e

    pub appended : is_same_type Del f.kind ≡ false → is_same_type Rel f.kind ≡ false → f.closed ≡ true → in_use m s ≡ false → m.protected ≡ false
        → PlannedAs t c m (plan_append m (s, f)) (Ok (planned.AppendFile file))
    appended kept bytes closed unused bare =
        let so : plan_append m (s, f) ≡ Ok (AppendFile s) = rw (kept, bytes, closed, unused, bare) refl in
        subst (λ r. PlannedAs t c m r (Ok (planned.AppendFile file))) (sym so) (record {
          number = is.number;
          stands = is.stands;
          file = f;
          in_slot = is.in_slot;
          closed = closed;
          kept = kept;
          plain = bytes;
          unused = unused;
          unprotected = bare;
        })

    pub open_to_replace : (status : Status) → (not f.closed || in_use m s) ≡ true → status ≡ plain WriteFileOpen → PlannedAs t c m (plan_replace m (s, f)) (Err status)
    open_to_replace status busy e = rw busy e

    module _ (free : (not f.closed || in_use m s) ≡ false) where
      pub locked_to_replace : (status : Status) → f.locked ≡ true → status ≡ plain FileExists → PlannedAs t c m (plan_replace m (s, f)) (Err status)
      locked_to_replace status locked e = rw (free, locked) e

      pub full_to_replace : (status : Status) → f.locked ≡ false → (m.disk.free == 0) ≡ true → status ≡ plain DiskFull → PlannedAs t c m (plan_replace m (s, f)) (Err status)
      full_to_replace status locked full e = rw (free, locked, full) e

      pub protected_to_replace : (status : Status) → f.locked ≡ false → (m.disk.free == 0) ≡ false → m.protected ≡ true → status ≡ plain WriteProtected
          → PlannedAs t c m (plan_replace m (s, f)) (Err status)
      protected_to_replace status locked full protected e = rw (free, locked, full, protected) e

    pub replaced : f.closed ≡ true → in_use m s ≡ false → f.locked ≡ false → (m.disk.free == 0) ≡ false → m.protected ≡ false → is_same_type Rel f.kind ≡ false
        → PlannedAs t c m (plan_replace m (s, f)) (Ok (planned.ReplaceFile file.slot))
    replaced closed unused locked block bare bytes =
        let so : plan_replace m (s, f) ≡ Ok (ReplaceFile s) = rw (closed, unused, locked, block, bare) refl in
        subst (λ r. PlannedAs t c m r (Ok (planned.ReplaceFile file.slot))) (sym so) (record {
          number = is.number;
          file = f;
          in_slot = is.in_slot;
          closed = closed;
          plain = bytes;
          unused = unused;
          block = block;
          unprotected = bare;
        })

  -- ---- a new file

  module _ (w : Wanted) (kind : FileType) (name : List ℕ) (is : w.name ≡ name) (there : is_there m.disk name ≡ false) where
    missing : is_there m.disk w.name ≡ false
    missing = ap (is_there m.disk) is ∙ there

    pub full_to_write : (status : Status) → ((m.disk.free == 0) || not (has_slot m.disk)) ≡ true → status ≡ plain DiskFull → PlannedAs t c m (plan_write w kind m) (Err status)
    full_to_write status full e = let no = missing in rw (no, full) e

    pub protected_to_write : (status : Status) → (m.disk.free == 0) ≡ false → has_slot m.disk ≡ true → m.protected ≡ true → status ≡ plain WriteProtected
        → PlannedAs t c m (plan_write w kind m) (Err status)
    protected_to_write status block place protected e = let no = missing in rw (no, block, place, protected) e

    pub written : (m.disk.free == 0) ≡ false → has_slot m.disk ≡ true → m.protected ≡ false → before_filler name ≡ name → is_same_type Del kind ≡ false → is_same_type Rel kind ≡ false
        → PlannedAs t c m (plan_write w kind m) (Ok (planned.WriteFile kind name))
    written block place bare cut kept bytes =
        let no = missing in
        let so : plan_write w kind m ≡ Ok (WriteFile kind w.name) = rw (no, block, place, bare) refl in
        subst (λ r. PlannedAs t c m r (Ok (planned.WriteFile kind name))) (sym so) (
          refl,
          is,
          record {
            kept = kept;
            plain = bytes;
            cut = subst (λ n. before_filler n ≡ n) (sym is) cut;
            block = block;
            place = place;
            unprotected = bare;
          },
        )

  -- ---- a file that is asked for to be written

  module _ (w : Wanted) where
    module _ (kind : FileType) (meant : w.kind ≡ Some kind) where
      by_name : (b : Bool) → (w.has_at && is_there m.disk w.name) ≡ b
          → plan_writing w w.kind m ≡ (if b then (found m.disk w.name (Some kind) >>= plan_replace m) else plan_write w kind m)
      by_name b at = ap (λ k. plan_writing w k m) meant ∙ ap (λ (x : Bool). if x then (found m.disk w.name (Some kind) >>= plan_replace m) else plan_write w kind m) at

      module _ (at : (w.has_at && is_there m.disk w.name) ≡ true) where
        -- the name is there, but no file of the type
        pub refused_replacement : (status : Status) → FoundAs t c m.disk (found m.disk w.name (Some kind)) (Err status) → PlannedAs t c m (plan_writing w w.kind m) (Err status)
        refused_replacement status h =
            subst (λ r. PlannedAs t c m r (Err status)) (sym (by_name true at)) (refused_by t c m status (found m.disk w.name (Some kind)) (plan_replace m) h)

        pub replacement_planned : (file : Found) (result : Result code.Plan Status) → is_same_type Rel kind ≡ false → FoundAs t c m.disk (found m.disk w.name (Some kind)) (Ok file)
            → ((s : ℕ) (f : File) → IsFound t c m.disk s f file → is_same_type Rel f.kind ≡ false → PlannedAs t c m (plan_replace m (s, f)) result)
            → PlannedAs t c m (plan_writing w w.kind m) result
        replacement_planned file result bytes h more =
            subst (λ r. PlannedAs t c m r result) (sym (by_name true at))
            (planned_by t c m file result (found m.disk w.name (Some kind)) (plan_replace m) h (λ s f is x. more s f x (bytes_kind f.kind kind (found_kind m.disk w.name kind s f is) bytes)))

      module _ (at : (w.has_at && is_there m.disk w.name) ≡ false) where
        pub name_taken : (status : Status) → is_there m.disk w.name ≡ true → status ≡ plain FileExists → PlannedAs t c m (plan_writing w w.kind m) (Err status)
        name_taken status there e = subst (λ r. PlannedAs t c m r (Err status)) (sym (by_name false at)) (rw there e)

        pub new_planned : (result : Result code.Plan Status) → PlannedAs t c m (plan_write w kind m) result → PlannedAs t c m (plan_writing w w.kind m) result
        new_planned result h = subst (λ r. PlannedAs t c m r result) (sym (by_name false at)) h
