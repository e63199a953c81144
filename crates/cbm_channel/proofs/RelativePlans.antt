-- What an OPEN by type L will do, or why it is refused, from the tests that the code makes.
use Rattle.std.proofs.Common.{◌≡◌, ◌≤◌, ℕ, Bool, true, false, refl, sym, ap, ◌∙◌, subst}
use Rattle.std.specs.Option.{option_eq}
use Rattle.std.specs.Prelude.{◌==◌, ◌||◌, not, nat_lt, Option, Some, None, Result, Ok, Err}
use Rattle.cbm_file.specs.contracts.file_type.FileTypePartialEq.TheImpl.{eq-value}
use Rattle.cbm_file.specs.declared.file_type.FileType.{FileType}
use Rattle.cbm_file.specs.declared.file_type.FileType.TheVariants.{Rel}
use Rattle.cbm_file.specs.Types.{is_same_type}
use Rattle.cbm_file.specs.Files.{File}
use Rattle.cbm_command.specs.declared.opening.Wanted.{Wanted}
use Rattle.cbm_command.specs.declared.opening.Opening.TheVariants as opening
use Rattle.cbm_command.specs.Openings.{wants_relative}
use Rattle.cbm_command.specs.Refusals.{◌>>=◌}
use Rattle.cbm_medium.specs.Content.{Content}
use Rattle.cbm_machine.specs.declared.status.Status.{Status}
use Rattle.cbm_machine.specs.Machines.{Machine, too_many}
use Rattle.cbm_machine.specs.Finding.{is_there, found}
use Rattle.cbm_machine.specs.Plans.{MakeRecords, plan, plan_there, plan_missing}
use Rattle.cbm_channel.specs.declared.finding.Found.{Found}
use Rattle.cbm_channel.specs.declared.plan.Plan as code
use Rattle.cbm_channel.specs.declared.plan.Plan.TheVariants as planned
use Rattle.cbm_file.specs.Changes.{has_slot}
use Rattle.cbm_file.specs.Padding.{before_filler}
use Rattle.cbm_machine.specs.declared.code.Code.TheVariants.{FileNotFound, NoRecord, DiskFull, WriteProtected}
use Rattle.cbm_machine.specs.Statuses.{plain}
use Rattle.cbm_channel.specs.Planned.{FoundAs, PlannedAs, IsFound}
use Rattle.cbm_channel.proofs.Asking.{refused_by, planned_by}
use Rattle.cbm_channel.proofs.WritePlans.{found_kind, relative_is, type_tested}

-- the code's test of type L
pub not_relative : (w : Wanted) (b : Bool) → b ≡ option_eq eq-value.it w.kind (Some Rel) → b ≡ false → wants_relative w ≡ false
not_relative w b e h = by_kind w.kind refl
  where
    by_kind : (k : Option FileType) → w.kind ≡ k → wants_relative w ≡ false
    by_kind None is = rw is refl
    by_kind (Some k) is = relative_is w k is ∙ type_tested Rel k w.kind b is e ∙ h

pub relative_if : (w : Wanted) (b : Bool) → b ≡ option_eq eq-value.it w.kind (Some Rel) → b ≡ true → wants_relative w ≡ true
relative_if w b e h = by_kind w.kind refl
  where
    by_kind : (k : Option FileType) → w.kind ≡ k → wants_relative w ≡ true
    by_kind None is = absurd (let z = sym h ∙ e ∙ ap (λ k. option_eq eq-value.it k (Some Rel)) is in (cc))
    by_kind (Some k) is = relative_is w k is ∙ type_tested Rel k w.kind b is e ∙ h

module _ (t : ℕ) (c : Content) (m : Machine) (ch : ℕ) (w : Wanted) (relative : wants_relative w ≡ true) (few : too_many 2 m ≡ false) (free : w.has_at ≡ false) (high : nat_lt ch 2 ≡ false) (there : is_there m.disk w.name ≡ true) where
  there_is : plan ch (opening.File w) m ≡ (found m.disk w.name (Some Rel) >>= plan_there w m)
  there_is = rw (relative, few, free, high, there) refl

  -- no file of the name is relative
  pub refused_there : (status : Status) → FoundAs t c m.disk (found m.disk w.name (Some Rel)) (Err status) → PlannedAs t c m (plan ch (opening.File w) m) (Err status)
  refused_there status h = subst (λ r. PlannedAs t c m r (Err status)) (sym there_is) (refused_by t c m status (found m.disk w.name (Some Rel)) (plan_there w m) h)

  pub there_planned : (file : Found) (result : Result code.Plan Status) → FoundAs t c m.disk (found m.disk w.name (Some Rel)) (Ok file)
      → ((s : ℕ) (f : File) → IsFound t c m.disk s f file → is_same_type Rel f.kind ≡ true → PlannedAs t c m (plan_there w m (s, f)) result) → PlannedAs t c m (plan ch (opening.File w) m) result
  there_planned file result h more = subst (λ r. PlannedAs t c m r result) (sym there_is)
      (planned_by t c m file result (found m.disk w.name (Some Rel)) (plan_there w m) h (λ s f is x. more s f x (found_kind m.disk w.name Rel s f is)))

-- the name isn't there
pub missing_planned : (t : ℕ) (c : Content) (m : Machine) (ch : ℕ) (w : Wanted) → wants_relative w ≡ true → too_many 2 m ≡ false → w.has_at ≡ false → nat_lt ch 2 ≡ false → is_there m.disk w.name ≡ false → (result : Result code.Plan Status)
    → PlannedAs t c m (plan_missing w m) result → PlannedAs t c m (plan ch (opening.File w) m) result
missing_planned t c m ch w relative few free high there result h =
    let is : plan ch (opening.File w) m ≡ plan_missing w m = rw (relative, few, free, high, there) refl in
    subst (λ r. PlannedAs t c m r result) (sym is) h

-- ---- a file that is missing

module _ (t : ℕ) (c : Content) (m : Machine) (w : Wanted) where
  pub no_length : (status : Status) → (w.record_length == 0) ≡ true → status ≡ plain FileNotFound → PlannedAs t c m (plan_missing w m) (Err status)
  no_length status none e = rw none e

  module _ (some : (w.record_length == 0) ≡ false) where
    pub long_length : (status : Status) → (w.record_length == 255) ≡ true → status ≡ plain NoRecord → PlannedAs t c m (plan_missing w m) (Err status)
    long_length status long e = rw (some, long) e

    module _ (short : (w.record_length == 255) ≡ false) where
      pub full_to_make : (status : Status) → (nat_lt m.disk.free 2 || not (has_slot m.disk)) ≡ true → status ≡ plain DiskFull → PlannedAs t c m (plan_missing w m) (Err status)
      full_to_make status full e = rw (some, short, full) e

      module _ (room : (nat_lt m.disk.free 2 || not (has_slot m.disk)) ≡ false) where
        pub protected_to_make : (status : Status) → m.protected ≡ true → status ≡ plain WriteProtected → PlannedAs t c m (plan_missing w m) (Err status)
        protected_to_make status protected e = rw (some, short, room, protected) e

        pub made : m.protected ≡ false → before_filler w.name ≡ w.name → 1 ≤ w.record_length → PlannedAs t c m (plan_missing w m) (Ok (planned.MakeRecords w.name w.record_length))
        made bare cut first =
            let so : plan_missing w m ≡ Ok (MakeRecords w.name w.record_length) = rw (some, short, room, bare) refl in
            subst (λ r. PlannedAs t c m r (Ok (planned.MakeRecords w.name w.record_length))) (sym so) (refl, refl, record { cut = cut; some = first; room = room; unprotected = bare })
