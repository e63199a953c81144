-- What an OPEN will do with a file that it asks for.
use Rattle.std.proofs.Common.{◌≡◌, ℕ, Bool, true, false, refl, sym, ap, ◌∙◌, subst}
use Rattle.std.specs.Prelude.{◌&&◌, not, if◌then◌else◌, Result, Ok, Err, IsErrAnd}
use Rattle.cbm_file.specs.declared.file_type.FileType.TheVariants.{Del, Rel}
use Rattle.cbm_file.specs.Types.{is_same_type}
use Rattle.cbm_file.specs.Files.{File, Bytes, bytes_in}
use Rattle.cbm_command.specs.declared.opening.Mode.{Mode}
use Rattle.cbm_command.specs.declared.opening.Mode.TheVariants.{Read, Write, Append}
use Rattle.cbm_command.specs.contracts.opening.ModePartialEq.TheImpl.{eq-value}
use Rattle.cbm_command.specs.declared.opening.Wanted.{Wanted}
use Rattle.cbm_command.specs.declared.opening.Opening.TheVariants as opening
use Rattle.cbm_command.specs.Openings.{wants_relative}
use Rattle.cbm_command.specs.Refusals.{◌>>=◌}
use Rattle.cbm_medium.specs.Content.{Content}
use Rattle.cbm_machine.specs.declared.code.Code.{Code}
use Rattle.cbm_machine.specs.declared.code.Code.TheVariants.{NoChannel}
use Rattle.cbm_machine.specs.declared.status.Status.{Status}
use Rattle.cbm_machine.specs.Statuses.{plain}
use Rattle.cbm_machine.specs.Machines.{Machine, in_writing, too_many}
use Rattle.cbm_machine.specs.Finding.{found, body_at}
use Rattle.cbm_machine.specs.Plans.{Plan, ReadFile, OpenRecords, plan, plan_read, plan_append, plan_writing, meets_records}
use Rattle.cbm_channel.specs.declared.finding.Found.{Found}
use Rattle.cbm_channel.specs.declared.plan.Plan as code
use Rattle.cbm_channel.specs.declared.plan.Plan.TheVariants as planned
use Rattle.cbm_channel.specs.Planned.{FoundAs, PlannedAs, IsFound}

-- what the code's tests say of a mode
pub is_append : (x : Mode) (b : Bool) → b ≡ eq-value.it x Append → b ≡ true → x ≡ Append
is_append Append b e h = refl
is_append Read b e h = let bad = sym e ∙ h in absurd (cc)
is_append Write b e h = let bad = sym e ∙ h in absurd (cc)

pub is_write : (x : Mode) (b d : Bool) → b ≡ eq-value.it x Read → b ≡ false → d ≡ eq-value.it x Append → d ≡ false → x ≡ Write
is_write Write b d e h k l = refl
is_write Read b d e h k l = let bad = sym e ∙ h in absurd (cc)
is_write Append b d e h k l = let bad = sym k ∙ l in absurd (cc)

-- what the machine looks for, and what it costs
abbrev met : Wanted → Machine → Result (ℕ × File) Code
met w m = found m.disk w.name w.kind

abbrev met_cost : Wanted → Machine → ℕ
met_cost w m = if not w.has_at && meets_records (met w m) then 2 else 1

module _ (t : ℕ) (c : Content) (m : Machine) where
  -- a refusal that is passed on
  pub passed_refusal : (r : Result Plan Code) (status : Status) (result : Result code.Plan Status) → IsErrAnd result (λ e. e ≡ status) → PlannedAs t c m r (Err status) → PlannedAs t c m r result
  passed_refusal r status (Ok x) same h = absurd same
  passed_refusal r status (Err e) same h = subst (λ x. PlannedAs t c m r (Err x)) (sym same) h

  -- a file that isn't found refuses what would be done with it
  pub refused_by : (status : Status) (r : Result (ℕ × File) Code) (f : ℕ × File → Result Plan Code) → FoundAs t c m.disk r (Err status) → PlannedAs t c m (r >>= f) (Err status)
  refused_by status (Ok p) f h = absurd h
  refused_by status (Err e) f h = h

  pub planned_by : (file : Found) (result : Result code.Plan Status) (r : Result (ℕ × File) Code) (f : ℕ × File → Result Plan Code) → FoundAs t c m.disk r (Ok file)
      → ((s : ℕ) (x : File) → r ≡ Ok (s, x) → IsFound t c m.disk s x file → PlannedAs t c m (f (s, x)) result) → PlannedAs t c m (r >>= f) result
  planned_by file result (Ok p) f h more = more p.0 p.1 refl h
  planned_by file result (Err e) f h more = absurd h

  -- ---- a file that was found

  module _ (w : Wanted) (s : ℕ) (f : File) (kept : is_same_type Del f.kind ≡ false) (closed : f.closed ≡ true) (unwritten : in_writing m s ≡ false) where
    -- a relative one has its records opened
    pub relatable_planned : (file : Found) → IsFound t c m.disk s f file → is_same_type Rel f.kind ≡ true → w.has_at ≡ false → PlannedAs t c m (plan_read w m (s, f)) (Ok (planned.OpenRecords file))
    relatable_planned file is relative at =
        let so : plan_read w m (s, f) ≡ Ok (OpenRecords s) = rw (kept, relative, at, closed, unwritten) refl in
        subst (λ r. PlannedAs t c m r (Ok (planned.OpenRecords file))) (sym so)
        (record { number = is.number; stands = is.stands; file = f; in_slot = is.in_slot; closed = closed; relative = relative; width = is.says.record_length closed relative; unwritten = unwritten })

    pub readable_planned : (file : Found) → IsFound t c m.disk s f file → is_same_type Rel f.kind ≡ false → PlannedAs t c m (plan_read w m (s, f)) (Ok (planned.ReadFile file))
    readable_planned file is bytes =
        let so : plan_read w m (s, f) ≡ Ok (ReadFile s) = rw (kept, bytes, closed, unwritten) refl in
        let there = is.in_slot in
        let body : body_at m.disk s ≡ f.body = rw (body_at, there) refl in
        subst (λ r. PlannedAs t c m r (Ok (planned.ReadFile file))) (sym so) (record {
          number = is.number;
          stands = is.stands;
          has = record {
            file = f;
            in_slot = there;
            closed = closed;
            body = is.says.body bytes ∙ ap (λ b. Bytes (bytes_in b)) (sym body);
          };
          unwritten = unwritten;
        })

  module _ (ch : ℕ) (w : Wanted) (bytes : wants_relative w ≡ false) where
    -- ---- reading

    module _ (mode : w.mode ≡ Read) where
      plan_met : plan ch (opening.File w) m ≡ (if too_many (met_cost w m) m then Err NoChannel else (met w m >>= plan_read w m))
      plan_met = rw (bytes, mode) refl

      plan_is : (cost : ℕ) (b : Bool) → cost ≡ met_cost w m → too_many cost m ≡ b → plan ch (opening.File w) m ≡ (if b then Err NoChannel else (met w m >>= plan_read w m))
      plan_is cost b same many = plan_met ∙ ap (λ (x : Bool). if x then Err NoChannel else (met w m >>= plan_read w m)) (ap (λ (n : ℕ). too_many n m) (sym same) ∙ many)

      pub too_many_planned : (cost : ℕ) (status : Status) → cost ≡ met_cost w m → too_many cost m ≡ true → status ≡ plain NoChannel → PlannedAs t c m (plan ch (opening.File w) m) (Err status)
      too_many_planned cost status same many is = subst (λ r. PlannedAs t c m r (Err status)) (sym (plan_is cost true same many)) is

      pub refused_planned : (cost : ℕ) (status : Status) → cost ≡ met_cost w m → too_many cost m ≡ false → FoundAs t c m.disk (met w m) (Err status)
          → PlannedAs t c m (plan ch (opening.File w) m) (Err status)
      refused_planned cost status same few h = subst (λ r. PlannedAs t c m r (Err status)) (sym (plan_is cost false same few)) (refused_by status (met w m) (plan_read w m) h)

      read_by : (file : Found) (result : Result code.Plan Status) (r : Result (ℕ × File) Code) → FoundAs t c m.disk r (Ok file)
          → ((s : ℕ) (f : File) → IsFound t c m.disk s f file → PlannedAs t c m (plan_read w m (s, f)) result)
          → PlannedAs t c m (r >>= plan_read w m) result
      read_by file result (Ok p) h more = more p.0 p.1 h
      read_by file result (Err e) h more = absurd h

      pub read_planned : (cost : ℕ) (file : Found) (result : Result code.Plan Status) → cost ≡ met_cost w m → too_many cost m ≡ false → FoundAs t c m.disk (met w m) (Ok file)
          → ((s : ℕ) (f : File) → IsFound t c m.disk s f file → PlannedAs t c m (plan_read w m (s, f)) result)
          → PlannedAs t c m (plan ch (opening.File w) m) result
      read_planned cost file result same few h more =
          subst (λ r. PlannedAs t c m r result) (sym (plan_is cost false same few))
          (read_by file result (met w m) h more)

    -- ---- appending

    module _ (mode : w.mode ≡ Append) where
      append_is : (b : Bool) → too_many 1 m ≡ b → plan ch (opening.File w) m ≡ (if b then Err NoChannel else (met w m >>= plan_append m))
      append_is b many = rw (bytes, mode, many) refl

      pub refused_append : (status : Status) → too_many 1 m ≡ false → FoundAs t c m.disk (met w m) (Err status) → PlannedAs t c m (plan ch (opening.File w) m) (Err status)
      refused_append status few h = subst (λ r. PlannedAs t c m r (Err status)) (sym (append_is false few)) (refused_by status (met w m) (plan_append m) h)

      pub append_planned : (file : Found) (result : Result code.Plan Status) → too_many 1 m ≡ false → FoundAs t c m.disk (met w m) (Ok file)
          → ((s : ℕ) (f : File) → IsFound t c m.disk s f file → PlannedAs t c m (plan_append m (s, f)) result) → PlannedAs t c m (plan ch (opening.File w) m) result
      append_planned file result few h more =
          subst (λ r. PlannedAs t c m r result) (sym (append_is false few)) (planned_by file result (met w m) (plan_append m) h (λ s f is x. more s f x))

    -- ---- writing

    module _ (mode : w.mode ≡ Write) where
      write_is : (b : Bool) → too_many 1 m ≡ b → plan ch (opening.File w) m ≡ (if b then Err NoChannel else plan_writing w w.kind m)
      write_is b many = rw (bytes, mode, many) refl

      pub writing_planned : (result : Result code.Plan Status) → too_many 1 m ≡ false → PlannedAs t c m (plan_writing w w.kind m) result → PlannedAs t c m (plan ch (opening.File w) m) result
      writing_planned result few h = subst (λ r. PlannedAs t c m r result) (sym (write_is false few)) h

    -- ---- what isn't read costs one channel

    many_put : (status : Status) (x : Mode) (b : Bool) → w.mode ≡ x → b ≡ eq-value.it x Read → b ≡ false → too_many 1 m ≡ true → status ≡ plain NoChannel
        → PlannedAs t c m (plan ch (opening.File w) m) (Err status)
    many_put status Read b e test other many is = let bad = sym test ∙ other in absurd (cc)
    many_put status Write b e test other many is = subst (λ r. PlannedAs t c m r (Err status)) (sym (write_is e true many)) is
    many_put status Append b e test other many is = subst (λ r. PlannedAs t c m r (Err status)) (sym (append_is e true many)) is

    pub too_many_put : (status : Status) (b : Bool) → b ≡ eq-value.it w.mode Read → b ≡ false → too_many 1 m ≡ true → status ≡ plain NoChannel
        → PlannedAs t c m (plan ch (opening.File w) m) (Err status)
    too_many_put status b test other many is = many_put status w.mode b refl test other many is
