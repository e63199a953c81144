-- What was planned for an OPEN, and what it leads to.
use Rattle.std.proofs.Common.{◌≡◌, ℕ, zero, suc, Bool, true, false, List, [], ◌∷◌, refl, sym, ap, ◌∙◌, subst}
use Rattle.std.specs.Prelude.{◌==◌, ◌||◌, if◌then◌else◌, Some, Result, Ok, Err}
use Rattle.std.specs.List.{list_any}
use Rattle.cbm_file.specs.declared.file_type.FileType.{FileType}
use Rattle.cbm_file.specs.Files.{Disk, bytes_in}
use Rattle.cbm_command.specs.declared.opening.Opening.{Opening}
use Rattle.cbm_command.specs.declared.opening.Opening.TheVariants as opening
use Rattle.cbm_command.specs.declared.opening.Mode.{Mode}
use Rattle.cbm_command.specs.declared.opening.Mode.TheVariants.{Read, Write, Append}
use Rattle.cbm_command.specs.declared.opening.Wanted.{Wanted}
use Rattle.cbm_command.specs.declared.refusal.Refusal.{Refusal}
use Rattle.cbm_command.specs.declared.refusal.Refusal.TheVariants as refusal
use Rattle.cbm_command.specs.Openings.{wants_relative, opening_of}
use Rattle.cbm_command.specs.Refusals.{◌>>=◌}
use Rattle.cbm_medium.specs.Content.{Content}
use Rattle.cbm_chain.specs.Reading.{Reading}
use Rattle.cbm_volume.specs.Writers.{Use, Reads, HoldsNow, with_use}
use Rattle.cbm_channel.specs.declared.channel.Channel.TheVariants as kept
use Rattle.cbm_channel.specs.Standing.{use_of}
use Rattle.cbm_machine.specs.declared.code.Code.{Code}
use Rattle.cbm_machine.specs.declared.code.Code.TheVariants.{Fine}
use Rattle.cbm_machine.specs.declared.status.Status.{Status}
use Rattle.cbm_channel.specs.declared.finding.Found.{Found}
use Rattle.cbm_channel.specs.declared.plan.Plan as code
use Rattle.cbm_channel.specs.declared.plan.Plan.TheVariants as planned
use Rattle.cbm_machine.specs.Statuses.{plain}
use Rattle.cbm_machine.specs.Machines.{Machine, answered, say, with_status}
use Rattle.cbm_machine.specs.Machines as machine
use Rattle.cbm_machine.specs.Finding.{body_at}
use Rattle.cbm_machine.specs.Plans.{Plan, ReadListing, ReadFile, WriteFile, AppendFile, ReplaceFile, OpenRecords, MakeRecords, plan, act, asked, open_text}
use Rattle.cbm_channel.specs.Planned.{PlannedAs, IsReadable, IsWritable, IsAppendable, IsReplaceable, IsRelatable, IsMakeable, opened_by, begun_by, is_for_writing, text_writes}
use Rattle.cbm_machine.specs.Codes.{code_number, code_of_refusal}
use Rattle.cbm_channel.specs.Grounds.{is_fault_number}
use Rattle.cbm_machine.specs.Orderly.{channel_in}

-- ---- what was planned

pub begun_ok : (t : ℕ) (c : Content) (d : Machine) (r : Result Plan Code) (x : code.Plan) → PlannedAs t c d r (Ok x) → (p : Plan) × (r ≡ Ok p) × PlannedAs t c d (Ok p) (Ok x)
begun_ok t c d (Ok p) x h = (p, refl, h)
begun_ok t c d (Err e) x h = absurd h

pub begun_err : (t : ℕ) (c : Content) (d : Machine) (r : Result Plan Code) (status : Status) → PlannedAs t c d r (Err status) → (e : Code) × (r ≡ Err e) × (status ≡ plain e)
begun_err t c d (Ok p) status h = absurd h
begun_err t c d (Err e) status h = (e, refl, h)

pub begun_does : (ch : ℕ) (o : Opening) (m : Machine) (p : Plan) → plan ch o m ≡ Ok p → begun_by ch o m ≡ say Fine (act ch p m)
begun_does ch o m p h = ap (λ (r : Result Plan Code). answered m (r >>= λ q. Ok (say Fine (act ch q m)))) h

pub begun_refuses : (ch : ℕ) (o : Opening) (m : Machine) (e : Code) (status : Status) → plan ch o m ≡ Err e → status ≡ plain e → begun_by ch o m ≡ with_status status m
begun_refuses ch o m e status h is = ap (λ (r : Result Plan Code). answered m (r >>= λ q. Ok (say Fine (act ch q m)))) h ∙ ap (λ x. with_status x m) (sym is)

-- a file that is read
pub readable : (t : ℕ) (c : Content) (d : Machine) (p : Plan) (x : code.Plan) (file : Found) → PlannedAs t c d (Ok p) (Ok x) → x ≡ planned.ReadFile file → (s : ℕ) × (p ≡ ReadFile s) × IsReadable t c d s file
readable t c d p x file h e = by_plan p (subst (λ y. PlannedAs t c d (Ok p) (Ok y)) e h)
  where
    by_plan : (q : Plan) → PlannedAs t c d (Ok q) (Ok (planned.ReadFile file)) → (s : ℕ) × (q ≡ ReadFile s) × IsReadable t c d s file
    by_plan (ReadListing a) g = absurd g
    by_plan (ReadFile a) g = (a, refl, g)
    by_plan (WriteFile a b) g = absurd g
    by_plan (AppendFile a) g = absurd g
    by_plan (ReplaceFile a) g = absurd g
    by_plan (OpenRecords a) g = absurd g
    by_plan (MakeRecords a b) g = absurd g

-- a listing that is read
pub listable : (t : ℕ) (c : Content) (d : Machine) (p : Plan) (x : code.Plan) (pattern : List ℕ) → PlannedAs t c d (Ok p) (Ok x) → x ≡ planned.ReadListing pattern → p ≡ ReadListing pattern
listable t c d p x pattern h e = by_plan p (subst (λ y. PlannedAs t c d (Ok p) (Ok y)) e h)
  where
    by_plan : (q : Plan) → PlannedAs t c d (Ok q) (Ok (planned.ReadListing pattern)) → q ≡ ReadListing pattern
    by_plan (ReadListing a) g = ap ReadListing g
    by_plan (ReadFile a) g = absurd g
    by_plan (WriteFile a b) g = absurd g
    by_plan (AppendFile a) g = absurd g
    by_plan (ReplaceFile a) g = absurd g
    by_plan (OpenRecords a) g = absurd g
    by_plan (MakeRecords a b) g = absurd g

-- a new file that is written
pub writable : (t : ℕ) (c : Content) (m : Machine) (p : Plan) (x : code.Plan) (kind : FileType) (name : List ℕ) → PlannedAs t c m (Ok p) (Ok x) → x ≡ planned.WriteFile kind name → (p ≡ WriteFile kind name) × IsWritable m kind name
writable t c m p x kind name h e = by_plan p (subst (λ y. PlannedAs t c m (Ok p) (Ok y)) e h)
  where
    by_plan : (q : Plan) → PlannedAs t c m (Ok q) (Ok (planned.WriteFile kind name)) → (q ≡ WriteFile kind name) × IsWritable m kind name
    by_plan (ReadListing a) g = absurd g
    by_plan (ReadFile a) g = absurd g
    by_plan (WriteFile k n) g = ((λ i. WriteFile (g.0 i) (g.1 i)), subst (λ y. IsWritable m y name) g.0 (subst (IsWritable m k) g.1 g.2))
    by_plan (AppendFile a) g = absurd g
    by_plan (ReplaceFile a) g = absurd g
    by_plan (OpenRecords a) g = absurd g
    by_plan (MakeRecords a b) g = absurd g

-- a file that is appended to
pub appendable : (t : ℕ) (c : Content) (m : Machine) (p : Plan) (x : code.Plan) (file : Found) → PlannedAs t c m (Ok p) (Ok x) → x ≡ planned.AppendFile file → (p ≡ AppendFile file.slot) × IsAppendable t c m file.slot file
appendable t c m p x file h e = by_plan p (subst (λ y. PlannedAs t c m (Ok p) (Ok y)) e h)
  where
    by_plan : (q : Plan) → PlannedAs t c m (Ok q) (Ok (planned.AppendFile file)) → (q ≡ AppendFile file.slot) × IsAppendable t c m file.slot file
    by_plan (ReadListing a) g = absurd g
    by_plan (ReadFile a) g = absurd g
    by_plan (WriteFile k n) g = absurd g
    by_plan (AppendFile a) g = (ap AppendFile g.number, subst (λ (s : ℕ). IsAppendable t c m s file) g.number g)
    by_plan (ReplaceFile a) g = absurd g
    by_plan (OpenRecords a) g = absurd g
    by_plan (MakeRecords a b) g = absurd g

-- a file that is replaced
pub replaceable : (t : ℕ) (c : Content) (m : Machine) (p : Plan) (x : code.Plan) (slot : ℕ) → PlannedAs t c m (Ok p) (Ok x) → x ≡ planned.ReplaceFile slot → (p ≡ ReplaceFile slot) × IsReplaceable m slot slot
replaceable t c m p x slot h e = by_plan p (subst (λ y. PlannedAs t c m (Ok p) (Ok y)) e h)
  where
    by_plan : (q : Plan) → PlannedAs t c m (Ok q) (Ok (planned.ReplaceFile slot)) → (q ≡ ReplaceFile slot) × IsReplaceable m slot slot
    by_plan (ReadListing a) g = absurd g
    by_plan (ReadFile a) g = absurd g
    by_plan (WriteFile k n) g = absurd g
    by_plan (AppendFile a) g = absurd g
    by_plan (ReplaceFile a) g = (ap ReplaceFile g.number, subst (λ (s : ℕ). IsReplaceable m s slot) g.number g)
    by_plan (OpenRecords a) g = absurd g
    by_plan (MakeRecords a b) g = absurd g

-- a relative file that is opened
pub relatable : (t : ℕ) (c : Content) (d : Machine) (p : Plan) (x : code.Plan) (file : Found) → PlannedAs t c d (Ok p) (Ok x) → x ≡ planned.OpenRecords file → (s : ℕ) × (p ≡ OpenRecords s) × IsRelatable t c d s file
relatable t c d p x file h e = by_plan p (subst (λ y. PlannedAs t c d (Ok p) (Ok y)) e h)
  where
    by_plan : (q : Plan) → PlannedAs t c d (Ok q) (Ok (planned.OpenRecords file)) → (s : ℕ) × (q ≡ OpenRecords s) × IsRelatable t c d s file
    by_plan (ReadListing a) g = absurd g
    by_plan (ReadFile a) g = absurd g
    by_plan (WriteFile a b) g = absurd g
    by_plan (AppendFile a) g = absurd g
    by_plan (ReplaceFile a) g = absurd g
    by_plan (OpenRecords a) g = (a, refl, g)
    by_plan (MakeRecords a b) g = absurd g

-- a relative file that is made
pub makeable : (t : ℕ) (c : Content) (m : Machine) (p : Plan) (x : code.Plan) (name : List ℕ) (length : ℕ) → PlannedAs t c m (Ok p) (Ok x) → x ≡ planned.MakeRecords name length → (p ≡ MakeRecords name length) × IsMakeable m name length
makeable t c m p x name length h e = by_plan p (subst (λ y. PlannedAs t c m (Ok p) (Ok y)) e h)
  where
    by_plan : (q : Plan) → PlannedAs t c m (Ok q) (Ok (planned.MakeRecords name length)) → (q ≡ MakeRecords name length) × IsMakeable m name length
    by_plan (ReadListing a) g = absurd g
    by_plan (ReadFile a) g = absurd g
    by_plan (WriteFile k n) g = absurd g
    by_plan (AppendFile a) g = absurd g
    by_plan (ReplaceFile a) g = absurd g
    by_plan (OpenRecords a) g = absurd g
    by_plan (MakeRecords n l) g = ((λ i. MakeRecords (g.0 i) (g.1 i)), subst (λ y. IsMakeable m y length) g.0 (subst (IsMakeable m n) g.1 g.2))

-- a test that no channel passes
pub none_passes : (test : machine.Channel → Bool) → test machine.Closed ≡ false → (channels : List machine.Channel) (k : ℕ) → list_any test channels ≡ false → test (channel_in channels k) ≡ false
none_passes test shut [] k h = shut
none_passes test shut (x ∷ xs) zero h = (first (test x) (list_any test xs) h).0
  where
    first : (a b : Bool) → (a || b) ≡ false → (a ≡ false) × (b ≡ false)
    first true b e = absurd (cc)
    first false b e = (refl, e)
none_passes test shut (x ∷ xs) (suc k) h = none_passes test shut xs k ((first (test x) (list_any test xs) h).1)
  where
    first : (a b : Bool) → (a || b) ≡ false → (a ≡ false) × (b ≡ false)
    first true b e = absurd (cc)
    first false b e = (refl, e)

-- a file's channel
pub file_opens : (d : Disk) (p : Plan) (s slot : ℕ) → p ≡ ReadFile s → s ≡ slot → opened_by d p ≡ machine.Reading (Some slot) (bytes_in (body_at d s))
file_opens d p s slot e number = ap (opened_by d) e ∙ (λ i. machine.Reading (Some (number i)) (bytes_in (body_at d s)))

-- what the file's channel does with the disk
pub reads_as : (t : ℕ) (c : Content) (d : Disk) (p : Plan) (s slot : ℕ) (r : Reading) (uses : ℕ → Use) (ch : ℕ) → p ≡ ReadFile s → s ≡ slot → HoldsNow t c d (with_use uses ch (Reads s r (bytes_in (body_at d s))))
    → HoldsNow t c d (with_use uses ch (use_of (kept.File slot r) (opened_by d p)))
reads_as t c d p s slot r uses ch e number h =
    subst (λ (y : machine.Channel). HoldsNow t c d (with_use uses ch (use_of (kept.File slot r) y))) (sym (file_opens d p s slot e number))
    (subst (λ (n : ℕ). HoldsNow t c d (with_use uses ch (Reads n r (bytes_in (body_at d s))))) number h)

-- ---- the text of an OPEN

pub opened_text : (ch : ℕ) (text : List ℕ) (o : Opening) (m : Machine) → opening_of ch text ≡ Ok o → open_text ch text m ≡ begun_by ch o m
opened_text ch text o m e = ap (λ (r : Result Opening Refusal). answered m (asked r >>= λ x. plan ch x m >>= λ p. Ok (say Fine (act ch p m)))) e

pub refused_text : (ch : ℕ) (text : List ℕ) (e : Refusal) (m : Machine) → opening_of ch text ≡ Err e → open_text ch text m ≡ say (code_of_refusal e) m
refused_text ch text e m is = ap (λ (r : Result Opening Refusal). answered m (asked r >>= λ x. plan ch x m >>= λ p. Ok (say Fine (act ch p m)))) is

-- what isn't for writing, and isn't relative, reads
pub reads_mode : (w : Wanted) → wants_relative w ≡ false → is_for_writing (opening.File w) ≡ false → w.mode ≡ Read
reads_mode w plain h = by_mode w.mode refl (sym (ap (λ (b : Bool). if b then true else elim w.mode [ Read ↦ false | _ ↦ true ]) plain) ∙ h)
  where
    by_mode : (x : Mode) → w.mode ≡ x → (elim w.mode [ Read ↦ false | _ ↦ true ]) ≡ false → w.mode ≡ Read
    by_mode Read e g = e
    by_mode Write e g = absurd (let z = ap (λ (y : Mode). elim y [ Read ↦ false | _ ↦ true ]) (sym e) ∙ g in (cc))
    by_mode Append e g = absurd (let z = ap (λ (y : Mode). elim y [ Read ↦ false | _ ↦ true ]) (sym e) ∙ g in (cc))

-- a relative file may be made
pub relative_writes : (o : Opening) (w : Wanted) → o ≡ opening.File w → wants_relative w ≡ true → is_for_writing o ≡ false → ⊥
relative_writes o w e relative h = let z = ap (λ (b : Bool). if b then true else elim w.mode [ Read ↦ false | _ ↦ true ]) (sym relative) ∙ sym (ap is_for_writing e) ∙ h in absurd (cc)

pub writes_text : (ch : ℕ) (text : List ℕ) (o : Opening) → (ch == 15) ≡ false → opening_of ch text ≡ Ok o → text_writes ch text ≡ false → is_for_writing o ≡ false
writes_text ch text o other e h = sym (rw (other, e) refl) ∙ h

-- what a text is refused for is no fault of a disk
pub own_refusal : (e : Refusal) → is_fault_number (code_number (code_of_refusal e)) ≡ false
own_refusal refusal.Syntax = refl
own_refusal refusal.UnknownCommand = refl
own_refusal refusal.LongText = refl
own_refusal refusal.WildName = refl
own_refusal refusal.NoName = refl
own_refusal refusal.NoChannel = refl
own_refusal refusal.DriveNotReady = refl
