-- What a command leaves: the disk that the machine has then, or what a stop leaves of it.
use Rattle.std.proofs.Common.{◌≡◌, ℕ, Bool, true, false, List, length, refl, sym, ap, ◌∙◌, subst, inl, inr, arith, Option, Some, None, Result, Ok, Err, IsErrAnd, replicate}
use Rattle.cbm_medium.specs.declared.fault.Trouble.{Trouble}
use Rattle.cbm_file.specs.Files.{File, Disk, file_at, with_slot}
use Rattle.cbm_medium.specs.Content.{Content}
use Rattle.cbm_volume.specs.Writers.{HoldsNow, known, IsEither}
use Rattle.cbm_volume.specs.Writers as usage
use Rattle.cbm_volume.specs.NewDisks.{IsNewOrNothing}
use Rattle.cbm_volume.proofs.formatted.NewDisks.{idle_holds}
use Rattle.cbm_machine.specs.declared.code.Code.{Code}
use Rattle.cbm_machine.specs.declared.code.Code.TheVariants.{Fine, WriteFileOpen, FileExists, WriteProtected}
use Rattle.cbm_machine.specs.declared.status.Status.{Status}
use Rattle.cbm_machine.specs.Statuses.{plain, trouble_status}
use Rattle.cbm_machine.specs.Machines.{Machine, Channel, Closed, Reading, Writing, Stopped, Relative, answered, say, with_status, with_disk, channel, in_writing, is_open, any_open}
use Rattle.cbm_machine.specs.Codes.{code_of_fault}
use Rattle.cbm_machine.specs.Orderly.{channel_in, still_uses}
use Rattle.cbm_command.specs.declared.command.Command.TheVariants.{New, Validate}
use Rattle.cbm_file.specs.Changes.{new_disk, validated}
use Rattle.std.proofs.lemmas.Bool.{eq-eqb, cases_lt}
use Rattle.std.proofs.lemmas.List.{get_or-replicate, get_or_past}
use Rattle.cbm_channel.proofs.Planning.{none_passes}
use Rattle.std.specs.Prelude.{◌⊎◌, if◌then◌else◌, slice_index_or}
use Rattle.std.specs.List.{AllZip, list_any}
use Rattle.cbm_machine.specs.Finding.{is_there, found}
use Rattle.cbm_machine.specs.Running.{rename, scratch, run}
use Rattle.cbm_machine.specs.Told.{ToldStatus}
use Rattle.cbm_channel.specs.declared.channel.Channel as kept
use Rattle.cbm_channel.specs.declared.channel.Channel.TheVariants as code
use Rattle.cbm_channel.specs.Standing.{ChannelStands, StandsBy, use_of, uses_of}
use Rattle.cbm_channel.specs.Going.{IsStopped}
use Rattle.cbm_channel.specs.declared.finding.Found.{Found}
use Rattle.cbm_channel.specs.Planned.{FoundAs}
use Rattle.cbm_channel.specs.Commanded.{all_scratched, AreSlotsGoing, IsRenamable, RenamesAs}
use Rattle.cbm_channel.proofs.DiskSteps.{KeepsOpen, with_other_disk, changed_keeps, known_keeps}
use Rattle.cbm_channel.proofs.Scratches.{open_stays, still_in_use, scratch_done}
use Rattle.cbm_channel.proofs.Stands.{past_end, zip_at}
use Rattle.cbm_channel.proofs.Uses.{by_kind}

-- ---- where nothing is open

idle_use : (x : kept.Channel) (y : Channel) → ChannelStands x y → is_open y ≡ false → use_of x y ≡ usage.Idle
idle_use = by_kind (λ x y. is_open y ≡ false → use_of x y ≡ usage.Idle) (λ e. refl) (λ l e. refl) (λ slot r left e. absurd (cc)) (λ w full bytes blocks e. absurd (cc)) (λ slot e. refl) (λ r e. absurd (cc))

-- where nothing is open, no channel uses the disk
pub all_idle : (xs : List kept.Channel) (ys : List Channel) → AllZip ChannelStands xs ys → list_any is_open ys ≡ false → (k : ℕ) → uses_of xs ys k ≡ usage.Idle
all_idle xs ys h none k = idle_use (slice_index_or xs k code.Closed) (slice_index_or ys k Closed) (zip_at xs ys k h) (none_passes is_open refl ys k none)

-- what a channel still uses is open
open_if_used : (slot : ℕ) (x : Channel) → still_uses slot x ≡ true → is_open x ≡ true
open_if_used slot Closed u = absurd (cc)
open_if_used slot (Reading s left) u = refl
open_if_used slot (Writing s bytes blocks full replaces) u = refl
open_if_used slot (Stopped s) u = refl
open_if_used slot (Relative s k p) u = refl

-- no slot of a new disk has a file
no_new_slot : (n : ℕ) → slice_index_or (replicate {A = Option File} 8 None) n None ≡ None
no_new_slot n = elim (cases_lt n 8) [
  | inl below ↦ get_or-replicate 8 n None None below
  | inr past ↦ get_or_past (replicate 8 None) n None past
]

module _ (t : ℕ) (c c' : Content) (p : Bool) (chs : List kept.Channel) (told : ToldStatus) (text : Option (ℕ × List ℕ)) (m : Machine) (st : StandsBy c t p chs told text m) where
  -- 15 is none of the machine's channels
  pub none_at_15 : length chs ≡ 15 → channel m 15 ≡ Closed
  none_at_15 count = past_end chs m.channels 15 (omega (arith, count)) st.each

  -- nothing was written
  pub stopped_at_once : (after : Machine) (trouble : Trouble) (status : Status) → length chs ≡ 15 → status ≡ trouble_status trouble → IsStopped 15 m after (with_status status m)
  stopped_at_once after trouble status count e = record {
    either = λ n. inl refl;
    same_tracks = refl;
    same_protection = refl;
    own = inl (none_at_15 count);
    others = λ k ne. refl;
    fault = (trouble, e);
  }

  -- a command was stopped on the way to a disk
  pub stopped_on : (after : Machine) (d' : Disk) → after.disk ≡ d' → (stop : usage.Stopped t c' m.disk d' (uses_of chs m.channels)) → KeepsOpen m.disk stop.disk m.channels
      → (n : Machine) × ((trouble : Trouble) (status : Status) → length chs ≡ 15 → status ≡ trouble_status trouble → IsStopped 15 m after (with_status status n)) × StandsBy c' t p chs told text n
  stopped_on after d' same stop keeps = (
    with_disk stop.disk m,
    (λ trouble status count e. record {
      either = λ n. subst (λ (y : Disk). IsEither m.disk y stop.disk n) (sym same) (stop.either n);
      same_tracks = refl;
      same_protection = refl;
      own = inl (none_at_15 count);
      others = λ k ne. refl;
      fault = (trouble, e);
    }),
    with_other_disk t c c' p chs told text m stop.disk st stop.holds keeps,
  )

  -- ---- R

  module _ (new old : List ℕ) (slot : ℕ) (is : IsRenamable m new old slot) where
    abbrev pub renamed_disk : Disk
    renamed_disk = with_slot m.disk slot (Some (record (is.file) { name = new }))

    pub rename_done : answered m (rename new old m) ≡ say Fine (with_disk renamed_disk m)
    rename_done = rw (is.first, is.unwritten, is.fresh, is.unprotected) refl

    pub rename_stands : HoldsNow t c' renamed_disk (uses_of chs m.channels) → StandsBy c' t p chs told text (with_disk renamed_disk m)
    rename_stands holds = with_other_disk t c c' p chs told text m renamed_disk st holds (changed_keeps m.disk slot is.file (record (is.file) { name = new }) m.channels is.in_slot refl refl)

  -- ---- S

  module _ (ps : List (List ℕ)) (slots : List ℕ) (is : AreSlotsGoing m ps slots) where
    pub scratch_stands : HoldsNow t c' (all_scratched m.disk slots) (uses_of chs m.channels) → StandsBy c' t p chs told text (with_disk (all_scratched m.disk slots) m)
    scratch_stands holds = with_other_disk t c c' p chs told text m (all_scratched m.disk slots) st holds
        (known_keeps m.disk (all_scratched m.disk slots) m.channels (λ k slot u. ap known (open_stays m ps slots slot is.all (still_in_use m k slot u))))

    pub scratch_cut : usage.Stopped t c' m.disk (all_scratched m.disk slots) (uses_of chs m.channels)
        → (n : Machine) × ((trouble : Trouble) (status : Status) → length chs ≡ 15 → status ≡ trouble_status trouble → IsStopped 15 m (answered m (scratch ps m)) (with_status status n)) × StandsBy c' t p chs told text n
    scratch_cut stop = stopped_on (answered m (scratch ps m)) (all_scratched m.disk slots) (ap (λ (y : Machine). y.disk) (scratch_done m ps slots is)) stop
        (known_keeps m.disk stop.disk m.channels (λ k slot u. elim (stop.either slot) [
          | inl e ↦ e
          | inr e ↦ e ∙ ap known (open_stays m ps slots slot is.all (still_in_use m k slot u))
        ]))

  -- ---- V

  module _ (shut : any_open m ≡ false) where
    none_open : (d' : Disk) → KeepsOpen m.disk d' m.channels
    none_open d' k slot f u at closed = absurd (let z = none_passes is_open refl m.channels k shut in let y = open_if_used slot (channel_in m.channels k) u in (cc))

    pub validate_done : m.protected ≡ false → answered m (run Validate m) ≡ say Fine (with_disk (validated m.disk) m)
    validate_done unprotected = rw (shut, unprotected) refl

    pub validate_guarded : m.protected ≡ true → answered m (run Validate m) ≡ say WriteProtected m
    validate_guarded guarded = rw (shut, guarded) refl

    pub validate_stands : HoldsNow t c' (validated m.disk) (uses_of chs m.channels) → StandsBy c' t p chs told text (with_disk (validated m.disk) m)
    validate_stands holds = with_other_disk t c c' p chs told text m (validated m.disk) st holds (none_open (validated m.disk))

    pub validate_cut : m.protected ≡ false → usage.Stopped t c' m.disk (validated m.disk) (uses_of chs m.channels)
        → (n : Machine) × ((trouble : Trouble) (status : Status) → length chs ≡ 15 → status ≡ trouble_status trouble → IsStopped 15 m (answered m (run Validate m)) (with_status status n)) × StandsBy c' t p chs told text n
    validate_cut unprotected stop = stopped_on (answered m (run Validate m)) (validated m.disk) (ap (λ (y : Machine). y.disk) (validate_done unprotected)) stop (none_open stop.disk)

    -- ---- N

    module _ (name : List ℕ) (id : Option (List ℕ)) where
      pub new_done : m.protected ≡ false → answered m (run (New name id) m) ≡ say Fine (with_disk (new_disk m.tracks name id m.disk) m)
      new_done unprotected = rw (shut, unprotected) refl

      pub new_guarded : m.protected ≡ true → answered m (run (New name id) m) ≡ say WriteProtected m
      new_guarded guarded = rw (shut, guarded) refl

      pub new_stands : HoldsNow t c' (new_disk m.tracks name id m.disk) (uses_of chs m.channels) → StandsBy c' t p chs told text (with_disk (new_disk m.tracks name id m.disk) m)
      new_stands holds = with_other_disk t c c' p chs told text m (new_disk m.tracks name id m.disk) st holds (none_open (new_disk m.tracks name id m.disk))

      pub new_cut : m.protected ≡ false → IsNewOrNothing t c c'
          → (n : Machine) × ((trouble : Trouble) (status : Status) → length chs ≡ 15 → status ≡ trouble_status trouble → IsStopped 15 m (answered m (run (New name id) m)) (with_status status n)) × StandsBy c' t p chs told text n
      new_cut unprotected (inl same) = (m, stopped_at_once (answered m (run (New name id) m)), subst (λ (x : Content). StandsBy x t p chs told text m) (sym same) st)
      new_cut unprotected (inr (d, holds, empty)) = (
        with_disk d m,
        (λ trouble status count e. record {
          either = λ n. inr (ap known (empty n ∙ sym (no_new_slot n) ∙ sym (ap (λ (y : Machine). file_at y.disk n) (new_done unprotected))));
          same_tracks = refl;
          same_protection = refl;
          own = inl (none_at_15 count);
          others = λ k ne. refl;
          fault = (trouble, e);
        }),
        with_other_disk t c c' p chs told text m d st (idle_holds t c' d (uses_of chs m.channels) holds (all_idle chs m.channels st.each shut)) (none_open d),
      )

-- a channel is open
pub new_open : (m : Machine) (name : List ℕ) (id : Option (List ℕ)) → any_open m ≡ true → answered m (run (New name id) m) ≡ say WriteFileOpen m
new_open m name id e = rw e refl

pub validate_open : (m : Machine) → any_open m ≡ true → answered m (run Validate m) ≡ say WriteFileOpen m
validate_open m e = rw e refl

pub true_or_false : (b : Bool) → (b ≡ true) ⊎ (b ≡ false)
true_or_false true = inl refl
true_or_false false = inr refl

-- what is told on a protected disk
pub protected_status : (trouble : Trouble) (status : Status) → status ≡ trouble_status trouble → trouble.code ≡ 26 → status ≡ plain WriteProtected
protected_status trouble status e code = e ∙ ap (λ (b : Bool). if b then plain WriteProtected else record { code = code_of_fault trouble.code; first = trouble.track; second = trouble.sector }) (eq-eqb trouble.code 26 code)

-- ---- what R finds

-- a file that was found, by the number of the code
pub found_is : (t : ℕ) (c : Content) (d : Disk) (r : Result (ℕ × File) Code) (file : Found) → FoundAs t c d r (Ok file) → (f : File) × (r ≡ Ok (file.slot, f)) × (file_at d file.slot ≡ Some f)
found_is t c d (Ok x) file h =
    let both : x ≡ (file.slot, x.1) = λ i. (h.number i, x.1) in
    (x.1, ap (λ (y : ℕ × File). Ok y) both, ap (file_at d) (sym h.number) ∙ h.in_slot)
found_is t c d (Err e) file h = absurd h

-- the answer of a test that may be refused
abbrev pub answer_of : Result Bool Status → Bool
answer_of (Ok x) = x
answer_of (Err y) = false

module _ (m : Machine) (new old : List ℕ) where
  -- the name isn't there, or the directory breaks off
  pub rename_unfound : (t : ℕ) (c : Content) (status : Status) → FoundAs t c m.disk (found m.disk old None) (Err status) → RenamesAs m new old (Err status)
  rename_unfound t c status h = by_found (found m.disk old None) refl h
    where
      by_found : (r : Result (ℕ × File) Code) → found m.disk old None ≡ r → FoundAs t c m.disk r (Err status) → RenamesAs m new old (Err status)
      by_found (Ok x) e k = absurd k
      by_found (Err code) e k = (code, rw e refl, k)

  -- a refusal that is passed on
  pub rename_passed : (r : Result ℕ Status) (status : Status) → IsErrAnd r (λ e. e ≡ status) → RenamesAs m new old (Err status) → RenamesAs m new old r
  rename_passed (Ok x) status same h = absurd same
  rename_passed (Err e) status same h = (h.0, h.1, same ∙ h.2)

  module _ (slot : ℕ) (f : File) (first : found m.disk old None ≡ Ok (slot, f)) (status : Status) where
    pub rename_open : in_writing m slot ≡ true → status ≡ plain WriteFileOpen → RenamesAs m new old (Err status)
    rename_open w e = (WriteFileOpen, rw (first, w) refl, e)

    pub rename_there : in_writing m slot ≡ false → is_there m.disk new ≡ true → status ≡ plain FileExists → RenamesAs m new old (Err status)
    rename_there w there e = (FileExists, rw (first, w, there) refl, e)

    pub rename_guarded : in_writing m slot ≡ false → is_there m.disk new ≡ false → m.protected ≡ true → status ≡ plain WriteProtected → RenamesAs m new old (Err status)
    rename_guarded w fresh guarded e = (WriteProtected, rw (first, w, fresh, guarded) refl, e)
