-- What a run of a script promises, whatever holds the drive's disk, and then of an image.
use Rattle.std.specs.Prelude.{ℕ, ◌≡◌, ◌⊎◌, List, Bool, true, Option, Some, None, Result, Err, IfSome, IfOk, OnErr}
use Rattle.std.specs.Io.KnownBytes.{Keeps}
use Rattle.cbm_machine.specs.Machines.{Machine}
use Rattle.cbm_host.specs.Hosted.{party_of}
use Rattle.cbm_iec.specs.declared.pace.Pace.{Pace}
use Rattle.cbm_iec.specs.declared.party.Party.{Party}
use Rattle.cbm_image.specs.Images.{kind_of, image_fault, tracks_of, content_of, ImageHolds}
use Rattle.cbm_program.specs.declared.fault.RunFault.{RunFault}
use Rattle.cbm_program.specs.declared.fault.RunFault.TheVariants.{Image, Memory}
use Rattle.cbm_program.specs.Output.{AppendsMore, Prints, PrintsPart}
use Rattle.cbm_program.specs.Running.{script_of, EndsAs}
use Rattle.cbm_program.specs.Checking.{printed_after, checked_text, IsCheckedFirst}
use Rattle.cbm_program.specs.Timetables.{of_requests, of_changes, timetable_of}
use Rattle.cbm_program.specs.Traces.{PrintsTrace, PrintsTracePart, WritesAfter}
use Rattle.cbm_program.specs.Starts.{BeginsOn}

-- ---- a script of requests, and one of line changes: what was written, where the machines that stood before are these

module _ (pace : Pace) (checks : Bool) (input old new : Option (List ℕ)) (stood : Machine → Type 0) where
  -- what a script of requests prints, and the machine after it is one of these
  abbrev pub IsScriptServed : (Machine → Type 0) → Type 0
  IsScriptServed stands = IfSome input (λ bytes. Prints old new stood stands (printed_after pace checks (script_of bytes).requests))

  -- the same, and this is the number of its first bad line, or it has none
  abbrev pub IsServedTo : (Machine → Type 0) → Option ℕ → Type 0
  IsServedTo stands bad = IfSome input (λ bytes. ((script_of bytes).bad ≡ bad) × Prints old new stood stands (printed_after pace checks (script_of bytes).requests))

  -- a beginning of what it prints
  abbrev pub IsServedPart : Type 0
  IsServedPart = IfSome input (λ bytes. PrintsPart old new stood (printed_after pace checks (script_of bytes).requests))

module _ (drive : Party) (checks : Bool) (input old new : Option (List ℕ)) (stood : Machine → Type 0) where
  -- the trace of a script of line changes, and the machine after it is one of these
  abbrev pub IsTraced : (Machine → Type 0) → Type 0
  IsTraced stands = IfSome input (λ bytes. PrintsTrace old new stood stands drive (checked_text checks) (timetable_of bytes))

  -- the same, and this is the number of its first bad line, or it has none
  abbrev pub IsTracedTo : (Machine → Type 0) → Option ℕ → Type 0
  IsTracedTo stands bad = IfSome input (λ bytes. ((timetable_of bytes).bad ≡ bad) × PrintsTrace old new stood stands drive (checked_text checks) (timetable_of bytes))

  -- a beginning of such a trace
  abbrev pub IsTracedPart : Type 0
  IsTracedPart = IfSome input (λ bytes. PrintsTracePart old new stood drive (checked_text checks) (timetable_of bytes))

-- A SCRIPT OF REQUESTS on a drive that represents such a machine: what is given back holds the disks of such others.
pub record ServesScript {A : Type 0} (result : Result A RunFault) (stood : Machine → Type 0) (holds : A → Machine → Type 0) (pace : Pace) (checks : Bool)
    (input old new : Option (List ℕ)) : Type 0 where
  -- What was written is what the script prints up to its end or its first bad line.
  pub ended : EndsAs result (IsServedTo pace checks input old new stood (λ _. Unit {0}))
  -- What is given back holds the disk after the script, with all that the script wrote.
  pub disk : IfOk result (λ after. IsScriptServed pace checks input old new stood (holds after))
  -- At a fault a beginning of what the script prints was written.
  pub fault : OnErr result (IsServedPart pace checks input old new stood)

-- A SCRIPT OF LINE CHANGES on such a drive.
pub record PlaysScript {A : Type 0} (result : Result A RunFault) (stood : Machine → Type 0) (holds : A → Machine → Type 0) (drive : Party) (checks : Bool)
    (input old new : Option (List ℕ)) : Type 0 where
  -- The trace of the drive was written, up to the script's end or its first bad line.
  pub ended : EndsAs result (IsTracedTo drive checks input old new stood (λ _. Unit {0}))
  -- What is given back holds the disk after it.
  pub disk : IfOk result (λ after. IsTraced drive checks input old new stood (holds after))
  -- At a fault a beginning of such a trace was written.
  pub fault : OnErr result (IsTracedPart drive checks input old new stood)

-- A SCRIPT OF EITHER KIND on such a drive, after the line of a check if one is asked for.
pub record IsRun {A : Type 0} (result : Result A RunFault) (stood : Machine → Type 0) (holds : A → Machine → Type 0) (pace : Pace) (device : ℕ) (checks : Bool)
    (input old new : Option (List ℕ)) : Type 0 where
  pub served : ServesScript result stood holds pace checks (of_requests input) old new
  pub played : PlaysScript result stood holds (party_of pace device) checks (of_changes input) old new
  -- Of a script of line changes, on any disk, sound or not, a drive's trace was written after the line of the check, up to the script's end or its first
  -- bad line: of a drive above which a machine plays back what the DOS showed.
  pub wrote : EndsAs result (λ bad. WritesAfter (party_of pace device) checks (of_changes input) old new bad)
  -- All that is printed is added to what was written.
  pub grows : AppendsMore old new

-- ---- an image: `items` are the bytes of the image that a run gives back, `input` is what the reader still had to give, and `old` and `new` are what the
-- writer held before the run and after it, as far as they are known

module _ {A : Type 0} (result : Result A RunFault) (items : A → List ℕ) (image : List ℕ) (protected checks : Bool) (input old new : Option (List ℕ)) where
  -- A SCRIPT OF REQUESTS WAS RUN on the image's disk, with a drive of this pace.
  pub record RunsRequests (pace : Pace) : Type 0 where
    -- It was carried out, and the image that is given back holds the disk after it.
    pub script : ServesScript result (BeginsOn image protected) (λ saved m. ImageHolds (kind_of image) (items saved) m.disk) pace checks (of_requests input) old new
    -- Memory is lacking for the disk, before anything is read or written, or for the new image, after the whole script; and at no other time.
    pub memory : result ≡ Err Memory → Keeps old new ⊎ IsServedTo pace checks (of_requests input) old new (BeginsOn image protected) (λ _. Unit {0}) None

  -- A SCRIPT OF LINE CHANGES WAS RUN on the image's disk, with this drive.
  pub record RunsChanges (drive : Party) : Type 0 where
    -- It was played, and the image that is given back holds the disk after it.
    pub script : PlaysScript result (BeginsOn image protected) (λ saved m. ImageHolds (kind_of image) (items saved) m.disk) drive checks (of_changes input) old new
    -- On any disk, sound or not, a drive's trace was written after the line of the check, up to the script's end or its first bad line: of a drive above which
    -- a machine plays back what the DOS showed.
    pub wrote : EndsAs result (λ bad. WritesAfter drive checks (of_changes input) old new bad)
    -- Memory is lacking for the disk, or for the new image, after the whole script; and at no other time.
    pub memory : result ≡ Err Memory → Keeps old new ⊎ IsTracedTo drive checks (of_changes input) old new (BeginsOn image protected) (λ _. Unit {0}) None

  -- WHATEVER THE SCRIPT AND THE IMAGE ARE, this comes of a run.
  pub record IsOutcome : Type 0 where
    -- All that is printed is added to what was written.
    pub grows : AppendsMore old new
    -- The line of the check is printed first, where one is asked for.
    pub checked : checks ≡ true → EndsAs result (λ bad. IsCheckedFirst (tracks_of (kind_of image) image) (content_of (kind_of image) image) old new)
    -- The image of a protected disk, sound or not, is given back byte for byte.
    pub guarded : protected ≡ true → IfOk result (λ saved. items saved ≡ image)
    -- The image that is given back has as many tracks.
    pub same_tracks : IfOk result (λ saved. tracks_of (kind_of image) (items saved) ≡ tracks_of (kind_of image) image)
    -- It has no fault of its format: it opens again.
    pub opens : IfOk result (λ saved. image_fault (kind_of image) (items saved) ≡ None)
    -- The image is refused by its own fault, before anything is read or written,
    pub refused : IfSome (image_fault (kind_of image) image) (λ n. (result ≡ Err (Image n)) × Keeps old new)
    -- and by no other.
    pub cause : (n : ℕ) → result ≡ Err (Image n) → image_fault (kind_of image) image ≡ Some n
