-- From a machine at power up to the run of a script.
use Rattle.std.proofs.Common.{◌≡◌, ℕ, List, [], Bool, false, Option, Some, None, refl, sym, subst, ◌∙◌}
use Rattle.std.specs.Prelude.{Result, Ok, Err}
use Rattle.std.specs.Io.KnownBytes.{Appends, Keeps}
use Rattle.cbm_iec.specs.declared.pace.Pace.{Pace}
use Rattle.cbm_medium.specs.Content.{Content}
use Rattle.cbm_medium.specs.Seen.{Seen}
use Rattle.cbm_volume.specs.Holding.{HoldsDisk}
use Rattle.cbm_file.specs.Files.{Disk}
use Rattle.cbm_machine.specs.Machines.{Machine, start}
use Rattle.cbm_image.specs.declared.kind.Kind.{Kind}
use Rattle.cbm_image.specs.Images.{tracks_of, content_of, ImageHolds, IsOf}
use Rattle.cbm_program.specs.declared.request.ScriptRequest.{ScriptRequest}
use Rattle.cbm_program.specs.declared.fault.RunFault.{RunFault}
use Rattle.cbm_program.specs.declared.fault.RunFault.TheVariants.{Script, Image, Memory, Reading, Writing}
use Rattle.cbm_program.specs.Checking.{checked_text, IsCheckPrinted, IsCheckedFirst, printed_after}
use Rattle.cbm_program.specs.Outcome.{IsScriptServed, IsServedTo, IsServedPart}
use Rattle.cbm_program.specs.Output.{AppendsPart, AppendsMore, Prints}
use Rattle.cbm_program.specs.Running.{script_of, EndsAs, EndsBy}
use Rattle.cbm_program.specs.Scripts.{printed}
use Rattle.cbm_program.specs.Starts.{StartsOn, StartsFrom}
use Rattle.bus_traces.proofs.Appending.{appends-nothing, appends-more}
use Rattle.cbm_program.proofs.OutputLemmas.{part_after, part_before, whole_part}

-- each machine of one kind is one of the other
abbrev pub AreAmong : (Machine → Type 0) → (Machine → Type 0) → Type 0
AreAmong some all = (m : Machine) → some m → all m

-- a drive that stands for each machine at power up
pub among-stands : (shows : Seen) (stands : Machine → Type 0) → ((d : Disk) → HoldsDisk shows.tracks shows.content d → stands (start d shows.protected shows.tracks)) → AreAmong (StartsFrom shows) stands
among-stands shows stands h m (d, holds, e) = subst (λ x. stands x) (sym e) (h d holds)

-- ---- the same machines

module _ (pace : Pace) (checks : Bool) (a b : Option (List ℕ)) (some all now next : Machine → Type 0) (is : AreAmong some all) (then : AreAmong now next) where
  prints-among : (script : List ScriptRequest) → Prints a b all now (printed_after pace checks script) → Prints a b some next (printed_after pace checks script)
  prints-among script p m s = let r = p m (is m s) in (r.0, then (printed pace script m).machine r.1)

  pub served-among : (x : Option (List ℕ)) → IsScriptServed pace checks x a b all now → IsScriptServed pace checks x a b some next
  served-among None e = tt
  served-among (Some xs) e = prints-among (script_of xs).requests e

  pub ended-among : (x : Option (List ℕ)) (bad : Option ℕ) → IsServedTo pace checks x a b all now bad → IsServedTo pace checks x a b some next bad
  ended-among None bad e = tt
  ended-among (Some xs) bad e = (e.0, prints-among (script_of xs).requests e.1)

  pub served-ended : (x : Option (List ℕ)) (bad : Option ℕ) → IsServedTo pace checks x a b all now bad → IsScriptServed pace checks x a b some next
  served-ended None bad e = tt
  served-ended (Some xs) bad e = prints-among (script_of xs).requests e.1

pub part-among : (pace : Pace) (checks : Bool) (a b x : Option (List ℕ)) (some all : Machine → Type 0) → AreAmong some all → IsServedPart pace checks x a b all → IsServedPart pace checks x a b some
part-among pace checks a b None some all is e = tt
part-among pace checks a b (Some xs) some all is e = λ m s. e m (is m s)

-- ---- results

ends-err : (f : RunFault) (P Q : Option ℕ → Type 0) → EndsBy f P → ((bad : Option ℕ) → P bad → Q bad) → EndsBy f Q
ends-err (Script line) P Q h w = w (Some line) h
ends-err (Image n) P Q h w = tt
ends-err Memory P Q h w = tt
ends-err Reading P Q h w = tt
ends-err Writing P Q h w = tt

-- the same fault is handed on
pub ends-again : {B : Type 0} (r : Result B RunFault) (f : RunFault) (P Q : Option ℕ → Type 0) → EndsBy f P → r ≡ Err f
    → ((bad : Option ℕ) → P bad → Q bad) → EndsAs r Q
ends-again r f P Q h e w = subst (λ v. EndsAs v Q) (sym e) (ends-err f P Q h w)

-- what holds whatever the end is
pub ends-any : {B : Type 0} (r : Result B RunFault) (P : Option ℕ → Type 0) → ((bad : Option ℕ) → P bad) → EndsAs r P
ends-any (Ok _) P h = h None
ends-any (Err (Script line)) P h = h (Some line)
ends-any (Err (Image n)) P h = tt
ends-any (Err Memory) P h = tt
ends-any (Err Reading) P h = tt
ends-any (Err Writing) P h = tt

-- ---- after the line of a check

-- for each machine that stood, the check's line was printed
abbrev pub Said : Bool → Option (List ℕ) → Option (List ℕ) → (Machine → Type 0) → Type 0
Said checks a b stood = (m : Machine) → stood m → Appends a b (checked_text checks)

module _ (pace : Pace) (checks : Bool) (a b c : Option (List ℕ)) (stood : Machine → Type 0) (said : Said checks a b stood) where
  prints-afterwards : (now : Machine → Type 0) (script : List ScriptRequest) → Prints b c stood now (printed pace script) → Prints a c stood now (printed_after pace checks script)
  prints-afterwards now script p m s = let r = p m s in (appends-more a b c (checked_text checks) (printed pace script m).text (said m s) r.0, r.1)

  pub ended-afterwards : (now : Machine → Type 0) (x : Option (List ℕ)) (bad : Option ℕ) → IsServedTo pace false x b c stood now bad → IsServedTo pace checks x a c stood now bad
  ended-afterwards now None bad e = tt
  ended-afterwards now (Some xs) bad e = (e.0, prints-afterwards now (script_of xs).requests e.1)

  pub served-afterwards : (now : Machine → Type 0) (x : Option (List ℕ)) → IsScriptServed pace false x b c stood now → IsScriptServed pace checks x a c stood now
  served-afterwards now None e = tt
  served-afterwards now (Some xs) e = prints-afterwards now (script_of xs).requests e

  pub part-afterwards : (x : Option (List ℕ)) → IsServedPart pace false x b c stood → IsServedPart pace checks x a c stood
  part-afterwards None e = tt
  part-afterwards (Some xs) e = λ m s. part_after a b c (checked_text checks) (printed pace (script_of xs).requests m).text (said m s) (e m s)

-- a check of the disk that a machine at power up has
pub said-start : (shows : Seen) (checks : Bool) (a b : Option (List ℕ)) → ((d : Disk) → HoldsDisk shows.tracks shows.content d → Appends a b (checked_text checks)) → Said checks a b (StartsFrom shows)
said-start shows checks a b h m (d, holds, e) = h d holds

-- the check's own line broke off
pub part-cut : (pace : Pace) (checks : Bool) (a b x : Option (List ℕ)) (stood : Machine → Type 0) → ((m : Machine) → stood m → AppendsPart a b (checked_text checks)) → IsServedPart pace checks x a b stood
part-cut pace checks a b None stood h = tt
part-cut pace checks a b (Some xs) stood h = λ m s. part_before a b (checked_text checks) (printed pace (script_of xs).requests m).text (h m s)

-- what was printed whole is a beginning, and so is nothing
pub served-part : (pace : Pace) (checks : Bool) (a b x : Option (List ℕ)) (stood now : Machine → Type 0) → IsScriptServed pace checks x a b stood now → IsServedPart pace checks x a b stood
served-part pace checks a b None stood now e = tt
served-part pace checks a b (Some xs) stood now e = λ m s. whole_part a b (printed_after pace checks (script_of xs).requests m).text (e m s).0

pub nothing-part : (pace : Pace) (checks : Bool) (a x : Option (List ℕ)) (stood : Machine → Type 0) → IsServedPart pace checks x a a stood
nothing-part pace checks a None stood = tt
nothing-part pace checks a (Some xs) stood = λ m s. ([], (printed_after pace checks (script_of xs).requests m).text, appends-nothing a, refl)

-- ---- the same of an image

-- a machine at power up with the image's disk is one with the medium's
pub starts-as : (kind : Kind) (image : List ℕ) (seen : Seen) (p : Bool) → IsOf kind image seen → seen.protected ≡ p
    → AreAmong (StartsOn (tracks_of kind image) (content_of kind image) p) (StartsOn seen.tracks seen.content seen.protected)
starts-as kind image seen p is e = λ m s.
    subst (λ b. StartsOn seen.tracks seen.content b m) (sym e)
    (subst (λ c. StartsOn seen.tracks c p m) is.same_content (subst (λ n. StartsOn n (content_of kind image) p m) is.same_tracks s))

-- what the medium holds, the image holds
pub holds-as : (kind : Kind) (image : List ℕ) (seen : Seen) → IsOf kind image seen → AreAmong (λ m. HoldsDisk seen.tracks seen.content m.disk) (λ m. ImageHolds kind image m.disk)
holds-as kind image seen is = λ m h.
    subst (λ c. HoldsDisk (tracks_of kind image) c m.disk) (sym is.same_content) (subst (λ n. HoldsDisk n seen.content m.disk) (sym is.same_tracks) h)

-- the image of a medium that has as many tracks as before has as many as the image before
pub tracks-as : (kind : Kind) (old new : List ℕ) (before after : Seen) → IsOf kind old before → after.tracks ≡ before.tracks → IsOf kind new after → tracks_of kind new ≡ tracks_of kind old
tracks-as kind old new before after was e is = is.same_tracks ∙ e ∙ sym was.same_tracks

-- the line of the check of a medium is that of the image
pub checked-as : (kind : Kind) (image : List ℕ) (seen : Seen) (a b : Option (List ℕ)) → IsOf kind image seen
    → IsCheckedFirst seen.tracks seen.content a b → IsCheckedFirst (tracks_of kind image) (content_of kind image) a b
checked-as kind image seen a b is h =
    subst (λ c. IsCheckedFirst (tracks_of kind image) c a b) (sym is.same_content) (subst (λ n. IsCheckedFirst n seen.content a b) (sym is.same_tracks) h)

-- the check of a medium, and what was printed after its line
pub checked-first : (tracks : ℕ) (content : Content) (a b c : Option (List ℕ)) → IsCheckPrinted tracks content a b → AppendsMore b c → IsCheckedFirst tracks content a c
checked-first tracks content a b c h g = (b, h, g)

-- ---- where memory is lacking

pub keeps-same : (o : Option (List ℕ)) → Keeps o o
keeps-same None = tt
keeps-same (Some xs) = refl
