-- The first file that matches, as the directory's entries tell it.
use Rattle.std.proofs.Common.{◌≡◌, ℕ, ap, ◌-◌, List, Bool, true, false, Option, Some, None, refl, sym, ◌∙◌, subst, arith, inl, inr}
use Rattle.std.specs.Prelude.{Result, Ok, Err, MatchResult, IfErr, IfOk, slice_get, slice_index_or, if◌then◌else◌}
use Rattle.cbm_medium.specs.Content.{Content}
use Rattle.cbm_medium.specs.declared.fault.Trouble.{Trouble}
use Rattle.cbm_medium.specs.Seen.{Seen}
use Rattle.cbm_chain.specs.Reading.{RestOfFile}
use Rattle.cbm_file.specs.declared.file_type.FileType.TheVariants.{Rel}
use Rattle.cbm_file.specs.Types.{is_same_type}
use Rattle.cbm_file.specs.Files.{Disk, bytes_in}
use Rattle.cbm_directory.specs.Entries.{is_closed}
use Rattle.cbm_bam.specs.Map.{geometry_of}
use Rattle.cbm_directory.specs.Slots.{Listed, Finds, directory_of, first_from}
use Rattle.cbm_volume.specs.Holding.{TellsOf, EntryStandsAt, HasBytes}
use Rattle.cbm_machine.specs.Finding.{found, is_there}
use Rattle.cbm_channel.specs.declared.Code.TheVariants.{WrongType, FileNotFound}
use Rattle.cbm_channel.specs.Sought.{is_sought}
use Rattle.cbm_channel.proofs.Found.{Hit, found_hit, found_none, named_as}
use Rattle.cbm_shell.specs.declared.fault.ShellFault.{ShellFault}
use Rattle.cbm_shell.specs.declared.fault.ShellFault.TheVariants as fault
use Rattle.cbm_shell.specs.Reading.{IsReadFault, Gets, IsUnclosed, IsGetFault, ShowsFile, file_held}

-- the directory of a sound disk breaks off nowhere
pub never_broken : (p : List ℕ) (d : Disk) (listed : Listed) (t : Trouble) → TellsOf d listed → Finds (is_sought p None) listed (Err t) → ⊥
never_broken p d listed t tells h = let bad : ◌≡◌ {A = Option Trouble} None (Some t) = sym tells.whole ∙ h.1 in cc

pub not_found : (p : List ℕ) (d : Disk) (listed : Listed) (r : Option (ℕ × List ℕ)) → TellsOf d listed → Finds (is_sought p None) listed (Ok r) → r ≡ None
    → found d p None ≡ Err FileNotFound
not_found p d listed None tells h e = found_none p None d listed false tells h.0 (named_as p d listed None false tells h refl)
not_found p d listed (Some x) tells h e = absurd (cc)

abbrev FirstHit : List ℕ → Disk → Listed → ℕ → List ℕ → Type 0
FirstHit p d listed j e = Hit p None (if is_there d p then WrongType else FileNotFound) 0 d.slots listed.entries j e

first_hit : (p : List ℕ) (d : Disk) (listed : Listed) (r : Option (ℕ × List ℕ)) (j : ℕ) (e : List ℕ) → TellsOf d listed → Finds (is_sought p None) listed (Ok r)
    → r ≡ Some (j, e) → FirstHit p d listed j e
first_hit p d listed r j e tells h is = found_hit p None d listed j e tells (subst (λ o. Finds (is_sought p None) listed (Ok o)) is h)

pub unclosed : (p : List ℕ) (d : Disk) (listed : Listed) (r : Option (ℕ × List ℕ)) (j : ℕ) (e : List ℕ) → TellsOf d listed → Finds (is_sought p None) listed (Ok r)
    → r ≡ Some (j, e) → is_closed e ≡ false → IsUnclosed d p
unclosed p d listed r j e tells h is unfinished =
    let x = first_hit p d listed r j e tells h is in
    record { slot = j; file = x.file; first = x.is; closed = sym x.says.closed ∙ unfinished }

-- what reading its chain gave, or why it failed
module _ {A : Type 0} (items : A → List ℕ) (tracks : ℕ) (c : Content) (p : List ℕ) (d : Disk) (j : ℕ) (e : List ℕ)
    (x : FirstHit p d (directory_of (geometry_of tracks c) c) j e) (closed : is_closed e ≡ true) where
  of_bytes : (r : Result A ShellFault) → is_same_type Rel x.file.kind ≡ false → MatchResult r (λ v. items v ≡ bytes_in x.file.body) (λ f. f ≡ fault.Memory)
      → MatchResult r (λ v. Gets d p (items v)) (IsGetFault d p)
  of_bytes (Ok v) plain h = record { slot = j; file = x.file; first = x.is; closed = sym x.says.closed ∙ closed; body = λ _. sym h }
  of_bytes (Err f) plain h = subst (λ g. IsGetFault d p g) (sym h) tt

  of_records : (r : Result A ShellFault) (why : Option Trouble) → is_same_type Rel x.file.kind ≡ true → IfErr r (IsReadFault why)
      → MatchResult r (λ v. Gets d p (items v)) (IsGetFault d p)
  of_records (Ok v) why relative h =
      record { slot = j; file = x.file; first = x.is; closed = sym x.says.closed ∙ closed; body = λ plain. let bad : true ≡ false = sym relative ∙ plain in absurd (cc) }
  of_records (Err f) why relative (inl h) = subst (λ g. IsGetFault d p g) (sym h) tt
  of_records (Err f) why relative (inr (t, h, met)) = subst (λ g. IsGetFault d p g) (sym h) (record { slot = j; file = x.file; first = x.is; relative = relative })

  stands : EntryStandsAt tracks c j e
  stands = let same : j - 0 ≡ j = omega arith in subst (λ i. slice_get (directory_of (geometry_of tracks c) c).entries i ≡ Some e) same x.entry

  has_bytes : is_same_type Rel x.file.kind ≡ false → HasBytes d j (bytes_in x.file.body)
  has_bytes plain =
      let same : j - 0 ≡ j = omega arith in
      record {
        file = x.file;
        in_slot = subst (λ i. slice_index_or d.slots i None ≡ Some x.file) same x.in_slot;
        closed = sym x.says.closed ∙ closed;
        body = x.says.body plain;
      }

  by_type : (r : Result A ShellFault) (why : Option Trouble) → IfErr r (IsReadFault why)
      → ((n : ℕ) (bytes : List ℕ) → EntryStandsAt tracks c n e → HasBytes d n bytes → MatchResult r (λ v. items v ≡ bytes) (λ f. f ≡ fault.Memory))
      → (b : Bool) → is_same_type Rel x.file.kind ≡ b → MatchResult r (λ v. Gets d p (items v)) (IsGetFault d p)
  by_type r why h means false plain = of_bytes r plain (means j (bytes_in x.file.body) stands (has_bytes plain))
  by_type r why h means true relative = of_records r why relative h

pub got : {A : Type 0} (items : A → List ℕ) (tracks : ℕ) (c : Content) (p : List ℕ) (d : Disk) (o : Option (ℕ × List ℕ)) (j : ℕ) (e : List ℕ)
    → TellsOf d (directory_of (geometry_of tracks c) c) → Finds (is_sought p None) (directory_of (geometry_of tracks c) c) (Ok o) → o ≡ Some (j, e)
    → is_closed e ≡ true → (r : Result A ShellFault) (why : Option Trouble) → IfErr r (IsReadFault why)
    → ((n : ℕ) (bytes : List ℕ) → EntryStandsAt tracks c n e → HasBytes d n bytes → MatchResult r (λ v. items v ≡ bytes) (λ f. f ≡ fault.Memory))
    → MatchResult r (λ v. Gets d p (items v)) (IsGetFault d p)
got items tracks c p d o j e tells h is closed r why failed means =
    let x = first_hit p d (directory_of (geometry_of tracks c) c) o j e tells h is in
    by_type items tracks c p d j e x closed r why failed means (is_same_type Rel x.file.kind) refl

-- ---- on any disk

-- the entries have one that matches
pub shown_found : (p : List ℕ) (now : Seen) (bytes : List ℕ) → ShowsFile now p bytes
    → first_from (is_sought p None) 0 (directory_of (geometry_of now.tracks now.content) now.content).entries ≡ None → ⊥
shown_found p now bytes s none = let bad : ◌≡◌ {A = Option (ℕ × List ℕ)} None (Some (s.slot, s.entry)) = sym none ∙ s.first in cc

pub shown_somewhere : (p : List ℕ) (now : Seen) (bytes : List ℕ) (r : Option (ℕ × List ℕ)) → ShowsFile now p bytes
    → Finds (is_sought p None) (directory_of (geometry_of now.tracks now.content) now.content) (Ok r) → r ≡ None → ⊥
shown_somewhere p now bytes None s h e = shown_found p now bytes s h.0
shown_somewhere p now bytes (Some x) s h e = cc

-- it is the one that was found
shown_same : (p : List ℕ) (now : Seen) (bytes : List ℕ) (r : Option (ℕ × List ℕ)) (j : ℕ) (e : List ℕ) → (s : ShowsFile now p bytes)
    → Finds (is_sought p None) (directory_of (geometry_of now.tracks now.content) now.content) (Ok r) → r ≡ Some (j, e) → e ≡ s.entry
shown_same p now bytes None j e s h is = absurd (shown_found p now bytes s h.0)
shown_same p now bytes (Some x) j e s h is =
    let same : ◌≡◌ {A = Option (ℕ × List ℕ)} (Some (j, e)) (Some (s.slot, s.entry)) = sym is ∙ sym h ∙ s.first in ap (λ o. entry_or e o) same
  where
    entry_or : List ℕ → Option (ℕ × List ℕ) → List ℕ
    entry_or other None = other
    entry_or other (Some x) = x.1

pub shown_closed : (p : List ℕ) (now : Seen) (bytes : List ℕ) (r : Option (ℕ × List ℕ)) (j : ℕ) (e : List ℕ) → ShowsFile now p bytes
    → Finds (is_sought p None) (directory_of (geometry_of now.tracks now.content) now.content) (Ok r) → r ≡ Some (j, e) → is_closed e ≡ false → ⊥
shown_closed p now bytes r j e s h is unfinished =
    let bad : true ≡ false = sym s.closed ∙ sym (ap is_closed (shown_same p now bytes r j e s h is)) ∙ unfinished in cc

-- and its bytes are got
pub shown_got : {A : Type 0} (items : A → List ℕ) (p : List ℕ) (now : Seen) (bytes : List ℕ) (r : Option (ℕ × List ℕ)) (j : ℕ) (e : List ℕ) → ShowsFile now p bytes
    → Finds (is_sought p None) (directory_of (geometry_of now.tracks now.content) now.content) (Ok r) → r ≡ Some (j, e)
    → (answer : Result A ShellFault) → IfOk answer (λ v. file_held now e ≡ record { bytes = items v; trouble = None }) → IfErr answer (IsReadFault (file_held now e).trouble)
    → MatchResult answer (λ v. items v ≡ bytes) (λ f. f ≡ fault.Memory)
shown_got {A = A} items p now bytes r j e s h is answer ok err = by_answer answer ok err
  where
    whole : file_held now e ≡ record { bytes = bytes; trouble = None }
    whole = ap (file_held now) (shown_same p now bytes r j e s h is) ∙ s.whole

    by_answer : (a : Result A ShellFault) → IfOk a (λ v. file_held now e ≡ record { bytes = items v; trouble = None }) → IfErr a (IsReadFault (file_held now e).trouble)
        → MatchResult a (λ v. items v ≡ bytes) (λ f. f ≡ fault.Memory)
    by_answer (Ok v) ok err = ap (λ (f : RestOfFile). f.bytes) (sym ok ∙ whole)
    by_answer (Err f) ok (inl m) = m
    by_answer (Err f) ok (inr (t, is, met)) = let bad : ◌≡◌ {A = Option Trouble} None (Some t) = sym (ap (λ (f : RestOfFile). f.trouble) whole) ∙ met in absurd (cc)
