-- A drive that was played, and what of it is handed over to C.
use Rattle.std.proofs.Common.{◌≡◌, ◌<◌, ◌⊎◌, ◌++◌, ℕ, List, [], length, map, drop, Option, Some, None, false, refl, sym, ap, subst, inl, inr, ◌∙◌}
use Rattle.std.proofs.lemmas.List.{length-map}
use Rattle.std.specs.Prelude.{ℤ, Result, Ok, Err, IfErr, IfOk, IfSome, IsSome, MatchResult, OnOk}
use Rattle.cbm_iec.specs.declared.event.Event.{Event}
use Rattle.cbm_iec.specs.declared.lines.Change.{Change}
use Rattle.cbm_iec.specs.declared.party.Party.{Party}
use Rattle.cbm_file.specs.Files.{Disk}
use Rattle.cbm_machine.specs.Machines.{start}
use Rattle.cbm_drive.specs.Ordered.{fault_of}
use Rattle.cbm_drive.specs.declared.fault.PlayFault.{PlayFault}
use Rattle.cbm_image.specs.Images.{kind_of, tracks_of, ImageHolds}
use Rattle.cbm_device.specs.declared.refusal.DeviceRefusal.{DeviceRefusal}
use Rattle.cbm_device.specs.declared.refusal.DeviceRefusal.TheVariants.{Memory, Invalid, NoRoom, Absent, NoImage, Unsound, NoDrive, Status}
use Rattle.cbm_device.specs.Answers.{answer, answer_number}
use Rattle.cbm_device.specs.ImageDisks.{Counted, IsImageIn, IsOpenRefusal}
use Rattle.cbm_device.specs.Looking.{IsAccepted}
use Rattle.cbm_device.specs.Plays.{HasPlayedAll}
use Rattle.yellowadze1541.specs.declared.shapes.Signal.{Signal}
use Rattle.yellowadze1541.specs.Signals.{changes_of, signal_of}
use Rattle.yellowadze1541.specs.Plays.{Rooms, HandsOut, IsSignalPlay, IsUnplayed, PlaysAll}

-- a line is none, or memory ran out
pub not_asked : (image : List ℕ) (signals : List Signal) (end : ℕ) (r : DeviceRefusal) → ((r ≡ Invalid) × (changes_of signals ≡ None)) ⊎ (r ≡ Memory) → IsUnplayed image signals end r
not_asked image signals end r (inl bad) = subst (λ q. IsUnplayed image signals end q) (sym bad.0) (inl bad.1)
not_asked image signals end r (inr e) = subst (λ q. IsUnplayed image signals end q) (sym e) tt

-- the image isn't opened
pub not_opened : (image : List ℕ) (signals : List Signal) (end : ℕ) (r : DeviceRefusal) → IsOpenRefusal image r → IsUnplayed image signals end r
not_opened image signals end Memory h = tt
not_opened image signals end NoImage h = h
not_opened image signals end Invalid h = absurd h
not_opened image signals end NoRoom h = absurd h
not_opened image signals end Absent h = absurd h
not_opened image signals end Unsound h = absurd h
not_opened image signals end NoDrive h = absurd h
not_opened image signals end (Status code) h = absurd h

-- no change is at fault where all was played
no_fault : (X : Type 0) (o : Option PlayFault) (r : Result Counted DeviceRefusal) (left : Counted) → r ≡ Ok left → IfSome o (λ _. (r ≡ Err Invalid) × X) → o ≡ None
no_fault X None r left is h = refl
no_fault X (Some f) r left is h = let e = sym is ∙ h.0 in absurd cc

-- by what the drive answered
pub has_played : (X : Type 0) (r : Result Counted DeviceRefusal) (image : List ℕ) (b : Party) (signals : List Signal) (end : ℕ) (cs : List Change) (before after : List Event)
    → changes_of signals ≡ Some cs → IsAccepted image → IfSome (fault_of 0 0 end cs) (λ _. (r ≡ Err Invalid) × X)
    → IfErr r (λ why. ((why ≡ Invalid) × IsSome (fault_of 0 0 end cs)) ⊎ (why ≡ Memory))
    → ((d : Disk) → ImageHolds (kind_of image) image d → IfOk r (λ left. HasPlayedAll b (start d false (tracks_of (kind_of image) image)) cs end before after left))
    → MatchResult r (λ left. IsSignalPlay image b signals end before after left) (IsUnplayed image signals end)
has_played X (Ok left) image b signals end cs before after asked is refused cause means =
    record { changes = cs; asked = asked; orderly = no_fault X (fault_of 0 0 end cs) (Ok left) left refl refused; accepted = is; means = means }
has_played X (Err why) image b signals end cs before after asked is refused (inl bad) means = subst (λ q. IsUnplayed image signals end q) (sym bad.0) (inr (cs, asked, bad.1))
has_played X (Err why) image b signals end cs before after asked is refused (inr e) means = subst (λ q. IsUnplayed image signals end q) (sym e) tt

-- all goes to the caller's rooms, or they are too small
pub handed : (done : Result (Unit {0}) DeviceRefusal) (es : List Event) (signals : List Signal) (bytes : List ℕ) (old new : Rooms) → signals ≡ map signal_of es
    → new.count ≡ length signals → new.needed ≡ length bytes → OnOk done (new.events ≡ signals ++ drop (length signals) old.events)
    → OnOk done (new.image ≡ bytes ++ drop (length bytes) old.image)
    → IfErr done (λ r. (r ≡ NoRoom) × (new.events ≡ old.events) × (new.image ≡ old.image) × ((length old.events < length signals) ⊎ (length old.image < length bytes)))
    → HandsOut (answer done) es bytes old new
handed done es signals bytes old new e count needed events image err = by_result done events image err
  where
    long : length signals ≡ length es
    long = ap (λ (xs : List Signal). length xs) e ∙ length-map es signal_of

    by_result : (done : Result (Unit {0}) DeviceRefusal) → OnOk done (new.events ≡ signals ++ drop (length signals) old.events) → OnOk done (new.image ≡ bytes ++ drop (length bytes) old.image)
        → IfErr done (λ r. (r ≡ NoRoom) × (new.events ≡ old.events) × (new.image ≡ old.image) × ((length old.events < length signals) ⊎ (length old.image < length bytes)))
        → HandsOut (answer done) es bytes old new
    by_result (Ok v) events image err =
        (count ∙ long, needed, inl (refl, subst (λ n. new.events ≡ map signal_of es ++ drop n old.events) long (subst (λ (xs : List Signal). new.events ≡ xs ++ drop (length signals) old.events) e events), image))
    by_result (Err r) events image err =
        (count ∙ long, needed, inr (ap answer_number err.0, err.1, err.2, subst (λ n. (length old.events < n) ⊎ (length old.image < length bytes)) long err.3))

-- what was played is reported, or memory runs out
pub reported : (done : Result (Unit {0}) DeviceRefusal) (n : ℤ) (image : List ℕ) (b : Party) (pace : ℕ) (signals : List Signal) (end : ℕ) (es : List Event) (left : Counted) (old new : Rooms)
    → n ≡ answer done → IsSignalPlay image b signals end [] es left
    → ((bytes : List ℕ) × IsImageIn (kind_of image) left bytes × HandsOut (answer done) es bytes old new) ⊎ ((done ≡ Err Memory) × (new ≡ old))
    → PlaysAll n image b pace signals end old new
reported done n image b pace signals end es left old new e is (inl given) =
    inl (es, left, given.0, is, given.1, subst (λ k. HandsOut k es given.0 old new) (sym e) given.2)
reported done n image b pace signals end es left old new e is (inr none) = inr (Memory, inr tt, e ∙ ap (λ (d : Result (Unit {0}) DeviceRefusal). answer d) none.0, none.1)
