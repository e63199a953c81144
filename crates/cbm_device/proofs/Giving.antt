-- What a call gives to the caller's room, from what was made.
use Rattle.std.proofs.Common.{◌≡◌, ℕ, ◌∙◌, List, Some, length, ap, subst, sym, inl, inr, arith}
use Rattle.std.specs.Prelude.{ℤ, nat_abs, Result, Ok, Err, IfErr, IfOk, MatchResult}
use Rattle.cbm_device.specs.declared.refusal.DeviceRefusal.{DeviceRefusal}
use Rattle.cbm_device.specs.declared.refusal.DeviceRefusal.TheVariants.{Memory, Invalid, NoRoom, Absent, NoImage, Unsound, NoDrive, Status}
use Rattle.cbm_file.specs.Files.{Disk}
use Rattle.cbm_machine.specs.Machines.{Machine}
use Rattle.cbm_volume.specs.Holding.{HoldsDisk}
use Rattle.cbm_image.specs.Images.{kind_of, content_of, ImageHolds}
use Rattle.cbm_image.specs.declared.kind.Kind.{Kind}
use Rattle.cbm_device.specs.Devices.{OnLines, IsImageFrom, IsUnsaved}
use Rattle.cbm_device.specs.ImageDisks.{Counted, counted_seen, IsImageIn}
use Rattle.cbm_device.specs.Making.{IsUnmade}
use Rattle.cbm_device.specs.Answers.{fine, answer_number, answer, AreGiven, GivesBytes}

-- no refusal has the number of what went well
pub never_fine : (r : DeviceRefusal) → answer_number r ≡ fine → ⊥
never_fine Memory e = absurd cc
never_fine Invalid e = absurd cc
never_fine NoRoom e = absurd cc
never_fine Absent e = absurd cc
never_fine NoImage e = absurd cc
never_fine Unsound e = absurd cc
never_fine NoDrive e = absurd cc
never_fine (Status code) e = let same = ap nat_abs e in absurd (omega (arith, same))

-- what was made is given, or why nothing was is reported
pub gives : {A : Type 0} (items : A → List ℕ) (Are : List ℕ → Type 0) (Why : DeviceRefusal → Type 0) (made : Result A DeviceRefusal) (done : Result (Unit {0}) DeviceRefusal) (n : ℤ)
    (old new : List ℕ) (before needed : ℕ) → MatchResult made (λ v. Are (items v)) Why
    → MatchResult made (λ v. (needed ≡ length (items v)) × AreGiven (answer done) old new (items v)) (λ r. (done ≡ Err r) × (new ≡ old) × (needed ≡ before))
    → n ≡ answer done → GivesBytes n old new before needed Are Why
gives items Are Why (Ok v) done n old new before needed is given e =
    inl (items v, is, given.0, subst (λ k. AreGiven k old new (items v)) (sym e) given.1)
gives items Are Why (Err r) done n old new before needed is given e = inr (r, is, e ∙ ap (λ d. answer d) given.0, given.1, given.2)

-- the image of the disk in a drive was saved, or memory ran out
pub saved_from : {A : Type 0} (items : A → List ℕ) (r : Result A DeviceRefusal) (d : OnLines) (kind : Kind) (disk : Counted) → d.kind ≡ Some kind → disk ≡ d.seat.machine.dos.medium
    → IfOk r (λ v. IsImageIn kind disk (items v)) → IfErr r (λ why. why ≡ Memory) → MatchResult r (λ v. IsImageFrom d (items v)) (IsUnsaved d.kind)
saved_from items (Ok v) d kind disk e same ok err = (kind, e, subst (λ k. IsImageIn kind k (items v)) same ok)
saved_from items (Err why) d kind disk e same ok err = subst (λ q. IsUnsaved d.kind q) (sym err) tt

-- a disk that was changed was saved, or memory ran out
pub changed_from : {A : Type 0} (items : A → List ℕ) (r : Result A DeviceRefusal) (image : List ℕ) (kind : Kind) (after : Counted) (Fine : Type 0) (e : Disk) (opened ended : Machine)
    → kind ≡ kind_of image → Fine × HoldsDisk (counted_seen after).tracks (counted_seen after).content e → IfOk r (λ v. IsImageIn kind after (items v)) → IfErr r (λ why. why ≡ Memory)
    → MatchResult r (λ v. Fine × ImageHolds (kind_of image) (items v) e) (IsUnmade image opened ended)
changed_from items (Ok v) image kind after Fine e opened ended same h ok err =
    let held = subst (λ n. HoldsDisk n (content_of kind (items v)) e) (sym ok.same_tracks) (subst (λ c. HoldsDisk (counted_seen after).tracks c e) (sym ok.same_content) h.1) in
    (h.0, subst (λ k. ImageHolds k (items v) e) same held)
changed_from items (Err why) image kind after Fine e opened ended same h ok err = subst (λ q. IsUnmade image opened ended q) (sym err) tt
