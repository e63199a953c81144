-- Several changes: those that are left, after those that were made, are the whole.
use Rattle.std.proofs.Common.{◌≡◌, ℕ, zero, suc, ◌+◌, ◌<◌, List, [], ◌∷◌, length, drop, drop-cons, get_or, arith, Bool, false, Result, Ok, Err, refl, sym, ap, subst, ◌∙◌, inl, inr}
use Rattle.std.specs.Prelude.{◌⊎◌, MatchResult, IfOk, IfErr}
use Rattle.std.proofs.lemmas.List.Folds.{list_any_at}
use Rattle.cbm_medium.specs.Seen.{Seen, Outside}
use Rattle.cbm_file.specs.Files.{Disk}
use Rattle.cbm_machine.specs.Machines.{start}
use Rattle.cbm_volume.specs.Holding.{HoldsDisk}
use Rattle.cbm_image.specs.declared.kind.Kind.{Kind}
use Rattle.cbm_shell.specs.declared.changing.DiskChange.{DiskChange}
use Rattle.cbm_shell.specs.declared.fault.ShellFault.{ShellFault}
use Rattle.cbm_shell.specs.declared.fault.ShellFault.TheVariants as fault
use Rattle.cbm_shell.specs.Images.{IsSaved, OrOpenFault}
use Rattle.cbm_channel.specs.Going.{IsOutsideKept}
use Rattle.cbm_channel.proofs.Goings.{outside_more, outside_then}
use Rattle.cbm_shell.specs.Changing.{change_formats, disk_after_change, IsFine, IsUndone}
use Rattle.cbm_shell.specs.Several.{any_formats, AreMade, AreUndone, HoldsAfter, ImageAfter}
use Rattle.cbm_shell.proofs.ImageLemmas.{as_other_fault, saved_holds}

pub record UnderWay (left whole : List DiskChange) (protected : Bool) (tracks : ℕ) (d : Disk) (seen : Seen) : Type 0 where
  pub disk : Disk
  pub holds : HoldsDisk seen.tracks seen.content disk
  pub ends : (e : Disk) → AreMade left protected tracks disk e → AreMade whole protected tracks d e
  pub fails : (f : ShellFault) → AreUndone left protected tracks disk f → AreUndone whole protected tracks d f

pub begun : (whole : List DiskChange) (protected : Bool) (tracks : ℕ) (d : Disk) (seen : Seen) → HoldsDisk seen.tracks seen.content d → UnderWay whole whole protected tracks d seen
begun whole protected tracks d seen h = record { disk = d; holds = h; ends = λ e m. m; fails = λ f u. u }

-- one change more was made
pub one_more : (left rest whole : List DiskChange) (change : DiskChange) (protected : Bool) (tracks : ℕ) (d : Disk) (old new : Seen) → left ≡ change ∷ rest → old.protected ≡ protected → old.tracks ≡ tracks
    → (u : UnderWay left whole protected tracks d old)
    → IsFine (disk_after_change change (start u.disk old.protected old.tracks)).status × HoldsDisk new.tracks new.content (disk_after_change change (start u.disk old.protected old.tracks)).disk
    → UnderWay rest whole protected tracks d new
unfolding AreMade AreUndone
one_more left rest whole change protected tracks d old new begins p t u made =
    let m : start u.disk old.protected old.tracks ≡ start u.disk protected tracks = ap (λ (b : Bool). start u.disk b old.tracks) p ∙ ap (λ (k : ℕ). start u.disk protected k) t in
    let fine : IsFine (disk_after_change change (start u.disk protected tracks)).status = subst (λ x. IsFine (disk_after_change change x).status) m made.0 in
    record {
      disk = (disk_after_change change (start u.disk protected tracks)).disk;
      holds = subst (λ x. HoldsDisk new.tracks new.content (disk_after_change change x).disk) m made.1;
      ends = λ e later. u.ends e (subst (λ (l : List DiskChange). AreMade l protected tracks u.disk e) (sym begins) (fine, later));
      fails = λ f later. u.fails f (subst (λ (l : List DiskChange). AreUndone l protected tracks u.disk f) (sym begins) (inr (fine, later)));
    }

-- the next one wasn't
pub not_made : (left rest whole : List DiskChange) (change : DiskChange) (protected : Bool) (tracks : ℕ) (d : Disk) (old : Seen) (f : ShellFault) → left ≡ change ∷ rest → old.protected ≡ protected → old.tracks ≡ tracks
    → (u : UnderWay left whole protected tracks d old) → IsUndone change (start u.disk old.protected old.tracks) f → AreUndone whole protected tracks d f
unfolding AreUndone
not_made left rest whole change protected tracks d old f begins p t u undone =
    let m : start u.disk old.protected old.tracks ≡ start u.disk protected tracks = ap (λ (b : Bool). start u.disk b old.tracks) p ∙ ap (λ (k : ℕ). start u.disk protected k) t in
    u.fails f (subst (λ (l : List DiskChange). AreUndone l protected tracks u.disk f) (sym begins) (inl (subst (λ x. IsUndone change x f) m undone)))

-- none is left
pub all_made : (left whole : List DiskChange) (protected : Bool) (tracks : ℕ) (d : Disk) (seen : Seen) → left ≡ [] → UnderWay left whole protected tracks d seen → HoldsAfter whole protected tracks d seen
unfolding AreMade
all_made left whole protected tracks d seen none u = record {
  disk = u.disk;
  made = u.ends u.disk (subst (λ (l : List DiskChange). AreMade l protected tracks u.disk u.disk) (sym none) refl);
  holds = u.holds;
}

pub next_change : (xs : List DiskChange) (x : DiskChange) (i : ℕ) → i < length xs → drop i xs ≡ get_or xs i x ∷ drop (i + 1) xs
next_change xs x i h =
    let next : suc i ≡ i + 1 = omega arith in
    drop-cons xs i x h ∙ ap (λ k. get_or xs i x ∷ drop k xs) next

-- no change is refused by the fault of an image
pub never_image : (changes : List DiskChange) (protected : Bool) (tracks : ℕ) (d : Disk) (n : ℕ) → AreUndone changes protected tracks d (fault.Image n) → ⊥
unfolding AreUndone
never_image [] protected tracks d n h = h
never_image (change ∷ rest) protected tracks d n (inl h) = h
never_image (change ∷ rest) protected tracks d n (inr h) = never_image rest protected tracks (disk_after_change change (start d protected tracks)).disk n h.1

-- memory ran out for the drive of one of them, or one wasn't made
pub or_memory : (image : List ℕ) (P : ShellFault → Type 0) (f : ShellFault) → ((n : ℕ) → P (fault.Image n) → ⊥) → (f ≡ fault.Memory) ⊎ P f → OrOpenFault image P f
or_memory image P f never (inl e) = subst (OrOpenFault image P) (sym e) tt
or_memory image P f never (inr h) = as_other_fault image P f never h

-- the disk is saved, or memory for its image is refused
pub saved_after : {A : Type 0} (image : List ℕ) (items : A → List ℕ) (changes : List DiskChange) (kind other : Kind) (tracks : ℕ) (d : Disk) (seen : Seen) (r : Result A ShellFault) → other ≡ kind
    → IfOk r (λ v. IsSaved kind (items v) seen) → IfErr r (λ f. f ≡ fault.Memory) → HoldsAfter changes false tracks d seen
    → MatchResult r (λ v. ImageAfter changes other tracks d (items v)) (OrOpenFault image (AreUndone changes false tracks d))
saved_after image items changes kind other tracks d seen (Ok v) same s m h = record { disk = h.disk; made = h.made; holds = saved_holds kind other (items v) seen h.disk same s h.holds }
saved_after image items changes kind other tracks d seen (Err f) same s m h = subst (λ g. OrOpenFault image (AreUndone changes false tracks d) g) (sym m) tt

-- the first of several changes is made on a sound disk, so each later one is, too
pub first_sound : (A : Type 0) (index : ℕ) → (index ≡ 0 → A) → (0 < index → A) → A
first_sound A zero first later = first refl
first_sound A (suc n) first later = later (omega arith)

-- one more change: NEW among them is NEW among all
pub one_formats : (changes : List DiskChange) (x : DiskChange) (i : ℕ) (a b c : Outside) → i < length changes → IsOutsideKept (any_formats changes) a b → IsOutsideKept (change_formats (get_or changes i x)) b c → IsOutsideKept (any_formats changes) a c
one_formats changes x i a b c h first second = outside_then (any_formats changes) a b c first
    (outside_more (change_formats (get_or changes i x)) (any_formats changes) b c (list_any_at change_formats changes i x h) second)
