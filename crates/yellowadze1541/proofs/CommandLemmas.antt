-- A command, and what the drive says after it.
use Rattle.std.proofs.Common.{◌≡◌, ℕ, ◌≤◌, List, refl, sym, ap, subst, inl, ◌∙◌}
use Rattle.std.specs.Prelude.{Result, Ok, Err, IfOk, IfErr, MatchResult}
use Rattle.cbm_channel.specs.declared.Status.{Status}
use Rattle.cbm_machine.specs.Codes.{code_number}
use Rattle.cbm_machine.specs.Machines.{Machine}
use Rattle.cbm_image.specs.Images.{kind_of, ImageHolds}
use Rattle.cbm_image.specs.declared.kind.Kind.{Kind}
use Rattle.cbm_shell.specs.Changing.{IsFine}
use Rattle.cbm_device.specs.declared.refusal.DeviceRefusal.{DeviceRefusal}
use Rattle.cbm_device.specs.declared.refusal.DeviceRefusal.TheVariants as why
use Rattle.cbm_device.specs.ImageDisks.{IsOpenRefusal}
use Rattle.cbm_device.specs.Making.{IsUnmade}
use Rattle.yellowadze1541.specs.declared.shapes.Said.{Said}
use Rattle.yellowadze1541.specs.Commands.{IsSaidOf, IsCommandRefusal, IsUncommanded}

-- the image isn't opened, and so nothing is said
pub uncommanded_open : (image : List ℕ) (after : Machine) (s : Said) (r : DeviceRefusal) → IsOpenRefusal image r → IsUncommanded image after s s r
uncommanded_open image after s why.Memory h = tt
uncommanded_open image after s why.NoImage h = (h, refl)
uncommanded_open image after s why.Invalid h = absurd h
uncommanded_open image after s why.NoRoom h = absurd h
uncommanded_open image after s why.Absent h = absurd h
uncommanded_open image after s why.Unsound h = absurd h
uncommanded_open image after s why.NoDrive h = absurd h
uncommanded_open image after s (why.Status code) h = absurd h

-- the drive refuses the command
pub command_refused : (after : Machine) (new : Said) (s t : Status) (r : DeviceRefusal) → s ≡ after.status → t ≡ after.status → IsSaidOf s new
    → (r ≡ why.Status (code_number t.code)) × (20 ≤ code_number t.code) → IsCommandRefusal after new r
command_refused after new s t r e f says h =
    (h.0 ∙ ap (λ (x : Status). why.Status (code_number x.code)) f, subst (λ (x : Status). 20 ≤ code_number x.code) f h.1, subst (λ x. IsSaidOf x new) e says)

-- and so nothing is given
pub uncommanded_refusal : (image : List ℕ) (after : Machine) (old new : Said) (r : DeviceRefusal) → IsCommandRefusal after new r → IsUncommanded image after old new r
uncommanded_refusal image after old new r h = subst (IsUncommanded image after old new) (sym h.0) (refl, h.1, h.2)

-- the disk after the command is saved, or memory runs out
pub command_saved : {A : Type 0} (items : A → List ℕ) (r : Result A DeviceRefusal) (image : List ℕ) (kind : Kind) (after : Machine) (old new : Said) → kind ≡ kind_of image
    → IsFine after.status → IsSaidOf after.status new → IfOk r (λ v. ImageHolds kind (items v) after.disk) → IfErr r (λ q. q ≡ why.Memory)
    → MatchResult r (λ v. IsFine after.status × IsSaidOf after.status new × ImageHolds (kind_of image) (items v) after.disk) (IsUncommanded image after old new)
command_saved items (Ok v) image kind after old new same fine says ok err = (fine, says, subst (λ k. ImageHolds k (items v) after.disk) same ok)
command_saved items (Err q) image kind after old new same fine says ok err = subst (IsUncommanded image after old new) (sym err) tt

-- the same, where nobody asks what was said
pub command_unmade : (image : List ℕ) (after : Machine) (old new : Said) (r : DeviceRefusal) → IsUncommanded image after old new r → IsUnmade image after after r
command_unmade image after old new (why.Status code) h = (after.status, record { told = inl refl; error = subst (λ k. 20 ≤ k) h.0 h.1 }, h.0)
command_unmade image after old new why.Memory h = tt
command_unmade image after old new why.NoImage h = h.0
command_unmade image after old new why.Invalid h = absurd h
command_unmade image after old new why.NoRoom h = absurd h
command_unmade image after old new why.Absent h = absurd h
command_unmade image after old new why.Unsound h = absurd h
command_unmade image after old new why.NoDrive h = absurd h

pub command_made : {A : Type 0} (items : A → List ℕ) (r : Result A DeviceRefusal) (image : List ℕ) (after : Machine) (old new : Said)
    → MatchResult r (λ v. IsFine after.status × IsSaidOf after.status new × ImageHolds (kind_of image) (items v) after.disk) (IsUncommanded image after old new)
    → MatchResult r (λ v. IsFine after.status × ImageHolds (kind_of image) (items v) after.disk) (IsUnmade image after after)
command_made items (Ok v) image after old new h = (h.0, h.2)
command_made items (Err r) image after old new h = command_unmade image after old new r h
