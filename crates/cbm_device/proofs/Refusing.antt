-- Why a call on an image's disk is refused, from what the call below says.
use Rattle.std.proofs.Common.{ℕ, ◌∙◌, List, ap, inl, inr, refl}
use Rattle.cbm_file.specs.Files.{Disk}
use Rattle.cbm_machine.specs.Codes.{code_number}
use Rattle.cbm_channel.specs.declared.Status as status
use Rattle.cbm_machine.specs.Machines.{Machine}
use Rattle.cbm_image.specs.Images.{kind_of, tracks_of, content_of}
use Rattle.cbm_shell.specs.declared.changing.DiskChange.{DiskChange}
use Rattle.cbm_shell.specs.declared.fault.ShellFault.{ShellFault}
use Rattle.cbm_shell.specs.declared.fault.ShellFault.TheVariants as fault
use Rattle.cbm_shell.specs.Changing.{begun, disk_after_change, IsFaultOf, IsUndone}
use Rattle.cbm_shell.specs.Listing.{opened, IsUnlisted}
use Rattle.cbm_shell.specs.Reading.{IsGetFault}
use Rattle.cbm_device.specs.declared.refusal.DeviceRefusal.{DeviceRefusal}
use Rattle.cbm_device.specs.declared.refusal.DeviceRefusal.TheVariants.{Memory, Invalid, NoRoom, Absent, NoImage, Unsound, NoDrive, Status}
use Rattle.cbm_device.specs.Answers.{refusal_of}
use Rattle.cbm_device.specs.ImageDisks.{IsOpenRefusal}
use Rattle.cbm_device.specs.Looking.{IsAccepted, IsUnsent, IsUngot}
use Rattle.cbm_device.specs.Making.{IsUnmade, IsUnchanged}

-- the directory isn't sent
pub unsent : (image pattern : List ℕ) (m : Machine) (f : ShellFault) → IsUnlisted pattern m f → IsUnsent image pattern m (refusal_of f)
unsent image pattern m fault.Memory h = tt
unsent image pattern m (fault.Refused s) h = let same = ap (λ (t : status.Status). code_number t.code) h.0 in (same, λ none. h.1 (same ∙ none))
unsent image pattern m (fault.Image n) h = absurd h
unsent image pattern m (fault.Unsound u) h = absurd h
unsent image pattern m (fault.Trouble t) h = absurd h
unsent image pattern m fault.NotFound h = absurd h
unsent image pattern m fault.NotClosed h = absurd h
unsent image pattern m fault.Mistaken h = absurd h

-- the file isn't got
pub ungot : (image : List ℕ) (d : Disk) (pattern : List ℕ) (f : ShellFault) → IsGetFault d pattern f → IsUngot image d pattern (refusal_of f)
ungot image d pattern fault.Memory h = tt
ungot image d pattern fault.NotFound h = h
ungot image d pattern fault.NotClosed h = inl (refl, h)
ungot image d pattern (fault.Trouble t) h = inr h
ungot image d pattern (fault.Image n) h = absurd h
ungot image d pattern (fault.Unsound u) h = absurd h
ungot image d pattern (fault.Refused s) h = absurd h
ungot image d pattern fault.Mistaken h = absurd h

-- the change isn't made
pub unmade : (image : List ℕ) (change : DiskChange) (m : Machine) (f : ShellFault) → IsUndone change m f → IsUnmade image (begun change m) (disk_after_change change m) (refusal_of f)
unmade image change m (fault.Refused s) h = (s, record { told = h.told; error = h.error }, refl)
unmade image change m fault.Memory h = absurd h
unmade image change m (fault.Image n) h = absurd h
unmade image change m (fault.Unsound u) h = absurd h
unmade image change m (fault.Trouble t) h = absurd h
unmade image change m fault.NotFound h = absurd h
unmade image change m fault.NotClosed h = absurd h
unmade image change m fault.Mistaken h = absurd h

-- nor of a disk that isn't sound
pub unchanged : (image : List ℕ) (f : ShellFault) → IsAccepted image → IsFaultOf (tracks_of (kind_of image) image) (content_of (kind_of image) image) f → IsUnchanged image (refusal_of f)
unchanged image (fault.Unsound u) is h = (u, h)
unchanged image fault.Memory is h = inl is
unchanged image (fault.Image n) is h = inl is
unchanged image (fault.Refused s) is h = inl is
unchanged image (fault.Trouble t) is h = inl is
unchanged image fault.NotFound is h = inl is
unchanged image fault.NotClosed is h = inl is
unchanged image fault.Mistaken is h = inl is

-- an image isn't opened, and so nothing is done with it
pub not_sent : (image pattern : List ℕ) (m : Machine) (r : DeviceRefusal) → IsOpenRefusal image r → IsUnsent image pattern m r
not_sent image pattern m Memory h = tt
not_sent image pattern m NoImage h = h
not_sent image pattern m Invalid h = absurd h
not_sent image pattern m NoRoom h = absurd h
not_sent image pattern m Absent h = absurd h
not_sent image pattern m Unsound h = absurd h
not_sent image pattern m NoDrive h = absurd h
not_sent image pattern m (Status code) h = absurd h

pub not_got : (image : List ℕ) (d : Disk) (pattern : List ℕ) (r : DeviceRefusal) → IsOpenRefusal image r → IsUngot image d pattern r
not_got image d pattern Memory h = tt
not_got image d pattern NoImage h = h
not_got image d pattern Invalid h = absurd h
not_got image d pattern NoRoom h = absurd h
not_got image d pattern Absent h = absurd h
not_got image d pattern Unsound h = absurd h
not_got image d pattern NoDrive h = absurd h
not_got image d pattern (Status code) h = absurd h

pub not_made : (image : List ℕ) (opened ended : Machine) (r : DeviceRefusal) → IsOpenRefusal image r → IsUnmade image opened ended r
not_made image opened ended Memory h = tt
not_made image opened ended NoImage h = h
not_made image opened ended Invalid h = absurd h
not_made image opened ended NoRoom h = absurd h
not_made image opened ended Absent h = absurd h
not_made image opened ended Unsound h = absurd h
not_made image opened ended NoDrive h = absurd h
not_made image opened ended (Status code) h = absurd h

pub not_changed : (image : List ℕ) (r : DeviceRefusal) → IsOpenRefusal image r → IsUnchanged image r
not_changed image Memory h = inr h
not_changed image NoImage h = inr h
not_changed image Invalid h = absurd h
not_changed image NoRoom h = absurd h
not_changed image Absent h = absurd h
not_changed image Unsound h = absurd h
not_changed image NoDrive h = absurd h
not_changed image (Status code) h = absurd h
