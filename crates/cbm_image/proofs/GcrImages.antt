-- A G64 image is never refused for want of memory by its bytes.
use Rattle.std.proofs.Common.{◌≡◌, ℕ, List, Bool, true, false, Option, Some, None, if◌then◌else◌, not}
use Rattle.std.specs.Prelude.{IfSome, Result, Err, option_map}
use Rattle.cbm_g64.specs.declared.disk.G64Disk.{G64Disk}
use Rattle.cbm_g64.specs.declared.fault.G64Fault.{G64Fault}
use Rattle.cbm_g64.specs.declared.fault.G64Fault.TheVariants.{Signature, Version, Entries, GreatestSize, OffsetOutside, TrackLength, Memory, Overlap}
use Rattle.cbm_g64.specs.File.{g64_fault, has_signature, has_version, has_entries, has_greatest, are_inside, are_sized, are_apart}
use Rattle.cbm_g64.specs.Numbers.{g64_fault_number}
use Rattle.cbm_image.specs.declared.any_disk.AnyDisk.{AnyDisk}
use Rattle.cbm_image.specs.declared.fault.ImageFault.{ImageFault}
use Rattle.cbm_image.specs.declared.fault.ImageFault.TheVariants as image

abbrev pub IsOfBytes : Option G64Fault → Type 0
IsOfBytes None = Unit {0}
IsOfBytes (Some Memory) = ⊥
IsOfBytes (Some fault) = Unit {0}

of_tests : (a b c d e f g : Bool) → IsOfBytes (if not a then Some Signature else if not b then Some Version else if not c then Some Entries else if not d then Some GreatestSize else if not e then Some OffsetOutside else if not f then Some TrackLength else if not g then Some Overlap else None)
of_tests false b c d e f g = tt
of_tests true false c d e f g = tt
of_tests true true false d e f g = tt
of_tests true true true false e f g = tt
of_tests true true true true false f g = tt
of_tests true true true true true false g = tt
of_tests true true true true true true false = tt
of_tests true true true true true true true = tt

of_bytes : (file : List ℕ) → IsOfBytes (g64_fault file)
of_bytes file = of_tests (has_signature file) (has_version file) (has_entries file) (has_greatest file) (are_inside file) (are_sized file) (are_apart file)

refused : (o : Option G64Fault) → IsOfBytes o → IfSome o (λ fault. ◌≡◌ {A = Result G64Disk G64Fault} (Err Memory) (Err fault))
    → IfSome (option_map g64_fault_number o) (λ n. ◌≡◌ {A = Result AnyDisk ImageFault} (Err image.Memory) (Err (image.Format n)))
refused None h e = tt
refused (Some Memory) h e = absurd h
refused (Some Signature) h e = absurd (cc)
refused (Some Version) h e = absurd (cc)
refused (Some Entries) h e = absurd (cc)
refused (Some GreatestSize) h e = absurd (cc)
refused (Some OffsetOutside) h e = absurd (cc)
refused (Some TrackLength) h e = absurd (cc)
refused (Some Overlap) h e = absurd (cc)

pub refused_memory : (file : List ℕ) → IfSome (g64_fault file) (λ fault. ◌≡◌ {A = Result G64Disk G64Fault} (Err Memory) (Err fault))
    → IfSome (option_map g64_fault_number (g64_fault file)) (λ n. ◌≡◌ {A = Result AnyDisk ImageFault} (Err image.Memory) (Err (image.Format n)))
refused_memory file e = refused (g64_fault file) (of_bytes file) e
