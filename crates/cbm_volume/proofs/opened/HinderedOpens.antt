-- Why the search for an empty slot, or the growth of the directory, is refused on a sound disk.
use Rattle.std.proofs.Common.{ℕ, sym, ap, ◌∙◌, inl, inr}
use Rattle.cbm_medium.specs.Place.{directory_head}
use Rattle.cbm_medium.specs.Links.{Followed}
use Rattle.cbm_medium.specs.Seen.{Seen}
use Rattle.cbm_medium.specs.declared.fault.Trouble.{Trouble}
use Rattle.cbm_medium.proofs.Walks.{chain_followed}
use Rattle.cbm_file.specs.Files.{Disk}
use Rattle.cbm_bam.specs.Map.{geometry_of}
use Rattle.cbm_directory.specs.Entries.{first_directory}
use Rattle.cbm_directory.specs.Empties.{IsSlotRefused}
use Rattle.cbm_volume.specs.Layouts.{Sound}
use Rattle.cbm_volume.specs.Writers.{Use, HoldsNow}
use Rattle.cbm_volume.specs.Opens.{IsHindered}
use Rattle.cbm_volume.proofs.layouts.Refusals.{by_protection, sector_hindered}
use Rattle.cbm_volume.proofs.layouts.Lengths.{directory_length}
use Rattle.cbm_volume.proofs.opened.OpenedSlots.{has_more}
use Rattle.cbm_volume.proofs.layouts.Vacant.{never_broken}

-- WHAT HINDERS THE SEARCH FOR A SLOT
pub slot_hinders : (old new : Seen) (t : Trouble) (d : Disk) (uses : ℕ → Use) (h : HoldsNow old.tracks old.content d uses) → IsSlotRefused (geometry_of old.tracks old.content) old new t → IsHindered old new t
slot_hinders old new t d uses h (inl k) = absurd (never_broken (geometry_of old.tracks old.content) old.content h.layout d t h.so.stands k.1)
slot_hinders old new t d uses h (inr (inl (inl broken))) =
    let s : Sound (geometry_of old.tracks old.content) old.content h.layout = h.so.stands.sound in
    let z = sym (ap (λ (f : Followed). f.trouble) (chain_followed (geometry_of old.tracks old.content) old.content h.layout.directory 18 first_directory s.directory (directory_length (geometry_of old.tracks old.content) old.content h.layout s))) ∙ broken in absurd (cc)
slot_hinders old new t d uses h (inr (inl (inr (inl cause)))) = sector_hindered old new directory_head t h.so.stands.sound.map_reads cause
slot_hinders old new t d uses h (inr (inl (inr (inr k)))) = inl (by_protection old.protected (old.content k.0) t.code (h.so.stands.sound.writable k.0 k.1.0) k.1.1)
slot_hinders old new t d uses h (inr (inr k)) =
    let r = has_more old.tracks old.content new.content d uses h k.0 in
    absurd (never_broken (geometry_of old.tracks old.content) new.content r.layout _ t r.so.stands k.1.1)
