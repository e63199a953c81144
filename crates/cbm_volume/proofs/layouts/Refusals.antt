-- Why a write of a sector is refused: only protection, or a failure of the medium's own.
use Rattle.std.proofs.Common.{◌≡◌, ◌⊎◌, ℕ, ◌*◌, ◌/◌, ◌<◌, ◌≤◌, arith, List, length, Bool, true, false, IsOk, sym, ap, subst, ◌∙◌, refl, inl, inr, Some, None, Ok, Err}
use Rattle.std.specs.Prelude.{if◌then◌else◌}
use Rattle.cbm_medium.specs.Place.{Place, Has, directory_head}
use Rattle.cbm_medium.specs.Content.{Cell, Content, refusal}
use Rattle.cbm_medium.specs.Links.{Chain}
use Rattle.cbm_medium.specs.Seen.{Seen, write_refusal, HasFailed}
use Rattle.cbm_medium.specs.declared.fault.Trouble.{Trouble}
use Rattle.cbm_bam.specs.Causes.{HasCause}
use Rattle.cbm_directory.specs.Entries.{first_directory, sector_of}
use Rattle.cbm_volume.specs.Layouts.{IsCellWritable, Layout, Sound}
use Rattle.cbm_volume.specs.Opens.{IsHindered}
use Rattle.cbm_volume.proofs.layouts.Chained.{chain_reads}

-- a sector without a fault of its header is refused by protection alone
pub by_protection : (b : Bool) (x : Cell) (code : ℕ) → IsCellWritable x → refusal b x ≡ Some code → (b ≡ true) × (code ≡ 26)
by_protection true x code w e = (refl, let z : code ≡ 26 = cc in z)
by_protection false (Ok bytes) code w e = absurd (cc)
by_protection false (Err fault) code w e = absurd (let z = sym (ap (λ (h : Bool). if h then Some fault else None) w) ∙ e in (cc))

reads_writable : (x : Cell) → IsOk x → IsCellWritable x
reads_writable (Ok bytes) h = tt
reads_writable (Err code) h = absurd (cc)

-- a write of a sector of the disk
pub write_hindered : (tracks : ℕ) (old new : Seen) (l : Layout) (p : Place) (t : Trouble) → Sound tracks old.content l → Has tracks p → (write_refusal old p ≡ Some t.code) ⊎ HasFailed old new → IsHindered old new t
write_hindered tracks old new l p t s h (inl e) = inl (by_protection old.protected (old.content p) t.code (s.writable p h) e)
write_hindered tracks old new l p t s h (inr f) = inr f

-- a sector that reads
pub sector_hindered : (old new : Seen) (p : Place) (t : Trouble) → IsOk (old.content p) → HasCause old new p t.code → IsHindered old new t
sector_hindered old new p t ok (inl e) = absurd (let z = subst (λ (x : Cell). IsOk x) e ok in (cc))
sector_hindered old new p t ok (inr (inl r)) = inl (by_protection old.protected (old.content p) t.code (reads_writable (old.content p) ok) r)
sector_hindered old new p t ok (inr (inr f)) = inr f

-- what hinders a later part of a call hinders the call
pub hindered_since : (old mid new : Seen) (t : Trouble) → mid.protected ≡ old.protected → old.failures ≤ mid.failures → IsHindered mid new t → IsHindered old new t
hindered_since old mid new t e l (inl k) = inl (sym e ∙ k.0, k.1)
hindered_since old mid new t e l (inr f) = inr (omega arith)

-- a sector of the directory reads
pub sector_reads : (tracks : ℕ) (c : Content) (directory : List Place) (n : ℕ) → Chain tracks c first_directory directory → n < 8 * length directory → IsOk (c (sector_of directory n))
sector_reads tracks c directory n h k = chain_reads tracks c first_directory directory (n / 8) directory_head h (omega arith)
