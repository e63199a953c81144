-- What a source of any kind says.
use Rattle.std.specs.Prelude.{ℕ, ◌≡◌, List, length, Option, Some, None, IsSome}
use Rattle.cbm_medium.specs.declared.fault.Trouble.{Trouble}
use Rattle.cbm_sources.specs.declared.form.Form.{Form}
use Rattle.cbm_sources.specs.declared.fault.Fault.{Fault}
use Rattle.cbm_sources.specs.declared.fault.Fault.TheVariants.{Chain, Text}
use Rattle.cbm_sources.specs.declared.source.Source.{Source}
use Rattle.cbm_sources.specs.declared.source.Source.TheVariants.{Image, TapeArchive, LynxArchive}
use Rattle.cbm_sources.specs.declared.source.SourceKind.{SourceKind}
use Rattle.cbm_sources.specs.declared.source.SourceKind.TheVariants as kind
use Rattle.cbm_sources.specs.Forms.{IsSizeOf}
use Rattle.cbm_sources.specs.Answers.{FileTold}
use Rattle.cbm_sources.specs.Tapes.{IsTape, tape_entries, tape_file}
use Rattle.cbm_sources.specs.Lynxes.{lynx_header, members_of, lynx_file}
use Rattle.cbm_sources.specs.Sources.{disk_listed, disk_file}

-- what it is
abbrev pub source_kind : Source → SourceKind
source_kind (Image disk) = kind.Image disk.form
source_kind (TapeArchive bytes) = kind.TapeArchive
source_kind (LynxArchive bytes) = kind.LynxArchive

-- no form has the size of these bytes
abbrev pub HasNoForm : List ℕ → Type 0
HasNoForm bytes = (form : Form) → IsSizeOf form (length bytes) → ⊥

-- THE SOURCE THAT BYTES ARE: an image if a form has their size, else a T64 archive if they begin as one, else a Lynx archive
abbrev pub IsSourceOf : List ℕ → Source → Type 0
IsSourceOf bytes (Image disk) = (disk.bytes ≡ bytes) × IsSizeOf disk.form (length bytes)
IsSourceOf bytes (TapeArchive tape) = (tape ≡ bytes) × HasNoForm bytes × IsTape bytes
IsSourceOf bytes (LynxArchive lynx) = (lynx ≡ bytes) × HasNoForm bytes × (IsTape bytes → ⊥) × IsSome (lynx_header bytes)

-- No form has the size of the bytes, and they are no archive.
pub record IsNoSource (bytes : List ℕ) : Type 0 where
  pub image : HasNoForm bytes
  pub tape : IsTape bytes → ⊥
  pub lynx : lynx_header bytes ≡ None

-- why a disk's directory breaks off
abbrev pub disk_fault : Option Trouble → Option Fault
disk_fault None = None
disk_fault (Some t) = Some (Chain t)

-- why a Lynx archive's directory breaks off
abbrev pub text_fault : Option ℕ → Option Fault
text_fault None = None
text_fault (Some at) = Some (Text at)

-- entries, and why they end before the directory does
pub record Listing : Type 0 where
  pub entries : List (List ℕ)
  pub fault : Option Fault

-- THE FILES OF A SOURCE
abbrev pub contents_of : Source → Listing
contents_of (Image disk) = record { entries = (disk_listed disk).entries; fault = disk_fault (disk_listed disk).trouble }
contents_of (TapeArchive bytes) = record { entries = tape_entries bytes; fault = None }
contents_of (LynxArchive bytes) = record { entries = (members_of bytes).entries; fault = text_fault (members_of bytes).broken }

-- THE BYTES OF A SOURCE'S FILE, by its number
abbrev pub source_file : Source → ℕ → FileTold
source_file (Image disk) n = disk_file disk n
source_file (TapeArchive bytes) n = tape_file bytes n
source_file (LynxArchive bytes) n = lynx_file bytes n
