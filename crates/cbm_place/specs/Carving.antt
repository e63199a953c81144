-- A file whose blocks and entry are written anew.
use Rattle.std.specs.Prelude.{ℕ, ◌≡◌, ◌≢◌, ◌⊎◌, List, [], ◌∷◌, length}
use Rattle.cbm_medium.specs.Place.{Place}
use Rattle.cbm_medium.specs.Content.{Content, written}
use Rattle.cbm_directory.specs.Entries.{first_block, EntersLed}
use Rattle.cbm_image.specs.Images.{kind_of, content_of}
use Rattle.cbm_shell.specs.Images.{disk_tracks}
use Rattle.cbm_shell.specs.Mapping.{chain_of}
use Rattle.cbm_shell.specs.declared.fault.ShellFault.{ShellFault}
use Rattle.cbm_shell.specs.declared.fault.ShellFault.TheVariants as fault
use Rattle.cbm_place.specs.Moves.{IsMovable}
use Rattle.cbm_place.specs.Placed.{HasEntryThat, IsNoMovable, IsNotMadeIn}

-- a disk with sectors written to these places, in order
abbrev pub written_each : List Place → List (List ℕ) → Content → Content
written_each [] blocks content = content
written_each (p ∷ places) [] content = content
written_each (p ∷ places) (block ∷ blocks) content = written_each places blocks (written content p block)

-- THE FILE OF A SLOT IS WRITTEN ANEW: its blocks, as many as they were, and its entry; nothing else is changed
pub record IsCarved (tracks : ℕ) (old new : Content) (slot : ℕ) (entry : List ℕ) (blocks : List (List ℕ)) : Type 0 where
  pub was : List ℕ
  pub movable : IsMovable tracks old slot was
  pub many : length blocks ≡ length (chain_of tracks old (first_block was))
  pub enters : EntersLed tracks (written_each (chain_of tracks old (first_block was)) blocks old) new slot entry

-- why it isn't: the slot has no such file, its blocks aren't as many, a sector can't be read or written, or memory runs out
abbrev pub IsNotCarved : ℕ → Content → ℕ → List (List ℕ) → ShellFault → Type 0
IsNotCarved tracks content slot blocks fault.Memory = Unit {0}
IsNotCarved tracks content slot blocks (fault.Trouble t) = Unit {0}
IsNotCarved tracks content slot blocks fault.Mistaken = IsNoMovable tracks content slot fault.Mistaken
    ⊎ HasEntryThat tracks content slot (λ was. length blocks ≢ length (chain_of tracks content (first_block was)))
IsNotCarved tracks content slot blocks f = IsNoMovable tracks content slot f

-- the file of an image's slot is written anew in the new image
abbrev pub IsCarvedIn : List ℕ → ℕ → List ℕ → List (List ℕ) → List ℕ → Type 0
IsCarvedIn image slot entry blocks new = IsCarved (disk_tracks image) (content_of (kind_of image) image) (content_of (kind_of image) new) slot entry blocks

-- why it isn't
abbrev pub IsUncarvedIn : List ℕ → ℕ → List ℕ → List (List ℕ) → ShellFault → Type 0
IsUncarvedIn image slot entry blocks =
    IsNotMadeIn image (λ tracks old new. IsCarved tracks old new slot entry blocks) (λ tracks content. IsNotCarved tracks content slot blocks)
