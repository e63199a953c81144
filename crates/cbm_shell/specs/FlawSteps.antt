-- What the calls of the walk that finds a disk's flaws say: whose sectors they follow, what they claim, and what they add.
use Rattle.std.specs.Prelude.{ℕ, ◌≡◌, Bool, true, false, List, ◌++◌, Option, Some, None}
use Rattle.cbm_medium.specs.Place.{Place}
use Rattle.cbm_medium.specs.Content.{Content}
use Rattle.cbm_medium.specs.Links.{bytes_at}
use Rattle.cbm_bam.specs.Map.{with_bit}
use Rattle.cbm_shell.specs.declared.broken.flaws.found.Whose.{Whose}
use Rattle.cbm_shell.specs.declared.broken.flaws.found.Whose.TheVariants.{Disk, Directory, File}
use Rattle.cbm_shell.specs.declared.broken.flaws.found.DiskFlaw.{DiskFlaw}
use Rattle.cbm_shell.specs.Flaws.{Walked, may_go_on, flaws_for}

-- the directory lies on its track, the files off it
abbrev pub is_directory : Whose → Bool
is_directory Disk = true
is_directory Directory = true
is_directory (File slot) = false

-- the number of a link to elsewhere: 6 of the directory, 4 of a file
abbrev pub number_outside : Whose → ℕ
number_outside Disk = 6
number_outside Directory = 6
number_outside (File slot) = 4

-- the bytes of a sector that was met, where the walk goes on
abbrev pub next_bytes : Bool → List ℕ → Option (List ℕ)
next_bytes true bytes = Some bytes
next_bytes false bytes = None

-- what is claimed after a sector was met: it too, where the walk goes on
abbrev pub claimed_if : Bool → (Place → Bool) → Place → Place → Bool
claimed_if true claimed p = with_bit claimed p true
claimed_if false claimed p = claimed

-- A sector was met: its bytes are answered where the walk goes on, and what is wrong with it is added.
pub record IsStep (wrong : Option ℕ) (flaw : ℕ → DiskFlaw) (content : Content) (p : Place) (old new : Place → Bool) (before after : List DiskFlaw) (bytes : Option (List ℕ)) : Type 0 where
  pub next : bytes ≡ next_bytes (may_go_on wrong) (bytes_at content p)
  pub claims : new ≡ claimed_if (may_go_on wrong) old p
  pub adds : after ≡ before ++ flaws_for wrong flaw

-- A walk was made: what is claimed after it, and what is wrong is added.
pub record HasWalked (w : Walked) (claimed : Place → Bool) (before after : List DiskFlaw) : Type 0 where
  pub claims : claimed ≡ w.claimed
  pub adds : after ≡ before ++ w.flaws

-- the same, and whether it came to its end
pub record IsWalked (w : Walked) (claimed : Place → Bool) (before after : List DiskFlaw) (whole : Bool) : Type 0 where
  pub claims : claimed ≡ w.claimed
  pub adds : after ≡ before ++ w.flaws
  pub ends : whole ≡ w.whole
