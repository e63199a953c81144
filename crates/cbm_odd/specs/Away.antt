-- Odd entries that are put away.
use Rattle.std.specs.Prelude.{ℕ, ◌≡◌, ◌⊎◌, Bool, true, List, [], ◌∷◌, Some, Err, slice_set}
use Rattle.cbm_medium.specs.Place.{Place, directory_head}
use Rattle.cbm_medium.specs.Content.{Content}
use Rattle.cbm_bam.specs.Map.{geometry_of}
use Rattle.cbm_bam.specs.Marks.{nothing}
use Rattle.cbm_directory.specs.Entries.{EntersLed}
use Rattle.cbm_image.specs.declared.kind.Kind.{Kind}
use Rattle.cbm_image.specs.Images.{kind_of, image_fault, tracks_of, content_of}
use Rattle.cbm_shell.specs.Images.{IsSoundDisk, IsSoundImage}
use Rattle.cbm_odd.specs.declared.odd.Odd.{Odd}
use Rattle.cbm_odd.specs.declared.away.Away.{Away}
use Rattle.cbm_volume.specs.check.WholeDisk.{DiskFault}
use Rattle.cbm_shell.specs.declared.fault.ShellFault.{ShellFault}
use Rattle.cbm_shell.specs.declared.fault.ShellFault.TheVariants as fault
use Rattle.cbm_shell.specs.Flaws.{flaws_of, first_flaw}
use Rattle.cbm_odd.specs.Odd.{AreOddOf, IsUnreadable}
use Rattle.cbm_odd.specs.Held.{is_only_in, held_places, are_kept, IsSpoiltAmong}
use Rattle.cbm_odd.specs.Marking.{AreHeldClaimed}

-- what stands in an odd entry's place: a DEL, closed and locked, without a block; its name and all else as they were
abbrev pub away_entry : List ℕ → List ℕ
away_entry e = slice_set (slice_set (slice_set e 0 192) 1 0) 2 0

-- odd entries are put away, one after another, and nothing else is changed
abbrev pub ArePutAway : ℕ → List Odd → Content → Content → Type 0
ArePutAway tracks [] old new = new ≡ old
ArePutAway tracks (odd ∷ rest) old new =
    (between : Content) × EntersLed tracks old between odd.slot (away_entry odd.entry) × ArePutAway tracks rest between new

-- A DISK IS CLEAR of these sectors: it is sound, each of them is taken in its BAM, and none is used that wasn't used before
pub record IsClearOf (tracks : ℕ) (content : Content) (used before : Place → Bool) (held : List Place) : Type 0 where
  pub sound : IsSoundDisk tracks content
  pub kept : are_kept (content directory_head) (is_only_in used before) held ≡ true

-- a disk isn't clear of these sectors: this is its first fault, or one of them is free, or used and wasn't before; or it can't be read
abbrev pub IsUnclear : ℕ → Content → (Place → Bool) → (Place → Bool) → List Place → ShellFault → Type 0
IsUnclear tracks content used before held (fault.Unsound u) =
    DiskFault (geometry_of tracks content) content u ⊎ IsSpoiltAmong (content directory_head) (is_only_in used before) held (fault.Unsound u)
IsUnclear tracks content used before held f = IsUnreadable f

-- the disk's odd entries are put away in the new image, which is sound, and in which the sectors that they lead to are taken
pub record IsAway (kind : Kind) (tracks : ℕ) (content : Content) (odds : List Odd) (new : List ℕ) : Type 0 where
  pub left : Content
  pub away : ArePutAway (geometry_of tracks content) odds content left
  pub claimed : AreHeldClaimed (geometry_of tracks content) (held_places (geometry_of tracks content) content odds) left (content_of kind new)
  pub clear : IsClearOf tracks (content_of kind new) nothing nothing (held_places (geometry_of tracks content) content odds)
  pub sound : IsSoundImage kind new

-- what is left without the odd entries isn't sound; or it can't be read or written
abbrev pub IsNotLeft : ℕ → Content → List Odd → ShellFault → Type 0
IsNotLeft tracks content odds (fault.Unsound u) = (left : Content) × (new : Content) × ArePutAway (geometry_of tracks content) odds content left
    × AreHeldClaimed (geometry_of tracks content) (held_places (geometry_of tracks content) content odds) left new
    × IsUnclear tracks new nothing nothing (held_places (geometry_of tracks content) content odds) (fault.Unsound u)
IsNotLeft tracks content odds f = IsUnreadable f

-- THE ODD ENTRIES OF AN IMAGE ARE PUT AWAY: they are all that is wrong with its disk
pub record IsAwayIn (image : List ℕ) (a : Away) : Type 0 where
  pub odd : let tracks = tracks_of (kind_of image) image in let content = content_of (kind_of image) image in
      AreOddOf (geometry_of tracks content) content a.odds.items
  pub put : IsAway (kind_of image) (tracks_of (kind_of image) image) (content_of (kind_of image) image) a.odds.items a.image.items

-- why they aren't: the image's own fault; the disk's first one, where more is wrong than entries; what is left isn't sound; or it can't be read or written
abbrev pub IsNotAwayIn : List ℕ → ShellFault → Type 0
IsNotAwayIn image (fault.Image n) = image_fault (kind_of image) image ≡ Some n
IsNotAwayIn image (fault.Unsound u) = let tracks = tracks_of (kind_of image) image in let content = content_of (kind_of image) image in
    (first_flaw (flaws_of (geometry_of tracks content) content) ≡ Err u)
    ⊎ ((odds : List Odd) × AreOddOf (geometry_of tracks content) content odds × IsNotLeft tracks content odds (fault.Unsound u))
IsNotAwayIn image f = IsUnreadable f
