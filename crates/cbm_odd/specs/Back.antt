-- Odd entries that are put back after a change of what is left.
use Rattle.std.specs.Prelude.{ℕ, ◌≡◌, ◌≢◌, ◌⊎◌, ◌==◌, ◌&&◌, not, Bool, true, List, [], ◌∷◌, Some, Ok, slice_range}
use Rattle.std.specs.Str.{bytes_eq}
use Rattle.cbm_medium.specs.Place.{Place, directory_head}
use Rattle.cbm_medium.specs.Content.{Content}
use Rattle.cbm_bam.specs.Map.{geometry_of}
use Rattle.cbm_directory.specs.Entries.{type_byte, EntersLed}
use Rattle.cbm_directory.specs.Slots.{Listed, Answers, directory_of}
use Rattle.cbm_image.specs.declared.kind.Kind.{Kind}
use Rattle.cbm_image.specs.Images.{kind_of, tracks_of, content_of}
use Rattle.cbm_medium.specs.Seen.{Seen}
use Rattle.cbm_channel.specs.declared.Status.{Status}
use Rattle.cbm_channel.specs.declared.Code.TheVariants.{WriteProtected}
use Rattle.cbm_shell.specs.Images.{IsImageOpened, IsOpenFault}
use Rattle.cbm_shell.specs.declared.fault.ShellFault.{ShellFault}
use Rattle.cbm_shell.specs.declared.fault.ShellFault.TheVariants as fault
use Rattle.cbm_odd.specs.declared.odd.Odd.{Odd}
use Rattle.cbm_odd.specs.Odd.{others_among, IsUnreadable}
use Rattle.cbm_odd.specs.Held.{held_places, are_same_cells, IsChangedAmong}
use Rattle.cbm_odd.specs.Away.{IsClearOf, IsUnclear}
use Rattle.cbm_odd.specs.declared.marking.Marks.{Marks}
use Rattle.cbm_odd.specs.declared.marking.Marks.TheVariants.{AsBefore}
use Rattle.cbm_odd.specs.Marking.{free_among, IsMarkedBy}
use Rattle.cbm_shell.specs.Mapping.{used_in, is_among, entries_shown}

-- what is found in an odd entry's slot still stands for it: it isn't empty, and only its type and its link may be others
abbrev pub stands_for : List ℕ → List ℕ → Bool
stands_for e found = not (type_byte found == 0) && bytes_eq (slice_range found 3 30) (slice_range e 3 30)

-- a directory still has in its slot what stands for an odd entry
pub record StandsIn (listed : Listed) (odd : Odd) : Type 0 where
  pub found : List ℕ
  pub there : Answers listed odd.slot (Ok (Some found))
  pub stands : stands_for odd.entry found ≡ true

-- the drive's status for an odd entry that is touched: WRITE PROTECT ON
abbrev pub protected : Status
protected = record { code = WriteProtected; first = 0; second = 0 }

-- nothing stands for an odd entry any more; or the directory can't be read or written
abbrev pub IsMissing : Listed → Odd → ShellFault → Type 0
IsMissing listed odd (fault.Refused s) = (s ≡ protected) × (StandsIn listed odd → ⊥)
IsMissing listed odd f = IsUnreadable f

-- an odd entry is in its slot again, byte for byte, where something still stood for it; nothing else is changed
pub record IsPutBack (tracks : ℕ) (odd : Odd) (old new : Content) : Type 0 where
  pub stood : StandsIn (directory_of tracks old) odd
  pub entered : EntersLed tracks old new odd.slot odd.entry

-- odd entries are, one after another
abbrev pub ArePutBack : ℕ → List Odd → Content → Content → Type 0
ArePutBack tracks [] old new = new ≡ old
ArePutBack tracks (odd ∷ rest) old new = (between : Content) × IsPutBack tracks odd old between × ArePutBack tracks rest between new

-- one of them can't be put back, after those before it
abbrev pub IsNotBackFrom : ℕ → List Odd → Content → ShellFault → Type 0
IsNotBackFrom tracks [] now f = IsUnreadable f
IsNotBackFrom tracks (odd ∷ rest) now f =
    IsMissing (directory_of tracks now) odd f ⊎ ((between : Content) × IsPutBack tracks odd now between × IsNotBackFrom tracks rest between f)

-- the sectors that a disk's directory and closed files use
abbrev pub files_on : ℕ → Content → Place → Bool
files_on tracks content = let bound = geometry_of tracks content in
    is_among (used_in bound content (entries_shown (directory_of bound content)))

-- the same without its odd entries
abbrev pub others_on : ℕ → Content → List Odd → Place → Bool
others_on tracks content odds = let bound = geometry_of tracks content in
    is_among (used_in bound content (others_among odds 0 (entries_shown (directory_of bound content))))

-- A CHANGE LEFT ODD ENTRIES' SECTORS ALONE: each holds what it held, is taken in the new BAM, and a file that uses it used it before; what is left is sound
pub record LeavesHeld (tracks : ℕ) (old : Content) (after : ℕ) (new : Content) (odds : List Odd) : Type 0 where
  pub clear : IsClearOf after new (files_on after new) (others_on tracks old odds) (held_places (geometry_of tracks old) old odds)
  pub same : are_same_cells old new (held_places (geometry_of tracks old) old odds) ≡ true

-- what is left isn't clear of these sectors, or one of them has changed
abbrev pub ChangesHeld : Seen → Seen → List Odd → ShellFault → Type 0
ChangesHeld old new odds f =
    IsUnclear new.tracks new.content (files_on new.tracks new.content) (others_on old.tracks old.content odds) (held_places (geometry_of old.tracks old.content) old.content odds) f
    ⊎ IsChangedAmong old new (held_places (geometry_of old.tracks old.content) old.content odds) f

-- those of the sectors that odd entries lead to which a disk's BAM has as free
abbrev pub free_of : ℕ → Content → List Odd → List Place
free_of tracks content odds = free_among (content directory_head) (held_places (geometry_of tracks content) content odds)

-- odd entries are put back on a disk, and the BAM then has these sectors as it is asked for
pub record AreBack (marks : Marks) (tracks : ℕ) (free : List Place) (odds : List Odd) (old new : Content) : Type 0 where
  pub middle : Content
  pub back : ArePutBack tracks odds old middle
  pub marked : IsMarkedBy marks tracks free middle new

-- THE ODD ENTRIES OF AN IMAGE ARE PUT BACK into the image that was made of it without them
pub record IsBackBy (marks : Marks) (kind : Kind) (image : List ℕ) (odds : List Odd) (changed new : List ℕ) : Type 0 where
  pub alone : LeavesHeld (tracks_of kind image) (content_of kind image) (tracks_of kind changed) (content_of kind changed) odds
  pub back : let tracks = tracks_of kind changed in let content = content_of kind changed in
      AreBack marks (geometry_of tracks content) (free_of (tracks_of kind image) (content_of kind image) odds) odds content (content_of kind new)

-- the same, and those of their sectors that were free are free again
abbrev pub IsBackIn : Kind → List ℕ → List Odd → List ℕ → List ℕ → Type 0
IsBackIn = IsBackBy AsBefore

-- why they aren't: one of the images is refused, or they aren't of one format; the change didn't leave the sectors alone; or it touched one of the entries
abbrev pub IsNotBackIn : List ℕ → List Odd → List ℕ → ShellFault → Type 0
IsNotBackIn image odds changed f =
    (((f ≡ fault.Mistaken) × (kind_of image ≢ kind_of changed)) ⊎ (IsOpenFault image f ⊎ IsOpenFault changed f))
    ⊎ ((old : Seen) × (new : Seen) × IsImageOpened image old × IsImageOpened changed new
    × (ChangesHeld old new odds f ⊎ IsNotBackFrom (geometry_of new.tracks new.content) odds new.content f))
