-- An image of the other format, and what it doesn't hold of the one that it was made from.
use Rattle.std.specs.Prelude.{ℕ, ◌≡◌, ◌≢◌, ◌↔◌, ◌⊎◌, IsTrue, ◌+◌, ◌*◌, ◌%◌, ◌==◌, ◌&&◌, ◌||◌, nat_lt, not, Bool, false, List, [], ◌∷◌, length, take, codes, slice_index, slice_range, None, Ok, Err}
use Rattle.cbm_medium.specs.Place.{Place, Has, directory_head}
use Rattle.cbm_medium.specs.Content.{Cell, Content}
use Rattle.cbm_medium.specs.declared.fault.Fault.{Fault}
use Rattle.cbm_track.specs.Circle.{each_below}
use Rattle.cbm_g64.specs.File.{g64_circles}
use Rattle.cbm_g64.specs.Tracks.{G64State, or_zeros, id_for}
use Rattle.cbm_image.specs.declared.kind.Kind.{Kind}
use Rattle.cbm_image.specs.declared.kind.Kind.TheVariants.{D64, G64}
use Rattle.cbm_image.specs.Images.{kind_of, content_of, image_fault, tracks_of}
use Rattle.cbm_shell.specs.declared.fault.ShellFault.{ShellFault}
use Rattle.cbm_shell.specs.declared.fault.ShellFault.TheVariants as fault
use Rattle.cbm_shell.specs.Images.{IsOpenFault}
use Rattle.cbm_shell.specs.Sectors.{faults_in}

-- the other format
abbrev pub other : Kind → Kind
other D64 = G64
other G64 = D64

-- the id that 18/0 has; zeros where it doesn't read
abbrev pub id_of_cell : Cell → List ℕ
id_of_cell (Ok bytes) = slice_range bytes 162 164
id_of_cell (Err code) = 0 ∷ 0 ∷ []

-- the id that 18/0 of a content has; zeros where it doesn't read
abbrev pub told_id : Content → List ℕ
told_id content = id_of_cell (content directory_head)

-- what the sectors of an image hold
abbrev pub content_held : List ℕ → Content
content_held image = content_of (kind_of image) image

-- THE NEW IMAGE is one of the other format, of 35 tracks, without a fault; a G64 has the id of 18/0 in its headers. Each of the 683 sectors that reads in the old image
-- is in the new one byte for byte, and those that don't are zeros.
pub record IsConverted (old new : List ℕ) : Type 0 where
  pub opens : kind_of new ≡ other (kind_of old)
  pub faultless : image_fault (kind_of new) new ≡ None
  pub tracks : tracks_of (kind_of new) new ≡ 35
  pub headers : kind_of new ≡ G64 → id_for (g64_circles new 35) ≡ told_id (content_held old)
  pub kept : (p : Place) → Has 35 p → content_held new p ≡ or_zeros (content_held old p)

-- ---- what is lost

-- the four bytes at a place of a file are zeros
abbrev pub is_zero_at : List ℕ → ℕ → Bool
is_zero_at file i = (slice_index file i == 0) && ((slice_index file (i + 1) == 0) && ((slice_index file (i + 2) == 0) && (slice_index file (i + 3) == 0)))

-- an entry of a G64's table is that of one of the tracks 1 to 35, or has no track
unfoldable pub is_plain_table : List ℕ → ℕ → Bool
is_plain_table file i = ((i % 2 == 0) && nat_lt i 70) || is_zero_at file (12 + 4 * i)

-- an image has tracks 36 to 40; a G64, half tracks or tracks beyond 35
abbrev pub has_more_tracks : Kind → List ℕ → Bool
has_more_tracks D64 image = length image == 196608
has_more_tracks G64 image = not (each_below (is_plain_table image) (slice_index image 9))

-- an error byte of an image is 1
unfoldable pub is_good : List ℕ → ℕ → Bool
is_good image i = slice_index image (174848 + i) == 1

-- an image has error bytes, and one of them isn't 1
abbrev pub has_error_bytes : Kind → List ℕ → Bool
has_error_bytes D64 image = (length image == 175531) && not (each_below (is_good image) 683)
has_error_bytes G64 image = false

-- the headers of a G64's track 18 have another id than 18/0 has; zeros stand for one that isn't there
abbrev pub HasOtherId : List ℕ → Type 0
HasOtherId image = (kind_of image ≡ G64) × (id_for (g64_circles image 35) ≢ told_id (content_held image))

-- WHAT THE NEW IMAGE LACKS is reported: the sectors that don't read, more tracks, error bytes, an id that only the headers have.
pub record AreLosses (image : List ℕ) (unreadable : List Fault) (more_tracks error_bytes header_id : Bool) : Type 0 where
  pub faults : unreadable ≡ faults_in (content_held image) 35
  pub tracks : more_tracks ≡ has_more_tracks (kind_of image) image
  pub errors : error_bytes ≡ has_error_bytes (kind_of image) image
  pub id : IsTrue header_id ↔ HasOtherId image

-- the disk of a G64 as it is opened: the circles of its 35 tracks, and its file
abbrev pub circles_shown : List ℕ → G64State
circles_shown image = record { tracks = g64_circles image 35; file = image; formatted = false; protected = false }
