-- New images and changes of one, as C is told of them.
use Rattle.std.specs.Prelude.{ℕ, ℤ, ◌≡◌, ◌↔◌, ◌==◌, if◌then◌else◌, List, length}
use Rattle.cbm_image.specs.Images.{kind_of}
use Rattle.cbm_shell.specs.declared.images.making.Form.{Form}
use Rattle.cbm_shell.specs.declared.images.making.Form.TheVariants.{D64, LongD64, G64}
use Rattle.cbm_shell.specs.Sectors.{faults_in}
use Rattle.cbm_shell.specs.Converting.{content_held, has_more_tracks, has_error_bytes, HasOtherId}
use Rattle.cbm_device.specs.declared.refusal.DeviceRefusal.TheVariants.{Invalid}
use Rattle.cbm_device.specs.Answers.{answer_number}
use Rattle.yellowadze1541.specs.declared.shapes.Lost.{Lost}
use Rattle.yellowadze1541.specs.Looks.{flag}

-- the form of a new image, by its number
abbrev pub form_of : ℕ → Form
form_of n = if n == 0 then D64 else if n == 1 then LongD64 else G64

-- an argument is out of its range, and nothing has changed
abbrev pub IsRefusedNew : ℤ → List ℕ → List ℕ → ℕ → ℕ → Type 0
IsRefusedNew n old new before needed = (n ≡ answer_number Invalid) × (new ≡ old) × (needed ≡ before)

-- what an image of the other format doesn't hold
pub record IsLossOf (image : List ℕ) (l : Lost) : Type 0 where
  pub unreadable : l.unreadable ≡ length (faults_in (content_held image) 35)
  pub tracks : l.tracks ≡ flag (has_more_tracks (kind_of image) image)
  pub errors : l.errors ≡ flag (has_error_bytes (kind_of image) image)
  pub id : (l.id ≡ 1) ↔ HasOtherId image
