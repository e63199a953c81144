-- What the sectors of an image hold.
use Rattle.std.specs.Prelude.{ℕ, ◌+◌, ◌*◌, ◌==◌, List, if◌then◌else◌, length, slice_index, Option, Some, None, Err}
use Rattle.cbm_medium.specs.Content.{Cell, Content}
use Rattle.cbm_d64.specs.Image.{code_of_error, cell_of, sector_at}
use Rattle.cbm_sources.specs.declared.form.Form.{Form}
use Rattle.cbm_sources.specs.Forms.{form_sectors, place_in_image}

-- an image, and its form
pub record SourceImage : Type 0 where
  pub form : Form
  pub bytes : List ℕ

-- The error byte of a sector: they follow the sectors, in their order. It is 1, which is good, where the image has none.
abbrev pub error_of : Form → List ℕ → ℕ → ℕ
error_of form bytes i = if length bytes == 257 * form_sectors form then slice_index bytes (256 * form_sectors form + i) else 1

-- the bytes of the sector with this number, or the fault that its error byte means; 66 where there is no such sector
abbrev pub cell_in : Form → List ℕ → Option ℕ → Cell
cell_in form bytes None = Err 66
cell_in form bytes (Some i) = cell_of (code_of_error (error_of form bytes i)) (sector_at bytes i)

-- WHAT THE SECTORS OF AN IMAGE HOLD
unfoldable pub image_content : SourceImage → Content
image_content image p = cell_in image.form image.bytes (place_in_image image.form p)
