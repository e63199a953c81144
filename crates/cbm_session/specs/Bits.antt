-- The bits of a frame: changes that come only where they change a line, the cells of a frame of the host, and the byte.
use Rattle.std.specs.Prelude.{◌≡◌, ℕ, ◌+◌, ◌*◌, ◌≤◌, Bool, true, false, not, List, [], ◌∷◌, ◌++◌, if◌then◌else◌}
use Rattle.cbm_iec.specs.Profile.{settle}
use Rattle.cbm_iec.specs.declared.lines.Line.TheVariants.{Clock, Data}
use Rattle.cbm_iec.specs.declared.lines.Way.TheVariants.{Pull, Free}
use Rattle.cbm_iec.specs.declared.lines.Way.{Way}
use Rattle.cbm_session.specs.Steps.{Step, host}

-- a release comes only where the line is held
abbrev pub where_held : Bool → Step → List Step
where_held held step = if held then step ∷ [] else []

-- a pull comes only where the line isn't held
abbrev pub where_free : Bool → Step → List Step
where_free held step = if held then [] else step ∷ []

-- DATA for a bit: 1 is DATA free
abbrev pub data_for : (Way → Step) → Bool → Bool → List Step
data_for step held bit = if bit then where_held held (step Free) else where_free held (step Pull)

-- one bit of a frame of the host: when DATA is set, where it changes, and else the pull before; then CLOCK is freed and pulled
pub record BitCell : Type 0 where
  pub bit : Bool
  pub set : ℕ
  pub free : ℕ
  pub pull : ℕ

-- the host's changes for one bit: DATA where it changes, then CLOCK freed and pulled
abbrev pub cell_steps : Bool → BitCell → List Step
cell_steps held c = data_for (λ way. host c.set Data way) held c.bit ++ host c.free Clock Free ∷ host c.pull Clock Pull ∷ []

-- the same for one bit after another, from whether the host holds DATA
abbrev pub cells_steps : Bool → List BitCell → List Step
cells_steps held [] = []
cells_steps held (c ∷ cs) = cell_steps held c ++ cells_steps (not c.bit) cs

-- whether the host holds DATA after these bits
abbrev pub held_after : Bool → List BitCell → Bool
held_after held [] = held
held_after held (c ∷ cs) = held_after (not c.bit) cs

-- the last pull of CLOCK in these bits; where there are none, the one before
abbrev pub last_pull : ℕ → List BitCell → ℕ
last_pull pull [] = pull
last_pull pull (c ∷ cs) = last_pull c.pull cs

-- DATA is set at the pull of CLOCK or later, and where the bit doesn't change it, at the pull
abbrev pub SetFits : Bool → Bool → ℕ → ℕ → Type 0
SetFits true true pull set = pull ≤ set
SetFits false false pull set = pull ≤ set
SetFits true false pull set = set ≡ pull
SetFits false true pull set = set ≡ pull

-- CLOCK is freed once it and DATA have settled, and pulled once it has settled again
pub record CellFits (held : Bool) (pull : ℕ) (c : BitCell) : Type 0 where
  pub set : SetFits held c.bit pull c.set
  pub free : pull + settle ≤ c.free
  pub settled : c.set + settle ≤ c.free
  pub pulled : c.free + settle ≤ c.pull

-- each bit fits after the pull of the one before it
abbrev pub CellsFit : Bool → ℕ → List BitCell → Type 0
CellsFit held pull [] = Unit {0}
CellsFit held pull (c ∷ cs) = CellFits held pull c × CellsFit (not c.bit) c.pull cs

-- the number that bits are, the lowest first
abbrev pub number_of : List Bool → ℕ
number_of [] = 0
number_of (bit ∷ bits) = (if bit then 1 else 0) + 2 * number_of bits

-- the bits of cells
abbrev pub bits_in_cells : List BitCell → List Bool
bits_in_cells [] = []
bits_in_cells (c ∷ cs) = c.bit ∷ bits_in_cells cs

-- the number that the bits of cells are
abbrev pub byte_in_cells : List BitCell → ℕ
byte_in_cells cells = number_of (bits_in_cells cells)
