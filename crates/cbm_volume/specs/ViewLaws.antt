-- The laws of a medium hold of what VALIDATE looks at.
use Rattle.std.specs.Prelude.{ℕ, ◌<◌, ◌≡◌, None, List, Ok, Err}
use Rattle.std.proofs.Common.{refl, ◌∙◌}
use Rattle.cbm_medium.specs.Place.{Place}
use Rattle.cbm_medium.specs.Content.{Cell, Content, HasFaultCode, header_fault}
use Rattle.cbm_volume.specs.Views.{on_cell, view_at, view_of}

cell_codes : (f : List ℕ → List ℕ) (cell : Cell) → HasFaultCode cell → HasFaultCode (on_cell f cell)
cell_codes f (Ok bytes) h = tt
cell_codes f (Err code) h = h

pub view_codes : (tracks : ℕ) (c : Content) (p : Place) → HasFaultCode (c p) → HasFaultCode (view_of tracks c p)
unfolding view_of
view_codes tracks c p h = cell_codes (view_at tracks p) (c p) h

cell_header : (f : List ℕ → List ℕ) (cell : Cell) → header_fault (on_cell f cell) ≡ header_fault cell
cell_header f (Ok bytes) = refl
cell_header f (Err code) = refl

pub view_outer : (tracks : ℕ) (c : Content) (p : Place) → 35 < p.track → header_fault (c p) ≡ None → header_fault (view_of tracks c p) ≡ None
unfolding view_of
view_outer tracks c p far h = cell_header (view_at tracks p) (c p) ∙ h
