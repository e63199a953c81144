-- The BAM's marks of the sectors that odd entries lead to.
use Rattle.std.specs.Prelude.{ℕ, ◌≡◌, ◌⊎◌, ◌||◌, ◌&&◌, not, Bool, List, [], ◌∷◌, ◌++◌}
use Rattle.cbm_medium.specs.Place.{Place, directory_head}
use Rattle.cbm_medium.specs.Content.{Cell, Content}
use Rattle.cbm_shell.specs.Mapping.{is_among, free_by}
use Rattle.cbm_shell.specs.Passing.{place_if, places_in}
use Rattle.cbm_shell.specs.Undeleting.{IsMapAnew}
use Rattle.cbm_odd.specs.declared.marking.Marks.{Marks}
use Rattle.cbm_odd.specs.declared.marking.Marks.TheVariants.{AsBefore, AsChanged}

-- those of these sectors that the BAM has as free
unfoldable pub free_among : Cell → List Place → List Place
free_among head [] = []
free_among head (p ∷ rest) = place_if (free_by head p) p ++ free_among head rest

-- a sector is taken in the BAM, or one of the first set; and it is none of the second
abbrev pub is_taken_now : Cell → (Place → Bool) → (Place → Bool) → Place → Bool
is_taken_now head more less p = (not (free_by head p) || more p) && not (less p)

-- the sectors that are taken then
abbrev pub taken_now : ℕ → Content → List Place → List Place → List Place
taken_now tracks content more less = places_in (is_taken_now (content directory_head) (is_among more) (is_among less)) tracks

-- THE BAM HAS THE FIRST SECTORS AS TAKEN, and the second as free: it is written anew so, or nothing is changed where there are none
abbrev pub HasMarksOf : ℕ → List Place → List Place → Content → Content → Type 0
HasMarksOf tracks more less old new =
    ((more ≡ []) × (less ≡ []) × (new ≡ old)) ⊎ IsMapAnew tracks old new (is_among (taken_now tracks old more less))

-- sectors are claimed: those that are free are taken from now on
abbrev pub AreHeldClaimed : ℕ → List Place → Content → Content → Type 0
AreHeldClaimed tracks held old new = HasMarksOf tracks (free_among (old directory_head) held) [] old new

-- how the BAM has the sectors that odd entries lead to: those that were free are free again, or they stay taken
abbrev pub IsMarkedBy : Marks → ℕ → List Place → Content → Content → Type 0
IsMarkedBy AsBefore tracks free old new = HasMarksOf tracks [] free old new
IsMarkedBy AsChanged tracks free old new = new ≡ old
