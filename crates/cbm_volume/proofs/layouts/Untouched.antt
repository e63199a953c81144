-- Which writes leave the sectors of files alone.
use Rattle.std.proofs.Common.{◌≡◌, ℕ, List, [], ◌∷◌, true, false, refl, sym, ap, ◌∙◌}
use Rattle.cbm_medium.specs.Place.{Place}
use Rattle.cbm_medium.specs.Content.{Content, written}
use Rattle.cbm_medium.specs.Links.{AllSame}
use Rattle.cbm_volume.specs.Layouts.{Owner, OwnedBy, Layout}
pub use Rattle.cbm_volume.specs.Reaches.{is_file, KeepsFiles}
use Rattle.cbm_volume.proofs.layouts.Frames.{Keeps, write_keeps}

pub all_same : (c c' : Content) (l : Layout) (o : Owner) (xs : List Place) → KeepsFiles l c c' → is_file o ≡ true → OwnedBy l.owner o xs → AllSame c c' xs
all_same c c' l o [] k f w = tt
all_same c c' l o (x ∷ xs) k f w = (k x (ap is_file w.0 ∙ f), all_same c c' l o xs k f w.1)

-- the sectors of one owner
pub all_kept : (c c' : Content) (owner : Place → Owner) (o : Owner) → Keeps c c' owner o → (xs : List Place) → OwnedBy owner o xs → AllSame c c' xs
all_kept c c' owner o k [] w = tt
all_kept c c' owner o k (x ∷ xs) w = (k x w.0, all_kept c c' owner o k xs w.1)

pub files_same : (l : Layout) (c c' : Content) → c' ≡ c → KeepsFiles l c c'
files_same l c c' e p f = ap (λ (x : Content). x p) e

pub files_then : (l : Layout) (c c' c'' : Content) → KeepsFiles l c c' → KeepsFiles l c' c'' → KeepsFiles l c c''
files_then l c c' c'' a b p f = b p f ∙ a p f

pub files_written : (l : Layout) (c c' : Content) (p : Place) (bytes : List ℕ) (o : Owner) → l.owner p ≡ o → is_file o ≡ false → c' ≡ written c p bytes → KeepsFiles l c c'
files_written l c c' p bytes o w n e q f = ap (λ (x : Content). x q) e ∙ write_keeps c p bytes l.owner (l.owner q) (λ z. (let y = sym n ∙ ap is_file (sym w ∙ z) ∙ f in (cc))) q refl
