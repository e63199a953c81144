-- What is put back on a disk is put back in its image.
use Rattle.std.proofs.Common.{◌≡◌, ℕ, List, subst}
use Rattle.std.specs.Prelude.{Result, Ok, Err, IfOk}
use Rattle.cbm_medium.specs.Content.{Content}
use Rattle.cbm_medium.specs.Seen.{Seen}
use Rattle.cbm_bam.specs.Map.{geometry_of}
use Rattle.cbm_image.specs.declared.kind.Kind.{Kind}
use Rattle.cbm_image.specs.Images.{kind_of, tracks_of, content_of}
use Rattle.cbm_shell.specs.declared.fault.ShellFault.{ShellFault}
use Rattle.cbm_shell.specs.Images.{IsImageOpened}
use Rattle.cbm_shell.proofs.ImageLemmas.{of_image}
use Rattle.cbm_odd.specs.declared.odd.Odd.{Odd}
use Rattle.cbm_medium.specs.Place.{Place}
use Rattle.cbm_odd.specs.declared.marking.Marks.{Marks}
use Rattle.cbm_odd.specs.Back.{free_of, LeavesHeld, AreBack, IsBackBy}

pub back_in : {A : Type 0} (items : A → List ℕ) (r : Result A ShellFault) (marks : Marks) (free : List Place) (kind : Kind) (image changed : List ℕ) (odds : List Odd) (old new : Seen) → kind ≡ kind_of image
    → kind_of changed ≡ kind_of image → IsImageOpened image old → IsImageOpened changed new → LeavesHeld old.tracks old.content new.tracks new.content odds
    → free ≡ free_of old.tracks old.content odds
    → IfOk r (λ v. AreBack marks (geometry_of new.tracks new.content) free odds new.content (content_of kind (items v)))
    → IfOk r (λ v. IsBackBy marks (kind_of image) image odds changed (items v))
back_in items (Ok v) marks free kind image changed odds old new is same o n alone f back = record {
  alone = subst (λ (k : Kind). LeavesHeld (tracks_of (kind_of image) image) (content_of (kind_of image) image) (tracks_of k changed) (content_of k changed) odds) same
      (of_image (λ (t : ℕ) (c : Content). LeavesHeld (tracks_of (kind_of image) image) (content_of (kind_of image) image) t c odds) changed new n
      (of_image (λ (t : ℕ) (c : Content). LeavesHeld t c new.tracks new.content odds) image old o alone));
  back = subst (λ (k : Kind). AreBack marks (geometry_of (tracks_of k changed) (content_of k changed)) (free_of (tracks_of (kind_of image) image) (content_of (kind_of image) image) odds) odds (content_of k changed) (content_of (kind_of image) (items v))) same
      (of_image (λ (t : ℕ) (c : Content). AreBack marks (geometry_of t c) (free_of (tracks_of (kind_of image) image) (content_of (kind_of image) image) odds) odds c (content_of (kind_of image) (items v))) changed new n
      (of_image (λ (t : ℕ) (c : Content). AreBack marks (geometry_of new.tracks new.content) (free_of t c odds) odds new.content (content_of (kind_of image) (items v))) image old o
      (subst (λ (l : List Place). AreBack marks (geometry_of new.tracks new.content) l odds new.content (content_of (kind_of image) (items v))) f
      (subst (λ (k : Kind). AreBack marks (geometry_of new.tracks new.content) free odds new.content (content_of k (items v))) is back))));
}
back_in items (Err e) marks free kind image changed odds old new is same o n alone f back = tt
