-- The directory grows by a sector: its three writes, which no channel notices.
use Rattle.std.proofs.Common.{◌≡◌, ◌≢◌, ℕ, zero, suc, ◌≤◌, get_or, arith, List, [], ◌∷◌, ◌++◌, false, refl, sym, ap, subst, ◌∙◌, Option, None}
use Rattle.std.specs.Prelude.{replicate}
use Rattle.std.proofs.lemmas.List.{length-append}
use Rattle.cbm_medium.specs.Place.{Place, directory_head}
use Rattle.cbm_medium.specs.Content.{Content, written}
use Rattle.cbm_file.specs.Files.{File, Disk, file_at}
use Rattle.cbm_bam.specs.Map.{ClaimsOn18}
use Rattle.cbm_chain.specs.Writing.{last_of}
use Rattle.cbm_volume.specs.Layouts.{Owner, Nobody, TheMap, Directory, DataOf, Writer, OwnedBy, is_loose, Layout, own, layout_grown}
use Rattle.cbm_volume.specs.Writers.{Use, HoldsAt}
use Rattle.cbm_volume.proofs.layouts.Steps.{stands_loose, own_elsewhere}
use Rattle.cbm_volume.proofs.layouts.Rooms.{less_room, stands_claim_18}
use Rattle.cbm_volume.proofs.layouts.Grows.{CanGrow, more_slots, stands_grow}
use Rattle.cbm_volume.proofs.layouts.Writers.{Spares, written_keeps}
use Rattle.cbm_volume.proofs.written.Replaced.{holds_all}
use Rattle.cbm_volume.proofs.written.Finishes.{last_owned}

-- one write of a sector that is the map's, the directory's or nobody's
pub spares_write : (c c' : Content) (l : Layout) (d d' : Disk) (p : Place) (bytes : List ℕ) (o : Owner) → c' ≡ written c p bytes → l.owner p ≡ o → ((x : ℕ) → o ≢ Writer x) → ((n : ℕ) → o ≢ DataOf n) → ((n : ℕ) → file_at d' n ≡ file_at d n)
    → Spares c c' l l d d' (λ x. false) (λ n. false)
spares_write c c' l d d' p bytes o new at no_writer no_file slots = record {
  writers = λ x f. written_keeps c c' p bytes l.owner (Writer x) new (λ e. no_writer x (sym at ∙ e));
  writers_own = λ x q f e. e;
  files = λ n f. written_keeps c c' p bytes l.owner (DataOf n) new (λ e. no_file n (sym at ∙ e));
  files_own = λ n q f e. e;
  more = omega arith;
  slots = λ n f. slots n;
}

-- a sector of track 18 is claimed
pub claimed_on_18 : (tracks : ℕ) (c c' : Content) (l : Layout) (d : Disk) (uses : ℕ → Use) (q : Place) → 18 ≤ tracks → HoldsAt tracks c l d uses → ClaimsOn18 tracks c c' q → HoldsAt tracks c' l (less_room d) uses
claimed_on_18 tracks c c' l d uses q few h k =
    holds_all tracks c c' l l d (less_room d) uses (λ n. false) h (stands_claim_18 tracks c c' l d q h.stands few k.has k.on_18 k.was_free k.remaps)
    (spares_write c c' l d (less_room d) directory_head k.remaps.map TheMap k.remaps.written h.stands.sound.owned.map (λ x e. (cc)) (λ n e. (cc)) (λ n. refl)) (λ m n f. refl)

-- a sector that is nobody's is written
pub written_loose : (tracks : ℕ) (c c' : Content) (l : Layout) (d : Disk) (uses : ℕ → Use) (q : Place) (bytes : List ℕ) → HoldsAt tracks c l d uses → l.owner q ≡ Nobody → c' ≡ written c q bytes → HoldsAt tracks c' l d uses
written_loose tracks c c' l d uses q bytes h nobody new =
    holds_all tracks c c' l l d d uses (λ n. false) h (stands_loose tracks c c' l d q bytes h.stands (ap is_loose nobody) new)
    (spares_write c c' l d d q bytes Nobody new nobody (λ x e. (cc)) (λ n e. (cc)) (λ n. refl)) (λ m n f. refl)

none_at : (k n : ℕ) → get_or (replicate {A = Option File} k None) n None ≡ None
none_at zero n = refl
none_at (suc k) zero = refl
none_at (suc k) (suc n) = none_at k n

pub same_slots : (xs : List (Option File)) (n : ℕ) → get_or (xs ++ replicate 8 None) n None ≡ get_or xs n None
same_slots [] n = none_at 8 n
same_slots (x ∷ xs) zero = refl
same_slots (x ∷ xs) (suc n) = same_slots xs n

-- THE LAST SECTOR LINKS TO IT, and there are eight empty slots more
pub grown_over : (tracks : ℕ) (c c' : Content) (l : Layout) (d : Disk) (uses : ℕ → Use) (b : Place) (rest : List Place) (q : Place) (new blank : List ℕ) → HoldsAt tracks c l d uses → CanGrow tracks c c' l b rest q new blank → HoldsAt tracks c' (layout_grown l q) (more_slots d) uses
grown_over tracks c c' l d uses b rest q new blank h g =
    let mine : l.owner (last_of b rest) ≡ Directory = last_owned l.owner Directory b rest (subst (λ (xs : List Place). OwnedBy l.owner Directory xs) g.directory h.stands.sound.owned.directory) in
    let owned : (o : Owner) (p : Place) → Nobody ≢ o → l.owner p ≡ o → own l.owner q Directory p ≡ o = λ o p ne e. own_elsewhere l.owner q p Directory (λ z. ne (sym g.nobody ∙ ap l.owner z ∙ e)) ∙ e in
    holds_all tracks c c' l (layout_grown l q) d (more_slots d) uses (λ n. false) h (stands_grow tracks c c' l d b rest q new blank h.stands g)
    (record {
      writers = λ x f. written_keeps c c' (last_of b rest) new l.owner (Writer x) g.written (λ e. (let z = sym mine ∙ e in (cc)));
      writers_own = λ x p f. owned (Writer x) p (λ z. (cc));
      files = λ n f. written_keeps c c' (last_of b rest) new l.owner (DataOf n) g.written (λ e. (let z = sym mine ∙ e in (cc)));
      files_own = λ n p f. owned (DataOf n) p (λ z. (cc));
      more = omega (arith, length-append l.directory (q ∷ []));
      slots = λ n f. same_slots d.slots n;
    }) (λ m n f. refl)
