-- Why odd entries aren't put away or back.
use Rattle.std.proofs.Common.{◌≡◌, ℕ, List, [], ◌∷◌, Bool, sym, subst, inl, inr}
use Rattle.std.specs.Prelude.{Result, Ok, Err, IfErr}
use Rattle.cbm_medium.specs.Place.{Place, directory_head}
use Rattle.cbm_medium.specs.Content.{Cell, Content}
use Rattle.cbm_medium.specs.Seen.{Seen}
use Rattle.cbm_bam.specs.Map.{geometry_of}
use Rattle.cbm_volume.specs.declared.Unsound.{Unsound}
use Rattle.cbm_volume.specs.check.Claims.{fault_at}
use Rattle.cbm_shell.specs.declared.fault.ShellFault.{ShellFault}
use Rattle.cbm_shell.specs.declared.fault.ShellFault.TheVariants as fault
use Rattle.cbm_shell.specs.Images.{IsImageOpened}
use Rattle.cbm_image.specs.Images.{kind_of, tracks_of, content_of}
use Rattle.cbm_odd.specs.declared.odd.Odd.{Odd}
use Rattle.cbm_odd.specs.Odd.{AreOddOf, IsUnreadable}
use Rattle.cbm_odd.specs.Held.{is_only_in, IsSpoiltAmong, held_places}
use Rattle.cbm_odd.specs.Marking.{AreHeldClaimed}
use Rattle.cbm_bam.specs.Marks.{nothing}
use Rattle.cbm_odd.specs.Away.{ArePutAway, IsUnclear, IsNotLeft, IsNotAwayIn}
use Rattle.cbm_odd.specs.Back.{IsNotBackFrom}

-- a sector that is spoilt makes a disk unsound
spoilt_is : (head : Cell) (used : Place → Bool) (held : List Place) (f : ShellFault) → IsSpoiltAmong head used held f → (u : Unsound) × (f ≡ fault.Unsound u)
spoilt_is head used [] f h = absurd h
spoilt_is head used (p ∷ rest) f (inl h) = (fault_at h.0 p, h.2)
spoilt_is head used (p ∷ rest) f (inr h) = spoilt_is head used rest f h

unclear_by : (tracks : ℕ) (content : Content) (used before : Place → Bool) (held : List Place) (f : ShellFault)
    → IsSpoiltAmong (content directory_head) (is_only_in used before) held f → IsUnclear tracks content used before held f
unclear_by tracks content used before held f h =
    let u = spoilt_is (content directory_head) (is_only_in used before) held f h in
    subst (λ x. IsUnclear tracks content used before held x) (sym u.1) (inr (subst (λ x. IsSpoiltAmong (content directory_head) (is_only_in used before) held x) u.1 h))

pub clear_refused : (tracks : ℕ) (content : Content) (head : Cell) (used before : Place → Bool) (held : List Place) (r : Result (Unit {0}) ShellFault) → head ≡ content directory_head
    → IfErr r (IsSpoiltAmong head (is_only_in used before) held) → IfErr r (IsUnclear tracks content used before held)
clear_refused tracks content head used before held (Ok v) a h = tt
clear_refused tracks content head used before held (Err f) a h =
    unclear_by tracks content used before held f (subst (λ x. IsSpoiltAmong x (is_only_in used before) held f) a h)

-- what is left isn't clear
not_left_by : (tracks : ℕ) (old left new : Content) (odds : List Odd) (f : ShellFault) → ArePutAway (geometry_of tracks old) odds old left
    → AreHeldClaimed (geometry_of tracks old) (held_places (geometry_of tracks old) old odds) left new
    → IsUnclear tracks new nothing nothing (held_places (geometry_of tracks old) old odds) f → IsNotLeft tracks old odds f
not_left_by tracks old left new odds (fault.Unsound u) away claimed h = (left, new, away, claimed, h)
not_left_by tracks old left new odds fault.Memory away claimed h = h
not_left_by tracks old left new odds (fault.Image n) away claimed h = h
not_left_by tracks old left new odds (fault.Refused s) away claimed h = h
not_left_by tracks old left new odds (fault.Trouble t) away claimed h = h
not_left_by tracks old left new odds fault.NotFound away claimed h = h
not_left_by tracks old left new odds fault.NotClosed away claimed h = h
not_left_by tracks old left new odds fault.Mistaken away claimed h = h

pub not_left : {A : Type 0} (tracks after : ℕ) (old left new : Content) (odds : List Odd) (held : List Place) (r : Result A ShellFault) → after ≡ tracks → held ≡ held_places (geometry_of tracks old) old odds
    → ArePutAway (geometry_of tracks old) odds old left → AreHeldClaimed (geometry_of tracks old) (held_places (geometry_of tracks old) old odds) left new → IfErr r (IsUnclear after new nothing nothing held) → IfErr r (IsNotLeft tracks old odds)
not_left tracks after old left new odds held (Ok v) a b away claimed h = tt
not_left tracks after old left new odds held (Err f) a b away claimed h =
    not_left_by tracks old left new odds f away claimed
    (subst (λ l. IsUnclear tracks new nothing nothing l f) b (subst (λ n. IsUnclear n new nothing nothing held f) a h))

-- of an image
not_away_by : (image : List ℕ) (odds : List Odd) (f : ShellFault)
    → AreOddOf (geometry_of (tracks_of (kind_of image) image) (content_of (kind_of image) image)) (content_of (kind_of image) image) odds
    → IsNotLeft (tracks_of (kind_of image) image) (content_of (kind_of image) image) odds f → IsNotAwayIn image f
not_away_by image odds (fault.Unsound u) are h = inr (odds, are, h)
not_away_by image odds fault.Memory are h = h
not_away_by image odds (fault.Image n) are h = absurd h
not_away_by image odds (fault.Refused s) are h = h
not_away_by image odds (fault.Trouble t) are h = h
not_away_by image odds fault.NotFound are h = h
not_away_by image odds fault.NotClosed are h = h
not_away_by image odds fault.Mistaken are h = h

pub not_away : (image : List ℕ) (seen : Seen) (odds given : List Odd) (f : ShellFault) → IsImageOpened image seen → given ≡ odds
    → AreOddOf (geometry_of seen.tracks seen.content) seen.content odds → IsNotLeft seen.tracks seen.content given f → IsNotAwayIn image f
not_away image seen odds given f is e are h =
    let left = subst (λ o. IsNotLeft seen.tracks seen.content o f) e h in
    not_away_by image odds f
    (subst (λ c. AreOddOf (geometry_of (tracks_of (kind_of image) image) c) c odds) is.same_content (subst (λ n. AreOddOf (geometry_of n seen.content) seen.content odds) is.same_tracks are))
    (subst (λ c. IsNotLeft (tracks_of (kind_of image) image) c odds f) is.same_content (subst (λ n. IsNotLeft n seen.content odds f) is.same_tracks left))

-- memory runs out on the way back
memory_back : (tracks : ℕ) (odds : List Odd) (now : Content) → IsNotBackFrom tracks odds now fault.Memory
memory_back tracks [] now = tt
memory_back tracks (odd ∷ rest) now = inl tt

-- or the BAM can't be read or written
unreadable_back_by : (tracks : ℕ) (odds : List Odd) (now : Content) (f : ShellFault) → IsUnreadable f → IsNotBackFrom tracks odds now f
unreadable_back_by tracks [] now f h = h
unreadable_back_by tracks (odd ∷ rest) now fault.Memory h = inl tt
unreadable_back_by tracks (odd ∷ rest) now (fault.Image n) h = absurd h
unreadable_back_by tracks (odd ∷ rest) now (fault.Refused s) h = absurd h
unreadable_back_by tracks (odd ∷ rest) now (fault.Trouble t) h = inl tt
unreadable_back_by tracks (odd ∷ rest) now (fault.Unsound u) h = absurd h
unreadable_back_by tracks (odd ∷ rest) now fault.NotFound h = absurd h
unreadable_back_by tracks (odd ∷ rest) now fault.NotClosed h = absurd h
unreadable_back_by tracks (odd ∷ rest) now fault.Mistaken h = absurd h

pub unreadable_back : {A : Type 0} (tracks : ℕ) (odds : List Odd) (now : Content) (r : Result A ShellFault) → IfErr r IsUnreadable → IfErr r (IsNotBackFrom tracks odds now)
unreadable_back tracks odds now (Ok v) h = tt
unreadable_back tracks odds now (Err f) h = unreadable_back_by tracks odds now f h

pub back_saved : {A : Type 0} (tracks : ℕ) (odds : List Odd) (now : Content) (r : Result A ShellFault) → IfErr r (λ f. f ≡ fault.Memory) → IfErr r (IsNotBackFrom tracks odds now)
back_saved tracks odds now (Ok v) h = tt
back_saved tracks odds now (Err f) h = subst (λ x. IsNotBackFrom tracks odds now x) (sym h) (memory_back tracks odds now)
