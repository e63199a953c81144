-- What plays back a machine is a machine: it says bytes, and after a byte that isn't the last another one.
use Rattle.std.proofs.Common.{◌≡◌, ℕ, ◌<◌, Bool, true, false, List, ◌∷◌, ◌++◌, Option, Some, None, refl, sym, ap, subst, ◌∙◌}
use Rattle.std.specs.Prelude.{IfSome, IsSome}
use Rattle.cbm_iec.specs.Machines.{acted, goes_on, owes, IsShownAfter}
use Rattle.cbm_iec.specs.declared.machine.Act.TheVariants.{Said}
use Rattle.cbm_iec.specs.declared.machine.Act.{Act}
use Rattle.cbm_session.specs.Playing.{IsMachine}
use Rattle.cbm_drive.specs.Playback.{Shown, Playback, says_or, shown_first, shown_later, played_says, played_step, IsPlayedBack, IsActed, recorded}

-- what is owed is there
says_now : (owed : Bool) (now : Shown) → (owed ≡ true → IsSome now) → says_or owed now ≡ now
says_now owed (Some said) h = refl
says_now false None h = refl
says_now true None h = absurd (let none = h refl in cc)

-- what is owed is said
more_or : (now : Shown) → (x : ℕ × Bool) × (says_or true now ≡ Some x)
more_or None = ((0, true), refl)
more_or (Some said) = (said, refl)

-- AFTER A BYTE THAT ISN'T THE LAST THERE IS ANOTHER.
pub played_more : (p : Playback) (n : ℕ) → played_says p ≡ Some (n, false) → (x : ℕ × Bool) × (played_says (played_step p (Said n false)) ≡ Some x)
played_more p n e = subst (λ (b : Bool). (x : ℕ × Bool) × (says_or b (shown_first (shown_later p.shown)) ≡ Some x)) (sym (ap goes_on e)) (more_or (shown_first (shown_later p.shown)))

-- what plays back is a machine
pub played_machine : IsMachine Playback played_step played_says
played_machine = record { more = played_more }

module _ {D : Type 0} (shows : D → Shown) where
  -- IT SAYS WHAT THE MACHINE SHOWS.
  pub played_as : (later : List Shown) (x : D) (p : Playback) → IsPlayedBack shows later x p → played_says p ≡ shows x
  played_as later x p h = ap (λ (l : List Shown). says_or p.owed (shown_first l)) h.shown ∙ says_now p.owed (shows x) h.owed

  -- and that is a byte
  pub played_byte : (later : List Shown) (x : D) (p : Playback) (n : ℕ) (last : Bool) → IsPlayedBack shows later x p → played_says p ≡ Some (n, last) → n < 256
  played_byte later x p n last h e = subst (λ (o : Shown). IfSome o (λ s. s.0 < 256)) (sym (played_as later x p h) ∙ e) h.byte

  -- HOW IT GOES ON after an act
  pub played_on : (later : List Shown) (x y : D) (p : Playback) (act : Act) → IsPlayedBack shows (shows y ∷ later) x p → IsShownAfter act (shows x) (shows y) → IsPlayedBack shows later y (played_step p act)
  played_on later x y p act h k = record {
    shown = ap shown_later h.shown;
    owed = λ e. k.1 (sym (ap (owes act) (played_as (shows y ∷ later) x p h)) ∙ e);
    byte = k.0;
  }

  -- the same after an act or none
  pub played_acted : (later : List Shown) (x y : D) (p : Playback) (act : Option Act) → IsPlayedBack shows (recorded shows act y ++ later) x p → IsActed shows act x y → IsPlayedBack shows later y (acted Playback played_step act p)
  played_acted later x y p None h k = subst (λ (z : D). IsPlayedBack shows later z p) (sym k) h
  played_acted later x y p (Some act) h k = played_on later x y p act h k
