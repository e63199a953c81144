-- A player's turns, as a host that talks sees them.
use Rattle.std.proofs.Common.{◌≡◌, ℕ, List, [], ◌∷◌, ◌++◌, Option, Some, None, refl, sym, ap, subst, ◌∙◌, arith}
use Rattle.std.specs.Prelude.{◌<◌, ◌≤◌, Bool, IfSome, MatchOption}
use Rattle.cbm_iec.specs.declared.machine.Act.{Act}
use Rattle.cbm_iec.specs.declared.event.Event.{Event}
use Rattle.cbm_iec.specs.declared.event.Who.{Who}
use Rattle.cbm_iec.specs.declared.event.Who.TheVariants.{Host, Drive}
use Rattle.cbm_iec.specs.declared.lines.Change.{Change}
use Rattle.cbm_session.specs.Playing.{Station, Plays}
use Rattle.cbm_drive.specs.Cables.{Cabled}
use Rattle.cbm_drive.specs.Players.{Turns, pending, IsAfter, HasGiven, IsStill, IsFinished, IsSecond, IsAfterEvent}
use Rattle.cbm_drive.specs.Players as players
use Rattle.cbm_drive.specs.Seats.{IsBusAt}
use Rattle.bus_replies.specs.Plays.{IsOfDrive, IsTurnOfReply, IsFromHost}

pub turn_of : (w : Who) (c : Change) (was now : Option Change) → players.IsTurnOf w c was now → IsTurnOfReply w c was now
turn_of Host c was now h = h
turn_of (Drive d) c was now h = h

pub drives_of : (w : Who) → players.IsDrives w → IsOfDrive w
drives_of Host h = h
drives_of (Drive d) h = h

pub drives_in : (w : Who) → IsOfDrive w → players.IsDrives w
drives_in Host h = h
drives_in (Drive d) h = h

pub from_of : (w : Who) (c : Change) (p : Turns) → IsAfterEvent w c p → IsFromHost w c.moment p.from
from_of Host c p h = h.0
from_of (Drive d) c p h = tt

-- what holds of an event that was given
pub some_of : {P Q : Event → Type 0} (r : Option Event) → ((e : Event) → P e → Q e) → IfSome r P → IfSome r Q
some_of None f h = tt
some_of (Some e) f h = f e h

pub match_of : {P Q : Event → Type 0} {N M : Type 0} (r : Option Event) → (N → M) → ((e : Event) → P e → Q e) → MatchOption r N P → MatchOption r M Q
match_of None n f h = n h
match_of (Some e) n f h = f e h

-- what is promised under a condition, and what holds without it, in each case
pub under : (P : Event → Type 0) (N : Type 0) {L F : Type 0} (r : Option Event) → L → (F → MatchOption r N P) → MatchOption r (L × (F → N)) (λ e. L × (F → P e))
under P N None l h = (l, h)
under P N (Some e) l h = (l, h)

module _ (D M : Type 0) (stands : D → M → Type 0) (step : M → Act → M) (says : M → Option (ℕ × Bool)) where
  -- the same bus, and a player that differs in what waits alone
  pub after_same : (p q : Turns) (b c : Cabled D) (n : ℕ) (ss : List (Station M)) (es : List Event) → q.second ≡ p.second → q.from ≡ p.from → c ≡ b → IsAfter D M stands step says p b n ss es → IsAfter D M stands step says q c n ss es
  after_same p q b c n ss es second from bus h = record {
    from = h.from;
    stations = h.stations;
    before = (let l = h.before in omega (arith, l, from));
    plays = subst (λ o. Plays M step says n ss (es ++ pending o) h.from h.stations) (sym second) h.plays;
    now = subst (λ (x : Cabled D). IsBusAt D M stands x.host x.drives h.stations) (sym bus) h.now;
    second = subst (λ o. IsSecond q.from o) (sym second) (subst (λ t. IsSecond t p.second) (sym from) h.second);
  }

  pub still_after : (p q : Turns) (b c : Cabled D) (upto n : ℕ) (ss : List (Station M)) (es : List Event) (a : IsAfter D M stands step says p b n ss es) → IsStill D M stands step says p q b c upto a.stations → IsAfter D M stands step says q c n ss es
  still_after p q b c upto n ss es a h = after_same p q b c n ss es (ap (λ (t : Turns). t.second) h.same) (ap (λ (t : Turns). t.from) h.same) h.bus a
