-- A drive among others lets go of DATA with them: T is when the last of them has.
use Rattle.std.proofs.Common.{ℕ, zero, suc, ◌+◌, Bool, true, false, List, [], ◌∷◌, ◌++◌, Option, refl}
use Rattle.cbm_iec.specs.declared.ear.Ear.TheVariants.{Freeing, Ready, Timed}
use Rattle.cbm_iec.specs.declared.lines.Way.TheVariants.{Free}
use Rattle.cbm_iec.specs.declared.party.Party.{Party}
use Rattle.cbm_iec.specs.declared.party.Role.{Role}
use Rattle.cbm_iec.specs.declared.port.Port.{Port}
use Rattle.cbm_iec.specs.declared.port.Side.TheVariants.{Hearing}
use Rattle.cbm_session.proofs.alone.Frames.{wires, stands}
use Rattle.cbm_session.proofs.among.Changes.{Changes, none, other, own, own_after_it, last_or}
use Rattle.cbm_session.proofs.joining.Merging.{InOrder}
use Rattle.cbm_session.specs.Among.{Rest, some, FirstIsAfter, FollowsAmong, hears, reacts}
use Rattle.cbm_session.specs.Seats.{lines}
use Rattle.cbm_session.specs.Steps.{Step, Plain}

module _ (peek : Option (ℕ × Bool)) (b : Party) (role : Role) (r2 : Rest) (q2 : Port) (ys : List Step) where
  -- what the others hold: the host ATN or not, so many drives DATA
  abbrev pub holding : Bool → ℕ → Rest
  holding atn n = record { host = wires atn false false; clocks = zero; datas = n }

  abbrev pub freeing : Bool → ℕ → ℕ → Port
  freeing atn at n = stands b role (lines false true) (wires atn false (some n)) (Hearing (Freeing at))

  abbrev pub waiting : Bool → ℕ → Port
  waiting atn n = stands b role (lines false false) (wires atn false (some n)) (Hearing Ready)

  abbrev pub timed : Bool → ℕ → Port
  timed atn t = stands b role (lines false false) (wires atn false false) (Hearing (Timed (t + 200 + b.reaction)))

  -- after its own release it waits for the last of the others
  waiting_follows : (atn : Bool) (at m n : ℕ) (ss : List Step) → Changes Free (λ o. Plain) b.device at ss (suc n) false → FollowsAmong peek (holding atn zero) (timed atn (last_or m ss)) ys r2 q2
      → FollowsAmong peek (holding atn (suc n)) (waiting atn (suc n)) (ss ++ ys) r2 q2
  waiting_follows atn at m n [] x f = elim x [ ]
  waiting_follows true at m zero (s ∷ []) (other o t h none) f = hears h tt refl f
  waiting_follows false at m zero (s ∷ []) (other o t h none) f = hears h tt refl f
  waiting_follows atn at m zero (s ∷ x ∷ ss) (other o t h rest) f = elim rest [ ]
  waiting_follows true at m (suc n) (s ∷ ss) (other o t h rest) f = hears h tt refl (waiting_follows true at t n ss rest f)
  waiting_follows false at m (suc n) (s ∷ ss) (other o t h rest) f = hears h tt refl (waiting_follows false at t n ss rest f)

  -- Before its own release it lets the others go. Its timer starts when the last of all has let go.
  pub freeing_follows : (atn : Bool) (at m n : ℕ) (ss : List Step) → Changes Free (λ o. Plain) b.device at ss n true → InOrder ss → FirstIsAfter at ys → FollowsAmong peek (holding atn zero) (timed atn (last_or m ss)) ys r2 q2
      → FollowsAmong peek (holding atn n) (freeing atn at n) (ss ++ ys) r2 q2
  freeing_follows atn at m n [] x o l f = elim x [ ]
  freeing_follows true at m (suc zero) (s ∷ ss) (other o t h rest) i l f = hears h (own_after_it Free (λ o. Plain) b.device at t ss zero rest i.0) refl (freeing_follows true at t zero ss rest i.1 l f)
  freeing_follows false at m (suc zero) (s ∷ ss) (other o t h rest) i l f = hears h (own_after_it Free (λ o. Plain) b.device at t ss zero rest i.0) refl (freeing_follows false at t zero ss rest i.1 l f)
  freeing_follows true at m (suc (suc n)) (s ∷ ss) (other o t h rest) i l f = hears h (own_after_it Free (λ o. Plain) b.device at t ss (suc n) rest i.0) refl (freeing_follows true at t (suc n) ss rest i.1 l f)
  freeing_follows false at m (suc (suc n)) (s ∷ ss) (other o t h rest) i l f = hears h (own_after_it Free (λ o. Plain) b.device at t ss (suc n) rest i.0) refl (freeing_follows false at t (suc n) ss rest i.1 l f)
  freeing_follows true at m zero (s ∷ []) (own none) i l f = reacts at ys refl refl tt l f
  freeing_follows false at m zero (s ∷ []) (own none) i l f = reacts at ys refl refl tt l f
  freeing_follows atn at m zero (s ∷ x ∷ ss) (own rest) i l f = elim rest [ ]
  freeing_follows true at m (suc n) (s ∷ x ∷ ss) (own (other o t h rest)) i l f = reacts at (x ∷ ss ++ ys) refl refl tt i.0.0 (waiting_follows true at at n (x ∷ ss) (other o t h rest) f)
  freeing_follows false at m (suc n) (s ∷ x ∷ ss) (own (other o t h rest)) i l f = reacts at (x ∷ ss ++ ys) refl refl tt i.0.0 (waiting_follows false at at n (x ∷ ss) (other o t h rest) f)
  freeing_follows true at m (suc n) (s ∷ []) (own rest) i l f = elim rest [ ]
  freeing_follows false at m (suc n) (s ∷ []) (own rest) i l f = elim rest [ ]
