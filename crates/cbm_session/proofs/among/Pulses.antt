-- A drive among others makes its pulse with them, where the host signals the end: all pull DATA before the first of them lets go.
use Rattle.cbm_session.specs.Frames.{lasting}
use Rattle.cbm_session.proofs.Paces.{pulse_from}
use Rattle.cbm_session.proofs.joining.Seating.{Apart, Sits}
use Rattle.cbm_iec.specs.Profile.{eoi_pulse}
use Rattle.std.proofs.Common.{◌≡◌, ℕ, zero, suc, ◌+◌, Bool, true, false, List, [], ◌∷◌, ◌++◌, length, map, inl, inr, Option, ap, ◌∙◌, subst, arith, refl}
use Rattle.cbm_iec.specs.declared.ear.Ear.TheVariants.{Timed, Pulsing, EoiNoted}
use Rattle.cbm_iec.specs.declared.lines.Way.TheVariants.{Pull, Free}
use Rattle.cbm_iec.specs.declared.lines.Way.{Way}
use Rattle.cbm_iec.specs.declared.party.Party.{Party}
use Rattle.cbm_iec.specs.declared.party.Role.{Role}
use Rattle.cbm_iec.specs.declared.port.Port.{Port}
use Rattle.cbm_iec.specs.declared.port.Side.TheVariants.{Hearing}
use Rattle.cbm_session.proofs.alone.Frames.{wires, stands}
use Rattle.cbm_session.proofs.among.Accepts.{up}
use Rattle.cbm_session.proofs.among.Changes.{Changes, none, other, own, own_after_it, part, all_change, in_order}
use Rattle.cbm_session.proofs.among.Frames.{up_is}
use Rattle.cbm_session.proofs.frames.Phases.{Each, each, before_all, none_all, split_all, ReactsBy, react_by}
use Rattle.cbm_session.proofs.joining.Merging.{NoneBefore, AllBefore, InOrder}
use Rattle.cbm_session.specs.Among.{Rest, some, FirstIsAfter, FollowsAmong, hears, reacts}
use Rattle.cbm_session.specs.Laws.{SeatsReact, pulses}
use Rattle.cbm_session.specs.Seats.{Seat, lines, device, slowest}
use Rattle.cbm_session.specs.Steps.{Mark, Step, Plain, merge_all}

-- the drive on a seat as if it reacted so much later as its pulse lasts
abbrev pub late : Seat → Seat
late s = record { party = record { device = s.party.device; reaction = lasting s; pace = s.party.pace }; role = s.role; own = s.own }

-- the pulls of the pulses, and their releases, by when DATA was free on the wire
abbrev pub pull_part : ℕ → Seat → List Step
pull_part t s = part Pull (λ o. Plain) (t + 200) s

abbrev pub free_part : ℕ → Seat → List Step
free_part t s = part Free (λ o. Plain) (t + 200) (late s)

abbrev pub pulls : List Seat → ℕ → List Step
pulls hs t = merge_all [] (map (λ s. pull_part t s) hs)

abbrev pub frees : List Seat → ℕ → List Step
frees hs t = merge_all [] (map (λ s. free_part t s) hs)

-- reactions lie between 1 and 60, so 261 after that moment parts them
pulls_before : (hs : List Seat) (t : ℕ) → SeatsReact hs → Each (λ s. AllBefore (t + 261) (pull_part t s)) hs
pulls_before hs t r = each (ReactsBy (slowest hs)) (λ s. AllBefore (t + 261) (pull_part t s)) hs (λ s h. let a = h.1 in (omega (arith, a), tt)) (react_by (slowest hs) hs r (omega arith))

frees_none : (hs : List Seat) (t : ℕ) → SeatsReact hs → Each (λ s. NoneBefore (t + 261) (free_part t s)) hs
frees_none hs t r = each (ReactsBy (slowest hs)) (λ s. NoneBefore (t + 261) (free_part t s)) hs (λ s h. let a = h.0 in (omega (arith, pulse_from s.party.pace, a), tt)) (react_by (slowest hs) hs r (omega arith))

pub all_pull : (hs : List Seat) (t : ℕ) → SeatsReact hs → AllBefore (t + 261) (pulls hs t)
all_pull hs t r = before_all (t + 261) [] (λ s. pull_part t s) hs tt (pulls_before hs t r)

pub pulls_first : (hs : List Seat) (t : ℕ) → SeatsReact hs → pulses hs t true ≡ pulls hs t ++ frees hs t
pulls_first hs t r = split_all (t + 261) [] [] (λ s. pull_part t s) (λ s. free_part t s) hs tt tt (pulls_before hs t r) (frees_none hs t r)

-- the releases are those of drives that react later
late_parts : (t : ℕ) (xs : List Seat) → map (λ s. part Free (λ o. Plain) (t + 200) s) (map late xs) ≡ map (λ s. free_part t s) xs
late_parts t [] = refl
late_parts t (x ∷ xs) = ap (λ (l : List (List Step)). free_part t x ∷ l) (late_parts t xs)

late_frees : (t : ℕ) (x : Seat) (xs : List Seat) → merge_all (part Free (λ o. Plain) (t + 200) (late x)) (map (λ s. part Free (λ o. Plain) (t + 200) s) (map late xs)) ≡ frees (x ∷ xs) t
late_frees t x xs = ap (λ (l : List (List Step)). merge_all (free_part t x) l) (late_parts t xs)

late_apart : (d : ℕ) (xs : List Seat) → Apart d xs → Apart d (map late xs)
late_apart d [] h = tt
late_apart d (x ∷ xs) h = (h.0, late_apart d xs h.1)

late_sits : (d : ℕ) (xs : List Seat) (s : Seat) → Sits d xs s → Sits d (map late xs) (late s)
late_sits d [] s h = elim h [ ]
late_sits d (x ∷ xs) s (inl h) = inl (ap late h.0, h.1, late_apart d xs h.2)
late_sits d (x ∷ xs) s (inr h) = inr (h.0, late_sits d xs s h.1)

late_length : (xs : List Seat) → length (map late xs) ≡ length xs
late_length [] = refl
late_length (x ∷ xs) = ap (λ (n : ℕ). suc n) (late_length xs)

pub all_free : (t : ℕ) (x : Seat) (xs : List Seat) (s : Seat) → Sits (device s) (x ∷ xs) s → (n : ℕ) × (suc n ≡ length (x ∷ xs)) × Changes Free (λ o. Plain) (device s) (t + 200 + lasting s) (frees (x ∷ xs) t) n true
all_free t x xs s sits =
    let k = all_change Free (λ o. Plain) (t + 200) (late x) (map late xs) (late s) (late_sits (device s) (x ∷ xs) s sits) in
    (k.0, k.1 ∙ late_length (x ∷ xs), subst (λ (l : List Step). Changes Free (λ o. Plain) (device s) (t + 200 + lasting s) l k.0 true) (late_frees t x xs) k.2)

pub frees_order : (t : ℕ) (x : Seat) (xs : List Seat) → InOrder (frees (x ∷ xs) t)
frees_order t x xs = subst InOrder (late_frees t x xs) (in_order Free (λ o. Plain) (t + 200) (late x) (map late xs))

pub frees_late : (hs : List Seat) (t : ℕ) → SeatsReact hs → NoneBefore (t + 261) (frees hs t)
frees_late hs t r = none_all (t + 261) [] (λ s. free_part t s) hs tt (frees_none hs t r)

-- changes of drives that aren't before a moment come after it; with one of them at least, whatever comes then
comes_after_it : (way : Way) (mark : ℕ → Mark) (d at t n : ℕ) (ss ys : List Step) → Changes way mark d at ss n false → NoneBefore t ss → FirstIsAfter t ys → FirstIsAfter t (ss ++ ys)
comes_after_it way mark d at t n [] ys none i l = l
comes_after_it way mark d at t zero (s ∷ ss) ys c i l = elim c [ ]
comes_after_it way mark d at t (suc n) (s ∷ ss) ys (other o v h rest) i l = i.0

pub come_after : (way : Way) (mark : ℕ → Mark) (d at t n : ℕ) (ss ys : List Step) → Changes way mark d at ss n true → NoneBefore t ss → FirstIsAfter t (ss ++ ys)
come_after way mark d at t n [] ys c i = elim c [ ]
come_after way mark d at t (suc n) (s ∷ ss) ys (other o v h rest) i = i.0
come_after way mark d at t n (s ∷ ss) ys (own rest) i = i.0

module _ (peek : Option (ℕ × Bool)) (b : Party) (role : Role) (r2 : Rest) (q2 : Port) (ys : List Step) where
  -- the host holds nothing, so many drives DATA
  abbrev pub sharing : ℕ → Rest
  sharing k = record { host = wires false false false; clocks = zero; datas = k }

  abbrev pub timing : ℕ → ℕ → Port
  timing at k = stands b role (lines false false) (wires false false (some k)) (Hearing (Timed at))

  abbrev pub pulsing : ℕ → ℕ → Port
  pulsing at k = stands b role (lines false true) (wires false false (some k)) (Hearing (Pulsing at))

  abbrev pub noting : ℕ → Port
  noting k = stands b role (lines false false) (wires false false (some k)) (Hearing EoiNoted)

  -- after its own pull the others pull too, before its release is due
  beside_follows : (at m k : ℕ) (ss : List Step) → Changes Pull (λ o. Plain) b.device at ss m false → AllBefore (at + eoi_pulse b.pace) ss → FollowsAmong peek (sharing (up m k)) (pulsing (at + eoi_pulse b.pace) (up m k)) ys r2 q2
      → FollowsAmong peek (sharing k) (pulsing (at + eoi_pulse b.pace) k) (ss ++ ys) r2 q2
  beside_follows at m k [] none e f = f
  beside_follows at (suc m) zero (s ∷ ss) (other o t h rest) e f = hears h (omega (arith, e.0)) refl (beside_follows at m 1 ss rest e.1 f)
  beside_follows at (suc m) (suc k) (s ∷ ss) (other o t h rest) e f = hears h (omega (arith, e.0)) refl (beside_follows at m (suc (suc k)) ss rest e.1 f)
  beside_follows at zero k (s ∷ ss) x e f = elim x [ ]

  -- before its own pull it lets the others pull
  timing_follows : (at m k : ℕ) (ss : List Step) → Changes Pull (λ o. Plain) b.device at ss m true → InOrder ss → AllBefore (at + eoi_pulse b.pace) ss → FirstIsAfter at ys → FollowsAmong peek (sharing (up m k)) (pulsing (at + eoi_pulse b.pace) (up m k)) ys r2 q2
      → FollowsAmong peek (sharing k) (timing at k) (ss ++ ys) r2 q2
  timing_follows at m k [] x i e l f = elim x [ ]
  timing_follows at (suc m) zero (s ∷ ss) (other o t h rest) i e l f = hears h (own_after_it Pull (λ o. Plain) b.device at t ss m rest i.0) refl (timing_follows at m 1 ss rest i.1 e.1 l f)
  timing_follows at (suc m) (suc k) (s ∷ ss) (other o t h rest) i e l f = hears h (own_after_it Pull (λ o. Plain) b.device at t ss m rest i.0) refl (timing_follows at m (suc (suc k)) ss rest i.1 e.1 l f)
  timing_follows at m k (s ∷ ss) (own rest) i e l f = reacts at (ss ++ ys) refl refl tt (comes_after_it Pull (λ o. Plain) b.device at at m ss ys rest i.0 l) (beside_follows at m k ss rest e.1 f)

  -- all pull DATA, which none held
  pub pulls_follow : (at m : ℕ) (ss : List Step) → Changes Pull (λ o. Plain) b.device at ss m true → InOrder ss → AllBefore (at + eoi_pulse b.pace) ss → FirstIsAfter at ys → FollowsAmong peek (sharing m) (pulsing (at + eoi_pulse b.pace) m) ys r2 q2
      → FollowsAmong peek (sharing zero) (timing at zero) (ss ++ ys) r2 q2
  pulls_follow at m ss c i e l f =
      let same : m ≡ up m zero = let k = up_is m zero in omega (arith, k) in
      timing_follows at m zero ss c i e l (subst (λ (n : ℕ). FollowsAmong peek (sharing n) (pulsing (at + eoi_pulse b.pace) n) ys r2 q2) same f)

  -- after its own release the others let go
  noting_follows : (at n : ℕ) (ss : List Step) → Changes Free (λ o. Plain) b.device at ss n false → FollowsAmong peek (sharing zero) (noting zero) ys r2 q2 → FollowsAmong peek (sharing n) (noting n) (ss ++ ys) r2 q2
  noting_follows at n [] none f = f
  noting_follows at zero (s ∷ ss) x f = elim x [ ]
  noting_follows at (suc zero) (s ∷ ss) (other o t h rest) f = hears h tt refl (noting_follows at zero ss rest f)
  noting_follows at (suc (suc n)) (s ∷ ss) (other o t h rest) f = hears h tt refl (noting_follows at (suc n) ss rest f)

  -- all let go, and the end is noted
  pub pulsing_follows : (at n : ℕ) (ss : List Step) → Changes Free (λ o. Plain) b.device at ss n true → InOrder ss → FirstIsAfter at ys → FollowsAmong peek (sharing zero) (noting zero) ys r2 q2
      → FollowsAmong peek (sharing n) (pulsing at n) (ss ++ ys) r2 q2
  pulsing_follows at n [] x i l f = elim x [ ]
  pulsing_follows at (suc zero) (s ∷ ss) (other o t h rest) i l f = hears h (own_after_it Free (λ o. Plain) b.device at t ss zero rest i.0) refl (pulsing_follows at zero ss rest i.1 l f)
  pulsing_follows at (suc (suc n)) (s ∷ ss) (other o t h rest) i l f = hears h (own_after_it Free (λ o. Plain) b.device at t ss (suc n) rest i.0) refl (pulsing_follows at (suc n) ss rest i.1 l f)
  pulsing_follows at n (s ∷ ss) (own rest) i l f = reacts at (ss ++ ys) refl refl tt (comes_after_it Free (λ o. Plain) b.device at at n ss ys rest i.0 l) (noting_follows at n ss rest f)
