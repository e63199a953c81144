-- The pulses of listeners are one pulse on the wire.
use Rattle.cbm_session.proofs.Paces.{pulse_from}
use Rattle.std.proofs.Common.{◌≡◌, ℕ, ◌+◌, ◌≤◌, ◌<◌, ◌⊎◌, inl, inr, max, min, List, [], ◌∷◌, arith}
use Rattle.std.proofs.Math.Nat.{le-max_left, le-max_right, max-le, min-le_left, min-le_right, le-min, min-eq_left, min-eq_right, max-eq_left, max-eq_right}
use Rattle.std.proofs.lemmas.Bool.Decides.{leb_tells}
use Rattle.cbm_session.specs.Frames.{wire, lasting, longest_lasting}
use Rattle.cbm_session.specs.Laws.{SeatsReact, IsPulsing, OnePulse, PulseEnds}
use Rattle.cbm_session.specs.Seats.{Seat, reaction, slowest, fastest}

pub bounds : (s : Seat) (ss : List Seat) → SeatsReact (s ∷ ss) → (1 ≤ fastest (s ∷ ss)) × (fastest (s ∷ ss) ≤ 60) × (1 ≤ slowest (s ∷ ss)) × (slowest (s ∷ ss) ≤ 60)
bounds s [] h = (h.0, h.1, h.0, h.1)
bounds s (u ∷ us) h =
    let k = bounds u us h.2 in
    let a = le-min h.0 k.0 in
    let b = min-le_left (reaction s) (fastest (u ∷ us)) in
    let c = le-max_left (reaction s) (slowest (u ∷ us)) in
    let d = max-le h.1 k.3 in
    (a, omega (arith, b, h.1), omega (arith, c, h.0), d)

from : (s : Seat) (ss : List Seat) (t m : ℕ) → SeatsReact (s ∷ ss) → IsPulsing (s ∷ ss) t m → t + 200 + fastest (s ∷ ss) ≤ m
from s [] t m h (inl x) = x.0
from s [] t m h (inr x) = elim x [ ]
from s (u ∷ us) t m h (inl x) = let a = min-le_left (reaction s) (fastest (u ∷ us)) in omega (arith, a, x.0)
from s (u ∷ us) t m h (inr x) = let a = min-le_right (reaction s) (fastest (u ∷ us)) in let k = from u us t m h.2 x in omega (arith, a, k)

upto : (s : Seat) (ss : List Seat) (t m : ℕ) → SeatsReact (s ∷ ss) → IsPulsing (s ∷ ss) t m → m < t + 200 + longest_lasting (s ∷ ss)
upto s [] t m h (inl x) = x.1
upto s [] t m h (inr x) = elim x [ ]
upto s (u ∷ us) t m h (inl x) = let a = le-max_left (lasting s) (longest_lasting (u ∷ us)) in let k = x.1 in omega (arith, a, k)
upto s (u ∷ us) t m h (inr x) = let a = le-max_right (lasting s) (longest_lasting (u ∷ us)) in let k = upto u us t m h.2 x in omega (arith, a, k)

-- the least of two is one of them, and so is the greatest
min_is : (a b : ℕ) → (min a b ≡ a) ⊎ (min a b ≡ b)
min_is a b = elim (leb_tells a b) [ inl x ↦ inl (min-eq_left x.1) | inr x ↦ inr (min-eq_right (omega (arith, x.1))) ]

max_is : (a b : ℕ) → (max a b ≡ a) ⊎ (max a b ≡ b)
max_is a b = elim (leb_tells b a) [ inl x ↦ inl (max-eq_left x.1) | inr x ↦ inr (max-eq_right (omega (arith, x.1))) ]

-- before the pulse of one: another is the fastest
sooner : (t m r f : ℕ) → r ≤ 60 → t + 200 + min r f ≤ m → m < t + 200 + r → t + 200 + f ≤ m
sooner t m r f h a b = elim (min_is r f) [ inl x ↦ absurd (omega (arith, x, a, b)) | inr x ↦ omega (arith, x, a, b) ]

-- after it: another is the slowest
later : (t m r l : ℕ) → m < t + 200 + max r l → t + 200 + r ≤ m → m < t + 200 + l
later t m r l a b = elim (max_is r l) [ inl x ↦ absurd (omega (arith, x, a, b)) | inr x ↦ omega (arith, x, a, b) ]

long : (u : Seat) (us : List Seat) → 60 ≤ longest_lasting (u ∷ us)
long u [] = omega (arith, pulse_from u.party.pace)
long u (v ∷ vs) = let a = le-max_left (lasting u) (longest_lasting (v ∷ vs)) in omega (arith, pulse_from u.party.pace, a)

held : (s : Seat) (ss : List Seat) (t m : ℕ) → SeatsReact (s ∷ ss) → t + 200 + fastest (s ∷ ss) ≤ m → m < t + 200 + longest_lasting (s ∷ ss) → IsPulsing (s ∷ ss) t m
held s [] t m h a b = inl (a, b)
held s (u ∷ us) t m h a b =
    let k = bounds u us h.2 in
    elim (leb_tells (t + 200 + reaction s) m) [
      | inl x ↦ elim (leb_tells (t + 200 + lasting s) m) [
        | inl y ↦ inr (held u us t m h.2 (omega (arith, pulse_from s.party.pace, k.1, y.1)) (later t m (lasting s) (longest_lasting (u ∷ us)) b y.1))
        | inr y ↦ inl (x.1, y.1)
      ]
      | inr x ↦ inr (held u us t m h.2 (sooner t m (reaction s) (fastest (u ∷ us)) h.1 a x.1) (omega (arith, k.2, h.1, x.1, long u us)))
    ]

pub one_pulse : OnePulse
one_pulse s ss t m h = record { from = from s ss t m h; upto = upto s ss t m h; held = held s ss t m h }

pub pulse_ends : PulseEnds
pulse_ends s ss f m h fits x = let k = upto s ss (wire (s ∷ ss) f) m h x in let e = fits.start in omega (arith, k, e)
