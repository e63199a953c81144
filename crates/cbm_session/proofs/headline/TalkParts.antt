-- A frame of the talker: its events count nothing but its accept, and change no ATN; and what is left of a front that was played.
use Rattle.cbm_iec.specs.Profile.{bit_time}
use Rattle.std.proofs.Common.{◌≡◌, ℕ, ◌+◌, ◌≤◌, inl, inr, Bool, true, false, List, [], ◌∷◌, ◌++◌, append_assoc, Option, Some, None, ap, sym, ◌∙◌, subst, refl}
use Rattle.std.specs.Prelude.{if◌then◌else◌}
use Rattle.cbm_iec.specs.declared.machine.Act.TheVariants.{Said}
use Rattle.cbm_iec.specs.declared.event.Event.{Event}
use Rattle.cbm_iec.specs.declared.event.Who.TheVariants.{Host, Drive}
use Rattle.cbm_iec.specs.declared.event.Who.{Who}
use Rattle.cbm_iec.specs.declared.lines.Line.TheVariants.{Clock, Data}
use Rattle.cbm_iec.specs.declared.lines.Way.TheVariants.{Pull, Free}
use Rattle.cbm_iec.specs.declared.party.Party.{Party}
use Rattle.cbm_session.proofs.headline.Keeping.{HostFrom}
use Rattle.cbm_session.proofs.headline.Meeting.{SaysOpen, LastSaid}
use Rattle.cbm_session.proofs.headline.TalkSwap.{Apart, Twin}
use Rattle.cbm_session.proofs.joining.Merging.{NoneBefore}
use Rattle.cbm_session.proofs.joining.OneDrive.{one_told, told_is}
use Rattle.cbm_session.proofs.reading.OneReading.{NoAtn, noatn_merge, noatn_telling, noatn_taking}
use Rattle.cbm_session.specs.Bits.{number_of}
use Rattle.cbm_session.specs.Frames.{Told, is_last, signal_steps, first_bit, bit_steps, telling, taking, ToldFits}
use Rattle.cbm_session.specs.Steps.{Step, Plain, moment_of, events_of, drive, host, for_one}
use Rattle.cbm_session.specs.Timing.{is_host}

-- steps that count nothing
abbrev pub AllPlain : List Step → Type 0
AllPlain [] = Unit {0}
AllPlain (s ∷ ss) = (s.mark ≡ Plain) × AllPlain ss

pub last_plain : (xs ys : List Step) → AllPlain xs → LastSaid ys → LastSaid (xs ++ ys)
last_plain [] ys a l = l
last_plain (x ∷ []) [] a l = tt
last_plain (x ∷ []) (y ∷ ys) a l = (subst SaysOpen (sym a.0) tt, l)
last_plain (x ∷ x2 ∷ xs) ys a l = (subst SaysOpen (sym a.0) tt, last_plain (x2 ∷ xs) ys a.1 l)

plain_append : (xs ys : List Step) → AllPlain xs → AllPlain ys → AllPlain (xs ++ ys)
plain_append [] ys a b = b
plain_append (x ∷ xs) ys a b = (a.0, plain_append xs ys a.1 b)

bits_plain : (b : Party) (at : ℕ) (held : Bool) (bits : List Bool) → AllPlain (bit_steps b at held bits)
bits_plain b at true [] = (refl, (refl, tt))
bits_plain b at false [] = (refl, tt)
bits_plain b at true (true ∷ bits) = (refl, (refl, (refl, bits_plain b (at + bit_time b.pace) false bits)))
bits_plain b at false (true ∷ bits) = (refl, (refl, bits_plain b (at + bit_time b.pace) false bits))
bits_plain b at true (false ∷ bits) = (refl, (refl, bits_plain b (at + bit_time b.pace) true bits))
bits_plain b at false (false ∷ bits) = (refl, (refl, (refl, bits_plain b (at + bit_time b.pace) true bits)))

signal_plain : (x : Option (ℕ × ℕ)) → AllPlain (signal_steps x)
signal_plain None = tt
signal_plain (Some (pull, free)) = (refl, (refl, tt))

-- a frame is plain up to its accept
abbrev pub told_front : Party → ℕ → Told → List Step
told_front b at f = drive b.device at Clock Free ∷ host f.free Data Free ∷ (signal_steps f.signal ++ bit_steps b (first_bit b f) false f.bits)

abbrev pub told_back : Party → Told → ℕ → Bool → List Step
told_back b f n v = for_one b.device (Said n v) (host f.accept Data Pull) ∷ (if v then drive b.device (f.accept + b.reaction) Clock Free ∷ [] else [])

pub front_back : (b : Party) (at : ℕ) (f : Told) → told_front b at f ++ told_back b f (number_of f.bits) (is_last f) ≡ one_told b at f
front_back b at f = ap (λ (zs : List Step). drive b.device at Clock Free ∷ host f.free Data Free ∷ zs) (append_assoc (signal_steps f.signal) (bit_steps b (first_bit b f) false f.bits) (told_back b f (number_of f.bits) (is_last f)))

pub front_plain : (b : Party) (at : ℕ) (f : Told) → AllPlain (told_front b at f)
front_plain b at f = (refl, (refl, plain_append (signal_steps f.signal) (bit_steps b (first_bit b f) false f.bits) (signal_plain f.signal) (bits_plain b (first_bit b f) false f.bits)))

back_last : (b : Party) (f : Told) (n : ℕ) (v : Bool) → LastSaid (told_back b f n v)
back_last b f n true = (tt, tt)
back_last b f n false = tt

pub told_last : (b : Party) (at : ℕ) (f : Told) → LastSaid (one_told b at f)
told_last b at f = subst LastSaid (front_back b at f) (last_plain (told_front b at f) (told_back b f (number_of f.bits) (is_last f)) (front_plain b at f) (back_last b f (number_of f.bits) (is_last f)))

pub told_noatn : (b : Party) (at : ℕ) (f : Told) → ToldFits b at f → NoAtn (one_told b at f)
told_noatn b at f h = subst NoAtn (told_is b at f h) (noatn_merge (taking b f) (telling b at f) (noatn_taking b f) (noatn_telling b at f))

-- the host's among these events are not before t
abbrev pub HostEvents : ℕ → List Event → Type 0
HostEvents t [] = Unit {0}
HostEvents t (x ∷ xs) = (is_host x.who ≡ true → t ≤ x.change.moment) × HostEvents t xs

-- of a front that was played: a host's change that comes next isn't before t
pub back_host : (t : ℕ) (front : List Step) (y : Step) (back xs : List Step) (rest more : List Event) → Twin t (front ++ y ∷ back) xs → events_of front ++ rest ≡ events_of xs ++ more → HostEvents t rest → is_host y.event.who ≡ true → t ≤ moment_of y
back_host t [] y back [] rest more w e h k = elim w [ ]
back_host t [] y back (x ∷ xs) rest more (inl w) e h k =
    let same : rest ≡ y.event ∷ (events_of xs ++ more) = e ∙ ap (λ (v : Event). v ∷ (events_of xs ++ more)) (sym w.0) in
    (subst (HostEvents t) same h).0 k
back_host t [] y back (x ∷ xs) rest more (inr w) e h k = apart_host y.event.who (moment_of y) x.event.who (moment_of x) w.0 k
  where
    apart_host : (u : Who) (m : ℕ) (v : Who) (n : ℕ) → Apart t u m v n → is_host u ≡ true → t ≤ m
    apart_host Host m Host n a k = elim a [ ]
    apart_host Host m (Drive o) n a k = a.1
    apart_host (Drive o) m v n a k = absurd cc
back_host t (z ∷ front) y back [] rest more w e h k = elim w [ ]
back_host t (z ∷ front) y back (x ∷ xs) rest more (inl w) e h k = let tail : events_of front ++ rest ≡ events_of xs ++ more = cc in back_host t front y back xs rest more w.1 tail h k
back_host t (z ∷ front) y back (x ∷ xs) rest more (inr w) e h k = let same : z.event ≡ x.event = cc in absurd (w.1 same)

pub all_host_from : (t : ℕ) (ss : List Step) → NoneBefore t ss → HostFrom t ss
all_host_from t [] n = tt
all_host_from t (s ∷ ss) n = (λ k. n.0, all_host_from t ss n.1)
