-- A frame of the talker in any session, and the frame of the byte that there is to say: they go together as long as the bits do, so what a drive did is a front of its own frame.
use Rattle.cbm_iec.specs.Profile.{bit_time, first_accept, half_bit}
use Rattle.std.proofs.Common.{◌≡◌, ℕ, zero, suc, ◌+◌, ◌*◌, ◌/◌, ◌%◌, ◌≤◌, ◌<◌, ◌⊎◌, inl, inr, Bool, true, false, List, [], ◌∷◌, ◌++◌, length, Option, Some, None, ap, sym, ◌∙◌, subst, arith, refl}
use Rattle.std.proofs.lemmas.Bool.Decides.{leb_tells, eqb_tells}
use Rattle.std.specs.Prelude.{if◌then◌else◌, ◌==◌}
use Rattle.cbm_iec.specs.declared.machine.Act.TheVariants.{Said}
use Rattle.cbm_iec.specs.declared.event.Event.{Event}
use Rattle.cbm_iec.specs.declared.event.Who.TheVariants.{Host, Drive}
use Rattle.cbm_iec.specs.declared.event.Who.{Who}
use Rattle.cbm_iec.specs.declared.lines.Line.TheVariants.{Clock, Data}
use Rattle.cbm_iec.specs.declared.lines.Line.{Line}
use Rattle.cbm_iec.specs.declared.lines.Way.TheVariants.{Pull, Free}
use Rattle.cbm_iec.specs.declared.lines.Way.{Way}
use Rattle.cbm_iec.specs.declared.party.Party.{Party}
use Rattle.cbm_session.proofs.headline.Meeting.{Meets, Compat}
use Rattle.cbm_session.proofs.joining.Merging.{InOrder, none_sooner, before_yes, all_from}
use Rattle.cbm_session.proofs.joining.OneDrive.{one_told}
use Rattle.cbm_session.specs.Bits.{number_of}
use Rattle.cbm_session.specs.Frames.{Told, is_last, signal_steps, first_bit, bit_steps, SignalFits, ToldFits}
use Rattle.cbm_session.specs.Pieces.{before}
use Rattle.cbm_session.specs.Steps.{Step, moment_of, events_of, drive, host, for_one}

-- the bits of a byte, lowest first
pub bits_for : ℕ → ℕ → List Bool
bits_for zero n = []
bits_for (suc k) n = ((n % 2) == 1) ∷ bits_for k (n / 2)

abbrev pub power : ℕ → ℕ
power zero = 1
power (suc k) = 2 * power k

pub bits_number : (k n : ℕ) → n < power k → number_of (bits_for k n) ≡ n
unfolding bits_for
bits_number zero n h = omega (arith, h)
bits_number (suc k) n h =
    let rest = bits_number k (n / 2) (omega (arith, h)) in
    elim (eqb_tells (n % 2) 1) [
      | inl x ↦ (let odd = x.1 in ap (λ (v : Bool). (if v then 1 else 0) + 2 * number_of (bits_for k (n / 2))) x.0 ∙ omega (arith, rest, odd))
      | inr x ↦ (let even = x.1 in ap (λ (v : Bool). (if v then 1 else 0) + 2 * number_of (bits_for k (n / 2))) x.0 ∙ half rest (two even))
    ]
  where
    two : (n % 2 ≡ 1 → ⊥) → n % 2 ≡ 0
    two e = elim (leb_tells (n % 2) 0) [
      | inl x ↦ (let y = x.1 in omega (arith, y))
      | inr x ↦ (let y = x.1 in absurd (e (omega (arith, y))))
    ]

    half : number_of (bits_for k (n / 2)) ≡ n / 2 → n % 2 ≡ 0 → 0 + 2 * number_of (bits_for k (n / 2)) ≡ n
    half r e = omega (arith, r, e)

pub bits_length : (k n : ℕ) → length (bits_for k n) ≡ k
unfolding bits_for
bits_length zero n = refl
bits_length (suc k) n = let r = bits_length k (n / 2) in omega (arith, r)

-- two steps at which two lists part: not both of the host, a drive's before the host's, and the first list's host not before t
abbrev pub Apart : ℕ → Who → ℕ → Who → ℕ → Type 0
Apart t Host m Host n = ⊥
Apart t Host m (Drive o) n = (n < m) × (t ≤ m)
Apart t (Drive o) m Host n = m < n
Apart t (Drive o) m (Drive u) n = Unit {0}

-- the same events up to where they part, or to the end of both
abbrev pub Twin : ℕ → List Step → List Step → Type 0
Twin t [] [] = Unit {0}
Twin t [] (x ∷ xs) = ⊥
Twin t (y ∷ ys) [] = ⊥
Twin t (y ∷ ys) (x ∷ xs) = ((y.event ≡ x.event) × Twin t ys xs) ⊎ (Apart t y.event.who (moment_of y) x.event.who (moment_of x) × (y.event ≡ x.event → ⊥))

pub twin_skip : (t : ℕ) (zs ys xs : List Step) → Twin t ys xs → Twin t (zs ++ ys) (zs ++ xs)
twin_skip t [] ys xs w = w
twin_skip t (z ∷ zs) ys xs w = inl (refl, twin_skip t zs ys xs w)

meets_self : (w : Who) (m : ℕ) (E : Type 0) → E → Meets w m w m E
meets_self Host m E e = e
meets_self (Drive o) m E e = tt

apart_meets : (t : ℕ) (w : Who) (m : ℕ) (v : Who) (n : ℕ) (E : Type 0) → Apart t w m v n → Meets w m v n E
apart_meets t Host m Host n E a = elim a [ ]
apart_meets t Host m (Drive o) n E a = a.0
apart_meets t (Drive o) m Host n E a = a
apart_meets t (Drive o) m (Drive u) n E a = tt

same_meets : (y : Step) (x : Event) → y.event ≡ x → Meets y.event.who (moment_of y) x.who x.change.moment (y.event ≡ x)
same_meets y x e = subst (λ (v : Event). Meets y.event.who (moment_of y) v.who v.change.moment (y.event ≡ v)) e (meets_self y.event.who (moment_of y) (y.event ≡ y.event) refl)

pub twin_compat : (t : ℕ) (ys xs : List Step) (rest : List Event) → Twin t ys xs → Compat ys (events_of xs ++ rest)
twin_compat t [] [] rest w = tt
twin_compat t [] (x ∷ xs) rest w = tt
twin_compat t (y ∷ ys) [] rest w = elim w [ ]
twin_compat t (y ∷ ys) (x ∷ xs) rest (inl w) = (same_meets y x.event w.0, λ e. twin_compat t ys xs rest w.1)
twin_compat t (y ∷ ys) (x ∷ xs) rest (inr w) = (apart_meets t y.event.who (moment_of y) x.event.who (moment_of x) (y.event ≡ x.event) w.0, λ e. absurd (w.1 e))

-- and cut at a moment, after which the host comes next
abbrev pub HostNext : ℕ → List Event → Type 0
HostNext c [] = Unit {0}
HostNext c (x ∷ xs) = (x.who ≡ Host) × (c ≤ x.change.moment)

pub none_cut : (c : ℕ) (s : Step) (ss : List Step) → InOrder (s ∷ ss) → c ≤ moment_of s → before c (s ∷ ss) ≡ []
none_cut c s ss o h = all_from c (s ∷ ss) (h, none_sooner c (moment_of s) ss h o.0)

drive_meets : (c : ℕ) (y : Step) (ys : List Step) (rest : List Event) → HostNext c rest → moment_of y < c → (y.event.who ≡ Host → ⊥) → Compat (y ∷ ys) rest
drive_meets c y ys [] h l n = tt
drive_meets c y ys (x ∷ rest) h l n = (go y.event.who n, λ e. absurd (n (ap (λ (v : Event). v.who) e ∙ h.0)))
  where
    go : (w : Who) → (w ≡ Host → ⊥) → Meets w (moment_of y) x.who x.change.moment (y.event ≡ x)
    go Host n = absurd (n refl)
    go (Drive o) n = let late = h.1 in subst (λ (v : Who). Meets (Drive o) (moment_of y) v x.change.moment (y.event ≡ x)) (sym h.0) (omega (arith, l, late))

apart_late : (t : ℕ) (w : Who) (m : ℕ) (v : Who) (n c : ℕ) → Apart t w m v n → m < c → c ≤ n → w ≡ Host → ⊥
apart_late t Host m Host n c a l k e = elim a [ ]
apart_late t Host m (Drive o) n c a l k e = let b = a.0 in absurd (omega (arith, b, l, k))
apart_late t (Drive o) m Host n c a l k e = cc
apart_late t (Drive o) m (Drive u) n c a l k e = cc

pub twin_cut : (t c : ℕ) (ys xs : List Step) (rest : List Event) → Twin t ys xs → InOrder ys → InOrder xs → HostNext c rest → Compat (before c ys) (events_of (before c xs) ++ rest)
twin_cut t c [] xs rest w o p h = tt
twin_cut t c (y ∷ ys) [] rest w o p h = elim w [ ]
twin_cut t c (y ∷ ys) (x ∷ xs) rest w o p h = elim (leb_tells (suc (moment_of y)) c) [
  | inl u ↦ (let l = u.1 in subst (λ (v : List Step). Compat v (events_of (before c (x ∷ xs)) ++ rest)) (sym (before_yes c y ys (omega (arith, l)))) (kept w (omega (arith, l)) (λ w1. twin_cut t c ys xs rest w1 o.1 p.1 h)))
  | inr u ↦ (let l = u.1 in subst (λ (v : List Step). Compat v (events_of (before c (x ∷ xs)) ++ rest)) (sym (none_cut c y ys o (omega (arith, l)))) tt)
]
  where
    kept : Twin t (y ∷ ys) (x ∷ xs) → moment_of y < c → (Twin t ys xs → Compat (before c ys) (events_of (before c xs) ++ rest)) → Compat (y ∷ before c ys) (events_of (before c (x ∷ xs)) ++ rest)
    kept (inl w) l go =
        let same : moment_of y ≡ moment_of x = ap (λ (v : Event). v.change.moment) w.0 in
        subst (λ (v : List Step). Compat (y ∷ before c ys) (events_of v ++ rest)) (sym (before_yes c x xs (omega (arith, l, same)))) (same_meets y x.event w.0, λ e. go w.1)
    kept (inr w) l go = elim (leb_tells (suc (moment_of x)) c) [
      | inl u ↦ (
          let k = u.1 in
          subst (λ (v : List Step). Compat (y ∷ before c ys) (events_of v ++ rest)) (sym (before_yes c x xs (omega (arith, k))))
          (apart_meets t y.event.who (moment_of y) x.event.who (moment_of x) (y.event ≡ x.event) w.0, λ e. absurd (w.1 e))
          )
      | inr u ↦ (
          let k = u.1 in
          subst (λ (v : List Step). Compat (y ∷ before c ys) (events_of v ++ rest)) (sym (none_cut c x xs p (omega (arith, k))))
          (drive_meets c y (before c ys) rest h l (apart_late t y.event.who (moment_of y) x.event.who (moment_of x) c w.0 l (omega (arith, k))))
          )
    ]

-- Where the drive's own frame was played to its end, the two are one.
pub twin_same : (t : ℕ) (ys xs : List Step) (gs hs : List Event) → Twin t ys xs → events_of ys ++ gs ≡ events_of xs ++ hs → (events_of ys ≡ events_of xs) × (gs ≡ hs)
twin_same t [] [] gs hs w e = (refl, e)
twin_same t [] (x ∷ xs) gs hs w e = elim w [ ]
twin_same t (y ∷ ys) [] gs hs w e = elim w [ ]
twin_same t (y ∷ ys) (x ∷ xs) gs hs (inl w) e =
    let tail : events_of ys ++ gs ≡ events_of xs ++ hs = cc in
    let k = twin_same t ys xs gs hs w.1 tail in
    let a = k.0 in
    let h = w.0 in
    (cc, k.1)
twin_same t (y ∷ ys) (x ∷ xs) gs hs (inr w) e = let h : y.event ≡ x.event = cc in absurd (w.1 h)

line_apart : Data ≡ Clock → ⊥
line_apart e = cc

-- the bits of two bytes
pub bits_twin : (t : ℕ) (b : Party) (at : ℕ) (held : Bool) (bits bits2 : List Bool) (ys xs : List Step) → length bits ≡ length bits2 → Twin t ys xs → Twin t (bit_steps b at held bits ++ ys) (bit_steps b at held bits2 ++ xs)
bits_twin t b at held [] [] ys xs l w = twin_skip t (bit_steps b at held []) ys xs w
bits_twin t b at held [] (c ∷ cs) ys xs l w = absurd (omega (arith, l))
bits_twin t b at held (c ∷ cs) [] ys xs l w = absurd (omega (arith, l))
bits_twin t b at true (true ∷ cs) (true ∷ ds) ys xs l w = inl (refl, inl (refl, inl (refl, bits_twin t b (at + bit_time b.pace) false cs ds ys xs (omega (arith, l)) w)))
bits_twin t b at false (true ∷ cs) (true ∷ ds) ys xs l w = inl (refl, inl (refl, bits_twin t b (at + bit_time b.pace) false cs ds ys xs (omega (arith, l)) w))
bits_twin t b at true (false ∷ cs) (false ∷ ds) ys xs l w = inl (refl, inl (refl, bits_twin t b (at + bit_time b.pace) true cs ds ys xs (omega (arith, l)) w))
bits_twin t b at false (false ∷ cs) (false ∷ ds) ys xs l w = inl (refl, inl (refl, inl (refl, bits_twin t b (at + bit_time b.pace) true cs ds ys xs (omega (arith, l)) w)))
bits_twin t b at true (true ∷ cs) (false ∷ ds) ys xs l w = inl (refl, inr (tt, λ e. line_apart (ap (λ (v : Event). v.change.line) e)))
bits_twin t b at false (true ∷ cs) (false ∷ ds) ys xs l w = inl (refl, inr (tt, λ e. line_apart (sym (ap (λ (v : Event). v.change.line) e))))
bits_twin t b at true (false ∷ cs) (true ∷ ds) ys xs l w = inl (refl, inr (tt, λ e. line_apart (sym (ap (λ (v : Event). v.change.line) e))))
bits_twin t b at false (false ∷ cs) (true ∷ ds) ys xs l w = inl (refl, inr (tt, λ e. line_apart (ap (λ (v : Event). v.change.line) e)))

-- a frame with other bits, and with or without the answer to a last byte
abbrev pub with_bits : List Bool → Told → Told
with_bits bits f = record { bits = bits; free = f.free; signal = f.signal; accept = f.accept }

abbrev pub ended_frame : Party → ℕ → List Bool → Told → Told
ended_frame b t bits f = record { bits = bits; free = f.free; signal = Some (f.free + 200 + t, f.free + 260 + t); accept = f.free + 260 + t + b.reaction + first_accept b.pace }

abbrev pub open_frame : Party → List Bool → Told → Told
open_frame b bits f = record { bits = bits; free = f.free; signal = None; accept = f.free + b.reaction + first_accept b.pace }

last_twin : (t : ℕ) (b : Party) (f : Told) (n : ℕ) (v : Bool) → Twin t (for_one b.device (Said n v) (host f.accept Data Pull) ∷ (if v then drive b.device (f.accept + b.reaction) Clock Free ∷ [] else []))
    (for_one b.device (Said (number_of f.bits) v) (host f.accept Data Pull) ∷ (if v then drive b.device (f.accept + b.reaction) Clock Free ∷ [] else []))
last_twin t b f n true = inl (refl, inl (refl, tt))
last_twin t b f n false = inl (refl, tt)

pub same_kind : (t : ℕ) (b : Party) (at : ℕ) (bits : List Bool) (f : Told) → length bits ≡ length f.bits → Twin t (one_told b at (with_bits bits f)) (one_told b at f)
same_kind t b at bits f l =
    inl (
      refl,
      inl (
        refl,
        twin_skip t (signal_steps f.signal)
            (bit_steps b (first_bit b f) false bits ++ for_one b.device (Said (number_of bits) (is_last f)) (host f.accept Data Pull) ∷ (if is_last f then drive b.device (f.accept + b.reaction) Clock Free ∷ [] else []))
            (bit_steps b (first_bit b f) false f.bits ++ for_one b.device (Said (number_of f.bits) (is_last f)) (host f.accept Data Pull) ∷ (if is_last f then drive b.device (f.accept + b.reaction) Clock Free ∷ [] else []))
            (bits_twin t b (first_bit b f) false bits f.bits (for_one b.device (Said (number_of bits) (is_last f)) (host f.accept Data Pull) ∷ (if is_last f then drive b.device (f.accept + b.reaction) Clock Free ∷ [] else []))
            (for_one b.device (Said (number_of f.bits) (is_last f)) (host f.accept Data Pull) ∷ (if is_last f then drive b.device (f.accept + b.reaction) Clock Free ∷ [] else [])) l (last_twin t b f (number_of bits) (is_last f))),
      ),
    )

host_apart : (d p at : ℕ) (line line2 : Line) (way way2 : Way) → (host p line way).event ≡ (drive d at line2 way2).event → ⊥
host_apart d p at line line2 way way2 e = let k : Host ≡ Drive d = ap (λ (v : Event). v.who) e in cc

-- The byte is the last, and in the session it isn't: the drive waits for the host's answer, where in the session it sends.
pub ends_now : (t : ℕ) (b : Party) (at : ℕ) (bits : List Bool) (f : Told) (held : Bool) (more : List Step) → b.reaction ≤ 60
    → Twin t (one_told b at (ended_frame b t bits f)) (drive b.device at Clock Free ∷ host f.free Data Free ∷ (bit_steps b (f.free + b.reaction) held f.bits ++ more))
ends_now t b at bits f held more r = inl (refl, inl (refl, go f.bits))
  where
    go : (cs : List Bool) → Twin t (signal_steps (Some (f.free + 200 + t, f.free + 260 + t)) ++ (bit_steps b (first_bit b (ended_frame b t bits f)) false bits ++ for_one b.device (Said (number_of bits) true) (host (f.free + 260 + t + b.reaction + first_accept b.pace) Data Pull) ∷ (drive b.device (f.free + 260 + t + b.reaction + first_accept b.pace + b.reaction) Clock Free ∷ [])))
        (bit_steps b (f.free + b.reaction) held cs ++ more)
    go [] = inr ((omega (arith, r), omega arith), host_apart b.device (f.free + 200 + t) (f.free + b.reaction) Data Clock Pull Pull)
    go (c ∷ cs) = inr ((omega (arith, r), omega arith), host_apart b.device (f.free + 200 + t) (f.free + b.reaction) Data Clock Pull Pull)

-- The byte isn't the last, and in the session it is: the drive sends, where in the session the host answers later.
pub goes_on_now : (t : ℕ) (b : Party) (at : ℕ) (bits : List Bool) (f : Told) (p again : ℕ) (more : List Step) → b.reaction ≤ 60 → f.free + 200 ≤ p
    → Twin t (one_told b at (open_frame b bits f)) (drive b.device at Clock Free ∷ host f.free Data Free ∷ (signal_steps (Some (p, again)) ++ more))
goes_on_now t b at bits f p again more r l = inl (refl, inl (refl, go bits))
  where
    go : (cs : List Bool) → Twin t (bit_steps b (first_bit b (open_frame b bits f)) false cs ++ for_one b.device (Said (number_of bits) false) (host (f.free + b.reaction + first_accept b.pace) Data Pull) ∷ []) (signal_steps (Some (p, again)) ++ more)
    go [] = inr (omega (arith, r, l), λ e. host_apart b.device p (f.free + b.reaction) Data Clock Pull Pull (sym e))
    go (c ∷ cs) = inr (omega (arith, r, l), λ e. host_apart b.device p (f.free + b.reaction) Data Clock Pull Pull (sym e))

-- where all events are the same, so are the bits
pub bits_same : (b : Party) (at : ℕ) (held : Bool) (bits bits2 : List Bool) (ys xs : List Step) → length bits ≡ length bits2 → events_of (bit_steps b at held bits ++ ys) ≡ events_of (bit_steps b at held bits2 ++ xs) → bits ≡ bits2
bits_same b at held [] [] ys xs l e = refl
bits_same b at held [] (c ∷ cs) ys xs l e = absurd (omega (arith, l))
bits_same b at held (c ∷ cs) [] ys xs l e = absurd (omega (arith, l))
bits_same b at true (true ∷ cs) (true ∷ ds) ys xs l e = ap (λ (v : List Bool). true ∷ v) (bits_same b (at + bit_time b.pace) false cs ds ys xs (omega (arith, l)) cc)
bits_same b at false (true ∷ cs) (true ∷ ds) ys xs l e = ap (λ (v : List Bool). true ∷ v) (bits_same b (at + bit_time b.pace) false cs ds ys xs (omega (arith, l)) cc)
bits_same b at true (false ∷ cs) (false ∷ ds) ys xs l e = ap (λ (v : List Bool). false ∷ v) (bits_same b (at + bit_time b.pace) true cs ds ys xs (omega (arith, l)) cc)
bits_same b at false (false ∷ cs) (false ∷ ds) ys xs l e = ap (λ (v : List Bool). false ∷ v) (bits_same b (at + bit_time b.pace) true cs ds ys xs (omega (arith, l)) cc)
bits_same b at true (true ∷ cs) (false ∷ ds) ys xs l e = absurd (second_line (bit_steps b (at + bit_time b.pace) false cs ++ ys) (bit_steps b (at + bit_time b.pace) true ds ++ xs) e)
  where
    second_line : (us vs : List Step) → events_of (drive b.device at Clock Pull ∷ drive b.device at Data Free ∷ drive b.device (at + half_bit b.pace) Clock Free ∷ us) ≡ events_of (drive b.device at Clock Pull ∷ drive b.device (at + half_bit b.pace) Clock Free ∷ vs) → ⊥
    second_line us vs e = let k : (drive b.device at Data Free).event ≡ (drive b.device (at + half_bit b.pace) Clock Free).event = cc in line_apart (ap (λ (v : Event). v.change.line) k)
bits_same b at false (true ∷ cs) (false ∷ ds) ys xs l e = absurd (second_line (bit_steps b (at + bit_time b.pace) false cs ++ ys) (bit_steps b (at + bit_time b.pace) true ds ++ xs) e)
  where
    second_line : (us vs : List Step) → events_of (drive b.device at Clock Pull ∷ drive b.device (at + half_bit b.pace) Clock Free ∷ us) ≡ events_of (drive b.device at Clock Pull ∷ drive b.device at Data Pull ∷ drive b.device (at + half_bit b.pace) Clock Free ∷ vs) → ⊥
    second_line us vs e = let k : (drive b.device (at + half_bit b.pace) Clock Free).event ≡ (drive b.device at Data Pull).event = cc in line_apart (sym (ap (λ (v : Event). v.change.line) k))
bits_same b at true (false ∷ cs) (true ∷ ds) ys xs l e = absurd (second_line (bit_steps b (at + bit_time b.pace) true cs ++ ys) (bit_steps b (at + bit_time b.pace) false ds ++ xs) e)
  where
    second_line : (us vs : List Step) → events_of (drive b.device at Clock Pull ∷ drive b.device (at + half_bit b.pace) Clock Free ∷ us) ≡ events_of (drive b.device at Clock Pull ∷ drive b.device at Data Free ∷ drive b.device (at + half_bit b.pace) Clock Free ∷ vs) → ⊥
    second_line us vs e = let k : (drive b.device (at + half_bit b.pace) Clock Free).event ≡ (drive b.device at Data Free).event = cc in line_apart (sym (ap (λ (v : Event). v.change.line) k))
bits_same b at false (false ∷ cs) (true ∷ ds) ys xs l e = absurd (second_line (bit_steps b (at + bit_time b.pace) true cs ++ ys) (bit_steps b (at + bit_time b.pace) false ds ++ xs) e)
  where
    second_line : (us vs : List Step) → events_of (drive b.device at Clock Pull ∷ drive b.device at Data Pull ∷ drive b.device (at + half_bit b.pace) Clock Free ∷ us) ≡ events_of (drive b.device at Clock Pull ∷ drive b.device (at + half_bit b.pace) Clock Free ∷ vs) → ⊥
    second_line us vs e = let k : (drive b.device at Data Pull).event ≡ (drive b.device (at + half_bit b.pace) Clock Free).event = cc in line_apart (ap (λ (v : Event). v.change.line) k)

events_skip : (zs ys xs : List Step) → events_of (zs ++ ys) ≡ events_of (zs ++ xs) → events_of ys ≡ events_of xs
events_skip [] ys xs e = e
events_skip (z ∷ zs) ys xs e = events_skip zs ys xs cc

-- So for each frame of a session there is the frame of the byte that there is to say, which goes with it as far as it can.
pub record Swapped (t : ℕ) (b : Party) (at : ℕ) (f : Told) (n : ℕ) (last : Bool) : Type 0 where
  pub frame : Told
  pub fits : ToldFits b at frame
  pub number : number_of frame.bits ≡ n
  pub kind : is_last frame ≡ last
  pub twin : Twin t (one_told b at frame) (one_told b at f)
  pub same : events_of (one_told b at frame) ≡ events_of (one_told b at f) → frame ≡ f

pub swapped : (t : ℕ) (b : Party) (at : ℕ) (f : Told) (n : ℕ) (last : Bool) → 1 ≤ b.reaction → b.reaction ≤ 60 → n < 256 → ToldFits b at f → Swapped t b at f n last
swapped t b at f n last some prompt byte h = go f.signal last refl
  where
    bits : List Bool
    bits = bits_for 8 n

    eight : length (bits_for 8 n) ≡ 8
    eight = bits_length 8 n

    is_n : number_of (bits_for 8 n) ≡ n
    is_n = bits_number 8 n (omega (arith, byte))

    same : (x : Option (ℕ × ℕ)) → f.signal ≡ x → (v : Bool) → (elim x as (λ u. Bool) [ None ↦ false | Some y ↦ true ]) ≡ v → Swapped t b at f n v
    same x e v k = record {
      frame = with_bits bits f;
      fits = record { eight = eight; free = h.free; signal = h.signal; accept = h.accept; soon = h.soon };
      number = is_n;
      kind = ap (λ (u : Option (ℕ × ℕ)). elim u as (λ w. Bool) [ None ↦ false | Some y ↦ true ]) e ∙ k;
      twin = same_kind t b at bits f (eight ∙ sym h.eight);
      same = λ z. ap (λ (u : List Bool). with_bits u f) (bits_same b (first_bit b f) false bits f.bits
          (for_one b.device (Said (number_of bits) (is_last f)) (host f.accept Data Pull) ∷ (if is_last f then drive b.device (f.accept + b.reaction) Clock Free ∷ [] else []))
          (for_one b.device (Said (number_of f.bits) (is_last f)) (host f.accept Data Pull) ∷ (if is_last f then drive b.device (f.accept + b.reaction) Clock Free ∷ [] else []))
          (eight ∙ sym h.eight)
          (events_skip (drive b.device at Clock Free ∷ host f.free Data Free ∷ signal_steps f.signal)
          (bit_steps b (first_bit b f) false bits ++ for_one b.device (Said (number_of bits) (is_last f)) (host f.accept Data Pull) ∷ (if is_last f then drive b.device (f.accept + b.reaction) Clock Free ∷ [] else []))
          (bit_steps b (first_bit b f) false f.bits ++ for_one b.device (Said (number_of f.bits) (is_last f)) (host f.accept Data Pull) ∷ (if is_last f then drive b.device (f.accept + b.reaction) Clock Free ∷ [] else [])) z));
    }

    go : (x : Option (ℕ × ℕ)) (v : Bool) → f.signal ≡ x → Swapped t b at f n v
    go None false e = same None e false refl
    go (Some x) true e = same (Some x) e true refl
    go None true e = record {
      frame = ended_frame b t bits f;
      fits = record { eight = eight; free = h.free; signal = (omega arith, omega arith); accept = omega arith; soon = omega arith };
      number = is_n;
      kind = refl;
      twin = subst
          (λ (u : Told). Twin t (one_told b at (ended_frame b t bits f)) (one_told b at u)) (sym (frame_is f None e))
          (ends_now t b at bits f false (for_one b.device (Said (number_of f.bits) false) (host f.accept Data Pull) ∷ []) prompt);
      same = λ z. absurd (third f.bits (z ∙ ap (λ (u : Told). events_of (one_told b at u)) (frame_is f None e)));
    }
      where
        frame_is : (g : Told) (x : Option (ℕ × ℕ)) → g.signal ≡ x → g ≡ record { bits = g.bits; free = g.free; signal = x; accept = g.accept }
        frame_is g x e = ap (λ (u : Option (ℕ × ℕ)). record { bits = g.bits; free = g.free; signal = u; accept = g.accept }) e

        third : (cs : List Bool) → events_of (one_told b at (ended_frame b t bits f)) ≡ events_of (one_told b at (record { bits = cs; free = f.free; signal = None; accept = f.accept })) → ⊥
        third [] z = let k : (host (f.free + 200 + t) Data Pull).event ≡ (drive b.device (f.free + b.reaction) Clock Pull).event = cc in host_apart b.device (f.free + 200 + t) (f.free + b.reaction) Data Clock Pull Pull k
        third (c ∷ cs) z = let k : (host (f.free + 200 + t) Data Pull).event ≡ (drive b.device (f.free + b.reaction) Clock Pull).event = cc in host_apart b.device (f.free + 200 + t) (f.free + b.reaction) Data Clock Pull Pull k
    go (Some (p, again)) false e =
        let sg : SignalFits f.free (Some (p, again)) = subst (λ (u : Option (ℕ × ℕ)). SignalFits f.free u) e h.signal in
        record {
          frame = open_frame b bits f;
          fits = record { eight = eight; free = h.free; signal = tt; accept = omega arith; soon = omega arith };
          number = is_n;
          kind = refl;
          twin = subst
              (λ (u : Told). Twin t (one_told b at (open_frame b bits f)) (one_told b at u)) (sym (frame_is f (Some (p, again)) e))
              (goes_on_now t b at bits f p again (bit_steps b (again + b.reaction) false f.bits ++ for_one b.device (Said (number_of f.bits) true) (host f.accept Data Pull) ∷ (drive b.device (f.accept + b.reaction) Clock Free ∷ [])) prompt sg.0);
          same = λ z. absurd (third bits (z ∙ ap (λ (u : Told). events_of (one_told b at u)) (frame_is f (Some (p, again)) e)));
        }
      where
        third : (cs : List Bool) → events_of (one_told b at (open_frame b cs f)) ≡ events_of (one_told b at (record { bits = f.bits; free = f.free; signal = Some (p, again); accept = f.accept })) → ⊥
        third [] z = let k : (drive b.device (f.free + b.reaction) Clock Pull).event ≡ (host p Data Pull).event = cc in host_apart b.device p (f.free + b.reaction) Data Clock Pull Pull (sym k)
        third (c ∷ cs) z = let k : (drive b.device (f.free + b.reaction) Clock Pull).event ≡ (host p Data Pull).event = cc in host_apart b.device p (f.free + b.reaction) Data Clock Pull Pull (sym k)

        frame_is : (g : Told) (x : Option (ℕ × ℕ)) → g.signal ≡ x → g ≡ record { bits = g.bits; free = g.free; signal = x; accept = g.accept }
        frame_is g x e = ap (λ (u : Option (ℕ × ℕ)). record { bits = g.bits; free = g.free; signal = u; accept = g.accept }) e
