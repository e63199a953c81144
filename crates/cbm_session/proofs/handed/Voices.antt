-- A talker's own changes of CLOCK and DATA spell the byte that it sends, whatever the host does.
use Rattle.std.proofs.Common.{◌≡◌, ℕ, ◌+◌, ◌*◌, ◌/◌, ◌%◌, ◌<◌, Bool, true, false, not, List, [], ◌∷◌, ◌++◌, length, Option, ap, sym, ◌∙◌, subst, refl, arith, eq-eqb, inl, inr}
use Rattle.std.proofs.lemmas.Bool.Decides.{leb_tells, eqb_tells}
use Rattle.std.specs.Prelude.{if◌then◌else◌, ◌==◌}
use Rattle.cbm_iec.specs.Ports.{changes_between, changed}
use Rattle.cbm_iec.specs.declared.machine.Act.{Act}
use Rattle.cbm_iec.specs.declared.event.Event.{Event}
use Rattle.cbm_iec.specs.declared.event.Who.TheVariants.{Drive}
use Rattle.cbm_iec.specs.declared.lines.Change.{Change}
use Rattle.cbm_iec.specs.declared.lines.Line.TheVariants.{Clock, Data}
use Rattle.cbm_iec.specs.declared.lines.Line.{Line}
use Rattle.cbm_iec.specs.declared.lines.Way.TheVariants.{Pull, Free}
use Rattle.cbm_iec.specs.declared.lines.Way.{Way}
use Rattle.cbm_iec.specs.declared.lines.Held.{Held}
use Rattle.cbm_session.specs.Bits.{number_of}
use Rattle.cbm_session.specs.Handed.{Voice, clocked, voiced, HasSaid, passes}
use Rattle.cbm_session.specs.Playing.{drive_events}

-- the byte that these bits spell, lowest first, with what is left of it above them
abbrev pub spelled : List Bool → ℕ → ℕ
spelled [] left = left
spelled (bit ∷ bits) left = (if bit then 1 else 0) + 2 * spelled bits left

pub spelled_whole : (bits : List Bool) → spelled bits 0 ≡ number_of bits
spelled_whole [] = refl
spelled_whole (bit ∷ bits) = ap (λ (n : ℕ). (if bit then 1 else 0) + 2 * n) (spelled_whole bits)

-- the next bit
one_more : (left : ℕ) → (if not ((left % 2) == 0) then 1 else 0) + 2 * (left / 2) ≡ left
one_more left = elim (eqb_tells (left % 2) 0) [
  | inl x ↦ (let e = x.1 in ap (λ (v : Bool). (if not v then 1 else 0) + 2 * (left / 2)) x.0 ∙ (omega (arith, e)))
  | inr x ↦ ap (λ (v : Bool). (if not v then 1 else 0) + 2 * (left / 2)) x.0 ∙ odd x.1
]
  where
    odd : (left % 2 ≡ 0 → ⊥) → 1 + 2 * (left / 2) ≡ left
    odd n = elim (leb_tells (left % 2) 0) [
      | inl y ↦ (let l = y.1 in absurd (n (omega (arith, l))))
      | inr y ↦ (let l = y.1 in omega (arith, l))
    ]

pub spelled_on : (bits : List Bool) (left : ℕ) → spelled (bits ++ not ((left % 2) == 0) ∷ []) (left / 2) ≡ spelled bits left
spelled_on [] left = one_more left
spelled_on (bit ∷ bits) left = ap (λ (n : ℕ). (if bit then 1 else 0) + 2 * n) (spelled_on bits left)

-- eight bits of a byte are all of it
bit_most : (bit : Bool) (n k : ℕ) → (if bit then 1 else 0) + 2 * n < 2 * k → n < k
bit_most true n k h = omega (arith, h)
bit_most false n k h = omega (arith, h)

pub nothing_left : (bits : List Bool) (left : ℕ) → length bits ≡ 8 → spelled bits left < 256 → left ≡ 0
nothing_left [] left l h = absurd cc
nothing_left (b0 ∷ []) left l h = absurd cc
nothing_left (b0 ∷ b1 ∷ []) left l h = absurd cc
nothing_left (b0 ∷ b1 ∷ b2 ∷ []) left l h = absurd cc
nothing_left (b0 ∷ b1 ∷ b2 ∷ b3 ∷ []) left l h = absurd cc
nothing_left (b0 ∷ b1 ∷ b2 ∷ b3 ∷ b4 ∷ []) left l h = absurd cc
nothing_left (b0 ∷ b1 ∷ b2 ∷ b3 ∷ b4 ∷ b5 ∷ []) left l h = absurd cc
nothing_left (b0 ∷ b1 ∷ b2 ∷ b3 ∷ b4 ∷ b5 ∷ b6 ∷ []) left l h = absurd cc
nothing_left (b0 ∷ b1 ∷ b2 ∷ b3 ∷ b4 ∷ b5 ∷ b6 ∷ b7 ∷ []) left l h =
    let h7 = bit_most b7 left 1 (bit_most b6 _ 2 (bit_most b5 _ 4 (bit_most b4 _ 8 (bit_most b3 _ 16 (bit_most b2 _ 32 (bit_most b1 _ 64 (bit_most b0 _ 128 h))))))) in omega (arith, h7)
nothing_left (b0 ∷ b1 ∷ b2 ∷ b3 ∷ b4 ∷ b5 ∷ b6 ∷ b7 ∷ b8 ∷ more) left l h = absurd (omega (arith, l))

-- ---- its own changes

own_passes : (d : ℕ) (c : Change) (v : Voice) (es : List Event) (acts : List Act) → HasSaid d (voiced c.line c.way v) es acts → HasSaid d v (drive_events d (c ∷ []) ++ es) acts
own_passes d c v es acts g = passes (record { who = Drive d; change = c }) es refl (subst (λ (b : Bool). HasSaid d (if b then voiced c.line c.way v else v) es acts) (sym (eq-eqb d d refl)) g)

-- its CLOCK is freed where it held it
abbrev pub freed_bits : Bool → Bool → Bool → Option (List Bool) → Option (List Bool)
freed_bits true false low bits = clocked low bits
freed_bits true true low bits = bits
freed_bits false now low bits = bits

pub reaction_passes : (d t : ℕ) (was now : Held) (v : Voice) (es : List Event) (acts : List Act) → v.low ≡ was.data_low
    → HasSaid d (record { atn = v.atn; low = now.data_low; bits = freed_bits was.clock_low now.clock_low v.low v.bits }) es acts → HasSaid d v (drive_events d (changes_between t was now) ++ es) acts
reaction_passes d t was now v es acts e g = go was.clock_low now.clock_low was.data_low now.data_low v.low e g
  where
    At : Bool → Option (List Bool) → Voice
    At low bits = record { atn = v.atn; low = low; bits = bits }

    change : Line → Way → Change
    change line way = record { moment = t; line = line; way = way }

    go : (c c2 e e2 low : Bool) → low ≡ e → HasSaid d (At e2 (freed_bits c c2 low v.bits)) es acts
        → HasSaid d (At low v.bits) (drive_events d (changed t Clock c c2 ++ changed t Data e e2) ++ es) acts
    go true true true true true h k = k
    go true true true false true h k = own_passes d (change Data Free) (At true v.bits) es acts k
    go true true false true false h k = own_passes d (change Data Pull) (At false v.bits) es acts k
    go true true false false false h k = k
    go false false true true true h k = k
    go false false true false true h k = own_passes d (change Data Free) (At true v.bits) es acts k
    go false false false true false h k = own_passes d (change Data Pull) (At false v.bits) es acts k
    go false false false false false h k = k
    go false true true true true h k = own_passes d (change Clock Pull) (At true v.bits) es acts k
    go false true true false true h k = own_passes d (change Clock Pull) (At true v.bits) (drive_events d (change Data Free ∷ []) ++ es) acts (own_passes d (change Data Free) (At true v.bits) es acts k)
    go false true false true false h k = own_passes d (change Clock Pull) (At false v.bits) (drive_events d (change Data Pull ∷ []) ++ es) acts (own_passes d (change Data Pull) (At false v.bits) es acts k)
    go false true false false false h k = own_passes d (change Clock Pull) (At false v.bits) es acts k
    go true false true true true h k = own_passes d (change Clock Free) (At true v.bits) es acts k
    go true false true false true h k = own_passes d (change Clock Free) (At true v.bits) (drive_events d (change Data Free ∷ []) ++ es) acts (own_passes d (change Data Free) (At true (clocked true v.bits)) es acts k)
    go true false false true false h k = own_passes d (change Clock Free) (At false v.bits) (drive_events d (change Data Pull ∷ []) ++ es) acts (own_passes d (change Data Pull) (At false (clocked false v.bits)) es acts k)
    go true false false false false h k = own_passes d (change Clock Free) (At false v.bits) es acts k
    go c c2 true e2 false h k = absurd cc
    go c c2 false e2 true h k = absurd cc
