-- A drive that hears a frame of the host: how it stands, and the byte that its bits make.
use Rattle.std.proofs.Common.{◌≡◌, ℕ, ◌+◌, ◌*◌, ◌/◌, ◌≤◌, inl, inr, Bool, true, false, not, List, [], ◌∷◌, length, Option, None, ap, arith, refl}
use Rattle.std.specs.Prelude.{if◌then◌else◌, ◌==◌}
use Rattle.cbm_iec.specs.Hearing.{with_bit_read}
use Rattle.cbm_iec.specs.Ports.{side_due}
use Rattle.cbm_iec.specs.Roles.{role_after}
use Rattle.cbm_iec.specs.declared.machine.Act.TheVariants.{Attention, Heard}
use Rattle.cbm_iec.specs.declared.machine.Act.{Act}
use Rattle.cbm_iec.specs.declared.ear.Ear.TheVariants.{Holding, Gathering, Accepting}
use Rattle.cbm_iec.specs.declared.ear.Ear.{Ear}
use Rattle.cbm_iec.specs.declared.lines.Held.{Held}
use Rattle.cbm_iec.specs.declared.lines.Lines.{Lines}
use Rattle.cbm_iec.specs.declared.party.Party.{Party}
use Rattle.cbm_iec.specs.declared.party.Role.{Role}
use Rattle.cbm_iec.specs.declared.port.Port.{Port}
use Rattle.cbm_iec.specs.declared.port.Side.TheVariants.{Hearing}
use Rattle.cbm_iec.specs.declared.port.Side.{Side}
use Rattle.cbm_session.specs.Bits.{BitCell, byte_in_cells}
use Rattle.cbm_session.specs.Following.{IsDone}
use Rattle.cbm_session.specs.Seats.{lines}

-- where a drive is done nothing is due
pub done_due : (side : Side) → IsDone side → side_due side ≡ None
done_due side (inl h) = ap (λ (x : Side). side_due x) h
done_due side (inr h) = ap (λ (x : Side). side_due x) h

abbrev pub wires : Bool → Bool → Bool → Lines
wires atn clock data_now = record { atn_low = atn; clock_low = clock; data_low = data_now }

abbrev pub stands : Party → Role → Held → Lines → Side → Port
stands b role own others side = record { party = b; role = role; own = own; others = others; side = side }

-- gathering bits, with CLOCK pulled and DATA as the host holds it
abbrev pub gathers : Party → Role → Bool → Bool → Bool → ℕ → ℕ → Port
gathers b role atn held eoi count byte = stands b role (lines false false) (wires atn true held) (Hearing (Gathering eoi count byte))

abbrev pub cell_ear : ℕ → Bool → ℕ → ℕ → Bool → ℕ → Ear
cell_ear r eoi count byte bit pull = if (count + 1) == 8 then Accepting (pull + r) eoi (with_bit_read byte (not bit)) else Gathering eoi (count + 1) (with_bit_read byte (not bit))

module _ (peek : Option (ℕ × Bool)) (b : Party) (role : Role) where
  -- the byte as the bits come in at the top
  abbrev pub shifted : ℕ → List BitCell → ℕ
  shifted byte [] = byte
  shifted byte (c ∷ cs) = shifted (with_bit_read byte (not c.bit)) cs

  -- after the accept it is in hold again, with the role that the byte makes
  abbrev pub accepted_role : Bool → ℕ → Role
  accepted_role atn byte = if atn then role_after b.device byte role else role

  abbrev pub told_by : Bool → ℕ → Bool → Act
  told_by atn byte eoi = if atn then Attention byte else Heard byte eoi

  abbrev pub held_again : Bool → ℕ → Port
  held_again atn byte = stands b (accepted_role atn byte) (lines false true) (wires atn true false) (Hearing Holding)

-- eight bits that come in at the top, lowest first, are their number
eight_bits : (a b c d e f g h : ℕ) → a ≤ 1 → b ≤ 1 → c ≤ 1 → d ≤ 1 → e ≤ 1 → f ≤ 1 → g ≤ 1 → h ≤ 1
    → (((((((0 / 2 + 128 * a) / 2 + 128 * b) / 2 + 128 * c) / 2 + 128 * d) / 2 + 128 * e) / 2 + 128 * f) / 2 + 128 * g) / 2 + 128 * h
    ≡ a + 2 * (b + 2 * (c + 2 * (d + 2 * (e + 2 * (f + 2 * (g + 2 * (h + 2 * 0)))))))
eight_bits a b c d e f g h a1 b1 c1 d1 e1 f1 g1 h1 = omega arith

abbrev one : Bool → ℕ
one bit = if bit then 1 else 0

one_le : (bit : Bool) → one bit ≤ 1
one_le true = omega arith
one_le false = omega arith

top_is : (bit : Bool) → (if not bit then 0 else 128) ≡ 128 * one bit
top_is true = refl
top_is false = refl

pub shifted_is : (peek : Option (ℕ × Bool)) (p : Party) (r : Role) (cells : List BitCell) → length cells ≡ 8 → shifted peek p r 0 cells ≡ byte_in_cells cells
shifted_is k p r [] l = absurd (omega (arith, l))
shifted_is k p r (a ∷ []) l = absurd (omega (arith, l))
shifted_is k p r (a ∷ b ∷ []) l = absurd (omega (arith, l))
shifted_is k p r (a ∷ b ∷ c ∷ []) l = absurd (omega (arith, l))
shifted_is k p r (a ∷ b ∷ c ∷ d ∷ []) l = absurd (omega (arith, l))
shifted_is k p r (a ∷ b ∷ c ∷ d ∷ e ∷ []) l = absurd (omega (arith, l))
shifted_is k p r (a ∷ b ∷ c ∷ d ∷ e ∷ f ∷ []) l = absurd (omega (arith, l))
shifted_is k p r (a ∷ b ∷ c ∷ d ∷ e ∷ f ∷ g ∷ []) l = absurd (omega (arith, l))
shifted_is k p r (a ∷ b ∷ c ∷ d ∷ e ∷ f ∷ g ∷ h ∷ i ∷ more) l = absurd (omega (arith, l))
shifted_is k p r (a ∷ b ∷ c ∷ d ∷ e ∷ f ∷ g ∷ h ∷ []) l =
    simp (top_is) (eight_bits (one a.bit) (one b.bit) (one c.bit) (one d.bit) (one e.bit) (one f.bit) (one g.bit) (one h.bit)
    (one_le a.bit) (one_le b.bit) (one_le c.bit) (one_le d.bit) (one_le e.bit) (one_le f.bit) (one_le g.bit) (one_le h.bit))
