-- A drive among others reads the bits of a byte while none of them holds a line.
use Rattle.std.proofs.Common.{◌≡◌, ℕ, zero, ◌+◌, ◌≢◌, Bool, true, false, not, List, [], ◌∷◌, ◌++◌, length, Option, sym, subst, arith, refl, append_assoc, eq-eqb}
use Rattle.std.proofs.lemmas.Bool.{lt-ltb, ne_eqb}
use Rattle.std.specs.Prelude.{if◌then◌else◌, nat_lt}
use Rattle.cbm_iec.specs.Hearing.{with_bit_read}
use Rattle.cbm_iec.specs.declared.ear.Ear.TheVariants.{Gathering, Accepting}
use Rattle.cbm_iec.specs.declared.lines.Line.TheVariants.{Clock}
use Rattle.cbm_iec.specs.declared.lines.Way.TheVariants.{Pull, Free}
use Rattle.cbm_iec.specs.declared.lines.Lines.{Lines}
use Rattle.cbm_iec.specs.declared.party.Party.{Party}
use Rattle.cbm_iec.specs.declared.party.Role.{Role}
use Rattle.cbm_iec.specs.declared.port.Port.{Port}
use Rattle.cbm_iec.specs.declared.port.Side.TheVariants.{Hearing}
use Rattle.cbm_session.proofs.alone.Frames.{wires, stands, gathers, cell_ear, shifted}
use Rattle.cbm_session.specs.Among.{Rest, FollowsAmong, tells}
use Rattle.cbm_session.specs.Bits.{BitCell, cell_steps, cells_steps, held_after, last_pull}
use Rattle.cbm_session.specs.Seats.{lines}
use Rattle.cbm_session.specs.Steps.{Step, host}

-- the host's lines alone
abbrev pub quiet : Lines → Rest
quiet l = record { host = l; clocks = zero; datas = zero }

module _ (peek : Option (ℕ × Bool)) (b : Party) (role : Role) (r2 : Rest) where
  -- CLOCK is freed and pulled, with DATA as the bit has it
  clock_follows : (atn eoi bit : Bool) (count byte free pull : ℕ) (ss : List Step) (q2 : Port) → nat_lt count 8 ≡ true
      → FollowsAmong peek (quiet (wires atn true (not bit))) (stands b role (lines false false) (wires atn true (not bit)) (Hearing (cell_ear b.reaction eoi count byte bit pull))) ss r2 q2
      → FollowsAmong peek (quiet (wires atn true (not bit))) (gathers b role atn (not bit) eoi count byte) (host free Clock Free ∷ host pull Clock Pull ∷ ss) r2 q2
  clock_follows true eoi true count byte free pull ss q2 h f =
      tells tt refl (subst (λ (v : Bool). FollowsAmong peek (quiet (wires true false false)) (stands b role (lines false false) (wires true false false) (Hearing (if v then Gathering eoi (count + 1) (with_bit_read byte false) else Gathering eoi count byte))) (host pull Clock Pull ∷ ss) r2 q2) (sym h) (tells tt refl f))
  clock_follows true eoi false count byte free pull ss q2 h f =
      tells tt refl (subst (λ (v : Bool). FollowsAmong peek (quiet (wires true false true)) (stands b role (lines false false) (wires true false true) (Hearing (if v then Gathering eoi (count + 1) (with_bit_read byte true) else Gathering eoi count byte))) (host pull Clock Pull ∷ ss) r2 q2) (sym h) (tells tt refl f))
  clock_follows false eoi true count byte free pull ss q2 h f =
      tells tt refl (subst (λ (v : Bool). FollowsAmong peek (quiet (wires false false false)) (stands b role (lines false false) (wires false false false) (Hearing (if v then Gathering eoi (count + 1) (with_bit_read byte false) else Gathering eoi count byte))) (host pull Clock Pull ∷ ss) r2 q2) (sym h) (tells tt refl f))
  clock_follows false eoi false count byte free pull ss q2 h f =
      tells tt refl (subst (λ (v : Bool). FollowsAmong peek (quiet (wires false false true)) (stands b role (lines false false) (wires false false true) (Hearing (if v then Gathering eoi (count + 1) (with_bit_read byte true) else Gathering eoi count byte))) (host pull Clock Pull ∷ ss) r2 q2) (sym h) (tells tt refl f))

  cell_follows : (atn eoi held bit : Bool) (count byte set free pull : ℕ) (ss : List Step) (q2 : Port) → nat_lt count 8 ≡ true
      → FollowsAmong peek (quiet (wires atn true (not bit))) (stands b role (lines false false) (wires atn true (not bit)) (Hearing (cell_ear b.reaction eoi count byte bit pull))) ss r2 q2
      → FollowsAmong peek (quiet (wires atn true held)) (gathers b role atn held eoi count byte) (cell_steps held (record { bit = bit; set = set; free = free; pull = pull }) ++ ss) r2 q2
  cell_follows true eoi true true count byte set free pull ss q2 h f = tells tt refl (clock_follows true eoi true count byte free pull ss q2 h f)
  cell_follows false eoi true true count byte set free pull ss q2 h f = tells tt refl (clock_follows false eoi true count byte free pull ss q2 h f)
  cell_follows atn eoi false true count byte set free pull ss q2 h f = clock_follows atn eoi true count byte free pull ss q2 h f
  cell_follows atn eoi true false count byte set free pull ss q2 h f = clock_follows atn eoi false count byte free pull ss q2 h f
  cell_follows true eoi false false count byte set free pull ss q2 h f = tells tt refl (clock_follows true eoi false count byte free pull ss q2 h f)
  cell_follows false eoi false false count byte set free pull ss q2 h f = tells tt refl (clock_follows false eoi false count byte free pull ss q2 h f)

  pub cells_follows : (atn eoi held : Bool) (count byte : ℕ) (c : BitCell) (cells : List BitCell) (ss : List Step) (q2 : Port) → count + length cells ≡ 7
      → FollowsAmong peek (quiet (wires atn true (held_after held (c ∷ cells)))) (stands b role (lines false false) (wires atn true (held_after held (c ∷ cells))) (Hearing (Accepting (last_pull 0 (c ∷ cells) + b.reaction) eoi (shifted peek b role byte (c ∷ cells))))) ss r2 q2
      → FollowsAmong peek (quiet (wires atn true held)) (gathers b role atn held eoi count byte) (cells_steps held (c ∷ cells) ++ ss) r2 q2
  cells_follows atn eoi held count byte c [] ss q2 e f =
      let seven : count ≡ 7 = omega (arith, e) in
      subst (λ (zs : List Step). FollowsAmong peek (quiet (wires atn true held)) (gathers b role atn held eoi count byte) zs r2 q2) (sym (append_assoc (cell_steps held c) [] ss))
      (cell_follows atn eoi held c.bit count byte c.set c.free c.pull ss q2 (lt-ltb count 8 (omega (arith, seven)))
      (subst (λ (v : Bool). FollowsAmong peek (quiet (wires atn true (not c.bit))) (stands b role (lines false false) (wires atn true (not c.bit)) (Hearing (if v then Accepting (c.pull + b.reaction) eoi (with_bit_read byte (not c.bit)) else Gathering eoi (count + 1) (with_bit_read byte (not c.bit))))) ss r2 q2) (sym (eq-eqb (count + 1) 8 (omega (arith, seven)))) f))
  cells_follows atn eoi held count byte c (c2 ∷ cells) ss q2 e f =
      let few : count + 1 ≢ 8 = omega (arith, e) in
      subst (λ (zs : List Step). FollowsAmong peek (quiet (wires atn true held)) (gathers b role atn held eoi count byte) zs r2 q2) (sym (append_assoc (cell_steps held c) (cells_steps (not c.bit) (c2 ∷ cells)) ss))
      (cell_follows atn eoi held c.bit count byte c.set c.free c.pull (cells_steps (not c.bit) (c2 ∷ cells) ++ ss) q2 (lt-ltb count 8 (omega (arith, e)))
      (subst (λ (v : Bool). FollowsAmong peek (quiet (wires atn true (not c.bit))) (stands b role (lines false false) (wires atn true (not c.bit)) (Hearing (if v then Accepting (c.pull + b.reaction) eoi (with_bit_read byte (not c.bit)) else Gathering eoi (count + 1) (with_bit_read byte (not c.bit))))) (cells_steps (not c.bit) (c2 ∷ cells) ++ ss) r2 q2) (sym (ne_eqb (count + 1) 8 few))
      (cells_follows atn eoi (not c.bit) (count + 1) (with_bit_read byte (not c.bit)) c2 cells ss q2 (omega (arith, e)) f)))
