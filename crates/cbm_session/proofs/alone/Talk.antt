-- A talker follows a frame of its own: the offer, the bits, and the accept.
use Rattle.cbm_session.proofs.Paces.{by_eight}
use Rattle.cbm_iec.specs.Profile.{bit_time, first_accept, half_bit}
use Rattle.std.proofs.Common.{◌≡◌, ℕ, ◌+◌, ◌*◌, ◌/◌, ◌%◌, ◌≤◌, ◌<◌, Bool, true, false, not, List, [], ◌∷◌, ◌++◌, length, Option, Some, None, ap, sym, ◌∙◌, subst, arith, refl, eq-eqb}
use Rattle.std.proofs.lemmas.Bool.{lt-leb, ne_eqb}
use Rattle.std.specs.Prelude.{if◌then◌else◌, ◌==◌, nat_le}
use Rattle.cbm_iec.specs.Ports.{port_due, reaction_act, reacted, changes_between, reaction_changes}
use Rattle.cbm_iec.specs.Speaking.{end_frame_row, set_bit_row, show_bit_row}
use Rattle.cbm_iec.specs.Table.{TableRow}
use Rattle.cbm_iec.specs.declared.machine.Act.TheVariants.{Said}
use Rattle.cbm_iec.specs.declared.machine.Act.{Act}
use Rattle.cbm_iec.specs.declared.lines.Line.TheVariants.{Clock, Data}
use Rattle.cbm_iec.specs.declared.lines.Way.TheVariants.{Pull, Free}
use Rattle.cbm_iec.specs.declared.lines.Held.{Held}
use Rattle.cbm_iec.specs.declared.mouth.Mouth.TheVariants.{Led, Sending, Waiting, Over}
use Rattle.cbm_iec.specs.declared.mouth.Mouth.{Mouth}
use Rattle.cbm_iec.specs.declared.party.Party.{Party}
use Rattle.cbm_iec.specs.declared.party.Role.TheVariants.{Talker}
use Rattle.cbm_iec.specs.declared.port.Port.{Port}
use Rattle.cbm_iec.specs.declared.port.Side.TheVariants.{Speaking}
use Rattle.cbm_session.proofs.alone.Frames.{wires, stands}
use Rattle.cbm_session.proofs.joining.OneDrive.{one_told}
use Rattle.cbm_session.specs.Bits.{where_held, data_for, number_of}
use Rattle.cbm_session.specs.Following.{IsLater, own_steps, reaction_steps, IsShown, Follows, ends, tells, reacts}
use Rattle.cbm_session.specs.Frames.{Told, is_last, bit_steps, ToldFits}
use Rattle.cbm_session.specs.Seats.{lines}
use Rattle.cbm_session.specs.Steps.{Step, host, drive, for_one}

-- sending, with DATA as the drive holds it
abbrev pub sends : Party → Bool → ℕ → ℕ → Bool → ℕ → ℕ → Port
sends b held at byte last left half = stands b Talker (lines false held) (wires false false false) (Speaking (Sending at byte last left half))

-- a reaction that counts no act
plain_shown : (ss : List Step) (a : Option Act) → a ≡ None → IsShown ss a
plain_shown ss a e = subst (λ (x : Option Act). IsShown ss x) (sym e) tt

pub reacts_as : (peek : Option (ℕ × Bool)) (q q1 q2 : Port) (t : ℕ) (ss more : List Step) → port_due q ≡ Some t → reaction_steps t peek q ≡ ss → reaction_act peek q ≡ None → reacted t peek q ≡ q1 → IsLater t more
    → Follows peek q1 more q2 → Follows peek q (ss ++ more) q2
reacts_as peek q q1 q2 t ss more d e a r l f =
    reacts t more d (ap (λ (zs : List Step). zs ++ more) (sym e)) (plain_shown (reaction_steps t peek q) (reaction_act peek q) a) l (subst (λ (x : Port). Follows peek x more q2) (sym r) f)

module _ (peek : Option (ℕ × Bool)) (b : Party) where
  -- what a half of a bit changes, by the tests that choose it
  -- the row of a half of a bit, by whether all halves came and whether it is a first one
  abbrev row_by : ℕ → Bool → ℕ → ℕ → Bool → Bool → TableRow Mouth
  row_by byte last left half over even = if over then end_frame_row byte last else (if even then set_bit_row b.pace byte last left half else show_bit_row b.pace byte last left half)

  abbrev half_mouth : ℕ → ℕ → Bool → ℕ → ℕ → Bool → Bool → Mouth
  half_mouth t byte last left half over even = (row_by byte last left half over even).next b.reaction t (wires false false false)

  -- the act of a half: none, as DATA is free
  no_act : (byte left half t : ℕ) (last held : Bool) → reaction_act peek (sends b held t byte last left half) ≡ None
  no_act byte left half t last held = go (nat_le 16 half) ((half % 2) == 0)
    where
      go : (v u : Bool) → (row_by byte last left half v u).act (wires false false false) ≡ None
      go true u = refl
      go false true = refl
      go false false = refl

  -- the first half: CLOCK is pulled, DATA by the bit
  first_half : (held bit last : Bool) (at byte left half : ℕ) (more : List Step) (q2 : Port) → nat_le 16 half ≡ false → ((half % 2) == 0) ≡ true → ((left % 2) == 0) ≡ not bit → IsLater at more
      → Follows peek (stands b Talker (lines true (not bit)) (wires false false false) (Speaking (Sending (at + half_bit b.pace) byte last left (half + 1)))) more q2
      → Follows peek (sends b held at byte last left half) ((drive b.device at Clock Pull ∷ data_for (λ way. drive b.device at Data way) held bit) ++ more) q2
  first_half held bit last at byte left half more q2 h e k l f =
      reacts_as peek (sends b held at byte last left half) (stands b Talker (lines true (not bit)) (wires false false false) (Speaking (Sending (at + half_bit b.pace) byte last left (half + 1)))) q2 at (drive b.device at Clock Pull ∷ data_for (λ way. drive b.device at Data way) held bit) more refl
      steps (no_act byte left half at last held) stood l f
    where
      shape : (held bit : Bool) → own_steps b.device (changes_between at (lines false held) (lines true (not bit))) None ≡ drive b.device at Clock Pull ∷ data_for (λ way. drive b.device at Data way) held bit
      shape true true = refl
      shape false true = refl
      shape true false = refl
      shape false false = refl

      own_is : (row_by byte last left half (nat_le 16 half) ((half % 2) == 0)).held (lines false held) ≡ lines true (not bit)
      own_is =
          ap (λ (v : Bool). (row_by byte last left half v ((half % 2) == 0)).held (lines false held)) h
          ∙ ap (λ (v : Bool). (row_by byte last left half false v).held (lines false held)) e
          ∙ ap (λ (v : Bool). lines true v) k

      mouth_is : half_mouth at byte last left half (nat_le 16 half) ((half % 2) == 0) ≡ Sending (at + half_bit b.pace) byte last left (half + 1)
      mouth_is = ap (λ (v : Bool). half_mouth at byte last left half v ((half % 2) == 0)) h ∙ ap (λ (v : Bool). half_mouth at byte last left half false v) e

      steps : reaction_steps at peek (sends b held at byte last left half) ≡ drive b.device at Clock Pull ∷ data_for (λ way. drive b.device at Data way) held bit
      steps =
          ap (λ (a : Option Act). own_steps b.device (reaction_changes at peek (sends b held at byte last left half)) a) (no_act byte left half at last held)
          ∙ ap (λ (o : Held). own_steps b.device (changes_between at (lines false held) o) None) own_is
          ∙ shape held bit

      stood : reacted at peek (sends b held at byte last left half) ≡ stands b Talker (lines true (not bit)) (wires false false false) (Speaking (Sending (at + half_bit b.pace) byte last left (half + 1)))
      stood =
          ap (λ (o : Held). stands b Talker o (wires false false false) (Speaking (half_mouth at byte last left half (nat_le 16 half) ((half % 2) == 0)))) own_is
          ∙ ap (λ (m : Mouth). stands b Talker (lines true (not bit)) (wires false false false) (Speaking m)) mouth_is

  -- the second half: CLOCK is freed
  second_half : (held last : Bool) (at byte left half : ℕ) (more : List Step) (q2 : Port) → nat_le 16 half ≡ false → ((half % 2) == 0) ≡ false → IsLater at more
      → Follows peek (sends b held (at + half_bit b.pace) byte last (left / 2) (half + 1)) more q2
      → Follows peek (stands b Talker (lines true held) (wires false false false) (Speaking (Sending at byte last left half))) (drive b.device at Clock Free ∷ more) q2
  second_half held last at byte left half more q2 h e l f =
      reacts_as peek (stands b Talker (lines true held) (wires false false false) (Speaking (Sending at byte last left half))) (sends b held (at + half_bit b.pace) byte last (left / 2) (half + 1)) q2 at (drive b.device at Clock Free ∷ []) more refl
      steps (no_act byte left half at last held) stood l f
    where
      shape : (held : Bool) → own_steps b.device (changes_between at (lines true held) (lines false held)) None ≡ drive b.device at Clock Free ∷ []
      shape true = refl
      shape false = refl

      own_is : (row_by byte last left half (nat_le 16 half) ((half % 2) == 0)).held (lines true held) ≡ lines false held
      own_is =
          ap (λ (v : Bool). (row_by byte last left half v ((half % 2) == 0)).held (lines true held)) h
          ∙ ap (λ (v : Bool). (row_by byte last left half false v).held (lines true held)) e

      mouth_is : half_mouth at byte last left half (nat_le 16 half) ((half % 2) == 0) ≡ Sending (at + half_bit b.pace) byte last (left / 2) (half + 1)
      mouth_is = ap (λ (v : Bool). half_mouth at byte last left half v ((half % 2) == 0)) h ∙ ap (λ (v : Bool). half_mouth at byte last left half false v) e

      steps : reaction_steps at peek (stands b Talker (lines true held) (wires false false false) (Speaking (Sending at byte last left half))) ≡ drive b.device at Clock Free ∷ []
      steps =
          ap (λ (a : Option Act). own_steps b.device (reaction_changes at peek (stands b Talker (lines true held) (wires false false false) (Speaking (Sending at byte last left half)))) a) (no_act byte left half at last held)
          ∙ ap (λ (o : Held). own_steps b.device (changes_between at (lines true held) o) None) own_is
          ∙ shape held

      stood : reacted at peek (stands b Talker (lines true held) (wires false false false) (Speaking (Sending at byte last left half))) ≡ sends b held (at + half_bit b.pace) byte last (left / 2) (half + 1)
      stood =
          ap (λ (o : Held). stands b Talker o (wires false false false) (Speaking (half_mouth at byte last left half (nat_le 16 half) ((half % 2) == 0)))) own_is
          ∙ ap (λ (m : Mouth). stands b Talker (lines false held) (wires false false false) (Speaking m)) mouth_is

  -- after the last bit it waits
  abbrev pub waits : ℕ → Bool → Port
  waits byte last = stands b Talker (lines true false) (wires false false false) (Speaking (Waiting byte last))

  last_half : (held last : Bool) (at byte left : ℕ) (more : List Step) (q2 : Port) → IsLater at more → Follows peek (waits byte last) more q2
      → Follows peek (sends b held at byte last left 16) ((drive b.device at Clock Pull ∷ where_held held (drive b.device at Data Free)) ++ more) q2
  last_half true last at byte left more q2 l f = reacts at more refl refl tt l f
  last_half false last at byte left more q2 l f = reacts at more refl refl tt l f

  low_bit : (bit : Bool) (n : ℕ) → ((((if bit then 1 else 0) + 2 * n) % 2) == 0) ≡ not bit
  low_bit true n = ne_eqb ((1 + 2 * n) % 2) 0 (omega arith)
  low_bit false n = eq-eqb ((0 + 2 * n) % 2) 0 (omega arith)

  rest_bits : (bit : Bool) (n : ℕ) → ((if bit then 1 else 0) + 2 * n) / 2 ≡ n
  rest_bits true n = omega arith
  rest_bits false n = omega arith

  -- the first step of bits is the drive's own
  bits_later : (t at : ℕ) (held : Bool) (bits : List Bool) (more : List Step) → IsLater t (bit_steps b at held bits ++ more)
  bits_later t at held [] more = tt
  bits_later t at held (bit ∷ bits) more = tt

  bits_follow : (held last : Bool) (at byte half : ℕ) (bits : List Bool) (more : List Step) (q2 : Port) → half + 2 * length bits ≡ 16 → IsLater (at + bit_time b.pace * length bits) more → Follows peek (waits byte last) more q2
      → Follows peek (sends b held at byte last (number_of bits) half) (bit_steps b at held bits ++ more) q2
  bits_follow held last at byte half [] more q2 e l f =
      let over : half ≡ 16 = omega (arith, e) in
      let here : IsLater at more = subst (λ (n : ℕ). IsLater n more) (omega arith) l in
      subst (λ (n : ℕ). Follows peek (sends b held at byte last 0 n) (bit_steps b at held [] ++ more) q2) (sym over) (last_half held last at byte 0 more q2 here f)
  bits_follow held last at byte half (bit ∷ bits) more q2 e l f =
      let left = (if bit then 1 else 0) + 2 * number_of bits in
      let few : half < 15 = omega (arith, e) in
      let even : half % 2 ≡ 0 = omega (arith, e) in
      let odd : (half + 1) % 2 ≡ 0 → ⊥ = λ (x : (half + 1) % 2 ≡ 0). omega (arith, x, even) in
      let steps = bit_steps b (at + bit_time b.pace) (not bit) bits in
      let late : IsLater (at + bit_time b.pace + bit_time b.pace * length bits) more = subst (λ (n : ℕ). IsLater n more) (omega arith) l in
      let next = bits_follow (not bit) last (at + bit_time b.pace) byte (half + 1 + 1) bits more q2 (omega (arith, e)) late f in
      let there : Follows peek (sends b (not bit) (at + half_bit b.pace + half_bit b.pace) byte last (left / 2) (half + 1 + 1)) (steps ++ more) q2 =
      subst (λ (n : ℕ). Follows peek (sends b (not bit) n byte last (left / 2) (half + 1 + 1)) (steps ++ more) q2) (omega arith)
      (subst (λ (n : ℕ). Follows peek (sends b (not bit) (at + bit_time b.pace) byte last n (half + 1 + 1)) (steps ++ more) q2) (sym (rest_bits bit (number_of bits))) next) in
      let second = second_half (not bit) last (at + half_bit b.pace) byte left (half + 1) (steps ++ more) q2 (lt-leb 16 (half + 1) (omega (arith, few))) (ne_eqb ((half + 1) % 2) 0 odd) (bits_later (at + half_bit b.pace) (at + bit_time b.pace) (not bit) bits more) there in
      let first = first_half held bit last at byte left half (drive b.device (at + half_bit b.pace) Clock Free ∷ (steps ++ more)) q2 (lt-leb 16 half (omega (arith, few))) (eq-eqb (half % 2) 0 even) (low_bit bit (number_of bits)) tt second in
      subst (λ (zs : List Step). Follows peek (sends b held at byte last left half) zs q2) (shape held bit steps) first
    where
      shape : (held bit : Bool) (steps : List Step) → (drive b.device at Clock Pull ∷ data_for (λ way. drive b.device at Data way) held bit) ++ (drive b.device (at + half_bit b.pace) Clock Free ∷ (steps ++ more))
          ≡ (drive b.device at Clock Pull ∷ (data_for (λ way. drive b.device at Data way) held bit ++ drive b.device (at + half_bit b.pace) Clock Free ∷ steps)) ++ more
      shape true true steps = refl
      shape false true steps = refl
      shape true false steps = refl
      shape false false steps = refl

  -- the accept: the byte is said, and the next is led or CLOCK freed
  abbrev pub said_port : ℕ → Bool → Port
  said_port accept true = stands b Talker (lines false false) (wires false false true) (Speaking Over)
  said_port accept false = stands b Talker (lines true false) (wires false false true) (Speaking (Led (accept + 100)))

  said_follows : (byte accept : ℕ) (last : Bool) → Follows peek (waits byte last) (for_one b.device (Said byte last) (host accept Data Pull) ∷ (if last then drive b.device (accept + b.reaction) Clock Free ∷ [] else [])) (said_port accept last)
  said_follows byte accept true = tells tt refl (reacts (accept + b.reaction) [] refl refl tt tt (ends refl))
  said_follows byte accept false = tells tt refl (ends refl)

-- a whole frame of the talker, from its lead
module _ (b : Party) (at : ℕ) (bits : List Bool) (free accept : ℕ) where
  abbrev leads : Port
  leads = stands b Talker (lines true false) (wires false false true) (Speaking (Led at))

  abbrev told_frame : Option (ℕ × ℕ) → Told
  told_frame x = record { bits = bits; free = free; signal = x; accept = accept }

  pub told_follows : (x : Option (ℕ × ℕ)) → ToldFits b at (told_frame x) → Follows (Some (number_of bits, is_last (told_frame x))) leads (one_told b at (told_frame x)) (said_port (Some (number_of bits, is_last (told_frame x))) b accept (is_last (told_frame x)))
  told_follows None h =
      let peek : Option (ℕ × Bool) = Some (number_of bits, false) in
      let eight = h.eight in
      let later = h.free in
      let taken : free + b.reaction + first_accept b.pace ≤ accept = h.accept in
      let all = said_follows peek b (number_of bits) accept false in
      let sent = bits_follow peek b false false (free + b.reaction) (number_of bits) 0 bits (for_one b.device (Said (number_of bits) false) (host accept Data Pull) ∷ []) (said_port peek b accept false) (omega (arith, eight)) (omega (arith, eight, taken, by_eight b.pace eight)) all in
      reacts at _ refl refl tt (omega (arith, later)) (tells tt refl sent)
  told_follows (Some (pull, again)) h =
      let peek : Option (ℕ × Bool) = Some (number_of bits, true) in
      let eight = h.eight in
      let later = h.free in
      let taken : again + b.reaction + first_accept b.pace ≤ accept = h.accept in
      let all = said_follows peek b (number_of bits) accept true in
      let sent = bits_follow peek b false true (again + b.reaction) (number_of bits) 0 bits (for_one b.device (Said (number_of bits) true) (host accept Data Pull) ∷ drive b.device (accept + b.reaction) Clock Free ∷ []) (said_port peek b accept true) (omega (arith, eight)) (omega (arith, eight, taken, by_eight b.pace eight)) all in
      reacts at _ refl refl tt (omega (arith, later)) (tells tt refl (tells tt refl (tells tt refl sent)))
