-- The host takes a byte of the talker: its bits, EOI or not, and the accept.
use Rattle.std.proofs.Common.{◌≡◌, ℕ, zero, suc, ◌+◌, ◌*◌, ◌/◌, ◌≤◌, ◌<◌, Bool, true, false, not, List, [], ◌∷◌, ◌++◌, length, Option, None, ap, sym, ◌∙◌, subst, arith, refl}
use Rattle.std.proofs.lemmas.Bool.{ne_eqb, le-leb}
use Rattle.std.specs.Prelude.{if◌then◌else◌, ◌==◌, nat_lt}
use Rattle.cbm_iec.specs.Hearing.{with_bit_read}
use Rattle.cbm_iec.specs.Profile.{half_bit, bit_time}
use Rattle.cbm_iec.specs.declared.machine.Act.TheVariants.{Said}
use Rattle.cbm_iec.specs.declared.lines.Line.TheVariants.{Clock, Data}
use Rattle.cbm_iec.specs.declared.lines.Way.TheVariants.{Pull, Free}
use Rattle.cbm_iec.specs.declared.party.Party.{Party}
use Rattle.cbm_iec.specs.declared.party.Role.{Role}
use Rattle.cbm_iec.specs.declared.party.Role.TheVariants.{Absent}
use Rattle.cbm_session.specs.Bits.{data_for, BitCell, number_of, bits_in_cells}
use Rattle.cbm_session.proofs.alone.Frames.{shifted, shifted_is}
use Rattle.cbm_session.specs.Frames.{bit_steps, signal_steps, first_bit}
use Rattle.cbm_session.specs.Steps.{Step, host, drive, for_one}
use Rattle.cbm_host.proofs.Composing.{performs_then}
use Rattle.cbm_host.specs.Engines.{Engined, taking_on}
use Rattle.cbm_host.specs.Framed.{bits_for, told_for}
use Rattle.cbm_host.specs.Performing.{Performs, ends, makes, sees, passes}
use Rattle.cbm_host.specs.Waits.{answer_wait}
use Rattle.cbm_host.specs.declared.stage.Stage.TheVariants.{Taking}
use Rattle.cbm_host.specs.declared.take.Came.{Came}
use Rattle.cbm_host.specs.declared.take.Take.{Take}
use Rattle.cbm_host.specs.declared.take.Take.TheVariants.{Awaiting, Listening, Gathering, Accepting}

abbrev pub came : ℕ → ℕ → Bool → Bool → Came
came count byte low last = record { count = count; byte = byte; low = low; last = last }

-- the byte as its bits come in at the top
abbrev pub came_in : ℕ → List Bool → ℕ
came_in byte [] = byte
came_in byte (bit ∷ bits) = came_in (with_bit_read byte (not bit)) bits

module _ (b : Party) (left : List ℕ) (most : ℕ) where
  abbrev pub taking : Take → Engined
  taking take = record { stage = Taking take; left = left; most = most }

  -- a bit comes: CLOCK is pulled, DATA set, CLOCK freed
  bit_seen : (held bit last : Bool) (at count byte : ℕ) (more : List Step) (e2 : Engined) → (count == 8) ≡ false → nat_lt count 8 ≡ true
      → Performs (taking (Gathering (came (count + 1) (with_bit_read byte (not bit)) (not bit) last))) more e2
      → Performs (taking (Gathering (came count byte held last))) (drive b.device at Clock Pull ∷ (data_for (λ way. drive b.device at Data way) held bit ++ drive b.device (at + half_bit b.pace) Clock Free ∷ more)) e2
  bit_seen held bit last at count byte more e2 some few k =
      sees tt (subst (λ (v : Bool). Performs (taking (if v then Accepting (at + answer_wait) byte last else Gathering (came count byte held last))) (data_for (λ way. drive b.device at Data way) held bit ++ drive b.device (at + half_bit b.pace) Clock Free ∷ more) e2) (sym some)
      (set held bit))
    where
      shown : (bit : Bool) → Performs (taking (Gathering (came (count + 1) (with_bit_read byte (not bit)) (not bit) last))) more e2 → Performs (taking (Gathering (came count byte (not bit) last))) (drive b.device (at + half_bit b.pace) Clock Free ∷ more) e2
      shown bit k = sees tt (subst (λ (v : Bool). Performs (taking (if v then Gathering (came (count + 1) (with_bit_read byte (not bit)) (not bit) last) else Gathering (came count byte (not bit) last))) more e2) (sym few) k)

      by_bit : (held bit : Bool) → Performs (taking (Gathering (came (count + 1) (with_bit_read byte (not bit)) (not bit) last))) more e2
          → Performs (taking (Gathering (came count byte held last))) (data_for (λ way. drive b.device at Data way) held bit ++ drive b.device (at + half_bit b.pace) Clock Free ∷ more) e2
      by_bit true true k = sees tt (shown true k)
      by_bit false true k = shown true k
      by_bit true false k = shown false k
      by_bit false false k = sees tt (shown false k)

      set : (held bit2 : Bool) → Performs (taking (Gathering (came count byte held last))) (data_for (λ way. drive b.device at Data way) held bit ++ drive b.device (at + half_bit b.pace) Clock Free ∷ more) e2
      set held bit2 = by_bit held bit k

  -- all bits, and the end of the eighth
  bits_seen : (bits : List Bool) (held last : Bool) (at count byte : ℕ) → count + length bits ≡ 8
      → Performs (taking (Gathering (came count byte held last))) (bit_steps b at held bits) (taking (Accepting (at + bit_time b.pace * length bits + answer_wait) (came_in byte bits) last))
  bits_seen [] held last at count byte e =
      let eight : count ≡ 8 = omega (arith, e) in
      let same : at + bit_time b.pace * 0 ≡ at = omega arith in
      subst (λ (n : ℕ). Performs (taking (Gathering (came n byte held last))) (bit_steps b at held []) (taking (Accepting (at + bit_time b.pace * 0 + answer_wait) byte last))) (sym eight)
      (subst (λ (n : ℕ). Performs (taking (Gathering (came 8 byte held last))) (bit_steps b at held []) (taking (Accepting (n + answer_wait) byte last))) (sym same) (over held))
    where
      over : (held : Bool) → Performs (taking (Gathering (came 8 byte held last))) (bit_steps b at held []) (taking (Accepting (at + answer_wait) byte last))
      over true = sees tt (sees (omega arith) (ends refl))
      over false = sees tt (ends refl)
  bits_seen (bit ∷ bits) held last at count byte e =
      let rest = bits_seen bits (not bit) last (at + bit_time b.pace) (count + 1) (with_bit_read byte (not bit)) (omega (arith, e)) in
      let same : at + bit_time b.pace + bit_time b.pace * length bits ≡ at + bit_time b.pace * length (bit ∷ bits) = omega arith in
      let next = subst (λ (n : ℕ). Performs (taking (Gathering (came (count + 1) (with_bit_read byte (not bit)) (not bit) last))) (bit_steps b (at + bit_time b.pace) (not bit) bits) (taking (Accepting (n + answer_wait) (came_in (with_bit_read byte (not bit)) bits) last))) same rest in
      bit_seen held bit last at count byte (bit_steps b (at + bit_time b.pace) (not bit) bits) (taking (Accepting (at + bit_time b.pace * length (bit ∷ bits) + answer_wait) (came_in (with_bit_read byte (not bit)) bits) last))
      (ne_eqb count 8 (λ (x : count ≡ 8). omega (arith, x, e))) (le-leb (suc count) 8 (omega (arith, e))) next

  -- the byte that came is the number of its bits
  abbrev as_cells : List Bool → List BitCell
  as_cells [] = []
  as_cells (bit ∷ bits) = record { bit = bit; set = 0; free = 0; pull = 0 } ∷ as_cells bits

  shifted_in : (peek : Option (ℕ × Bool)) (r : Role) (bits : List Bool) (byte : ℕ) → shifted peek b r byte (as_cells bits) ≡ came_in byte bits
  shifted_in peek r [] byte = refl
  shifted_in peek r (bit ∷ bits) byte = shifted_in peek r bits (with_bit_read byte (not bit))

  cells_bits : (bits : List Bool) → bits_in_cells (as_cells bits) ≡ bits
  cells_bits [] = refl
  cells_bits (bit ∷ bits) = ap (λ (zs : List Bool). bit ∷ zs) (cells_bits bits)

  cells_many : (bits : List Bool) → length (as_cells bits) ≡ length bits
  cells_many [] = refl
  cells_many (bit ∷ bits) = ap suc (cells_many bits)

  pub came_is : (bits : List Bool) → length bits ≡ 8 → came_in 0 bits ≡ number_of bits
  came_is bits e =
      sym (shifted_in None Absent bits 0) ∙ (shifted_is None b Absent (as_cells bits) (cells_many bits ∙ e) ∙ ap number_of (cells_bits bits))

  pub bits_count : (n l : ℕ) → length (bits_for n l) ≡ n
  bits_count zero l = refl
  bits_count (suc n) l = ap suc (bits_count n (l / 2))

  -- the eight bits of a byte, from a moment on, up to the accept
  byte_seen : (last : Bool) (at byte : ℕ) → let n = number_of (bits_for 8 byte) in
      Performs (taking (Gathering (came 0 0 false last))) (bit_steps b at false (bits_for 8 byte)) (taking (Accepting (at + 8 * bit_time b.pace + answer_wait) n last))
  byte_seen last at byte =
      let all = bits_seen (bits_for 8 byte) false last at 0 0 (bits_count 8 byte) in
      let long : at + bit_time b.pace * length (bits_for 8 byte) ≡ at + 8 * bit_time b.pace = ap (λ (n : ℕ). at + bit_time b.pace * n) (bits_count 8 byte) ∙ omega arith in
      let same = came_is (bits_for 8 byte) (bits_count 8 byte) in
      subst (λ (n : ℕ). Performs (taking (Gathering (came 0 0 false last))) (bit_steps b at false (bits_for 8 byte)) (taking (Accepting (at + 8 * bit_time b.pace + answer_wait) n last))) same
      (subst (λ (n : ℕ). Performs (taking (Gathering (came 0 0 false last))) (bit_steps b at false (bits_for 8 byte)) (taking (Accepting (n + answer_wait) (came_in 0 (bits_for 8 byte)) last))) long all)

  -- the first pull of CLOCK tells that the byte isn't the last
  listening : (until at : ℕ) (more : List Step) (e2 : Engined) → at < until → Performs (taking (Gathering (came 0 0 false false))) (drive b.device at Clock Pull ∷ more) e2
      → Performs (taking (Listening until)) (drive b.device at Clock Pull ∷ more) e2
  listening until at more e2 l (sees early k) = sees l k
  listening until at more e2 l (passes u due silent k) = absurd cc

  -- the accept
  abbrev accept_of : Bool → ℕ → ℕ → List Step
  accept_of last at byte = for_one b.device (Said (number_of (bits_for 8 byte)) last) (host ((told_for b last byte at).accept) Data Pull) ∷ []

  -- a whole frame of the talker, up to the accept
  pub told_performed : (last : Bool) (byte at : ℕ) → b.reaction ≤ 60 → let f = told_for b last byte at in
      Performs (taking Awaiting) (drive b.device at Clock Free ∷ host f.free Data Free ∷ (signal_steps f.signal ++ (bit_steps b (first_bit b f) false f.bits ++ accept_of last at byte))) (taking_on f.accept last (record { stage = Taking Awaiting; left = left; most = most }))
  told_performed false byte at prompt =
      let free = at + answer_wait in
      let all = performs_then (byte_seen false (free + b.reaction) byte) (makes refl refl (ends refl)) in
      sees tt (makes refl refl (listening (free + 200) (free + b.reaction) _ _ (omega (arith, prompt)) all))
  told_performed true byte at prompt =
      let free = at + answer_wait in
      sees tt (makes refl refl (passes (free + 200) refl tt (makes refl refl (makes refl refl (performs_then (byte_seen true (free + 200 + 60 + b.reaction) byte) (makes refl refl (ends refl)))))))
