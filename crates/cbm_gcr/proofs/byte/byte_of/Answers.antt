use Rattle.std.proofs.Common.{◌≡◌, ℕ, ◌+◌, ◌*◌, ◌/◌, ◌%◌, ◌<◌, Some, arith, ap, sym, ◌∙◌}
use Rattle.cbm_gcr.specs.Code.{nibble_code, ten_bits}
use Rattle.cbm_gcr.proofs.Bits.{nibble_below}
use Rattle.cbm_gcr.proofs.byte.byte_of.Goals as goal

-- the two nibbles of a byte whose code ten bits are
high_in : (ten b : ℕ) → b < 256 → ten ≡ ten_bits b → ten / 32 ≡ nibble_code (b / 16)
high_in ten b h e = omega (arith, nibble_below (b / 16) (omega arith), nibble_below (b % 16) (omega arith))

low_in : (ten b : ℕ) → b < 256 → ten ≡ ten_bits b → ten % 32 ≡ nibble_code (b % 16)
low_in ten b h e = omega (arith, nibble_below (b / 16) (omega arith), nibble_below (b % 16) (omega arith))

pub returns-then-byte-lt256 : goal.returns-then-byte-lt256
returns-then-byte-lt256 c =
    let h : ℕ = c.high_of.result in
    let l : ℕ = c.low_of.result in
    let low = c.low_of.ensures.known (omega (arith, c.if-byte-lt256.true)) in
    let high = c.high_of.ensures.known (omega (arith, c.if-byte-lt256.true)) in
    λ b hb. (
      λ e.
          let same : h + l ≡ b = cc in
          let m : b / 16 ≡ h / 16 = omega (arith, high.0, low.0) in
          let n : b % 16 ≡ l = omega (arith, high.0, low.0) in
          omega (arith, high.1 ∙ ap nibble_code (sym m), low.1 ∙ ap nibble_code (sym n)),
      λ e.
          let m : h ≡ 16 * (b / 16) = c.high_of.ensures.value (b / 16) (omega arith) (high_in c.args.ten b hb e) in
          let n : l ≡ b % 16 = c.low_of.ensures.value (b % 16) (omega arith) (low_in c.args.ten b hb e) in
          ap Some (omega arith),
    )

pub returns-else-byte-lt256 : goal.returns-else-byte-lt256
returns-else-byte-lt256 c = λ b hb. (
  λ e. absurd (cc),
  λ e.
      let m : c.high_of.result ≡ 16 * (b / 16) = c.high_of.ensures.value (b / 16) (omega arith) (high_in c.args.ten b hb e) in
      let n : c.low_of.result ≡ b % 16 = c.low_of.ensures.value (b % 16) (omega arith) (low_in c.args.ten b hb e) in
      absurd (omega (arith, c.if-byte-lt256.false)),
)
