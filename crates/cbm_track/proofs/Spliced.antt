-- A byte written across two others, or over the whole of one: what the two are then, bit by bit.
use Rattle.std.proofs.Common.{◌≡◌, ℕ, zero, suc, ◌+◌, ◌*◌, ◌-◌, ◌/◌, ◌%◌, ◌^◌, ◌<◌, ◌≤◌, ap, arith}
use Rattle.std.proofs.Math.Nat.{mod-eq_of_lt}
use Rattle.std.specs.Prelude.{◌==◌}
use Rattle.cbm_track.proofs.Bytes.{bit_in}

-- the byte in which the written one begins at bit s, and the byte in which it ends
abbrev pub front_of : ℕ → ℕ → ℕ → ℕ
front_of x b s = x / 2 ^ (8 - s) * 2 ^ (8 - s) + b / 2 ^ s

abbrev pub back_of : ℕ → ℕ → ℕ → ℕ
back_of y b s = b % 2 ^ s * 2 ^ (8 - s) + y % 2 ^ (8 - s)

pub front_kept : (x b s k : ℕ) → b < 256 → s < 8 → k < 8 → k < s → bit_in (front_of x b s) k ≡ bit_in x k
front_kept x b zero k q l m h = absurd (omega arith)
front_kept x b (suc zero) zero q l m h = let e : (x / 128 * 128 + b / 2) / 128 % 2 ≡ x / 128 % 2 = omega arith in ap (λ (n : ℕ). n == 1) e
front_kept x b (suc zero) (suc zero) q l m h = absurd (omega arith)
front_kept x b (suc zero) (suc (suc zero)) q l m h = absurd (omega arith)
front_kept x b (suc zero) (suc (suc (suc zero))) q l m h = absurd (omega arith)
front_kept x b (suc zero) (suc (suc (suc (suc zero)))) q l m h = absurd (omega arith)
front_kept x b (suc zero) (suc (suc (suc (suc (suc zero))))) q l m h = absurd (omega arith)
front_kept x b (suc zero) (suc (suc (suc (suc (suc (suc zero)))))) q l m h = absurd (omega arith)
front_kept x b (suc zero) (suc (suc (suc (suc (suc (suc (suc zero))))))) q l m h = absurd (omega arith)
front_kept x b (suc zero) (suc (suc (suc (suc (suc (suc (suc (suc k)))))))) q l m h = absurd (omega arith)
front_kept x b (suc (suc zero)) zero q l m h = let e : (x / 64 * 64 + b / 4) / 128 % 2 ≡ x / 128 % 2 = omega arith in ap (λ (n : ℕ). n == 1) e
front_kept x b (suc (suc zero)) (suc zero) q l m h = let e : (x / 64 * 64 + b / 4) / 64 % 2 ≡ x / 64 % 2 = omega arith in ap (λ (n : ℕ). n == 1) e
front_kept x b (suc (suc zero)) (suc (suc zero)) q l m h = absurd (omega arith)
front_kept x b (suc (suc zero)) (suc (suc (suc zero))) q l m h = absurd (omega arith)
front_kept x b (suc (suc zero)) (suc (suc (suc (suc zero)))) q l m h = absurd (omega arith)
front_kept x b (suc (suc zero)) (suc (suc (suc (suc (suc zero))))) q l m h = absurd (omega arith)
front_kept x b (suc (suc zero)) (suc (suc (suc (suc (suc (suc zero)))))) q l m h = absurd (omega arith)
front_kept x b (suc (suc zero)) (suc (suc (suc (suc (suc (suc (suc zero))))))) q l m h = absurd (omega arith)
front_kept x b (suc (suc zero)) (suc (suc (suc (suc (suc (suc (suc (suc k)))))))) q l m h = absurd (omega arith)
front_kept x b (suc (suc (suc zero))) zero q l m h = let e : (x / 32 * 32 + b / 8) / 128 % 2 ≡ x / 128 % 2 = omega arith in ap (λ (n : ℕ). n == 1) e
front_kept x b (suc (suc (suc zero))) (suc zero) q l m h = let e : (x / 32 * 32 + b / 8) / 64 % 2 ≡ x / 64 % 2 = omega arith in ap (λ (n : ℕ). n == 1) e
front_kept x b (suc (suc (suc zero))) (suc (suc zero)) q l m h = let e : (x / 32 * 32 + b / 8) / 32 % 2 ≡ x / 32 % 2 = omega arith in ap (λ (n : ℕ). n == 1) e
front_kept x b (suc (suc (suc zero))) (suc (suc (suc zero))) q l m h = absurd (omega arith)
front_kept x b (suc (suc (suc zero))) (suc (suc (suc (suc zero)))) q l m h = absurd (omega arith)
front_kept x b (suc (suc (suc zero))) (suc (suc (suc (suc (suc zero))))) q l m h = absurd (omega arith)
front_kept x b (suc (suc (suc zero))) (suc (suc (suc (suc (suc (suc zero)))))) q l m h = absurd (omega arith)
front_kept x b (suc (suc (suc zero))) (suc (suc (suc (suc (suc (suc (suc zero))))))) q l m h = absurd (omega arith)
front_kept x b (suc (suc (suc zero))) (suc (suc (suc (suc (suc (suc (suc (suc k)))))))) q l m h = absurd (omega arith)
front_kept x b (suc (suc (suc (suc zero)))) zero q l m h = let e : (x / 16 * 16 + b / 16) / 128 % 2 ≡ x / 128 % 2 = omega arith in ap (λ (n : ℕ). n == 1) e
front_kept x b (suc (suc (suc (suc zero)))) (suc zero) q l m h = let e : (x / 16 * 16 + b / 16) / 64 % 2 ≡ x / 64 % 2 = omega arith in ap (λ (n : ℕ). n == 1) e
front_kept x b (suc (suc (suc (suc zero)))) (suc (suc zero)) q l m h = let e : (x / 16 * 16 + b / 16) / 32 % 2 ≡ x / 32 % 2 = omega arith in ap (λ (n : ℕ). n == 1) e
front_kept x b (suc (suc (suc (suc zero)))) (suc (suc (suc zero))) q l m h = let e : (x / 16 * 16 + b / 16) / 16 % 2 ≡ x / 16 % 2 = omega arith in ap (λ (n : ℕ). n == 1) e
front_kept x b (suc (suc (suc (suc zero)))) (suc (suc (suc (suc zero)))) q l m h = absurd (omega arith)
front_kept x b (suc (suc (suc (suc zero)))) (suc (suc (suc (suc (suc zero))))) q l m h = absurd (omega arith)
front_kept x b (suc (suc (suc (suc zero)))) (suc (suc (suc (suc (suc (suc zero)))))) q l m h = absurd (omega arith)
front_kept x b (suc (suc (suc (suc zero)))) (suc (suc (suc (suc (suc (suc (suc zero))))))) q l m h = absurd (omega arith)
front_kept x b (suc (suc (suc (suc zero)))) (suc (suc (suc (suc (suc (suc (suc (suc k)))))))) q l m h = absurd (omega arith)
front_kept x b (suc (suc (suc (suc (suc zero))))) zero q l m h = let e : (x / 8 * 8 + b / 32) / 128 % 2 ≡ x / 128 % 2 = omega arith in ap (λ (n : ℕ). n == 1) e
front_kept x b (suc (suc (suc (suc (suc zero))))) (suc zero) q l m h = let e : (x / 8 * 8 + b / 32) / 64 % 2 ≡ x / 64 % 2 = omega arith in ap (λ (n : ℕ). n == 1) e
front_kept x b (suc (suc (suc (suc (suc zero))))) (suc (suc zero)) q l m h = let e : (x / 8 * 8 + b / 32) / 32 % 2 ≡ x / 32 % 2 = omega arith in ap (λ (n : ℕ). n == 1) e
front_kept x b (suc (suc (suc (suc (suc zero))))) (suc (suc (suc zero))) q l m h = let e : (x / 8 * 8 + b / 32) / 16 % 2 ≡ x / 16 % 2 = omega arith in ap (λ (n : ℕ). n == 1) e
front_kept x b (suc (suc (suc (suc (suc zero))))) (suc (suc (suc (suc zero)))) q l m h = let e : (x / 8 * 8 + b / 32) / 8 % 2 ≡ x / 8 % 2 = omega arith in ap (λ (n : ℕ). n == 1) e
front_kept x b (suc (suc (suc (suc (suc zero))))) (suc (suc (suc (suc (suc zero))))) q l m h = absurd (omega arith)
front_kept x b (suc (suc (suc (suc (suc zero))))) (suc (suc (suc (suc (suc (suc zero)))))) q l m h = absurd (omega arith)
front_kept x b (suc (suc (suc (suc (suc zero))))) (suc (suc (suc (suc (suc (suc (suc zero))))))) q l m h = absurd (omega arith)
front_kept x b (suc (suc (suc (suc (suc zero))))) (suc (suc (suc (suc (suc (suc (suc (suc k)))))))) q l m h = absurd (omega arith)
front_kept x b (suc (suc (suc (suc (suc (suc zero)))))) zero q l m h = let e : (x / 4 * 4 + b / 64) / 128 % 2 ≡ x / 128 % 2 = omega arith in ap (λ (n : ℕ). n == 1) e
front_kept x b (suc (suc (suc (suc (suc (suc zero)))))) (suc zero) q l m h = let e : (x / 4 * 4 + b / 64) / 64 % 2 ≡ x / 64 % 2 = omega arith in ap (λ (n : ℕ). n == 1) e
front_kept x b (suc (suc (suc (suc (suc (suc zero)))))) (suc (suc zero)) q l m h = let e : (x / 4 * 4 + b / 64) / 32 % 2 ≡ x / 32 % 2 = omega arith in ap (λ (n : ℕ). n == 1) e
front_kept x b (suc (suc (suc (suc (suc (suc zero)))))) (suc (suc (suc zero))) q l m h = let e : (x / 4 * 4 + b / 64) / 16 % 2 ≡ x / 16 % 2 = omega arith in ap (λ (n : ℕ). n == 1) e
front_kept x b (suc (suc (suc (suc (suc (suc zero)))))) (suc (suc (suc (suc zero)))) q l m h = let e : (x / 4 * 4 + b / 64) / 8 % 2 ≡ x / 8 % 2 = omega arith in ap (λ (n : ℕ). n == 1) e
front_kept x b (suc (suc (suc (suc (suc (suc zero)))))) (suc (suc (suc (suc (suc zero))))) q l m h = let e : (x / 4 * 4 + b / 64) / 4 % 2 ≡ x / 4 % 2 = omega arith in ap (λ (n : ℕ). n == 1) e
front_kept x b (suc (suc (suc (suc (suc (suc zero)))))) (suc (suc (suc (suc (suc (suc zero)))))) q l m h = absurd (omega arith)
front_kept x b (suc (suc (suc (suc (suc (suc zero)))))) (suc (suc (suc (suc (suc (suc (suc zero))))))) q l m h = absurd (omega arith)
front_kept x b (suc (suc (suc (suc (suc (suc zero)))))) (suc (suc (suc (suc (suc (suc (suc (suc k)))))))) q l m h = absurd (omega arith)
front_kept x b (suc (suc (suc (suc (suc (suc (suc zero))))))) zero q l m h = let e : (x / 2 * 2 + b / 128) / 128 % 2 ≡ x / 128 % 2 = omega arith in ap (λ (n : ℕ). n == 1) e
front_kept x b (suc (suc (suc (suc (suc (suc (suc zero))))))) (suc zero) q l m h = let e : (x / 2 * 2 + b / 128) / 64 % 2 ≡ x / 64 % 2 = omega arith in ap (λ (n : ℕ). n == 1) e
front_kept x b (suc (suc (suc (suc (suc (suc (suc zero))))))) (suc (suc zero)) q l m h = let e : (x / 2 * 2 + b / 128) / 32 % 2 ≡ x / 32 % 2 = omega arith in ap (λ (n : ℕ). n == 1) e
front_kept x b (suc (suc (suc (suc (suc (suc (suc zero))))))) (suc (suc (suc zero))) q l m h = let e : (x / 2 * 2 + b / 128) / 16 % 2 ≡ x / 16 % 2 = omega arith in ap (λ (n : ℕ). n == 1) e
front_kept x b (suc (suc (suc (suc (suc (suc (suc zero))))))) (suc (suc (suc (suc zero)))) q l m h = let e : (x / 2 * 2 + b / 128) / 8 % 2 ≡ x / 8 % 2 = omega arith in ap (λ (n : ℕ). n == 1) e
front_kept x b (suc (suc (suc (suc (suc (suc (suc zero))))))) (suc (suc (suc (suc (suc zero))))) q l m h = let e : (x / 2 * 2 + b / 128) / 4 % 2 ≡ x / 4 % 2 = omega arith in ap (λ (n : ℕ). n == 1) e
front_kept x b (suc (suc (suc (suc (suc (suc (suc zero))))))) (suc (suc (suc (suc (suc (suc zero)))))) q l m h = let e : (x / 2 * 2 + b / 128) / 2 % 2 ≡ x / 2 % 2 = omega arith in ap (λ (n : ℕ). n == 1) e
front_kept x b (suc (suc (suc (suc (suc (suc (suc zero))))))) (suc (suc (suc (suc (suc (suc (suc zero))))))) q l m h = absurd (omega arith)
front_kept x b (suc (suc (suc (suc (suc (suc (suc zero))))))) (suc (suc (suc (suc (suc (suc (suc (suc k)))))))) q l m h = absurd (omega arith)
front_kept x b (suc (suc (suc (suc (suc (suc (suc (suc s)))))))) k q l m h = absurd (omega arith)

pub front_new : (x b s k : ℕ) → b < 256 → s < 8 → k < 8 → s ≤ k → bit_in (front_of x b s) k ≡ bit_in b (k - s)
front_new x b zero zero q l m h = let e : (x / 256 * 256 + b / 1) / 128 % 2 ≡ b / 128 % 2 = omega arith in ap (λ (n : ℕ). n == 1) e
front_new x b zero (suc zero) q l m h = let e : (x / 256 * 256 + b / 1) / 64 % 2 ≡ b / 64 % 2 = omega arith in ap (λ (n : ℕ). n == 1) e
front_new x b zero (suc (suc zero)) q l m h = let e : (x / 256 * 256 + b / 1) / 32 % 2 ≡ b / 32 % 2 = omega arith in ap (λ (n : ℕ). n == 1) e
front_new x b zero (suc (suc (suc zero))) q l m h = let e : (x / 256 * 256 + b / 1) / 16 % 2 ≡ b / 16 % 2 = omega arith in ap (λ (n : ℕ). n == 1) e
front_new x b zero (suc (suc (suc (suc zero)))) q l m h = let e : (x / 256 * 256 + b / 1) / 8 % 2 ≡ b / 8 % 2 = omega arith in ap (λ (n : ℕ). n == 1) e
front_new x b zero (suc (suc (suc (suc (suc zero))))) q l m h = let e : (x / 256 * 256 + b / 1) / 4 % 2 ≡ b / 4 % 2 = omega arith in ap (λ (n : ℕ). n == 1) e
front_new x b zero (suc (suc (suc (suc (suc (suc zero)))))) q l m h = let e : (x / 256 * 256 + b / 1) / 2 % 2 ≡ b / 2 % 2 = omega arith in ap (λ (n : ℕ). n == 1) e
front_new x b zero (suc (suc (suc (suc (suc (suc (suc zero))))))) q l m h = let e : (x / 256 * 256 + b / 1) / 1 % 2 ≡ b / 1 % 2 = omega arith in ap (λ (n : ℕ). n == 1) e
front_new x b zero (suc (suc (suc (suc (suc (suc (suc (suc k)))))))) q l m h = absurd (omega arith)
front_new x b (suc zero) zero q l m h = absurd (omega arith)
front_new x b (suc zero) (suc zero) q l m h = let e : (x / 128 * 128 + b / 2) / 64 % 2 ≡ b / 128 % 2 = omega arith in ap (λ (n : ℕ). n == 1) e
front_new x b (suc zero) (suc (suc zero)) q l m h = let e : (x / 128 * 128 + b / 2) / 32 % 2 ≡ b / 64 % 2 = omega arith in ap (λ (n : ℕ). n == 1) e
front_new x b (suc zero) (suc (suc (suc zero))) q l m h = let e : (x / 128 * 128 + b / 2) / 16 % 2 ≡ b / 32 % 2 = omega arith in ap (λ (n : ℕ). n == 1) e
front_new x b (suc zero) (suc (suc (suc (suc zero)))) q l m h = let e : (x / 128 * 128 + b / 2) / 8 % 2 ≡ b / 16 % 2 = omega arith in ap (λ (n : ℕ). n == 1) e
front_new x b (suc zero) (suc (suc (suc (suc (suc zero))))) q l m h = let e : (x / 128 * 128 + b / 2) / 4 % 2 ≡ b / 8 % 2 = omega arith in ap (λ (n : ℕ). n == 1) e
front_new x b (suc zero) (suc (suc (suc (suc (suc (suc zero)))))) q l m h = let e : (x / 128 * 128 + b / 2) / 2 % 2 ≡ b / 4 % 2 = omega arith in ap (λ (n : ℕ). n == 1) e
front_new x b (suc zero) (suc (suc (suc (suc (suc (suc (suc zero))))))) q l m h = let e : (x / 128 * 128 + b / 2) / 1 % 2 ≡ b / 2 % 2 = omega arith in ap (λ (n : ℕ). n == 1) e
front_new x b (suc zero) (suc (suc (suc (suc (suc (suc (suc (suc k)))))))) q l m h = absurd (omega arith)
front_new x b (suc (suc zero)) zero q l m h = absurd (omega arith)
front_new x b (suc (suc zero)) (suc zero) q l m h = absurd (omega arith)
front_new x b (suc (suc zero)) (suc (suc zero)) q l m h = let e : (x / 64 * 64 + b / 4) / 32 % 2 ≡ b / 128 % 2 = omega arith in ap (λ (n : ℕ). n == 1) e
front_new x b (suc (suc zero)) (suc (suc (suc zero))) q l m h = let e : (x / 64 * 64 + b / 4) / 16 % 2 ≡ b / 64 % 2 = omega arith in ap (λ (n : ℕ). n == 1) e
front_new x b (suc (suc zero)) (suc (suc (suc (suc zero)))) q l m h = let e : (x / 64 * 64 + b / 4) / 8 % 2 ≡ b / 32 % 2 = omega arith in ap (λ (n : ℕ). n == 1) e
front_new x b (suc (suc zero)) (suc (suc (suc (suc (suc zero))))) q l m h = let e : (x / 64 * 64 + b / 4) / 4 % 2 ≡ b / 16 % 2 = omega arith in ap (λ (n : ℕ). n == 1) e
front_new x b (suc (suc zero)) (suc (suc (suc (suc (suc (suc zero)))))) q l m h = let e : (x / 64 * 64 + b / 4) / 2 % 2 ≡ b / 8 % 2 = omega arith in ap (λ (n : ℕ). n == 1) e
front_new x b (suc (suc zero)) (suc (suc (suc (suc (suc (suc (suc zero))))))) q l m h = let e : (x / 64 * 64 + b / 4) / 1 % 2 ≡ b / 4 % 2 = omega arith in ap (λ (n : ℕ). n == 1) e
front_new x b (suc (suc zero)) (suc (suc (suc (suc (suc (suc (suc (suc k)))))))) q l m h = absurd (omega arith)
front_new x b (suc (suc (suc zero))) zero q l m h = absurd (omega arith)
front_new x b (suc (suc (suc zero))) (suc zero) q l m h = absurd (omega arith)
front_new x b (suc (suc (suc zero))) (suc (suc zero)) q l m h = absurd (omega arith)
front_new x b (suc (suc (suc zero))) (suc (suc (suc zero))) q l m h = let e : (x / 32 * 32 + b / 8) / 16 % 2 ≡ b / 128 % 2 = omega arith in ap (λ (n : ℕ). n == 1) e
front_new x b (suc (suc (suc zero))) (suc (suc (suc (suc zero)))) q l m h = let e : (x / 32 * 32 + b / 8) / 8 % 2 ≡ b / 64 % 2 = omega arith in ap (λ (n : ℕ). n == 1) e
front_new x b (suc (suc (suc zero))) (suc (suc (suc (suc (suc zero))))) q l m h = let e : (x / 32 * 32 + b / 8) / 4 % 2 ≡ b / 32 % 2 = omega arith in ap (λ (n : ℕ). n == 1) e
front_new x b (suc (suc (suc zero))) (suc (suc (suc (suc (suc (suc zero)))))) q l m h = let e : (x / 32 * 32 + b / 8) / 2 % 2 ≡ b / 16 % 2 = omega arith in ap (λ (n : ℕ). n == 1) e
front_new x b (suc (suc (suc zero))) (suc (suc (suc (suc (suc (suc (suc zero))))))) q l m h = let e : (x / 32 * 32 + b / 8) / 1 % 2 ≡ b / 8 % 2 = omega arith in ap (λ (n : ℕ). n == 1) e
front_new x b (suc (suc (suc zero))) (suc (suc (suc (suc (suc (suc (suc (suc k)))))))) q l m h = absurd (omega arith)
front_new x b (suc (suc (suc (suc zero)))) zero q l m h = absurd (omega arith)
front_new x b (suc (suc (suc (suc zero)))) (suc zero) q l m h = absurd (omega arith)
front_new x b (suc (suc (suc (suc zero)))) (suc (suc zero)) q l m h = absurd (omega arith)
front_new x b (suc (suc (suc (suc zero)))) (suc (suc (suc zero))) q l m h = absurd (omega arith)
front_new x b (suc (suc (suc (suc zero)))) (suc (suc (suc (suc zero)))) q l m h = let e : (x / 16 * 16 + b / 16) / 8 % 2 ≡ b / 128 % 2 = omega arith in ap (λ (n : ℕ). n == 1) e
front_new x b (suc (suc (suc (suc zero)))) (suc (suc (suc (suc (suc zero))))) q l m h = let e : (x / 16 * 16 + b / 16) / 4 % 2 ≡ b / 64 % 2 = omega arith in ap (λ (n : ℕ). n == 1) e
front_new x b (suc (suc (suc (suc zero)))) (suc (suc (suc (suc (suc (suc zero)))))) q l m h = let e : (x / 16 * 16 + b / 16) / 2 % 2 ≡ b / 32 % 2 = omega arith in ap (λ (n : ℕ). n == 1) e
front_new x b (suc (suc (suc (suc zero)))) (suc (suc (suc (suc (suc (suc (suc zero))))))) q l m h = let e : (x / 16 * 16 + b / 16) / 1 % 2 ≡ b / 16 % 2 = omega arith in ap (λ (n : ℕ). n == 1) e
front_new x b (suc (suc (suc (suc zero)))) (suc (suc (suc (suc (suc (suc (suc (suc k)))))))) q l m h = absurd (omega arith)
front_new x b (suc (suc (suc (suc (suc zero))))) zero q l m h = absurd (omega arith)
front_new x b (suc (suc (suc (suc (suc zero))))) (suc zero) q l m h = absurd (omega arith)
front_new x b (suc (suc (suc (suc (suc zero))))) (suc (suc zero)) q l m h = absurd (omega arith)
front_new x b (suc (suc (suc (suc (suc zero))))) (suc (suc (suc zero))) q l m h = absurd (omega arith)
front_new x b (suc (suc (suc (suc (suc zero))))) (suc (suc (suc (suc zero)))) q l m h = absurd (omega arith)
front_new x b (suc (suc (suc (suc (suc zero))))) (suc (suc (suc (suc (suc zero))))) q l m h = let e : (x / 8 * 8 + b / 32) / 4 % 2 ≡ b / 128 % 2 = omega arith in ap (λ (n : ℕ). n == 1) e
front_new x b (suc (suc (suc (suc (suc zero))))) (suc (suc (suc (suc (suc (suc zero)))))) q l m h = let e : (x / 8 * 8 + b / 32) / 2 % 2 ≡ b / 64 % 2 = omega arith in ap (λ (n : ℕ). n == 1) e
front_new x b (suc (suc (suc (suc (suc zero))))) (suc (suc (suc (suc (suc (suc (suc zero))))))) q l m h = let e : (x / 8 * 8 + b / 32) / 1 % 2 ≡ b / 32 % 2 = omega arith in ap (λ (n : ℕ). n == 1) e
front_new x b (suc (suc (suc (suc (suc zero))))) (suc (suc (suc (suc (suc (suc (suc (suc k)))))))) q l m h = absurd (omega arith)
front_new x b (suc (suc (suc (suc (suc (suc zero)))))) zero q l m h = absurd (omega arith)
front_new x b (suc (suc (suc (suc (suc (suc zero)))))) (suc zero) q l m h = absurd (omega arith)
front_new x b (suc (suc (suc (suc (suc (suc zero)))))) (suc (suc zero)) q l m h = absurd (omega arith)
front_new x b (suc (suc (suc (suc (suc (suc zero)))))) (suc (suc (suc zero))) q l m h = absurd (omega arith)
front_new x b (suc (suc (suc (suc (suc (suc zero)))))) (suc (suc (suc (suc zero)))) q l m h = absurd (omega arith)
front_new x b (suc (suc (suc (suc (suc (suc zero)))))) (suc (suc (suc (suc (suc zero))))) q l m h = absurd (omega arith)
front_new x b (suc (suc (suc (suc (suc (suc zero)))))) (suc (suc (suc (suc (suc (suc zero)))))) q l m h = let e : (x / 4 * 4 + b / 64) / 2 % 2 ≡ b / 128 % 2 = omega arith in ap (λ (n : ℕ). n == 1) e
front_new x b (suc (suc (suc (suc (suc (suc zero)))))) (suc (suc (suc (suc (suc (suc (suc zero))))))) q l m h = let e : (x / 4 * 4 + b / 64) / 1 % 2 ≡ b / 64 % 2 = omega arith in ap (λ (n : ℕ). n == 1) e
front_new x b (suc (suc (suc (suc (suc (suc zero)))))) (suc (suc (suc (suc (suc (suc (suc (suc k)))))))) q l m h = absurd (omega arith)
front_new x b (suc (suc (suc (suc (suc (suc (suc zero))))))) zero q l m h = absurd (omega arith)
front_new x b (suc (suc (suc (suc (suc (suc (suc zero))))))) (suc zero) q l m h = absurd (omega arith)
front_new x b (suc (suc (suc (suc (suc (suc (suc zero))))))) (suc (suc zero)) q l m h = absurd (omega arith)
front_new x b (suc (suc (suc (suc (suc (suc (suc zero))))))) (suc (suc (suc zero))) q l m h = absurd (omega arith)
front_new x b (suc (suc (suc (suc (suc (suc (suc zero))))))) (suc (suc (suc (suc zero)))) q l m h = absurd (omega arith)
front_new x b (suc (suc (suc (suc (suc (suc (suc zero))))))) (suc (suc (suc (suc (suc zero))))) q l m h = absurd (omega arith)
front_new x b (suc (suc (suc (suc (suc (suc (suc zero))))))) (suc (suc (suc (suc (suc (suc zero)))))) q l m h = absurd (omega arith)
front_new x b (suc (suc (suc (suc (suc (suc (suc zero))))))) (suc (suc (suc (suc (suc (suc (suc zero))))))) q l m h = let e : (x / 2 * 2 + b / 128) / 1 % 2 ≡ b / 128 % 2 = omega arith in ap (λ (n : ℕ). n == 1) e
front_new x b (suc (suc (suc (suc (suc (suc (suc zero))))))) (suc (suc (suc (suc (suc (suc (suc (suc k)))))))) q l m h = absurd (omega arith)
front_new x b (suc (suc (suc (suc (suc (suc (suc (suc s)))))))) k q l m h = absurd (omega arith)

pub back_new : (y b s k : ℕ) → b < 256 → s < 8 → k < 8 → k < s → bit_in (back_of y b s) k ≡ bit_in b (8 - s + k)
back_new y b zero k q l m h = absurd (omega arith)
back_new y b (suc zero) zero q l m h = let e : (b % 2 * 128 + y % 128) / 128 % 2 ≡ b / 1 % 2 = omega arith in ap (λ (n : ℕ). n == 1) e
back_new y b (suc zero) (suc zero) q l m h = absurd (omega arith)
back_new y b (suc zero) (suc (suc zero)) q l m h = absurd (omega arith)
back_new y b (suc zero) (suc (suc (suc zero))) q l m h = absurd (omega arith)
back_new y b (suc zero) (suc (suc (suc (suc zero)))) q l m h = absurd (omega arith)
back_new y b (suc zero) (suc (suc (suc (suc (suc zero))))) q l m h = absurd (omega arith)
back_new y b (suc zero) (suc (suc (suc (suc (suc (suc zero)))))) q l m h = absurd (omega arith)
back_new y b (suc zero) (suc (suc (suc (suc (suc (suc (suc zero))))))) q l m h = absurd (omega arith)
back_new y b (suc zero) (suc (suc (suc (suc (suc (suc (suc (suc k)))))))) q l m h = absurd (omega arith)
back_new y b (suc (suc zero)) zero q l m h = let e : (b % 4 * 64 + y % 64) / 128 % 2 ≡ b / 2 % 2 = omega arith in ap (λ (n : ℕ). n == 1) e
back_new y b (suc (suc zero)) (suc zero) q l m h = let e : (b % 4 * 64 + y % 64) / 64 % 2 ≡ b / 1 % 2 = omega arith in ap (λ (n : ℕ). n == 1) e
back_new y b (suc (suc zero)) (suc (suc zero)) q l m h = absurd (omega arith)
back_new y b (suc (suc zero)) (suc (suc (suc zero))) q l m h = absurd (omega arith)
back_new y b (suc (suc zero)) (suc (suc (suc (suc zero)))) q l m h = absurd (omega arith)
back_new y b (suc (suc zero)) (suc (suc (suc (suc (suc zero))))) q l m h = absurd (omega arith)
back_new y b (suc (suc zero)) (suc (suc (suc (suc (suc (suc zero)))))) q l m h = absurd (omega arith)
back_new y b (suc (suc zero)) (suc (suc (suc (suc (suc (suc (suc zero))))))) q l m h = absurd (omega arith)
back_new y b (suc (suc zero)) (suc (suc (suc (suc (suc (suc (suc (suc k)))))))) q l m h = absurd (omega arith)
back_new y b (suc (suc (suc zero))) zero q l m h = let e : (b % 8 * 32 + y % 32) / 128 % 2 ≡ b / 4 % 2 = omega arith in ap (λ (n : ℕ). n == 1) e
back_new y b (suc (suc (suc zero))) (suc zero) q l m h = let e : (b % 8 * 32 + y % 32) / 64 % 2 ≡ b / 2 % 2 = omega arith in ap (λ (n : ℕ). n == 1) e
back_new y b (suc (suc (suc zero))) (suc (suc zero)) q l m h = let e : (b % 8 * 32 + y % 32) / 32 % 2 ≡ b / 1 % 2 = omega arith in ap (λ (n : ℕ). n == 1) e
back_new y b (suc (suc (suc zero))) (suc (suc (suc zero))) q l m h = absurd (omega arith)
back_new y b (suc (suc (suc zero))) (suc (suc (suc (suc zero)))) q l m h = absurd (omega arith)
back_new y b (suc (suc (suc zero))) (suc (suc (suc (suc (suc zero))))) q l m h = absurd (omega arith)
back_new y b (suc (suc (suc zero))) (suc (suc (suc (suc (suc (suc zero)))))) q l m h = absurd (omega arith)
back_new y b (suc (suc (suc zero))) (suc (suc (suc (suc (suc (suc (suc zero))))))) q l m h = absurd (omega arith)
back_new y b (suc (suc (suc zero))) (suc (suc (suc (suc (suc (suc (suc (suc k)))))))) q l m h = absurd (omega arith)
back_new y b (suc (suc (suc (suc zero)))) zero q l m h = let e : (b % 16 * 16 + y % 16) / 128 % 2 ≡ b / 8 % 2 = omega arith in ap (λ (n : ℕ). n == 1) e
back_new y b (suc (suc (suc (suc zero)))) (suc zero) q l m h = let e : (b % 16 * 16 + y % 16) / 64 % 2 ≡ b / 4 % 2 = omega arith in ap (λ (n : ℕ). n == 1) e
back_new y b (suc (suc (suc (suc zero)))) (suc (suc zero)) q l m h = let e : (b % 16 * 16 + y % 16) / 32 % 2 ≡ b / 2 % 2 = omega arith in ap (λ (n : ℕ). n == 1) e
back_new y b (suc (suc (suc (suc zero)))) (suc (suc (suc zero))) q l m h = let e : (b % 16 * 16 + y % 16) / 16 % 2 ≡ b / 1 % 2 = omega arith in ap (λ (n : ℕ). n == 1) e
back_new y b (suc (suc (suc (suc zero)))) (suc (suc (suc (suc zero)))) q l m h = absurd (omega arith)
back_new y b (suc (suc (suc (suc zero)))) (suc (suc (suc (suc (suc zero))))) q l m h = absurd (omega arith)
back_new y b (suc (suc (suc (suc zero)))) (suc (suc (suc (suc (suc (suc zero)))))) q l m h = absurd (omega arith)
back_new y b (suc (suc (suc (suc zero)))) (suc (suc (suc (suc (suc (suc (suc zero))))))) q l m h = absurd (omega arith)
back_new y b (suc (suc (suc (suc zero)))) (suc (suc (suc (suc (suc (suc (suc (suc k)))))))) q l m h = absurd (omega arith)
back_new y b (suc (suc (suc (suc (suc zero))))) zero q l m h = let e : (b % 32 * 8 + y % 8) / 128 % 2 ≡ b / 16 % 2 = omega arith in ap (λ (n : ℕ). n == 1) e
back_new y b (suc (suc (suc (suc (suc zero))))) (suc zero) q l m h = let e : (b % 32 * 8 + y % 8) / 64 % 2 ≡ b / 8 % 2 = omega arith in ap (λ (n : ℕ). n == 1) e
back_new y b (suc (suc (suc (suc (suc zero))))) (suc (suc zero)) q l m h = let e : (b % 32 * 8 + y % 8) / 32 % 2 ≡ b / 4 % 2 = omega arith in ap (λ (n : ℕ). n == 1) e
back_new y b (suc (suc (suc (suc (suc zero))))) (suc (suc (suc zero))) q l m h = let e : (b % 32 * 8 + y % 8) / 16 % 2 ≡ b / 2 % 2 = omega arith in ap (λ (n : ℕ). n == 1) e
back_new y b (suc (suc (suc (suc (suc zero))))) (suc (suc (suc (suc zero)))) q l m h = let e : (b % 32 * 8 + y % 8) / 8 % 2 ≡ b / 1 % 2 = omega arith in ap (λ (n : ℕ). n == 1) e
back_new y b (suc (suc (suc (suc (suc zero))))) (suc (suc (suc (suc (suc zero))))) q l m h = absurd (omega arith)
back_new y b (suc (suc (suc (suc (suc zero))))) (suc (suc (suc (suc (suc (suc zero)))))) q l m h = absurd (omega arith)
back_new y b (suc (suc (suc (suc (suc zero))))) (suc (suc (suc (suc (suc (suc (suc zero))))))) q l m h = absurd (omega arith)
back_new y b (suc (suc (suc (suc (suc zero))))) (suc (suc (suc (suc (suc (suc (suc (suc k)))))))) q l m h = absurd (omega arith)
back_new y b (suc (suc (suc (suc (suc (suc zero)))))) zero q l m h = let e : (b % 64 * 4 + y % 4) / 128 % 2 ≡ b / 32 % 2 = omega arith in ap (λ (n : ℕ). n == 1) e
back_new y b (suc (suc (suc (suc (suc (suc zero)))))) (suc zero) q l m h = let e : (b % 64 * 4 + y % 4) / 64 % 2 ≡ b / 16 % 2 = omega arith in ap (λ (n : ℕ). n == 1) e
back_new y b (suc (suc (suc (suc (suc (suc zero)))))) (suc (suc zero)) q l m h = let e : (b % 64 * 4 + y % 4) / 32 % 2 ≡ b / 8 % 2 = omega arith in ap (λ (n : ℕ). n == 1) e
back_new y b (suc (suc (suc (suc (suc (suc zero)))))) (suc (suc (suc zero))) q l m h = let e : (b % 64 * 4 + y % 4) / 16 % 2 ≡ b / 4 % 2 = omega arith in ap (λ (n : ℕ). n == 1) e
back_new y b (suc (suc (suc (suc (suc (suc zero)))))) (suc (suc (suc (suc zero)))) q l m h = let e : (b % 64 * 4 + y % 4) / 8 % 2 ≡ b / 2 % 2 = omega arith in ap (λ (n : ℕ). n == 1) e
back_new y b (suc (suc (suc (suc (suc (suc zero)))))) (suc (suc (suc (suc (suc zero))))) q l m h = let e : (b % 64 * 4 + y % 4) / 4 % 2 ≡ b / 1 % 2 = omega arith in ap (λ (n : ℕ). n == 1) e
back_new y b (suc (suc (suc (suc (suc (suc zero)))))) (suc (suc (suc (suc (suc (suc zero)))))) q l m h = absurd (omega arith)
back_new y b (suc (suc (suc (suc (suc (suc zero)))))) (suc (suc (suc (suc (suc (suc (suc zero))))))) q l m h = absurd (omega arith)
back_new y b (suc (suc (suc (suc (suc (suc zero)))))) (suc (suc (suc (suc (suc (suc (suc (suc k)))))))) q l m h = absurd (omega arith)
back_new y b (suc (suc (suc (suc (suc (suc (suc zero))))))) zero q l m h = let e : (b % 128 * 2 + y % 2) / 128 % 2 ≡ b / 64 % 2 = omega arith in ap (λ (n : ℕ). n == 1) e
back_new y b (suc (suc (suc (suc (suc (suc (suc zero))))))) (suc zero) q l m h = let e : (b % 128 * 2 + y % 2) / 64 % 2 ≡ b / 32 % 2 = omega arith in ap (λ (n : ℕ). n == 1) e
back_new y b (suc (suc (suc (suc (suc (suc (suc zero))))))) (suc (suc zero)) q l m h = let e : (b % 128 * 2 + y % 2) / 32 % 2 ≡ b / 16 % 2 = omega arith in ap (λ (n : ℕ). n == 1) e
back_new y b (suc (suc (suc (suc (suc (suc (suc zero))))))) (suc (suc (suc zero))) q l m h = let e : (b % 128 * 2 + y % 2) / 16 % 2 ≡ b / 8 % 2 = omega arith in ap (λ (n : ℕ). n == 1) e
back_new y b (suc (suc (suc (suc (suc (suc (suc zero))))))) (suc (suc (suc (suc zero)))) q l m h = let e : (b % 128 * 2 + y % 2) / 8 % 2 ≡ b / 4 % 2 = omega arith in ap (λ (n : ℕ). n == 1) e
back_new y b (suc (suc (suc (suc (suc (suc (suc zero))))))) (suc (suc (suc (suc (suc zero))))) q l m h = let e : (b % 128 * 2 + y % 2) / 4 % 2 ≡ b / 2 % 2 = omega arith in ap (λ (n : ℕ). n == 1) e
back_new y b (suc (suc (suc (suc (suc (suc (suc zero))))))) (suc (suc (suc (suc (suc (suc zero)))))) q l m h = let e : (b % 128 * 2 + y % 2) / 2 % 2 ≡ b / 1 % 2 = omega arith in ap (λ (n : ℕ). n == 1) e
back_new y b (suc (suc (suc (suc (suc (suc (suc zero))))))) (suc (suc (suc (suc (suc (suc (suc zero))))))) q l m h = absurd (omega arith)
back_new y b (suc (suc (suc (suc (suc (suc (suc zero))))))) (suc (suc (suc (suc (suc (suc (suc (suc k)))))))) q l m h = absurd (omega arith)
back_new y b (suc (suc (suc (suc (suc (suc (suc (suc s)))))))) k q l m h = absurd (omega arith)

pub back_kept : (y b s k : ℕ) → b < 256 → s < 8 → k < 8 → s ≤ k → bit_in (back_of y b s) k ≡ bit_in y k
back_kept y b zero zero q l m h = let e : (b % 1 * 256 + y % 256) / 128 % 2 ≡ y / 128 % 2 = omega arith in ap (λ (n : ℕ). n == 1) e
back_kept y b zero (suc zero) q l m h = let e : (b % 1 * 256 + y % 256) / 64 % 2 ≡ y / 64 % 2 = omega arith in ap (λ (n : ℕ). n == 1) e
back_kept y b zero (suc (suc zero)) q l m h = let e : (b % 1 * 256 + y % 256) / 32 % 2 ≡ y / 32 % 2 = omega arith in ap (λ (n : ℕ). n == 1) e
back_kept y b zero (suc (suc (suc zero))) q l m h = let e : (b % 1 * 256 + y % 256) / 16 % 2 ≡ y / 16 % 2 = omega arith in ap (λ (n : ℕ). n == 1) e
back_kept y b zero (suc (suc (suc (suc zero)))) q l m h = let e : (b % 1 * 256 + y % 256) / 8 % 2 ≡ y / 8 % 2 = omega arith in ap (λ (n : ℕ). n == 1) e
back_kept y b zero (suc (suc (suc (suc (suc zero))))) q l m h = let e : (b % 1 * 256 + y % 256) / 4 % 2 ≡ y / 4 % 2 = omega arith in ap (λ (n : ℕ). n == 1) e
back_kept y b zero (suc (suc (suc (suc (suc (suc zero)))))) q l m h = let e : (b % 1 * 256 + y % 256) / 2 % 2 ≡ y / 2 % 2 = omega arith in ap (λ (n : ℕ). n == 1) e
back_kept y b zero (suc (suc (suc (suc (suc (suc (suc zero))))))) q l m h = let e : (b % 1 * 256 + y % 256) / 1 % 2 ≡ y / 1 % 2 = omega arith in ap (λ (n : ℕ). n == 1) e
back_kept y b zero (suc (suc (suc (suc (suc (suc (suc (suc k)))))))) q l m h = absurd (omega arith)
back_kept y b (suc zero) zero q l m h = absurd (omega arith)
back_kept y b (suc zero) (suc zero) q l m h = let e : (b % 2 * 128 + y % 128) / 64 % 2 ≡ y / 64 % 2 = omega arith in ap (λ (n : ℕ). n == 1) e
back_kept y b (suc zero) (suc (suc zero)) q l m h = let e : (b % 2 * 128 + y % 128) / 32 % 2 ≡ y / 32 % 2 = omega arith in ap (λ (n : ℕ). n == 1) e
back_kept y b (suc zero) (suc (suc (suc zero))) q l m h = let e : (b % 2 * 128 + y % 128) / 16 % 2 ≡ y / 16 % 2 = omega arith in ap (λ (n : ℕ). n == 1) e
back_kept y b (suc zero) (suc (suc (suc (suc zero)))) q l m h = let e : (b % 2 * 128 + y % 128) / 8 % 2 ≡ y / 8 % 2 = omega arith in ap (λ (n : ℕ). n == 1) e
back_kept y b (suc zero) (suc (suc (suc (suc (suc zero))))) q l m h = let e : (b % 2 * 128 + y % 128) / 4 % 2 ≡ y / 4 % 2 = omega arith in ap (λ (n : ℕ). n == 1) e
back_kept y b (suc zero) (suc (suc (suc (suc (suc (suc zero)))))) q l m h = let e : (b % 2 * 128 + y % 128) / 2 % 2 ≡ y / 2 % 2 = omega arith in ap (λ (n : ℕ). n == 1) e
back_kept y b (suc zero) (suc (suc (suc (suc (suc (suc (suc zero))))))) q l m h = let e : (b % 2 * 128 + y % 128) / 1 % 2 ≡ y / 1 % 2 = omega arith in ap (λ (n : ℕ). n == 1) e
back_kept y b (suc zero) (suc (suc (suc (suc (suc (suc (suc (suc k)))))))) q l m h = absurd (omega arith)
back_kept y b (suc (suc zero)) zero q l m h = absurd (omega arith)
back_kept y b (suc (suc zero)) (suc zero) q l m h = absurd (omega arith)
back_kept y b (suc (suc zero)) (suc (suc zero)) q l m h = let e : (b % 4 * 64 + y % 64) / 32 % 2 ≡ y / 32 % 2 = omega arith in ap (λ (n : ℕ). n == 1) e
back_kept y b (suc (suc zero)) (suc (suc (suc zero))) q l m h = let e : (b % 4 * 64 + y % 64) / 16 % 2 ≡ y / 16 % 2 = omega arith in ap (λ (n : ℕ). n == 1) e
back_kept y b (suc (suc zero)) (suc (suc (suc (suc zero)))) q l m h = let e : (b % 4 * 64 + y % 64) / 8 % 2 ≡ y / 8 % 2 = omega arith in ap (λ (n : ℕ). n == 1) e
back_kept y b (suc (suc zero)) (suc (suc (suc (suc (suc zero))))) q l m h = let e : (b % 4 * 64 + y % 64) / 4 % 2 ≡ y / 4 % 2 = omega arith in ap (λ (n : ℕ). n == 1) e
back_kept y b (suc (suc zero)) (suc (suc (suc (suc (suc (suc zero)))))) q l m h = let e : (b % 4 * 64 + y % 64) / 2 % 2 ≡ y / 2 % 2 = omega arith in ap (λ (n : ℕ). n == 1) e
back_kept y b (suc (suc zero)) (suc (suc (suc (suc (suc (suc (suc zero))))))) q l m h = let e : (b % 4 * 64 + y % 64) / 1 % 2 ≡ y / 1 % 2 = omega arith in ap (λ (n : ℕ). n == 1) e
back_kept y b (suc (suc zero)) (suc (suc (suc (suc (suc (suc (suc (suc k)))))))) q l m h = absurd (omega arith)
back_kept y b (suc (suc (suc zero))) zero q l m h = absurd (omega arith)
back_kept y b (suc (suc (suc zero))) (suc zero) q l m h = absurd (omega arith)
back_kept y b (suc (suc (suc zero))) (suc (suc zero)) q l m h = absurd (omega arith)
back_kept y b (suc (suc (suc zero))) (suc (suc (suc zero))) q l m h = let e : (b % 8 * 32 + y % 32) / 16 % 2 ≡ y / 16 % 2 = omega arith in ap (λ (n : ℕ). n == 1) e
back_kept y b (suc (suc (suc zero))) (suc (suc (suc (suc zero)))) q l m h = let e : (b % 8 * 32 + y % 32) / 8 % 2 ≡ y / 8 % 2 = omega arith in ap (λ (n : ℕ). n == 1) e
back_kept y b (suc (suc (suc zero))) (suc (suc (suc (suc (suc zero))))) q l m h = let e : (b % 8 * 32 + y % 32) / 4 % 2 ≡ y / 4 % 2 = omega arith in ap (λ (n : ℕ). n == 1) e
back_kept y b (suc (suc (suc zero))) (suc (suc (suc (suc (suc (suc zero)))))) q l m h = let e : (b % 8 * 32 + y % 32) / 2 % 2 ≡ y / 2 % 2 = omega arith in ap (λ (n : ℕ). n == 1) e
back_kept y b (suc (suc (suc zero))) (suc (suc (suc (suc (suc (suc (suc zero))))))) q l m h = let e : (b % 8 * 32 + y % 32) / 1 % 2 ≡ y / 1 % 2 = omega arith in ap (λ (n : ℕ). n == 1) e
back_kept y b (suc (suc (suc zero))) (suc (suc (suc (suc (suc (suc (suc (suc k)))))))) q l m h = absurd (omega arith)
back_kept y b (suc (suc (suc (suc zero)))) zero q l m h = absurd (omega arith)
back_kept y b (suc (suc (suc (suc zero)))) (suc zero) q l m h = absurd (omega arith)
back_kept y b (suc (suc (suc (suc zero)))) (suc (suc zero)) q l m h = absurd (omega arith)
back_kept y b (suc (suc (suc (suc zero)))) (suc (suc (suc zero))) q l m h = absurd (omega arith)
back_kept y b (suc (suc (suc (suc zero)))) (suc (suc (suc (suc zero)))) q l m h = let e : (b % 16 * 16 + y % 16) / 8 % 2 ≡ y / 8 % 2 = omega arith in ap (λ (n : ℕ). n == 1) e
back_kept y b (suc (suc (suc (suc zero)))) (suc (suc (suc (suc (suc zero))))) q l m h = let e : (b % 16 * 16 + y % 16) / 4 % 2 ≡ y / 4 % 2 = omega arith in ap (λ (n : ℕ). n == 1) e
back_kept y b (suc (suc (suc (suc zero)))) (suc (suc (suc (suc (suc (suc zero)))))) q l m h = let e : (b % 16 * 16 + y % 16) / 2 % 2 ≡ y / 2 % 2 = omega arith in ap (λ (n : ℕ). n == 1) e
back_kept y b (suc (suc (suc (suc zero)))) (suc (suc (suc (suc (suc (suc (suc zero))))))) q l m h = let e : (b % 16 * 16 + y % 16) / 1 % 2 ≡ y / 1 % 2 = omega arith in ap (λ (n : ℕ). n == 1) e
back_kept y b (suc (suc (suc (suc zero)))) (suc (suc (suc (suc (suc (suc (suc (suc k)))))))) q l m h = absurd (omega arith)
back_kept y b (suc (suc (suc (suc (suc zero))))) zero q l m h = absurd (omega arith)
back_kept y b (suc (suc (suc (suc (suc zero))))) (suc zero) q l m h = absurd (omega arith)
back_kept y b (suc (suc (suc (suc (suc zero))))) (suc (suc zero)) q l m h = absurd (omega arith)
back_kept y b (suc (suc (suc (suc (suc zero))))) (suc (suc (suc zero))) q l m h = absurd (omega arith)
back_kept y b (suc (suc (suc (suc (suc zero))))) (suc (suc (suc (suc zero)))) q l m h = absurd (omega arith)
back_kept y b (suc (suc (suc (suc (suc zero))))) (suc (suc (suc (suc (suc zero))))) q l m h = let e : (b % 32 * 8 + y % 8) / 4 % 2 ≡ y / 4 % 2 = omega arith in ap (λ (n : ℕ). n == 1) e
back_kept y b (suc (suc (suc (suc (suc zero))))) (suc (suc (suc (suc (suc (suc zero)))))) q l m h = let e : (b % 32 * 8 + y % 8) / 2 % 2 ≡ y / 2 % 2 = omega arith in ap (λ (n : ℕ). n == 1) e
back_kept y b (suc (suc (suc (suc (suc zero))))) (suc (suc (suc (suc (suc (suc (suc zero))))))) q l m h = let e : (b % 32 * 8 + y % 8) / 1 % 2 ≡ y / 1 % 2 = omega arith in ap (λ (n : ℕ). n == 1) e
back_kept y b (suc (suc (suc (suc (suc zero))))) (suc (suc (suc (suc (suc (suc (suc (suc k)))))))) q l m h = absurd (omega arith)
back_kept y b (suc (suc (suc (suc (suc (suc zero)))))) zero q l m h = absurd (omega arith)
back_kept y b (suc (suc (suc (suc (suc (suc zero)))))) (suc zero) q l m h = absurd (omega arith)
back_kept y b (suc (suc (suc (suc (suc (suc zero)))))) (suc (suc zero)) q l m h = absurd (omega arith)
back_kept y b (suc (suc (suc (suc (suc (suc zero)))))) (suc (suc (suc zero))) q l m h = absurd (omega arith)
back_kept y b (suc (suc (suc (suc (suc (suc zero)))))) (suc (suc (suc (suc zero)))) q l m h = absurd (omega arith)
back_kept y b (suc (suc (suc (suc (suc (suc zero)))))) (suc (suc (suc (suc (suc zero))))) q l m h = absurd (omega arith)
back_kept y b (suc (suc (suc (suc (suc (suc zero)))))) (suc (suc (suc (suc (suc (suc zero)))))) q l m h = let e : (b % 64 * 4 + y % 4) / 2 % 2 ≡ y / 2 % 2 = omega arith in ap (λ (n : ℕ). n == 1) e
back_kept y b (suc (suc (suc (suc (suc (suc zero)))))) (suc (suc (suc (suc (suc (suc (suc zero))))))) q l m h = let e : (b % 64 * 4 + y % 4) / 1 % 2 ≡ y / 1 % 2 = omega arith in ap (λ (n : ℕ). n == 1) e
back_kept y b (suc (suc (suc (suc (suc (suc zero)))))) (suc (suc (suc (suc (suc (suc (suc (suc k)))))))) q l m h = absurd (omega arith)
back_kept y b (suc (suc (suc (suc (suc (suc (suc zero))))))) zero q l m h = absurd (omega arith)
back_kept y b (suc (suc (suc (suc (suc (suc (suc zero))))))) (suc zero) q l m h = absurd (omega arith)
back_kept y b (suc (suc (suc (suc (suc (suc (suc zero))))))) (suc (suc zero)) q l m h = absurd (omega arith)
back_kept y b (suc (suc (suc (suc (suc (suc (suc zero))))))) (suc (suc (suc zero))) q l m h = absurd (omega arith)
back_kept y b (suc (suc (suc (suc (suc (suc (suc zero))))))) (suc (suc (suc (suc zero)))) q l m h = absurd (omega arith)
back_kept y b (suc (suc (suc (suc (suc (suc (suc zero))))))) (suc (suc (suc (suc (suc zero))))) q l m h = absurd (omega arith)
back_kept y b (suc (suc (suc (suc (suc (suc (suc zero))))))) (suc (suc (suc (suc (suc (suc zero)))))) q l m h = absurd (omega arith)
back_kept y b (suc (suc (suc (suc (suc (suc (suc zero))))))) (suc (suc (suc (suc (suc (suc (suc zero))))))) q l m h = let e : (b % 128 * 2 + y % 2) / 1 % 2 ≡ y / 1 % 2 = omega arith in ap (λ (n : ℕ). n == 1) e
back_kept y b (suc (suc (suc (suc (suc (suc (suc zero))))))) (suc (suc (suc (suc (suc (suc (suc (suc k)))))))) q l m h = absurd (omega arith)
back_kept y b (suc (suc (suc (suc (suc (suc (suc (suc s)))))))) k q l m h = absurd (omega arith)

-- the two as they are worked out in 32 bits, and that they are bytes
pub front_worked : (x b s : ℕ) → x < 256 → s < 8 → x / 2 ^ (8 - s) * 2 ^ (8 - s) % 4294967296 + b / 2 ^ s ≡ front_of x b s
front_worked x b s q l = ap (λ (n : ℕ). n + b / 2 ^ s) (mod-eq_of_lt (go s q l))
  where
    go : (s : ℕ) → x < 256 → s < 8 → x / 2 ^ (8 - s) * 2 ^ (8 - s) < 4294967296
    go zero q l = let e : x / 256 * 256 < 4294967296 = omega arith in e
    go (suc zero) q l = let e : x / 128 * 128 < 4294967296 = omega arith in e
    go (suc (suc zero)) q l = let e : x / 64 * 64 < 4294967296 = omega arith in e
    go (suc (suc (suc zero))) q l = let e : x / 32 * 32 < 4294967296 = omega arith in e
    go (suc (suc (suc (suc zero)))) q l = let e : x / 16 * 16 < 4294967296 = omega arith in e
    go (suc (suc (suc (suc (suc zero))))) q l = let e : x / 8 * 8 < 4294967296 = omega arith in e
    go (suc (suc (suc (suc (suc (suc zero)))))) q l = let e : x / 4 * 4 < 4294967296 = omega arith in e
    go (suc (suc (suc (suc (suc (suc (suc zero))))))) q l = let e : x / 2 * 2 < 4294967296 = omega arith in e
    go (suc (suc (suc (suc (suc (suc (suc (suc s)))))))) q l = absurd (omega arith)

pub front_fits : (x b s : ℕ) → x < 256 → b < 256 → s < 8 → front_of x b s < 256
front_fits x b zero q r l = let e : x / 256 * 256 + b / 1 < 256 = omega arith in e
front_fits x b (suc zero) q r l = let e : x / 128 * 128 + b / 2 < 256 = omega arith in e
front_fits x b (suc (suc zero)) q r l = let e : x / 64 * 64 + b / 4 < 256 = omega arith in e
front_fits x b (suc (suc (suc zero))) q r l = let e : x / 32 * 32 + b / 8 < 256 = omega arith in e
front_fits x b (suc (suc (suc (suc zero)))) q r l = let e : x / 16 * 16 + b / 16 < 256 = omega arith in e
front_fits x b (suc (suc (suc (suc (suc zero))))) q r l = let e : x / 8 * 8 + b / 32 < 256 = omega arith in e
front_fits x b (suc (suc (suc (suc (suc (suc zero)))))) q r l = let e : x / 4 * 4 + b / 64 < 256 = omega arith in e
front_fits x b (suc (suc (suc (suc (suc (suc (suc zero))))))) q r l = let e : x / 2 * 2 + b / 128 < 256 = omega arith in e
front_fits x b (suc (suc (suc (suc (suc (suc (suc (suc s)))))))) q r l = absurd (omega arith)

pub back_worked : (y b s : ℕ) → b < 256 → s < 8 → b * 2 ^ (8 - s) % 4294967296 % 256 + y % (1 * 2 ^ (8 - s) % 4294967296) ≡ back_of y b s
back_worked y b zero q l = let e : b * 256 % 4294967296 % 256 + y % 256 ≡ b % 1 * 256 + y % 256 = omega arith in e
back_worked y b (suc zero) q l = let e : b * 128 % 4294967296 % 256 + y % 128 ≡ b % 2 * 128 + y % 128 = omega arith in e
back_worked y b (suc (suc zero)) q l = let e : b * 64 % 4294967296 % 256 + y % 64 ≡ b % 4 * 64 + y % 64 = omega arith in e
back_worked y b (suc (suc (suc zero))) q l = let e : b * 32 % 4294967296 % 256 + y % 32 ≡ b % 8 * 32 + y % 32 = omega arith in e
back_worked y b (suc (suc (suc (suc zero)))) q l = let e : b * 16 % 4294967296 % 256 + y % 16 ≡ b % 16 * 16 + y % 16 = omega arith in e
back_worked y b (suc (suc (suc (suc (suc zero))))) q l = let e : b * 8 % 4294967296 % 256 + y % 8 ≡ b % 32 * 8 + y % 8 = omega arith in e
back_worked y b (suc (suc (suc (suc (suc (suc zero)))))) q l = let e : b * 4 % 4294967296 % 256 + y % 4 ≡ b % 64 * 4 + y % 4 = omega arith in e
back_worked y b (suc (suc (suc (suc (suc (suc (suc zero))))))) q l = let e : b * 2 % 4294967296 % 256 + y % 2 ≡ b % 128 * 2 + y % 2 = omega arith in e
back_worked y b (suc (suc (suc (suc (suc (suc (suc (suc s)))))))) q l = absurd (omega arith)

pub back_fits : (y b s : ℕ) → s < 8 → back_of y b s < 256
back_fits y b zero l = let e : b % 1 * 256 + y % 256 < 256 = omega arith in e
back_fits y b (suc zero) l = let e : b % 2 * 128 + y % 128 < 256 = omega arith in e
back_fits y b (suc (suc zero)) l = let e : b % 4 * 64 + y % 64 < 256 = omega arith in e
back_fits y b (suc (suc (suc zero))) l = let e : b % 8 * 32 + y % 32 < 256 = omega arith in e
back_fits y b (suc (suc (suc (suc zero)))) l = let e : b % 16 * 16 + y % 16 < 256 = omega arith in e
back_fits y b (suc (suc (suc (suc (suc zero))))) l = let e : b % 32 * 8 + y % 8 < 256 = omega arith in e
back_fits y b (suc (suc (suc (suc (suc (suc zero)))))) l = let e : b % 64 * 4 + y % 4 < 256 = omega arith in e
back_fits y b (suc (suc (suc (suc (suc (suc (suc zero))))))) l = let e : b % 128 * 2 + y % 2 < 256 = omega arith in e
back_fits y b (suc (suc (suc (suc (suc (suc (suc (suc s)))))))) l = absurd (omega arith)
