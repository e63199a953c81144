-- What is known of both paces' times.
use Rattle.std.proofs.Common.{◌≡◌, ℕ, ◌*◌, ◌≤◌, true, ap, refl, arith}
use Rattle.cbm_iec.specs.Profile.{eoi_pulse, bit_time, turn_settle, pull_pause}
use Rattle.cbm_iec.specs.declared.pace.Pace.TheVariants.{Profile, Kernal}
use Rattle.cbm_iec.specs.declared.pace.Pace.{Pace}
use Rattle.cbm_iec.specs.Hearing.{after_start}
use Rattle.cbm_iec.specs.declared.ear.Ear.TheVariants.{Holding}

-- a pulse is longer than any reaction
pub pulse_from : (e : Pace) → 60 ≤ eoi_pulse e
pulse_from Profile = omega arith
pulse_from Kernal = omega arith

-- and shorter than a few bits of the host
pub pulse_upto : (e : Pace) → eoi_pulse e ≤ 80
pulse_upto Profile = omega arith
pulse_upto Kernal = omega arith

-- CLOCK is freed after ATN's release
pub settle_from : (e : Pace) → 15 ≤ turn_settle e
settle_from Profile = omega arith
settle_from Kernal = omega arith

-- from ATN's release to its next pull all reactions have come
pub pause_from : (e : Pace) → 61 ≤ pull_pause e
pause_from Profile = omega arith
pause_from Kernal = omega arith

-- eight bits
pub by_eight : (p : Pace) {n : ℕ} → n ≡ 8 → bit_time p * n ≡ bit_time p * 8
by_eight p e = ap (λ k. bit_time p * k) e

-- CLOCK is pulled there, so each pace goes to hold
pub started : (e : Pace) (r t : ℕ) → after_start e r t true ≡ Holding
started Profile r t = refl
started Kernal r t = refl
