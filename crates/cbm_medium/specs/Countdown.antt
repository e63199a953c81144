-- A medium that is made to fail: which of its writes it refuses by itself.
use Rattle.std.specs.Prelude.{ℕ, suc, zero, ◌+◌, ◌-◌, ◌^◌, ◌≡◌, Bool, true, false, Option, Some, None, Result, Ok, Err, nat_lt, if◌then◌else◌}
use Rattle.cbm_medium.specs.Place.{Place}
use Rattle.cbm_medium.specs.Seen.{Seen}
use Rattle.cbm_medium.specs.declared.fault.Fault.{Fault}
use Rattle.cbm_medium.specs.declared.fault.Trouble.{Trouble}

-- how many writes pass before one is refused, None where all pass; whether all are refused from then on; how often it failed, and what it
-- refused last
pub record Countdown : Type 0 where
  pub passes : Option ℕ
  pub all : Bool
  pub failures : ℕ
  pub refused : Option Trouble

abbrev pub is_none_left : Option ℕ → Bool
is_none_left None = false
is_none_left (Some zero) = true
is_none_left (Some (suc n)) = false

-- whether the next write is refused; at its greatest count of failures it passes
abbrev pub is_due : Countdown → Bool
is_due c = if nat_lt c.failures (2 ^ 64 - 1) then is_none_left c.passes else false

abbrev pub one_pass_less : Option ℕ → Option ℕ
one_pass_less None = None
one_pass_less (Some zero) = Some 0
one_pass_less (Some (suc n)) = Some n

-- after a write that passed
abbrev pub passed : Countdown → Countdown
passed c = record c { passes = one_pass_less c.passes }

-- a write error at a place
abbrev pub write_error : Place → Trouble
write_error at = record { code = 25; track = at.track; sector = at.sector }

-- after a write to this place that was refused
abbrev pub count_failed : Place → Countdown → Countdown
count_failed at c = record c { passes = if c.all then c.passes else None; failures = c.failures + 1; refused = Some (write_error at) }

-- a medium with its countdown
pub record Watched (M : Type 0) : Type 0 where
  pub inner : M
  pub countdown : Countdown

-- what it shows: what the medium below shows, with its own failures
abbrev pub seen_by : {M : Type 0} → (M → Seen) → Watched M → Seen
seen_by seen w = record (seen w.inner) { failures = w.countdown.failures; refused = w.countdown.refused }

-- the countdown after a write to a place; one that is refused for what the medium shows (why) isn't counted
abbrev pub after_write : Option ℕ → Place → Countdown → Countdown
after_write (Some code) at c = c
after_write None at c = if is_due c then count_failed at c else passed c

-- What a write makes of the countdown, and what it answers at this place where the medium shows nothing that refuses it:
-- 25 where the countdown is due, else Ok.
pub record CountsDown (why : Option ℕ) (at : Place) (old new : Countdown) (result : Result (Unit {0}) Fault) : Type 0 where
  pub countdown : new ≡ after_write why at old
  pub due : why ≡ None → is_due old ≡ true → result ≡ Err (record { code = 25; at = at })
  pub passes : why ≡ None → is_due old ≡ false → result ≡ Ok tt
