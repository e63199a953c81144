-- The frames of a request with the host's waits: every moment follows from where the frame begins and from the drive's reaction and pace.
use Rattle.std.specs.Prelude.{ℕ, zero, suc, ◌+◌, ◌*◌, ◌/◌, Bool, not, List, [], ◌∷◌, Option, Some, None, if◌then◌else◌}
use Rattle.cbm_iec.specs.Profile.{eoi_wait, eoi_pulse, bit_time}
use Rattle.cbm_iec.specs.declared.party.Party.{Party}
use Rattle.cbm_iec.specs.declared.pace.Pace.TheVariants.{Profile, Kernal}
use Rattle.cbm_iec.specs.declared.pace.Pace.{Pace}
use Rattle.cbm_session.specs.Bits.{BitCell}
use Rattle.cbm_session.specs.Frames.{Sent, Told}
use Rattle.cbm_session.specs.Pieces.{silent_at}
use Rattle.cbm_host.specs.Sending.{starts_low}
use Rattle.cbm_host.specs.Waits.{answer_wait, phase, last_wait, last_pulse, silence}

-- this many bits of a byte, the lowest first, from a pull of CLOCK on: DATA is set at the pull, CLOCK is freed a phase later and pulled another one later
abbrev pub cells_for : ℕ → ℕ → ℕ → List BitCell
cells_for zero left at = []
cells_for (suc n) left at = record { bit = not (starts_low left); set = at; free = at + phase; pull = at + phase + phase } ∷ cells_for n (left / 2) (at + phase + phase)

-- The first bit begins a wait after T, when the drive has freed DATA; with EOI after the drive's pulse.
abbrev pub start_for : Party → Bool → ℕ → ℕ
start_for b eoi ready = (if eoi then ready + b.reaction + eoi_wait + (eoi_pulse b.pace + b.reaction) else ready + b.reaction) + answer_wait

-- a byte of the host to a drive
abbrev pub frame_for : Party → Bool → ℕ → ℕ → Sent
frame_for b eoi byte ready = record { ready = ready; start = start_for b eoi ready; cells = cells_for 8 byte (start_for b eoi ready) }

-- this many bits of a byte, the lowest first
abbrev pub bits_for : ℕ → ℕ → List Bool
bits_for zero left = []
bits_for (suc n) left = not (starts_low left) ∷ bits_for n (left / 2)

-- the host's answer to a last byte, where it freed DATA then
abbrev pub signal_for : Bool → ℕ → Option (ℕ × ℕ)
signal_for last free = if last then Some (free + last_wait, free + last_wait + last_pulse) else None

-- the talker's first bit begins its reaction after the host's last release of DATA
abbrev pub told_from : ℕ → Bool → ℕ → ℕ
told_from r last free = (if last then free + last_wait + last_pulse else free) + r

-- a byte of the talker, which frees CLOCK for it then
abbrev pub told_for : Party → Bool → ℕ → ℕ → Told
told_for b last byte at = record {
  bits = bits_for 8 byte;
  free = at + answer_wait;
  signal = signal_for last (at + answer_wait);
  accept = told_from b.reaction last (at + answer_wait) + 8 * bit_time b.pace + answer_wait;
}

-- When the host frees DATA for a talker that has nothing to say, where it freed CLOCK then: it has waited for CLOCK; at a KERNAL's pace it lets go a wait
-- after the talker.
abbrev pub hushed_for : Pace → ℕ → ℕ → ℕ
hushed_for Profile r clock = clock + silence
hushed_for Kernal r clock = silent_at Kernal (clock + r) + answer_wait
