-- The frames: one byte from the host to those who hear, and one byte of the talker. The host's events, each drive's own, and their bounds.
use Rattle.cbm_iec.specs.declared.pace.Pace.TheVariants.{Profile}
use Rattle.std.specs.Prelude.{◌≡◌, ℕ, ◌+◌, ◌≤◌, max, Bool, true, false, List, [], ◌∷◌, ◌++◌, length, not, Option, Some, None, if◌then◌else◌}
use Rattle.cbm_iec.specs.Profile.{eoi_wait, eoi_pulse, half_bit, bit_time, latest_start, first_accept, latest_accept}
use Rattle.cbm_iec.specs.declared.machine.Act.TheVariants.{Said}
use Rattle.cbm_iec.specs.declared.machine.Act.{Act}
use Rattle.cbm_iec.specs.declared.lines.Line.TheVariants.{Clock, Data}
use Rattle.cbm_iec.specs.declared.lines.Way.TheVariants.{Pull, Free}
use Rattle.cbm_iec.specs.declared.party.Party.{Party}
use Rattle.cbm_session.specs.Bits.{where_held, data_for, BitCell, cells_steps, held_after, last_pull, CellsFit, number_of}
use Rattle.cbm_session.specs.Seats.{Seat, device, reaction, slowest, fastest}
use Rattle.cbm_session.specs.Steps.{Step, host, drive, for_one}

-- a frame of the host: ready, start and eight bits
pub record Sent : Type 0 where
  pub ready : ℕ
  pub start : ℕ
  pub cells : List BitCell

-- a frame of the drive: when the host frees DATA, its answer to a last byte (pull, free), and its accept
pub record Told : Type 0 where
  pub bits : List Bool
  pub free : ℕ
  pub signal : Option (ℕ × ℕ)
  pub accept : ℕ

-- how long after the EOI wait a drive's pulse has ended: its reaction and the pulse
abbrev pub lasting : Seat → ℕ
lasting s = eoi_pulse s.party.pace + reaction s

-- the greatest of these among drives; 0 where there are none
abbrev pub longest_lasting : List Seat → ℕ
longest_lasting [] = 0
longest_lasting (s ∷ ss) = elim ss [ [] ↦ lasting s | t ∷ ts ↦ max (lasting s) (longest_lasting ss) ]

-- T, when DATA is free on the wire: the slowest has freed it
abbrev pub wire : List Seat → Sent → ℕ
wire hs f = f.ready + slowest hs

-- when the pulse has ended on the wire
abbrev pub quiet : List Seat → Sent → ℕ
quiet hs f = wire hs f + eoi_wait + longest_lasting hs

-- the last pull of CLOCK in a frame of the host, at which DATA is freed
abbrev pub end_of : Sent → ℕ
end_of f = last_pull f.start f.cells

-- the accept on the wire: the fastest of those that hear pulls DATA
abbrev pub accept_of : List Seat → Sent → ℕ
accept_of hs f = end_of f + fastest hs

-- when a drive's EOI pulse begins, from T
abbrev pub pulse_from : ℕ → Seat → ℕ
pulse_from t s = t + eoi_wait + reaction s

-- when a drive's EOI pulse ends, from T
abbrev pub pulse_to : ℕ → Seat → ℕ
pulse_to t s = t + eoi_wait + lasting s

-- a drive's EOI pulse on DATA, where the host signals EOI
abbrev pub pulse : ℕ → Bool → Seat → List Step
pulse t eoi s = if eoi then drive (device s) (pulse_from t s) Data Pull ∷ drive (device s) (pulse_to t s) Data Free ∷ [] else []

-- a drive's own part of a frame that it hears: it frees DATA, pulses where EOI is signalled, and accepts by pulling DATA, with which the act counts
abbrev pub hearing : ℕ → Bool → Act → Sent → Seat → List Step
hearing t eoi act f s =
    drive (device s) (f.ready + reaction s) Data Free ∷ (pulse t eoi s
    ++ for_one (device s) act (drive (device s) (end_of f + reaction s) Data Pull) ∷ [])

-- the host's part of a frame that it sends: ready, start, the bits, and DATA freed where it is still held
abbrev pub sending : Sent → List Step
sending f =
    host f.ready Clock Free ∷ host f.start Clock Pull ∷ (cells_steps false f.cells
    ++ where_held (held_after false f.cells) (host (end_of f) Data Free))

-- the host starts after T and within `latest_start`; with EOI it starts after the pulse has ended
abbrev pub StartFits : List Seat → Bool → Sent → Type 0
StartFits hs false f = (wire hs f + 1 ≤ f.start) × (f.start ≤ wire hs f + latest_start)
StartFits hs true f = quiet hs f + 1 ≤ f.start

-- a frame of the host keeps its bounds: the start, eight bits, and the moments of each bit
pub record SentFits (hs : List Seat) (eoi : Bool) (f : Sent) : Type 0 where
  pub start : StartFits hs eoi f
  pub eight : length f.cells ≡ 8
  pub cells : CellsFit false f.start f.cells

-- whether a byte of the talker is its last: the host answered its EOI
abbrev pub is_last : Told → Bool
is_last f = elim f.signal [ None ↦ false | Some x ↦ true ]

-- the host's answer to EOI, a pulse on DATA, or none
abbrev pub signal_steps : Option (ℕ × ℕ) → List Step
signal_steps None = []
signal_steps (Some (pull, free)) = host pull Data Pull ∷ host free Data Free ∷ []

-- when the first bit begins
abbrev pub first_bit : Party → Told → ℕ
first_bit b f = (elim f.signal [ None ↦ f.free | Some x ↦ x.1 ]) + b.reaction

-- the bits, from whether the drive holds DATA
abbrev pub bit_steps : Party → ℕ → Bool → List Bool → List Step
bit_steps b at held [] = drive b.device at Clock Pull ∷ where_held held (drive b.device at Data Free)
bit_steps b at held (bit ∷ bits) =
    drive b.device at Clock Pull ∷ (data_for (λ way. drive b.device at Data way) held bit ++ drive b.device (at + half_bit b.pace) Clock Free ∷ bit_steps b (at + bit_time b.pace) (not bit) bits)

-- the talker's part of its frame: CLOCK freed, the bits, and after the accept of a last byte CLOCK freed again
abbrev pub telling : Party → ℕ → Told → List Step
telling b at f =
    drive b.device at Clock Free ∷ (bit_steps b (first_bit b f) false f.bits
    ++ (if is_last f then drive b.device (f.accept + b.reaction) Clock Free ∷ [] else []))

-- the host's part of a talker's frame: DATA freed, the answer to EOI, and the accept by pulling DATA, with which the byte counts as said
abbrev pub taking : Party → Told → List Step
taking b f =
    host f.free Data Free ∷ (signal_steps f.signal
    ++ for_one b.device (Said (number_of f.bits) (is_last f)) (host f.accept Data Pull) ∷ [])

-- the host answers EOI not before `eoi_wait` has passed since it freed DATA, with a pulse that is long enough
abbrev pub SignalFits : ℕ → Option (ℕ × ℕ) → Type 0
SignalFits free None = Unit {0}
SignalFits free (Some (pull, again)) = (free + eoi_wait ≤ pull) × (pull + eoi_pulse Profile ≤ again)

-- a frame of the talker keeps its bounds: eight bits, DATA freed after CLOCK, the answer to EOI, and the accept neither too soon nor too late
pub record ToldFits (b : Party) (at : ℕ) (f : Told) : Type 0 where
  pub eight : length f.bits ≡ 8
  pub free : at + 1 ≤ f.free
  pub signal : SignalFits f.free f.signal
  pub accept : first_bit b f + first_accept b.pace ≤ f.accept
  pub soon : f.accept ≤ first_bit b f + latest_accept b.pace
