-- What the states of a drive tell of the reaction that is due: whether it looks at the byte to say, and whether it changes CLOCK.
use Rattle.std.specs.Prelude.{ℕ, ◌≡◌, ◌%◌, Bool, true, false, not, Option, if◌then◌else◌, ◌==◌, ◌||◌, nat_le}
use Rattle.cbm_iec.specs.Ports.{next_held, next_side, reaction_act}
use Rattle.cbm_iec.specs.declared.mouth.Mouth.TheVariants.{Answering, Led}
use Rattle.cbm_iec.specs.declared.mouth.Mouth.{Mouth}
use Rattle.cbm_iec.specs.declared.port.Port.{Port}
use Rattle.cbm_iec.specs.declared.port.Side.TheVariants.{Hearing, Speaking}
use Rattle.cbm_iec.specs.declared.port.Side.{Side}

-- whether a talker's reaction looks at the byte to say: at the answer to a turnaround and at the offer of a byte
abbrev pub mouth_asks : Mouth → Bool
mouth_asks (Answering at) = true
mouth_asks (Led at) = true
mouth_asks mouth = false

-- whether a drive's reaction looks at the byte to say
abbrev pub side_asks : Side → Bool
side_asks (Hearing ear) = false
side_asks (Speaking mouth) = mouth_asks mouth

-- Whether the next half of a bit, of sixteen, or the end of its frame, changes CLOCK: it is pulled with an even half and at the end, and freed with an odd one.
abbrev pub half_changes : ℕ → Bool → Bool
half_changes half clock_low = if nat_le 16 half || ((half % 2) == 0) then not clock_low else clock_low

-- With either byte to say the reaction that is due is the same.
pub record ReactsAlike (p q : Option (ℕ × Bool)) (port : Port) : Type 0 where
  pub held : next_held p port ≡ next_held q port
  pub next : (moment : ℕ) → next_side moment p port ≡ next_side moment q port
  pub act : reaction_act p port ≡ reaction_act q port
