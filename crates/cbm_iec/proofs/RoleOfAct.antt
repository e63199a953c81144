-- A reaction changes the role by its act alone: by a byte in attention.
use Rattle.std.proofs.Common.{◌≡◌, ℕ, ◌%◌, Bool, true, false, Option, None, Some, refl, nat_le, ◌==◌, if◌then◌else◌}
use Rattle.cbm_iec.specs.Hearing.{heard_act}
use Rattle.cbm_iec.specs.Ports.{side_act, side_role}
use Rattle.cbm_iec.specs.Roles.{role_after, role_with}
use Rattle.cbm_iec.specs.Speaking.{mouth_row, end_frame_row, set_bit_row, show_bit_row}
use Rattle.cbm_iec.specs.declared.machine.Act.TheVariants.{Said}
use Rattle.cbm_iec.specs.declared.ear.Ear.TheVariants.{Idle, Starting, Await, Leaving, Returning, Holding, Freeing, Ready, Timed, Pulsing, EoiNoted, Gathering, Accepting}
use Rattle.cbm_iec.specs.declared.lines.Lines.{Lines}
use Rattle.cbm_iec.specs.declared.mouth.Mouth.TheVariants.{Turned, Answering, Mute, Led, Offering, EoiOffered, EoiPulsed, Sending, Waiting, Ending, Over}
use Rattle.cbm_iec.specs.declared.mouth.Mouth.{Mouth}
use Rattle.cbm_iec.specs.declared.pace.Pace.TheVariants.{Profile, Kernal}
use Rattle.cbm_iec.specs.declared.pace.Pace.{Pace}
use Rattle.cbm_iec.specs.declared.party.Role.{Role}
use Rattle.cbm_iec.specs.declared.port.Side.TheVariants.{Hearing, Speaking}
use Rattle.cbm_iec.specs.declared.port.Side.{Side}

-- a byte that comes changes it in attention alone
heard_role : (d byte : ℕ) (eoi atn : Bool) (role : Role) → role_with d (Some (heard_act atn byte eoi)) role ≡ (if atn then role_after d byte role else role)
heard_role d byte eoi true role = refl
heard_role d byte eoi false role = refl

-- what is said doesn't
said_role : (d byte : ℕ) (last there : Bool) (role : Role) → role_with d (if there then Some (Said byte last) else None) role ≡ role
said_role d byte last true role = refl
said_role d byte last false role = refl

mouth_role : (e : Pace) (d : ℕ) (role : Role) (peek : Option (ℕ × Bool)) (others : Lines) (mouth : Mouth) → role_with d ((mouth_row e peek mouth).act others) role ≡ role
mouth_role Profile d role None others (Answering at) = refl
mouth_role Profile d role (Some x) others (Answering at) = refl
mouth_role Kernal d role None others (Answering at) = refl
mouth_role Kernal d role (Some x) others (Answering at) = refl
mouth_role e d role peek others (Mute at) = refl
mouth_role e d role peek others (Led at) = refl
mouth_role e d role peek others (Sending at byte last left half) = go (nat_le 16 half) ((half % 2) == 0)
  where
    go : (end even : Bool) → role_with d ((if end then end_frame_row byte last else (if even then set_bit_row e byte last left half else show_bit_row e byte last left half)).act others) role ≡ role
    go true even = said_role d byte last others.data_low role
    go false true = refl
    go false false = refl
mouth_role e d role peek others (Ending at) = refl
mouth_role e d role peek others Turned = refl
mouth_role e d role peek others (Offering byte last) = refl
mouth_role e d role peek others (EoiOffered byte) = refl
mouth_role e d role peek others (EoiPulsed byte) = refl
mouth_role e d role peek others (Waiting byte last) = refl
mouth_role e d role peek others Over = refl

pub role_of_act : (e : Pace) (d : ℕ) (role : Role) (peek : Option (ℕ × Bool)) (others : Lines) (side : Side) → role_with d (side_act e peek others side) role ≡ side_role d others.atn_low role side
role_of_act e d role peek others (Hearing (Accepting at eoi byte)) = heard_role d byte eoi others.atn_low role
role_of_act e d role peek others (Hearing Idle) = refl
role_of_act e d role peek others (Hearing Await) = refl
role_of_act e d role peek others (Hearing (Starting at)) = refl
role_of_act e d role peek others (Hearing (Leaving at)) = refl
role_of_act e d role peek others (Hearing (Returning at)) = refl
role_of_act e d role peek others (Hearing Holding) = refl
role_of_act e d role peek others (Hearing (Freeing at)) = refl
role_of_act e d role peek others (Hearing Ready) = refl
role_of_act e d role peek others (Hearing (Timed at)) = refl
role_of_act e d role peek others (Hearing (Pulsing at)) = refl
role_of_act e d role peek others (Hearing EoiNoted) = refl
role_of_act e d role peek others (Hearing (Gathering eoi count byte)) = refl
role_of_act e d role peek others (Speaking mouth) = mouth_role e d role peek others mouth
