-- A drive that was saved is read again.
use Rattle.std.proofs.Common.{◌≡◌, ℕ, ◌<◌, ◌≤◌, Bool, true, false, List, [], ◌∷◌, ◌++◌, length, Option, Some, None, refl, ap, ◌∙◌, append_assoc}
use Rattle.std.specs.Prelude.{◌&&◌, nat_lt, nat_le, IfSome, if◌then◌else◌}
use Rattle.std.proofs.lemmas.Bool.{le-leb, lt-ltb}
use Rattle.cbm_saved.specs.Steps.{◌>>=◌}
use Rattle.cbm_saved.specs.Numbers.{eight_bytes}
use Rattle.cbm_saved.specs.Texts.{counted_text, text_at}
use Rattle.cbm_saved.proofs.Again.{eight_back, text_again}
use Rattle.cbm_channel.specs.Saved.{flag_byte, saved_dos, MayBeKept}
use Rattle.cbm_channel.specs.Loaded.{is_flag, dos_at}
use Rattle.cbm_channel.specs.Standing.{Kept}
use Rattle.cbm_channel.proofs.SavedAgain.{dos_again}
use Rattle.cbm_iec.specs.declared.pace.Pace.{Pace}
use Rattle.cbm_iec.specs.declared.pace.Pace.TheVariants as pace
use Rattle.cbm_iec.specs.declared.party.Role.{Role}
use Rattle.cbm_iec.specs.declared.party.Role.TheVariants as role
use Rattle.cbm_iec.specs.declared.ear.Ear.{Ear}
use Rattle.cbm_iec.specs.declared.ear.Ear.TheVariants as ear
use Rattle.cbm_iec.specs.declared.mouth.Mouth.{Mouth}
use Rattle.cbm_iec.specs.declared.mouth.Mouth.TheVariants as mouth
use Rattle.cbm_iec.specs.declared.port.Port.{Port}
use Rattle.cbm_iec.specs.declared.port.Side.{Side}
use Rattle.cbm_iec.specs.declared.port.Side.TheVariants.{Hearing, Speaking}
use Rattle.cbm_drive.specs.Addressing.{Addressed}
use Rattle.cbm_drive.specs.Desks.{Desk}
use Rattle.cbm_drive.specs.Seats.{Seated}
use Rattle.cbm_drive.specs.Saved.{pace_number, role_number, channel_byte, saved_ear, saved_mouth, saved_side, saved_port, saved_addressed, saved_seat, MayBeAddressed, MaySit}
use Rattle.cbm_drive.specs.Loaded

both : (a b : Bool) → a ≡ true → b ≡ true → (a && b) ≡ true
both true true e f = refl
both true false e f = f
both false b e f = e

bound : {A B : Type 0} (o : Option A) (x : A) (f : A → Option B) → o ≡ Some x → (o >>= f) ≡ f x
bound o x f e = ap (λ p. p >>= f) e

chosen : {A : Type 0} (b : Bool) (x : A) → b ≡ true → (if b then Some x else None) ≡ Some x
chosen true x e = refl
chosen false x e = absurd cc

flag_again : (b : Bool) → is_flag (flag_byte b) ≡ b
flag_again true = refl
flag_again false = refl

pace_again : (p : Pace) → Loaded.pace_by (pace_number p) ≡ p
pace_again pace.Profile = refl
pace_again pace.Kernal = refl

role_again : (r : Role) → Loaded.role_by (role_number r) ≡ r
role_again role.Absent = refl
role_again role.Listener = refl
role_again role.Talker = refl

-- ---- what a drive waits for

ear_again : (e : Ear) (rest : List ℕ) → Loaded.side_at (saved_ear e ++ rest) ≡ Some (Hearing e, rest)
ear_again ear.Idle rest = refl
ear_again (ear.Starting t) rest = ap (λ (n : ℕ). Some (Hearing (ear.Starting n), rest)) (eight_back t)
ear_again ear.Await rest = refl
ear_again (ear.Leaving t) rest = ap (λ (n : ℕ). Some (Hearing (ear.Leaving n), rest)) (eight_back t)
ear_again (ear.Returning t) rest = ap (λ (n : ℕ). Some (Hearing (ear.Returning n), rest)) (eight_back t)
ear_again ear.Holding rest = refl
ear_again (ear.Freeing t) rest = ap (λ (n : ℕ). Some (Hearing (ear.Freeing n), rest)) (eight_back t)
ear_again ear.Ready rest = refl
ear_again (ear.Timed t) rest = ap (λ (n : ℕ). Some (Hearing (ear.Timed n), rest)) (eight_back t)
ear_again (ear.Pulsing t) rest = ap (λ (n : ℕ). Some (Hearing (ear.Pulsing n), rest)) (eight_back t)
ear_again ear.EoiNoted rest = refl
ear_again (ear.Gathering eoi count byte) rest = ap (λ (b : Bool). Some (Hearing (ear.Gathering b count byte), rest)) (flag_again eoi)
ear_again (ear.Accepting t eoi byte) rest =
    ap (λ (n : ℕ). Some (Hearing (ear.Accepting n (is_flag (flag_byte eoi)) byte), rest)) (eight_back t)
    ∙ ap (λ (b : Bool). Some (Hearing (ear.Accepting t b byte), rest)) (flag_again eoi)

mouth_again : (m : Mouth) (rest : List ℕ) → Loaded.side_at (saved_mouth m ++ rest) ≡ Some (Speaking m, rest)
mouth_again mouth.Turned rest = refl
mouth_again (mouth.Answering t) rest = ap (λ (n : ℕ). Some (Speaking (mouth.Answering n), rest)) (eight_back t)
mouth_again (mouth.Mute t) rest = ap (λ (n : ℕ). Some (Speaking (mouth.Mute n), rest)) (eight_back t)
mouth_again (mouth.Led t) rest = ap (λ (n : ℕ). Some (Speaking (mouth.Led n), rest)) (eight_back t)
mouth_again (mouth.Offering byte last) rest = ap (λ (b : Bool). Some (Speaking (mouth.Offering byte b), rest)) (flag_again last)
mouth_again (mouth.EoiOffered byte) rest = refl
mouth_again (mouth.EoiPulsed byte) rest = refl
mouth_again (mouth.Sending t byte last left half) rest =
    ap (λ (n : ℕ). Some (Speaking (mouth.Sending n byte (is_flag (flag_byte last)) left half), rest)) (eight_back t)
    ∙ ap (λ (b : Bool). Some (Speaking (mouth.Sending t byte b left half), rest)) (flag_again last)
mouth_again (mouth.Waiting byte last) rest = ap (λ (b : Bool). Some (Speaking (mouth.Waiting byte b), rest)) (flag_again last)
mouth_again (mouth.Ending t) rest = ap (λ (n : ℕ). Some (Speaking (mouth.Ending n), rest)) (eight_back t)
mouth_again mouth.Over rest = refl

side_again : (s : Side) (rest : List ℕ) → Loaded.side_at (saved_side s ++ rest) ≡ Some (s, rest)
side_again (Hearing e) rest = ear_again e rest
side_again (Speaking m) rest = mouth_again m rest

-- ---- the port

-- the port with other parts
abbrev port_with : Port → Pace → Role → Bool → Bool → Bool → Bool → Bool → Port
port_with p speed r a b c d e = record {
  party = record { device = p.party.device; reaction = p.party.reaction; pace = speed };
  role = r;
  own = record { clock_low = a; data_low = b };
  others = record { atn_low = c; clock_low = d; data_low = e };
  side = p.side;
}

parts_again : (p : Port) → port_with p (Loaded.pace_by (pace_number p.party.pace)) (Loaded.role_by (role_number p.role)) (is_flag (flag_byte p.own.clock_low))
    (is_flag (flag_byte p.own.data_low)) (is_flag (flag_byte p.others.atn_low)) (is_flag (flag_byte p.others.clock_low)) (is_flag (flag_byte p.others.data_low)) ≡ p
parts_again p =
    ap (λ (x : Pace). port_with p x (Loaded.role_by (role_number p.role)) (is_flag (flag_byte p.own.clock_low)) (is_flag (flag_byte p.own.data_low)) (is_flag (flag_byte p.others.atn_low)) (is_flag (flag_byte p.others.clock_low)) (is_flag (flag_byte p.others.data_low))) (pace_again p.party.pace)
    ∙ ap (λ (x : Role). port_with p p.party.pace x (is_flag (flag_byte p.own.clock_low)) (is_flag (flag_byte p.own.data_low)) (is_flag (flag_byte p.others.atn_low)) (is_flag (flag_byte p.others.clock_low)) (is_flag (flag_byte p.others.data_low))) (role_again p.role)
    ∙ ap (λ (x : Bool). port_with p p.party.pace p.role x (is_flag (flag_byte p.own.data_low)) (is_flag (flag_byte p.others.atn_low)) (is_flag (flag_byte p.others.clock_low)) (is_flag (flag_byte p.others.data_low))) (flag_again p.own.clock_low)
    ∙ ap (λ (x : Bool). port_with p p.party.pace p.role p.own.clock_low x (is_flag (flag_byte p.others.atn_low)) (is_flag (flag_byte p.others.clock_low)) (is_flag (flag_byte p.others.data_low))) (flag_again p.own.data_low)
    ∙ ap (λ (x : Bool). port_with p p.party.pace p.role p.own.clock_low p.own.data_low x (is_flag (flag_byte p.others.clock_low)) (is_flag (flag_byte p.others.data_low))) (flag_again p.others.atn_low)
    ∙ ap (λ (x : Bool). port_with p p.party.pace p.role p.own.clock_low p.own.data_low p.others.atn_low x (is_flag (flag_byte p.others.data_low))) (flag_again p.others.clock_low)
    ∙ ap (λ (x : Bool). port_with p p.party.pace p.role p.own.clock_low p.own.data_low p.others.atn_low p.others.clock_low x) (flag_again p.others.data_low)

port_again : (p : Port) (rest : List ℕ) → Loaded.port_at (saved_port p ++ rest) ≡ Some (p, rest)
port_again p rest =
    bound (Loaded.side_at (saved_side p.side ++ rest)) (p.side, rest) _ (side_again p.side rest)
    ∙ ap (λ (x : Port). Some (x, rest)) (parts_again p)

-- ---- who is addressed

channel_again : (o : Option ℕ) → IfSome o (λ c. c ≤ 15) → Loaded.channel_with (channel_byte o) ≡ o
channel_again None h = refl
channel_again (Some c) h = chosen (nat_le c 15) c (le-leb c 15 h)

-- who is addressed, with other parts
abbrev addressed_with : Addressed → Pace → Role → Option ℕ → Bool → Bool → Addressed
addressed_with a speed r o naming freed = record { device = a.device; pace = speed; role = r; channel = o; naming = naming; freed = freed; name = a.name }

fields_again : (a : Addressed) → IfSome a.channel (λ c. c ≤ 15) → addressed_with a (Loaded.pace_by (pace_number a.pace)) (Loaded.role_by (role_number a.role))
    (Loaded.channel_with (channel_byte a.channel)) (is_flag (flag_byte a.naming)) (is_flag (flag_byte a.freed)) ≡ a
fields_again a h =
    ap (λ (x : Pace). addressed_with a x (Loaded.role_by (role_number a.role)) (Loaded.channel_with (channel_byte a.channel)) (is_flag (flag_byte a.naming)) (is_flag (flag_byte a.freed))) (pace_again a.pace)
    ∙ ap (λ (x : Role). addressed_with a a.pace x (Loaded.channel_with (channel_byte a.channel)) (is_flag (flag_byte a.naming)) (is_flag (flag_byte a.freed))) (role_again a.role)
    ∙ ap (λ (x : Option ℕ). addressed_with a a.pace a.role x (is_flag (flag_byte a.naming)) (is_flag (flag_byte a.freed))) (channel_again a.channel h)
    ∙ ap (λ (x : Bool). addressed_with a a.pace a.role a.channel x (is_flag (flag_byte a.freed))) (flag_again a.naming)
    ∙ ap (λ (x : Bool). addressed_with a a.pace a.role a.channel a.naming x) (flag_again a.freed)

addressed_again : (a : Addressed) (rest : List ℕ) → MayBeAddressed a → Loaded.addressed_at (saved_addressed a ++ rest) ≡ Some (a, rest)
addressed_again a rest h =
    bound (text_at (counted_text a.name ++ rest)) (a.name, rest) _ (text_again a.name rest)
    ∙ bound (Loaded.addressed_of a.device (pace_number a.pace) (role_number a.role) (channel_byte a.channel) (flag_byte a.naming) (flag_byte a.freed) a.name) a
    (λ (x : Addressed). Some (x, rest))
    (chosen (nat_lt a.device 31 && nat_le (length a.name) 256) _
    (both (nat_lt a.device 31) (nat_le (length a.name) 256) (lt-ltb a.device 31 h.device) (le-leb (length a.name) 256 h.name))
    ∙ ap (λ (x : Addressed). Some x) (fields_again a h.channel))

-- ---- the drive

desk_again : {M : Type 0} (most : ℕ) (d : Desk (Kept M)) (rest : List ℕ) → MayBeAddressed d.addressed → MayBeKept most d.dos
    → Loaded.desk_at d.dos.medium most ((saved_addressed d.addressed ++ saved_dos d.dos) ++ rest) ≡ Some (d, rest)
desk_again {M} most d rest h k =
    bound (Loaded.addressed_at ((saved_addressed d.addressed ++ saved_dos d.dos) ++ rest)) (d.addressed, saved_dos d.dos ++ rest) _
    (ap Loaded.addressed_at (append_assoc (saved_addressed d.addressed) (saved_dos d.dos) rest) ∙ addressed_again d.addressed (saved_dos d.dos ++ rest) h)
    ∙ bound (dos_at d.dos.medium most (saved_dos d.dos ++ rest)) (d.dos, rest) (λ (x : Kept M × List ℕ). Some (record { dos = x.0; addressed = d.addressed }, x.1))
    (dos_again most d.dos rest k)

pub seat_again : {M : Type 0} (most : ℕ) (s : Seated (Desk (Kept M))) (rest : List ℕ) → MaySit most s
    → Loaded.seat_at s.machine.dos.medium most (saved_seat s ++ rest) ≡ Some (s, rest)
seat_again {M} most s rest h =
    bound (Loaded.port_at (saved_seat s ++ rest)) (s.port, (saved_addressed s.machine.addressed ++ saved_dos s.machine.dos) ++ rest) _
    (ap Loaded.port_at (append_assoc (saved_port s.port) (saved_addressed s.machine.addressed ++ saved_dos s.machine.dos) rest)
    ∙ port_again s.port ((saved_addressed s.machine.addressed ++ saved_dos s.machine.dos) ++ rest))
    ∙ bound (Loaded.desk_at s.machine.dos.medium most ((saved_addressed s.machine.addressed ++ saved_dos s.machine.dos) ++ rest)) (s.machine, rest) _
    (desk_again most s.machine rest h.addressed h.kept)
    ∙ bound (Loaded.seated_of s.port s.machine) s (λ (x : Seated (Desk (Kept M))). Some (x, rest))
    (chosen (nat_lt s.port.party.device 31 && nat_le 1 s.port.party.reaction) s
    (both (nat_lt s.port.party.device 31) (nat_le 1 s.port.party.reaction) (lt-ltb s.port.party.device 31 h.device) (le-leb 1 s.port.party.reaction h.reaction)))
