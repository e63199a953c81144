-- What a drive was told, read from the trace alone: a decoder that keeps its role, the attention, and the byte under way.
use Rattle.std.proofs.Common.{◌≡◌, ℕ, zero, suc, Bool, true, false, not, List, [], ◌∷◌, ◌++◌, Option, Some, None, ap, sym, ◌∙◌, subst, inl, inr, refl}
use Rattle.std.specs.Prelude.{if◌then◌else◌, nat_eq, ◌⊎◌}
use Rattle.cbm_iec.specs.Roles.{role_after}
use Rattle.cbm_iec.specs.declared.machine.Act.TheVariants.{Pulled, Attention, Released, Heard, Said, Silent}
use Rattle.cbm_iec.specs.declared.machine.Act.{Act}
use Rattle.cbm_iec.specs.declared.event.Event.{Event}
use Rattle.cbm_iec.specs.declared.event.Who.TheVariants.{Host, Drive}
use Rattle.cbm_iec.specs.declared.event.Who.{Who}
use Rattle.cbm_iec.specs.declared.lines.Line.TheVariants.{Atn, Clock, Data}
use Rattle.cbm_iec.specs.declared.lines.Line.{Line}
use Rattle.cbm_iec.specs.declared.lines.Way.TheVariants.{Pull, Free}
use Rattle.cbm_iec.specs.declared.lines.Way.{Way}
use Rattle.cbm_iec.specs.declared.party.Role.TheVariants.{Absent, Listener, Talker}
use Rattle.cbm_iec.specs.declared.party.Role.{Role}
use Rattle.cbm_session.specs.Bits.{number_of}
use Rattle.cbm_session.specs.Steps.{Mark, Step, events_of, with_mark, acts_for, Plain, ForEach, For}

-- the byte under way: of the host, as long as bits are left (with the end noted, DATA as the host holds it); after ATN's release to the talker; and of the talker
pub data Under : Type 0 where
  Off : Under
  Readied : (eoi : Bool) → Under
  Counting : (eoi held : Bool) → (left : ℕ) → (bits : List Bool) → Under
  Turning : Under
  Asking : Under
  Answered : Under
  Muted : Under
  Leads : Under
  Saying : (held signal : Bool) → (left : ℕ) → (bits : List Bool) → Under

pub record Known : Type 0 where
  pub role : Role
  pub atn : Bool
  pub under : Under

abbrev pub known : Role → Bool → Under → Known
known role atn under = record { role = role; atn = atn; under = under }

-- after ATN's release
abbrev pub freed_under : Role → Under
freed_under Absent = Off
freed_under Listener = Off
freed_under Talker = Turning

-- CLOCK of the host
abbrev pub clock_freed : Under → Under
clock_freed Off = Readied false
clock_freed (Readied eoi) = Readied eoi
clock_freed (Counting eoi held zero bits) = Readied false
clock_freed (Counting eoi held (suc left) bits) = Counting eoi held left (bits ++ not held ∷ [])
clock_freed Turning = Asking
clock_freed Asking = Asking
clock_freed Answered = Answered
clock_freed Muted = Muted
clock_freed Leads = Leads
clock_freed (Saying held signal left bits) = Saying held signal left bits

abbrev pub clock_pulled : Under → Under
clock_pulled Off = Off
clock_pulled (Readied eoi) = Counting eoi false 8 []
clock_pulled (Counting eoi held left bits) = Counting eoi held left bits
clock_pulled Turning = Turning
clock_pulled Asking = Asking
clock_pulled Answered = Answered
clock_pulled Muted = Muted
clock_pulled Leads = Leads
clock_pulled (Saying held signal left bits) = Saying held signal left bits

-- DATA of the host
abbrev pub data_pulled : Under → Under
data_pulled Off = Off
data_pulled (Readied eoi) = Readied eoi
data_pulled (Counting eoi held left bits) = Counting eoi true left bits
data_pulled Turning = Turning
data_pulled Asking = Asking
data_pulled Answered = Answered
data_pulled Muted = Muted
data_pulled Leads = Leads
data_pulled (Saying held signal zero bits) = Leads
data_pulled (Saying held signal (suc left) bits) = Saying held true (suc left) bits

abbrev pub data_freed : Under → Under
data_freed Off = Off
data_freed (Readied eoi) = Readied eoi
data_freed (Counting eoi held left bits) = Counting eoi false left bits
data_freed Turning = Turning
data_freed Asking = Asking
data_freed Answered = Answered
data_freed Muted = Muted
data_freed Leads = Leads
data_freed (Saying held signal left bits) = Saying held signal left bits

-- the talker's byte counts with the host's pull of DATA
abbrev pub said_act : Under → Option Act
said_act Off = None
said_act (Readied eoi) = None
said_act (Counting eoi held left bits) = None
said_act Turning = None
said_act Asking = None
said_act Answered = None
said_act Muted = None
said_act Leads = None
said_act (Saying held signal zero bits) = Some (Said (number_of bits) signal)
said_act (Saying held signal (suc left) bits) = None

abbrev pub host_next : Known → Line → Way → Known
host_next k Atn Pull = known k.role true Off
host_next k Atn Free = known k.role false (freed_under k.role)
host_next k Clock Pull = known k.role k.atn (clock_pulled k.under)
host_next k Clock Free = known k.role k.atn (clock_freed k.under)
host_next k Data Pull = known k.role k.atn (data_pulled k.under)
host_next k Data Free = known k.role k.atn (data_freed k.under)

abbrev pub host_act : Known → Line → Way → Option Act
host_act k Atn Pull = Some Pulled
host_act k Atn Free = Some Released
host_act k Clock Pull = None
host_act k Clock Free = None
host_act k Data Pull = said_act k.under
host_act k Data Free = None

-- the drive's own DATA: the pulse, the accept with its role, the bits that it says
abbrev pub own_pulled : ℕ → Role → Bool → Under → Known
own_pulled d role atn Off = known role atn Off
own_pulled d role atn (Readied eoi) = known role atn (Readied true)
own_pulled d role atn (Counting eoi held zero bits) = known (if atn then role_after d (number_of bits) role else role) atn (Counting eoi held zero bits)
own_pulled d role atn (Counting eoi held (suc left) bits) = known role atn (Counting eoi held (suc left) bits)
own_pulled d role atn Turning = known role atn Turning
own_pulled d role atn Asking = known role atn Asking
own_pulled d role atn Answered = known role atn Answered
own_pulled d role atn Muted = known role atn Muted
own_pulled d role atn Leads = known role atn Leads
own_pulled d role atn (Saying held signal left bits) = known role atn (Saying true signal left bits)

abbrev pub heard_act : Bool → Under → Option Act
heard_act atn Off = None
heard_act atn (Readied eoi) = None
heard_act atn (Counting eoi held zero bits) = Some (if atn then Attention (number_of bits) else Heard (number_of bits) eoi)
heard_act atn (Counting eoi held (suc left) bits) = None
heard_act atn Turning = None
heard_act atn Asking = None
heard_act atn Answered = None
heard_act atn Muted = None
heard_act atn Leads = None
heard_act atn (Saying held signal left bits) = None

abbrev pub own_freed : Under → Under
own_freed Off = Off
own_freed (Readied eoi) = Readied eoi
own_freed (Counting eoi held left bits) = Counting eoi held left bits
own_freed Turning = Turning
own_freed Asking = Off
own_freed Answered = Leads
own_freed Muted = Off
own_freed Leads = Leads
own_freed (Saying held signal left bits) = Saying false signal left bits

abbrev pub silent_act : Under → Option Act
silent_act Off = None
silent_act (Readied eoi) = None
silent_act (Counting eoi held left bits) = None
silent_act Turning = None
silent_act Asking = Some Silent
silent_act Answered = None
silent_act Muted = Some Silent
silent_act Leads = None
silent_act (Saying held signal left bits) = None

-- its own CLOCK: the lead, and the bits
abbrev pub own_clock_pulled : Under → Under
own_clock_pulled Off = Off
own_clock_pulled (Readied eoi) = Readied eoi
own_clock_pulled (Counting eoi held left bits) = Counting eoi held left bits
own_clock_pulled Turning = Turning
own_clock_pulled Asking = Answered
own_clock_pulled Answered = Answered
own_clock_pulled Muted = Muted
own_clock_pulled Leads = Leads
own_clock_pulled (Saying held signal left bits) = Saying held signal left bits

abbrev pub own_clock_freed : Under → Under
own_clock_freed Off = Off
own_clock_freed (Readied eoi) = Readied eoi
own_clock_freed (Counting eoi held left bits) = Counting eoi held left bits
own_clock_freed Turning = Turning
own_clock_freed Asking = Asking
own_clock_freed Answered = Muted
own_clock_freed Muted = Muted
own_clock_freed Leads = Saying false false 8 []
own_clock_freed (Saying held signal zero bits) = Saying held signal zero bits
own_clock_freed (Saying held signal (suc left) bits) = Saying held signal left (bits ++ not held ∷ [])

abbrev pub own_next : ℕ → Known → Line → Way → Known
own_next d k Atn way = k
own_next d k Clock Pull = known k.role k.atn (own_clock_pulled k.under)
own_next d k Clock Free = known k.role k.atn (own_clock_freed k.under)
own_next d k Data Pull = own_pulled d k.role k.atn k.under
own_next d k Data Free = known k.role k.atn (own_freed k.under)

abbrev pub own_act : Known → Line → Way → Option Act
own_act k Atn way = None
own_act k Clock Pull = None
own_act k Clock Free = None
own_act k Data Pull = heard_act k.atn k.under
own_act k Data Free = silent_act k.under

-- a step of the host or of the drive itself
abbrev pub step_by : ℕ → Known → Line → Way → Who → Known
step_by d k line way Host = host_next k line way
step_by d k line way (Drive o) = own_next d k line way

abbrev pub step_act_by : Known → Line → Way → Who → Option Act
step_act_by k line way Host = host_act k line way
step_act_by k line way (Drive o) = own_act k line way

abbrev pub step_next : ℕ → Known → Event → Known
step_next d k e = step_by d k e.change.line e.change.way e.who

abbrev pub step_act : Known → Event → Option Act
step_act k e = step_act_by k e.change.line e.change.way e.who

-- an event of the trace: another drive's says nothing
abbrev pub when_mine : {A : Type 0} → Bool → A → A → A
when_mine true x y = x
when_mine false x y = y

abbrev pub next_by : ℕ → Known → Line → Way → Who → Known
next_by d k line way Host = host_next k line way
next_by d k line way (Drive o) = when_mine (nat_eq d o) (own_next d k line way) k

abbrev pub act_by : ℕ → Known → Line → Way → Who → Option Act
act_by d k line way Host = host_act k line way
act_by d k line way (Drive o) = when_mine (nat_eq d o) (own_act k line way) None

abbrev pub next : ℕ → Known → Event → Known
next d k e = next_by d k e.change.line e.change.way e.who

abbrev pub act_at : ℕ → Known → Event → Option Act
act_at d k e = act_by d k e.change.line e.change.way e.who

abbrev pub and_act : Option Act → List Act → List Act
and_act None acts = acts
and_act (Some act) acts = act ∷ acts

-- the acts of a trace, by the decoder alone
abbrev pub acts_in : ℕ → Known → List Event → List Act
acts_in d k [] = []
acts_in d k (e ∷ es) = and_act (act_at d k e) (acts_in d (next d k e) es)

-- the act of a mark
abbrev pub mark_act : ℕ → Mark → Option Act
mark_act d Plain = None
mark_act d (ForEach act) = Some act
mark_act d (For other act) = when_mine (nat_eq d other) (Some act) None

-- the decoder reads these steps: at each it gives the act that the step counts
abbrev pub Reads : ℕ → Known → List Step → Known → Type 0
Reads d k [] k2 = k2 ≡ k
Reads d k (s ∷ ss) k2 = (mark_act d s.mark ≡ act_at d k s.event) × Reads d (next d k s.event) ss k2

with_is : (d : ℕ) (m : Mark) (acts : List Act) → with_mark d m acts ≡ and_act (mark_act d m) acts
with_is d Plain acts = refl
with_is d (ForEach act) acts = refl
with_is d (For other act) acts = go (nat_eq d other)
  where
    go : (v : Bool) → (if v then act ∷ acts else acts) ≡ and_act (when_mine v (Some act) None) acts
    go true = refl
    go false = refl

pub reads_acts : (d : ℕ) (k : Known) (ss : List Step) (k2 : Known) → Reads d k ss k2 → acts_for d ss ≡ acts_in d k (events_of ss)
reads_acts d k [] k2 r = refl
reads_acts d k (s ∷ ss) k2 r =
    with_is d s.mark (acts_for d ss)
    ∙ ap (λ (a : Option Act). and_act a (acts_for d ss)) r.0
    ∙ ap (λ (as2 : List Act). and_act (act_at d k s.event) as2) (reads_acts d (next d k s.event) ss k2 r.1)

pub reads_append : (d : ℕ) (k : Known) (xs ys : List Step) (k2 k3 : Known) → Reads d k xs k2 → Reads d k2 ys k3 → Reads d k (xs ++ ys) k3
reads_append d k [] ys k2 k3 r q = subst (λ (x : Known). Reads d x ys k3) r q
reads_append d k (s ∷ xs) ys k2 k3 r q = (r.0, reads_append d (next d k s.event) xs ys k2 k3 r.1 q)

pub reads_split : (d : ℕ) (k : Known) (xs ys : List Step) (k3 : Known) → Reads d k (xs ++ ys) k3 → (k2 : Known) × Reads d k xs k2 × Reads d k2 ys k3
reads_split d k [] ys k3 r = (k, refl, r)
reads_split d k (s ∷ xs) ys k3 r = let q = reads_split d (next d k s.event) xs ys k3 r.1 in (q.0, (r.0, q.1), q.2)

-- the same over the host's and the drive's own steps alone
abbrev pub ReadsOwn : ℕ → Known → List Step → Known → Type 0
ReadsOwn d k [] k2 = k2 ≡ k
ReadsOwn d k (s ∷ ss) k2 = (mark_act d s.mark ≡ step_act k s.event) × ReadsOwn d (step_next d k s.event) ss k2

pub own_append : (d : ℕ) (k : Known) (xs ys : List Step) (k2 k3 : Known) → ReadsOwn d k xs k2 → ReadsOwn d k2 ys k3 → ReadsOwn d k (xs ++ ys) k3
own_append d k [] ys k2 k3 r q = subst (λ (x : Known). ReadsOwn d x ys k3) r q
own_append d k (s ∷ xs) ys k2 k3 r q = (r.0, own_append d (step_next d k s.event) xs ys k2 k3 r.1 q)

-- whose a step is, as the drive sees it
abbrev pub IsMine : ℕ → Who → Type 0
IsMine d Host = Unit {0}
IsMine d (Drive o) = nat_eq d o ≡ true

abbrev pub IsAnothers : ℕ → Who → Type 0
IsAnothers d Host = ⊥
IsAnothers d (Drive o) = nat_eq d o ≡ false

pub record IsForeign (d : ℕ) (s : Step) : Type 0 where
  pub who : IsAnothers d s.event.who
  pub mark : mark_act d s.mark ≡ None

-- steps of a bus, as one drive sees them: the host's and its own, with foreign ones between
abbrev pub Shows : ℕ → List Step → List Step → Type 0
Shows d [] mine = mine ≡ []
Shows d (s ∷ ss) mine = (IsForeign d s × Shows d ss mine) ⊎ ((more : List Step) × (mine ≡ s ∷ more) × IsMine d s.event.who × Shows d ss more)

foreign_next : (d : ℕ) (k : Known) (line : Line) (way : Way) (w : Who) → IsAnothers d w → next_by d k line way w ≡ k
foreign_next d k line way Host h = elim h [ ]
foreign_next d k line way (Drive o) h = ap (λ (v : Bool). when_mine v (own_next d k line way) k) h

foreign_act : (d : ℕ) (k : Known) (line : Line) (way : Way) (w : Who) → IsAnothers d w → act_by d k line way w ≡ None
foreign_act d k line way Host h = elim h [ ]
foreign_act d k line way (Drive o) h = ap (λ (v : Bool). when_mine v (own_act k line way) None) h

mine_next : (d : ℕ) (k : Known) (line : Line) (way : Way) (w : Who) → IsMine d w → next_by d k line way w ≡ step_by d k line way w
mine_next d k line way Host h = refl
mine_next d k line way (Drive o) h = ap (λ (v : Bool). when_mine v (own_next d k line way) k) h

mine_act : (d : ℕ) (k : Known) (line : Line) (way : Way) (w : Who) → IsMine d w → act_by d k line way w ≡ step_act_by k line way w
mine_act d k line way Host h = refl
mine_act d k line way (Drive o) h = ap (λ (v : Bool). when_mine v (own_act k line way) None) h

-- so what is read of the drive's own steps is read of all
pub shown_reads : (d : ℕ) (ss mine : List Step) (k k2 : Known) → Shows d ss mine → ReadsOwn d k mine k2 → Reads d k ss k2
shown_reads d [] mine k k2 h r = subst (λ (m : List Step). ReadsOwn d k m k2) h r
shown_reads d (s ∷ ss) mine k k2 (inl h) r = (
  h.0.mark ∙ sym (foreign_act d k s.event.change.line s.event.change.way s.event.who h.0.who),
  subst (λ (x : Known). Reads d x ss k2) (sym (foreign_next d k s.event.change.line s.event.change.way s.event.who h.0.who)) (shown_reads d ss mine k k2 h.1 r),
)
shown_reads d (s ∷ ss) mine k k2 (inr h) r =
    let q = subst (λ (m : List Step). ReadsOwn d k m k2) h.1 r in (
      q.0 ∙ sym (mine_act d k s.event.change.line s.event.change.way s.event.who h.2),
      subst (λ (x : Known). Reads d x ss k2) (sym (mine_next d k s.event.change.line s.event.change.way s.event.who h.2)) (shown_reads d ss h.0 (step_next d k s.event) k2 h.3 q.1),
    )
