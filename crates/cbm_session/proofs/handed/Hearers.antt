-- A station on a bus as a drive that listens: told a change and at its reaction it goes on as that does, and its acts are what the wires hand it.
use Rattle.cbm_iec.specs.declared.pace.Pace.TheVariants.{Profile, Kernal}
use Rattle.cbm_iec.specs.declared.pace.Pace.{Pace}
use Rattle.std.proofs.Common.{◌≡◌, ℕ, ◌+◌, Bool, true, false, List, ◌∷◌, Option, Some, None, ap, sym, ◌∙◌, subst, refl, ◌<◌, ◌++◌}
use Rattle.std.proofs.lemmas.Bool.{ne_eqb}
use Rattle.std.specs.Prelude.{if◌then◌else◌, ◌&&◌, not, nat_le, ◌==◌, ◌%◌}
use Rattle.cbm_iec.specs.Changes.{is_pull}
use Rattle.cbm_iec.specs.Hearing.{is_same, heard_act, ear_row}
use Rattle.cbm_iec.specs.Ports.{next_held, side_held, port_due, side_due, side_role, side_after, side_act, turned_side, lined_side, lined_act, freed_side, told, told_act, reaction_act}
use Rattle.cbm_iec.specs.Roles.{role_after, role_with}
use Rattle.cbm_iec.specs.Speaking.{taken_act, mouth_row, end_frame_row, set_bit_row, show_bit_row}
use Rattle.cbm_iec.specs.Table.{TableRow}
use Rattle.cbm_iec.specs.declared.machine.Act.TheVariants.{Pulled, Attention, Released, Heard, Said, Silent}
use Rattle.cbm_iec.specs.declared.machine.Act.{Act}
use Rattle.cbm_iec.specs.declared.ear.Ear.TheVariants.{Idle, Await, Starting, Leaving, Returning, Holding, Freeing, Ready, Timed, Pulsing, EoiNoted, Gathering, Accepting}
use Rattle.cbm_iec.specs.declared.ear.Ear.{Ear}
use Rattle.cbm_iec.specs.declared.event.Event.{Event}
use Rattle.cbm_iec.specs.declared.event.Who.TheVariants.{Host, Drive}
use Rattle.cbm_iec.specs.declared.event.Who.{Who}
use Rattle.cbm_iec.specs.declared.lines.Line.TheVariants.{Atn, Clock, Data}
use Rattle.cbm_iec.specs.declared.lines.Line.{Line}
use Rattle.cbm_iec.specs.declared.lines.Way.{Way}
use Rattle.cbm_iec.specs.declared.lines.Held.{Held}
use Rattle.cbm_iec.specs.declared.lines.Lines.{Lines}
use Rattle.cbm_iec.specs.declared.mouth.Mouth.TheVariants.{Turned, Answering, Mute, Led, Offering, EoiOffered, EoiPulsed, Sending, Waiting, Ending, Over}
use Rattle.cbm_iec.specs.declared.mouth.Mouth.{Mouth}
use Rattle.cbm_iec.specs.declared.party.Role.TheVariants.{Absent, Listener, Talker}
use Rattle.cbm_iec.specs.declared.party.Role.{Role}
use Rattle.cbm_iec.specs.declared.port.Port.{Port}
use Rattle.cbm_iec.specs.declared.port.Side.TheVariants.{Hearing, Speaking}
use Rattle.cbm_iec.specs.declared.port.Side.{Side}
use Rattle.cbm_session.proofs.handed.Spelling.{Spells, IsBound, bits_after, WasShown, turned_spells, lines_spell, reaction_spells}
use Rattle.cbm_session.proofs.handed.Voices.{reaction_passes, freed_bits}
use Rattle.cbm_session.proofs.handed.Knowing.{SideKnows, run_with, told_knows, reacted_knows}
use Rattle.cbm_session.specs.Among.{Rest, wires_of, after_another}
use Rattle.cbm_session.specs.Answers.{Run}
use Rattle.cbm_session.specs.Handed.{Voice, voiced, cut_by, voice_by, said_of, HasSaid, passes, says, Hearer, ear_time, ear_freed, ear_lined, ear_told, hears, moves, rest_afterwards, comes_next, IsNothingDue, with_act, is_answer, Hands, tells, reacts, answers}
use Rattle.cbm_session.specs.Playing.{Station, IsByte, drive_events, shown, told_lines, react}

abbrev pub ear_of : Side → Option Ear
ear_of (Hearing ear) = Some ear
ear_of (Speaking mouth) = None

-- ---- the ear goes its own way

freed_ear : (r t : ℕ) (low : Bool) (role : Role) (side : Side) → ear_of (freed_side r t low role side) ≡ ear_freed r t role (ear_of side)
freed_ear r t low Absent side = refl
freed_ear r t low Listener (Hearing ear) = refl
freed_ear r t low Listener (Speaking mouth) = refl
freed_ear r t low Talker side = refl

lined_ear : (r t : ℕ) (was now : Lines) (side : Side) → ear_of (lined_side r t was now side) ≡ ear_lined r t was now (ear_of side)
lined_ear r t was now (Hearing ear) = refl
lined_ear r t was now (Speaking mouth) = refl

told_ear : (t : ℕ) (now : Lines) (q : Port) → ear_of (told t now q).side ≡ ear_told q.party.reaction t q.others now q.role (ear_of q.side)
told_ear t now q = go (is_same q.others.atn_low now.atn_low) now.atn_low
  where
    r : ℕ
    r = q.party.reaction

    go : (v u : Bool) → ear_of (if v then lined_side q.party.reaction t q.others now q.side else (if u then Hearing (Starting (t + q.party.reaction)) else freed_side q.party.reaction t now.clock_low q.role q.side))
        ≡ (if v then ear_lined q.party.reaction t q.others now (ear_of q.side) else (if u then Some (Starting (t + q.party.reaction)) else ear_freed q.party.reaction t q.role (ear_of q.side)))
    go true u = lined_ear q.party.reaction t q.others now q.side
    go false true = refl
    go false false = freed_ear q.party.reaction t now.clock_low q.role q.side

-- the role goes by the act
ear_role : (e : Pace) → (d : ℕ) (others : Lines) (role : Role) (ear : Ear) → side_role d others.atn_low role (Hearing ear) ≡ role_with d ((ear_row e ear).act others) role
ear_role e d others role (Accepting at_ eoi byte) = go others.atn_low
  where
    go : (v : Bool) → (if v then role_after d byte role else role) ≡ role_with d (Some (heard_act v byte eoi)) role
    go true = refl
    go false = refl
ear_role e d others role Await = refl
ear_role e d others role Idle = refl
ear_role e d others role (Starting at_) = refl
ear_role e d others role (Leaving at_) = refl
ear_role e d others role (Returning at_) = refl
ear_role e d others role Holding = refl
ear_role e d others role (Freeing at_) = refl
ear_role e d others role Ready = refl
ear_role e d others role (Timed at_) = refl
ear_role e d others role (Pulsing at_) = refl
ear_role e d others role EoiNoted = refl
ear_role e d others role (Gathering eoi count byte) = refl

-- ---- what a talker counts is its answer

abbrev IsAnswer : Option Act → Type 0
IsAnswer None = Unit {0}
IsAnswer (Some act) = is_answer act ≡ true

taken_is : (was now : Lines) (mouth : Mouth) → IsAnswer (taken_act was now mouth)
taken_is was now (Waiting byte last) = go (not was.data_low && now.data_low)
  where
    go : (v : Bool) → IsAnswer (if v then Some (Said byte last) else None)
    go true = refl
    go false = tt
taken_is was now Turned = tt
taken_is was now (Answering at_) = tt
taken_is was now (Led at_) = tt
taken_is was now (Offering byte last) = tt
taken_is was now (EoiOffered byte) = tt
taken_is was now (EoiPulsed byte) = tt
taken_is was now (Sending at_ byte last left half) = tt
taken_is was now (Mute at_) = tt
taken_is was now (Ending at_) = tt
taken_is was now Over = tt

said_is : (e : Pace) → (others : Lines) (p : Option (ℕ × Bool)) (mouth : Mouth) → IsAnswer ((mouth_row e p mouth).act others)
said_is e others p Turned = tt
said_is Profile others None (Answering at_) = refl
said_is Kernal others None (Answering at_) = tt
said_is Profile others (Some x) (Answering at_) = tt
said_is Kernal others (Some x) (Answering at_) = tt
said_is e others p (Led at_) = tt
said_is e others p (Offering byte last) = tt
said_is e others p (EoiOffered byte) = tt
said_is e others p (EoiPulsed byte) = tt
said_is e others p (Sending at_ byte last left half) = go (nat_le 16 half) ((half % 2) == 0)
  where
    row : Bool → Bool → TableRow Mouth
    row v u = if v then end_frame_row byte last else (if u then set_bit_row e byte last left half else show_bit_row e byte last left half)

    ended : (low : Bool) → IsAnswer (if low then Some (Said byte last) else None)
    ended true = refl
    ended false = tt

    go : (v u : Bool) → IsAnswer ((row v u).act others)
    go true u = ended others.data_low
    go false true = tt
    go false false = tt
said_is e others p (Waiting byte last) = tt
said_is e others p (Mute at_) = refl
said_is e others p (Ending at_) = tt
said_is e others p Over = tt

answered : (later : List ℕ) (end : ℕ) (h : Hearer) (es : List Event) (act : Option Act) (acts : List Act) → h.ear ≡ None → IsAnswer act → Hands later end h es acts → Hands later end h es (with_act act acts)
answered later end h es None acts n a g = g
answered later end h es (Some act) acts n a g = answers act acts n a refl g

-- ---- a station

module _ (M : Type 0) (step : M → Act → M) (peek : M → Option (ℕ × Bool)) where
  abbrev pub hearer : Station M → Hearer
  hearer s = record { party = s.port.party; role = s.port.role; rest = s.rest; ear = ear_of s.port.side }

  -- it sees what all others hold, and knows its byte
  pub record IsSettled (s : Station M) : Type 0 where
    pub wired : s.port.others ≡ wires_of s.rest
    pub knows : SideKnows s.port.side (peek s.machine)

  pub told_settled : (t : ℕ) (r : Rest) (s : Station M) → IsSettled s → IsSettled (told_lines M step peek t r s)
  told_settled t r s g = record { wired = refl; knows = (told_knows M step peek t (wires_of r) s.port s.machine g.knows).1 }

  pub react_settled : (t : ℕ) (s : Station M) → IsSettled s → IsSettled (react M step peek t s)
  react_settled t s g = record { wired = g.wired; knows = (reacted_knows M step peek t s.port s.machine g.knows).1 }

  -- its own lines have shown the byte that it sends
  abbrev SideSpells : Side → Held → Option (List Bool) → Type 0
  SideSpells (Hearing ear) own bits = Unit {0}
  SideSpells (Speaking mouth) own bits = Spells mouth own.clock_low own.data_low bits

  pub record IsVoiced (s : Station M) (v : Voice) : Type 0 where
    pub atn : v.atn ≡ s.port.others.atn_low
    pub low : v.low ≡ s.port.own.data_low
    pub bits : SideSpells s.port.side s.port.own v.bits

  abbrev voice_then : Option Act → Voice → Voice
  voice_then act v = record { atn = v.atn; low = v.low; bits = bits_after act v.bits }

  abbrev pub told_voice : Who → Line → Way → Station M → Voice → Voice
  told_voice who line way s v = voice_then (told_act (wires_of (rest_afterwards who line way s.rest)) s.port) (voice_by s.port.party.device who line way v)

  abbrev own_voice_shown : Station M → Voice → Voice
  own_voice_shown s v = record {
    atn = v.atn;
    low = (next_held (peek s.machine) s.port).data_low;
    bits = freed_bits s.port.own.clock_low (next_held (peek s.machine) s.port).clock_low v.low v.bits;
  }

  abbrev pub own_voice : Station M → Voice → Voice
  own_voice s v = voice_then (reaction_act (peek s.machine) s.port) (own_voice_shown s v)

  -- an event of another party
  abbrev pub IsOthers : ℕ → Who → Type 0
  IsOthers d Host = Unit {0}
  IsOthers d (Drive o) = d ≡ o → ⊥

  record IsHeard (now : Lines) (s : Station M) (v u : Voice) : Type 0 where
    atn : u.atn ≡ now.atn_low
    low : u.low ≡ v.low
    bits : u.bits ≡ (if is_same s.port.others.atn_low now.atn_low then v.bits else None)

  same_self : (a b : Bool) → a ≡ b → is_same a b ≡ true
  same_self true true e = refl
  same_self true false e = absurd cc
  same_self false true e = absurd cc
  same_self false false e = refl

  unchanged : (now : Lines) (s : Station M) (v : Voice) → v.atn ≡ s.port.others.atn_low → s.port.others.atn_low ≡ now.atn_low → IsHeard now s v v
  unchanged now s v e f = record { atn = e ∙ f; low = refl; bits = ap (λ (b : Bool). if b then v.bits else None) (sym (same_self s.port.others.atn_low now.atn_low f)) }

  atn_heard : (now : Lines) (s : Station M) (v : Voice) (way : Way) → v.atn ≡ s.port.others.atn_low → now.atn_low ≡ is_pull way
      → ((cut_by Atn way v).atn ≡ now.atn_low) × ((cut_by Atn way v).low ≡ v.low) × ((cut_by Atn way v).bits ≡ (if is_same s.port.others.atn_low now.atn_low then v.bits else None))
  atn_heard now s v way e f = go v.atn (is_pull way) s.port.others.atn_low now.atn_low e f
    where
      cut : Bool → Bool → Voice
      cut a w = if is_same a w then (record { atn = a; low = v.low; bits = v.bits }) else (record { atn = w; low = v.low; bits = None })

      go : (a w o n : Bool) → a ≡ o → n ≡ w → ((cut a w).atn ≡ n) × ((cut a w).low ≡ v.low) × ((cut a w).bits ≡ (if is_same o n then v.bits else None))
      go true true true true h k = (refl, refl, refl)
      go true false true false h k = (refl, refl, refl)
      go false true false true h k = (refl, refl, refl)
      go false false false false h k = (refl, refl, refl)
      go true w false n h k = absurd cc
      go false w true n h k = absurd cc
      go a true o false h k = absurd cc
      go a false o true h k = absurd cc

  voice_heard : (who : Who) (line : Line) (way : Way) (s : Station M) (v : Voice) → IsSettled s → IsVoiced s v → IsOthers s.port.party.device who
      → IsHeard (wires_of (rest_afterwards who line way s.rest)) s v (voice_by s.port.party.device who line way v)
  voice_heard Host Atn way s v g h n = let k = atn_heard (wires_of (rest_afterwards Host Atn way s.rest)) s v way h.atn refl in record { atn = k.0; low = k.1; bits = k.2 }
  voice_heard Host Clock way s v g h n = unchanged (wires_of (rest_afterwards Host Clock way s.rest)) s v h.atn (ap (λ (l : Lines). l.atn_low) g.wired)
  voice_heard Host Data way s v g h n = unchanged (wires_of (rest_afterwards Host Data way s.rest)) s v h.atn (ap (λ (l : Lines). l.atn_low) g.wired)
  voice_heard (Drive o) line way s v g h n =
      subst (λ (b : Bool). IsHeard (wires_of (after_another line way s.rest)) s v (if b then voiced line way v else v)) (sym (ne_eqb s.port.party.device o n)) (by_line line)
    where
      by_line : (l : Line) → IsHeard (wires_of (after_another l way s.rest)) s v v
      by_line Atn = unchanged (wires_of (after_another Atn way s.rest)) s v h.atn (ap (λ (x : Lines). x.atn_low) g.wired)
      by_line Clock = unchanged (wires_of (after_another Clock way s.rest)) s v h.atn (ap (λ (x : Lines). x.atn_low) g.wired)
      by_line Data = unchanged (wires_of (after_another Data way s.rest)) s v h.atn (ap (λ (x : Lines). x.atn_low) g.wired)

  freed_spelled : (r t : ℕ) (low : Bool) (role : Role) (side : Side) (own : Held) → SideSpells (freed_side r t low role side) own None
  freed_spelled r t low Absent side own = tt
  freed_spelled r t low Listener (Hearing ear) own = tt
  freed_spelled r t low Listener (Speaking mouth) own = tt
  freed_spelled r t low Talker side own = turned_spells r t low own.clock_low own.data_low

  -- told an event of another party
  told_spells : (t : ℕ) (now : Lines) (q : Port) (bits : Option (List Bool)) → SideSpells q.side q.own bits
      → WasShown (told_act now q) (if is_same q.others.atn_low now.atn_low then bits else None) × SideSpells (told t now q).side q.own (bits_after (told_act now q) (if is_same q.others.atn_low now.atn_low then bits else None))
  told_spells t now q bits h = go (is_same q.others.atn_low now.atn_low)
    where
      Led : Side → Option Act → Option (List Bool) → Type 0
      Led side act b = WasShown act b × SideSpells side q.own (bits_after act b)

      lined : (side : Side) → SideSpells side q.own bits → Led (lined_side q.party.reaction t q.others now side) (lined_act q.others now side) bits
      lined (Hearing ear) k = (tt, tt)
      lined (Speaking mouth) k = lines_spell q.party.reaction t q.others now mouth q.own.clock_low q.own.data_low bits k

      turned : (v : Bool) → Led (if v then Hearing (Starting (t + q.party.reaction)) else freed_side q.party.reaction t now.clock_low q.role q.side) (Some (if v then Pulled else Released)) None
      turned true = (tt, tt)
      turned false = (tt, freed_spelled q.party.reaction t now.clock_low q.role q.side q.own)

      go : (v : Bool) → Led (if v then lined_side q.party.reaction t q.others now q.side else turned_side t now q) (if v then lined_act q.others now q.side else Some (if now.atn_low then Pulled else Released)) (if v then bits else None)
      go true = lined q.side h
      go false = turned now.atn_low

  told_shows : (who : Who) (t : ℕ) (line : Line) (way : Way) (s : Station M) (v : Voice) → IsSettled s → IsVoiced s v → IsOthers s.port.party.device who
      → WasShown (told_act (wires_of (rest_afterwards who line way s.rest)) s.port) (voice_by s.port.party.device who line way v).bits × IsVoiced (told_lines M step peek t (rest_afterwards who line way s.rest) s) (told_voice who line way s v)
  told_shows who t line way s v g h n =
      let now : Lines = wires_of (rest_afterwards who line way s.rest) in
      let k = voice_heard who line way s v g h n in
      let w = told_spells t (wires_of (rest_afterwards who line way s.rest)) s.port v.bits h.bits in (
        subst (λ (b : Option (List Bool)). WasShown (told_act (wires_of (rest_afterwards who line way s.rest)) s.port) b) (sym k.bits) w.0,
        record {
          atn = k.atn;
          low = k.low ∙ h.low;
          bits = subst (λ (b : Option (List Bool)). SideSpells (told t (wires_of (rest_afterwards who line way s.rest)) s.port).side s.port.own (bits_after (told_act (wires_of (rest_afterwards who line way s.rest)) s.port) b)) (sym k.bits) w.1;
        },
      )

  pub told_voiced : (who : Who) (t : ℕ) (line : Line) (way : Way) (s : Station M) (v : Voice) → IsSettled s → IsVoiced s v → IsOthers s.port.party.device who
      → IsVoiced (told_lines M step peek t (rest_afterwards who line way s.rest) s) (told_voice who line way s v)
  told_voiced who t line way s v g h n = (told_shows who t line way s v g h n).1

  -- its own reaction
  bound : (side : Side) (p : Option (ℕ × Bool)) → SideKnows side p → IsByte M step peek p → (mouth : Mouth) → side ≡ Speaking mouth → IsBound mouth
  bound side p k b (Sending at_ byte last left half) e = within p (subst (λ (x : Side). SideKnows x p) e k) b
    where
      within : (p : Option (ℕ × Bool)) → p ≡ Some (byte, last) → IsByte M step peek p → byte < 256
      within p f c = subst (λ (x : Option (ℕ × Bool)). IsByte M step peek x) f c
  bound side p k b Turned e = tt
  bound side p k b (Answering at_) e = tt
  bound side p k b (Led at_) e = tt
  bound side p k b (Offering byte last) e = tt
  bound side p k b (EoiOffered byte) e = tt
  bound side p k b (EoiPulsed byte) e = tt
  bound side p k b (Waiting byte last) e = tt
  bound side p k b (Mute at_) e = tt
  bound side p k b (Ending at_) e = tt
  bound side p k b Over e = tt

  own_shows : (t : ℕ) (s : Station M) (v : Voice) → IsSettled s → IsVoiced s v → IsByte M step peek (peek s.machine) → port_due s.port ≡ Some t
      → WasShown (reaction_act (peek s.machine) s.port) (own_voice_shown s v).bits × IsVoiced (react M step peek t s) (own_voice s v)
  own_shows t s v g h b due = let w = go s.port.side refl in (w.0, record { atn = h.atn; low = refl; bits = w.1 })
    where
      At : Side → Option (List Bool)
      At side = freed_bits s.port.own.clock_low (side_held s.port.party.pace (peek s.machine) s.port.own side).clock_low v.low v.bits

      Led : Side → Type 0
      Led side = WasShown (side_act s.port.party.pace (peek s.machine) s.port.others side) (At side)
          × SideSpells (side_after s.port.party.pace s.port.party.reaction t s.port.others (peek s.machine) side) (side_held s.port.party.pace (peek s.machine) s.port.own side) (bits_after (side_act s.port.party.pace (peek s.machine) s.port.others side) (At side))

      heard_shown : (e : Pace) → (others : Lines) (ear : Ear) (bits : Option (List Bool)) → WasShown ((ear_row e ear).act others) bits
      heard_shown e others (Accepting at_ eoi byte) bits = by_atn others.atn_low
        where
          by_atn : (x : Bool) → WasShown (Some (heard_act x byte eoi)) bits
          by_atn true = tt
          by_atn false = tt
      heard_shown e others Await bits = tt
      heard_shown e others Idle bits = tt
      heard_shown e others (Starting at_) bits = tt
      heard_shown e others (Leaving at_) bits = tt
      heard_shown e others (Returning at_) bits = tt
      heard_shown e others Holding bits = tt
      heard_shown e others (Freeing at_) bits = tt
      heard_shown e others Ready bits = tt
      heard_shown e others (Timed at_) bits = tt
      heard_shown e others (Pulsing at_) bits = tt
      heard_shown e others EoiNoted bits = tt
      heard_shown e others (Gathering eoi count byte) bits = tt

      go : (side : Side) → s.port.side ≡ side → Led side
      go (Hearing ear) e = (heard_shown _ s.port.others ear (At (Hearing ear)), tt)
      go (Speaking mouth) e =
          reaction_spells _ s.port.party.reaction t s.port.others (peek s.machine) mouth s.port.own v.low v.bits (bound s.port.side (peek s.machine) g.knows b mouth e) h.low
          (subst (λ (x : Side). SideSpells x s.port.own v.bits) e h.bits) (subst (λ (x : Side). side_due x ≡ Some t) e due)

  pub own_voiced : (t : ℕ) (s : Station M) (v : Voice) → IsSettled s → IsVoiced s v → IsByte M step peek (peek s.machine) → port_due s.port ≡ Some t → IsVoiced (react M step peek t s) (own_voice s v)
  own_voiced t s v g h b due = (own_shows t s v g h b due).1

  said_next : (d : ℕ) (act : Option Act) (u : Voice) (es : List Event) (acts : List Act) → WasShown act u.bits → HasSaid d (voice_then act u) es (said_of acts) → HasSaid d u es (said_of (with_act act acts))
  said_next d None u es acts w g = g
  said_next d (Some Pulled) u es acts w g = g
  said_next d (Some (Attention byte)) u es acts w g = g
  said_next d (Some Released) u es acts w g = g
  said_next d (Some (Heard byte eoi)) u es acts w g = g
  said_next d (Some Silent) u es acts w g = g
  said_next d (Some (Said byte last)) u es acts w g = says byte last w.shown (said_of acts) w.are w.count w.number refl g

  -- what the wires hand to a drive on the way from one station to another, and its machine runs
  pub record Goes (later : List ℕ) (end : ℕ) (s : Station M) (v : Voice) (es full : List Event) (s2 : Station M) : Type 0 where
    pub acts : List Act
    pub hands : Hands later end (hearer s) es acts
    pub says : HasSaid s.port.party.device v full (said_of acts)
    pub ran : Run M step peek s.machine acts s2.machine

  told_hearer : (t : ℕ) (r : Rest) (s : Station M) → IsSettled s → hearer (told_lines M step peek t r s) ≡ hears t r (hearer s)
  told_hearer t r s g =
      ap (λ (x : Option Ear). Like s x) (told_ear t (wires_of r) s.port)
      ∙ ap (λ (l : Lines). Like s (ear_told s.port.party.reaction t l (wires_of r) s.port.role (ear_of s.port.side))) g.wired
    where
      Like : Station M → Option Ear → Hearer
      Like s x = record { party = s.port.party; role = s.port.role; rest = r; ear = x }

  -- TOLD an event of the host or of another drive
  pub goes_told : (later : List ℕ) (end : ℕ) (e : Event) (es full : List Event) (s s2 : Station M) (v : Voice) → IsSettled s → IsVoiced s v → IsOthers s.port.party.device e.who
      → IsNothingDue later end (ear_time (ear_of s.port.side)) (e ∷ es)
      → Goes later end (told_lines M step peek e.change.moment (rest_afterwards e.who e.change.line e.change.way s.rest) s) (told_voice e.who e.change.line e.change.way s v) es full s2 → Goes later end s v (e ∷ es) (e ∷ full) s2
  goes_told later end e es full s s2 v g h o q f = record {
    acts = with_act (told_act (wires_of r) s.port) f.acts;
    hands = subst (λ (l : Lines). Hands later end (hearer s) (e ∷ es) (with_act (told_act (wires_of r) (Seeing l)) f.acts)) (sym g.wired) (by_side s.port.side next q);
    says = passes e full refl (said_next s.port.party.device (told_act (wires_of r) s.port) (voice_by s.port.party.device e.who e.change.line e.change.way v) full f.acts (told_shows e.who e.change.moment e.change.line e.change.way s v g h o).0 f.says);
    ran = run_with M step peek s.machine s2.machine (told_act (wires_of r) s.port) f.acts (told_knows M step peek e.change.moment (wires_of r) s.port s.machine g.knows).0 f.ran;
  }
    where
      r : Rest
      r = rest_afterwards e.who e.change.line e.change.way s.rest

      Seeing : Lines → Port
      Seeing l = record { party = s.port.party; role = s.port.role; own = s.port.own; others = l; side = s.port.side }

      At : Side → Hearer
      At side = record { party = s.port.party; role = s.port.role; rest = s.rest; ear = ear_of side }

      next : Hands later end (hears e.change.moment r (hearer s)) es f.acts
      next = subst (λ (h : Hearer). Hands later end h es f.acts) (told_hearer e.change.moment r s g) f.hands

      by_side : (side : Side) → Hands later end (hears e.change.moment r (At side)) es f.acts → IsNothingDue later end (ear_time (ear_of side)) (e ∷ es)
          → Hands later end (At side) (e ∷ es) (with_act (if is_same s.rest.host.atn_low r.host.atn_low then lined_act (wires_of s.rest) (wires_of r) side else Some (if r.host.atn_low then Pulled else Released)) f.acts)
      by_side (Hearing ear) k w = tells e es f.acts refl w refl k
      by_side (Speaking mouth) k w = go (is_same s.rest.host.atn_low r.host.atn_low) (tells e es f.acts refl w refl k)
        where
          act : Act
          act = if r.host.atn_low then Pulled else Released

          go : (v : Bool) → Hands later end (At (Speaking mouth)) (e ∷ es) (with_act (if v then None else Some act) f.acts)
              → Hands later end (At (Speaking mouth)) (e ∷ es) (with_act (if v then taken_act (wires_of s.rest) (wires_of r) mouth else Some act) f.acts)
          go true y = answered later end (At (Speaking mouth)) (e ∷ es) (taken_act (wires_of s.rest) (wires_of r) mouth) f.acts refl (taken_is (wires_of s.rest) (wires_of r) mouth) y
          go false y = y

  -- ITS OWN REACTION, which comes next
  pub goes_react : (later : List ℕ) (end t : ℕ) (es full : List Event) (s s2 : Station M) (v : Voice) → IsSettled s → IsVoiced s v → IsByte M step peek (peek s.machine) → port_due s.port ≡ Some t
      → comes_next later end t es ≡ true → Goes later end (react M step peek t s) (own_voice s v) es full s2 → Goes later end s v es (drive_events s.port.party.device (shown M step peek t s) ++ full) s2
  goes_react later end t es full s s2 v g h b due n f = record {
    acts = with_act (reaction_act (peek s.machine) s.port) f.acts;
    hands = by_side s.port.side due f.hands;
    says = reaction_passes s.port.party.device t s.port.own (next_held (peek s.machine) s.port) v full (said_of (with_act (reaction_act (peek s.machine) s.port) f.acts)) h.low
        (said_next s.port.party.device (reaction_act (peek s.machine) s.port) (own_voice_shown s v) full f.acts (own_shows t s v g h b due).0 f.says);
    ran = run_with M step peek s.machine s2.machine (reaction_act (peek s.machine) s.port) f.acts (reacted_knows M step peek t s.port s.machine g.knows).0 f.ran;
  }
    where
      At : Side → Hearer
      At side = record { party = s.port.party; role = s.port.role; rest = s.rest; ear = ear_of side }

      Afterwards : Side → Hearer
      Afterwards side = record { party = s.port.party; role = side_role s.port.party.device s.port.others.atn_low s.port.role side; rest = s.rest; ear = ear_of (side_after s.port.party.pace s.port.party.reaction t s.port.others (peek s.machine) side) }

      ear_after : (ear : Ear) → Afterwards (Hearing ear) ≡ moves t (At (Hearing ear))
      ear_after ear =
          ap (λ (x : Role). (record { party = s.port.party; role = x; rest = s.rest; ear = Some ((ear_row s.port.party.pace ear).next s.port.party.reaction t s.port.others) })) (ear_role _ s.port.party.device s.port.others s.port.role ear)
          ∙ ap (λ (l : Lines). (record { party = s.port.party; role = role_with s.port.party.device ((ear_row s.port.party.pace ear).act l) s.port.role; rest = s.rest; ear = Some ((ear_row s.port.party.pace ear).next s.port.party.reaction t l) })) g.wired

      by_side : (side : Side) → side_due side ≡ Some t → Hands later end (Afterwards side) es f.acts → Hands later end (At side) es (with_act (side_act s.port.party.pace (peek s.machine) s.port.others side) f.acts)
      by_side (Hearing ear) e k =
          reacts t f.acts e n (ap (λ (l : Lines). with_act ((ear_row s.port.party.pace ear).act l) f.acts) g.wired) (subst (λ (h : Hearer). Hands later end h es f.acts) (ear_after ear) k)
      by_side (Speaking mouth) e k =
          answered later end (At (Speaking mouth)) es ((mouth_row s.port.party.pace (peek s.machine) mouth).act s.port.others) f.acts refl (said_is _ s.port.others (peek s.machine) mouth) k
