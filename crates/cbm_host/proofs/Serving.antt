-- What the acts of a request are to the DOS of a drive: the request's calls of its machine.
use Rattle.std.proofs.Common.{◌≡◌, ℕ, zero, suc, ◌+◌, ◌-◌, ◌%◌, ◌<◌, ◌≤◌, ◌⊎◌, inl, inr, Bool, true, false, List, [], ◌∷◌, ◌++◌, length, replicate, take, drop, append_assoc, append-nil, length-drop, Option, Some, None, refl, sym, ap, ◌∙◌, subst, arith, eq-eqb}
use Rattle.std.specs.Prelude.{◌==◌, ◌&&◌, ◌||◌, nat_eq, nat_le, nat_lt, if◌then◌else◌}
use Rattle.std.proofs.lemmas.Bool.{cases_lt, ne_eqb, false≢true}
use Rattle.std.proofs.lemmas.Bool.Decides.{nat_tests}
use Rattle.cbm_channel.proofs.Kept.{take_all}
use Rattle.cbm_channel.proofs.Texts.{command_kept}
use Rattle.cbm_machine.specs.Calls.{put, after_open, command}
use Rattle.cbm_machine.specs.Closing.{close}
use Rattle.cbm_machine.specs.Machines.{Machine}
use Rattle.cbm_machine.specs.Plans.{open_text}
use Rattle.cbm_machine.specs.Statuses.{status_line}
use Rattle.cbm_machine.specs.Talking.{taken, after_talk}
use Rattle.cbm_drive.specs.Addressing.{Addressed, secondary_of, role_turned, role_taken_up}
use Rattle.cbm_machine.specs.Told.{is_unread_error, told_by}
use Rattle.cbm_iec.specs.declared.pace.Pace.TheVariants.{Profile, Kernal}
use Rattle.cbm_iec.specs.declared.pace.Pace.{Pace}
use Rattle.cbm_drive.specs.Desks.{Desk, talked_to, listened_to, seconded, desk_step, desk_says}
use Rattle.cbm_drive.specs.declared.secondary.Secondary.{Secondary}
use Rattle.cbm_drive.specs.declared.secondary.Secondary.TheVariants.{Data, Close as CloseOf, Open as OpenOf}
use Rattle.cbm_file.specs.Waiting.{next_shown}
use Rattle.cbm_talk.proofs.Spoken.{says_from, none_said}
use Rattle.cbm_host.proofs.Statuses.{left_after_it, enough, left_short}
use Rattle.cbm_iec.specs.Attentions.{listen as listen_to, unlisten, talk as talk_to, untalk, data_on, open_on}
use Rattle.cbm_host.specs.CarriedOut.{acts_heard, spoken, said, acts_called, left_by, acts_carried_out, IsTakenUpTo, AreTakenBy, SaysOn, IsShort}
use Rattle.cbm_host.specs.Engines.{channel_of, most_of}
use Rattle.cbm_talk.specs.Talks.{puts, TalkSaid, says, status_said}
use Rattle.cbm_host.specs.Served.{served, heard_at, at_power_up, IsServed, IsModest}
use Rattle.cbm_host.specs.declared.request.Request.{Request}
use Rattle.cbm_host.specs.declared.request.Request.TheVariants.{Open, Put, Fill, Get, Close, Status}
use Rattle.cbm_iec.specs.Roles.{role_after}
use Rattle.cbm_iec.specs.declared.machine.Act.TheVariants.{Attention, Released}
use Rattle.cbm_iec.specs.declared.machine.Act.{Act}
use Rattle.cbm_iec.specs.declared.party.Role.TheVariants.{Absent, Listener, Talker}
use Rattle.cbm_iec.specs.declared.party.Role.{Role}
use Rattle.cbm_session.specs.Answers.{Run, run_acts}

-- ---- the bytes of an attention

same_either : {A : Type 0} (b : Bool) (x : A) → (if b then x else x) ≡ x
same_either true x = refl
same_either false x = refl

-- a secondary address by its kind and its channel
abbrev of_kind : ℕ → ℕ → Option Secondary
of_kind kind ch = if kind == 96 then Some (Data ch) else if kind == 224 then Some (CloseOf ch) else if kind == 240 then Some (OpenOf ch) else None

by_kind : (byte kind ch : ℕ) → byte % 16 ≡ ch → byte - ch ≡ kind → secondary_of byte ≡ of_kind kind ch
by_kind byte kind ch e k = ap (λ c. of_kind (byte - c) c) e ∙ ap (λ n. of_kind n ch) k

data_is : (ch : ℕ) → ch ≤ 15 → secondary_of (96 + ch) ≡ Some (Data ch)
data_is ch few = let e : (96 + ch) % 16 ≡ ch = omega arith in by_kind (96 + ch) 96 ch e (omega arith)

close_is : (ch : ℕ) → ch ≤ 15 → secondary_of (224 + ch) ≡ Some (CloseOf ch)
close_is ch few = let e : (224 + ch) % 16 ≡ ch = omega arith in by_kind (224 + ch) 224 ch e (omega arith)

open_is : (ch : ℕ) → ch ≤ 15 → secondary_of (240 + ch) ≡ Some (OpenOf ch)
open_is ch few = let e : (240 + ch) % 16 ≡ ch = omega arith in by_kind (240 + ch) 240 ch e (omega arith)

-- a byte below $60 is none
none_is : (byte : ℕ) → byte < 96 → secondary_of byte ≡ None
none_is byte small =
    let k : byte - byte % 16 < 96 = omega arith in
    let a : (byte - byte % 16) == 96 ≡ false = ne_eqb _ _ (λ e. omega (arith, k, e)) in
    let b : (byte - byte % 16) == 224 ≡ false = ne_eqb _ _ (λ e. omega (arith, k, e)) in
    let c : (byte - byte % 16) == 240 ≡ false = ne_eqb _ _ (λ e. omega (arith, k, e)) in
    ap (λ v. if v then Some (Data (byte % 16)) else if (byte - byte % 16) == 224 then Some (CloseOf (byte % 16)) else if (byte - byte % 16) == 240 then Some (OpenOf (byte % 16)) else None) a
    ∙ ap (λ v. if v then Some (CloseOf (byte % 16)) else if (byte - byte % 16) == 240 then Some (OpenOf (byte % 16)) else None) b
    ∙ ap (λ v. if v then Some (OpenOf (byte % 16)) else None) c

-- LISTEN and TALK give a role, UNLISTEN and UNTALK take it, and a secondary address keeps it.
listens : (d : ℕ) → role_after d (32 + d) Absent ≡ Listener
listens d = ap (λ v. if v then Listener else if nat_eq (32 + d) (64 + d) then Talker else Absent) (eq-eqb (32 + d) (32 + d) refl)

talks : (d : ℕ) → role_after d (64 + d) Absent ≡ Talker
talks d =
    ap (λ v. if v then Listener else if nat_eq (64 + d) (64 + d) then Talker else Absent) (ne_eqb (64 + d) (32 + d) (λ e. omega (arith, e)))
    ∙ ap (λ v. if v then Talker else Absent) (eq-eqb (64 + d) (64 + d) refl)

stays_listener : (d byte : ℕ) → d < 31 → 96 ≤ byte → role_after d byte Listener ≡ Listener
stays_listener d byte small from =
    ap (λ v. if v then Absent else if nat_eq byte (64 + d) then Talker else Listener) (ne_eqb byte 63 (λ e. omega (arith, e)))
    ∙ ap (λ v. if v then Talker else Listener) (ne_eqb byte (64 + d) (λ e. omega (arith, e)))

stays_talker : (d byte : ℕ) → d < 31 → 96 ≤ byte → role_after d byte Talker ≡ Talker
stays_talker d byte small from =
    let out : nat_le byte 95 ≡ false = grind (arith, nat_tests, from) in
    ap (λ v. if v then Listener else if nat_eq byte (64 + d) then Talker else if nat_le 64 byte && nat_le byte 95 then Absent else Talker) (ne_eqb byte (32 + d) (λ e. omega (arith, e)))
    ∙ ap (λ v. if v then Talker else if nat_le 64 byte && nat_le byte 95 then Absent else Talker) (ne_eqb byte (64 + d) (λ e. omega (arith, e)))
    ∙ ap (λ v. if nat_le 64 byte && v then Absent else Talker) out ∙ never (nat_le 64 byte)
  where
    never : (b : Bool) → (if b && false then Absent else Talker) ≡ Talker
    never true = refl
    never false = refl

untalks : (d : ℕ) → d < 31 → role_after d 95 Talker ≡ Absent
untalks d small =
    ap (λ v. if v then Listener else if nat_eq 95 (64 + d) then Talker else if nat_le 64 95 && nat_le 95 95 then Absent else Talker) (ne_eqb 95 (32 + d) (λ e. omega (arith, e)))
    ∙ ap (λ v. if v then Talker else if nat_le 64 95 && nat_le 95 95 then Absent else Talker) (ne_eqb 95 (64 + d) (λ e. omega (arith, e)))

-- the status is told whatever error it is, at either pace
status_talks : (e : Pace) (m : Machine) → talked_to e 15 m ≡ after_talk 15 m
status_talks Profile m = refl
status_talks Kernal m = same_either (is_unread_error (told_by m)) m

module _ (pace : Pace) where
  -- ---- the desk in a request

  -- a drive of this role with no secondary address, and its desk
  abbrev in_role : ℕ → Role → Addressed
  in_role d role = record { device = d; pace = pace; role = role; channel = None; naming = false; freed = false; name = [] }

  abbrev waits : ℕ → Role → Machine → Desk Machine
  waits d role m = record { dos = m; addressed = in_role d role }

  -- a listener after ATN's release, with a channel for a name or for bytes, and what came of the name; and a talker
  abbrev hearing : ℕ → ℕ → Bool → List ℕ → Machine → Desk Machine
  hearing d ch naming name m = record { dos = m; addressed = record { device = d; pace = pace; role = Listener; channel = Some ch; naming = naming; freed = true; name = name } }

  abbrev speaking : ℕ → ℕ → Machine → Desk Machine
  speaking d ch m = record { dos = m; addressed = record { device = d; pace = pace; role = Talker; channel = Some ch; naming = false; freed = true; name = [] } }

  -- A byte in attention, by the secondary address and the role that it makes.
  abbrev taken_by : Option Secondary → Role → Role → Addressed → Machine → Desk Machine
  taken_by s old new a m = record { dos = seconded pace s old m; addressed = role_taken_up s new a }

  attends : (d byte : ℕ) (s : Option Secondary) (old new : Role) (m : Machine) → secondary_of byte ≡ s → role_after d byte old ≡ new
      → desk_step (waits d old m) (Attention byte) ≡ taken_by s old new (in_role d new) m
  attends d byte s old new m e r =
      ap (λ (a : Addressed). taken_by (secondary_of byte) old (role_after d byte old) (role_turned byte a) m) (same_either ((byte == 32 + d) || (byte == 64 + d)) (in_role d old))
      ∙ ap (λ (x : Option Secondary). taken_by x old (role_after d byte old) (in_role d (role_after d byte old)) m) e
      ∙ ap (λ (x : Role). taken_by s old x (in_role d x) m) r

  -- these acts lead a desk to another one
  abbrev Goes : Desk Machine → List Act → Desk Machine → Type 0
  Goes x acts y = Run (Desk Machine) desk_step desk_says x acts y

  listened : (d : ℕ) (m : Machine) → d < 31 → desk_step (at_power_up pace d m) (Attention (32 + d)) ≡ waits d Listener m
  listened d m small = attends d (32 + d) None Absent Listener m (none_is (32 + d) (omega arith)) (listens d)

  talker : (d : ℕ) (m : Machine) → d < 31 → desk_step (at_power_up pace d m) (Attention (64 + d)) ≡ waits d Talker m
  talker d m small = attends d (64 + d) None Absent Talker m (none_is (64 + d) (omega arith)) (talks d)

  -- ---- LISTEN or TALK, and a secondary address

  open_called : (d ch : ℕ) (m : Machine) (acts : List Act) (y : Desk Machine) → d < 31 → ch ≤ 15
      → Goes (at_power_up pace d m) (acts_called (listen_to + d) (open_on + ch) ++ acts) y → Goes (hearing d ch true [] m) acts y
  open_called d ch m acts y small few r =
      let one : Goes (waits d Listener m) (Attention (240 + ch) ∷ Released ∷ acts) y =
      subst (λ (x : Desk Machine). Goes x (Attention (240 + ch) ∷ Released ∷ acts) y) (listened d m small) r.1.1 in
      let two = attends d (240 + ch) (Some (OpenOf ch)) Listener Listener m (open_is ch few) (stays_listener d (240 + ch) small (omega arith)) in
      (subst (λ (x : Desk Machine). Goes x (Released ∷ acts) y) two one.1).1

  data_called : (d ch : ℕ) (m : Machine) (acts : List Act) (y : Desk Machine) → d < 31 → ch ≤ 15
      → Goes (at_power_up pace d m) (acts_called (listen_to + d) (data_on + ch) ++ acts) y → Goes (hearing d ch false [] (listened_to pace ch m)) acts y
  data_called d ch m acts y small few r =
      let one : Goes (waits d Listener m) (Attention (96 + ch) ∷ Released ∷ acts) y =
      subst (λ (x : Desk Machine). Goes x (Attention (96 + ch) ∷ Released ∷ acts) y) (listened d m small) r.1.1 in
      let two = attends d (96 + ch) (Some (Data ch)) Listener Listener m (data_is ch few) (stays_listener d (96 + ch) small (omega arith)) in
      (subst (λ (x : Desk Machine). Goes x (Released ∷ acts) y) two one.1).1

  spoken_to : (d ch : ℕ) (m : Machine) → d < 31 → ch ≤ 15 → desk_step (waits d Talker m) (Attention (96 + ch)) ≡ taken_by (Some (Data ch)) Talker Talker (in_role d Talker) m
  spoken_to d ch m small few = attends d (96 + ch) (Some (Data ch)) Talker Talker m (data_is ch few) (stays_talker d (96 + ch) small (omega arith))

  talk_called : (d ch : ℕ) (m : Machine) (acts : List Act) (y : Desk Machine) → d < 31 → ch ≤ 15
      → Goes (at_power_up pace d m) (acts_called (talk_to + d) (data_on + ch) ++ acts) y → Goes (speaking d ch (talked_to pace ch m)) acts y
  talk_called d ch m acts y small few r =
      let one : Goes (waits d Talker m) (Attention (96 + ch) ∷ Released ∷ acts) y =
      subst (λ (x : Desk Machine). Goes x (Attention (96 + ch) ∷ Released ∷ acts) y) (talker d m small) r.1.1 in
      (subst (λ (x : Desk Machine). Goes x (Released ∷ acts) y) (spoken_to d ch m small few) one.1).1

  talk_runs : (d ch : ℕ) (m : Machine) → d < 31 → ch ≤ 15 → run_acts (Desk Machine) desk_step desk_says (at_power_up pace d m) (acts_called (talk_to + d) (data_on + ch)) ≡ speaking d ch (talked_to pace ch m)
  talk_runs d ch m small few =
      ap (λ (x : Desk Machine). desk_step (desk_step x (Attention (96 + ch))) Released) (talker d m small)
      ∙ ap (λ (x : Desk Machine). desk_step x Released) (spoken_to d ch m small few)

  -- ---- bytes to a listener

  -- what is kept of a name
  abbrev kept : List ℕ → List ℕ → List ℕ
  kept name [] = name
  kept name (b ∷ bytes) = kept (take 256 (name ++ b ∷ [])) bytes

  take_over : (n : ℕ) (xs ys : List ℕ) → take n (take n xs ++ ys) ≡ take n (xs ++ ys)
  take_over zero xs ys = refl
  take_over (suc n) [] ys = refl
  take_over (suc n) (x ∷ xs) ys = ap (λ zs. x ∷ zs) (take_over n xs ys)

  kept_front : (front bytes : List ℕ) → kept (take 256 front) bytes ≡ take 256 (front ++ bytes)
  kept_front front [] = ap (λ l. take 256 l) (sym (append-nil front))
  kept_front front (b ∷ bytes) =
      ap (λ l. kept l bytes) (take_over 256 front (b ∷ []))
      ∙ kept_front (front ++ b ∷ []) bytes ∙ ap (λ l. take 256 l) (append_assoc front (b ∷ []) bytes)

  named : (d ch : ℕ) (name bytes : List ℕ) (m : Machine) (acts : List Act) (y : Desk Machine) → Goes (hearing d ch true name m) (acts_heard bytes ++ acts) y → Goes (hearing d ch true (kept name bytes) m) acts y
  named d ch name [] m acts y r = r
  named d ch name (b ∷ bytes) m acts y r = named d ch (take 256 (name ++ b ∷ [])) bytes m acts y r.1

  put_each : (d ch : ℕ) (bytes : List ℕ) (m : Machine) (acts : List Act) (y : Desk Machine) → Goes (hearing d ch false [] m) (acts_heard bytes ++ acts) y → Goes (hearing d ch false [] (puts ch bytes m)) acts y
  put_each d ch [] m acts y r = r
  put_each d ch (b ∷ bytes) m acts y r = put_each d ch bytes (put ch b m) acts y r.1

  take_length : (n : ℕ) (xs : List ℕ) → n ≤ length xs → length (take n xs) ≡ n
  take_length zero xs h = refl
  take_length (suc n) [] h = absurd (omega (arith, h))
  take_length (suc n) (x ∷ xs) h = ap suc (take_length n xs (omega (arith, h)))

  -- of a text for OPEN the first 256 bytes tell all: more than 58 are refused
  long_alike : (ch : ℕ) (text other : List ℕ) (m : Machine) → nat_lt 58 (length text) ≡ true → nat_lt 58 (length other) ≡ true → open_text ch text m ≡ open_text ch other m
  long_alike ch text other m a b = rw (a, b) refl

  opening_kept : (ch : ℕ) (text : List ℕ) (m : Machine) → open_text ch text m ≡ open_text ch (take 256 text) m
  opening_kept ch text m = elim (cases_lt 256 (length text)) [
    | inl over ↦ (let size : length (take 256 text) ≡ 256 = take_length 256 text (omega (arith, over)) in
        let a : nat_lt 58 (length text) ≡ true = grind (arith, nat_tests, over) in
        let b : nat_lt 58 (length (take 256 text)) ≡ true = grind (arith, nat_tests, size) in
        long_alike ch text (take 256 text) m a b)
    | inr short ↦ ap (λ x. open_text ch x m) (sym (take_all 256 text (omega (arith, short))))
  ]

  open_kept : (ch : ℕ) (text : List ℕ) (m : Machine) → after_open ch text m ≡ after_open ch (take 256 text) m
  open_kept ch text m = by_channel (ch == 15)
    where
      by_channel : (b : Bool) → (if b then command text m else open_text ch text (close ch m)) ≡ (if b then command (take 256 text) m else open_text ch (take 256 text) (close ch m))
      by_channel true = command_kept text m
      by_channel false = opening_kept ch text (close ch m)

  -- ---- UNLISTEN and UNTALK

  unlistened : (d : ℕ) (m : Machine) (y : Desk Machine) → d < 31 → Goes (waits d Listener m) (Attention 63 ∷ Released ∷ []) y → y ≡ at_power_up pace d m
  unlistened d m y small r =
      let one = attends d 63 None Listener Absent m refl refl in
      (subst (λ (x : Desk Machine). Goes x (Released ∷ []) y) one r.1).1

  untalked : (d : ℕ) (m : Machine) (y : Desk Machine) → d < 31 → Goes (waits d Talker m) (Attention 95 ∷ Released ∷ []) y → y ≡ at_power_up pace d m
  untalked d m y small r =
      let one = attends d 95 None Talker Absent m refl (untalks d small) in
      (subst (λ (x : Desk Machine). Goes x (Released ∷ []) y) one r.1).1

  -- ---- bytes of a talker

  -- what a channel said, and the desk after it
  abbrev IsSpoken : ℕ → List ℕ → Bool → TalkSaid → Desk Machine → Type 0
  IsSpoken d bytes last whole y = (m : Machine) × (whole ≡ record { bytes = bytes; marked = last; machine = m }) × (y ≡ at_power_up pace d m)

  spoken_up : (d most ch : ℕ) (so_far : List ℕ) (m : Machine) (byte : ℕ) (more : List ℕ) (last : Bool) (y : Desk Machine) → d < 31
      → length more + 1 ≤ most → (last ≡ true) ⊎ ((last ≡ false) × (length more + 1 ≡ most))
      → Goes (speaking d ch m) (spoken last byte more ++ left_by untalk) y → IsSpoken d (so_far ++ byte ∷ more) last (says most ch so_far m) y
  spoken_up d zero ch so_far m byte more last y small room end r = absurd (omega (arith, room))
  spoken_up d (suc n) ch so_far m byte [] true y small room end r =
      (taken ch m, ap (λ p. says_from p n ch so_far m) r.0, untalked d (taken ch m) y small r.1.1)
  spoken_up d (suc n) ch so_far m byte [] false y small room end r =
      let none : n ≡ 0 = elim end [ inl e ↦ absurd cc | inr e ↦ (let k = e.1 in omega (arith, k)) ] in
      (taken ch m, ap (λ p. says_from p n ch so_far m) r.0 ∙ ap (λ k. says k ch (so_far ++ byte ∷ []) (taken ch m)) none, untalked d (taken ch m) y small r.1.1)
  spoken_up d (suc n) ch so_far m byte (next ∷ more) last y small room end r =
      let rest = spoken_up d n ch (so_far ++ byte ∷ []) (taken ch m) next more last y small (omega (arith, room)) (elim end [ inl e ↦ inl e | inr e ↦ (let k = e.1 in inr (e.0, omega (arith, k))) ]) r.1 in
      (rest.0, ap (λ p. says_from p n ch so_far m) r.0 ∙ rest.1 ∙ ap (λ (l : List ℕ). let s : TalkSaid = record { bytes = l; marked = last; machine = rest.0 } in s) (append_assoc so_far (byte ∷ []) (next ∷ more)), rest.2)

  talk_served : (d most ch : ℕ) (m : Machine) (bytes : List ℕ) (last : Bool) (y : Desk Machine) → d < 31 → IsTakenUpTo most bytes last
      → Goes (speaking d ch m) (said bytes last ++ left_by untalk) y → IsSpoken d bytes last (says most ch [] m) y
  talk_served d most ch m [] last y small taken r =
      let unmarked : last ≡ false = elim taken.1 [ inl e ↦ (let k = e.1 in absurd (omega (arith, k))) | inr e ↦ e.0 ] in
      (m, none_said most ch [] m r.0 ∙ ap (λ (v : Bool). let s : TalkSaid = record { bytes = []; marked = v; machine = m } in s) (sym unmarked), untalked d m y small r.1.1)
  talk_served d most ch m (byte ∷ more) last y small taken r =
      spoken_up d most ch [] m byte more last y small (omega (arith, taken)) (elim taken.1 [ inl e ↦ inl e.0 | inr e ↦ inr (e.0, elim e.1 [ inl none ↦ absurd cc | inr k ↦ omega (arith, k) ]) ]) r

  -- ---- each request

  told : (d : ℕ) (request : Request) (m : Machine) (bytes : List ℕ) (last : Bool) (y : Desk Machine) → IsSpoken d bytes last (served pace request m) y → IsServed pace d request m bytes last y
  told d request m bytes last y s = record {
    afterwards = s.2 ∙ ap (λ (x : TalkSaid). at_power_up pace d x.machine) (sym s.1);
    said = sym (ap (λ (x : TalkSaid). x.bytes) s.1);
    marked = sym (ap (λ (x : TalkSaid). x.marked) s.1);
  }

  -- bytes that are sent
  sent_served : (d ch : ℕ) (sent : List ℕ) (m : Machine) (y : Desk Machine) → d < 31 → ch ≤ 15
      → Goes (at_power_up pace d m) (acts_called (listen_to + d) (data_on + ch) ++ (acts_heard sent ++ left_by unlisten)) y → y ≡ at_power_up pace d (heard_at pace ch sent m)
  sent_served d ch sent m y small few r =
      let one = data_called d ch m (acts_heard sent ++ left_by unlisten) y small few r in
      let two = put_each d ch sent (listened_to pace ch m) (left_by unlisten) y one in
      unlistened d (heard_at pace ch sent m) y small two.1

  -- WHAT THE ACTS OF A REQUEST COME TO
  pub serves : (d : ℕ) (request : Request) (m : Machine) (bytes : List ℕ) (last : Bool) (y : Desk Machine) → d < 31 → channel_of request ≤ 15 → AreTakenBy request bytes last
      → Run (Desk Machine) desk_step desk_says (at_power_up pace d m) (acts_carried_out d request bytes last) y → IsServed pace d request m bytes last y
  serves d (Open ch text) m bytes last y small few taken r =
      let one = open_called d ch m (acts_heard text.now ++ left_by unlisten) y small few r in
      let two = named d ch [] text.now m (left_by unlisten) y one in
      let three = unlistened d (after_open ch (kept [] text.now) m) y small two.1 in
      record {
        afterwards = three ∙ ap (λ (l : List ℕ). at_power_up pace d (after_open ch l m)) (kept_front [] text.now) ∙ ap (λ (x : Machine). at_power_up pace d x) (sym (open_kept ch text.now m));
        said = taken.0;
        marked = taken.1;
      }
  serves d (Put ch sent) m bytes last y small few taken r = record { afterwards = sent_served d ch sent.now m y small few r; said = taken.0; marked = taken.1 }
  serves d (Fill ch count byte) m bytes last y small few taken r = record { afterwards = sent_served d ch (replicate count byte) m y small few r; said = taken.0; marked = taken.1 }
  serves d (Get ch most) m bytes last y small few taken r =
      told d (Get ch most) m bytes last y (talk_served d most ch (talked_to pace ch m) bytes last y small taken (talk_called d ch m (said bytes last ++ left_by untalk) y small few r))
  serves d (Close ch) m bytes last y small few taken r =
      let one : Goes (waits d Listener m) (Attention (224 + ch) ∷ Attention 63 ∷ Released ∷ []) y =
      subst (λ (x : Desk Machine). Goes x (Attention (224 + ch) ∷ Attention 63 ∷ Released ∷ []) y) (listened d m small) r.1.1 in
      let two = attends d (224 + ch) (Some (CloseOf ch)) Listener Listener m (close_is ch few) (stays_listener d (224 + ch) small (omega arith)) in
      let three : Goes (waits d Listener (close ch m)) (Attention 63 ∷ Released ∷ []) y = subst (λ (x : Desk Machine). Goes x (Attention 63 ∷ Released ∷ []) y) two one.1 in
      record { afterwards = unlistened d (close ch m) y small three; said = taken.0; marked = taken.1 }
  serves d Status m bytes last y small few taken r =
      told d Status m bytes last y (status_served (most_of Status) (omega arith) taken
      (subst (λ (x : Machine). Goes (speaking d 15 x) (said bytes last ++ left_by untalk) y) (status_talks pace m) (talk_called d 15 m (said bytes last ++ left_by untalk) y small (omega arith) r)))
    where
      status_served : (most : ℕ) → 33 ≤ most → IsTakenUpTo most bytes last → Goes (speaking d 15 (after_talk 15 m)) (said bytes last ++ left_by untalk) y → IsSpoken d bytes last (status_said m) y
      status_served most room taken r =
          let whole = left_short m in
          subst (λ (s : TalkSaid). IsSpoken d bytes last s y)
          (enough (drop m.told (status_line m.status)) most (length (status_line m.status)) [] (after_talk 15 m) refl (omega (arith, whole, room)) (let d = length-drop m.told (status_line m.status) in omega (arith, d)))
          (talk_served d most 15 (after_talk 15 m) bytes last y small taken r)

  -- ---- each request is short

  abbrev marked : Option (ℕ × Bool) → Bool
  marked None = false
  marked (Some said) = said.1

  -- after each byte that isn't the last of a status line there is one more of it
  few_said : (d : ℕ) (left : List ℕ) (m : Machine) (bytes : List ℕ) → drop m.told (status_line m.status) ≡ left → SaysOn (Desk Machine) desk_step desk_says (speaking d 15 m) bytes → length bytes ≤ length left
  few_said d left m [] e on = omega arith
  few_said d [] m (byte ∷ bytes) e on = let said = sym (ap next_shown e) ∙ on.0 in absurd cc
  few_said d (c ∷ []) m (byte ∷ bytes) e on = let said : next_shown (c ∷ []) ≡ Some (byte, false) = sym (ap next_shown e) ∙ on.0 in absurd (false≢true (sym (ap marked said)))
  few_said d (c ∷ next ∷ rest) m (byte ∷ bytes) e on =
      let more = few_said d (next ∷ rest) (taken 15 m) bytes (left_after_it m c next rest e) on.1 in omega (arith, more)

  pub is_short : (d : ℕ) (request : Request) (m : Machine) → d < 31 → channel_of request ≤ 15 → IsModest request → IsShort (Desk Machine) desk_step desk_says d (at_power_up pace d m) request
  is_short d (Open ch text) m small few modest = modest
  is_short d (Put ch bytes) m small few modest = modest
  is_short d (Fill ch count byte) m small few modest = modest
  is_short d (Close ch) m small few modest = modest
  is_short d (Get ch most) m small few modest = (modest.0, λ bytes on l. (let k = modest.1 in omega (arith, k, l)))
  is_short d Status m small few modest = (
    omega arith,
    λ bytes on l. (
        let whole = left_short m in
        let on2 = subst (λ (x : Desk Machine). SaysOn (Desk Machine) desk_step desk_says x bytes) (talk_runs d 15 m small (omega arith) ∙ ap (λ (x : Machine). speaking d 15 x) (status_talks pace m)) on in
        let few = few_said d (drop m.told (status_line m.status)) (after_talk 15 m) bytes refl on2 in
        omega (arith, few, whole)),
  )
