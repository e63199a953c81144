-- A drive alone with the host follows every session from rest.
use Rattle.cbm_iec.specs.declared.pace.Pace.TheVariants.{Profile, Kernal}
use Rattle.cbm_iec.specs.declared.pace.Pace.{Pace}
use Rattle.cbm_iec.specs.Profile.{bit_time}
use Rattle.std.proofs.Common.{◌≡◌, ℕ, suc, ◌+◌, ◌≤◌, ◌<◌, inl, inr, Bool, true, false, List, [], ◌∷◌, ◌++◌, Option, Some, None, ap, sym, ◌∙◌, subst, arith, refl}
use Rattle.std.proofs.lemmas.Bool.Decides.{leb_tells}
use Rattle.std.specs.Prelude.{if◌then◌else◌}
use Rattle.cbm_iec.specs.Changes.{is_pull, lines_after}
use Rattle.cbm_iec.specs.Ports.{resting, port_due, next_held, side_role, side_act, reaction_act, changed, reaction_changes}
use Rattle.cbm_iec.specs.Roles.{role_after}
use Rattle.cbm_iec.specs.declared.machine.Act.TheVariants.{Pulled, Attention, Released, Heard, Said, Silent}
use Rattle.cbm_iec.specs.declared.machine.Act.{Act}
use Rattle.cbm_iec.specs.declared.ear.Ear.TheVariants.{Idle, Await, Starting, Leaving, Returning, Holding, Freeing, Ready, Timed, Pulsing, EoiNoted, Gathering, Accepting}
use Rattle.cbm_iec.specs.declared.ear.Ear.{Ear}
use Rattle.cbm_iec.specs.declared.event.Who.TheVariants.{Host, Drive}
use Rattle.cbm_iec.specs.declared.event.Who.{Who}
use Rattle.cbm_iec.specs.declared.lines.Change.{Change}
use Rattle.cbm_iec.specs.declared.lines.Line.TheVariants.{Atn, Clock, Data}
use Rattle.cbm_iec.specs.declared.lines.Line.{Line}
use Rattle.cbm_iec.specs.declared.lines.Way.TheVariants.{Pull, Free}
use Rattle.cbm_iec.specs.declared.lines.Way.{Way}
use Rattle.cbm_iec.specs.declared.lines.Held.{Held}
use Rattle.cbm_iec.specs.declared.lines.Lines.{Lines}
use Rattle.cbm_iec.specs.declared.party.Party.{Party}
use Rattle.cbm_iec.specs.declared.party.Role.TheVariants.{Absent, Listener, Talker}
use Rattle.cbm_iec.specs.declared.party.Role.{Role}
use Rattle.cbm_iec.specs.declared.port.Port.{Port}
use Rattle.cbm_iec.specs.declared.port.Side.TheVariants.{Hearing, Speaking}
use Rattle.cbm_iec.specs.declared.port.Side.{Side}
use Rattle.cbm_session.proofs.alone.Frames.{wires}
use Rattle.cbm_session.proofs.alone.Fronts.{follows_fronts}
use Rattle.cbm_session.proofs.alone.Pieces.{follows_pieces}
use Rattle.cbm_session.proofs.joining.Merging.{merge_here, merge_there, merge_nil, before_yes, before_no}
use Rattle.cbm_session.proofs.joining.Owning.{AllOwned, part_owned}
use Rattle.cbm_session.proofs.reading.OneReading.{is_atn, NoAtn, noatn_taking, noatn_freed}
use Rattle.cbm_session.specs.Bits.{number_of}
use Rattle.cbm_session.specs.Following.{IsInTime, own_steps, reaction_steps, IsShown, Follows, alone, in_attention, StandsAt, FollowsAll, FollowsSessions, ends, tells, reacts}
use Rattle.cbm_session.specs.Frames.{is_last, signal_steps, first_bit, bit_steps, telling, taking}
use Rattle.cbm_session.specs.Pieces.{silent_part, Whole, Piece, BusPlace, Point, freed_steps, host_part, let_go, own_part, steps_of, before, Fits, CutFits, held_by, seat_with, whole_point, point_after, PullPiece, Command, Byte, ToListener, ToNobody, ToTalker, Nothing, Talk, Full, Cut}
use Rattle.cbm_session.specs.Seats.{at_pace, lines, Seat, device, reaction, is_talker, talker_of}
use Rattle.cbm_session.specs.Sessions.{rest, Linked}
use Rattle.cbm_session.specs.Steps.{Mark, Step, host, drive, for_each, for_one, moment_of, merge, Plain, ForEach, For}

-- the drive's own steps, and the host's
abbrev pub keep_own : Who → Step → List Step → List Step
keep_own Host s ss = ss
keep_own (Drive o) s ss = s ∷ ss

abbrev pub keep_host : Who → Step → List Step → List Step
keep_host Host s ss = s ∷ ss
keep_host (Drive o) s ss = ss

abbrev pub own_of : List Step → List Step
own_of [] = []
own_of (s ∷ ss) = keep_own s.event.who s (own_of ss)

abbrev pub host_of : List Step → List Step
host_of [] = []
host_of (s ∷ ss) = keep_host s.event.who s (host_of ss)

-- the lines after the host's changes
abbrev pub lines_by : Lines → List Step → Lines
lines_by l [] = l
lines_by l (s ∷ ss) = lines_by (lines_after l s.event.change.line s.event.change.way) ss

-- a reaction changes the drive's own lines as its steps say, and none of the host's
pub reaction_own : (d t : ℕ) (a u b v : Bool) (act : Option Act) (more : List Step) → held_by (lines a b) (own_of (own_steps d (changed t Clock a u ++ changed t Data b v) act ++ more)) ≡ held_by (lines u v) (own_of more)
reaction_own d t true true true true None more = refl
reaction_own d t true true true true (Some x) more = refl
reaction_own d t true true true false None more = refl
reaction_own d t true true true false (Some x) more = refl
reaction_own d t true true false true None more = refl
reaction_own d t true true false true (Some x) more = refl
reaction_own d t true true false false None more = refl
reaction_own d t true true false false (Some x) more = refl
reaction_own d t true false true true None more = refl
reaction_own d t true false true true (Some x) more = refl
reaction_own d t true false true false None more = refl
reaction_own d t true false true false (Some x) more = refl
reaction_own d t true false false true None more = refl
reaction_own d t true false false true (Some x) more = refl
reaction_own d t true false false false None more = refl
reaction_own d t true false false false (Some x) more = refl
reaction_own d t false true true true None more = refl
reaction_own d t false true true true (Some x) more = refl
reaction_own d t false true true false None more = refl
reaction_own d t false true true false (Some x) more = refl
reaction_own d t false true false true None more = refl
reaction_own d t false true false true (Some x) more = refl
reaction_own d t false true false false None more = refl
reaction_own d t false true false false (Some x) more = refl
reaction_own d t false false true true None more = refl
reaction_own d t false false true true (Some x) more = refl
reaction_own d t false false true false None more = refl
reaction_own d t false false true false (Some x) more = refl
reaction_own d t false false false true None more = refl
reaction_own d t false false false true (Some x) more = refl
reaction_own d t false false false false None more = refl
reaction_own d t false false false false (Some x) more = refl

reaction_host : (d t : ℕ) (a u b v : Bool) (act : Option Act) (more : List Step) → host_of (own_steps d (changed t Clock a u ++ changed t Data b v) act ++ more) ≡ host_of more
reaction_host d t true true true true None more = refl
reaction_host d t true true true true (Some x) more = refl
reaction_host d t true true true false None more = refl
reaction_host d t true true true false (Some x) more = refl
reaction_host d t true true false true None more = refl
reaction_host d t true true false true (Some x) more = refl
reaction_host d t true true false false None more = refl
reaction_host d t true true false false (Some x) more = refl
reaction_host d t true false true true None more = refl
reaction_host d t true false true true (Some x) more = refl
reaction_host d t true false true false None more = refl
reaction_host d t true false true false (Some x) more = refl
reaction_host d t true false false true None more = refl
reaction_host d t true false false true (Some x) more = refl
reaction_host d t true false false false None more = refl
reaction_host d t true false false false (Some x) more = refl
reaction_host d t false true true true None more = refl
reaction_host d t false true true true (Some x) more = refl
reaction_host d t false true true false None more = refl
reaction_host d t false true true false (Some x) more = refl
reaction_host d t false true false true None more = refl
reaction_host d t false true false true (Some x) more = refl
reaction_host d t false true false false None more = refl
reaction_host d t false true false false (Some x) more = refl
reaction_host d t false false true true None more = refl
reaction_host d t false false true true (Some x) more = refl
reaction_host d t false false true false None more = refl
reaction_host d t false false true false (Some x) more = refl
reaction_host d t false false false true None more = refl
reaction_host d t false false false true (Some x) more = refl
reaction_host d t false false false false None more = refl
reaction_host d t false false false false (Some x) more = refl

module _ (peek : Option (ℕ × Bool)) where
  follows_party : {q q2 : Port} {ss : List Step} → Follows peek q ss q2 → q2.party ≡ q.party
  follows_party (ends e) = ap (λ (x : Port). x.party) e
  follows_party (tells i k f) = follows_party f
  follows_party (reacts t more d e sh l f) = follows_party f

  follows_own : {q q2 : Port} {ss : List Step} → Follows peek q ss q2 → q2.own ≡ held_by q.own (own_of ss)
  follows_own (ends e) = ap (λ (x : Port). x.own) e
  follows_own (tells i k f) = follows_own f
  follows_own {q} (reacts t more d e sh l f) =
      follows_own f
      ∙ sym (reaction_own q.party.device t q.own.clock_low (next_held peek q).clock_low q.own.data_low (next_held peek q).data_low (reaction_act peek q) more)
      ∙ ap (λ (zs : List Step). held_by q.own (own_of zs)) (sym e)

  follows_others : {q q2 : Port} {ss : List Step} → Follows peek q ss q2 → q2.others ≡ lines_by q.others (host_of ss)
  follows_others (ends e) = ap (λ (x : Port). x.others) e
  follows_others (tells i k f) = follows_others f
  follows_others {q} (reacts t more d e sh l f) =
      follows_others f
      ∙ ap (λ (zs : List Step). lines_by q.others zs) (sym (reaction_host q.party.device t q.own.clock_low (next_held peek q).clock_low q.own.data_low (next_held peek q).data_low (reaction_act peek q) more)
      ∙ ap (λ (zs : List Step). host_of zs) (sym e))

-- where no byte counts in attention, the role stays
abbrev pub NotAttention : Mark → Type 0
NotAttention Plain = Unit {0}
NotAttention (ForEach act) = Unit {0}
NotAttention (For d Pulled) = Unit {0}
NotAttention (For d (Attention byte)) = ⊥
NotAttention (For d Released) = Unit {0}
NotAttention (For d (Heard byte eoi)) = Unit {0}
NotAttention (For d (Said byte last)) = Unit {0}
NotAttention (For d Silent) = Unit {0}

abbrev pub NoAttention : List Step → Type 0
NoAttention [] = Unit {0}
NoAttention (s ∷ ss) = NotAttention s.mark × NoAttention ss

no_append : (xs ys : List Step) → NoAttention xs → NoAttention ys → NoAttention (xs ++ ys)
no_append [] ys a b = b
no_append (x ∷ xs) ys a b = (a.0, no_append xs ys a.1 b)

pub no_left : (xs ys : List Step) → NoAttention (xs ++ ys) → NoAttention xs
no_left [] ys a = tt
no_left (x ∷ xs) ys a = (a.0, no_left xs ys a.1)

pub no_right : (xs ys : List Step) → NoAttention (xs ++ ys) → NoAttention ys
no_right [] ys a = a
no_right (x ∷ xs) ys a = no_right xs ys a.1

pub no_merge : (xs ys : List Step) → NoAttention xs → NoAttention ys → NoAttention (merge xs ys)
no_merge [] ys a b = b
no_merge (x ∷ xs) [] a b = subst NoAttention (sym (merge_nil (x ∷ xs))) a
no_merge (x ∷ xs) (y ∷ ys) a b = elim (leb_tells (moment_of x) (moment_of y)) [
  | inl e ↦ subst NoAttention (sym (merge_here x xs y ys e.1)) (a.0, no_merge xs (y ∷ ys) a.1 b)
  | inr e ↦ subst NoAttention (sym (merge_there x xs y ys e.1)) (b.0, no_merge (x ∷ xs) ys a b.1)
]

pub no_before : (c : ℕ) (ss : List Step) → NoAttention ss → NoAttention (before c ss)
no_before c [] a = tt
no_before c (s ∷ ss) a = elim (leb_tells (suc (moment_of s)) c) [
  | inl x ↦ subst NoAttention (sym (before_yes c s ss (omega (arith, x.1)))) (a.0, no_before c ss a.1)
  | inr x ↦ subst NoAttention (sym (before_no c s ss (omega (arith, x.1)))) (no_before c ss a.1)
]

not_shown : (d byte : ℕ) (cs : List Change) → IsShown (own_steps d cs (Some (Attention byte))) (Some (Attention byte)) → NoAttention (own_steps d cs (Some (Attention byte))) → ⊥
not_shown d byte [] h n = h
not_shown d byte (c ∷ []) h n = n.0
not_shown d byte (c ∷ e ∷ []) h n = n.1.0
not_shown d byte (c ∷ e ∷ x ∷ cs) h n = h

ear_role : (e : Pace) → (d t : ℕ) (byte : Option (ℕ × Bool)) (atn : Bool) (r : Role) (others : Lines) (cs : List Change) (ear : Ear) → others.atn_low ≡ atn → IsShown (own_steps d cs (side_act e byte others (Hearing ear))) (side_act e byte others (Hearing ear)) → NoAttention (own_steps d cs (side_act e byte others (Hearing ear)))
    → side_role d others.atn_low r (Hearing ear) ≡ r
ear_role e d t byte true r others cs (Accepting at eoi heard) a h n =
    let act : side_act e byte others (Hearing (Accepting at eoi heard)) ≡ Some (Attention heard) = ap (λ (v : Bool). Some (if v then Attention heard else Heard heard eoi)) a in
    absurd (not_shown d heard cs (subst (λ (x : Option Act). IsShown (own_steps d cs x) x) act h) (subst (λ (x : Option Act). NoAttention (own_steps d cs x)) act n))
ear_role e d t byte false r others cs (Accepting at eoi heard) a h n = ap (λ (v : Bool). if v then role_after d heard r else r) a
ear_role e d t byte atn r others cs Await a h n = refl
ear_role e d t byte atn r others cs Idle a h n = refl
ear_role e d t byte atn r others cs (Starting at) a h n = refl
ear_role e d t byte atn r others cs (Leaving at) a h n = refl
ear_role e d t byte atn r others cs (Returning at) a h n = refl
ear_role e d t byte atn r others cs Holding a h n = refl
ear_role e d t byte atn r others cs (Freeing at) a h n = refl
ear_role e d t byte atn r others cs Ready a h n = refl
ear_role e d t byte atn r others cs (Timed at) a h n = refl
ear_role e d t byte atn r others cs (Pulsing at) a h n = refl
ear_role e d t byte atn r others cs EoiNoted a h n = refl
ear_role e d t byte atn r others cs (Gathering eoi count heard) a h n = refl

pub reaction_role : (e : Pace) → (d t : ℕ) (byte : Option (ℕ × Bool)) (r : Role) (others : Lines) (cs : List Change) (side : Side) → IsShown (own_steps d cs (side_act e byte others side)) (side_act e byte others side) → NoAttention (own_steps d cs (side_act e byte others side)) → side_role d others.atn_low r side ≡ r
reaction_role e d t byte r others cs (Hearing ear) h n = ear_role _ d t byte others.atn_low r others cs ear refl h n
reaction_role e d t byte r others cs (Speaking mouth) h n = refl

module _ (peek : Option (ℕ × Bool)) where
  follows_role : {q q2 : Port} {ss : List Step} → Follows peek q ss q2 → NoAttention ss → q2.role ≡ q.role
  follows_role (ends e) n = ap (λ (x : Port). x.role) e
  follows_role (tells i k f) n = follows_role f n.1
  follows_role {q} (reacts t more d e sh l f) n =
      let all = subst NoAttention e n in
      follows_role f (no_right (reaction_steps t peek q) more all)
      ∙ reaction_role _ q.party.device t peek q.role q.others (reaction_changes t peek q) q.side sh (no_left (reaction_steps t peek q) more all)

-- the parts of a cut
own_before : (c : ℕ) (ss : List Step) → own_of (before c ss) ≡ before c (own_of ss)
own_before c [] = refl
own_before c (s ∷ ss) = elim (leb_tells (suc (moment_of s)) c) [
  | inl x ↦ ap (λ (zs : List Step). own_of zs) (before_yes c s ss (omega (arith, x.1))) ∙ yes s.event.who (omega (arith, x.1)) (own_before c ss)
  | inr x ↦ ap (λ (zs : List Step). own_of zs) (before_no c s ss (omega (arith, x.1))) ∙ no s.event.who (omega (arith, x.1)) (own_before c ss)
]
  where
    yes : (w : Who) → moment_of s < c → own_of (before c ss) ≡ before c (own_of ss) → keep_own w s (own_of (before c ss)) ≡ before c (keep_own w s (own_of ss))
    yes Host l k = k
    yes (Drive o) l k = ap (λ (zs : List Step). s ∷ zs) k ∙ sym (before_yes c s (own_of ss) l)

    no : (w : Who) → c ≤ moment_of s → own_of (before c ss) ≡ before c (own_of ss) → own_of (before c ss) ≡ before c (keep_own w s (own_of ss))
    no Host l k = k
    no (Drive o) l k = k ∙ sym (before_no c s (own_of ss) l)

pub host_before : (c : ℕ) (ss : List Step) → host_of (before c ss) ≡ before c (host_of ss)
host_before c [] = refl
host_before c (s ∷ ss) = elim (leb_tells (suc (moment_of s)) c) [
  | inl x ↦ ap (λ (zs : List Step). host_of zs) (before_yes c s ss (omega (arith, x.1))) ∙ yes s.event.who (omega (arith, x.1)) (host_before c ss)
  | inr x ↦ ap (λ (zs : List Step). host_of zs) (before_no c s ss (omega (arith, x.1))) ∙ no s.event.who (omega (arith, x.1)) (host_before c ss)
]
  where
    yes : (w : Who) → moment_of s < c → host_of (before c ss) ≡ before c (host_of ss) → keep_host w s (host_of (before c ss)) ≡ before c (keep_host w s (host_of ss))
    yes Host l k = ap (λ (zs : List Step). s ∷ zs) k ∙ sym (before_yes c s (host_of ss) l)
    yes (Drive o) l k = k

    no : (w : Who) → c ≤ moment_of s → host_of (before c ss) ≡ before c (host_of ss) → host_of (before c ss) ≡ before c (keep_host w s (host_of ss))
    no Host l k = k ∙ sym (before_no c s (host_of ss) l)
    no (Drive o) l k = k

abbrev pub AllHost : List Step → Type 0
AllHost [] = Unit {0}
AllHost (s ∷ ss) = (s.event.who ≡ Host) × AllHost ss

own_all : (o : ℕ) (ss : List Step) → AllOwned o ss → own_of ss ≡ ss
own_all o [] a = refl
own_all o (s ∷ ss) a = ap (λ (w : Who). keep_own w s (own_of ss)) a.0 ∙ ap (λ (zs : List Step). s ∷ zs) (own_all o ss a.2)

own_none : (ss : List Step) → AllHost ss → own_of ss ≡ []
own_none [] a = refl
own_none (s ∷ ss) a = ap (λ (w : Who). keep_own w s (own_of ss)) a.0 ∙ own_none ss a.1

host_all : (ss : List Step) → AllHost ss → host_of ss ≡ ss
host_all [] a = refl
host_all (s ∷ ss) a = ap (λ (w : Who). keep_host w s (host_of ss)) a.0 ∙ ap (λ (zs : List Step). s ∷ zs) (host_all ss a.1)

host_none : (o : ℕ) (ss : List Step) → AllOwned o ss → host_of ss ≡ []
host_none o [] a = refl
host_none o (s ∷ ss) a = ap (λ (w : Who). keep_host w s (host_of ss)) a.0 ∙ host_none o ss a.2

own_merge : (o : ℕ) (xs ys : List Step) → AllHost xs → AllOwned o ys → own_of (merge xs ys) ≡ ys
own_merge o [] ys a b = own_all o ys b
own_merge o (x ∷ xs) [] a b = ap (λ (zs : List Step). own_of zs) (merge_nil (x ∷ xs)) ∙ own_none (x ∷ xs) a
own_merge o (x ∷ xs) (y ∷ ys) a b = elim (leb_tells (moment_of x) (moment_of y)) [
  | inl e ↦ ap (λ (zs : List Step). own_of zs) (merge_here x xs y ys e.1) ∙ ap (λ (w : Who). keep_own w x (own_of (merge xs (y ∷ ys)))) a.0 ∙ own_merge o xs (y ∷ ys) a.1 b
  | inr e ↦ ap (λ (zs : List Step). own_of zs) (merge_there x xs y ys e.1) ∙ ap (λ (w : Who). keep_own w y (own_of (merge (x ∷ xs) ys))) b.0 ∙ ap (λ (zs : List Step). y ∷ zs) (own_merge o (x ∷ xs) ys a b.2)
]

pub host_merge : (o : ℕ) (xs ys : List Step) → AllHost xs → AllOwned o ys → host_of (merge xs ys) ≡ xs
host_merge o [] ys a b = host_none o ys b
host_merge o (x ∷ xs) [] a b = ap (λ (zs : List Step). host_of zs) (merge_nil (x ∷ xs)) ∙ host_all (x ∷ xs) a
host_merge o (x ∷ xs) (y ∷ ys) a b = elim (leb_tells (moment_of x) (moment_of y)) [
  | inl e ↦ ap (λ (zs : List Step). host_of zs) (merge_here x xs y ys e.1) ∙ ap (λ (w : Who). keep_host w x (host_of (merge xs (y ∷ ys)))) a.0 ∙ ap (λ (zs : List Step). x ∷ zs) (host_merge o xs (y ∷ ys) a.1 b)
  | inr e ↦ ap (λ (zs : List Step). host_of zs) (merge_there x xs y ys e.1) ∙ ap (λ (w : Who). keep_host w y (host_of (merge (x ∷ xs) ys))) b.0 ∙ host_merge o (x ∷ xs) ys a b.2
]

-- the host's lines after its steps: those it holds, and ATN
abbrev atn_after : Bool → Line → Way → Bool
atn_after a Atn way = is_pull way
atn_after a Clock way = a
atn_after a Data way = a

abbrev atn_by : Bool → List Step → Bool
atn_by a [] = a
atn_by a (s ∷ ss) = atn_by (atn_after a s.event.change.line s.event.change.way) ss

abbrev pub held_one : Held → Line → Way → Held
held_one h Atn way = h
held_one h Clock way = record h { clock_low = is_pull way }
held_one h Data way = record h { data_low = is_pull way }

one_line : (a : Bool) (h : Held) (line : Line) (way : Way) → lines_after (wires a h.clock_low h.data_low) line way ≡ wires (atn_after a line way) (held_one h line way).clock_low (held_one h line way).data_low
one_line a h Atn way = refl
one_line a h Clock way = refl
one_line a h Data way = refl

pub held_is : (h : Held) (line : Line) (way : Way) → held_one h line way ≡ (elim line as (λ x. Held) [ Atn ↦ h | Clock ↦ record h { clock_low = is_pull way } | Data ↦ record h { data_low = is_pull way } ])
held_is h Atn way = refl
held_is h Clock way = refl
held_is h Data way = refl

pub lines_held : (a : Bool) (h : Held) (ss : List Step) → lines_by (wires a h.clock_low h.data_low) ss ≡ wires (atn_by a ss) (held_by h ss).clock_low (held_by h ss).data_low
lines_held a h [] = refl
lines_held a h (s ∷ ss) =
    let line = s.event.change.line in
    let way = s.event.change.way in
    ap (λ (l : Lines). lines_by l ss) (one_line a h line way)
    ∙ lines_held (atn_after a line way) (held_one h line way) ss
    ∙ ap (λ (x : Held). wires (atn_by (atn_after a line way) ss) (held_by x ss).clock_low (held_by x ss).data_low) (held_is h line way)

atn_stays : (ss : List Step) → NoAtn ss → atn_by false ss ≡ false
atn_stays [] n = refl
atn_stays (s ∷ ss) n = ap (λ (v : Bool). atn_by v ss) (go s.event.change.line s.event.change.way n.0) ∙ atn_stays ss n.1
  where
    go : (line : Line) (way : Way) → is_atn line ≡ false → atn_after false line way ≡ false
    go Atn way h = cc
    go Clock way h = refl
    go Data way h = refl

noatn_before : (c : ℕ) (ss : List Step) → NoAtn ss → NoAtn (before c ss)
noatn_before c [] a = tt
noatn_before c (s ∷ ss) a = elim (leb_tells (suc (moment_of s)) c) [
  | inl x ↦ subst NoAtn (sym (before_yes c s ss (omega (arith, x.1)))) (a.0, noatn_before c ss a.1)
  | inr x ↦ subst NoAtn (sym (before_no c s ss (omega (arith, x.1)))) (noatn_before c ss a.1)
]

-- a turnaround's cut is out of attention
turn_atn : (c at : ℕ) (a : Bool) (more : List Step) → at + 1 ≤ c → NoAtn more → atn_by a (before c (host at Data Pull ∷ for_each Released (host at Atn Free) ∷ more)) ≡ false
turn_atn c at a more l n =
    let first = host at Data Pull in
    let second = for_each Released (host at Atn Free) in
    ap (λ (zs : List Step). atn_by a zs) (before_yes c first (second ∷ more) (omega (arith, l)) ∙ ap (λ (zs : List Step). first ∷ zs) (before_yes c second more (omega (arith, l))))
    ∙ atn_stays (before c more) (noatn_before c more n)

freed_host : (x : Option ℕ) → AllHost (freed_steps x)
freed_host None = tt
freed_host (Some g) = (refl, tt)

signal_host : (x : Option (ℕ × ℕ)) (ss : List Step) → AllHost ss → AllHost (signal_steps x ++ ss)
signal_host None ss a = a
signal_host (Some (pull, free)) ss a = (refl, (refl, a))

-- what is asked of the host's part of a piece that may be cut
pub cut_host : (p : Point) (w : Whole) (c : ℕ) → CutFits p w c → AllHost (host_part p w)
cut_host p (PullPiece at) c k = elim k [ ]
cut_host p (Command f) c k = elim k [ ]
cut_host p (Byte eoi f) c k = elim k [ ]
cut_host p (ToListener at) c k = elim k [ ]
cut_host p (ToNobody at clock) c k = elim k [ ]
cut_host p (ToTalker at clock) c k = (refl, (refl, (refl, tt)))
cut_host p (Nothing at clock freed) c k = (refl, (refl, (refl, freed_host freed)))
cut_host p (Talk at f) c k = (refl, signal_host f.signal (for_one (talker_of p.seats).device (Said (number_of f.bits) (is_last f)) (host f.accept Data Pull) ∷ []) (refl, tt))

pub cut_atn : (p : Point) (w : Whole) (c : ℕ) → CutFits p w c → Fits p w → atn_by (in_attention p.place) (before c (host_part p w)) ≡ false
cut_atn p (PullPiece at) c k h = elim k [ ]
cut_atn p (Command f) c k h = elim k [ ]
cut_atn p (Byte eoi f) c k h = elim k [ ]
cut_atn p (ToListener at) c k h = elim k [ ]
cut_atn p (ToNobody at clock) c k h = elim k [ ]
cut_atn p (ToTalker at clock) c k h = turn_atn c at (in_attention p.place) (host clock Clock Free ∷ []) k (refl, tt)
cut_atn p (Nothing at clock freed) c k h = turn_atn c at (in_attention p.place) (host clock Clock Free ∷ freed_steps freed) k (refl, noatn_freed freed)
cut_atn p (Talk at f) c k h =
    ap (λ (x : BusPlace). atn_by (in_attention x) (before c (taking (talker_of p.seats) f))) h.0
    ∙ atn_stays (before c (taking (talker_of p.seats) f)) (noatn_before c (taking (talker_of p.seats) f) (noatn_taking (talker_of p.seats) f))

-- no byte counts in attention there
none_role : (r : Role) (a b : List Step) → NoAttention a → NoAttention b → NoAttention (elim r as (λ q. List Step) [ Absent ↦ a | Listener ↦ [] | Talker ↦ b ])
none_role Absent a b x y = x
none_role Listener a b x y = tt
none_role Talker a b x y = y

none_bits : (b : Party) (at : ℕ) (held : Bool) (bits : List Bool) → NoAttention (bit_steps b at held bits)
none_bits b at true [] = (tt, (tt, tt))
none_bits b at false [] = (tt, tt)
none_bits b at true (true ∷ bits) = (tt, (tt, (tt, none_bits b (at + bit_time b.pace) false bits)))
none_bits b at false (true ∷ bits) = (tt, (tt, none_bits b (at + bit_time b.pace) false bits))
none_bits b at true (false ∷ bits) = (tt, (tt, none_bits b (at + bit_time b.pace) true bits))
none_bits b at false (false ∷ bits) = (tt, (tt, (tt, none_bits b (at + bit_time b.pace) true bits)))

none_if : (v : Bool) (ss : List Step) → NoAttention ss → NoAttention (if v then ss else [])
none_if true ss a = a
none_if false ss a = tt

none_freed : (x : Option ℕ) → NoAttention (freed_steps x)
none_freed None = tt
none_freed (Some g) = (tt, tt)

none_signal : (x : Option (ℕ × ℕ)) → NoAttention (signal_steps x)
none_signal None = tt
none_signal (Some (pull, free)) = (tt, (tt, tt))

none_silent : (e : Pace) (d t : ℕ) → NoAttention (silent_part e d t)
none_silent Profile d t = (tt, tt)
none_silent Kernal d t = (tt, (tt, (tt, tt)))

pub cut_silent : (p : Point) (w : Whole) (s : Seat) (c : ℕ) → CutFits p w c → NoAttention (merge (host_part p w) (own_part p w s))
cut_silent p (PullPiece at) s c k = elim k [ ]
cut_silent p (Command f) s c k = elim k [ ]
cut_silent p (Byte eoi f) s c k = elim k [ ]
cut_silent p (ToListener at) s c k = elim k [ ]
cut_silent p (ToNobody at clock) s c k = elim k [ ]
cut_silent p (ToTalker at clock) s c k =
    no_merge (host_part p (ToTalker at clock)) (own_part p (ToTalker at clock) s) (tt, (tt, (tt, tt))) (none_role s.role (let_go at s) (drive (device s) (clock + reaction s) Clock Pull ∷ drive (device s) (clock + reaction s) Data Free ∷ []) (tt, tt) (tt, (tt, tt)))
cut_silent p (Nothing at clock freed) s c k =
    no_merge (host_part p (Nothing at clock freed)) (own_part p (Nothing at clock freed) s) (tt, (tt, (tt, none_freed freed))) (none_role s.role (let_go at s) (silent_part s.party.pace (device s) (clock + reaction s)) (tt, tt) (none_silent s.party.pace (device s) (clock + reaction s)))
cut_silent p (Talk at f) s c k =
    no_merge (taking (talker_of p.seats) f) (own_part p (Talk at f) s)
    (tt, no_append (signal_steps f.signal) (for_one (talker_of p.seats).device (Said (number_of f.bits) (is_last f)) (host f.accept Data Pull) ∷ []) (none_signal f.signal) (tt, tt))
    (none_if (is_talker s.role) (telling (at_pace (talker_of p.seats).pace s.party) at f)
    (tt, no_append (bit_steps (at_pace (talker_of p.seats).pace s.party) (first_bit (at_pace (talker_of p.seats).pace s.party) f) false f.bits) (if is_last f then drive (device s) (f.accept + reaction s) Clock Free ∷ [] else []) (none_bits (at_pace (talker_of p.seats).pace s.party) (first_bit (at_pace (talker_of p.seats).pace s.party) f) false f.bits) (none_if (is_last f) (drive (device s) (f.accept + reaction s) Clock Free ∷ []) (tt, tt))))

-- after a cut the drive stands as the session has it
cut_stands : (p : Point) (s : Seat) (w : Whole) (c : ℕ) (q q2 : Port) (peek : Option (ℕ × Bool)) → StandsAt (alone p s) s q → Fits (alone p s) w → CutFits (alone p s) w c → Follows peek q (before c (steps_of (alone p s) w)) q2 → IsInTime c (port_due q2)
    → StandsAt (point_after (alone p s) (Cut w c)) (seat_with s.role (held_by s.own (before c (own_part (alone p s) w s))) s) q2
cut_stands p s w c q q2 peek h f k g i =
    let a = alone p s in
    let hs = host_part a w in
    let os = own_part a w s in
    let owned = part_owned a w s in
    let all_host = cut_host a w c k in
    record {
      party = follows_party peek g ∙ h.party;
      role = follows_role peek g (no_before c (merge hs os) (cut_silent a w s c k)) ∙ h.role;
      own =
          follows_own peek g
          ∙ ap (λ (o : Held). held_by o (own_of (before c (merge hs os)))) h.own
          ∙ ap (λ (zs : List Step). held_by s.own zs) (own_before c (merge hs os) ∙ ap (λ (zs : List Step). before c zs) (own_merge (device s) hs os all_host owned));
      others =
          follows_others peek g
          ∙ ap (λ (l : Lines). lines_by l (host_of (before c (merge hs os)))) h.others
          ∙ ap (λ (zs : List Step). lines_by (wires (in_attention p.place) p.host.clock_low p.host.data_low) zs) (host_before c (merge hs os) ∙ ap (λ (zs : List Step). before c zs) (host_merge (device s) hs os all_host owned))
          ∙ lines_held (in_attention p.place) p.host (before c hs)
          ∙ ap (λ (v : Bool). wires v (held_by p.host (before c hs)).clock_low (held_by p.host (before c hs)).data_low) (cut_atn a w c k f);
      side = i;
      lines_there = tt;
    }

alone_is : (p : Point) (s : Seat) → p.seats ≡ s ∷ [] → p ≡ alone p s
alone_is p s e = ap (λ (ss : List Seat). (record { place = p.place; seats = ss; host = p.host; pulled = p.pulled; released = p.released; accepted = p.accepted; since = p.since })) e

follows_all : (ks : List Piece) (p : Point) (s : Seat) (q : Port) → 1 ≤ reaction s → reaction s ≤ 60 → StandsAt (alone p s) s q → Linked (alone p s) ks → FollowsAll q (alone p s) ks
follows_all [] p s q r u h l = tt
follows_all (Full w ∷ ks) p s q r u h l = λ peek y.
    let x = follows_pieces p s w q peek r u h l.0 y in
    let p2 = whole_point (alone p s) w in
    let s2 = x.1.0 in
    let e : p2 ≡ alone p2 s2 = alone_is p2 s2 x.1.1.1 in
    let stands_there : StandsAt (alone p2 s2) s2 x.0 = subst (λ (z : Point). StandsAt z s2 x.0) e x.1.1.2 in
    let same : s2.party ≡ s.party = sym x.1.1.2.party ∙ follows_party peek x.1.1.0 ∙ h.party in
    let more = follows_all ks p2 s2 x.0 (subst (λ (b : Party). 1 ≤ b.reaction) (sym same) r) (subst (λ (b : Party). b.reaction ≤ 60) (sym same) u) stands_there (subst (λ (z : Point). Linked z ks) e l.1) in
    (x.0, (x.1.1.0, subst (λ (z : Point). FollowsAll x.0 z ks) (sym e) more))
follows_all (Cut w c ∷ ks) p s q r u h l = λ peek y.
    let x = follows_fronts p s w q peek c r u h l.0.0 y l.0.2 in
    let s2 = seat_with s.role (held_by s.own (before c (own_part (alone p s) w s))) s in
    let there = cut_stands p s w c q x.0 peek h l.0.0 l.0.1 x.1.0 x.1.1 in
    (x.0, (x.1.0, follows_all ks (point_after (alone p s) (Cut w c)) s2 x.0 r u there l.1))

pub follows_sessions : FollowsSessions
follows_sessions b ks r u l =
    follows_all ks (rest (b ∷ [])) (record { party = b; role = Absent; own = lines false false }) (resting b) r u
    (record { party = refl; role = refl; own = refl; others = refl; side = inl refl; lines_there = tt }) l
