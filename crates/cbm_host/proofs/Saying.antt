-- What the drive says in a request is what its machine has to say: the pieces of the request are allowed, and this counts in them.
use Rattle.std.proofs.Common.{◌≡◌, ℕ, zero, suc, ◌+◌, ◌-◌, ◌*◌, ◌/◌, ◌≤◌, ◌<◌, ◌⊎◌, inl, inr, Bool, true, false, not, List, [], ◌∷◌, ◌++◌, length, append_assoc, append-nil, Option, Some, None, refl, sym, ap, ◌∙◌, subst, arith, eq-eqb}
use Rattle.std.proofs.lemmas.Bool.Decides.{leb_tells}
use Rattle.std.specs.Prelude.{if◌then◌else◌}
use Rattle.cbm_iec.specs.Profile.{lead, next_byte}
use Rattle.cbm_iec.specs.declared.lines.Line.TheVariants.{Data}
use Rattle.cbm_iec.specs.declared.lines.Way.TheVariants.{Free}
use Rattle.cbm_iec.specs.declared.pace.Pace.TheVariants.{Profile, Kernal}
use Rattle.cbm_iec.specs.declared.pace.Pace.{Pace}
use Rattle.cbm_iec.specs.Roles.{role_after}
use Rattle.cbm_iec.specs.declared.machine.Act.TheVariants.{Pulled, Attention, Released, Heard, Said as Spoken, Silent}
use Rattle.cbm_iec.specs.declared.machine.Act.{Act}
use Rattle.cbm_iec.specs.declared.event.Who.TheVariants.{Host, Drive}
use Rattle.cbm_iec.specs.declared.event.Who.{Who}
use Rattle.cbm_iec.specs.declared.lines.Held.{Held}
use Rattle.cbm_iec.specs.declared.party.Party.{Party}
use Rattle.cbm_iec.specs.declared.party.Role.TheVariants.{Absent, Listener, Talker}
use Rattle.cbm_iec.specs.declared.party.Role.{Role}
use Rattle.cbm_session.proofs.headline.Unasked.{Runs}
use Rattle.cbm_session.proofs.joining.OneDrive.{told_is}
use Rattle.cbm_session.proofs.reading.PieceReadings.{seat}
use Rattle.cbm_session.specs.Answers.{PieceAnswers, run_acts, run_each, RunEach, Allowed}
use Rattle.cbm_session.specs.Bits.{bits_in_cells, number_of}
use Rattle.cbm_session.specs.Following.{alone}
use Rattle.cbm_session.specs.Pieces.{silent_part, Piece, Point, before, steps_of, piece_steps, held_by, own_part, seat_with, point_after, PullPiece, Command, Byte, ToListener, ToNobody, ToTalker, Nothing, Talk, Full, Cut, Open}
use Rattle.cbm_session.specs.Seats.{lines, Seat, talker_of}
use Rattle.cbm_session.specs.Sessions.{rest, session_steps}
use Rattle.cbm_session.specs.Steps.{Mark, Step, ForEach, For, host, acts_for}
use Rattle.cbm_host.proofs.Counted.{marks_of, acts_from, marks_append, acts_are, pull_marks, command_marks, byte_marks, told_marks}
use Rattle.cbm_host.proofs.Pieces.{nobody_steps, talker_steps, nothing_steps}
use Rattle.cbm_host.proofs.Playing.{attending, point, frame_byte, untalked, listens, talks, still_listens, still_talks}
use Rattle.cbm_host.proofs.Sent.{listening}
use Rattle.cbm_host.proofs.Taken.{leading, told_fits, told_front, nothing_cut, cut_last}
use Rattle.cbm_iec.specs.Attentions.{untalk, unlisten}
use Rattle.cbm_host.specs.Engines.{is_last_byte}
use Rattle.cbm_host.specs.Framed.{cells_for, bits_for, start_for, frame_for, told_for, hushed_for}
use Rattle.cbm_host.specs.Requests.{accept_for, attention, leave, bytes_sent, sending_pieces, Said, Mute, UpToLast, UpToMost, at_last, up_to_last, taken_at_most, up_to_most, turnaround_pieces, taking_pieces}
use Rattle.cbm_host.specs.Waits.{ready_wait, answer_wait, turn_wait, phase}

-- the bits of a byte spell it
same_bits : (n l t : ℕ) → bits_in_cells (cells_for n l t) ≡ bits_for n l
same_bits zero l t = refl
same_bits (suc n) l t = ap (λ (bs : List Bool). not (Rattle.cbm_host.specs.Sending.starts_low l) ∷ bs) (same_bits n (l / 2) (t + phase + phase))

nobody : Party
nobody = record { device = 0; reaction = 0; pace = Profile }

told_number : (byte : ℕ) → byte < 256 → number_of (bits_for 8 byte) ≡ byte
told_number byte h = ap (λ (bs : List Bool). number_of bs) (sym (same_bits 8 byte (start_for nobody false 0))) ∙ frame_byte nobody false byte 0 h

-- what counts: bytes heard, and bytes said
abbrev pub Marks : Type 0
Marks = List (Who × Mark)

abbrev pub by_drive : ℕ → Act → Who × Mark
by_drive d act = (Drive d, For d act)

abbrev pub heard_marks : ℕ → List ℕ → Marks
heard_marks d [] = []
heard_marks d (byte ∷ left) = by_drive d (Heard byte (is_last_byte left)) ∷ heard_marks d left

abbrev pub said_marks : ℕ → Bool → ℕ → List ℕ → Marks
said_marks d last byte [] = (Host, For d (Spoken byte last)) ∷ []
said_marks d last byte (next ∷ more) = (Host, For d (Spoken byte false)) ∷ said_marks d last next more

abbrev pub leave_marks : ℕ → ℕ → Marks
leave_marks d byte = (Host, ForEach Pulled) ∷ by_drive d (Attention byte) ∷ (Host, ForEach Released) ∷ []

abbrev pub AreSmall : List ℕ → Type 0
AreSmall [] = Unit {0}
AreSmall (byte ∷ bytes) = (byte < 256) × AreSmall bytes

abbrev pair : ℕ → Bool → Option (ℕ × Bool)
pair n last = Some (n, last)

module _ (M : Type 0) (step : M → Act → M) (peek : M → Option (ℕ × Bool)) (small : (m : M) (n : ℕ) (last : Bool) → peek m ≡ Some (n, last) → n < 256) (b : Party) (some : 1 ≤ b.reaction) (prompt : b.reaction ≤ 60) where
  abbrev r : ℕ
  r = b.reaction

  abbrev d : ℕ
  d = b.device

  -- these pieces are allowed where the drive's machine is this one, and this counts in them
  pub record Counts (p : Point) (m : M) (ks : List Piece) (marks : Marks) : Type 0 where
    pub allowed : (ms : ℕ → M) → ms d ≡ m → Allowed M step peek p ms ks
    pub counted : marks_of (session_steps p ks) ≡ marks

  one_act : (w : Who) (act : Act) → acts_from d ((w, For d act) ∷ []) ≡ act ∷ []
  one_act w act = ap (λ (v : Bool). if v then act ∷ [] else []) (eq-eqb d d refl)

  counts_on : (p : Point) (s : Seat) (k : Piece) (ks : List Piece) (m : M) (marks1 marks2 : Marks) (acts : List Act) → p.seats ≡ s ∷ [] → s.party ≡ b → ((ms : ℕ → M) → ms d ≡ m → PieceAnswers M step peek (ms (talker_of p.seats).device) k) → marks_of (piece_steps p k) ≡ marks1 → acts_from d marks1 ≡ acts
      → Runs M step peek m acts → Counts (point_after p k) (run_acts M step peek m acts) ks marks2 → Counts p m (k ∷ ks) (marks1 ++ marks2)
  counts_on p s k ks m marks1 marks2 acts seats same answers counted is runs more = record {
    allowed = λ ms e. (
      answers ms e,
      subst (λ (ss : List Seat). RunEach M step peek ss ms (piece_steps p k)) (sym seats)
          (subst (λ (x : Party). Runs M step peek (ms x.device) (acts_for x.device (piece_steps p k))) (sym same) (subst (λ (x : M). Runs M step peek x (acts_for d (piece_steps p k))) (sym e) (subst (λ (l : List Act). Runs M step peek m l) (sym there) runs)), tt),
      more.allowed (run_each M step peek ms (piece_steps p k)) (ap (λ (x : M). run_acts M step peek x (acts_for d (piece_steps p k))) e ∙ ap (λ (l : List Act). run_acts M step peek m l) there),
    );
    counted = marks_append (piece_steps p k) (session_steps (point_after p k) ks) ∙ ap (λ (l : Marks). l ++ marks_of (session_steps (point_after p k) ks)) counted ∙ ap (λ (l : Marks). marks1 ++ l) more.counted;
  }
    where
      there : acts_for d (piece_steps p k) ≡ acts
      there = acts_are d (piece_steps p k) ∙ ap (λ (l : Marks). acts_from d l) counted ∙ is

  -- ---- attentions

  pull_counts : (p : Point) (s : Seat) (at : ℕ) (m : M) (ks : List Piece) (marks : Marks) → s.party ≡ b → Counts (attending b s.role false at p.accepted at) (step m Pulled) ks marks → Counts (alone p s) m (Full (PullPiece at) ∷ ks) ((Host, ForEach Pulled) ∷ marks)
  pull_counts p s at m ks marks same more =
      counts_on (alone p s) s (Full (PullPiece at)) ks m ((Host, ForEach Pulled) ∷ []) marks (Pulled ∷ []) refl same (λ ms e. tt) (pull_marks p s at) refl (tt, refl)
      (subst (λ (x : Party). Counts (attending x s.role false at p.accepted at) (step m Pulled) ks marks) (sym same) more)

  command_counts : (role : Role) (first : Bool) (pulled accept since t byte : ℕ) (m : M) (ks : List Piece) (marks : Marks) → byte < 256
      → Counts (attending b (role_after d byte role) true pulled (accept_for b false byte (t + ready_wait)) since) (step m (Attention byte)) ks marks
      → Counts (attending b role first pulled accept since) m (Full (Command (frame_for b false byte (t + ready_wait))) ∷ ks) (by_drive d (Attention byte) ∷ marks)
  command_counts role first pulled accept since t byte m ks marks few more =
      let s = seat b role (lines false true) in
      let f = frame_for b false byte (t + ready_wait) in
      let is = frame_byte b false byte (t + ready_wait) few in
      counts_on (attending b role first pulled accept since) s (Full (Command f)) ks m (by_drive d (Attention byte) ∷ []) marks (Attention byte ∷ []) refl refl (λ ms e. tt)
      (command_marks (attending b role first pulled accept since) s byte (t + ready_wait) some ∙ ap (λ (n : ℕ). by_drive d (Attention n) ∷ []) is) (one_act (Drive d) (Attention byte)) (tt, refl)
      (subst (λ (n : ℕ). Counts (attending b (role_after d n role) true pulled (accept_for b false byte (t + ready_wait)) since) (step m (Attention byte)) ks marks) (sym is) more)

  nobody_counts : (role : Role) (pulled accept since at : ℕ) (m : M) → role ≡ Absent → Counts (attending b role true pulled accept since) m (Full (ToNobody at at) ∷ []) ((Host, ForEach Released) ∷ [])
  nobody_counts role pulled accept since at m absent =
      subst (λ (x : Role). Counts (attending b x true pulled accept since) m (Full (ToNobody at at) ∷ []) ((Host, ForEach Released) ∷ [])) (sym absent)
      (counts_on (attending b Absent true pulled accept since) (seat b Absent (lines false true)) (Full (ToNobody at at)) [] m ((Host, ForEach Released) ∷ []) [] (Released ∷ []) refl refl (λ ms e. tt)
      (ap (λ (l : List Step). marks_of l) (nobody_steps (seat b Absent (lines false true)) some prompt [] 0 (attending b Absent true pulled accept since) (lines false true) at)) refl (tt, refl) (record { allowed = λ ms e. tt; counted = refl }))

  leave_counts : (p : Point) (s : Seat) (at byte : ℕ) (m : M) → s.party ≡ b → byte < 256 → role_after d byte s.role ≡ Absent → Counts (alone p s) m (leave b at (byte ∷ [])) (leave_marks d byte)
  leave_counts p s at byte m same few absent =
      let accept = accept_for b false byte (at + ready_wait) in
      pull_counts p s at m (Full (Command (frame_for b false byte (at + ready_wait))) ∷ Full (ToNobody (accept + turn_wait) (accept + turn_wait)) ∷ []) (by_drive d (Attention byte) ∷ (Host, ForEach Released) ∷ []) same
      (command_counts s.role false at p.accepted at at byte (step m Pulled) (Full (ToNobody (accept + turn_wait) (accept + turn_wait)) ∷ []) ((Host, ForEach Released) ∷ []) few
      (nobody_counts (role_after d byte s.role) at accept at (accept + turn_wait) (step (step m Pulled) (Attention byte)) absent))

  -- ---- bytes to a listener

  sent_counts : (pulled released accept since t wait : ℕ) (bytes : List ℕ) (m : M) → AreSmall bytes → Counts (listening b pulled released accept since) m (bytes_sent b t wait bytes) (heard_marks d bytes ++ leave_marks d unlisten)
  sent_counts pulled released accept since t wait [] m few = leave_counts (listening b pulled released accept since) (seat b Listener (lines false true)) (t + wait) 63 m refl (omega arith) refl
  sent_counts pulled released accept since t wait (byte ∷ left) m few =
      let eoi = is_last_byte left in
      let ready = t + ready_wait in
      let next = accept_for b eoi byte ready in
      let f = frame_for b eoi byte ready in
      counts_on (listening b pulled released accept since) (seat b Listener (lines false true)) (Full (Byte eoi f)) (bytes_sent b next turn_wait left) m (by_drive d (Heard byte eoi) ∷ []) (heard_marks d left ++ leave_marks d unlisten) (Heard byte eoi ∷ []) refl refl (λ ms e. tt)
      (byte_marks (listening b pulled released accept since) b (lines false true) eoi byte ready ∙ ap (λ (n : ℕ). by_drive d (Heard n eoi) ∷ []) (frame_byte b eoi byte ready few.0)) (one_act (Drive d) (Heard byte eoi)) (tt, refl)
      (sent_counts pulled released next since next turn_wait left (step m (Heard byte eoi)) few.1)

  listener_counts : (role : Role) (pulled accept since : ℕ) (bytes : List ℕ) (m : M) → role ≡ Listener → AreSmall bytes
      → Counts (attending b role true pulled accept since) m (Full (ToListener (accept + turn_wait)) ∷ bytes_sent b (accept + turn_wait) ready_wait bytes) ((Host, ForEach Released) ∷ (heard_marks d bytes ++ leave_marks d unlisten))
  listener_counts role pulled accept since bytes m listens few =
      let at = accept + turn_wait in
      subst (λ (x : Role). Counts (attending b x true pulled accept since) m (Full (ToListener at) ∷ bytes_sent b at ready_wait bytes) ((Host, ForEach Released) ∷ (heard_marks d bytes ++ leave_marks d unlisten))) (sym listens)
      (counts_on (attending b Listener true pulled accept since) (seat b Listener (lines false true)) (Full (ToListener at)) (bytes_sent b at ready_wait bytes) m ((Host, ForEach Released) ∷ []) (heard_marks d bytes ++ leave_marks d unlisten) (Released ∷ []) refl refl (λ ms e. tt) refl refl (tt, refl)
      (sent_counts pulled at accept at at ready_wait bytes (step m Released) few))

  -- ---- bytes of the talker

  abbrev pub SaysLast : M → ℕ → List ℕ → Type 0
  SaysLast m byte [] = peek m ≡ Some (byte, true)
  SaysLast m byte (next ∷ more) = (peek m ≡ Some (byte, false)) × SaysLast (step m (Spoken byte false)) next more

  abbrev pub SaysMost : ℕ → Bool → M → ℕ → List ℕ → Type 0
  SaysMost next last m byte [] = (peek m ≡ Some (byte, false)) × (peek (step m (Spoken byte false)) ≡ Some (next, last))
  SaysMost next last m byte (byte2 ∷ more) = (peek m ≡ Some (byte, false)) × SaysMost next last (step m (Spoken byte false)) byte2 more

  -- what the machine has to say is the frame's
  said_so : (m : M) (byte : ℕ) (last : Bool) (at : ℕ) → peek m ≡ Some (byte, last) → (ms : ℕ → M) → ms d ≡ m → peek (ms d) ≡ Some (number_of (told_for b last byte at).bits, Rattle.cbm_session.specs.Frames.is_last (told_for b last byte at))
  said_so m byte last at says ms e = ap peek e ∙ says ∙ ap (λ (n : ℕ). pair n last) (sym (told_number byte (small m byte last says))) ∙ by_last last
    where
      by_last : (v : Bool) → pair (number_of (bits_for 8 byte)) v ≡ pair (number_of (told_for b v byte at).bits) (Rattle.cbm_session.specs.Frames.is_last (told_for b v byte at))
      by_last true = refl
      by_last false = refl

  talk_marks : (p : Point) (o : Held) (last : Bool) (byte at : ℕ) → byte < 256 → marks_of (steps_of (alone p (seat b Talker o)) (Talk at (told_for b last byte at))) ≡ (Host, For d (Spoken byte last)) ∷ []
  talk_marks p o true byte at few =
      ap (λ (l : List Step). marks_of l) (told_is b at (told_for b true byte at) (told_fits b some prompt true byte at)) ∙ told_marks b at (told_for b true byte at) ∙ ap (λ (n : ℕ). (Host, For d (Spoken n true)) ∷ []) (told_number byte few)
  talk_marks p o false byte at few =
      ap (λ (l : List Step). marks_of l) (told_is b at (told_for b false byte at) (told_fits b some prompt false byte at)) ∙ told_marks b at (told_for b false byte at) ∙ ap (λ (n : ℕ). (Host, For d (Spoken n false)) ∷ []) (told_number byte few)

  -- a byte that isn't the last
  told_counts : (pulled accept since byte at : ℕ) (m : M) (ks : List Piece) (marks : Marks) → peek m ≡ Some (byte, false) → Counts (leading b ((told_for b false byte at).accept + next_byte) pulled accept (told_for b false byte at).accept) (step m (Spoken byte false)) ks marks
      → Counts (leading b at pulled accept since) m (Full (Talk at (told_for b false byte at)) ∷ ks) ((Host, For d (Spoken byte false)) ∷ marks)
  told_counts pulled accept since byte at m ks marks says more =
      let few = small m byte false says in
      counts_on (leading b at pulled accept since) (seat b Talker (lines true false)) (Full (Talk at (told_for b false byte at))) ks m ((Host, For d (Spoken byte false)) ∷ []) marks (Spoken byte false ∷ []) refl refl (said_so m byte false at says)
      (talk_marks (leading b at pulled accept since) (lines true false) false byte at few) (one_act Host (Spoken byte false)) (says, refl) more

  most_counts : (pulled accept since next byte at : ℕ) (last : Bool) (m : M) → b.device ≤ 11 → SaysMost next last m byte [] → Counts (leading b at pulled accept since) m (taken_at_most b next last byte at) ((Host, For d (Spoken byte false)) ∷ leave_marks d untalk)
  most_counts pulled accept since next byte at last m few says =
      let f = told_for b false byte at in
      let cut = f.accept + answer_wait in
      let at2 = f.accept + next_byte in
      let f2 = told_for b last next at2 in
      let p2 = leading b at2 pulled accept f.accept in
      let m2 = step m (Spoken byte false) in
      let nothing = nothing_cut b some prompt p2 (lines true false) last next at2 cut (omega arith) in
      told_counts pulled accept since byte at m (Cut (Talk at2 f2) cut ∷ leave b cut (untalk ∷ [])) (leave_marks d untalk) says.0
      (counts_on p2 (seat b Talker (lines true false)) (Cut (Talk at2 f2) cut) (leave b cut (untalk ∷ [])) m2 [] (leave_marks d untalk) [] refl refl (said_so m2 next last at2 says.1) (ap (λ (l : List Step). marks_of l) nothing) refl refl
      (leave_counts (point_after p2 (Cut (Talk at2 f2) cut)) (seat_with Talker (held_by (lines true false) (before cut (own_part p2 (Talk at2 f2) (seat b Talker (lines true false))))) (seat b Talker (lines true false))) cut untalk m2 refl (omega arith) (untalked d few)))

  up_to_most_counts : (pulled accept since next at byte : ℕ) (last : Bool) (more : List ℕ) (m : M) → b.device ≤ 11 → SaysMost next last m byte more → Counts (leading b at pulled accept since) m (up_to_most b next last at byte more) (said_marks d false byte more ++ leave_marks d untalk)
  up_to_most_counts pulled accept since next at byte last [] m few says = most_counts pulled accept since next byte at last m few says
  up_to_most_counts pulled accept since next at byte last (byte2 ∷ more) m few says =
      let f = told_for b false byte at in
      told_counts pulled accept since byte at m (up_to_most b next last (f.accept + next_byte) byte2 more) (said_marks d false byte2 more ++ leave_marks d untalk) says.0
      (up_to_most_counts pulled accept f.accept next (f.accept + next_byte) byte2 last more (step m (Spoken byte false)) few says.1)

  -- the last byte
  front_marks : (byte at : ℕ) → byte < 256 → marks_of (told_front b some prompt true byte at) ≡ (Host, For d (Spoken byte true)) ∷ []
  front_marks byte at few =
      let f = told_for b true byte at in
      marks_append (Rattle.cbm_session.specs.Frames.bit_steps b (Rattle.cbm_session.specs.Frames.first_bit b f) false f.bits) _ ∙ ap (λ (l : Marks). l ++ (Host, For d (Spoken (number_of (bits_for 8 byte)) true)) ∷ []) (Rattle.cbm_host.proofs.Counted.bits_none b (Rattle.cbm_session.specs.Frames.first_bit b f) false f.bits)
      ∙ ap (λ (n : ℕ). (Host, For d (Spoken n true)) ∷ []) (told_number byte few)

  last_counts : (pulled accept since byte at : ℕ) (m : M) → b.device ≤ 11 → peek m ≡ Some (byte, true) → Counts (leading b at pulled accept since) m (at_last b byte at) ((Host, For d (Spoken byte true)) ∷ leave_marks d untalk)
  last_counts pulled accept since byte at m few says =
      let p = leading b at pulled accept since in
      let f = told_for b true byte at in
      let cut = f.accept + answer_wait in
      elim (leb_tells (suc r) 20) [
        | inl h ↦ subst (λ (v : Bool). Counts p m ((if v then Full (Talk at f) else Cut (Talk at f) cut) ∷ leave b cut (untalk ∷ [])) ((Host, For d (Spoken byte true)) ∷ leave_marks d untalk)) (sym h.0)
            (counts_on p (seat b Talker (lines true false)) (Full (Talk at f)) (leave b cut (untalk ∷ [])) m ((Host, For d (Spoken byte true)) ∷ []) (leave_marks d untalk) (Spoken byte true ∷ []) refl refl (said_so m byte true at says) (talk_marks p (lines true false) true byte at (small m byte true says)) (one_act Host (Spoken byte true)) (says, refl)
            (leave_counts (point b Talker (lines false false) Open (lines false true) pulled Rattle.std.proofs.Common.None accept (f.accept + r + 1)) (seat b Talker (lines false false)) cut untalk (step m (Spoken byte true)) refl (omega arith) (untalked d few)))
        | inr h ↦ subst (λ (v : Bool). Counts p m ((if v then Full (Talk at f) else Cut (Talk at f) cut) ∷ leave b cut (untalk ∷ [])) ((Host, For d (Spoken byte true)) ∷ leave_marks d untalk)) (sym h.0)
            (counts_on p (seat b Talker (lines true false)) (Cut (Talk at f) cut) (leave b cut (untalk ∷ [])) m ((Host, For d (Spoken byte true)) ∷ []) (leave_marks d untalk) (Spoken byte true ∷ []) refl refl (said_so m byte true at says)
            (ap (λ (l : List Step). marks_of l) (cut_last b some prompt p (lines true false) byte at (let l = h.1 in omega (arith, l))) ∙ front_marks byte at (small m byte true says)) (one_act Host (Spoken byte true)) (says, refl)
            (leave_counts (point_after p (Cut (Talk at f) cut)) (seat_with Talker (held_by (lines true false) (before cut (own_part p (Talk at f) (seat b Talker (lines true false))))) (seat b Talker (lines true false))) cut untalk (step m (Spoken byte true)) refl (omega arith) (untalked d few)))
      ]

  up_to_last_counts : (pulled accept since at byte : ℕ) (more : List ℕ) (m : M) → b.device ≤ 11 → SaysLast m byte more → Counts (leading b at pulled accept since) m (up_to_last b at byte more) (said_marks d true byte more ++ leave_marks d untalk)
  up_to_last_counts pulled accept since at byte [] m few says = last_counts pulled accept since byte at m few says
  up_to_last_counts pulled accept since at byte (byte2 ∷ more) m few says =
      let f = told_for b false byte at in
      told_counts pulled accept since byte at m (up_to_last b (f.accept + next_byte) byte2 more) (said_marks d true byte2 more ++ leave_marks d untalk) says.0
      (up_to_last_counts pulled accept f.accept (f.accept + next_byte) byte2 more (step m (Spoken byte false)) few says.1)

  -- ---- the turnaround

  talker_counts : (role : Role) (pulled accept since : ℕ) (m : M) (ks : List Piece) (marks : Marks) (x : ℕ × Bool) → role ≡ Talker → peek (step m Released) ≡ Some x
      → Counts (leading b (accept + turn_wait + phase + r + lead) pulled accept (accept + turn_wait + phase + r + 1)) (step m Released) ks marks
      → Counts (attending b role true pulled accept since) m (Full (ToTalker (accept + turn_wait) (accept + turn_wait + phase)) ∷ ks) ((Host, ForEach Released) ∷ marks)
  talker_counts role pulled accept since m ks marks x talks says more =
      let at = accept + turn_wait in
      subst (λ (v : Role). Counts (attending b v true pulled accept since) m (Full (ToTalker at (at + phase)) ∷ ks) ((Host, ForEach Released) ∷ marks)) (sym talks)
      (counts_on (attending b Talker true pulled accept since) (seat b Talker (lines false true)) (Full (ToTalker at (at + phase))) ks m ((Host, ForEach Released) ∷ []) marks (Released ∷ []) refl refl (λ ms e. (x, ap (λ (v : M). peek (step v Released)) e ∙ says))
      (ap (λ (l : List Step). marks_of l) (talker_steps (seat b Talker (lines false true)) some prompt [] 0 (attending b Talker true pulled accept since) (lines false true) at)) refl (tt, refl) more)

  silent_marks : (e : Pace) (t freed : ℕ) → marks_of (silent_part e d t ++ host freed Data Free ∷ []) ≡ by_drive d Silent ∷ []
  silent_marks Profile t freed = refl
  silent_marks Kernal t freed = refl

  nothing_counts : (role : Role) (pulled accept since : ℕ) (m : M) → role ≡ Talker → b.device ≤ 11 → peek (step m Released) ≡ None
      → Counts (attending b role true pulled accept since) m (turnaround_pieces b (accept + turn_wait) Mute) ((Host, ForEach Released) ∷ by_drive d Silent ∷ leave_marks d untalk)
  nothing_counts role pulled accept since m talks few says =
      let at = accept + turn_wait in
      let freed = hushed_for b.pace r (at + phase) in
      let w = Nothing at (at + phase) (Some freed) in
      let ks = leave b (freed + answer_wait) (untalk ∷ []) in
      subst (λ (v : Role). Counts (attending b v true pulled accept since) m (Full w ∷ ks) ((Host, ForEach Released) ∷ by_drive d Silent ∷ leave_marks d untalk)) (sym talks)
      (counts_on (attending b Talker true pulled accept since) (seat b Talker (lines false true)) (Full w) ks m ((Host, ForEach Released) ∷ by_drive d Silent ∷ []) (leave_marks d untalk) (Released ∷ Silent ∷ []) refl refl (λ ms e. ap (λ (v : M). peek (step v Released)) e ∙ says)
      (ap (λ (l : List Step). marks_of l) (nothing_steps [] 0 (attending b Talker true pulled accept since) (lines false true) at b prompt) ∙ ap (λ (l : Marks). (Host, ForEach Released) ∷ l) (silent_marks b.pace (at + phase + r) freed))
      (ap (λ (l : List Act). Released ∷ l) (one_act (Drive d) Silent)) (tt, (says, refl))
      (leave_counts (point b Talker (lines false false) Open (lines false false) pulled Rattle.std.proofs.Common.None accept freed) (seat b Talker (lines false false)) (freed + answer_wait) untalk (step (step m Released) Silent) refl (omega arith) (untalked d few)))

  -- ---- what the machine says after ATN's release

  abbrev pub IsSaid : M → Said → Type 0
  IsSaid m Mute = peek m ≡ None
  IsSaid m (UpToLast first more) = SaysLast m first more
  IsSaid m (UpToMost first more next last) = SaysMost next last m first more

  abbrev pub turned_marks : Said → Marks
  turned_marks Mute = by_drive d Silent ∷ []
  turned_marks (UpToLast first more) = said_marks d true first more
  turned_marks (UpToMost first more next last) = said_marks d false first more

  turned_counts : (role : Role) (pulled accept since : ℕ) (m : M) (said : Said) → role ≡ Talker → b.device ≤ 11 → IsSaid (step m Released) said → Counts (attending b role true pulled accept since) m (turnaround_pieces b (accept + turn_wait) said) ((Host, ForEach Released) ∷ (turned_marks said ++ leave_marks d untalk))
  turned_counts role pulled accept since m Mute talks few says = nothing_counts role pulled accept since m talks few says
  turned_counts role pulled accept since m (UpToLast first []) talks few says = talker_counts role pulled accept since m (up_to_last b (accept + turn_wait + phase + r + lead) first []) (said_marks d true first [] ++ leave_marks d untalk) (first, true) talks says (up_to_last_counts pulled accept (accept + turn_wait + phase + r + 1) (accept + turn_wait + phase + r + lead) first [] (step m Released) few says)
  turned_counts role pulled accept since m (UpToLast first (next ∷ more)) talks few says = talker_counts role pulled accept since m (up_to_last b (accept + turn_wait + phase + r + lead) first (next ∷ more)) (said_marks d true first (next ∷ more) ++ leave_marks d untalk) (first, false) talks says.0 (up_to_last_counts pulled accept (accept + turn_wait + phase + r + 1) (accept + turn_wait + phase + r + lead) first (next ∷ more) (step m Released) few says)
  turned_counts role pulled accept since m (UpToMost first [] next last) talks few says = talker_counts role pulled accept since m (up_to_most b next last (accept + turn_wait + phase + r + lead) first []) (said_marks d false first [] ++ leave_marks d untalk) (first, false) talks says.0 (up_to_most_counts pulled accept (accept + turn_wait + phase + r + 1) next (accept + turn_wait + phase + r + lead) first last [] (step m Released) few says)
  turned_counts role pulled accept since m (UpToMost first (byte ∷ more) next last) talks few says = talker_counts role pulled accept since m (up_to_most b next last (accept + turn_wait + phase + r + lead) first (byte ∷ more)) (said_marks d false first (byte ∷ more) ++ leave_marks d untalk) (first, false) talks says.0 (up_to_most_counts pulled accept (accept + turn_wait + phase + r + 1) next (accept + turn_wait + phase + r + lead) first last (byte ∷ more) (step m Released) few says)

  -- ---- whole requests

  abbrev pub called : ℕ → ℕ → M → M
  called one two m = step (step (step m Pulled) (Attention one)) (Attention two)

  two_counts : (start one two : ℕ) (m : M) (ks : List Piece) (marks : Marks) → one < 256 → two < 256
      → Counts (attending b (role_after d two (role_after d one Absent)) true start (accept_for b false two (accept_for b false one (start + ready_wait) + ready_wait)) start) (called one two m) ks marks
      → Counts (rest (b ∷ [])) m (attention b start (one ∷ two ∷ []) ++ ks) ((Host, ForEach Pulled) ∷ by_drive d (Attention one) ∷ by_drive d (Attention two) ∷ marks)
  two_counts start one two m ks marks few few2 more =
      pull_counts (rest (b ∷ [])) (seat b Absent (lines false false)) start m _ (by_drive d (Attention one) ∷ by_drive d (Attention two) ∷ marks) refl
      (command_counts Absent false start 0 start start one (step m Pulled) _ (by_drive d (Attention two) ∷ marks) few
      (command_counts (role_after d one Absent) true start (accept_for b false one (start + ready_wait)) start (accept_for b false one (start + ready_wait)) two (step (step m Pulled) (Attention one)) ks marks few2 more))

  pub sends_counts : (start second : ℕ) (bytes : List ℕ) (m : M) → b.device ≤ 11 → 96 ≤ second → second < 256 → AreSmall bytes
      → Counts (rest (b ∷ [])) m (sending_pieces b start second bytes) ((Host, ForEach Pulled) ∷ by_drive d (Attention (32 + d)) ∷ by_drive d (Attention second) ∷ (Host, ForEach Released) ∷ (heard_marks d bytes ++ leave_marks d unlisten))
  sends_counts start second bytes m few high small2 bytes_small =
      two_counts start (32 + d) second m _ ((Host, ForEach Released) ∷ (heard_marks d bytes ++ leave_marks d unlisten)) (omega (arith, few)) small2
      (listener_counts (role_after d second (role_after d (32 + d) Absent)) start (accept_for b false second (accept_for b false (32 + d) (start + ready_wait) + ready_wait)) start bytes (called (32 + d) second m)
      (ap (λ (x : Role). role_after d second x) (listens d) ∙ still_listens d second few high) bytes_small)

  pub takes_counts : (start channel : ℕ) (said : Said) (m : M) → b.device ≤ 11 → channel ≤ 15 → IsSaid (step (called (64 + d) (96 + channel) m) Released) said
      → Counts (rest (b ∷ [])) m (taking_pieces b start channel said) ((Host, ForEach Pulled) ∷ by_drive d (Attention (64 + d)) ∷ by_drive d (Attention (96 + channel)) ∷ (Host, ForEach Released) ∷ (turned_marks said ++ leave_marks d untalk))
  takes_counts start channel said m few few_channels says =
      two_counts start (64 + d) (96 + channel) m _ ((Host, ForEach Released) ∷ (turned_marks said ++ leave_marks d untalk)) (omega (arith, few)) (omega (arith, few_channels))
      (turned_counts (role_after d (96 + channel) (role_after d (64 + d) Absent)) start (accept_for b false (96 + channel) (accept_for b false (64 + d) (start + ready_wait) + ready_wait)) start (called (64 + d) (96 + channel) m) said
      (ap (λ (x : Role). role_after d (96 + channel) x) (talks d) ∙ still_talks d (96 + channel) few (omega arith)) few says)

  pub closes_counts : (start channel : ℕ) (m : M) → b.device ≤ 11 → channel ≤ 15
      → Counts (rest (b ∷ [])) m (leave b start ((32 + d) ∷ (224 + channel) ∷ unlisten ∷ [])) ((Host, ForEach Pulled) ∷ by_drive d (Attention (32 + d)) ∷ by_drive d (Attention (224 + channel)) ∷ by_drive d (Attention unlisten) ∷ (Host, ForEach Released) ∷ [])
  closes_counts start channel m few few_channels =
      let two = accept_for b false (224 + channel) (accept_for b false (32 + d) (start + ready_wait) + ready_wait) in
      let third = accept_for b false unlisten (two + ready_wait) in
      let role = ap (λ (x : Role). role_after d unlisten x) (ap (λ (x : Role). role_after d (224 + channel) x) (listens d) ∙ still_listens d (224 + channel) few (omega arith)) in
      two_counts start (32 + d) (224 + channel) m _ (by_drive d (Attention unlisten) ∷ (Host, ForEach Released) ∷ []) (omega (arith, few)) (omega (arith, few_channels))
      (command_counts (role_after d (224 + channel) (role_after d (32 + d) Absent)) true start two start two unlisten (called (32 + d) (224 + channel) m) _ ((Host, ForEach Released) ∷ []) (omega arith)
      (nobody_counts (role_after d unlisten (role_after d (224 + channel) (role_after d (32 + d) Absent))) start third start (third + turn_wait) (step (called (32 + d) (224 + channel) m) (Attention unlisten)) role))
