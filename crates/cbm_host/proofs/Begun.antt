-- The bytes that the host has of a request under way are the first of those that the drive's machine says in it.
use Rattle.std.proofs.Common.{replicate, ◌≡◌, ℕ, ◌+◌, ◌≤◌, Bool, true, false, List, [], ◌∷◌, ◌++◌, append-nil, Option, refl, sym, ap, ◌∙◌, subst, arith}
use Rattle.cbm_iec.specs.declared.machine.Act.TheVariants.{Heard}
use Rattle.cbm_iec.specs.declared.machine.Act.{Act}
use Rattle.cbm_iec.specs.declared.event.Event.{Event}
use Rattle.cbm_iec.specs.declared.party.Party.{Party}
use Rattle.cbm_session.specs.Answers.{Allowed, Run, run_acts}
use Rattle.cbm_session.specs.Playing.{at_rest, IsMachine}
use Rattle.cbm_session.specs.Sessions.{rest, IsDrive, IsBus}
use Rattle.cbm_session.specs.Steps.{Step}
use Rattle.cbm_drive.specs.Cables.{Cabled}
use Rattle.cbm_drive.specs.Players.{pending}
use Rattle.cbm_host.proofs.Answering.{plan}
use Rattle.cbm_host.proofs.Bytewise.{bytewise}
use Rattle.cbm_host.proofs.Counted.{marks_of, marks_append, taken_from, last_from, taken_are, last_are}
use Rattle.cbm_host.proofs.Fronts.{IsFrontSaid, SaysFront, truly, whole, all_runs}
use Rattle.cbm_host.proofs.Joint.{met}
use Rattle.cbm_iec.specs.Attentions.{listen, unlisten, talk, untalk, data_on, open_on}
use Rattle.cbm_host.specs.Begun.{IsRequestBegun}
use Rattle.cbm_host.specs.CarriedOut.{acts_heard, acts_called, left_by, acts_carried_out, AreTakenBy, IsShort}
use Rattle.cbm_host.specs.Engines.{engine_at, channel_of, is_last_byte, most_of}
use Rattle.cbm_host.specs.Performed.{IsPerforming}
use Rattle.cbm_host.specs.Performers.{Performing}
use Rattle.cbm_host.specs.Requests.{longest}
use Rattle.cbm_host.specs.declared.request.Request.{Request}
use Rattle.cbm_host.specs.declared.request.Request.TheVariants.{Open, Put, Fill, Get, Close, Status}

module _ (M : Type 0) (step : M → Act → M) (says : M → Option (ℕ × Bool)) where
  heard_runs : (m : M) (bytes : List ℕ) (acts : List Act) (m2 : M) → Run M step says (run_acts M step says m (acts_heard bytes)) acts m2 → Run M step says m (acts_heard bytes ++ acts) m2
  heard_runs m [] acts m2 r = r
  heard_runs m (byte ∷ left) acts m2 r = (tt, heard_runs (step m (Heard byte (is_last_byte left))) left acts m2 r)

  module _ (machine : IsMachine M step says) (d : ℕ) (m : M) where
    none_more : (bytes : List ℕ) → bytes ≡ [] → [] ≡ bytes ++ []
    none_more bytes none = sym (append-nil bytes ∙ none)

    -- where bytes are sent, none come
    sent : (request : Request) (second : ℕ) (sent_bytes bytes : List ℕ) (last : Bool) → acts_carried_out d request [] false ≡ acts_called (listen + d) second ++ (acts_heard sent_bytes ++ left_by unlisten) → AreTakenBy request [] false → (bytes ≡ []) × (last ≡ false) → IsRequestBegun M step says d m request bytes last
    sent request second sent_bytes bytes last acts taken h =
        let m1 = run_acts M step says m (acts_called (listen + d) second) in
        let m2 = run_acts M step says (run_acts M step says m1 (acts_heard sent_bytes)) (left_by unlisten) in
        let ran : Run M step says m (acts_called (listen + d) second ++ (acts_heard sent_bytes ++ left_by unlisten)) m2 = (tt, (tt, (tt, (tt, heard_runs m1 sent_bytes (left_by unlisten) _ (tt, (tt, (tt, refl))))))) in
        record { whole = []; marked = false; afterwards = m2; ran = subst (λ (l : List Act). Run M step says m l m2) (sym acts) ran; taken = taken; more = []; front = none_more bytes h.0; all = λ e. (let no = sym h.1 ∙ e in absurd cc) }

    -- where they are taken, the machine says all
    taken : (most second : ℕ) (bytes : List ℕ) (last : Bool) → 1 ≤ most → let m1 = run_acts M step says m (acts_called (talk + d) second) in
        IsFrontSaid M step (bytewise M step says false) most m1 bytes last → IsFrontSaid M step (bytewise M step says true) most m1 bytes last → Rattle.cbm_host.proofs.Fronts.Whole M step says machine most m1 bytes last
    taken most second bytes last some h k = whole M step says machine most _ bytes last some (truly M step says _ bytes last h.0 k.0, h.1, h.2)

    begun_of : (request : Request) (bytes : List ℕ) (last : Bool) → IsShort M step says d m request → SaysFront M step (bytewise M step says false) d m request bytes last → SaysFront M step (bytewise M step says true) d m request bytes last → IsRequestBegun M step says d m request bytes last
    begun_of (Open channel text) bytes last short h k = sent (Open channel text) (open_on + channel) text.now bytes last refl (refl, refl) h
    begun_of (Put channel sent_bytes) bytes last short h k = sent (Put channel sent_bytes) (data_on + channel) sent_bytes.now bytes last refl (refl, refl) h
    begun_of (Fill channel count byte) bytes last short h k = sent (Fill channel count byte) (data_on + channel) (replicate count byte) bytes last refl (refl, refl) h
    begun_of (Close channel) bytes last short h k = record { whole = []; marked = false; afterwards = run_acts M step says m (acts_carried_out d (Close channel) [] false); ran = (tt, (tt, (tt, (tt, (tt, refl))))); taken = (refl, refl); more = []; front = none_more bytes h.0; all = λ e. (let no = sym h.1 ∙ e in absurd cc) }
    begun_of (Get channel most) bytes last short h k =
        let m1 = run_acts M step says m (acts_called (talk + d) (data_on + channel)) in
        let w = taken most (data_on + channel) bytes last short.0 h k in
        record { whole = w.bytes_all; marked = w.marked; afterwards = _; ran = (tt, (tt, (tt, (tt, all_runs M step says machine m1 w.bytes_all w.marked (left_by untalk) _ w.said (tt, (tt, (tt, refl))))))); taken = w.taken; more = w.more; front = w.front; all = w.all }
    begun_of Status bytes last short h k =
        let m1 = run_acts M step says m (acts_called (talk + d) (data_on + 15)) in
        let w = taken (most_of Status) (data_on + 15) bytes last short.0 h k in
        record { whole = w.bytes_all; marked = w.marked; afterwards = _; ran = (tt, (tt, (tt, (tt, all_runs M step says machine m1 w.bytes_all w.marked (left_by untalk) _ w.said (tt, (tt, (tt, refl))))))); taken = w.taken; more = w.more; front = w.front; all = w.all }

module _ (D M : Type 0) (stands : D → M → Type 0) (step : M → Act → M) (says : M → Option (ℕ × Bool)) (machine : IsMachine M step says) (b : Party) (drive : IsDrive b) (ms : ℕ → M) (start : ℕ) (request : Request) (channel : channel_of request ≤ 15) (short : IsShort M step says b.device (ms b.device) request) where
  is_bus : IsBus (b ∷ [])
  is_bus = record { some = omega arith; few = omega arith; drives = (drive, tt); unlike = (tt, tt) }

  -- WHAT CAME SO FAR, whichever byte stands for what is none
  front : (v : Bool) (p : Performing) (bus : Cabled D) (old new : List Event) (bytes : List ℕ) (last : Bool) → IsPerforming D M stands step says (engine_at start b.device request) (start + longest b.pace) p bus old new bytes last (at_rest M step says ms (b ∷ []))
      → SaysFront M step (bytewise M step says v) b.device (ms b.device) request bytes last
  front v p bus old new bytes last h =
      let k = plan M step says v machine b drive (ms b.device) start request channel short in
      let allowed : Allowed M step (bytewise M step says v) (rest (b ∷ [])) ms k.pieces = k.counts.allowed ms refl in
      let j = met M step says v b ms is_bus machine k.pieces k.played.linked allowed (engine_at start b.device request) k.played.afterwards k.played.until k.played.ending k.played.performs h.runs (pending p.player.second) h.going.after.from h.going.after.stations h.going.after.plays in
      let parts : k.marks ≡ marks_of j.done ++ marks_of j.more = sym k.counts.counted ∙ ap (λ (l : List Step). marks_of l) j.all ∙ marks_append j.done j.more in
      let bytes_are : bytes ≡ taken_from (marks_of j.done) = j.taken ∙ taken_are j.done in
      let last_is : last ≡ last_from false (marks_of j.done) = j.over ∙ last_are false j.done in
      subst (λ (l : List ℕ). SaysFront M step (bytewise M step says v) b.device (ms b.device) request l last) (sym bytes_are)
      (subst (λ (w : Bool). SaysFront M step (bytewise M step says v) b.device (ms b.device) request (taken_from (marks_of j.done)) w) (sym last_is) (k.fronts (marks_of j.done) (marks_of j.more) parts))

  -- A REQUEST UNDER WAY IS BEGUN
  pub begun : (p : Performing) (bus : Cabled D) (old new : List Event) (bytes : List ℕ) (last : Bool) → IsPerforming D M stands step says (engine_at start b.device request) (start + longest b.pace) p bus old new bytes last (at_rest M step says ms (b ∷ []))
      → IsRequestBegun M step says b.device (ms b.device) request bytes last
  begun p bus old new bytes last h = begun_of M step says machine b.device (ms b.device) request bytes last short (front false p bus old new bytes last h) (front true p bus old new bytes last h)
