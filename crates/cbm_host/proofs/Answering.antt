-- For each machine there is what it says in a request, and the pieces of the request with it.
use Rattle.std.proofs.Common.{replicate, ◌≡◌, ℕ, zero, suc, ◌+◌, ◌-◌, ◌<◌, ◌≤◌, ◌⊎◌, inl, inr, Bool, true, false, List, [], ◌∷◌, ◌++◌, length, append_assoc, append-nil, Option, Some, None, refl, sym, ap, ◌∙◌, subst, arith, eq-eqb}
use Rattle.std.specs.Prelude.{if◌then◌else◌}
use Rattle.cbm_iec.specs.declared.machine.Act.TheVariants.{Pulled, Attention, Released, Heard, Said as Spoken, Silent}
use Rattle.cbm_iec.specs.declared.machine.Act.{Act}
use Rattle.cbm_iec.specs.declared.event.Who.TheVariants.{Host, Drive}
use Rattle.cbm_iec.specs.declared.event.Who.{Who}
use Rattle.cbm_iec.specs.declared.party.Party.{Party}
use Rattle.cbm_session.specs.Pieces.{Piece}
use Rattle.cbm_session.specs.Playing.{IsMachine}
use Rattle.cbm_session.specs.Sessions.{rest, IsDrive}
use Rattle.cbm_session.specs.Steps.{Mark, ForEach, For, with_mark}
use Rattle.cbm_host.proofs.Bytewise.{bytewise, byte_said, some_byte}
use Rattle.cbm_host.proofs.Counted.{acts_from, taken_from, last_from}
use Rattle.cbm_host.proofs.Fronts.{said_from, said_append, none_front, OnlyLast, SaysEach, IsFrontSaid, SaysFront, front_said}
use Rattle.cbm_host.proofs.Requests.{plays_requests}
use Rattle.cbm_host.proofs.Saying.{Marks, by_drive, heard_marks, said_marks, leave_marks, AreSmall, Counts, SaysLast, SaysMost, IsSaid, turned_marks, sends_counts, takes_counts, closes_counts}
use Rattle.cbm_iec.specs.Attentions.{listen, unlisten, talk, untalk, data_on, close_on}
use Rattle.cbm_host.specs.CarriedOut.{acts_heard, spoken, said as talked, acts_called, left_by, acts_carried_out, IsTakenUpTo, AreTakenBy, AreBytes, SaysOn, SaysFew, IsShort}
use Rattle.cbm_host.specs.Engines.{engine_at, channel_of, most_bytes, most_of, is_last_byte}
use Rattle.cbm_host.specs.Requests.{sending_pieces, Said, Mute, UpToLast, UpToMost, said_count, IsSaidFor, longest, pieces_of, IsPlayed}
use Rattle.cbm_host.specs.declared.request.Request.{Request}
use Rattle.cbm_host.specs.declared.request.Request.TheVariants.{Open, Put, Fill, Get, Close, Status}

-- ---- marks as acts and bytes

act_cons : (d : ℕ) (w : Who) (act : Act) (ms : Marks) → acts_from d ((w, For d act) ∷ ms) ≡ act ∷ acts_from d ms
act_cons d w act ms = ap (λ (v : Bool). if v then act ∷ acts_from d ms else acts_from d ms) (eq-eqb d d refl)

with_append : (d : ℕ) (m : Mark) (xs ys : List Act) → with_mark d m (xs ++ ys) ≡ with_mark d m xs ++ ys
with_append d Rattle.cbm_session.specs.Steps.Plain xs ys = refl
with_append d (ForEach act) xs ys = refl
with_append d (For o act) xs ys = go (Rattle.std.specs.Prelude.nat_eq d o)
  where
    go : (v : Bool) → (if v then act ∷ (xs ++ ys) else xs ++ ys) ≡ (if v then act ∷ xs else xs) ++ ys
    go true = refl
    go false = refl

acts_append : (d : ℕ) (xs ys : Marks) → acts_from d (xs ++ ys) ≡ acts_from d xs ++ acts_from d ys
acts_append d [] ys = refl
acts_append d (x ∷ xs) ys = ap (λ (l : List Act). with_mark d x.1 l) (acts_append d xs ys) ∙ with_append d x.1 (acts_from d xs) (acts_from d ys)

heard_acts : (d : ℕ) (bytes : List ℕ) → acts_from d (heard_marks d bytes) ≡ acts_heard bytes
heard_acts d [] = refl
heard_acts d (byte ∷ left) = act_cons d (Drive d) (Heard byte (is_last_byte left)) (heard_marks d left) ∙ ap (λ (l : List Act). Heard byte (is_last_byte left) ∷ l) (heard_acts d left)

said_acts : (d : ℕ) (last : Bool) (byte : ℕ) (more : List ℕ) → acts_from d (said_marks d last byte more) ≡ spoken last byte more
said_acts d last byte [] = act_cons d Host (Spoken byte last) []
said_acts d last byte (next ∷ more) = act_cons d Host (Spoken byte false) (said_marks d last next more) ∙ ap (λ (l : List Act). Spoken byte false ∷ l) (said_acts d last next more)

leave_acts : (d byte : ℕ) → acts_from d (leave_marks d byte) ≡ left_by byte
leave_acts d byte = ap (λ (l : List Act). Pulled ∷ l) (act_cons d (Drive d) (Attention byte) ((Host, ForEach Released) ∷ []))

two_acts : (d one two : ℕ) (ms : Marks) → acts_from d ((Host, ForEach Pulled) ∷ by_drive d (Attention one) ∷ by_drive d (Attention two) ∷ ms) ≡ Pulled ∷ Attention one ∷ Attention two ∷ acts_from d ms
two_acts d one two ms = ap (λ (l : List Act). Pulled ∷ l) (act_cons d (Drive d) (Attention one) (by_drive d (Attention two) ∷ ms) ∙ ap (λ (l : List Act). Attention one ∷ l) (act_cons d (Drive d) (Attention two) ms))

called_acts : (d one two byte : ℕ) (ms : Marks) (acts : List Act) → acts_from d ms ≡ acts → acts_from d ((Host, ForEach Pulled) ∷ by_drive d (Attention one) ∷ by_drive d (Attention two) ∷ (Host, ForEach Released) ∷ (ms ++ leave_marks d byte)) ≡ acts_called one two ++ (acts ++ left_by byte)
called_acts d one two byte ms acts e =
    two_acts d one two ((Host, ForEach Released) ∷ (ms ++ leave_marks d byte))
    ∙ ap (λ (l : List Act). Pulled ∷ Attention one ∷ Attention two ∷ Released ∷ l) (acts_append d ms (leave_marks d byte) ∙ ap (λ (l : List Act). l ++ acts_from d (leave_marks d byte)) e ∙ ap (λ (l : List Act). acts ++ l) (leave_acts d byte))

-- the bytes that the host takes
taken_append : (xs ys : Marks) → taken_from (xs ++ ys) ≡ taken_from xs ++ taken_from ys
taken_append [] ys = refl
taken_append (x ∷ xs) ys = ap (λ (l : List ℕ). Rattle.cbm_host.specs.Performed.taken_with (Rattle.cbm_host.proofs.Along.said_with x.0 x.1) ++ l) (taken_append xs ys) ∙ sym (append_assoc (Rattle.cbm_host.specs.Performed.taken_with (Rattle.cbm_host.proofs.Along.said_with x.0 x.1)) (taken_from xs) (taken_from ys))

last_append : (l : Bool) (xs ys : Marks) → last_from l (xs ++ ys) ≡ last_from (last_from l xs) ys
last_append l [] ys = refl
last_append l (x ∷ xs) ys = last_append (Rattle.cbm_host.specs.Performed.last_with (Rattle.cbm_host.proofs.Along.said_with x.0 x.1) l) xs ys

heard_taken : (d : ℕ) (bytes : List ℕ) → taken_from (heard_marks d bytes) ≡ []
heard_taken d [] = refl
heard_taken d (byte ∷ left) = heard_taken d left

heard_last : (d : ℕ) (l : Bool) (bytes : List ℕ) → last_from l (heard_marks d bytes) ≡ l
heard_last d l [] = refl
heard_last d l (byte ∷ left) = heard_last d l left

said_taken : (d : ℕ) (last : Bool) (byte : ℕ) (more : List ℕ) → taken_from (said_marks d last byte more) ≡ byte ∷ more
said_taken d last byte [] = refl
said_taken d last byte (next ∷ more) = ap (λ (l : List ℕ). byte ∷ l) (said_taken d last next more)

said_last : (d : ℕ) (l last : Bool) (byte : ℕ) (more : List ℕ) → last_from l (said_marks d last byte more) ≡ last
said_last d l last byte [] = refl
said_last d l last byte (next ∷ more) = said_last d false last next more

small_bytes : (bytes : List ℕ) → AreBytes bytes → AreSmall bytes
small_bytes [] h = tt
small_bytes (byte ∷ bytes) h = (h.0, small_bytes bytes h.1)

-- A PLAN OF A REQUEST: pieces that the host performs, allowed for a machine, with what counts in them
pub record Plan (M : Type 0) (step : M → Act → M) (peek : M → Option (ℕ × Bool)) (small : (m : M) (n : ℕ) (last : Bool) → peek m ≡ Some (n, last) → n < 256) (b : Party) (drive : IsDrive b) (m : M) (start : ℕ) (request : Request) : Type 0 where
  pub pieces : List Piece
  pub marks : Marks
  pub played : IsPlayed b (rest (b ∷ [])) (engine_at start b.device request) pieces (start + longest b.pace)
  pub counts : Counts M step peek small b drive.some drive.prompt (rest (b ∷ [])) m pieces marks
  pub acts : acts_from b.device marks ≡ acts_carried_out b.device request (taken_from marks) (last_from false marks)
  pub taken : AreTakenBy request (taken_from marks) (last_from false marks)
  pub fronts : (ms1 ms2 : Marks) → marks ≡ ms1 ++ ms2 → SaysFront M step peek b.device m request (taken_from ms1) (last_from false ms1)

-- the bytes that the talker said, and whether the last of them carried EOI
abbrev pub bytes_of : Said → List ℕ
bytes_of Mute = []
bytes_of (UpToLast first more) = first ∷ more
bytes_of (UpToMost first more next last) = first ∷ more

abbrev pub last_of : Said → Bool
last_of Mute = false
last_of (UpToLast first more) = true
last_of (UpToMost first more next last) = false

taken_up_to : (most : ℕ) (s : Said) → IsSaidFor most s → IsTakenUpTo most (bytes_of s) (last_of s)
taken_up_to most Mute h = (omega arith, inr (refl, inl refl))
taken_up_to most (UpToLast first more) h = (omega (arith, h), inl (refl, omega arith))
taken_up_to most (UpToMost first more next last) h = (omega (arith, h), inr (refl, inr (omega (arith, h))))

module _ (M : Type 0) (step : M → Act → M) (says : M → Option (ℕ × Bool)) (one : Bool) (machine : IsMachine M step says) where
  abbrev peek : M → Option (ℕ × Bool)
  peek = bytewise M step says one

  abbrev pub all_small : (m : M) (n : ℕ) (last : Bool) → peek m ≡ Some (n, last) → n < 256
  all_small m n last e = subst (λ (o : Option (ℕ × Bool)). Rattle.cbm_session.specs.Playing.IsByte M step peek o) e (Rattle.cbm_host.proofs.Bytewise.are_bytes M step says one (says m))

  module _ (b : Party) (drive : IsDrive b) where
    abbrev d : ℕ
    d = b.device

    abbrev Marked : Said → Marks
    Marked s = turned_marks M step peek all_small b drive.some drive.prompt s

    abbrev Says : M → Said → Type 0
    Says m s = IsSaid M step peek all_small b drive.some drive.prompt m s

    abbrev Lasts : M → ℕ → List ℕ → Type 0
    Lasts m byte more = SaysLast M step peek all_small b drive.some drive.prompt m byte more

    abbrev Mosts : ℕ → Bool → M → ℕ → List ℕ → Type 0
    Mosts next last m byte more = SaysMost M step peek all_small b drive.some drive.prompt next last m byte more

    turned_taken : (s : Said) → taken_from (Marked s ++ leave_marks d untalk) ≡ bytes_of s
    turned_taken Mute = refl
    turned_taken (UpToLast first more) = taken_append (said_marks d true first more) (leave_marks d untalk) ∙ append-nil (taken_from (said_marks d true first more)) ∙ said_taken d true first more
    turned_taken (UpToMost first more next last) = taken_append (said_marks d false first more) (leave_marks d untalk) ∙ append-nil (taken_from (said_marks d false first more)) ∙ said_taken d false first more

    turned_last : (s : Said) → last_from false (Marked s ++ leave_marks d untalk) ≡ last_of s
    turned_last Mute = refl
    turned_last (UpToLast first more) = last_append false (said_marks d true first more) (leave_marks d untalk) ∙ said_last d false true first more
    turned_last (UpToMost first more next last) = last_append false (said_marks d false first more) (leave_marks d untalk) ∙ said_last d false false first more

    turned_acts : (s : Said) → acts_from d (Marked s) ≡ talked (bytes_of s) (last_of s)
    turned_acts Mute = act_cons d (Drive d) Silent []
    turned_acts (UpToLast first more) = said_acts d true first more
    turned_acts (UpToMost first more next last) = said_acts d false first more

    -- ---- what it says

    last_on : (m : M) (byte : ℕ) (more : List ℕ) → Lasts m byte more → (front : List ℕ) × SaysOn M step says m front × (length front ≡ length more)
    last_on m byte [] h = ([], tt, refl)
    last_on m byte (next ∷ more) h = let k = last_on (step m (Spoken byte false)) next more h.1 in (byte ∷ k.0, (byte_said M step says one (says m) byte h.0, k.1), ap suc k.2)

    most_on : (next : ℕ) (last : Bool) (m : M) (byte : ℕ) (more : List ℕ) → Mosts next last m byte more → (front : List ℕ) × SaysOn M step says m front × (length front ≡ length more)
    most_on next last m byte [] h = ([], tt, refl)
    most_on next last m byte (byte2 ∷ more) h = let k = most_on next last (step m (Spoken byte false)) byte2 more h.1 in (byte ∷ k.0, (byte_said M step says one (says m) byte h.0, k.1), ap suc k.2)

    said_up : (n : ℕ) (m : M) (byte : ℕ) (last : Bool) → peek m ≡ Some (byte, last) → ((more : List ℕ) × Lasts m byte more × (length more ≤ n)) ⊎ ((more : List ℕ) × (next : ℕ) × (l : Bool) × Mosts next l m byte more × (length more ≡ n))
    said_up n m byte true e = inl ([], e, omega arith)
    said_up zero m byte false e = let y = (Rattle.cbm_host.proofs.Bytewise.byte_machine M step says one machine).more m byte e in inr ([], y.0.0, y.0.1, (e, y.1), refl)
    said_up (suc n) m byte false e =
        let y = (Rattle.cbm_host.proofs.Bytewise.byte_machine M step says one machine).more m byte e in
        elim (said_up n (step m (Spoken byte false)) y.0.0 y.0.1 y.1) [
          | inl k ↦ inl (y.0.0 ∷ k.0, (e, k.1), (let l = k.2 in omega (arith, l)))
          | inr k ↦ inr (y.0.0 ∷ k.0, k.1, k.2, (e, k.3), (let l = k.4 in omega (arith, l)))
        ]

    pub record Answer (most : ℕ) (m : M) : Type 0 where
      pub said : Said
      pub is : Says m said
      pub wanted : IsSaidFor most said
      pub few : said_count said ≤ most_bytes

    answer : (most : ℕ) (m : M) → SaysFew M step says most m → Answer most m
    answer most m h = by_peek (peek m) refl
      where
        by_peek : (o : Option (ℕ × Bool)) → peek m ≡ o → Answer most m
        by_peek None e = record { said = Mute; is = e; wanted = tt; few = omega arith }
        by_peek (Some x) e = elim (said_up (most - 1) m x.0 x.1 e) [
          | inl k ↦ (let on = last_on m x.0 k.0 k.1 in let same = on.2 in let l = k.2 in let some = h.0 in let f = h.1 on.0 on.1 (omega (arith, same, l, some)) in
              record { said = UpToLast x.0 k.0; is = k.1; wanted = omega (arith, l, some); few = omega (arith, f, same) })
          | inr k ↦ (let on = most_on k.1 k.2 m x.0 k.0 k.3 in let same = on.2 in let l = k.4 in let some = h.0 in let f = h.1 on.0 on.1 (omega (arith, same, l, some)) in
              record { said = UpToMost x.0 k.0 k.1 k.2; is = k.3; wanted = omega (arith, l, some); few = omega (arith, f, same) })
        ]

    -- ---- plans

    abbrev PlanOf : M → ℕ → Request → Type 0
    PlanOf m start request = Plan M step peek all_small b drive m start request

    send_acts : (second : ℕ) (bytes : List ℕ) → acts_from d ((Host, ForEach Pulled) ∷ by_drive d (Attention (32 + d)) ∷ by_drive d (Attention second) ∷ (Host, ForEach Released) ∷ (heard_marks d bytes ++ leave_marks d unlisten)) ≡ acts_called (listen + d) second ++ (acts_heard bytes ++ left_by unlisten)
    send_acts second bytes = called_acts d (32 + d) second unlisten (heard_marks d bytes) (acts_heard bytes) (heard_acts d bytes)

    send_taken : (bytes : List ℕ) → (taken_from (heard_marks d bytes ++ leave_marks d unlisten) ≡ []) × (last_from false (heard_marks d bytes ++ leave_marks d unlisten) ≡ false)
    send_taken bytes = (taken_append (heard_marks d bytes) (leave_marks d unlisten) ∙ append-nil (taken_from (heard_marks d bytes)) ∙ heard_taken d bytes, last_append false (heard_marks d bytes) (leave_marks d unlisten) ∙ heard_last d false bytes)

    take_acts : (channel : ℕ) (s : Said) → let marks = (Host, ForEach Pulled) ∷ by_drive d (Attention (64 + d)) ∷ by_drive d (Attention (96 + channel)) ∷ (Host, ForEach Released) ∷ (Marked s ++ leave_marks d untalk) in
        acts_from d marks ≡ acts_called (talk + d) (data_on + channel) ++ (talked (taken_from marks) (last_from false marks) ++ left_by untalk)
    take_acts channel s =
        called_acts d (64 + d) (96 + channel) untalk (Marked s) (talked (bytes_of s) (last_of s)) (turned_acts s)
        ∙ ap (λ (l : List ℕ). acts_called (talk + d) (data_on + channel) ++ (talked l (last_of s) ++ left_by untalk)) (sym (turned_taken s))
        ∙ ap (λ (v : Bool). acts_called (talk + d) (data_on + channel) ++ (talked (taken_from (Marked s ++ leave_marks d untalk)) v ++ left_by untalk)) (sym (turned_last s))

    take_taken : (most : ℕ) (s : Said) → IsSaidFor most s → IsTakenUpTo most (taken_from (Marked s ++ leave_marks d untalk)) (last_from false (Marked s ++ leave_marks d untalk))
    take_taken most s h = subst (λ (v : Bool). IsTakenUpTo most (taken_from (Marked s ++ leave_marks d untalk)) v) (sym (turned_last s)) (subst (λ (l : List ℕ). IsTakenUpTo most l (last_of s)) (sym (turned_taken s)) (taken_up_to most s h))

    -- ---- fronts of what is said

    heard_said : (bytes : List ℕ) → said_from (heard_marks d bytes) ≡ []
    heard_said [] = refl
    heard_said (byte ∷ left) = heard_said left

    send_front : (bytes : List ℕ) (ms1 ms2 : Marks) → said_from (ms1 ++ ms2) ≡ said_from (heard_marks d bytes ++ leave_marks d unlisten) → (taken_from ms1 ≡ []) × (last_from false ms1 ≡ false)
    send_front bytes ms1 ms2 e = none_front ms1 ms2 (e ∙ said_append (heard_marks d bytes) (leave_marks d unlisten) ∙ append-nil (said_from (heard_marks d bytes)) ∙ heard_said bytes)

    each_last : (m : M) (byte : ℕ) (more : List ℕ) → Lasts m byte more → SaysEach M step peek m (said_from (said_marks d true byte more))
    each_last m byte [] h = (h, tt)
    each_last m byte (next ∷ more) h = (h.0, each_last (step m (Spoken byte false)) next more h.1)

    each_most : (next : ℕ) (last : Bool) (m : M) (byte : ℕ) (more : List ℕ) → Mosts next last m byte more → SaysEach M step peek m (said_from (said_marks d false byte more))
    each_most next last m byte [] h = (h.0, tt)
    each_most next last m byte (byte2 ∷ more) h = (h.0, each_most next last (step m (Spoken byte false)) byte2 more h.1)

    only_said : (last : Bool) (byte : ℕ) (more : List ℕ) → OnlyLast (said_from (said_marks d last byte more))
    only_said last byte [] = tt
    only_said last byte (next ∷ []) = (refl, tt)
    only_said last byte (next ∷ next2 ∷ more) = (refl, only_said last next (next2 ∷ more))

    said_many : (last : Bool) (byte : ℕ) (more : List ℕ) → length (said_from (said_marks d last byte more)) ≡ length more + 1
    said_many last byte [] = refl
    said_many last byte (next ∷ more) = let n = said_many last next more in omega (arith, n)

    each_of : (m : M) (s : Said) → Says m s → SaysEach M step peek m (said_from (Marked s))
    each_of m Mute h = tt
    each_of m (UpToLast first more) h = each_last m first more h
    each_of m (UpToMost first more next last) h = each_most next last m first more h

    only_of : (s : Said) → OnlyLast (said_from (Marked s))
    only_of Mute = tt
    only_of (UpToLast first more) = only_said true first more
    only_of (UpToMost first more next last) = only_said false first more

    few_of : (most : ℕ) (s : Said) → IsSaidFor most s → length (said_from (Marked s)) ≤ most
    few_of most Mute h = omega arith
    few_of most (UpToLast first more) h = let n = said_many true first more in omega (arith, n, h)
    few_of most (UpToMost first more next last) h = let n = said_many false first more in omega (arith, n, h)

    take_front : (most : ℕ) (m : M) (s : Said) → Says m s → IsSaidFor most s → (ms1 ms2 : Marks) → said_from (ms1 ++ ms2) ≡ said_from (Marked s ++ leave_marks d untalk) → IsFrontSaid M step peek most m (taken_from ms1) (last_from false ms1)
    take_front most m s h wanted ms1 ms2 e =
        let same : said_from (Marked s) ≡ said_from (ms1 ++ ms2) = sym (e ∙ said_append (Marked s) (leave_marks d untalk) ∙ append-nil (said_from (Marked s))) in
        front_said M step peek most m ms1 ms2 (subst (λ (l : List (ℕ × Bool)). SaysEach M step peek m l) same (each_of m s h)) (subst (λ (l : List (ℕ × Bool)). OnlyLast l) same (only_of s))
        (subst (λ (l : List (ℕ × Bool)). length l ≤ most) same (few_of most s wanted))

    -- where bytes are sent none are taken
    sent_plan : (m : M) (start : ℕ) (request : Request) (second : ℕ) (sent : List ℕ) → 96 ≤ second → second < 256 → AreBytes sent → IsPlayed b (rest (b ∷ [])) (engine_at start d request) (sending_pieces b start second sent) (start + longest b.pace)
        → ((bytes : List ℕ) (last : Bool) → acts_carried_out d request bytes last ≡ acts_called (listen + d) second ++ (acts_heard sent ++ left_by unlisten))
        → ((bytes : List ℕ) (last : Bool) → (bytes ≡ []) × (last ≡ false) → AreTakenBy request bytes last × SaysFront M step peek d m request bytes last) → PlanOf m start request
    sent_plan m start request second sent high few small played acts none =
        let marks = (Host, ForEach Pulled) ∷ by_drive d (Attention (32 + d)) ∷ by_drive d (Attention second) ∷ (Host, ForEach Released) ∷ (heard_marks d sent ++ leave_marks d unlisten) in
        record {
          pieces = sending_pieces b start second sent;
          marks = marks;
          played = played;
          counts = sends_counts M step peek all_small b drive.some drive.prompt start second sent m drive.upto high few (small_bytes sent small);
          acts = send_acts second sent ∙ sym (acts (taken_from marks) (last_from false marks));
          taken = (none (taken_from marks) (last_from false marks) (send_taken sent)).0;
          fronts = λ ms1 ms2 e. (none (taken_from ms1) (last_from false ms1) (send_front sent ms1 ms2 (ap said_from (sym e)))).1;
        }

    pub plan : (m : M) (start : ℕ) (request : Request) → channel_of request ≤ 15 → IsShort M step says d m request → PlanOf m start request
    plan m start (Open channel text) c h = sent_plan m start (Open channel text) (240 + channel) text.now (omega arith) (omega (arith, c)) h.1 (plays_requests b start Mute (Open channel text) drive c h.0 tt (omega arith)) (λ bytes last. refl) (λ bytes last k. (k, k))
    plan m start (Put channel sent) c h = sent_plan m start (Put channel sent) (96 + channel) sent.now (omega arith) (omega (arith, c)) h.1 (plays_requests b start Mute (Put channel sent) drive c h.0 tt (omega arith)) (λ bytes last. refl) (λ bytes last k. (k, k))
    plan m start (Fill channel count byte) c h = sent_plan m start (Fill channel count byte) (96 + channel) (replicate count byte) (omega arith) (omega (arith, c)) h.1 (plays_requests b start Mute (Fill channel count byte) drive c h.0 tt (omega arith)) (λ bytes last. refl) (λ bytes last k. (k, k))
    plan m start (Get channel most) c h =
        let a = answer most _ h in
        record {
          pieces = pieces_of b start a.said (Get channel most);
          marks = (Host, ForEach Pulled) ∷ by_drive d (Attention (64 + d)) ∷ by_drive d (Attention (96 + channel)) ∷ (Host, ForEach Released) ∷ (Marked a.said ++ leave_marks d untalk);
          played = plays_requests b start a.said (Get channel most) drive c (omega arith) a.wanted a.few;
          counts = takes_counts M step peek all_small b drive.some drive.prompt start channel a.said m drive.upto c a.is;
          acts = take_acts channel a.said;
          taken = take_taken most a.said a.wanted;
          fronts = λ ms1 ms2 e. take_front most _ a.said a.is a.wanted ms1 ms2 (ap said_from (sym e));
        }
    plan m start (Close channel) c h = record {
      pieces = pieces_of b start Mute (Close channel);
      marks = (Host, ForEach Pulled) ∷ by_drive d (Attention (32 + d)) ∷ by_drive d (Attention (224 + channel)) ∷ by_drive d (Attention unlisten) ∷ (Host, ForEach Released) ∷ [];
      played = plays_requests b start Mute (Close channel) drive c (omega arith) tt (omega arith);
      counts = closes_counts M step peek all_small b drive.some drive.prompt start channel m drive.upto c;
      acts = two_acts d (32 + d) (224 + channel) (by_drive d (Attention unlisten) ∷ (Host, ForEach Released) ∷ []) ∙ ap (λ (l : List Act). Pulled ∷ Attention (listen + d) ∷ Attention (close_on + channel) ∷ l) (act_cons d (Drive d) (Attention unlisten) ((Host, ForEach Released) ∷ []));
      taken = (refl, refl);
      fronts = λ ms1 ms2 e. none_front ms1 ms2 (ap said_from (sym e));
    }
    plan m start Status c h =
        let a = answer (most_of Status) _ h in
        record {
          pieces = pieces_of b start a.said Status;
          marks = (Host, ForEach Pulled) ∷ by_drive d (Attention (64 + d)) ∷ by_drive d (Attention (96 + 15)) ∷ (Host, ForEach Released) ∷ (Marked a.said ++ leave_marks d untalk);
          played = plays_requests b start a.said Status drive c (omega arith) a.wanted a.few;
          counts = takes_counts M step peek all_small b drive.some drive.prompt start 15 a.said m drive.upto c a.is;
          acts = take_acts 15 a.said;
          taken = take_taken (most_of Status) a.said a.wanted;
          fronts = λ ms1 ms2 e. take_front (most_of Status) _ a.said a.is a.wanted ms1 ms2 (ap said_from (sym e));
        }
