-- Requests to a talker: the turnaround, its bytes, a cut at the end, and UNTALK.
use Rattle.std.proofs.Common.{◌≡◌, ℕ, suc, ◌+◌, ◌-◌, ◌*◌, ◌≤◌, ◌<◌, inl, inr, Bool, true, false, List, [], ◌∷◌, ◌++◌, length, Some, None, ap, sym, ◌∙◌, subst, arith, refl}
use Rattle.std.proofs.lemmas.Bool.Decides.{leb_tells}
use Rattle.std.proofs.lemmas.Bool.{le-leb, lt-leb}
use Rattle.std.proofs.lemmas.List.{append_assoc}
use Rattle.std.specs.Prelude.{if◌then◌else◌, nat_le}
use Rattle.cbm_iec.specs.Profile.{bit_time, lead, next_byte}
use Rattle.cbm_iec.specs.declared.pace.Pace.TheVariants.{Profile, Kernal}
use Rattle.cbm_iec.specs.declared.pace.Pace.{Pace}
use Rattle.cbm_iec.specs.Roles.{role_after}
use Rattle.cbm_iec.specs.declared.machine.Act.TheVariants.{Said}
use Rattle.cbm_iec.specs.declared.lines.Line.TheVariants.{Clock, Data}
use Rattle.cbm_iec.specs.declared.lines.Way.TheVariants.{Pull, Free}
use Rattle.cbm_iec.specs.declared.lines.Held.{Held}
use Rattle.cbm_iec.specs.declared.party.Party.{Party}
use Rattle.cbm_iec.specs.declared.party.Role.TheVariants.{Talker}
use Rattle.cbm_iec.specs.declared.party.Role.{Role}
use Rattle.cbm_session.proofs.joining.Silents.{silent_from}
use Rattle.cbm_session.proofs.joining.Merging.{NoneBefore, AllBefore, before_yes, before_no}
use Rattle.cbm_session.proofs.joining.OneDrive.{one_told, told_is, bits_before}
use Rattle.cbm_session.proofs.reading.PieceReadings.{seat}
use Rattle.cbm_session.specs.Bits.{number_of}
use Rattle.cbm_session.specs.Following.{alone}
use Rattle.cbm_session.specs.Frames.{bit_steps, first_bit, signal_steps, taking, ToldFits, is_last}
use Rattle.cbm_session.specs.Pieces.{Piece, BusPlace, Point, PullFits, before, some_from, steps_of, held_by, own_part, seat_with, point_after, Talk, ToTalker, Nothing, Full, Cut, Leading, Open, Cutting}
use Rattle.cbm_session.specs.Seats.{lines, Seat}
use Rattle.cbm_session.specs.Steps.{Step, host, drive, for_one, moment_of}
use Rattle.cbm_host.proofs.Composing.{performs_then}
use Rattle.cbm_host.proofs.Pieces.{at_stage, talker_performed, nothing_performed, hushed_from, hushed_upto}
use Rattle.cbm_host.proofs.Playing.{turn_enough, gap_enough, go_on, point, attending, leave_then, untalked}
use Rattle.cbm_host.proofs.Talks.{bits_count, told_performed}
use Rattle.cbm_iec.specs.Attentions.{untalk}
use Rattle.cbm_host.specs.Engines.{Engined, taking_on}
use Rattle.cbm_host.specs.Framed.{bits_for, told_for, hushed_for}
use Rattle.cbm_host.specs.Performing.{Performs, ends, sees}
use Rattle.cbm_host.specs.Requests.{leave, Mute, at_last, up_to_last, taken_at_most, up_to_most, turnaround_pieces, IsPlayed}
use Rattle.cbm_host.specs.Stages as stages
use Rattle.cbm_host.specs.Waits.{answer_wait, turn_wait, phase}
use Rattle.cbm_host.specs.declared.stage.Errand.TheVariants.{Takes}
use Rattle.cbm_host.specs.declared.stage.Stage.TheVariants.{Taking}
use Rattle.cbm_host.specs.declared.take.Take.TheVariants.{Awaiting}

-- ---- lists cut at a moment

before_all : (at : ℕ) (ss : List Step) → AllBefore at ss → before at ss ≡ ss
before_all at [] h = refl
before_all at (s ∷ ss) h = before_yes at s ss h.0 ∙ ap (λ (zs : List Step). s ∷ zs) (before_all at ss h.1)

before_none : (at : ℕ) (ss : List Step) → NoneBefore at ss → before at ss ≡ []
before_none at [] h = refl
before_none at (s ∷ ss) h = before_no at s ss h.0 ∙ before_none at ss h.1

before_append : (at : ℕ) (xs ys : List Step) → AllBefore at xs → NoneBefore at ys → before at (xs ++ ys) ≡ xs
before_append at [] ys a n = before_none at ys n
before_append at (x ∷ xs) ys a n = before_yes at x (xs ++ ys) a.0 ∙ ap (λ (zs : List Step). x ∷ zs) (before_append at xs ys a.1 n)

all_append : (at : ℕ) (xs ys : List Step) → AllBefore at xs → AllBefore at ys → AllBefore at (xs ++ ys)
all_append at [] ys a b = b
all_append at (x ∷ xs) ys a b = (a.0, all_append at xs ys a.1 b)

none_append : (at : ℕ) (xs ys : List Step) → NoneBefore at xs → NoneBefore at ys → NoneBefore at (xs ++ ys)
none_append at [] ys a b = b
none_append at (x ∷ xs) ys a b = (a.0, none_append at xs ys a.1 b)

some_last : (cut : ℕ) (front : List Step) (x : Step) → cut ≤ moment_of x → some_from cut (front ++ x ∷ []) ≡ true
some_last cut [] x h = ap (λ (v : Bool). if v then true else false) (le-leb cut (moment_of x) h)
some_last cut (s ∷ front) x h = go (nat_le cut (moment_of s)) (some_last cut front x h)
  where
    go : (v : Bool) {k : Bool} → k ≡ true → (if v then true else k) ≡ true
    go true e = refl
    go false e = e

bits_none : (b : Party) (m at : ℕ) (held : Bool) (bits : List Bool) → m ≤ at → NoneBefore m (bit_steps b at held bits)
bits_none b m at true [] h = (h, (h, tt))
bits_none b m at false [] h = (h, tt)
bits_none b m at true (true ∷ bits) h = (h, (h, (omega (arith, h), bits_none b m (at + bit_time b.pace) false bits (omega (arith, h)))))
bits_none b m at false (true ∷ bits) h = (h, (omega (arith, h), bits_none b m (at + bit_time b.pace) false bits (omega (arith, h))))
bits_none b m at true (false ∷ bits) h = (h, (omega (arith, h), bits_none b m (at + bit_time b.pace) true bits (omega (arith, h))))
bits_none b m at false (false ∷ bits) h = (h, (h, (omega (arith, h), bits_none b m (at + bit_time b.pace) true bits (omega (arith, h)))))

-- ---- a frame of the talker

-- a byte of a talker takes no longer, with its reaction and the waits
abbrev pub byte_time : Pace → ℕ
byte_time p = 8 * bit_time p + 240

by_eight : (p : Pace) {n : ℕ} → n ≡ 8 → bit_time p * n ≡ bit_time p * 8
by_eight p e = ap (λ k. bit_time p * k) e

bits_upto : (p : Pace) → bit_time p ≤ 160
bits_upto Profile = omega arith
bits_upto Kernal = omega arith

-- the talker leads: it frees CLOCK at that moment for its next byte
abbrev pub leading : Party → ℕ → ℕ → ℕ → ℕ → Point
leading b at pulled accepted since = point b Talker (lines true false) (Leading at) (lines false true) pulled None accepted since

module _ (b : Party) (some : 1 ≤ b.reaction) (prompt : b.reaction ≤ 60) where
  abbrev r : ℕ
  r = b.reaction

  pub told_fits : (last : Bool) (byte at : ℕ) → ToldFits b at (told_for b last byte at)
  told_fits true byte at = record { eight = bits_count b [] 0 8 byte; free = omega arith; signal = (omega arith, omega arith); accept = omega arith; soon = omega arith }
  told_fits false byte at = record { eight = bits_count b [] 0 8 byte; free = omega arith; signal = tt; accept = omega arith; soon = omega arith }

  -- the steps of the frame up to the accept, and CLOCK's release after a last byte
  abbrev pub told_front : Bool → ℕ → ℕ → List Step
  told_front last byte at =
      let f = told_for b last byte at in
      drive b.device at Clock Free ∷ host f.free Data Free ∷ (signal_steps f.signal ++ (bit_steps b (first_bit b f) false f.bits ++ for_one b.device (Said (number_of (bits_for 8 byte)) last) (host f.accept Data Pull) ∷ []))

  abbrev over : ℕ → ℕ → Step
  over byte at = drive b.device ((told_for b true byte at).accept + r) Clock Free

  last_steps : (p : Point) (o : Held) (byte at : ℕ) → steps_of (alone p (seat b Talker o)) (Talk at (told_for b true byte at)) ≡ told_front true byte at ++ over byte at ∷ []
  last_steps p o byte at =
      let f = told_for b true byte at in
      let accept = for_one b.device (Said (number_of (bits_for 8 byte)) true) (host f.accept Data Pull) in
      told_is b at f (told_fits true byte at)
      ∙ ap (λ (zs : List Step). drive b.device at Clock Free ∷ host f.free Data Free ∷ (signal_steps f.signal ++ zs)) (sym (append_assoc (bit_steps b (first_bit b f) false f.bits) (accept ∷ []) (over byte at ∷ [])))

  more_steps : (p : Point) (o : Held) (byte at : ℕ) → steps_of (alone p (seat b Talker o)) (Talk at (told_for b false byte at)) ≡ told_front false byte at
  more_steps p o byte at = told_is b at (told_for b false byte at) (told_fits false byte at)

  -- a byte that isn't the last
  pub told_then : (left : List ℕ) (most pulled accept since byte at limit : ℕ) (e1 : Engined) (ks : List Piece) → taking_on (told_for b false byte at).accept false (record { stage = Taking Awaiting; left = left; most = most }) ≡ e1
      → IsPlayed b (leading b ((told_for b false byte at).accept + next_byte) pulled accept (told_for b false byte at).accept) e1 ks limit
      → IsPlayed b (leading b at pulled accept since) (at_stage left most (Taking Awaiting)) (Full (Talk at (told_for b false byte at)) ∷ ks) limit
  told_then left most pulled accept since byte at limit e1 ks same more =
      let p = leading b at pulled accept since in
      let f = told_for b false byte at in
      go_on (Full (Talk at f)) ks limit e1 (refl, told_fits false byte at)
      (subst (λ (zs : List Step). Performs (at_stage left most (Taking Awaiting)) zs e1) (sym (more_steps p (lines true false) byte at))
      (subst (λ (e : Engined). Performs (at_stage left most (Taking Awaiting)) (told_front false byte at) e) same (told_performed b left most false byte at prompt)))
      more

  -- more bytes are wanted
  wants_more : (t : ℕ) (left : List ℕ) (most less : ℕ) → 2 ≤ most → most - 1 ≡ less → taking_on t false (record { stage = Taking Awaiting; left = left; most = most }) ≡ at_stage left less (Taking Awaiting)
  wants_more t left most less many same =
      ap (λ (v : Bool). if v then at_stage left most (stages.leaving (t + answer_wait) untalk false true) else at_stage left (most - 1) (Taking Awaiting)) (lt-leb most 1 (omega (arith, many)))
      ∙ ap (λ (n : ℕ). at_stage left n (Taking Awaiting)) same

  -- the last attention, after a talk
  pub untalk_then : (p : Point) (s : Seat) (left : List ℕ) (most at limit : ℕ) → s.party ≡ b → s.role ≡ Talker → p.place ≡ Cutting at → p.accepted ≤ at → p.host ≡ lines false true → b.device ≤ 11 → at + 720 ≤ limit
      → IsPlayed b (alone p s) (at_stage left most (stages.leaving at untalk false true)) (leave b at (untalk ∷ [])) limit
  untalk_then p s left most at limit same talks place late held few soon =
      subst (λ (h : Held). IsPlayed b (alone p s) (at_stage left most (stages.leaving at untalk h.clock_low h.data_low)) (leave b at (untalk ∷ [])) limit) held
      (leave_then b some prompt left most p s at untalk limit same (subst (λ (x : BusPlace). PullFits (alone p s) at x) (sym place) refl) late (omega arith) (ap (λ (x : Role). role_after b.device untalk x) talks ∙ untalked b.device few) soon)

  none_taken : (last : Bool) (next at2 cut : ℕ) → cut ≤ at2 → NoneBefore cut (taking b (told_for b last next at2))
  none_taken true next at2 cut h = (omega (arith, h), (omega (arith, h), (omega (arith, h), (omega (arith, h), tt))))
  none_taken false next at2 cut h = (omega (arith, h), (omega (arith, h), tt))

  none_told : (last : Bool) (next at2 cut : ℕ) → cut ≤ at2 → NoneBefore cut (one_told b at2 (told_for b last next at2))
  none_told true next at2 cut h =
      let f = told_for b true next at2 in
      (h, (omega (arith, h), (omega (arith, h), (omega (arith, h), none_append cut (bit_steps b (first_bit b f) false f.bits) _ (bits_none b cut (first_bit b f) false f.bits (omega (arith, h))) (omega (arith, h), (omega (arith, h), tt))))))
  none_told false next at2 cut h =
      let f = told_for b false next at2 in
      (h, (omega (arith, h), none_append cut (bit_steps b (first_bit b f) false f.bits) _ (bits_none b cut (first_bit b f) false f.bits (omega (arith, h))) (omega (arith, h), tt)))

  -- of a frame that is cut before it begins nothing comes
  pub nothing_cut : (p : Point) (o : Held) (last : Bool) (next at2 cut : ℕ) → cut ≤ at2 → before cut (steps_of (alone p (seat b Talker o)) (Talk at2 (told_for b last next at2))) ≡ []
  nothing_cut p o last next at2 cut h = ap (λ (zs : List Step). before cut zs) (told_is b at2 (told_for b last next at2) (told_fits last next at2)) ∙ before_none cut (one_told b at2 (told_for b last next at2)) (none_told last next at2 cut h)

  -- the last byte that is wanted: the next frame is cut before it begins
  pub most_then : (left : List ℕ) (pulled accept since next byte at limit : ℕ) (last : Bool) → b.device ≤ 11 → accept ≤ at → at + 2400 ≤ limit
      → IsPlayed b (leading b at pulled accept since) (at_stage left 1 (Taking Awaiting)) (taken_at_most b next last byte at) limit
  most_then left pulled accept since next byte at limit last few late soon =
      let f = told_for b false byte at in
      let cut = f.accept + answer_wait in
      let at2 = f.accept + next_byte in
      let f2 = told_for b last next at2 in
      let p2 = leading b at2 pulled accept f.accept in
      let fits2 = told_fits last next at2 in
      let steps2 = told_is b at2 f2 fits2 in
      let nothing = nothing_cut p2 (lines true false) last next at2 cut (omega arith) in
      let e1 = at_stage left 1 (stages.leaving cut untalk false true) in
      told_then left 1 pulled accept since byte at limit e1 (Cut (Talk at2 f2) cut ∷ leave b cut (untalk ∷ [])) refl
      (go_on (Cut (Talk at2 f2) cut) (leave b cut (untalk ∷ [])) limit e1
      ((refl, fits2), omega arith, ap (λ (zs : List Step). some_from cut zs) steps2 ∙ ap (λ (v : Bool). if v then true else some_from cut (host f2.free Data Free ∷ (signal_steps f2.signal ++ (bit_steps b (first_bit b f2) false f2.bits ++ for_one b.device (Said (number_of f2.bits) (is_last f2)) (host f2.accept Data Pull) ∷ (if is_last f2 then drive b.device (f2.accept + b.reaction) Clock Free ∷ [] else []))))) (le-leb cut at2 (omega arith)))
      (subst (λ (zs : List Step). Performs e1 zs e1) (sym nothing) (ends refl))
      (untalk_then (point_after p2 (Cut (Talk at2 f2) cut)) (seat_with Talker (held_by (lines true false) (before cut (own_part p2 (Talk at2 f2) (seat b Talker (lines true false))))) (seat b Talker (lines true false))) left 1 cut limit refl refl refl (omega (arith, late))
      (ap (λ (zs : List Step). held_by (lines false true) zs) (before_none cut (taking b f2) (none_taken last next at2 cut (omega arith)))) few (omega (arith, prompt, soon, bits_upto b.pace))))

  -- bytes up to as many as are wanted
  pub up_to_most_then : (left : List ℕ) (pulled accept since next at byte limit : ℕ) (last : Bool) (more : List ℕ) → b.device ≤ 11 → accept ≤ at → at + 2400 + byte_time b.pace * length more ≤ limit
      → IsPlayed b (leading b at pulled accept since) (at_stage left (length more + 1) (Taking Awaiting)) (up_to_most b next last at byte more) limit
  up_to_most_then left pulled accept since next at byte limit last [] few late soon = most_then left pulled accept since next byte at limit last few late (omega (arith, soon))
  up_to_most_then left pulled accept since next at byte limit last (byte2 ∷ more) few late soon =
      let f = told_for b false byte at in
      let e1 = at_stage left (length more + 1) (Taking Awaiting) in
      told_then left (length (byte2 ∷ more) + 1) pulled accept since byte at limit e1 (up_to_most b next last (f.accept + next_byte) byte2 more) (wants_more f.accept left (length (byte2 ∷ more) + 1) (length more + 1) (omega arith) (omega arith))
      (up_to_most_then left pulled accept f.accept next (f.accept + next_byte) byte2 limit last more few (omega (arith, late)) (omega (arith, prompt, soon)))

  pub as_many_then : (left : List ℕ) (most pulled accept since next at byte limit : ℕ) (last : Bool) (more : List ℕ) → length more + 1 ≡ most → b.device ≤ 11 → accept ≤ at → at + 2400 + byte_time b.pace * length more ≤ limit
      → IsPlayed b (leading b at pulled accept since) (at_stage left most (Taking Awaiting)) (up_to_most b next last at byte more) limit
  as_many_then left most pulled accept since next at byte limit last more many few late soon =
      subst (λ (n : ℕ). IsPlayed b (leading b at pulled accept since) (at_stage left n (Taking Awaiting)) (up_to_most b next last at byte more) limit) many (up_to_most_then left pulled accept since next at byte limit last more few late soon)

  -- the last byte, with EOI: a drive that reacts soon frees CLOCK before ATN is pulled, a slower one is cut there
  last_soon : (left : List ℕ) (most pulled accept since byte at limit : ℕ) → r < 20 → b.device ≤ 11 → accept ≤ at → at + 2700 ≤ limit
      → IsPlayed b (leading b at pulled accept since) (at_stage left most (Taking Awaiting)) (Full (Talk at (told_for b true byte at)) ∷ leave b ((told_for b true byte at).accept + answer_wait) (untalk ∷ [])) limit
  last_soon left most pulled accept since byte at limit quick few late soon =
      let p = leading b at pulled accept since in
      let f = told_for b true byte at in
      let cut = f.accept + answer_wait in
      let e1 = at_stage left most (stages.leaving cut untalk false true) in
      go_on (Full (Talk at f)) (leave b cut (untalk ∷ [])) limit e1 (refl, told_fits true byte at)
      (subst (λ (zs : List Step). Performs (at_stage left most (Taking Awaiting)) zs e1) (sym (last_steps p (lines true false) byte at)) (performs_then (told_performed b left most true byte at prompt) (sees (omega (arith, quick)) (ends refl))))
      (leave_then b some prompt left most (point b Talker (lines false false) Open (lines false true) pulled None accept (f.accept + r + 1)) (seat b Talker (lines false false)) cut untalk limit refl (tt, omega (arith, quick)) (omega (arith, late)) (omega arith) (untalked b.device few)
      (omega (arith, prompt, soon, bits_upto b.pace)))

  front_before : (byte at : ℕ) → AllBefore ((told_for b true byte at).accept + answer_wait) (told_front true byte at)
  front_before byte at =
      let f = told_for b true byte at in
      let many = bits_count b [] 0 8 byte in
      (omega arith, (omega arith, (omega arith, (omega arith, all_append (f.accept + answer_wait) (bit_steps b (first_bit b f) false f.bits) _ (bits_before b (first_bit b f) (f.accept + answer_wait) false f.bits (omega (arith, many, by_eight b.pace many))) (omega arith, tt)))))

  -- a slow drive's last frame is cut after its byte
  pub cut_last : (p : Point) (o : Held) (byte at : ℕ) → 20 ≤ r → before ((told_for b true byte at).accept + answer_wait) (steps_of (alone p (seat b Talker o)) (Talk at (told_for b true byte at))) ≡ told_front true byte at
  cut_last p o byte at slow =
      let cut = (told_for b true byte at).accept + answer_wait in
      ap (λ (zs : List Step). before cut zs) (last_steps p o byte at) ∙ before_append cut (told_front true byte at) (over byte at ∷ []) (front_before byte at) (omega (arith, slow), tt)

  last_late : (left : List ℕ) (most pulled accept since byte at limit : ℕ) → 20 ≤ r → b.device ≤ 11 → accept ≤ at → since ≤ at + 100 → at + 2700 ≤ limit
      → IsPlayed b (leading b at pulled accept since) (at_stage left most (Taking Awaiting)) (Cut (Talk at (told_for b true byte at)) ((told_for b true byte at).accept + answer_wait) ∷ leave b ((told_for b true byte at).accept + answer_wait) (untalk ∷ [])) limit
  last_late left most pulled accept since byte at limit slow few late early soon =
      let p = leading b at pulled accept since in
      let f = told_for b true byte at in
      let cut = f.accept + answer_wait in
      let e1 = at_stage left most (stages.leaving cut untalk false true) in
      let steps = last_steps p (lines true false) byte at in
      let cut_there = cut_last p (lines true false) byte at slow in
      go_on (Cut (Talk at f) cut) (leave b cut (untalk ∷ [])) limit e1
      ((refl, told_fits true byte at), omega (arith, early), ap (λ (zs : List Step). some_from cut zs) steps ∙ some_last cut (told_front true byte at) (over byte at) (omega (arith, slow)))
      (subst (λ (zs : List Step). Performs (at_stage left most (Taking Awaiting)) zs e1) (sym cut_there) (told_performed b left most true byte at prompt))
      (untalk_then (point_after p (Cut (Talk at f) cut)) (seat_with Talker (held_by (lines true false) (before cut (own_part p (Talk at f) (seat b Talker (lines true false))))) (seat b Talker (lines true false))) left most cut limit refl refl refl (omega (arith, late))
      (ap (λ (zs : List Step). held_by (lines false true) zs) (before_all cut (taking b f) (omega arith, (omega arith, (omega arith, (omega arith, tt)))))) few (omega (arith, prompt, soon, bits_upto b.pace)))

  last_then : (left : List ℕ) (most pulled accept since byte at limit : ℕ) → b.device ≤ 11 → accept ≤ at → since ≤ at + 100 → at + 2700 ≤ limit
      → IsPlayed b (leading b at pulled accept since) (at_stage left most (Taking Awaiting)) (at_last b byte at) limit
  last_then left most pulled accept since byte at limit few late early soon = elim (leb_tells (suc r) 20) [
    | inl h ↦ subst (λ (v : Bool). IsPlayed b (leading b at pulled accept since) (at_stage left most (Taking Awaiting)) ((if v then Full (Talk at (told_for b true byte at)) else Cut (Talk at (told_for b true byte at)) ((told_for b true byte at).accept + answer_wait)) ∷ leave b ((told_for b true byte at).accept + answer_wait) (untalk ∷ [])) limit)
        (sym h.0) (last_soon left most pulled accept since byte at limit h.1 few late soon)
    | inr h ↦ subst (λ (v : Bool). IsPlayed b (leading b at pulled accept since) (at_stage left most (Taking Awaiting)) ((if v then Full (Talk at (told_for b true byte at)) else Cut (Talk at (told_for b true byte at)) ((told_for b true byte at).accept + answer_wait)) ∷ leave b ((told_for b true byte at).accept + answer_wait) (untalk ∷ [])) limit)
        (sym h.0) (last_late left most pulled accept since byte at limit (let l = h.1 in omega (arith, l)) few late early soon)
  ]

  -- bytes up to the one with EOI
  pub up_to_last_then : (left : List ℕ) (most pulled accept since at byte limit : ℕ) (more : List ℕ) → length more + 1 ≤ most → b.device ≤ 11 → accept ≤ at → since ≤ at + 100 → at + 2700 + byte_time b.pace * length more ≤ limit
      → IsPlayed b (leading b at pulled accept since) (at_stage left most (Taking Awaiting)) (up_to_last b at byte more) limit
  up_to_last_then left most pulled accept since at byte limit [] many few late early soon = last_then left most pulled accept since byte at limit few late early (omega (arith, soon))
  up_to_last_then left most pulled accept since at byte limit (byte2 ∷ more) many few late early soon =
      let f = told_for b false byte at in
      let e1 = at_stage left (most - 1) (Taking Awaiting) in
      told_then left most pulled accept since byte at limit e1 (up_to_last b (f.accept + next_byte) byte2 more) (wants_more f.accept left most (most - 1) (omega (arith, many)) refl)
      (up_to_last_then left (most - 1) pulled accept f.accept (f.accept + next_byte) byte2 limit more (omega (arith, many)) few (omega (arith, late)) (omega arith) (omega (arith, prompt, soon)))

  -- ---- the turnaround

  pub talker_then : (role : Role) (left : List ℕ) (most pulled accept since limit : ℕ) (ks : List Piece) → role ≡ Talker
      → IsPlayed b (leading b (accept + turn_wait + phase + r + lead) pulled accept (accept + turn_wait + phase + r + 1)) (at_stage left most (Taking Awaiting)) ks limit
      → IsPlayed b (attending b role true pulled accept since) (at_stage left most (stages.releasing accept Takes)) (Full (ToTalker (accept + turn_wait) (accept + turn_wait + phase)) ∷ ks) limit
  talker_then role left most pulled accept since limit ks talks more =
      let at = accept + turn_wait in
      subst (λ (x : Role). IsPlayed b (attending b x true pulled accept since) (at_stage left most (stages.releasing accept Takes)) (Full (ToTalker at (at + phase)) ∷ ks) limit) (sym talks)
      (go_on (Full (ToTalker at (at + phase))) ks limit (at_stage left most (Taking Awaiting)) (record { commanding = refl; listener = refl; talker = refl; gap = (let few = gap_enough b Talker (lines false true) in omega (arith, few)) }, (let turn = turn_enough b.pace in omega (arith, turn)))
      (talker_performed (seat b Talker (lines false true)) some prompt left most (attending b Talker true pulled accept since) (lines false true) at) more)

  pub nothing_then : (role : Role) (left : List ℕ) (most pulled accept since limit : ℕ) → role ≡ Talker → b.device ≤ 11 → accept + 2000 ≤ limit
      → IsPlayed b (attending b role true pulled accept since) (at_stage left most (stages.releasing accept Takes)) (turnaround_pieces b (accept + turn_wait) Mute) limit
  nothing_then role left most pulled accept since limit talks few soon =
      let at = accept + turn_wait in
      let freed = hushed_for b.pace r (at + phase) in
      let pull = freed + answer_wait in
      let w = Nothing at (at + phase) (Some freed) in
      let from = hushed_from b.pace r (at + phase) prompt in
      let upto = hushed_upto b.pace r (at + phase) prompt in
      let late = silent_from b (at + phase) in
      subst (λ (x : Role). IsPlayed b (attending b x true pulled accept since) (at_stage left most (stages.releasing accept Takes)) (Full w ∷ leave b pull (untalk ∷ [])) limit) (sym talks)
      (go_on (Full w) (leave b pull (untalk ∷ [])) limit (at_stage left most (stages.leaving pull untalk false false))
      (record { commanding = refl; listener = refl; talker = refl; gap = (let few = gap_enough b Talker (lines false true) in omega (arith, few)) }, (let turn = turn_enough b.pace in omega (arith, turn)), from)
      (nothing_performed left most (attending b Talker true pulled accept since) (lines false true) at b prompt)
      (leave_then b some prompt left most (point b Talker (lines false false) Open (lines false false) pulled None accept freed) (seat b Talker (lines false false)) pull untalk limit refl (tt, omega arith) (omega (arith, from, late)) (omega arith) (untalked b.device few)
      (omega (arith, soon, upto))))
