-- A frame of the talker under way: where one of the host's changes is next, no reaction is due at that very moment.
use Rattle.cbm_iec.specs.Profile.{bit_time, half_bit}
use Rattle.std.proofs.Common.{◌≡◌, ℕ, suc, ◌+◌, ◌≤◌, inl, inr, Bool, true, false, List, [], ◌∷◌, ◌++◌, append-nil, Option, Some, None, ap, sym, ◌∙◌, subst, arith, refl}
use Rattle.std.specs.Prelude.{if◌then◌else◌}
use Rattle.cbm_iec.specs.declared.machine.Act.{Act}
use Rattle.cbm_iec.specs.declared.machine.Act.TheVariants.{Said}
use Rattle.cbm_iec.specs.declared.event.Event.{Event}
use Rattle.cbm_iec.specs.declared.event.Who.TheVariants.{Host}
use Rattle.cbm_iec.specs.declared.lines.Line.TheVariants.{Clock, Data}
use Rattle.cbm_iec.specs.declared.lines.Way.TheVariants.{Pull, Free}
use Rattle.cbm_iec.specs.declared.party.Party.{Party}
use Rattle.cbm_session.proofs.among.Fronts.{steps_order}
use Rattle.cbm_session.proofs.headline.FrameBus.{twin_self}
use Rattle.cbm_session.proofs.headline.FrameLater.{OfDrive, too_long, not_host}
use Rattle.cbm_session.proofs.headline.Here.{Here, Out, talkers_out, the_seat}
use Rattle.cbm_session.proofs.headline.Keeping.{events_append}
use Rattle.cbm_session.proofs.headline.Meeting.{Compat}
use Rattle.cbm_session.proofs.headline.Premises.{mute}
use Rattle.cbm_session.proofs.headline.PullPlayed.{sits_react}
use Rattle.cbm_session.proofs.headline.SomeDue.{SomeDue, data_first}
use Rattle.cbm_session.proofs.headline.TalkBus.{frame_steps}
use Rattle.cbm_session.proofs.headline.TalkSwap.{twin_compat}
use Rattle.cbm_session.proofs.headline.Walk.{same_front}
use Rattle.cbm_session.proofs.joining.Merging.{NoneBefore, InOrder, none_sooner, order_after}
use Rattle.cbm_session.proofs.joining.OneDrive.{one_told}
use Rattle.cbm_session.proofs.among.Calm.{Every}
use Rattle.cbm_session.specs.Answers.{IsAnswer}
use Rattle.cbm_session.specs.Bits.{number_of}
use Rattle.cbm_session.specs.Frames.{Told, is_last, signal_steps, first_bit, bit_steps, SignalFits, ToldFits}
use Rattle.cbm_session.specs.Pieces.{Point, steps_of, Fits, Full, Talk}
use Rattle.cbm_session.specs.Playing.{Station, Plays}
use Rattle.cbm_session.specs.Seats.{device, talker_of}
use Rattle.cbm_session.specs.Steps.{Step, moment_of, events_of, host, drive, for_one}

-- a change of the host is one of DATA, and all after it comes later
abbrev OfHost : Step → List Step → Type 0
OfHost s ss = s.event.who ≡ Host → (s.event.change.line ≡ Data) × NoneBefore (suc (moment_of s)) ss

abbrev Strict : List Step → Type 0
Strict [] = Unit {0}
Strict (s ∷ ss) = OfHost s ss × Strict ss

strict_at : (front : List Step) (s : Step) (others : List Step) → Strict (front ++ s ∷ others) → OfHost s others
strict_at [] s others h = h.0
strict_at (x ∷ front) s others h = strict_at front s others h.1

strict_after : (xs ys : List Step) → Every OfDrive xs → Strict ys → Strict (xs ++ ys)
strict_after [] ys a s = s
strict_after (x ∷ xs) ys a s = (λ w. absurd (a.0 w), strict_after xs ys a.1 s)

bits_of_drive : (b : Party) (at : ℕ) (held : Bool) (bits : List Bool) → Every OfDrive (bit_steps b at held bits)
bits_of_drive b at true [] = (not_host b.device, (not_host b.device, tt))
bits_of_drive b at false [] = (not_host b.device, tt)
bits_of_drive b at true (true ∷ bits) = (not_host b.device, (not_host b.device, (not_host b.device, bits_of_drive b (at + bit_time b.pace) false bits)))
bits_of_drive b at false (true ∷ bits) = (not_host b.device, (not_host b.device, bits_of_drive b (at + bit_time b.pace) false bits))
bits_of_drive b at true (false ∷ bits) = (not_host b.device, (not_host b.device, bits_of_drive b (at + bit_time b.pace) true bits))
bits_of_drive b at false (false ∷ bits) = (not_host b.device, (not_host b.device, (not_host b.device, bits_of_drive b (at + bit_time b.pace) true bits)))

-- the bits begin with the first one's pull of CLOCK
bits_from : (b : Party) (at m : ℕ) (bits : List Bool) (more : List Step) → InOrder (bit_steps b at false bits ++ more) → m ≤ at → NoneBefore m (bit_steps b at false bits ++ more)
bits_from b at m [] more o l = (l, none_sooner m at more l o.0)
bits_from b at m (true ∷ bits) more o l = (l, none_sooner m at (drive b.device (at + half_bit b.pace) Clock Free ∷ (bit_steps b (at + bit_time b.pace) false bits ++ more)) l o.0)
bits_from b at m (false ∷ bits) more o l = (l, none_sooner m at (drive b.device at Data Pull ∷ drive b.device (at + half_bit b.pace) Clock Free ∷ (bit_steps b (at + bit_time b.pace) true bits ++ more)) l o.0)

told_strict : (b : Party) (at : ℕ) (f : Told) → ToldFits b at f → 1 ≤ b.reaction → InOrder (one_told b at f) → Strict (one_told b at f)
told_strict b at f h some order = (λ w. absurd (not_host b.device w), by_signal f.signal refl h.signal order.1)
  where
    accept : Step
    accept = for_one b.device (Said (number_of f.bits) (is_last f)) (host f.accept Data Pull)

    end : List Step
    end = if is_last f then drive b.device (f.accept + b.reaction) Clock Free ∷ [] else []

    accepted : Strict (for_one b.device (Said (number_of f.bits) (is_last f)) (host f.accept Data Pull) ∷ (if is_last f then drive b.device (f.accept + b.reaction) Clock Free ∷ [] else []))
    accepted = go (is_last f)
      where
        go : (v : Bool) → Strict (for_one b.device (Said (number_of f.bits) (is_last f)) (host f.accept Data Pull) ∷ (if v then drive b.device (f.accept + b.reaction) Clock Free ∷ [] else []))
        go true = (λ w. (refl, (omega (arith, some), tt)), (λ w. absurd (not_host b.device w), tt))
        go false = (λ w. (refl, tt), tt)

    bits : (first : ℕ) → Strict (bit_steps b first false f.bits ++ for_one b.device (Said (number_of f.bits) (is_last f)) (host f.accept Data Pull) ∷ (if is_last f then drive b.device (f.accept + b.reaction) Clock Free ∷ [] else []))
    bits first = strict_after (bit_steps b first false f.bits) (for_one b.device (Said (number_of f.bits) (is_last f)) (host f.accept Data Pull) ∷ (if is_last f then drive b.device (f.accept + b.reaction) Clock Free ∷ [] else [])) (bits_of_drive b first false f.bits) accepted

    by_signal : (x : Option (ℕ × ℕ)) → f.signal ≡ x → SignalFits f.free x
        → InOrder (host f.free Data Free ∷ (signal_steps f.signal ++ (bit_steps b (first_bit b f) false f.bits ++ for_one b.device (Said (number_of f.bits) (is_last f)) (host f.accept Data Pull) ∷ (if is_last f then drive b.device (f.accept + b.reaction) Clock Free ∷ [] else []))))
        → Strict (host f.free Data Free ∷ (signal_steps f.signal ++ (bit_steps b (first_bit b f) false f.bits ++ for_one b.device (Said (number_of f.bits) (is_last f)) (host f.accept Data Pull) ∷ (if is_last f then drive b.device (f.accept + b.reaction) Clock Free ∷ [] else []))))
    by_signal None e g o =
        let first : first_bit b f ≡ f.free + b.reaction = ap (λ (x : Option (ℕ × ℕ)). (elim x as (λ y. ℕ) [ None ↦ f.free | Some y ↦ y.1 ]) + b.reaction) e in
        let tail = bit_steps b (first_bit b f) false f.bits ++ for_one b.device (Said (number_of f.bits) (is_last f)) (host f.accept Data Pull) ∷ (if is_last f then drive b.device (f.accept + b.reaction) Clock Free ∷ [] else []) in
        let o2 : InOrder tail = order_after (host f.free Data Free ∷ signal_steps f.signal) tail o in
        let late : NoneBefore (suc f.free) tail = bits_from b (first_bit b f) (suc f.free) f.bits (for_one b.device (Said (number_of f.bits) (is_last f)) (host f.accept Data Pull) ∷ (if is_last f then drive b.device (f.accept + b.reaction) Clock Free ∷ [] else [])) o2 (omega (arith, first, some)) in
        subst (λ (x : Option (ℕ × ℕ)). Strict (host f.free Data Free ∷ (signal_steps x ++ tail))) (sym e) (λ w. (refl, late), bits (first_bit b f))
    by_signal (Some (pull, again)) e g o =
        let first : first_bit b f ≡ again + b.reaction = ap (λ (x : Option (ℕ × ℕ)). (elim x as (λ y. ℕ) [ None ↦ f.free | Some y ↦ y.1 ]) + b.reaction) e in
        let tail = bit_steps b (first_bit b f) false f.bits ++ for_one b.device (Said (number_of f.bits) (is_last f)) (host f.accept Data Pull) ∷ (if is_last f then drive b.device (f.accept + b.reaction) Clock Free ∷ [] else []) in
        let o2 : InOrder tail = order_after (host f.free Data Free ∷ signal_steps f.signal) tail o in
        let late : NoneBefore (suc again) tail = bits_from b (first_bit b f) (suc again) f.bits (for_one b.device (Said (number_of f.bits) (is_last f)) (host f.accept Data Pull) ∷ (if is_last f then drive b.device (f.accept + b.reaction) Clock Free ∷ [] else [])) o2 (omega (arith, first, some)) in
        let a = g.0 in
        let c = g.1 in
        subst (λ (x : Option (ℕ × ℕ)). Strict (host f.free Data Free ∷ (signal_steps x ++ tail))) (sym e) (
          λ w. (refl, (omega (arith, a), (omega (arith, a, c), none_sooner (suc f.free) (suc again) tail (omega (arith, a, c)) late))),
          (λ w. (refl, (omega (arith, c), none_sooner (suc pull) (suc again) tail (omega (arith, c)) late)), (λ w. (refl, late), bits (first_bit b f))),
        )

module _ (M : Type 0) (step : M → Act → M) (peek : M → Option (ℕ × Bool)) (place : ℕ → ℕ) (p : Point) (ms : ℕ → M) (xs : List (Station M)) (here : Here M step peek place p ms xs) {n n2 : ℕ} {ss2 : List (Station M)} {es : List Event} (plays : Plays M step peek n xs es n2 ss2) (t : ℕ) (due : SomeDue M step peek t ss2) where
  pub talk_never : (at : ℕ) (f : Told) → Fits p (Talk at f) → IsAnswer M step peek (ms (talker_of p.seats).device) (Talk at f) → (front : List Step) (s : Step) (others : List Step) → steps_of p (Talk at f) ≡ front ++ s ∷ others → events_of front ≡ es → s.event.who ≡ Host → moment_of s ≡ t → ⊥
  talk_never at f fits answer front s others is shown who now = by_out (talkers_out M step peek place p ms xs here (Talk at f) None tt fits answer plays (events_of (s ∷ others)) meets)
    where
      begins : es ++ events_of (s ∷ others) ≡ events_of (steps_of p (Talk at f))
      begins = ap (λ (l : List Event). l ++ events_of (s ∷ others)) (sym shown) ∙ sym (events_append front (s ∷ others)) ∙ ap (λ (l : List Step). events_of l) (sym is)

      meets : Compat (steps_of p (Talk at f)) (es ++ events_of (s ∷ others))
      meets = subst (λ (l : List Event). Compat (steps_of p (Talk at f)) l) (append-nil (events_of (steps_of p (Talk at f))) ∙ sym begins) (twin_compat 0 (steps_of p (Talk at f)) (steps_of p (Talk at f)) [] (twin_self 0 (steps_of p (Talk at f))))

      by_out : Out M step peek place p ms xs here (Full (Talk at f)) es n2 ss2 → ⊥
      by_out (inl i) =
          let z = the_seat M step peek place p p.seats xs here.stand (here.leads at fits.0).talker in
          let b = z.0.party in
          let steps = frame_steps M step peek mute place p at z.0 z.1.0 z.1.1 f fits in
          let told = subst (λ (v : Party). ToldFits v at f) z.1.2 fits.1 in
          let react = sits_react (device z.0) p.seats z.0 z.1.0.seated.sits z.1.0.react in
          let strict = told_strict b at f told react.0 (subst InOrder steps (steps_order p (Talk at f) fits)) in
          let k = strict_at front s others (subst Strict (sym steps ∙ is) strict) who in
          let same = same_front i.front (i.next ∷ i.others) front (s ∷ others) (sym i.parts ∙ is) (i.shown_so ∙ sym shown) in
          let goes = subst (λ (l : List Step). Rattle.cbm_session.proofs.headline.AlongBus.AllGo M step peek i.going.says place ss2 l i.going.fin) same.1 i.going.goes in
          data_first M step peek i.going.says place t ss2 s others i.going.fin goes who k.0 now (subst (λ (m : ℕ). NoneBefore (suc m) others) now k.1) due
      by_out (inr b) = too_long front s others b.more (shown ∙ b.shown_so ∙ ap (λ (l : List Step). events_of l ++ b.more) is)
