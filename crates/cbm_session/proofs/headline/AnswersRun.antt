-- The machines run what counts in a piece that they answer.
use Rattle.cbm_iec.specs.declared.pace.Pace.TheVariants.{Profile, Kernal}
use Rattle.cbm_iec.specs.declared.pace.Pace.{Pace}
use Rattle.std.proofs.Common.{◌≡◌, ℕ, ◌+◌, inl, inr, Bool, true, false, List, [], ◌∷◌, ◌++◌, map, Option, Some, None, ap, sym, ◌∙◌, subst, refl, eq-eqb, arith}
use Rattle.std.proofs.lemmas.Bool.Decides.{leb_tells, eqb_tells}
use Rattle.std.specs.Prelude.{if◌then◌else◌, nat_eq}
use Rattle.cbm_iec.specs.declared.machine.Act.TheVariants.{Released, Said, Silent}
use Rattle.cbm_iec.specs.declared.machine.Act.{Act}
use Rattle.cbm_iec.specs.declared.lines.Line.TheVariants.{Clock}
use Rattle.cbm_iec.specs.declared.lines.Way.TheVariants.{Free}
use Rattle.cbm_iec.specs.declared.party.Party.{Party}
use Rattle.cbm_iec.specs.declared.party.Role.TheVariants.{Absent, Listener, Talker}
use Rattle.cbm_iec.specs.declared.party.Role.{Role}
use Rattle.cbm_session.proofs.among.Calm.{Every}
use Rattle.cbm_session.proofs.among.Around.{every_merge}
use Rattle.cbm_session.proofs.among.Standing.{IsSound}
use Rattle.cbm_session.proofs.headline.BusActs.{acts_append}
use Rattle.cbm_session.proofs.headline.Onward.{acts_plain, told_acts}
use Rattle.cbm_session.proofs.headline.Premises.{mute, Stood}
use Rattle.cbm_session.proofs.headline.TalkBus.{frame_steps}
use Rattle.cbm_session.proofs.headline.TalkParts.{told_front, told_back, front_plain, front_back}
use Rattle.cbm_session.proofs.headline.TurnTwin.{mutes, mute_steps}
use Rattle.cbm_session.proofs.headline.Unasked.{Runs, each_runs}
use Rattle.cbm_session.proofs.joining.Merging.{merge_here, merge_there, merge_nil}
use Rattle.cbm_session.proofs.joining.OneDrive.{one_told}
use Rattle.cbm_session.proofs.joining.Seating.{Apart, Sits}
use Rattle.cbm_session.proofs.joining.Talkers.{talker_is}
use Rattle.cbm_session.specs.Answers.{IsAnswer, RunEach}
use Rattle.cbm_session.specs.Bits.{number_of}
use Rattle.cbm_session.specs.Frames.{Told, is_last}
use Rattle.cbm_session.specs.Pieces.{silent_part, Point, own_part, steps_of, let_go, freed_steps, Fits, Nothing, Talk}
use Rattle.cbm_session.specs.Playing.{Station}
use Rattle.cbm_session.specs.Seats.{Seat, device, reaction, is_talker, talker_of}
use Rattle.cbm_session.specs.Steps.{Step, moment_of, acts_for, with_mark, host, merge, merge_all}

-- a step that counts nothing for a drive
abbrev pub Skips : ℕ → Step → Type 0
Skips d s = (l : List Act) → with_mark d s.mark l ≡ l

acts_none : (d : ℕ) (xs : List Step) → Every (Skips d) xs → acts_for d xs ≡ []
acts_none d [] a = refl
acts_none d (x ∷ xs) a = a.0 (acts_for d xs) ∙ acts_none d xs a.1

-- in a join such steps are passed over
acts_after : (d : ℕ) (xs ys : List Step) → Every (Skips d) xs → acts_for d (merge xs ys) ≡ acts_for d ys
acts_after d [] ys a = refl
acts_after d (x ∷ xs) [] a = ap (λ (l : List Step). acts_for d l) (merge_nil (x ∷ xs)) ∙ acts_none d (x ∷ xs) a
acts_after d (x ∷ xs) (y ∷ ys) a = elim (leb_tells (moment_of x) (moment_of y)) [
  | inl e ↦ ap (λ (l : List Step). acts_for d l) (merge_here x xs y ys e.1) ∙ a.0 (acts_for d (merge xs (y ∷ ys))) ∙ acts_after d xs (y ∷ ys) a.1
  | inr e ↦ ap (λ (l : List Step). acts_for d l) (merge_there x xs y ys e.1) ∙ ap (λ (l : List Act). with_mark d y.mark l) (acts_after d (x ∷ xs) ys a)
]

acts_ahead : (d : ℕ) (xs ys : List Step) → Every (Skips d) ys → acts_for d (merge xs ys) ≡ acts_for d xs
acts_ahead d [] ys b = acts_none d ys b
acts_ahead d (x ∷ xs) [] b = ap (λ (l : List Step). acts_for d l) (merge_nil (x ∷ xs))
acts_ahead d (x ∷ xs) (y ∷ ys) b = elim (leb_tells (moment_of x) (moment_of y)) [
  | inl e ↦ ap (λ (l : List Step). acts_for d l) (merge_here x xs y ys e.1) ∙ ap (λ (l : List Act). with_mark d x.mark l) (acts_ahead d xs (y ∷ ys) b)
  | inr e ↦ ap (λ (l : List Step). acts_for d l) (merge_there x xs y ys e.1) ∙ b.0 (acts_for d (merge (x ∷ xs) ys)) ∙ acts_ahead d (x ∷ xs) ys b.1
]

-- of the parts of a bus only the drive's own counts for it
module _ (own : Seat → List Step) (d : ℕ) (skips : (x : Seat) → nat_eq d (device x) ≡ false → Every (Skips d) (own x)) where
  skips_all : (l : List Step) (xs : List Seat) → Every (Skips d) l → Apart d xs → Every (Skips d) (merge_all l (map own xs))
  skips_all l [] a h = a
  skips_all l (x ∷ xs) a h = every_merge (Skips d) l (merge_all (own x) (map own xs)) a (skips_all (own x) xs (skips x h.0) h.1)

  own_acts : (l : List Step) (xs : List Seat) (s : Seat) → Every (Skips d) l → Sits d xs s → acts_for d (merge_all l (map own xs)) ≡ acts_for d (own s)
  own_acts l [] s a h = elim h [ ]
  own_acts l (x ∷ xs) s a (inl h) = acts_after d l (merge_all (own x) (map own xs)) a ∙ first xs h.2 ∙ ap (λ (y : Seat). acts_for d (own y)) h.0
    where
      first : (ys : List Seat) → Apart d ys → acts_for d (merge_all (own x) (map own ys)) ≡ acts_for d (own x)
      first [] k = refl
      first (y ∷ ys) k = acts_ahead d (own x) (merge_all (own y) (map own ys)) (skips_all (own y) ys (skips y k.0) k.1)
  own_acts l (x ∷ xs) s a (inr h) = acts_after d l (merge_all (own x) (map own xs)) a ∙ own_acts (own x) xs s (skips x h.0) h.1

-- what a silence counts
nothing_skips : (p : Point) (at clock : ℕ) (freed : Option ℕ) (d : ℕ) (x : Seat) → nat_eq d (device x) ≡ false → Every (Skips d) (own_part p (Nothing at clock freed) x)
nothing_skips p at clock freed d x n = go x.role
  where
    go : (r : Role) → Every (Skips d) (elim r as (λ q. List Step) [ Absent ↦ let_go at x | Listener ↦ [] | Talker ↦ silent_part x.party.pace (device x) (clock + reaction x) ])
    go Absent = (λ l. refl, tt)
    go Listener = tt
    go Talker = by_pace x.party.pace
      where
        by_pace : (e : Pace) → Every (Skips d) (silent_part e (device x) (clock + reaction x))
        by_pace Profile = (λ l. ap (λ (v : Bool). if v then Silent ∷ l else l) n, tt)
        by_pace Kernal = (λ l. refl, (λ l. refl, (λ l. ap (λ (v : Bool). if v then Silent ∷ l else l) n, tt)))

freed_skips : (d clock : ℕ) (freed : Option ℕ) → Every (Skips d) (host clock Clock Free ∷ freed_steps freed)
freed_skips d clock None = (λ l. refl, tt)
freed_skips d clock (Some g) = (λ l. refl, (λ l. refl, tt))

-- a frame counts nothing for another drive
told_other : (d : ℕ) (b : Party) (at : ℕ) (f : Told) → nat_eq d b.device ≡ false → acts_for d (one_told b at f) ≡ []
told_other d b at f n =
    ap (λ (l : List Step). acts_for d l) (sym (front_back b at f))
    ∙ acts_append d (told_front b at f) (told_back b f (number_of f.bits) (is_last f))
    ∙ ap (λ (l : List Act). l ++ acts_for d (told_back b f (number_of f.bits) (is_last f))) (acts_plain d (told_front b at f) (front_plain b at f))
    ∙ go (is_last f)
  where
    go : (v : Bool) → acts_for d (told_back b f (number_of f.bits) v) ≡ []
    go true = ap (λ (u : Bool). if u then Said (number_of f.bits) true ∷ [] else []) n
    go false = ap (λ (u : Bool). if u then Said (number_of f.bits) false ∷ [] else []) n

module _ (M : Type 0) (step : M → Act → M) (peek : M → Option (ℕ × Bool)) where
  -- a frame
  pub talk_runs : (p : Point) (ms : ℕ → M) (s : Seat) → IsSound p s → s.role ≡ Talker → (at : ℕ) (f : Told) → Fits p (Talk at f) → IsAnswer M step peek (ms (talker_of p.seats).device) (Talk at f) → RunEach M step peek p.seats ms (steps_of p (Talk at f))
  talk_runs p ms s sound talks at f fits answer =
      each_runs M step peek p.seats ms (steps_of p (Talk at f)) (λ d. subst (λ (l : List Step). Runs M step peek (ms d) (acts_for d l)) (sym (frame_steps M step peek mute (λ e. 0) p at s sound talks f fits)) (go d))
    where
      said : peek (ms s.party.device) ≡ Some (number_of f.bits, is_last f)
      said = ap (λ (b : Party). peek (ms b.device)) (sym (talker_is (device s) p.seats s sound.seated.one sound.seated.sits (ap is_talker talks))) ∙ answer

      go : (d : ℕ) → Runs M step peek (ms d) (acts_for d (one_told s.party at f))
      go d = elim (eqb_tells d s.party.device) [
        | inl x ↦ subst (λ (v : ℕ). Runs M step peek (ms v) (acts_for v (one_told s.party at f))) (sym x.1) (subst (λ (l : List Act). Runs M step peek (ms s.party.device) l) (sym (told_acts s.party at f)) (said, refl))
        | inr x ↦ subst (λ (l : List Act). Runs M step peek (ms d) l) (sym (told_other d s.party at f x.0)) refl
      ]

  -- nothing to say
  pub nothing_runs : (place : ℕ → ℕ) (p : Point) (ms : ℕ → M) (at clock : ℕ) (freed : Option ℕ) → Fits p (Nothing at clock freed) → IsAnswer M step peek (ms (talker_of p.seats).device) (Nothing at clock freed) → (ss : List Seat) (xs : List (Station M)) → Stood M step peek place p ss xs
      → RunEach M step peek ss ms (steps_of p (Nothing at clock freed))
  nothing_runs place p ms at clock freed fits answer [] xs h = tt
  nothing_runs place p ms at clock freed fits answer (s ∷ ss) [] h = elim h [ ]
  nothing_runs place p ms at clock freed fits answer (s ∷ ss) (x ∷ xs) h =
      (subst (λ (l : List Step). Runs M step peek (ms (device s)) (acts_for (device s) l)) (sym (mute_steps p at clock freed (omega (arith, fits.1)))) (tt, subst (λ (l : List Act). Runs M step peek (step (ms (device s)) Released) l) (sym mine) (go s.role refl)), nothing_runs place p ms at clock freed fits answer ss xs h.1)
    where
      mine : acts_for (device s) (mutes p at clock freed) ≡ acts_for (device s) (own_part p (Nothing at clock freed) s)
      mine = own_acts (λ y. own_part p (Nothing at clock freed) y) (device s) (nothing_skips p at clock freed (device s)) (host clock Clock Free ∷ freed_steps freed) p.seats s (freed_skips (device s) clock freed) h.0.sound.seated.sits

      by_pace : (e : Pace) → Runs M step peek (step (ms (device s)) Released) (if nat_eq (device s) (device s) then Silent ∷ [] else []) → Runs M step peek (step (ms (device s)) Released) (acts_for (device s) (silent_part e (device s) (clock + reaction s)))
      by_pace Profile r = r
      by_pace Kernal r = r

      go : (r : Role) → s.role ≡ r → Runs M step peek (step (ms (device s)) Released) (acts_for (device s) (elim r as (λ q. List Step) [ Absent ↦ let_go at s | Listener ↦ [] | Talker ↦ silent_part s.party.pace (device s) (clock + reaction s) ]))
      go Absent e = refl
      go Listener e = refl
      go Talker e =
          let silent : peek (step (ms (device s)) Released) ≡ None = ap (λ (b : Party). peek (step (ms b.device) Released)) (sym (talker_is (device s) p.seats s h.0.sound.seated.one h.0.sound.seated.sits (ap is_talker e))) ∙ answer in
          let mine : Runs M step peek (step (ms (device s)) Released) (if nat_eq (device s) (device s) then Silent ∷ [] else []) = subst (λ (v : Bool). Runs M step peek (step (ms (device s)) Released) (if v then Silent ∷ [] else [])) (sym (eq-eqb (device s) (device s) refl)) (silent, refl) in
          by_pace s.party.pace mine
