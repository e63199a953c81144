-- A play stands beside itself: a host that keeps the timing keeps it loosely.
use Rattle.std.proofs.Common.{◌≡◌, ℕ, zero, suc, ◌≤◌, Bool, List, [], ◌∷◌, Option, ap, sym, ◌∙◌, subst, refl, inl, arith}
use Rattle.std.specs.List.{AllZip}
use Rattle.cbm_iec.specs.Changes.{lines_after}
use Rattle.cbm_iec.specs.declared.machine.Act.{Act}
use Rattle.cbm_iec.specs.declared.ear.Ear.TheVariants.{Idle, Await, Starting, Leaving, Returning, Holding, Freeing, Ready, Timed, Pulsing, EoiNoted, Gathering, Accepting}
use Rattle.cbm_iec.specs.declared.event.Event.{Event}
use Rattle.cbm_iec.specs.declared.lines.Change.{Change}
use Rattle.cbm_iec.specs.declared.lines.Line.TheVariants.{Atn, Clock, Data}
use Rattle.cbm_iec.specs.declared.lines.Line.{Line}
use Rattle.cbm_iec.specs.declared.lines.Way.TheVariants.{Pull, Free}
use Rattle.cbm_iec.specs.declared.lines.Way.{Way}
use Rattle.cbm_iec.specs.declared.lines.Lines.{Lines}
use Rattle.cbm_iec.specs.declared.mouth.Mouth.TheVariants.{Turned, Answering, Mute, Led, Offering, EoiOffered, EoiPulsed, Sending, Waiting, Ending, Over}
use Rattle.cbm_iec.specs.declared.pace.Pace.{Pace}
use Rattle.cbm_iec.specs.declared.port.Side.TheVariants.{Hearing, Speaking}
use Rattle.cbm_iec.specs.declared.port.Side.{Side}
use Rattle.cbm_session.specs.Loosely.{HeedsAlike, Heeds, MayMake, HeedsAll, Beside, over, both, reacts, TidyIsLoose}
use Rattle.cbm_session.specs.Playing.{Station, hear, shown, AllLater, Plays, stays, change, reaction}

-- what is the same is alike, whatever a drive heeds
heeds_itself : (e : Pace) (n : ℕ) (h : Lines) (side : Side) → HeedsAlike e n h h side side
heeds_itself e n h (Hearing Idle) = tt
heeds_itself e n h (Hearing (Leaving at_)) = tt
heeds_itself e n h (Hearing (Starting at_)) = inl refl
heeds_itself e n h (Hearing Await) = refl
heeds_itself e n h (Hearing (Returning at_)) = (refl, λ k. refl)
heeds_itself e n h (Hearing Holding) = (refl, λ k. refl)
heeds_itself e n h (Hearing (Freeing at_)) = (refl, λ k. refl)
heeds_itself e n h (Hearing Ready) = (refl, λ k. refl)
heeds_itself e n h (Hearing (Timed at_)) = (refl, λ k. refl)
heeds_itself e n h (Hearing (Pulsing at_)) = (refl, λ k. refl)
heeds_itself e n h (Hearing EoiNoted) = (refl, λ k. refl)
heeds_itself e n h (Hearing (Gathering eoi count byte)) = (refl, λ k. refl)
heeds_itself e n h (Hearing (Accepting at_ eoi byte)) = (refl, λ k. refl)
heeds_itself e n h (Speaking Turned) = (refl, refl)
heeds_itself e n h (Speaking (Answering at_)) = (refl, refl)
heeds_itself e n h (Speaking (Mute at_)) = tt
heeds_itself e n h (Speaking (Ending at_)) = tt
heeds_itself e n h (Speaking Over) = tt
heeds_itself e n h (Speaking (Led at_)) = refl
heeds_itself e n h (Speaking (Offering byte last)) = refl
heeds_itself e n h (Speaking (EoiOffered byte)) = refl
heeds_itself e n h (Speaking (EoiPulsed byte)) = refl
heeds_itself e n h (Speaking (Sending at_ byte last left half)) = refl
heeds_itself e n h (Speaking (Waiting byte last)) = refl

zip_itself : {A : Type 0} (P : A → A → Type 0) → ((x : A) → P x x) → (xs : List A) → AllZip P xs xs
zip_itself P h [] = tt
zip_itself P h (x ∷ xs) = (h x, zip_itself P h xs)

module _ (M : Type 0) (step : M → Act → M) (peek : M → Option (ℕ × Bool)) where
  makes_itself : (line : Line) (way : Way) (s : Station M) → MayMake M step peek line way s s
  makes_itself Atn Pull s = tt
  makes_itself Atn Free s = (refl, heeds_itself s.port.party.pace s.rest.clocks s.rest.host s.port.side)
  makes_itself Clock way s = (heeds_itself s.port.party.pace s.rest.clocks s.rest.host s.port.side, heeds_itself s.port.party.pace s.rest.clocks (lines_after s.rest.host Clock way) s.port.side)
  makes_itself Data way s = (heeds_itself s.port.party.pace s.rest.clocks s.rest.host s.port.side, heeds_itself s.port.party.pace s.rest.clocks (lines_after s.rest.host Data way) s.port.side)

  hears_itself : (cs : List Change) (s : Station M) → HeedsAll M step peek cs s s
  hears_itself [] s = tt
  hears_itself (c ∷ cs) s = (heeds_itself s.port.party.pace s.rest.clocks s.rest.host s.port.side, hears_itself cs (hear M step peek c s))

  beside_itself : (end : ℕ) {n n2 : ℕ} {ss ss2 : List (Station M)} {es : List Event} → Plays M step peek n ss es n2 ss2 → n2 ≤ suc end → AllLater M step peek end ss2 → Beside M step peek end n n ss ss es es
  beside_itself end (stays y e k f) l z = over y e e (omega (arith, k, l)) (subst (λ (v : List (Station M)). AllLater M step peek end v) f z)
  beside_itself end {ss = ss} (change c more y m i e p) l z =
      both c more more y m m i (zip_itself (λ s t. MayMake M step peek c.line c.way s t) (makes_itself c.line c.way) ss) e e (beside_itself end p l z)
  beside_itself end (reaction t before o afterwards more y e i k p) l z =
      reacts t before o afterwards before o afterwards more more y e e i (zip_itself (λ s u. HeedsAll M step peek (shown M step peek t o) s u) (hears_itself (shown M step peek t o)) before)
      (heeds_itself o.port.party.pace o.rest.clocks o.rest.host o.port.side)
      (zip_itself (λ s u. HeedsAll M step peek (shown M step peek t o) s u) (hears_itself (shown M step peek t o)) afterwards) k k (beside_itself end p l z)

  pub tidy_is_loose : TidyIsLoose M step peek
  tidy_is_loose bs ms n end trace ss plays before later h = (trace, (beside_itself end plays before later, h))
