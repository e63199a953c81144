-- What drives do on the wires leaves each of them its device number, its reaction and its pace.
use Rattle.std.proofs.Common.{◌≡◌, ℕ, Bool, List, [], ◌∷◌, ◌++◌, map, Option, ap, sym, ◌∙◌, refl}
use Rattle.std.proofs.lemmas.List.{map-append}
use Rattle.cbm_iec.specs.declared.machine.Act.{Act}
use Rattle.cbm_iec.specs.declared.event.Event.{Event}
use Rattle.cbm_iec.specs.declared.party.Party.{Party}
use Rattle.cbm_session.proofs.handed.Handing.{parties, party_map, party_heard}
use Rattle.cbm_session.specs.Playing.{Station, tell, hear_all, react, shown, Plays, stays, change, reaction, at_rest}

module _ (M : Type 0) (step : M → Act → M) (peek : M → Option (ℕ × Bool)) where
  pub plays_parties : {n n2 : ℕ} {ss ss2 : List (Station M)} {es : List Event} → Plays M step peek n ss es n2 ss2 → map (λ s. s.port.party) ss2 ≡ map (λ s. s.port.party) ss
  plays_parties (stays y e k f) = ap (λ (l : List (Station M)). parties M step peek l) f
  plays_parties {n} {n2} {ss} (change c more y l i e f) = plays_parties f ∙ party_map M step peek (λ s. tell M step peek c s) ss (λ s. refl)
  plays_parties {n} {n2} {ss} (reaction t before o afterwards more y e i k f) =
      let heard = λ (s : Station M). hear_all M step peek (shown M step peek t o) s in
      let same = λ (s : Station M). party_heard M step peek (shown M step peek t o) s in
      plays_parties f
      ∙ map-append (λ s. s.port.party) (map heard before) (react M step peek t o ∷ map heard afterwards)
      ∙ ap (λ (l : List Party). l ++ o.port.party ∷ parties M step peek (map heard afterwards)) (party_map M step peek heard before same)
      ∙ ap (λ (l : List Party). parties M step peek before ++ o.port.party ∷ l) (party_map M step peek heard afterwards same)
      ∙ sym (map-append (λ s. s.port.party) before (o ∷ afterwards))
      ∙ ap (λ (l : List (Station M)). parties M step peek l) (sym e)

  pub rest_parties : (ms : ℕ → M) (bs : List Party) → map (λ s. s.port.party) (at_rest M step peek ms bs) ≡ bs
  rest_parties ms [] = refl
  rest_parties ms (b ∷ bs) = ap (λ (l : List Party). b ∷ l) (rest_parties ms bs)
