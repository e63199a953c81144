-- Each drive of a bus is handed what the wires hand it, under any host.
use Rattle.std.proofs.Common.{◌≡◌, ℕ, Bool, List, [], ◌∷◌, ◌++◌, map, Option, ap, sym, ◌∙◌, subst, refl}
use Rattle.std.proofs.lemmas.List.{map-append}
use Rattle.cbm_iec.specs.Ports.{resting}
use Rattle.cbm_iec.specs.declared.machine.Act.{Act}
use Rattle.cbm_iec.specs.declared.event.Event.{Event}
use Rattle.cbm_iec.specs.declared.party.Party.{Party}
use Rattle.cbm_session.proofs.handed.Handing.{Under, under_map, handed, parties, party_map, party_heard}
use Rattle.cbm_session.proofs.handed.Hearers.{Goes}
use Rattle.cbm_session.specs.Handed.{quiet_voice, others_of, AllReact, IsHanded, AllHanded, HandsEach}
use Rattle.cbm_session.specs.Playing.{Station, nobody, tell, hear_all, react, shown, Plays, stays, change, reaction, at_rest}
use Rattle.cbm_session.specs.Sessions.{AllUnlike}

module _ (M : Type 0) (step : M → Act → M) (peek : M → Option (ℕ × Bool)) where
  -- the drives stay the same
  plays_parties : {n n2 : ℕ} {ss ss2 : List (Station M)} {es : List Event} → Plays M step peek n ss es n2 ss2 → parties M step peek ss2 ≡ parties M step peek ss
  plays_parties (stays y e k f) = ap (λ (l : List (Station M)). parties M step peek l) f
  plays_parties {n} {n2} {ss} (change c more y l i e f) = plays_parties f ∙ party_map M step peek (λ s. tell M step peek c s) ss (λ s. refl)
  plays_parties {n} {n2} {ss} (reaction t before o afterwards more y e i k f) =
      plays_parties f
      ∙ map-append (λ s. s.port.party) (map (λ s. hear_all M step peek (shown M step peek t o) s) before) (react M step peek t o ∷ map (λ s. hear_all M step peek (shown M step peek t o) s) afterwards)
      ∙ ap (λ (l : List Party). l ++ o.port.party ∷ parties M step peek (map (λ s. hear_all M step peek (shown M step peek t o) s) afterwards)) (party_map M step peek (λ s. hear_all M step peek (shown M step peek t o) s) before (λ s. party_heard M step peek (shown M step peek t o) s))
      ∙ ap (λ (l : List Party). parties M step peek before ++ o.port.party ∷ l) (party_map M step peek (λ s. hear_all M step peek (shown M step peek t o) s) afterwards (λ s. party_heard M step peek (shown M step peek t o) s))
      ∙ sym (map-append (λ s. s.port.party) before (o ∷ afterwards))
      ∙ ap (λ (l : List (Station M)). parties M step peek l) (sym e)

  rest_parties : (ms : ℕ → M) (bs : List Party) → parties M step peek (at_rest M step peek ms bs) ≡ bs
  rest_parties ms [] = refl
  rest_parties ms (b ∷ bs) = ap (λ (l : List Party). b ∷ l) (rest_parties ms bs)

  abbrev AtRest : (ℕ → M) → Party → Station M
  AtRest ms b = record { port = resting b; rest = nobody; machine = ms b.device }

  -- one by one they are all
  gather : (end : ℕ) (ms : ℕ → M) (trace : List Event) (bs : List Party) (ss : List (Station M)) → parties M step peek ss ≡ bs
      → ((pa : List Party) (b : Party) (pb : List Party) → bs ≡ pa ++ b ∷ pb → Under pa (λ s. IsHanded M step peek (map (λ x. x.device) pb) end b (ms b.device) trace s) ss) → AllHanded M step peek end ms trace bs ss
  gather end ms trace [] [] e f = tt
  gather end ms trace [] (s ∷ ss) e f = absurd cc
  gather end ms trace (b ∷ bs) [] e f = absurd cc
  gather end ms trace (b ∷ bs) (s ∷ ss) e f =
      let e2 : parties M step peek ss ≡ bs = cc in
      (f [] b bs refl, gather end ms trace bs ss e2 (λ pa c pb k. f (b ∷ pa) c pb (ap (λ (l : List Party). b ∷ l) k)))

  pub hands_each : HandsEach M step peek
  hands_each bs ms n end trace ss unlike swift plays m z = gather end ms trace bs ss (plays_parties plays ∙ rest_parties ms bs) one
    where
      one : (pa : List Party) (b : Party) (pb : List Party) → bs ≡ pa ++ b ∷ pb → Under pa (λ s. IsHanded M step peek (map (λ x. x.device) pb) end b (ms b.device) trace s) ss
      one pa b pb e =
          under_map pa (λ s. Goes M step peek (map (λ x. x.device) pb) end (AtRest ms b) quiet_voice (others_of b.device trace) trace s) (λ s. IsHanded M step peek (map (λ x. x.device) pb) end b (ms b.device) trace s) ss
          (λ s g. record { acts = g.acts; hands = g.hands; says = g.says; ran = g.ran })
          (handed M step peek end b pa pb (subst (λ (l : List Party). AllUnlike l) e unlike) (subst (λ (l : List Party). AllReact l) e swift) plays
          (at_rest M step peek ms pa) (AtRest ms b) (at_rest M step peek ms pb) quiet_voice
          (record { all = ap (λ (l : List Party). at_rest M step peek ms l) e ∙ map-append (AtRest ms) pa (b ∷ pb); before = rest_parties ms pa; own = refl; afterwards = rest_parties ms pb })
          (record { wired = refl; knows = tt }) (record { atn = refl; low = refl; bits = tt }) m z)
