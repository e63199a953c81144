-- A request that runs along a play from rest goes along the session that its host performs.
use Rattle.std.proofs.Common.{◌≡◌, ℕ, zero, inl, inr, Bool, false, List, [], ◌∷◌, ◌++◌, append_assoc, Option, refl, sym, ap, ◌∙◌, subst}
use Rattle.cbm_iec.specs.declared.machine.Act.{Act}
use Rattle.cbm_iec.specs.declared.event.Event.{Event}
use Rattle.cbm_iec.specs.declared.party.Party.{Party}
use Rattle.cbm_session.specs.Answers.{Allowed}
use Rattle.cbm_session.specs.Pieces.{Piece}
use Rattle.cbm_session.specs.Playing.{Station, AllBytes, Plays, stays, change, reaction, at_rest, IsMachine}
use Rattle.cbm_session.specs.Sessions.{rest, Linked, session_steps, IsBus}
use Rattle.cbm_drive.proofs.Ahead.{foreseen_by}
use Rattle.cbm_drive.specs.Silence.{AreSilent, Foretold}
use Rattle.cbm_host.proofs.Along.{Joined, step_on}
use Rattle.cbm_host.proofs.Bytewise.{bytewise, byte_stays, byte_machine, all_bytes, plays_bytes}
use Rattle.cbm_host.proofs.Joined.{comes}
use Rattle.cbm_host.specs.Engines.{Engined}
use Rattle.cbm_host.specs.Performed.{taken_with, Runs, begins, goes}
use Rattle.cbm_host.specs.Performers.{engine_after, byte_with, IsQuietUntil, GoesOnFrom}
use Rattle.cbm_host.specs.Performing.{Performs}
use Rattle.cbm_host.specs.declared.stage.Stage.TheVariants.{Ending}

module _ (M : Type 0) (step : M → Act → M) (says : M → Option (ℕ × Bool)) (one : Bool) where
  pub bytes_end : {n n2 : ℕ} {ss ss2 : List (Station M)} {es : List Event} → Plays M step says n ss es n2 ss2 → AllBytes M step says ss2
  bytes_end (stays y e k f) = subst (λ (v : List (Station M)). AllBytes M step says v) (sym f) y
  bytes_end (change c more y l i e p) = bytes_end p
  bytes_end (reaction t before o afterwards more y u f e p) = bytes_end p

  silent_bytes : (u : ℕ) (xs : List (Station M)) → AreSilent M step says u xs → AllBytes M step says xs → AreSilent M step (bytewise M step says one) u xs
  silent_bytes u [] h y = tt
  silent_bytes u (x ∷ xs) h y =
      let f : Foretold u (bytewise M step says one x.machine) false x.port = subst (λ (o : Option (ℕ × Bool)). Foretold u o false x.port) (sym (byte_stays M step says one (says x.machine) y.0)) h.0 in
      (f, foreseen_by M step (bytewise M step says one) u false x.port (bytewise M step says one x.machine) x refl refl f, silent_bytes u xs h.2 y.1)

  -- what is quiet is so for a machine of bytes
  pub quiet_bytes : (u n : ℕ) (ss : List (Station M)) (es : List Event) → IsQuietUntil M step says u n ss es → IsQuietUntil M step (bytewise M step says one) u n ss es
  quiet_bytes u n ss es q = record { second = q.second; from = q.from; stations = q.stations; plays = plays_bytes M step says one q.plays; later = q.later; silent = λ e. silent_bytes u q.stations (q.silent e) (bytes_end q.plays) }

  pub goes_bytes : (n : ℕ) (ss : List (Station M)) (es : List Event) (old e : Engined) → GoesOnFrom M step says n ss es old e → GoesOnFrom M step (bytewise M step says one) n ss es old e
  goes_bytes n ss es old e (inl g) = inl g
  goes_bytes n ss es old e (inr g) = inr (g.0, g.1, g.2, quiet_bytes g.0 n ss es g.3)

  module _ (b : Party) (ms : ℕ → M) (is_bus : IsBus (b ∷ [])) (machine : IsMachine M step says) (ks : List Piece) (linked : Linked (rest (b ∷ [])) ks) (allowed : Allowed M step (bytewise M step says one) (rest (b ∷ [])) ms ks) (e0 afterwards : Engined) (until : ℕ) (ending : afterwards.stage ≡ Ending until)
      (performs : Performs e0 (session_steps (rest (b ∷ [])) ks) afterwards) where
    abbrev pub Met : List Event → Engined → List ℕ → Bool → Type 0
    Met es e said last = Joined M step (bytewise M step says one) (all_bytes M step says one) b ms is_bus (byte_machine M step says one machine) ks linked allowed afterwards until ending es e said last

    -- THE EVENTS ARE A FRONT OF THE SESSION
    pub met : {es : List Event} {e : Engined} {said : List ℕ} {last : Bool} → Runs M step says (at_rest M step says ms (b ∷ [])) e0 es said last e → (more : List Event) (n : ℕ) (ss : List (Station M)) → Plays M step says zero (at_rest M step says ms (b ∷ [])) (es ++ more) n ss → Met es e said last
    met (begins same none empty no_last) more n ss plays = record {
      done = [];
      more = session_steps (rest (b ∷ [])) ks;
      all = refl;
      shown = sym none;
      performs = subst (λ (x : Engined). Performs x (session_steps (rest (b ∷ [])) ks) afterwards) (sym same) performs;
      taken = empty;
      over = no_last;
    }
    met {es} {e} {said} {last} (goes e1 found x es1 said1 last1 runs goes_on due to_e to_es to_said to_last) more n ss plays =
        let start = at_rest M step says ms (b ∷ []) in
        let p : Plays M step says zero start (es1 ++ x ∷ more) n ss = subst (λ (l : List Event). Plays M step says zero start l n ss) (ap (λ (l : List Event). l ++ more) to_es ∙ append_assoc es1 (x ∷ []) more) plays in
        let j = met runs (x ∷ more) n ss p in
        let k = comes M step (bytewise M step says one) (plays_bytes M step says one p) es1 x more refl in
        let s = step_on M step (bytewise M step says one) (all_bytes M step says one) b ms is_bus (byte_machine M step says one machine) ks linked allowed afterwards until ending es1 e1 found said1 last1 j (goes_bytes zero start es1 e1 found goes_on) x x.who refl k due in
        let there = es1 ++ x ∷ [] in
        let then_ = engine_after x.who x.change found in
        subst (λ (l : List Event). Met l e said last) (sym to_es) (subst (λ (v : Engined). Met there v said last) (sym to_e)
        (subst (λ (l : List ℕ). Met there then_ l last) (sym to_said) (subst (λ (v : Bool). Met there then_ (said1 ++ taken_with (byte_with x.who found)) v) (sym to_last) s)))
