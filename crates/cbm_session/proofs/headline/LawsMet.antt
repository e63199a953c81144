-- The laws that the main induction asks for, in its words: what comes next, what is due, what the machines ran, the order, that any session can be made an allowed one, and that the host's changes can be put off.
use Rattle.std.proofs.Common.{◌≡◌, ℕ, suc, ◌≤◌, Bool, false, inl, inr, List, [], ◌∷◌, ◌++◌, Option, ap, sym, ◌∙◌, subst, refl}
use Rattle.cbm_iec.specs.declared.machine.Act.{Act}
use Rattle.cbm_iec.specs.declared.event.Event.{Event}
use Rattle.cbm_iec.specs.declared.event.Who.TheVariants.{Host}
use Rattle.cbm_iec.specs.declared.party.Party.{Party}
use Rattle.cbm_session.proofs.headline.Adopting.{adopt}
use Rattle.cbm_session.proofs.headline.Keeping.{HostFrom, Played, Adopted, keeps_from, all_in_time}
use Rattle.cbm_session.proofs.headline.Lawful.{rest_here, ran_law, soon_law, next_law}
use Rattle.cbm_session.proofs.headline.Postponing.{postpone}
use Rattle.cbm_session.proofs.headline.Premises.{place_in}
use Rattle.cbm_session.proofs.headline.PutOff.{host_now}
use Rattle.cbm_session.proofs.headline.SomeDue.{due_among}
use Rattle.cbm_session.proofs.joining.Merging.{goes_after}
use Rattle.cbm_session.proofs.timing.SessionOrder.{goes_on}
use Rattle.cbm_session.specs.Answers.{Allowed}
use Rattle.cbm_session.specs.Laws.{GoesOn}
use Rattle.cbm_session.specs.Pieces.{Piece}
use Rattle.cbm_session.specs.Playing.{Station, drive_events, shown, AllInTime, IsFirst, at_rest, RanEach, IsMachine, KeepsSessions}
use Rattle.cbm_session.specs.Sessions.{rest, Splits, IsBus}
use Rattle.cbm_session.specs.Steps.{Step, moment_of, events_of}
use Rattle.cbm_session.specs.Timing.{is_host}

module _ (M : Type 0) (step : M → Act → M) (peek : M → Option (ℕ × Bool)) (bs : List Party) (ms : ℕ → M) (is_bus : IsBus bs) (machine : IsMachine M step peek) where
  pub next_met : (es : List Event) (t : ℕ) (before : List (Station M)) (o : Station M) (afterwards : List (Station M)) (a : Adopted M step peek bs ms es (suc t)) → Played M step peek bs ms es (before ++ o ∷ afterwards) → IsFirst M step peek t before o afterwards
      → (rs : List Step) × ((more : List Step) × ((a.more ≡ rs ++ more) × (events_of rs ≡ drive_events o.port.party.device (shown M step peek t o))))
  next_met es t before o afterwards a g f = next_law M step peek bs ms is_bus machine t before o afterwards g.1 f a.pieces a.done a.more a.splits a.events a.allowed a.host

  pub soon_met : (es : List Event) (ss : List (Station M)) (t : ℕ) (ks : List Piece) (done more : List Step) (s : Step) → Played M step peek bs ms es ss → AllInTime M step peek t ss → Splits bs ks done (s ∷ more) → events_of done ≡ es → Allowed M step peek (rest bs) ms ks → HostFrom t (s ∷ more) → is_host s.event.who ≡ false
      → t ≤ moment_of s
  soon_met es ss t ks done more s g i sp e al h n = soon_law M step peek bs ms is_bus machine g.1 t ks done more s i sp e al n

  pub ran_met : (es : List Event) (ss : List (Station M)) (ks : List Piece) (done more : List Step) → Played M step peek bs ms es ss → Splits bs ks done more → events_of done ≡ es → Allowed M step peek (rest bs) ms ks → RanEach M step peek ms done ss
  ran_met es ss ks done more g sp e al = ran_law M step peek bs ms is_bus machine g.1 ks done more sp e al

  pub order_met : (ks : List Piece) (done more : List Step) → Splits bs ks done more → GoesOn (done ++ more)
  order_met ks done more sp = subst GoesOn sp.steps (goes_on bs ks is_bus sp.linked)

  pub adopts_met : (es : List Event) (ss : List (Station M)) (t : ℕ) (ks : List Piece) (done more : List Step) → Played M step peek bs ms es ss → AllInTime M step peek t ss → Splits bs ks done more → events_of done ≡ es → HostFrom t more → Adopted M step peek bs ms es t
  adopts_met es ss t ks done more g i sp e h =
      let a = adopt M step peek (place_in bs) machine ks (rest bs) ms (at_rest M step peek ms bs) (rest_here M step peek bs ms is_bus machine) sp.linked g.1 done more sp.steps e t i h in
      record { pieces = a.pieces; done = a.done; more = a.more; splits = record { linked = a.linked; steps = a.steps }; events = a.events; allowed = a.allowed; host = a.host }

  -- Where a reaction is due at t, the host's changes of that moment can be put off: the session serves as it is where its next step isn't one of them.
  pub postpones_met : (es : List Event) (t : ℕ) (before : List (Station M)) (o : Station M) (afterwards : List (Station M)) → Adopted M step peek bs ms es t → Played M step peek bs ms es (before ++ o ∷ afterwards) → IsFirst M step peek t before o afterwards → Adopted M step peek bs ms es (suc t)
  postpones_met es t before o afterwards a g f = by_more a.more refl
    where
      later : HostFrom (suc t) a.more → Adopted M step peek bs ms es (suc t)
      later h = record { pieces = a.pieces; done = a.done; more = a.more; splits = a.splits; events = a.events; allowed = a.allowed; host = h }

      put_off : (s : Step) (more : List Step) → a.more ≡ s ∷ more → s.event.who ≡ Host → moment_of s ≡ t → Adopted M step peek bs ms es (suc t)
      put_off s more e who now =
          let k = postpone M step peek (place_in bs) machine a.pieces (rest bs) ms (at_rest M step peek ms bs) (rest_here M step peek bs ms is_bus machine) a.splits.linked a.allowed g.1 a.done s more (a.splits.steps ∙ ap (λ (l : List Step). a.done ++ l) e) a.events who t now
          (due_among M step peek t before o afterwards f.due) (λ c h. absurd cc) in
          record { pieces = k.pieces; done = k.done; more = k.more; splits = record { linked = k.linked; steps = k.steps }; events = k.events; allowed = k.allowed; host = k.host }

      by_more : (l : List Step) → a.more ≡ l → Adopted M step peek bs ms es (suc t)
      by_more [] e = later (subst (HostFrom (suc t)) (sym e) tt)
      by_more (s ∷ more) e =
          let order = subst GoesOn (ap (λ (l : List Step). a.done ++ l) e) (order_met a.pieces a.done a.more a.splits) in
          let from = subst (HostFrom t) e a.host in
          let late : is_host s.event.who ≡ false → t ≤ moment_of s = λ n. soon_law M step peek bs ms is_bus machine g.1 t a.pieces a.done more s (all_in_time M step peek t before o afterwards f)
          (record { linked = a.splits.linked; steps = a.splits.steps ∙ ap (λ (l : List Step). a.done ++ l) e }) a.events a.allowed n in
          elim (host_now t s more (goes_after a.done (s ∷ more) order) from late) [
            | inl h ↦ later (subst (HostFrom (suc t)) (sym e) h)
            | inr k ↦ put_off s more e k.0 k.1
          ]

-- So a bus that plays under a host that keeps the timing keeps to a session.
pub keeps : (M : Type 0) (step : M → Act → M) (peek : M → Option (ℕ × Bool)) → KeepsSessions M step peek
keeps M step peek bs ms n end trace ss is_bus machine plays over timing =
    keeps_from M step peek bs ms (record {
      adopts = adopts_met M step peek bs ms is_bus machine;
      postpones = λ es t before o afterwards a g f shows. postpones_met M step peek bs ms is_bus machine es t before o afterwards a g f;
      next = next_met M step peek bs ms is_bus machine;
      soon = soon_met M step peek bs ms is_bus machine;
      ran = ran_met M step peek bs ms is_bus machine;
      order = order_met M step peek bs ms is_bus machine;
    }) n end trace ss plays over timing
