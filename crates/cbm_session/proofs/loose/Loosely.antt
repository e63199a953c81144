-- Where the host keeps the timing loosely, a bus that plays from rest keeps to a session.
use Rattle.std.proofs.Common.{◌≡◌, ℕ, zero, suc, ◌≤◌, Bool, List, [], ◌∷◌, Option, Some, None, sym, subst, refl, arith}
use Rattle.std.specs.List.{AllZip}
use Rattle.cbm_iec.specs.declared.machine.Act.{Act}
use Rattle.cbm_iec.specs.declared.party.Party.{Party}
use Rattle.cbm_session.proofs.handed.Handing.{parties}
use Rattle.cbm_session.proofs.headline.LawsMet.{keeps}
use Rattle.cbm_session.proofs.loose.Once.{Going, once}
use Rattle.cbm_session.proofs.loose.Plays.{ArePlays, plays_beside, later_too, rest_alike}
use Rattle.cbm_session.proofs.loose.Stations.{Alike}
use Rattle.cbm_session.proofs.loose.Zips.{zip_weak}
use Rattle.cbm_session.specs.Handed.{AllReact}
use Rattle.cbm_session.specs.Loosely.{KeepsLoosely}
use Rattle.cbm_session.specs.Playing.{Station, AllInTime, at_rest}
use Rattle.cbm_session.specs.Sessions.{AreDrives}

module _ (M : Type 0) (step : M → Act → M) (peek : M → Option (ℕ × Bool)) where
  at_first : (ms : ℕ → M) (bs : List Party) → AreDrives bs → Going M step peek zero zero (at_rest M step peek ms bs)
  at_first ms bs d = record { swift = swift bs d; due = due bs; from = omega arith }
    where
      swift : (bs : List Party) → AreDrives bs → AllReact (parties M step peek (at_rest M step peek ms bs))
      swift [] d = tt
      swift (b ∷ bs) d = (d.0.some, swift bs d.1)

      due : (bs : List Party) → AllInTime M step peek zero (at_rest M step peek ms bs)
      due [] = tt
      due (b ∷ bs) = (tt, due bs)

  pub keeps_loosely : KeepsLoosely M step peek
  keeps_loosely bs ms n end trace ss bus machine plays before later h =
      let k : ArePlays M step peek end zero zero (at_rest M step peek ms bs) (at_rest M step peek ms bs) trace h.0 = plays_beside M step peek end (rest_alike M step peek ms bs) h.1.0 in
      let same : k.now ≡ ss = once M step peek end zero (at_first ms bs bus.drives) k.plays plays refl k.before k.later before later in
      record {
        tidy = h.0;
        stations = k.tidy_now;
        beside = h.1.0;
        drives = k.drives;
        machines = subst (λ (l : List (Station M)). AllZip (λ s t. t.machine ≡ s.machine) l k.tidy_now) same
            (zip_weak (λ s t. Alike M step peek s t) (λ s t. t.machine ≡ s.machine) (λ s t a. a.machine) k.now k.tidy_now k.alike);
        kept = keeps M step peek bs ms k.tidy_from end h.0 k.tidy_now bus machine k.tidy (later_too M step peek end k.now k.tidy_now k.alike k.later) h.1.1;
      }
