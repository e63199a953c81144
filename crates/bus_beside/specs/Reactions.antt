-- A drive's reaction under both hosts.
use Rattle.std.specs.Prelude.{◌≡◌, ℕ, Bool, Option, Some, List, ◌∷◌, ◌++◌, map}
use Rattle.std.specs.List.{AllZip}
use Rattle.cbm_iec.specs.Ports.{port_due}
use Rattle.cbm_iec.specs.declared.machine.Act.{Act}
use Rattle.cbm_iec.specs.declared.lines.Change.{Change}
use Rattle.cbm_session.specs.Playing.{Station, hear_all, react, shown, reacting, IsFirst, AllInTime, AllLater}
use Rattle.cbm_session.specs.Loosely.{Heeds, HeedsAll}
use Rattle.bus_beside.specs.Seats.{SeatedTwice, Sits, Sit}

module _ (D M : Type 0) (stands : D → M → Type 0) (step : M → Act → M) (says : M → Option (ℕ × Bool)) where
  -- One drive has reacted, and showed the same under both hosts.
  pub record ReactsTheSame (t device : ℕ) (cs : List Change) (y : SeatedTwice D) (s u : Station M) : Type 0 where
    pub due : port_due s.port ≡ Some t
    pub heeds : Heeds M step says s u
    pub which : device ≡ s.port.party.device
    pub changes : cs ≡ shown M step says t s
    pub tidied : cs ≡ shown M step says t u
    pub now : Sits D M stands y (react M step says t s) (react M step says t u)

  -- Drives heard these changes of another one, before each of which what they heed was alike.
  abbrev pub HaveAllHeard : List Change → List (SeatedTwice D) → List (SeatedTwice D) → Type 0
  HaveAllHeard cs xs ys = (ss ts : List (Station M)) → Sit D M stands xs ss ts
      → AllZip (HeedsAll M step says cs) ss ts × Sit D M stands ys (map (hear_all M step says cs) ss) (map (hear_all M step says cs) ts)

  -- nothing is due to these drives before a moment
  abbrev pub HaveNothingBefore : ℕ → List (SeatedTwice D) → Type 0
  HaveNothingBefore t xs = (ss ts : List (Station M)) → Sit D M stands xs ss ts → AllInTime M step says t ss

  -- nothing is due to these drives at a moment or before it
  abbrev pub HaveNothingUpto : ℕ → List (SeatedTwice D) → Type 0
  HaveNothingUpto t xs = (ss ts : List (Station M)) → Sit D M stands xs ss ts → AllLater M step says t ss

  -- THE REACTION THAT IS DUE FIRST HAS HAPPENED under both hosts.
  pub record HaveReacted (t device : ℕ) (cs : List Change) (ys : List (SeatedTwice D)) (ss ts : List (Station M)) : Type 0 where
    pub before : List (Station M)
    pub one : Station M
    pub afterwards : List (Station M)
    pub before2 : List (Station M)
    pub one2 : Station M
    pub afterwards2 : List (Station M)
    pub is : ss ≡ before ++ one ∷ afterwards
    pub tidied : ts ≡ before2 ++ one2 ∷ afterwards2
    pub first : IsFirst M step says t before one afterwards
    pub front : AllZip (HeedsAll M step says (shown M step says t one)) before before2
    pub heeds : Heeds M step says one one2
    pub back : AllZip (HeedsAll M step says (shown M step says t one)) afterwards afterwards2
    pub which : device ≡ one.port.party.device
    pub changes : cs ≡ shown M step says t one
    pub now : Sit D M stands ys (reacting M step says t before one afterwards) (reacting M step says t before2 one2 afterwards2)
