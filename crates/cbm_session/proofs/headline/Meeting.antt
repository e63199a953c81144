-- What a drive does and the steps of a piece: how two lists meet, the events of a reaction, and what is asked of the machine.
use Rattle.std.proofs.Common.{◌≡◌, ℕ, ◌≤◌, ◌<◌, Bool, true, false, List, [], ◌∷◌, ◌++◌, Option, Some, None, ap, sym, ◌∙◌, subst, arith, refl}
use Rattle.cbm_iec.specs.Ports.{next_held, next_role, reaction_act, next_side, reacted, changed, changes_between, reaction_changes}
use Rattle.cbm_iec.specs.declared.machine.Act.{Act}
use Rattle.cbm_iec.specs.declared.event.Event.{Event}
use Rattle.cbm_iec.specs.declared.event.Who.TheVariants.{Host, Drive}
use Rattle.cbm_iec.specs.declared.event.Who.{Who}
use Rattle.cbm_iec.specs.declared.lines.Change.{Change}
use Rattle.cbm_iec.specs.declared.lines.Line.TheVariants.{Clock, Data}
use Rattle.cbm_iec.specs.declared.lines.Held.{Held}
use Rattle.cbm_iec.specs.declared.port.Port.{Port}
use Rattle.cbm_iec.specs.declared.port.Side.{Side}
use Rattle.cbm_session.proofs.headline.SideStates.{SideAsks, side_same_held, side_same_after}
use Rattle.cbm_session.proofs.headline.TalkStates.{NoneSaid}
use Rattle.cbm_session.proofs.reading.OneReading.{NoAtn}
use Rattle.cbm_session.specs.Following.{IsInTime, own_steps, reaction_steps}
use Rattle.cbm_session.specs.Playing.{drive_events}
use Rattle.cbm_session.specs.Steps.{Mark, Step, moment_of, events_of, Plain, ForEach, For}

-- Two lists meet: as long as their events are the same, a change of the host in the one is the host's next in the other, and where the one goes on with the host and the other with a drive, the drive's comes before
abbrev pub Meets : Who → ℕ → Who → ℕ → Type 0 → Type 0
Meets Host m Host n E = E
Meets Host m (Drive o) n E = n < m
Meets (Drive o) m Host n E = m < n
Meets (Drive o) m (Drive u) n E = Unit {0}

abbrev pub Compat : List Step → List Event → Type 0
Compat [] bs = Unit {0}
Compat (y ∷ ys) [] = Unit {0}
Compat (y ∷ ys) (x ∷ xs) = Meets y.event.who (moment_of y) x.who x.change.moment (y.event ≡ x) × (y.event ≡ x → Compat ys xs)

pub compat_skip : (xs ys : List Step) (bs : List Event) → Compat (xs ++ ys) (events_of xs ++ bs) → Compat ys bs
compat_skip [] ys bs c = c
compat_skip (x ∷ xs) ys bs c = compat_skip xs ys bs (c.1 refl)

-- after a byte that was said and isn't the last the piece is over
abbrev pub SaysOpen : Mark → Type 0
SaysOpen Plain = Unit {0}
SaysOpen (ForEach act) = NoneSaid (Some act)
SaysOpen (For d act) = NoneSaid (Some act)

abbrev pub LastSaid : List Step → Type 0
LastSaid [] = Unit {0}
LastSaid (s ∷ []) = Unit {0}
LastSaid (s ∷ t ∷ ss) = SaysOpen s.mark × LastSaid (t ∷ ss)

-- the events of a reaction are its changes
none_events : (d t : ℕ) (c c2 e e2 : Bool) → events_of (own_steps d (changed t Clock c c2 ++ changed t Data e e2) None) ≡ drive_events d (changed t Clock c c2 ++ changed t Data e e2)
none_events d t true true true true = refl
none_events d t true true true false = refl
none_events d t true true false true = refl
none_events d t true true false false = refl
none_events d t true false true true = refl
none_events d t true false true false = refl
none_events d t true false false true = refl
none_events d t true false false false = refl
none_events d t false true true true = refl
none_events d t false true true false = refl
none_events d t false true false true = refl
none_events d t false true false false = refl
none_events d t false false true true = refl
none_events d t false false true false = refl
none_events d t false false false true = refl
none_events d t false false false false = refl

some_events : (d t : ℕ) (c c2 e e2 : Bool) (act : Act) → events_of (own_steps d (changed t Clock c c2 ++ changed t Data e e2) (Some act)) ≡ drive_events d (changed t Clock c c2 ++ changed t Data e e2)
some_events d t true true true true act = refl
some_events d t true true true false act = refl
some_events d t true true false true act = refl
some_events d t true true false false act = refl
some_events d t true false true true act = refl
some_events d t true false true false act = refl
some_events d t true false false true act = refl
some_events d t true false false false act = refl
some_events d t false true true true act = refl
some_events d t false true true false act = refl
some_events d t false true false true act = refl
some_events d t false true false false act = refl
some_events d t false false true true act = refl
some_events d t false false true false act = refl
some_events d t false false false true act = refl
some_events d t false false false false act = refl

own_events : (d t : ℕ) (c c2 e e2 : Bool) (act : Option Act) → events_of (own_steps d (changed t Clock c c2 ++ changed t Data e e2) act) ≡ drive_events d (changed t Clock c c2 ++ changed t Data e e2)
own_events d t c c2 e e2 None = none_events d t c c2 e e2
own_events d t c c2 e e2 (Some act) = some_events d t c c2 e e2 act

pub reaction_events : (peek : Option (ℕ × Bool)) (t : ℕ) (q : Port) → events_of (reaction_steps t peek q) ≡ drive_events q.party.device (reaction_changes t peek q)
reaction_events peek t q = let now = next_held peek q in own_events q.party.device t q.own.clock_low now.clock_low q.own.data_low now.data_low (reaction_act peek q)

-- the first event of a reaction that shows is the drive's, at its moment
abbrev pub FirstIs : ℕ → ℕ → List Event → Type 0
FirstIs d t [] = ⊥
FirstIs d t (x ∷ xs) = (x.who ≡ Drive d) × (x.change.moment ≡ t)

pub first_append : (d t : ℕ) (xs ys : List Event) → FirstIs d t xs → FirstIs d t (xs ++ ys)
first_append d t [] ys h = elim h [ ]
first_append d t (x ∷ xs) ys h = h

pub first_shown : (d t : ℕ) (was now : Held) → (changes_between t was now ≡ [] → ⊥) → FirstIs d t (drive_events d (changes_between t was now))
first_shown d t was now h = go was.clock_low now.clock_low was.data_low now.data_low h
  where
    go : (c c2 e e2 : Bool) → (changed t Clock c c2 ++ changed t Data e e2 ≡ [] → ⊥) → FirstIs d t (drive_events d (changed t Clock c c2 ++ changed t Data e e2))
    go true true true true h = h refl
    go true true true false h = (refl, refl)
    go true true false true h = (refl, refl)
    go true true false false h = h refl
    go true false e e2 h = (refl, refl)
    go false true e e2 h = (refl, refl)
    go false false true true h = h refl
    go false false true false h = (refl, refl)
    go false false false true h = (refl, refl)
    go false false false false h = h refl

-- the host and a drive's first never meet out of time
pub host_first : (d t : ℕ) (y : Step) (ys : List Step) (bs : List Event) → y.event.who ≡ Host → moment_of y ≤ t → FirstIs d t bs → Compat (y ∷ ys) bs → ⊥
host_first d t y ys [] w l f c = elim f [ ]
host_first d t y ys (x ∷ bs) w l f c =
    let k : Meets Host (moment_of y) (Drive d) x.change.moment (y.event ≡ x) = subst (λ (v : Who). Meets Host (moment_of y) v x.change.moment (y.event ≡ x)) f.0 (subst (λ (v : Who). Meets v (moment_of y) x.who x.change.moment (y.event ≡ x)) w c.0) in
    let at = f.1 in
    absurd (omega (arith, k, l, at))

pub last_after_it : (xs ys : List Step) → LastSaid (xs ++ ys) → LastSaid ys
last_after_it [] ys l = l
last_after_it (x ∷ []) [] l = tt
last_after_it (x ∷ []) (y ∷ ys) l = l.1
last_after_it (x ∷ x2 ∷ xs) ys l = last_after_it (x2 ∷ xs) ys l.1

pub last_open : (d : ℕ) (cs : List Change) (act : Option Act) (y : Step) (ys : List Step) → LastSaid (own_steps d cs act ++ y ∷ ys) → (own_steps d cs act ≡ [] → ⊥) → NoneSaid act
last_open d [] act y ys l n = absurd (n refl)
last_open d (c ∷ []) None y ys l n = tt
last_open d (c ∷ []) (Some a) y ys l n = l.0
last_open d (c ∷ e ∷ []) None y ys l n = tt
last_open d (c ∷ e ∷ []) (Some a) y ys l n = l.1.0
last_open d (c ∷ e ∷ x ∷ cs) act y ys l n = absurd (n refl)

pub noatn_after : (xs ys : List Step) → NoAtn (xs ++ ys) → NoAtn ys
noatn_after [] ys h = h
noatn_after (x ∷ xs) ys h = noatn_after xs ys h.1

pub in_time_at : (t u : ℕ) (o : Option ℕ) → IsInTime t o → o ≡ Some u → t ≤ u
in_time_at t u None i e = absurd cc
in_time_at t u (Some v) i e = let k : v ≡ u = cc in omega (arith, i, k)

abbrev pub AsksFor : List Step → Side → Type 0 → Type 0
AsksFor [] side A = Unit {0}
AsksFor (y ∷ ys) side A = SideAsks side A

-- where the same is asked for, the same is done
pub same_reacted : (t : ℕ) (says says2 : Option (ℕ × Bool)) (q : Port) → SideAsks q.side (says ≡ says2) → reacted t says q ≡ reacted t says2 q
same_reacted t says says2 q a =
    ap (λ (h : Held). record { party = q.party; role = next_role q; own = h; others = q.others; side = next_side t says q }) (side_same_held _ q.own says says2 q.side a)
    ∙ ap (λ (x : Side). record { party = q.party; role = next_role q; own = next_held says2 q; others = q.others; side = x }) (side_same_after _ q.party.reaction t q.others says says2 q.side a)

pub same_changes : (t : ℕ) (says says2 : Option (ℕ × Bool)) (q : Port) → SideAsks q.side (says ≡ says2) → reaction_changes t says q ≡ reaction_changes t says2 q
same_changes t says says2 q a = ap (λ (h : Held). changes_between t q.own h) (side_same_held _ q.own says says2 q.side a)

pub no_steps : (t : ℕ) (says : Option (ℕ × Bool)) (q : Port) → (reaction_changes t says q ≡ [] → ⊥) → reaction_steps t says q ≡ [] → ⊥
no_steps t says q n e = go (reaction_changes t says q) n (sym (reaction_events says t q) ∙ ap (λ (v : List Step). events_of v) e)
  where
    go : (cs : List Change) → (cs ≡ [] → ⊥) → drive_events q.party.device cs ≡ [] → ⊥
    go [] n k = n refl
    go (c ∷ cs) n k = absurd cc
