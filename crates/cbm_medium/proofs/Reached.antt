-- Places that are reached along links, from fewer starts and from more.
use Rattle.std.proofs.Common.{◌≡◌, ◌≢◌, ℕ, List, [], ◌∷◌, ◌++◌, Ok, Err, refl, sym, subst}
use Rattle.std.specs.Prelude.{Result, IfErr, IsErrAnd}
use Rattle.cbm_medium.specs.Place.{Place, Has}
use Rattle.cbm_medium.specs.Content.{Content}
use Rattle.cbm_medium.specs.Links.{bytes_at, link, LinksLead}
use Rattle.cbm_medium.specs.declared.fault.Trouble.{Trouble}
use Rattle.cbm_medium.specs.Met.{IsReached, IsMetFrom, MeetsTrouble, place_of}
use Rattle.cbm_medium.proofs.Passed.{WalksTo, walks_more}

-- each start is reached from these other ones
abbrev pub StartsAmong : ℕ → Content → (Place → Type 0) → (Place → Type 0) → Type 0
StartsAmong tracks c starts others = (q : Place) → starts q → IsReached tracks c others q

-- a start itself
pub starts_there : (tracks : ℕ) (c : Content) (starts : Place → Type 0) (q : Place) → starts q → IsReached tracks c starts q
starts_there tracks c starts q s = (q, [], s, refl)

-- where a walk has come to
pub walked_there : (tracks : ℕ) (c : Content) (starts : Place → Type 0) (first at : Place) (passed : ℕ) → starts first → WalksTo tracks c first at passed → IsReached tracks c starts at
walked_there tracks c starts first at passed s w = (first, w.blocks, s, w.leads)

-- the link of a sector that is reached and reads
pub reached_on : (tracks : ℕ) (c : Content) (starts : Place → Type 0) (p q : Place) (bytes : List ℕ) → IsReached tracks c starts p → Has tracks p → c p ≡ Ok bytes → q ≡ link bytes → IsReached tracks c starts q
reached_on tracks c starts p q bytes r has holds is =
    let w : WalksTo tracks c r.0 q _ = walks_more tracks c r.0 p q _ bytes (record { blocks = r.1; number = refl; leads = r.3 }) has holds is in
    (r.0, w.blocks, r.2, w.leads)

-- a single start
pub one_start : (tracks : ℕ) (c : Content) (others : Place → Type 0) (at : Place) → IsReached tracks c others at → StartsAmong tracks c (λ q. q ≡ at) others
one_start tracks c others at n = λ q e. subst (IsReached tracks c others) (sym e) n

pub one_of : (tracks : ℕ) (c : Content) (others : Place → Type 0) (at : Place) → others at → StartsAmong tracks c (λ q. q ≡ at) others
one_of tracks c others at s = one_start tracks c others at (starts_there tracks c others at s)

leads_join : (tracks : ℕ) (c : Content) (a m q : Place) (xs ys : List Place) → LinksLead tracks c a xs m → LinksLead tracks c m ys q → LinksLead tracks c a (xs ++ ys) q
leads_join tracks c a m q [] ys h k = subst (λ (p : Place). LinksLead tracks c p ys q) (sym h) k
leads_join tracks c a m q (x ∷ xs) ys h k = (h.0, h.1, h.2, leads_join tracks c (link (bytes_at c x)) m q xs ys h.3 k)

pub reached_more : (tracks : ℕ) (c : Content) (starts others : Place → Type 0) → StartsAmong tracks c starts others → (q : Place) → IsReached tracks c starts q → IsReached tracks c others q
reached_more tracks c starts others more q r =
    let s : IsReached tracks c others r.0 = more r.0 r.2 in
    (s.0, s.1 ++ r.1, s.2, leads_join tracks c s.0 r.0 q s.1 r.1 s.3 r.3)

pub met_more : (tracks : ℕ) (c : Content) (starts others : Place → Type 0) → StartsAmong tracks c starts others → (t : Trouble) → IsMetFrom tracks c starts t → IsMetFrom tracks c others t
met_more tracks c starts others more t met = (reached_more tracks c starts others more (place_of t) met.0, met.1)

pub meets_more : {A : Type 0} (tracks : ℕ) (c : Content) (starts others : Place → Type 0) (r : Result A Trouble) → StartsAmong tracks c starts others → MeetsTrouble tracks c starts r → MeetsTrouble tracks c others r
meets_more tracks c starts others (Ok x) more m = record { shown = tt; never_26 = tt }
meets_more tracks c starts others (Err t) more m = record { shown = met_more tracks c starts others more t m.shown; never_26 = m.never_26 }

-- a refusal that is passed on
pub meets_on : {A B : Type 0} (tracks : ℕ) (c : Content) (starts others : Place → Type 0) (r : Result A Trouble) (t : Trouble) (s : Result B Trouble) → r ≡ Err t → IsErrAnd s (λ e. e ≡ t) → StartsAmong tracks c starts others
    → MeetsTrouble tracks c starts r → MeetsTrouble tracks c others s
meets_on tracks c starts others r t (Ok x) was on more m = absurd on
meets_on {A = A} {B = B} tracks c starts others r t (Err e) was on more m =
    let shown = subst (λ (x : Result A Trouble). IfErr x (IsMetFrom tracks c starts)) was m.shown in
    let never = subst (λ (x : Result A Trouble). IfErr x (λ u. u.code ≢ 26)) was m.never_26 in
    subst (λ (x : Trouble). MeetsTrouble {A = B} tracks c others (Err x)) (sym on) (record { shown = met_more tracks c starts others more t shown; never_26 = never })
