-- The seats of a bus: a drive keeps its seat, and at most one drive talks.
use Rattle.cbm_session.specs.Frames.{lasting, longest_lasting}
use Rattle.std.proofs.Common.{eq-eqb}
use Rattle.std.proofs.Common.{◌≡◌, ℕ, ◌+◌, ◌≤◌, inl, inr, Bool, true, false, List, [], ◌∷◌, map, ap, sym, ◌∙◌, subst, arith, refl}
use Rattle.std.proofs.Math.Nat.{le-max_left, le-max_right}
use Rattle.std.proofs.lemmas.Bool.{eqb-true, ne_eqb, le-leb}
use Rattle.std.specs.Prelude.{if◌then◌else◌, nat_eq, nat_le, ◌&&◌}
use Rattle.cbm_iec.specs.Roles.{role_after}
use Rattle.cbm_iec.specs.declared.lines.Held.{Held}
use Rattle.cbm_iec.specs.declared.party.Party.{Party}
use Rattle.cbm_iec.specs.declared.party.Role.TheVariants.{Absent, Listener, Talker}
use Rattle.cbm_iec.specs.declared.party.Role.{Role}
use Rattle.cbm_session.proofs.joining.Seating.{Apart, Sits}
use Rattle.cbm_session.specs.Pieces.{obeying, standing}
use Rattle.cbm_session.specs.Seats.{Seat, device, reaction, is_listener, is_talker, has_talker, talker_of, listeners, slowest}

pub if_false : (v y : Bool) → (if v then true else y) ≡ false → (v ≡ false) × (y ≡ false)
if_false true y h = cc
if_false false y h = (refl, h)

-- where no drive talks, this one doesn't
pub silent_bus : (d : ℕ) (ss : List Seat) (s : Seat) → Sits d ss s → has_talker ss ≡ false → is_talker s.role ≡ false
silent_bus d [] s h e = elim h [ ]
silent_bus d (x ∷ xs) s (inl h) e = subst (λ (q : Seat). is_talker q.role ≡ false) h.0 (if_false (is_talker x.role) (has_talker xs) e).0
silent_bus d (x ∷ xs) s (inr h) e = silent_bus d xs s h.1 (if_false (is_talker x.role) (has_talker xs) e).1

abbrev pub OneTalker : List Seat → Type 0
OneTalker [] = Unit {0}
OneTalker (x ∷ xs) = (is_talker x.role ≡ true → has_talker xs ≡ false) × OneTalker xs

pub true_false : (v : Bool) → v ≡ true → v ≡ false → ⊥
true_false v a b = let e : true ≡ false = sym a ∙ b in cc

-- the drive that talks is the talker
pub talker_is : (d : ℕ) (ss : List Seat) (s : Seat) → OneTalker ss → Sits d ss s → is_talker s.role ≡ true → talker_of ss ≡ s.party
talker_is d [] s o h e = elim h [ ]
talker_is d (x ∷ xs) s o (inl h) e =
    let v : is_talker x.role ≡ true = subst (λ (q : Seat). is_talker q.role ≡ true) (sym h.0) e in
    ap (λ (w : Bool). if w then x.party else talker_of xs) v ∙ ap (λ (q : Seat). q.party) h.0
talker_is d (x ∷ xs) s o (inr h) e = go (is_talker x.role) refl (talker_is d xs s o.1 h.1 e)
  where
    go : (v : Bool) → is_talker x.role ≡ v → talker_of xs ≡ s.party → talker_of (x ∷ xs) ≡ s.party
    go true k q = absurd (true_false (is_talker s.role) e (silent_bus d xs s h.1 (o.0 k)))
    go false k q = ap (λ (w : Bool). if w then x.party else talker_of xs) k ∙ q

apart_talker : (d : ℕ) (xs : List Seat) → 1 ≤ d → Apart d xs → nat_eq d (talker_of xs).device ≡ false
apart_talker d [] l h = ne_eqb d 0 (λ (e : d ≡ 0). omega (arith, l, e))
apart_talker d (x ∷ xs) l h = elim (is_talker x.role) as (λ v. nat_eq d (if v then x.party else talker_of xs).device ≡ false) [ true ↦ h.0 | false ↦ apart_talker d xs l h.1 ]

-- and where this one doesn't talk, the talker is another
pub other_talker : (d : ℕ) (ss : List Seat) (s : Seat) → 1 ≤ d → Sits d ss s → is_talker s.role ≡ false → nat_eq d (talker_of ss).device ≡ false
other_talker d [] s l h e = elim h [ ]
other_talker d (x ∷ xs) s l (inl h) e =
    let v : is_talker x.role ≡ false = subst (λ (q : Seat). is_talker q.role ≡ false) (sym h.0) e in
    subst (λ (w : Bool). nat_eq d (if w then x.party else talker_of xs).device ≡ false) (sym v) (apart_talker d xs l h.2)
other_talker d (x ∷ xs) s l (inr h) e = elim (is_talker x.role) as (λ v. nat_eq d (if v then x.party else talker_of xs).device ≡ false) [ true ↦ h.0 | false ↦ other_talker d xs s l h.1 e ]

-- no reaction is above the slowest's
pub most : (d : ℕ) (ss : List Seat) (s : Seat) → Sits d ss s → reaction s ≤ slowest ss
most d [] s h = elim h [ ]
most d (x ∷ []) s (inl h) = subst (λ (q : Seat). reaction q ≤ reaction x) h.0 (omega arith)
most d (x ∷ []) s (inr h) = absurd h.1
most d (x ∷ y ∷ ys) s (inl h) = subst (λ (q : Seat). reaction q ≤ slowest (x ∷ y ∷ ys)) h.0 (le-max_left (reaction x) (slowest (y ∷ ys)))
most d (x ∷ y ∷ ys) s (inr h) = let a = le-max_right (reaction x) (slowest (y ∷ ys)) in let k = most d (y ∷ ys) s h.1 in omega (arith, a, k)

-- and none lasts longer than the longest
pub most_lasting : (d : ℕ) (ss : List Seat) (s : Seat) → Sits d ss s → lasting s ≤ longest_lasting ss
most_lasting d [] s h = elim h [ ]
most_lasting d (x ∷ []) s (inl h) = subst (λ (q : Seat). lasting q ≤ lasting x) h.0 (omega arith)
most_lasting d (x ∷ []) s (inr h) = absurd h.1
most_lasting d (x ∷ y ∷ ys) s (inl h) = subst (λ (q : Seat). lasting q ≤ longest_lasting (x ∷ y ∷ ys)) h.0 (le-max_left (lasting x) (longest_lasting (y ∷ ys)))
most_lasting d (x ∷ y ∷ ys) s (inr h) = let a = le-max_right (lasting x) (longest_lasting (y ∷ ys)) in let k = most_lasting d (y ∷ ys) s h.1 in omega (arith, a, k)

apart_listeners : (d : ℕ) (xs : List Seat) → Apart d xs → Apart d (listeners xs)
apart_listeners d [] h = tt
apart_listeners d (x ∷ xs) h = elim (is_listener x.role) as (λ v. Apart d (if v then x ∷ listeners xs else listeners xs)) [ true ↦ (h.0, apart_listeners d xs h.1) | false ↦ apart_listeners d xs h.1 ]

-- a listener sits among the listeners
pub sits_listeners : (d : ℕ) (ss : List Seat) (s : Seat) → Sits d ss s → is_listener s.role ≡ true → Sits d (listeners ss) s
sits_listeners d [] s h e = h
sits_listeners d (x ∷ xs) s (inl h) e =
    let v : is_listener x.role ≡ true = subst (λ (q : Seat). is_listener q.role ≡ true) (sym h.0) e in
    subst (λ (w : Bool). Sits d (if w then x ∷ listeners xs else listeners xs) s) (sym v) (inl (h.0, h.1, apart_listeners d xs h.2))
sits_listeners d (x ∷ xs) s (inr h) e = elim (is_listener x.role) as (λ v. Sits d (if v then x ∷ listeners xs else listeners xs) s) [ true ↦ inr (h.0, sits_listeners d xs s h.1 e) | false ↦ sits_listeners d xs s h.1 e ]

-- what changes the seats keeps the drives
abbrev pub KeepsDrives : (Seat → Seat) → Type 0
KeepsDrives f = (x : Seat) → (f x).party ≡ x.party

abbrev pub KeepsRoles : (Seat → Seat) → Type 0
KeepsRoles f = (x : Seat) → (f x).role ≡ x.role

apart_map : (d : ℕ) (f : Seat → Seat) (xs : List Seat) → KeepsDrives f → Apart d xs → Apart d (map f xs)
apart_map d f [] k h = tt
apart_map d f (x ∷ xs) k h = (ap (λ (b : Party). nat_eq d b.device) (k x) ∙ h.0, apart_map d f xs k h.1)

pub sits_map : (d : ℕ) (f : Seat → Seat) (ss : List Seat) (s : Seat) → KeepsDrives f → Sits d ss s → Sits d (map f ss) (f s)
sits_map d f [] s k h = h
sits_map d f (x ∷ xs) s k (inl h) = inl (ap f h.0, ap (λ (b : Party). nat_eq d b.device) (k x) ∙ h.1, apart_map d f xs k h.2)
sits_map d f (x ∷ xs) s k (inr h) = inr (ap (λ (b : Party). nat_eq d b.device) (k x) ∙ h.0, sits_map d f xs s k h.1)

talker_map : (f : Seat → Seat) (xs : List Seat) → KeepsRoles f → has_talker (map f xs) ≡ has_talker xs
talker_map f [] k = refl
talker_map f (x ∷ xs) k = ap (λ (r : Role). if is_talker r then true else has_talker (map f xs)) (k x) ∙ ap (λ (v : Bool). if is_talker x.role then true else v) (talker_map f xs k)

pub one_map : (f : Seat → Seat) (xs : List Seat) → KeepsRoles f → OneTalker xs → OneTalker (map f xs)
one_map f [] k o = tt
one_map f (x ∷ xs) k o = (λ (e : is_talker (f x).role ≡ true). talker_map f xs k ∙ o.0 (ap is_talker (sym (k x)) ∙ e), one_map f xs k o.1)

pub standing_drives : (talking : Held) → KeepsDrives (λ s. standing talking s)
standing_drives talking x = go x.role
  where
    go : (r : Role) → (standing talking (record { party = x.party; role = r; own = x.own })).party ≡ x.party
    go Absent = refl
    go Listener = refl
    go Talker = refl

pub standing_roles : (talking : Held) → KeepsRoles (λ s. standing talking s)
standing_roles talking x = go x.role
  where
    go : (r : Role) → (standing talking (record { party = x.party; role = r; own = x.own })).role ≡ r
    go Absent = refl
    go Listener = refl
    go Talker = refl

-- unlike drives whose devices are below 32
abbrev pub AreSeats : List Seat → Type 0
AreSeats [] = Unit {0}
AreSeats (x ∷ xs) = (device x ≤ 31) × Apart (device x) xs × AreSeats xs

pub seats_map : (f : Seat → Seat) (xs : List Seat) → KeepsDrives f → AreSeats xs → AreSeats (map f xs)
seats_map f [] k h = tt
seats_map f (x ∷ xs) k h = (
  subst (λ (b : Party). b.device ≤ 31) (sym (k x)) h.0,
  subst (λ (b : Party). Apart b.device (map f xs)) (sym (k x)) (apart_map (device x) f xs k h.1),
  seats_map f xs k h.2,
)

-- an attention byte: the address that makes a talker unmakes another
abbrev pub is_talk : ℕ → Bool
is_talk byte = nat_le 64 byte && nat_le byte 95

not_made : (d byte : ℕ) (r : Role) → nat_eq byte (64 + d) ≡ false → (is_talker r ≡ true → is_talk byte ≡ true) → is_talker (role_after d byte r) ≡ false
not_made d byte Absent e h = go (nat_eq byte (32 + d)) (nat_eq byte (64 + d)) e
  where
    go : (v w : Bool) → w ≡ false → is_talker (if v then Listener else if w then Talker else Absent) ≡ false
    go true w k = refl
    go false true k = cc
    go false false k = refl
not_made d byte Listener e h = go (nat_eq byte (32 + d)) (nat_eq byte 63) (nat_eq byte (64 + d)) e
  where
    go : (u v w : Bool) → w ≡ false → is_talker (if v then Absent else if w then Talker else Listener) ≡ false
    go u true w k = refl
    go u false true k = cc
    go u false false k = refl
not_made d byte Talker e h = go (nat_eq byte (32 + d)) (nat_eq byte (64 + d)) (is_talk byte) e (h refl)
  where
    go : (v w z : Bool) → w ≡ false → z ≡ true → is_talker (if v then Listener else if w then Talker else if z then Absent else Talker) ≡ false
    go true w z k l = refl
    go false true z k l = cc
    go false false true k l = refl
    go false false false k l = cc

made_talk : (d byte : ℕ) → d ≤ 31 → nat_eq byte (64 + d) ≡ true → is_talk byte ≡ true
made_talk d byte l e =
    let k : byte ≡ 64 + d = eqb-true byte (64 + d) e in
    let a : nat_le 64 byte ≡ true = le-leb 64 byte (omega (arith, k)) in
    let b : nat_le byte 95 ≡ true = le-leb byte 95 (omega (arith, k, l)) in
    ap (λ (v : Bool). v && nat_le byte 95) a ∙ b

apart_device : (d e byte : ℕ) → nat_eq d e ≡ false → nat_eq byte (64 + d) ≡ true → nat_eq byte (64 + e) ≡ false
apart_device d e byte h k = ne_eqb byte (64 + e) (λ (q : byte ≡ 64 + e).
    let a : byte ≡ 64 + d = eqb-true byte (64 + d) k in
    let same : d ≡ e = omega (arith, a, q) in
    true_false (nat_eq d e) (eq-eqb d e same) h)

-- where the byte makes another talker, none of these is one; and where none was one and it makes none
unmade : (d byte : ℕ) (xs : List Seat) → d ≤ 31 → Apart d xs → nat_eq byte (64 + d) ≡ true → has_talker (map (λ s. obeying byte s) xs) ≡ false
unmade d byte [] l h e = refl
unmade d byte (x ∷ xs) l h e =
    let k = not_made (device x) byte x.role (apart_device d (device x) byte h.0 e) (λ (q : is_talker x.role ≡ true). made_talk d byte l e) in
    ap (λ (v : Bool). if v then true else has_talker (map (λ s. obeying byte s) xs)) k ∙ unmade d byte xs l h.1 e

still_none : (byte : ℕ) (xs : List Seat) → AreSeats xs → is_talk byte ≡ false → has_talker xs ≡ false → has_talker (map (λ s. obeying byte s) xs) ≡ false
still_none byte [] a z h = refl
still_none byte (x ∷ xs) a z h =
    let both = if_false (is_talker x.role) (has_talker xs) h in
    let k = not_made (device x) byte x.role (go (nat_eq byte (64 + device x)) refl) (λ (q : is_talker x.role ≡ true). absurd (true_false (is_talker x.role) q both.0)) in
    ap (λ (v : Bool). if v then true else has_talker (map (λ s. obeying byte s) xs)) k ∙ still_none byte xs a.2 z both.1
  where
    go : (v : Bool) → nat_eq byte (64 + device x) ≡ v → nat_eq byte (64 + device x) ≡ false
    go true e = absurd (true_false (is_talk byte) (made_talk (device x) byte a.0 e) z)
    go false e = e

-- a talker that wasn't made now was one before, and the byte is no talk address
was_one : (d byte : ℕ) (r : Role) → nat_eq byte (64 + d) ≡ false → is_talker (role_after d byte r) ≡ true → (is_talker r ≡ true) × (is_talk byte ≡ false)
was_one d byte Absent e h = absurd (true_false (is_talker (role_after d byte Absent)) h (not_made d byte Absent e (λ (q : false ≡ true). cc)))
was_one d byte Listener e h = absurd (true_false (is_talker (role_after d byte Listener)) h (not_made d byte Listener e (λ (q : false ≡ true). cc)))
was_one d byte Talker e h = (refl, go (is_talk byte) refl)
  where
    go : (v : Bool) → is_talk byte ≡ v → is_talk byte ≡ false
    go true k = absurd (true_false (is_talker (role_after d byte Talker)) h (not_made d byte Talker e (λ (q : true ≡ true). k)))
    go false k = k

pub one_obeys : (byte : ℕ) (xs : List Seat) → AreSeats xs → OneTalker xs → OneTalker (map (λ s. obeying byte s) xs)
one_obeys byte [] a o = tt
one_obeys byte (x ∷ xs) a o = (λ (h : is_talker (role_after (device x) byte x.role) ≡ true). go (nat_eq byte (64 + device x)) refl h, one_obeys byte xs a.2 o.1)
  where
    go : (v : Bool) → nat_eq byte (64 + device x) ≡ v → is_talker (role_after (device x) byte x.role) ≡ true → has_talker (map (λ s. obeying byte s) xs) ≡ false
    go true e h = unmade (device x) byte xs a.0 a.1 e
    go false e h = let w = was_one (device x) byte x.role e h in still_none byte xs a.2 w.1 (o.0 w.0)
