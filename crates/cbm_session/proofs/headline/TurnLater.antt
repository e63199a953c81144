-- A release of ATN under way whose next change of the host is put off: the piece that begins the same and goes on later.
use Rattle.cbm_session.proofs.among.Answers.{every_right}
use Rattle.cbm_session.proofs.among.Points.{each_seat}
use Rattle.cbm_session.proofs.joining.Silents.{silent_from, silent_none}
use Rattle.std.proofs.Common.{◌≡◌, ℕ, suc, ◌+◌, ◌≤◌, ◌<◌, ◌⊎◌, inl, inr, Bool, true, false, List, [], ◌∷◌, ◌++◌, map, Option, Some, None, ap, sym, ◌∙◌, subst, arith, refl}
use Rattle.std.specs.Prelude.{if◌then◌else◌}
use Rattle.std.proofs.lemmas.Bool.Decides.{leb_tells}
use Rattle.cbm_iec.specs.declared.machine.Act.TheVariants.{Released}
use Rattle.cbm_iec.specs.declared.event.Who.TheVariants.{Host, Drive}
use Rattle.cbm_iec.specs.declared.event.Who.{Who}
use Rattle.cbm_iec.specs.declared.lines.Line.TheVariants.{Atn, Clock, Data}
use Rattle.cbm_iec.specs.declared.lines.Way.TheVariants.{Pull, Free}
use Rattle.cbm_iec.specs.declared.party.Role.TheVariants.{Absent, Listener, Talker}
use Rattle.cbm_iec.specs.declared.party.Role.{Role}
use Rattle.cbm_session.proofs.among.Around.{every_each}
use Rattle.cbm_session.proofs.among.Calm.{Every}
use Rattle.cbm_session.proofs.among.Counted.{cut_all}
use Rattle.cbm_session.proofs.among.Fronts.{steps_order}
use Rattle.cbm_session.proofs.headline.CutHost.{hosts_of, hosts_part}
use Rattle.cbm_session.proofs.headline.Keeping.{HostFrom}
use Rattle.cbm_session.proofs.headline.PieceBus.{steps_go}
use Rattle.cbm_session.proofs.joining.Merging.{NoneBefore, InOrder, AllBefore, cut_front, cut_is, before_yes, before_no, all_from}
use Rattle.cbm_session.proofs.joining.Orders.{host_order}
use Rattle.cbm_session.proofs.joining.Owning.{AllOwned, part_owned, part_order}
use Rattle.cbm_session.specs.Laws.{NotSooner, AllAfter, GoesOn}
use Rattle.cbm_session.specs.Pieces.{silent_end, silent_part, Whole, Point, host_part, own_part, steps_of, before, let_go, freed_steps, Fits, Full, ToNobody, ToTalker, Nothing}
use Rattle.cbm_session.specs.Seats.{Seat, device, reaction, talker_of}
use Rattle.cbm_session.specs.Steps.{Step, moment_of, host, drive, for_each, merge_all}
use Rattle.cbm_session.specs.Timing.{is_host}

-- no change of the host at this moment
abbrev pub Elsewhere : ℕ → Step → Type 0
Elsewhere t s = s.event.who ≡ Host → (moment_of s < t) ⊎ (suc t ≤ moment_of s)

host_is : (w : Who) → is_host w ≡ true → w ≡ Host
host_is Host k = refl
host_is (Drive o) k = absurd cc

elsewhere_late : (t : ℕ) (ss : List Step) → NoneBefore t ss → Every (Elsewhere t) ss → HostFrom (suc t) ss
elsewhere_late t [] n a = tt
elsewhere_late t (s ∷ ss) n a = (λ k. go (a.0 (host_is s.event.who k)), elsewhere_late t ss n.1 a.1)
  where
    go : (moment_of s < t) ⊎ (suc t ≤ moment_of s) → suc t ≤ moment_of s
    go (inl l) = let early = n.0 in absurd (omega (arith, l, early))
    go (inr l) = l

owned_elsewhere : (t o : ℕ) (ss : List Step) → AllOwned o ss → Every (Elsewhere t) ss
owned_elsewhere t o [] a = tt
owned_elsewhere t o (s ∷ ss) a = (λ w. (let k : Drive o ≡ Host = sym a.0 ∙ w in absurd cc), owned_elsewhere t o ss a.2)

-- A piece that begins so, with no further change of the host up to t.
pub record Later (p : Point) (w : Whole) (t : ℕ) (front : List Step) : Type 0 where
  pub back : List Step
  pub is : steps_of p w ≡ front ++ back
  pub late : HostFrom (suc t) back

same_map : (f g : Seat → List Step) (xs : List Seat) → ((x : Seat) → f x ≡ g x) → map f xs ≡ map g xs
same_map f g [] h = refl
same_map f g (x ∷ xs) h = ap (λ (l : List Step). l ∷ map f xs) (h x) ∙ ap (λ (l : List (List Step)). g x ∷ l) (same_map f g xs h)

pub moved : (p : Point) (w w2 : Whole) (t : ℕ) → Fits p w → Fits p w2 → before t (host_part p w) ≡ before t (host_part p w2) → ((x : Seat) → before t (own_part p w x) ≡ before t (own_part p w2 x)) → Every (Elsewhere t) (host_part p w2) → Later p w2 t (before t (steps_of p w))
moved p w w2 t fits fits2 hosts owns away =
    let k = cut_front t (steps_of p w2) (steps_order p w2 fits2) in
    let own = λ (x : Seat). own_part p w x in
    let own2 = λ (x : Seat). own_part p w2 x in
    let same : before t (steps_of p w) ≡ before t (steps_of p w2) =
    cut_all t own (part_order p w fits) (host_part p w) p.seats (host_order p w fits)
    ∙ ap (λ (l : List Step). merge_all l (map (λ (x : Seat). before t (own_part p w x)) p.seats)) hosts
    ∙ ap (λ (l : List (List Step)). merge_all (before t (host_part p w2)) l) (same_map (λ (x : Seat). before t (own_part p w x)) (λ (x : Seat). before t (own_part p w2 x)) p.seats owns)
    ∙ sym (cut_all t own2 (part_order p w2 fits2) (host_part p w2) p.seats (host_order p w2 fits2)) in
    let all : Every (Elsewhere t) (steps_of p w2) = every_each (Elsewhere t) own2 (host_part p w2) p.seats away (each_seat (λ x. Every (Elsewhere t) (own_part p w2 x)) p.seats (λ (x : Seat). owned_elsewhere t (device x) (own_part p w2 x) (part_owned p w2 x))) in
    record {
      back = k.0;
      is = k.1 ∙ ap (λ (l : List Step). l ++ k.0) (sym same);
      late = elsewhere_late t k.0 k.2 (every_right (Elsewhere t) (before t (steps_of p w2)) k.0 (subst (Every (Elsewhere t)) k.1 all));
    }

-- what stands before a change of the host is before it, where the host's is
after_at : (w : Who) (m : ℕ) (xs : List Step) (s : Step) (ys : List Step) → AllAfter w m (xs ++ s ∷ ys) → NotSooner w m s.event.who (moment_of s)
after_at w m [] s ys a = a.0
after_at w m (x ∷ xs) s ys a = after_at w m xs s ys a.1

pub early_front : (t : ℕ) (front : List Step) (s : Step) (others : List Step) → GoesOn (front ++ s ∷ others) → s.event.who ≡ Host → moment_of s ≡ t → AllBefore t (hosts_of front) → AllBefore t front
early_front t [] s others g w at a = tt
early_front t (x ∷ front) s others g w at a = by_who x.event.who refl (subst (λ (v : Who). NotSooner x.event.who (moment_of x) v (moment_of s)) w (after_at x.event.who (moment_of x) front s others g.0)) (λ k. early_front t front s others g.1 w at k)
  where
    by_who : (v : Who) → x.event.who ≡ v → NotSooner x.event.who (moment_of x) Host (moment_of s) → (AllBefore t (hosts_of front) → AllBefore t front) → AllBefore t (x ∷ front)
    by_who Host e n next =
        let k : AllBefore t (x ∷ hosts_of front) = subst (λ (v : Bool). AllBefore t (if v then x ∷ hosts_of front else hosts_of front)) (ap is_host e) a in
        (k.0, next k.1)
    by_who (Drive d) e n next =
        let l : moment_of x < moment_of s = subst (λ (v : Who). NotSooner v (moment_of x) Host (moment_of s)) e n in
        let k : AllBefore t (hosts_of front) = subst (λ (v : Bool). AllBefore t (if v then x ∷ hosts_of front else hosts_of front)) (ap is_host e) a in
        (omega (arith, l, at), next k)

-- and then it is what is before that moment
pub front_is : (p : Point) (w : Whole) (t : ℕ) (fits : Fits p w) (front : List Step) (s : Step) (others : List Step) → steps_of p w ≡ front ++ s ∷ others → s.event.who ≡ Host → moment_of s ≡ t → AllBefore t (hosts_of front) → before t (steps_of p w) ≡ front
front_is p w t fits front s others e who at a =
    let early = early_front t front s others (subst GoesOn e (steps_go p (Full w) fits)) who at a in
    ap (λ (l : List Step). before t l) e ∙ cut_is t front (s ∷ others) early (order_at front (subst InOrder e (steps_order p w fits)))
  where
    order_at : (front : List Step) → InOrder (front ++ s ∷ others) → NoneBefore t (s ∷ others)
    order_at [] o = (omega (arith, at), subst (λ (m : ℕ). NoneBefore m others) at o.0)
    order_at (x ∷ front) o = order_at front o.1

pub hosts_split : (front : List Step) (s : Step) (others : List Step) → s.event.who ≡ Host → hosts_of (front ++ s ∷ others) ≡ hosts_of front ++ s ∷ hosts_of others
hosts_split [] s others w = ap (λ (v : Bool). if v then s ∷ hosts_of others else hosts_of others) (ap is_host w)
hosts_split (x ∷ front) s others w = go (is_host x.event.who) (hosts_split front s others w)
  where
    go : (v : Bool) → hosts_of (front ++ s ∷ others) ≡ hosts_of front ++ s ∷ hosts_of others → (if v then x ∷ hosts_of (front ++ s ∷ others) else hosts_of (front ++ s ∷ others)) ≡ (if v then x ∷ hosts_of front else hosts_of front) ++ s ∷ hosts_of others
    go true k = ap (λ (l : List Step). x ∷ l) k
    go false k = k

pub host_parts : (p : Point) (w : Whole) (front : List Step) (s : Step) (others : List Step) → steps_of p w ≡ front ++ s ∷ others → s.event.who ≡ Host → hosts_of front ++ s ∷ hosts_of others ≡ host_part p w
host_parts p w front s others e who = sym (hosts_split front s others who) ∙ ap (λ (l : List Step). hosts_of l) (sym e) ∙ hosts_part p w

-- the host's part of a turnaround, cut after ATN's release
turn_front : (t at : ℕ) (hs : List Step) → at < t → before t (host at Data Pull ∷ for_each Released (host at Atn Free) ∷ hs) ≡ host at Data Pull ∷ for_each Released (host at Atn Free) ∷ before t hs
turn_front t at hs l = before_yes t (host at Data Pull) (for_each Released (host at Atn Free) ∷ hs) l ∙ ap (λ (zs : List Step). host at Data Pull ∷ zs) (before_yes t (for_each Released (host at Atn Free)) hs l)

-- A turnaround whose talker leads, with CLOCK's release put off where it isn't before t.
pub record LeadLater (p : Point) (at clock t : ℕ) : Type 0 where
  pub clock2 : ℕ
  pub fits : Fits p (ToTalker at clock2)
  pub later : Later p (ToTalker at clock2) t (before t (steps_of p (ToTalker at clock)))

pub lead_later : (p : Point) (at clock t : ℕ) → Fits p (ToTalker at clock) → at < t → LeadLater p at clock t
lead_later p at clock t fits l = elim (leb_tells (suc clock) t) [
  | inl k ↦ (let early = k.1 in record { clock2 = clock; fits = fits; later = moved p (ToTalker at clock) (ToTalker at clock) t fits fits refl (λ x. refl) (λ w. inl l, (λ w. inl l, (λ w. inl (omega (arith, early)), tt))) })
  | inr k ↦ (let late = k.1 in put_off (omega (arith, late)))
]
  where
    put_off : t ≤ clock → LeadLater p at clock t
    put_off late =
        let gap = fits.1 in
        let fits2 : Fits p (ToTalker at (suc clock)) = (fits.0, omega (arith, gap)) in
        record {
          clock2 = suc clock;
          fits = fits2;
          later = moved p (ToTalker at clock) (ToTalker at (suc clock)) t fits fits2
              (turn_front t at (host clock Clock Free ∷ []) l ∙ ap (λ (zs : List Step). host at Data Pull ∷ for_each Released (host at Atn Free) ∷ zs) (before_no t (host clock Clock Free) [] late ∙ sym (before_no t (host (suc clock) Clock Free) [] (omega (arith, late)))) ∙ sym (turn_front t at (host (suc clock) Clock Free ∷ []) l))
              (λ x. owns x x.role) (λ w. inl l, (λ w. inl l, (λ w. inr (omega (arith, late)), tt)));
        }
      where
        owns : (x : Seat) (r : Role)
            → before t (elim r as (λ q. List Step) [ Absent ↦ let_go at x | Listener ↦ [] | Talker ↦ drive (device x) (clock + reaction x) Clock Pull ∷ drive (device x) (clock + reaction x) Data Free ∷ [] ])
            ≡ before t (elim r as (λ q. List Step) [ Absent ↦ let_go at x | Listener ↦ [] | Talker ↦ drive (device x) (suc clock + reaction x) Clock Pull ∷ drive (device x) (suc clock + reaction x) Data Free ∷ [] ])
        owns x Absent = refl
        owns x Listener = refl
        owns x Talker =
            all_from t (drive (device x) (clock + reaction x) Clock Pull ∷ drive (device x) (clock + reaction x) Data Free ∷ []) (omega (arith, late), (omega (arith, late), tt))
            ∙ sym (all_from t (drive (device x) (suc clock + reaction x) Clock Pull ∷ drive (device x) (suc clock + reaction x) Data Free ∷ []) (omega (arith, late), (omega (arith, late), tt)))

-- And one whose talker has nothing to say.
pub record MuteLater (p : Point) (at clock : ℕ) (freed : Option ℕ) (t : ℕ) : Type 0 where
  pub clock2 : ℕ
  pub freed2 : Option ℕ
  pub fits : Fits p (Nothing at clock2 freed2)
  pub later : Later p (Nothing at clock2 freed2) t (before t (steps_of p (Nothing at clock freed)))

pub mute_later : (p : Point) (at clock : ℕ) (freed : Option ℕ) (t : ℕ) → Fits p (Nothing at clock freed) → at < t → MuteLater p at clock freed t
mute_later p at clock freed t fits l = elim (leb_tells (suc clock) t) [
  | inl k ↦ (let early = k.1 in by_freed freed fits (omega (arith, early)))
  | inr k ↦ (let late = k.1 in put_off freed fits (omega (arith, late)))
]
  where
    by_freed : (freed : Option ℕ) → Fits p (Nothing at clock freed) → clock < t → MuteLater p at clock freed t
    by_freed None fits early = record { clock2 = clock; freed2 = None; fits = fits; later = moved p (Nothing at clock None) (Nothing at clock None) t fits fits refl (λ x. refl) (λ w. inl l, (λ w. inl l, (λ w. inl early, tt))) }
    by_freed (Some g) fits early = elim (leb_tells (suc g) t) [
      | inl k ↦ (let soon = k.1 in record { clock2 = clock; freed2 = Some g; fits = fits; later = moved p (Nothing at clock (Some g)) (Nothing at clock (Some g)) t fits fits refl (λ x. refl) (λ w. inl l, (λ w. inl l, (λ w. inl early, (λ w. inl (omega (arith, soon)), tt)))) })
      | inr k ↦ (
          let late = k.1 in
          let fits2 : Fits p (Nothing at clock None) = (fits.0, fits.1, tt) in
          record {
            clock2 = clock;
            freed2 = None;
            fits = fits2;
            later = moved p (Nothing at clock (Some g)) (Nothing at clock None) t fits fits2
                (turn_front t at (host clock Clock Free ∷ host g Data Free ∷ []) l
                ∙ ap (λ (zs : List Step). host at Data Pull ∷ for_each Released (host at Atn Free) ∷ zs) (before_yes t (host clock Clock Free) (host g Data Free ∷ []) early ∙ ap (λ (zs : List Step). host clock Clock Free ∷ zs) (before_no t (host g Data Free) [] (omega (arith, late))) ∙ sym (before_yes t (host clock Clock Free) [] early))
                ∙ sym (turn_front t at (host clock Clock Free ∷ []) l)) (λ x. refl) (λ w. inl l, (λ w. inl l, (λ w. inl early, tt)));
          }
          )
    ]

    put_off : (freed : Option ℕ) → Fits p (Nothing at clock freed) → t ≤ clock → MuteLater p at clock freed t
    put_off freed fits late =
        let gap = fits.1 in
        let fits2 : Fits p (Nothing at (suc clock) None) = (fits.0, omega (arith, gap), tt) in
        record {
          clock2 = suc clock;
          freed2 = None;
          fits = fits2;
          later = moved p (Nothing at clock freed) (Nothing at (suc clock) None) t fits fits2
              (turn_front t at (host clock Clock Free ∷ freed_steps freed) l
              ∙ ap (λ (zs : List Step). host at Data Pull ∷ for_each Released (host at Atn Free) ∷ zs) (all_from t (host clock Clock Free ∷ freed_steps freed) (late, freed_late freed fits.2) ∙ sym (before_no t (host (suc clock) Clock Free) [] (omega (arith, late))))
              ∙ sym (turn_front t at (host (suc clock) Clock Free ∷ []) l))
              (λ x. owns x x.role) (λ w. inl l, (λ w. inl l, (λ w. inr (omega (arith, late)), tt)));
        }
      where
        freed_late : (o : Option ℕ) → Rattle.cbm_session.specs.Pieces.FreedFits (silent_end (talker_of p.seats) clock) o → NoneBefore t (freed_steps o)
        freed_late None h = tt
        freed_late (Some g) h = (omega (arith, h, late, silent_from (talker_of p.seats) clock), tt)

        owns : (x : Seat) (r : Role)
            → before t (elim r as (λ q. List Step) [ Absent ↦ let_go at x | Listener ↦ [] | Talker ↦ silent_part x.party.pace (device x) (clock + reaction x) ])
            ≡ before t (elim r as (λ q. List Step) [ Absent ↦ let_go at x | Listener ↦ [] | Talker ↦ silent_part x.party.pace (device x) (suc clock + reaction x) ])
        owns x Absent = refl
        owns x Listener = refl
        owns x Talker =
            all_from t (silent_part x.party.pace (device x) (clock + reaction x)) (silent_none x.party.pace (device x) t (clock + reaction x) (omega (arith, late)))
            ∙ sym (all_from t (silent_part x.party.pace (device x) (suc clock + reaction x)) (silent_none x.party.pace (device x) t (suc clock + reaction x) (omega (arith, late))))

-- ATN's release to nobody, with CLOCK's put off.
pub nobody_later : (p : Point) (at clock t : ℕ) → (fits : Fits p (ToNobody at clock)) → at < t → t ≤ clock → Fits p (ToNobody at (suc clock)) × Later p (ToNobody at (suc clock)) t (before t (steps_of p (ToNobody at clock)))
nobody_later p at clock t fits l late =
    let gap = fits.1 in
    let fits2 : Fits p (ToNobody at (suc clock)) = (fits.0, omega (arith, gap)) in
    let first = for_each Released (host at Atn Free) in (
      fits2,
      moved p (ToNobody at clock) (ToNobody at (suc clock)) t fits fits2
          (before_yes t first (host clock Clock Free ∷ []) l ∙ ap (λ (zs : List Step). first ∷ zs) (before_no t (host clock Clock Free) [] late ∙ sym (before_no t (host (suc clock) Clock Free) [] (omega (arith, late)))) ∙ sym (before_yes t first (host (suc clock) Clock Free ∷ []) l)) (λ x. refl) (λ w. inl l, (λ w. inr (omega (arith, late)), tt)),
    )
