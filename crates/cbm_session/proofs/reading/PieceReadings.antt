-- By each piece the decoder goes from what stands at its point to what stands at the point after it.
use Rattle.cbm_iec.specs.declared.pace.Pace.TheVariants.{Profile, Kernal}
use Rattle.cbm_iec.specs.declared.pace.Pace.{Pace}
use Rattle.cbm_session.proofs.joining.Silents.{silent_head}
use Rattle.std.proofs.Common.{◌≡◌, ℕ, zero, suc, not, ◌+◌, ◌≤◌, inl, inr, Bool, true, false, List, [], ◌∷◌, map, Option, Some, None, ap, sym, ◌∙◌, subst, arith, refl}
use Rattle.std.proofs.lemmas.Bool.Decides.{leb_tells}
use Rattle.std.proofs.lemmas.Bool.{eqb-true}
use Rattle.std.specs.Prelude.{if◌then◌else◌, nat_eq}
use Rattle.cbm_iec.specs.Roles.{role_after}
use Rattle.cbm_iec.specs.declared.machine.Act.TheVariants.{Released, Heard, Silent}
use Rattle.cbm_iec.specs.declared.lines.Line.TheVariants.{Atn, Clock, Data}
use Rattle.cbm_iec.specs.declared.lines.Way.TheVariants.{Pull, Free}
use Rattle.cbm_iec.specs.declared.lines.Held.{Held}
use Rattle.cbm_iec.specs.declared.party.Party.{Party}
use Rattle.cbm_iec.specs.declared.party.Role.TheVariants.{Absent, Listener, Talker}
use Rattle.cbm_iec.specs.declared.party.Role.{Role}
use Rattle.cbm_session.proofs.joining.Merging.{merge_here, merge_there, merge_nil}
use Rattle.cbm_session.proofs.joining.OneDrive.{StartsAfter, told_is, frame_is}
use Rattle.cbm_session.proofs.joining.Seating.{Sits}
use Rattle.cbm_session.proofs.joining.Showing.{merge_first}
use Rattle.cbm_session.proofs.joining.Talkers.{silent_bus, OneTalker, talker_is, other_talker, most, most_lasting, sits_listeners, standing_roles}
use Rattle.cbm_session.proofs.reading.Decoding.{Under, Known, known, freed_under, said_act, ReadsOwn, Off, Readied, Counting, Turning, Asking, Answered, Muted, Leads, Saying}
use Rattle.cbm_session.proofs.reading.Readings.{Calm, frame_act, frame_role, mark_mine, frame_reads, sending_reads, pull_reads, told_under, told_reads, other_reads}
use Rattle.cbm_session.specs.Bits.{bits_in_cells, byte_in_cells}
use Rattle.cbm_session.specs.Frames.{lasting, longest_lasting, Sent, Told, wire, hearing, sending, StartFits, SentFits, is_last, telling, taking, ToldFits}
use Rattle.cbm_session.specs.Joins.{NotBefore}
use Rattle.cbm_session.specs.Pieces.{silent_at, silent_part, silent_end, Whole, BusPlace, Point, freed_steps, host_part, own_part, FreedFits, IsCommanding, Fits, told_place, seat_with, obeying, standing, whole_point, PullPiece, Command, Byte, ToListener, ToNobody, ToTalker, Nothing, Talk, Open, Commanding, Listening, Leading, Cutting, commanding}
use Rattle.cbm_session.specs.Seats.{at_pace, lines, Seat, device, reaction, is_listener, is_talker, talker_of, listeners, slowest}
use Rattle.cbm_session.specs.Steps.{Step, host, drive, for_each, for_one, merge}

-- what the decoder knows at a point: in attention, whether a byte may begin, and whether the drive leads
abbrev pub AtPlace : BusPlace → Role → Bool → Under → Type 0
AtPlace Open role atn u = Unit {0}
AtPlace (Commanding some) role atn u = (atn ≡ true) × Calm u
AtPlace Listening role atn u = (atn ≡ false) × Calm u
AtPlace (Leading at) Talker atn u = (atn ≡ false) × (u ≡ Leads)
AtPlace (Leading at) Absent atn u = (atn ≡ false) × (u ≡ Readied false)
AtPlace (Leading at) Listener atn u = (atn ≡ false) × (u ≡ Readied false)
AtPlace (Cutting at) role atn u = Unit {0}

abbrev pub Goes : ℕ → Known → List Step → BusPlace → Role → Type 0
Goes d k ss place role = (atn : Bool) × ((u : Under) × (ReadsOwn d k ss (known role atn u) × AtPlace place role atn u))

abbrev pub seat : Party → Role → Held → Seat
seat b r o = record { party = b; role = r; own = o }

pub is_commanding : {q : BusPlace} → IsCommanding q → (some : Bool) × (q ≡ Commanding some)
is_commanding (commanding {some}) = (some, refl)

starts_after : (hs : List Seat) (s : Seat) (f : Sent) (eoi : Bool) → (reaction s ≤ slowest hs) × (lasting s ≤ longest_lasting hs) → StartFits hs eoi f → StartsAfter (wire hs f) s eoi f
starts_after hs s f true l h = (omega (arith, l.0), omega (arith, l.1, h))
starts_after hs s f false l h = let k = h.0 in omega (arith, l.0, k)

-- a frame that this drive hears, and one that it doesn't
heard_goes : (d : ℕ) (hs : List Seat) (s : Seat) (atn eoi : Bool) (u : Under) (f : Sent) → nat_eq d (device s) ≡ true → (reaction s ≤ slowest hs) × (lasting s ≤ longest_lasting hs) → Calm u → SentFits hs eoi f
    → ReadsOwn d (known s.role atn u) (merge (sending f) (hearing (wire hs f) eoi (frame_act atn eoi f) f s)) (known (frame_role d atn s.role f) atn (Counting eoi false zero (bits_in_cells f.cells)))
heard_goes d hs s atn eoi u f e l c h =
    subst (λ (ss : List Step). ReadsOwn d (known s.role atn u) ss (known (frame_role d atn s.role f) atn (Counting eoi false zero (bits_in_cells f.cells))))
    (sym (frame_is (wire hs f) s (frame_act atn eoi f) f eoi (starts_after hs s f eoi l h.start) h.cells)) (frame_reads d s atn eoi u (wire hs f) f e c h.eight)

byte_goes : (d : ℕ) (hs : List Seat) (s : Seat) (eoi : Bool) (u : Under) (f : Sent) (v : Bool) → nat_eq d (device s) ≡ true → (v ≡ true → (reaction s ≤ slowest hs) × (lasting s ≤ longest_lasting hs)) → Calm u → SentFits hs eoi f
    → Goes d (known s.role false u) (merge (sending f) (if v then hearing (wire hs f) eoi (Heard (byte_in_cells f.cells) eoi) f s else [])) Listening s.role
byte_goes d hs s eoi u f true e l c h = (false, (Counting eoi false zero (bits_in_cells f.cells), (heard_goes d hs s false eoi u f e (l refl) c h, (refl, tt))))
byte_goes d hs s eoi u f false e l c h =
    (false, (Counting false false zero (bits_in_cells f.cells), (subst (λ (ss : List Step). ReadsOwn d (known s.role false u) ss (known s.role false (Counting false false zero (bits_in_cells f.cells)))) (sym (merge_nil (sending f))) (sending_reads d s.role false u f c h.eight), (refl, tt))))

-- ATN's release to a listener, beside drives without a role
listener_goes : (d : ℕ) (p : Point) (b : Party) (r : Role) (o : Held) (atn : Bool) (u : Under) (at : ℕ) → is_talker r ≡ false
    → Goes d (known r atn u) (merge (host_part p (ToListener at)) (own_part p (ToListener at) (seat b r o))) Listening r
listener_goes d p b Absent o atn u at n =
    (false, (Off, (subst (λ (ss : List Step). ReadsOwn d (known Absent atn u) ss (known Absent false Off)) (sym (merge_here (for_each Released (host at Atn Free)) [] (drive b.device (at + b.reaction) Data Free) [] (omega arith))) (refl, (refl, refl)), (refl, tt))))
listener_goes d p b Listener o atn u at n = (false, (Off, ((refl, refl), (refl, tt))))
listener_goes d p b Talker o atn u at n = cc

-- CLOCK's release and the drive's own release of DATA, in either order
either_goes : (d o : ℕ) (r : Role) (clock t : ℕ) → ReadsOwn d (known r false Off) (merge (host clock Clock Free ∷ []) (drive o t Data Free ∷ [])) (known r false (Readied false))
either_goes d o r clock t = elim (leb_tells clock t) [
  | inl x ↦ subst (λ (ss : List Step). ReadsOwn d (known r false Off) ss (known r false (Readied false))) (sym (merge_here (host clock Clock Free) [] (drive o t Data Free) [] x.1)) (refl, (refl, refl))
  | inr x ↦ subst (λ (ss : List Step). ReadsOwn d (known r false Off) ss (known r false (Readied false))) (sym (merge_there (host clock Clock Free) [] (drive o t Data Free) [] x.1)) (refl, (refl, refl))
]

nobody_goes : (d : ℕ) (p : Point) (b : Party) (r : Role) (o : Held) (atn : Bool) (u : Under) (at clock : ℕ) → is_talker r ≡ false
    → Goes d (known r atn u) (merge (host_part p (ToNobody at clock)) (own_part p (ToNobody at clock) (seat b r o))) Open r
nobody_goes d p b Absent o atn u at clock n =
    (false, (Readied false, (subst (λ (ss : List Step). ReadsOwn d (known Absent atn u) ss (known Absent false (Readied false))) (sym (merge_here (for_each Released (host at Atn Free)) (host clock Clock Free ∷ []) (drive b.device (at + b.reaction) Data Free) [] (omega arith))) (refl, either_goes d b.device Absent clock (at + b.reaction)), tt)))
nobody_goes d p b Listener o atn u at clock n =
    (false, (Readied false, (subst (λ (ss : List Step). ReadsOwn d (known Listener atn u) ss (known Listener false (Readied false))) (sym (merge_here (for_each Released (host at Atn Free)) (host clock Clock Free ∷ []) (drive b.device (at + b.reaction) Data Free) [] (omega arith))) (refl, either_goes d b.device Listener clock (at + b.reaction)), tt)))
nobody_goes d p b Talker o atn u at clock n = cc

-- the first two changes of a turnaround come before all of the drives
pub turn_first : (at : ℕ) (more own : List Step) → NotBefore at own
    → merge (host at Data Pull ∷ for_each Released (host at Atn Free) ∷ more) own ≡ host at Data Pull ∷ for_each Released (host at Atn Free) ∷ merge more own
turn_first at more own n = merge_first (host at Data Pull) (for_each Released (host at Atn Free) ∷ more) own n ∙ ap (λ (zs : List Step). host at Data Pull ∷ zs) (merge_first (for_each Released (host at Atn Free)) more own n)

pub calm_said : (u : Under) → Calm u → None ≡ said_act u
calm_said Off h = refl
calm_said (Readied eoi) h = elim h [ ]
calm_said (Counting eoi held zero bits) h = refl
calm_said (Counting eoi held (suc left) bits) h = elim h [ ]
calm_said Turning h = elim h [ ]
calm_said Asking h = elim h [ ]
calm_said Answered h = elim h [ ]
calm_said Muted h = elim h [ ]
calm_said Leads h = elim h [ ]
calm_said (Saying held signal left bits) h = elim h [ ]

-- they lead to a drive that is told of ATN's release
turned_goes : (d : ℕ) (r : Role) (atn : Bool) (u : Under) (at : ℕ) (more own : List Step) (k2 : Known) → Calm u → NotBefore at own → ReadsOwn d (known r false (freed_under r)) (merge more own) k2
    → ReadsOwn d (known r atn u) (merge (host at Data Pull ∷ for_each Released (host at Atn Free) ∷ more) own) k2
turned_goes d r atn u at more own k2 c n h = subst (λ (ss : List Step). ReadsOwn d (known r atn u) ss k2) (sym (turn_first at more own n)) (calm_said u c, (refl, h))

talker_goes : (d : ℕ) (p : Point) (b : Party) (r : Role) (o : Held) (atn : Bool) (u : Under) (at clock t : ℕ) → Calm u → at ≤ clock
    → Goes d (known r atn u) (merge (host_part p (ToTalker at clock)) (own_part p (ToTalker at clock) (seat b r o))) (Leading t) r
talker_goes d p b Absent o atn u at clock t c l =
    (false, (Readied false, (turned_goes d Absent atn u at (host clock Clock Free ∷ []) (drive b.device (at + b.reaction) Data Free ∷ []) (known Absent false (Readied false)) c (omega arith) (either_goes d b.device Absent clock (at + b.reaction)), (refl, refl))))
talker_goes d p b Listener o atn u at clock t c l =
    (false, (Readied false, (turned_goes d Listener atn u at (host clock Clock Free ∷ []) [] (known Listener false (Readied false)) c tt (refl, refl), (refl, refl))))
talker_goes d p b Talker o atn u at clock t c l = (
  false,
  (
    Leads,
    (
      turned_goes d Talker atn u at (host clock Clock Free ∷ []) (drive b.device (clock + b.reaction) Clock Pull ∷ drive b.device (clock + b.reaction) Data Free ∷ []) (known Talker false Leads) c (omega (arith, l))
          (subst (λ (ss : List Step). ReadsOwn d (known Talker false Turning) ss (known Talker false Leads)) (sym (merge_here (host clock Clock Free) [] (drive b.device (clock + b.reaction) Clock Pull) (drive b.device (clock + b.reaction) Data Free ∷ []) (omega arith))) (refl, (refl, (refl, refl)))),
      (refl, refl),
    ),
  ),
)

-- nothing to say: the host may free DATA
mute_reads : (d : ℕ) (r : Role) (freed : Option ℕ) → ReadsOwn d (known r false (Readied false)) (freed_steps freed) (known r false (Readied false))
mute_reads d r None = refl
mute_reads d r (Some g) = (refl, refl)

mute_own : (d o : ℕ) (r : Role) (t : ℕ) (freed : Option ℕ) → ReadsOwn d (known r false (Readied false)) (merge (freed_steps freed) (drive o t Data Free ∷ [])) (known r false (Readied false))
mute_own d o r t None = (refl, refl)
mute_own d o r t (Some g) = elim (leb_tells g t) [
  | inl x ↦ subst (λ (ss : List Step). ReadsOwn d (known r false (Readied false)) ss (known r false (Readied false))) (sym (merge_here (host g Data Free) [] (drive o t Data Free) [] x.1)) (refl, (refl, refl))
  | inr x ↦ subst (λ (ss : List Step). ReadsOwn d (known r false (Readied false)) ss (known r false (Readied false))) (sym (merge_there (host g Data Free) [] (drive o t Data Free) [] x.1)) (refl, (refl, refl))
]

mute_beside : (d o : ℕ) (r : Role) (clock t : ℕ) (freed : Option ℕ) → ReadsOwn d (known r false Off) (merge (host clock Clock Free ∷ freed_steps freed) (drive o t Data Free ∷ [])) (known r false (Readied false))
mute_beside d o r clock t freed = elim (leb_tells clock t) [
  | inl x ↦ subst (λ (ss : List Step). ReadsOwn d (known r false Off) ss (known r false (Readied false))) (sym (merge_here (host clock Clock Free) (freed_steps freed) (drive o t Data Free) [] x.1)) (refl, mute_own d o r t freed)
  | inr x ↦ subst (λ (ss : List Step). ReadsOwn d (known r false Off) ss (known r false (Readied false))) (sym (merge_there (host clock Clock Free) (freed_steps freed) (drive o t Data Free) [] x.1 ∙ ap (λ (zs : List Step). drive o t Data Free ∷ zs) (merge_nil (host clock Clock Free ∷ freed_steps freed)))) (refl, (refl, mute_reads d r freed))
]

off_freed : (d : ℕ) (freed : Option ℕ) → ReadsOwn d (known Talker false Off) (freed_steps freed) (known Talker false Off)
off_freed d None = refl
off_freed d (Some g) = (refl, refl)

silent_reads : (d : ℕ) (b : Party) (clock : ℕ) (freed : Option ℕ) → nat_eq d b.device ≡ true → FreedFits (silent_end b clock) freed
    → ReadsOwn d (known Talker false Turning) (merge (host clock Clock Free ∷ freed_steps freed) (silent_part b.pace b.device (clock + b.reaction))) (known Talker false Off)
silent_reads d b clock freed e y =
    subst (λ (ss : List Step). ReadsOwn d (known Talker false Turning) ss (known Talker false Off)) (sym (merge_first (host clock Clock Free) (freed_steps freed) (silent_part b.pace b.device (clock + b.reaction)) (silent_head b.pace b.device clock (clock + b.reaction) (omega arith))))
    (refl, go b.pace freed y)
  where
    go : (v : Pace) (freed : Option ℕ) → FreedFits (silent_at v (clock + b.reaction)) freed → ReadsOwn d (known Talker false Asking) (merge (freed_steps freed) (silent_part v b.device (clock + b.reaction))) (known Talker false Off)
    go Profile None y = (mark_mine d b.device Silent e, refl)
    go Profile (Some g) y =
        subst (λ (ss : List Step). ReadsOwn d (known Talker false Asking) ss (known Talker false Off)) (sym (merge_there (host g Data Free) [] (for_one b.device Silent (drive b.device (clock + b.reaction) Data Free)) [] (omega (arith, y))))
        (mark_mine d b.device Silent e, (refl, refl))
    go Kernal None y = (refl, (refl, (mark_mine d b.device Silent e, refl)))
    go Kernal (Some g) y =
        let free = drive b.device (clock + b.reaction + 80) Clock Free in
        let silent = for_one b.device Silent (drive b.device (clock + b.reaction + 80) Data Free) in
        let is : merge (host g Data Free ∷ []) (silent_part Kernal b.device (clock + b.reaction)) ≡ drive b.device (clock + b.reaction) Clock Pull ∷ free ∷ silent ∷ host g Data Free ∷ [] =
        merge_there (host g Data Free) [] (drive b.device (clock + b.reaction) Clock Pull) (free ∷ silent ∷ []) (omega (arith, y))
        ∙ ap (λ (zs : List Step). drive b.device (clock + b.reaction) Clock Pull ∷ zs) (merge_there (host g Data Free) [] free (silent ∷ []) (omega (arith, y))
        ∙ ap (λ (zs : List Step). free ∷ zs) (merge_there (host g Data Free) [] silent [] (omega (arith, y)))) in
        subst (λ (ss : List Step). ReadsOwn d (known Talker false Asking) ss (known Talker false Off)) (sym is) (refl, (refl, (mark_mine d b.device Silent e, (refl, refl))))

nothing_goes : (d : ℕ) (p : Point) (b : Party) (r : Role) (o : Held) (atn : Bool) (u : Under) (at clock : ℕ) (freed : Option ℕ) → nat_eq d b.device ≡ true → Calm u → at ≤ clock → (r ≡ Talker → FreedFits (silent_end b clock) freed)
    → Goes d (known r atn u) (merge (host_part p (Nothing at clock freed)) (own_part p (Nothing at clock freed) (seat b r o))) Open r
nothing_goes d p b Absent o atn u at clock freed e c l y =
    (false, (Readied false, (turned_goes d Absent atn u at (host clock Clock Free ∷ freed_steps freed) (drive b.device (at + b.reaction) Data Free ∷ []) (known Absent false (Readied false)) c (omega arith) (mute_beside d b.device Absent clock (at + b.reaction) freed), tt)))
nothing_goes d p b Listener o atn u at clock freed e c l y =
    (false, (Readied false, (turned_goes d Listener atn u at (host clock Clock Free ∷ freed_steps freed) [] (known Listener false (Readied false)) c tt (subst (λ (ss : List Step). ReadsOwn d (known Listener false Off) ss (known Listener false (Readied false))) (sym (merge_nil (host clock Clock Free ∷ freed_steps freed))) (refl, mute_reads d Listener freed)), tt)))
nothing_goes d p b Talker o atn u at clock freed e c l y =
    (false, (Off, (turned_goes d Talker atn u at (host clock Clock Free ∷ freed_steps freed) (silent_part b.pace b.device (clock + b.reaction)) (known Talker false Off) c (silent_head b.pace b.device at (clock + b.reaction) (omega (arith, l))) (silent_reads d b clock freed e (y refl)), tt)))

-- a frame of the talker
told_at : (f : Told) → AtPlace (told_place f) Talker false (told_under (is_last f))
told_at f = go (is_last f)
  where
    go : (v : Bool) → AtPlace (if v then Open else Leading (f.accept + 100)) Talker false (told_under v)
    go true = tt
    go false = (refl, refl)

other_at : (f : Told) (r : Role) → is_talker r ≡ false → AtPlace (told_place f) r false (Readied false)
other_at f r n = go (is_last f) r n
  where
    go : (v : Bool) (r : Role) → is_talker r ≡ false → AtPlace (if v then Open else Leading (f.accept + 100)) r false (Readied false)
    go true r n = tt
    go false Absent n = (refl, refl)
    go false Listener n = (refl, refl)
    go false Talker n = cc

leads_at : (at : ℕ) (atn : Bool) (u : Under) (r : Role) → is_talker r ≡ true → AtPlace (Leading at) r atn u → (atn ≡ false) × (u ≡ Leads)
leads_at at atn u Absent n h = cc
leads_at at atn u Listener n h = cc
leads_at at atn u Talker n h = h

hears_at : (at : ℕ) (atn : Bool) (u : Under) (r : Role) → is_talker r ≡ false → AtPlace (Leading at) r atn u → (atn ≡ false) × (u ≡ Readied false)
hears_at at atn u Absent n h = h
hears_at at atn u Listener n h = h
hears_at at atn u Talker n h = cc

as_talker : (r : Role) → is_talker r ≡ true → r ≡ Talker
as_talker Absent h = cc
as_talker Listener h = cc
as_talker Talker h = refl

talk_goes : (d : ℕ) (t : Party) (s : Seat) (atn : Bool) (u : Under) (at : ℕ) (f : Told) (v : Bool) → is_talker s.role ≡ v → nat_eq d (device s) ≡ true → (v ≡ true → t ≡ s.party) → (v ≡ false → nat_eq d t.device ≡ false)
    → ToldFits t at f → AtPlace (Leading at) s.role atn u → Goes d (known s.role atn u) (merge (taking t f) (if v then telling (at_pace t.pace s.party) at f else [])) (told_place f) s.role
talk_goes d t s atn u at f true n e same other h q =
    let k = leads_at at atn u s.role n q in
    let fits : ToldFits s.party at f = subst (λ (b : Party). ToldFits b at f) (same refl) h in
    let all : ReadsOwn d (known s.role false Leads) (merge (taking t f) (telling (at_pace t.pace s.party) at f)) (known s.role false (told_under (is_last f))) =
    subst (λ (b : Party). ReadsOwn d (known s.role false Leads) (merge (taking b f) (telling (at_pace b.pace s.party) at f)) (known s.role false (told_under (is_last f)))) (sym (same refl))
    (subst (λ (ss : List Step). ReadsOwn d (known s.role false Leads) ss (known s.role false (told_under (is_last f)))) (sym (told_is s.party at f fits)) (told_reads d s.party s.role at f e fits.eight)) in (
      false,
      (
        told_under (is_last f),
        (
          subst (λ (v : Under). ReadsOwn d (known s.role atn v) (merge (taking t f) (telling (at_pace t.pace s.party) at f)) (known s.role false (told_under (is_last f)))) (sym k.1)
              (subst (λ (a : Bool). ReadsOwn d (known s.role a Leads) (merge (taking t f) (telling (at_pace t.pace s.party) at f)) (known s.role false (told_under (is_last f)))) (sym k.0) all),
          subst (λ (r : Role). AtPlace (told_place f) r false (told_under (is_last f))) (sym (as_talker s.role n)) (told_at f),
        ),
      ),
    )
talk_goes d t s atn u at f false n e same other h q =
    let k = hears_at at atn u s.role n q in
    let all : ReadsOwn d (known s.role false (Readied false)) (merge (taking t f) []) (known s.role false (Readied false)) =
    subst (λ (ss : List Step). ReadsOwn d (known s.role false (Readied false)) ss (known s.role false (Readied false))) (sym (merge_nil (taking t f))) (other_reads d t s.role f (other refl)) in (
      false,
      (
        Readied false,
        (
          subst (λ (v : Under). ReadsOwn d (known s.role atn v) (merge (taking t f) []) (known s.role false (Readied false))) (sym k.1)
              (subst (λ (a : Bool). ReadsOwn d (known s.role a (Readied false)) (merge (taking t f) []) (known s.role false (Readied false))) (sym k.0) all),
          other_at f s.role n,
        ),
      ),
    )

-- the seat of a drive after a piece
abbrev pub next_seat : Whole → Seat → Seat
next_seat (PullPiece at) s = seat_with s.role (lines false true) s
next_seat (Command f) s = obeying (byte_in_cells f.cells) s
next_seat (Byte eoi f) s = standing (lines false false) s
next_seat (ToListener at) s = standing (lines false false) s
next_seat (ToNobody at clock) s = standing (lines false false) s
next_seat (ToTalker at clock) s = standing (lines true false) s
next_seat (Nothing at clock freed) s = standing (lines false false) s
next_seat (Talk at f) s = standing (lines (not (is_last f)) false) s

-- the seats after a whole piece, one by one
pub next_seats : (p : Point) (w : Whole) → (whole_point p w).seats ≡ map (λ s. next_seat w s) p.seats
next_seats p (PullPiece at) = refl
next_seats p (Command f) = refl
next_seats p (Byte eoi f) = refl
next_seats p (ToListener at) = refl
next_seats p (ToNobody at clock) = refl
next_seats p (ToTalker at clock) = refl
next_seats p (Nothing at clock freed) = refl
next_seats p (Talk at f) = refl

sits_self : (d : ℕ) (ss : List Seat) (s : Seat) → Sits d ss s → nat_eq d (device s) ≡ true
sits_self d [] s h = elim h [ ]
sits_self d (x ∷ xs) s (inl h) = subst (λ (q : Seat). nat_eq d (device q) ≡ true) h.0 h.1
sits_self d (x ∷ xs) s (inr h) = sits_self d xs s h.1

-- at a role that stays
stays : (d : ℕ) (k : Known) (ss : List Step) (place : BusPlace) (r q : Role) → q ≡ r → Goes d k ss place r → Goes d k ss place q
stays d k ss place r q e g = subst (λ (x : Role). Goes d k ss place x) (sym e) g

pub piece_goes : (d : ℕ) (p : Point) (w : Whole) (s : Seat) (atn : Bool) (u : Under) → 1 ≤ d → Sits d p.seats s → OneTalker p.seats → AtPlace p.place s.role atn u → Fits p w
    → Goes d (known s.role atn u) (merge (host_part p w) (own_part p w s)) (whole_point p w).place (next_seat w s).role
piece_goes d p (PullPiece at) s atn u l t o q h = (true, (Off, (pull_reads d p s atn u at, (refl, tt))))
piece_goes d p (Command f) s atn u l t o q h =
    let c = is_commanding h.0 in
    let k : (atn ≡ true) × Calm u = subst (λ (x : BusPlace). AtPlace x s.role atn u) c.1 q in
    let e = sits_self d p.seats s t in
    let same : d ≡ device s = eqb-true d (device s) e in
    let all = heard_goes d p.seats s true false u f e (most d p.seats s t, most_lasting d p.seats s t) k.1 h.3 in
    subst (λ (a : Bool). Goes d (known s.role a u) (merge (host_part p (Command f)) (own_part p (Command f) s)) (Commanding true) (role_after (device s) (byte_in_cells f.cells) s.role)) (sym k.0)
    (true, (Counting false false zero (bits_in_cells f.cells), (subst (λ (n : ℕ). ReadsOwn d (known s.role true u) (merge (host_part p (Command f)) (own_part p (Command f) s)) (known (role_after n (byte_in_cells f.cells) s.role) true (Counting false false zero (bits_in_cells f.cells)))) same all, (refl, tt))))
piece_goes d p (Byte eoi f) s atn u l t o q h =
    let k : (atn ≡ false) × Calm u = subst (λ (x : BusPlace). AtPlace x s.role atn u) h.0 q in
    let e = sits_self d p.seats s t in
    let all = byte_goes d (listeners p.seats) s eoi u f (is_listener s.role) e (λ (v : is_listener s.role ≡ true). (let sits = sits_listeners d p.seats s t v in (most d (listeners p.seats) s sits, most_lasting d (listeners p.seats) s sits))) k.1 h.3 in
    stays d (known s.role atn u) (merge (host_part p (Byte eoi f)) (own_part p (Byte eoi f) s)) Listening s.role (next_seat (Byte eoi f) s).role (standing_roles (lines false false) s)
    (subst (λ (a : Bool). Goes d (known s.role a u) (merge (host_part p (Byte eoi f)) (own_part p (Byte eoi f) s)) Listening s.role) (sym k.0) all)
piece_goes d p (ToListener at) s atn u l t o q h =
    stays d (known s.role atn u) (merge (host_part p (ToListener at)) (own_part p (ToListener at) s)) Listening s.role (next_seat (ToListener at) s).role (standing_roles (lines false false) s)
    (listener_goes d p s.party s.role s.own atn u at (silent_bus d p.seats s t h.talker))
piece_goes d p (ToNobody at clock) s atn u l t o q h =
    stays d (known s.role atn u) (merge (host_part p (ToNobody at clock)) (own_part p (ToNobody at clock) s)) Open s.role (next_seat (ToNobody at clock) s).role (standing_roles (lines false false) s)
    (nobody_goes d p s.party s.role s.own atn u at clock (silent_bus d p.seats s t h.0.talker))
piece_goes d p (ToTalker at clock) s atn u l t o q h =
    let k : (atn ≡ true) × Calm u = subst (λ (x : BusPlace). AtPlace x s.role atn u) h.0.commanding q in
    let place = (whole_point p (ToTalker at clock)).place in
    stays d (known s.role atn u) (merge (host_part p (ToTalker at clock)) (own_part p (ToTalker at clock) s)) place s.role (next_seat (ToTalker at clock) s).role (standing_roles (lines true false) s)
    (talker_goes d p s.party s.role s.own atn u at clock (clock + (talker_of p.seats).reaction + 80) k.1 (omega (arith, h.1)))
piece_goes d p (Nothing at clock freed) s atn u l t o q h =
    let k : (atn ≡ true) × Calm u = subst (λ (x : BusPlace). AtPlace x s.role atn u) h.0.commanding q in
    let mine : s.role ≡ Talker → FreedFits (silent_end s.party clock) freed = λ (r : s.role ≡ Talker). subst (λ (b : Party). FreedFits (silent_end b clock) freed) (talker_is d p.seats s o t (ap is_talker r)) h.2 in
    stays d (known s.role atn u) (merge (host_part p (Nothing at clock freed)) (own_part p (Nothing at clock freed) s)) Open s.role (next_seat (Nothing at clock freed) s).role (standing_roles (lines false false) s)
    (nothing_goes d p s.party s.role s.own atn u at clock freed (sits_self d p.seats s t) k.1 (omega (arith, h.1)) mine)
piece_goes d p (Talk at f) s atn u l t o q h =
    let at_lead : AtPlace (Leading at) s.role atn u = subst (λ (x : BusPlace). AtPlace x s.role atn u) h.0 q in
    stays d (known s.role atn u) (merge (host_part p (Talk at f)) (own_part p (Talk at f) s)) (told_place f) s.role (next_seat (Talk at f) s).role (standing_roles (lines (not (is_last f)) false) s)
    (talk_goes d (talker_of p.seats) s atn u at f (is_talker s.role) refl (sits_self d p.seats s t) (λ (v : is_talker s.role ≡ true). talker_is d p.seats s o t v) (λ (v : is_talker s.role ≡ false). other_talker d p.seats s l t v) h.1 at_lead)
