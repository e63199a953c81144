-- A request to a drive with its DOS, from the first event to the end.
use Rattle.cbm_iec.specs.declared.pace.Pace.{Pace}
use Rattle.std.proofs.Common.{◌≡◌, ℕ, zero, suc, get_or, replicate, ◌+◌, ◌<◌, ◌≤◌, Bool, false, List, [], ◌∷◌, ◌++◌, append-nil, length, Option, Some, None, refl, sym, ap, ◌∙◌, subst, arith}
use Rattle.std.specs.Prelude.{MatchOption}
use Rattle.cbm_medium.specs.Seen.{Seen}
use Rattle.cbm_machine.specs.Machines.{Machine}
use Rattle.cbm_channel.specs.Standing.{Kept}
use Rattle.cbm_drive.specs.Cables.{Cabled, all_free}
use Rattle.cbm_drive.specs.Desks.{Desk, DeskStands, desk_step, desk_says}
use Rattle.cbm_drive.specs.NextSaid.{is_byte}
use Rattle.cbm_drive.specs.Players.{at_start}
use Rattle.cbm_drive.specs.Seats.{Seated, IsBusAt, IsWithout, wires_held_by, numbers}
use Rattle.cbm_iec.specs.Ports.{resting}
use Rattle.cbm_iec.specs.declared.lines.Lines.{Lines}
use Rattle.cbm_iec.specs.declared.port.Port.{Port}
use Rattle.cbm_volume.specs.Holding.{HoldsDisk}
use Rattle.cbm_channel.proofs.Stands.{means_of}
use Rattle.cbm_host.proofs.Performed.{performing_on, performing_still, performing_none}
use Rattle.cbm_host.proofs.Serving.{serves, is_short}
use Rattle.cbm_host.specs.Begun.{IsRequestBegun}
use Rattle.cbm_host.specs.CarriedOut.{AreBytes, IsShort, HasCarriedOut}
use Rattle.cbm_host.specs.Engines.{Engined, engine_at, channel_of, sent_by, stage_end}
use Rattle.cbm_host.specs.Hosted.{IsTaking, HasTaken, Hosting, party_of, resting_for, Rests, IsUnderWay, IsGoingOn, IsOver, tracks_on}
use Rattle.cbm_host.specs.Performed.{IsPerforming, HasPerformed, taken_with, last_with}
use Rattle.cbm_host.specs.Performers.{Performing, IsGoing, HasStopped, HasNext}
use Rattle.cbm_host.specs.Requests.{longest}
use Rattle.cbm_host.specs.Served.{IsModest, MovesFew, at_power_up}
use Rattle.cbm_host.specs.declared.request.Request.{Request}
use Rattle.cbm_host.specs.declared.request.Request.TheVariants.{Open, Put, Fill, Get, Close, Status}
use Rattle.cbm_iec.specs.declared.machine.Act.{Act}
use Rattle.cbm_iec.specs.declared.event.Event.{Event}
use Rattle.cbm_iec.specs.declared.party.Party.{Party}
use Rattle.cbm_session.specs.Playing.{Station, at_rest, nobody}
use Rattle.cbm_session.specs.Sessions.{IsDrive}

-- bytes, place by place
pub are_bytes : (xs : List ℕ) → ((i : ℕ) → get_or xs i 0 < 256) → AreBytes xs
are_bytes [] f = tt
are_bytes (x ∷ xs) f = (f zero, are_bytes xs (λ i. f (suc i)))

pub are_equal : (n b : ℕ) → b < 256 → AreBytes (replicate n b)
are_equal zero b h = tt
are_equal (suc n) b h = (h, are_equal n b h)

pub so_many : (n b : ℕ) → length (replicate n b) ≡ n
so_many zero b = refl
so_many (suc n) b = ap suc (so_many n b)

-- a request that moves few bytes
pub is_modest : (request : Request) → MovesFew request → AreBytes (sent_by request) → IsModest request
is_modest (Open channel text) few bytes = (few, bytes)
is_modest (Put channel sent) few bytes = (few, bytes)
is_modest (Fill channel count byte) few bytes = (let many = so_many count byte in omega (arith, many, few), bytes)
is_modest (Get channel most) few bytes = few
is_modest (Close channel) few bytes = (omega arith, bytes)
is_modest Status few bytes = tt

-- ---- over any machine

-- other drives may stand for the stations before an event than after it
module _ (D M : Type 0) (stood stands : D → M → Type 0) (step : M → Act → M) (says : M → Option (ℕ × Bool)) where
  -- each event leads on, and a byte with it
  taking_on : (e : Engined) (limit : ℕ) (p q : Performing) (b c : Cabled D) (bytes : List ℕ) (last : Bool) (ss : List (Station M)) (x : Event) → (t : IsTaking D M stood step says e limit p b bytes last ss)
      → ((n : ℕ) (ss : List (Station M)) (es : List Event) → IsGoing D M stood step says p b n ss es → HasNext D M stands step says p q c n ss es x)
      → IsTaking D M stands step says e limit q c (bytes ++ taken_with q.byte) (last_with q.byte last) ss
  taking_on e limit p q b c bytes last ss x t next =
      let k = t.performing in
      record {
        made = t.made ++ x ∷ [];
        performing = performing_on D M stood stands step says e limit p q b c [] t.made (t.made ++ x ∷ []) bytes (bytes ++ taken_with q.byte) last (last_with q.byte last) ss x k (next 0 ss k.made k.going) refl refl refl;
      }

  pub taking_none : (e : Engined) (limit : ℕ) (p q : Performing) (b c : Cabled D) (bytes : List ℕ) (last : Bool) (ss : List (Station M)) (x : Event) → (t : IsTaking D M stood step says e limit p b bytes last ss)
      → ((n : ℕ) (ss : List (Station M)) (es : List Event) → IsGoing D M stood step says p b n ss es → HasNext D M stands step says p q c n ss es x) → q.byte ≡ None
      → IsTaking D M stands step says e limit q c bytes last ss
  taking_none e limit p q b c bytes last ss x t next none =
      subst (λ (l : List ℕ). IsTaking D M stands step says e limit q c l last ss) (append-nil bytes)
      (subst (λ (o : Option (ℕ × Bool)). IsTaking D M stands step says e limit q c (bytes ++ taken_with o) (last_with o last) ss) none (taking_on e limit p q b c bytes last ss x t next))

  pub taking_some : (e : Engined) (limit : ℕ) (p q : Performing) (b c : Cabled D) (bytes : List ℕ) (last : Bool) (ss : List (Station M)) (x : Event) (said : ℕ × Bool) → (t : IsTaking D M stood step says e limit p b bytes last ss)
      → ((n : ℕ) (ss : List (Station M)) (es : List Event) → IsGoing D M stood step says p b n ss es → HasNext D M stands step says p q c n ss es x) → q.byte ≡ Some said
      → IsTaking D M stands step says e limit q c (bytes ++ said.0 ∷ []) said.1 ss
  taking_some e limit p q b c bytes last ss x said t next some =
      subst (λ (o : Option (ℕ × Bool)). IsTaking D M stands step says e limit q c (bytes ++ taken_with o) (last_with o last) ss) some (taking_on e limit p q b c bytes last ss x t next)

  pub taking_over : (e : Engined) (limit : ℕ) (p q : Performing) (b c : Cabled D) (bytes : List ℕ) (last : Bool) (ss : List (Station M)) → (t : IsTaking D M stood step says e limit p b bytes last ss)
      → ((n : ℕ) (ss : List (Station M)) (es : List Event) → IsGoing D M stood step says p b n ss es → HasStopped D M stands step says p q c n ss es)
      → HasTaken D M stands step says e limit q c bytes last ss
  taking_over e limit p q b c bytes last ss t stopped =
      let k = t.performing in
      record { made = t.made; performed = performing_still D M stood stands step says e limit p q b c [] t.made bytes last ss k (stopped 0 ss k.made k.going) }

-- ---- over the DOS

pub is_drive : (pace : Pace) (device : ℕ) → 8 ≤ device → device ≤ 11 → IsDrive (party_of pace device)
is_drive pace device low high = record { from = low; upto = high; some = omega arith; prompt = omega arith }

module _ {M : Type 0} (seen : M → Seen) where
  -- before the first event
  pub asked : (h : Hosting (Kept M)) (p : Performing) (m : Machine) (request : Request) → Rests seen h m → p.player ≡ at_start → p.engine ≡ engine_at h.moment h.device request → p.limit ≡ h.moment + longest h.pace → IsUnderWay seen h p m request [] false
  asked h p m request rests player engine limit = record {
    start = h.moment;
    taking = record {
      made = [];
      performing = performing_none (Desk (Kept M)) (Desk Machine) (DeskStands seen) desk_step desk_says (λ x d n last s e. is_byte (desk_says d) n last s.1 e) (engine_at h.moment h.device request) (h.moment + longest h.pace) p h.bus [] [] false (resting_for h.pace h.device m) rests player engine limit refl refl;
    };
  }

  -- what the laws of a request say of it
  abbrev pub Begins : Hosting (Kept M) → Performing → Type 0
  Begins h p = (b : Party) (ms : ℕ → Desk Machine) (start : ℕ) (request : Request) (old new : List Event) (bytes : List ℕ) (last : Bool) → IsDrive b → channel_of request ≤ 15 → IsShort (Desk Machine) desk_step desk_says b.device (ms b.device) request
      → IsPerforming (Desk (Kept M)) (Desk Machine) (DeskStands seen) desk_step desk_says (engine_at start b.device request) (start + longest b.pace) p h.bus old new bytes last (at_rest (Desk Machine) desk_step desk_says ms (b ∷ []))
      → IsRequestBegun (Desk Machine) desk_step desk_says b.device (ms b.device) request bytes last

  abbrev pub CarriesOut : Hosting (Kept M) → Performing → Type 0
  CarriesOut h p = (b : Party) (ms : ℕ → Desk Machine) (start : ℕ) (request : Request) (old new : List Event) (bytes : List ℕ) (last : Bool) → IsDrive b → channel_of request ≤ 15 → IsShort (Desk Machine) desk_step desk_says b.device (ms b.device) request
      → HasPerformed (Desk (Kept M)) (Desk Machine) (DeskStands seen) desk_step desk_says (engine_at start b.device request) (start + longest b.pace) p h.bus old new bytes last (at_rest (Desk Machine) desk_step desk_says ms (b ∷ []))
      → (end : ℕ) × (stage_end p.engine.stage ≡ Some end) × HasCarriedOut (Desk (Kept M)) (Desk Machine) (DeskStands seen) desk_step desk_says b ms start request h.bus old new bytes last end

  -- the bytes so far are the first ones
  pub going_on : (h : Hosting (Kept M)) (p : Performing) (m : Machine) (request : Request) (bytes : List ℕ) (last : Bool) → 8 ≤ h.device → h.device ≤ 11 → channel_of request ≤ 15 → IsModest request → Begins h p
      → IsUnderWay seen h p m request bytes last → IsGoingOn seen h p m request bytes last
  going_on h p m request bytes last low high channel modest begins u =
      let t = u.taking in
      let k = begins (party_of h.pace h.device) (λ d. at_power_up h.pace h.device m) u.start request [] t.made bytes last (is_drive h.pace h.device low high) channel (is_short h.pace h.device request m (omega (arith, high)) channel modest) t.performing in
      let s = serves h.pace h.device request m k.whole k.marked k.afterwards (omega (arith, high)) channel k.taken k.ran in
      record {
        under_way = u;
        first = record { more = k.more; front = sym s.said ∙ k.front; all = λ e. ((k.all e).0, sym s.marked ∙ (k.all e).1) };
      }

  -- it was carried out
  pub is_over : (h : Hosting (Kept M)) (p : Performing) (m : Machine) (request : Request) (bytes : List ℕ) (last : Bool) (start : ℕ) → 8 ≤ h.device → h.device ≤ 11 → channel_of request ≤ 15 → IsModest request → CarriesOut h p
      → HasTaken (Desk (Kept M)) (Desk Machine) (DeskStands seen) desk_step desk_says (engine_at start h.device request) (start + longest h.pace) p h.bus bytes last (resting_for h.pace h.device m)
      → IsOver seen h m request bytes last
  is_over h p m request bytes last start low high channel modest carries t =
      let k = (carries (party_of h.pace h.device) (λ d. at_power_up h.pace h.device m) start request [] t.made bytes last (is_drive h.pace h.device low high) channel (is_short h.pace h.device request m (omega (arith, high)) channel modest) t.performed).2 in
      let s = serves h.pace h.device request m bytes last k.machine (omega (arith, high)) channel k.done.taken k.done.ran in
      record {
        rests = subst (λ (x : Desk Machine). IsBusAt (Desk (Kept M)) (Desk Machine) (DeskStands seen) h.bus.host h.bus.drives (at_rest (Desk Machine) desk_step desk_says (λ d. x) (party_of h.pace h.device ∷ []))) s.afterwards k.now;
        said = s.said;
        marked = s.marked;
      }

  -- the next byte, or the end
  abbrev pub Takes : Hosting (Kept M) → Hosting (Kept M) → Performing → Performing → Option (ℕ × Bool) → Type 0
  Takes old new p q said = (e : Engined) (limit : ℕ) (bytes : List ℕ) (last : Bool) (ss : List (Station (Desk Machine))) → IsTaking (Desk (Kept M)) (Desk Machine) (DeskStands seen) desk_step desk_says e limit p old.bus bytes last ss → MatchOption said
      (HasTaken (Desk (Kept M)) (Desk Machine) (DeskStands seen) desk_step desk_says e limit q new.bus bytes last ss)
      (λ x. IsTaking (Desk (Kept M)) (Desk Machine) (DeskStands seen) desk_step desk_says e limit q new.bus (bytes ++ x.0 ∷ []) x.1 ss)

  pub taken_on : (old new : Hosting (Kept M)) (p q : Performing) (said : ℕ × Bool) → new.device ≡ old.device → new.pace ≡ old.pace → 8 ≤ new.device → new.device ≤ 11 → Takes old new p q (Some said) → Begins new q
      → (m : Machine) (request : Request) (bytes : List ℕ) (last : Bool) → channel_of request ≤ 15 → IsModest request → IsUnderWay seen old p m request bytes last → IsGoingOn seen new q m request (bytes ++ said.0 ∷ []) said.1
  taken_on old new p q said same paced low high takes begins m request bytes last channel modest u =
      going_on new q m request (bytes ++ said.0 ∷ []) said.1 low high channel modest begins (record {
        start = u.start;
        taking = subst (λ (d : ℕ). IsTaking (Desk (Kept M)) (Desk Machine) (DeskStands seen) desk_step desk_says (engine_at u.start d request) (u.start + longest new.pace) q new.bus (bytes ++ said.0 ∷ []) said.1 (resting_for new.pace d m)) (sym same)
            (subst (λ (e : Pace). IsTaking (Desk (Kept M)) (Desk Machine) (DeskStands seen) desk_step desk_says (engine_at u.start old.device request) (u.start + longest e) q new.bus (bytes ++ said.0 ∷ []) said.1 (resting_for e old.device m)) (sym paced)
            (takes (engine_at u.start old.device request) (u.start + longest old.pace) bytes last (resting_for old.pace old.device m) u.taking));
      })

  pub taken_over : (old new : Hosting (Kept M)) (p q : Performing) → new.device ≡ old.device → new.pace ≡ old.pace → 8 ≤ new.device → new.device ≤ 11 → Takes old new p q None → CarriesOut new q
      → (m : Machine) (request : Request) (bytes : List ℕ) (last : Bool) → channel_of request ≤ 15 → IsModest request → IsUnderWay seen old p m request bytes last → IsOver seen new m request bytes last
  taken_over old new p q same paced low high takes carries m request bytes last channel modest u =
      is_over new q m request bytes last u.start low high channel modest carries
      (subst (λ (d : ℕ). HasTaken (Desk (Kept M)) (Desk Machine) (DeskStands seen) desk_step desk_says (engine_at u.start d request) (u.start + longest new.pace) q new.bus bytes last (resting_for new.pace d m)) (sym same)
      (subst (λ (e : Pace). HasTaken (Desk (Kept M)) (Desk Machine) (DeskStands seen) desk_step desk_says (engine_at u.start old.device request) (u.start + longest e) q new.bus bytes last (resting_for e old.device m)) (sym paced)
      (takes (engine_at u.start old.device request) (u.start + longest old.pace) bytes last (resting_for old.pace old.device m) u.taking)))

  -- the same from each machine
  abbrev pub OnByte : Hosting (Kept M) → Hosting (Kept M) → Performing → Performing → ℕ × Bool → Type 0
  OnByte old new p q said = (m : Machine) (request : Request) (bytes : List ℕ) (last : Bool) → channel_of request ≤ 15 → IsModest request → IsUnderWay seen old p m request bytes last → IsGoingOn seen new q m request (bytes ++ said.0 ∷ []) said.1

  abbrev pub OnEnd : Hosting (Kept M) → Hosting (Kept M) → Performing → Type 0
  OnEnd old new p = (m : Machine) (request : Request) (bytes : List ℕ) (last : Bool) → channel_of request ≤ 15 → IsModest request → IsUnderWay seen old p m request bytes last → IsOver seen new m request bytes last

  abbrev pub OnAsk : Hosting (Kept M) → Performing → Request → Type 0
  OnAsk h p request = (m : Machine) → Rests seen h m → IsUnderWay seen h p m request [] false

  -- at power up
  pub rests_first : (pace : Pace) (device : ℕ) (m : Machine) (h : Hosting (Kept M)) (x : Seated (Desk (Kept M))) → h.device ≡ device → h.pace ≡ pace → h.bus.host ≡ all_free → h.bus.drives ≡ x ∷ [] → x.port ≡ resting (party_of pace device)
      → DeskStands seen x.machine (at_power_up pace device m) → Rests seen h m
  rests_first pace device m h x number paced free one port stands =
      subst (λ (d : ℕ). IsBusAt (Desk (Kept M)) (Desk Machine) (DeskStands seen) h.bus.host h.bus.drives (resting_for h.pace d m)) (sym number)
      (subst (λ (e : Pace). IsBusAt (Desk (Kept M)) (Desk Machine) (DeskStands seen) h.bus.host h.bus.drives (resting_for e device m)) (sym paced)
      (subst (λ (l : Lines). IsBusAt (Desk (Kept M)) (Desk Machine) (DeskStands seen) l h.bus.drives (resting_for pace device m)) (sym free)
      (subst (λ (xs : List (Seated (Desk (Kept M)))). IsBusAt (Desk (Kept M)) (Desk Machine) (DeskStands seen) all_free xs (resting_for pace device m)) (sym one) seat)))
    where
      rest : IsWithout (wires_held_by all_free (x ∷ [])) x.port.own nobody
      rest = subst (λ (q : Port). IsWithout (wires_held_by all_free ((record { port = q; machine = x.machine }) ∷ [])) q.own nobody) (sym port) (record { host = refl; clocks = refl; datas = refl })

      seat : IsBusAt (Desk (Kept M)) (Desk Machine) (DeskStands seen) all_free (x ∷ []) (resting_for pace device m)
      seat = (record { port = port; machine = stands; rest = rest }, tt)

  -- the one drive's disk
  pub disk_of : (h : Hosting (Kept M)) (k : M) → length h.bus.drives ≡ 1 → ((x : Seated (Desk (Kept M))) → h.bus.drives ≡ x ∷ [] → k ≡ x.machine.dos.medium) → (m : Machine) → Rests seen h m → HoldsDisk (seen k).tracks (seen k).content m.disk
  disk_of h k one is m rests = by h.bus.drives refl one rests
    where
      by : (xs : List (Seated (Desk (Kept M)))) → h.bus.drives ≡ xs → length xs ≡ 1 → IsBusAt (Desk (Kept M)) (Desk Machine) (DeskStands seen) h.bus.host xs (resting_for h.pace h.device m) → HoldsDisk (seen k).tracks (seen k).content m.disk
      by [] e l r = absurd (omega (arith, l))
      by (x ∷ []) e l r = subst (λ (y : M). HoldsDisk (seen y).tracks (seen y).content m.disk) (sym (is x e)) (means_of _ _ _ _ _ _ m r.0.machine.0.0)
      by (x ∷ y ∷ xs) e l r = absurd (omega (arith, l))

  pub tracks_of : (h : Hosting (Kept M)) (k : M) → length h.bus.drives ≡ 1 → ((x : Seated (Desk (Kept M))) → h.bus.drives ≡ x ∷ [] → k ≡ x.machine.dos.medium) → (seen k).tracks ∷ [] ≡ tracks_on seen h
  tracks_of h k one is = by h.bus.drives refl one
    where
      by : (xs : List (Seated (Desk (Kept M)))) → h.bus.drives ≡ xs → length xs ≡ 1 → (seen k).tracks ∷ [] ≡ numbers (λ y. (seen y.dos.medium).tracks) xs
      by [] e l = absurd (omega (arith, l))
      by (x ∷ []) e l = ap (λ z. (seen z).tracks ∷ []) (is x e)
      by (x ∷ y ∷ xs) e l = absurd (omega (arith, l))
