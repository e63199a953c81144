-- Whose the steps of a piece are, and that each drive's part is in order.
use Rattle.cbm_session.proofs.joining.Silents.{silent_order}
use Rattle.cbm_iec.specs.declared.pace.Pace.TheVariants.{Profile, Kernal}
use Rattle.cbm_iec.specs.declared.pace.Pace.{Pace}
use Rattle.cbm_session.proofs.Paces.{by_eight}
use Rattle.cbm_iec.specs.Profile.{bit_time, first_accept, half_bit}
use Rattle.std.proofs.Common.{◌≡◌, ℕ, ◌+◌, ◌*◌, ◌≤◌, Bool, true, false, not, List, [], ◌∷◌, ◌++◌, length, Option, Some, None, ap, sym, ◌∙◌, subst, arith, refl}
use Rattle.std.specs.Prelude.{if◌then◌else◌, nat_eq}
use Rattle.cbm_iec.specs.declared.machine.Act.TheVariants.{Attention, Heard, Said}
use Rattle.cbm_iec.specs.declared.machine.Act.{Act}
use Rattle.cbm_iec.specs.declared.event.Who.TheVariants.{Drive}
use Rattle.cbm_iec.specs.declared.lines.Line.TheVariants.{Clock, Data}
use Rattle.cbm_iec.specs.declared.lines.Line.{Line}
use Rattle.cbm_iec.specs.declared.lines.Way.TheVariants.{Pull, Free}
use Rattle.cbm_iec.specs.declared.lines.Way.{Way}
use Rattle.cbm_iec.specs.declared.party.Party.{Party}
use Rattle.cbm_iec.specs.declared.party.Role.TheVariants.{Absent, Listener, Talker}
use Rattle.cbm_iec.specs.declared.party.Role.{Role}
use Rattle.cbm_session.proofs.joining.Merging.{NoneBefore, InOrder, none_sooner}
use Rattle.cbm_session.proofs.joining.OneDrive.{last_after, pulse_within}
use Rattle.cbm_session.proofs.joining.Showing.{AllForeign, AllMine}
use Rattle.cbm_session.proofs.reading.Decoding.{when_mine, mark_act, IsMine, IsAnothers}
use Rattle.cbm_session.specs.Bits.{where_held, where_free, BitCell, cell_steps, cells_steps, held_after, number_of, byte_in_cells}
use Rattle.cbm_session.specs.Frames.{lasting, Sent, Told, wire, end_of, pulse, hearing, sending, SentFits, is_last, signal_steps, first_bit, bit_steps, telling, SignalFits}
use Rattle.cbm_session.specs.Pieces.{silent_part, Whole, Point, freed_steps, host_part, let_go, own_part, Fits, PullPiece, Command, Byte, ToListener, ToNobody, ToTalker, Nothing, Talk}
use Rattle.cbm_session.specs.Seats.{at_pace, Seat, device, reaction, is_listener, is_talker, talker_of, listeners}
use Rattle.cbm_session.specs.Steps.{Mark, Step, host, drive, for_one, Plain, ForEach, For}

-- a step of this drive, which counts for no other
abbrev pub MarkOf : ℕ → Mark → Type 0
MarkOf o Plain = Unit {0}
MarkOf o (ForEach act) = ⊥
MarkOf o (For other act) = other ≡ o

abbrev pub AllOwned : ℕ → List Step → Type 0
AllOwned o [] = Unit {0}
AllOwned o (s ∷ ss) = (s.event.who ≡ Drive o) × MarkOf o s.mark × AllOwned o ss

owned_append : (o : ℕ) (xs ys : List Step) → AllOwned o xs → AllOwned o ys → AllOwned o (xs ++ ys)
owned_append o [] ys a b = b
owned_append o (x ∷ xs) ys a b = (a.0, a.1, owned_append o xs ys a.2 b)

owned_held : (o t : ℕ) (line : Line) (way : Way) (held : Bool) → AllOwned o (where_held held (drive o t line way))
owned_held o t line way true = (refl, tt, tt)
owned_held o t line way false = tt

owned_free : (o t : ℕ) (line : Line) (way : Way) (held : Bool) → AllOwned o (where_free held (drive o t line way))
owned_free o t line way true = tt
owned_free o t line way false = (refl, tt, tt)

owned_pulse : (t : ℕ) (eoi : Bool) (s : Seat) → AllOwned (device s) (pulse t eoi s)
owned_pulse t true s = (refl, tt, (refl, tt, tt))
owned_pulse t false s = tt

owned_hearing : (t : ℕ) (eoi : Bool) (act : Act) (f : Sent) (s : Seat) → AllOwned (device s) (hearing t eoi act f s)
owned_hearing t eoi act f s = (refl, tt, owned_append (device s) (pulse t eoi s) (for_one (device s) act (drive (device s) (end_of f + reaction s) Data Pull) ∷ []) (owned_pulse t eoi s) (refl, refl, tt))

owned_bits : (b : Party) (at : ℕ) (held : Bool) (bits : List Bool) → AllOwned b.device (bit_steps b at held bits)
owned_bits b at true [] = (refl, tt, (refl, tt, tt))
owned_bits b at false [] = (refl, tt, tt)
owned_bits b at true (true ∷ bits) = (refl, tt, (refl, tt, (refl, tt, owned_bits b (at + bit_time b.pace) false bits)))
owned_bits b at false (true ∷ bits) = (refl, tt, (refl, tt, owned_bits b (at + bit_time b.pace) false bits))
owned_bits b at true (false ∷ bits) = (refl, tt, (refl, tt, owned_bits b (at + bit_time b.pace) true bits))
owned_bits b at false (false ∷ bits) = (refl, tt, (refl, tt, (refl, tt, owned_bits b (at + bit_time b.pace) true bits)))

owned_silent : (e : Pace) (d t : ℕ) → AllOwned d (silent_part e d t)
owned_silent Profile d t = (refl, refl, tt)
owned_silent Kernal d t = (refl, tt, (refl, tt, (refl, refl, tt)))

pub owned_telling : (b : Party) (at : ℕ) (f : Told) → AllOwned b.device (telling b at f)
owned_telling b at f = (refl, tt, owned_append b.device (bit_steps b (first_bit b f) false f.bits) (if is_last f then drive b.device (f.accept + b.reaction) Clock Free ∷ [] else []) (owned_bits b (first_bit b f) false f.bits) (go (is_last f)))
  where
    go : (v : Bool) → AllOwned b.device (if v then drive b.device (f.accept + b.reaction) Clock Free ∷ [] else [])
    go true = (refl, tt, tt)
    go false = tt

-- a part that only some drives have
owned_if : (o : ℕ) (v : Bool) (ss : List Step) → AllOwned o ss → AllOwned o (if v then ss else [])
owned_if o true ss a = a
owned_if o false ss a = tt

owned_by_role : (o : ℕ) (r : Role) (a b : List Step) → AllOwned o a → AllOwned o b → AllOwned o (elim r as (λ q. List Step) [ Absent ↦ a | Listener ↦ [] | Talker ↦ b ])
owned_by_role o Absent a b x y = x
owned_by_role o Listener a b x y = tt
owned_by_role o Talker a b x y = y

pub part_owned : (p : Point) (w : Whole) (s : Seat) → AllOwned (device s) (own_part p w s)
part_owned p (PullPiece at) s =
    owned_append (device s) (where_held s.own.clock_low (drive (device s) (at + reaction s) Clock Free)) (where_free s.own.data_low (drive (device s) (at + reaction s) Data Pull))
    (owned_held (device s) (at + reaction s) Clock Free s.own.clock_low) (owned_free (device s) (at + reaction s) Data Pull s.own.data_low)
part_owned p (Command f) s = owned_hearing (wire p.seats f) false (Attention (byte_in_cells f.cells)) f s
part_owned p (Byte eoi f) s = owned_if (device s) (is_listener s.role) (hearing (wire (listeners p.seats) f) eoi (Heard (byte_in_cells f.cells) eoi) f s) (owned_hearing (wire (listeners p.seats) f) eoi (Heard (byte_in_cells f.cells) eoi) f s)
part_owned p (ToListener at) s = owned_by_role (device s) s.role (let_go at s) [] (refl, tt, tt) tt
part_owned p (ToNobody at clock) s = (refl, tt, tt)
part_owned p (ToTalker at clock) s = owned_by_role (device s) s.role (let_go at s) (drive (device s) (clock + reaction s) Clock Pull ∷ drive (device s) (clock + reaction s) Data Free ∷ []) (refl, tt, tt) (refl, tt, (refl, tt, tt))
part_owned p (Nothing at clock freed) s = owned_by_role (device s) s.role (let_go at s) (silent_part s.party.pace (device s) (clock + reaction s)) (refl, tt, tt) (owned_silent s.party.pace (device s) (clock + reaction s))
part_owned p (Talk at f) s = owned_if (device s) (is_talker s.role) (telling (at_pace (talker_of p.seats).pace s.party) at f) (owned_telling (at_pace (talker_of p.seats).pace s.party) at f)

-- as a drive sees it
mark_foreign : (d o : ℕ) (m : Mark) → nat_eq d o ≡ false → MarkOf o m → mark_act d m ≡ None
mark_foreign d o Plain e h = refl
mark_foreign d o (ForEach act) e h = elim h [ ]
mark_foreign d o (For other act) e h = ap (λ (v : Bool). when_mine v (Some act) None) (ap (λ (x : ℕ). nat_eq d x) h ∙ e)

pub owned_foreign : (d o : ℕ) (ss : List Step) → nat_eq d o ≡ false → AllOwned o ss → AllForeign d ss
owned_foreign d o [] e a = tt
owned_foreign d o (s ∷ ss) e a = (record { who = subst (IsAnothers d) (sym a.0) e; mark = mark_foreign d o s.mark e a.1 }, owned_foreign d o ss e a.2)

pub owned_mine : (d o : ℕ) (ss : List Step) → nat_eq d o ≡ true → AllOwned o ss → AllMine d ss
owned_mine d o [] e a = tt
owned_mine d o (s ∷ ss) e a = (subst (IsMine d) (sym a.0) e, owned_mine d o ss e a.2)

-- the host's part
mine_append : (d : ℕ) (xs ys : List Step) → AllMine d xs → AllMine d ys → AllMine d (xs ++ ys)
mine_append d [] ys a b = b
mine_append d (x ∷ xs) ys a b = (a.0, mine_append d xs ys a.1 b)

mine_held : (d t : ℕ) (line : Line) (way : Way) (held : Bool) → AllMine d (where_held held (host t line way))
mine_held d t line way true = (tt, tt)
mine_held d t line way false = tt

mine_free : (d t : ℕ) (line : Line) (way : Way) (held : Bool) → AllMine d (where_free held (host t line way))
mine_free d t line way true = tt
mine_free d t line way false = (tt, tt)

mine_cell : (d : ℕ) (held bit : Bool) (set free pull : ℕ) → AllMine d (cell_steps held (record { bit = bit; set = set; free = free; pull = pull }))
mine_cell d true true set free pull = (tt, (tt, (tt, tt)))
mine_cell d false true set free pull = (tt, (tt, tt))
mine_cell d true false set free pull = (tt, (tt, tt))
mine_cell d false false set free pull = (tt, (tt, (tt, tt)))

mine_cells : (d : ℕ) (held : Bool) (cs : List BitCell) → AllMine d (cells_steps held cs)
mine_cells d held [] = tt
mine_cells d held (c ∷ cs) = mine_append d (cell_steps held c) (cells_steps (not c.bit) cs) (mine_cell d held c.bit c.set c.free c.pull) (mine_cells d (not c.bit) cs)

mine_sending : (d : ℕ) (f : Sent) → AllMine d (sending f)
mine_sending d f = (tt, (tt, mine_append d (cells_steps false f.cells) (where_held (held_after false f.cells) (host (end_of f) Data Free)) (mine_cells d false f.cells) (mine_held d (end_of f) Data Free (held_after false f.cells))))

mine_signal : (d : ℕ) (x : Option (ℕ × ℕ)) → AllMine d (signal_steps x)
mine_signal d None = tt
mine_signal d (Some (pull, free)) = (tt, (tt, tt))

mine_freed : (d : ℕ) (x : Option ℕ) → AllMine d (freed_steps x)
mine_freed d None = tt
mine_freed d (Some at) = (tt, tt)

pub host_mine : (d : ℕ) (p : Point) (w : Whole) → AllMine d (host_part p w)
host_mine d p (PullPiece at) = (tt, mine_append d (where_free p.host.clock_low (host at Clock Pull)) (where_held p.host.data_low (host at Data Free)) (mine_free d at Clock Pull p.host.clock_low) (mine_held d at Data Free p.host.data_low))
host_mine d p (Command f) = mine_sending d f
host_mine d p (Byte eoi f) = mine_sending d f
host_mine d p (ToListener at) = (tt, tt)
host_mine d p (ToNobody at clock) = (tt, (tt, tt))
host_mine d p (ToTalker at clock) = (tt, (tt, (tt, tt)))
host_mine d p (Nothing at clock freed) = (tt, (tt, (tt, mine_freed d freed)))
host_mine d p (Talk at f) = (tt, mine_append d (signal_steps f.signal) (for_one (talker_of p.seats).device (Said (number_of f.bits) (is_last f)) (host f.accept Data Pull) ∷ []) (mine_signal d f.signal) (tt, tt))

-- each drive's part is in order
pub none_append : (m : ℕ) (xs ys : List Step) → NoneBefore m xs → NoneBefore m ys → NoneBefore m (xs ++ ys)
none_append m [] ys a b = b
none_append m (x ∷ xs) ys a b = (a.0, none_append m xs ys a.1 b)

order_pull : (t : ℕ) (v w : Bool) (o : ℕ) → InOrder (where_held v (drive o t Clock Free) ++ where_free w (drive o t Data Pull))
order_pull t true true o = (tt, tt)
order_pull t true false o = ((omega arith, tt), (tt, tt))
order_pull t false true o = tt
order_pull t false false o = (tt, tt)

order_hearing : (t : ℕ) (eoi : Bool) (act : Act) (f : Sent) (s : Seat) → f.ready ≤ t → (eoi ≡ true → t + 200 + lasting s ≤ end_of f + reaction s) → f.ready ≤ end_of f → InOrder (hearing t eoi act f s)
order_hearing t true act f s a b c = let e = b refl in ((omega (arith, a), (omega (arith, a), (omega (arith, c), tt))), ((omega arith, (omega (arith, e), tt)), ((omega (arith, e), tt), (tt, tt))))
order_hearing t false act f s a b c = ((omega (arith, c), tt), (tt, tt))

bits_none : (m : ℕ) (b : Party) (at : ℕ) (held : Bool) (bits : List Bool) → m ≤ at → NoneBefore m (bit_steps b at held bits)
bits_none m b at true [] h = (omega (arith, h), (omega (arith, h), tt))
bits_none m b at false [] h = (omega (arith, h), tt)
bits_none m b at true (true ∷ bits) h = (omega (arith, h), (omega (arith, h), (omega (arith, h), bits_none m b (at + bit_time b.pace) false bits (omega (arith, h)))))
bits_none m b at false (true ∷ bits) h = (omega (arith, h), (omega (arith, h), bits_none m b (at + bit_time b.pace) false bits (omega (arith, h))))
bits_none m b at true (false ∷ bits) h = (omega (arith, h), (omega (arith, h), bits_none m b (at + bit_time b.pace) true bits (omega (arith, h))))
bits_none m b at false (false ∷ bits) h = (omega (arith, h), (omega (arith, h), (omega (arith, h), bits_none m b (at + bit_time b.pace) true bits (omega (arith, h)))))

-- the bits, and one more step after them
order_bits : (b : Party) (at : ℕ) (held : Bool) (bits : List Bool) (more : List Step) → InOrder more → NoneBefore (at + bit_time b.pace * length bits) more → InOrder (bit_steps b at held bits ++ more)
order_bits b at held bits more o n = go at held bits n
  where
    tail : (m : ℕ) (at : ℕ) (held : Bool) (bits : List Bool) → m ≤ at → NoneBefore (at + bit_time b.pace * length bits) more → NoneBefore m (bit_steps b at held bits ++ more)
    tail m at held bits h x = none_append m (bit_steps b at held bits) more (bits_none m b at held bits h) (none_sooner m (at + bit_time b.pace * length bits) more (omega (arith, h)) x)

    go : (at : ℕ) (held : Bool) (bits : List Bool) → NoneBefore (at + bit_time b.pace * length bits) more → InOrder (bit_steps b at held bits ++ more)
    go at true [] x = ((omega arith, none_sooner at (at + bit_time b.pace * 0) more (omega arith) x), (none_sooner at (at + bit_time b.pace * 0) more (omega arith) x, o))
    go at false [] x = (none_sooner at (at + bit_time b.pace * 0) more (omega arith) x, o)
    go at true (true ∷ bits) x =
        let y : NoneBefore (at + bit_time b.pace + bit_time b.pace * length bits) more = none_sooner (at + bit_time b.pace + bit_time b.pace * length bits) (at + bit_time b.pace * length (true ∷ bits)) more (omega arith) x in
        let z = tail at (at + bit_time b.pace) false bits (omega arith) y in
        let u = tail (at + half_bit b.pace) (at + bit_time b.pace) false bits (omega arith) y in
        ((omega arith, (omega arith, z)), ((omega arith, z), (u, go (at + bit_time b.pace) false bits y)))
    go at false (true ∷ bits) x =
        let y : NoneBefore (at + bit_time b.pace + bit_time b.pace * length bits) more = none_sooner (at + bit_time b.pace + bit_time b.pace * length bits) (at + bit_time b.pace * length (true ∷ bits)) more (omega arith) x in
        let z = tail at (at + bit_time b.pace) false bits (omega arith) y in
        let u = tail (at + half_bit b.pace) (at + bit_time b.pace) false bits (omega arith) y in
        ((omega arith, z), (u, go (at + bit_time b.pace) false bits y))
    go at true (false ∷ bits) x =
        let y : NoneBefore (at + bit_time b.pace + bit_time b.pace * length bits) more = none_sooner (at + bit_time b.pace + bit_time b.pace * length bits) (at + bit_time b.pace * length (false ∷ bits)) more (omega arith) x in
        let z = tail at (at + bit_time b.pace) true bits (omega arith) y in
        let u = tail (at + half_bit b.pace) (at + bit_time b.pace) true bits (omega arith) y in
        ((omega arith, z), (u, go (at + bit_time b.pace) true bits y))
    go at false (false ∷ bits) x =
        let y : NoneBefore (at + bit_time b.pace + bit_time b.pace * length bits) more = none_sooner (at + bit_time b.pace + bit_time b.pace * length bits) (at + bit_time b.pace * length (false ∷ bits)) more (omega arith) x in
        let z = tail at (at + bit_time b.pace) true bits (omega arith) y in
        let u = tail (at + half_bit b.pace) (at + bit_time b.pace) true bits (omega arith) y in
        ((omega arith, (omega arith, z)), ((omega arith, z), (u, go (at + bit_time b.pace) true bits y)))

-- a signal of EOI isn't over before it begins
pub signal_from : (free : ℕ) (x : Option (ℕ × ℕ)) → SignalFits free x → free ≤ (elim x as (λ y. ℕ) [ None ↦ free | Some y ↦ y.1 ])
signal_from free None h = omega arith
signal_from free (Some (pull, again)) h = omega (arith, h.0, h.1)

told_order : (b : Party) (at : ℕ) (f : Told) → at + 1 ≤ f.free → SignalFits f.free f.signal → length f.bits ≡ 8 → first_bit b f + first_accept b.pace ≤ f.accept + b.reaction → InOrder (telling b at f)
told_order b at f l g e a = (
  none_append at (bit_steps b (first_bit b f) false f.bits) last (bits_none at b (first_bit b f) false f.bits early) (last_none (is_last f)),
  order_bits b (first_bit b f) false f.bits last (last_order (is_last f)) (last_late (is_last f)),
)
  where
    last : List Step
    last = if is_last f then drive b.device (f.accept + b.reaction) Clock Free ∷ [] else []

    early : at ≤ first_bit b f
    early = let k = signal_from f.free f.signal g in omega (arith, l, k)

    last_none : (v : Bool) → NoneBefore at (if v then drive b.device (f.accept + b.reaction) Clock Free ∷ [] else [])
    last_none true = let k = early in (omega (arith, k, a), tt)
    last_none false = tt

    last_order : (v : Bool) → InOrder (if v then drive b.device (f.accept + b.reaction) Clock Free ∷ [] else [])
    last_order true = (tt, tt)
    last_order false = tt

    last_late : (v : Bool) → NoneBefore (first_bit b f + bit_time b.pace * length f.bits) (if v then drive b.device (f.accept + b.reaction) Clock Free ∷ [] else [])
    last_late true = (omega (arith, e, a, by_eight b.pace e), tt)
    last_late false = tt

order_if : (v : Bool) (ss : List Step) → InOrder ss → InOrder (if v then ss else [])
order_if true ss o = o
order_if false ss o = tt

order_by_role : (r : Role) (a b : List Step) → InOrder a → InOrder b → InOrder (elim r as (λ q. List Step) [ Absent ↦ a | Listener ↦ [] | Talker ↦ b ])
order_by_role Absent a b x y = x
order_by_role Listener a b x y = tt
order_by_role Talker a b x y = y

heard_order : (hs : List Seat) (eoi : Bool) (act : Act) (f : Sent) (s : Seat) → SentFits hs eoi f → InOrder (hearing (wire hs f) eoi act f s)
heard_order hs true act f s h = let k = last_after false f.start f.cells h.cells in let g = h.start in order_hearing (wire hs f) true act f s (omega arith) (λ (e : true ≡ true). omega (arith, pulse_within hs f h s.party.pace)) (omega (arith, k, g))
heard_order hs false act f s h = let k = last_after false f.start f.cells h.cells in let g = h.start.0 in order_hearing (wire hs f) false act f s (omega arith) (λ (e : false ≡ true). cc) (omega (arith, k, g))

-- each drive's part of a piece that fits is in order
pub part_order : (p : Point) (w : Whole) → Fits p w → (s : Seat) → InOrder (own_part p w s)
part_order p (PullPiece at) h s = order_pull (at + reaction s) s.own.clock_low s.own.data_low (device s)
part_order p (Command f) h s = heard_order p.seats false (Attention (byte_in_cells f.cells)) f s h.3
part_order p (Byte eoi f) h s = order_if (is_listener s.role) (hearing (wire (listeners p.seats) f) eoi (Heard (byte_in_cells f.cells) eoi) f s) (heard_order (listeners p.seats) eoi (Heard (byte_in_cells f.cells) eoi) f s h.3)
part_order p (ToListener at) h s = order_by_role s.role (let_go at s) [] (tt, tt) tt
part_order p (ToNobody at clock) h s = (tt, tt)
part_order p (ToTalker at clock) h s = order_by_role s.role (let_go at s) (drive (device s) (clock + reaction s) Clock Pull ∷ drive (device s) (clock + reaction s) Data Free ∷ []) (tt, tt) ((omega arith, tt), (tt, tt))
part_order p (Nothing at clock freed) h s = order_by_role s.role (let_go at s) (silent_part s.party.pace (device s) (clock + reaction s)) (tt, tt) (silent_order s.party.pace (device s) (clock + reaction s))
part_order p (Talk at f) h s =
    let g = h.1 in
    let taken = g.accept in
    let early = first_same f.signal in
    order_if (is_talker s.role) (telling (at_pace (talker_of p.seats).pace s.party) at f) (told_order (at_pace (talker_of p.seats).pace s.party) at f g.free g.signal g.eight (omega (arith, taken, early)))
  where
    first_same : (x : Option (ℕ × ℕ)) → (elim x as (λ y. ℕ) [ None ↦ f.free | Some y ↦ y.1 ]) + s.party.reaction + first_accept (talker_of p.seats).pace ≤ (elim x as (λ y. ℕ) [ None ↦ f.free | Some y ↦ y.1 ]) + (talker_of p.seats).reaction + first_accept (talker_of p.seats).pace + s.party.reaction
    first_same x = omega arith
