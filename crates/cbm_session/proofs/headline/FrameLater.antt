-- A frame of the host under way: where one of its changes is the host's next, no reaction is due at that very moment.
use Rattle.std.proofs.Common.{◌≡◌, ℕ, suc, ◌+◌, ◌≤◌, inl, inr, Bool, true, false, List, [], ◌∷◌, ◌++◌, append_assoc, append-nil, Option, ap, sym, ◌∙◌, subst, arith, refl}
use Rattle.cbm_iec.specs.declared.machine.Act.TheVariants.{Attention, Heard}
use Rattle.cbm_iec.specs.declared.machine.Act.{Act}
use Rattle.cbm_iec.specs.declared.event.Event.{Event}
use Rattle.cbm_iec.specs.declared.event.Who.TheVariants.{Host, Drive}
use Rattle.cbm_iec.specs.declared.lines.Line.TheVariants.{Atn, Clock, Data}
use Rattle.cbm_iec.specs.declared.lines.Line.{Line}
use Rattle.cbm_iec.specs.declared.lines.Way.TheVariants.{Pull, Free}
use Rattle.cbm_session.proofs.among.Around.{every_drives}
use Rattle.cbm_session.proofs.among.Calm.{Every}
use Rattle.cbm_session.proofs.among.Points.{each_seat}
use Rattle.cbm_session.proofs.frames.Accepted.{listen_react}
use Rattle.cbm_session.proofs.frames.Phases.{each, ReactsBy, react_by, commands_go_in_parts, bytes_go_in_parts, none_joined, freed_upto}
use Rattle.cbm_session.proofs.headline.FrameBus.{OfFrame, command_frame, byte_frame}
use Rattle.cbm_session.proofs.headline.FrameStarts.{offer, offer_due}
use Rattle.cbm_session.proofs.headline.AlongBus.{AllGo}
use Rattle.cbm_session.proofs.headline.Here.{Out, IsHosts, Here, hosts_out}
use Rattle.cbm_session.proofs.headline.Keeping.{events_append}
use Rattle.cbm_session.proofs.headline.LaterCells.{fresh, fresh_length, fresh_fits, cells_whole, later_cells, after_the_data}
use Rattle.cbm_session.proofs.headline.SomeDue.{SomeDue, quiet_due, goes_first, data_first}
use Rattle.cbm_session.proofs.headline.Walk.{same_front, react_of, quiet_stays, end_quiet}
use Rattle.cbm_session.proofs.joining.Merging.{NoneBefore}
use Rattle.cbm_session.proofs.joining.OneDrive.{AllUpTo, cells_upto}
use Rattle.cbm_session.proofs.joining.Owning.{none_append}
use Rattle.cbm_session.proofs.reading.OneReading.{is_atn}
use Rattle.cbm_session.proofs.reading.PieceReadings.{is_commanding}
use Rattle.cbm_iec.specs.declared.port.Port.{Port}
use Rattle.cbm_session.specs.Among.{Rest}
use Rattle.cbm_session.specs.Bits.{BitCell, CellsFit, where_held, cells_steps, held_after, last_pull, byte_in_cells}
use Rattle.cbm_session.specs.Frames.{Sent, wire, quiet, end_of, SentFits, StartFits, pulse}
use Rattle.cbm_session.specs.Laws.{SeatsReact, releases, pulses, from_start, accepts, frame_in_parts}
use Rattle.cbm_session.specs.Pieces.{Whole, Point, Full, Command, Byte, steps_of, Fits}
use Rattle.cbm_session.specs.Playing.{Station, Plays}
use Rattle.cbm_session.specs.Seats.{Seat, device, reaction, listeners, slowest}
use Rattle.cbm_session.specs.Sessions.{MayEnd}
use Rattle.cbm_session.specs.Steps.{Step, moment_of, events_of, host, drive, for_one}

-- a step of a drive
abbrev pub OfDrive : Step → Type 0
OfDrive s = s.event.who ≡ Host → ⊥

-- a change of the host stands after the drives' that come before it
pub past_drives : (ds r front : List Step) (s : Step) (others : List Step) → Every OfDrive ds → ds ++ r ≡ front ++ s ∷ others → s.event.who ≡ Host → (l : List Step) × ((front ≡ ds ++ l) × (r ≡ l ++ s ∷ others))
past_drives [] r front s others a e w = (front, (refl, e))
past_drives (d ∷ ds) r [] s others a e w = let same : d ≡ s = cc in absurd (a.0 (ap (λ (v : Step). v.event.who) same ∙ w))
past_drives (d ∷ ds) r (x ∷ front) s others a e w =
    let same : d ≡ x = cc in
    let tail : ds ++ r ≡ front ++ s ∷ others = cc in
    let k = past_drives ds r front s others a.1 tail w in
    (k.0, (ap (λ (v : Step). v ∷ front) (sym same) ∙ ap (λ (l : List Step). d ∷ l) k.1.0, k.1.1))

-- and before those that come after it
no_host : (ds front : List Step) (s : Step) (others : List Step) → Every OfDrive ds → ds ≡ front ++ s ∷ others → s.event.who ≡ Host → ⊥
no_host [] [] s others a e w = cc
no_host [] (x ∷ front) s others a e w = cc
no_host (d ∷ ds) [] s others a e w = let same : d ≡ s = cc in a.0 (ap (λ (v : Step). v.event.who) same ∙ w)
no_host (d ∷ ds) (x ∷ front) s others a e w = let tail : ds ≡ front ++ s ∷ others = cc in no_host ds front s others a.1 tail w

pub upto_drives : (hs ds front : List Step) (s : Step) (others : List Step) → Every OfDrive ds → hs ++ ds ≡ front ++ s ∷ others → s.event.who ≡ Host → (post : List Step) × ((hs ≡ front ++ s ∷ post) × (others ≡ post ++ ds))
upto_drives [] ds front s others a e w = absurd (no_host ds front s others a e w)
upto_drives (h ∷ hs) ds [] s others a e w =
    let same : h ≡ s = cc in
    let tail : hs ++ ds ≡ others = cc in
    (hs, (ap (λ (v : Step). v ∷ hs) same, sym tail))
upto_drives (h ∷ hs) ds (x ∷ front) s others a e w =
    let same : h ≡ x = cc in
    let tail : hs ++ ds ≡ front ++ s ∷ others = cc in
    let k = upto_drives hs ds front s others a tail w in
    (k.0, (ap (λ (l : List Step). h ∷ l) k.1.0 ∙ ap (λ (v : Step). v ∷ (front ++ s ∷ k.0)) same, k.1.1))

pub not_host : (d : ℕ) → Drive d ≡ Host → ⊥
not_host d e = cc

releases_of : (hs : List Seat) (f : Sent) → Every OfDrive (releases hs f)
releases_of hs f = every_drives OfDrive (λ (s : Seat). drive (device s) (f.ready + reaction s) Data Free ∷ []) hs (each_seat (λ x. Every OfDrive (drive (device x) (f.ready + reaction x) Data Free ∷ [])) hs (λ (x : Seat). (not_host (device x), tt)))

pulses_of : (hs : List Seat) (t : ℕ) (eoi : Bool) → Every OfDrive (pulses hs t eoi)
pulses_of hs t eoi = every_drives OfDrive (λ (s : Seat). pulse t eoi s) hs (each_seat (λ x. Every OfDrive (pulse t eoi x)) hs (λ (x : Seat). go x eoi))
  where
    go : (x : Seat) (v : Bool) → Every OfDrive (pulse t v x)
    go x true = (not_host (device x), (not_host (device x), tt))
    go x false = tt

accepts_of : (hs : List Seat) (f : Sent) (act : Act) → Every OfDrive (accepts hs f act)
accepts_of hs f act =
    every_drives OfDrive (λ (s : Seat). for_one (device s) act (drive (device s) (end_of f + reaction s) Data Pull) ∷ []) hs (each_seat (λ x. Every OfDrive (for_one (device x) act (drive (device x) (end_of f + reaction x) Data Pull) ∷ [])) hs (λ (x : Seat). (not_host (device x), tt)))

every_none : (m : ℕ) (ss : List Step) → Every (λ s. m ≤ moment_of s) ss → NoneBefore m ss
every_none m [] a = tt
every_none m (s ∷ ss) a = (a.0, every_none m ss a.1)

-- the accepts come later than all bits
accepts_late : (hs : List Seat) (f : Sent) (act : Act) (t : ℕ) → SeatsReact hs → t ≤ end_of f → NoneBefore (suc t) (accepts hs f act)
accepts_late hs f act t r l =
    every_none (suc t) (accepts hs f act) (every_drives (λ s. suc t ≤ moment_of s) (λ (s : Seat). for_one (device s) act (drive (device s) (end_of f + reaction s) Data Pull) ∷ []) hs
    (each (ReactsBy (slowest hs)) (λ x. Every (λ s. suc t ≤ moment_of s) (for_one (device x) act (drive (device x) (end_of f + reaction x) Data Pull) ∷ [])) hs (λ x k. (let a = k.0 in omega (arith, a, l), tt)) (react_by (slowest hs) hs r (omega arith))))

-- the first of two lists
first_late : (m : ℕ) (xs : List Step) (z : Step) (zs : List Step) → NoneBefore m xs → m ≤ moment_of z → (y : Step) × ((ys : List Step) × ((xs ++ z ∷ zs ≡ y ∷ ys) × (m ≤ moment_of y)))
first_late m [] z zs a l = (z, (zs, (refl, l)))
first_late m (x ∷ xs) z zs a l = (x, (xs ++ z ∷ zs, (refl, a.0)))

-- the pulses come after the time of EOI
pulses_late : (hs : List Seat) (t m : ℕ) (eoi : Bool) → m ≤ t + 200 → NoneBefore m (pulses hs t eoi)
pulses_late hs t m eoi l = every_none m (pulses hs t eoi) (every_drives (λ s. m ≤ moment_of s) (λ (s : Seat). pulse t eoi s) hs (each_seat (λ x. Every (λ s. m ≤ moment_of s) (pulse t eoi x)) hs (λ (x : Seat). go x eoi)))
  where
    go : (x : Seat) (v : Bool) → Every (λ s. m ≤ moment_of s) (pulse t v x)
    go x true = (omega (arith, l), (omega (arith, l), tt))
    go x false = tt

-- a change among the bits is no later than their end
whole_upto : (held : Bool) (pull : ℕ) (cs : List BitCell) (pre : List Step) (s : Step) (post : List Step) → CellsFit held pull cs → cells_whole held pull cs ≡ pre ++ s ∷ post → moment_of s ≤ last_pull pull cs
whole_upto held pull cs pre s post h e = in_it pre (cells_whole held pull cs) e (both (cells_steps held cs) (cells_upto (last_pull pull cs) held pull cs h (omega arith)))
  where
    both : (xs : List Step) → AllUpTo (last_pull pull cs) xs → AllUpTo (last_pull pull cs) (xs ++ where_held (held_after held cs) (host (last_pull pull cs) Data Free))
    both [] a = freed_upto (held_after held cs) (last_pull pull cs)
    both (x ∷ xs) a = (a.0, both xs a.1)

    in_it : (pre xs : List Step) → xs ≡ pre ++ s ∷ post → AllUpTo (last_pull pull cs) xs → moment_of s ≤ last_pull pull cs
    in_it [] [] e a = absurd cc
    in_it [] (x ∷ xs) e a = let same : x ≡ s = cc in subst (λ (v : Step). moment_of v ≤ last_pull pull cs) same a.0
    in_it (y ∷ pre) [] e a = absurd cc
    in_it (y ∷ pre) (x ∷ xs) e a = let tail : xs ≡ pre ++ s ∷ post = cc in in_it pre xs tail a.1

abbrev pub sent_at : Sent → ℕ → List BitCell → Sent
sent_at f start cells = record { ready = f.ready; start = start; cells = cells }

pub too_long : (front : List Step) (y : Step) (ys : List Step) (more : List Event) → events_of front ≡ events_of (front ++ y ∷ ys) ++ more → ⊥
too_long [] y ys more e = cc
too_long (x ∷ front) y ys more e = let tail : events_of front ≡ events_of (front ++ y ∷ ys) ++ more = cc in too_long front y ys more tail

pub every_at : (P : Step → Type 0) (front : List Step) (s : Step) (others : List Step) → Every P (front ++ s ∷ others) → P s
every_at P [] s others a = a.0
every_at P (x ∷ front) s others a = every_at P front s others a.1

module _ (M : Type 0) (step : M → Act → M) (peek : M → Option (ℕ × Bool)) (place : ℕ → ℕ) (p : Point) (ms : ℕ → M) (xs : List (Station M)) (here : Here M step peek place p ms xs) {n n2 : ℕ} {ss2 : List (Station M)} {es : List Event} (plays : Plays M step peek n xs es n2 ss2) (t : ℕ) (due : SomeDue M step peek t ss2) where
  -- where a session may end nothing is due
  pub quiet_never : MayEnd p.place → es ≡ [] → ⊥
  quiet_never m e =
      let quiet = end_quiet M step peek place p m p.seats xs here.stand in
      quiet_due M step peek place t xs quiet (subst (SomeDue M step peek t) (quiet_stays M step peek place plays quiet e) due)

  -- All go on with what is left of a frame that begins so, whichever it is.
  record GoesNow (y : Step) (ys : List Step) : Type 0 where
    pub says : ℕ → Option (ℕ × Bool)
    pub fin : List (Rest × Port)
    pub goes : AllGo M step peek says place ss2 (y ∷ ys) fin

  goes_now : (w : Whole) → IsHosts w → Fits p w → (front : List Step) (y : Step) (ys : List Step) → steps_of p w ≡ front ++ y ∷ ys → events_of front ≡ es → GoesNow y ys
  goes_now w a fits front y ys is shown = by_out (hosts_out M step peek place p ms xs here w a fits plays (events_of (y ∷ ys)) [] begins)
    where
      begins : es ++ events_of (y ∷ ys) ≡ events_of (steps_of p w) ++ []
      begins = ap (λ (l : List Event). l ++ events_of (y ∷ ys)) (sym shown) ∙ sym (events_append front (y ∷ ys)) ∙ ap (λ (l : List Step). events_of l) (sym is) ∙ sym (append-nil (events_of (steps_of p w)))

      by_out : Out M step peek place p ms xs here (Full w) es n2 ss2 → GoesNow y ys
      by_out (inl i) =
          let same = same_front i.front (i.next ∷ i.others) front (y ∷ ys) (sym i.parts ∙ is) (i.shown_so ∙ sym shown) in
          record { says = i.going.says; fin = i.going.fin; goes = subst (λ (l : List Step). AllGo M step peek i.going.says place ss2 l i.going.fin) same.1 i.going.goes }
      by_out (inr b) = absurd (too_long front y ys b.more (shown ∙ b.shown_so ∙ ap (λ (l : List Step). events_of l ++ b.more) is))

  -- so none goes on later
  later_never : (w : Whole) → IsHosts w → Fits p w → (front : List Step) (y : Step) (ys : List Step) → steps_of p w ≡ front ++ y ∷ ys → events_of front ≡ es → suc t ≤ moment_of y → ⊥
  later_never w a fits front y ys is shown late =
      let g = goes_now w a fits front y ys is shown in
      let soon = goes_first M step peek g.says place t ss2 y ys g.fin g.goes due in
      absurd (omega (arith, soon, late))

  -- or with DATA then, and all else later
  data_never : (w : Whole) → IsHosts w → Fits p w → (front : List Step) (s : Step) (others : List Step) → steps_of p w ≡ front ++ s ∷ others → events_of front ≡ es → s.event.who ≡ Host → s.event.change.line ≡ Data → moment_of s ≡ t → NoneBefore (suc t) others → ⊥
  data_never w a fits front s others is shown who line at late =
      let g = goes_now w a fits front s others is shown in
      data_first M step peek g.says place t ss2 s others g.fin g.goes who line at late due

  module _ (hs : List Seat) (r : SeatsReact hs) (eoi : Bool) (f : Sent) (sent : SentFits hs eoi f) (w : Sent → Whole) (act : Sent → Act) (hosts : (g : Sent) → IsHosts (w g)) (fits : (start : ℕ) (cells : List BitCell) → SentFits hs eoi (sent_at f start cells) → Fits p (w (sent_at f start cells)))
      (parts : (g : Sent) → Fits p (w g) → steps_of p (w g) ≡ frame_in_parts hs eoi (act g) g) (frame : Every OfFrame (steps_of p (w f))) (ends : MayEnd p.place) where
    abbrev before_bits : List Step
    before_bits = host f.ready Clock Free ∷ (releases hs f ++ pulses hs (wire hs f) eoi)

    -- what comes before the bits, and the bits
    is_split : (g : Sent) → frame_in_parts hs eoi (act g) g ≡ (host g.ready Clock Free ∷ (releases hs g ++ pulses hs (wire hs g) eoi)) ++ (from_start g ++ accepts hs g (act g))
    is_split g = ap (λ (l : List Step). host g.ready Clock Free ∷ l) (sym (append_assoc (releases hs g) (pulses hs (wire hs g) eoi) (from_start g ++ accepts hs g (act g))))

    whole : Fits p (w f)
    whole = fits f.start f.cells sent

    steps_are : steps_of p (w f) ≡ before_bits ++ (from_start f ++ accepts hs f (act f))
    steps_are = parts f whole ∙ is_split f

    among_cells : (pre : List Step) (s : Step) (post : List Step) → cells_whole false f.start f.cells ≡ pre ++ s ∷ post → events_of (before_bits ++ host f.start Clock Pull ∷ pre) ≡ es → s.event.who ≡ Host → moment_of s ≡ t → is_atn s.event.change.line ≡ false → ⊥
    among_cells pre s post e shown who at no_atn = by_line s.event.change.line refl no_atn
      where
        front : List Step
        front = before_bits ++ host f.start Clock Pull ∷ pre

        acc : List Step
        acc = accepts hs f (act f)

        steps : steps_of p (w f) ≡ front ++ s ∷ (post ++ acc)
        steps =
            steps_are
            ∙ ap (λ (l : List Step). before_bits ++ (host f.start Clock Pull ∷ l ++ acc)) e
            ∙ ap (λ (l : List Step). before_bits ++ host f.start Clock Pull ∷ l) (append_assoc pre (s ∷ post) acc)
            ∙ sym (append_assoc before_bits (host f.start Clock Pull ∷ pre) (s ∷ (post ++ acc)))

        by_line : (l : Line) → s.event.change.line ≡ l → is_atn l ≡ false → ⊥
        by_line Atn k a = cc
        by_line Data k a =
            let end = whole_upto false f.start f.cells pre s post sent.cells e in
            let late = after_the_data false f.start f.cells pre s post sent.cells e k in
            data_never (w f) (hosts f) whole front s (post ++ acc) steps shown who k at (none_append (suc t) post acc (subst (λ (m : ℕ). NoneBefore (suc m) post) at late) (accepts_late hs f (act f) t r (omega (arith, at, end))))
        by_line Clock k a =
            let z = later_cells false f.start f.cells pre s post sent.cells e k in
            let g = sent_at f f.start z.cells in
            let fit = fits f.start z.cells (record { start = start_same eoi sent.start z.cells; eight = z.same ∙ sent.eight; cells = z.fits }) in
            let is : steps_of p (w g) ≡ front ++ z.first ∷ (z.others ++ accepts hs g (act g)) =
            parts g fit ∙ is_split g
            ∙ ap (λ (l : List Step). before_bits ++ (host f.start Clock Pull ∷ l ++ accepts hs g (act g))) z.is
            ∙ ap (λ (l : List Step). before_bits ++ host f.start Clock Pull ∷ l) (append_assoc pre (z.first ∷ z.others) (accepts hs g (act g)))
            ∙ sym (append_assoc before_bits (host f.start Clock Pull ∷ pre) (z.first ∷ (z.others ++ accepts hs g (act g)))) in
            let late = z.late.0 in
            later_never (w g) (hosts g) fit front z.first (z.others ++ accepts hs g (act g)) is shown (omega (arith, late, at))
          where
            start_same : (v : Bool) → StartFits hs v f → (cells : List BitCell) → StartFits hs v (sent_at f f.start cells)
            start_same true h cells = h
            start_same false h cells = h

    -- So none of the host's next changes meets a reaction, where its first pull of CLOCK doesn't.
    pub frame_never : (at_start : f.start ≡ t → events_of before_bits ≡ es → ⊥) (front : List Step) (s : Step) (others : List Step) → steps_of p (w f) ≡ front ++ s ∷ others → events_of front ≡ es → s.event.who ≡ Host → moment_of s ≡ t → ⊥
    frame_never at_start [] s others e shown who at = quiet_never ends (sym shown)
    frame_never at_start (x ∷ front) s others e shown who at =
        let all : host f.ready Clock Free ∷ (releases hs f ++ (pulses hs (wire hs f) eoi ++ (from_start f ++ accepts hs f (act f)))) ≡ x ∷ (front ++ s ∷ others) = sym (parts f whole) ∙ e in
        let first : host f.ready Clock Free ≡ x = cc in
        let tail : releases hs f ++ (pulses hs (wire hs f) eoi ++ (from_start f ++ accepts hs f (act f))) ≡ front ++ s ∷ others = cc in
        let a = past_drives (releases hs f) (pulses hs (wire hs f) eoi ++ (from_start f ++ accepts hs f (act f))) front s others (releases_of hs f) tail who in
        let b = past_drives (pulses hs (wire hs f) eoi) (from_start f ++ accepts hs f (act f)) a.0 s others (pulses_of hs (wire hs f) eoi) a.1.1 who in
        let c = upto_drives (from_start f) (accepts hs f (act f)) b.0 s others (accepts_of hs f (act f)) b.1.1 who in
        let front_is : x ∷ front ≡ before_bits ++ b.0 =
        ap (λ (v : Step). v ∷ front) (sym first) ∙ ap (λ (l : List Step). host f.ready Clock Free ∷ l) (a.1.0 ∙ ap (λ (l : List Step). releases hs f ++ l) b.1.0 ∙ sym (append_assoc (releases hs f) (pulses hs (wire hs f) eoi) b.0)) in
        by_place b.0 c.0 c.1.0 (ap (λ (l : List Step). events_of l) (sym front_is) ∙ shown)
      where
        by_place : (l post : List Step) → from_start f ≡ l ++ s ∷ post → events_of (before_bits ++ l) ≡ es → ⊥
        by_place [] post k sh =
            let same : host f.start Clock Pull ≡ s = cc in
            at_start (ap (λ (v : Step). moment_of v) same ∙ at) (ap (λ (l : List Step). events_of l) (sym (append-nil before_bits)) ∙ sh)
        by_place (y ∷ pre) post k sh =
            let same : host f.start Clock Pull ≡ y = cc in
            let bits : cells_whole false f.start f.cells ≡ pre ++ s ∷ post = cc in
            let of = every_at OfFrame (x ∷ front) s others (subst (Every OfFrame) e frame) in
            among_cells pre s post bits (ap (λ (v : Step). events_of (before_bits ++ v ∷ pre)) same ∙ sh) who at of.0

  -- A byte in attention.
  pub command_never : (f : Sent) → Fits p (Command f) → (front : List Step) (s : Step) (others : List Step) → steps_of p (Command f) ≡ front ++ s ∷ others → events_of front ≡ es → s.event.who ≡ Host → moment_of s ≡ t → ⊥
  command_never f fits =
      frame_never p.seats r false f fits.3 (λ g. Command g) (λ g. Attention (byte_in_cells g.cells)) (λ g. tt) (λ start cells sent. (fits.0, fits.1, fits.2, sent)) (λ g k. commands_go_in_parts p g r k) (command_frame p f) may at_start
    where
      r : SeatsReact p.seats
      r = react_of M step peek place p p.seats xs refl here.stand

      may : MayEnd p.place
      may = let c = is_commanding fits.0 in subst MayEnd (sym c.1) tt

      at_start : f.start ≡ t → events_of (host f.ready Clock Free ∷ (releases p.seats f ++ pulses p.seats (wire p.seats f) false)) ≡ es → ⊥
      at_start at shown =
          let none : host f.ready Clock Free ∷ (releases p.seats f ++ pulses p.seats (wire p.seats f) false) ≡ offer p.seats f = ap (λ (l : List Step). host f.ready Clock Free ∷ (releases p.seats f ++ l)) (none_joined [] p.seats) ∙ append-nil (offer p.seats f) in
          let late = offer_due M step peek place p f fits r here.rises xs here.stand plays (sym shown ∙ ap (λ (l : List Step). events_of l) none) t due in
          let soon = fits.3.start.1 in
          absurd (omega (arith, late, soon, at))

  -- A byte to listeners.
  pub byte_never : (eoi : Bool) (f : Sent) → Fits p (Byte eoi f) → (front : List Step) (s : Step) (others : List Step) → steps_of p (Byte eoi f) ≡ front ++ s ∷ others → events_of front ≡ es → s.event.who ≡ Host → moment_of s ≡ t → ⊥
  byte_never eoi f fits =
      frame_never hs r eoi f fits.3 (λ g. Byte eoi g) (λ g. Heard (byte_in_cells g.cells) eoi) (λ g. tt) (λ start cells sent. (fits.0, fits.1, fits.2, sent)) (λ g k. bytes_go_in_parts p eoi g all k) (byte_frame p eoi f) (subst MayEnd (sym fits.0) tt) (at_start eoi fits)
    where
      hs : List Seat
      hs = listeners p.seats

      all : SeatsReact p.seats
      all = react_of M step peek place p p.seats xs refl here.stand

      r : SeatsReact (listeners p.seats)
      r = listen_react p.seats all

      -- with EOI it begins its bits later, or signals EOI before them
      at_start : (v : Bool) → Fits p (Byte v f) → f.start ≡ t → events_of (host f.ready Clock Free ∷ (releases (listeners p.seats) f ++ pulses (listeners p.seats) (wire (listeners p.seats) f) v)) ≡ es → ⊥
      at_start true k at shown =
          let g = sent_at f (f.start + 1) (fresh false 8 (f.start + 1)) in
          let begin : quiet (listeners p.seats) f + 1 ≤ f.start = k.3.start in
          let fit : Fits p (Byte true g) = (k.0, k.1, k.2, record { start = omega (arith, begin); eight = fresh_length false 8 (f.start + 1); cells = fresh_fits false 8 (f.start + 1) }) in
          let act = Heard (byte_in_cells g.cells) true in
          let front = host f.ready Clock Free ∷ (releases (listeners p.seats) f ++ pulses (listeners p.seats) (wire (listeners p.seats) f) true) in
          later_never (Byte true g) tt fit front (host g.start Clock Pull) (cells_whole false g.start g.cells ++ accepts (listeners p.seats) g act)
          (bytes_go_in_parts p true g all fit ∙ ap (λ (l : List Step). host f.ready Clock Free ∷ l) (sym (append_assoc (releases (listeners p.seats) f) (pulses (listeners p.seats) (wire (listeners p.seats) f) true) (from_start g ++ accepts (listeners p.seats) g act)))) shown (omega (arith, at))
      at_start false k at shown =
          let g = sent_at f (quiet (listeners p.seats) f + 1) (fresh false 8 (quiet (listeners p.seats) f + 1)) in
          let fit : Fits p (Byte true g) = (k.0, k.1, k.2, record { start = omega arith; eight = fresh_length false 8 (quiet (listeners p.seats) f + 1); cells = fresh_fits false 8 (quiet (listeners p.seats) f + 1) }) in
          let act = Heard (byte_in_cells g.cells) true in
          let soon = k.3.start.1 in
          let z = first_late (suc t) (pulses (listeners p.seats) (wire (listeners p.seats) f) true) (host g.start Clock Pull) (cells_whole false g.start g.cells ++ accepts (listeners p.seats) g act) (pulses_late (listeners p.seats) (wire (listeners p.seats) f) (suc t) true (omega (arith, soon, at))) (omega (arith, soon, at)) in
          let none : host f.ready Clock Free ∷ (releases (listeners p.seats) f ++ pulses (listeners p.seats) (wire (listeners p.seats) f) false) ≡ offer (listeners p.seats) f = ap (λ (l : List Step). host f.ready Clock Free ∷ (releases (listeners p.seats) f ++ l)) (none_joined [] (listeners p.seats)) ∙ append-nil (offer (listeners p.seats) f) in
          later_never (Byte true g) tt fit (offer (listeners p.seats) f) z.0 z.1.0
          (bytes_go_in_parts p true g all fit ∙ ap (λ (l : List Step). offer (listeners p.seats) f ++ l) z.1.1.0) (sym (ap (λ (l : List Step). events_of l) none) ∙ shown) z.1.1.1
