-- C: its sources are the machine's, and what it leaves.
use Rattle.std.proofs.Common.{◌≡◌, ◌≢◌, ℕ, ◌+◌, ◌<◌, ◌≤◌, Bool, true, false, List, [], ◌∷◌, ◌++◌, length, drop, refl, sym, ap, ◌∙◌, subst, inl, inr, Option, Some, None, Result, Ok, Err, IsErrAnd, arith}
use Rattle.std.specs.Prelude.{◌||◌, not, nat_lt, max, flat_map, slice_index_or}
use Rattle.std.specs.List.{AllZip}
use Rattle.std.proofs.lemmas.Bool.{cases_lt}
use Rattle.std.proofs.lemmas.Bool.Decides.{nat_tests}
use Rattle.std.proofs.lemmas.List.{at_drop_more, append-nil, append_assoc, drop_all, get_or_past}
use Rattle.cbm_medium.specs.declared.fault.Trouble.{Trouble}
use Rattle.cbm_file.specs.declared.file_type.FileType.{FileType}
use Rattle.cbm_file.specs.declared.file_type.FileType.TheVariants.{Del, Rel}
use Rattle.cbm_file.specs.Types.{is_same_type}
use Rattle.cbm_file.specs.Files.{Bytes, File, Disk, file_at, bytes_in, blocks_of, parts}
use Rattle.cbm_file.specs.Changes.{has_slot, new_slot, with_file, closed_file, slot_bytes, joined, copy_blocks, with_copy}
use Rattle.cbm_command.specs.Refusals.{◌>>=◌, unless}
use Rattle.cbm_medium.specs.Content.{Content}
use Rattle.cbm_volume.specs.Holding.{EntrySays}
use Rattle.cbm_volume.specs.Copies.{AreCopied, HasNoRoomFor}
use Rattle.cbm_volume.specs.Writers.{Use, HoldsNow, known, IsEither}
use Rattle.cbm_volume.specs.Writers as usage
use Rattle.cbm_machine.specs.declared.code.Code.{Code}
use Rattle.cbm_machine.specs.declared.code.Code.TheVariants.{Fine, WrongType, WriteFileOpen, DiskFull, WriteProtected}
use Rattle.cbm_machine.specs.declared.status.Status.{Status}
use Rattle.cbm_machine.specs.Statuses.{plain, trouble_status}
use Rattle.cbm_machine.specs.Machines.{Machine, Channel, answered, say, with_status, with_disk}
use Rattle.cbm_machine.specs.Finding.{is_there, found}
use Rattle.cbm_machine.specs.Running.{source, sources, copied, copy}
use Rattle.cbm_machine.specs.Told.{ToldStatus}
use Rattle.cbm_channel.specs.declared.channel.Channel as kept
use Rattle.cbm_channel.specs.declared.channel.Channel.TheVariants as code
use Rattle.cbm_channel.specs.declared.finding.Found.{Found}
use Rattle.cbm_channel.specs.declared.dos.copying.Source.{Source}
use Rattle.cbm_channel.specs.Standing.{StandsBy, uses_of}
use Rattle.cbm_channel.specs.Going.{IsStopped}
use Rattle.cbm_channel.specs.Planned.{FoundAs}
use Rattle.cbm_channel.specs.Joined.{IsSource, SourceAs, AddsSources, IsCopying, RefusesCopy}
use Rattle.cbm_channel.proofs.Commanding.{stopped_on}
use Rattle.cbm_channel.proofs.DiskSteps.{KeepsOpen, with_other_disk}
use Rattle.cbm_channel.proofs.Opens.{new_else, new_empty, either_stays, idle_at, not_del}
use Rattle.cbm_channel.proofs.Orders.{known_is}

-- ---- one source

-- a file that was found, and what its entry says
pub record IsMet (d : Disk) (r : Result (ℕ × File) Code) (file : Found) : Type 0 where
  pub f : File
  pub is : r ≡ Ok (file.slot, f)
  pub in_slot : file_at d file.slot ≡ Some f
  pub says : EntrySays f file.entry

pub met_is : (t : ℕ) (c : Content) (d : Disk) (r : Result (ℕ × File) Code) (file : Found) → FoundAs t c d r (Ok file) → IsMet d r file
met_is t c d (Ok x) file h =
    let both : x ≡ (file.slot, x.1) = λ i. (h.number i, x.1) in
    record { f = x.1; is = ap (λ (y : ℕ × File). Ok y) both; in_slot = ap (file_at d) (sym h.number) ∙ h.in_slot; says = h.says }
met_is t c d (Err e) file h = absurd h

-- the type in an entry is one
abbrev kind_or : FileType → Option FileType → FileType
kind_or k None = k
kind_or k (Some x) = x

pub one_kind : (o : Option FileType) (a b : FileType) → o ≡ Some a → o ≡ Some b → a ≡ b
one_kind o a b p q = ap (kind_or a) (sym p ∙ q)

module _ (d : Disk) (name : List ℕ) where
  module _ (slot : ℕ) (f : File) (is : found d name None ≡ Ok (slot, f)) where
    -- it has no bytes
    pub source_wrong : (status : Status) → (is_same_type Rel f.kind || is_same_type Del f.kind) ≡ true → status ≡ plain WrongType → SourceAs d (source d name) (Err status)
    source_wrong status wrong e = rw (is, wrong) e

    module _ (right : (is_same_type Rel f.kind || is_same_type Del f.kind) ≡ false) where
      -- it was never closed
      pub source_open : (status : Status) → f.closed ≡ false → status ≡ plain WriteFileOpen → SourceAs d (source d name) (Err status)
      source_open status open_yet e = rw (is, right, open_yet) e

      pub source_done : (s : Source) → f.closed ≡ true → file_at d slot ≡ Some f → s.slot ≡ slot → s.kind ≡ f.kind → SourceAs d (source d name) (Ok s)
      source_done s closed at same kind =
          let so : source d name ≡ Ok f = rw (is, right, closed) refl in
          subst (λ (r : Result File Code). SourceAs d r (Ok s)) (sym so) (
            record {
              in_slot = ap (file_at d) same ∙ at;
              closed = closed;
              kept = second (is_same_type Rel f.kind) (is_same_type Del f.kind) right;
              plain = first (is_same_type Rel f.kind) (is_same_type Del f.kind) right;
            },
            kind,
          )
        where
          first : (a b : Bool) → (a || b) ≡ false → a ≡ false
          first true b h = absurd (cc)
          first false b h = refl

          second : (a b : Bool) → (a || b) ≡ false → b ≡ false
          second true b h = absurd (cc)
          second false b h = h

-- the source that a result has
pub source_is : (d : Disk) (r : Result File Code) (s : Source) → SourceAs d r (Ok s) → (f : File) × (r ≡ Ok f) × IsSource d f s.slot × (s.kind ≡ f.kind)
source_is d (Ok f) s h = (f, refl, h.0, h.1)
source_is d (Err code) s h = absurd h

pub refusal_is : (d : Disk) (r : Result File Code) (status : Status) → SourceAs d r (Err status) → (code : Code) × (r ≡ Err code) × (status ≡ plain code)
refusal_is d (Ok f) status h = absurd h
refusal_is d (Err code) status h = (code, refl, h)

-- ---- several sources

zip_snoc : (d : Disk) (fs : List File) (ns : List ℕ) (f : File) (n : ℕ) → AllZip (IsSource d) fs ns → IsSource d f n → AllZip (IsSource d) (fs ++ f ∷ []) (ns ++ n ∷ [])
zip_snoc d [] [] f n h k = (k, tt)
zip_snoc d [] (x ∷ ns) f n h k = absurd h
zip_snoc d (g ∷ fs) [] f n h k = absurd h
zip_snoc d (g ∷ fs) (x ∷ ns) f n h k = (h.0, zip_snoc d fs ns f n h.1 k)

-- files before those that a list gives
abbrev pub after : List File → Result (List File) Code → Result (List File) Code
after fs r = r >>= λ gs. Ok (fs ++ gs)

after_nothing : (r : Result (List File) Code) → r ≡ after [] r
after_nothing (Ok gs) = refl
after_nothing (Err e) = refl

after_one : (fs : List File) (f : File) (r : Result (List File) Code) → after fs (r >>= λ gs. Ok (f ∷ gs)) ≡ after (fs ++ f ∷ []) r
after_one fs f (Ok gs) = ap (λ (xs : List File). Ok xs) (sym (append_assoc fs (f ∷ []) gs))
after_one fs f (Err e) = refl

-- THE SOURCES SO FAR: their slots were added, and the machine has their files before those of the names that are left.
pub record IsAdding (d : Disk) (names left : List (List ℕ)) (old new : List ℕ) : Type 0 where
  pub files : List File
  pub slots : List ℕ
  pub added : new ≡ old ++ slots
  pub each : AllZip (IsSource d) files slots
  pub whole : sources d names ≡ after files (sources d left)

pub adding_first : (d : Disk) (names : List (List ℕ)) (old : List ℕ) → IsAdding d names names old old
adding_first d names old = record { files = []; slots = []; added = sym (append-nil old); each = tt; whole = after_nothing (sources d names) }

pub next_name : (d : Disk) (names : List (List ℕ)) (i : ℕ) (n old new : List ℕ) → i < length names → n ≡ slice_index_or names i n → IsAdding d names (drop i names) old new → IsAdding d names (n ∷ drop (i + 1) names) old new
next_name d names i n old new more at h =
    subst (λ (x : List ℕ). IsAdding d names (x ∷ drop (i + 1) names) old new) (sym at)
    (subst (λ (xs : List (List ℕ)). IsAdding d names xs old new) (at_drop_more (λ (xs : List (List ℕ)). xs) names i n more) h)

module _ (d : Disk) (names left : List (List ℕ)) (n : List ℕ) (old new : List ℕ) (h : IsAdding d names (n ∷ left) old new) where
  pub adding_next : (s : Source) → SourceAs d (source d n) (Ok s) → IsAdding d names left old (new ++ s.slot ∷ [])
  adding_next s said =
      let x = source_is d (source d n) s said in
      record {
        files = h.files ++ x.0 ∷ [];
        slots = h.slots ++ s.slot ∷ [];
        added = ap (λ (xs : List ℕ). xs ++ s.slot ∷ []) h.added ∙ append_assoc old h.slots (s.slot ∷ []);
        each = zip_snoc d h.files h.slots x.0 s.slot h.each x.2;
        whole = h.whole ∙ ap (λ (r : Result File Code). after h.files (r >>= λ f. sources d left >>= λ fs. Ok (f ∷ fs))) x.1 ∙ after_one h.files x.0 (sources d left);
      }

  pub adding_refused : (status : Status) (out : Result (Unit {0}) Status) (old' new' : List ℕ) → SourceAs d (source d n) (Err status) → IsErrAnd out (λ e. e ≡ status) → AddsSources d (sources d names) old' new' out
  adding_refused status out old' new' said same =
      let x = refusal_is d (source d n) status said in
      let so : sources d names ≡ Err x.0 = h.whole ∙ ap (λ (r : Result File Code). after h.files (r >>= λ f. sources d left >>= λ fs. Ok (f ∷ fs))) x.1 in
      by_out out same (sym so) x.2
    where
      by_out : (r : Result (Unit {0}) Status) → {code : Code} → IsErrAnd r (λ e. e ≡ status) → Err code ≡ sources d names → status ≡ plain code → AddsSources d (sources d names) old' new' r
      by_out (Ok u) k e p = absurd k
      by_out (Err y) k e p = subst (λ (r : Result (List File) Code). AddsSources d r old' new' (Err y)) e (k ∙ p)

pub adding_done : (d : Disk) (names : List (List ℕ)) (i : ℕ) (old new : List ℕ) (u : Unit {0}) → length names ≤ i → IsAdding d names (drop i names) old new → AddsSources d (sources d names) old new (Ok u)
adding_done d names i old new u over h =
    let so : sources d names ≡ Ok (h.files ++ []) = h.whole ∙ ap (λ (xs : List (List ℕ)). after h.files (sources d xs)) (drop_all i names over) in
    let all : sources d names ≡ Ok h.files = so ∙ ap (λ (xs : List File). Ok xs) (append-nil h.files) in
    subst (λ (r : Result (List File) Code). AddsSources d r old new (Ok u)) (sym all) (h.slots, h.added, h.each)

-- what was added
pub added_is : (d : Disk) (r : Result (List File) Code) (old new : List ℕ) (u : Unit {0}) → AddsSources d r old new (Ok u) → (fs : List File) × (r ≡ Ok fs) × ((slots : List ℕ) × (new ≡ old ++ slots) × AllZip (IsSource d) fs slots)
added_is d (Ok fs) old new u h = (fs, refl, h)
added_is d (Err code) old new u h = absurd h

pub unadded_is : (d : Disk) (r : Result (List File) Code) (old new : List ℕ) (status : Status) → AddsSources d r old new (Err status) → (code : Code) × (r ≡ Err code) × (status ≡ plain code)
unadded_is d (Ok fs) old new status h = absurd h
unadded_is d (Err code) old new status h = (code, refl, h)

-- ---- the plan

module _ (m : Machine) (new : List ℕ) where
  module _ (fresh : is_there m.disk new ≡ false) where
    module _ (n : List ℕ) (ns : List (List ℕ)) where
      first_refused : (code : Code) → source m.disk n ≡ Err code → copy new (n ∷ ns) m ≡ Err code
      first_refused code e = rw (fresh, e) refl

      later_refused : (f : File) (code : Code) → source m.disk n ≡ Ok f → sources m.disk ns ≡ Err code → copy new (n ∷ ns) m ≡ Err code
      later_refused f code e h = rw (fresh, e, h) refl

      all_found : (f : File) (fs : List File) → source m.disk n ≡ Ok f → sources m.disk ns ≡ Ok fs → sources m.disk (n ∷ ns) ≡ Ok (f ∷ fs)
      all_found f fs e h = rw (e, h) refl

      -- the first one is refused
      pub copy_unsourced : (status : Status) → SourceAs m.disk (source m.disk n) (Err status) → RefusesCopy m new (n ∷ ns) status
      copy_unsourced status said = let x = refusal_is m.disk (source m.disk n) status said in (x.0, first_refused x.0 x.1, x.2)

      module _ (s : Source) (said : SourceAs m.disk (source m.disk n) (Ok s)) where
        -- or a later one
        pub copy_unadded : (old new' : List ℕ) (status : Status) → AddsSources m.disk (sources m.disk ns) old new' (Err status) → RefusesCopy m new (n ∷ ns) status
        copy_unadded old new' status h =
            let x = source_is m.disk (source m.disk n) s said in
            let y = unadded_is m.disk (sources m.disk ns) old new' status h in (y.0, later_refused x.0 y.0 x.1 y.1, y.2)

        pub copying_is : (old slots : List ℕ) (u : Unit {0}) → old ≡ s.slot ∷ [] → AddsSources m.disk (sources m.disk ns) old slots (Ok u) → IsCopying m new (n ∷ ns) s.kind slots
        copying_is old slots u e h =
            let x = source_is m.disk (source m.disk n) s said in
            let y = added_is m.disk (sources m.disk ns) old slots u h in
            let both : slots ≡ s.slot ∷ y.2.0 = y.2.1 ∙ ap (λ (xs : List ℕ). xs ++ y.2.0) e in
            record {
              fresh = fresh;
              first = x.0;
              others = y.0;
              all = all_found x.0 y.0 x.1 y.1;
              each = subst (λ (xs : List ℕ). AllZip (IsSource m.disk) (x.0 ∷ y.0) xs) (sym both) (x.2, y.2.2);
              same_kind = x.3;
            }

-- ---- what is joined

pub joined_is : (d : Disk) (fs : List File) (ns : List ℕ) → AllZip (IsSource d) fs ns → flat_map (λ (g : File). bytes_in g.body) fs ≡ joined d ns
joined_is d [] [] h = refl
joined_is d [] (n ∷ ns) h = absurd h
joined_is d (f ∷ fs) [] h = absurd h
joined_is d (f ∷ fs) (n ∷ ns) h =
    ap (λ (xs : List ℕ). bytes_in f.body ++ xs) (joined_is d fs ns h.1)
    ∙ sym (ap (λ (o : Option File). slot_bytes o ++ joined d ns) h.0.in_slot)

pub are_copied : (d : Disk) (fs : List File) (ns : List ℕ) → AllZip (IsSource d) fs ns → AreCopied d ns
are_copied d [] [] h = tt
are_copied d [] (n ∷ ns) h = absurd h
are_copied d (f ∷ fs) [] h = absurd h
are_copied d (f ∷ fs) (n ∷ ns) h = (record { file = f; in_slot = h.0.in_slot; closed = h.0.closed; plain = h.0.plain }, are_copied d fs ns h.1)

-- the type of the first
first_in : (d : Disk) (f : File) (fs : List File) (ns : List ℕ) → AllZip (IsSource d) (f ∷ fs) ns → (is_same_type Del f.kind ≡ false) × (is_same_type Rel f.kind ≡ false)
first_in d f fs [] h = absurd h
first_in d f fs (n ∷ ns) h = (h.0.kept, h.0.plain)

-- 15 is the number of no channel
pub idle_15 : (chs : List kept.Channel) (ys : List Channel) → length chs ≡ 15 → uses_of chs ys 15 ≡ usage.Idle
idle_15 chs ys count = idle_at chs ys 15 (get_or_past chs 15 code.Closed (omega (arith, count)))

-- ---- what the channels have open stays

not_new : (d : Disk) (slot : ℕ) (g : File) → file_at d slot ≡ Some g → slot ≢ new_slot d
not_new d slot g at e = let z = sym at ∙ ap (file_at d) e ∙ new_empty d in absurd (cc)

filed_keeps : (d : Disk) (f : File) (k : ℕ) (channels : List Channel) → KeepsOpen d (with_file d f k) channels
filed_keeps d f k channels = λ ch slot g u at shut. (g, new_else d f k slot (not_new d slot g at) ∙ at, refl, refl)

cut_keeps : (d d' : Disk) (f : File) (k : ℕ) (channels : List Channel) → ((n : ℕ) → IsEither d (with_file d f k) d' n) → KeepsOpen d d' channels
cut_keeps d d' f k channels either = λ ch slot g u at shut.
    (g, known_is (file_at d slot) (file_at d' slot) g (either_stays d (with_file d f k) d' slot (either slot) (ap known (new_else d f k slot (not_new d slot g at)))) at shut, refl, refl)

-- ---- what the machine does

module _ (m : Machine) (new : List ℕ) (olds : List (List ℕ)) (kind : FileType) (slots : List ℕ) (is : IsCopying m new olds kind slots) where
  pub kind_kept : kind ≢ Del
  kind_kept = not_del kind (ap (is_same_type Del) is.same_kind ∙ (first_in m.disk is.first is.others slots is.each).0)

  pub kind_plain : is_same_type Rel kind ≡ false
  kind_plain = ap (is_same_type Rel) is.same_kind ∙ (first_in m.disk is.first is.others slots is.each).1

  pub all_copied : AreCopied m.disk slots
  all_copied = are_copied m.disk (is.first ∷ is.others) slots is.each

  abbrev copied_with : List ℕ → FileType → Result Machine Code
  copied_with bytes k =
      let n = blocks_of (length bytes) in
      unless ((nat_lt m.disk.free n || not (has_slot m.disk), DiskFull) ∷ (m.protected, WriteProtected) ∷ [])
      (Ok (say Fine (with_disk (with_file m.disk (closed_file k new n (Bytes bytes)) n) m)))

  copied_is : copy new olds m ≡ copied_with (joined m.disk slots) kind
  copied_is =
      let fresh = is.fresh in
      let all = is.all in
      let so : copy new olds m ≡ copied new (is.first ∷ is.others) m = rw (fresh, all) refl in
      (
      so ∙ ap (λ (xs : List ℕ). copied_with xs is.first.kind) (joined_is m.disk (is.first ∷ is.others) slots is.each)
      ∙ ap (copied_with (joined m.disk slots)) (sym is.same_kind))

  pub copy_full : HasNoRoomFor m.disk slots → answered m (copy new olds m) ≡ say DiskFull m
  copy_full full = ap (answered m) copied_is ∙ rw full refl

  module _ (room : (nat_lt m.disk.free (copy_blocks m.disk slots) || not (has_slot m.disk)) ≡ false) where
    pub copy_done : m.protected ≡ false → answered m (copy new olds m) ≡ say Fine (with_disk (with_copy m.disk kind new slots) m)
    copy_done unprotected = ap (answered m) copied_is ∙ rw (room, unprotected) refl

    pub copy_guarded : m.protected ≡ true → answered m (copy new olds m) ≡ say WriteProtected m
    copy_guarded guarded = ap (answered m) copied_is ∙ rw (room, guarded) refl

    -- so many blocks are free
    enough : (a b : ℕ) (x : Bool) → (nat_lt a b || x) ≡ false → b ≤ a
    enough a b x h = elim (cases_lt a b) [
      | inl less ↦ (let z : nat_lt a b ≡ true = grind (arith, nat_tests, less) in let y = sym (ap (λ (v : Bool). v || x) z) ∙ h in absurd (cc))
      | inr le ↦ le
    ]

    one_at_least : (n : ℕ) → 1 ≤ max 1 n
    one_at_least n = omega arith

    -- A disk with the copy has fewer free blocks: no content holds both.
    pub copy_shows : (t : ℕ) (c c' : Content) (uses : ℕ → Use) → c' ≡ c → HoldsNow t c m.disk uses → HoldsNow t c' (with_copy m.disk kind new slots) uses → ⊥
    copy_shows t c c' uses same h k =
        let now = subst (λ (x : Content). HoldsNow t x (with_copy m.disk kind new slots) uses) same k in
        absurd (omega (arith, h.so.stands.describes.free, now.so.stands.describes.free, enough m.disk.free (copy_blocks m.disk slots) (not (has_slot m.disk)) room, one_at_least (parts (length (joined m.disk slots)) 254)))

  -- ---- what is left of the drive

  module _ (t : ℕ) (c c' : Content) (p : Bool) (chs : List kept.Channel) (told : ToldStatus) (text : Option (ℕ × List ℕ)) (st : StandsBy c t p chs told text m) where
    pub copy_stands : HoldsNow t c' (with_copy m.disk kind new slots) (uses_of chs m.channels) → StandsBy c' t p chs told text (with_disk (with_copy m.disk kind new slots) m)
    copy_stands holds = with_other_disk t c c' p chs told text m (with_copy m.disk kind new slots) st holds
        (filed_keeps m.disk (closed_file kind new (copy_blocks m.disk slots) (Bytes (joined m.disk slots))) (copy_blocks m.disk slots) m.channels)

    pub copy_cut : (nat_lt m.disk.free (copy_blocks m.disk slots) || not (has_slot m.disk)) ≡ false → m.protected ≡ false → usage.Stopped t c' m.disk (with_copy m.disk kind new slots) (uses_of chs m.channels)
        → (n : Machine) × ((trouble : Trouble) (status : Status) → length chs ≡ 15 → status ≡ trouble_status trouble → IsStopped 15 m (answered m (copy new olds m)) (with_status status n)) × StandsBy c' t p chs told text n
    copy_cut room unprotected stop =
        stopped_on t c c' p chs told text m st (answered m (copy new olds m)) (with_copy m.disk kind new slots) (ap (λ (y : Machine). y.disk) (copy_done room unprotected)) stop
        (cut_keeps m.disk stop.disk (closed_file kind new (copy_blocks m.disk slots) (Bytes (joined m.disk slots))) (copy_blocks m.disk slots) m.channels stop.either)
