-- The calls of a growth, one after another: what each answers goes on from what the ones before it reached.
use Rattle.std.proofs.Common.{◌≡◌, ℕ, ◌+◌, ◌-◌, ◌*◌, ◌<◌, ◌≤◌, List, [], ◌∷◌, length, drop, Result, Ok, Err, sym, ap, subst, arith}
use Rattle.std.specs.Prelude.{MatchResult}
use Rattle.std.proofs.lemmas.List.{length-drop}
use Rattle.cbm_medium.specs.Place.{Place}
use Rattle.cbm_medium.specs.Content.{Content}
use Rattle.cbm_medium.specs.Seen.{Seen, OnlyContent}
use Rattle.cbm_medium.specs.declared.fault.Trouble.{Trouble}
use Rattle.cbm_file.specs.Files.{Disk}
use Rattle.cbm_file.specs.Records.{sides_for}
use Rattle.cbm_bam.specs.Map.{geometry_of}
use Rattle.cbm_relfile.specs.Records.{Relative}
use Rattle.cbm_volume.specs.Growing.{IsListed, HasGrown, HasLonger, HasSide, IsGrowthStopped}
use Rattle.cbm_volume.specs.RecordWrites.{HasRecordsOpen}
use Rattle.cbm_volume.specs.Growth.{filled_up}
use Rattle.cbm_volume.specs.Layouts.{Layout}
use Rattle.cbm_volume.specs.Writers.{Use}
use Rattle.cbm_volume.proofs.grown.GrowingTurns.{lies_at, stage_of}
use Rattle.cbm_volume.proofs.grown.GrowingLists.{stop_later}

-- What a call says of a state that it reaches or of a stop: `says` picks the one of its exit, or both by its result.
abbrev pub CopiesBy : ℕ → Seen → Seen → Relative → ℕ → ℕ → ℕ → Place → (Type 0 → (Trouble → Type 0) → Type 0) → Type 0
CopiesBy m old new r geometry s1 i t says = (c0 : Content) (d : Disk) (uses : ℕ → Use) (n w b s b1 : ℕ) (rs : List (List ℕ)) (q : Place) (o : HasRecordsOpen m c0 d uses n w b s rs) → geometry ≡ geometry_of m c0
    → HasSide m c0 d uses n w b s rs o r old.content b1 s1 q t → 0 < i → says (HasSide m c0 d uses n w b s rs o r new.content b1 s1 q t) (IsGrowthStopped old new c0 o.holds.layout d uses n w rs)

-- the copies so far
abbrev pub HasCopied : Seen → Seen → Relative → ℕ → ℕ → Place → Type 0
HasCopied old now r geometry s1 t = (c0 : Content) (d : Disk) (uses : ℕ → Use) (n w b s b1 : ℕ) (rs : List (List ℕ)) (q : Place) (o : HasRecordsOpen old.tracks c0 d uses n w b s rs) → geometry ≡ geometry_of old.tracks c0
    → HasSide old.tracks c0 d uses n w b s rs o r old.content b1 s1 q t → HasSide old.tracks c0 d uses n w b s rs o r now.content b1 s1 q t

pub copied_none : (old : Seen) (r : Relative) (geometry s1 : ℕ) (t : Place) → HasCopied old old r geometry s1 t
copied_none old r geometry s1 t c0 d uses n w b s b1 rs q o e h = h

pub copied_more : (old mid new : Seen) (r : Relative) (geometry s1 i : ℕ) (t : Place) → HasCopied old mid r geometry s1 t → mid.tracks ≡ old.tracks → 0 < i → CopiesBy mid.tracks mid new r geometry s1 i t (λ p q. p) → HasCopied old new r geometry s1 t
copied_more old mid new r geometry s1 i t so same some k c0 d uses n w b s b1 rs q o e h =
    subst (λ (m : ℕ). CopiesBy m mid new r geometry s1 i t (λ p q. p)) same k c0 d uses n w b s b1 rs q o e (so c0 d uses n w b s b1 rs q o e h) some

pub copied_stop : {A : Type 0} (x : Result A Trouble) (old mid new : Seen) (r : Relative) (geometry s1 i : ℕ) (t : Place) (u : Trouble) → HasCopied old mid r geometry s1 t → OnlyContent geometry x old mid → 0 < i → CopiesBy mid.tracks mid new r geometry s1 i t (λ p q. q u)
    → (c0 : Content) (d : Disk) (uses : ℕ → Use) (n w b s b1 : ℕ) (rs : List (List ℕ)) (q : Place) (o : HasRecordsOpen old.tracks c0 d uses n w b s rs) → geometry ≡ geometry_of old.tracks c0 → HasSide old.tracks c0 d uses n w b s rs o r old.content b1 s1 q t
    → IsGrowthStopped old new c0 o.holds.layout d uses n w rs u
copied_stop x old mid new r geometry s1 i t u so only some k c0 d uses n w b s b1 rs q o e h =
    stop_later old mid new c0 o.holds.layout d uses n w rs u only.tracks only.protected only.counted
    (subst (λ (m : ℕ). CopiesBy m mid new r geometry s1 i t (λ p y. y u)) only.tracks k c0 d uses n w b s b1 rs q o e (so c0 d uses n w b s b1 rs q o e h) some)

-- ---- all copies, and the first side sector

abbrev pub CopiesAll : ℕ → Seen → Seen → Relative → ℕ → ℕ → Place → (Type 0 → (Trouble → Type 0) → Type 0) → Type 0
CopiesAll m old new r geometry s1 t says = (c0 : Content) (d : Disk) (uses : ℕ → Use) (n w b s b1 : ℕ) (rs : List (List ℕ)) (q : Place) (o : HasRecordsOpen m c0 d uses n w b s rs) → geometry ≡ geometry_of m c0
    → HasSide m c0 d uses n w b s rs o r old.content b1 s1 q t → says (HasSide m c0 d uses n w b s rs o r new.content b1 s1 q t) (IsGrowthStopped old new c0 o.holds.layout d uses n w rs)

abbrev pub AddsBy : ℕ → Seen → Seen → Relative → ℕ → ℕ → ℕ → Place → (Type 0 → (Trouble → Type 0) → Type 0) → Type 0
AddsBy m old new r geometry s1 i t says = (c0 : Content) (d : Disk) (uses : ℕ → Use) (n w b s b1 : ℕ) (rs : List (List ℕ)) (q : Place) (o : HasRecordsOpen m c0 d uses n w b s rs) → geometry ≡ geometry_of m c0
    → HasSide m c0 d uses n w b s rs o r old.content b1 s1 q t → i ≡ 0 → b1 ≡ 120 * s1 → says (HasGrown m c0 d uses n w b s rs o r new.content (b1 + 1) (s1 + 1) q) (IsGrowthStopped old new c0 o.holds.layout d uses n w rs)

-- ---- the second half of a turn

abbrev pub ListsBy : ℕ → Seen → Seen → Relative → ℕ → ℕ → Place → (Type 0 → (Trouble → Type 0) → Type 0) → Type 0
ListsBy m old new r geometry b1 q says = (c0 : Content) (d : Disk) (uses : ℕ → Use) (n w b s s1 : ℕ) (rs : List (List ℕ)) (o : HasRecordsOpen m c0 d uses n w b s rs) → geometry ≡ geometry_of m c0
    → HasLonger m c0 d uses n w b s rs o r old.content b1 s1 q → b1 < 120 * s1 → says (HasGrown m c0 d uses n w b s rs o r new.content (b1 + 1) s1 q) (IsGrowthStopped old new c0 o.holds.layout d uses n w rs)

abbrev pub SidesBy : ℕ → Seen → Seen → Relative → ℕ → ℕ → Place → (Type 0 → (Trouble → Type 0) → Type 0) → Type 0
SidesBy m old new r geometry s1 q says = (c0 : Content) (d : Disk) (uses : ℕ → Use) (n w b s b1 : ℕ) (rs : List (List ℕ)) (o : HasRecordsOpen m c0 d uses n w b s rs) → geometry ≡ geometry_of m c0
    → HasLonger m c0 d uses n w b s rs o r old.content b1 s1 q → 0 < d.free - (b1 + 1 + s1 - (b + s)) → b1 ≡ 120 * s1
    → says (HasGrown m c0 d uses n w b s rs o r new.content (b1 + 1) (s1 + 1) q) (IsGrowthStopped old new c0 o.holds.layout d uses n w rs)

-- a later call answers for the whole
pub later : {A : Type 0} (res : Result A Trouble) (P : Type 0) (old mid new : Seen) (c0 : Content) (l0 : Layout) (d : Disk) (uses : ℕ → Use) (n w : ℕ) (rs : List (List ℕ)) → mid.tracks ≡ old.tracks → mid.protected ≡ old.protected → old.failures ≤ mid.failures
    → MatchResult res (λ x. P) (IsGrowthStopped mid new c0 l0 d uses n w rs) → MatchResult res (λ x. P) (IsGrowthStopped old new c0 l0 d uses n w rs)
later {A} (Ok x) P old mid new c0 l0 d uses n w rs same protected counted h = h
later {A} (Err t) P old mid new c0 l0 d uses n w rs same protected counted h = stop_later old mid new c0 l0 d uses n w rs t same protected counted h

-- ---- how many side sectors

listed_most : (c : Content) (ss xs : List Place) → IsListed c ss xs → length xs ≤ 120 * length ss
listed_most c [] xs h = omega (arith, ap (λ (ys : List Place). length ys) h)
listed_most c (s ∷ ss) xs h = let rest = listed_most c ss (drop 120 xs) h.1 in omega (arith, rest, length-drop 120 xs)

-- the side sectors list all blocks
pub grown_listed : (medium : ℕ) (c0 : Content) (d : Disk) (uses : ℕ → Use) (n w b s : ℕ) (rs : List (List ℕ)) (o : HasRecordsOpen medium c0 d uses n w b s rs) (r : Relative) (c : Content) (b1 s1 : ℕ) (last : Place) → HasGrown medium c0 d uses n w b s rs o r c b1 s1 last → b1 ≤ 120 * s1
grown_listed medium c0 d uses n w b s rs o r c b1 s1 last g =
    let lies = lies_at medium c0 d uses n w b s rs o c g.layout (filled_up w b1 rs) b1 s1 (d.free - (b1 + s1 - (b + s))) (stage_of medium c0 d uses n w b s rs o r c b1 s1 last g) in
    omega (arith, listed_most c (g.layout.files n).sides (g.layout.files n).data_blocks g.listed, lies.blocks, lies.sides)

-- one more where all are full, else as many
pub sides_full : (b1 s1 : ℕ) → b1 ≡ 120 * s1 → s1 + 1 ≡ sides_for s1 (b1 + 1)
sides_full b1 s1 e = omega (arith, e)

pub sides_room : (b1 s1 : ℕ) → b1 < 120 * s1 → s1 ≡ sides_for s1 (b1 + 1)
sides_room b1 s1 l = omega (arith, l)

-- ---- turn after turn

abbrev pub OnceBy : ℕ → Seen → Seen → Relative → ℕ → ℕ → ℕ → Place → ℕ → Place → (Type 0 → (Trouble → Type 0) → Type 0) → Type 0
OnceBy m old new r geometry b1 s1 last s2 last2 says = (c0 : Content) (d : Disk) (uses : ℕ → Use) (n w b s : ℕ) (rs : List (List ℕ)) (o : HasRecordsOpen m c0 d uses n w b s rs) → geometry ≡ geometry_of m c0
    → HasGrown m c0 d uses n w b s rs o r old.content b1 s1 last → b1 + 1 + sides_for s1 (b1 + 1) - (b + s) ≤ d.free
    → says ((s2 ≡ sides_for s1 (b1 + 1)) × HasGrown m c0 d uses n w b s rs o r new.content (b1 + 1) s2 last2) (IsGrowthStopped old new c0 o.holds.layout d uses n w rs)

-- the turns so far
abbrev pub HasTurned : Seen → Seen → Relative → ℕ → ℕ → ℕ → Place → ℕ → ℕ → ℕ → ℕ → Place → Type 0
HasTurned old now r geometry b1 s1 last count passed b2 s2 last2 = (c0 : Content) (d : Disk) (uses : ℕ → Use) (n w b s : ℕ) (rs : List (List ℕ)) (o : HasRecordsOpen old.tracks c0 d uses n w b s rs) → geometry ≡ geometry_of old.tracks c0
    → HasGrown old.tracks c0 d uses n w b s rs o r old.content b1 s1 last → b1 + count + sides_for s1 (b1 + count) - (b + s) ≤ d.free
    → (s2 ≡ sides_for s1 (b1 + passed)) × HasGrown old.tracks c0 d uses n w b s rs o r now.content b2 s2 last2

pub turned_none : (old : Seen) (r : Relative) (geometry b1 s1 : ℕ) (last : Place) (count : ℕ) → HasTurned old old r geometry b1 s1 last count 0 b1 s1 last
turned_none old r geometry b1 s1 last count c0 d uses n w b s rs o e h room =
    let l = grown_listed old.tracks c0 d uses n w b s rs o r old.content b1 s1 last h in
    (omega (arith, l), h)

-- the room for the next turn
next_room : (b1 s1 count passed b2 s2 b s free : ℕ) → b1 + count + sides_for s1 (b1 + count) - (b + s) ≤ free → s2 ≡ sides_for s1 (b1 + passed) → b2 ≡ b1 + passed → passed < count → b2 + 1 + sides_for s2 (b2 + 1) - (b + s) ≤ free
next_room b1 s1 count passed b2 s2 b s free room e f l = omega (arith, room, e, f, l)

next_sides : (b1 s1 passed b2 s2 s3 : ℕ) → s2 ≡ sides_for s1 (b1 + passed) → b2 ≡ b1 + passed → s3 ≡ sides_for s2 (b2 + 1) → s3 ≡ sides_for s1 (b1 + (passed + 1))
next_sides b1 s1 passed b2 s2 s3 e f g = omega (arith, e, f, g)

pub turned_more : (old mid new : Seen) (r : Relative) (geometry b1 s1 : ℕ) (last : Place) (count passed b2 s2 : ℕ) (last2 : Place) (b3 s3 : ℕ) (last3 : Place) → HasTurned old mid r geometry b1 s1 last count passed b2 s2 last2 → mid.tracks ≡ old.tracks → b2 ≡ b1 + passed → passed < count → b3 ≡ b2 + 1
    → OnceBy mid.tracks mid new r geometry b2 s2 last2 s3 last3 (λ p q. p) → HasTurned old new r geometry b1 s1 last count (passed + 1) b3 s3 last3
turned_more old mid new r geometry b1 s1 last count passed b2 s2 last2 b3 s3 last3 so same at few next k c0 d uses n w b s rs o e h room =
    let now = so c0 d uses n w b s rs o e h room in
    let then = subst (λ (m : ℕ). OnceBy m mid new r geometry b2 s2 last2 s3 last3 (λ p q. p)) same k c0 d uses n w b s rs o e now.1 (next_room b1 s1 count passed b2 s2 b s d.free room now.0 at few) in
    (next_sides b1 s1 passed b2 s2 s3 now.0 at then.0, subst (λ (m : ℕ). HasGrown old.tracks c0 d uses n w b s rs o r new.content m s3 last3) (sym next) then.1)

pub turned_stop : (old mid new : Seen) (r : Relative) (geometry b1 s1 : ℕ) (last : Place) (count passed b2 s2 : ℕ) (last2 : Place) (s3 : ℕ) (last3 : Place) (t : Trouble) → HasTurned old mid r geometry b1 s1 last count passed b2 s2 last2 → mid.tracks ≡ old.tracks → mid.protected ≡ old.protected → old.failures ≤ mid.failures
    → b2 ≡ b1 + passed → passed < count → OnceBy mid.tracks mid new r geometry b2 s2 last2 s3 last3 (λ p q. q t)
    → (c0 : Content) (d : Disk) (uses : ℕ → Use) (n w b s : ℕ) (rs : List (List ℕ)) (o : HasRecordsOpen old.tracks c0 d uses n w b s rs) → geometry ≡ geometry_of old.tracks c0 → HasGrown old.tracks c0 d uses n w b s rs o r old.content b1 s1 last
    → b1 + count + sides_for s1 (b1 + count) - (b + s) ≤ d.free → IsGrowthStopped old new c0 o.holds.layout d uses n w rs t
turned_stop old mid new r geometry b1 s1 last count passed b2 s2 last2 s3 last3 t so same protected counted at few k c0 d uses n w b s rs o e h room =
    let now = so c0 d uses n w b s rs o e h room in
    stop_later old mid new c0 o.holds.layout d uses n w rs t same protected counted
    (subst (λ (m : ℕ). OnceBy m mid new r geometry b2 s2 last2 s3 last3 (λ p q. q t)) same k c0 d uses n w b s rs o e now.1 (next_room b1 s1 count passed b2 s2 b s d.free room now.0 at few))

-- all turns
abbrev pub BlocksBy : ℕ → Seen → Seen → Relative → ℕ → ℕ → ℕ → Place → ℕ → ℕ → Place → (Type 0 → (Trouble → Type 0) → Type 0) → Type 0
BlocksBy m old new r geometry b1 s1 last count s2 last2 says = (c0 : Content) (d : Disk) (uses : ℕ → Use) (n w b s : ℕ) (rs : List (List ℕ)) (o : HasRecordsOpen m c0 d uses n w b s rs) → geometry ≡ geometry_of m c0
    → HasGrown m c0 d uses n w b s rs o r old.content b1 s1 last → b1 + count + sides_for s1 (b1 + count) - (b + s) ≤ d.free
    → says ((s2 ≡ sides_for s1 (b1 + count)) × HasGrown m c0 d uses n w b s rs o r new.content (b1 + count) s2 last2) (IsGrowthStopped old new c0 o.holds.layout d uses n w rs)
