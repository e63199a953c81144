-- What the calls answer that give a file a side sector more.
use Rattle.std.proofs.Common.{◌≡◌, ◌≢◌, ℕ, ◌+◌, ◌-◌, ◌<◌, ◌≤◌, List, [], ◌++◌, length, Some, None, Option, Ok, Err, Result, IsOk, refl, sym, ap, subst, ◌∙◌, arith}
use Rattle.std.specs.Prelude.{MatchResult, MatchOption}
use Rattle.std.proofs.lemmas.List.{append-nil}
use Rattle.cbm_medium.specs.Place.{Place, Has}
use Rattle.cbm_medium.specs.Content.{Cell, Content}
use Rattle.cbm_medium.specs.Seen.{Seen}
use Rattle.cbm_medium.specs.declared.fault.Trouble.{Trouble}
use Rattle.cbm_file.specs.Files.{Disk}
use Rattle.cbm_bam.specs.Map.{geometry_of, IsFull, map_of}
use Rattle.cbm_relfile.specs.AddingSides.{IsEmptyBegun}
use Rattle.cbm_relfile.specs.Growing.{IsSideLinked, IsLengthenStopped, IsListStopped}
use Rattle.cbm_relfile.specs.Records.{Relative}
use Rattle.cbm_relfile.specs.SideSectors.{listed_side}
use Rattle.cbm_volume.specs.AddingSides.{HasSides, HasEmptySide}
use Rattle.cbm_volume.specs.Growing.{disk_with, IsGrowthStopped}
pub use Rattle.cbm_volume.specs.GrowthSteps.{GrowthState, OfSides, OfRoom, OfRoomFor, OfEmpty}
use Rattle.cbm_volume.specs.Layouts.{Nobody, TheMap, SideOf, OwnedBy}
use Rattle.cbm_volume.specs.RecordWrites.{HasRecordsOpen}
use Rattle.cbm_volume.specs.Writers.{Use}
use Rattle.cbm_volume.proofs.grown.GrowingAnswers.{AnswersLink, FirstSide, first_reads}
use Rattle.cbm_volume.proofs.grown.GrowingLists.{side_is, begun_cut, list_cut, stop_later}
use Rattle.cbm_volume.proofs.grown.SideTurns.{side_is_no_map}
use Rattle.cbm_volume.proofs.grown.GrowingSteps.{Stage}
use Rattle.cbm_volume.proofs.grown.GrowingTurns.{FileLies, lies_at, slot_in, is_not}
use Rattle.cbm_volume.proofs.grown.SidesAdded.{sides_stage, empty_stage, empty_begun, empty_copied, empty_added}
use Rattle.cbm_volume.proofs.written.Storing.{none_free}

side_is_no_nobody : (n : ℕ) → SideOf n ≢ Nobody
side_is_no_nobody n = λ z. (cc)

-- what the call that claims and writes answers
abbrev pub BeginsEmpty : ℕ → Content → Content → List ℕ → ℕ → ℕ → Option Place → Type 0
BeginsEmpty tracks c c' head k w q = MatchOption q (IsFull tracks (map_of c) × (c' ≡ c)) (λ t. IsEmptyBegun tracks c c' head k w t)

-- a side sector is claimed and written
module _ (old new : Seen) (c0 : Content) (d : Disk) (uses : ℕ → Use) (n w b s : ℕ) (rs : List (List ℕ)) (o : HasRecordsOpen old.tracks c0 d uses n w b s rs) (r : Relative) (geometry s1 : ℕ)
    (e : geometry ≡ geometry_of old.tracks c0) (g : HasSides old.tracks c0 d uses n w b s rs o r old.content s1) where
  abbrev tracks : ℕ
  tracks = geometry_of old.tracks c0

  abbrev free : ℕ
  free = d.free - (s1 - s)

  stage : Stage old.tracks c0 o.holds.layout d uses n o.file w old.content g.layout rs b s1 free
  stage = sides_stage old.tracks c0 d uses n w b s rs o r old.content s1 g

  stage-nil : Stage old.tracks c0 o.holds.layout d uses n o.file w old.content g.layout (rs ++ []) b s1 free
  stage-nil = subst (λ (ys : List (List ℕ)). Stage old.tracks c0 o.holds.layout d uses n o.file w old.content g.layout ys b s1 free) (sym (append-nil rs)) stage

  lies : FileLies tracks old.content g.layout n w rs b s1
  lies = lies_at old.tracks c0 d uses n w b s rs o old.content g.layout rs b s1 free stage

  first : FirstSide tracks old.content r.side
  first = subst (λ (p : Place). FirstSide tracks old.content p) (ap (λ (y : Relative). y.side) (sym g.file)) (first_reads tracks old.content g.layout n w rs b s1 lies)

  side_owned : g.layout.owner r.side ≡ SideOf n
  side_owned = ap g.layout.owner (ap (λ (y : Relative). y.side) g.file)
      ∙ (subst (λ (ys : List Place). OwnedBy g.layout.owner (SideOf n) ys) lies.records.first.1 (g.holds.stands.sound.owned.sides n (slot_in old.tracks c0 d uses n w b s rs o old.content g.layout rs b s1 free stage))).0

  off_18 : r.side.track ≢ 18
  off_18 = λ z. (g.holds.stands.sound.owned.off_18 r.side z n).1 side_owned

  has_first : Has geometry r.side
  has_first = subst (λ (m : ℕ). Has m r.side) (sym e) first.has

  pub empty_stopped : (t : Trouble) → ((head : List ℕ) → Has geometry r.side → old.content r.side ≡ Ok head → r.side.track ≢ 18 → IsLengthenStopped geometry old new r.side t.code) → IsGrowthStopped old new c0 o.holds.layout d uses n w rs t
  empty_stopped t h = begun_cut old new c0 d uses n w b s rs o g.layout 0 b s1 free r.side t stage-nil
      (is_not (g.layout.owner r.side) (SideOf n) TheMap side_owned (side_is_no_map n)) (is_not (g.layout.owner r.side) (SideOf n) Nobody side_owned (side_is_no_nobody n)) (subst (λ (x : Cell). IsOk x) (sym first.reads.is) refl)
      (subst (λ (m : ℕ). IsLengthenStopped m old new r.side t.code) e (h first.reads.bytes has_first first.reads.is off_18))

  pub empty_none : (width : ℕ) (x : Option Place) → x ≡ None → 0 < free → ((head : List ℕ) → Has geometry r.side → old.content r.side ≡ Ok head → r.side.track ≢ 18 → BeginsEmpty geometry old.content new.content head s1 width x) → ⊥
  empty_none width x none some h =
      let k = h first.reads.bytes has_first first.reads.is off_18 in
      let full : IsFull tracks (map_of old.content) = subst (λ (m : ℕ). IsFull m (map_of old.content)) e (subst (λ (y : Option Place). BeginsEmpty geometry old.content new.content first.reads.bytes s1 width y) none k).0 in
      let z : free ≡ 0 = none_free tracks old.content g.layout (disk_with d n o.file w rs b s1 free) g.holds.stands full in
      omega (arith, z, some)

  pub empty_some : (width : ℕ) (x : Option Place) (t : Place) → x ≡ Some t → width ≡ r.width → ((head : List ℕ) → Has geometry r.side → old.content r.side ≡ Ok head → r.side.track ≢ 18 → BeginsEmpty geometry old.content new.content head s1 width x)
      → HasEmptySide old.tracks c0 d uses n w b s rs o r new.content s1 t
  empty_some width x t some wide h =
      let k = h first.reads.bytes has_first first.reads.is off_18 in
      let same : width ≡ w = wide ∙ ap (λ (y : Relative). y.width) g.file in
      let is : IsEmptyBegun geometry old.content new.content first.reads.bytes s1 width t = subst (λ (y : Option Place). BeginsEmpty geometry old.content new.content first.reads.bytes s1 width y) some k in
      empty_begun old.tracks c0 d uses n w b s rs o r old.content new.content s1 t first.reads.bytes g
      (subst (λ (m : ℕ). IsEmptyBegun m old.content new.content first.reads.bytes s1 w t) e (subst (λ (m : ℕ). IsEmptyBegun geometry old.content new.content first.reads.bytes s1 m t) same is))

-- it is put into the lists of the others
module _ (old new : Seen) (c0 : Content) (d : Disk) (uses : ℕ → Use) (n w b s : ℕ) (rs : List (List ℕ)) (o : HasRecordsOpen old.tracks c0 d uses n w b s rs) (r : Relative) (geometry s1 i : ℕ) (t : Place)
    (e : geometry ≡ geometry_of old.tracks c0) (g : HasEmptySide old.tracks c0 d uses n w b s rs o r old.content s1 t) (few : i < s1) where
  abbrev tracks-2 : ℕ
  tracks-2 = geometry_of old.tracks c0

  abbrev free-2 : ℕ
  free-2 = d.free - (s1 + 1 - s)

  stage-2 : Stage old.tracks c0 o.holds.layout d uses n o.file w old.content g.layout rs b s1 free-2
  stage-2 = empty_stage old.tracks c0 d uses n w b s rs o r old.content s1 t g

  stage-nil-2 : Stage old.tracks c0 o.holds.layout d uses n o.file w old.content g.layout (rs ++ []) b s1 free-2
  stage-nil-2 = subst (λ (ys : List (List ℕ)). Stage old.tracks c0 o.holds.layout d uses n o.file w old.content g.layout ys b s1 free-2) (sym (append-nil rs)) stage-2

  lies-2 : FileLies tracks-2 old.content g.layout n w rs b s1
  lies-2 = lies_at old.tracks c0 d uses n w b s rs o old.content g.layout rs b s1 free-2 stage-2

  pub first-2 : FirstSide tracks-2 old.content r.side
  first-2 = subst (λ (p : Place). FirstSide tracks-2 old.content p) (ap (λ (y : Relative). y.side) (sym g.file)) (first_reads tracks-2 old.content g.layout n w rs b s1 lies-2)

  linked : {A : Type 0} (res : Result A Trouble) (p : Place) → p ≡ r.side → AnswersLink geometry old new s1 i t p res
      → MatchResult res (λ x. IsSideLinked old.content new.content (listed_side first-2.reads.bytes i) i s1 t) (λ u. IsListStopped geometry old new u.code)
  linked {A} res p is k =
      let h : AnswersLink geometry old new s1 i t r.side res = subst (λ (y : Place). AnswersLink geometry old new s1 i t y res) is k in
      let at = side_is old.tracks c0 d uses n w b s rs o old.content g.layout rs b s1 free-2 i first-2.reads.bytes stage-2 (ap (λ (y : Relative). old.content y.side) (sym g.file) ∙ first-2.reads.is) (omega (arith, few, lies-2.sides)) in
      h first-2.reads.bytes (subst (λ (m : ℕ). Has m r.side) (sym e) first-2.has) first-2.reads.is (subst (λ (m : ℕ). Has m (listed_side first-2.reads.bytes i)) (sym e) at.1.has) at.1.reads

  pub empty_copy_means : {A : Type 0} (res : Result A Trouble) (p : Place) → p ≡ r.side → AnswersLink geometry old new s1 i t p res → 0 < i
      → MatchResult res (λ x. HasEmptySide old.tracks c0 d uses n w b s rs o r new.content s1 t) (IsGrowthStopped old new c0 o.holds.layout d uses n w rs)
  empty_copy_means {A} res p is k some = by_result res (linked res p is k)
    where
      by_result : (y : Result A Trouble) → MatchResult y (λ x. IsSideLinked old.content new.content (listed_side first-2.reads.bytes i) i s1 t) (λ u. IsListStopped geometry old new u.code)
          → MatchResult y (λ x. HasEmptySide old.tracks c0 d uses n w b s rs o r new.content s1 t) (IsGrowthStopped old new c0 o.holds.layout d uses n w rs)
      by_result (Ok x) h = empty_copied old.tracks c0 d uses n w b s rs o r old.content new.content s1 i t first-2.reads.bytes g some few first-2.reads.is h
      by_result (Err u) h = list_cut old new c0 d uses n w b s rs o g.layout 0 b s1 free-2 u stage-nil-2 (subst (λ (m : ℕ). IsListStopped m old new u.code) e h)

  pub empty_add_means : {A : Type 0} (res : Result A Trouble) (p : Place) → p ≡ r.side → AnswersLink geometry old new s1 i t p res → i ≡ 0 → s1 < 6
      → MatchResult res (λ x. HasSides old.tracks c0 d uses n w b s rs o r new.content (s1 + 1)) (IsGrowthStopped old new c0 o.holds.layout d uses n w rs)
  empty_add_means {A} res p is k zero most = by_result res (linked res p is k)
    where
      by_result : (y : Result A Trouble) → MatchResult y (λ x. IsSideLinked old.content new.content (listed_side first-2.reads.bytes i) i s1 t) (λ u. IsListStopped geometry old new u.code)
          → MatchResult y (λ x. HasSides old.tracks c0 d uses n w b s rs o r new.content (s1 + 1)) (IsGrowthStopped old new c0 o.holds.layout d uses n w rs)
      by_result (Ok x) h = empty_added old.tracks c0 d uses n w b s rs o r old.content new.content s1 t first-2.reads.bytes g most first-2.reads.is
          (subst (λ (j : ℕ). IsSideLinked old.content new.content (listed_side first-2.reads.bytes j) j s1 t) zero h)
      by_result (Err u) h = list_cut old new c0 d uses n w b s rs o g.layout 0 b s1 free-2 u stage-nil-2 (subst (λ (m : ℕ). IsListStopped m old new u.code) e h)

-- ---- one call after another

-- a call goes from one state to another, or stops; `says` picks the one of its exit, or both by its result
abbrev pub GoesBy : ℕ → Seen → Seen → ℕ → GrowthState → GrowthState → (Type 0 → (Trouble → Type 0) → Type 0) → Type 0
GoesBy m old new geometry From To says = (c0 : Content) (d : Disk) (uses : ℕ → Use) (n w b s : ℕ) (rs : List (List ℕ)) (o : HasRecordsOpen m c0 d uses n w b s rs) → geometry ≡ geometry_of m c0
    → From m c0 d uses n w b s rs o old.content → says (To m c0 d uses n w b s rs o new.content) (IsGrowthStopped old new c0 o.holds.layout d uses n w rs)

pub ok_then : (old mid new : Seen) (geometry : ℕ) (A B C : GrowthState) → mid.tracks ≡ old.tracks → GoesBy old.tracks old mid geometry A B (λ p q. p) → GoesBy mid.tracks mid new geometry B C (λ p q. p) → GoesBy old.tracks old new geometry A C (λ p q. p)
ok_then old mid new geometry A B C same f k c0 d uses n w b s rs o e h = subst (λ (m : ℕ). GoesBy m mid new geometry B C (λ p q. p)) same k c0 d uses n w b s rs o e (f c0 d uses n w b s rs o e h)

pub stop_then : (old mid new : Seen) (geometry : ℕ) (u : Trouble) (A B C : GrowthState) → mid.tracks ≡ old.tracks → mid.protected ≡ old.protected → old.failures ≤ mid.failures → GoesBy old.tracks old mid geometry A B (λ p q. p)
    → GoesBy mid.tracks mid new geometry B C (λ p q. q u) → GoesBy old.tracks old new geometry A C (λ p q. q u)
stop_then old mid new geometry u A B C same protected counted f k c0 d uses n w b s rs o e h =
    stop_later old mid new c0 o.holds.layout d uses n w rs u same protected counted (subst (λ (m : ℕ). GoesBy m mid new geometry B C (λ p q. q u)) same k c0 d uses n w b s rs o e (f c0 d uses n w b s rs o e h))

pub both_then : {X : Type 0} (res : Result X Trouble) (old mid new : Seen) (geometry : ℕ) (A B C : GrowthState) → mid.tracks ≡ old.tracks → mid.protected ≡ old.protected → old.failures ≤ mid.failures → GoesBy old.tracks old mid geometry A B (λ p q. p)
    → GoesBy mid.tracks mid new geometry B C (λ p q. MatchResult res (λ x. p) q) → GoesBy old.tracks old new geometry A C (λ p q. MatchResult res (λ x. p) q)
both_then (Ok x) old mid new geometry A B C same protected counted f k = ok_then old mid new geometry A B C same f k
both_then (Err u) old mid new geometry A B C same protected counted f k = stop_then old mid new geometry u A B C same protected counted f k

pub room_there : (m : ℕ) (c0 : Content) (d : Disk) (uses : ℕ → Use) (n w b s : ℕ) (rs : List (List ℕ)) (o : HasRecordsOpen m c0 d uses n w b s rs) (r : Relative) (c : Content) (s1 all : ℕ) → OfRoomFor r s1 all m c0 d uses n w b s rs o c → s1 < all → 0 < d.free - (s1 - s)
room_there m c0 d uses n w b s rs o r c s1 all h few = let more = h.0.more in omega (arith, h.1, few, more)

-- a relative file has a side sector
pub some_side : (m : ℕ) (c0 : Content) (d : Disk) (uses : ℕ → Use) (n w b s : ℕ) (rs : List (List ℕ)) (o : HasRecordsOpen m c0 d uses n w b s rs) (r : Relative) (c : Content) (s1 : ℕ) → HasSides m c0 d uses n w b s rs o r c s1 → 1 ≤ s1
some_side m c0 d uses n w b s rs o r c s1 g =
    let at = sides_stage m c0 d uses n w b s rs o r c s1 g in
    let lies = lies_at m c0 d uses n w b s rs o c g.layout rs b s1 (d.free - (s1 - s)) at in
    omega (arith, lies.sides, ap (λ (ys : List Place). length ys) lies.records.first.1)
