-- What the calls of a turn answer: the next state, or the disk that a refused write left.
use Rattle.std.proofs.Common.{◌≡◌, ◌≢◌, ℕ, ◌+◌, ◌-◌, ◌*◌, ◌/◌, ◌%◌, ◌<◌, List, [], ◌∷◌, length, get_or, Option, Some, None, Result, Ok, Err, IsOk, refl, sym, ap, subst, ◌∙◌, arith}
use Rattle.std.specs.Prelude.{MatchResult}
use Rattle.std.proofs.lemmas.List.{get_or_at, length-append}
use Rattle.cbm_medium.specs.Place.{Place, Has, directory_head}
use Rattle.cbm_medium.specs.Content.{Cell, Content}
use Rattle.cbm_medium.specs.Seen.{Seen}
use Rattle.cbm_medium.specs.declared.fault.Trouble.{Trouble}
use Rattle.cbm_file.specs.Files.{Disk}
use Rattle.cbm_file.specs.Records.{record_count}
use Rattle.cbm_bam.specs.Map.{geometry_of, map_of, IsFull}
use Rattle.cbm_directory.specs.Entries.{entry_at, first_side, width_of}
use Rattle.cbm_relfile.specs.Growing.{IsLengthened, IsLengthenStopped, IsBlockListed, IsListStopped, IsSideBegun, IsSideLinked}
use Rattle.cbm_relfile.specs.Records.{AllWhole, Relative}
use Rattle.cbm_relfile.specs.SideSectors.{Numbered, listed_side}
use Rattle.cbm_relfile.proofs.Lengthened.{BeginsSide, LengthensBy}
use Rattle.cbm_volume.specs.Growth.{filled_up}
use Rattle.cbm_volume.specs.Growing.{disk_with, HasGrown, HasLonger, HasSide, IsGrowthStopped}
use Rattle.cbm_volume.specs.Layouts.{Nobody, TheMap, DataOf, SideOf, OwnedBy, Layout}
use Rattle.cbm_volume.specs.RecordWrites.{HasRecordsOpen}
use Rattle.cbm_volume.specs.Writers.{Use}
use Rattle.cbm_volume.proofs.grown.GrowingLists.{LastBlock, nth_block, begun_cut, list_cut, longer_stage, turn_listed, side_is}
use Rattle.cbm_volume.proofs.grown.GrowingSides.{side_begun, side_copied, side_added, side_stage}
use Rattle.cbm_volume.proofs.grown.GrowingSteps.{Stage}
use Rattle.cbm_volume.proofs.grown.GrowingTurns.{FileLies, lies_at, slot_in, stage_of, turn_longer, is_not, data_map, data_nobody}
use Rattle.cbm_volume.proofs.written.Storing.{none_free}

pub record Reads (x : Cell) : Type 0 where
  pub bytes : List ℕ
  pub is : x ≡ Ok bytes

pub reads : (x : Cell) → IsOk x → Reads x
reads (Ok bytes) h = record { bytes = bytes; is = refl }
reads (Err code) h = absurd (cc)

-- the first side sector is one of the disk, and reads
pub record FirstSide (tracks : ℕ) (c : Content) (p : Place) : Type 0 where
  pub has : Has tracks p
  pub reads : Reads (c p)

pub first_reads : (tracks : ℕ) (c : Content) (l : Layout) (n w : ℕ) (rs : List (List ℕ)) (b s : ℕ) → FileLies tracks c l n w rs b s → FirstSide tracks c (first_side (entry_at c l.directory n))
first_reads tracks c l n w rs b s lies =
    let num : Numbered tracks c (width_of (entry_at c l.directory n)) 0 (first_side (entry_at c l.directory n) ∷ lies.records.first.0) = subst (λ (ys : List Place). Numbered tracks c (width_of (entry_at c l.directory n)) 0 ys) lies.records.first.1 lies.records.numbered in
    record { has = num.0; reads = reads (c (first_side (entry_at c l.directory n))) num.1 }

side_map : (n : ℕ) → SideOf n ≢ TheMap
side_map n = λ z. (cc)

side_nobody : (n : ℕ) → SideOf n ≢ Nobody
side_nobody n = λ z. (cc)

-- a file is made longer
module _ (old new : Seen) (c0 : Content) (d : Disk) (uses : ℕ → Use) (n w b s : ℕ) (rs : List (List ℕ)) (o : HasRecordsOpen old.tracks c0 d uses n w b s rs) (r : Relative) (geometry b1 s1 : ℕ) (last : Place)
    (e : geometry ≡ geometry_of old.tracks c0) (g : HasGrown old.tracks c0 d uses n w b s rs o r old.content b1 s1 last) where
  abbrev tracks : ℕ
  tracks = geometry_of old.tracks c0

  abbrev free : ℕ
  free = d.free - (b1 + s1 - (b + s))

  stage : Stage old.tracks c0 o.holds.layout d uses n o.file w old.content g.layout (filled_up w b1 rs) b1 s1 free
  stage = stage_of old.tracks c0 d uses n w b s rs o r old.content b1 s1 last g

  lies : FileLies tracks old.content g.layout n w (filled_up w b1 rs) b1 s1
  lies = lies_at old.tracks c0 d uses n w b s rs o old.content g.layout (filled_up w b1 rs) b1 s1 free stage

  pub last_block : LastBlock tracks old.content g.layout n last
  last_block = nth_block tracks old.content g.layout n w (filled_up w b1 rs) b1 s1 (b1 - 1) last g.holds.stands.sound (slot_in old.tracks c0 d uses n w b s rs o old.content g.layout (filled_up w b1 rs) b1 s1 free stage) lies
      (omega (arith, lies.blocks, lies.records.some_block)) g.last_is

  has_last : Has geometry last
  has_last = subst (λ (m : ℕ). Has m last) (sym e) last_block.has

  pub lengthen_stopped : (t : Trouble) → (Has geometry last → last.track ≢ 18 → IsLengthenStopped geometry old new last t.code) → IsGrowthStopped old new c0 o.holds.layout d uses n w rs t
  lengthen_stopped t h = begun_cut old new c0 d uses n w b s rs o g.layout (record_count w b1 - length rs) b1 s1 free last t stage
      (is_not (g.layout.owner last) (DataOf n) TheMap last_block.owned (data_map n)) (is_not (g.layout.owner last) (DataOf n) Nobody last_block.owned (data_nobody n)) last_block.reads
      (subst (λ (m : ℕ). IsLengthenStopped m old new last t.code) e (h has_last last_block.off_18))

  pub lengthen_none : (width : ℕ) (q : Option Place) → q ≡ None → 0 < free → (Has geometry last → last.track ≢ 18 → LengthensBy geometry old.content new.content last width b1 q) → ⊥
  lengthen_none width q none some h =
      let full : IsFull tracks (map_of old.content) = subst (λ (m : ℕ). IsFull m (map_of old.content)) e (subst (λ (x : Option Place). LengthensBy geometry old.content new.content last width b1 x) none (h has_last last_block.off_18)).0 in
      let z : free ≡ 0 = none_free tracks old.content g.layout (disk_with d n o.file w (filled_up w b1 rs) b1 s1 free) g.holds.stands full in
      omega (arith, z, some)

  pub lengthen_some : (width : ℕ) (x : Option Place) (q : Place) → x ≡ Some q → width ≡ r.width → AllWhole old.content → (Has geometry last → last.track ≢ 18 → LengthensBy geometry old.content new.content last width b1 x) → HasLonger old.tracks c0 d uses n w b s rs o r new.content b1 s1 q
  lengthen_some width x q some wide whole h =
      let k : IsLengthened geometry old.content new.content last width b1 q = subst (λ (y : Option Place). LengthensBy geometry old.content new.content last width b1 y) some (h has_last last_block.off_18) in
      let same : width ≡ w = wide ∙ ap (λ (y : Relative). y.width) g.file in
      turn_longer old.tracks c0 d uses n w b s rs o r old.content new.content b1 s1 last q g whole (subst (λ (m : ℕ). IsLengthened m old.content new.content last w b1 q) e (subst (λ (m : ℕ). IsLengthened geometry old.content new.content last m b1 q) same k))

-- what the call that lists a block answers, of a first side sector
abbrev pub AnswersList : {A : Type 0} → ℕ → Seen → Seen → ℕ → Place → Place → Result A Trouble → Type 0
AnswersList {A} geometry old new b1 q p res = (head : List ℕ) → Has geometry p → old.content p ≡ Ok head → Has geometry (listed_side head (b1 / 120)) → IsOk (old.content (listed_side head (b1 / 120)))
    → MatchResult res (λ x. IsBlockListed old.content new.content (listed_side head (b1 / 120)) (b1 % 120) q) (λ t. IsListStopped geometry old new t.code)

-- its last block is listed
module _ (old new : Seen) (c0 : Content) (d : Disk) (uses : ℕ → Use) (n w b s : ℕ) (rs : List (List ℕ)) (o : HasRecordsOpen old.tracks c0 d uses n w b s rs) (r : Relative) (geometry b1 s1 : ℕ) (q : Place)
    (e : geometry ≡ geometry_of old.tracks c0) (g : HasLonger old.tracks c0 d uses n w b s rs o r old.content b1 s1 q) where
  abbrev tracks-2 : ℕ
  tracks-2 = geometry_of old.tracks c0

  abbrev free-2 : ℕ
  free-2 = d.free - (b1 + 1 + s1 - (b + s))

  abbrev many : List (List ℕ)
  many = filled_up w (b1 + 1) rs

  stage-2 : Stage old.tracks c0 o.holds.layout d uses n o.file w old.content g.layout many (b1 + 1) s1 free-2
  stage-2 = longer_stage old.tracks c0 d uses n w b s rs o r old.content b1 s1 q g

  lies-2 : FileLies tracks-2 old.content g.layout n w many (b1 + 1) s1
  lies-2 = lies_at old.tracks c0 d uses n w b s rs o old.content g.layout many (b1 + 1) s1 free-2 stage-2

  pub new_block : LastBlock tracks-2 old.content g.layout n q
  new_block = nth_block tracks-2 old.content g.layout n w many (b1 + 1) s1 (length g.blocks) q g.holds.stands.sound (slot_in old.tracks c0 d uses n w b s rs o old.content g.layout many (b1 + 1) s1 free-2 stage-2) lies-2
      (omega (arith, ap (λ (ys : List Place). length ys) g.all, length-append g.blocks (q ∷ []))) (ap (λ (ys : List Place). get_or ys (length g.blocks) directory_head) g.all ∙ get_or_at g.blocks q [] directory_head (length g.blocks) refl)

  pub first_there : FirstSide tracks-2 old.content r.side
  first_there = subst (λ (p : Place). FirstSide tracks-2 old.content p) (ap (λ (y : Relative). y.side) (sym g.file)) (first_reads tracks-2 old.content g.layout n w many (b1 + 1) s1 lies-2)

  pub list_means : {A : Type 0} (res : Result A Trouble) → b1 < 120 * s1
      → (p : Place) → p ≡ r.side → AnswersList geometry old new b1 q p res
      → MatchResult res (λ x. HasGrown old.tracks c0 d uses n w b s rs o r new.content (b1 + 1) s1 q) (IsGrowthStopped old new c0 o.holds.layout d uses n w rs)
  list_means {A} res room p is k =
      let h : AnswersList geometry old new b1 q r.side res = subst (λ (y : Place). AnswersList geometry old new b1 q y res) is k in
      let first = first_there in
      let at = side_is old.tracks c0 d uses n w b s rs o old.content g.layout many (b1 + 1) s1 free-2 (b1 / 120) first.reads.bytes stage-2 (ap (λ (y : Relative). old.content y.side) (sym g.file) ∙ first.reads.is) (omega (arith, room, lies-2.sides)) in
      let has : Has geometry (listed_side first.reads.bytes (b1 / 120)) = subst (λ (m : ℕ). Has m (listed_side first.reads.bytes (b1 / 120))) (sym e) at.1.has in
      by_result res (h first.reads.bytes (subst (λ (m : ℕ). Has m r.side) (sym e) first.has) first.reads.is has at.1.reads)
    where
      by_result : (y : Result A Trouble) → MatchResult y (λ x. IsBlockListed old.content new.content (listed_side first_there.reads.bytes (b1 / 120)) (b1 % 120) q) (λ t. IsListStopped geometry old new t.code)
          → MatchResult y (λ x. HasGrown old.tracks c0 d uses n w b s rs o r new.content (b1 + 1) s1 q) (IsGrowthStopped old new c0 o.holds.layout d uses n w rs)
      by_result (Ok x) k = turn_listed old.tracks c0 d uses n w b s rs o r old.content new.content b1 s1 q first_there.reads.bytes g room first_there.reads.is (λ z. (let f = new_block.has in omega (arith, z, f.0))) k
      by_result (Err t) k = list_cut old new c0 d uses n w b s rs o g.layout (record_count w (b1 + 1) - length rs) (b1 + 1) s1 free-2 t stage-2 (subst (λ (m : ℕ). IsListStopped m old new t.code) e k)

  side_owned : g.layout.owner r.side ≡ SideOf n
  side_owned = ap g.layout.owner (ap (λ (y : Relative). y.side) g.file)
      ∙ (subst (λ (ys : List Place). OwnedBy g.layout.owner (SideOf n) ys) lies-2.records.first.1 (g.holds.stands.sound.owned.sides n (slot_in old.tracks c0 d uses n w b s rs o old.content g.layout many (b1 + 1) s1 free-2 stage-2))).0

  -- a side sector is claimed and written
  pub side_stopped : (t : Trouble) → ((head : List ℕ) → Has geometry r.side → old.content r.side ≡ Ok head → Has geometry q → q.track ≢ 18 → IsLengthenStopped geometry old new r.side t.code) → IsGrowthStopped old new c0 o.holds.layout d uses n w rs t
  side_stopped t h =
      let first = first_there in
      begun_cut old new c0 d uses n w b s rs o g.layout (record_count w (b1 + 1) - length rs) (b1 + 1) s1 free-2 r.side t stage-2
      (is_not (g.layout.owner r.side) (SideOf n) TheMap side_owned (side_map n)) (is_not (g.layout.owner r.side) (SideOf n) Nobody side_owned (side_nobody n)) (subst (λ (x : Cell). IsOk x) (sym first.reads.is) refl)
      (subst (λ (m : ℕ). IsLengthenStopped m old new r.side t.code) e (h first.reads.bytes (subst (λ (m : ℕ). Has m r.side) (sym e) first.has) first.reads.is (subst (λ (m : ℕ). Has m q) (sym e) new_block.has) new_block.off_18))

  pub side_none : (width : ℕ) (x : Option Place) → x ≡ None → 0 < free-2 → ((head : List ℕ) → Has geometry r.side → old.content r.side ≡ Ok head → Has geometry q → q.track ≢ 18 → BeginsSide geometry old.content new.content head s1 width q x) → ⊥
  side_none width x none some h =
      let first = first_there in
      let k = h first.reads.bytes (subst (λ (m : ℕ). Has m r.side) (sym e) first.has) first.reads.is (subst (λ (m : ℕ). Has m q) (sym e) new_block.has) new_block.off_18 in
      let full : IsFull tracks-2 (map_of old.content) = subst (λ (m : ℕ). IsFull m (map_of old.content)) e (subst (λ (y : Option Place). BeginsSide geometry old.content new.content first.reads.bytes s1 width q y) none k).0 in
      let z : free-2 ≡ 0 = none_free tracks-2 old.content g.layout (disk_with d n o.file w many (b1 + 1) s1 free-2) g.holds.stands full in
      omega (arith, z, some)

  pub side_some : (width : ℕ) (x : Option Place) (t : Place) → x ≡ Some t → width ≡ r.width → ((head : List ℕ) → Has geometry r.side → old.content r.side ≡ Ok head → Has geometry q → q.track ≢ 18 → BeginsSide geometry old.content new.content head s1 width q x)
      → HasSide old.tracks c0 d uses n w b s rs o r new.content b1 s1 q t
  side_some width x t some wide h =
      let first = first_there in
      let k = h first.reads.bytes (subst (λ (m : ℕ). Has m r.side) (sym e) first.has) first.reads.is (subst (λ (m : ℕ). Has m q) (sym e) new_block.has) new_block.off_18 in
      let same : width ≡ w = wide ∙ ap (λ (y : Relative). y.width) g.file in
      let is : IsSideBegun geometry old.content new.content first.reads.bytes s1 width q t = subst (λ (y : Option Place). BeginsSide geometry old.content new.content first.reads.bytes s1 width q y) some k in
      side_begun old.tracks c0 d uses n w b s rs o r old.content new.content b1 s1 q t first.reads.bytes g (λ z. (let f = new_block.has in omega (arith, z, f.0)))
      (subst (λ (m : ℕ). IsSideBegun m old.content new.content first.reads.bytes s1 w q t) e (subst (λ (m : ℕ). IsSideBegun geometry old.content new.content first.reads.bytes s1 m q t) same is))

-- what the call that puts a side sector into the list of another one answers
abbrev pub AnswersLink : {A : Type 0} → ℕ → Seen → Seen → ℕ → ℕ → Place → Place → Result A Trouble → Type 0
AnswersLink {A} geometry old new s1 i t p res = (head : List ℕ) → Has geometry p → old.content p ≡ Ok head → Has geometry (listed_side head i) → IsOk (old.content (listed_side head i))
    → MatchResult res (λ x. IsSideLinked old.content new.content (listed_side head i) i s1 t) (λ t. IsListStopped geometry old new t.code)

-- a new side sector is put into the lists of the others
module _ (old new : Seen) (c0 : Content) (d : Disk) (uses : ℕ → Use) (n w b s : ℕ) (rs : List (List ℕ)) (o : HasRecordsOpen old.tracks c0 d uses n w b s rs) (r : Relative) (geometry b1 s1 i : ℕ) (q t : Place)
    (e : geometry ≡ geometry_of old.tracks c0) (g : HasSide old.tracks c0 d uses n w b s rs o r old.content b1 s1 q t) (few : i < s1) where
  abbrev tracks-3 : ℕ
  tracks-3 = geometry_of old.tracks c0

  abbrev free-3 : ℕ
  free-3 = d.free - (b1 + 1 + (s1 + 1) - (b + s))

  abbrev many-3 : List (List ℕ)
  many-3 = filled_up w (b1 + 1) rs

  stage-3 : Stage old.tracks c0 o.holds.layout d uses n o.file w old.content g.layout many-3 (b1 + 1) s1 free-3
  stage-3 = side_stage old.tracks c0 d uses n w b s rs o r old.content b1 s1 q t g

  lies-3 : FileLies tracks-3 old.content g.layout n w many-3 (b1 + 1) s1
  lies-3 = lies_at old.tracks c0 d uses n w b s rs o old.content g.layout many-3 (b1 + 1) s1 free-3 stage-3

  pub first_there-3 : FirstSide tracks-3 old.content r.side
  first_there-3 = subst (λ (p : Place). FirstSide tracks-3 old.content p) (ap (λ (y : Relative). y.side) (sym g.file)) (first_reads tracks-3 old.content g.layout n w many-3 (b1 + 1) s1 lies-3)

  -- what the call answers, of the file's own side sectors
  linked : {A : Type 0} (res : Result A Trouble) (p : Place) → p ≡ r.side → AnswersLink geometry old new s1 i t p res
      → MatchResult res (λ x. IsSideLinked old.content new.content (listed_side first_there-3.reads.bytes i) i s1 t) (λ u. IsListStopped geometry old new u.code)
  linked {A} res p is k =
      let h : AnswersLink geometry old new s1 i t r.side res = subst (λ (y : Place). AnswersLink geometry old new s1 i t y res) is k in
      let first = first_there-3 in
      let at = side_is old.tracks c0 d uses n w b s rs o old.content g.layout many-3 (b1 + 1) s1 free-3 i first.reads.bytes stage-3 (ap (λ (y : Relative). old.content y.side) (sym g.file) ∙ first.reads.is) (omega (arith, few, lies-3.sides)) in
      h first.reads.bytes (subst (λ (m : ℕ). Has m r.side) (sym e) first.has) first.reads.is (subst (λ (m : ℕ). Has m (listed_side first.reads.bytes i)) (sym e) at.1.has) at.1.reads

  pub copy_means : {A : Type 0} (res : Result A Trouble) (p : Place) → p ≡ r.side → AnswersLink geometry old new s1 i t p res → 0 < i
      → MatchResult res (λ x. HasSide old.tracks c0 d uses n w b s rs o r new.content b1 s1 q t) (IsGrowthStopped old new c0 o.holds.layout d uses n w rs)
  copy_means {A} res p is k some = by_result res (linked res p is k)
    where
      by_result : (y : Result A Trouble) → MatchResult y (λ x. IsSideLinked old.content new.content (listed_side first_there-3.reads.bytes i) i s1 t) (λ u. IsListStopped geometry old new u.code)
          → MatchResult y (λ x. HasSide old.tracks c0 d uses n w b s rs o r new.content b1 s1 q t) (IsGrowthStopped old new c0 o.holds.layout d uses n w rs)
      by_result (Ok x) h = side_copied old.tracks c0 d uses n w b s rs o r old.content new.content b1 s1 i q t first_there-3.reads.bytes g some few first_there-3.reads.is h
      by_result (Err u) h = list_cut old new c0 d uses n w b s rs o g.layout (record_count w (b1 + 1) - length rs) (b1 + 1) s1 free-3 u stage-3 (subst (λ (m : ℕ). IsListStopped m old new u.code) e h)

  pub add_means : {A : Type 0} (res : Result A Trouble) (p : Place) → p ≡ r.side → AnswersLink geometry old new s1 i t p res → i ≡ 0 → b1 ≡ 120 * s1 → s1 < 6
      → MatchResult res (λ x. HasGrown old.tracks c0 d uses n w b s rs o r new.content (b1 + 1) (s1 + 1) q) (IsGrowthStopped old new c0 o.holds.layout d uses n w rs)
  add_means {A} res p is k zero whole most = by_result res (linked res p is k)
    where
      by_result : (y : Result A Trouble) → MatchResult y (λ x. IsSideLinked old.content new.content (listed_side first_there-3.reads.bytes i) i s1 t) (λ u. IsListStopped geometry old new u.code)
          → MatchResult y (λ x. HasGrown old.tracks c0 d uses n w b s rs o r new.content (b1 + 1) (s1 + 1) q) (IsGrowthStopped old new c0 o.holds.layout d uses n w rs)
      by_result (Ok x) h = side_added old.tracks c0 d uses n w b s rs o r old.content new.content b1 s1 q t first_there-3.reads.bytes g whole most first_there-3.reads.is
          (subst (λ (j : ℕ). IsSideLinked old.content new.content (listed_side first_there-3.reads.bytes j) j s1 t) zero h)
      by_result (Err u) h = list_cut old new c0 d uses n w b s rs o g.layout (record_count w (b1 + 1) - length rs) (b1 + 1) s1 free-3 u stage-3 (subst (λ (m : ℕ). IsListStopped m old new u.code) e h)
