-- A growth goes step by step, from one state of the file to the next.
use Rattle.std.specs.Prelude.{ℕ, ◌+◌, ◌-◌, ◌<◌, ◌≤◌, ◌≡◌, List, Result, Ok, IsOk, IfOk, MatchResult}
use Rattle.cbm_medium.specs.Place.{Place, Has}
use Rattle.cbm_medium.specs.Content.{Content}
use Rattle.cbm_medium.specs.Seen.{Seen}
use Rattle.cbm_medium.specs.declared.fault.Trouble.{Trouble}
use Rattle.cbm_file.specs.Files.{Disk}
use Rattle.cbm_file.specs.Records.{sides_for}
use Rattle.cbm_bam.specs.Map.{geometry_of}
use Rattle.cbm_relfile.specs.Growing.{IsListStopped, IsSideLinked, AreSides, AreSidesLinked}
use Rattle.cbm_relfile.specs.Records.{Relative}
use Rattle.cbm_relfile.specs.SideSectors.{listed_side}
use Rattle.cbm_volume.specs.declared.records.growing_blocks.Reach.{Reach}
use Rattle.cbm_volume.specs.AddingSides.{HasSides, HasEmptySide}
use Rattle.cbm_volume.specs.Growing.{HasGrown, HasLonger, HasSide, IsGrowthStopped}
use Rattle.cbm_volume.specs.RecordWrites.{HasRecordsOpen}
use Rattle.cbm_volume.specs.Writers.{Use}

-- a state of a file whose records a channel had open when its growth began
abbrev pub GrowthState : Type 1
GrowthState = (m : ℕ) (c0 : Content) (d : Disk) (uses : ℕ → Use) (n w b s : ℕ) (rs : List (List ℕ)) → HasRecordsOpen m c0 d uses n w b s rs → Content → Type 0

-- A STEP OF A GROWTH goes from one state to another, or stops; whenever the growth began, on a disk of this geometry.
abbrev pub GrowthGoes : {A : Type 0} → Result A Trouble → Seen → Seen → ℕ → GrowthState → (A → GrowthState) → Type 0
GrowthGoes result old new geometry From To = (c0 : Content) (d : Disk) (uses : ℕ → Use) (n w b s : ℕ) (rs : List (List ℕ)) (o : HasRecordsOpen old.tracks c0 d uses n w b s rs) → geometry ≡ geometry_of old.tracks c0
    → From old.tracks c0 d uses n w b s rs o old.content → MatchResult result (λ x. To x old.tracks c0 d uses n w b s rs o new.content) (IsGrowthStopped old new c0 o.holds.layout d uses n w rs)

-- the file has this many side sectors
abbrev pub OfSides : Relative → ℕ → GrowthState
OfSides r s1 m c0 d uses n w b s rs o c = HasSides m c0 d uses n w b s rs o r c s1

-- and a block is free for one more
abbrev pub OfRoom : Relative → ℕ → GrowthState
OfRoom r s1 m c0 d uses n w b s rs o c = HasSides m c0 d uses n w b s rs o r c s1 × (0 < d.free - (s1 - s))

-- and enough blocks are free for this many
abbrev pub OfRoomFor : Relative → ℕ → ℕ → GrowthState
OfRoomFor r s1 all m c0 d uses n w b s rs o c = HasSides m c0 d uses n w b s rs o r c s1 × (all - s ≤ d.free)

-- it has this many, and a new one at this place, which lists no block and isn't listed
abbrev pub OfEmpty : Relative → ℕ → Place → GrowthState
OfEmpty r s1 t m c0 d uses n w b s rs o c = HasEmptySide m c0 d uses n w b s rs o r c s1 t

-- it has as many as it is to have
abbrev pub OfAllSides : Relative → ℕ → ℕ → GrowthState
OfAllSides r all s1 m c0 d uses n w b s rs o c = (s1 ≡ all) × HasSides m c0 d uses n w b s rs o r c s1

-- ---- block by block

-- the file has grown to this many full data blocks, the last at this place, and side sectors that list them
abbrev pub OfGrown : Relative → ℕ → ℕ → Place → GrowthState
OfGrown r b1 s1 last m c0 d uses n w b s rs o c = HasGrown m c0 d uses n w b s rs o r c b1 s1 last

-- and a block is free for one more
abbrev pub OfGrowable : Relative → ℕ → ℕ → Place → GrowthState
OfGrowable r b1 s1 last m c0 d uses n w b s rs o c = HasGrown m c0 d uses n w b s rs o r c b1 s1 last × (0 < d.free - (b1 + s1 - (b + s)))

-- and enough blocks are free to reach this many
abbrev pub OfGoal : Relative → ℕ → ℕ → Place → ℕ → GrowthState
OfGoal r b1 s1 last goal m c0 d uses n w b s rs o c = HasGrown m c0 d uses n w b s rs o r c b1 s1 last × (goal + sides_for s1 goal - (b + s) ≤ d.free)

-- it has grown to this many data blocks and to as many side sectors as it is to have
abbrev pub OfReached : Relative → ℕ → ℕ → ℕ → Place → GrowthState
OfReached r b1 all s1 last m c0 d uses n w b s rs o c = (s1 ≡ all) × HasGrown m c0 d uses n w b s rs o r c b1 s1 last

-- it has one data block more, at this place, which isn't listed
abbrev pub OfLonger : Relative → ℕ → ℕ → Place → GrowthState
OfLonger r b1 s1 q m c0 d uses n w b s rs o c = HasLonger m c0 d uses n w b s rs o r c b1 s1 q

-- and a block is free for a side sector
abbrev pub OfSideable : Relative → ℕ → ℕ → Place → GrowthState
OfSideable r b1 s1 q m c0 d uses n w b s rs o c = HasLonger m c0 d uses n w b s rs o r c b1 s1 q × (0 < d.free - (b1 + 1 + s1 - (b + s)))

-- and a side sector at the second place lists it alone, which isn't listed
abbrev pub OfSide : Relative → ℕ → ℕ → Place → Place → GrowthState
OfSide r b1 s1 q t m c0 d uses n w b s rs o c = HasSide m c0 d uses n w b s rs o r c b1 s1 q t

-- the file grows from where it reaches to this many data blocks, where enough are free for them and for the side sectors that list them
abbrev pub GrowsTo : Result Reach Trouble → Seen → Seen → ℕ → Relative → Reach → ℕ → Type 0
GrowsTo result old new geometry r from goal =
    GrowthGoes result old new geometry (OfGoal r from.blocks from.sides from.last goal) (λ x. OfReached r goal (sides_for from.sides goal) x.sides x.last)

-- a new side sector, which lists the last data block alone, isn't listed before the step nor after it
abbrev pub KeepsSide : Result (Unit {0}) Trouble → Seen → Seen → ℕ → Relative → ℕ → ℕ → Place → Place → Type 0
KeepsSide result old new geometry r b1 s1 q t = GrowthGoes result old new geometry (OfSide r b1 s1 q t) (λ x. OfSide r b1 s1 q t)

-- so it is where the new side sector lists no block
abbrev pub KeepsEmpty : Result (Unit {0}) Trouble → Seen → Seen → ℕ → Relative → ℕ → Place → Type 0
KeepsEmpty result old new geometry r s1 t = GrowthGoes result old new geometry (OfEmpty r s1 t) (λ x. OfEmpty r s1 t)

-- ---- the lists of the side sectors

-- THE SIDE SECTOR OF A NUMBER NAMES A NEW ONE, and all else in it stays; or its write was refused.
abbrev pub NamesSide : Result (Unit {0}) Trouble → Seen → Seen → ℕ → Relative → ℕ → ℕ → Place → Type 0
NamesSide result old new geometry r number sides side = (head : List ℕ) → Has geometry r.side → old.content r.side ≡ Ok head → let at = listed_side head number in Has geometry at → IsOk (old.content at)
    → MatchResult result (λ x. IsSideLinked old.content new.content at number sides side) (λ t. IsListStopped geometry old new t.code)

-- each side sector but the first names the new one then, after those that it named
abbrev pub NameSides : Result (Unit {0}) Trouble → Seen → Seen → ℕ → Relative → ℕ → Place → Type 0
NameSides result old new geometry r sides side = (head : List ℕ) → AreSides geometry old.content r.side head sides → IfOk result (λ x. AreSidesLinked old.content new.content head 1 sides side)
