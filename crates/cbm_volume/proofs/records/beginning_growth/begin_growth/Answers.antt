use Rattle.std.proofs.Common.{◌≡◌, ℕ, ◌*◌, ◌≤◌, sym, ap, ◌∙◌, subst, IsOk, Result, Ok, Err, arith}
use Rattle.cbm_medium.specs.Place.{Place}
use Rattle.cbm_medium.specs.Content.{Content}
use Rattle.cbm_medium.specs.declared.fault.Trouble.{Trouble}
use Rattle.cbm_bam.specs.Map.{geometry_of}
use Rattle.cbm_directory.specs.Entries.{entry_at, first_block, first_side}
use Rattle.cbm_medium.specs.Seen.{Seen}
use Rattle.cbm_volume.specs.Growing.{IsGrowthStopped, IsReadyToGrow}
use Rattle.cbm_volume.specs.RecordWrites.{HasRecordsOpen}
use Rattle.cbm_volume.proofs.copied.CopySteps.{handed}
use Rattle.cbm_volume.proofs.relative.Begun.{same_medium}
use Rattle.cbm_volume.proofs.grown.GrowthBegun.{sides_begin, enough_sides, open_again, grown_since, stopped_since}
use Rattle.cbm_volume.proofs.OneAfterAnother.{second_refused, both_done}
use Rattle.cbm_volume.proofs.records.beginning_growth.begin_growth.Goals as goal

-- a side sector isn't added
pub returns-in_err-sides-clause-begun : goal.returns-in_err-sides-clause-begun
returns-in_err-sides-clause-begun g c = λ n size d uses w rs o is room.
    let old : Seen = g.M.Medium.seen c.args.medium.now in
    let new : Seen = g.M.Medium.seen c.add_sides.new.medium in
    handed c.from_residual.result c.in_err-sides.field-0.0 _ (IsGrowthStopped old new old.content o.holds.layout d uses n w rs) c.from_residual.ensures.1
    (c.in_err-sides.ensures.added old.content d uses n w c.args.blocks c.args.sides rs o size (sides_begin old.tracks old.content d uses n w c.args.blocks c.args.sides rs o c.args.file is, room))

-- the rest isn't done
pub returns-in_err-last-clause-begun : goal.returns-in_err-last-clause-begun
returns-in_err-last-clause-begun g c = λ n size d uses w rs o is room.
    let old : Seen = g.M.Medium.seen c.args.medium.now in
    let mid : Seen = g.M.Medium.seen c.add_sides.new.medium in
    let new : Seen = g.M.Medium.seen c.begin_listed.new.medium in
    let only = c.in_ok-sides.ensures.only in
    let k = c.in_ok-sides.ensures.added old.content d uses n w c.args.blocks c.args.sides rs o size (sides_begin old.tracks old.content d uses n w c.args.blocks c.args.sides rs o c.args.file is, room) in
    let sized : c.args.geometry ≡ geometry_of mid.tracks mid.content = size ∙ sym k.1.same ∙ ap (λ (m : ℕ). geometry_of m mid.content) (sym only.tracks) in
    handed c.from_residual-in_err-last.result c.in_err-last.field-0.0 _ (IsGrowthStopped old new old.content o.holds.layout d uses n w rs) c.from_residual-in_err-last.ensures.1
    (stopped_since old mid new d uses n w c.args.blocks c.args.sides rs o c.args.file c.in_ok-sides.sides k.1 only.tracks c.in_err-last.field-0.0 only.protected only.counted
    (c.in_err-last.ensures.begun n sized _ uses w rs (open_again old mid new d uses n w c.args.blocks c.args.sides rs o c.args.file c.in_ok-sides.sides k.1 only.tracks) k.1.file
    (subst (λ (m : ℕ). c.args.blocks ≤ 120 * m) (sym k.0) (enough_sides c.args.sides c.args.blocks))))

pub returns-clause-begun : goal.returns-clause-begun
returns-clause-begun g c = λ n size d uses w rs o is room.
    let old : Seen = g.M.Medium.seen c.args.medium.now in
    let mid : Seen = g.M.Medium.seen c.add_sides.new.medium in
    let new : Seen = g.M.Medium.seen c.begin_listed.new.medium in
    let only = c.in_ok-sides.ensures.only in
    let k = c.in_ok-sides.ensures.added old.content d uses n w c.args.blocks c.args.sides rs o size (sides_begin old.tracks old.content d uses n w c.args.blocks c.args.sides rs o c.args.file is, room) in
    let sized : c.args.geometry ≡ geometry_of mid.tracks mid.content = size ∙ sym k.1.same ∙ ap (λ (m : ℕ). geometry_of m mid.content) (sym only.tracks) in (
      k.0,
      grown_since old mid new d uses n w c.args.blocks c.args.sides rs o c.args.file c.in_ok-sides.sides k.1 only.tracks c.in_ok-last.last
          (c.in_ok-last.ensures.begun n sized _ uses w rs (open_again old mid new d uses n w c.args.blocks c.args.sides rs o c.args.file c.in_ok-sides.sides k.1 only.tracks) k.1.file
          (subst (λ (m : ℕ). c.args.blocks ≤ 120 * m) (sym k.0) (enough_sides c.args.sides c.args.blocks))),
    )

-- nothing is written to a file that the drive wrote
pub returns-in_err-last-clause-ready : goal.returns-in_err-last-clause-ready
returns-in_err-last-clause-ready g c = λ n size d uses w rs o is all ready.
    let r : Result Place Trouble = Err c.in_err-last.field-0.0 in
    let old : Seen = g.M.Medium.seen c.args.medium.now in
    let mid : Seen = g.M.Medium.seen c.add_sides.new.medium in
    let new : Seen = g.M.Medium.seen c.begin_listed.new.medium in
    let kept = c.in_ok-sides.ensures.enough (omega (arith, all, c.requires.blocks.0)) all in
    let same : c.in_ok-sides.sides ≡ c.args.sides = (let e = kept.0 in cc) in
    absurd (let no = (same_medium old mid
    (λ (t : ℕ) (x : Content). c.args.geometry ≡ geometry_of t x → (o1 : HasRecordsOpen t x d uses n w c.args.blocks c.args.sides rs) → c.args.file ≡ record { first = first_block (entry_at x o1.holds.layout.directory n); side = first_side (entry_at x o1.holds.layout.directory n); width = w }
    → IsReadyToGrow x (o1.holds.layout.files n).sides (o1.holds.layout.files n).data_blocks c.args.blocks → IsOk r × (new.content ≡ x))
    c.in_ok-sides.ensures.only.tracks kept.1
    (subst (λ (k : ℕ). c.args.geometry ≡ geometry_of mid.tracks mid.content → (o1 : HasRecordsOpen mid.tracks mid.content d uses n w c.args.blocks k rs) → c.args.file ≡ record { first = first_block (entry_at mid.content o1.holds.layout.directory n); side = first_side (entry_at mid.content o1.holds.layout.directory n); width = w }
    → IsReadyToGrow mid.content (o1.holds.layout.files n).sides (o1.holds.layout.files n).data_blocks c.args.blocks → IsOk r × (new.content ≡ mid.content)) same (λ sized. c.in_err-last.ensures.ready n sized d uses w rs)) size o is ready).0 in cc)

pub returns-clause-ready : goal.returns-clause-ready
returns-clause-ready g c = λ n size d uses w rs o is all ready.
    let r : Result Place Trouble = Ok c.in_ok-last.last in
    let old : Seen = g.M.Medium.seen c.args.medium.now in
    let mid : Seen = g.M.Medium.seen c.add_sides.new.medium in
    let new : Seen = g.M.Medium.seen c.begin_listed.new.medium in
    let kept = c.in_ok-sides.ensures.enough (omega (arith, all, c.requires.blocks.0)) all in
    let same : c.in_ok-sides.sides ≡ c.args.sides = (let e = kept.0 in cc) in
    same_medium old mid
    (λ (t : ℕ) (x : Content). c.args.geometry ≡ geometry_of t x → (o1 : HasRecordsOpen t x d uses n w c.args.blocks c.args.sides rs) → c.args.file ≡ record { first = first_block (entry_at x o1.holds.layout.directory n); side = first_side (entry_at x o1.holds.layout.directory n); width = w }
    → IsReadyToGrow x (o1.holds.layout.files n).sides (o1.holds.layout.files n).data_blocks c.args.blocks → IsOk r × (new.content ≡ x))
    c.in_ok-sides.ensures.only.tracks kept.1
    (subst (λ (k : ℕ). c.args.geometry ≡ geometry_of mid.tracks mid.content → (o1 : HasRecordsOpen mid.tracks mid.content d uses n w c.args.blocks k rs) → c.args.file ≡ record { first = first_block (entry_at mid.content o1.holds.layout.directory n); side = first_side (entry_at mid.content o1.holds.layout.directory n); width = w }
    → IsReadyToGrow mid.content (o1.holds.layout.files n).sides (o1.holds.layout.files n).data_blocks c.args.blocks → IsOk r × (new.content ≡ mid.content)) same (λ sized. c.in_ok-last.ensures.ready n sized d uses w rs)) size o is ready

pub returns-in_err-last-clause-only : goal.returns-in_err-last-clause-only
returns-in_err-last-clause-only g c = second_refused c.from_residual-in_err-last.result c.in_ok-sides.was c.in_err-last.was c.from_residual-in_err-last.ensures.1 c.add_sides.ensures.only c.begin_listed.ensures.only

pub returns-clause-only : goal.returns-clause-only
returns-clause-only g c = both_done _ c.in_ok-sides.was c.in_ok-last.was c.add_sides.ensures.only c.begin_listed.ensures.only
