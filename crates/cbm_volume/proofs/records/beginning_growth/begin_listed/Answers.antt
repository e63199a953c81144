use Rattle.std.proofs.Common.{◌≡◌, ℕ, ◌*◌, length, IsOk, sym, ap, ◌∙◌}
use Rattle.cbm_medium.proofs.Sequences.{only_after}
use Rattle.cbm_medium.specs.Content.{Content}
use Rattle.cbm_medium.specs.Seen.{Seen}
use Rattle.cbm_bam.specs.Map.{geometry_of}
use Rattle.cbm_chain.specs.Data.{chain_bytes}
use Rattle.cbm_directory.specs.Entries.{entry_at, first_block, first_side}
use Rattle.cbm_volume.specs.RecordWrites.{HasRecordsOpen}
use Rattle.cbm_volume.specs.Growing.{IsGrowthStopped}
use Rattle.cbm_relfile.proofs.Changed.{refused_by}
use Rattle.cbm_volume.proofs.relative.Begun.{reopened, names_same, same_medium, stopped_first, begun_means}
use Rattle.cbm_volume.proofs.records.beginning_growth.begin_listed.Goals as goal

-- a side sector isn't written
pub returns-in_err-list_anew-clause-begun : goal.returns-in_err-list_anew-clause-begun
returns-in_err-list_anew-clause-begun g c = λ n size d uses w rs o is few.
    let old : Seen = g.M.Medium.seen c.args.medium.now in
    let new : Seen = g.M.Medium.seen c.list_anew.new.medium in
    let r = c.in_err-list_anew.ensures.listed n c.args.blocks size d uses w rs o is in
    refused_by c.from_residual.result c.in_err-list_anew.field-0.0 _ (IsGrowthStopped old new old.content o.holds.layout d uses n w rs) c.from_residual.ensures.1
    (stopped_first old old new d uses n w c.args.blocks c.args.sides rs o c.in_err-list_anew.field-0.0 r.0 r.1)

-- the last block is filled up, or not
pub returns-clause-begun : goal.returns-clause-begun
returns-clause-begun g c = λ n size d uses w rs o is few.
    let old : Seen = g.M.Medium.seen c.args.medium.now in
    let mid : Seen = g.M.Medium.seen c.list_anew.new.medium in
    let new : Seen = g.M.Medium.seen c.fill_last.new.medium in
    let r = c.in_ok-list_anew.ensures.listed n c.args.blocks size d uses w rs o is in
    let o2 = reopened old.tracks mid.tracks old.content mid.content d uses n w c.args.blocks c.args.sides rs o c.in_ok-list_anew.ensures.only.tracks r.0 in
    let is2 = names_same old mid new d uses n w c.args.blocks c.args.sides rs o c.args.file r.0 is in
    let sized : c.args.geometry ≡ geometry_of mid.tracks mid.content = size ∙ sym r.0.same ∙ ap (λ (m : ℕ). geometry_of m mid.content) (sym c.in_ok-list_anew.ensures.only.tracks) in
    begun_means old mid new d uses n w c.args.blocks c.args.sides rs o r.0 c.args.file c.fill_last.result c.in_ok-list_anew.ensures.only.tracks c.in_ok-list_anew.ensures.only.protected c.in_ok-list_anew.ensures.only.counted
    (c.fill_last.ensures.aside n c.args.sides sized d uses w rs o2 is2) (c.fill_last.ensures.filled n c.args.sides sized d uses w rs o2 is2 (r.1 few))

-- a file that is in the drive's form and full isn't written
pub returns-in_err-list_anew-clause-ready : goal.returns-in_err-list_anew-clause-ready
returns-in_err-list_anew-clause-ready g c = λ n size d uses w rs o is ready.
    absurd (let no = (c.in_err-list_anew.ensures.form n c.args.blocks size d uses w rs o is ready.form).0 in cc)

pub returns-clause-ready : goal.returns-clause-ready
returns-clause-ready g c = λ n size d uses w rs o is ready.
    let old : Seen = g.M.Medium.seen c.args.medium.now in
    let mid : Seen = g.M.Medium.seen c.list_anew.new.medium in
    let new : Seen = g.M.Medium.seen c.fill_last.new.medium in
    same_medium old mid
    (λ (t : ℕ) (x : Content). c.args.geometry ≡ geometry_of t x → (o1 : HasRecordsOpen t x d uses n w c.args.blocks c.args.sides rs) → c.args.file ≡ record { first = first_block (entry_at x o1.holds.layout.directory n); side = first_side (entry_at x o1.holds.layout.directory n); width = w }
    → length (chain_bytes x (o1.holds.layout.files n).data_blocks) ≡ 254 * c.args.blocks → IsOk c.fill_last.result × (new.content ≡ x))
    c.in_ok-list_anew.ensures.only.tracks (c.in_ok-list_anew.ensures.form n c.args.blocks size d uses w rs o is ready.form).1 (λ sized. c.fill_last.ensures.full n c.args.sides sized d uses w rs) size o is ready.full

pub returns-clause-only : goal.returns-clause-only
returns-clause-only g c =
    only_after c.list_anew.result c.in_ok-list_anew.field-0 c.fill_last.result (g.M.Medium.seen c.args.medium.now) (g.M.Medium.seen c.list_anew.new.medium) (g.M.Medium.seen c.fill_last.new.medium) c.in_ok-list_anew.was
    c.list_anew.ensures.only c.fill_last.ensures.only
