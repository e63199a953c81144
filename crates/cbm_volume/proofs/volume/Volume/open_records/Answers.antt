use Rattle.std.proofs.Common.{ℕ, Ok, ◌≡◌, Err, sym, ap, ◌∙◌, subst}
use Rattle.std.specs.Prelude.{IsOk}
use Rattle.cbm_medium.specs.Place.{Place, Has}
use Rattle.cbm_medium.specs.Content.{Cell, Content}
use Rattle.cbm_medium.specs.Links.{bytes_at, or_nothing}
use Rattle.cbm_bam.specs.Map.{geometry_of}
use Rattle.cbm_directory.specs.Entries.{first_side}
use Rattle.cbm_volume.specs.check.SideLists.{are_records_in}
use Rattle.cbm_volume.proofs.held.RecordsRead.{records_open}
use Rattle.cbm_volume.proofs.volume.Volume.open_records.Goals as goal

-- the first side sector is one of the disk, it reads, and the side sectors are right
unread : (x : Cell) (e : ℕ) → x ≡ Err e → IsOk x → ⊥
unread (Ok bytes) e h ok = absurd (cc)
unread (Err k) e h ok = absurd (cc)

pub returns-in_default-clause-means : goal.returns-in_default-clause-means
returns-in_default-clause-means g c = λ d n f w b s rs m at here is.
    let o = records_open (geometry_of (g.M.Medium.seen c.args.self.now).tracks (g.M.Medium.seen c.args.self.now).content) (g.M.Medium.seen c.args.self.now).content m.layout d n c.args.entry.now f w b s rs m.stands at here is in
    absurd (c.in_default.ensures (subst (λ (t : ℕ). Has t c.first_side-at.result) (sym c.geometry-geometry.ensures.value) (subst (λ (p : Place). Has (geometry_of (g.M.Medium.seen c.args.self.now).tracks (g.M.Medium.seen c.args.self.now).content) p) (sym c.first_side-at.ensures) o.has)))

pub returns-in_err-first-clause-means : goal.returns-in_err-first-clause-means
returns-in_err-first-clause-means g c = λ d n f w b s rs m at here is.
    let o = records_open (geometry_of (g.M.Medium.seen c.args.self.now).tracks (g.M.Medium.seen c.args.self.now).content) (g.M.Medium.seen c.args.self.now).content m.layout d n c.args.entry.now f w b s rs m.stands at here is in
    let same : (g.M.Medium.seen c.args.self.now).content ≡ (g.M.Medium.seen c.self.inside.medium).content = ap (λ m. (g.M.Medium.seen m).content) (sym c.self.view_is) in
    let reads = subst (λ (x : Content). IsOk (x c.in-Some.address)) same (subst (λ (p : Place). IsOk ((g.M.Medium.seen c.args.self.now).content p)) (sym (c.in-Some.ensures.1 ∙ c.first_side-at.ensures)) o.reads) in
    absurd (unread ((g.M.Medium.seen c.self.inside.medium).content c.in-Some.address) _ c.in_err-first.ensures.err.0 reads)

pub returns-clause-means : goal.returns-clause-means
returns-clause-means g c = λ d n f w b s rs m at here is.
    let o = records_open (geometry_of (g.M.Medium.seen c.args.self.now).tracks (g.M.Medium.seen c.args.self.now).content) (g.M.Medium.seen c.args.self.now).content m.layout d n c.args.entry.now f w b s rs m.stands at here is in
    let same : (g.M.Medium.seen c.args.self.now).content ≡ (g.M.Medium.seen c.self.inside.medium).content = ap (λ m. (g.M.Medium.seen m).content) (sym c.self.view_is) in
    let first : bytes_at (g.M.Medium.seen c.args.self.now).content (first_side c.args.entry.now) ≡ c.in_ok-first.first = ap or_nothing ((λ i. same i (sym (c.in-Some.ensures.1 ∙ c.first_side-at.ensures) i)) ∙ c.in_ok-first.ensures.ok) in
    sym c.if-has_records.false ∙ c.has_records.ensures ∙ (λ i. are_records_in (c.geometry-geometry.ensures.value i) (sym same i) c.args.entry.now (sym first i)) ∙ o.right
