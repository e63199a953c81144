use Rattle.std.proofs.Common.{refl, inl, inr}
use Rattle.cbm_medium.specs.Seen.{Seen}
use Rattle.cbm_relfile.specs.Relisting.{IsSideRefused, AreListed}
use Rattle.cbm_relfile.proofs.Changed.{refused_by}
use Rattle.cbm_relfile.proofs.Relisted.{read_listed, all_oks, head_names, relisted_then, later_refused}
use Rattle.cbm_medium.proofs.Sequences.{only_after}
use Rattle.cbm_relfile.proofs.growth.relisting.list_anew.Goals as goal

-- side sectors and blocks read
pub returns-in_err-are_listed-clause-laid : goal.returns-in_err-are_listed-clause-laid
returns-in_err-are_listed-clause-laid g c = λ xs ss whole laid apart l.
    let old : Seen = g.M.Medium.seen c.args.medium.now in
    absurd (c.in_err-are_listed.ensures.listed c.args.file xs ss laid c.first.ensures (head_names c.args.geometry old.content c.args.file xs ss c.side.result c.in_ok-head.head laid c.side.ensures c.in_ok-head.ensures.ok) l)

-- they are in the drive's form
pub returns-then-branch-clause-laid : goal.returns-then-branch-clause-laid
returns-then-branch-clause-laid g c = λ xs ss whole laid apart l.
    let old : Seen = g.M.Medium.seen c.args.medium.now in (
      record { laid = laid; whole = whole; kept = λ i k. inl refl; others = λ p a. refl },
      c.in_ok-are_listed.ensures.listed c.args.file xs ss laid c.first.ensures (head_names c.args.geometry old.content c.args.file xs ss c.side.result c.in_ok-head.head laid c.side.ensures c.in_ok-head.ensures.ok) l c.if-branch.true,
    )

-- one of the lists isn't taken away
pub returns-in_err-unlist-clause-laid : goal.returns-in_err-unlist-clause-laid
returns-in_err-unlist-clause-laid g c = λ xs ss whole laid apart l.
    let old : Seen = g.M.Medium.seen c.args.medium.now in
    let new : Seen = g.M.Medium.seen c.unlist.new.medium in
    let names = head_names c.args.geometry old.content c.args.file xs ss c.side.result c.in_ok-head.head laid c.side.ensures c.in_ok-head.ensures.ok in
    let r = c.in_err-unlist.ensures.unlisted c.args.file xs ss whole laid apart names l in
    (r.0, refused_by c.from_residual-in_err-unlist.result c.in_err-unlist.field-0.0 _ (λ t. IsSideRefused old new t.code) c.from_residual-in_err-unlist.ensures.1 r.1)

pub returns-clause-laid : goal.returns-clause-laid
returns-clause-laid g c = λ xs ss whole laid apart l.
    let old : Seen = g.M.Medium.seen c.args.medium.now in
    let mid : Seen = g.M.Medium.seen c.unlist.new.medium in
    let new : Seen = g.M.Medium.seen c.relist.new.medium in
    let names = head_names c.args.geometry old.content c.args.file xs ss c.side.result c.in_ok-head.head laid c.side.ensures c.in_ok-head.ensures.ok in
    let one = c.in_ok-unlist.ensures.unlisted c.args.file xs ss whole laid apart names l in
    let two = c.relist.ensures.relisted c.args.file xs ss one.0.whole one.0.laid apart c.first-2.ensures names l one.1 in
    (relisted_then c.args.geometry old.content mid.content new.content c.args.file xs ss one.0 two.0, later_refused old mid new c.relist.result (AreListed new.content ss xs) c.in_ok-unlist.ensures.only.protected c.in_ok-unlist.ensures.only.counted two.1)

-- what is in the drive's form isn't written
pub returns-in_err-are_listed-clause-form : goal.returns-in_err-are_listed-clause-form
returns-in_err-are_listed-clause-form g c = λ xs ss laid l form.
    let old : Seen = g.M.Medium.seen c.args.medium.now in
    let yes = c.in_err-are_listed.ensures.form c.args.file xs ss laid c.first.ensures (head_names c.args.geometry old.content c.args.file xs ss c.side.result c.in_ok-head.head laid c.side.ensures c.in_ok-head.ensures.ok) l form in
    absurd (cc)

pub returns-in_err-unlist-clause-form : goal.returns-in_err-unlist-clause-form
returns-in_err-unlist-clause-form g c = λ xs ss laid l form.
    let old : Seen = g.M.Medium.seen c.args.medium.now in
    let yes = c.in_ok-are_listed.ensures.form c.args.file xs ss laid c.first.ensures (head_names c.args.geometry old.content c.args.file xs ss c.side.result c.in_ok-head.head laid c.side.ensures c.in_ok-head.ensures.ok) l form in
    absurd (let no = c.if-branch.false in cc)

pub returns-clause-form : goal.returns-clause-form
returns-clause-form g c = λ xs ss laid l form.
    let old : Seen = g.M.Medium.seen c.args.medium.now in
    let yes = c.in_ok-are_listed.ensures.form c.args.file xs ss laid c.first.ensures (head_names c.args.geometry old.content c.args.file xs ss c.side.result c.in_ok-head.head laid c.side.ensures c.in_ok-head.ensures.ok) l form in
    absurd (let no = c.if-branch.false in cc)

pub returns-clause-only : goal.returns-clause-only
returns-clause-only g c =
    let old : Seen = g.M.Medium.seen c.args.medium.now in
    let mid : Seen = g.M.Medium.seen c.unlist.new.medium in
    let new : Seen = g.M.Medium.seen c.relist.new.medium in
    only_after c.unlist.result c.in_ok-unlist.field-0 c.relist.result old mid new c.in_ok-unlist.was c.unlist.ensures.only c.relist.ensures.only

-- ---- which side sectors read

pub returns-then-branch-clause-reads : goal.returns-then-branch-clause-reads
returns-then-branch-clause-reads g c = read_listed (g.M.Medium.seen c.args.medium.now).content c.args.file c.side.result c.in_ok-head.head c.args.sides c.side.ensures c.in_ok-head.ensures.ok c.in_ok-are_listed.ensures.reads

pub returns-in_err-unlist-clause-spares : goal.returns-in_err-unlist-clause-spares
returns-in_err-unlist-clause-spares g c = inr (read_listed (g.M.Medium.seen c.args.medium.now).content c.args.file c.side.result c.in_ok-head.head c.args.sides c.side.ensures c.in_ok-head.ensures.ok c.in_ok-are_listed.ensures.reads)

pub returns-clause-reads : goal.returns-clause-reads
returns-clause-reads g c = all_oks _ (read_listed (g.M.Medium.seen c.args.medium.now).content c.args.file c.side.result c.in_ok-head.head c.args.sides c.side.ensures c.in_ok-head.ensures.ok c.in_ok-are_listed.ensures.reads)

pub returns-clause-spares : goal.returns-clause-spares
returns-clause-spares g c = inr (read_listed (g.M.Medium.seen c.args.medium.now).content c.args.file c.side.result c.in_ok-head.head c.args.sides c.side.ensures c.in_ok-head.ensures.ok c.in_ok-are_listed.ensures.reads)
