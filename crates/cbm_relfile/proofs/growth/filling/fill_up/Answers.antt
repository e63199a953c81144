use Rattle.std.proofs.Common.{◌≡◌, ℕ, ◌+◌, ◌-◌, ◌*◌, ◌/◌, length, get_or, sym, ap, subst, ◌∙◌, refl, arith, inl, inr, Ok}
use Rattle.std.proofs.lemmas.Result.{err_from_is_err_and}
use Rattle.cbm_medium.proofs.Sequences.{only_nothing, only_after, only_then, write_only}
use Rattle.cbm_medium.specs.Place.{Place, directory_head}
use Rattle.cbm_medium.specs.Content.{Content}
use Rattle.cbm_medium.specs.Links.{Chain}
use Rattle.cbm_medium.specs.Seen.{Seen}
use Rattle.cbm_chain.specs.Data.{chain_bytes}
use Rattle.cbm_relfile.specs.Filling.{fresh_begin, IsTailFilled, IsFillStopped}
use Rattle.cbm_relfile.proofs.Changed.{refused_by}
use Rattle.cbm_relfile.proofs.Filled.{ends_with, begins_at, end_refused, last_filled}
use Rattle.cbm_relfile.proofs.growth.filling.fill_up.Goals as goal

-- the last block is full
pub returns-then-used-eq254-clause-laid : goal.returns-then-used-eq254-clause-laid
returns-then-used-eq254-clause-laid g c = λ xs sides w laid short l.
    let now : Content = (g.M.Medium.seen c.args.medium.now).content in
    let chain : Chain c.args.geometry now c.first.result xs = subst (λ (p : Place). Chain c.args.geometry now p xs) (sym c.first.ensures) laid.chain in
    let is : c.in_ok-at.at ≡ get_or xs (c.args.blocks - 1) directory_head = c.in_ok-at.ensures.there xs chain short (omega (arith, l, c.requires.some)) in
    let long = ends_with c.args.geometry now c.args.file.first xs c.args.blocks c.in_ok-at.at c.in_ok-at.sector w laid.chain l c.requires.some is c.in_ok-at.ensures.reads in
    (is, inl (omega (arith, long, ap length c.bytes_of.ensures.value, c.if-used-eq254.true, l, c.requires.some), refl))

-- the last block isn't written
pub returns-in_err-write-clause-laid : goal.returns-in_err-write-clause-laid
returns-in_err-write-clause-laid g c = λ xs sides w laid short l.
    let old : Seen = g.M.Medium.seen c.args.medium.now in
    let mid : Seen = g.M.Medium.seen c.fill_tail.new.medium in
    let new : Seen = g.M.Medium.seen c.write.new.self in
    let now : Content = old.content in
    let chain : Chain c.args.geometry now c.first.result xs = subst (λ (p : Place). Chain c.args.geometry now p xs) (sym c.first.ensures) laid.chain in
    let is : c.in_ok-at.at ≡ get_or xs (c.args.blocks - 1) directory_head = c.in_ok-at.ensures.there xs chain short (omega (arith, l, c.requires.some)) in
    let long = ends_with c.args.geometry now c.args.file.first xs c.args.blocks c.in_ok-at.at c.in_ok-at.sector w laid.chain l c.requires.some is c.in_ok-at.ensures.reads in
    let size : length (chain_bytes now xs) ≡ 254 * (c.args.blocks - 1) + length c.bytes_of.result.now = omega (arith, long, ap length c.bytes_of.ensures.value) in
    let from : ℕ = fresh_begin c.args.file.width (length (chain_bytes now xs)) in
    let same : (254 * (c.args.blocks - 1) + length c.bytes_of.result.now) / c.length-length.result * c.length-length.result ≡ from =
    ap (λ (m : ℕ). (254 * (c.args.blocks - 1) + length c.bytes_of.result.now) / m * m) c.length-length.ensures ∙ begins_at c.args.file.width (length (chain_bytes now xs)) (254 * (c.args.blocks - 1)) (length c.bytes_of.result.now) size in
    let tail : IsTailFilled now mid.content xs c.args.file.width from = subst (λ (m : ℕ). IsTailFilled now mid.content xs c.args.file.width m) same (c.in_ok-fill_tail.ensures.laid xs laid.chain short l) in
    let e = c.in_err-write.ensures.err.1 in
    let stays : new.content ≡ mid.content = ap (λ (s : Seen). s.content) e.same in
    refused_by c.from_residual-in_err-write.result _ _ (λ t. IsFillStopped c.args.geometry old new xs c.args.file.width t.code) c.from_residual-in_err-write.ensures.1
    (record {
      so_far = inr (subst (λ (x : Content). IsTailFilled now x xs c.args.file.width from) (sym stays) tail);
      cause = end_refused c.args.geometry old mid new xs c.args.file.width from c.in_ok-at.at c.in_ok-at.sector _ tail c.in_ok-fill_tail.ensures.only.protected c.in_ok-fill_tail.ensures.only.counted c.in_ok-at.ensures.reads c.in_ok-at.ensures.has e.cause;
    })

pub returns-clause-laid : goal.returns-clause-laid
returns-clause-laid g c = λ xs sides w laid short l.
    let old : Seen = g.M.Medium.seen c.args.medium.now in
    let mid : Seen = g.M.Medium.seen c.fill_tail.new.medium in
    let new : Seen = g.M.Medium.seen c.write.new.self in
    let now : Content = old.content in
    let chain : Chain c.args.geometry now c.first.result xs = subst (λ (p : Place). Chain c.args.geometry now p xs) (sym c.first.ensures) laid.chain in
    let is : c.in_ok-at.at ≡ get_or xs (c.args.blocks - 1) directory_head = c.in_ok-at.ensures.there xs chain short (omega (arith, l, c.requires.some)) in
    let long = ends_with c.args.geometry now c.args.file.first xs c.args.blocks c.in_ok-at.at c.in_ok-at.sector w laid.chain l c.requires.some is c.in_ok-at.ensures.reads in
    let size : length (chain_bytes now xs) ≡ 254 * (c.args.blocks - 1) + length c.bytes_of.result.now = omega (arith, long, ap length c.bytes_of.ensures.value) in
    let from : ℕ = fresh_begin c.args.file.width (length (chain_bytes now xs)) in
    let same : (254 * (c.args.blocks - 1) + length c.bytes_of.result.now) / c.length-length.result * c.length-length.result ≡ from =
    ap (λ (m : ℕ). (254 * (c.args.blocks - 1) + length c.bytes_of.result.now) / m * m) c.length-length.ensures ∙ begins_at c.args.file.width (length (chain_bytes now xs)) (254 * (c.args.blocks - 1)) (length c.bytes_of.result.now) size in
    let tail : IsTailFilled now mid.content xs c.args.file.width from = subst (λ (m : ℕ). IsTailFilled now mid.content xs c.args.file.width m) same (c.in_ok-fill_tail.ensures.laid xs laid.chain short l) in (
      is,
      inr (
        omega (arith, size, c.if-used-eq254.false, c.bytes_of.ensures.most, l, c.requires.some),
        record {
          mid = mid.content;
          tail = tail;
          last = last_filled now mid.content new.content xs c.args.file.width c.args.blocks from _ c.length.result c.in_ok-at.at c.full_end.result c.in_ok-at.sector c.fresh_from-new.result l c.length.ensures
              (c.saturating_sub-place.ensures ∙ ap (λ (m : ℕ). m - 254 * (c.args.blocks - 1)) same) c.full_end.ensures is c.in_ok-at.ensures.reads c.fresh_from-new.ensures (ap (λ (s : Seen). s.content) c.in_ok-write.ensures.ok);
        },
      ),
    )

-- the last block reads
pub returns-in_err-at-clause-full : goal.returns-in_err-at-clause-full
returns-in_err-at-clause-full g c = λ xs sides w laid short l all.
    let now : Content = (g.M.Medium.seen c.args.medium.now).content in
    let chain : Chain c.args.geometry now c.first.result xs = subst (λ (p : Place). Chain c.args.geometry now p xs) (sym c.first.ensures) laid.chain in
    absurd (c.in_err-at.ensures.there xs chain short (omega (arith, l, c.requires.some)))

-- it isn't filled up where it is full
pub returns-in_err-fill_tail-clause-full : goal.returns-in_err-fill_tail-clause-full
returns-in_err-fill_tail-clause-full g c = λ xs sides w laid short l all.
    let now : Content = (g.M.Medium.seen c.args.medium.now).content in
    let chain : Chain c.args.geometry now c.first.result xs = subst (λ (p : Place). Chain c.args.geometry now p xs) (sym c.first.ensures) laid.chain in
    let is : c.in_ok-at.at ≡ get_or xs (c.args.blocks - 1) directory_head = c.in_ok-at.ensures.there xs chain short (omega (arith, l, c.requires.some)) in
    let long = ends_with c.args.geometry now c.args.file.first xs c.args.blocks c.in_ok-at.at c.in_ok-at.sector w laid.chain l c.requires.some is c.in_ok-at.ensures.reads in
    absurd (omega (arith, long, all, ap length c.bytes_of.ensures.value, c.if-used-eq254.false, c.requires.some))

pub returns-in_err-write-clause-full : goal.returns-in_err-write-clause-full
returns-in_err-write-clause-full g c = λ xs sides w laid short l all.
    let now : Content = (g.M.Medium.seen c.args.medium.now).content in
    let chain : Chain c.args.geometry now c.first.result xs = subst (λ (p : Place). Chain c.args.geometry now p xs) (sym c.first.ensures) laid.chain in
    let is : c.in_ok-at.at ≡ get_or xs (c.args.blocks - 1) directory_head = c.in_ok-at.ensures.there xs chain short (omega (arith, l, c.requires.some)) in
    let long = ends_with c.args.geometry now c.args.file.first xs c.args.blocks c.in_ok-at.at c.in_ok-at.sector w laid.chain l c.requires.some is c.in_ok-at.ensures.reads in
    absurd (omega (arith, long, all, ap length c.bytes_of.ensures.value, c.if-used-eq254.false, c.requires.some))

pub returns-clause-full : goal.returns-clause-full
returns-clause-full g c = λ xs sides w laid short l all.
    let now : Content = (g.M.Medium.seen c.args.medium.now).content in
    let chain : Chain c.args.geometry now c.first.result xs = subst (λ (p : Place). Chain c.args.geometry now p xs) (sym c.first.ensures) laid.chain in
    let is : c.in_ok-at.at ≡ get_or xs (c.args.blocks - 1) directory_head = c.in_ok-at.ensures.there xs chain short (omega (arith, l, c.requires.some)) in
    let long = ends_with c.args.geometry now c.args.file.first xs c.args.blocks c.in_ok-at.at c.in_ok-at.sector w laid.chain l c.requires.some is c.in_ok-at.ensures.reads in
    absurd (omega (arith, long, all, ap length c.bytes_of.ensures.value, c.if-used-eq254.false, c.requires.some))

-- the block isn't there
pub returns-in_err-at-clause-only : goal.returns-in_err-at-clause-only
returns-in_err-at-clause-only g c =
    let p = err_from_is_err_and c.from_residual.result c.from_residual.ensures.1 in
    only_nothing c.from_residual.result (g.M.Medium.seen c.args.medium.now) (g.M.Medium.seen c.args.medium.now) (λ i. g.M.Medium.seen c.args.medium.now)
    (rw (p.1, p.2) (λ is. absurd (c.in_err-at.ensures.never_26 is)))
    (rw (p.1, p.2) c.in_err-at.ensures.shown)

-- the block before the last one isn't written
pub returns-in_err-fill_tail-clause-laid : goal.returns-in_err-fill_tail-clause-laid
returns-in_err-fill_tail-clause-laid g c = λ xs sides w laid short l.
    let old : Seen = g.M.Medium.seen c.args.medium.now in
    let new : Seen = g.M.Medium.seen c.fill_tail.new.medium in
    let t = c.in_err-fill_tail.ensures.laid xs laid.chain short l in
    refused_by c.from_residual-in_err-fill_tail.result _ _ (λ u. IsFillStopped c.args.geometry old new xs c.args.file.width u.code) c.from_residual-in_err-fill_tail.ensures.1
    (record { so_far = inl t.0; cause = t.1 })

-- both are written
pub returns-clause-only : goal.returns-clause-only
returns-clause-only g c =
    let old : Seen = g.M.Medium.seen c.args.medium.now in
    let mid : Seen = g.M.Medium.seen c.fill_tail.new.medium in
    let new : Seen = g.M.Medium.seen c.write.new.self in
    only_then (Ok tt) (Ok c.in_ok-at.at) tt old new refl
    (only_after c.fill_tail.result c.in_ok-fill_tail.field-0 (Ok tt) old mid new c.in_ok-fill_tail.was c.fill_tail.ensures.only (write_only mid new c.in_ok-at.at c.fresh_from-new.result c.in_ok-at.ensures.has.1 c.in_ok-write.ensures.ok)) tt tt
