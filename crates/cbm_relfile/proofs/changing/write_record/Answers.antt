use Rattle.std.proofs.Common.{rules, ◌≡◌, ◌⊎◌, ℕ, length, ◌+◌, ◌-◌, ◌*◌, ◌/◌, ◌%◌, List, ◌∷◌, Option, refl, sym, ap, ◌∙◌, subst, arith, inl}
use Rattle.std.specs.Prelude.{option_map, nat_lt, Bool, IsOkAnd, MatchBool}
use Rattle.std.proofs.lemmas.Result.{err_from_is_err_and}
use Rattle.cbm_medium.specs.Links.{link}
use Rattle.cbm_medium.proofs.Sequences.{only_nothing}
use Rattle.cbm_medium.proofs.Shown.{met_shown}
use Rattle.cbm_file.specs.Records.{with_bytes}
use Rattle.cbm_medium.specs.Content.{refusal}
use Rattle.cbm_medium.specs.Seen.{Seen}
use Rattle.cbm_chain.specs.Data.{chain_bytes}
use Rattle.cbm_relfile.specs.Records.{stretch_in, IsRewritten, EndsBefore}
use Rattle.cbm_relfile.specs.Changing.{record_bytes, IsChangedIfThere, IsHalfRewritten, IsChangeStopped}
use Rattle.cbm_relfile.proofs.Changed.{refused_by, read_from, no_stretch, with_bytes_length}
use Rattle.cbm_relfile.specs.Missing.{IsBlockMissing, IsBlockReached, IsStretchMissing, IsNextMissing}
use Rattle.cbm_relfile.proofs.NotThere.{none_more, none_says, some_says, record_missing, record_short, next_missing}
use Rattle.cbm_relfile.proofs.StillShown.{still_shown}
use Rattle.cbm_relfile.proofs.Stretches.{no_block, block_found, next_record}
use Rattle.cbm_relfile.proofs.changing.write_record.Goals as goal

-- the block in which it would begin isn't there
pub returns-in_default-clause-laid : goal.returns-in_default-clause-laid
returns-in_default-clause-laid g c = λ blocks sides w laid short. (
  sym (no_block c.args.geometry (g.M.Medium.seen c.args.medium.now).content c.args.file.first blocks c.args.number c.args.file.width ((c.args.number - 1) * c.length.result) w laid.chain c.requires.number.0 c.requires.length.0
      (ap (λ (m : ℕ). (c.args.number - 1) * m) c.length.ensures)
      (sym c.in_default.is ∙ c.in_ok-at.ensures.laid blocks sides laid short)),
  refl,
)

-- that block reads
pub returns-in_err-sector-clause-laid : goal.returns-in_err-sector-clause-laid
returns-in_err-sector-clause-laid g c = λ blocks sides w laid short.
    let found = block_found c.args.geometry (g.M.Medium.seen c.args.medium.now).content c.args.file.first blocks (((c.args.number - 1) * c.length.result) / 254) c.in-Some.at laid.chain
    (sym c.in-Some.is ∙ c.in_ok-at.ensures.laid blocks sides laid short) in
    let ok = c.in_err-sector.ensures.readable found.chain.1 found.chain.2 in
    absurd (cc)

-- so does the next one
pub returns-in_err-old-clause-laid : goal.returns-in_err-old-clause-laid
returns-in_err-old-clause-laid g c = λ blocks sides w laid short.
    let found = block_found c.args.geometry (g.M.Medium.seen c.args.medium.now).content c.args.file.first blocks (((c.args.number - 1) * c.length.result) / 254) c.in-Some.at laid.chain
    (sym c.in-Some.is ∙ c.in_ok-at.ensures.laid blocks sides laid short) in
    absurd (c.in_err-old.ensures.chain c.in-Some.at found.rest w c.in_ok-sector.ensures.ok found.chain)

-- the chain ends before the record does
pub returns-in_default-2-clause-laid : goal.returns-in_default-2-clause-laid
returns-in_default-2-clause-laid g c = λ blocks sides w laid short. (
  no_stretch c.args.geometry (g.M.Medium.seen c.args.medium.now).content c.args.file.first blocks c.args.number c.args.file.width ((c.args.number - 1) * c.length.result) c.in-Some.at c.in_ok-sector.sector w laid.chain c.requires.number.0 c.requires.length.0
      (ap (λ (m : ℕ). (c.args.number - 1) * m) c.length.ensures) (sym c.in-Some.is ∙ c.in_ok-at.ensures.laid blocks sides laid short) c.in_ok-sector.ensures.ok
      (λ x xs v h k. ap (option_map (λ r. r.items)) (sym c.in_default-2.is) ∙ c.in_ok-old.ensures.chain x xs v h k ∙ ap (λ (n : ℕ). stretch_in (chain_bytes (g.M.Medium.seen c.args.medium.now).content (x ∷ xs)) (((c.args.number - 1) * c.length.result) % 254) n) c.length-2.ensures),
  refl,
)

-- the record that was read has the file's length
pub changed-new-requires : goal.changed-new-requires
changed-new-requires g c = let size = rw c.in-Some-2.is at c.in_ok-old.ensures.size in (c.requires.position.0, omega (arith, c.requires.position.1, size, c.length-2.ensures))

-- the block is one of a protected disk
pub returns-then-protected-clause-laid : goal.returns-then-protected-clause-laid
returns-then-protected-clause-laid g c = λ blocks sides w laid short.
    let from = read_from c.args.geometry (g.M.Medium.seen c.args.medium.now).content c.args.file.first blocks c.args.number c.args.file.width ((c.args.number - 1) * c.length.result) c.in-Some.at c.in_ok-sector.sector c.in-Some-2.old.items w laid.chain c.requires.number.0 c.requires.length.0 c.requires.length.1
    (ap (λ (m : ℕ). (c.args.number - 1) * m) c.length.ensures) (sym c.in-Some.is ∙ c.in_ok-at.ensures.laid blocks sides laid short) c.in_ok-sector.ensures.ok
    (λ x xs v h k. ap (option_map (λ r. r.items)) (sym c.in-Some-2.is) ∙ c.in_ok-old.ensures.chain x xs v h k ∙ ap (λ (n : ℕ). stretch_in (chain_bytes (g.M.Medium.seen c.args.medium.now).content (x ∷ xs)) (((c.args.number - 1) * c.length.result) % 254) n) c.length-2.ensures) in
    record {
      at = c.in-Some.at;
      sector = c.in_ok-sector.sector;
      place = ((c.args.number - 1) * c.length.result) % 254;
      lies = from.lies;
      so_far = inl refl;
      cause = inl (c.in-Some.at, from.has, ap (λ (b : Bool). refusal b ((g.M.Medium.seen c.args.medium.now).content c.in-Some.at)) (sym c.if-protected.ensures));
    }

pub returns-in_err-rewrite-clause-laid : goal.returns-in_err-rewrite-clause-laid
returns-in_err-rewrite-clause-laid g c = λ blocks sides w laid short.
    let from = read_from c.args.geometry (g.M.Medium.seen c.args.medium.now).content c.args.file.first blocks c.args.number c.args.file.width ((c.args.number - 1) * c.length.result) c.in-Some.at c.in_ok-sector.sector c.in-Some-2.old.items w laid.chain c.requires.number.0 c.requires.length.0 c.requires.length.1
    (ap (λ (m : ℕ). (c.args.number - 1) * m) c.length.ensures) (sym c.in-Some.is ∙ c.in_ok-at.ensures.laid blocks sides laid short) c.in_ok-sector.ensures.ok
    (λ x xs v h k. ap (option_map (λ r. r.items)) (sym c.in-Some-2.is) ∙ c.in_ok-old.ensures.chain x xs v h k ∙ ap (λ (n : ℕ). stretch_in (chain_bytes (g.M.Medium.seen c.args.medium.now).content (x ∷ xs)) (((c.args.number - 1) * c.length.result) % 254) n) c.length-2.ensures) in
    let size : length c.in-Some-2.old.items ≡ c.args.file.width = (let n = rw c.in-Some-2.is at c.in_ok-old.ensures.size in n ∙ c.length-2.ensures) in
    let new : c.deref.result.now ≡ with_bytes c.args.file.width (record_bytes c.args.file.width (chain_bytes (g.M.Medium.seen c.args.medium.now).content blocks) c.args.number) c.args.position c.args.bytes.now =
    c.deref.ensures.0 ∙ c.changed-new.ensures ∙ (λ i. with_bytes (size i) (from.bytes i) c.args.position c.args.bytes.now) in
    let old : Seen = g.M.Medium.seen c.args.medium.now in
    let now : Seen = g.M.Medium.seen c.rewrite.new.medium in
    refused_by c.from_residual-in_err-rewrite.result c.in_err-rewrite.field-0.0 (λ o. IsChangedIfThere old.content now.content blocks c.args.file.width c.args.number c.args.position c.args.bytes.now (option_map (λ r. r.cut) o))
    (λ t. IsChangeStopped c.args.geometry old now blocks c.args.file.width c.args.number c.args.position c.args.bytes.now t.code) c.from_residual-in_err-rewrite.ensures.1
    (record {
      at = c.in-Some.at;
      sector = c.in_ok-sector.sector;
      place = ((c.args.number - 1) * c.length.result) % 254;
      lies = from.lies;
      so_far = subst (λ (ys : List ℕ). (now.content ≡ old.content) ⊎ IsHalfRewritten old.content now.content c.in-Some.at c.in_ok-sector.sector (((c.args.number - 1) * c.length.result) % 254) ys) new c.in_err-rewrite.ensures.err;
      cause = c.in_err-rewrite.ensures.refused from.has from.next;
    })

pub returns-then-not-branch-clause-laid : goal.returns-then-not-branch-clause-laid
returns-then-not-branch-clause-laid g c = λ blocks sides w laid short.
    let from = read_from c.args.geometry (g.M.Medium.seen c.args.medium.now).content c.args.file.first blocks c.args.number c.args.file.width ((c.args.number - 1) * c.length.result) c.in-Some.at c.in_ok-sector.sector c.in-Some-2.old.items w laid.chain c.requires.number.0 c.requires.length.0 c.requires.length.1
    (ap (λ (m : ℕ). (c.args.number - 1) * m) c.length.ensures) (sym c.in-Some.is ∙ c.in_ok-at.ensures.laid blocks sides laid short) c.in_ok-sector.ensures.ok
    (λ x xs v h k. ap (option_map (λ r. r.items)) (sym c.in-Some-2.is) ∙ c.in_ok-old.ensures.chain x xs v h k ∙ ap (λ (n : ℕ). stretch_in (chain_bytes (g.M.Medium.seen c.args.medium.now).content (x ∷ xs)) (((c.args.number - 1) * c.length.result) % 254) n) c.length-2.ensures) in
    let size : length c.in-Some-2.old.items ≡ c.args.file.width = (let n = rw c.in-Some-2.is at c.in_ok-old.ensures.size in n ∙ c.length-2.ensures) in
    let new : c.deref.result.now ≡ with_bytes c.args.file.width (record_bytes c.args.file.width (chain_bytes (g.M.Medium.seen c.args.medium.now).content blocks) c.args.number) c.args.position c.args.bytes.now =
    c.deref.ensures.0 ∙ c.changed-new.ensures ∙ (λ i. with_bytes (size i) (from.bytes i) c.args.position c.args.bytes.now) in
    let long : length c.deref.result.now ≡ c.args.file.width = ap length new ∙ with_bytes_length c.args.file.width (record_bytes c.args.file.width (chain_bytes (g.M.Medium.seen c.args.medium.now).content blocks) c.args.number) c.args.position c.args.bytes.now c.requires.position.0 c.requires.position.1 in
    absurd (from.goes_on (subst (λ (n : ℕ). EndsBefore (g.M.Medium.seen c.args.medium.now).content c.in_ok-sector.sector (((c.args.number - 1) * c.length.result) % 254 + n)) long (c.in_ok-rewrite.ensures.short c.if-not-branch.true)))

pub returns-clause-laid : goal.returns-clause-laid
returns-clause-laid g c = λ blocks sides w laid short.
    let from = read_from c.args.geometry (g.M.Medium.seen c.args.medium.now).content c.args.file.first blocks c.args.number c.args.file.width ((c.args.number - 1) * c.length.result) c.in-Some.at c.in_ok-sector.sector c.in-Some-2.old.items w laid.chain c.requires.number.0 c.requires.length.0 c.requires.length.1
    (ap (λ (m : ℕ). (c.args.number - 1) * m) c.length.ensures) (sym c.in-Some.is ∙ c.in_ok-at.ensures.laid blocks sides laid short) c.in_ok-sector.ensures.ok
    (λ x xs v h k. ap (option_map (λ r. r.items)) (sym c.in-Some-2.is) ∙ c.in_ok-old.ensures.chain x xs v h k ∙ ap (λ (n : ℕ). stretch_in (chain_bytes (g.M.Medium.seen c.args.medium.now).content (x ∷ xs)) (((c.args.number - 1) * c.length.result) % 254) n) c.length-2.ensures) in
    let size : length c.in-Some-2.old.items ≡ c.args.file.width = (let n = rw c.in-Some-2.is at c.in_ok-old.ensures.size in n ∙ c.length-2.ensures) in
    let new : c.deref.result.now ≡ with_bytes c.args.file.width (record_bytes c.args.file.width (chain_bytes (g.M.Medium.seen c.args.medium.now).content blocks) c.args.number) c.args.position c.args.bytes.now =
    c.deref.ensures.0 ∙ c.changed-new.ensures ∙ (λ i. with_bytes (size i) (from.bytes i) c.args.position c.args.bytes.now) in
    record {
      at = c.in-Some.at;
      sector = c.in_ok-sector.sector;
      place = ((c.args.number - 1) * c.length.result) % 254;
      lies = from.lies;
      rewritten = subst (λ (ys : List ℕ). IsRewritten (g.M.Medium.seen c.args.medium.now).content (g.M.Medium.seen c.rewrite.new.medium).content c.in-Some.at c.in_ok-sector.sector (((c.args.number - 1) * c.length.result) % 254) ys) new (subst (λ (b : Bool). MatchBool b (IsRewritten (g.M.Medium.seen c.args.medium.now).content (g.M.Medium.seen c.rewrite.new.medium).content c.in-Some.at c.in_ok-sector.sector (((c.args.number - 1) * c.length.result) % 254) c.deref.result.now) ((g.M.Medium.seen c.rewrite.new.medium).content ≡ (g.M.Medium.seen c.args.medium.now).content)) c.if-not-branch.false c.in_ok-rewrite.ensures.done);
      cut_is = (let room : c.len.result - (c.args.position - 1) ≡ c.args.file.width + 1 - c.args.position = omega (arith, c.len.ensures.value, size, c.requires.position.0, c.requires.position.1) in ap (λ (n : ℕ). nat_lt n (length c.args.bytes.now)) room);
    }

-- the record after it is read where this one lies
pub returns-clause-next : goal.returns-clause-next
returns-clause-next g c = λ blocks sides w laid short.
    let from : ℕ = (c.args.number - 1) * c.length.result in
    let found = block_found c.args.geometry (g.M.Medium.seen c.args.medium.now).content c.args.file.first blocks (from / 254) c.in-Some.at laid.chain
    (sym c.in-Some.is ∙ c.in_ok-at.ensures.laid blocks sides laid short) in
    subst (λ (z : Option (List ℕ)). IsOkAnd c.next_stretch-next.result (λ o. option_map (λ r. r.items) o ≡ z))
    ((λ i. stretch_in (chain_bytes (g.M.Medium.seen c.args.medium.now).content (sym found.is i)) (from % 254 + c.length-3.ensures i) (c.length-3.ensures i))
    ∙ next_record c.args.geometry (g.M.Medium.seen c.args.medium.now).content c.args.file.first blocks c.args.number c.args.file.width from (from / 254) w laid.chain c.requires.number.0 c.requires.length.0
    (ap (λ (m : ℕ). (c.args.number - 1) * m) c.length.ensures) refl found.there)
    (c.next_stretch-next.ensures.chain c.in-Some.at found.rest w c.in_ok-sector.ensures.ok found.chain)

-- a record that doesn't read didn't read before either
pub returns-clause-write : goal.returns-clause-write
returns-clause-write g c =
    let old : Seen = g.M.Medium.seen c.args.medium.now in
    let new : Seen = g.M.Medium.seen c.rewrite.new.medium in
    let place : ℕ = ((c.args.number - 1) * c.length.result) % 254 in
    let w = subst (λ (b : Bool). MatchBool b (IsRewritten old.content new.content c.in-Some.at c.in_ok-sector.sector place c.deref.result.now) (new.content ≡ old.content)) c.if-not-branch.false c.in_ok-rewrite.ensures.done in
    record {
      kept = (search rules);
      few = (search rules);
      allowed = (search rules);
      guarded = (search rules);
      next_never_26 = (search rules);
      next_shown = still_shown c.next_stretch-next.result c.args.geometry _ old new c.in-Some.at c.in_ok-sector.sector place c.deref.result.now c.in_ok-sector.ensures.ok w c.next_stretch-next.ensures.err;
    }

-- ---- when the record isn't there

pub returns-in_default-clause-missing : goal.returns-in_default-clause-missing
returns-in_default-clause-missing g c =
    record_missing c.args.geometry (g.M.Medium.seen c.args.medium.now).content c.args.file c.args.number c.length.result c.length.ensures
    (none_says (IsBlockMissing c.args.geometry (g.M.Medium.seen c.args.medium.now).content c.args.file ((c.args.number - 1) * c.length.result / 254)) _ c.in_default.is c.in_ok-at.ensures.missing)

pub returns-in_default-2-clause-missing : goal.returns-in_default-2-clause-missing
returns-in_default-2-clause-missing g c =
    record_short c.args.geometry (g.M.Medium.seen c.args.medium.now).content c.args.file c.args.number c.length.result c.length-2.result c.in-Some.at c.in_ok-sector.sector c.length.ensures c.length-2.ensures
    (some_says (IsBlockReached c.args.geometry (g.M.Medium.seen c.args.medium.now).content c.args.file ((c.args.number - 1) * c.length.result / 254)) _ c.in-Some.at c.in-Some.is c.in_ok-at.ensures.reached) c.in_ok-sector.ensures.has c.in_ok-sector.ensures.ok
    (none_says (EndsBefore (g.M.Medium.seen c.args.medium.now).content c.in_ok-sector.sector ((c.args.number - 1) * c.length.result % 254 + c.length-2.result)) _ c.in_default-2.is c.in_ok-old.ensures.short)

pub returns-then-not-branch-clause-missing : goal.returns-then-not-branch-clause-missing
returns-then-not-branch-clause-missing g c =
    let size : length c.in-Some-2.old.items ≡ c.args.file.width = (let n = rw c.in-Some-2.is at c.in_ok-old.ensures.size in n ∙ c.length-2.ensures) in
    let long : length c.deref.result.now ≡ c.args.file.width =
    ap length (c.deref.ensures.0 ∙ c.changed-new.ensures) ∙ with_bytes_length (length c.in-Some-2.old.items) c.in-Some-2.old.items c.args.position c.args.bytes.now c.requires.position.0 (omega (arith, c.requires.position.1, size)) ∙ size in
    record_short c.args.geometry (g.M.Medium.seen c.args.medium.now).content c.args.file c.args.number c.length.result (length c.deref.result.now) c.in-Some.at c.in_ok-sector.sector c.length.ensures long
    (some_says (IsBlockReached c.args.geometry (g.M.Medium.seen c.args.medium.now).content c.args.file ((c.args.number - 1) * c.length.result / 254)) _ c.in-Some.at c.in-Some.is c.in_ok-at.ensures.reached) c.in_ok-sector.ensures.has c.in_ok-sector.ensures.ok (c.in_ok-rewrite.ensures.short c.if-not-branch.true)

-- nor the next one
pub returns-clause-misses_next : goal.returns-clause-misses_next
returns-clause-misses_next g c =
    none_more (IsStretchMissing (g.M.Medium.seen c.args.medium.now).content c.in_ok-sector.sector ((c.args.number - 1) * c.length.result % 254 + c.length-3.result) c.length-3.result) (IsNextMissing c.args.geometry (g.M.Medium.seen c.args.medium.now).content c.args.file c.args.number) c.next_stretch-next.result
    (next_missing c.args.geometry (g.M.Medium.seen c.args.medium.now).content c.args.file c.args.number c.length.result c.length-3.result c.in-Some.at c.in_ok-sector.sector c.length.ensures c.length-3.ensures
    (some_says (IsBlockReached c.args.geometry (g.M.Medium.seen c.args.medium.now).content c.args.file ((c.args.number - 1) * c.length.result / 254)) _ c.in-Some.at c.in-Some.is c.in_ok-at.ensures.reached) c.in_ok-sector.ensures.has c.in_ok-sector.ensures.ok) c.next_stretch-next.ensures.missing

-- ---- what doesn't read is shown

pub returns-in_err-sector-clause-only : goal.returns-in_err-sector-clause-only
returns-in_err-sector-clause-only g c =
    let old : Seen = g.M.Medium.seen c.args.medium.now in
    let p = err_from_is_err_and c.from_residual-in_err-sector.result c.from_residual-in_err-sector.ensures.1 in
    let e = c.in_err-sector.ensures.err in
    only_nothing c.from_residual-in_err-sector.result old old (λ i. old) (rw (p.1, p.2) (λ is. absurd (e.never_26 is))) (rw (p.1, p.2) (met_shown c.args.geometry (λ q. q ≡ c.in-Some.at) old c.in_err-sector.field-0.0 e.shown))

pub returns-in_err-old-clause-only : goal.returns-in_err-old-clause-only
returns-in_err-old-clause-only g c =
    let old : Seen = g.M.Medium.seen c.args.medium.now in
    let p = err_from_is_err_and c.from_residual-in_err-old.result c.from_residual-in_err-old.ensures.1 in
    let e = c.in_err-old.ensures.err in
    only_nothing c.from_residual-in_err-old.result old old (λ i. old) (rw (p.1, p.2) (λ is. absurd (e.never_26 is))) (rw (p.1, p.2) (met_shown c.args.geometry (λ q. q ≡ link c.in_ok-sector.sector) old c.in_err-old.field-0.0 e.shown))
