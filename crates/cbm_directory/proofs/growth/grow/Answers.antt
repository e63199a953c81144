use Rattle.std.proofs.Common.{◌≡◌, ◌<◌, ℕ, List, true, Ok, refl, Option, inl, inr, sym, subst, ap, ◌∙◌, arith}
use Rattle.std.specs.Prelude.{MatchOption}
use Rattle.std.proofs.lemmas.Bool.{cases_lt}
use Rattle.std.proofs.lemmas.Result.{err_from_is_err_and}
use Rattle.cbm_medium.specs.Place.{Place, directory_head}
use Rattle.cbm_medium.specs.Content.{Content, written}
use Rattle.cbm_medium.specs.Links.{or_nothing, bytes_at}
use Rattle.cbm_medium.specs.Seen.{Seen, OnlyContent}
use Rattle.cbm_medium.proofs.Sequences.{only_after, only_then, write_only, write_refused}
use Rattle.cbm_bam.specs.Map.{ClaimsOn18}
use Rattle.cbm_directory.specs.Entries.{first_directory, HasLink}
use Rattle.cbm_directory.proofs.Grown.{refused_before, refused_on, ends_on_disk}
use Rattle.cbm_directory.proofs.growth.grow.Goals as goal
use Rattle.cbm_directory.proofs.growth.grow.Given.{Over}

-- what refuses the new sector's write
pub returns-in_err-write-clause-cause : goal.returns-in_err-write-clause-cause
returns-in_err-write-clause-cause g c =
    let old : Content = (g.M.Medium.seen c.args.medium.now).content in
    let mid : Content = (g.M.Medium.seen c.claim_directory.new.medium).content in
    let claims : ClaimsOn18 c.args.geometry old mid c.in-Some.at = subst (λ (o : Option Place). MatchOption o (mid ≡ old) (λ p. ClaimsOn18 c.args.geometry old mid p)) c.in-Some.is c.in_ok-at.ensures.claimed in
    let p = err_from_is_err_and c.from_residual-in_err-write.result c.from_residual-in_err-write.ensures.1 in
    rw (p.1, p.2) (inr (refused_before c.args.geometry (g.M.Medium.seen c.args.medium.now) (g.M.Medium.seen c.claim_directory.new.medium) (g.M.Medium.seen c.write.new.self) directory_head c.in-Some.at claims.remaps.map c.in_err-write.field-0.0.code
    claims.has claims.remaps.written c.in_ok-at.ensures.only.protected c.in_ok-at.ensures.only.counted c.in_err-write.ensures.err.1.cause))

-- and the last sector's, after both
claims : (g : Over) (c : goal.After-from_residual-in_err-write-2 g) → ClaimsOn18 c.args.geometry (g.M.Medium.seen c.args.medium.now).content (g.M.Medium.seen c.claim_directory.new.medium).content c.in-Some.at
claims g c =
    let old : Content = (g.M.Medium.seen c.args.medium.now).content in
    let mid : Content = (g.M.Medium.seen c.claim_directory.new.medium).content in
    subst (λ (o : Option Place). MatchOption o (mid ≡ old) (λ p. ClaimsOn18 c.args.geometry old mid p)) c.in-Some.is c.in_ok-at.ensures.claimed

pub returns-in_err-write-2-clause-stopped : goal.returns-in_err-write-2-clause-stopped
returns-in_err-write-2-clause-stopped g c =
    let p = err_from_is_err_and c.from_residual-in_err-write-2.result c.from_residual-in_err-write-2.ensures.1 in
    let mid : Content = (g.M.Medium.seen c.claim_directory.new.medium).content in
    rw (p.1) (inr (
      c.in-Some.at,
      (
        mid,
        (
          claims g c,
          inr (ap (λ (s : Seen). s.content) c.in_err-write-2.ensures.err.1.same ∙ ap (λ (s : Seen). s.content) c.in_ok-write.ensures.ok
              ∙ ap (written mid c.in-Some.at) c.blank.ensures),
        ),
      ),
    ))

pub returns-in_err-write-2-clause-cause : goal.returns-in_err-write-2-clause-cause
returns-in_err-write-2-clause-cause g c =
    let p = err_from_is_err_and c.from_residual-in_err-write-2.result c.from_residual-in_err-write-2.ensures.1 in
    let old : Seen = g.M.Medium.seen c.args.medium.now in
    let mid : Seen = g.M.Medium.seen c.claim_directory.new.medium in
    rw (p.1, p.2) (inr (refused_before c.args.geometry old mid (g.M.Medium.seen c.write-2.new.self) directory_head c.in_ok-last.last.at (claims g c).remaps.map c.in_err-write-2.field-0.0.code
    (ends_on_disk c.args.geometry old.content first_directory c.in_ok-last.last.at c.in_ok-last.ensures.last.0 c.in_ok-last.ensures.last.1.0) (claims g c).remaps.written
    c.in_ok-at.ensures.only.protected c.in_ok-at.ensures.only.counted
    (refused_on mid (g.M.Medium.seen c.write.new.self) (g.M.Medium.seen c.write-2.new.self) c.in-Some.at c.in_ok-last.last.at c.blank.result c.in_err-write-2.field-0.0.code
    c.in_ok-write.ensures.ok c.in_err-write-2.ensures.err.1.cause)))

-- both were written, and there were fewer than eighteen
pub returns-clause-grown : goal.returns-clause-grown
returns-clause-grown g c =
    let seen = g.M.Medium.seen in
    let old : Content = (seen c.args.medium.now).content in
    let mid : Content = (seen c.claim_directory.new.medium).content in
    let last = c.in_ok-last.last in
    let bytes : bytes_at old last.at ≡ last.bytes = ap or_nothing c.in_ok-last.ensures.bytes in
    let most = c.in_ok-last.ensures.last.1.2 in
    let fewer : last.before < 17 = elim (cases_lt last.before 17) [ inl less ↦ less | inr not_less ↦ absurd (c.if-last.false (omega (arith, not_less, most))) ] in
    record {
      last = last.at;
      before = last.before;
      is_last = c.in_ok-last.ensures.last;
      fewer = fewer;
      more = c.in-Some.at;
      claimed = mid;
      claims = subst (λ (o : Option Place). MatchOption o (mid ≡ old) (λ p. ClaimsOn18 c.args.geometry old mid p)) c.in-Some.is c.in_ok-at.ensures.claimed;
      sector = c.linked-bytes.result;
      links = subst (λ (b : List ℕ). HasLink b c.linked-bytes.result c.in-Some.at) (sym bytes) c.linked-bytes.ensures;
      written = ap (λ (s : Seen). s.content) c.in_ok-write-2.ensures.ok
          ∙ ap (λ (x : Content). written x last.at c.linked-bytes.result) (ap (λ (s : Seen). s.content) c.in_ok-write.ensures.ok ∙ ap (written mid c.in-Some.at) c.blank.ensures);
    }

-- ---- only what the disk's sectors hold is new

placed : (g : Over) (c : goal.After-from_residual-in_err-write-2 g) → OnlyContent {A = Unit {0}} c.args.geometry (Ok tt) (g.M.Medium.seen c.args.medium.now) (g.M.Medium.seen c.write.new.self)
placed g c =
    let old : Seen = g.M.Medium.seen c.args.medium.now in
    let mid : Seen = g.M.Medium.seen c.claim_directory.new.medium in
    let one : Seen = g.M.Medium.seen c.write.new.self in
    only_after c.claim_directory.result c.in_ok-at.field-0 (Ok tt) old mid one c.in_ok-at.was c.claim_directory.ensures.only (write_only mid one c.in-Some.at c.blank.result (claims g c).has.1 c.in_ok-write.ensures.ok)

pub returns-in_err-write-2-clause-only : goal.returns-in_err-write-2-clause-only
returns-in_err-write-2-clause-only g c =
    let old : Seen = g.M.Medium.seen c.args.medium.now in
    let one : Seen = g.M.Medium.seen c.write.new.self in
    let new : Seen = g.M.Medium.seen c.write-2.new.self in
    let p = err_from_is_err_and c.from_residual-in_err-write-2.result c.from_residual-in_err-write-2.ensures.1 in
    only_after (Ok tt) tt c.from_residual-in_err-write-2.result old one new refl (placed g c)
    (write_refused c.from_residual-in_err-write-2.result p.0 c.in_err-write-2.field-0.0 c.in_ok-last.last.at one new p.1 p.2 c.in_err-write-2.ensures.err.0 c.in_err-write-2.ensures.err.1)

pub returns-clause-only : goal.returns-clause-only
returns-clause-only g c =
    let old : Seen = g.M.Medium.seen c.args.medium.now in
    let mid : Seen = g.M.Medium.seen c.claim_directory.new.medium in
    let one : Seen = g.M.Medium.seen c.write.new.self in
    let new : Seen = g.M.Medium.seen c.write-2.new.self in
    let took : ClaimsOn18 c.args.geometry old.content mid.content c.in-Some.at = subst (λ (o : Option Place). MatchOption o (mid.content ≡ old.content) (λ p. ClaimsOn18 c.args.geometry old.content mid.content p)) c.in-Some.is c.in_ok-at.ensures.claimed in
    only_then (Ok tt) (Ok true) tt old new refl
    (only_after (Ok tt) tt (Ok tt) old one new refl
    (only_after c.claim_directory.result c.in_ok-at.field-0 (Ok tt) old mid one c.in_ok-at.was c.claim_directory.ensures.only (write_only mid one c.in-Some.at c.blank.result took.has.1 c.in_ok-write.ensures.ok))
    (write_only one new c.in_ok-last.last.at c.linked-bytes.result c.in_ok-last.ensures.track c.in_ok-write-2.ensures.ok)) tt tt
