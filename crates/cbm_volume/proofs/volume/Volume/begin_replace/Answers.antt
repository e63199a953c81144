use Rattle.std.proofs.Common.{rules, ℕ, true, false, Some, None, Err, IfErr, ap, sym, subst, ◌∙◌}
use Rattle.std.proofs.lemmas.Result.{err_from_is_err_and}
use Rattle.cbm_medium.specs.Content.{Content}
use Rattle.cbm_medium.specs.Seen.{Seen, OnlyContent}
use Rattle.cbm_medium.proofs.Sequences.{only_refused}
use Rattle.cbm_file.specs.Files.{Disk}
use Rattle.cbm_bam.specs.Map.{geometry_of}
use Rattle.cbm_volume.specs.Opens.{IsHindered}
use Rattle.cbm_chain.specs.Writing.{State}
use Rattle.cbm_volume.specs.Writers.{Use, HoldsNow}
use Rattle.cbm_volume.proofs.layouts.OnDisks.{of_tracks}
use Rattle.cbm_volume.proofs.layouts.Hindered.{claim_hindered}
use Rattle.cbm_volume.proofs.opened.ReplacementBegun.{ChainBegins, chain_begins, replacement, replacement_refused}
use Rattle.cbm_volume.proofs.written.Sparing.{same_untouched, claim_untouched}
use Rattle.cbm_volume.proofs.volume.Volume.begin_replace.Goals as goal

pub returns-in_err-chain-clause-call : goal.returns-in_err-chain-clause-call
returns-in_err-chain-clause-call g c = λ d uses h.
    record {
      done = (search rules);
      cause =
          let new : Seen = g.M.Medium.seen c.begin.new.medium in
          subst (λ (s : Seen). (d : Disk) (uses : ℕ → Use) → HoldsNow s.tracks s.content d uses → IfErr c.from_residual.result (IsHindered s new)) (ap (λ m. g.M.Medium.seen m) c.self.view_is)
          (claim_hindered (g.M.Medium.seen c.self.inside.medium) new c.in_err-chain.field-0.0 c.from_residual.result c.from_residual.ensures.1 c.in_err-chain.ensures.cause) d uses h;
      untouched =
          let old : Seen = g.M.Medium.seen c.args.self.now in
          same_untouched (geometry_of old.tracks old.content) old.content (g.M.Medium.seen c.begin.new.medium).content h.layout (λ m. false) h.so.stands.sound (c.in_err-chain.ensures.err ∙ ap (λ m. (g.M.Medium.seen m).content) c.self.view_is);
    }

pub returns-in_default-clause-call : goal.returns-in_default-clause-call
returns-in_default-clause-call g c = λ d uses h.
    record {
      done =
          λ ch f idle can.
          let old : Seen = g.M.Medium.seen c.args.self.now in
          let new : Content = (g.M.Medium.seen c.begin.new.medium).content in
          let none : ChainBegins (geometry_of old.tracks old.content) old.content new None = chain_begins (g.M.Medium.seen c.self.inside.medium) old new c.geometry-geometry.result c.in_ok-chain.field-0 None (ap (λ m. g.M.Medium.seen m) c.self.view_is) c.geometry-geometry.ensures.value c.in_default.is c.in_ok-chain.ensures.begun in
          replacement_refused old.tracks old.content new d uses h none;
      cause = (search rules);
      untouched =
          let old : Seen = g.M.Medium.seen c.args.self.now in
          let new : Content = (g.M.Medium.seen c.begin.new.medium).content in
          let none : ChainBegins (geometry_of old.tracks old.content) old.content new None = chain_begins (g.M.Medium.seen c.self.inside.medium) old new c.geometry-geometry.result c.in_ok-chain.field-0 None (ap (λ m. g.M.Medium.seen m) c.self.view_is) c.geometry-geometry.ensures.value c.in_default.is c.in_ok-chain.ensures.begun in
          same_untouched (geometry_of old.tracks old.content) old.content new h.layout (λ m. false) h.so.stands.sound none.1;
    }

pub returns-clause-call : goal.returns-clause-call
returns-clause-call g c = λ d uses h.
    record {
      done =
          λ ch f idle can.
          let old : Seen = g.M.Medium.seen c.args.self.now in
          let new : Content = (g.M.Medium.seen c.begin.new.medium).content in
          let some : ChainBegins (geometry_of old.tracks old.content) old.content new (Some c.in-Some.chain) = chain_begins (g.M.Medium.seen c.self.inside.medium) old new c.geometry-geometry.result c.in_ok-chain.field-0 (Some c.in-Some.chain) (ap (λ m. g.M.Medium.seen m) c.self.view_is) c.geometry-geometry.ensures.value c.in-Some.is c.in_ok-chain.ensures.begun in
          replacement old.tracks old.content new c.args.slot c.in-Some.chain d uses ch f h idle can some;
      cause = (search rules);
      untouched =
          let old : Seen = g.M.Medium.seen c.args.self.now in
          let new : Content = (g.M.Medium.seen c.begin.new.medium).content in
          let some : ChainBegins (geometry_of old.tracks old.content) old.content new (Some c.in-Some.chain) = chain_begins (g.M.Medium.seen c.self.inside.medium) old new c.geometry-geometry.result c.in_ok-chain.field-0 (Some c.in-Some.chain) (ap (λ m. g.M.Medium.seen m) c.self.view_is) c.geometry-geometry.ensures.value c.in-Some.is c.in_ok-chain.ensures.begun in
          claim_untouched (geometry_of old.tracks old.content) old.content new h.layout some.0 (λ m. false) h.so.stands.sound some.1;
    }

-- ---- on any disk

pub returns-in_err-chain-clause-only : goal.returns-in_err-chain-clause-only
returns-in_err-chain-clause-only g c =
    let p = err_from_is_err_and c.from_residual.result c.from_residual.ensures.1 in
    of_tracks c.geometry-geometry.result c.from_residual.result (g.M.Medium.seen c.args.self.now) (g.M.Medium.seen c.begin.new.medium) c.geometry-geometry.ensures.value
    (only_refused c.begin.result c.from_residual.result p.0 (g.M.Medium.seen c.args.self.now) (g.M.Medium.seen c.begin.new.medium) (c.in_err-chain.was ∙ ap Err (sym p.2)) p.1
    (subst (λ (x : Seen). OnlyContent c.geometry-geometry.result c.begin.result x (g.M.Medium.seen c.begin.new.medium)) (ap (λ m. g.M.Medium.seen m) c.self.view_is) c.begin.ensures.only))

pub returns-clause-led : goal.returns-clause-led
returns-clause-led g c =
    let old : Seen = g.M.Medium.seen c.args.self.now in
    let new : Content = (g.M.Medium.seen c.begin.new.medium).content in
    let some : ChainBegins (geometry_of old.tracks old.content) old.content new (Some c.in-Some.chain) = chain_begins (g.M.Medium.seen c.self.inside.medium) old new c.geometry-geometry.result c.in_ok-chain.field-0 (Some c.in-Some.chain) (ap (λ m. g.M.Medium.seen m) c.self.view_is) c.geometry-geometry.ensures.value c.in-Some.is c.in_ok-chain.ensures.begun in
    (some.0, some.1, ap (λ (s : State). record { slot = c.args.slot; replaces = true; chain = s }) some.2)
