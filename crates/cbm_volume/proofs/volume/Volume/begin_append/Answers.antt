use Rattle.std.proofs.Common.{◌≡◌, ◌<◌, ◌*◌, ◌%◌, ℕ, List, length, Some, None, refl, ap, subst, ◌∙◌}
use Rattle.std.proofs.lemmas.Result.{err_from_is_err_and}
use Rattle.std.specs.Prelude.{◌==◌}
use Rattle.cbm_medium.specs.Place.{Place, sector_count}
use Rattle.cbm_medium.specs.Content.{Content}
use Rattle.cbm_medium.specs.Seen.{Seen}
use Rattle.cbm_medium.specs.Links.{Chain, follow}
use Rattle.cbm_bam.specs.Map.{geometry_of}
use Rattle.cbm_bam.specs.Causes.{HasCause}
use Rattle.cbm_chain.specs.Writing.{StandsAfter}
use Rattle.cbm_directory.specs.Entries.{Enters, EntersLed, first_directory, first_block, sector_of}
use Rattle.cbm_volume.proofs.opened.OpenedFiles.{moved}
use Rattle.cbm_volume.proofs.opened.Appends.{appended, not_broken, entry_hindered, entry_untouched}
use Rattle.cbm_volume.proofs.written.Sparing.{same_untouched}
use Rattle.cbm_volume.proofs.volume.Volume.begin_append.Goals as goal

-- the chain of a closed file is whole
pub returns-in_err-chain-clause-begun : goal.returns-in_err-chain-clause-begun
returns-in_err-chain-clause-begun g c = λ d uses h f can stands.
    let medium : ℕ = (g.M.Medium.seen c.args.self.now).tracks in
    let old : Content = (g.M.Medium.seen c.args.self.now).content in
    let inner : Content = (g.M.Medium.seen c.self.inside.medium).content in
    let tracks : ℕ = geometry_of medium old in
    let cut : (follow tracks old (sector_count tracks) (first_block c.args.entry.now)).trouble ≡ Some c.in_err-chain.field-0.0 =
    subst (λ (p : Place). (follow tracks old (sector_count tracks) p).trouble ≡ Some c.in_err-chain.field-0.0) c.first_block.ensures
    (subst (λ (x : Content). (follow tracks x (sector_count tracks) c.first_block.result).trouble ≡ Some c.in_err-chain.field-0.0) (ap (λ m. (g.M.Medium.seen m).content) c.self.view_is)
    (subst (λ (k : ℕ). (follow k inner (sector_count k) c.first_block.result).trouble ≡ Some c.in_err-chain.field-0.0) c.geometry-geometry.ensures.value c.in_err-chain.ensures.walk.cut)) in
    absurd (not_broken medium old d uses c.args.slot c.args.entry.now f c.in_err-chain.field-0.0 h can stands cut)

pub returns-in_err-chain-clause-untouched : goal.returns-in_err-chain-clause-untouched
returns-in_err-chain-clause-untouched g c = λ d uses h.
    let old : Seen = g.M.Medium.seen c.args.self.now in
    same_untouched (geometry_of old.tracks old.content) old.content old.content h.layout (λ m. m == c.args.slot) h.so.stands.sound refl

pub returns-in_err-put_slot-clause-begun : goal.returns-in_err-put_slot-clause-begun
returns-in_err-put_slot-clause-begun g c = λ d uses h f can stands.
    let medium : ℕ = (g.M.Medium.seen c.args.self.now).tracks in
    let old : Seen = g.M.Medium.seen c.args.self.now in
    let new : Seen = g.M.Medium.seen c.put_slot.new.medium in
    let t = c.in_err-put_slot.field-0.0 in
    let cause : (directory : List Place) → Chain (geometry_of medium old.content) old.content first_directory directory → c.args.slot < 8 * length directory → HasCause old new (sector_of directory c.args.slot) t.code =
    subst (λ (k : ℕ). (directory : List Place) → Chain k old.content first_directory directory → c.args.slot < 8 * length directory → HasCause old new (sector_of directory c.args.slot) t.code) c.geometry-geometry.ensures.value
    (subst (λ (x : Seen). (directory : List Place) → Chain c.geometry-geometry.result x.content first_directory directory → c.args.slot < 8 * length directory → HasCause x new (sector_of directory c.args.slot) t.code) (ap g.M.Medium.seen c.self.view_is) c.in_err-put_slot.ensures.cause) in
    let p = err_from_is_err_and c.from_residual-in_err-put_slot.result c.from_residual-in_err-put_slot.ensures.1 in
    rw (p.1, p.2) (entry_hindered medium old new d uses c.args.slot c.args.entry.now f t h can stands cause)

pub returns-in_err-put_slot-clause-untouched : goal.returns-in_err-put_slot-clause-untouched
returns-in_err-put_slot-clause-untouched g c = λ d uses h.
    let old : Seen = g.M.Medium.seen c.args.self.now in
    same_untouched (geometry_of old.tracks old.content) old.content (g.M.Medium.seen c.put_slot.new.medium).content h.layout (λ m. m == c.args.slot) h.so.stands.sound
    (c.in_err-put_slot.ensures.err ∙ ap (λ m. (g.M.Medium.seen m).content) c.self.view_is)

-- the writer stands after the chain's last byte
pub returns-clause-writer : goal.returns-clause-writer
returns-clause-writer g c =
    let old : Content = (g.M.Medium.seen c.args.self.now).content in
    let inner : Content = (g.M.Medium.seen c.self.inside.medium).content in
    let same : inner ≡ old = ap (λ m. (g.M.Medium.seen m).content) c.self.view_is in
    let tracks : ℕ = geometry_of (g.M.Medium.seen c.args.self.now).tracks old in
    record {
      same_slot = refl;
      replaces = refl;
      whole = subst (λ (p : Place). (follow tracks old (sector_count tracks) p).trouble ≡ None) c.first_block.ensures
          (moved (λ k x. (follow k x (sector_count k) c.first_block.result).trouble ≡ None) c.geometry-geometry.result tracks inner old c.geometry-geometry.ensures.value same c.in_ok-chain.ensures.walk.whole);
      after = subst (λ (p : Place). StandsAfter tracks old (follow tracks old (sector_count tracks) p).blocks c.in_ok-chain.chain) c.first_block.ensures
          (moved (λ k x. StandsAfter k x (follow k x (sector_count k) c.first_block.result).blocks c.in_ok-chain.chain) c.geometry-geometry.result tracks inner old c.geometry-geometry.ensures.value same c.in_ok-chain.ensures.stands);
    }

pub returns-clause-begun : goal.returns-clause-begun
returns-clause-begun g c = λ d uses h f can stands. λ ch idle live.
    let medium : ℕ = (g.M.Medium.seen c.args.self.now).tracks in
    let old : Content = (g.M.Medium.seen c.args.self.now).content in
    let inner : Content = (g.M.Medium.seen c.self.inside.medium).content in
    let new : Content = (g.M.Medium.seen c.put_slot.new.medium).content in
    let tracks : ℕ = geometry_of medium old in
    let after : StandsAfter tracks old (follow tracks old (sector_count tracks) (first_block c.args.entry.now)).blocks c.in_ok-chain.chain = (returns-clause-writer g c).after in
    let put : (directory : List Place) → Chain tracks old first_directory directory → c.args.slot < 8 * length directory → Enters old new (sector_of directory c.args.slot) (c.args.slot % 8) c.reopened-reopened.result =
    subst (λ (k : ℕ). (directory : List Place) → Chain k old first_directory directory → c.args.slot < 8 * length directory → Enters old new (sector_of directory c.args.slot) (c.args.slot % 8) c.reopened-reopened.result) c.geometry-geometry.ensures.value
    (subst (λ (x : Content). (directory : List Place) → Chain c.geometry-geometry.result x first_directory directory → c.args.slot < 8 * length directory → Enters x new (sector_of directory c.args.slot) (c.args.slot % 8) c.reopened-reopened.result) (ap (λ m. (g.M.Medium.seen m).content) c.self.view_is) c.in_ok-put_slot.ensures.entered) in
    appended medium old new c.args.slot c.args.entry.now c.reopened-reopened.result c.in_ok-chain.chain c.geometry-geometry.ensures.whole after c.reopened-reopened.ensures.value c.reopened-reopened.ensures.says put d uses ch f h idle can live stands

pub returns-clause-untouched : goal.returns-clause-untouched
returns-clause-untouched g c = λ d uses h.
    let medium : ℕ = (g.M.Medium.seen c.args.self.now).tracks in
    let old : Content = (g.M.Medium.seen c.args.self.now).content in
    let inner : Content = (g.M.Medium.seen c.self.inside.medium).content in
    let new : Content = (g.M.Medium.seen c.put_slot.new.medium).content in
    entry_untouched medium old new c.args.slot c.reopened-reopened.result d uses h
    (moved (λ k x. EntersLed k x new c.args.slot c.reopened-reopened.result) c.geometry-geometry.result (geometry_of medium old) inner old
    c.geometry-geometry.ensures.value (ap (λ m. (g.M.Medium.seen m).content) c.self.view_is) c.in_ok-put_slot.ensures.exact)

pub returns-clause-led : goal.returns-clause-led
returns-clause-led g c =
    let medium : ℕ = (g.M.Medium.seen c.args.self.now).tracks in
    let old : Content = (g.M.Medium.seen c.args.self.now).content in
    let inner : Content = (g.M.Medium.seen c.self.inside.medium).content in
    let new : Content = (g.M.Medium.seen c.put_slot.new.medium).content in
    subst (λ (e : List ℕ). EntersLed (geometry_of medium old) old new c.args.slot e) c.reopened-reopened.ensures.value
    (moved (λ k x. EntersLed k x new c.args.slot c.reopened-reopened.result) c.geometry-geometry.result (geometry_of medium old) inner old
    c.geometry-geometry.ensures.value (ap (λ m. (g.M.Medium.seen m).content) c.self.view_is) c.in_ok-put_slot.ensures.exact)
