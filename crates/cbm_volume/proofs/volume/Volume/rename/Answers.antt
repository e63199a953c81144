use Rattle.std.proofs.Common.{rules, ◌≡◌, ◌<◌, ◌*◌, ℕ, List, length, Some, refl, ap, subst, false}
use Rattle.std.proofs.lemmas.Result.{err_from_is_err_and}
use Rattle.std.specs.Prelude.{OnOk, OnErr, IfErr}
use Rattle.cbm_medium.proofs.Sequences.{only_nothing}
use Rattle.cbm_medium.specs.Place.{Place}
use Rattle.cbm_medium.specs.Content.{Content}
use Rattle.cbm_medium.specs.Seen.{Seen}
use Rattle.cbm_medium.specs.Links.{Chain}
use Rattle.cbm_bam.specs.Map.{geometry_of}
use Rattle.cbm_bam.specs.Causes.{HasCause}
use Rattle.cbm_directory.specs.Entries.{EntersLed, first_directory, sector_of}
use Rattle.cbm_directory.proofs.Codes.{directory_never_26, directory_shown}
use Rattle.cbm_file.specs.Files.{File, file_at, with_slot}
use Rattle.cbm_file.specs.Padding.{before_filler}
use Rattle.cbm_volume.specs.Opens.{IsUnwritten}
use Rattle.cbm_volume.specs.Writers.{HoldsNow}
use Rattle.cbm_volume.proofs.layouts.Calls.{ok_given}
use Rattle.cbm_volume.proofs.opened.OpenedFiles.{moved}
use Rattle.cbm_volume.proofs.held.RecordsRead.{no_slot}
use Rattle.cbm_volume.proofs.changed.Renames.{named, named_hindered, named_untouched, named_led}
use Rattle.cbm_volume.proofs.written.Sparing.{EntryPut, same_untouched}
use Rattle.cbm_volume.proofs.volume.Volume.rename.Goals as goal

-- the directory of a sound disk is whole
pub returns-in_err-entry-clause-call : goal.returns-in_err-entry-clause-call
returns-in_err-entry-clause-call g c = λ d uses h.
    record {
      done = (search rules);
      cause = absurd (c.in_err-entry.ensures.means d (record { layout = h.layout; stands = h.so.stands }));
      untouched =
          let old : Seen = g.M.Medium.seen c.args.self.now in
          same_untouched (geometry_of old.tracks old.content) old.content old.content h.layout (λ m. false) h.so.stands.sound refl;
    }

-- the slot is there
pub returns-in_default-clause-call : goal.returns-in_default-clause-call
returns-in_default-clause-call g c = λ d uses h.
    record {
      done =
          λ f at unwritten.
          absurd (no_slot d c.args.slot f at (rw c.in_default.is at (c.in_ok-entry.ensures.means d (record { layout = h.layout; stands = h.so.stands }))));
      cause = (search rules);
      untouched =
          let old : Seen = g.M.Medium.seen c.args.self.now in
          same_untouched (geometry_of old.tracks old.content) old.content old.content h.layout (λ m. false) h.so.stands.sound refl;
    }

pub returns-clause-call : goal.returns-clause-call
returns-clause-call g c = λ d uses h.
    record {
      done =
          let medium : ℕ = (g.M.Medium.seen c.args.self.now).tracks in
          let old : Content = (g.M.Medium.seen c.args.self.now).content in
          let inner : Content = (g.M.Medium.seen c.self.inside.medium).content in
          let new : Content = (g.M.Medium.seen c.put_slot.new.medium).content in
          ok_given c.put_slot.result (λ (f : File). file_at d c.args.slot ≡ Some f) (λ f. IsUnwritten uses c.args.slot) (λ f. HoldsNow medium new (with_slot d c.args.slot (Some (record f { name = before_filler c.args.name.now }))) uses)
          (λ f at unwritten. named medium old new c.args.slot c.in-Some.entry c.renamed-renamed.result c.args.name.now c.put_slot.result c.renamed-renamed.ensures.says (rw c.in-Some.is at c.in_ok-entry.ensures.answers)
          (moved (λ k x. EntryPut k x new c.args.slot c.renamed-renamed.result c.put_slot.result) c.geometry-geometry.result (geometry_of medium old) inner old
          c.geometry-geometry.ensures.value (ap (λ m. (g.M.Medium.seen m).content) c.self.view_is) c.put_slot.ensures.entered) d uses f h at unwritten);
      cause =
          let medium : ℕ = (g.M.Medium.seen c.args.self.now).tracks in
          let old : Seen = g.M.Medium.seen c.args.self.now in
          let new : Seen = g.M.Medium.seen c.put_slot.new.medium in
          named_hindered medium old new c.args.slot c.in-Some.entry c.put_slot.result (rw c.in-Some.is at c.in_ok-entry.ensures.answers)
          (subst (λ (k : ℕ). (directory : List Place) → Chain k old.content first_directory directory → c.args.slot < 8 * length directory → IfErr c.put_slot.result (λ t. HasCause old new (sector_of directory c.args.slot) t.code)) c.geometry-geometry.ensures.value
          (subst (λ (x : Seen). (directory : List Place) → Chain c.geometry-geometry.result x.content first_directory directory → c.args.slot < 8 * length directory → IfErr c.put_slot.result (λ t. HasCause x new (sector_of directory c.args.slot) t.code)) (ap g.M.Medium.seen c.self.view_is) c.put_slot.ensures.cause))
          d uses h;
      untouched =
          let medium : ℕ = (g.M.Medium.seen c.args.self.now).tracks in
          let old : Content = (g.M.Medium.seen c.args.self.now).content in
          let inner : Content = (g.M.Medium.seen c.self.inside.medium).content in
          let new : Content = (g.M.Medium.seen c.put_slot.new.medium).content in
          named_untouched medium old new c.args.slot c.in-Some.entry c.renamed-renamed.result c.args.name.now c.put_slot.result c.renamed-renamed.ensures.says (rw c.in-Some.is at c.in_ok-entry.ensures.answers)
          (moved (λ k x. EntryPut k x new c.args.slot c.renamed-renamed.result c.put_slot.result) c.geometry-geometry.result (geometry_of medium old) inner old
          c.geometry-geometry.ensures.value (ap (λ m. (g.M.Medium.seen m).content) c.self.view_is) c.put_slot.ensures.entered)
          (subst (λ (x : Content). OnErr c.put_slot.result (new ≡ x)) (ap (λ m. (g.M.Medium.seen m).content) c.self.view_is) c.put_slot.ensures.err) d uses h;
    }

pub returns-clause-led : goal.returns-clause-led
returns-clause-led g c =
    let old : Seen = g.M.Medium.seen c.args.self.now in
    let inner : Content = (g.M.Medium.seen c.self.inside.medium).content in
    let new : Seen = g.M.Medium.seen c.put_slot.new.medium in
    named_led old new c.args.slot c.in-Some.entry c.args.name.now c.put_slot.result (rw c.in-Some.is at c.in_ok-entry.ensures.answers)
    (subst (λ (e : List ℕ). OnOk c.put_slot.result (EntersLed (geometry_of old.tracks old.content) old.content new.content c.args.slot e)) c.renamed-renamed.ensures.value
    (moved (λ k x. OnOk c.put_slot.result (EntersLed k x new.content c.args.slot c.renamed-renamed.result)) c.geometry-geometry.result (geometry_of old.tracks old.content) inner old.content
    c.geometry-geometry.ensures.value (ap (λ m. (g.M.Medium.seen m).content) c.self.view_is) c.put_slot.ensures.exact))

-- what breaks the directory off is never told as protection
pub returns-in_err-entry-clause-only : goal.returns-in_err-entry-clause-only
returns-in_err-entry-clause-only g c =
    let old : Seen = g.M.Medium.seen c.args.self.now in
    let p = err_from_is_err_and c.from_residual.result c.from_residual.ensures.1 in
    only_nothing c.from_residual.result (g.M.Medium.seen c.args.self.now) (g.M.Medium.seen c.args.self.now) (λ i. g.M.Medium.seen c.args.self.now)
    (rw (p.1, p.2) (λ is. absurd (directory_never_26 (geometry_of old.tracks old.content) old.content c.in_err-entry.field-0.0 (λ q. g.met.M.Medium.codes c.args.self.now q) c.in_err-entry.ensures.answers.1 is)))
    (rw (p.1, p.2) (directory_shown (geometry_of old.tracks old.content) old c.in_err-entry.field-0.0 c.in_err-entry.ensures.answers.1))
