use Rattle.std.proofs.Common.{rules, inl, ◌≡◌, ◌≤◌, ◌<◌, ◌*◌, ℕ, List, length, Option, Some, Ok, Err, Result, refl, ap, sym, subst, ◌∙◌, IfErr}
use Rattle.std.proofs.lemmas.Result.{err_from_is_err_and}
use Rattle.std.specs.Prelude.{OnOk, OnErr}
use Rattle.cbm_medium.proofs.Sequences.{only_after, only_nothing}
use Rattle.cbm_medium.specs.Place.{Place, directory_head}
use Rattle.cbm_medium.specs.Content.{Content}
use Rattle.cbm_medium.specs.Links.{Chain}
use Rattle.cbm_medium.specs.Seen.{Seen, ShowsGround, OnlyContent}
use Rattle.cbm_medium.specs.declared.fault.Trouble.{Trouble}
use Rattle.cbm_bam.specs.Causes.{HasCause}
use Rattle.cbm_bam.specs.Map.{geometry_of}
use Rattle.cbm_directory.specs.Entries.{first_directory, sector_of}
use Rattle.cbm_directory.specs.EntryChanges.{ClearsLed}
use Rattle.cbm_directory.specs.Slots.{Answers, directory_of}
use Rattle.cbm_directory.proofs.Codes.{directory_never_26, directory_shown}
use Rattle.cbm_volume.specs.Led.{FreesFile}
use Rattle.cbm_volume.proofs.layouts.OnDisks.{of_tracks}
use Rattle.cbm_volume.proofs.layouts.Calls.{if_ok}
use Rattle.cbm_volume.proofs.written.Finishing.{on_err}
use Rattle.cbm_volume.proofs.changed.Scratched.{EntryCleared, ClearingRefused, GivesAll, SlotEmpty, no_entry, no_slot, no_map, no_chain, entry_refused, open_scratched, is_scratched, scratched_ok, scratched_stopped, slot_hindered, map_hindered, chain_hindered, clearing_hindered, clearing_handed_on, release_hindered, nothing_written, clearing_spared, release_spared, open_led, closed_led, stopped_before, stopped_after}
use Rattle.cbm_volume.proofs.volume.Volume.scratch.Goals as goal
use Rattle.cbm_volume.proofs.volume.Volume.scratch.Given.{Over}

-- what the calls say, of the content before
cleared_here : (inside old : Seen) (new : Content) (k n : ℕ) (r : Result (Unit {0}) Trouble) → inside ≡ old → k ≡ geometry_of old.tracks old.content
    → EntryCleared k inside.content new n r → EntryCleared (geometry_of old.tracks old.content) old.content new n r
cleared_here inside old new k n r same size h = subst (λ (s : Seen). EntryCleared (geometry_of old.tracks old.content) s.content new n r) same (subst (λ (m : ℕ). EntryCleared m inside.content new n r) size h)

refused_here : (inside old new : Seen) (k n : ℕ) (r : Result (Unit {0}) Trouble) → inside ≡ old → k ≡ geometry_of old.tracks old.content
    → ((directory : List Place) → Chain k inside.content first_directory directory → n < 8 * length directory → IfErr r (λ t. HasCause inside new (sector_of directory n) t.code)) → ClearingRefused old new n r
refused_here inside old new k n r same size h =
    subst (λ (s : Seen). (directory : List Place) → Chain (geometry_of old.tracks old.content) s.content first_directory directory → n < 8 * length directory → IfErr r (λ t. HasCause s new (sector_of directory n) t.code)) same
    (subst (λ (m : ℕ). (directory : List Place) → Chain m inside.content first_directory directory → n < 8 * length directory → IfErr r (λ t. HasCause inside new (sector_of directory n) t.code)) size h)

found_here : (d : Content) (k n : ℕ) (o : Option (List ℕ)) (entry : List ℕ) → o ≡ Some entry → Answers (directory_of k d) n (Ok o) → Answers (directory_of k d) n (Ok (Some entry))
found_here d k n o entry is h = subst (λ (x : Option (List ℕ)). Answers (directory_of k d) n (Ok x)) is h

given_here : (inside old : Seen) (k : ℕ) (entry map freed : List ℕ) (r : Result (Unit {0}) Trouble) → inside ≡ old → k ≡ geometry_of old.tracks old.content → GivesAll k inside.content entry map freed r → GivesAll (geometry_of old.tracks old.content) old.content entry map freed r
given_here inside old k entry map freed r same size h = subst (λ (s : Seen). GivesAll (geometry_of old.tracks old.content) s.content entry map freed r) same
    (subst (λ (m : ℕ). GivesAll m inside.content entry map freed r) size h)

-- ---- the directory breaks off

pub returns-in_err-entry-clause-call : goal.returns-in_err-entry-clause-call
returns-in_err-entry-clause-call g c = λ d uses h f at unused.
    record {
      done = (search rules);
      stopped =
          let old : Seen = g.M.Medium.seen c.args.self.now in
          no_entry old.tracks old.content old.content c.args.slot c.in_err-entry.field-0.0 c.from_residual.result c.in_err-entry.ensures.answers d uses f h at unused;
      cause =
          let old : Seen = g.M.Medium.seen c.args.self.now in
          slot_hindered old old c.args.slot c.in_err-entry.field-0.0 c.from_residual.result c.in_err-entry.ensures.answers d uses f h at unused;
      untouched =
          let old : Seen = g.M.Medium.seen c.args.self.now in
          nothing_written old.tracks old.content old.content c.args.slot refl d uses f h at unused;
    }

-- ---- there is no such slot

pub returns-in_default-clause-call : goal.returns-in_default-clause-call
returns-in_default-clause-call g c = λ d uses h f at unused.
    record {
      done =
          let old : Seen = g.M.Medium.seen c.args.self.now in
          no_slot old.tracks old.content old.content c.args.slot c.in_ok-entry.field-0 (Ok tt) c.in_default.is c.in_ok-entry.ensures.answers d uses f h at unused;
      stopped = (search rules);
      cause = (search rules);
      untouched =
          let old : Seen = g.M.Medium.seen c.args.self.now in
          nothing_written old.tracks old.content old.content c.args.slot refl d uses f h at unused;
    }

-- ---- a file that isn't closed

pub returns-then-not-is_closed-clause-call : goal.returns-then-not-is_closed-clause-call
returns-then-not-is_closed-clause-call g c = λ d uses h f at unused.
    record {
      done =
          let old : Seen = g.M.Medium.seen c.args.self.now in
          if_ok c.clear_slot.result _ (open_scratched old.tracks old.content (g.M.Medium.seen c.clear_slot.new.medium).content c.args.slot c.in-Some.entry c.clear_slot.result
          (found_here old.content (geometry_of old.tracks old.content) c.args.slot c.in_ok-entry.field-0 c.in-Some.entry c.in-Some.is c.in_ok-entry.ensures.answers)
          (sym c.is_closed.ensures ∙ c.if-not-is_closed.true)
          (cleared_here (g.M.Medium.seen c.self.inside.medium) old (g.M.Medium.seen c.clear_slot.new.medium).content c.geometry-geometry.result c.args.slot c.clear_slot.result (ap g.M.Medium.seen c.self.view_is) c.geometry-geometry.ensures.value c.clear_slot.ensures.cleared) d uses f h at unused);
      stopped =
          let old : Seen = g.M.Medium.seen c.args.self.now in
          entry_refused old.tracks old.content (g.M.Medium.seen c.clear_slot.new.medium).content c.args.slot c.clear_slot.result
          (subst (λ (s : Seen). OnErr c.clear_slot.result ((g.M.Medium.seen c.clear_slot.new.medium).content ≡ s.content)) (ap g.M.Medium.seen c.self.view_is) c.clear_slot.ensures.err) d uses f h at unused;
      cause =
          let old : Seen = g.M.Medium.seen c.args.self.now in
          clearing_hindered old (g.M.Medium.seen c.clear_slot.new.medium) c.args.slot c.clear_slot.result
          (refused_here (g.M.Medium.seen c.self.inside.medium) old (g.M.Medium.seen c.clear_slot.new.medium) c.geometry-geometry.result c.args.slot c.clear_slot.result (ap g.M.Medium.seen c.self.view_is) c.geometry-geometry.ensures.value c.clear_slot.ensures.cause) d uses f h at unused;
      untouched =
          let old : Seen = g.M.Medium.seen c.args.self.now in
          let new : Content = (g.M.Medium.seen c.clear_slot.new.medium).content in
          clearing_spared old.tracks old.content new c.args.slot c.clear_slot.result
          (cleared_here (g.M.Medium.seen c.self.inside.medium) old new c.geometry-geometry.result c.args.slot c.clear_slot.result (ap g.M.Medium.seen c.self.view_is) c.geometry-geometry.ensures.value c.clear_slot.ensures.cleared)
          (subst (λ (s : Seen). OnErr c.clear_slot.result (new ≡ s.content)) (ap g.M.Medium.seen c.self.view_is) c.clear_slot.ensures.err) d uses f h at unused;
    }

-- ---- the map doesn't read

pub returns-in_err-release-clause-call : goal.returns-in_err-release-clause-call
returns-in_err-release-clause-call g c = λ d uses h f at unused.
    record {
      done = (search rules);
      stopped =
          let old : Seen = g.M.Medium.seen c.args.self.now in
          no_map old.tracks old.content old.content c.args.slot c.in_err-release.field-0.0.code c.from_residual-in_err-release.result
          (ap (λ m. (g.M.Medium.seen m).content directory_head) (sym c.self.view_is) ∙ c.in_err-release.ensures.err.0) d uses f h at unused;
      cause =
          let old : Seen = g.M.Medium.seen c.args.self.now in
          map_hindered old old c.args.slot c.in_err-release.field-0.0.code c.from_residual-in_err-release.result
          (ap (λ m. (g.M.Medium.seen m).content directory_head) (sym c.self.view_is) ∙ c.in_err-release.ensures.err.0) d uses f h at unused;
      untouched =
          let old : Seen = g.M.Medium.seen c.args.self.now in
          nothing_written old.tracks old.content old.content c.args.slot refl d uses f h at unused;
    }

-- ---- the file's chain or its list of side sectors breaks off

pub returns-in_err-free_file-clause-call : goal.returns-in_err-free_file-clause-call
returns-in_err-free_file-clause-call g c = λ d uses h f at unused.
    record {
      done = (search rules);
      stopped =
          let old : Seen = g.M.Medium.seen c.args.self.now in
          no_chain old.tracks old.content old.content c.args.slot c.in-Some.entry c.in_ok-release.release c.free_file.new.release c.in_err-free_file.field-0.0 c.from_residual-in_err-free_file.result
          (found_here old.content (geometry_of old.tracks old.content) c.args.slot c.in_ok-entry.field-0 c.in-Some.entry c.in-Some.is c.in_ok-entry.ensures.answers)
          (sym c.is_closed.ensures ∙ c.if-not-is_closed.false)
          (given_here (g.M.Medium.seen c.self.inside.medium) old c.geometry-geometry.result c.in-Some.entry c.in_ok-release.release c.free_file.new.release (Err c.in_err-free_file.field-0.0) (ap g.M.Medium.seen c.self.view_is) c.geometry-geometry.ensures.value c.in_err-free_file.ensures.freed) d uses f h at unused;
      cause =
          let old : Seen = g.M.Medium.seen c.args.self.now in
          chain_hindered old old c.args.slot c.in-Some.entry c.in_ok-release.release c.free_file.new.release c.in_err-free_file.field-0.0 c.from_residual-in_err-free_file.result
          (found_here old.content (geometry_of old.tracks old.content) c.args.slot c.in_ok-entry.field-0 c.in-Some.entry c.in-Some.is c.in_ok-entry.ensures.answers)
          (sym c.is_closed.ensures ∙ c.if-not-is_closed.false)
          (given_here (g.M.Medium.seen c.self.inside.medium) old c.geometry-geometry.result c.in-Some.entry c.in_ok-release.release c.free_file.new.release (Err c.in_err-free_file.field-0.0) (ap g.M.Medium.seen c.self.view_is) c.geometry-geometry.ensures.value c.in_err-free_file.ensures.freed) d uses f h at unused;
      untouched =
          let old : Seen = g.M.Medium.seen c.args.self.now in
          nothing_written old.tracks old.content old.content c.args.slot refl d uses f h at unused;
    }

-- ---- the entry of a closed file is refused

pub returns-in_err-clear_slot-clause-call : goal.returns-in_err-clear_slot-clause-call
returns-in_err-clear_slot-clause-call g c = λ d uses h f at unused.
    record {
      done = (search rules);
      stopped =
          let old : Seen = g.M.Medium.seen c.args.self.now in
          entry_refused old.tracks old.content (g.M.Medium.seen c.clear_slot-2.new.medium).content c.args.slot c.from_residual-in_err-clear_slot.result
          (on_err c.from_residual-in_err-clear_slot.result (c.in_err-clear_slot.ensures.err ∙ ap (λ m. (g.M.Medium.seen m).content) c.self.view_is)) d uses f h at unused;
      cause =
          let old : Seen = g.M.Medium.seen c.args.self.now in
          let new : Seen = g.M.Medium.seen c.clear_slot-2.new.medium in
          clearing_handed_on old new c.args.slot c.in_err-clear_slot.field-0.0 c.from_residual-in_err-clear_slot.result c.from_residual-in_err-clear_slot.ensures.1
          (refused_here (g.M.Medium.seen c.self.inside.medium) old new c.geometry-geometry.result c.args.slot (Err c.in_err-clear_slot.field-0.0) (ap g.M.Medium.seen c.self.view_is) c.geometry-geometry.ensures.value c.in_err-clear_slot.ensures.cause) d uses f h at unused;
      untouched =
          let old : Seen = g.M.Medium.seen c.args.self.now in
          nothing_written old.tracks old.content (g.M.Medium.seen c.clear_slot-2.new.medium).content c.args.slot (c.in_err-clear_slot.ensures.err ∙ ap (λ m. (g.M.Medium.seen m).content) c.self.view_is) d uses f h at unused;
    }

-- ---- the entry of a closed file is cleared, and the map is written or refused

-- the entry is cleared, by one write
cleared : (g : Over) (c : goal.After-write g) → EntryCleared (geometry_of (g.M.Medium.seen c.args.self.now).tracks (g.M.Medium.seen c.args.self.now).content) (g.M.Medium.seen c.args.self.now).content (g.M.Medium.seen c.clear_slot-2.new.medium).content c.args.slot (Ok tt)
cleared g c = cleared_here (g.M.Medium.seen c.self.inside.medium) (g.M.Medium.seen c.args.self.now) (g.M.Medium.seen c.clear_slot-2.new.medium).content c.geometry-geometry.result c.args.slot (Ok tt) (ap g.M.Medium.seen c.self.view_is) c.geometry-geometry.ensures.value c.in_ok-clear_slot.ensures.cleared

-- the slot is empty
slot_empty : (g : Over) (c : goal.After-write g) → SlotEmpty (g.M.Medium.seen c.args.self.now).tracks (g.M.Medium.seen c.args.self.now).content (g.M.Medium.seen c.clear_slot-2.new.medium).content c.args.slot c.free_file.new.release
slot_empty g c =
    let inside : Seen = g.M.Medium.seen c.self.inside.medium in
    let old : Seen = g.M.Medium.seen c.args.self.now in
    is_scratched old.tracks old.content (g.M.Medium.seen c.clear_slot-2.new.medium).content c.args.slot c.in-Some.entry c.in_ok-release.release c.free_file.new.release
    (found_here old.content (geometry_of old.tracks old.content) c.args.slot c.in_ok-entry.field-0 c.in-Some.entry c.in-Some.is c.in_ok-entry.ensures.answers)
    (sym c.is_closed.ensures ∙ c.if-not-is_closed.false)
    (ap (λ m. (g.M.Medium.seen m).content directory_head) (sym c.self.view_is) ∙ c.in_ok-release.ensures.ok)
    (given_here inside old c.geometry-geometry.result c.in-Some.entry c.in_ok-release.release c.free_file.new.release (Ok c.in_ok-free_file.field-0) (ap g.M.Medium.seen c.self.view_is) c.geometry-geometry.ensures.value c.in_ok-free_file.ensures.freed)
    (cleared g c)

pub returns-clause-call : goal.returns-clause-call
returns-clause-call g c = λ d uses h f at unused.
    record {
      done =
          let old : Seen = g.M.Medium.seen c.args.self.now in
          if_ok c.write.result _ (scratched_ok old.tracks old.content (g.M.Medium.seen c.clear_slot-2.new.medium).content (g.M.Medium.seen c.write.new.medium).content c.args.slot c.free_file.new.release c.write.result c.write.ensures.ok (slot_empty g c) d uses f h at unused);
      stopped =
          let old : Seen = g.M.Medium.seen c.args.self.now in
          scratched_stopped old.tracks old.content (g.M.Medium.seen c.clear_slot-2.new.medium).content (g.M.Medium.seen c.write.new.medium).content c.args.slot c.free_file.new.release c.write.result c.write.ensures.err (slot_empty g c) d uses f h at unused;
      cause =
          let old : Seen = g.M.Medium.seen c.args.self.now in
          let mid : Seen = g.M.Medium.seen c.clear_slot-2.new.medium in
          release_hindered old mid (g.M.Medium.seen c.write.new.medium) c.args.slot c.free_file.new.release c.write.result
          (c.clear_slot-2.ensures.only.protected ∙ ap (λ m. (g.M.Medium.seen m).protected) c.self.view_is)
          (subst (λ (n : ℕ). n ≤ mid.failures) (ap (λ m. (g.M.Medium.seen m).failures) c.self.view_is) c.clear_slot-2.ensures.only.counted)
          (slot_empty g c) c.write.ensures.cause d uses f h at unused;
      untouched =
          let old : Seen = g.M.Medium.seen c.args.self.now in
          release_spared old.tracks old.content (g.M.Medium.seen c.clear_slot-2.new.medium).content (g.M.Medium.seen c.write.new.medium).content c.args.slot c.free_file.new.release c.write.result (cleared g c) c.write.ensures.ok c.write.ensures.err d uses f h at unused;
    }

-- what breaks the directory off is never told as protection
pub returns-in_err-entry-clause-only : goal.returns-in_err-entry-clause-only
returns-in_err-entry-clause-only g c =
    let old : Seen = g.M.Medium.seen c.args.self.now in
    let p = err_from_is_err_and c.from_residual.result c.from_residual.ensures.1 in
    only_nothing c.from_residual.result (g.M.Medium.seen c.args.self.now) (g.M.Medium.seen c.args.self.now) (λ i. g.M.Medium.seen c.args.self.now)
    (rw (p.1, p.2) (λ is. absurd (directory_never_26 (geometry_of old.tracks old.content) old.content c.in_err-entry.field-0.0 (λ q. g.met.M.Medium.codes c.args.self.now q) c.in_err-entry.ensures.answers.1 is)))
    (rw (p.1, p.2) (directory_shown (geometry_of old.tracks old.content) old c.in_err-entry.field-0.0 c.in_err-entry.ensures.answers.1))

pub returns-clause-only : goal.returns-clause-only
returns-clause-only g c =
    of_tracks c.geometry-geometry.result c.write.result (g.M.Medium.seen c.args.self.now) (g.M.Medium.seen c.write.new.medium) c.geometry-geometry.ensures.value
    (only_after c.clear_slot-2.result c.in_ok-clear_slot.field-0 c.write.result (g.M.Medium.seen c.args.self.now) (g.M.Medium.seen c.clear_slot-2.new.medium) (g.M.Medium.seen c.write.new.medium) c.in_ok-clear_slot.was
    (subst (λ (s : Seen). OnlyContent c.geometry-geometry.result c.clear_slot-2.result s (g.M.Medium.seen c.clear_slot-2.new.medium)) (ap (λ m. g.M.Medium.seen m) c.self.view_is) c.clear_slot-2.ensures.only) c.write.ensures.only)

-- what is met before a write
pub returns-in_err-free_file-clause-only : goal.returns-in_err-free_file-clause-only
returns-in_err-free_file-clause-only g c =
    let old : Seen = g.M.Medium.seen c.args.self.now in
    let p = err_from_is_err_and c.from_residual-in_err-free_file.result c.from_residual-in_err-free_file.ensures.1 in
    only_nothing c.from_residual-in_err-free_file.result old old (λ i. old)
    (rw (p.1, p.2) (λ is. absurd (c.in_err-free_file.ensures.never_26 is)))
    (rw (p.1, p.2) (subst (λ (s : Seen). ShowsGround s c.in_err-free_file.field-0.0) (ap (λ m. g.M.Medium.seen m) c.self.view_is) c.in_err-free_file.ensures.shown))

-- ---- on any disk

led_here : (inside old : Seen) (new : Content) (k n : ℕ) (r : Result (Unit {0}) Trouble) → inside ≡ old → k ≡ geometry_of old.tracks old.content
    → OnOk r (ClearsLed k inside.content new n) → OnOk r (ClearsLed (geometry_of old.tracks old.content) old.content new n)
led_here inside old new k n r same size h = subst (λ (s : Seen). OnOk r (ClearsLed (geometry_of old.tracks old.content) s.content new n)) same (subst (λ (m : ℕ). OnOk r (ClearsLed m inside.content new n)) size h)

freed_here : (inside old : Seen) (k : ℕ) (entry map freed : List ℕ) → inside ≡ old → k ≡ geometry_of old.tracks old.content → FreesFile k inside.content entry map freed → FreesFile (geometry_of old.tracks old.content) old.content entry map freed
freed_here inside old k entry map freed same size h = subst (λ (s : Seen). FreesFile (geometry_of old.tracks old.content) s.content entry map freed) same (subst (λ (m : ℕ). FreesFile m inside.content entry map freed) size h)

pub returns-then-not-is_closed-clause-led : goal.returns-then-not-is_closed-clause-led
returns-then-not-is_closed-clause-led g c =
    let old : Seen = g.M.Medium.seen c.args.self.now in
    let new : Seen = g.M.Medium.seen c.clear_slot.new.medium in
    open_led old new c.args.slot c.in-Some.entry c.clear_slot.result
    (found_here old.content (geometry_of old.tracks old.content) c.args.slot c.in_ok-entry.field-0 c.in-Some.entry c.in-Some.is c.in_ok-entry.ensures.answers)
    (sym c.is_closed.ensures ∙ c.if-not-is_closed.true)
    (led_here (g.M.Medium.seen c.self.inside.medium) old new.content c.geometry-geometry.result c.args.slot c.clear_slot.result (ap g.M.Medium.seen c.self.view_is) c.geometry-geometry.ensures.value c.clear_slot.ensures.exact)

-- the entry of a closed file, that was found
closed_found : (g : Over) (c : goal.After-write g) → Answers (directory_of (geometry_of (g.M.Medium.seen c.args.self.now).tracks (g.M.Medium.seen c.args.self.now).content) (g.M.Medium.seen c.args.self.now).content) c.args.slot (Ok (Some c.in-Some.entry))
closed_found g c = found_here (g.M.Medium.seen c.args.self.now).content (geometry_of (g.M.Medium.seen c.args.self.now).tracks (g.M.Medium.seen c.args.self.now).content) c.args.slot c.in_ok-entry.field-0 c.in-Some.entry c.in-Some.is c.in_ok-entry.ensures.answers

-- its sectors are given back to the map that was read
closed_freed : (g : Over) (c : goal.After-write g) → FreesFile (geometry_of (g.M.Medium.seen c.args.self.now).tracks (g.M.Medium.seen c.args.self.now).content) (g.M.Medium.seen c.args.self.now).content c.in-Some.entry c.in_ok-release.release c.free_file.new.release
closed_freed g c = freed_here (g.M.Medium.seen c.self.inside.medium) (g.M.Medium.seen c.args.self.now) c.geometry-geometry.result c.in-Some.entry c.in_ok-release.release c.free_file.new.release (ap g.M.Medium.seen c.self.view_is) c.geometry-geometry.ensures.value c.in_ok-free_file.ensures.given

pub returns-clause-led : goal.returns-clause-led
returns-clause-led g c =
    let old : Seen = g.M.Medium.seen c.args.self.now in
    let mid : Seen = g.M.Medium.seen c.clear_slot-2.new.medium in
    closed_led old mid (g.M.Medium.seen c.write.new.medium) c.args.slot c.in-Some.entry c.in_ok-release.release c.free_file.new.release c.write.result (closed_found g c) (sym c.is_closed.ensures ∙ c.if-not-is_closed.false)
    (ap (λ m. (g.M.Medium.seen m).content directory_head) (sym c.self.view_is) ∙ c.in_ok-release.ensures.ok) (closed_freed g c)
    (led_here (g.M.Medium.seen c.self.inside.medium) old mid.content c.geometry-geometry.result c.args.slot (Ok tt) (ap g.M.Medium.seen c.self.view_is) c.geometry-geometry.ensures.value c.in_ok-clear_slot.ensures.exact)
    c.write.ensures.ok

pub returns-then-not-is_closed-clause-stopped : goal.returns-then-not-is_closed-clause-stopped
returns-then-not-is_closed-clause-stopped g c =
    let old : Seen = g.M.Medium.seen c.args.self.now in
    let new : Seen = g.M.Medium.seen c.clear_slot.new.medium in
    stopped_before old new c.args.slot c.clear_slot.result (subst (λ (s : Seen). OnErr c.clear_slot.result (new.content ≡ s.content)) (ap g.M.Medium.seen c.self.view_is) c.clear_slot.ensures.err)

pub returns-in_err-clear_slot-clause-stopped : goal.returns-in_err-clear_slot-clause-stopped
returns-in_err-clear_slot-clause-stopped g c =
    on_err c.from_residual-in_err-clear_slot.result (inl (c.in_err-clear_slot.ensures.err ∙ ap (λ m. (g.M.Medium.seen m).content) c.self.view_is))

pub returns-clause-stopped : goal.returns-clause-stopped
returns-clause-stopped g c =
    let old : Seen = g.M.Medium.seen c.args.self.now in
    let mid : Seen = g.M.Medium.seen c.clear_slot-2.new.medium in
    stopped_after old mid (g.M.Medium.seen c.write.new.medium) c.args.slot c.in-Some.entry c.write.result (closed_found g c) (sym c.is_closed.ensures ∙ c.if-not-is_closed.false) (closed_freed g c).whole
    (led_here (g.M.Medium.seen c.self.inside.medium) old mid.content c.geometry-geometry.result c.args.slot (Ok tt) (ap g.M.Medium.seen c.self.view_is) c.geometry-geometry.ensures.value c.in_ok-clear_slot.ensures.exact)
    c.write.ensures.err
