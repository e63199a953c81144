use Rattle.std.proofs.Common.{rules, ℕ, List, ◌≡◌, ◌≤◌, Ok, ap, refl, sym, subst, ◌∙◌}
use Rattle.cbm_medium.proofs.Sequences.{only_after}
use Rattle.cbm_medium.specs.Place.{Place, directory_head}
use Rattle.cbm_medium.specs.Seen.{Seen, OnlyContent}
use Rattle.cbm_bam.specs.Map.{geometry_of}
use Rattle.cbm_bam.specs.Marks.{is_marked}
use Rattle.cbm_volume.specs.Opens.{IsHindered}
use Rattle.cbm_volume.specs.Views.{view_of}
use Rattle.cbm_volume.specs.Sweeps.{IsDirectoryChain, IsSwept, IsPutInOrder, IsPartlyInOrder}
use Rattle.cbm_volume.specs.check.WholeDisk.{ClaimsInto}
use Rattle.cbm_volume.proofs.layouts.OnDisks.{of_tracks}
use Rattle.cbm_volume.proofs.layouts.Calls.{if_ok, match_on}
use Rattle.cbm_volume.proofs.written.Finishing.{on_err}
use Rattle.cbm_volume.proofs.mended.SweptFiles.{none_swept, swept_spared, ends_spared}
use Rattle.cbm_volume.proofs.layouts.Hindered.{handed_on}
use Rattle.cbm_volume.proofs.mended.Validates.{SweptAll, IsMended, IsWhollyAnew}
use Rattle.cbm_volume.proofs.mended.Mended.{here, IsRefusal, flaw_told, map_read, slot_refused, map_refused, stopped_at, walk_hindered, wholly_anew, ends_mended, ends_sound, ends_in_order, ends_partly, stops_partly, ends_validated, ends_stopped, ends_hindered}
use Rattle.cbm_volume.proofs.volume.Volume.validate.Goals as goal
use Rattle.cbm_volume.proofs.volume.Volume.validate.Given.{Over}
use Rattle.std.specs.Prelude.{OnOk}

-- ---- a flaw is told

pub returns-in_err-used-clause-refused : goal.returns-in_err-used-clause-refused
returns-in_err-used-clause-refused g c =
    let old : Seen = g.M.Medium.seen c.args.self.now in
    handed_on c.from_residual.result c.in_err-used.field-0.0 (IsRefusal old old) c.from_residual.ensures.1
    (flaw_told (g.M.Medium.seen c.self.inside.medium) old old c.in_err-used.field-0.0 (ap g.M.Medium.seen c.self.view_is) refl c.in_err-used.ensures.err)

pub returns-in_err-used-clause-call : goal.returns-in_err-used-clause-call
returns-in_err-used-clause-call g c = λ d uses h idle.
    let old : Seen = g.M.Medium.seen c.args.self.now in
    record { done = (search rules); stopped = (search rules); cause = (search rules); untouched = none_swept old.tracks old.content d uses h }

pub returns-in_err-used-clause-in_order : goal.returns-in_err-used-clause-in_order
returns-in_err-used-clause-in_order g c =
    let old : Seen = g.M.Medium.seen c.args.self.now in
    match_on c.from_residual.result (IsPutInOrder (geometry_of old.tracks old.content) old.content old.content) (IsPartlyInOrder (geometry_of old.tracks old.content) old.content old.content) (search rules) (search rules)

-- the medium is protected
pub returns-then-protected-clause-call : goal.returns-then-protected-clause-call
returns-then-protected-clause-call g c = λ d uses h idle.
    let old : Seen = g.M.Medium.seen c.args.self.now in
    record { done = (search rules); stopped = (search rules); cause = (search rules); untouched = none_swept old.tracks old.content d uses h }

-- the map of a disk without such a flaw reads
pub returns-in_err-map-clause-call : goal.returns-in_err-map-clause-call
returns-in_err-map-clause-call g c = absurd (map_read (g.M.Medium.seen c.self.inside.medium).tracks (g.M.Medium.seen c.self.inside.medium).content (is_marked c.in_ok-used.used) _ c.in_ok-used.ensures.ok c.in_err-map.ensures.err.0)

pub returns-in_err-map-clause-in_order : goal.returns-in_err-map-clause-in_order
returns-in_err-map-clause-in_order g c = absurd (map_read (g.M.Medium.seen c.self.inside.medium).tracks (g.M.Medium.seen c.self.inside.medium).content (is_marked c.in_ok-used.used) _ c.in_ok-used.ensures.ok c.in_err-map.ensures.err.0)

pub returns-in_err-map-clause-refused : goal.returns-in_err-map-clause-refused
returns-in_err-map-clause-refused g c = absurd (map_read (g.M.Medium.seen c.self.inside.medium).tracks (g.M.Medium.seen c.self.inside.medium).content (is_marked c.in_ok-used.used) _ c.in_ok-used.ensures.ok c.in_err-map.ensures.err.0)

-- ---- a slot is refused

pub returns-in_err-sweep-clause-refused : goal.returns-in_err-sweep-clause-refused
returns-in_err-sweep-clause-refused g c =
    let old : Seen = g.M.Medium.seen c.args.self.now in
    let new : Seen = g.M.Medium.seen c.sweep.new.medium in
    handed_on c.from_residual-in_err-sweep.result c.in_err-sweep.field-0.0 (IsRefusal old new) c.from_residual-in_err-sweep.ensures.1
    (slot_refused old new c.in_err-sweep.field-0.0 (is_marked c.in_ok-used.used)
    (subst (λ (s : Seen). ClaimsInto (geometry_of s.tracks s.content) (view_of (geometry_of s.tracks s.content) s.content) (is_marked c.in_ok-used.used)) (ap g.M.Medium.seen c.self.view_is) c.in_ok-used.ensures.ok)
    (here (λ m s. (xs : List Place) → IsDirectoryChain m s.content xs → IsHindered s new c.in_err-sweep.field-0.0) (g.M.Medium.seen c.self.inside.medium) old c.geometry-geometry.result (ap g.M.Medium.seen c.self.view_is) c.geometry-geometry.ensures.value c.in_err-sweep.ensures.cause))

pub returns-in_err-sweep-clause-call : goal.returns-in_err-sweep-clause-call
returns-in_err-sweep-clause-call g c = λ d uses h idle.
    record {
      done = (search rules);
      stopped =
          let old : Seen = g.M.Medium.seen c.args.self.now in
          let new : Seen = g.M.Medium.seen c.sweep.new.medium in
          on_err c.from_residual-in_err-sweep.result (stopped_at old.tracks old.content new.content d uses h idle
          (here (λ m s. (xs : List Place) → IsDirectoryChain m s.content xs → (k : ℕ) × IsSwept s.content new.content xs k) (g.M.Medium.seen c.self.inside.medium) old c.geometry-geometry.result (ap g.M.Medium.seen c.self.view_is) c.geometry-geometry.ensures.value c.in_err-sweep.ensures.stopped));
      cause =
          let old : Seen = g.M.Medium.seen c.args.self.now in
          let new : Seen = g.M.Medium.seen c.sweep.new.medium in
          handed_on c.from_residual-in_err-sweep.result c.in_err-sweep.field-0.0 (IsHindered old new) c.from_residual-in_err-sweep.ensures.1
          (walk_hindered old new c.in_err-sweep.field-0.0 d uses h
          (here (λ m s. (xs : List Place) → IsDirectoryChain m s.content xs → IsHindered s new c.in_err-sweep.field-0.0) (g.M.Medium.seen c.self.inside.medium) old c.geometry-geometry.result (ap g.M.Medium.seen c.self.view_is) c.geometry-geometry.ensures.value c.in_err-sweep.ensures.cause));
      untouched =
          let old : Seen = g.M.Medium.seen c.args.self.now in
          let new : Seen = g.M.Medium.seen c.sweep.new.medium in
          swept_spared old.tracks old.content new.content d uses h
          (here (λ m s. (xs : List Place) → IsDirectoryChain m s.content xs → (k : ℕ) × IsSwept s.content new.content xs k) (g.M.Medium.seen c.self.inside.medium) old c.geometry-geometry.result (ap g.M.Medium.seen c.self.view_is) c.geometry-geometry.ensures.value c.in_err-sweep.ensures.stopped);
    }

-- ---- all slots are swept, and the map is written or refused

all_swept : (g : Over) (c : goal.After-write_map g) → SweptAll (geometry_of (g.M.Medium.seen c.args.self.now).tracks (g.M.Medium.seen c.args.self.now).content) (g.M.Medium.seen c.args.self.now).content (g.M.Medium.seen c.sweep.new.medium).content
all_swept g c = here (λ m s. (xs : List Place) → IsDirectoryChain m s.content xs → IsSwept s.content (g.M.Medium.seen c.sweep.new.medium).content xs 144)
    (g.M.Medium.seen c.self.inside.medium) (g.M.Medium.seen c.args.self.now) c.geometry-geometry.result (ap g.M.Medium.seen c.self.view_is) c.geometry-geometry.ensures.value c.in_ok-sweep.ensures.swept

map_reads : (g : Over) (c : goal.After-write_map g) → (g.M.Medium.seen c.args.self.now).content directory_head ≡ Ok c.in_ok-map.map
map_reads g c = ap (λ m. (g.M.Medium.seen m).content directory_head) (sym c.self.view_is) ∙ c.in_ok-map.ensures.ok

claimed : (g : Over) (c : goal.After-write_map g) → ClaimsInto (geometry_of (g.M.Medium.seen c.args.self.now).tracks (g.M.Medium.seen c.args.self.now).content) (view_of (geometry_of (g.M.Medium.seen c.args.self.now).tracks (g.M.Medium.seen c.args.self.now).content) (g.M.Medium.seen c.args.self.now).content) (is_marked c.in_ok-used.used)
claimed g c = subst (λ (s : Seen). ClaimsInto (geometry_of s.tracks s.content) (view_of (geometry_of s.tracks s.content) s.content) (is_marked c.in_ok-used.used)) (ap g.M.Medium.seen c.self.view_is) c.in_ok-used.ensures.ok

anew_wholly : (g : Over) (c : goal.After-write_map g) → IsWhollyAnew (geometry_of (g.M.Medium.seen c.args.self.now).tracks (g.M.Medium.seen c.args.self.now).content) c.in_ok-map.map c.anew.result (is_marked c.in_ok-used.used)
anew_wholly g c =
    let old : Seen = g.M.Medium.seen c.args.self.now in
    wholly_anew (geometry_of old.tracks old.content) c.geometry-geometry.result old.content c.in_ok-map.map c.anew.result (is_marked c.in_ok-used.used) c.geometry-geometry.ensures.value c.geometry-geometry.ensures.whole (map_reads g c)
    c.anew.ensures.free c.anew.ensures.counted c.anew.ensures.outside c.anew.ensures.length

mended : (g : Over) (c : goal.After-write_map g) → OnOk c.write_map.result (IsMended (g.M.Medium.seen c.args.self.now).tracks (g.M.Medium.seen c.args.self.now).content (g.M.Medium.seen c.write_map.new.medium).content)
mended g c =
    let old : Seen = g.M.Medium.seen c.args.self.now in
    ends_mended old.tracks old.content (g.M.Medium.seen c.sweep.new.medium).content (g.M.Medium.seen c.write_map.new.medium).content c.in_ok-map.map c.anew.result (is_marked c.in_ok-used.used) c.write_map.result c.write_map.ensures.ok
    c.geometry-geometry.ensures.whole (claimed g c) (map_reads g c) (all_swept g c) (anew_wholly g c)

pub returns-clause-sound : goal.returns-clause-sound
returns-clause-sound g c = ends_sound (g.M.Medium.seen c.args.self.now).tracks (g.M.Medium.seen c.args.self.now).content (g.M.Medium.seen c.write_map.new.medium).content c.write_map.result (mended g c)

pub returns-clause-in_order : goal.returns-clause-in_order
returns-clause-in_order g c =
    let old : Seen = g.M.Medium.seen c.args.self.now in
    let new : Seen = g.M.Medium.seen c.write_map.new.medium in
    match_on c.write_map.result (IsPutInOrder (geometry_of old.tracks old.content) old.content new.content) (IsPartlyInOrder (geometry_of old.tracks old.content) old.content new.content)
    (ends_in_order old.tracks old.content (g.M.Medium.seen c.sweep.new.medium).content (g.M.Medium.seen c.write_map.new.medium).content c.in_ok-map.map c.anew.result (is_marked c.in_ok-used.used) c.write_map.result c.write_map.ensures.ok
    c.geometry-geometry.ensures.whole (claimed g c) (map_reads g c) (all_swept g c) (anew_wholly g c))
    (ends_partly (g.M.Medium.seen c.args.self.now).tracks (g.M.Medium.seen c.args.self.now).content (g.M.Medium.seen c.sweep.new.medium).content (g.M.Medium.seen c.write_map.new.medium).content
    (is_marked c.in_ok-used.used) c.write_map.result c.write_map.ensures.err (claimed g c) (all_swept g c))

pub returns-in_err-sweep-clause-in_order : goal.returns-in_err-sweep-clause-in_order
returns-in_err-sweep-clause-in_order g c =
    let old : Seen = g.M.Medium.seen c.args.self.now in
    let new : Seen = g.M.Medium.seen c.sweep.new.medium in
    match_on c.from_residual-in_err-sweep.result (IsPutInOrder (geometry_of old.tracks old.content) old.content new.content) (IsPartlyInOrder (geometry_of old.tracks old.content) old.content new.content) (search rules)
    (on_err c.from_residual-in_err-sweep.result (stops_partly old.tracks old.content new.content (is_marked c.in_ok-used.used)
    (subst (λ (s : Seen). ClaimsInto (geometry_of s.tracks s.content) (view_of (geometry_of s.tracks s.content) s.content) (is_marked c.in_ok-used.used)) (ap g.M.Medium.seen c.self.view_is) c.in_ok-used.ensures.ok)
    (here (λ m s. (xs : List Place) → IsDirectoryChain m s.content xs → (k : ℕ) × IsSwept s.content new.content xs k) (g.M.Medium.seen c.self.inside.medium) old c.geometry-geometry.result (ap g.M.Medium.seen c.self.view_is) c.geometry-geometry.ensures.value c.in_err-sweep.ensures.stopped)))

pub returns-clause-call : goal.returns-clause-call
returns-clause-call g c = λ d uses h idle.
    record {
      done = if_ok c.write_map.result _ (ends_validated (g.M.Medium.seen c.args.self.now).tracks (g.M.Medium.seen c.args.self.now).content (g.M.Medium.seen c.write_map.new.medium).content c.write_map.result d uses (mended g c) h idle);
      stopped =
          ends_stopped (g.M.Medium.seen c.args.self.now).tracks (g.M.Medium.seen c.args.self.now).content (g.M.Medium.seen c.sweep.new.medium).content (g.M.Medium.seen c.write_map.new.medium).content
          c.write_map.result d uses c.write_map.ensures.err (all_swept g c) h idle;
      cause =
          ends_hindered (g.M.Medium.seen c.args.self.now) (g.M.Medium.seen c.sweep.new.medium) (g.M.Medium.seen c.write_map.new.medium) c.write_map.result d uses c.write_map.ensures.cause (all_swept g c)
          (c.sweep.ensures.only.protected ∙ ap (λ m. (g.M.Medium.seen m).protected) c.self.view_is)
          (subst (λ (n : ℕ). n ≤ (g.M.Medium.seen c.sweep.new.medium).failures) (ap (λ m. (g.M.Medium.seen m).failures) c.self.view_is) c.sweep.ensures.only.counted) h;
      untouched = ends_spared (g.M.Medium.seen c.args.self.now).tracks (g.M.Medium.seen c.args.self.now).content (g.M.Medium.seen c.sweep.new.medium).content (g.M.Medium.seen c.write_map.new.medium).content c.anew.result c.write_map.result d uses h c.write_map.ensures.ok c.write_map.ensures.err (all_swept g c);
    }

pub returns-clause-refused : goal.returns-clause-refused
returns-clause-refused g c = map_refused (g.M.Medium.seen c.args.self.now) (g.M.Medium.seen c.sweep.new.medium) (g.M.Medium.seen c.write_map.new.medium) c.in_ok-map.map (is_marked c.in_ok-used.used) c.write_map.result c.write_map.ensures.cause (map_reads g c) (claimed g c) (all_swept g c)
    (c.sweep.ensures.only.protected ∙ ap (λ m. (g.M.Medium.seen m).protected) c.self.view_is)
    (subst (λ (n : ℕ). n ≤ (g.M.Medium.seen c.sweep.new.medium).failures) (ap (λ m. (g.M.Medium.seen m).failures) c.self.view_is) c.sweep.ensures.only.counted)

pub returns-clause-only : goal.returns-clause-only
returns-clause-only g c =
    of_tracks c.geometry-geometry.result c.write_map.result (g.M.Medium.seen c.args.self.now) (g.M.Medium.seen c.write_map.new.medium) c.geometry-geometry.ensures.value
    (only_after c.sweep.result c.in_ok-sweep.field-0 c.write_map.result (g.M.Medium.seen c.args.self.now) (g.M.Medium.seen c.sweep.new.medium) (g.M.Medium.seen c.write_map.new.medium) c.in_ok-sweep.was
    (subst (λ (s : Seen). OnlyContent c.geometry-geometry.result c.sweep.result s (g.M.Medium.seen c.sweep.new.medium)) (ap (λ m. g.M.Medium.seen m) c.self.view_is) c.sweep.ensures.only) c.write_map.ensures.only)
