use Rattle.cbm_volume.specs.Copying.{CopyLed}
use Rattle.std.proofs.Common.{rules, ◌≡◌, ◌≢◌, ℕ, false, Ok, Err, refl, ap, subst, inl, inr}
use Rattle.std.proofs.lemmas.Result.{err_from_is_err_and}
use Rattle.cbm_medium.proofs.Sequences.{only_nothing}
use Rattle.cbm_medium.specs.Place.{directory_head}
use Rattle.cbm_medium.specs.Seen.{Seen}
use Rattle.cbm_medium.proofs.FaultCodes.{never_26}
use Rattle.cbm_file.specs.declared.file_type.FileType.TheVariants.{Del, Rel}
use Rattle.cbm_file.specs.Types.{is_same_type}
use Rattle.cbm_file.specs.Padding.{before_filler}
use Rattle.cbm_file.specs.Files.{Disk}
use Rattle.cbm_file.specs.Changes.{with_copy}
use Rattle.cbm_bam.specs.Map.{geometry_of}
use Rattle.cbm_bam.proofs.Heads.{head_shown}
use Rattle.cbm_directory.proofs.Codes.{directory_never_26, directory_shown}
use Rattle.cbm_volume.specs.Copies.{AreCopied, IsCopyCut}
use Rattle.cbm_volume.specs.Opens.{IsHindered}
use Rattle.cbm_volume.specs.Reaches.{Reached}
use Rattle.cbm_volume.specs.Writers.{Use, Idle, HoldsNow}
use Rattle.cbm_volume.proofs.copied.CopyResults.{Totals, Makes, no_room, room_is_none, room_for}
use Rattle.cbm_volume.proofs.written.Finishing.{on_err}
use Rattle.cbm_volume.proofs.layouts.Hindered.{handed_on}
use Rattle.cbm_volume.proofs.opened.OpenedFiles.{stopped_at, untouched_by}
use Rattle.cbm_volume.proofs.opened.OpenedSlots.{reached_now}
use Rattle.cbm_volume.proofs.layouts.Staying.{kept_same}
use Rattle.cbm_volume.proofs.volume.Volume.copy.Goals as goal
use Rattle.cbm_volume.proofs.volume.Volume.copy.Given.{Over}

pub returns-in_err-bytes-clause-call : goal.returns-in_err-bytes-clause-call
returns-in_err-bytes-clause-call g c = λ d uses ch h idle ne plain are.
    record {
      done = (search rules);
      stopped = (search rules);
      cause = absurd (subst (λ (s : Seen). Totals s c.args.sources.now (Err c.in_err-bytes.field-0.0)) (ap (λ m. g.M.Medium.seen m) c.self.view_is) c.in_err-bytes.ensures.total d uses h are);
      untouched =
          let old : Seen = g.M.Medium.seen c.args.self.now in
          untouched_by old.tracks old.content old.content d uses h (kept_same h.layout old.content old.content (λ m. false) refl);
    }

pub returns-in_err-room-clause-call : goal.returns-in_err-room-clause-call
returns-in_err-room-clause-call g c = λ d uses ch h idle ne plain are.
    record {
      done = (search rules);
      stopped = (search rules);
      cause = absurd (c.in_err-room.ensures.means d (record { layout = h.layout; stands = h.so.stands }));
      untouched =
          let old : Seen = g.M.Medium.seen c.args.self.now in
          untouched_by old.tracks old.content old.content d uses h (kept_same h.layout old.content old.content (λ m. false) refl);
    }

-- neither the map's fault nor what breaks the directory off is told as protection
pub returns-in_err-room-clause-only : goal.returns-in_err-room-clause-only
returns-in_err-room-clause-only g c =
    let p = err_from_is_err_and c.from_residual-in_err-room.result c.from_residual-in_err-room.ensures.1 in
    let old : Seen = g.M.Medium.seen c.args.self.now in
    only_nothing c.from_residual-in_err-room.result (g.M.Medium.seen c.args.self.now) (g.M.Medium.seen c.args.self.now) (λ i. g.M.Medium.seen c.args.self.now)
    (rw (p.1, p.2) (λ is. absurd (elim c.in_err-room.ensures.err [
      | inl k ↦ never_26 (old.content directory_head) c.in_err-room.field-0.0.code (g.met.M.Medium.codes c.args.self.now directory_head) k.0 is
      | inr k ↦ directory_never_26 (geometry_of old.tracks old.content) old.content c.in_err-room.field-0.0 (λ q. g.met.M.Medium.codes c.args.self.now q) k is
    ])))
    (rw (p.1, p.2) (elim c.in_err-room.ensures.err [ inl k ↦ head_shown old c.in_err-room.field-0.0 k | inr k ↦ directory_shown (geometry_of old.tracks old.content) old c.in_err-room.field-0.0 k ]))

pub returns-then-not-has_room-clause-call : goal.returns-then-not-has_room-clause-call
returns-then-not-has_room-clause-call g c = λ d uses ch h idle ne plain are.
    record {
      done =
          let total = subst (λ (s : Seen). Totals s c.args.sources.now (Ok c.in_ok-bytes.bytes)) (ap (λ m. g.M.Medium.seen m) c.self.view_is) c.in_ok-bytes.ensures.total d uses h are in
          let means = c.in_ok-room.ensures.means d (record { layout = h.layout; stands = h.so.stands }) in
          (no_room d c.args.sources.now c.in_ok-bytes.bytes c.in_ok-room.room.blocks c.in_ok-room.room.slot total means.0 means.1 (c.has_room.ensures.none c.if-not-has_room.true), refl);
      stopped = (search rules);
      cause = (search rules);
      untouched =
          let old : Seen = g.M.Medium.seen c.args.self.now in
          untouched_by old.tracks old.content old.content d uses h (kept_same h.layout old.content old.content (λ m. false) refl);
    }

pub returns-then-protected-clause-call : goal.returns-then-protected-clause-call
returns-then-protected-clause-call g c = λ d uses ch h idle ne plain are.
    record {
      done = (search rules);
      stopped = (search rules);
      cause = (search rules);
      untouched =
          let old : Seen = g.M.Medium.seen c.args.self.now in
          untouched_by old.tracks old.content old.content d uses h (kept_same h.layout old.content old.content (λ m. false) refl);
    }

-- ---- the copy was begun, as there is room

cut : (g : Over) (c : goal.After-from_residual-in_err-make g) (d : Disk) (uses : ℕ → Use) (ch : ℕ) (h : HoldsNow (g.M.Medium.seen c.args.self.now).tracks (g.M.Medium.seen c.args.self.now).content d uses) → uses ch ≡ Idle → c.args.kind ≢ Del → is_same_type Rel c.args.kind ≡ false → AreCopied d c.args.sources.now
    → IsCopyCut (g.M.Medium.seen c.args.self.now) (g.M.Medium.seen c.make.new.medium) (g.M.Medium.seen c.args.self.now).content h.layout d uses c.in_err-make.field-0.0
cut g c d uses ch h idle ne plain are =
    let old : Seen = g.M.Medium.seen c.args.self.now in
    let seen = ap (λ m. g.M.Medium.seen m) c.self.view_is in
    let room = room_for old d uses c.args.sources.now c.in_ok-bytes.bytes c.in_ok-room.room.blocks c.in_ok-room.room.slot (subst (λ (s : Seen). Totals s c.args.sources.now (Ok c.in_ok-bytes.bytes)) seen c.in_ok-bytes.ensures.total) h are
    (c.in_ok-room.ensures.means d (record { layout = h.layout; stands = h.so.stands })) (c.has_room.ensures.enough c.if-not-has_room.false) in
    subst (λ (s : Seen). Makes s (g.M.Medium.seen c.make.new.medium) c.args.kind c.args.name.now c.args.sources.now (Err c.in_err-make.field-0.0)) seen c.in_err-make.ensures.made d uses ch h idle ne plain are room.0 room.1

pub returns-in_err-make-clause-call : goal.returns-in_err-make-clause-call
returns-in_err-make-clause-call g c = λ d uses ch h idle ne plain are.
    record {
      done = (search rules);
      stopped =
          let old : Seen = g.M.Medium.seen c.args.self.now in
          let lost = (cut g c d uses ch h idle ne plain are).0 in
          on_err c.from_residual-in_err-make.result (stopped_at old.tracks old.content h.layout (g.M.Medium.seen c.make.new.medium).content d lost.disk _ uses h lost.reached lost.slots);
      cause = handed_on c.from_residual-in_err-make.result c.in_err-make.field-0.0 (IsHindered (g.M.Medium.seen c.args.self.now) (g.M.Medium.seen c.make.new.medium)) c.from_residual-in_err-make.ensures.1 (cut g c d uses ch h idle ne plain are).1;
      untouched =
          let old : Seen = g.M.Medium.seen c.args.self.now in
          untouched_by old.tracks old.content (g.M.Medium.seen c.make.new.medium).content d uses h (cut g c d uses ch h idle ne plain are).0.reached.kept;
    }

made : (g : Over) (c : goal.In_ok-make g) (d : Disk) (uses : ℕ → Use) (ch : ℕ) (h : HoldsNow (g.M.Medium.seen c.args.self.now).tracks (g.M.Medium.seen c.args.self.now).content d uses) → uses ch ≡ Idle → c.args.kind ≢ Del → is_same_type Rel c.args.kind ≡ false → AreCopied d c.args.sources.now
    → Reached (g.M.Medium.seen c.args.self.now).tracks (g.M.Medium.seen c.args.self.now).content h.layout (g.M.Medium.seen c.make.new.medium).content (with_copy d c.args.kind (before_filler c.args.name.now) c.args.sources.now) uses
made g c d uses ch h idle ne plain are =
    let old : Seen = g.M.Medium.seen c.args.self.now in
    let seen = ap (λ m. g.M.Medium.seen m) c.self.view_is in
    let room = room_for old d uses c.args.sources.now c.in_ok-bytes.bytes c.in_ok-room.room.blocks c.in_ok-room.room.slot (subst (λ (s : Seen). Totals s c.args.sources.now (Ok c.in_ok-bytes.bytes)) seen c.in_ok-bytes.ensures.total) h are
    (c.in_ok-room.ensures.means d (record { layout = h.layout; stands = h.so.stands })) (c.has_room.ensures.enough c.if-not-has_room.false) in
    subst (λ (s : Seen). Makes s (g.M.Medium.seen c.make.new.medium) c.args.kind c.args.name.now c.args.sources.now (Ok c.in_ok-make.field-0)) seen c.in_ok-make.ensures.made d uses ch h idle ne plain are room.0 room.1

pub returns-clause-call : goal.returns-clause-call
returns-clause-call g c = λ d uses ch h idle ne plain are.
    record {
      done =
          let old : Seen = g.M.Medium.seen c.args.self.now in
          reached_now old.tracks old.content h.layout (g.M.Medium.seen c.make.new.medium).content _ uses (made g c d uses ch h idle ne plain are);
      stopped = (search rules);
      cause = (search rules);
      untouched =
          let old : Seen = g.M.Medium.seen c.args.self.now in
          untouched_by old.tracks old.content (g.M.Medium.seen c.make.new.medium).content d uses h (made g c d uses ch h idle ne plain are).kept;
    }

-- ---- too little room is told first

pub returns-in_err-bytes-clause-full : goal.returns-in_err-bytes-clause-full
returns-in_err-bytes-clause-full g c = λ d uses h are none.
    absurd (subst (λ (s : Seen). Totals s c.args.sources.now (Err c.in_err-bytes.field-0.0)) (ap (λ m. g.M.Medium.seen m) c.self.view_is) c.in_err-bytes.ensures.total d uses h are)

pub returns-in_err-room-clause-full : goal.returns-in_err-room-clause-full
returns-in_err-room-clause-full g c = λ d uses h are none.
    absurd (c.in_err-room.ensures.means d (record { layout = h.layout; stands = h.so.stands }))

pub returns-then-protected-clause-full : goal.returns-then-protected-clause-full
returns-then-protected-clause-full g c = λ d uses h are none.
    let old : Seen = g.M.Medium.seen c.args.self.now in
    let seen = ap (λ m. g.M.Medium.seen m) c.self.view_is in
    let room = room_for old d uses c.args.sources.now c.in_ok-bytes.bytes c.in_ok-room.room.blocks c.in_ok-room.room.slot (subst (λ (s : Seen). Totals s c.args.sources.now (Ok c.in_ok-bytes.bytes)) seen c.in_ok-bytes.ensures.total) h are
    (c.in_ok-room.ensures.means d (record { layout = h.layout; stands = h.so.stands })) (c.has_room.ensures.enough c.if-not-has_room.false) in
    absurd (room_is_none d c.args.sources.now room.0 room.1 none)

pub returns-in_err-make-clause-full : goal.returns-in_err-make-clause-full
returns-in_err-make-clause-full g c = λ d uses h are none.
    let old : Seen = g.M.Medium.seen c.args.self.now in
    let seen = ap (λ m. g.M.Medium.seen m) c.self.view_is in
    let room = room_for old d uses c.args.sources.now c.in_ok-bytes.bytes c.in_ok-room.room.blocks c.in_ok-room.room.slot (subst (λ (s : Seen). Totals s c.args.sources.now (Ok c.in_ok-bytes.bytes)) seen c.in_ok-bytes.ensures.total) h are
    (c.in_ok-room.ensures.means d (record { layout = h.layout; stands = h.so.stands })) (c.has_room.ensures.enough c.if-not-has_room.false) in
    absurd (room_is_none d c.args.sources.now room.0 room.1 none)

pub returns-clause-full : goal.returns-clause-full
returns-clause-full g c = λ d uses h are none.
    let old : Seen = g.M.Medium.seen c.args.self.now in
    let seen = ap (λ m. g.M.Medium.seen m) c.self.view_is in
    let room = room_for old d uses c.args.sources.now c.in_ok-bytes.bytes c.in_ok-room.room.blocks c.in_ok-room.room.slot (subst (λ (s : Seen). Totals s c.args.sources.now (Ok c.in_ok-bytes.bytes)) seen c.in_ok-bytes.ensures.total) h are
    (c.in_ok-room.ensures.means d (record { layout = h.layout; stands = h.so.stands })) (c.has_room.ensures.enough c.if-not-has_room.false) in
    absurd (room_is_none d c.args.sources.now room.0 room.1 none)

-- ---- on any disk

pub returns-clause-led : goal.returns-clause-led
returns-clause-led g c = λ is. subst (λ (s : Seen). CopyLed s (g.M.Medium.seen c.make.new.medium) c.args.kind c.args.name.now) (ap (λ m. g.M.Medium.seen m) c.self.view_is) c.in_ok-make.ensures.led
