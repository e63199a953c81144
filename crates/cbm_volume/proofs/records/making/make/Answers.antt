use Rattle.cbm_medium.specs.Content.{Content}
use Rattle.cbm_volume.specs.NewRecords.{ClaimsLed, EntersRecordsLed}
use Rattle.std.proofs.Common.{ℕ, sym, ap, subst, ◌∙◌, Ok, Err}
use Rattle.cbm_medium.specs.Place.{Place}
use Rattle.cbm_medium.specs.Seen.{Seen}
use Rattle.cbm_volume.proofs.OneAfterAnother.{after_done, both_done, second_refused}
use Rattle.cbm_bam.specs.Map.{geometry_of}
use Rattle.cbm_file.specs.Records.{with_new_records}
use Rattle.cbm_file.specs.Padding.{before_filler}
use Rattle.cbm_volume.specs.Copies.{IsCopyCut}
use Rattle.cbm_volume.specs.NewRecords.{HasTwo}
use Rattle.cbm_volume.proofs.layouts.OnDisks.{of_tracks}
use Rattle.cbm_volume.proofs.copied.CopySteps.{handed, cut_since}
use Rattle.cbm_volume.proofs.copied.CopyEnds.{since_begun}
use Rattle.cbm_volume.proofs.records_made.RecordsPlaced.{two_written, new_cut}
use Rattle.cbm_volume.proofs.records.making.make.Goals as goal

pub returns-in_err-number-clause-made : goal.returns-in_err-number-clause-made
returns-in_err-number-clause-made g c = λ d uses ch h idle some room.
    let old : Seen = g.M.Medium.seen c.args.medium.now in
    let new : Seen = g.M.Medium.seen c.begin.new.medium in
    handed c.from_residual.result c.in_err-number.field-0.0 _ (IsCopyCut old new old.content h.layout d uses) c.from_residual.ensures.1 (c.in_err-number.ensures.begun d uses ch h idle some room c.geometry-geometry.ensures.value)

pub returns-in_err-write_new-clause-made : goal.returns-in_err-write_new-clause-made
returns-in_err-write_new-clause-made g c = λ d uses ch h idle some room.
    let old : Seen = g.M.Medium.seen c.args.medium.now in
    let mid : Seen = g.M.Medium.seen c.begin.new.medium in
    let new : Seen = g.M.Medium.seen c.write_new.new.medium in
    let p : Place = c.in_ok-number.block in
    let q : Place = c.in_ok-number.side in
    let only = c.in_ok-number.ensures.only in
    let two = subst (λ (n : ℕ). HasTwo n old.content h.layout d uses ch mid.content p q) (sym only.tracks) (c.in_ok-number.ensures.begun d uses ch h idle some room c.geometry-geometry.ensures.value).1 in
    handed c.from_residual-in_err-write_new.result c.in_err-write_new.field-0.0 _ (IsCopyCut old new old.content h.layout d uses) c.from_residual-in_err-write_new.ensures.1
    (cut_since old mid new old.content h.layout d uses c.in_err-write_new.field-0.0 only.tracks only.protected only.counted (new_cut mid new old.content h.layout d uses ch p q c.in_err-write_new.field-0.0 two c.in_err-write_new.ensures.stopped))

pub returns-in_err-enter-clause-made : goal.returns-in_err-enter-clause-made
returns-in_err-enter-clause-made g c = λ d uses ch h idle some room.
    let old : Seen = g.M.Medium.seen c.args.medium.now in
    let mid : Seen = g.M.Medium.seen c.begin.new.medium in
    let two : Seen = g.M.Medium.seen c.write_new.new.medium in
    let new : Seen = g.M.Medium.seen c.enter.new.medium in
    let p : Place = c.in_ok-number.block in
    let q : Place = c.in_ok-number.side in
    let w : ℕ = c.args.record_length in
    let begun = c.in_ok-number.ensures.begun d uses ch h idle some room c.geometry-geometry.ensures.value in
    let only = c.in_ok-number.ensures.only in
    let on = c.in_ok-write_new.ensures.only in
    let claimed = subst (λ (n : ℕ). HasTwo n old.content h.layout d uses ch mid.content p q) (sym only.tracks) begun.1 in
    let placed = two_written mid.tracks old.content h.layout mid.content two.content d uses ch p q w claimed c.in_ok-write_new.ensures.written in
    let after = with_new_records d (before_filler c.args.name.now) w in
    handed c.from_residual-in_err-enter.result c.in_err-enter.field-0.0 _ (IsCopyCut old new old.content h.layout d uses) c.from_residual-in_err-enter.ensures.1
    (since_begun {A = Unit {0}} old mid new old.content h.layout d after uses (Err c.in_err-enter.field-0.0) only.tracks only.protected only.counted
    (since_begun {A = Unit {0}} mid two new old.content h.layout d after uses (Err c.in_err-enter.field-0.0) on.tracks on.protected on.counted
    (c.in_err-enter.ensures.entered old.content h.layout d uses ch (subst (λ (n : ℕ). HasTwo n old.content h.layout d uses ch two.content p q) (sym on.tracks) placed.0) placed.1 begun.0 (c.geometry-geometry.ensures.value ∙ ap (λ (n : ℕ). geometry_of n old.content) (sym (on.tracks ∙ only.tracks))))))

pub returns-clause-made : goal.returns-clause-made
returns-clause-made g c = λ d uses ch h idle some room.
    let old : Seen = g.M.Medium.seen c.args.medium.now in
    let mid : Seen = g.M.Medium.seen c.begin.new.medium in
    let two : Seen = g.M.Medium.seen c.write_new.new.medium in
    let new : Seen = g.M.Medium.seen c.enter.new.medium in
    let p : Place = c.in_ok-number.block in
    let q : Place = c.in_ok-number.side in
    let w : ℕ = c.args.record_length in
    let begun = c.in_ok-number.ensures.begun d uses ch h idle some room c.geometry-geometry.ensures.value in
    let only = c.in_ok-number.ensures.only in
    let on = c.in_ok-write_new.ensures.only in
    let claimed = subst (λ (n : ℕ). HasTwo n old.content h.layout d uses ch mid.content p q) (sym only.tracks) begun.1 in
    let placed = two_written mid.tracks old.content h.layout mid.content two.content d uses ch p q w claimed c.in_ok-write_new.ensures.written in
    let after = with_new_records d (before_filler c.args.name.now) w in (
      begun.0,
      since_begun {A = Unit {0}} old mid new old.content h.layout d after uses (Ok c.in_ok-enter.field-0) only.tracks only.protected only.counted
          (since_begun {A = Unit {0}} mid two new old.content h.layout d after uses (Ok c.in_ok-enter.field-0) on.tracks on.protected on.counted
          (c.in_ok-enter.ensures.entered old.content h.layout d uses ch (subst (λ (n : ℕ). HasTwo n old.content h.layout d uses ch two.content p q) (sym on.tracks) placed.0) placed.1 begun.0 (c.geometry-geometry.ensures.value ∙ ap (λ (n : ℕ). geometry_of n old.content) (sym (on.tracks ∙ only.tracks))))),
    )

-- only what the disk's sectors hold is new
pub returns-in_err-write_new-clause-only : goal.returns-in_err-write_new-clause-only
returns-in_err-write_new-clause-only g c =
    of_tracks c.geometry-geometry.result c.from_residual-in_err-write_new.result (g.M.Medium.seen c.args.medium.now) (g.M.Medium.seen c.write_new.new.medium) c.geometry-geometry.ensures.value
    (second_refused c.from_residual-in_err-write_new.result c.in_ok-number.was c.in_err-write_new.was c.from_residual-in_err-write_new.ensures.1 c.begin.ensures.only c.write_new.ensures.only)

pub returns-in_err-enter-clause-only : goal.returns-in_err-enter-clause-only
returns-in_err-enter-clause-only g c =
    of_tracks c.geometry-geometry.result c.from_residual-in_err-enter.result (g.M.Medium.seen c.args.medium.now) (g.M.Medium.seen c.enter.new.medium) c.geometry-geometry.ensures.value
    (second_refused c.from_residual-in_err-enter.result c.in_ok-write_new.was c.in_err-enter.was c.from_residual-in_err-enter.ensures.1 (after_done c.in_ok-number.was c.begin.ensures.only c.write_new.ensures.only) c.enter.ensures.only)

pub returns-clause-only : goal.returns-clause-only
returns-clause-only g c =
    of_tracks c.geometry-geometry.result _ (g.M.Medium.seen c.args.medium.now) (g.M.Medium.seen c.enter.new.medium) c.geometry-geometry.ensures.value
    (both_done _ c.in_ok-write_new.was c.in_ok-enter.was (after_done c.in_ok-number.was c.begin.ensures.only c.write_new.ensures.only) c.enter.ensures.only)

-- ---- on any disk

pub returns-clause-led : goal.returns-clause-led
returns-clause-led g c =
    let old : Seen = g.M.Medium.seen c.args.medium.now in
    let claimed : Content = (g.M.Medium.seen c.begin.new.medium).content in
    let made : Content = (g.M.Medium.seen c.write_new.new.medium).content in
    let new : Content = (g.M.Medium.seen c.enter.new.medium).content in
    let n : ℕ = c.in_ok-number.number in
    let p : Place = c.in_ok-number.block in
    let q : Place = c.in_ok-number.side in
    let w : ℕ = c.args.record_length in (
      claimed,
      made,
      p,
      q,
      subst (λ (k : ℕ). ClaimsLed k old.content claimed (n, (p, q))) c.geometry-geometry.ensures.value c.in_ok-number.ensures.led,
      c.in_ok-write_new.ensures.written,
      subst (λ (k : ℕ). EntersRecordsLed k made new p q c.args.name.now w n) c.geometry-geometry.ensures.value c.in_ok-enter.ensures.led,
    )
