use Rattle.cbm_medium.specs.Content.{Content}
use Rattle.cbm_chain.specs.Writing.{State}
use Rattle.cbm_volume.specs.Copying.{EntersCopyLed}
use Rattle.cbm_volume.proofs.layouts.Calls.{ok_so}
use Rattle.std.proofs.Common.{ℕ, [], length, sym, subst, ◌∙◌}
use Rattle.cbm_medium.specs.Seen.{Seen, OnlyContent}
use Rattle.cbm_file.specs.Changes.{joined, with_copy}
use Rattle.cbm_file.specs.Padding.{before_filler}
use Rattle.cbm_volume.specs.Copies.{IsCopyCut, Making}
use Rattle.cbm_volume.specs.Writers.{Idle}
use Rattle.cbm_volume.specs.SeenDisks.{seen_tracks}
use Rattle.cbm_volume.proofs.copied.Puts.{begun_for}
use Rattle.cbm_volume.proofs.copied.CopySteps.{handed, cut_since}
use Rattle.cbm_volume.proofs.copied.CopyEnds.{since_begun, one_block}
use Rattle.cbm_medium.proofs.Sequences.{only_after}
use Rattle.cbm_volume.proofs.OneAfterAnother.{second_refused}
use Rattle.cbm_volume.proofs.files.copying.make.Goals as goal

pub returns-in_err-number-clause-made : goal.returns-in_err-number-clause-made
returns-in_err-number-clause-made g c = λ d uses ch h idle ne plain are some room.
    let old : Seen = g.M.Medium.seen c.args.medium.now in
    let new : Seen = g.M.Medium.seen c.begin.new.medium in
    handed c.from_residual.result c.in_err-number.field-0.0 _ (IsCopyCut old new old.content h.layout d uses) c.from_residual.ensures.1
    (c.in_err-number.ensures.begun d uses ch h idle some (one_block (length (joined d c.args.sources.now)) d.free room))

pub returns-in_err-put_files-clause-made : goal.returns-in_err-put_files-clause-made
returns-in_err-put_files-clause-made g c = λ d uses ch h idle ne plain are some room.
    let old : Seen = g.M.Medium.seen c.args.medium.now in
    let mid : Seen = g.M.Medium.seen c.begin.new.medium in
    let new : Seen = g.M.Medium.seen c.put_files.new.medium in
    let begun = c.in_ok-number.ensures.begun d uses ch h idle some (one_block (length (joined d c.args.sources.now)) d.free room) in
    let only = c.in_ok-number.ensures.only in
    handed c.from_residual-in_err-put_files.result c.in_err-put_files.field-0.0 _ (IsCopyCut old new old.content h.layout d uses) c.from_residual-in_err-put_files.ensures.1
    (cut_since old mid new old.content h.layout d uses c.in_err-put_files.field-0.0 only.tracks only.protected only.counted
    (c.in_err-put_files.ensures.put old.content h.layout d uses ch [] (subst (λ (n : ℕ). Making n old.content h.layout d uses ch mid.content c.in_ok-number.chain [] Idle) (sym only.tracks) begun.1) are room))

pub returns-clause-made : goal.returns-clause-made
returns-clause-made g c = λ d uses ch h idle ne plain are some room.
    let old : Seen = g.M.Medium.seen c.args.medium.now in
    let mid : Seen = g.M.Medium.seen c.begin.new.medium in
    let two : Seen = g.M.Medium.seen c.put_files.new.medium in
    let new : Seen = g.M.Medium.seen c.enter.new.medium in
    let bytes = joined d c.args.sources.now in
    let begun = c.in_ok-number.ensures.begun d uses ch h idle some (one_block (length bytes) d.free room) in
    let only = c.in_ok-number.ensures.only in
    let on = c.in_ok-put_files.ensures.only in
    let put = c.in_ok-put_files.ensures.put old.content h.layout d uses ch [] (subst (λ (n : ℕ). Making n old.content h.layout d uses ch mid.content c.in_ok-number.chain [] Idle) (sym only.tracks) begun.1) are room in
    let after = with_copy d c.args.kind (before_filler c.args.name.now) c.args.sources.now in
    since_begun old mid new old.content h.layout d after uses c.enter.result only.tracks only.protected only.counted
    (since_begun mid two new old.content h.layout d after uses c.enter.result on.tracks on.protected on.counted
    (c.enter.ensures.entered old.content h.layout d uses ch bytes (subst (λ (n : ℕ). Making n old.content h.layout d uses ch two.content c.put_files.new.chain bytes Idle) (sym on.tracks) put) idle begun.0 ne plain))

pub returns-in_err-put_files-clause-only : goal.returns-in_err-put_files-clause-only
returns-in_err-put_files-clause-only g c =
    second_refused c.from_residual-in_err-put_files.result c.in_ok-number.was c.in_err-put_files.was c.from_residual-in_err-put_files.ensures.1 c.begin.ensures.only
    (subst (λ (k : ℕ). OnlyContent k c.put_files.result (g.M.Medium.seen c.begin.new.medium) (g.M.Medium.seen c.put_files.new.medium)) c.in_ok-number.ensures.tracks.0 c.put_files.ensures.only)

pub returns-clause-only : goal.returns-clause-only
returns-clause-only g c =
    let old : Seen = g.M.Medium.seen c.args.medium.now in
    let mid : Seen = g.M.Medium.seen c.begin.new.medium in
    let two : Seen = g.M.Medium.seen c.put_files.new.medium in
    let new : Seen = g.M.Medium.seen c.enter.new.medium in
    only_after c.put_files.result c.in_ok-put_files.field-0 c.enter.result old two new c.in_ok-put_files.was
    (only_after c.begin.result _ c.put_files.result old mid two c.in_ok-number.was c.begin.ensures.only (subst (λ (k : ℕ). OnlyContent k c.put_files.result mid two) c.in_ok-number.ensures.tracks.0 c.put_files.ensures.only))
    (subst (λ (k : ℕ). OnlyContent k c.enter.result two new) (c.in_ok-put_files.ensures.tracks ∙ c.in_ok-number.ensures.tracks.0) c.enter.ensures.only)

-- ---- on any disk

pub returns-clause-led : goal.returns-clause-led
returns-clause-led g c =
    let begun : Content = (g.M.Medium.seen c.begin.new.medium).content in
    let filled : Content = (g.M.Medium.seen c.put_files.new.medium).content in
    let new : Content = (g.M.Medium.seen c.enter.new.medium).content in
    let s : State = c.in_ok-number.chain in
    let t : State = c.put_files.new.chain in
    let led = c.in_ok-number.ensures.led in
    let put = c.in_ok-put_files.ensures.led (begun_for (seen_tracks (g.M.Medium.seen c.args.medium.now)) led.0 begun led.2 s led.3 led.4) in
    ok_so c.enter.result
    (λ (entered : EntersCopyLed filled new t c.args.kind c.args.name.now c.in_ok-number.number).
    (c.in_ok-number.number, begun, s, led, put.0, filled, t, put.1, entered))
    c.enter.ensures.led
