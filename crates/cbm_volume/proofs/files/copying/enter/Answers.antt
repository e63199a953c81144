use Rattle.std.proofs.Common.{◌≡◌, List, ap, ◌∙◌}
use Rattle.cbm_medium.specs.Content.{Content}
use Rattle.cbm_directory.specs.Entries.{EntersLed, closed_entry}
use Rattle.cbm_directory.specs.EntryChanges.{fresh_entry}
use Rattle.cbm_volume.proofs.layouts.Calls.{ok_so}
use Rattle.std.proofs.Common.{ℕ, subst}
use Rattle.cbm_medium.specs.Place.{Place}
use Rattle.cbm_medium.specs.Seen.{Seen}
use Rattle.cbm_chain.specs.Writing.{State, place_or_none}
use Rattle.cbm_directory.specs.Entries.{IsClosedAs}
use Rattle.cbm_volume.specs.Copies.{IsCopyCut}
use Rattle.cbm_volume.specs.Writers.{Idle}
use Rattle.cbm_volume.proofs.copied.CopySteps.{handed}
use Rattle.cbm_volume.proofs.copied.CopyEnds.{last_cut, entry_made}
use Rattle.cbm_volume.proofs.files.copying.enter.Goals as goal

pub returns-in_err-finish-clause-entered : goal.returns-in_err-finish-clause-entered
returns-in_err-finish-clause-entered g c = λ c' l d uses ch bytes k idle empty ne plain.
    let old : Seen = g.M.Medium.seen c.args.medium.now in
    let new : Seen = g.M.Medium.seen c.finish.new.medium in
    handed c.from_residual.result c.in_err-finish.field-0.0 _ (IsCopyCut old new c' l d uses) c.from_residual.ensures.1
    (last_cut old new c.args.chain.now c.in_err-finish.field-0.0 c' l d uses ch bytes Idle c.in_err-finish.ensures.err c.in_err-finish.ensures.cause k)

pub returns-clause-entered : goal.returns-clause-entered
returns-clause-entered g c =
    let old : Seen = g.M.Medium.seen c.args.medium.now in
    let mid : Seen = g.M.Medium.seen c.finish.new.medium in
    let new : Seen = g.M.Medium.seen c.put_slot.new.medium in
    let s : State = c.args.chain.now in
    let closes : IsClosedAs c.fresh-entry.result c.closed-closed.result (place_or_none s.first) s.count =
    subst (λ (p : Place). IsClosedAs c.fresh-entry.result c.closed-closed.result p s.count) c.first_block-2.ensures (subst (λ (n : ℕ). IsClosedAs c.fresh-entry.result c.closed-closed.result c.first_block-2.result n) c.count.ensures c.closed-closed.ensures.says) in
    entry_made old mid new c.geometry-geometry.result s c.args.kind c.args.name.now c.args.number c.first_block.result c.fresh-entry.result c.closed-closed.result c.put_slot.result c.in_ok-finish.ensures.ok c.in_ok-finish.ensures.only.tracks c.in_ok-finish.ensures.only.protected c.in_ok-finish.ensures.only.counted
    c.geometry-geometry.ensures c.fresh-entry.ensures.says closes c.put_slot.ensures.entered c.put_slot.ensures.err c.put_slot.ensures.cause

-- ---- on any disk

pub returns-clause-led : goal.returns-clause-led
returns-clause-led g c =
    let ended : Content = (g.M.Medium.seen c.finish.new.medium).content in
    let new : Content = (g.M.Medium.seen c.put_slot.new.medium).content in
    let s : State = c.args.chain.now in
    let name : List ℕ = c.args.name.now in
    let first : Place = place_or_none s.first in
    let closed : c.closed-closed.result ≡ closed_entry (fresh_entry c.args.kind name first) first s.count =
    c.closed-closed.ensures.value
    ∙ ap (λ (e : List ℕ). closed_entry e c.first_block-2.result c.count.result) (c.fresh-entry.ensures.value ∙ ap (fresh_entry c.args.kind name) c.first_block.ensures)
    ∙ ap (λ (p : Place). closed_entry (fresh_entry c.args.kind name first) p c.count.result) c.first_block-2.ensures
    ∙ ap (closed_entry (fresh_entry c.args.kind name first) first) c.count.ensures in
    ok_so c.put_slot.result
    (λ (put : EntersLed c.geometry-geometry.result ended new c.args.number c.closed-closed.result).
    (ended, c.in_ok-finish.ensures.ok, subst (λ (e : List ℕ). EntersLed s.tracks ended new c.args.number e) closed (subst (λ (k : ℕ). EntersLed k ended new c.args.number c.closed-closed.result) c.geometry-geometry.ensures put)))
    c.put_slot.ensures.exact
