use Rattle.std.proofs.Common.{◌≡◌, ℕ, List, ap, ◌∙◌}
use Rattle.cbm_medium.specs.Content.{Content}
use Rattle.cbm_file.specs.declared.file_type.FileType.TheVariants.{Rel}
use Rattle.cbm_directory.specs.Entries.{EntersLed, closed_entry}
use Rattle.cbm_directory.specs.EntryChanges.{fresh_entry}
use Rattle.cbm_volume.proofs.layouts.Calls.{ok_so}
use Rattle.std.proofs.Common.{subst}
use Rattle.cbm_medium.specs.Place.{Place}
use Rattle.cbm_medium.specs.Seen.{Seen}
use Rattle.cbm_directory.specs.Entries.{IsClosedAs}
use Rattle.cbm_directory.specs.EntryChanges.{IsRelativeAs}
use Rattle.cbm_volume.proofs.records_made.RecordsEnds.{new_entry_made}
use Rattle.cbm_volume.proofs.records.making.enter.Goals as goal

pub returns-clause-entered : goal.returns-clause-entered
returns-clause-entered g c =
    let old : Seen = g.M.Medium.seen c.args.medium.now in
    let new : Seen = g.M.Medium.seen c.put_slot.new.medium in
    let closes : IsClosedAs c.fresh-fresh.result c.closed-closed.result c.args.block 2 = subst (λ (p : Place). IsClosedAs c.fresh-fresh.result c.closed-closed.result p 2) c.from-first.ensures c.closed-closed.ensures.says in
    let says : IsRelativeAs c.closed-closed.result c.relative-entry.result c.args.side c.args.record_length = subst (λ (p : Place). IsRelativeAs c.closed-closed.result c.relative-entry.result p c.args.record_length) c.from.ensures c.relative-entry.ensures in
    new_entry_made old new c.args.geometry c.args.block c.args.side c.args.record_length c.args.number c.args.name.now c.from-first.result c.fresh-fresh.result c.closed-closed.result c.relative-entry.result c.put_slot.result c.requires.width.0 c.requires.width.1
    c.fresh-fresh.ensures.says closes says c.put_slot.ensures.entered c.put_slot.ensures.err c.put_slot.ensures.cause

-- ---- on any disk

pub returns-clause-led : goal.returns-clause-led
returns-clause-led g c =
    let old : Content = (g.M.Medium.seen c.args.medium.now).content in
    let new : Content = (g.M.Medium.seen c.put_slot.new.medium).content in
    let name : List ℕ = c.args.name.now in
    let block : Place = c.args.block in
    let closed : c.closed-closed.result ≡ closed_entry (fresh_entry Rel name block) block 2 =
    c.closed-closed.ensures.value ∙ ap (λ (e : List ℕ). closed_entry e c.from-first.result 2) c.fresh-fresh.ensures.value ∙ ap (λ (p : Place). closed_entry (fresh_entry Rel name p) p 2) c.from-first.ensures in
    let says : IsRelativeAs (closed_entry (fresh_entry Rel name block) block 2) c.relative-entry.result c.args.side c.args.record_length =
    subst (λ (e : List ℕ). IsRelativeAs e c.relative-entry.result c.args.side c.args.record_length) closed (subst (λ (p : Place). IsRelativeAs c.closed-closed.result c.relative-entry.result p c.args.record_length) c.from.ensures c.relative-entry.ensures) in
    ok_so c.put_slot.result (λ (put : EntersLed c.args.geometry old new c.args.number c.relative-entry.result). (c.relative-entry.result, says, put)) c.put_slot.ensures.exact
