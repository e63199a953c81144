use Rattle.std.proofs.Common.{rules, ◌≡◌, ◌⊎◌, [], refl, sym, ap, ◌∙◌, subst}
use Rattle.cbm_chain.specs.Reading.{rest_of}
use Rattle.cbm_volume.specs.SeenDisks.{seen_chain}
use Rattle.cbm_volume.specs.Led.{ReopensLed, AppendsTo}
use Rattle.cbm_volume.specs.Beginning.{NewFileLed, ReplacementLed}
use Rattle.cbm_volume.specs.NewRecords.{NewRecordsLed}
use Rattle.cbm_relfile.proofs.NotThere.{some_says}
use Rattle.cbm_channel.proofs.Opened.{plan_done}
use Rattle.std.specs.Prelude.{Some, false, true, Ok, replicate}
use Rattle.std.proofs.lemmas.Result.{err_from_is_err_and}
use Rattle.cbm_medium.specs.Place.{sector_count}
use Rattle.cbm_channel.proofs.Elses.{else_nothing, else_then, only_else}
use Rattle.cbm_medium.specs.Seen.{HasFailed, ShowsGround}
use Rattle.cbm_medium.specs.Met.{IsMetFrom}
use Rattle.cbm_file.specs.Files.{Records, bytes_in, record_length_in, file_at}
use Rattle.cbm_file.specs.Padding.{before_filler}
use Rattle.cbm_file.specs.Records.{fresh_record, record_count, with_new_records}
use Rattle.cbm_volume.specs.Holding.{HoldsDisk}
use Rattle.cbm_file.specs.Changes.{new_slot, with_file, unclosed}
use Rattle.cbm_bam.specs.Map.{geometry_of}
use Rattle.cbm_directory.specs.Entries.{first_block, first_side}
use Rattle.cbm_chain.specs.Reading.{held_from}
use Rattle.cbm_volume.specs.RecordFaults.{IsMislisted}
use Rattle.cbm_volume.specs.Writers.{HoldsNow, with_use, Idle, Stopped}
use Rattle.cbm_machine.specs.Machines.{Writing}
use Rattle.cbm_machine.specs.Finding.{body_at}
use Rattle.cbm_channel.specs.declared.channel.Channel.TheVariants as code
use Rattle.cbm_channel.specs.declared.channel.Channel.TheVariants.{File}
use Rattle.cbm_channel.specs.Grounds.{ShowsTrouble, HidesRecords}
use Rattle.cbm_channel.specs.Standing.{use_of, uses_of}
use Rattle.cbm_channel.specs.Planned.{PlannedAs, IsOpened, opened_by, disk_opened, appended_to, reopened_at, plan_writes}
use Rattle.cbm_medium.proofs.FaultCodes.{followed_never_26}
use Rattle.cbm_channel.proofs.NeverProtected.{shown_never_26, opening_never_26}
use Rattle.cbm_channel.proofs.Troubles.{read_from, relates_from, entry_broken, record_broken, records_broken, broken_at_once, passed_on}
use Rattle.cbm_channel.proofs.Stands.{stood, means_of, unwritten_at}
use Rattle.cbm_channel.proofs.Planning.{readable, relatable, makeable, writable, appendable, replaceable, file_opens, reads_as, none_passes}
use Rattle.cbm_machine.specs.Machines as machine
use Rattle.cbm_channel.proofs.Opens.{relates_opened, makes_opened, made_file, made_there, has_room_of, idle_past, begins_as, nothing_begun, failed_by, not_del, match_some, match_none, has_place, no_block, can_be, on_err}
use Rattle.cbm_volume.proofs.held.RecordUses.{of_records}
use Rattle.cbm_channel.proofs.Rest.{rest_itself, rest_none, rest_same, rest_seen, outside_held, begun_rest, begun_write, begun_replace, on_both, cut_sized, same_sized, made_rest, grown_total}
use Rattle.cbm_channel.proofs.Spared.{append_stays}
use Rattle.cbm_channel.proofs.dos.Dos.opened.Goals as goal
use Rattle.cbm_medium.proofs.Shown.{cut_shown}
use Rattle.cbm_channel.specs.ChannelCalls.{KeepsElse}
use Rattle.cbm_channel.proofs.GroundedReports.{opening_shown, trouble_shown, hidden_shown}

-- a listing
pub returns-in_err-list-in-ReadListing-clause-opens : goal.returns-in_err-list-in-ReadListing-clause-opens
returns-in_err-list-in-ReadListing-clause-opens g c = record {
  opened = (search rules);
  stopped = λ m p h s. absurd (c.in_err-list-in-ReadListing.ensures.whole m.disk (means_of _ _ _ _ _ _ m (stood g.M.Medium.seen _ _ m c.self.view_is s)));
  rest = λ m p h s. rest_itself _ _ refl;
}

-- a file that is read
pub returns-in_err-reader-in-ReadFile-clause-opens : goal.returns-in_err-reader-in-ReadFile-clause-opens
returns-in_err-reader-in-ReadFile-clause-opens g c = record {
  opened = (search rules);
  stopped = λ m p h s.
      let x = readable _ _ m p c.args.plan c.in-ReadFile.found (subst (λ k. PlannedAs (g.M.Medium.seen k.medium).tracks (g.M.Medium.seen k.medium).content m (Ok p) (Ok c.args.plan)) (sym c.self.view_is) h) c.in-ReadFile.is in
      absurd (c.in_err-reader-in-ReadFile.ensures.means m.disk x.0 (bytes_in (body_at m.disk x.0)) (means_of _ _ _ _ _ _ m (stood g.M.Medium.seen _ _ m c.self.view_is s)) x.2.stands x.2.has);
  rest = λ m p h s. rest_itself _ _ refl;
}

-- the file's chain breaks off at its first block
pub returns-in_err-reader-in-ReadFile-clause-writes : goal.returns-in_err-reader-in-ReadFile-clause-writes
returns-in_err-reader-in-ReadFile-clause-writes g c = record {
  quiet = (search rules);
  shown = λ reads from.
      let there = read_from g.M.Medium.seen c.args.self.now.medium c.args.plan c.in-ReadFile.found c.in-ReadFile.is from in
      let broken = subst (λ v. held_from (geometry_of (g.M.Medium.seen v).tracks (g.M.Medium.seen v).content) (g.M.Medium.seen v).content (sector_count (geometry_of (g.M.Medium.seen v).tracks (g.M.Medium.seen v).content)) (first_block c.in-ReadFile.found.entry) ≡ record { bytes = []; trouble = Some c.in_err-reader-in-ReadFile.field-0.0 }) (ap (λ k. k.medium) c.self.view_is) c.in_err-reader-in-ReadFile.ensures.err in
      let shows = ShowsTrouble (geometry_of (g.M.Medium.seen c.args.self.now.medium).tracks (g.M.Medium.seen c.args.self.now.medium).content) (g.M.Medium.seen c.args.self.now.medium).content in
      passed_on c.from_residual-in_err-reader-in-ReadFile.result c.in_err-reader-in-ReadFile.field-0.0 shows c.from_residual-in_err-reader-in-ReadFile.ensures.1 (entry_broken _ _ c.in-ReadFile.found.entry _ there broken);
  kept = (search rules);
  guarded = (search rules);
}

-- a link of the file's side sectors, or these aren't right
pub returns-in_err-open_records-in-OpenRecords-clause-writes : goal.returns-in_err-open_records-in-OpenRecords-clause-writes
returns-in_err-open_records-in-OpenRecords-clause-writes g c = record {
  quiet = (search rules);
  shown = λ reads from.
      let entry = c.in-OpenRecords.found.entry in
      let t = c.in_err-open_records-in-OpenRecords.field-0.0 in
      let there = relates_from g.M.Medium.seen c.args.self.now.medium c.args.plan c.in-OpenRecords.found c.in-OpenRecords.is from in
      let broken = subst (λ v. IsMetFrom (geometry_of (g.M.Medium.seen v).tracks (g.M.Medium.seen v).content) (g.M.Medium.seen v).content (λ q. q ≡ first_side entry) t ⊎ IsMislisted (geometry_of (g.M.Medium.seen v).tracks (g.M.Medium.seen v).content) (g.M.Medium.seen v).content entry t) (ap (λ k. k.medium) c.self.view_is) c.in_err-open_records-in-OpenRecords.ensures.cause in
      let shows = ShowsTrouble (geometry_of (g.M.Medium.seen c.args.self.now.medium).tracks (g.M.Medium.seen c.args.self.now.medium).content) (g.M.Medium.seen c.args.self.now.medium).content in
      passed_on c.from_residual-in_err-open_records-in-OpenRecords.result t shows c.from_residual-in_err-open_records-in-OpenRecords.ensures.1 (records_broken _ _ entry t there broken);
  kept = (search rules);
  guarded = (search rules);
}

-- the first record can't be read
pub returns-in_err-on-in-OpenRecords-clause-writes : goal.returns-in_err-on-in-OpenRecords-clause-writes
returns-in_err-on-in-OpenRecords-clause-writes g c = record {
  quiet = (search rules);
  shown = λ reads from.
      let t = c.in_err-on-in-OpenRecords.field-0.0 in
      let broken = subst (λ v. HidesRecords (g.M.Medium.seen v) t) (ap (λ k. k.medium) c.self.view_is) (_, c.in_err-on-in-OpenRecords.ensures.cause) in
      let shows = ShowsTrouble (geometry_of (g.M.Medium.seen c.args.self.now.medium).tracks (g.M.Medium.seen c.args.self.now.medium).content) (g.M.Medium.seen c.args.self.now.medium).content in
      passed_on c.from_residual-in_err-on-in-OpenRecords.result t shows c.from_residual-in_err-on-in-OpenRecords.ensures.1 (record_broken (g.M.Medium.seen c.args.self.now.medium) t broken);
  kept = (search rules);
  guarded = (search rules);
}

pub returns-in_ok-reader-in-ReadFile-clause-opens : goal.returns-in_ok-reader-in-ReadFile-clause-opens
returns-in_ok-reader-in-ReadFile-clause-opens g c = record {
  opened = λ m p ch h s idle.
      let x = readable _ _ m p c.args.plan c.in-ReadFile.found (subst (λ k. PlannedAs (g.M.Medium.seen k.medium).tracks (g.M.Medium.seen k.medium).content m (Ok p) (Ok c.args.plan)) (sym c.self.view_is) h) c.in-ReadFile.is in
      let st = stood g.M.Medium.seen _ _ m c.self.view_is s in
      let disk = ap (disk_opened m.disk) x.1 in (
        (bytes_in (body_at m.disk x.0), file_opens m.disk p x.0 c.in-ReadFile.found.slot x.1 x.2.number),
        tt,
        subst (λ d. HoldsNow (g.M.Medium.seen c.args.self.now.medium).tracks (g.M.Medium.seen c.args.self.now.medium).content d (with_use (uses_of c.args.self.now.channels m.channels) ch (use_of (File c.in-ReadFile.found.slot c.in_ok-reader-in-ReadFile.reader) (opened_by m.disk p)))) (sym disk)
            (subst (λ k. HoldsNow (g.M.Medium.seen k.medium).tracks (g.M.Medium.seen k.medium).content m.disk (with_use (uses_of k.channels m.channels) ch (use_of (File c.in-ReadFile.found.slot c.in_ok-reader-in-ReadFile.reader) (opened_by m.disk p)))) c.self.view_is
            (reads_as (g.M.Medium.seen c.self.inside.volume).tracks (g.M.Medium.seen c.self.inside.volume).content m.disk p x.0 c.in-ReadFile.found.slot c.in_ok-reader-in-ReadFile.reader (uses_of c.self.inside.channels.items m.channels) ch x.1 x.2.number
            (c.in_ok-reader-in-ReadFile.ensures.reads m.disk (uses_of c.self.inside.channels.items m.channels) ch x.0 (bytes_in (body_at m.disk x.0)) st.holds x.2.stands x.2.has
            (λ k. unwritten_at x.0 c.self.inside.channels.items m.channels k st.each (λ j. none_passes (machine.writes x.0) refl m.channels j x.2.unwritten))))),
      );
  stopped = (search rules);
  rest = λ m p h s. rest_itself _ _ refl;
}

-- a new file
pub returns-in_default-clause-opens : goal.returns-in_default-clause-opens
returns-in_default-clause-opens g c = record {
  opened = λ m p ch h s idle.
      let st = stood g.M.Medium.seen _ _ m c.self.view_is s in
      let x = writable _ _ m p c.args.plan c.in-WriteFile.kind c.in-WriteFile.name h c.in-WriteFile.is in
      let none = match_none _ _ _ c.in_default.not-Some ((c.in_ok-writer-in-WriteFile.ensures.call m.disk (uses_of c.self.inside.channels.items m.channels) st.holds).done ch
      (subst (λ k. uses_of k.channels m.channels ch ≡ Idle) (sym c.self.view_is) idle) (not_del _ x.1.kept) x.1.plain) in
      absurd (has_place m.disk x.1.block x.1.place none.0);
  stopped = (search rules);
  rest = λ m p h s.
      let st = stood g.M.Medium.seen _ _ m c.self.view_is s in
      let uses = uses_of c.self.inside.channels.items m.channels in
      let idle : uses 15 ≡ Idle = idle_past c.self.inside.channels.items m.channels c.self.invariant.count in
      let x = writable _ _ m p c.args.plan c.in-WriteFile.kind c.in-WriteFile.name h c.in-WriteFile.is in
      let call = c.begin_write.ensures.call m.disk uses st.holds in
      rest_seen g.M.Medium.seen c.args.self.now.medium c.begin_write.new.self c.self.inside.volume c.begin_write.new.self (ap (λ k. k.medium) c.self.view_is) refl
      (rest_none _ _ (begun_rest c.begin_write.result (g.M.Medium.seen c.self.inside.volume) (g.M.Medium.seen c.begin_write.new.self) m.disk _ uses 15 _ _ _ _ _ c.begin_write.ensures.only refl st.holds (begun_write c.begin_write.result uses c.in-WriteFile.kind _ 15 idle (not_del _ x.1.kept) x.1.plain call.done)
      (cut_sized c.begin_write.result _ _ m.disk _ uses (on_both c.begin_write.result _ _ _ (not_del _ x.1.kept) x.1.plain call.stopped)) (grown_total m.disk) call.untouched));
}

pub returns-in-Some-clause-opens : goal.returns-in-Some-clause-opens
returns-in-Some-clause-opens g c = record {
  opened = λ m p ch h s idle.
      let st = stood g.M.Medium.seen _ _ m c.self.view_is s in
      let x = writable _ _ m p c.args.plan c.in-WriteFile.kind c.in-WriteFile.name h c.in-WriteFile.is in
      let begun = match_some _ _ _ _ c.in-Some.is ((c.in_ok-writer-in-WriteFile.ensures.call m.disk (uses_of c.self.inside.channels.items m.channels) st.holds).done ch
      (subst (λ k. uses_of k.channels m.channels ch ≡ Idle) (sym c.self.view_is) idle) (not_del _ x.1.kept) x.1.plain) in
      let disk = ap (disk_opened m.disk) x.0 ∙ ap (λ n. with_file m.disk (unclosed c.in-WriteFile.kind n) 1) (sym x.1.cut ∙ ap before_filler (sym c.bytes.ensures.value)) in
      subst (λ k. IsOpened (g.M.Medium.seen k.medium).tracks (g.M.Medium.seen c.begin_write.new.self).content m ch p (uses_of k.channels m.channels) (Some (code.Writing c.in-Some.writer false))) c.self.view_is
      (begins_as _ _ m p _ (uses_of c.self.inside.channels.items m.channels) ch (new_slot m.disk) false [] 1 c.in-Some.writer (ap (opened_by m.disk) x.0) disk begun);
  stopped = (search rules);
  rest = λ m p h s.
      let st = stood g.M.Medium.seen _ _ m c.self.view_is s in
      let uses = uses_of c.self.inside.channels.items m.channels in
      let idle : uses 15 ≡ Idle = idle_past c.self.inside.channels.items m.channels c.self.invariant.count in
      let x = writable _ _ m p c.args.plan c.in-WriteFile.kind c.in-WriteFile.name h c.in-WriteFile.is in
      let call = c.begin_write.ensures.call m.disk uses st.holds in
      rest_seen g.M.Medium.seen c.args.self.now.medium c.begin_write.new.self c.self.inside.volume c.begin_write.new.self (ap (λ k. k.medium) c.self.view_is) refl
      (rest_none _ _ (begun_rest c.begin_write.result (g.M.Medium.seen c.self.inside.volume) (g.M.Medium.seen c.begin_write.new.self) m.disk _ uses 15 _ _ _ _ _ c.begin_write.ensures.only refl st.holds (begun_write c.begin_write.result uses c.in-WriteFile.kind _ 15 idle (not_del _ x.1.kept) x.1.plain call.done)
      (cut_sized c.begin_write.result _ _ m.disk _ uses (on_both c.begin_write.result _ _ _ (not_del _ x.1.kept) x.1.plain call.stopped)) (grown_total m.disk) call.untouched));
}

-- a file that is appended to
pub returns-in_err-writer-in-AppendFile-clause-opens : goal.returns-in_err-writer-in-AppendFile-clause-opens
returns-in_err-writer-in-AppendFile-clause-opens g c = record {
  opened = (search rules);
  stopped = λ m p h s.
      let st = stood g.M.Medium.seen _ _ m c.self.view_is s in
      let x = appendable _ _ m p c.args.plan c.in-AppendFile.found (subst (λ k. PlannedAs (g.M.Medium.seen k.medium).tracks (g.M.Medium.seen k.medium).content m (Ok p) (Ok c.args.plan)) (sym c.self.view_is) h) c.in-AppendFile.is in
      let can = can_be c.in-AppendFile.found.slot c.self.inside.channels.items m x.1.file st.each x.1.in_slot x.1.closed x.1.plain x.1.unused in
      let failed = failed_by (g.M.Medium.seen c.self.inside.volume) (g.M.Medium.seen c.begin_append.new.self) c.in_err-writer-in-AppendFile.field-0.0 m.protected st.same_protection x.1.unprotected
      (c.in_err-writer-in-AppendFile.ensures.begun m.disk (uses_of c.self.inside.channels.items m.channels) st.holds x.1.file can x.1.stands) in
      on_err _ _ (subst (λ k. Stopped (g.M.Medium.seen k.medium).tracks (g.M.Medium.seen c.begin_append.new.self).content m.disk (disk_opened m.disk p) (uses_of k.channels m.channels) × HasFailed (g.M.Medium.seen k.medium) (g.M.Medium.seen c.begin_append.new.self)) c.self.view_is
      (nothing_begun _ _ _ _ _ _ c.in_err-writer-in-AppendFile.ensures.err st.holds, failed));
  rest = λ m p h s.
      let st = stood g.M.Medium.seen _ _ m c.self.view_is s in
      let uses = uses_of c.self.inside.channels.items m.channels in
      let idle : uses 15 ≡ Idle = idle_past c.self.inside.channels.items m.channels c.self.invariant.count in
      let x = appendable _ _ m p c.args.plan c.in-AppendFile.found (subst (λ k. PlannedAs (g.M.Medium.seen k.medium).tracks (g.M.Medium.seen k.medium).content m (Ok p) (Ok c.args.plan)) (sym c.self.view_is) h) c.in-AppendFile.is in
      let can = can_be c.in-AppendFile.found.slot c.self.inside.channels.items m x.1.file st.each x.1.in_slot x.1.closed x.1.plain x.1.unused in
      rest_seen g.M.Medium.seen c.args.self.now.medium c.begin_append.new.self c.self.inside.volume c.begin_append.new.self (ap (λ k. k.medium) c.self.view_is) refl (rest_same _ _ c.begin_append.ensures.only.tracks c.in_err-writer-in-AppendFile.ensures.err c.begin_append.ensures.only.outside);
}

pub returns-in_ok-writer-in-AppendFile-clause-opens : goal.returns-in_ok-writer-in-AppendFile-clause-opens
returns-in_ok-writer-in-AppendFile-clause-opens g c = record {
  opened = λ m p ch h s idle.
      let st = stood g.M.Medium.seen _ _ m c.self.view_is s in
      let x = appendable _ _ m p c.args.plan c.in-AppendFile.found (subst (λ k. PlannedAs (g.M.Medium.seen k.medium).tracks (g.M.Medium.seen k.medium).content m (Ok p) (Ok c.args.plan)) (sym c.self.view_is) h) c.in-AppendFile.is in
      let can = can_be c.in-AppendFile.found.slot c.self.inside.channels.items m x.1.file st.each x.1.in_slot x.1.closed x.1.plain x.1.unused in
      let begun = c.in_ok-writer-in-AppendFile.ensures.begun m.disk (uses_of c.self.inside.channels.items m.channels) st.holds x.1.file can x.1.stands ch (subst (λ k. uses_of k.channels m.channels ch ≡ Idle) (sym c.self.view_is) idle) x.1.kept in
      subst (λ k. IsOpened (g.M.Medium.seen k.medium).tracks (g.M.Medium.seen c.begin_append.new.self).content m ch p (uses_of k.channels m.channels) (Some (code.Writing c.in_ok-writer-in-AppendFile.writer false))) c.self.view_is
      (begins_as _ _ m p _ (uses_of c.self.inside.channels.items m.channels) ch c.in-AppendFile.found.slot false (bytes_in x.1.file.body) x.1.file.held c.in_ok-writer-in-AppendFile.writer
      (ap (opened_by m.disk) x.0 ∙ ap (λ o. appended_to o c.in-AppendFile.found.slot) x.1.in_slot) (ap (disk_opened m.disk) x.0 ∙ ap (λ o. reopened_at o m.disk c.in-AppendFile.found.slot) x.1.in_slot) begun);
  stopped = (search rules);
  rest = λ m p h s.
      let st = stood g.M.Medium.seen _ _ m c.self.view_is s in
      let uses = uses_of c.self.inside.channels.items m.channels in
      let idle : uses 15 ≡ Idle = idle_past c.self.inside.channels.items m.channels c.self.invariant.count in
      let x = appendable _ _ m p c.args.plan c.in-AppendFile.found (subst (λ k. PlannedAs (g.M.Medium.seen k.medium).tracks (g.M.Medium.seen k.medium).content m (Ok p) (Ok c.args.plan)) (sym c.self.view_is) h) c.in-AppendFile.is in
      let can = can_be c.in-AppendFile.found.slot c.self.inside.channels.items m x.1.file st.each x.1.in_slot x.1.closed x.1.plain x.1.unused in
      let begun = c.in_ok-writer-in-AppendFile.ensures.begun m.disk uses st.holds x.1.file can x.1.stands 15 idle x.1.kept in
      rest_seen g.M.Medium.seen c.args.self.now.medium c.begin_append.new.self c.self.inside.volume c.begin_append.new.self (ap (λ k. k.medium) c.self.view_is) refl
      (record { in_place = append_stays _ _ _ c.in-AppendFile.found.slot c.in_ok-writer-in-AppendFile.writer begun.same_slot begun.same_way (c.begin_append.ensures.untouched m.disk uses st.holds).stays; outside = outside_held c.begin_append.result (g.M.Medium.seen c.self.inside.volume) (g.M.Medium.seen c.begin_append.new.self) m.disk uses c.begin_append.ensures.only refl st.holds (record { disk = _; uses = _; holds = begun.holds; total = refl }) });
}

-- a file that is replaced
pub returns-in_err-writer-in-ReplaceFile-clause-opens : goal.returns-in_err-writer-in-ReplaceFile-clause-opens
returns-in_err-writer-in-ReplaceFile-clause-opens g c = record {
  opened = (search rules);
  stopped = λ m p h s.
      let st = stood g.M.Medium.seen _ _ m c.self.view_is s in
      let x = replaceable _ _ m p c.args.plan c.in-ReplaceFile.slot h c.in-ReplaceFile.is in
      let failed = failed_by (g.M.Medium.seen c.self.inside.volume) (g.M.Medium.seen c.begin_replace.new.self) c.in_err-writer-in-ReplaceFile.field-0.0 m.protected st.same_protection x.1.unprotected
      (c.in_err-writer-in-ReplaceFile.ensures.call m.disk (uses_of c.self.inside.channels.items m.channels) st.holds).cause in
      on_err _ _ (subst (λ k. Stopped (g.M.Medium.seen k.medium).tracks (g.M.Medium.seen c.begin_replace.new.self).content m.disk (disk_opened m.disk p) (uses_of k.channels m.channels) × HasFailed (g.M.Medium.seen k.medium) (g.M.Medium.seen c.begin_replace.new.self)) c.self.view_is
      (nothing_begun _ _ _ _ _ _ c.in_err-writer-in-ReplaceFile.ensures.err st.holds, failed));
  rest = λ m p h s.
      let st = stood g.M.Medium.seen _ _ m c.self.view_is s in
      let uses = uses_of c.self.inside.channels.items m.channels in
      let idle : uses 15 ≡ Idle = idle_past c.self.inside.channels.items m.channels c.self.invariant.count in
      let x = replaceable _ _ m p c.args.plan c.in-ReplaceFile.slot h c.in-ReplaceFile.is in
      let can = can_be c.in-ReplaceFile.slot c.self.inside.channels.items m x.1.file st.each x.1.in_slot x.1.closed x.1.plain x.1.unused in
      let call = c.begin_replace.ensures.call m.disk uses st.holds in
      rest_seen g.M.Medium.seen c.args.self.now.medium c.begin_replace.new.self c.self.inside.volume c.begin_replace.new.self (ap (λ k. k.medium) c.self.view_is) refl
      (rest_none _ _ (begun_rest c.begin_replace.result (g.M.Medium.seen c.self.inside.volume) (g.M.Medium.seen c.begin_replace.new.self) m.disk _ uses 15 _ _ _ _ _ c.begin_replace.ensures.only refl st.holds (begun_replace c.begin_replace.result m.disk uses c.in-ReplaceFile.slot x.1.file _ 15 idle can call.done)
      (same_sized c.begin_replace.result _ _ _ m.disk uses st.holds c.begin_replace.ensures.err) refl call.untouched));
}

pub returns-in_default-2-clause-opens : goal.returns-in_default-2-clause-opens
returns-in_default-2-clause-opens g c = record {
  opened = λ m p ch h s idle.
      let st = stood g.M.Medium.seen _ _ m c.self.view_is s in
      let x = replaceable _ _ m p c.args.plan c.in-ReplaceFile.slot h c.in-ReplaceFile.is in
      let can = can_be c.in-ReplaceFile.slot c.self.inside.channels.items m x.1.file st.each x.1.in_slot x.1.closed x.1.plain x.1.unused in
      let none = match_none _ _ _ c.in_default-2.not-Some ((c.in_ok-writer-in-ReplaceFile.ensures.call m.disk (uses_of c.self.inside.channels.items m.channels) st.holds).done ch x.1.file (subst (λ k. uses_of k.channels m.channels ch ≡ Idle) (sym c.self.view_is) idle) can) in
      absurd (no_block m.disk x.1.block none.0);
  stopped = (search rules);
  rest = λ m p h s.
      let st = stood g.M.Medium.seen _ _ m c.self.view_is s in
      let uses = uses_of c.self.inside.channels.items m.channels in
      let idle : uses 15 ≡ Idle = idle_past c.self.inside.channels.items m.channels c.self.invariant.count in
      let x = replaceable _ _ m p c.args.plan c.in-ReplaceFile.slot h c.in-ReplaceFile.is in
      let can = can_be c.in-ReplaceFile.slot c.self.inside.channels.items m x.1.file st.each x.1.in_slot x.1.closed x.1.plain x.1.unused in
      let call = c.begin_replace.ensures.call m.disk uses st.holds in
      rest_seen g.M.Medium.seen c.args.self.now.medium c.begin_replace.new.self c.self.inside.volume c.begin_replace.new.self (ap (λ k. k.medium) c.self.view_is) refl
      (rest_none _ _ (begun_rest c.begin_replace.result (g.M.Medium.seen c.self.inside.volume) (g.M.Medium.seen c.begin_replace.new.self) m.disk _ uses 15 _ _ _ _ _ c.begin_replace.ensures.only refl st.holds (begun_replace c.begin_replace.result m.disk uses c.in-ReplaceFile.slot x.1.file _ 15 idle can call.done)
      (same_sized c.begin_replace.result _ _ _ m.disk uses st.holds c.begin_replace.ensures.err) refl call.untouched));
}

pub returns-in-Some-2-clause-opens : goal.returns-in-Some-2-clause-opens
returns-in-Some-2-clause-opens g c = record {
  opened = λ m p ch h s idle.
      let st = stood g.M.Medium.seen _ _ m c.self.view_is s in
      let x = replaceable _ _ m p c.args.plan c.in-ReplaceFile.slot h c.in-ReplaceFile.is in
      let can = can_be c.in-ReplaceFile.slot c.self.inside.channels.items m x.1.file st.each x.1.in_slot x.1.closed x.1.plain x.1.unused in
      let begun = match_some _ _ _ _ c.in-Some-2.is ((c.in_ok-writer-in-ReplaceFile.ensures.call m.disk (uses_of c.self.inside.channels.items m.channels) st.holds).done ch x.1.file (subst (λ k. uses_of k.channels m.channels ch ≡ Idle) (sym c.self.view_is) idle) can) in
      subst (λ k. IsOpened (g.M.Medium.seen k.medium).tracks (g.M.Medium.seen c.begin_replace.new.self).content m ch p (uses_of k.channels m.channels) (Some (code.Writing c.in-Some-2.writer false))) c.self.view_is
      (begins_as _ _ m p _ (uses_of c.self.inside.channels.items m.channels) ch c.in-ReplaceFile.slot true [] 1 c.in-Some-2.writer (ap (opened_by m.disk) x.0) (ap (disk_opened m.disk) x.0) begun);
  stopped = (search rules);
  rest = λ m p h s.
      let st = stood g.M.Medium.seen _ _ m c.self.view_is s in
      let uses = uses_of c.self.inside.channels.items m.channels in
      let idle : uses 15 ≡ Idle = idle_past c.self.inside.channels.items m.channels c.self.invariant.count in
      let x = replaceable _ _ m p c.args.plan c.in-ReplaceFile.slot h c.in-ReplaceFile.is in
      let can = can_be c.in-ReplaceFile.slot c.self.inside.channels.items m x.1.file st.each x.1.in_slot x.1.closed x.1.plain x.1.unused in
      let call = c.begin_replace.ensures.call m.disk uses st.holds in
      rest_seen g.M.Medium.seen c.args.self.now.medium c.begin_replace.new.self c.self.inside.volume c.begin_replace.new.self (ap (λ k. k.medium) c.self.view_is) refl
      (rest_none _ _ (begun_rest c.begin_replace.result (g.M.Medium.seen c.self.inside.volume) (g.M.Medium.seen c.begin_replace.new.self) m.disk _ uses 15 _ _ _ _ _ c.begin_replace.ensures.only refl st.holds (begun_replace c.begin_replace.result m.disk uses c.in-ReplaceFile.slot x.1.file _ 15 idle can call.done)
      (same_sized c.begin_replace.result _ _ _ m.disk uses st.holds c.begin_replace.ensures.err) refl call.untouched));
}

-- a relative file
pub returns-in_err-open_records-in-OpenRecords-clause-opens : goal.returns-in_err-open_records-in-OpenRecords-clause-opens
returns-in_err-open_records-in-OpenRecords-clause-opens g c = record {
  opened = (search rules);
  stopped = λ m p h s.
      let x = relatable _ _ m p c.args.plan c.in-OpenRecords.found (subst (λ k. PlannedAs (g.M.Medium.seen k.medium).tracks (g.M.Medium.seen k.medium).content m (Ok p) (Ok c.args.plan)) (sym c.self.view_is) h) c.in-OpenRecords.is in
      let means = means_of _ _ _ _ _ _ m (stood g.M.Medium.seen _ _ m c.self.view_is s) in
      let file = of_records _ _ m.disk x.0 x.2.file means x.2.in_slot x.2.closed x.2.relative in
      absurd (let bad = c.in_err-open_records-in-OpenRecords.ensures.means m.disk x.0 x.2.file file.width file.blocks file.sides file.records means x.2.stands x.2.in_slot file.body in (cc));
  rest = λ m p h s. rest_itself _ _ refl;
}

pub returns-in_err-on-in-OpenRecords-clause-opens : goal.returns-in_err-on-in-OpenRecords-clause-opens
returns-in_err-on-in-OpenRecords-clause-opens g c = record {
  opened = (search rules);
  stopped = λ m p h s.
      let x = relatable _ _ m p c.args.plan c.in-OpenRecords.found (subst (λ k. PlannedAs (g.M.Medium.seen k.medium).tracks (g.M.Medium.seen k.medium).content m (Ok p) (Ok c.args.plan)) (sym c.self.view_is) h) c.in-OpenRecords.is in
      let means = means_of _ _ _ _ _ _ m (stood g.M.Medium.seen _ _ m c.self.view_is s) in
      let file = of_records _ _ m.disk x.0 x.2.file means x.2.in_slot x.2.closed x.2.relative in
      let width = sym (ap record_length_in file.body) ∙ x.2.width ∙ sym c.record_length-length.ensures in
      absurd (c.in_err-on-in-OpenRecords.ensures.means m.disk x.2.file file.blocks file.sides file.records means (ap (file_at m.disk) (sym x.2.number) ∙ x.2.in_slot) x.2.closed
      (file.body ∙ ap (λ w. Records w file.records file.blocks file.sides) width));
  rest = λ m p h s. rest_itself _ _ refl;
}

pub returns-in_ok-on-in-OpenRecords-clause-opens : goal.returns-in_ok-on-in-OpenRecords-clause-opens
returns-in_ok-on-in-OpenRecords-clause-opens g c = record {
  opened = λ m p ch h s idle.
      let x = relatable _ _ m p c.args.plan c.in-OpenRecords.found (subst (λ k. PlannedAs (g.M.Medium.seen k.medium).tracks (g.M.Medium.seen k.medium).content m (Ok p) (Ok c.args.plan)) (sym c.self.view_is) h) c.in-OpenRecords.is in
      let st = stood g.M.Medium.seen _ _ m c.self.view_is s in
      let means = means_of _ _ _ _ _ _ m st in
      let file = of_records _ _ m.disk x.0 x.2.file means x.2.in_slot x.2.closed x.2.relative in
      let width = sym (ap record_length_in file.body) ∙ x.2.width ∙ sym c.record_length-length.ensures in
      let on = c.in_ok-on-in-OpenRecords.ensures.means m.disk x.2.file file.blocks file.sides file.records means (ap (file_at m.disk) (sym x.2.number) ∙ x.2.in_slot) x.2.closed
      (file.body ∙ ap (λ w. Records w file.records file.blocks file.sides) width) in
      let place = c.in_ok-on-in-OpenRecords.ensures.place in
      subst (λ k. IsOpened (g.M.Medium.seen k.medium).tracks (g.M.Medium.seen k.medium).content m ch p (uses_of k.channels m.channels) (Some (code.Records c.in_ok-on-in-OpenRecords.on))) c.self.view_is
      (relates_opened _ _ _ _ _ _ m ch p x.0 c.in-OpenRecords.found c.in_ok-on-in-OpenRecords.on st x.1 x.2 place.0 place.1.1.0 place.1.1.1 on);
  stopped = (search rules);
  rest = λ m p h s. rest_itself _ _ refl;
}

-- ---- nothing has changed

pub returns-in_default-clause-writes : goal.returns-in_default-clause-writes
returns-in_default-clause-writes g c = record {
  quiet = (search rules);
  shown = (search rules);
  kept = match_none _ _ _ c.in_default.not-Some c.in_ok-writer-in-WriteFile.ensures.kept ∙ ap (λ k. (g.M.Medium.seen k.medium).content) c.self.view_is;
  guarded = (search rules);
}

pub returns-in_default-2-clause-writes : goal.returns-in_default-2-clause-writes
returns-in_default-2-clause-writes g c = record {
  quiet = (search rules);
  shown = (search rules);
  kept = match_none _ _ _ c.in_default-2.not-Some c.in_ok-writer-in-ReplaceFile.ensures.kept ∙ ap (λ k. (g.M.Medium.seen k.medium).content) c.self.view_is;
  guarded = (search rules);
}

-- a new file was planned, so the disk isn't protected
pub returns-in_err-writer-in-WriteFile-clause-writes : goal.returns-in_err-writer-in-WriteFile-clause-writes
returns-in_err-writer-in-WriteFile-clause-writes g c = record {
  quiet = (search rules);
  shown = (search rules);
  kept = (search rules);
  guarded = λ free.
      passed_on c.from_residual-in_err-writer-in-WriteFile.result c.in_err-writer-in-WriteFile.field-0.0
      (λ t. t.code ≡ 26 → (g.M.Medium.seen c.begin_write.new.self).content ≡ (g.M.Medium.seen c.args.self.now.medium).content) c.from_residual-in_err-writer-in-WriteFile.ensures.1
      (λ is. let z = sym (c.in_err-writer-in-WriteFile.ensures.only.guarded is) ∙ ap (λ k. (g.M.Medium.seen k.medium).protected) c.self.view_is ∙ free (ap plan_writes c.in-WriteFile.is) in absurd (cc));
}

-- ---- a relative file that is made

pub returns-in_err-slot-in-MakeRecords-clause-opens : goal.returns-in_err-slot-in-MakeRecords-clause-opens
returns-in_err-slot-in-MakeRecords-clause-opens g c = record {
  opened = (search rules);
  stopped = λ m p h s.
      let st = stood g.M.Medium.seen _ _ m c.self.view_is s in
      let uses = uses_of c.self.inside.channels.items m.channels in
      let x = makeable _ _ m p c.args.plan c.in-MakeRecords.name c.in-MakeRecords.length h c.in-MakeRecords.is in
      let name : before_filler c.bytes-in-MakeRecords.result.now ≡ c.in-MakeRecords.name = ap before_filler c.bytes-in-MakeRecords.ensures.value ∙ x.1.cut in
      let idle : uses 15 ≡ Idle = idle_past c.self.inside.channels.items m.channels c.self.invariant.count in
      let disk = ap (λ n. with_new_records m.disk n c.in-MakeRecords.length) name ∙ sym (ap (disk_opened m.disk) x.0) in
      let failed = failed_by (g.M.Medium.seen c.self.inside.volume) (g.M.Medium.seen c.make_records.new.self) c.in_err-slot-in-MakeRecords.field-0.0 m.protected st.same_protection x.1.unprotected
      (c.in_err-slot-in-MakeRecords.ensures.call m.disk uses 15 st.holds idle).cause in
      on_err _ _ (subst (λ k. Stopped (g.M.Medium.seen k.medium).tracks (g.M.Medium.seen c.make_records.new.self).content m.disk (disk_opened m.disk p) (uses_of k.channels m.channels) × HasFailed (g.M.Medium.seen k.medium) (g.M.Medium.seen c.make_records.new.self)) c.self.view_is (
        subst (λ d. Stopped (g.M.Medium.seen c.self.inside.volume).tracks (g.M.Medium.seen c.make_records.new.self).content m.disk d uses) disk (c.in_err-slot-in-MakeRecords.ensures.call m.disk uses 15 st.holds idle).stopped,
        failed,
      ));
  rest = λ m p h s.
      let st = stood g.M.Medium.seen _ _ m c.self.view_is s in
      let uses = uses_of c.self.inside.channels.items m.channels in
      let idle : uses 15 ≡ Idle = idle_past c.self.inside.channels.items m.channels c.self.invariant.count in
      let call = c.make_records.ensures.call m.disk uses 15 st.holds idle in
      rest_seen g.M.Medium.seen c.args.self.now.medium c.make_records.new.self c.self.inside.volume c.make_records.new.self (ap (λ k. k.medium) c.self.view_is) refl
      (rest_none _ _ (made_rest c.make_records.result (g.M.Medium.seen c.self.inside.volume) (g.M.Medium.seen c.make_records.new.self) m.disk _ uses _ _ _ c.make_records.ensures.only refl st.holds call (grown_total m.disk)));
}

pub returns-in_default-3-clause-opens : goal.returns-in_default-3-clause-opens
returns-in_default-3-clause-opens g c = record {
  opened = λ m p ch h s idle.
      let st = stood g.M.Medium.seen _ _ m c.self.view_is s in
      let x = makeable _ _ m p c.args.plan c.in-MakeRecords.name c.in-MakeRecords.length h c.in-MakeRecords.is in
      let none = match_none _ _ _ c.in_default-3.not-Some (c.in_ok-slot-in-MakeRecords.ensures.call m.disk (uses_of c.self.inside.channels.items m.channels) ch st.holds (subst (λ k. uses_of k.channels m.channels ch ≡ Idle) (sym c.self.view_is) idle)).done in
      absurd (has_room_of m c.in-MakeRecords.name c.in-MakeRecords.length x.1 none.0);
  stopped = (search rules);
  rest = λ m p h s.
      let st = stood g.M.Medium.seen _ _ m c.self.view_is s in
      let uses = uses_of c.self.inside.channels.items m.channels in
      let idle : uses 15 ≡ Idle = idle_past c.self.inside.channels.items m.channels c.self.invariant.count in
      let call = c.make_records.ensures.call m.disk uses 15 st.holds idle in
      rest_seen g.M.Medium.seen c.args.self.now.medium c.make_records.new.self c.self.inside.volume c.make_records.new.self (ap (λ k. k.medium) c.self.view_is) refl
      (rest_none _ _ (made_rest c.make_records.result (g.M.Medium.seen c.self.inside.volume) (g.M.Medium.seen c.make_records.new.self) m.disk _ uses _ _ _ c.make_records.ensures.only refl st.holds call (grown_total m.disk)));
}

-- its first record reads
pub returns-in_err-on-in-MakeRecords-clause-opens : goal.returns-in_err-on-in-MakeRecords-clause-opens
returns-in_err-on-in-MakeRecords-clause-opens g c = record {
  opened = (search rules);
  stopped = λ m p h s.
      let st = stood g.M.Medium.seen _ _ m c.self.view_is s in
      let uses = uses_of c.self.inside.channels.items m.channels in
      let x = makeable _ _ m p c.args.plan c.in-MakeRecords.name c.in-MakeRecords.length h c.in-MakeRecords.is in
      let name : before_filler c.bytes-in-MakeRecords.result.now ≡ c.in-MakeRecords.name = ap before_filler c.bytes-in-MakeRecords.ensures.value ∙ x.1.cut in
      let made = match_some _ _ _ _ c.in-Some-3.is (c.in_ok-slot-in-MakeRecords.ensures.call m.disk uses 15 st.holds (idle_past c.self.inside.channels.items m.channels c.self.invariant.count)).done in
      let holds = subst (λ n. HoldsNow (g.M.Medium.seen c.self.inside.volume).tracks (g.M.Medium.seen c.make_records.new.self).content (with_new_records m.disk n c.in-MakeRecords.length) uses) name made.1 in
      let new : HoldsDisk (g.M.Medium.seen c.self.inside.volume).tracks (g.M.Medium.seen c.make_records.new.self).content (with_new_records m.disk c.in-MakeRecords.name c.in-MakeRecords.length) = record { layout = holds.layout; stands = holds.so.stands } in
      let means = subst (λ t. HoldsDisk t (g.M.Medium.seen c.make_records.new.self).content (with_new_records m.disk c.in-MakeRecords.name c.in-MakeRecords.length)) (sym c.make_records.ensures.only.tracks) new in
      let there = made_there m c.in-MakeRecords.name c.in-MakeRecords.length c.in-Some-3.slot x.1 made.0 in
      let rs = replicate (record_count c.in-MakeRecords.length 1) (fresh_record c.in-MakeRecords.length) in
      absurd (c.in_err-on-in-MakeRecords.ensures.means (with_new_records m.disk c.in-MakeRecords.name c.in-MakeRecords.length) (made_file c.in-MakeRecords.name c.in-MakeRecords.length) 1 1 rs means there refl refl);
  rest = λ m p h s.
      let st = stood g.M.Medium.seen _ _ m c.self.view_is s in
      let uses = uses_of c.self.inside.channels.items m.channels in
      let idle : uses 15 ≡ Idle = idle_past c.self.inside.channels.items m.channels c.self.invariant.count in
      let call = c.make_records.ensures.call m.disk uses 15 st.holds idle in
      rest_seen g.M.Medium.seen c.args.self.now.medium c.make_records.new.self c.self.inside.volume c.make_records.new.self (ap (λ k. k.medium) c.self.view_is) refl
      (rest_none _ _ (made_rest c.make_records.result (g.M.Medium.seen c.self.inside.volume) (g.M.Medium.seen c.make_records.new.self) m.disk _ uses _ _ _ c.make_records.ensures.only refl st.holds call (grown_total m.disk)));
}

pub returns-in_ok-on-in-MakeRecords-clause-opens : goal.returns-in_ok-on-in-MakeRecords-clause-opens
returns-in_ok-on-in-MakeRecords-clause-opens g c = record {
  opened = λ m p ch h s idle.
      let st = stood g.M.Medium.seen _ _ m c.self.view_is s in
      let uses = uses_of c.self.inside.channels.items m.channels in
      let x = makeable _ _ m p c.args.plan c.in-MakeRecords.name c.in-MakeRecords.length h c.in-MakeRecords.is in
      let name : before_filler c.bytes-in-MakeRecords.result.now ≡ c.in-MakeRecords.name = ap before_filler c.bytes-in-MakeRecords.ensures.value ∙ x.1.cut in
      let made = match_some _ _ _ _ c.in-Some-3.is (c.in_ok-slot-in-MakeRecords.ensures.call m.disk uses ch st.holds (subst (λ k. uses_of k.channels m.channels ch ≡ Idle) (sym c.self.view_is) idle)).done in
      let holds = subst (λ n. HoldsNow (g.M.Medium.seen c.self.inside.volume).tracks (g.M.Medium.seen c.make_records.new.self).content (with_new_records m.disk n c.in-MakeRecords.length) uses) name made.1 in
      let new : HoldsDisk (g.M.Medium.seen c.self.inside.volume).tracks (g.M.Medium.seen c.make_records.new.self).content (with_new_records m.disk c.in-MakeRecords.name c.in-MakeRecords.length) = record { layout = holds.layout; stands = holds.so.stands } in
      let means = subst (λ t. HoldsDisk t (g.M.Medium.seen c.make_records.new.self).content (with_new_records m.disk c.in-MakeRecords.name c.in-MakeRecords.length)) (sym c.make_records.ensures.only.tracks) new in
      let there = made_there m c.in-MakeRecords.name c.in-MakeRecords.length c.in-Some-3.slot x.1 made.0 in
      let rs = replicate (record_count c.in-MakeRecords.length 1) (fresh_record c.in-MakeRecords.length) in
      let on = c.in_ok-on-in-MakeRecords.ensures.means (with_new_records m.disk c.in-MakeRecords.name c.in-MakeRecords.length) (made_file c.in-MakeRecords.name c.in-MakeRecords.length) 1 1 rs means there refl refl in
      let place = c.in_ok-on-in-MakeRecords.ensures.place in
      subst (λ k. IsOpened (g.M.Medium.seen k.medium).tracks (g.M.Medium.seen c.make_records.new.self).content m ch p (uses_of k.channels m.channels) (Some (code.Records c.in_ok-on-in-MakeRecords.on))) c.self.view_is
      (makes_opened _ _ _ _ _ _ _ m ch p c.in-MakeRecords.name c.in-MakeRecords.length c.in-Some-3.slot c.in_ok-on-in-MakeRecords.on st x.0 x.1 made.0 holds place.0 place.1.1.0 place.1.1.1 on);
  stopped = (search rules);
  rest = λ m p h s.
      let st = stood g.M.Medium.seen _ _ m c.self.view_is s in
      let uses = uses_of c.self.inside.channels.items m.channels in
      let idle : uses 15 ≡ Idle = idle_past c.self.inside.channels.items m.channels c.self.invariant.count in
      let call = c.make_records.ensures.call m.disk uses 15 st.holds idle in
      rest_seen g.M.Medium.seen c.args.self.now.medium c.make_records.new.self c.self.inside.volume c.make_records.new.self (ap (λ k. k.medium) c.self.view_is) refl
      (rest_none _ _ (made_rest c.make_records.result (g.M.Medium.seen c.self.inside.volume) (g.M.Medium.seen c.make_records.new.self) m.disk _ uses _ _ _ c.make_records.ensures.only refl st.holds call (grown_total m.disk)));
}

-- ---- what a reading meets is never reported as protection

pub returns-in_err-list-in-ReadListing-clause-medium : goal.returns-in_err-list-in-ReadListing-clause-medium
returns-in_err-list-in-ReadListing-clause-medium g c =
    let now = g.M.Medium.seen c.args.self.now.medium in
    let p = err_from_is_err_and c.from_residual.result c.from_residual.ensures.1 in
    else_nothing c.from_residual.result now now (λ i. now)
    (rw (p.1, p.2) (λ is. absurd (shown_never_26 (geometry_of (g.M.Medium.seen c.self.inside.volume).tracks (g.M.Medium.seen c.self.inside.volume).content) (g.M.Medium.seen c.self.inside.volume).content c.in_err-list-in-ReadListing.field-0.0
    (λ q. g.met.M.Medium.codes c.self.inside.volume q) c.in_err-list-in-ReadListing.ensures.shown is)))
    (rw (p.1, p.2) (subst (λ m. ShowsGround (g.M.Medium.seen m) c.in_err-list-in-ReadListing.field-0.0) (ap (λ k. k.medium) c.self.view_is) (trouble_shown _ (g.M.Medium.seen c.self.inside.volume) c.in_err-list-in-ReadListing.field-0.0 c.in_err-list-in-ReadListing.ensures.shown)))

pub returns-in_err-reader-in-ReadFile-clause-medium : goal.returns-in_err-reader-in-ReadFile-clause-medium
returns-in_err-reader-in-ReadFile-clause-medium g c =
    let now = g.M.Medium.seen c.args.self.now.medium in
    let volume = g.M.Medium.seen c.self.inside.volume in
    let tracks = geometry_of volume.tracks volume.content in
    let p = err_from_is_err_and c.from_residual-in_err-reader-in-ReadFile.result c.from_residual-in_err-reader-in-ReadFile.ensures.1 in
    let broken = broken_at_once tracks volume.content (sector_count tracks) (first_block c.in-ReadFile.found.entry) c.in_err-reader-in-ReadFile.field-0.0 c.in_err-reader-in-ReadFile.ensures.err in
    else_nothing c.from_residual-in_err-reader-in-ReadFile.result now now (λ i. now)
    (rw (p.1, p.2) (λ is. absurd (followed_never_26 tracks volume.content (sector_count tracks) (first_block c.in-ReadFile.found.entry) c.in_err-reader-in-ReadFile.field-0.0 (λ q. g.met.M.Medium.codes c.self.inside.volume q) broken is)))
    (rw (p.1, p.2) (subst (λ m. ShowsGround (g.M.Medium.seen m) c.in_err-reader-in-ReadFile.field-0.0) (ap (λ k. k.medium) c.self.view_is) (cut_shown tracks volume _ _ c.in_err-reader-in-ReadFile.field-0.0 broken)))

pub returns-in_err-open_records-in-OpenRecords-clause-medium : goal.returns-in_err-open_records-in-OpenRecords-clause-medium
returns-in_err-open_records-in-OpenRecords-clause-medium g c =
    let now = g.M.Medium.seen c.args.self.now.medium in
    let volume = g.M.Medium.seen c.self.inside.volume in
    let p = err_from_is_err_and c.from_residual-in_err-open_records-in-OpenRecords.result c.from_residual-in_err-open_records-in-OpenRecords.ensures.1 in
    else_nothing c.from_residual-in_err-open_records-in-OpenRecords.result now now (λ i. now)
    (rw (p.1, p.2) (λ is. absurd (opening_never_26 (geometry_of volume.tracks volume.content) volume.content c.in-OpenRecords.found.entry c.in_err-open_records-in-OpenRecords.field-0.0
    (λ q. g.met.M.Medium.codes c.self.inside.volume q) c.in_err-open_records-in-OpenRecords.ensures.cause is)))
    (rw (p.1, p.2) (subst (λ m. ShowsGround (g.M.Medium.seen m) c.in_err-open_records-in-OpenRecords.field-0.0) (ap (λ k. k.medium) c.self.view_is) (opening_shown _ (λ q. q ≡ first_side c.in-OpenRecords.found.entry) volume _ c.in_err-open_records-in-OpenRecords.field-0.0 c.in_err-open_records-in-OpenRecords.ensures.cause)))

-- ---- the rest of the disk

pub returns-in_ok-list-in-ReadListing-clause-opens : goal.returns-in_ok-list-in-ReadListing-clause-opens
returns-in_ok-list-in-ReadListing-clause-opens g c = record {
  opened = (search rules);
  stopped = (search rules);
  rest = λ m p h s. rest_itself _ _ refl;
}

pub returns-in_err-writer-in-WriteFile-clause-opens : goal.returns-in_err-writer-in-WriteFile-clause-opens
returns-in_err-writer-in-WriteFile-clause-opens g c = record {
  opened = (search rules);
  stopped = (search rules);
  rest = λ m p h s.
      let st = stood g.M.Medium.seen _ _ m c.self.view_is s in
      let uses = uses_of c.self.inside.channels.items m.channels in
      let idle : uses 15 ≡ Idle = idle_past c.self.inside.channels.items m.channels c.self.invariant.count in
      let x = writable _ _ m p c.args.plan c.in-WriteFile.kind c.in-WriteFile.name h c.in-WriteFile.is in
      let call = c.begin_write.ensures.call m.disk uses st.holds in
      rest_seen g.M.Medium.seen c.args.self.now.medium c.begin_write.new.self c.self.inside.volume c.begin_write.new.self (ap (λ k. k.medium) c.self.view_is) refl
      (rest_none _ _ (begun_rest c.begin_write.result (g.M.Medium.seen c.self.inside.volume) (g.M.Medium.seen c.begin_write.new.self) m.disk _ uses 15 _ _ _ _ _ c.begin_write.ensures.only refl st.holds (begun_write c.begin_write.result uses c.in-WriteFile.kind _ 15 idle (not_del _ x.1.kept) x.1.plain call.done)
      (cut_sized c.begin_write.result _ _ m.disk _ uses (on_both c.begin_write.result _ _ _ (not_del _ x.1.kept) x.1.plain call.stopped)) (grown_total m.disk) call.untouched));
}

-- the first record can't be read
pub returns-in_err-on-in-OpenRecords-clause-medium : goal.returns-in_err-on-in-OpenRecords-clause-medium
returns-in_err-on-in-OpenRecords-clause-medium g c =
    let now = g.M.Medium.seen c.args.self.now.medium in
    let t = c.in_err-on-in-OpenRecords.field-0.0 in
    let p = err_from_is_err_and c.from_residual-in_err-on-in-OpenRecords.result c.from_residual-in_err-on-in-OpenRecords.ensures.1 in
    else_nothing c.from_residual-in_err-on-in-OpenRecords.result now now (λ i. now)
    (rw (p.1, p.2) (λ is. absurd (c.in_err-on-in-OpenRecords.ensures.never_26 is)))
    (rw (p.1, p.2) (subst (λ m. ShowsGround (g.M.Medium.seen m) t) (ap (λ k. k.medium) c.self.view_is) (hidden_shown (g.M.Medium.seen c.self.inside.volume) t (_, c.in_err-on-in-OpenRecords.ensures.cause))))

pub returns-in_err-on-in-MakeRecords-clause-medium : goal.returns-in_err-on-in-MakeRecords-clause-medium
returns-in_err-on-in-MakeRecords-clause-medium g c =
    let old = g.M.Medium.seen c.self.inside.volume in
    let new = g.M.Medium.seen c.make_records.new.self in
    let t = c.in_err-on-in-MakeRecords.field-0.0 in
    let s = c.from_residual-in_err-on-in-MakeRecords.result in
    let p = err_from_is_err_and s c.from_residual-in_err-on-in-MakeRecords.ensures.1 in
    subst (λ m. KeepsElse s (g.M.Medium.seen m) new) (ap (λ k. k.medium) c.self.view_is)
    (else_then c.make_records.result s c.in_ok-slot-in-MakeRecords.field-0 old new c.in_ok-slot-in-MakeRecords.was (only_else _ _ _ c.make_records.ensures.only)
    (rw (p.1, p.2) (λ is. absurd (c.in_err-on-in-MakeRecords.ensures.never_26 is)))
    (rw (p.1, p.2) (hidden_shown new t (_, c.in_err-on-in-MakeRecords.ensures.cause))))

-- ---- which file is meant, and what was done, on any disk

pub returns-in_ok-list-in-ReadListing-clause-done : goal.returns-in_ok-list-in-ReadListing-clause-done
returns-in_ok-list-in-ReadListing-clause-done g c = plan_done c.args.plan _ c.in-ReadListing.is (g.M.Medium.seen c.args.self.now.medium) (g.M.Medium.seen c.args.self.now.medium) _ tt

pub returns-in_ok-reader-in-ReadFile-clause-done : goal.returns-in_ok-reader-in-ReadFile-clause-done
returns-in_ok-reader-in-ReadFile-clause-done g c =
    plan_done c.args.plan _ c.in-ReadFile.is (g.M.Medium.seen c.args.self.now.medium) (g.M.Medium.seen c.args.self.now.medium) _
    (c.in_ok-reader-in-ReadFile.reader, refl, subst (λ v. rest_of (g.M.Medium.seen v).content c.in_ok-reader-in-ReadFile.reader ≡ seen_chain (g.M.Medium.seen v) (first_block c.in-ReadFile.found.entry)) (ap (λ k. k.medium) c.self.view_is) c.in_ok-reader-in-ReadFile.ensures.ok)

pub returns-in-Some-clause-done : goal.returns-in-Some-clause-done
returns-in-Some-clause-done g c =
    let led = match_some _ _ _ _ c.in-Some.is c.in_ok-writer-in-WriteFile.ensures.led in
    plan_done c.args.plan _ c.in-WriteFile.is (g.M.Medium.seen c.args.self.now.medium) (g.M.Medium.seen c.begin_write.new.self) _ (
      c.in-Some.writer,
      refl,
      subst (λ v. NewFileLed (g.M.Medium.seen v) (g.M.Medium.seen c.begin_write.new.self) c.in-WriteFile.kind c.in-WriteFile.name c.in-Some.writer) (ap (λ k. k.medium) c.self.view_is)
          (subst (λ name. NewFileLed (g.M.Medium.seen c.self.inside.volume) (g.M.Medium.seen c.begin_write.new.self) c.in-WriteFile.kind name c.in-Some.writer) c.bytes.ensures.value led),
    )

pub returns-in_ok-writer-in-AppendFile-clause-done : goal.returns-in_ok-writer-in-AppendFile-clause-done
returns-in_ok-writer-in-AppendFile-clause-done g c =
    plan_done c.args.plan _ c.in-AppendFile.is (g.M.Medium.seen c.args.self.now.medium) (g.M.Medium.seen c.begin_append.new.self) _ (
      c.in_ok-writer-in-AppendFile.writer,
      refl,
      subst (λ v. AppendsTo (g.M.Medium.seen v) c.in-AppendFile.found.slot c.in-AppendFile.found.entry c.in_ok-writer-in-AppendFile.writer) (ap (λ k. k.medium) c.self.view_is) c.in_ok-writer-in-AppendFile.ensures.writer,
      subst (λ v. ReopensLed (g.M.Medium.seen v) (g.M.Medium.seen c.begin_append.new.self) c.in-AppendFile.found.slot c.in-AppendFile.found.entry) (ap (λ k. k.medium) c.self.view_is) c.in_ok-writer-in-AppendFile.ensures.led,
    )

pub returns-in-Some-2-clause-done : goal.returns-in-Some-2-clause-done
returns-in-Some-2-clause-done g c =
    let led = match_some _ _ _ _ c.in-Some-2.is c.in_ok-writer-in-ReplaceFile.ensures.led in
    plan_done c.args.plan _ c.in-ReplaceFile.is (g.M.Medium.seen c.args.self.now.medium) (g.M.Medium.seen c.begin_replace.new.self) _
    (c.in-Some-2.writer, refl, subst (λ v. ReplacementLed (g.M.Medium.seen v) (g.M.Medium.seen c.begin_replace.new.self) c.in-ReplaceFile.slot c.in-Some-2.writer) (ap (λ k. k.medium) c.self.view_is) led)

pub returns-in_ok-on-in-OpenRecords-clause-done : goal.returns-in_ok-on-in-OpenRecords-clause-done
returns-in_ok-on-in-OpenRecords-clause-done g c =
    let place = c.in_ok-on-in-OpenRecords.ensures.place in
    plan_done c.args.plan _ c.in-OpenRecords.is (g.M.Medium.seen c.args.self.now.medium) (g.M.Medium.seen c.args.self.now.medium) _ (c.in_ok-on-in-OpenRecords.on, refl, place.0, place.1.0 ∙ c.record_length-length.ensures, place.1.1.0, place.1.1.1)

pub returns-in_ok-on-in-MakeRecords-clause-done : goal.returns-in_ok-on-in-MakeRecords-clause-done
returns-in_ok-on-in-MakeRecords-clause-done g c =
    let place = c.in_ok-on-in-MakeRecords.ensures.place in
    let led = some_says _ _ _ c.in-Some-3.is c.in_ok-slot-in-MakeRecords.ensures.led in
    plan_done c.args.plan _ c.in-MakeRecords.is (g.M.Medium.seen c.args.self.now.medium) (g.M.Medium.seen c.make_records.new.self) _ (
      c.in-Some-3.slot,
      subst (λ v. NewRecordsLed (g.M.Medium.seen v) (g.M.Medium.seen c.make_records.new.self) c.in-MakeRecords.name c.in-MakeRecords.length c.in-Some-3.slot) (ap (λ k. k.medium) c.self.view_is)
          (subst (λ name. NewRecordsLed (g.M.Medium.seen c.self.inside.volume) (g.M.Medium.seen c.make_records.new.self) name c.in-MakeRecords.length c.in-Some-3.slot) c.bytes-in-MakeRecords.ensures.value led),
      (c.in_ok-on-in-MakeRecords.on, refl, place.0, place.1.0, place.1.1.0, place.1.1.1),
    )
