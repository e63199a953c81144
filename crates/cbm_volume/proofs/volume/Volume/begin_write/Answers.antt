use Rattle.std.proofs.Common.{rules, ◌≡◌, ◌<◌, ◌≤◌, ◌*◌, ◌%◌, ℕ, List, length, Option, Some, None, Err, refl, sym, ap, subst, ◌∙◌, inl, inr, MatchOption, [], false, Ok, IsOk}
use Rattle.std.proofs.lemmas.Result.{err_from_is_err_and}
use Rattle.cbm_medium.specs.Place.{Place, directory_head}
use Rattle.cbm_medium.specs.Content.{Content}
use Rattle.cbm_medium.specs.Links.{Chain}
use Rattle.cbm_medium.specs.Seen.{Seen, OnlyContent}
use Rattle.cbm_file.specs.Files.{Disk}
use Rattle.cbm_file.specs.Changes.{grown, new_slot, with_file, unclosed}
use Rattle.cbm_file.specs.Padding.{before_filler}
use Rattle.cbm_bam.specs.Map.{map_of, is_free_in, number, geometry_of, IsFull, Claims}
use Rattle.cbm_bam.specs.Causes.{HasCause}
use Rattle.cbm_chain.specs.Writing.{State, begun_at, place_or_none}
use Rattle.cbm_directory.specs.Entries.{Enters, EntersLed, first_directory, sector_of}
use Rattle.cbm_directory.specs.EntryChanges.{fresh_entry}
use Rattle.cbm_directory.specs.Empties.{TakesSlot, SlotStopped, IsSlotRefused}
use Rattle.cbm_medium.proofs.Sequences.{only_then, only_after, only_refused}
use Rattle.cbm_volume.specs.Beginning.{NewFileLed}
use Rattle.cbm_volume.specs.Opens.{BeginsFile}
use Rattle.cbm_volume.specs.Writers.{Filling, Use, HoldsNow}
use Rattle.cbm_volume.proofs.layouts.OnDisks.{of_tracks}
use Rattle.cbm_volume.proofs.written.Finishing.{on_err}
use Rattle.cbm_volume.proofs.layouts.Refusals.{sector_hindered, hindered_since, sector_reads}
use Rattle.cbm_volume.proofs.opened.HinderedOpens.{slot_hinders}
use Rattle.cbm_volume.proofs.opened.KeptOpens.{block_left}
use Rattle.cbm_volume.proofs.opened.OpenedFiles.{EntersSlot, IsSet, reached_set, kept_set, begins, stopped_at, untouched_by, chain_set, moved}
use Rattle.cbm_volume.proofs.opened.OpenedSlots.{Reached, reached_same, SlotReady, slot_ready, no_slot, same_files_grown, SlotLost, slot_lost}
use Rattle.cbm_volume.proofs.layouts.Steps.{one_less}
use Rattle.cbm_volume.proofs.layouts.Staying.{kept_same}
use Rattle.cbm_volume.proofs.layouts.Vacant.{free_of_disk}
use Rattle.cbm_volume.proofs.volume.Volume.begin_write.Goals as goal
use Rattle.cbm_volume.proofs.volume.Volume.begin_write.Given.{Over}

-- ---- no block is free

free : (g : Over) (c : goal.Then-branch-eq0 g) (d : Disk) (uses : ℕ → Use) → HoldsNow (g.M.Medium.seen c.args.self.now).tracks (g.M.Medium.seen c.args.self.now).content d uses → d.free ≡ 0
free g c d uses h =
    sym (free_of_disk (geometry_of (g.M.Medium.seen c.args.self.now).tracks (g.M.Medium.seen c.args.self.now).content) (g.M.Medium.seen c.args.self.now).content h.layout d h.so.stands) ∙ sym (moved (λ k x. c.in_ok-free_bits.field-0 ≡ number k (is_free_in (map_of x))) c.geometry-geometry.result (geometry_of (g.M.Medium.seen c.args.self.now).tracks (g.M.Medium.seen c.args.self.now).content) (g.M.Medium.seen c.self.inside.medium).content (g.M.Medium.seen c.args.self.now).content c.geometry-geometry.ensures.value (ap (λ m. (g.M.Medium.seen m).content) c.self.view_is) (c.in_ok-free_bits.ensures.ok)) ∙ c.if-branch-eq0.true

pub returns-then-branch-eq0-clause-call : goal.returns-then-branch-eq0-clause-call
returns-then-branch-eq0-clause-call g c = λ d uses h.
    record {
      done = λ ch idle ne plain. (inl (free g c d uses h), refl);
      stopped = (search rules);
      cause = (search rules);
      untouched = untouched_by (g.M.Medium.seen c.args.self.now).tracks (g.M.Medium.seen c.args.self.now).content (g.M.Medium.seen c.args.self.now).content d uses h (kept_same h.layout (g.M.Medium.seen c.args.self.now).content (g.M.Medium.seen c.args.self.now).content (λ m. false) refl);
    }

-- ---- the search for a slot was refused

lost : (g : Over) (c : goal.After-from_residual-in_err-slot g) (d : Disk) (uses : ℕ → Use) (h : HoldsNow (g.M.Medium.seen c.args.self.now).tracks (g.M.Medium.seen c.args.self.now).content d uses) → SlotLost (g.M.Medium.seen c.args.self.now).tracks (g.M.Medium.seen c.args.self.now).content h.layout (g.M.Medium.seen c.empty_slot.new.medium).content d uses
lost g c d uses h = slot_lost (g.M.Medium.seen c.args.self.now).tracks (g.M.Medium.seen c.args.self.now).content (g.M.Medium.seen c.empty_slot.new.medium).content c.in_err-slot.field-0.0 d uses h (moved (λ k x. SlotStopped k x (g.M.Medium.seen c.empty_slot.new.medium).content c.in_err-slot.field-0.0) c.geometry-geometry.result (geometry_of (g.M.Medium.seen c.args.self.now).tracks (g.M.Medium.seen c.args.self.now).content) (g.M.Medium.seen c.self.inside.medium).content (g.M.Medium.seen c.args.self.now).content c.geometry-geometry.ensures.value (ap (λ m. (g.M.Medium.seen m).content) c.self.view_is) (c.in_err-slot.ensures.stopped))

pub returns-in_err-slot-clause-call : goal.returns-in_err-slot-clause-call
returns-in_err-slot-clause-call g c = λ d uses h.
    record {
      done = (let p = err_from_is_err_and c.from_residual-in_err-slot.result c.from_residual-in_err-slot.ensures.1 in rw p.1 tt);
      stopped = on_err c.from_residual-in_err-slot.result (λ ne plain. stopped_at (g.M.Medium.seen c.args.self.now).tracks (g.M.Medium.seen c.args.self.now).content h.layout (g.M.Medium.seen c.empty_slot.new.medium).content d (lost g c d uses h).disk _ uses h (lost g c d uses h).reached (lost g c d uses h).slots);
      cause =
          let p = err_from_is_err_and c.from_residual-in_err-slot.result c.from_residual-in_err-slot.ensures.1 in
          let old : Seen = g.M.Medium.seen c.args.self.now in
          let new : Seen = g.M.Medium.seen c.empty_slot.new.medium in
          let refused : IsSlotRefused (geometry_of old.tracks old.content) old new c.in_err-slot.field-0.0 = subst (λ (k : ℕ). IsSlotRefused k old new c.in_err-slot.field-0.0) c.geometry-geometry.ensures.value
          (subst (λ (x : Seen). IsSlotRefused c.geometry-geometry.result x new c.in_err-slot.field-0.0) (ap (λ m. g.M.Medium.seen m) c.self.view_is) c.in_err-slot.ensures.cause) in
          rw (p.1, p.2) (slot_hinders old new c.in_err-slot.field-0.0 d uses h refused);
      untouched = untouched_by (g.M.Medium.seen c.args.self.now).tracks (g.M.Medium.seen c.args.self.now).content (g.M.Medium.seen c.empty_slot.new.medium).content d uses h (lost g c d uses h).reached.kept;
    }

-- ---- no slot is empty, and there is no room

none : (g : Over) (c : goal.In_default g) → TakesSlot (geometry_of (g.M.Medium.seen c.args.self.now).tracks (g.M.Medium.seen c.args.self.now).content) (g.M.Medium.seen c.args.self.now).content (g.M.Medium.seen c.empty_slot.new.medium).content None
none g c = (moved (λ k x. TakesSlot k x (g.M.Medium.seen c.empty_slot.new.medium).content None) c.geometry-geometry.result (geometry_of (g.M.Medium.seen c.args.self.now).tracks (g.M.Medium.seen c.args.self.now).content) (g.M.Medium.seen c.self.inside.medium).content (g.M.Medium.seen c.args.self.now).content c.geometry-geometry.ensures.value (ap (λ m. (g.M.Medium.seen m).content) c.self.view_is) (subst (λ (o : Option ℕ). TakesSlot c.geometry-geometry.result (g.M.Medium.seen c.self.inside.medium).content (g.M.Medium.seen c.empty_slot.new.medium).content o) c.in_default.is c.in_ok-slot.ensures.taken))

pub returns-in_default-clause-call : goal.returns-in_default-clause-call
returns-in_default-clause-call g c = λ d uses h.
    record {
      done = λ ch idle ne plain. let k = no_slot (g.M.Medium.seen c.args.self.now).tracks (g.M.Medium.seen c.args.self.now).content (g.M.Medium.seen c.empty_slot.new.medium).content d uses h (none g c) in (inr k.0, k.1);
      stopped = (search rules);
      cause = (search rules);
      untouched = untouched_by (g.M.Medium.seen c.args.self.now).tracks (g.M.Medium.seen c.args.self.now).content (g.M.Medium.seen c.empty_slot.new.medium).content d uses h (kept_same h.layout (g.M.Medium.seen c.args.self.now).content (g.M.Medium.seen c.empty_slot.new.medium).content (λ m. false) (no_slot (g.M.Medium.seen c.args.self.now).tracks (g.M.Medium.seen c.args.self.now).content (g.M.Medium.seen c.empty_slot.new.medium).content d uses h (none g c)).1);
    }

-- ---- the claim of a first block was refused

ready : (g : Over) (c : goal.After-from_residual-in_err-chain g) (d : Disk) (uses : ℕ → Use) (h : HoldsNow (g.M.Medium.seen c.args.self.now).tracks (g.M.Medium.seen c.args.self.now).content d uses) → SlotReady (g.M.Medium.seen c.args.self.now).tracks (g.M.Medium.seen c.args.self.now).content h.layout (g.M.Medium.seen c.empty_slot.new.medium).content d uses c.in-Some.slot
ready g c d uses h = slot_ready (g.M.Medium.seen c.args.self.now).tracks (g.M.Medium.seen c.args.self.now).content (g.M.Medium.seen c.empty_slot.new.medium).content c.in-Some.slot d uses h (moved (λ k x. TakesSlot k x (g.M.Medium.seen c.empty_slot.new.medium).content (Some c.in-Some.slot)) c.geometry-geometry.result (geometry_of (g.M.Medium.seen c.args.self.now).tracks (g.M.Medium.seen c.args.self.now).content) (g.M.Medium.seen c.self.inside.medium).content (g.M.Medium.seen c.args.self.now).content c.geometry-geometry.ensures.value (ap (λ m. (g.M.Medium.seen m).content) c.self.view_is) (subst (λ (o : Option ℕ). TakesSlot c.geometry-geometry.result (g.M.Medium.seen c.self.inside.medium).content (g.M.Medium.seen c.empty_slot.new.medium).content o) c.in-Some.is c.in_ok-slot.ensures.taken))

unclaimed : (g : Over) (c : goal.After-from_residual-in_err-chain g) (d : Disk) (uses : ℕ → Use) (h : HoldsNow (g.M.Medium.seen c.args.self.now).tracks (g.M.Medium.seen c.args.self.now).content d uses) → Reached (g.M.Medium.seen c.args.self.now).tracks (g.M.Medium.seen c.args.self.now).content h.layout (g.M.Medium.seen c.begin.new.medium).content (grown d) uses
unclaimed g c d uses h = reached_same (g.M.Medium.seen c.args.self.now).tracks (g.M.Medium.seen c.args.self.now).content h.layout (g.M.Medium.seen c.empty_slot.new.medium).content (g.M.Medium.seen c.begin.new.medium).content (grown d) uses c.in_err-chain.ensures.err (ready g c d uses h).reached

pub returns-in_err-chain-clause-call : goal.returns-in_err-chain-clause-call
returns-in_err-chain-clause-call g c = λ d uses h.
    record {
      done = (search rules);
      stopped = on_err c.from_residual-in_err-chain.result (λ ne plain. stopped_at (g.M.Medium.seen c.args.self.now).tracks (g.M.Medium.seen c.args.self.now).content h.layout (g.M.Medium.seen c.begin.new.medium).content d (grown d) _ uses h (unclaimed g c d uses h) (same_files_grown d));
      cause =
          let p = err_from_is_err_and c.from_residual-in_err-chain.result c.from_residual-in_err-chain.ensures.1 in
          let old : Seen = g.M.Medium.seen c.args.self.now in
          let mid : Seen = g.M.Medium.seen c.empty_slot.new.medium in
          let new : Seen = g.M.Medium.seen c.begin.new.medium in
          let seen = ap (λ m. g.M.Medium.seen m) c.self.view_is in
          rw (p.1, p.2) (hindered_since old mid new c.in_err-chain.field-0.0 (c.empty_slot.ensures.only.protected ∙ ap (λ (x : Seen). x.protected) seen)
          (subst (λ (x : Seen). x.failures ≤ mid.failures) seen c.empty_slot.ensures.only.counted)
          (sector_hindered mid new directory_head c.in_err-chain.field-0.0 (ready g c d uses h).reached.so.stands.sound.map_reads c.in_err-chain.ensures.cause));
      untouched = untouched_by (g.M.Medium.seen c.args.self.now).tracks (g.M.Medium.seen c.args.self.now).content (g.M.Medium.seen c.begin.new.medium).content d uses h (unclaimed g c d uses h).kept;
    }

-- ---- a block is free, so one is claimed

no_none : (g : Over) (c : goal.In_default-2 g) → ⊥
no_none g c =
    let before : Content = (g.M.Medium.seen c.self.inside.medium).content in
    let slotted : Content = (g.M.Medium.seen c.empty_slot.new.medium).content in
    let after : Content = (g.M.Medium.seen c.begin.new.medium).content in
    let tracks : ℕ = c.geometry-geometry.result in
    let full : IsFull tracks (map_of slotted) × (after ≡ slotted) = subst (λ (o : Option State). MatchOption o (IsFull tracks (map_of slotted) × (after ≡ slotted)) (λ w. (q : Place) × Claims tracks slotted after q × (w ≡ begun_at tracks q))) c.in_default-2.is c.in_ok-chain.ensures.begun in
    block_left tracks before slotted c.in-Some.slot c.in_ok-free_bits.field-0
    (subst (λ (o : Option ℕ). TakesSlot tracks before slotted o) c.in-Some.is c.in_ok-slot.ensures.taken) c.in_ok-free_bits.ensures.ok c.if-branch-eq0.false full.0

pub returns-in_default-2-clause-call : goal.returns-in_default-2-clause-call
returns-in_default-2-clause-call g c = λ d uses h. absurd (no_none g c)

-- ---- the entry was refused

ready_unentered : (g : Over) (c : goal.After-from_residual-in_err-put_slot g) (d : Disk) (uses : ℕ → Use) (h : HoldsNow (g.M.Medium.seen c.args.self.now).tracks (g.M.Medium.seen c.args.self.now).content d uses) → SlotReady (g.M.Medium.seen c.args.self.now).tracks (g.M.Medium.seen c.args.self.now).content h.layout (g.M.Medium.seen c.empty_slot.new.medium).content d uses c.in-Some.slot
ready_unentered g c d uses h = slot_ready (g.M.Medium.seen c.args.self.now).tracks (g.M.Medium.seen c.args.self.now).content (g.M.Medium.seen c.empty_slot.new.medium).content c.in-Some.slot d uses h (moved (λ k x. TakesSlot k x (g.M.Medium.seen c.empty_slot.new.medium).content (Some c.in-Some.slot)) c.geometry-geometry.result (geometry_of (g.M.Medium.seen c.args.self.now).tracks (g.M.Medium.seen c.args.self.now).content) (g.M.Medium.seen c.self.inside.medium).content (g.M.Medium.seen c.args.self.now).content c.geometry-geometry.ensures.value (ap (λ m. (g.M.Medium.seen m).content) c.self.view_is) (subst (λ (o : Option ℕ). TakesSlot c.geometry-geometry.result (g.M.Medium.seen c.self.inside.medium).content (g.M.Medium.seen c.empty_slot.new.medium).content o) c.in-Some.is c.in_ok-slot.ensures.taken))

block_unentered : (g : Over) (c : goal.After-from_residual-in_err-put_slot g) → (q : Place) × Claims (geometry_of (g.M.Medium.seen c.args.self.now).tracks (g.M.Medium.seen c.args.self.now).content) (g.M.Medium.seen c.empty_slot.new.medium).content (g.M.Medium.seen c.begin.new.medium).content q × (c.in-Some-2.chain ≡ begun_at (geometry_of (g.M.Medium.seen c.args.self.now).tracks (g.M.Medium.seen c.args.self.now).content) q)
block_unentered g c =
    (subst (λ (k : ℕ). (q : Place) × Claims k (g.M.Medium.seen c.empty_slot.new.medium).content (g.M.Medium.seen c.begin.new.medium).content q × (c.in-Some-2.chain ≡ begun_at k q)) c.geometry-geometry.ensures.value (subst (λ (o : Option State). MatchOption o (IsFull c.geometry-geometry.result (map_of (g.M.Medium.seen c.empty_slot.new.medium).content) × ((g.M.Medium.seen c.begin.new.medium).content ≡ (g.M.Medium.seen c.empty_slot.new.medium).content)) (λ w. (q : Place) × Claims c.geometry-geometry.result (g.M.Medium.seen c.empty_slot.new.medium).content (g.M.Medium.seen c.begin.new.medium).content q × (w ≡ begun_at c.geometry-geometry.result q))) c.in-Some-2.is c.in_ok-chain.ensures.begun))

set_unentered : (g : Over) (c : goal.After-from_residual-in_err-put_slot g) (d : Disk) (uses : ℕ → Use) (h : HoldsNow (g.M.Medium.seen c.args.self.now).tracks (g.M.Medium.seen c.args.self.now).content d uses) → IsSet (g.M.Medium.seen c.args.self.now).tracks (g.M.Medium.seen c.args.self.now).content h.layout (g.M.Medium.seen c.empty_slot.new.medium).content (g.M.Medium.seen c.begin.new.medium).content d uses c.in-Some.slot (block_unentered g c).0
set_unentered g c d uses h = record { ready = ready_unentered g c d uses h; claims = (block_unentered g c).1 }

unentered : (g : Over) (c : goal.After-from_residual-in_err-put_slot g) (d : Disk) (uses : ℕ → Use) (h : HoldsNow (g.M.Medium.seen c.args.self.now).tracks (g.M.Medium.seen c.args.self.now).content d uses) → Reached (g.M.Medium.seen c.args.self.now).tracks (g.M.Medium.seen c.args.self.now).content h.layout (g.M.Medium.seen c.put_slot.new.medium).content (one_less (grown d)) uses
unentered g c d uses h =
    reached_same (g.M.Medium.seen c.args.self.now).tracks (g.M.Medium.seen c.args.self.now).content h.layout (g.M.Medium.seen c.begin.new.medium).content (g.M.Medium.seen c.put_slot.new.medium).content (one_less (grown d)) uses c.in_err-put_slot.ensures.err (reached_set (g.M.Medium.seen c.args.self.now).tracks (g.M.Medium.seen c.args.self.now).content h.layout (g.M.Medium.seen c.empty_slot.new.medium).content (g.M.Medium.seen c.begin.new.medium).content d uses c.in-Some.slot (block_unentered g c).0 (set_unentered g c d uses h))

pub returns-in_err-put_slot-clause-call : goal.returns-in_err-put_slot-clause-call
returns-in_err-put_slot-clause-call g c = λ d uses h.
    record {
      done = rw (err_from_is_err_and c.from_residual-in_err-put_slot.result c.from_residual-in_err-put_slot.ensures.1).1 tt;
      stopped = on_err c.from_residual-in_err-put_slot.result (λ ne plain. stopped_at (g.M.Medium.seen c.args.self.now).tracks (g.M.Medium.seen c.args.self.now).content h.layout (g.M.Medium.seen c.put_slot.new.medium).content d (one_less (grown d)) _ uses h (unentered g c d uses h) (same_files_grown d));
      cause =
          let p = err_from_is_err_and c.from_residual-in_err-put_slot.result c.from_residual-in_err-put_slot.ensures.1 in
          let old : Seen = g.M.Medium.seen c.args.self.now in
          let mid : Seen = g.M.Medium.seen c.empty_slot.new.medium in
          let two : Seen = g.M.Medium.seen c.begin.new.medium in
          let new : Seen = g.M.Medium.seen c.put_slot.new.medium in
          let seen = ap (λ m. g.M.Medium.seen m) c.self.view_is in
          let s : IsSet (g.M.Medium.seen c.args.self.now).tracks (g.M.Medium.seen c.args.self.now).content h.layout (g.M.Medium.seen c.empty_slot.new.medium).content (g.M.Medium.seen c.begin.new.medium).content d uses c.in-Some.slot (block_unentered g c).0 = set_unentered g c d uses h in
          let there = chain_set (g.M.Medium.seen c.args.self.now).tracks (g.M.Medium.seen c.args.self.now).content h.layout (g.M.Medium.seen c.empty_slot.new.medium).content (g.M.Medium.seen c.begin.new.medium).content d uses c.in-Some.slot (block_unentered g c).0 s in
          let dir : List Place = s.ready.reached.layout.directory in
          let cause : HasCause two new (sector_of dir c.in-Some.slot) c.in_err-put_slot.field-0.0.code =
          c.in_err-put_slot.ensures.cause dir (subst (λ (k : ℕ). Chain k (g.M.Medium.seen c.begin.new.medium).content first_directory dir) (sym c.geometry-geometry.ensures.value) there.0) there.1 in
          rw (p.1, p.2) (hindered_since old mid new c.in_err-put_slot.field-0.0 (c.empty_slot.ensures.only.protected ∙ ap (λ (x : Seen). x.protected) seen)
          (subst (λ (x : Seen). x.failures ≤ mid.failures) seen c.empty_slot.ensures.only.counted)
          (hindered_since mid two new c.in_err-put_slot.field-0.0 c.begin.ensures.only.protected c.begin.ensures.only.counted
          (sector_hindered two new (sector_of dir c.in-Some.slot) c.in_err-put_slot.field-0.0 (sector_reads (geometry_of (g.M.Medium.seen c.args.self.now).tracks (g.M.Medium.seen c.args.self.now).content) (g.M.Medium.seen c.begin.new.medium).content dir c.in-Some.slot there.0 there.1) cause)));
      untouched = untouched_by (g.M.Medium.seen c.args.self.now).tracks (g.M.Medium.seen c.args.self.now).content (g.M.Medium.seen c.put_slot.new.medium).content d uses h (unentered g c d uses h).kept;
    }

-- ---- the name is in its slot

ready_entered : (g : Over) (c : goal.After-of_new g) (d : Disk) (uses : ℕ → Use) (h : HoldsNow (g.M.Medium.seen c.args.self.now).tracks (g.M.Medium.seen c.args.self.now).content d uses) → SlotReady (g.M.Medium.seen c.args.self.now).tracks (g.M.Medium.seen c.args.self.now).content h.layout (g.M.Medium.seen c.empty_slot.new.medium).content d uses c.in-Some.slot
ready_entered g c d uses h = slot_ready (g.M.Medium.seen c.args.self.now).tracks (g.M.Medium.seen c.args.self.now).content (g.M.Medium.seen c.empty_slot.new.medium).content c.in-Some.slot d uses h (moved (λ k x. TakesSlot k x (g.M.Medium.seen c.empty_slot.new.medium).content (Some c.in-Some.slot)) c.geometry-geometry.result (geometry_of (g.M.Medium.seen c.args.self.now).tracks (g.M.Medium.seen c.args.self.now).content) (g.M.Medium.seen c.self.inside.medium).content (g.M.Medium.seen c.args.self.now).content c.geometry-geometry.ensures.value (ap (λ m. (g.M.Medium.seen m).content) c.self.view_is) (subst (λ (o : Option ℕ). TakesSlot c.geometry-geometry.result (g.M.Medium.seen c.self.inside.medium).content (g.M.Medium.seen c.empty_slot.new.medium).content o) c.in-Some.is c.in_ok-slot.ensures.taken))

block_entered : (g : Over) (c : goal.After-of_new g) → (q : Place) × Claims (geometry_of (g.M.Medium.seen c.args.self.now).tracks (g.M.Medium.seen c.args.self.now).content) (g.M.Medium.seen c.empty_slot.new.medium).content (g.M.Medium.seen c.begin.new.medium).content q × (c.in-Some-2.chain ≡ begun_at (geometry_of (g.M.Medium.seen c.args.self.now).tracks (g.M.Medium.seen c.args.self.now).content) q)
block_entered g c =
    (subst (λ (k : ℕ). (q : Place) × Claims k (g.M.Medium.seen c.empty_slot.new.medium).content (g.M.Medium.seen c.begin.new.medium).content q × (c.in-Some-2.chain ≡ begun_at k q)) c.geometry-geometry.ensures.value (subst (λ (o : Option State). MatchOption o (IsFull c.geometry-geometry.result (map_of (g.M.Medium.seen c.empty_slot.new.medium).content) × ((g.M.Medium.seen c.begin.new.medium).content ≡ (g.M.Medium.seen c.empty_slot.new.medium).content)) (λ w. (q : Place) × Claims c.geometry-geometry.result (g.M.Medium.seen c.empty_slot.new.medium).content (g.M.Medium.seen c.begin.new.medium).content q × (w ≡ begun_at c.geometry-geometry.result q))) c.in-Some-2.is c.in_ok-chain.ensures.begun))

set_entered : (g : Over) (c : goal.After-of_new g) (d : Disk) (uses : ℕ → Use) (h : HoldsNow (g.M.Medium.seen c.args.self.now).tracks (g.M.Medium.seen c.args.self.now).content d uses) → IsSet (g.M.Medium.seen c.args.self.now).tracks (g.M.Medium.seen c.args.self.now).content h.layout (g.M.Medium.seen c.empty_slot.new.medium).content (g.M.Medium.seen c.begin.new.medium).content d uses c.in-Some.slot (block_entered g c).0
set_entered g c d uses h = record { ready = ready_entered g c d uses h; claims = (block_entered g c).1 }

entered : (g : Over) (c : goal.After-of_new g) → EntersSlot (geometry_of (g.M.Medium.seen c.args.self.now).tracks (g.M.Medium.seen c.args.self.now).content) (g.M.Medium.seen c.begin.new.medium).content (g.M.Medium.seen c.put_slot.new.medium).content c.in-Some.slot c.fresh-entry.result
entered g c = (subst (λ (k : ℕ). (directory : List Place) → Chain k (g.M.Medium.seen c.begin.new.medium).content first_directory directory → c.in-Some.slot < 8 * length directory → Enters (g.M.Medium.seen c.begin.new.medium).content (g.M.Medium.seen c.put_slot.new.medium).content (sector_of directory c.in-Some.slot) (c.in-Some.slot % 8) c.fresh-entry.result) c.geometry-geometry.ensures.value (c.in_ok-put_slot.ensures.entered))

pub returns-clause-call : goal.returns-clause-call
returns-clause-call g c = λ d uses h.
    record {
      done =
          λ ch idle ne plain. subst (λ (w : Filling). BeginsFile (g.M.Medium.seen c.args.self.now).tracks (g.M.Medium.seen c.put_slot.new.medium).content (with_file d (unclosed c.args.kind (before_filler c.args.name.now)) 1) uses ch (new_slot d) false [] 1 w) (sym c.of_new.ensures)
          (begins (g.M.Medium.seen c.args.self.now).tracks (g.M.Medium.seen c.args.self.now).content h.layout (g.M.Medium.seen c.empty_slot.new.medium).content (g.M.Medium.seen c.begin.new.medium).content (g.M.Medium.seen c.put_slot.new.medium).content d uses ch c.in-Some.slot (block_entered g c).0 c.args.kind c.args.name.now c.fresh-entry.result c.first_block.result c.in-Some-2.chain (set_entered g c d uses h) idle ne plain (block_entered g c).2 c.fresh-entry.ensures.says (entered g c));
      stopped = (search rules);
      cause = (search rules);
      untouched = untouched_by (g.M.Medium.seen c.args.self.now).tracks (g.M.Medium.seen c.args.self.now).content (g.M.Medium.seen c.put_slot.new.medium).content d uses h (kept_set (g.M.Medium.seen c.args.self.now).tracks (g.M.Medium.seen c.args.self.now).content h.layout (g.M.Medium.seen c.empty_slot.new.medium).content (g.M.Medium.seen c.begin.new.medium).content (g.M.Medium.seen c.put_slot.new.medium).content d uses c.in-Some.slot (block_entered g c).0 c.fresh-entry.result (set_entered g c d uses h) (entered g c));
    }

-- ---- only the content changes

pub returns-in_err-slot-clause-only : goal.returns-in_err-slot-clause-only
returns-in_err-slot-clause-only g c =
    let p = err_from_is_err_and c.from_residual-in_err-slot.result c.from_residual-in_err-slot.ensures.1 in
    of_tracks c.geometry-geometry.result c.from_residual-in_err-slot.result (g.M.Medium.seen c.args.self.now) (g.M.Medium.seen c.empty_slot.new.medium) c.geometry-geometry.ensures.value
    (only_refused c.empty_slot.result c.from_residual-in_err-slot.result p.0 (g.M.Medium.seen c.args.self.now) (g.M.Medium.seen c.empty_slot.new.medium) (c.in_err-slot.was ∙ ap Err (sym p.2)) p.1
    (subst (λ (x : Seen). OnlyContent c.geometry-geometry.result c.empty_slot.result x (g.M.Medium.seen c.empty_slot.new.medium)) (ap (λ m. g.M.Medium.seen m) c.self.view_is) c.empty_slot.ensures.only))

claimed_none : (g : Over) (c : goal.After-from_residual-in_err-chain g) → OnlyContent c.geometry-geometry.result c.begin.result (g.M.Medium.seen c.args.self.now) (g.M.Medium.seen c.begin.new.medium)
claimed_none g c =
    only_after c.empty_slot.result c.in_ok-slot.field-0 c.begin.result (g.M.Medium.seen c.args.self.now) (g.M.Medium.seen c.empty_slot.new.medium) (g.M.Medium.seen c.begin.new.medium) c.in_ok-slot.was
    (subst (λ (x : Seen). OnlyContent c.geometry-geometry.result c.empty_slot.result x (g.M.Medium.seen c.empty_slot.new.medium)) (ap (λ m. g.M.Medium.seen m) c.self.view_is) c.empty_slot.ensures.only) c.begin.ensures.only

pub returns-in_err-chain-clause-only : goal.returns-in_err-chain-clause-only
returns-in_err-chain-clause-only g c =
    let p = err_from_is_err_and c.from_residual-in_err-chain.result c.from_residual-in_err-chain.ensures.1 in
    of_tracks c.geometry-geometry.result c.from_residual-in_err-chain.result (g.M.Medium.seen c.args.self.now) (g.M.Medium.seen c.begin.new.medium) c.geometry-geometry.ensures.value
    (only_refused c.begin.result c.from_residual-in_err-chain.result p.0 (g.M.Medium.seen c.args.self.now) (g.M.Medium.seen c.begin.new.medium) (c.in_err-chain.was ∙ ap Err (sym p.2)) p.1 (claimed_none g c))

claimed_refused : (g : Over) (c : goal.After-from_residual-in_err-put_slot g) → OnlyContent c.geometry-geometry.result c.begin.result (g.M.Medium.seen c.args.self.now) (g.M.Medium.seen c.begin.new.medium)
claimed_refused g c =
    only_after c.empty_slot.result c.in_ok-slot.field-0 c.begin.result (g.M.Medium.seen c.args.self.now) (g.M.Medium.seen c.empty_slot.new.medium) (g.M.Medium.seen c.begin.new.medium) c.in_ok-slot.was
    (subst (λ (x : Seen). OnlyContent c.geometry-geometry.result c.empty_slot.result x (g.M.Medium.seen c.empty_slot.new.medium)) (ap (λ m. g.M.Medium.seen m) c.self.view_is) c.empty_slot.ensures.only) c.begin.ensures.only

put_refused : (g : Over) (c : goal.After-from_residual-in_err-put_slot g) → OnlyContent c.geometry-geometry.result c.put_slot.result (g.M.Medium.seen c.args.self.now) (g.M.Medium.seen c.put_slot.new.medium)
put_refused g c =
    only_after c.begin.result c.in_ok-chain.field-0 c.put_slot.result (g.M.Medium.seen c.args.self.now) (g.M.Medium.seen c.begin.new.medium) (g.M.Medium.seen c.put_slot.new.medium) c.in_ok-chain.was
    (claimed_refused g c) c.put_slot.ensures.only

pub returns-in_err-put_slot-clause-only : goal.returns-in_err-put_slot-clause-only
returns-in_err-put_slot-clause-only g c =
    let p = err_from_is_err_and c.from_residual-in_err-put_slot.result c.from_residual-in_err-put_slot.ensures.1 in
    of_tracks c.geometry-geometry.result c.from_residual-in_err-put_slot.result (g.M.Medium.seen c.args.self.now) (g.M.Medium.seen c.put_slot.new.medium) c.geometry-geometry.ensures.value
    (only_refused c.put_slot.result c.from_residual-in_err-put_slot.result p.0 (g.M.Medium.seen c.args.self.now) (g.M.Medium.seen c.put_slot.new.medium) (c.in_err-put_slot.was ∙ ap Err (sym p.2)) p.1 (put_refused g c))

claimed_entered : (g : Over) (c : goal.After-of_new g) → OnlyContent c.geometry-geometry.result c.begin.result (g.M.Medium.seen c.args.self.now) (g.M.Medium.seen c.begin.new.medium)
claimed_entered g c =
    only_after c.empty_slot.result c.in_ok-slot.field-0 c.begin.result (g.M.Medium.seen c.args.self.now) (g.M.Medium.seen c.empty_slot.new.medium) (g.M.Medium.seen c.begin.new.medium) c.in_ok-slot.was
    (subst (λ (x : Seen). OnlyContent c.geometry-geometry.result c.empty_slot.result x (g.M.Medium.seen c.empty_slot.new.medium)) (ap (λ m. g.M.Medium.seen m) c.self.view_is) c.empty_slot.ensures.only) c.begin.ensures.only

put_entered : (g : Over) (c : goal.After-of_new g) → OnlyContent c.geometry-geometry.result c.put_slot.result (g.M.Medium.seen c.args.self.now) (g.M.Medium.seen c.put_slot.new.medium)
put_entered g c =
    only_after c.begin.result c.in_ok-chain.field-0 c.put_slot.result (g.M.Medium.seen c.args.self.now) (g.M.Medium.seen c.begin.new.medium) (g.M.Medium.seen c.put_slot.new.medium) c.in_ok-chain.was
    (claimed_entered g c) c.put_slot.ensures.only

pub returns-clause-only : goal.returns-clause-only
returns-clause-only g c =
    of_tracks c.geometry-geometry.result (Ok (Some c.of_new.result)) (g.M.Medium.seen c.args.self.now) (g.M.Medium.seen c.put_slot.new.medium) c.geometry-geometry.ensures.value
    (only_then c.put_slot.result (Ok (Some c.of_new.result)) c.in_ok-put_slot.field-0 (g.M.Medium.seen c.args.self.now) (g.M.Medium.seen c.put_slot.new.medium) c.in_ok-put_slot.was (put_entered g c) tt tt)

-- ---- on any disk

pub returns-in_default-clause-kept : goal.returns-in_default-clause-kept
returns-in_default-clause-kept g c = (none g c).2

pub returns-in_default-clause-led : goal.returns-in_default-clause-led
returns-in_default-clause-led g c =
    let none = none g c in
    (subst (λ (x : Content). IsOk (x directory_head)) (ap (λ m. (g.M.Medium.seen m).content) c.self.view_is) c.in_ok-free_bits.ensures.read, inr (none.0, none.1, refl))

pub returns-in_default-2-clause-kept : goal.returns-in_default-2-clause-kept
returns-in_default-2-clause-kept g c = absurd (no_none g c)

pub returns-in_default-2-clause-led : goal.returns-in_default-2-clause-led
returns-in_default-2-clause-led g c = absurd (no_none g c)

-- an OPEN that went well claims nothing of the kind
pub returns-clause-kept : goal.returns-clause-kept
returns-clause-kept g c = tt

-- the slot, the block and the entry, one after another
pub returns-clause-led : goal.returns-clause-led
returns-clause-led g c =
    let old : Seen = g.M.Medium.seen c.args.self.now in
    let tracks : ℕ = geometry_of old.tracks old.content in
    let taken : Content = (g.M.Medium.seen c.empty_slot.new.medium).content in
    let claimed : Content = (g.M.Medium.seen c.begin.new.medium).content in
    let new : Seen = g.M.Medium.seen c.put_slot.new.medium in
    let takes : TakesSlot tracks old.content taken (Some c.in-Some.slot) = moved (λ k x. TakesSlot k x taken (Some c.in-Some.slot)) c.geometry-geometry.result tracks (g.M.Medium.seen c.self.inside.medium).content old.content
    c.geometry-geometry.ensures.value (ap (λ m. (g.M.Medium.seen m).content) c.self.view_is) (subst (λ (o : Option ℕ). TakesSlot c.geometry-geometry.result (g.M.Medium.seen c.self.inside.medium).content taken o) c.in-Some.is c.in_ok-slot.ensures.taken) in
    let block = block_entered g c in
    let first : c.first_block.result ≡ block.0 = c.first_block.ensures ∙ ap (λ (s : State). place_or_none s.first) block.2 in
    let put : EntersLed tracks claimed new.content c.in-Some.slot (fresh_entry c.args.kind c.args.name.now block.0) =
    subst (λ (e : List ℕ). EntersLed tracks claimed new.content c.in-Some.slot e) (c.fresh-entry.ensures.value ∙ ap (fresh_entry c.args.kind c.args.name.now) first)
    (subst (λ (k : ℕ). EntersLed k claimed new.content c.in-Some.slot c.fresh-entry.result) c.geometry-geometry.ensures.value c.in_ok-put_slot.ensures.exact) in
    subst (λ (w : Filling). NewFileLed old new c.args.kind c.args.name.now w) (sym c.of_new.ensures) (taken, takes, claimed, block.0, block.1, refl, block.2, put)
