-- The end of a growth: the entry tells how many blocks the file has.
use Rattle.std.proofs.Common.{◌≡◌, ◌≢◌, ◌⊎◌, ℕ, ◌+◌, ◌-◌, ◌≤◌, List, [], length, Some, Result, Ok, Err, sym, ap, subst, append-nil, ◌∙◌, arith, inl, inr}
use Rattle.std.specs.Prelude.{MatchResult, ◌==◌}
use Rattle.cbm_medium.specs.Place.{Place, Has}
use Rattle.cbm_medium.specs.Seen.{Seen}
use Rattle.cbm_medium.specs.declared.fault.Trouble.{Trouble}
use Rattle.cbm_directory.specs.Entries.{first_directory}
use Rattle.cbm_file.specs.Files.{Disk, File, Records, file_at, with_slot}
use Rattle.cbm_file.specs.Records.{record_count, sides_for, with_sized_body}
use Rattle.cbm_bam.specs.Map.{geometry_of}
use Rattle.cbm_relfile.specs.Records.{Relative}
use Rattle.cbm_volume.specs.Growth.{filled_up}
use Rattle.cbm_volume.specs.Growing.{disk_with, HasGrown, IsGrowthStopped, IsGrownTo}
use Rattle.cbm_volume.specs.Layouts.{Directory, DataOf, SideOf, Layout, Sound}
use Rattle.cbm_volume.specs.Staying.{LeavesClosed}
use Rattle.cbm_volume.specs.Opens.{IsHindered}
use Rattle.cbm_volume.specs.RecordWrites.{HasRecordsOpen}
use Rattle.cbm_volume.specs.Writers.{Use, Relates, HoldsAt, HoldsNow}
use Rattle.cbm_volume.proofs.grown.BlockCounts.{grown_disk}
use Rattle.cbm_volume.proofs.layouts.Frames.{Keeps, chain_kept}
use Rattle.cbm_volume.proofs.layouts.Chained.{chain_settled}
use Rattle.cbm_volume.proofs.layouts.Staying.{KeepsEntries, entries_kept, entries_later, leaves_others}
use Rattle.cbm_volume.proofs.grown.GrowingLists.{nth_block}
use Rattle.cbm_volume.proofs.grown.GrowingSteps.{Stage, file_there, aside_data, aside_directory, aside_side, stop_of}
use Rattle.cbm_volume.proofs.grown.GrowingTurns.{FileLies, lies_at, slot_in, stage_of}
use Rattle.cbm_volume.proofs.layouts.Refusals.{hindered_since}

-- ---- the other files

-- after a stop, and after the whole
pub stopped_untouched : (old new : Seen) (l0 : Layout) (d : Disk) (uses : ℕ → Use) (n w : ℕ) (rs : List (List ℕ)) (t : Trouble) → Sound (geometry_of old.tracks old.content) old.content l0 → IsGrowthStopped old new old.content l0 d uses n w rs t
    → LeavesClosed (geometry_of old.tracks old.content) old.content new.content (λ m. m == n) (λ m. m == n)
stopped_untouched old new l0 d uses n w rs t s k =
    leaves_others (geometry_of old.tracks old.content) old.content new.content l0 n s (λ m ne. (k.1 (DataOf m) (aside_data n m ne), k.1 (SideOf m) (aside_side n m ne)))
    (entries_kept l0 old.content new.content (λ m. m == n) s.owned (k.1 Directory (aside_directory n)))

pub grown_untouched : (old new : Seen) (l0 : Layout) (d : Disk) (uses : ℕ → Use) (n w : ℕ) (rs : List (List ℕ)) (b s b1 : ℕ) → Sound (geometry_of old.tracks old.content) old.content l0 → IsGrownTo old.tracks old.content new.content l0 d uses n w rs b s b1
    → LeavesClosed (geometry_of old.tracks old.content) old.content new.content (λ m. m == n) (λ m. m == n)
grown_untouched old new l0 d uses n w rs b s b1 t k =
    leaves_others (geometry_of old.tracks old.content) old.content new.content l0 n t (λ m ne. (λ p h. k.aside m ne p (inl h), λ p h. k.aside m ne p (inr h))) k.entries

data_no_directory : (m : ℕ) → DataOf m ≢ Directory
data_no_directory m = λ z. (cc)

side_no_directory : (m : ℕ) → SideOf m ≢ Directory
side_no_directory m = λ z. (cc)

-- ---- the entry

-- what the call that tells the blocks says
abbrev pub Tells : ℕ → Seen → Seen → ℕ → ℕ → Result (Unit {0}) Trouble → Type 0
Tells m old new n blocks res = (d : Disk) (uses : ℕ → Use) (ch : ℕ) (f : File) → HoldsNow m old.content d uses → uses ch ≡ Relates n → file_at d n ≡ Some f
    → MatchResult res (λ x. HoldsNow m new.content (with_slot d n (Some (record f { shown = blocks }))) uses) (λ t. (new.content ≡ old.content) × IsHindered old new t)

abbrev pub TellsElsewhere : ℕ → Seen → Seen → Type 0
TellsElsewhere m old new = (d : Disk) (uses : ℕ → Use) → (h : HoldsNow m old.content d uses) → (p : Place) → h.layout.owner p ≢ Directory → new.content p ≡ old.content p

abbrev pub TellsEntries : ℕ → Seen → Seen → ℕ → Type 0
TellsEntries m old new n = (d : Disk) (uses : ℕ → Use) → (h : HoldsNow m old.content d uses) → KeepsEntries h.layout old.content new.content (λ k. k == n)

module _ (old mid new : Seen) (d : Disk) (uses : ℕ → Use) (n w b s : ℕ) (rs : List (List ℕ)) (o : HasRecordsOpen old.tracks old.content d uses n w b s rs) (r : Relative) (b1 s1 : ℕ) (last : Place)
    (g : HasGrown old.tracks old.content d uses n w b s rs o r mid.content b1 s1 last) (same : mid.tracks ≡ old.tracks) (protected : mid.protected ≡ old.protected) (counted : old.failures ≤ mid.failures) where
  abbrev free : ℕ
  free = d.free - (b1 + s1 - (b + s))

  abbrev now : Disk
  now = disk_with d n o.file w (filled_up w b1 rs) b1 s1 free

  -- the last block is one of the disk
  pub last_has : Has (geometry_of old.tracks old.content) last
  last_has =
      let st : Stage old.tracks old.content o.holds.layout d uses n o.file w mid.content g.layout (filled_up w b1 rs) b1 s1 free = stage_of old.tracks old.content d uses n w b s rs o r mid.content b1 s1 last g in
      let lies : FileLies (geometry_of old.tracks old.content) mid.content g.layout n w (filled_up w b1 rs) b1 s1 = lies_at old.tracks old.content d uses n w b s rs o mid.content g.layout (filled_up w b1 rs) b1 s1 free st in
      (nth_block (geometry_of old.tracks old.content) mid.content g.layout n w (filled_up w b1 rs) b1 s1 (b1 - 1) last g.holds.stands.sound (slot_in old.tracks old.content d uses n w b s rs o mid.content g.layout (filled_up w b1 rs) b1 s1 free st) lies
      (omega (arith, lies.blocks, lies.records.some_block)) g.last_is).has

  abbrev holds_now : HoldsNow old.tracks mid.content now uses
  holds_now = record { layout = g.layout; so = subst (λ (t : ℕ). HoldsAt t mid.content g.layout now uses) (sym g.same) g.holds }

  pub told_ends : (res : Result (Unit {0}) Trouble) (blocks : ℕ) → blocks ≡ b1 + s1 → s1 ≡ sides_for s b1 → Tells mid.tracks mid new n blocks res → TellsElsewhere mid.tracks mid new → TellsEntries mid.tracks mid new n
      → MatchResult res (λ x. IsGrownTo old.tracks old.content new.content o.holds.layout d uses n w rs b s b1) (IsGrowthStopped old new old.content o.holds.layout d uses n w rs)
  told_ends res blocks count sides tell elsewhere told =
      by_result res (subst (λ (m : ℕ). Tells m mid new n blocks res) same tell now uses o.channel (record o.file { held = b1 + s1; body = Records w (filled_up w b1 rs) b1 s1 }) holds_now o.relates (file_there old.tracks old.content d uses n w b s rs o (filled_up w b1 rs) b1 s1 free))
    where
      aside : (m : ℕ) → m ≢ n → (p : Place) → (o.holds.layout.owner p ≡ DataOf m) ⊎ (o.holds.layout.owner p ≡ SideOf m) → new.content p ≡ old.content p
      aside m ne p (inl h) = let k = g.aside (DataOf m) (aside_data n m ne) p h in subst (λ (x : ℕ). TellsElsewhere x mid new) same elsewhere now uses holds_now p (λ z. data_no_directory m (sym k.1 ∙ z)) ∙ k.0
      aside m ne p (inr h) = let k = g.aside (SideOf m) (aside_side n m ne) p h in subst (λ (x : ℕ). TellsElsewhere x mid new) same elsewhere now uses holds_now p (λ z. side_no_directory m (sym k.1 ∙ z)) ∙ k.0

      -- the directory is the one that it was, and up to here none of its sectors was written
      kept : Keeps old.content mid.content o.holds.layout.owner Directory
      kept p e = (g.aside Directory (aside_directory n) p e).0

      same_directory : g.layout.directory ≡ o.holds.layout.directory
      same_directory = chain_settled (geometry_of old.tracks old.content) mid.content first_directory g.layout.directory o.holds.layout.directory g.holds.stands.sound.directory
          (chain_kept (geometry_of old.tracks old.content) old.content mid.content o.holds.layout.owner Directory kept first_directory o.holds.layout.directory o.holds.so.stands.sound.owned.directory o.holds.so.stands.sound.directory)

      entries : KeepsEntries o.holds.layout old.content new.content (λ m. m == n)
      entries = entries_later o.holds.layout g.layout old.content mid.content new.content (λ m. m == n) ([], same_directory ∙ sym (append-nil o.holds.layout.directory))
          (entries_kept o.holds.layout old.content mid.content (λ m. m == n) o.holds.so.stands.sound.owned kept) (subst (λ (x : ℕ). TellsEntries x mid new n) same told now uses holds_now)

      by_result : (y : Result (Unit {0}) Trouble) → MatchResult y (λ x. HoldsNow old.tracks new.content (with_slot now n (Some (record o.file { shown = blocks; held = b1 + s1; body = Records w (filled_up w b1 rs) b1 s1 }))) uses) (λ t. (new.content ≡ mid.content) × IsHindered mid new t)
          → MatchResult y (λ x. IsGrownTo old.tracks old.content new.content o.holds.layout d uses n w rs b s b1) (IsGrowthStopped old new old.content o.holds.layout d uses n w rs)
      by_result (Ok x) h =
          let f1 : File = record o.file { held = b1 + s1; body = Records w (filled_up w b1 rs) b1 s1 } in
          let disk : with_slot now n (Some (record f1 { shown = blocks })) ≡ record (with_sized_body d n (b1 + s1) (Records w (filled_up w b1 rs) b1 s1)) { free = free } =
          ap (λ (k : ℕ). with_slot now n (Some (record f1 { shown = k }))) count ∙ grown_disk old.tracks old.content d uses n w b s rs o (filled_up w b1 rs) b1 s1 free in
          record {
            holds = subst (λ (k : ℕ). HoldsNow old.tracks new.content (record (with_sized_body d n (b1 + k) (Records w (filled_up w b1 rs) b1 k)) { free = d.free - (b1 + k - (b + s)) }) uses) sides (subst (λ (y : Disk). HoldsNow old.tracks new.content y uses) disk h);
            aside = aside;
            entries = entries;
          }
      by_result (Err t) h = stop_of old new old.content d uses n w o.file rs o.holds.layout mid.content g.layout (record_count w b1 - length rs) b1 s1 free t o.in_slot
          (stage_of old.tracks old.content d uses n w b s rs o r mid.content b1 s1 last g) h.0 (hindered_since old mid new t protected counted h.1)
