-- A growth begins: the side sectors are in the drive's form, and then the last data block is filled up.
use Rattle.std.proofs.Common.{◌≡◌, ℕ, ◌+◌, ◌-◌, ◌≤◌, List, [], ◌++◌, Some, Ok, Err, Result, refl, sym, ap, subst, ◌∙◌, inl, inr, arith}
use Rattle.std.specs.Prelude.{MatchResult, replicate}
use Rattle.std.proofs.lemmas.List.{append-nil}
use Rattle.cbm_medium.specs.Place.{Place}
use Rattle.cbm_medium.specs.Content.{Content}
use Rattle.cbm_medium.specs.Seen.{Seen}
use Rattle.cbm_medium.specs.declared.fault.Trouble.{Trouble}
use Rattle.cbm_file.specs.Files.{Disk, Records, with_slot}
use Rattle.cbm_file.specs.Records.{fresh_record}
use Rattle.cbm_bam.specs.Map.{geometry_of}
use Rattle.cbm_directory.specs.Entries.{entry_at, first_block, first_side}
use Rattle.cbm_relfile.specs.Records.{Relative}
use Rattle.cbm_volume.specs.Layouts.{Directory, Layout}
use Rattle.cbm_volume.specs.Writers.{Use, HoldsAt, HoldsNow}
use Rattle.cbm_volume.specs.RecordWrites.{HasRecordsOpen}
use Rattle.cbm_volume.specs.Growth.{IsGrowthCut, filled_up}
use Rattle.cbm_volume.specs.Growing.{disk_with, LeavesAside, HasGrown, IsGrowthStopped}
use Rattle.cbm_volume.specs.Opens.{IsHindered}
use Rattle.cbm_volume.specs.Relists.{IsSameDisk}
use Rattle.cbm_volume.proofs.grown.GrowingSteps.{Stage, aside_then, aside_directory, cut_of}
use Rattle.cbm_volume.proofs.layouts.Loose.{entry_kept}
use Rattle.cbm_volume.proofs.relative.LastGrown.{in_layout, same_disk}

-- the file's records are open where the disk is the same
abbrev pub reopened : (medium now : ℕ) (c0 m : Content) (d : Disk) (uses : ℕ → Use) (n w b s : ℕ) (rs : List (List ℕ)) (o : HasRecordsOpen medium c0 d uses n w b s rs) → now ≡ medium → IsSameDisk medium c0 m o.holds.layout d uses n → HasRecordsOpen now m d uses n w b s rs
reopened medium now c0 m d uses n w b s rs o e h = record {
  holds = record { layout = o.holds.layout; so = subst (λ (t : ℕ). HoldsAt t m o.holds.layout d uses) (sym (ap (λ (k : ℕ). geometry_of k m) e ∙ h.same)) h.holds };
  channel = o.channel;
  relates = o.relates;
  file = o.file;
  in_slot = o.in_slot;
  body = o.body;
}

-- what holds of a medium holds of the same content on as many tracks
pub same_medium : (old mid : Seen) (Q : ℕ → Content → Type 0) → mid.tracks ≡ old.tracks → mid.content ≡ old.content → Q mid.tracks mid.content → Q old.tracks old.content
same_medium old mid Q tracks content q = subst (λ (t : ℕ). Q t old.content) tracks (subst (λ (c : Content). Q mid.tracks c) content q)

-- what a stop left is the same since the growth began
cut_since : (old mid new : Seen) (d : Disk) (uses : ℕ → Use) (n w : ℕ) (rs : List (List ℕ)) (t : Trouble) → mid.tracks ≡ old.tracks → mid.protected ≡ old.protected → old.failures ≤ mid.failures → IsGrowthCut mid new d uses n w rs t → IsGrowthCut old new d uses n w rs t
cut_since old mid new d uses n w rs t tracks protected counted g = record {
  file = g.file;
  in_slot = g.in_slot;
  so_far = g.so_far;
  blocks = g.blocks;
  sides = g.sides;
  shown = g.shown;
  free = g.free;
  holds = subst (λ (k : ℕ). HoldsNow k new.content now uses) tracks g.holds;
  cause = by_cause g.cause;
}
  where
    now : Disk
    now = record (with_slot d n (Some (record g.file { shown = g.shown; held = g.blocks + g.sides; body = Records w (rs ++ replicate g.so_far (fresh_record w)) g.blocks g.sides }))) { free = g.free }

    by_cause : IsHindered mid new t → IsHindered old new t
    by_cause (inl (p, e)) = inl (sym protected ∙ p, e)
    by_cause (inr failed) = inr (omega (arith, failed, counted))

module _ (old mid new : Seen) (d : Disk) (uses : ℕ → Use) (n w b s : ℕ) (rs : List (List ℕ)) (o : HasRecordsOpen old.tracks old.content d uses n w b s rs) where
  abbrev pub l : Layout
  l = o.holds.layout

  abbrev pub Names : Content → Relative → Type 0
  Names c file = file ≡ record { first = first_block (entry_at c o.holds.layout.directory n); side = first_side (entry_at c o.holds.layout.directory n); width = w }

  -- the entry names the same file
  pub names_same : (file : Relative) → IsSameDisk old.tracks old.content mid.content l d uses n → Names old.content file → Names mid.content file
  names_same file h is =
      let same : entry_at mid.content l.directory n ≡ entry_at old.content l.directory n = entry_kept old.content mid.content l o.holds.so.stands.sound.owned (λ p e. (h.aside Directory (aside_directory n) p e).0) n (in_layout old.tracks old.content d uses n w b s rs o) in
      is ∙ (λ i. record { first = first_block (sym same i); side = first_side (sym same i); width = w })

  -- a side sector isn't written: the growth stops before it began
  pub stopped_first : (t : Trouble) → IsSameDisk old.tracks old.content new.content l d uses n → IsHindered old new t → IsGrowthStopped old new old.content l d uses n w rs t
  stopped_first t h cause =
      let stage : Stage old.tracks old.content l d uses n o.file w new.content l (rs ++ []) b s d.free = record {
        holds = subst (λ (x : Disk). HoldsAt (geometry_of old.tracks old.content) new.content l x uses) (sym (same_disk old.tracks old.content d uses n w b s rs o) ∙ ap (λ (ys : List (List ℕ)). disk_with d n o.file w ys b s d.free) (sym (append-nil rs))) h.holds;
        same = h.same;
        count = refl;
        aside = h.aside;
      } in
      (cut_of old new old.content d uses n w o.file rs l new.content l 0 b s d.free t o.in_slot stage refl cause, λ x a p e. (h.aside x a p e).0)

  -- the last block is filled up, or not
  pub begun_means : (h : IsSameDisk old.tracks old.content mid.content l d uses n) (file : Relative) (r : Result Place Trouble) (e : mid.tracks ≡ old.tracks) → mid.protected ≡ old.protected → old.failures ≤ mid.failures
      → LeavesAside n mid.content l new.content l
      → MatchResult r (λ at. HasGrown mid.tracks mid.content d uses n w b s rs (reopened old.tracks mid.tracks old.content mid.content d uses n w b s rs o e h) file new.content b s at) (IsGrowthCut mid new d uses n w rs)
      → MatchResult r (λ at. HasGrown old.tracks old.content d uses n w b s rs o file new.content b s at) (IsGrowthStopped old new old.content l d uses n w rs)
  begun_means h file (Ok at) tracks protected counted aside g = record {
    layout = g.layout;
    holds = subst (λ (t : ℕ). HoldsAt t new.content g.layout (disk_with d n o.file w (filled_up w b rs) b s (d.free - (b + s - (b + s)))) uses) (ap (λ (k : ℕ). geometry_of k mid.content) tracks ∙ h.same) g.holds;
    same = ap (λ (k : ℕ). geometry_of k new.content) (sym tracks) ∙ g.same ∙ ap (λ (k : ℕ). geometry_of k mid.content) tracks ∙ h.same;
    count = g.count;
    file = g.file;
    listed = g.listed;
    full = g.full;
    last_is = g.last_is;
    more = g.more;
    aside = aside_then n old.content mid.content new.content l l g.layout h.aside g.aside;
  }
  begun_means h file (Err t) tracks protected counted aside g =
      (cut_since old mid new d uses n w rs t tracks protected counted g, λ x a p e. (aside_then n old.content mid.content new.content l l l h.aside aside x a p e).0)
