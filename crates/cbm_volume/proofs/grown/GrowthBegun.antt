-- A growth begins with more side sectors: what is reached from there is reached from the beginning.
use Rattle.std.proofs.Common.{◌≡◌, ℕ, ◌+◌, ◌-◌, ◌*◌, ◌/◌, ◌≤◌, List, ◌++◌, Some, refl, sym, ap, subst, ◌∙◌, arith}
use Rattle.std.specs.Prelude.{replicate, max}
use Rattle.std.proofs.lemmas.List.{set-set}
use Rattle.std.proofs.Math.Nat.{le-max_left, le-max_right, max-le}
use Rattle.cbm_medium.specs.Place.{Place}
use Rattle.cbm_medium.specs.Content.{Content}
use Rattle.cbm_medium.specs.Seen.{Seen}
use Rattle.cbm_medium.specs.declared.fault.Trouble.{Trouble}
use Rattle.cbm_file.specs.Files.{Disk, File, Records, with_slot}
use Rattle.cbm_file.specs.Records.{fresh_record, sides_for}
use Rattle.cbm_bam.specs.Map.{geometry_of}
use Rattle.cbm_directory.specs.Entries.{entry_at, first_block, first_side}
use Rattle.cbm_relfile.specs.Records.{Relative}
use Rattle.cbm_volume.specs.AddingSides.{HasSides}
use Rattle.cbm_volume.specs.Writers.{Use, HoldsAt, HoldsNow}
use Rattle.cbm_volume.specs.RecordWrites.{HasRecordsOpen}
use Rattle.cbm_volume.specs.Growth.{filled_up}
use Rattle.cbm_volume.specs.Growing.{disk_with, HasGrown, IsGrowthStopped}
use Rattle.cbm_volume.proofs.grown.GrowingSteps.{aside_then, file_there}
use Rattle.cbm_volume.proofs.layouts.Refusals.{hindered_since}
use Rattle.cbm_volume.proofs.relative.LastGrown.{begins}

-- a file has the side sectors that it has
pub sides_begin : (medium : ℕ) (c0 : Content) (d : Disk) (uses : ℕ → Use) (n w b s : ℕ) (rs : List (List ℕ)) (o : HasRecordsOpen medium c0 d uses n w b s rs) (r : Relative)
    → r ≡ record { first = first_block (entry_at c0 o.holds.layout.directory n); side = first_side (entry_at c0 o.holds.layout.directory n); width = w } → HasSides medium c0 d uses n w b s rs o r c0 s
sides_begin medium c0 d uses n w b s rs o r is =
    let at = begins medium c0 d uses n w b s rs o in
    let none : d.free ≡ d.free - (s - s) = omega arith in
    record {
      layout = o.holds.layout;
      holds = subst (λ (m : ℕ). HoldsAt (geometry_of medium c0) c0 o.holds.layout (disk_with d n o.file w rs b s m) uses) none at.holds;
      same = refl;
      count = refl;
      file = is;
      more = omega arith;
      aside = at.aside;
    }

-- the side sectors list all blocks
pub enough_sides : (s b : ℕ) → b ≤ 120 * sides_for s b
enough_sides s b = let most : (b + 119) / 120 ≤ max s ((b + 119) / 120) = le-max_right s ((b + 119) / 120) in omega (arith, most)

more_sides : (s b c : ℕ) → b ≤ c → sides_for s b ≤ sides_for s c
more_sides s b c h = max-le {a = s} {b = (b + 119) / 120} {k = sides_for s c} (le-max_left s ((c + 119) / 120)) (let most : (c + 119) / 120 ≤ sides_for s c = le-max_right s ((c + 119) / 120) in omega (arith, h, most))

-- there is room for the side sectors that a file lacks where there is room for all that it takes
pub sides_room : (s b c free : ℕ) → b ≤ c → c + sides_for s c - (b + s) ≤ free → sides_for s b - s ≤ free
sides_room s b c free h room = (let more = more_sides s b c h in omega (arith, h, room, more))

-- the side sectors of a longer file are enough for the shorter one
pub sides_twice : (s b c : ℕ) → b ≤ c → sides_for (sides_for s b) c ≡ sides_for s c
sides_twice s b c h =
    let one : sides_for (sides_for s b) c ≤ sides_for s c = max-le {a = sides_for s b} {b = (c + 119) / 120} {k = sides_for s c} (more_sides s b c h) (le-max_right s ((c + 119) / 120)) in
    let low : s ≤ sides_for (sides_for s b) c = (let x : s ≤ sides_for s b = le-max_left s ((b + 119) / 120) in let y : sides_for s b ≤ sides_for (sides_for s b) c = le-max_left (sides_for s b) ((c + 119) / 120) in omega (arith, x, y)) in
    let other : sides_for s c ≤ sides_for (sides_for s b) c = max-le {a = s} {b = (c + 119) / 120} {k = sides_for (sides_for s b) c} low (le-max_right (sides_for s b) ((c + 119) / 120)) in
    omega (arith, one, other)

module _ (old mid new : Seen) (d : Disk) (uses : ℕ → Use) (n w b s : ℕ) (rs : List (List ℕ)) (o : HasRecordsOpen old.tracks old.content d uses n w b s rs) (r : Relative) (k : ℕ) (g : HasSides old.tracks old.content d uses n w b s rs o r mid.content k)
    (same : mid.tracks ≡ old.tracks) where
  abbrev pub free : ℕ
  free = d.free - (k - s)

  -- the disk on which the file has so many side sectors, and the file
  abbrev pub d1 : Disk
  d1 = disk_with d n o.file w rs b k free

  abbrev pub f1 : File
  f1 = record o.file { held = b + k; body = Records w rs b k }

  -- its records are open still
  abbrev pub open_again : HasRecordsOpen mid.tracks mid.content d1 uses n w b k rs
  open_again = record {
    holds = record { layout = g.layout; so = subst (λ (t : ℕ). HoldsAt t mid.content g.layout d1 uses) (sym (ap (λ (m : ℕ). geometry_of m mid.content) same ∙ g.same)) g.holds };
    channel = o.channel;
    relates = o.relates;
    file = f1;
    in_slot = file_there old.tracks old.content d uses n w b s rs o rs b k free;
    body = refl;
  }

  -- WHAT IS REACHED FROM THERE is reached from the beginning
  pub grown_since : (last : Place) → HasGrown mid.tracks mid.content d1 uses n w b k rs open_again r new.content b k last → HasGrown old.tracks old.content d uses n w b s rs o r new.content b k last
  grown_since last h =
      let rs2 : List (List ℕ) = filled_up w b rs in
      let left : free - (b + k - (b + k)) ≡ d.free - (b + k - (b + s)) = omega (arith, g.more) in
      let disk : disk_with d1 n f1 w rs2 b k (free - (b + k - (b + k))) ≡ disk_with d n o.file w rs2 b k (d.free - (b + k - (b + s))) =
      (λ i. record d { slots = set-set d.slots n (Some f1) (Some (record o.file { held = b + k; body = Records w rs2 b k })) i; free = left i }) in
      record {
        layout = h.layout;
        holds = subst (λ (x : Disk). HoldsAt (geometry_of old.tracks old.content) new.content h.layout x uses) disk
            (subst (λ (t : ℕ). HoldsAt t new.content h.layout (disk_with d1 n f1 w rs2 b k (free - (b + k - (b + k)))) uses) (ap (λ (m : ℕ). geometry_of m mid.content) same ∙ g.same) h.holds);
        same = ap (λ (m : ℕ). geometry_of m new.content) (sym same) ∙ h.same ∙ ap (λ (m : ℕ). geometry_of m mid.content) same ∙ g.same;
        count = h.count ∙ g.count;
        file = h.file;
        listed = h.listed;
        full = h.full;
        last_is = h.last_is;
        more = (omega arith, g.more);
        aside = aside_then n old.content mid.content new.content o.holds.layout g.layout h.layout g.aside h.aside;
      }

  -- what stops it there stops the growth
  pub stopped_since : (t : Trouble) → mid.protected ≡ old.protected → old.failures ≤ mid.failures → IsGrowthStopped mid new mid.content g.layout d1 uses n w rs t → IsGrowthStopped old new old.content o.holds.layout d uses n w rs t
  stopped_since t protected counted h =
      let cut = h.0 in
      let is : cut.file ≡ f1 = (let z = sym cut.in_slot ∙ file_there old.tracks old.content d uses n w b s rs o rs b k free in (cc)) in
      let body : List (List ℕ) = rs ++ replicate cut.so_far (fresh_record w) in
      let f2 : File = record o.file { shown = cut.shown; held = cut.blocks + cut.sides; body = Records w body cut.blocks cut.sides } in
      let disk : record (with_slot d1 n (Some (record cut.file { shown = cut.shown; held = cut.blocks + cut.sides; body = Records w body cut.blocks cut.sides }))) { free = cut.free } ≡ record (with_slot d n (Some f2)) { free = cut.free } =
      (λ i. record (with_slot d1 n (Some (record (is i) { shown = cut.shown; held = cut.blocks + cut.sides; body = Records w body cut.blocks cut.sides }))) { free = cut.free })
      ∙ (λ i. record d { slots = set-set d.slots n (Some f1) (Some f2) i; free = cut.free }) in (
        record {
          file = o.file;
          in_slot = o.in_slot;
          so_far = cut.so_far;
          blocks = cut.blocks;
          sides = cut.sides;
          shown = cut.shown;
          free = cut.free;
          holds = subst (λ (x : Disk). HoldsNow old.tracks new.content x uses) disk (subst (λ (m : ℕ). HoldsNow m new.content (record (with_slot d1 n (Some (record cut.file { shown = cut.shown; held = cut.blocks + cut.sides; body = Records w body cut.blocks cut.sides }))) { free = cut.free }) uses) same cut.holds);
          cause = hindered_since old mid new t protected counted cut.cause;
        },
        λ x a p e. (let q = g.aside x a p e in h.1 x a p q.1 ∙ q.0),
      )
