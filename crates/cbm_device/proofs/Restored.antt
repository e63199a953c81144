-- A drive that is read from another one's bytes is the same.
use Rattle.std.proofs.Common.{◌≡◌, ℕ, Bool, true, false, List, [], ◌∷◌, ◌++◌, length, get_or, drop, Option, Some, None, refl, sym, ap, subst, ◌∙◌, append-nil, arith}
use Rattle.cbm_saved.specs.Steps.{◌>>=◌}
use Rattle.cbm_saved.specs.Numbers.{eight_bytes, eight_at}
use Rattle.cbm_saved.specs.Texts.{front_of}
use Rattle.cbm_saved.specs.Seals.{seal_opened}
use Rattle.cbm_saved.proofs.Again.{eight_again, front_again}
use Rattle.cbm_saved.proofs.Seals.{seal_opens}
use Rattle.cbm_channel.specs.Saved.{flag_byte}
use Rattle.cbm_channel.specs.Loaded.{is_flag}
use Rattle.cbm_channel.specs.Standing.{Kept}
use Rattle.cbm_drive.specs.Desks.{Desk}
use Rattle.cbm_drive.specs.Seats.{Seated}
use Rattle.cbm_drive.specs.Saved.{saved_seat, MaySit}
use Rattle.cbm_drive.specs.Loaded.{seat_at}
use Rattle.cbm_drive.proofs.SavedAgain.{seat_again}
use Rattle.cbm_medium.specs.Seen.{Seen}
use Rattle.cbm_d64.specs.Image.{Image, d64_seen}
use Rattle.cbm_g64.specs.NewFile.{base_of, new_file}
use Rattle.cbm_g64.specs.Rest.{g64_rest}
use Rattle.cbm_g64.specs.Tracks.{g64_content, id_for}
use Rattle.cbm_image.specs.declared.kind.Kind.{Kind}
use Rattle.cbm_image.specs.declared.kind.Kind.TheVariants as kind
use Rattle.cbm_device.specs.declared.image_disk.Sectors.{Sectors}
use Rattle.cbm_image.specs.declared.any_disk.AnyDisk.TheVariants.{D64, G64}
use Rattle.cbm_device.specs.declared.image_disk.Sectors.TheVariants.{Held, Blank}
use Rattle.cbm_device.specs.ImageDisks.{Counted, counted_seen, sectors_seen}
use Rattle.cbm_device.specs.Devices.{OnLines}
use Rattle.cbm_device.specs.Snapshots.{DiskParts, AreSectorsOf, IsDiskWith, saved_parts, disk_parts_at, kind_number, kind_by, state_bytes, snapshot_version, IsSnapshot, IsStateOf, IsRestoredFrom, IsSameDrive}

bound : {A B : Type 0} (o : Option A) (x : A) (f : A → Option B) → o ≡ Some x → (o >>= f) ≡ f x
bound o x f e = ap (λ p. p >>= f) e

abbrev or_else : {A : Type 0} → A → Option A → A
or_else a None = a
or_else a (Some x) = x

some_is : {A : Type 0} (x y : A) → Some x ≡ Some y → x ≡ y
some_is x y e = ap (or_else x) e

flag_again : (b : Bool) → is_flag (flag_byte b) ≡ b
flag_again true = refl
flag_again false = refl

kind_again : (k : Option Kind) → kind_by (kind_number k) ≡ k
kind_again None = refl
kind_again (Some kind.D64) = refl
kind_again (Some kind.G64) = refl

-- the parts with another protection
abbrev with_protection : DiskParts → Bool → DiskParts
with_protection p b = record { format = p.format; protected = b; writes = p.writes; image = p.image }

-- the steps of reading, once the format and the protection are read
abbrev with_image : DiskParts → ℕ → List ℕ × List ℕ → Option (DiskParts × List ℕ)
with_image p writes image = Some (record { format = p.format; protected = is_flag (flag_byte p.protected); writes = writes; image = image.0 }, image.1)

abbrev with_count : DiskParts → ℕ → ℕ × List ℕ → Option (DiskParts × List ℕ)
with_count p writes count = front_of count.0 count.1 >>= with_image p writes

abbrev with_writes : DiskParts → ℕ × List ℕ → Option (DiskParts × List ℕ)
with_writes p writes = eight_at writes.1 >>= with_count p writes.0

parts_again : (p : DiskParts) (rest : List ℕ) → disk_parts_at (saved_parts p ++ rest) ≡ Some (p, rest)
parts_again p rest =
    bound (eight_at (eight_bytes p.writes ++ (eight_bytes (length p.image) ++ (p.image ++ rest)))) (p.writes, eight_bytes (length p.image) ++ (p.image ++ rest)) (with_writes p)
    (eight_again p.writes (eight_bytes (length p.image) ++ (p.image ++ rest)))
    ∙ bound (eight_at (eight_bytes (length p.image) ++ (p.image ++ rest))) (length p.image, p.image ++ rest) (with_count p p.writes) (eight_again (length p.image) (p.image ++ rest))
    ∙ bound (front_of (length p.image) (p.image ++ rest)) (p.image, rest) (with_image p p.writes) (front_again p.image rest)
    ∙ ap (λ (b : Bool). Some (with_protection p b, rest)) (flag_again p.protected)

-- ---- the disk

d64_same : (a b : Image) → a.bytes ≡ b.bytes → a.protected ≡ b.protected → d64_seen a ≡ d64_seen b
d64_same a b e f = λ i. d64_seen (record { bytes = e i; protected = f i })

seen_same : (p : DiskParts) (a b : Sectors) → AreSectorsOf p a → AreSectorsOf p b → sectors_seen a ≡ sectors_seen b
seen_same p (Held (D64 x)) (Held (D64 y)) h k = d64_same x y (sym h.2 ∙ k.2) (sym h.1 ∙ k.1)
seen_same p (Held (G64 x)) (Held (G64 y)) h k =
    let t : x.tracks ≡ y.tracks = sym h.3 ∙ k.3 in
    let q : x.protected ≡ y.protected = sym h.1 ∙ k.1 in
    let rest : g64_rest (base_of x.formatted x.file) ≡ g64_rest (base_of y.formatted y.file) = sym h.4 ∙ k.4 in
    λ i. record {
      content = g64_content (t i);
      tracks = 35;
      protected = q i;
      failures = 0;
      refused = None;
      id = Some (id_for (t i));
      outside = record { kept = rest i; formatted = g64_rest new_file };
    }
seen_same p Blank Blank h k = refl
seen_same p (Held (D64 x)) (Held (G64 y)) h k = absurd (omega (arith, h.0, k.0))
seen_same p (Held (D64 x)) Blank h k = absurd (omega (arith, h.0, k))
seen_same p (Held (G64 x)) (Held (D64 y)) h k = absurd (omega (arith, h.0, k.0))
seen_same p (Held (G64 x)) Blank h k = absurd (omega (arith, h.0, k))
seen_same p Blank (Held (D64 y)) h k = absurd (omega (arith, h, k.0))
seen_same p Blank (Held (G64 y)) h k = absurd (omega (arith, h, k.0))

disk_same : (p : DiskParts) (a b : Counted) → IsDiskWith p a → IsDiskWith p b → counted_seen a ≡ counted_seen b
disk_same p a b h k = seen_same p a.sectors b.sectors h.sectors k.sectors

-- ---- the drive

-- the same drive with another disk
abbrev over : Counted → Seated (Desk (Kept Counted)) → Seated (Desk (Kept Counted))
over m s = record {
  port = s.port;
  machine = record {
    dos = record { medium = m; channels = s.machine.dos.channels; told = s.machine.dos.told; text = s.machine.dos.text };
    addressed = s.machine.addressed;
  };
}

may_over : (most : ℕ) (m : Counted) (s : Seated (Desk (Kept Counted))) → MaySit most s → MaySit most (over m s)
may_over most m s h = record {
  device = h.device;
  reaction = h.reaction;
  addressed = h.addressed;
  kept = record { count = h.kept.count; each = h.kept.each; told = h.kept.told; gathered = h.kept.gathered };
}

seat_over : (m : Counted) (most : ℕ) (s : Seated (Desk (Kept Counted))) → MaySit most s → seat_at m most (saved_seat s) ≡ Some (over m s, [])
seat_over m most s h = ap (seat_at m most) (sym (append-nil (saved_seat s))) ∙ seat_again most (over m s) [] (may_over most m s h)

-- what was read from the state of a drive
state_same : (old new : OnLines) (p : DiskParts) (state : List ℕ) → state ≡ state_bytes old p → IsDiskWith p old.seat.machine.dos.medium
    → MaySit (counted_seen old.seat.machine.dos.medium).tracks old.seat → IsStateOf state new → IsSameDrive old new
state_same old new p state e disk sits r =
    let tail : List ℕ = eight_bytes old.latest ++ (saved_parts p ++ saved_seat old.seat) in
    let whole : kind_number old.kind ∷ tail ≡ r.number ∷ r.body = sym e ∙ r.begins in
    let number : kind_number old.kind ≡ r.number = ap (λ (xs : List ℕ). get_or xs 0 0) whole in
    let body : tail ≡ r.body = ap (λ (xs : List ℕ). drop 1 xs) whole in
    let moment = some_is _ _ (sym (eight_again old.latest (saved_parts p ++ saved_seat old.seat)) ∙ ap eight_at body ∙ r.moment) in
    let rest : saved_parts p ++ saved_seat old.seat ≡ r.rest = ap (λ (x : ℕ × List ℕ). x.1) moment in
    let parts = some_is _ _ (sym (parts_again p (saved_seat old.seat)) ∙ ap disk_parts_at rest ∙ r.has_parts) in
    let after : saved_seat old.seat ≡ r.after = ap (λ (x : DiskParts × List ℕ). x.1) parts in
    let now : IsDiskWith p new.seat.machine.dos.medium = subst (λ (q : DiskParts). IsDiskWith q new.seat.machine.dos.medium) (sym (ap (λ (x : DiskParts × List ℕ). x.0) parts)) r.disk in
    let seen : counted_seen new.seat.machine.dos.medium ≡ counted_seen old.seat.machine.dos.medium = disk_same p _ _ now disk in
    let most : (counted_seen old.seat.machine.dos.medium).tracks ≡ (counted_seen new.seat.machine.dos.medium).tracks = ap (λ (s : Seen). s.tracks) (sym seen) in
    let seat = some_is _ _ (sym (seat_over new.seat.machine.dos.medium (counted_seen old.seat.machine.dos.medium).tracks old.seat sits)
    ∙ ap (λ (n : ℕ). seat_at new.seat.machine.dos.medium n (saved_seat old.seat)) most
    ∙ ap (λ (xs : List ℕ). seat_at new.seat.machine.dos.medium (counted_seen new.seat.machine.dos.medium).tracks xs) after ∙ r.seat) in
    let is : over new.seat.machine.dos.medium old.seat ≡ new.seat = ap (λ (x : Seated (Desk (Kept Counted)) × List ℕ). x.0) seat in
    record {
      port = ap (λ (s : Seated (Desk (Kept Counted))). s.port) (sym is);
      addressed = ap (λ (s : Seated (Desk (Kept Counted))). s.machine.addressed) (sym is);
      channels = ap (λ (s : Seated (Desk (Kept Counted))). s.machine.dos.channels) (sym is);
      told = ap (λ (s : Seated (Desk (Kept Counted))). s.machine.dos.told) (sym is);
      gathered = ap (λ (s : Seated (Desk (Kept Counted))). s.machine.dos.text) (sym is);
      shows = seen;
      writes = sym now.writes ∙ disk.writes;
      kind = r.format ∙ ap kind_by (sym number) ∙ kind_again old.kind;
      latest = ap (λ (x : ℕ × List ℕ). x.0) (sym moment);
    }

pub same_again : (old new : OnLines) (bytes : List ℕ) → IsSnapshot old bytes → IsRestoredFrom bytes new → IsSameDrive old new
same_again old new bytes s r =
    let state = some_is _ _ (sym (seal_opens snapshot_version (state_bytes old s.parts)) ∙ ap (seal_opened snapshot_version) (sym s.spelled) ∙ r.unsealed) in
    state_same old new s.parts r.state (sym state) s.disk s.sits r.drive
