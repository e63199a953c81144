-- VALIDATE: the disk that the closed files are, and that each block of it is free or a file's.
use Rattle.std.proofs.Common.{◌≡◌, ◌≢◌, ◌⊎◌, ℕ, ◌*◌, ◌%◌, ◌<◌, ◌≤◌, List, [], ◌∷◌, length, get_or, Bool, true, false, IsOk, refl, sym, ap, subst, ◌∙◌, arith, inl, inr, Option, Some, None, Ok, Err}
use Rattle.std.specs.Prelude.{◌==◌, not, map, sum_by, if◌then◌else◌}
use Rattle.std.proofs.lemmas.Bool.{eqb-true}
use Rattle.std.proofs.lemmas.List.{same_lists, get_or_default, get_or-map, length-map}
use Rattle.cbm_medium.specs.Place.{Place, Has, directory_head}
use Rattle.cbm_medium.specs.Content.{Cell, Content, IsWhole, written}
use Rattle.cbm_medium.specs.Links.{link, or_nothing, IsApart, Chain}
use Rattle.cbm_medium.proofs.Places.{written_there, written_elsewhere, written_each}
use Rattle.cbm_file.specs.Files.{File, Disk, blocks_held}
use Rattle.cbm_file.specs.Changes.{only_closed, validated}
use Rattle.cbm_bam.specs.Map.{is_free_in, map_of, geometry_of, IsCounted}
use Rattle.cbm_directory.specs.Entries.{entry_of, type_byte, is_closed, is_relative, entry_at, sector_of, first_directory}
use Rattle.cbm_volume.specs.Blocks.{Blocks, Lies, LiesAs, slot_with, file_of}
use Rattle.cbm_volume.specs.Layouts.{Owner, Directory, DataOf, SideOf, OwnedBy, IsCellWritable, Layout, slot_count, Sound, HasLayout}
use Rattle.cbm_volume.specs.Unmendable.{flaw_code, IsUnmendable}
use Rattle.cbm_volume.specs.Views.{view_of, taken_map, on_cell, view_at}
use Rattle.cbm_volume.proofs.layouts.Refusals.{sector_reads}
use Rattle.cbm_volume.specs.Sweeps.{IsSweptAs, IsDirectoryChain, IsSwept}
use Rattle.cbm_volume.specs.check.WholeDisk.{ClaimsInto, DiskFault}
use Rattle.cbm_volume.specs.declared.check.unsound.Unsound.{Unsound}
use Rattle.cbm_volume.proofs.written.Storing.{few}
use Rattle.cbm_volume.proofs.layouts.Frames.{Keeps, chain_links}
use Rattle.cbm_volume.proofs.checked.Claimed.{IsClaimedOnce}
use Rattle.cbm_volume.proofs.checked.ClaimedSound.{layout_of, IsLaidOut, laid_out}
use Rattle.cbm_volume.proofs.checked.CheckedSound.{checked_once, sound_clean}
use Rattle.cbm_volume.proofs.checked.Counting.{left, size, sums_same}
use Rattle.cbm_volume.proofs.layouts.Lengths.{directory_length}
use Rattle.cbm_volume.proofs.layouts.Listing.{geometry_size, closed_of}
use Rattle.cbm_volume.proofs.layouts.Loose.{sector_owned}
use Rattle.cbm_volume.proofs.mended.Recounts.{IsRecounted}
use Rattle.cbm_volume.proofs.mended.Sweeping.{swept_may, empty_open, swept_both, Sweeps, sound_swept, closed_stays, empty_slot}
use Rattle.cbm_volume.proofs.mended.Viewed.{ShowsMap, shows_map, view_geometry, view_elsewhere, view_reads_too, view_reads_so, view_links, view_entries}

-- ---- a slot's sector is a sector of the directory, and none of a file's

on_18 : (tracks : ℕ) (c : Content) (l : Layout) (n : ℕ) → Sound tracks c l → n < slot_count l → ((sector_of l.directory n).track ≡ 18) × (sector_of l.directory n ≢ directory_head)
on_18 tracks c l n s k =
    let own : l.owner (sector_of l.directory n) ≡ Directory = sector_owned l s.owned n k in
    (s.owned.on_18 (sector_of l.directory n) own, λ e. (let z = sym own ∙ ap l.owner e ∙ s.owned.map in cc))

directory_not_head : (tracks : ℕ) (c : Content) (l : Layout) (p : Place) → Sound tracks c l → l.owner p ≡ Directory → p ≢ directory_head
directory_not_head tracks c l p s own e = let z = sym own ∙ ap l.owner e ∙ s.owned.map in cc

off_18 : (tracks : ℕ) (c : Content) (l : Layout) (n : ℕ) (p : Place) → Sound tracks c l → (l.owner p ≡ DataOf n) ⊎ (l.owner p ≡ SideOf n) → p.track ≢ 18
off_18 tracks c l n p s (inl e) t = (s.owned.off_18 p t n).0 e
off_18 tracks c l n p s (inr e) t = (s.owned.off_18 p t n).1 e

pub apart_from : (owner : Place → Owner) (p : Place) (xs : List Place) → owner p ≢ Directory → OwnedBy owner Directory xs → IsApart p xs
apart_from owner p [] ne w = tt
apart_from owner p (x ∷ xs) ne w = ((λ e. ne (ap owner e ∙ w.0)), apart_from owner p xs ne w.1)

pub not_directory : (owner : Place → Owner) (n : ℕ) (p : Place) → (owner p ≡ DataOf n) ⊎ (owner p ≡ SideOf n) → owner p ≢ Directory
not_directory owner n p (inl e) h = let z = sym e ∙ h in cc
not_directory owner n p (inr e) h = let z = sym e ∙ h in cc

-- ---- what VALIDATE looks at, beside the disk

pub view_sweeps : (tracks : ℕ) (c : Content) (l : Layout) → ((p : Place) → IsWhole (c p)) → Sound tracks c l → Sweeps c (view_of tracks c) l
view_sweeps tracks c l whole s = record {
  blocks = λ n p e. view_elsewhere tracks c p (off_18 tracks c l n p s (inl e));
  sides = λ n p e. view_elsewhere tracks c p (off_18 tracks c l n p s (inr e));
  links = λ p e ok. (view_reads_so tracks c p ok, view_links tracks c p (s.owned.on_18 p e) (directory_not_head tracks c l p s e));
  entries = λ n k. swept_may (entry_at c l.directory n) (entry_at (view_of tracks c) l.directory n)
      (view_entries tracks c (sector_of l.directory n) (n % 8) (on_18 tracks c l n s k).0 (on_18 tracks c l n s k).1 (whole (sector_of l.directory n)) (sector_reads tracks c l.directory n s.directory k) (omega arith));
}

view_writable : (tracks : ℕ) (c : Content) (p : Place) → IsCellWritable (c p) → IsCellWritable (view_of tracks c p)
unfolding view_of
view_writable tracks c p h = by_cell (c p) h
  where
    by_cell : (cell : Cell) → IsCellWritable cell → IsCellWritable (on_cell (view_at tracks p) cell)
    by_cell (Ok bytes) w = tt
    by_cell (Err code) w = w

pub viewed_writable : (tracks : ℕ) (c : Content) (p : Place) → IsCellWritable (view_of tracks c p) → IsCellWritable (c p)
unfolding view_of
viewed_writable tracks c p h = by_cell (c p) h
  where
    by_cell : (cell : Cell) → IsCellWritable (on_cell (view_at tracks p) cell) → IsCellWritable cell
    by_cell (Ok bytes) w = tt
    by_cell (Err code) w = w

-- A SOUND DISK IS SHOWN AS A SOUND ONE
pub view_sound : (medium : ℕ) (c : Content) (l : Layout) → ((p : Place) → IsWhole (c p)) → Sound (geometry_of medium c) c l → Sound (geometry_of medium c) (view_of (geometry_of medium c) c) l
view_sound medium c l whole s = by_cell (c directory_head) refl
  where
    tracks : ℕ
    tracks = geometry_of medium c

    by_cell : (cell : Cell) → c directory_head ≡ cell → Sound (geometry_of medium c) (view_of (geometry_of medium c) c) l
    by_cell (Err code) e = absurd (let z = subst (λ (x : Cell). IsOk x) e s.map_reads in cc)
    by_cell (Ok old) e =
        let m : ShowsMap (geometry_of medium c) c old = shows_map (geometry_of medium c) c old (geometry_size medium c) whole e in
        let is : map_of (view_of (geometry_of medium c) c) ≡ taken_map (geometry_of medium c) old = ap or_nothing m.shown in
        sound_swept (geometry_of medium c) c (view_of (geometry_of medium c) c) l s (view_sweeps (geometry_of medium c) c l whole s) (λ p h. view_writable (geometry_of medium c) c p (s.writable p h))
        (view_reads_so (geometry_of medium c) c directory_head s.map_reads)
        (λ p h f. absurd (let z = sym f ∙ ap (λ (x : List ℕ). is_free_in x p) is ∙ m.taken p h in cc))
        (subst (λ (x : List ℕ). IsCounted (geometry_of medium c) x) (sym is) m.counted)

-- ---- what is claimed of it

pub claimed_there : (medium : ℕ) (c : Content) (g : ℕ) (used : Place → Bool) → ((p : Place) → IsWhole (c p)) → g ≡ geometry_of medium c → ClaimsInto (geometry_of medium (view_of g c)) (view_of g c) used
    → ClaimsInto (geometry_of medium c) (view_of (geometry_of medium c) c) used
claimed_there medium c g used whole e k =
    subst (λ (n : ℕ). ClaimsInto n (view_of (geometry_of medium c) c) used) (view_geometry medium c (geometry_size medium c) whole)
    (subst (λ (n : ℕ). ClaimsInto (geometry_of medium (view_of n c)) (view_of n c) used) e k)

pub no_flaw : (medium : ℕ) (c : Content) (g : ℕ) (u : Unsound) → ((p : Place) → IsWhole (c p)) → g ≡ geometry_of medium c → DiskFault (geometry_of medium (view_of g c)) (view_of g c) u → (l : Layout) → Sound (geometry_of medium c) c l → ⊥
no_flaw medium c g u whole e f l s =
    sound_clean (geometry_of medium c) (view_of (geometry_of medium c) c) l u (few medium c) (view_sound medium c l whole s)
    (subst (λ (n : ℕ). DiskFault n (view_of (geometry_of medium c) c) u) (view_geometry medium c (geometry_size medium c) whole)
    (subst (λ (n : ℕ). DiskFault (geometry_of medium (view_of n c)) (view_of n c) u) e f))

pub flaw_there : (medium : ℕ) (c : Content) (g code : ℕ) (u : Unsound) → ((p : Place) → IsWhole (c p)) → g ≡ geometry_of medium c → code ≡ flaw_code g c u → DiskFault (geometry_of medium (view_of g c)) (view_of g c) u
    → IsUnmendable (geometry_of medium c) c (record { code = code; track = u.track; sector = u.sector })
flaw_there medium c g code u whole e says f = (
  u,
  (
    subst (λ (n : ℕ). DiskFault n (view_of (geometry_of medium c) c) u) (view_geometry medium c (geometry_size medium c) whole)
        (subst (λ (n : ℕ). DiskFault (geometry_of medium (view_of n c)) (view_of n c) u) e f),
    (let same : code ≡ flaw_code (geometry_of medium c) c u = says ∙ ap (λ (n : ℕ). flaw_code n c u) e in λ i. record { code = same i; track = u.track; sector = u.sector }),
  ),
)

-- the directory of what is claimed is the disk's
pub directory_was : (medium : ℕ) (c : Content) (k : IsClaimedOnce (geometry_of medium c) (view_of (geometry_of medium c) c)) (laid : IsLaidOut (geometry_of medium c) (view_of (geometry_of medium c) c) k) → IsDirectoryChain (geometry_of medium c) c k.directory
directory_was medium c k laid =
    let tracks : ℕ = geometry_of medium c in
    let v : Content = view_of tracks c in
    let l : Layout = layout_of k.directory k.files laid.owner in
    let s : Sound tracks v l = laid.sound in (
      chain_links tracks v c laid.owner Directory (λ p e ok. (view_reads_too tracks c p ok, sym (view_links tracks c p (s.owned.on_18 p e) (directory_not_head tracks v l p s e)))) first_directory k.directory s.owned.directory s.directory,
      directory_length tracks v l s,
    )

pub claimed_directory : (medium : ℕ) (c : Content) (used : Place → Bool) → ClaimsInto (geometry_of medium c) (view_of (geometry_of medium c) c) used → (xs : List Place) × IsDirectoryChain (geometry_of medium c) c xs
claimed_directory medium c used claims =
    let k = (checked_once (geometry_of medium c) (view_of (geometry_of medium c) c) claims.0).0 in
    (k.directory, directory_was medium c k (laid_out (geometry_of medium c) (view_of (geometry_of medium c) c) k))

pub claimed_reads : (medium : ℕ) (c : Content) (used : Place → Bool) → ClaimsInto (geometry_of medium c) (view_of (geometry_of medium c) c) used → IsOk (c directory_head)
claimed_reads medium c used claims = view_reads_too (geometry_of medium c) c directory_head claims.0.map.reads

-- ---- the new map

pub record IsWhollyAnew (tracks : ℕ) (old new : List ℕ) (used : Place → Bool) : Type 0 where
  pub free : (p : Place) → Has tracks p → is_free_in new p ≡ not (used p)
  pub recounted : IsRecounted tracks old new
  pub long : length new ≡ length old

-- ---- a slot

not_of : (b : Bool) → not b ≡ true → b ≡ false
not_of true h = absurd (let z = h in cc)
not_of false h = refl

pub settled_slot : (bytes e : List ℕ) (b : Blocks) → (is_closed e ≡ true) ⊎ (type_byte e ≡ 0) → only_closed (slot_with bytes e b) ≡ slot_with bytes e b
settled_slot bytes e b (inl h) = closed_stays bytes e b h
settled_slot bytes e b (inr h) = ap only_closed (empty_slot bytes e b h) ∙ sym (empty_slot bytes e b h)

held_of : (bytes e : List ℕ) (b : Blocks) → (file_of bytes e b).held ≡ size b
unfolding file_of
held_of bytes e b = refl

pub held_slot : (tracks : ℕ) (c : Content) (bytes e : List ℕ) (b : Blocks) → Lies tracks c e b → blocks_held (slot_with bytes e b) ≡ size b
held_slot tracks c bytes e b h = by_test (type_byte e == 0) refl (is_closed e) refl
  where
    none : is_closed e ≡ false → 0 ≡ size b
    none z = sym (ap size (subst (λ (x : Bool). LiesAs x (is_relative e) tracks c e b) z h))

    by_test : (x : Bool) → (type_byte e == 0) ≡ x → (y : Bool) → is_closed e ≡ y → blocks_held (if x then None else Some (file_of bytes e b)) ≡ size b
    by_test true z y w = none (empty_open e (eqb-true (type_byte e) 0 z))
    by_test false z true w = ap (λ (v : Bool). if v then (file_of bytes e b).held else 0) (closed_of bytes e b ∙ w) ∙ held_of bytes e b
    by_test false z false w = ap (λ (v : Bool). if v then (file_of bytes e b).held else 0) (closed_of bytes e b ∙ w) ∙ none w

held_closed : (x : Option File) → blocks_held (only_closed x) ≡ blocks_held x
held_closed None = refl
held_closed (Some f) = by_test f.closed refl
  where
    by_test : (b : Bool) → f.closed ≡ b → blocks_held (if b then Some f else None) ≡ blocks_held (Some f)
    by_test true e = refl
    by_test false e = sym (ap (λ (v : Bool). if v then f.held else 0) e)

pub held_same : (xs : List (Option File)) → sum_by blocks_held (map only_closed xs) ≡ sum_by blocks_held xs
held_same xs = sums_same blocks_held blocks_held (map only_closed xs) xs None None (length-map xs only_closed) (λ i k.
    ap blocks_held (get_or-map only_closed xs i None None (omega (arith, k, length-map xs only_closed))) ∙ held_closed (get_or xs i None))

-- slots that are those of a list, but for what isn't closed
pub slots_as : (xs ys : List (Option File)) → length xs ≡ length ys → ((i : ℕ) → i < length xs → get_or xs i None ≡ only_closed (get_or ys i None)) → xs ≡ map only_closed ys
slots_as xs ys l h = same_lists xs (map only_closed ys) (l ∙ sym (length-map ys only_closed)) (λ i d k.
    get_or_default xs i d None k ∙ h i k ∙ sym (get_or-map only_closed ys i None d (omega (arith, k, l))))

-- ---- what the medium holds then

-- THE DISK IS MENDED: it holds a disk of closed files, on which each block is free or a file's
pub record IsMended (medium : ℕ) (c c2 : Content) : Type 0 where
  pub disk : Disk
  pub layout : Layout
  pub stands : HasLayout (geometry_of medium c2) c2 layout disk
  pub mended : disk ≡ validated disk
  pub as_before : (l : Layout) (d : Disk) → HasLayout (geometry_of medium c) c l d → disk ≡ validated d

-- the same, of the layout
pub record IsLaid (tracks : ℕ) (c c2 : Content) (k : IsClaimedOnce tracks (view_of tracks c)) (owner : Place → Owner) : Type 0 where
  pub sound : Sound tracks c2 (layout_of k.directory k.files owner)
  pub entries : (n : ℕ) → n < 8 * length k.directory → IsSweptAs (entry_at c k.directory n) (entry_at c2 k.directory n)
  pub blocks : (n : ℕ) → Keeps c c2 owner (DataOf n)
  pub map : (p : Place) → Has tracks p → is_free_in (map_of c2) p ≡ left k.after p

abbrev pub SweptAll : ℕ → Content → Content → Type 0
SweptAll tracks c c1 = (xs : List Place) → IsDirectoryChain tracks c xs → IsSwept c c1 xs 144

pub laid_anew : (medium : ℕ) (c c1 c2 : Content) (old new : List ℕ) (k : IsClaimedOnce (geometry_of medium c) (view_of (geometry_of medium c) c)) (laid : IsLaidOut (geometry_of medium c) (view_of (geometry_of medium c) c) k) → ((p : Place) → IsWhole (c p))
    → SweptAll (geometry_of medium c) c c1 → IsWhollyAnew (geometry_of medium c) old new k.after → c2 ≡ written c1 directory_head new → IsLaid (geometry_of medium c) c c2 k laid.owner
laid_anew medium c c1 c2 old new k laid whole swept anew is =
    let tracks : ℕ = geometry_of medium c in
    let v : Content = view_of tracks c in
    let l : Layout = layout_of k.directory k.files laid.owner in
    let s : Sound tracks v l = laid.sound in
    let was : IsDirectoryChain tracks c k.directory = directory_was medium c k laid in
    let chain : Chain tracks c first_directory k.directory = was.0 in
    let few_sectors : length k.directory ≤ 18 = was.1 in
    let w : IsSwept c c1 k.directory 144 = swept k.directory was in
    let there : (p : Place) → p ≢ directory_head → c2 p ≡ c1 p = λ p ne. ap (λ (x : Content). x p) is ∙ written_elsewhere c1 directory_head p new (λ e. ne (sym e)) in
    let head : c2 directory_head ≡ Ok new = ap (λ (x : Content). x directory_head) is ∙ written_there c1 directory_head new in
    let of_map : map_of c2 ≡ new = ap or_nothing head in
    let file : (n : ℕ) (p : Place) → (laid.owner p ≡ DataOf n) ⊎ (laid.owner p ≡ SideOf n) → c2 p ≡ c p = λ n p e.
    there p (λ z. off_18 tracks v l n p s e (ap (λ (x : Place). x.track) z)) ∙ w.elsewhere p (apart_from laid.owner p k.directory (not_directory laid.owner n p e) s.owned.directory) in
    let shown : (n : ℕ) (p : Place) → (laid.owner p ≡ DataOf n) ⊎ (laid.owner p ≡ SideOf n) → v p ≡ c p = λ n p e. view_elsewhere tracks c p (off_18 tracks v l n p s e) in
    let reads : (n : ℕ) → n < slot_count l → IsOk (c (sector_of k.directory n)) = λ n h. sector_reads tracks c k.directory n chain h in
    let entry : (n : ℕ) → n < slot_count l → IsSweptAs (entry_at c k.directory n) (entry_at c2 k.directory n) = λ n h.
    subst (λ (x : Cell). IsSweptAs (entry_at c k.directory n) (entry_of (or_nothing x) (n % 8))) (sym (there (sector_of k.directory n) (on_18 tracks v l n s h).1)) (w.before n h (omega (arith, h, few_sectors))) in
    let sweeps : Sweeps v c2 l = record {
      blocks = λ n p e. file n p (inl e) ∙ sym (shown n p (inl e));
      sides = λ n p e. file n p (inr e) ∙ sym (shown n p (inr e));
      links = λ p e ok.
          let ne : p ≢ directory_head = directory_not_head tracks v l p s e in
          let then1 = w.links p (view_reads_too tracks c p ok) in (
            subst (λ (x : Cell). IsOk x) (sym (there p ne)) then1.0,
            ap (λ (x : Cell). link (or_nothing x)) (there p ne) ∙ then1.1 ∙ sym (view_links tracks c p (s.owned.on_18 p e) ne),
          );
      entries = λ n h. swept_may (entry_at v k.directory n) (entry_at c2 k.directory n)
          (swept_both (entry_at c k.directory n) (entry_at v k.directory n) (entry_at c2 k.directory n)
          (view_entries tracks c (sector_of k.directory n) (n % 8) (on_18 tracks v l n s h).0 (on_18 tracks v l n s h).1 (whole (sector_of k.directory n)) (reads n h) (omega arith)) (entry n h));
    } in
    let free : (p : Place) → Has tracks p → is_free_in (map_of c2) p ≡ left k.after p = λ p h. ap (λ (x : List ℕ). is_free_in x p) of_map ∙ anew.free p h in
    record {
      sound = sound_swept tracks v c2 l s sweeps
          (λ p h. subst (λ (x : Content). IsCellWritable (x p)) (sym is) (written_each IsCellWritable c1 directory_head new p tt (w.writable p (viewed_writable tracks c p (s.writable p h)))))
          (subst (λ (x : Cell). IsOk x) (sym head) refl)
          (λ p h f. laid.fresh p (not_of (k.after p) (sym (free p h) ∙ f)))
          (subst (λ (x : List ℕ). IsCounted tracks x) (sym of_map) anew.recounted.counted);
      entries = entry;
      blocks = λ n p e. file n p (inl e);
      map = free;
    }
