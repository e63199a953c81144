-- The side sectors of a relative file are written anew: its blocks stay, and the disk is the same.
use Rattle.std.proofs.Common.{◌≡◌, ◌≢◌, ◌⊎◌, ℕ, zero, suc, ◌+◌, ◌*◌, ◌%◌, ◌<◌, ◌≤◌, List, [], ◌∷◌, length, take, drop, get_or, true, Ok, Err, Result, IsOk, refl, sym, ap, subst, ◌∙◌, arith, inl, inr}
use Rattle.std.specs.Prelude.{MatchResult}
use Rattle.std.proofs.lemmas.List.{length-drop, drop-drop}
use Rattle.std.proofs.lemmas.Bool.{cases_eq}
use Rattle.cbm_medium.specs.Place.{Place, directory_head, Has}
use Rattle.cbm_medium.specs.Content.{Cell, Content}
use Rattle.cbm_medium.specs.Links.{bytes_at, IsApart}
use Rattle.cbm_medium.specs.Seen.{Seen}
use Rattle.cbm_medium.specs.declared.fault.Trouble.{Trouble}
use Rattle.cbm_medium.proofs.Places.{place_decide}
use Rattle.cbm_file.specs.Files.{Disk}
use Rattle.cbm_bam.specs.Map.{geometry_of, is_free_in, IsCounted, map_of}
use Rattle.cbm_directory.specs.Entries.{type_byte, entry_at, first_directory, first_block, first_side, is_closed, is_relative}
use Rattle.cbm_relfile.specs.Records.{AllWhole, IsLaid, Relative}
use Rattle.cbm_relfile.specs.Relisting.{IsSideRefused, AreListed, AreInForm, AreApart, IsRelisted}
use Rattle.cbm_relfile.specs.SideSectors.{Numbered}
use Rattle.cbm_relfile.proofs.Relisted.{nth, numbered_nth}
use Rattle.cbm_volume.specs.Blocks.{Lies, slot_of}
use Rattle.cbm_volume.specs.Layouts.{Owner, TheMap, Directory, DataOf, SideOf, OwnedBy, IsCellWritable, Layout, slot_count, Sound, Describes}
use Rattle.cbm_volume.specs.Writers.{Use}
use Rattle.cbm_volume.specs.RecordWrites.{HasRecordsOpen}
use Rattle.cbm_volume.specs.Growing.{IsListed, LeavesAside}
use Rattle.cbm_volume.specs.Opens.{IsHindered}
use Rattle.cbm_volume.specs.Relists.{IsSameDisk}
use Rattle.cbm_volume.proofs.layouts.Frames.{Keeps, sector_kept, chain_kept, lies_kept, slot_kept}
use Rattle.cbm_volume.proofs.grown.GrowingSteps.{holds_aside, file_closed, file_relative}
use Rattle.cbm_volume.proofs.layouts.Loose.{entry_kept}
use Rattle.cbm_volume.proofs.written.Storing.{geometry_elsewhere}
use Rattle.cbm_volume.proofs.relative.LastGrown.{LiesInSlot, lies, in_layout, slot_laid}
use Rattle.cbm_volume.proofs.relative.Longer as longer

-- ---- other sectors

-- a sector is one of these, or apart from them
apart_or_in : (p : Place) (xs : List Place) → IsApart p xs ⊎ ((i : ℕ) × (i < length xs) × (nth xs i ≡ p))
apart_or_in p [] = inl tt
apart_or_in p (x ∷ xs) = elim (place_decide x p) [
  | inl e ↦ inr (0, (omega arith), e)
  | inr ne ↦ by_rest ne (apart_or_in p xs)
]
  where
    by_rest : x ≢ p → IsApart p xs ⊎ ((i : ℕ) × (i < length xs) × (nth xs i ≡ p)) → IsApart p (x ∷ xs) ⊎ ((i : ℕ) × (i < suc (length xs)) × (nth (x ∷ xs) i ≡ p))
    by_rest ne (inl a) = inl ((λ z. ne (sym z)), a)
    by_rest ne (inr (i, l, e)) = inr (suc i, omega (arith, l), e)

apart_owned : (owner : Place → Owner) (o : Owner) (p : Place) (xs : List Place) → OwnedBy owner o xs → owner p ≢ o → IsApart p xs
apart_owned owner o p [] w ne = tt
apart_owned owner o p (x ∷ xs) w ne = ((λ z. ne (ap owner z ∙ w.0)), apart_owned owner o p xs w.1 ne)

owner_of : (owner : Place → Owner) (o : Owner) (xs : List Place) (i : ℕ) → OwnedBy owner o xs → i < length xs → owner (nth xs i) ≡ o
owner_of owner o [] i w l = absurd (omega (arith, l))
owner_of owner o (x ∷ xs) zero w l = w.0
owner_of owner o (x ∷ xs) (suc i) w l = owner_of owner o xs i w.1 (omega (arith, l))

-- the number of a side sector tells it from the others
number_of : (tracks : ℕ) (c : Content) (width n i : ℕ) (ss : List Place) → Numbered tracks c width n ss → i < length ss → get_or (bytes_at c (nth ss i)) 2 0 ≡ n + i
number_of tracks c width n i [] h l = absurd (omega (arith, l))
number_of tracks c width n zero (s ∷ ss) h l = omega (arith, h.2)
number_of tracks c width n (suc i) (s ∷ ss) h l = omega (arith, number_of tracks c width (n + 1) i ss h.4 (omega (arith, l)))

writable_cell : (x : Cell) → IsOk x → IsCellWritable x
writable_cell (Ok bytes) h = tt
writable_cell (Err code) h = absurd (cc)

-- ---- the lists

-- THE DRIVE'S FORM, said side sector by side sector
pub listed_of : (c : Content) (ss xs : List Place) → AreListed c ss xs → length xs ≤ 120 * length ss → IsListed c ss xs
listed_of c [] [] h l = refl
listed_of c [] (x ∷ xs) h l = absurd (omega (arith, l))
listed_of c (s ∷ ss) xs h l = (
  h 0 (omega arith) ∙ (let e : 120 * 0 ≡ 0 = omega arith in ap (λ (k : ℕ). take 120 (drop k xs)) e),
  listed_of c ss (drop 120 xs)
      (λ i k. h (suc i) (omega (arith, k)) ∙ ap (take 120) ((let e : 120 * suc i ≡ 120 + 120 * i = omega arith in ap (λ (j : ℕ). drop j xs) e) ∙ sym (drop-drop (120 * i) 120 xs)))
      (omega (arith, l, length-drop 120 xs)),
)

-- ---- the disk

-- what is known of a content in which only the side sectors of a slot's file are others
record SidesOnly (tracks : ℕ) (c c' : Content) (l : Layout) (n : ℕ) : Type 0 where
  keeps : (x : Owner) → x ≢ SideOf n → Keeps c c' l.owner x
  writable : (q : Place) → Has tracks q → IsCellWritable (c' q)
  lies : Lies tracks c' (entry_at c l.directory n) (l.files n)

sound_sides : (tracks : ℕ) (c c' : Content) (l : Layout) (n : ℕ) → Sound tracks c l → SidesOnly tracks c c' l n → Sound tracks c' l
sound_sides tracks c c' l n s g =
    let map : map_of c' ≡ map_of c = sector_kept c c' l.owner TheMap (g.keeps TheMap (λ z. (cc))) directory_head s.owned.map in
    let dir : Keeps c c' l.owner Directory = g.keeps Directory (λ z. (cc)) in
    record {
      owned = s.owned;
      writable = g.writable;
      map_reads = subst (λ (x : Cell). IsOk x) (sym (g.keeps TheMap (λ z. (cc)) directory_head s.owned.map)) s.map_reads;
      directory = chain_kept tracks c c' l.owner Directory dir first_directory l.directory s.owned.directory s.directory;
      kinds = λ m k. subst (λ (x : List ℕ). type_byte x % 16 < 5) (sym (entry_kept c c' l s.owned dir m k)) (s.kinds m k);
      lies = λ m k. subst (λ (x : List ℕ). Lies tracks c' x (l.files m)) (sym (entry_kept c c' l s.owned dir m k)) (elim (cases_eq m n) [
        | inl e ↦ subst (λ (i : ℕ). Lies tracks c' (entry_at c l.directory i) (l.files i)) (sym e) g.lies
        | inr ne ↦ lies_kept tracks c c' l.owner (DataOf m) (SideOf m) (entry_at c l.directory m) (l.files m) (g.keeps (DataOf m) (λ z. (cc))) (g.keeps (SideOf m) (λ z. (let y : m ≡ n = cc in ne y)))
            (s.owned.blocks m k) (s.owned.sides m k) (s.lies m k)
      ]);
      free = λ q k f. s.free q k (subst (λ (x : List ℕ). is_free_in x q ≡ true) map f);
      counted = subst (λ (x : List ℕ). IsCounted tracks x) (sym map) s.counted;
    }

describes_sides : (tracks : ℕ) (c c' : Content) (l : Layout) (d : Disk) (n : ℕ) → Sound tracks c l → Describes tracks c l d → SidesOnly tracks c c' l n → Describes tracks c' l d
describes_sides tracks c c' l d n s m g =
    let map : map_of c' ≡ map_of c = sector_kept c c' l.owner TheMap (g.keeps TheMap (λ z. (cc))) directory_head s.owned.map in
    record {
      title = rw map m.title;
      mark = rw map m.mark;
      size = m.size;
      slots = λ i k. m.slots i k ∙ sym (slot_kept c c' l.owner (DataOf i) (entry_at c l.directory i) (l.files i) (g.keeps (DataOf i) (λ z. (cc))) (s.owned.blocks i k))
          ∙ ap (λ (x : List ℕ). slot_of c' x (l.files i)) (sym (entry_kept c c' l s.owned (g.keeps Directory (λ z. (cc))) i k));
      total = m.total;
      room = rw map m.room;
      free = rw map m.free;
    }

-- ---- the call

module _ (old new : Seen) (d : Disk) (uses : ℕ → Use) (n w b s : ℕ) (rs : List (List ℕ)) (o : HasRecordsOpen old.tracks old.content d uses n w b s rs) (whole : AllWhole old.content) where
  abbrev pub geometry : ℕ
  geometry = geometry_of old.tracks old.content

  abbrev pub l : Layout
  l = o.holds.layout

  abbrev pub xs : List Place
  xs = (o.holds.layout.files n).data_blocks

  abbrev pub ss : List Place
  ss = (o.holds.layout.files n).sides

  abbrev pub file_is : Relative
  file_is = record { first = first_block (entry_at old.content o.holds.layout.directory n); side = first_side (entry_at old.content o.holds.layout.directory n); width = w }

  there : n < slot_count l
  there = in_layout old.tracks old.content d uses n w b s rs o

  here : LiesInSlot geometry old.content l n o.file w b s rs
  here = lies old.tracks old.content d uses n w b s rs o

  sound : Sound geometry old.content l
  sound = o.holds.so.stands.sound

  pub file_laid : IsLaid geometry old.content file_is xs ss
  file_laid = (slot_laid old new d uses n w b s rs o whole geometry file_is refl refl).0

  pub sides_apart : AreApart xs ss
  sides_apart = record {
    distinct = λ i j k m e. omega (arith, number_of geometry old.content w 0 i ss file_laid.numbered k, number_of geometry old.content w 0 j ss file_laid.numbered m, ap (λ (p : Place). get_or (bytes_at old.content p) 2 0) e);
    apart = λ i k. apart_owned l.owner (DataOf n) (nth ss i) xs (sound.owned.blocks n there) (λ z. (let y = sym (owner_of l.owner (SideOf n) ss i (sound.owned.sides n there) k) ∙ z in (cc)));
  }

  pub side_count : length ss ≡ s
  side_count = sym here.blocks.sides

  -- only the side sectors are others
  sides_only : IsRelisted geometry old.content new.content file_is xs ss → SidesOnly geometry old.content new.content l n
  sides_only r = record {
    keeps = λ x ne p e. r.others p (apart_owned l.owner (SideOf n) p ss (sound.owned.sides n there) (λ z. ne (sym e ∙ z)));
    writable = λ q h. by_place q h (apart_or_in q ss);
    lies = longer.lies_so (is_closed (entry_at old.content l.directory n)) (is_relative (entry_at old.content l.directory n)) geometry new.content (entry_at old.content l.directory n) (l.files n) here.closed here.relative (record {
      chain = r.laid.chain;
      records = record {
        some_block = here.has.some_block;
        some_width = here.has.some_width;
        width = here.has.width;
        first = here.has.first;
        listed = r.laid.listed;
        numbered = subst (λ (m : ℕ). Numbered geometry new.content m 0 ss) here.width r.laid.numbered;
        joined = r.laid.joined;
      };
    });
  }
    where
      by_place : (q : Place) → Has geometry q → IsApart q ss ⊎ ((i : ℕ) × (i < length ss) × (nth ss i ≡ q)) → IsCellWritable (new.content q)
      by_place q h (inl a) = subst (λ (x : Cell). IsCellWritable x) (sym (r.others q a)) (sound.writable q h)
      by_place q h (inr (i, k, e)) = writable_cell (new.content q) (subst (λ (p : Place). IsOk (new.content p)) e (numbered_nth geometry new.content w 0 i ss r.laid.numbered k).1)

  pub same_disk : IsRelisted geometry old.content new.content file_is xs ss → IsSameDisk old.tracks old.content new.content l d uses n
  same_disk r =
      let g = sides_only r in
      let aside : LeavesAside n old.content l new.content l = λ x a p e. (g.keeps x a.not_side p e, e) in
      record {
        holds = holds_aside geometry old.content new.content l l d d n o.file uses o.channel o.holds.so o.relates
            (record { sound = sound_sides geometry old.content new.content l n sound g; describes = describes_sides geometry old.content new.content l d n sound o.holds.so.stands.describes g })
            o.in_slot (file_closed old.tracks old.content d uses n w b s rs o) (file_relative old.tracks old.content d uses n w b s rs o) refl aside (λ m e. refl);
        same = geometry_elsewhere old.tracks old.content new.content (g.keeps TheMap (λ z. (cc)) directory_head sound.owned.map);
        aside = aside;
      }

  -- the clauses of the call
  pub anew_means : (tracks : ℕ) (file : Relative) (r : Result (Unit {0}) Trouble) → tracks ≡ geometry → file ≡ file_is
      → ((ys ts : List Place) → AllWhole old.content → IsLaid tracks old.content file ys ts → AreApart ys ts → length ts ≡ s
      → IsRelisted tracks old.content new.content file ys ts × MatchResult r (λ x. AreListed new.content ts ys) (λ t. IsSideRefused old new t.code))
      → IsSameDisk old.tracks old.content new.content l d uses n × MatchResult r (λ x. b ≤ 120 * s → IsListed new.content ss xs) (IsHindered old new)
  anew_means tracks file r same is laid =
      let h = laid xs ss whole (subst (λ (t : ℕ). IsLaid t old.content file xs ss) (sym same) (subst (λ (f : Relative). IsLaid geometry old.content f xs ss) (sym is) file_laid)) sides_apart side_count in
      let relisted : IsRelisted geometry old.content new.content file_is xs ss = subst (λ (t : ℕ). IsRelisted t old.content new.content file_is xs ss) same (subst (λ (f : Relative). IsRelisted tracks old.content new.content f xs ss) is h.0) in
      (same_disk relisted, by_result r h.1)
    where
      by_result : (r : Result (Unit {0}) Trouble) → MatchResult r (λ x. AreListed new.content ss xs) (λ t. IsSideRefused old new t.code) → MatchResult r (λ x. b ≤ 120 * s → IsListed new.content ss xs) (IsHindered old new)
      by_result (Ok x) h = λ few. listed_of new.content ss xs h (omega (arith, few, here.blocks.blocks, side_count))
      by_result (Err t) h = h

  -- what is in the drive's form isn't written
  pub form_means : (tracks : ℕ) (file : Relative) (r : Result (Unit {0}) Trouble) → tracks ≡ geometry → file ≡ file_is
      → ((ys ts : List Place) → IsLaid tracks old.content file ys ts → length ts ≡ s → AreInForm old.content ts ys → IsOk r × (new.content ≡ old.content)) → AreInForm old.content ss xs → IsOk r × (new.content ≡ old.content)
  form_means tracks file r same is form h = form xs ss (subst (λ (t : ℕ). IsLaid t old.content file xs ss) (sym same) (subst (λ (f : Relative). IsLaid geometry old.content f xs ss) (sym is) file_laid)) side_count h
