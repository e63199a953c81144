-- OPEN for appending: the blocks of a closed file go to a channel, and its entry is opened.
use Rattle.std.proofs.Common.{◌≡◌, ◌≢◌, ℕ, zero, suc, ◌+◌, ◌*◌, ◌/◌, ◌%◌, ◌<◌, length, get_or, arith, List, [], ◌∷◌, ◌++◌, Bool, true, false, IsOk, refl, sym, ap, subst, ◌∙◌, inl, inr, Option, Some, None, Ok, Err}
use Rattle.std.specs.Prelude.{◌==◌, ◌&&◌, MatchOption, slice_index, slice_range, slice_set}
use Rattle.std.proofs.lemmas.Bool.{cases_eq, eq-eqb, ne_eqb}
use Rattle.std.proofs.lemmas.List.{get_or-set_same}
use Rattle.cbm_medium.specs.Place.{Place, Has, directory_head, sector_count}
use Rattle.cbm_medium.specs.Content.{Cell, Content}
use Rattle.cbm_medium.specs.Seen.{Seen}
use Rattle.cbm_medium.specs.Links.{bytes_at, or_nothing, link, Chain, Followed, follow, ended, IsApart}
use Rattle.cbm_medium.specs.declared.fault.Trouble.{Trouble}
use Rattle.cbm_medium.proofs.Places.{written_elsewhere}
use Rattle.cbm_medium.proofs.Walks.{chain_followed, has_true}
use Rattle.cbm_file.specs.declared.file_type.FileType.TheVariants.{Del, Rel}
use Rattle.cbm_file.specs.Padding.{before_filler}
use Rattle.cbm_file.specs.Types.{is_same_type}
use Rattle.cbm_file.specs.Files.{Bytes, File, Disk, with_slot, bytes_in}
use Rattle.cbm_file.specs.Changes.{reopened}
use Rattle.cbm_bam.specs.Map.{geometry_of}
use Rattle.cbm_bam.specs.Causes.{HasCause}
use Rattle.cbm_chain.specs.Data.{chain_bytes}
use Rattle.cbm_chain.specs.Writing.{State, Part, Wrote, StandsAfter}
use Rattle.cbm_directory.specs.Entries.{Enters, EntersLed, DirectoryLeadsOff, led_to, first_directory, type_byte, is_closed, is_relative, bit_of, type_of_number, name_in, first_block, entry_at, sector_of}
use Rattle.cbm_directory.specs.EntryChanges.{reopened_entry, IsTypedAs}
use Rattle.cbm_directory.proofs.Placing.{led_on, led_nowhere}
use Rattle.cbm_relfile.specs.Records.{AllWhole}
use Rattle.cbm_volume.specs.Blocks.{Blocks, no_blocks, file_of, slot_of, slot_with, body_as}
use Rattle.cbm_volume.specs.Holding.{EntryStandsAt}
use Rattle.cbm_volume.specs.Layouts.{Owner, Directory, DataOf, Writer, OwnedBy, Layout, slot_count, Sound, HasLayout}
use Rattle.cbm_volume.specs.Staying.{LeavesClosed}
use Rattle.cbm_volume.specs.Writers.{Filling, Use, Idle, Writes, IsWriting, IsUsed, uses_slot, HoldsAt, Holds, HoldsNow, with_use}
use Rattle.cbm_volume.specs.Opens.{CanBeWritten, BeginsFile, IsHindered}
use Rattle.cbm_volume.proofs.layouts.Frames.{Keeps}
use Rattle.cbm_volume.proofs.layouts.Loose.{sector_owned}
use Rattle.cbm_volume.proofs.layouts.OneSlot.{with_file}
use Rattle.cbm_volume.proofs.layouts.Chained.{chain_distinct}
use Rattle.cbm_volume.proofs.layouts.Releases.{apart_by_index}
use Rattle.cbm_volume.proofs.layouts.Lengths.{file_length}
use Rattle.cbm_volume.proofs.layouts.Listing.{entry_found, geometry_size}
use Rattle.cbm_volume.proofs.written.Finishes.{own_all, own_all_keeps, own_all_there, stands_reopen}
use Rattle.cbm_chain.proofs.Parts.{part_kept, part_bytes_kept}
use Rattle.cbm_chain.proofs.After.{chain_wrote}
use Rattle.cbm_volume.proofs.layouts.Writers.{Spares, used_kept, use_here, use_other, written_keeps, owned_kept}
use Rattle.cbm_volume.proofs.written.Storing.{geometry_elsewhere}
use Rattle.cbm_volume.proofs.written.Closing.{other_slot, some_file, plain_entry}
use Rattle.cbm_volume.proofs.opened.Beginning.{alone_more}
use Rattle.cbm_volume.proofs.written.Replacements.{IsOld, old_file}
use Rattle.cbm_volume.proofs.layouts.Staying.{KeepsClosed, kept_same, kept_exempt, leaves_in}
use Rattle.cbm_volume.proofs.layouts.Refusals.{sector_hindered, sector_reads}

-- ---- a chain that is there, as the blocks of a writer

-- the blocks of a chain are linked, and each another
chain_part : (tracks : ℕ) (c : Content) (owner : Place → Owner) (o : Owner) → ((p : Place) → owner p ≡ o → p.track ≢ 18) → (a : Place) (xs : List Place) → Chain tracks c a xs → OwnedBy owner o xs → Part tracks c xs
chain_part tracks c owner o off a [] h w = tt
chain_part tracks c owner o off a (b ∷ []) h w = (h.1, off b w.0)
chain_part tracks c owner o off a (b ∷ b' ∷ rest) h w =
    let apart : IsApart b (b' ∷ rest) = apart_by_index b (b' ∷ rest) directory_head (λ j k e. let z = chain_distinct tracks c a (b ∷ b' ∷ rest) (suc j) 0 directory_head h (omega arith) (omega arith) e in omega arith) in
    (h.1, off b w.0, apart, h.2, h.3.0, chain_part tracks c owner o off (link (bytes_at c b)) (b' ∷ rest) h.3 w.1)

-- ---- the entry that is opened

same_name : (e : List ℕ) (v : ℕ) → slice_range (slice_set e 0 v) 3 19 ≡ slice_range e 3 19
same_name [] v = refl
same_name (x ∷ xs) v = refl

-- what the disk knows of its file then; with the type DEL it would be an empty slot
reopened_file : (old new bytes : List ℕ) (b : Blocks) (f : File) → new ≡ reopened_entry old → IsTypedAs old new (type_byte old % 128) → slot_with bytes old b ≡ Some f → is_same_type Rel f.kind ≡ false → is_same_type Del f.kind ≡ false
    → slot_with [] new no_blocks ≡ Some (reopened f)
unfolding file_of name_in
reopened_file old new bytes b f is says s plain used =
    let was = some_file bytes old b f s in
    let low : type_byte new % 16 ≡ type_byte old % 16 = omega (arith, says.typed) in
    let k : type_of_number (type_byte new % 16) ≡ f.kind = ap type_of_number low ∙ ap (λ (x : File). x.kind) was.1 in
    let some : (type_byte new == 0) ≡ false = ne_eqb (type_byte new) 0 (λ z. (let none : type_byte new % 16 ≡ 0 = omega (arith, z) in let del : is_same_type Del f.kind ≡ true = ap (is_same_type Del) (sym k ∙ ap type_of_number none) in let y = sym del ∙ used in (cc))) in
    let seven : type_byte old % 128 / 128 % 2 ≡ 0 = omega arith in
    let six : type_byte old % 128 / 64 % 2 ≡ type_byte old / 64 % 2 = omega arith in
    let c : is_closed new ≡ false = ap (λ (n : ℕ). bit_of n 7) says.typed ∙ ap (λ (n : ℕ). n == 1) seven in
    let lo : bit_of (type_byte new) 6 ≡ f.locked = ap (λ (n : ℕ). bit_of n 6) says.typed ∙ ap (λ (n : ℕ). n == 1) six ∙ ap (λ (x : File). x.locked) was.1 in
    let na : name_in new ≡ f.name = ap before_filler (ap (λ (e : List ℕ). slice_range e 3 19) is ∙ same_name old (type_byte old % 128)) ∙ ap (λ (x : File). x.name) was.1 in
    let sh : slice_index new 28 + 256 * slice_index new 29 ≡ f.shown = omega (arith, says.others 28 (omega arith), says.others 29 (omega arith), ap (λ (x : File). x.shown) was.1) in
    let y : body_as (is_closed new && is_relative new) [] new no_blocks ≡ Bytes [] = ap (λ (x : Bool). body_as (x && is_relative new) [] new no_blocks) c in
    let z : slot_with [] new no_blocks ≡ Some (file_of [] new no_blocks) = rw some refl in
    z ∙ (λ i. Some (record { kind = k i; closed = c i; locked = lo i; name = na i; shown = sh i; held = 0; body = y i }))

unclosed_entry : (old new : List ℕ) → IsTypedAs old new (type_byte old % 128) → is_closed new ≡ false
unclosed_entry old new says =
    let seven : type_byte old % 128 / 128 % 2 ≡ 0 = omega arith in
    ap (λ (n : ℕ). bit_of n 7) says.typed ∙ ap (λ (n : ℕ). n == 1) seven

-- the bytes of a file without records are those of its chain
plain_bytes : (bytes e : List ℕ) (b : Blocks) (f : File) → slot_with bytes e b ≡ Some f → type_byte e % 16 < 5 → is_same_type Rel f.kind ≡ false → bytes_in f.body ≡ bytes
unfolding file_of
plain_bytes bytes e b f s kind plain =
    let was = some_file bytes e b f s in
    let rel : is_relative e ≡ false = plain_entry bytes e b kind (ap (λ (x : File). is_same_type Rel x.kind) was.1 ∙ plain) in
    sym (ap (λ (x : File). bytes_in x.body) was.1) ∙ ap (λ (x : Bool). bytes_in (body_as (is_closed e && x) bytes e b)) rel ∙ by_closed (is_closed e)
  where
    by_closed : (x : Bool) → bytes_in (body_as (x && false) bytes e b) ≡ bytes
    by_closed true = refl
    by_closed false = refl

-- ---- the step

-- THE SLOT'S ENTRY IS OPENED, and its blocks are the channel's
appended_over : (tracks : ℕ) (c c2 : Content) (l : Layout) (d : Disk) (uses : ℕ → Use) (ch n : ℕ) (s : State) (body bytes : List ℕ) (f : File) → HoldsAt tracks c l d uses → uses ch ≡ Idle → CanBeWritten d uses n f → n < slot_count l
    → Enters c c2 (sector_of l.directory n) (n % 8) body → type_byte body % 16 < 5 → is_closed body ≡ false → slot_of c body no_blocks ≡ Some (reopened f) → Wrote c s (l.files n).data_blocks bytes → s.tracks ≡ tracks → f.held ≡ length (l.files n).data_blocks
    → HoldsAt tracks c2 (with_file l n no_blocks (own_all l.owner (l.files n).data_blocks (Writer ch))) (with_slot d n (Some (reopened f))) (with_use uses ch (Writes (record { slot = n; replaces = false; chain = s }) bytes f.held))
appended_over tracks c c2 l d uses ch n s body bytes f h idle can k enters kind unclosed file wrote same held =
    let xs : List Place = (l.files n).data_blocks in
    let owner : Place → Owner = own_all l.owner xs (Writer ch) in
    let l2 : Layout = with_file l n no_blocks owner in
    let d2 : Disk = with_slot d n (Some (reopened f)) in
    let w : Filling = record { slot = n; replaces = false; chain = s } in
    let old_owned : OwnedBy l.owner (DataOf n) xs = h.stands.sound.owned.blocks n k in
    let stands : HasLayout tracks c2 l2 d2 = subst (λ (x : Option File). HasLayout tracks c2 l2 (with_slot d n x)) file
    (stands_reopen tracks c c2 l d n ch (sector_of l.directory n) body h.stands k refl enters kind unclosed) in
    let keeps : (o : Owner) → Directory ≢ o → Keeps c c2 l.owner o = λ o ne. written_keeps c c2 (sector_of l.directory n) enters.sector l.owner o enters.written (λ y. ne (sym (sector_owned l h.stands.sound.owned n k) ∙ y)) in
    let mine_keeps : Keeps c c2 l.owner (DataOf n) = keeps (DataOf n) (λ z. (cc)) in
    let spares : Spares c c2 l l2 d d2 (λ x. false) (λ m. m == n) = record {
      writers = λ x o. keeps (Writer x) (λ z. (cc));
      writers_own = λ x q o z. own_all_keeps l.owner (DataOf n) (Writer ch) (Writer x) xs q old_owned (λ y. (cc)) z;
      files = λ m o. keeps (DataOf m) (λ z. (cc));
      files_own = λ m q no z. own_all_keeps l.owner (DataOf n) (Writer ch) (DataOf m) xs q old_owned (λ y. (let g : m ≡ n = cc in let t = sym (eq-eqb m n g) ∙ no in (cc))) z;
      more = omega arith;
      slots = λ m no. other_slot d n m (Some (reopened f)) no;
    } in
    let mine : IsWriting tracks c2 l2 d2 ch w bytes f.held = record {
      places = xs;
      owned = own_all_there l.owner xs (Writer ch);
      wrote = record {
        part = part_kept s.tracks c c2 xs (owned_kept c c2 l.owner (DataOf n) mine_keeps xs old_owned) wrote.part;
        first = wrote.first;
        current = wrote.current;
        count = wrote.count;
        all = wrote.all ∙ ap (λ (x : List ℕ). x ++ s.waiting) (sym (part_bytes_kept c c2 xs (owned_kept c c2 l.owner (DataOf n) mine_keeps xs old_owned)));
        fits = wrote.fits;
        none = wrote.none;
      };
      number = held;
      same_tracks = same;
      there = k;
      file = reopened f;
      in_slot = get_or-set_same d.slots n (Some (reopened f)) None (omega (arith, k, h.stands.describes.size));
      closed = refl;
      plain = can.plain;
      begun = λ z. absurd (cc);
    } in
    record {
      stands = stands;
      each = λ m. elim (cases_eq m ch) [
        | inl e ↦ subst (λ (i : ℕ). IsUsed tracks c2 l2 d2 i (with_use uses ch (Writes w bytes f.held) i)) (sym e) (subst (λ (x : Use). IsUsed tracks c2 l2 d2 ch x) (sym (use_here uses ch (Writes w bytes f.held))) mine)
        | inr ne ↦ subst (λ (x : Use). IsUsed tracks c2 l2 d2 m x) (sym (use_other uses ch m (Writes w bytes f.held) ne))
            (used_kept tracks c c2 l l2 d d2 (λ x. false) (λ i. i == n) m (uses m) spares refl (λ i g. ne_eqb i n (λ z. (let y = sym (can.unused m) ∙ ap (λ (j : ℕ). uses_slot j (uses m)) (sym z) ∙ g in (cc)))) (h.each m))
      ];
      alone = alone_more uses ch n w bytes f.held h.alone can.unused refl idle;
    }

-- ---- the clauses of the call, over plain values

-- the chain of the slot's file
record IsChained (medium : ℕ) (c : Content) (l : Layout) (n : ℕ) (entry : List ℕ) (f : File) : Type 0 where
  there : n < slot_count l
  entry_is : entry ≡ entry_at c l.directory n
  chain : Chain (geometry_of medium c) c (first_block entry) (l.files n).data_blocks
  followed : follow (geometry_of medium c) c (sector_count (geometry_of medium c)) (first_block entry) ≡ ended (l.files n).data_blocks
  held : f.held ≡ length (l.files n).data_blocks

is_chained : (medium : ℕ) (c : Content) (d : Disk) (uses : ℕ → Use) (n : ℕ) (entry : List ℕ) (f : File) → (h : HoldsNow medium c d uses) → CanBeWritten d uses n f → EntryStandsAt medium c n entry → IsChained medium c h.layout n entry f
is_chained medium c d uses n entry f h can stands =
    let tracks : ℕ = geometry_of medium c in
    let l : Layout = h.layout in
    let xs : List Place = (l.files n).data_blocks in
    let found = entry_found tracks c l n entry h.so.stands.sound stands in
    let old : IsOld tracks c l n f = old_file tracks c l d n f h.so.stands found.0 can.in_slot can.closed can.plain in
    let chain : Chain tracks c (first_block entry) xs = subst (λ (x : List ℕ). Chain tracks c (first_block x) xs) (sym found.1) old.chain in
    record {
      there = found.0;
      entry_is = found.1;
      chain = chain;
      followed = chain_followed tracks c xs (sector_count tracks) (first_block entry) chain (file_length tracks c l n (first_block entry) xs (geometry_size medium c) h.so.stands.sound chain (h.so.stands.sound.owned.blocks n found.0));
      held = old.held;
    }

pub appended : (medium : ℕ) (c c2 : Content) (n : ℕ) (entry body : List ℕ) (s : State) → AllWhole c → StandsAfter (geometry_of medium c) c (follow (geometry_of medium c) c (sector_count (geometry_of medium c)) (first_block entry)).blocks s
    → body ≡ reopened_entry entry → IsTypedAs entry body (type_byte entry % 128)
    → ((directory : List Place) → Chain (geometry_of medium c) c first_directory directory → n < 8 * length directory → Enters c c2 (sector_of directory n) (n % 8) body)
    → (d : Disk) (uses : ℕ → Use) (ch : ℕ) (f : File) → HoldsNow medium c d uses → uses ch ≡ Idle → CanBeWritten d uses n f → is_same_type Del f.kind ≡ false → EntryStandsAt medium c n entry
    → BeginsFile medium c2 (with_slot d n (Some (reopened f))) uses ch n false (bytes_in f.body) f.held (record { slot = n; replaces = false; chain = s })
appended medium c c2 n entry body s whole after is says put d uses ch f h idle can used stands =
    let tracks : ℕ = geometry_of medium c in
    let l : Layout = h.layout in
    let xs : List Place = (l.files n).data_blocks in
    let sound : Sound tracks c l = h.so.stands.sound in
    let old : IsChained medium c l n entry f = is_chained medium c d uses n entry f h can stands in
    let enters : Enters c c2 (sector_of l.directory n) (n % 8) body = put l.directory sound.directory old.there in
    let kind : type_byte entry % 16 < 5 = subst (λ (x : List ℕ). type_byte x % 16 < 5) (sym old.entry_is) (sound.kinds n old.there) in
    let in_slot : slot_with (chain_bytes c xs) entry (l.files n) ≡ Some f = ap (λ (x : List ℕ). slot_with (chain_bytes c xs) x (l.files n)) old.entry_is ∙ sym (h.so.stands.describes.slots n old.there) ∙ can.in_slot in
    let part : Part tracks c xs = chain_part tracks c l.owner (DataOf n) (λ p o t. (sound.owned.off_18 p t n).0 o) (first_block entry) xs old.chain (sound.owned.blocks n old.there) in
    let here : StandsAfter tracks c xs s = subst (λ (x : Followed). StandsAfter tracks c x.blocks s) old.followed after in
    let wrote : Wrote c s xs (bytes_in f.body) = subst (λ (x : List ℕ). Wrote c s xs x) (sym (plain_bytes (chain_bytes c xs) entry (l.files n) f in_slot kind can.plain)) (chain_wrote tracks c xs s whole part here) in
    let file : slot_of c body no_blocks ≡ Some (reopened f) = reopened_file entry body (chain_bytes c xs) (l.files n) f is says in_slot can.plain used in
    let apart : sector_of l.directory n ≢ directory_head = λ k. (let z = sym (sector_owned l sound.owned n old.there) ∙ ap l.owner k ∙ sound.owned.map in (cc)) in
    let same : geometry_of medium c2 ≡ tracks = geometry_elsewhere medium c c2 (ap (λ (x : Content). x directory_head) enters.written ∙ written_elsewhere c (sector_of l.directory n) directory_head enters.sector apart) in
    record {
      holds = subst (λ (k : ℕ). Holds k c2 (with_slot d n (Some (reopened f))) (with_use uses ch (Writes (record { slot = n; replaces = false; chain = s }) (bytes_in f.body) f.held))) (sym same)
          (record {
            layout = _;
            so = appended_over tracks c c2 l d uses ch n s body (bytes_in f.body) f h.so idle can old.there enters (omega (arith, says.typed, kind)) (unclosed_entry entry body says) file wrote here.same_tracks old.held;
          });
      same_slot = refl;
      same_way = refl;
    }

-- nothing breaks the file's chain off
pub not_broken : (medium : ℕ) (c : Content) (d : Disk) (uses : ℕ → Use) (n : ℕ) (entry : List ℕ) (f : File) (t : Trouble) → HoldsNow medium c d uses → CanBeWritten d uses n f → EntryStandsAt medium c n entry
    → (follow (geometry_of medium c) c (sector_count (geometry_of medium c)) (first_block entry)).trouble ≡ Some t → ⊥
not_broken medium c d uses n entry f t h can stands cut =
    let old : IsChained medium c h.layout n entry f = is_chained medium c d uses n entry f h can stands in
    (let z = sym (ap (λ (x : Followed). x.trouble) old.followed) ∙ cut in (cc))

-- the sector of the entry reads, so only the medium as a whole refuses it
pub entry_hindered : (medium : ℕ) (old new : Seen) (d : Disk) (uses : ℕ → Use) (n : ℕ) (entry : List ℕ) (f : File) (t : Trouble) → HoldsNow medium old.content d uses → CanBeWritten d uses n f → EntryStandsAt medium old.content n entry
    → ((directory : List Place) → Chain (geometry_of medium old.content) old.content first_directory directory → n < 8 * length directory → HasCause old new (sector_of directory n) t.code) → IsHindered old new t
entry_hindered medium old new d uses n entry f t h can stands cause =
    let tracks : ℕ = geometry_of medium old.content in
    let l : Layout = h.layout in
    let there : n < slot_count l = (is_chained medium old.content d uses n entry f h can stands).there in
    let reads : IsOk (old.content (sector_of l.directory n)) = sector_reads tracks old.content l.directory n h.so.stands.sound.directory there in
    sector_hindered old new (sector_of l.directory n) t reads (cause l.directory h.so.stands.sound.directory there)

-- ---- an entry of any number leaves all files

led_first : (tracks : ℕ) (c : Content) (a p : Place) → Has tracks a → led_to tracks c 0 a ≡ Some p → a ≡ p
unfolding led_to
led_first tracks c a p h e = (let z : led_to tracks c 0 a ≡ Some a = rw (has_true tracks a h) refl in let y = sym z ∙ e in (cc))

led_further : (tracks : ℕ) (c : Content) (n : ℕ) (a : Place) (cell : Cell) → Has tracks a → c a ≡ cell → IsOk cell → led_to tracks c (suc n) a ≡ led_to tracks c n (link (bytes_at c a))
led_further tracks c n a (Ok bytes) h e ok = led_on tracks (suc n) n c a bytes h e refl ∙ ap (λ (x : Cell). led_to tracks c n (link (or_nothing x))) (sym e)
led_further tracks c n a (Err code) h e ok = absurd (cc)

-- where links lead in a chain, the sector of that number stands
led_nth : (tracks : ℕ) (c : Content) (n : ℕ) (a p d : Place) (xs : List Place) → Chain tracks c a xs → led_to tracks c n a ≡ Some p → (n < length xs) × (p ≡ get_or xs n d)
led_nth tracks c n a p d [] h e = absurd (let z = sym (led_nowhere tracks n c a (λ k. (omega (arith, k.0)))) ∙ e in (cc))
led_nth tracks c zero a p d (x ∷ xs) h e = (omega arith, sym (led_first tracks c a p (subst (λ (q : Place). Has tracks q) (sym h.0) h.1) e) ∙ h.0)
led_nth tracks c (suc n) a p d (x ∷ xs) h e =
    let r = led_nth tracks c n (link (bytes_at c x)) p d xs h.3 (sym (led_further tracks c n x (c x) h.1 refl h.2) ∙ ap (led_to tracks c (suc n)) (sym h.0) ∙ e) in
    (omega (arith, r.0), r.1)

-- the entry of this number is written: all other closed files stay in place, and the sectors of its file are as they were too
pub entry_untouched : (medium : ℕ) (c c2 : Content) (n : ℕ) (body : List ℕ) (d : Disk) (uses : ℕ → Use) → HoldsNow medium c d uses → EntersLed (geometry_of medium c) c c2 n body → LeavesClosed (geometry_of medium c) c c2 (λ m. false) (λ m. m == n)
entry_untouched medium c c2 n body d uses h led =
    leaves_in tracks c c2 h.layout (λ m. m == n) h.so.stands.sound (by_place (led_to tracks c (n / 8) first_directory) refl led)
  where
    tracks : ℕ
    tracks = geometry_of medium c

    by_place : (o : Option Place) → led_to tracks c (n / 8) first_directory ≡ o → MatchOption o ((c2 ≡ c) × DirectoryLeadsOff tracks c) (λ p. Enters c c2 p (n % 8) body) → KeepsClosed h.layout c c2 (λ m. m == n)
    by_place None e same = kept_same h.layout c c2 (λ m. m == n) same.0
    by_place (Some p) e enters =
        let at = led_nth tracks c (n / 8) first_directory p directory_head h.layout.directory h.so.stands.sound.directory e in
        kept_exempt tracks h.layout c c c2 n body h.so.stands.sound (omega (arith, at.0)) (subst (λ (q : Place). Enters c c2 q (n % 8) body) at.1 enters)
