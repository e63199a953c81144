-- The directory of a sound disk as a list of entries, and the files that these tell of.
use Rattle.std.proofs.Common.{◌≡◌, ◌⊎◌, ℕ, zero, suc, ◌+◌, ◌-◌, ◌*◌, ◌/◌, ◌%◌, ◌<◌, ◌≤◌, List, [], ◌∷◌, ◌++◌, length, Bool, true, false, Option, Some, None, Result, Ok, Err, refl, sym, ap, ◌∙◌, arith, inl, inr}
use Rattle.std.specs.Prelude.{IfOk, IfErr, IsOkAnd, slice_get, slice_index_or, if◌then◌else◌, ◌&&◌, ◌==◌}
use Rattle.std.proofs.lemmas.Option.{slice_get_within}
use Rattle.std.proofs.lemmas.Bool.{cases_lt}
use Rattle.cbm_medium.specs.Place.{Place, directory_head, sector_count}
use Rattle.cbm_medium.specs.Content.{Cell, Content}
use Rattle.cbm_medium.specs.Links.{bytes_at, Chain}
use Rattle.cbm_medium.specs.declared.fault.Trouble.{Trouble}
use Rattle.cbm_medium.proofs.Walks.{chain_followed}
use Rattle.cbm_file.specs.Files.{Disk, File, Bytes}
use Rattle.cbm_bam.specs.Map.{geometry_of, geometry_in, is_wide, tracks_if}
use Rattle.cbm_chain.specs.Data.{chain_bytes}
use Rattle.cbm_chain.specs.Reading.{RestOfFile, Reading, rest_of, held_in, held_from}
use Rattle.cbm_directory.specs.Entries.{entry_of, entry_at, first_directory, first_block, is_closed, is_relative, type_byte}
use Rattle.cbm_directory.specs.Slots.{entries_from, all_entries, Listed, listed_in, listed_from, directory_of, Answers}
use Rattle.cbm_volume.specs.Blocks.{Blocks, LiesAs, file_of, slot_of, body_as}
use Rattle.cbm_volume.specs.Layouts.{DataOf, OwnedBy, Layout, slot_count, Sound, HasLayout}
use Rattle.cbm_volume.specs.Holding.{ShowsSlot, HasBytes}
use Rattle.cbm_volume.proofs.layouts.Lengths.{directory_length, file_length}

-- ---- entries by number

eight : (sector : List ℕ) (more : List (List ℕ)) → length (entries_from 8 sector 0 ++ more) ≡ length more + 8
eight sector more = omega arith

entry_here : (sector : List ℕ) (more : List (List ℕ)) (k : ℕ) → k < 8 → slice_get (entries_from 8 sector 0 ++ more) k ≡ Some (entry_of sector k)
entry_here sector more zero h = refl
entry_here sector more (suc zero) h = refl
entry_here sector more (suc (suc zero)) h = refl
entry_here sector more (suc (suc (suc zero))) h = refl
entry_here sector more (suc (suc (suc (suc zero)))) h = refl
entry_here sector more (suc (suc (suc (suc (suc zero))))) h = refl
entry_here sector more (suc (suc (suc (suc (suc (suc zero)))))) h = refl
entry_here sector more (suc (suc (suc (suc (suc (suc (suc zero))))))) h = refl
entry_here sector more (suc (suc (suc (suc (suc (suc (suc (suc k)))))))) h = absurd (omega arith)

entry_past : (sector : List ℕ) (more : List (List ℕ)) (j : ℕ) → slice_get (entries_from 8 sector 0 ++ more) (suc (suc (suc (suc (suc (suc (suc (suc j)))))))) ≡ slice_get more j
entry_past sector more j = refl

past : (sector : List ℕ) (more : List (List ℕ)) (k : ℕ) → 8 ≤ k → slice_get (entries_from 8 sector 0 ++ more) k ≡ slice_get more (k - 8)
past sector more k h =
    let e : k ≡ suc (suc (suc (suc (suc (suc (suc (suc (k - 8)))))))) = omega arith in
    ap (slice_get (entries_from 8 sector 0 ++ more)) e ∙ entry_past sector more (k - 8)

pub entries_length : (content : Content) (xs : List Place) → length (all_entries content xs) ≡ 8 * length xs
entries_length content [] = refl
entries_length content (x ∷ xs) = omega (arith, eight (bytes_at content x) (all_entries content xs), entries_length content xs)

next_sector : (x : Place) (xs : List Place) (i j : ℕ) → i ≡ suc j → slice_index_or (x ∷ xs) i directory_head ≡ slice_index_or xs j directory_head
next_sector x xs i j e = ap (λ (k : ℕ). slice_index_or (x ∷ xs) k directory_head) e

pub nth_entry : (content : Content) (xs : List Place) (n : ℕ) → n < 8 * length xs → slice_get (all_entries content xs) n ≡ Some (entry_at content xs n)
nth_entry content [] n h = absurd (omega arith)
nth_entry content (x ∷ xs) n h = elim (cases_lt n 8) [
  | inl front ↦ (let z : n / 8 ≡ 0 = omega arith in let r : n % 8 ≡ n = omega arith in
      entry_here (bytes_at content x) (all_entries content xs) n front
      ∙ (λ i. Some (entry_of (bytes_at content (slice_index_or (x ∷ xs) (sym z i) directory_head)) (sym r i))))
  | inr back ↦ (let q : n / 8 ≡ suc ((n - 8) / 8) = omega arith in let r : (n - 8) % 8 ≡ n % 8 = omega arith in
      past (bytes_at content x) (all_entries content xs) n back
      ∙ nth_entry content xs (n - 8) (omega arith)
      ∙ (λ i. Some (entry_of (bytes_at content (sym (next_sector x xs (n / 8) ((n - 8) / 8) q) i)) (r i))))
]

-- ---- the directory and the files of a sound disk

pub directory_listed : (tracks : ℕ) (c : Content) (l : Layout) → Sound tracks c l → directory_of tracks c ≡ record { entries = all_entries c l.directory; trouble = None }
unfolding directory_of listed_from
directory_listed tracks c l s = ap (listed_in c) (chain_followed tracks c l.directory 18 first_directory s.directory (directory_length tracks c l s))

-- the entry that stands at a number is the layout's
pub entry_found : (tracks : ℕ) (c : Content) (l : Layout) (n : ℕ) (entry : List ℕ) → Sound tracks c l → Answers (directory_of tracks c) n (Ok (Some entry))
    → (n < slot_count l) × (entry ≡ entry_at c l.directory n)
entry_found tracks c l n entry s a =
    let at : slice_get (all_entries c l.directory) n ≡ Some entry = ap (λ (d : Listed). slice_get d.entries n) (sym (directory_listed tracks c l s)) ∙ a in
    let room : n < 8 * length l.directory = omega (arith, slice_get_within (all_entries c l.directory) n entry at, entries_length c l.directory) in
    (room, same_some (sym at ∙ nth_entry c l.directory n room))
  where
    same_some : {x y : List ℕ} → Some x ≡ Some y → x ≡ y
    same_some e = cc

pub slot_shown : (tracks : ℕ) (c : Content) (l : Layout) (d : Disk) (n : ℕ) (r : Result (Option (List ℕ)) Trouble) → HasLayout tracks c l d → Answers (directory_of tracks c) n r → ShowsSlot d n r
slot_shown tracks c l d n (Ok (Some entry)) st a =
    let found = entry_found tracks c l n entry st.sound a in (
      omega (arith, found.0, st.describes.size),
      record {
        bytes = chain_bytes c (l.files n).data_blocks;
        blocks = l.files n;
        same = st.describes.slots n found.0 ∙ ap (λ (e : List ℕ). slot_of c e (l.files n)) (sym found.1);
      },
    )
slot_shown tracks c l d n (Ok None) st a =
    let all = directory_listed tracks c l st.sound in
    omega (arith, a.0, ap (λ (x : Listed). length x.entries) all, entries_length c l.directory, st.describes.size)
slot_shown tracks c l d n (Err t) st a = let z = sym a.1 ∙ ap (λ (x : Listed). x.trouble) (directory_listed tracks c l st.sound) in absurd (cc)

pub geometry_size : (medium : ℕ) (c : Content) → (geometry_of medium c ≡ 35) ⊎ (geometry_of medium c ≡ 40)
geometry_size medium c = by_cell (c directory_head)
  where
    by_test : (b : Bool) → (tracks_if b ≡ 35) ⊎ (tracks_if b ≡ 40)
    by_test true = inr refl
    by_test false = inl refl

    by_cell : (cell : Cell) → (geometry_in medium cell ≡ 35) ⊎ (geometry_in medium cell ≡ 40)
    by_cell (Ok map) = by_test ((medium == 40) && is_wide map)
    by_cell (Err code) = inl refl

-- what a file's chain gives
pub file_held : (tracks : ℕ) (c : Content) (l : Layout) (n : ℕ) (a : Place) (xs : List Place) → (tracks ≡ 35) ⊎ (tracks ≡ 40) → Sound tracks c l → Chain tracks c a xs → OwnedBy l.owner (DataOf n) xs
    → held_from tracks c (sector_count tracks) a ≡ record { bytes = chain_bytes c xs; trouble = None }
unfolding held_from
file_held tracks c l n a xs size s h w = ap (held_in c) (chain_followed tracks c xs (sector_count tracks) a h (file_length tracks c l n a xs size s h w))

pub closed_chain : (closed relative : Bool) (tracks : ℕ) (c : Content) (e : List ℕ) (b : Blocks) → closed ≡ true → LiesAs closed relative tracks c e b → Chain tracks c (first_block e) b.data_blocks
closed_chain false r tracks c e b z h = absurd (cc)
closed_chain true false tracks c e b z h = h.0
closed_chain true true tracks c e b z h = h.0

relative_body : (relative : Bool) (c : Content) (e bytes wanted : List ℕ) (b : Blocks) → body_as relative bytes e b ≡ Bytes wanted → bytes ≡ wanted
relative_body true c e bytes wanted b h = absurd (cc)
relative_body false c e bytes wanted b h = cc

pub closed_of : (bytes e : List ℕ) (b : Blocks) → (file_of bytes e b).closed ≡ is_closed e
unfolding file_of
closed_of bytes e b = refl

pub body_of : (bytes e : List ℕ) (b : Blocks) → (file_of bytes e b).body ≡ body_as (is_closed e && is_relative e) bytes e b
unfolding file_of
body_of bytes e b = refl

-- THE CHAIN OF A CLOSED FILE GIVES ITS BYTES
pub file_read : (tracks : ℕ) (c : Content) (l : Layout) (d : Disk) (n : ℕ) (entry bytes : List ℕ) → (tracks ≡ 35) ⊎ (tracks ≡ 40) → HasLayout tracks c l d
    → Answers (directory_of tracks c) n (Ok (Some entry)) → HasBytes d n bytes
    → held_from tracks c (sector_count tracks) (first_block entry) ≡ record { bytes = bytes; trouble = None }
file_read tracks c l d n entry bytes size st a has =
    let found = entry_found tracks c l n entry st.sound a in
    let e : List ℕ = entry_at c l.directory n in
    let same : Some has.file ≡ slot_of c e (l.files n) = sym has.in_slot ∙ st.describes.slots n found.0 in
    let is : has.file ≡ file_of (chain_bytes c (l.files n).data_blocks) e (l.files n) = not_empty (type_byte e == 0) has.file (file_of (chain_bytes c (l.files n).data_blocks) e (l.files n)) same in
    let closed : is_closed e ≡ true = sym (closed_of (chain_bytes c (l.files n).data_blocks) e (l.files n)) ∙ ap (λ (f : File). f.closed) (sym is) ∙ has.closed in
    let body : body_as (is_closed e && is_relative e) (chain_bytes c (l.files n).data_blocks) e (l.files n) ≡ Bytes bytes =
    sym (body_of (chain_bytes c (l.files n).data_blocks) e (l.files n)) ∙ ap (λ (f : File). f.body) (sym is) ∙ has.body in
    let chain : Chain tracks c (first_block e) (l.files n).data_blocks = closed_chain (is_closed e) (is_relative e) tracks c e (l.files n) closed (st.sound.lies n found.0) in
    ap (λ (x : List ℕ). held_from tracks c (sector_count tracks) (first_block x)) found.1
    ∙ file_held tracks c l n (first_block e) (l.files n).data_blocks size st.sound chain (st.sound.owned.blocks n found.0)
    ∙ (λ i. record { bytes = relative_body (is_closed e && is_relative e) c e (chain_bytes c (l.files n).data_blocks) bytes (l.files n) body i; trouble = None })
  where
    not_empty : (b : Bool) (f g : File) → Some f ≡ (if b then None else Some g) → f ≡ g
    not_empty true f g h = absurd (cc)
    not_empty false f g h = cc

-- a chain that gives these bytes is opened
pub opened : (content : Content) (r : Result Reading Trouble) (held : RestOfFile) (bytes : List ℕ)
    → IfOk r (λ x. rest_of content x ≡ held) → IfErr r (λ t. held ≡ record { bytes = []; trouble = Some t }) → held ≡ record { bytes = bytes; trouble = None }
    → IsOkAnd r (λ x. rest_of content x ≡ record { bytes = bytes; trouble = None })
opened content (Ok x) held bytes ok err e = ok ∙ e
opened content (Err t) held bytes ok err e = let z = ap (λ (x : RestOfFile). x.trouble) (sym err ∙ e) in absurd (cc)
