-- A record that lies in one block is written in place: the file has it among its records, and all else is as it was.
use Rattle.std.proofs.Common.{◌≡◌, ℕ, suc, ◌+◌, ◌-◌, ◌*◌, ◌<◌, ◌≤◌, List, [], ◌∷◌, length, take, drop, set, get_or, Option, Some, Ok, true, refl, sym, ap, subst, ◌∙◌, arith, inl, inr}
use Rattle.std.specs.Prelude.{IsOk}
use Rattle.std.proofs.lemmas.Bool.{cases_lt}
use Rattle.std.proofs.lemmas.List.{length-take-le, take-append-drop, take_at, take_all}
use Rattle.std.proofs.Math.Nat.{suc-mul}
use Rattle.cbm_medium.specs.Place.{Place, directory_head}
use Rattle.cbm_medium.specs.Content.{Cell, Content, written}
use Rattle.cbm_medium.specs.Links.{bytes_at, or_nothing, link}
use Rattle.cbm_file.specs.Files.{Disk, File, Records, with_slot, file_at}
use Rattle.cbm_chain.specs.Data.{data_of, data_end, chain_bytes}
use Rattle.cbm_relfile.specs.Records.{AllWhole, put_into}
use Rattle.cbm_relfile.proofs.Positions.{whole_bytes}
use Rattle.cbm_directory.specs.Entries.{entry_at, is_closed, is_relative, width_of}
use Rattle.cbm_volume.specs.Blocks.{Blocks, slot_of, slices}
use Rattle.cbm_volume.specs.Layouts.{Layout, slot_count, HasLayout}
use Rattle.cbm_volume.proofs.layouts.OneSlot.{with_file}
use Rattle.cbm_volume.proofs.relative.Put.{put_front, put_back, put_length, slices_put}
use Rattle.cbm_volume.proofs.relative.InPlace.{stands_written, put_in_block}
use Rattle.cbm_volume.proofs.relative.GrownFile.{with_records, slot_grown}

-- a part of a sector's data is written: its link stays, and its data has the part
pub record DataPut (sector : List ℕ) (place : ℕ) (part : List ℕ) : Type 0 where
  pub linked : link (put_into sector (2 + place) part) ≡ link sector
  pub parts : data_of (put_into sector (2 + place) part) ≡ put_into (data_of sector) place part

taken_put : (n : ℕ) (rest : List ℕ) (place : ℕ) (part : List ℕ) → place + length part ≤ length (take n rest) → take n (put_into rest place part) ≡ put_into (take n rest) place part
taken_put n rest place part h = elim (cases_lt (length rest) n) [
  | inl past ↦
      (let all : take n rest ≡ rest = take_all n rest (omega (arith, past)) in
      take_all n (put_into rest place part) (omega (arith, past, put_length rest place part (omega (arith, h, ap length all)))) ∙ ap (λ (xs : List ℕ). put_into xs place part) (sym all))
  | inr room ↦
      (let size : length (take n rest) ≡ n = length-take-le n rest room in
      ap (λ (xs : List ℕ). take n (put_into xs place part)) (sym (take-append-drop n rest))
      ∙ ap (take n) (put_back (take n rest) (drop n rest) place part h)
      ∙ take_at (put_into (take n rest) place part) (drop n rest) n (put_length (take n rest) place part h ∙ size))
]

pub data_put : (sector : List ℕ) (place : ℕ) (part : List ℕ) → length sector ≡ 256 → place + length part ≤ length (data_of sector) → DataPut sector place part
data_put [] place part w h = absurd (omega (arith, w))
data_put (a ∷ []) place part w h = absurd (omega (arith, w))
data_put (a ∷ b ∷ rest) place part w h =
    let is : put_into (a ∷ b ∷ rest) (2 + place) part ≡ a ∷ b ∷ put_into rest place part = put_front (a ∷ b ∷ []) rest place part in
    record {
      linked = ap link is;
      parts = ap data_of is ∙ taken_put (data_end (a ∷ b ∷ rest) - 2) rest place part h;
    }

-- what is written, and where: record k of the file, which lies in its block i from a place on
pub record IsRecordPut (tracks : ℕ) (c c' : Content) (l : Layout) (d : Disk) (n i place k : ℕ) (sector rec : List ℕ) (f : File) (w b s : ℕ) (rs : List (List ℕ)) : Type 0 where
  pub whole : AllWhole c
  pub in_slot : file_at d n ≡ Some f
  pub body : f.body ≡ Records w rs b s
  pub closed : is_closed (entry_at c l.directory n) ≡ true
  pub relative : is_relative (entry_at c l.directory n) ≡ true
  pub width : 0 < width_of (entry_at c l.directory n)
  pub size : length rec ≡ width_of (entry_at c l.directory n)
  pub position : k * width_of (entry_at c l.directory n) ≡ 254 * i + place
  pub there : suc k * width_of (entry_at c l.directory n) ≤ length (chain_bytes c (l.files n).data_blocks)
  pub block : i < length (l.files n).data_blocks
  pub holds : c (get_or (l.files n).data_blocks i directory_head) ≡ Ok sector
  pub fits : place + length rec ≤ length (data_of sector)
  pub written : c' ≡ written c (get_or (l.files n).data_blocks i directory_head) (put_into sector (2 + place) rec)

pub record RecordPut (tracks : ℕ) (c c' : Content) (l : Layout) (d : Disk) (n k : ℕ) (rec : List ℕ) (f : File) (w : ℕ) (rs : List (List ℕ)) : Type 0 where
  pub stands : HasLayout tracks c' (with_file l n (l.files n) l.owner) (with_slot d n (Some (with_records f w (set rs k rec) (l.files n))))

-- THE FILE HAS THE RECORD IN ITS PLACE
pub stands_put : (tracks : ℕ) (c c' : Content) (l : Layout) (d : Disk) (n i place k : ℕ) (sector rec : List ℕ) (f : File) (w b s : ℕ) (rs : List (List ℕ)) → HasLayout tracks c l d → n < slot_count l
    → slices (length (chain_bytes c (l.files n).data_blocks)) (width_of (entry_at c l.directory n)) (chain_bytes c (l.files n).data_blocks) ≡ rs
    → IsRecordPut tracks c c' l d n i place k sector rec f w b s rs → RecordPut tracks c c' l d n k rec f w rs
stands_put tracks c c' l d n i place k sector rec f w b s rs st room sl g =
    let e : List ℕ = entry_at c l.directory n in
    let x : Blocks = l.files n in
    let p : Place = get_or x.data_blocks i directory_head in
    let at : bytes_at c p ≡ sector = ap or_nothing g.holds in
    let size : length sector ≡ 256 = sym (ap length at) ∙ whole_bytes c p g.whole (subst (λ (y : Cell). IsOk y) (sym g.holds) refl) in
    let part : DataPut sector place rec = data_put sector place rec size g.fits in
    let done = stands_written tracks c c' l d n i (put_into sector (2 + place) rec) st room
    (record { closed = g.closed; relative = g.relative; whole = g.whole; there = g.block; linked = part.linked ∙ ap link (sym at); written = g.written }) in
    let old : data_of (bytes_at c p) ≡ data_of sector = ap data_of at in
    let bytes : chain_bytes c' x.data_blocks ≡ put_into (chain_bytes c x.data_blocks) (254 * i + place) rec =
    put_in_block done.kept.front (data_of (bytes_at c p)) done.kept.back (data_of (put_into sector (2 + place) rec)) (chain_bytes c x.data_blocks) (chain_bytes c' x.data_blocks) rec i place
    done.kept.size done.kept.was done.kept.is (part.parts ∙ ap (λ (ys : List ℕ). put_into ys place rec) (sym old)) (omega (arith, g.fits, ap length old)) in
    let at_k : chain_bytes c' x.data_blocks ≡ put_into (chain_bytes c x.data_blocks) (k * width_of e) rec = bytes ∙ ap (λ (o : ℕ). put_into (chain_bytes c x.data_blocks) o rec) (sym g.position) in
    let same : length (put_into (chain_bytes c x.data_blocks) (k * width_of e) rec) ≡ length (chain_bytes c x.data_blocks) = put_length (chain_bytes c x.data_blocks) (k * width_of e) rec (omega (arith, g.there, g.size, suc-mul k (width_of e))) in
    let records : slices (length (chain_bytes c' x.data_blocks)) (width_of e) (chain_bytes c' x.data_blocks) ≡ set rs k rec =
    (λ j. slices (length (at_k j)) (width_of e) (at_k j))
    ∙ ap (λ (m : ℕ). slices m (width_of e) (put_into (chain_bytes c x.data_blocks) (k * width_of e) rec)) same
    ∙ slices_put (length (chain_bytes c x.data_blocks)) (width_of e) (chain_bytes c x.data_blocks) k rec g.width g.size g.there (omega arith)
    ∙ ap (λ (ys : List (List ℕ)). set ys k rec) sl in
    let file : slot_of c' e x ≡ Some (with_records f w (set rs k rec) x) = slot_grown c c' e x x f w b s rs (set rs k rec) (sym g.in_slot ∙ st.describes.slots n room) g.body records in
    record { stands = subst (λ (o : Option File). HasLayout tracks c' (with_file l n x l.owner) (with_slot d n o)) file done.stands }
