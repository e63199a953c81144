-- A side sector but the first is written with another list of side sectors: nobody looks at it, and the disk is the same.
use Rattle.std.proofs.Common.{◌≡◌, ◌≢◌, ℕ, ◌<◌, List, ◌++◌, drop, get_or, true, Ok, sym, ap, subst, ◌∙◌, inr, None}
use Rattle.std.proofs.lemmas.List.{set-get_or}
use Rattle.cbm_medium.specs.Place.{Place}
use Rattle.cbm_medium.specs.Content.{Cell, Content, written}
use Rattle.cbm_medium.specs.Links.{bytes_at, or_nothing}
use Rattle.cbm_medium.proofs.Places.{written_there, written_elsewhere}
use Rattle.cbm_file.specs.Files.{Disk, with_slot}
use Rattle.cbm_relfile.specs.SideSectors.{named_in, sides_listed}
use Rattle.cbm_directory.specs.Entries.{entry_at, first_block, first_side, is_closed, is_relative, width_of}
use Rattle.cbm_volume.specs.Blocks.{Blocks, Lies, HasRecords, slot_of}
use Rattle.cbm_volume.specs.Layouts.{DataOf, SideOf, Layout, slot_count, HasLayout}
use Rattle.cbm_volume.proofs.layouts.Frames.{Keeps, write_keeps, chain_kept, slot_kept}
use Rattle.cbm_volume.proofs.layouts.OneSlot.{with_file}
use Rattle.cbm_volume.proofs.layouts.Steps.{extends_itself}
use Rattle.cbm_volume.proofs.relative.Inside.{stands_inside}
use Rattle.cbm_volume.proofs.relative.Longer.{LiesRelative, lies_open, lies_so}
use Rattle.cbm_volume.proofs.relative.Sides.{listed_by, IsListed, OnlyAt, numbered_written}
use Rattle.cbm_volume.proofs.relative.Added.{listed_written, all_listed_written}

pub record CanCopy (tracks : ℕ) (c c' : Content) (l : Layout) (n : ℕ) (t : Place) (new : List ℕ) : Type 0 where
  pub closed : is_closed (entry_at c l.directory n) ≡ true
  pub relative : is_relative (entry_at c l.directory n) ≡ true
  pub owned : l.owner t ≡ SideOf n
  pub not_first : t ≢ first_side (entry_at c l.directory n)
  pub number : get_or new 2 0 ≡ get_or (bytes_at c t) 2 0
  pub length_kept : get_or new 3 0 ≡ get_or (bytes_at c t) 3 0
  pub blocks_kept : named_in 120 (drop 16 new) ≡ listed_by c t
  pub written : c' ≡ written c t new

pub record Copied (tracks : ℕ) (c c' : Content) (l : Layout) (d : Disk) (n : ℕ) : Type 0 where
  pub stands : HasLayout tracks c' (with_file l n (l.files n) l.owner) d
  pub listed : (xs : List Place) → IsListed c (l.files n).sides xs → IsListed c' (l.files n).sides xs

pub stands_copied : (tracks : ℕ) (c c' : Content) (l : Layout) (d : Disk) (n : ℕ) (t : Place) (new : List ℕ) → HasLayout tracks c l d → n < slot_count l → CanCopy tracks c c' l n t new → Copied tracks c c' l d n
stands_copied tracks c c' l d n t new s k g =
    let e : List ℕ = entry_at c l.directory n in
    let b : Blocks = l.files n in
    let was : LiesRelative tracks c e b = lies_open (is_closed e) (is_relative e) tracks c e b g.closed g.relative (s.sound.lies n k) in
    let only : OnlyAt c c' t = λ x ne. ap (λ (y : Content). y x) g.written ∙ written_elsewhere c t x new ne in
    let there : c' t ≡ Ok new = ap (λ (y : Content). y t) g.written ∙ written_there c t new in
    let keep : Keeps c c' l.owner (DataOf n) = λ x h. ap (λ (y : Content). y x) g.written ∙ write_keeps c t new l.owner (DataOf n) (λ z. (let y = sym g.owned ∙ z in (cc))) x h in
    let records : HasRecords tracks c' e b = record {
      some_block = was.records.some_block;
      some_width = was.records.some_width;
      width = was.records.width;
      first = was.records.first;
      listed = was.records.listed ∙ ap (λ (x : Cell). sides_listed (or_nothing x)) (sym (only (first_side e) g.not_first));
      numbered = numbered_written tracks c c' (width_of e) 0 t new b.sides only there g.number g.length_kept was.records.numbered;
      joined = (was.records.joined.0, ap (λ (ys : List Place). ys ++ was.records.joined.0) (all_listed_written c c' t new b.sides only there g.blocks_kept) ∙ was.records.joined.1);
    } in
    let lies : Lies tracks c' e b = lies_so (is_closed e) (is_relative e) tracks c' e b g.closed g.relative (record { chain = chain_kept tracks c c' l.owner (DataOf n) keep (first_block e) b.data_blocks (s.sound.owned.blocks n k) was.chain; records = records }) in
    let same : with_slot d n (slot_of c' e b) ≡ d =
    ap (with_slot d n) (slot_kept c c' l.owner (DataOf n) e b keep (s.sound.owned.blocks n k) ∙ sym (s.describes.slots n k))
    ∙ (λ i. record d { slots = set-get_or d.slots n None i }) in
    record {
      stands = subst (λ (x : Disk). HasLayout tracks c' (with_file l n b l.owner) x) same
          (stands_inside tracks c c' l d n t new b l.owner s k (inr g.owned) g.written lies (extends_itself l n s.sound.owned) (s.sound.owned.blocks n k) (s.sound.owned.sides n k) s.sound.free);
      listed = λ xs h. listed_written c c' t new b.sides xs only there g.blocks_kept h;
    }
