-- One block more, from the claim to the list: four writes, and after each of them a sound disk.
use Rattle.std.proofs.Common.{◌≡◌, ◌≢◌, ℕ, ◌*◌, ◌/◌, ◌<◌, ◌≤◌, List, [], ◌∷◌, ◌++◌, length, get_or, drop, true, false, refl, sym, ap, subst, ◌∙◌}
use Rattle.cbm_medium.specs.Place.{Place, directory_head}
use Rattle.cbm_medium.specs.Content.{Cell, Content, written}
use Rattle.cbm_medium.specs.Links.{bytes_at, or_nothing, link}
use Rattle.cbm_medium.proofs.Places.{written_there}
use Rattle.cbm_file.specs.Files.{Disk, with_slot}
use Rattle.cbm_bam.specs.Map.{is_free_in, map_of, Claims}
use Rattle.cbm_relfile.specs.SideSectors.{named_in, sides_listed}
use Rattle.cbm_directory.specs.Entries.{entry_at, is_closed, is_relative}
use Rattle.cbm_volume.specs.Blocks.{Blocks, slot_of}
use Rattle.cbm_volume.specs.Layouts.{Owner, TheMap, Directory, DataOf, SideOf, is_loose, OwnedBy, Layout, slot_count, HasLayout, own}
use Rattle.cbm_chain.specs.Writing.{last_of}
use Rattle.cbm_volume.proofs.layouts.Frames.{Keeps, sector_kept}
use Rattle.cbm_volume.proofs.layouts.Loose.{entry_kept}
use Rattle.cbm_volume.proofs.layouts.OneSlot.{with_file, blocks_here}
use Rattle.cbm_volume.proofs.layouts.Steps.{IsTaken, one_less, stands_claim, stands_loose}
use Rattle.cbm_volume.proofs.layouts.Writers.{written_keeps}
use Rattle.cbm_volume.proofs.relative.Longer.{longer, stands_longer}
use Rattle.cbm_volume.proofs.relative.Sides.{IsListed, listed_by, Pushed, stands_pushed}
use Rattle.cbm_volume.proofs.written.Finishes.{last_owned}

-- side sectors that stay list what they listed
pub listed_kept : (c c' : Content) (owner : Place → Owner) (o : Owner) → Keeps c c' owner o → (ss xs : List Place) → OwnedBy owner o ss → IsListed c ss xs → IsListed c' ss xs
listed_kept c c' owner o k [] xs w h = h
listed_kept c c' owner o k (s ∷ ss) xs w h = (ap (λ (x : Cell). named_in 120 (drop 16 (or_nothing x))) (k s w.0) ∙ h.0, listed_kept c c' owner o k ss (drop 120 xs) w.1 h.1)

-- four writes: the map, the new block, the old last block, the side sector that has room
pub record IsOneMore (tracks : ℕ) (c0 c1 c2 c3 c4 : Content) (l : Layout) (n : ℕ) (b : Place) (rest : List Place) (q t : Place) (tail new side : List ℕ) : Type 0 where
  pub few : 18 ≤ tracks
  pub closed : is_closed (entry_at c0 l.directory n) ≡ true
  pub relative : is_relative (entry_at c0 l.directory n) ≡ true
  pub blocks : (l.files n).data_blocks ≡ b ∷ rest
  pub listed : IsListed c0 (l.files n).sides (b ∷ rest)
  pub room : length (b ∷ rest) < 120 * length (l.files n).sides
  pub claims : Claims tracks c0 c1 q
  pub new_block : c2 ≡ written c1 q tail
  pub last : (link tail).track ≡ 0
  pub old_block : c3 ≡ written c2 (last_of b rest) new
  pub linked : link new ≡ q
  pub which : t ≡ get_or (l.files n).sides (length (b ∷ rest) / 120) directory_head
  pub number : get_or side 2 0 ≡ get_or (bytes_at c3 t) 2 0
  pub length_kept : get_or side 3 0 ≡ get_or (bytes_at c3 t) 3 0
  pub list : sides_listed side ≡ sides_listed (bytes_at c3 t)
  pub more : named_in 120 (drop 16 side) ≡ listed_by c3 t ++ q ∷ []
  pub side_sector : c4 ≡ written c3 t side

-- what stands after each of them
pub record OneMore (tracks : ℕ) (c0 c1 c2 c3 c4 : Content) (l : Layout) (d : Disk) (n : ℕ) (q : Place) : Type 0 where
  pub claimed : HasLayout tracks c1 l (one_less d)
  pub written_first : HasLayout tracks c2 l (one_less d)
  pub entry : entry_at c2 l.directory n ≡ entry_at c0 l.directory n
  pub linked : HasLayout tracks c3 (with_file l n (longer (l.files n) q) (own l.owner q (DataOf n))) (with_slot (one_less d) n (slot_of c3 (entry_at c2 l.directory n) (longer (l.files n) q)))
  pub pushed : Pushed tracks c4 (with_file l n (longer (l.files n) q) (own l.owner q (DataOf n))) (with_slot (one_less d) n (slot_of c3 (entry_at c2 l.directory n) (longer (l.files n) q))) n

pub one_more : (tracks : ℕ) (c0 c1 c2 c3 c4 : Content) (l : Layout) (d : Disk) (n : ℕ) (b : Place) (rest : List Place) (q t : Place) (tail new side : List ℕ) → HasLayout tracks c0 l d → n < slot_count l
    → IsOneMore tracks c0 c1 c2 c3 c4 l n b rest q t tail new side → OneMore tracks c0 c1 c2 c3 c4 l d n q
one_more tracks c0 c1 c2 c3 c4 l d n b rest q t tail new side s k g =
    let claim = stands_claim tracks c0 c1 l d q s g.few g.claims in
    let s2 : HasLayout tracks c2 l (one_less d) = stands_loose tracks c1 c2 l (one_less d) q tail claim.stands (ap is_loose claim.taken.nobody) g.new_block in
    let apart_q : (o : Owner) → is_loose o ≡ false → l.owner q ≢ o = λ o h z. (let y = sym (ap is_loose claim.taken.nobody) ∙ ap is_loose z ∙ h in (cc)) in
    let dir1 : Keeps c0 c1 l.owner Directory = written_keeps c0 c1 directory_head g.claims.remaps.map l.owner Directory g.claims.remaps.written (λ z. (let y = sym s.sound.owned.map ∙ z in (cc))) in
    let dir2 : Keeps c1 c2 l.owner Directory = written_keeps c1 c2 q tail l.owner Directory g.new_block (apart_q Directory refl) in
    let same : entry_at c2 l.directory n ≡ entry_at c0 l.directory n = entry_kept c1 c2 l s.sound.owned dir2 n k ∙ entry_kept c0 c1 l s.sound.owned dir1 n k in
    let map2 : map_of c2 ≡ map_of c1 = sector_kept c1 c2 l.owner TheMap (written_keeps c1 c2 q tail l.owner TheMap g.new_block (apart_q TheMap refl)) directory_head s.sound.owned.map in
    let taken2 : IsTaken tracks c2 l q = record { has = claim.taken.has; off_18 = claim.taken.off_18; nobody = claim.taken.nobody; taken = ap (λ (m : List ℕ). is_free_in m q) map2 ∙ claim.taken.taken } in
    let own_b : OwnedBy l.owner (DataOf n) (b ∷ rest) = subst (λ (xs : List Place). OwnedBy l.owner (DataOf n) xs) g.blocks (s.sound.owned.blocks n k) in
    let own_p : l.owner (last_of b rest) ≡ DataOf n = last_owned l.owner (DataOf n) b rest own_b in
    let s3 = stands_longer tracks c2 c3 l (one_less d) n b rest q new tail s2 k (record {
      closed = ap is_closed same ∙ g.closed;
      relative = ap is_relative same ∙ g.relative;
      blocks = g.blocks;
      taken = taken2;
      holds = ap (λ (y : Content). y q) g.new_block ∙ written_there c1 q tail;
      last = g.last;
      linked = g.linked;
      written = g.old_block;
    }) in
    let dir3 : Keeps c2 c3 l.owner Directory = written_keeps c2 c3 (last_of b rest) new l.owner Directory g.old_block (λ z. (let y = sym own_p ∙ z in (cc))) in
    let same3 : entry_at c3 l.directory n ≡ entry_at c0 l.directory n = entry_kept c2 c3 l s.sound.owned dir3 n k ∙ same in
    let side1 : Keeps c0 c1 l.owner (SideOf n) = written_keeps c0 c1 directory_head g.claims.remaps.map l.owner (SideOf n) g.claims.remaps.written (λ z. (let y = sym s.sound.owned.map ∙ z in (cc))) in
    let side2 : Keeps c1 c2 l.owner (SideOf n) = written_keeps c1 c2 q tail l.owner (SideOf n) g.new_block (apart_q (SideOf n) refl) in
    let side3 : Keeps c2 c3 l.owner (SideOf n) = written_keeps c2 c3 (last_of b rest) new l.owner (SideOf n) g.old_block (λ z. (let y = sym own_p ∙ z in (cc))) in
    let ss : List Place = (l.files n).sides in
    let listed3 : IsListed c3 ss (b ∷ rest) = listed_kept c2 c3 l.owner (SideOf n) side3 ss (b ∷ rest) (s.sound.owned.sides n k)
    (listed_kept c1 c2 l.owner (SideOf n) side2 ss (b ∷ rest) (s.sound.owned.sides n k) (listed_kept c0 c1 l.owner (SideOf n) side1 ss (b ∷ rest) (s.sound.owned.sides n k) g.listed)) in
    let l3 : Layout = with_file l n (longer (l.files n) q) (own l.owner q (DataOf n)) in
    let here : l3.files n ≡ longer (l.files n) q = blocks_here l.files n (longer (l.files n) q) in
    let sides3 : (l3.files n).sides ≡ ss = ap (λ (x : Blocks). x.sides) here in
    record {
      claimed = claim.stands;
      written_first = s2;
      entry = same;
      linked = s3;
      pushed = stands_pushed tracks c3 c4 l3 (with_slot (one_less d) n (slot_of c3 (entry_at c2 l.directory n) (longer (l.files n) q))) n (b ∷ rest) q t side s3 k (record {
        closed = ap is_closed same3 ∙ g.closed;
        relative = ap is_relative same3 ∙ g.relative;
        blocks = ap (λ (x : Blocks). x.data_blocks) here ∙ ap (λ (xs : List Place). xs ++ q ∷ []) g.blocks;
        listed = subst (λ (ys : List Place). IsListed c3 ys (b ∷ rest)) (sym sides3) listed3;
        room = subst (λ (ys : List Place). length (b ∷ rest) < 120 * length ys) (sym sides3) g.room;
        side = g.which ∙ ap (λ (ys : List Place). get_or ys (length (b ∷ rest) / 120) directory_head) (sym sides3);
        number = g.number;
        length_kept = g.length_kept;
        list = g.list;
        more = g.more;
        written = g.side_sector;
      });
    }
