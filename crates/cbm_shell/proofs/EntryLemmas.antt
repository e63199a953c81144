-- An entry of the directory is written, and its file stays where it lies: the disk stays sound.
use Rattle.std.proofs.Common.{◌≡◌, ◌≢◌, ℕ, zero, suc, ◌*◌, ◌/◌, ◌%◌, ◌<◌, List, [], ◌∷◌, length, get_or, Bool, Option, Some, None, Ok, Err, IsOk, refl, sym, ap, subst, ◌∙◌, arith}
use Rattle.std.specs.Prelude.{◌==◌, if◌then◌else◌, MatchOption}
use Rattle.cbm_medium.specs.Place.{Place, directory_head}
use Rattle.cbm_medium.specs.Content.{Cell, Content}
use Rattle.cbm_medium.specs.Links.{or_nothing, bytes_at, link, Chain}
use Rattle.cbm_medium.proofs.Places.{written_elsewhere}
use Rattle.cbm_medium.proofs.Walks.{has_true}
use Rattle.cbm_directory.specs.Entries.{Enters, EntersLed, DirectoryLeadsOff, led_to, first_directory, type_byte, is_closed, is_relative, first_block, first_side, width_of, entry_at, sector_of}
use Rattle.cbm_directory.proofs.Placing.{led_on}
use Rattle.cbm_file.specs.Files.{Disk}
use Rattle.cbm_directory.specs.Slots.{Answers, directory_of}
use Rattle.cbm_volume.specs.Blocks.{Blocks, LiesAs, Lies}
use Rattle.cbm_volume.specs.Layouts.{DataOf, SideOf, OwnedBy, Layout, slot_count, Sound, HasLayout}
use Rattle.cbm_volume.proofs.layouts.Listing.{entry_found}
use Rattle.cbm_volume.proofs.layouts.Loose.{sector_owned}
use Rattle.cbm_volume.proofs.layouts.Meaning.{sound_stands}
use Rattle.cbm_volume.proofs.layouts.Frames.{lies_alike}
use Rattle.cbm_volume.proofs.layouts.Steps.{stands_entry, extends_itself}

-- the new entry says of its file what the old one said, so far as it counts for where the file lies
pub record LiesAlike (old new : List ℕ) : Type 0 where
  pub kind : type_byte new % 16 ≡ type_byte old % 16
  pub closed : type_byte new / 128 ≡ type_byte old / 128
  pub begins : first_block new ≡ first_block old
  pub lists : first_side new ≡ first_side old
  pub long : width_of new ≡ width_of old

-- the file lies where it lay
pub lies_still : (tracks : ℕ) (c : Content) (old new : List ℕ) (b : Blocks) → LiesAlike old new → Lies tracks c old b → Lies tracks c new b
lies_still tracks c old new b h lies =
    subst (λ (x : Bool). LiesAs x (is_relative new) tracks c new b) (ap (λ (k : ℕ). k % 2 == 1) (sym h.closed))
    (subst (λ (k : ℕ). LiesAs (is_closed old) (k == 4) tracks c new b) (sym h.kind)
    (lies_alike (is_closed old) (is_relative old) tracks c old new b (sym h.begins) (sym h.lists) (sym h.long) lies))

-- where so many links of a chain lead
pub led_along : (tracks : ℕ) (c : Content) (a : Place) (xs : List Place) (i : ℕ) (d : Place) → Chain tracks c a xs → i < length xs → led_to tracks c i a ≡ Some (get_or xs i d)
unfolding led_to
led_along tracks c a [] i d h l = absurd (omega arith)
led_along tracks c a (x ∷ rest) zero d h l = ap (λ (p : Place). led_to tracks c 0 p) h.0 ∙ ap (λ (b : Bool). if b then Some x else None) (has_true tracks x h.1)
led_along tracks c a (x ∷ rest) (suc i) d h l =
    ap (λ (p : Place). led_to tracks c (suc i) p) h.0 ∙ on (c x) refl h.2 ∙ led_along tracks c (link (bytes_at c x)) rest i d h.3 (omega arith)
  where
    on : (cell : Cell) → c x ≡ cell → IsOk cell → led_to tracks c (suc i) x ≡ led_to tracks c i (link (bytes_at c x))
    on (Ok bytes) e ok = led_on tracks (suc i) i c x bytes h.1 e refl ∙ ap (λ (y : Cell). led_to tracks c i (link (or_nothing y))) (sym e)
    on (Err code) e ok = absurd (cc)

-- it is written in the sector of its slot
pub entered_in : (tracks : ℕ) (c c2 : Content) (directory : List Place) (n : ℕ) (entry : List ℕ) → Chain tracks c first_directory directory → n < 8 * length directory → EntersLed tracks c c2 n entry → Enters c c2 (sector_of directory n) (n % 8) entry
entered_in tracks c c2 directory n entry chain k h =
    subst (λ (o : Option Place). MatchOption o ((c2 ≡ c) × DirectoryLeadsOff tracks c) (λ p. Enters c c2 p (n % 8) entry)) (led_along tracks c first_directory directory (n / 8) directory_head chain (omega arith)) h

-- THE DISK IS SOUND AS IT WAS, and 18/0 is the same
pub record StaysSound (tracks : ℕ) (c c2 : Content) : Type 0 where
  pub layout : Layout
  pub sound : Sound tracks c2 layout
  pub head : c2 directory_head ≡ c directory_head

pub stays_same : (tracks : ℕ) (c c2 : Content) (l : Layout) → Sound tracks c l → c2 ≡ c → StaysSound tracks c c2
stays_same tracks c c2 l s e = record { layout = l; sound = subst (λ (x : Content). Sound tracks x l) (sym e) s; head = ap (λ (x : Content). x directory_head) e }

-- one change after another
pub then_sound : (tracks : ℕ) (c between c2 : Content) (a : StaysSound tracks c between) → StaysSound tracks between c2 → StaysSound tracks c c2
then_sound tracks c between c2 a b = record { layout = b.layout; sound = b.sound; head = b.head ∙ a.head }

-- an entry is put into its slot, whose file lies in sectors that are the slot's
pub put_sound : (tracks : ℕ) (c c2 : Content) (l : Layout) (n : ℕ) (new : List ℕ) (b : Blocks) → Sound tracks c l → n < slot_count l → type_byte new % 16 < 5 → Lies tracks c new b
    → OwnedBy l.owner (DataOf n) b.data_blocks → OwnedBy l.owner (SideOf n) b.sides → EntersLed tracks c c2 n new → StaysSound tracks c c2
put_sound tracks c c2 l n new b s room kind lies blocks sides led = record {
  layout = _;
  sound = (stands_entry tracks c c2 l d.0 n (sector_of l.directory n) new b l.owner d.1 room refl enters kind lies (extends_itself l n s.owned) blocks sides s.free).sound;
  head = ap (λ (x : Content). x directory_head) enters.written ∙ written_elsewhere c (sector_of l.directory n) directory_head enters.sector apart;
}
  where
    d : (d : Disk) × HasLayout tracks c l d
    d = sound_stands tracks c l s

    enters : Enters c c2 (sector_of l.directory n) (n % 8) new
    enters = entered_in tracks c c2 l.directory n new s.directory room led

    apart : sector_of l.directory n ≢ directory_head
    apart k = (let z = sym (sector_owned l s.owned n room) ∙ ap l.owner k ∙ s.owned.map in (cc))

-- the same where the old entry says as much of its file
pub stays_sound : (tracks : ℕ) (c c2 : Content) (l : Layout) (n : ℕ) (old new : List ℕ) → Sound tracks c l → Answers (directory_of tracks c) n (Ok (Some old)) → LiesAlike old new → EntersLed tracks c c2 n new → StaysSound tracks c c2
stays_sound tracks c c2 l n old new s stands alike led = put_sound tracks c c2 l n new (l.files n) s room kind lies (s.owned.blocks n room) (s.owned.sides n room) led
  where
    found : (n < slot_count l) × (old ≡ entry_at c l.directory n)
    found = entry_found tracks c l n old s stands

    room : n < slot_count l
    room = found.0

    kind : type_byte new % 16 < 5
    kind = omega (arith, alike.kind, subst (λ (x : List ℕ). type_byte x % 16 < 5) (sym found.1) (s.kinds n room))

    lies : Lies tracks c new (l.files n)
    lies = lies_still tracks c old new (l.files n) alike (subst (λ (x : List ℕ). Lies tracks c x (l.files n)) (sym found.1) (s.lies n room))
