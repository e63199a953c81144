-- A byte is taken of a channel of the code, beside the machine's.
use Rattle.std.proofs.Common.{◌≡◌, ℕ, List, drop, Some, refl, sym, ap, ◌∙◌, subst}
use Rattle.cbm_file.specs.Files.{Disk}
use Rattle.cbm_medium.specs.Content.{Content}
use Rattle.cbm_chain.specs.Reading.{Reading}
use Rattle.cbm_volume.specs.Writers.{Use, HoldsNow, with_use}
use Rattle.cbm_volume.specs.Writers as usage
use Rattle.cbm_listing.specs.Listed as listed
use Rattle.cbm_machine.specs.Machines as machine
use Rattle.cbm_machine.specs.Talking.{taken_on}
use Rattle.cbm_channel.specs.declared.channel.Channel.{Channel}
use Rattle.cbm_channel.specs.declared.channel.Channel.TheVariants as code
use Rattle.cbm_channel.specs.Placed.{Placed}
use Rattle.cbm_channel.specs.Standing.{ChannelStands, use_of}
use Rattle.cbm_channel.proofs.Uses.{with_same}

-- a channel that gives nothing stays
stays : (d : Disk) (k : Channel) (x : machine.Channel) → ((l : listed.ListedBytes) → k ≡ code.Listing l → ⊥) → ((slot : ℕ) (r : Reading) → k ≡ code.File slot r → ⊥) → ((r : Placed) → k ≡ code.Records r → ⊥) → ChannelStands k x → taken_on d x ≡ x
stays d code.Closed x no_listing no_file no_records h = ap (taken_on d) h ∙ sym h
stays d (code.Listing l) x no_listing no_file no_records h = absurd (no_listing l refl)
stays d (code.File slot r) x no_listing no_file no_records h = absurd (no_file slot r refl)
stays d (code.Writing w full) x no_listing no_file no_records h = ap (taken_on d) h.2 ∙ sym h.2
stays d (code.Stopped slot) x no_listing no_file no_records h = ap (taken_on d) h ∙ sym h
stays d (code.Records r) x no_listing no_file no_records h = absurd (no_records r refl)

pub nothing_taken : (t : ℕ) (c : Content) (d : Disk) (uses : ℕ → Use) (ch : ℕ) (k : Channel) (x : machine.Channel) → ((l : listed.ListedBytes) → k ≡ code.Listing l → ⊥) → ((slot : ℕ) (r : Reading) → k ≡ code.File slot r → ⊥)
    → ((r : Placed) → k ≡ code.Records r → ⊥) → HoldsNow t c d uses → uses ch ≡ use_of k x → ChannelStands k x → ChannelStands k (taken_on d x) × HoldsNow t c d (with_use uses ch (use_of k (taken_on d x)))
nothing_taken t c d uses ch k x no_listing no_file no_records h e stands =
    let same = sym (stays d k x no_listing no_file no_records stands) in
    (subst (ChannelStands k) same stands, subst (λ (y : machine.Channel). HoldsNow t c d (with_use uses ch (use_of k y))) same (subst (HoldsNow t c d) (sym (with_same uses ch (use_of k x) e)) h))

-- a file's reader goes on
pub file_left : (k : Channel) (slot : ℕ) (r : Reading) (x : machine.Channel) (u : Use) → k ≡ code.File slot r → ChannelStands k x → u ≡ use_of k x → (left : List ℕ) × (x ≡ machine.Reading (Some slot) left) × (u ≡ usage.Reads slot r left)
file_left k slot r x u e h f =
    let at : ChannelStands (code.File slot r) x = subst (λ y. ChannelStands y x) e h in
    (at.0, at.1, f ∙ ap (λ y. use_of y x) e ∙ ap (use_of (code.File slot r)) at.1)

pub file_taken : (t : ℕ) (c : Content) (d : Disk) (uses : ℕ → Use) (ch slot : ℕ) (new : Reading) (left : List ℕ) (x : machine.Channel) → x ≡ machine.Reading (Some slot) left → HoldsNow t c d (with_use uses ch (usage.Reads slot new (drop 1 left)))
    → ChannelStands (code.File slot new) (taken_on d x) × HoldsNow t c d (with_use uses ch (use_of (code.File slot new) (taken_on d x)))
file_taken t c d uses ch slot new left x e h = rw e ((drop 1 left, refl), h)

-- records go on, which use the disk as before
pub records_taken : (t : ℕ) (c : Content) (d : Disk) (uses : ℕ → Use) (ch : ℕ) (k : Channel) (r s : Placed) (x y : machine.Channel) → k ≡ code.Records r → ChannelStands k x → HoldsNow t c d uses → uses ch ≡ use_of k x → s.slot ≡ r.slot
    → y ≡ machine.Relative s.slot s.number s.position → ChannelStands (code.Records s) y × HoldsNow t c d (with_use uses ch (use_of (code.Records s) y))
records_taken t c d uses ch k r s x y e h holds used same is =
    let now : uses ch ≡ usage.Relates s.slot = used ∙ ap (λ (z : Channel). use_of z x) e ∙ ap usage.Relates (sym same) in
    (is, subst (HoldsNow t c d) (sym (with_same uses ch (usage.Relates s.slot) now)) holds)

-- what the machine has of them
pub relative_is : (k : Channel) (r : Placed) (x : machine.Channel) → k ≡ code.Records r → ChannelStands k x → x ≡ machine.Relative r.slot r.number r.position
relative_is k r x e h = subst (λ y. ChannelStands y x) e h
