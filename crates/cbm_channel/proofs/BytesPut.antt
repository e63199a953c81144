-- A byte that is put on a channel of the code, beside the machine's.
use Rattle.std.proofs.Common.{◌≡◌, ℕ, ◌<◌, ◌≤◌, Bool, true, false, List, refl, sym, ap, ◌∙◌, subst, drop, arith}
use Rattle.std.specs.Prelude.{Option, Some, None, ◌==◌, ◌&&◌, not, MatchBool}
use Rattle.std.proofs.lemmas.Bool.{ne_eqb, eq-eqb}
use Rattle.cbm_file.specs.Files.{Disk}
use Rattle.cbm_medium.specs.Content.{Content}
use Rattle.cbm_chain.specs.Reading.{Reading}
use Rattle.cbm_listing.specs.Listed.{ListedBytes}
use Rattle.cbm_volume.specs.Writers.{Filling, Use, HoldsNow, with_use, needs_block, IsStored, IsFullDisk}
use Rattle.cbm_volume.specs.Writers as usage
use Rattle.cbm_machine.specs.Machines as machine
use Rattle.cbm_channel.specs.declared.channel.Channel.{Channel}
use Rattle.cbm_channel.specs.declared.channel.Channel.TheVariants as code
use Rattle.cbm_channel.specs.Standing.{FitsTracks, ChannelStands, use_of}
use Rattle.cbm_channel.specs.Placed.{Placed}
use Rattle.cbm_channel.specs.Written.{is_lost, channel_put, disk_put, IsCutOff, IsBeingWritten}
use Rattle.cbm_channel.proofs.Uses.{with_same, by_kind}

-- nothing becomes of the byte
pub record IsDropped (byte : ℕ) (d : Disk) (x : machine.Channel) : Type 0 where
  pub kept : is_lost d x ≡ false
  pub channel : channel_put byte d x ≡ x
  pub disk : disk_put d x ≡ d

abbrev pub IsNotWritten : Channel → Type 0
IsNotWritten k = (w : Filling) (full : Bool) → k ≡ code.Writing w full → ⊥

-- what holds of each kind of channel but a writer
pub of_others : (P : Channel → Type 0) (k : Channel) → IsNotWritten k → P code.Closed → ((l : ListedBytes) → P (code.Listing l)) → ((slot : ℕ) (r : Reading) → P (code.File slot r)) → ((slot : ℕ) → P (code.Stopped slot)) → ((r : Placed) → P (code.Records r)) → P k
of_others P code.Closed none closed listing file stopped records = closed
of_others P (code.Listing l) none closed listing file stopped records = listing l
of_others P (code.File slot r) none closed listing file stopped records = file slot r
of_others P (code.Writing w full) none closed listing file stopped records = absurd (none w full refl)
of_others P (code.Stopped slot) none closed listing file stopped records = stopped slot
of_others P (code.Records r) none closed listing file stopped records = records r

-- what holds of each such channel and the machine's that it stands for
pub of_others_by : (P : machine.Channel → Type 0) (k : Channel) (x : machine.Channel) → IsNotWritten k → ChannelStands k x → P machine.Closed → ((slot : Option ℕ) (left : List ℕ) → P (machine.Reading slot left))
    → ((slot : ℕ) → P (machine.Stopped slot)) → ((slot number position : ℕ) → P (machine.Relative slot number position)) → P x
of_others_by P k x none h closed reading stopped relative =
    by_kind (λ k x. IsNotWritten k → P x) (λ n. closed) (λ l n. reading None (drop l.taken l.bytes)) (λ slot r left n. reading (Some slot) left) (λ w full bytes blocks n. absurd (n w full refl)) (λ slot n. stopped slot) (λ r n. relative r.slot r.number r.position) k x h none

pub not_written : (byte : ℕ) (d : Disk) (k : Channel) (x : machine.Channel) → IsNotWritten k → ChannelStands k x → IsDropped byte d x
not_written byte d k x none h =
    of_others_by (IsDropped byte d) k x none h (record { kept = refl; channel = refl; disk = refl }) (λ slot left. record { kept = refl; channel = refl; disk = refl }) (λ slot. record { kept = refl; channel = refl; disk = refl })
    (λ slot number position. record { kept = refl; channel = refl; disk = refl })

full_is : (byte : ℕ) (d : Disk) (slot blocks : ℕ) (bytes : List ℕ) (full replaces : Bool) → full ≡ true → IsDropped byte d (machine.Writing slot bytes blocks full replaces)
full_is byte d slot blocks bytes full replaces f = rw f (record { kept = refl; channel = refl; disk = refl })

pub full_before : (byte : ℕ) (d : Disk) (k : Channel) (w : Filling) (full : Bool) (x : machine.Channel) → k ≡ code.Writing w full → full ≡ true → ChannelStands k x → IsDropped byte d x
full_before byte d k w full x e f h =
    let at : ChannelStands (code.Writing w full) x = subst (λ y. ChannelStands y x) e h in
    subst (IsDropped byte d) (sym at.2) (full_is byte d w.slot at.1 at.0 full w.replaces f)

abbrev pub IsPut : ℕ → Content → Disk → (ℕ → Use) → ℕ → Channel → machine.Channel → ℕ → Bool → Type 0
IsPut t c d uses ch new x byte done =
    (done ≡ not (is_lost d x)) × ChannelStands new (channel_put byte d x) × HoldsNow t c (disk_put d x) (with_use uses ch (use_of new (channel_put byte d x)))

pub put_nothing : (t : ℕ) (c : Content) (byte : ℕ) (d : Disk) (uses : ℕ → Use) (ch : ℕ) (k : Channel) (x : machine.Channel) → IsDropped byte d x → HoldsNow t c d uses → uses ch ≡ use_of k x → ChannelStands k x
    → IsPut t c d uses ch k x byte true
put_nothing t c byte d uses ch k x s h e stands = (
  sym (ap not s.kept),
  subst (ChannelStands k) (sym s.channel) stands,
  subst (λ (y : machine.Channel). HoldsNow t c (disk_put d x) (with_use uses ch (use_of k y))) (sym s.channel)
      (subst (λ (y : Disk). HoldsNow t c y (with_use uses ch (use_of k x))) (sym s.disk)
      (subst (HoldsNow t c d) (sym (with_same uses ch (use_of k x) e)) h)),
)

-- what the machine's channel has
pub writes_so : (k : Channel) (w : Filling) (full : Bool) (x : machine.Channel) (u : Use) → k ≡ code.Writing w full → ChannelStands k x → u ≡ use_of k x
    → (bytes : List ℕ) × (blocks : ℕ) × (x ≡ machine.Writing w.slot bytes blocks full w.replaces) × (u ≡ usage.Writes w bytes blocks)
writes_so k w full x u e h f =
    let at : ChannelStands (code.Writing w full) x = subst (λ y. ChannelStands y x) e h in
    (at.0, at.1, at.2, f ∙ ap (λ y. use_of y x) e ∙ ap (use_of (code.Writing w full)) at.2)

pub put_full : (t : ℕ) (c : Content) (byte : ℕ) (d : Disk) (uses : ℕ → Use) (ch : ℕ) (k : Channel) (w : Filling) (full : Bool) (x : machine.Channel) → k ≡ code.Writing w full → full ≡ true → HoldsNow t c d uses → uses ch ≡ use_of k x
    → ChannelStands k x → IsPut t c d uses ch (code.Writing w full) x byte true
put_full t c byte d uses ch k w full x e f h used stands =
    subst (λ (y : Channel). IsPut t c d uses ch y x byte true) e (put_nothing t c byte d uses ch k x (full_before byte d k w full x e f stands) h used stands)

pub fits_on : (t t' : ℕ) (k : Channel) (w v : Filling) (full : Bool) → k ≡ code.Writing w full → v.chain.tracks ≡ w.chain.tracks → t' ≡ t → FitsTracks t k → v.chain.tracks ≤ t'
fits_on t t' k w v full e same tracks h = let at : w.chain.tracks ≤ t = subst (FitsTracks t) e h in omega (arith, at, same, tracks)

some_left : (b : Bool) (free : ℕ) → (b ≡ true → 0 < free) → (b && (free == 0)) ≡ false
some_left false free h = refl
some_left true free h = ne_eqb free 0 (λ e. absurd (omega (arith, e, h refl)))

pub put_done : (t : ℕ) (c c' : Content) (byte : ℕ) (d : Disk) (uses : ℕ → Use) (ch : ℕ) (k : Channel) (w v : Filling) (full done : Bool) (x : machine.Channel) → k ≡ code.Writing w full → full ≡ false
    → v.slot ≡ w.slot → v.replaces ≡ w.replaces → HoldsNow t c d uses → uses ch ≡ use_of k x → ChannelStands k x
    → ((bytes : List ℕ) (blocks : ℕ) → uses ch ≡ usage.Writes w bytes blocks → MatchBool done (IsStored t c' d uses ch v bytes blocks byte) (IsFullDisk c c' d w v bytes blocks))
    → IsPut t c' d uses ch (code.Writing v (not done)) x byte done
put_done t c c' byte d uses ch k w v full done x e f slot way h used stands call = by_done done (call at.0 at.1 at.3)
  where
    at : (bytes : List ℕ) × (blocks : ℕ) × (x ≡ machine.Writing w.slot bytes blocks full w.replaces) × (uses ch ≡ usage.Writes w bytes blocks)
    at = writes_so k w full x (uses ch) e stands used

    bytes : List ℕ
    bytes = at.0

    blocks : ℕ
    blocks = at.1

    is : x ≡ machine.Writing v.slot bytes blocks false v.replaces
    is = at.2 ∙ (λ i. machine.Writing (sym slot i) bytes blocks (f i) (sym way i))

    by_done : (b : Bool) → MatchBool b (IsStored t c' d uses ch v bytes blocks byte) (IsFullDisk c c' d w v bytes blocks) → IsPut t c' d uses ch (code.Writing v (not b)) x byte b
    by_done true s =
        let none : (needs_block bytes blocks && (d.free == 0)) ≡ false = some_left (needs_block bytes blocks) d.free s.room in
        rw is (rw none (refl, (_, _, refl), s.holds))
    by_done false s =
        let all : (needs_block bytes blocks && (d.free == 0)) ≡ true = rw s.needs (eq-eqb d.free 0 s.none_free) in
        rw is (rw all (
          refl,
          (_, _, refl),
          subst (λ (y : Content). HoldsNow t y d (with_use uses ch (usage.Writes v bytes blocks))) (sym s.same)
              (subst (λ (y : Filling). HoldsNow t c d (with_use uses ch (usage.Writes y bytes blocks))) (sym s.stays) (subst (HoldsNow t c d) (sym (with_same uses ch (usage.Writes w bytes blocks) at.3)) h)),
        ))

-- a write was refused
pub cut_off : (d : Disk) (k : Channel) (w : Filling) (full : Bool) (x : machine.Channel) (slot : ℕ) → k ≡ code.Writing w full → ChannelStands k x → slot ≡ w.slot → IsCutOff (code.Stopped slot) x
cut_off d k w full x slot e h at =
    let is : ChannelStands (code.Writing w full) x = subst (λ y. ChannelStands y x) e h in
    record { slot = slot; stopped = refl; bytes = is.0; blocks = is.1; full = full; replaces = w.replaces; wrote = is.2 ∙ (λ i. machine.Writing (sym at i) is.0 is.1 full w.replaces) }

-- a channel that is written
pub written_on : (k : Channel) (w : Filling) (full : Bool) (x : machine.Channel) → k ≡ code.Writing w full → ChannelStands k x → IsBeingWritten x
written_on k w full x e h =
    let is : ChannelStands (code.Writing w full) x = subst (λ y. ChannelStands y x) e h in
    record { slot = w.slot; bytes = is.0; blocks = is.1; full = full; replaces = w.replaces; is = is.2 }
