-- Swaps, one after another.
use Rattle.std.proofs.Common.{◌≡◌, ◌⊎◌, ℕ, List, [], ◌∷◌, false, sym, ap, subst, ◌∙◌, refl, inl, inr}
use Rattle.cbm_medium.specs.Place.{Place}
use Rattle.cbm_medium.specs.Content.{Content}
use Rattle.cbm_medium.specs.Seen.{Seen}
use Rattle.cbm_bam.specs.Map.{geometry_of}
use Rattle.cbm_shell.specs.declared.fault.ShellFault.{ShellFault}
use Rattle.cbm_shell.specs.declared.fault.ShellFault.TheVariants as fault
use Rattle.cbm_shell.specs.Editing.{HasNoSlot, IsUnedited, CanBeEdited, IsDirectory}
use Rattle.cbm_shell.specs.declared.changing.swapping.Swap.{Swap}
use Rattle.cbm_shell.specs.Swapping.{Swaps, AreSwapped, MissesSlot}
use Rattle.cbm_shell.proofs.SlotLemmas.{sound_directory, missed_before}

-- wherever the swaps that are left lead from now, all of them lead from the beginning
abbrev pub Swapping : ℕ → List Swap → Content → List Swap → Content → Type 0
Swapping tracks all old left now = (new : Content) → AreSwapped tracks left now new → AreSwapped tracks all old new

pub swapping-start : (tracks : ℕ) (all left : List Swap) (old : Content) → all ≡ left → Swapping tracks all old left old
swapping-start tracks all left old e = λ new h. subst (λ l. AreSwapped tracks l old new) (sym e) h

pub swapping-on : (tracks : ℕ) (all left rest : List Swap) (swap : Swap) (old now next : Content) → Swapping tracks all old left now → left ≡ swap ∷ rest
    → Swaps tracks swap now next → Swapping tracks all old rest next
swapping-on tracks all left rest swap old now next w e h = λ new r. w new (subst (λ l. AreSwapped tracks l now new) (sym e) (next, h, r))

pub swapping-end : (tracks : ℕ) (all left : List Swap) (old now : Content) → Swapping tracks all old left now → left ≡ [] → AreSwapped tracks all old now
swapping-end tracks all left old now w e = w now (subst (λ l. AreSwapped tracks l now now) (sym e) refl)

-- a slot that isn't there after some swaps wasn't there before them
pub misses_first : (tracks : ℕ) (c c2 : Content) (sectors : List Place) (swap : Swap) (rest : List Swap) → IsDirectory tracks c sectors → IsDirectory tracks c2 sectors → HasNoSlot tracks c2 swap.first ⊎ HasNoSlot tracks c2 swap.second
    → MissesSlot tracks c (swap ∷ rest)
misses_first tracks c c2 sectors swap rest h h2 (inl k) = inl (missed_before tracks c c2 sectors swap.first h h2 k)
misses_first tracks c c2 sectors swap rest h h2 (inr k) = inr (inl (missed_before tracks c c2 sectors swap.second h h2 k))

-- on the medium of a volume
pub missed_at : {M : Type 0} (seen : M → Seen) (volume medium : M) (geometry : ℕ) (swaps : List Swap) (f : ShellFault) → medium ≡ volume → geometry ≡ geometry_of (seen volume).tracks (seen volume).content
    → CanBeEdited (geometry_of (seen volume).tracks (seen volume).content) (seen volume)
    → ((sectors : List Place) → IsDirectory geometry (seen medium).content sectors → (seen medium).protected ≡ false → (f ≡ fault.NotFound) × MissesSlot geometry (seen medium).content swaps)
    → IsUnedited (seen volume).tracks (seen volume).content (MissesSlot (geometry_of (seen volume).tracks (seen volume).content) (seen volume).content swaps) f
missed_at seen volume medium geometry swaps f same at can h =
    let tracks : ℕ = geometry_of (seen volume).tracks (seen volume).content in
    let whole : IsDirectory tracks (seen volume).content can.layout.directory = sound_directory tracks (seen volume).content can.layout can.sound in
    let there : IsDirectory geometry (seen medium).content can.layout.directory =
    subst (λ m. IsDirectory geometry (seen m).content can.layout.directory) (sym same) (subst (λ k. IsDirectory k (seen volume).content can.layout.directory) (sym at) whole) in
    let r = h can.layout.directory there (ap (λ m. (seen m).protected) same ∙ can.free) in
    let missed : MissesSlot tracks (seen volume).content swaps = subst (λ k. MissesSlot k (seen volume).content swaps) at (subst (λ m. MissesSlot geometry (seen m).content swaps) same r.1) in
    subst (λ x. IsUnedited (seen volume).tracks (seen volume).content (MissesSlot tracks (seen volume).content swaps) x) (sym r.0) missed
