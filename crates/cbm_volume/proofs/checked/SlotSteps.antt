-- The slots of a directory, entry by entry and sector by sector.
use Rattle.std.proofs.Common.{◌≡◌, ◌≢◌, ℕ, suc, ◌+◌, ◌-◌, ◌<◌, ◌≤◌, List, [], ◌∷◌, Bool, true, Some, None, Ok, refl, sym, ap, subst, ◌∙◌, arith, inl, inr}
use Rattle.cbm_medium.specs.Place.{Place}
use Rattle.cbm_medium.specs.Content.{Content}
use Rattle.cbm_medium.specs.Links.{bytes_at, or_nothing, link}
use Rattle.cbm_bam.specs.Map.{with_bit}
use Rattle.cbm_directory.specs.Entries.{entry_of}
use Rattle.cbm_directory.specs.Slots.{entries_from}
use Rattle.cbm_volume.specs.declared.check.unsound.Part.TheVariants.{OfDirectory}
use Rattle.cbm_volume.specs.declared.check.unsound.Unsound.{Unsound}
use Rattle.cbm_volume.specs.check.Claims.{wrong_at, fault_at}
use Rattle.cbm_volume.specs.check.SlotWalk.{ClaimsEntry, EntryFault, ClaimsEntries, EntriesFault, entries_after, entries_in, ClaimsSlots, SlotsFault}

entries_some : (n : ℕ) (sector : List ℕ) → n < 8 → entries_after n sector ≡ entry_of sector n ∷ entries_after (n + 1) sector
unfolding entries_after
entries_some n sector l =
    let more : 8 - n ≡ suc (8 - (n + 1)) = omega arith in
    ap (λ (m : ℕ). entries_from m sector n) more

pub entries_next : (n : ℕ) (sector e : List ℕ) → n < 8 → e ≡ entry_of sector n → entries_after n sector ≡ e ∷ entries_after (n + 1) sector
entries_next n sector e l is = entries_some n sector l ∙ ap (λ (x : List ℕ). x ∷ entries_after (n + 1) sector) (sym is)

pub entries_end : (n : ℕ) (sector : List ℕ) → 8 ≤ n → entries_after n sector ≡ []
unfolding entries_after
entries_end n sector l =
    let end : 8 - n ≡ 0 = omega arith in
    ap (λ (m : ℕ). entries_from m sector n) end

pub entries_step : (tracks : ℕ) (content : Content) (claimed between after : Place → Bool) (e : List ℕ) (whole rest : List (List ℕ)) → whole ≡ e ∷ rest → ClaimsEntry tracks content claimed e between
    → ClaimsEntries tracks content between rest after → ClaimsEntries tracks content claimed whole after
entries_step tracks content claimed between after e whole rest is h w = subst (λ (es : List (List ℕ)). ClaimsEntries tracks content claimed es after) (sym is) (between, (h, w))

pub fault_step : (tracks : ℕ) (content : Content) (claimed between : Place → Bool) (sector : Place) (u : Unsound) (e : List ℕ) (whole rest : List (List ℕ)) → whole ≡ e ∷ rest → ClaimsEntry tracks content claimed e between
    → EntriesFault tracks content between sector rest u → EntriesFault tracks content claimed sector whole u
fault_step tracks content claimed between sector u e whole rest is h w = subst (λ (es : List (List ℕ)). EntriesFault tracks content claimed sector es u) (sym is) (inr (between, (h, w)))

pub fault_here : (tracks : ℕ) (content : Content) (claimed : Place → Bool) (sector : Place) (u : Unsound) (e : List ℕ) (whole rest : List (List ℕ)) → whole ≡ e ∷ rest → EntryFault tracks content claimed sector e u
    → EntriesFault tracks content claimed sector whole u
fault_here tracks content claimed sector u e whole rest is h = subst (λ (es : List (List ℕ)). EntriesFault tracks content claimed sector es u) (sym is) (inl h)

-- ---- sectors

read_as : (content : Content) (a : Place) (bytes : List ℕ) → content a ≡ Ok bytes → bytes ≡ bytes_at content a
read_as content a bytes h = sym (ap or_nothing h)

pub slots_step : (tracks : ℕ) (content : Content) (met met2 claimed between after : Place → Bool) (a a2 : Place) (bytes : List ℕ) (rest : List Place) → wrong_at OfDirectory tracks content met a ≡ None → met2 ≡ with_bit met a true
    → content a ≡ Ok bytes → a2 ≡ link bytes → ClaimsEntries tracks content claimed (entries_in bytes) between → ClaimsSlots tracks content met2 between a2 rest after → ClaimsSlots tracks content met claimed a (a ∷ rest) after
slots_step tracks content met met2 claimed between after a a2 bytes rest n e h f w r =
    let same : bytes ≡ bytes_at content a = read_as content a bytes h in (
      refl,
      n,
      (
        between,
        (
          subst (λ (b : List ℕ). ClaimsEntries tracks content claimed (entries_in b) between) same w,
          subst (λ (m : Place → Bool). ClaimsSlots tracks content m between (link (bytes_at content a)) rest after) e (subst (λ (p : Place). ClaimsSlots tracks content met2 between p rest after) (f ∙ ap link same) r),
        ),
      ),
    )

pub slots_fault : (tracks : ℕ) (content : Content) (met met2 claimed between : Place → Bool) (u : Unsound) (a a2 : Place) (bytes : List ℕ) (rest : List Place) → wrong_at OfDirectory tracks content met a ≡ None → met2 ≡ with_bit met a true
    → content a ≡ Ok bytes → a2 ≡ link bytes → ClaimsEntries tracks content claimed (entries_in bytes) between → SlotsFault tracks content met2 between a2 rest u → SlotsFault tracks content met claimed a (a ∷ rest) u
slots_fault tracks content met met2 claimed between u a a2 bytes rest n e h f w r =
    let same : bytes ≡ bytes_at content a = read_as content a bytes h in (
      refl,
      n,
      (
        between,
        (
          subst (λ (b : List ℕ). ClaimsEntries tracks content claimed (entries_in b) between) same w,
          subst (λ (m : Place → Bool). SlotsFault tracks content m between (link (bytes_at content a)) rest u) e (subst (λ (p : Place). SlotsFault tracks content met2 between p rest u) (f ∙ ap link same) r),
        ),
      ),
    )

pub slots_wrong : (tracks : ℕ) (content : Content) (met claimed : Place → Bool) (u : Unsound) (a : Place) → a.track ≢ 0 → wrong_at OfDirectory tracks content met a ≡ Some u.number → u ≡ fault_at u.number a → SlotsFault tracks content met claimed a [] u
slots_wrong tracks content met claimed u a ne w e = inl (ne, w, e)

pub slots_entry : (tracks : ℕ) (content : Content) (met claimed : Place → Bool) (u : Unsound) (a : Place) (bytes : List ℕ) → wrong_at OfDirectory tracks content met a ≡ None → content a ≡ Ok bytes → EntriesFault tracks content claimed a (entries_in bytes) u
    → SlotsFault tracks content met claimed a [] u
slots_entry tracks content met claimed u a bytes n h w = inr (n, subst (λ (b : List ℕ). EntriesFault tracks content claimed a (entries_in b) u) (read_as content a bytes h) w)
