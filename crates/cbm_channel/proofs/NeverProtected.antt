-- What a content shows is never reported with the code 26, which is that of protection.
use Rattle.std.proofs.Common.{◌≡◌, ◌≢◌, ℕ, List, Some, inl, inr, ◌⊎◌, arith}
use Rattle.cbm_medium.specs.Place.{Place}
use Rattle.cbm_medium.specs.Content.{Content, HasFaultCode}
use Rattle.cbm_medium.specs.Met.{IsMetFrom}
use Rattle.cbm_medium.specs.declared.fault.Trouble.{Trouble}
use Rattle.cbm_medium.proofs.FaultCodes.{never_26, followed_never_26}
use Rattle.cbm_directory.specs.Entries.{first_directory, first_side}
use Rattle.cbm_directory.specs.Slots.{directory_of, listed_from}
use Rattle.cbm_volume.specs.RecordFaults.{IsMislisted, IsOfEntry}
use Rattle.cbm_channel.specs.Grounds.{ShowsTrouble}

listed_never_26 : (tracks : ℕ) (c : Content) (t : Trouble) → ((p : Place) → HasFaultCode (c p)) → (directory_of tracks c).trouble ≡ Some t → t.code ≢ 26
unfolding directory_of listed_from
listed_never_26 tracks c t codes e = followed_never_26 tracks c 18 first_directory t codes e

pub met_never_26 : (tracks : ℕ) (c : Content) (starts : Place → Type 0) (t : Trouble) → ((p : Place) → HasFaultCode (c p)) → IsMetFrom tracks c starts t → t.code ≢ 26
met_never_26 tracks c starts t codes (r, inl off) = λ is. omega (arith, off.0, is)
met_never_26 tracks c starts t codes (r, inr on) = never_26 (c (record { track = t.track; sector = t.sector })) t.code (codes (record { track = t.track; sector = t.sector })) on.1

pub shown_never_26 : (tracks : ℕ) (c : Content) (t : Trouble) → ((p : Place) → HasFaultCode (c p)) → ShowsTrouble tracks c t → t.code ≢ 26
shown_never_26 tracks c t codes (inl e) = never_26 (c (record { track = t.track; sector = t.sector })) t.code (codes (record { track = t.track; sector = t.sector })) e
shown_never_26 tracks c t codes (inr (inl e)) = listed_never_26 tracks c t codes e
shown_never_26 tracks c t codes (inr (inr (inl (entry, there, e)))) = followed_never_26 tracks c _ _ t codes e
shown_never_26 tracks c t codes (inr (inr (inr (inl (entry, there, m))))) = λ is. omega (arith, m.code, is)
shown_never_26 tracks c t codes (inr (inr (inr (inr (slot, (entry, there, m)))))) = met_never_26 tracks c (IsOfEntry tracks c entry) t codes m

pub opening_never_26 : (tracks : ℕ) (c : Content) (e : List ℕ) (t : Trouble) → ((p : Place) → HasFaultCode (c p)) → IsMetFrom tracks c (λ q. q ≡ first_side e) t ⊎ IsMislisted tracks c e t → t.code ≢ 26
opening_never_26 tracks c e t codes (inl m) = met_never_26 tracks c (λ q. q ≡ first_side e) t codes m
opening_never_26 tracks c e t codes (inr m) = λ is. omega (arith, m.code, is)
