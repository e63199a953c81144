-- A drive with direct access on the bus. It represents no machine of named files: what its sectors say isn't a function of such a machine.
use Rattle.std.specs.Prelude.{ℕ, ◌≡◌, ◌≤◌, Bool, false, Option, Some, None}
use Rattle.std.proofs.Common.{subst}
use Rattle.cbm_medium.specs.Seen.{Seen}
use Rattle.cbm_direct.specs.Directs.{Direct, HasStarted, HasTakenDisk, direct_shown}
use Rattle.cbm_drive.specs.Addressing.{Addressed, channel_said, paced, unaddressed}

-- the drive, and how it is addressed
pub record DirectAddressed (M : Type 0) : Type 0 where
  pub dos : Direct M
  pub addressed : Addressed

-- what it shows on a channel, if it is a talker's
abbrev pub direct_shown_from : {M : Type 0} → Option ℕ → Direct M → Option (ℕ × Bool)
direct_shown_from None d = None
direct_shown_from (Some channel) d = direct_shown channel d

-- THE BYTE THAT IS SHOWN to a talker's listeners, and whether it is the last
abbrev pub direct_desk_shows : {M : Type 0} → DirectAddressed M → Option (ℕ × Bool)
direct_desk_shows d = direct_shown_from (channel_said d.addressed.role d.addressed.channel) d.dos

-- there is nothing to say
abbrev pub IsNothing : Option (ℕ × Bool) → Type 0
IsNothing None = Unit {0}
IsNothing (Some said) = ⊥

-- A machine that has nothing to say has said no byte before another.
abbrev pub never_more : (m : Unit {0}) (n : ℕ) → ◌≡◌ {A = Option (ℕ × Bool)} None (Some (n, false)) → (x : ℕ × Bool) × (◌≡◌ {A = Option (ℕ × Bool)} None (Some x))
never_more m n e = absurd (subst IsNothing e tt)

-- Each act leaves: what is known of the disk that was put in; failures only grow.
pub record KeepsDesk {M : Type 0} (seen : M → Seen) (old new : DirectAddressed M) : Type 0 where
  pub vouch : new.dos.vouched.vouch ≡ old.dos.vouched.vouch
  pub counted : (seen old.dos.vouched.dos.medium).failures ≤ (seen new.dos.vouched.dos.medium).failures

-- it was switched off and on with its disk
pub record IsStartedAgain {M : Type 0} (seen : M → Seen) (old new : DirectAddressed M) : Type 0 where
  pub dos : HasStarted seen old.dos new.dos
  pub addressed : new.addressed ≡ paced old.addressed.pace (unaddressed old.addressed.device)

-- It was given another disk: who is addressed stays.
pub record IsGivenDisk {M : Type 0} (seen : M → Seen) (medium : M) (old new : DirectAddressed M) : Type 0 where
  pub taken : HasTakenDisk seen medium old.dos new.dos
  pub addressed : new.addressed ≡ old.addressed
