-- Over a medium that never fails by itself each part of a call is done.
use Rattle.std.proofs.Common.{◌≡◌, ◌≤◌, ℕ, List, [], ◌∷◌, arith}
use Rattle.cbm_medium.specs.Seen.{Seen, HasFailed}
use Rattle.cbm_machine.specs.Machines.{Machine}
use Rattle.cbm_machine.specs.Closing.{close}
use Rattle.cbm_machine.specs.Calls.{put, end_put, after_open}
use Rattle.cbm_channel.specs.Standing.{Kept, Stands, Leads}
use Rattle.cbm_channel.specs.Going.{closing, opening_parts, GoesFrom, Goes, EndsFrom}
use Rattle.cbm_channel.proofs.DoneParts.{unfailed_put, unfailed_end, unfailed_close, unfailed_open}

module _ {M : Type 0} (seen : M → Seen) (steady : (k : M) → (seen k).failures ≡ 0) (old new : Kept M) where
  unfailed : (seen new.medium).failures ≤ (seen old.medium).failures
  unfailed = omega (arith, steady old.medium, steady new.medium)

  -- a byte that is put
  pub steady_put : (ch b : ℕ) → Goes seen old new ((ch, put ch b) ∷ []) → Leads seen old new (put ch b)
  steady_put = unfailed_put seen old new unfailed

  -- the end of what was put
  pub steady_end : (ch : ℕ) → ((m : Machine) → Stands seen old m → EndsFrom seen old new ch m)
      → Leads seen old new (end_put ch)
  steady_end = unfailed_end seen old new unfailed

  pub steady_close : (ch : ℕ) → Goes seen old new (closing ch) → Leads seen old new (close ch)
  steady_close = unfailed_close seen old new unfailed

  pub steady_open : (ch : ℕ) (text : List ℕ)
      → ((m : Machine) → Stands seen old m → GoesFrom seen old new (opening_parts ch text) m)
      → Leads seen old new (after_open ch text)
  steady_open = unfailed_open seen old new unfailed
