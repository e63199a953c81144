-- If the medium didn't fail by itself in a call, each part of it is done.
use Rattle.std.proofs.Common.{◌≡◌, ◌≤◌, ℕ, Bool, true, false, List, [], ◌∷◌, ◌++◌, refl, subst, arith, inl, inr}
use Rattle.std.specs.Prelude.{◌==◌, if◌then◌else◌}
use Rattle.cbm_medium.specs.Seen.{Seen, HasFailed}
use Rattle.cbm_machine.specs.Machines.{Machine}
use Rattle.cbm_machine.specs.Closing.{close_one, close_all, close, channel_numbers, without_text}
use Rattle.cbm_machine.specs.Plans.{open_text}
use Rattle.cbm_machine.specs.Calls.{put, end_put, command, after_open}
use Rattle.cbm_channel.specs.Standing.{Kept, Stands, Leads}
use Rattle.cbm_channel.proofs.Goings.{rises}
use Rattle.cbm_channel.specs.Going.{Passes, PassesAll, closings, closing, opening_parts, GoesFrom, Goes, EndsPut, EndsFrom}

-- the machine after all parts
abbrev done : List (ℕ × (Machine → Machine)) → Machine → Machine
done [] m = m
done (p ∷ parts) m = done parts (p.1 m)

-- a part that couldn't be stopped is done
pub is_done : (failed : Type 0) (ch : ℕ) (part : Machine → Machine) (m n : Machine) → (failed → ⊥) → Passes failed ch part m n → n ≡ part m
is_done failed ch part m n never (inl e) = e
is_done failed ch part m n never (inr stopped) = absurd (never stopped.0)

pub all_done : (a b : Seen) (parts : List (ℕ × (Machine → Machine))) (m n : Machine) → b.failures ≤ a.failures → PassesAll a b parts m n → n ≡ done parts m
all_done a b [] m n few h = h.0
all_done a b (p ∷ parts) m n few h =
    let more : h.0.failures ≤ b.failures = rises h.0 b parts h.2 n h.4 in
    let first : a.failures ≤ h.0.failures = h.1 in
    subst (λ x. n ≡ done parts x) (is_done (HasFailed a h.0) p.0 p.1 m h.2 (λ f. omega (arith, f, more, few)) h.3) (all_done h.0 b parts h.2 n (omega (arith, few, first)) h.4)

-- so is the end of what was put
is_ended : (failed : Type 0) (ch : ℕ) (m n : Machine) → (failed → ⊥) → EndsPut failed ch m n → n ≡ end_put ch m
is_ended failed ch m n never (inl passed) = is_done failed ch (end_put ch) m n never passed
is_ended failed ch m n never (inr stopped) = absurd (never stopped.0)

-- ---- what the parts of CLOSE and OPEN come to

closed_by : (b : Bool) (ch : ℕ) (m : Machine)
    → done (if b then closings ++ (15, without_text 15) ∷ [] else (ch, close_one ch) ∷ []) m
    ≡ (if b then without_text 15 (close_all channel_numbers m) else close_one ch m)
closed_by true ch m = refl
closed_by false ch m = refl

opened_by : (b : Bool) (ch : ℕ) (text : List ℕ) (m : Machine)
    → done (if b then (15, command text) ∷ [] else (ch, close_one ch) ∷ (ch, open_text ch text) ∷ []) m
    ≡ (if b then command text m else open_text ch text (if b then without_text 15 (close_all channel_numbers m) else close_one ch m))
opened_by true ch text m = refl
opened_by false ch text m = refl

-- ---- the calls, if the medium failed no more often after them than before

module _ {M : Type 0} (seen : M → Seen) (old new : Kept M) (u : (seen new.medium).failures ≤ (seen old.medium).failures) where
  never : HasFailed (seen old.medium) (seen new.medium) → ⊥
  never h = omega (arith, u, h)

  goes_done : (parts : List (ℕ × (Machine → Machine))) (m : Machine) → GoesFrom seen old new parts m → Stands seen new (done parts m)
  goes_done parts m (n, passed, s) = subst (λ x. Stands seen new x) (all_done _ _ parts m n u passed) s

  -- a byte that is put
  pub unfailed_put : (ch b : ℕ) → Goes seen old new ((ch, put ch b) ∷ []) → Leads seen old new (put ch b)
  unfailed_put ch b goes m s = goes_done ((ch, put ch b) ∷ []) m (goes m s)

  -- the end of what was put
  pub unfailed_end : (ch : ℕ) → ((m : Machine) → Stands seen old m → EndsFrom seen old new ch m)
      → Leads seen old new (end_put ch)
  unfailed_end ch goes m s = let x = goes m s in subst (λ y. Stands seen new y) (is_ended _ ch m x.0 never x.1) x.2

  pub unfailed_close : (ch : ℕ) → Goes seen old new (closing ch) → Leads seen old new (close ch)
  unfailed_close ch goes m s = subst (λ x. Stands seen new x) (closed_by (ch == 15) ch m) (goes_done (closing ch) m (goes m s))

  pub unfailed_open : (ch : ℕ) (text : List ℕ)
      → ((m : Machine) → Stands seen old m → GoesFrom seen old new (opening_parts ch text) m)
      → Leads seen old new (after_open ch text)
  unfailed_open ch text goes m s =
      subst (λ x. Stands seen new x) (opened_by (ch == 15) ch text m) (goes_done (opening_parts ch text) m (goes m s))
