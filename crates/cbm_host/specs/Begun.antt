-- A request under way on a bus with one drive, from rest: the bytes that the host has of it so far.
use Rattle.std.specs.Prelude.{◌≡◌, ℕ, Bool, true, List, [], ◌++◌, Option}
use Rattle.cbm_iec.specs.declared.machine.Act.{Act}
use Rattle.cbm_session.specs.Answers.{Run}
use Rattle.cbm_host.specs.CarriedOut.{acts_carried_out, AreTakenBy}
use Rattle.cbm_host.specs.declared.request.Request.{Request}

-- A REQUEST IS BEGUN: the bytes so far are the first of those that the machine says in it, as it runs the acts of the whole request; where the last of them
-- carried EOI they are all.
pub record IsRequestBegun (M : Type 0) (step : M → Act → M) (says : M → Option (ℕ × Bool)) (d : ℕ) (m : M) (request : Request) (bytes : List ℕ) (last : Bool) : Type 0 where
  pub whole : List ℕ
  pub marked : Bool
  pub afterwards : M
  pub ran : Run M step says m (acts_carried_out d request whole marked) afterwards
  pub taken : AreTakenBy request whole marked
  pub more : List ℕ
  pub front : whole ≡ bytes ++ more
  pub all : last ≡ true → (more ≡ []) × (marked ≡ true)
