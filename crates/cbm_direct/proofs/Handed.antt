-- A call that is handed to the DOS, and a command of direct access.
use Rattle.std.proofs.Common.{◌≡◌, ℕ, Bool, List, Option, Some, None, Result, refl, subst, inr}
use Rattle.cbm_medium.specs.Seen.{Seen}
use Rattle.cbm_channel.specs.Standing.{Kept}
use Rattle.cbm_channel.specs.Parts.{OnlyText}
use Rattle.cbm_direct.specs.declared.asked.Asked.{Asked}
use Rattle.cbm_direct.specs.declared.memory.Reply.{Reply}
use Rattle.cbm_channel.specs.Going.{Goes, closing}
use Rattle.cbm_channel.specs.Opening.{OpensFrom}
use Rattle.cbm_machine.specs.Statuses.{plain}
use Rattle.cbm_machine.specs.declared.code.Code.TheVariants.{NoChannel}
use Rattle.cbm_direct.specs.Vouching.{Vouching}
use Rattle.cbm_direct.specs.Directs.{Direct, OfDos, IsDirectCommand, IsAskedDone, DirectAnswers, IsOpenedBeside, Reports, result_status}
use Rattle.cbm_medium.specs.Place.{Place}
use Rattle.cbm_medium.specs.declared.fault.Trouble.{Trouble}

-- of a drive that is known by its parts
pub handed : {M : Type 0} (does : Kept M → Kept M → Type 0) (answer : Option Reply) (inside now new : Direct M) → inside ≡ now
    → OfDos does answer inside new → OfDos does answer now new
handed does answer inside now new e h = subst (λ v. OfDos does answer v new) e h

-- the command that was read is the one that is carried out
pub commanded : {M : Type 0} (seen : M → Seen) (asked a : Asked) (old mid new : Direct M) → Some asked ≡ Some a
    → OfDos OnlyText None old mid → IsAskedDone seen asked mid new → IsDirectCommand seen a old new
commanded seen asked a old mid new e h k = (mid, h, subst (λ x. IsAskedDone seen x mid new) (cc) k)

-- the same if M-R's answer stays
pub handed_beside : {M : Type 0} (does : Kept M → Kept M → Type 0) (inside now new : Direct M) → inside ≡ now
    → OfDos does inside.reply inside new → OfDos does now.reply now new
handed_beside does inside now new e h = subst (λ v. OfDos does v.reply v new) e h

-- what relates what was there before with what is there now
pub taken_over : {M : Type 0} (relates : Direct M → Direct M → Type 0) (inside now new : Direct M) → inside ≡ now → relates inside new → relates now new
taken_over relates inside now new e h = subst (λ v. relates v new) e h

module _ {M : Type 0} (seen : M → Seen) (ch : ℕ) (text : List ℕ) (inside now new : Direct M) (e : inside ≡ now) where
  -- an OPEN that takes more buffers than there are is closed again
  pub taken_back : (v w : Vouching M) → OpensFrom seen ch text inside.vouched.dos v.dos → Goes seen v.dos w.dos (closing ch)
      → DirectAnswers (plain NoChannel) (record inside { vouched = w }) new → IsOpenedBeside seen ch text now new
  taken_back v w opens closes says = subst (λ x. IsOpenedBeside seen ch text x new) e (inr (inr (
    record inside { vouched = v },
    record inside { vouched = w },
    record { call = opens; buffers = refl; reply = refl },
    record { call = closes; buffers = refl; reply = refl },
    says,
  )))

-- what came of a sector is reported
pub reported : {M : Type 0} (p : Place) (Does : Result Bool Trouble → Kept M → Kept M → Type 0) (inside now new : Direct M) → inside ≡ now → (v : Vouching M) (r : Result Bool Trouble)
    → Does r inside.vouched.dos v.dos → v.vouch ≡ inside.vouched.vouch → DirectAnswers (result_status p r) (record inside { vouched = v }) new → Reports p Does now new
reported p Does inside now new e v r does same says = subst (λ x. Reports p Does x new) e (record {
  result = r;
  middle = record inside { vouched = v };
  call = does;
  vouch = same;
  buffers = refl;
  reply = refl;
  answers = says;
})
