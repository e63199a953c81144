use Rattle.std.proofs.Common.{◌∷◌, zero, suc, sym, subst, inl, inr}
use Rattle.cbm_medium.specs.Content.{Content}
use Rattle.cbm_channel.specs.Loosely.{IsOnOne}
use Rattle.cbm_channel.proofs.channel.+spare_all.Goals as goal

-- the first channel's, or that of one behind it
pub returns-in-Some-clause-only : goal.returns-in-Some-clause-only
returns-in-Some-clause-only g t c = λ p marked.
    let content : Content = (g.M.Medium.seen c.args.volume.now).content in
    elim (c.spare_all.ensures.only p marked) [
      | inl was ↦ elim (c.spare.ensures.only p was) [
        | inl old ↦ inl old
        | inr here ↦ inr (subst (λ xs. IsOnOne content p xs) (sym c.in-Some.ensures.cases.0) (zero, here))
      ]
      | inr behind ↦ inr (subst (λ xs. IsOnOne content p xs) (sym c.in-Some.ensures.cases.0) (suc behind.0, behind.1))
    ]
