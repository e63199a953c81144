use Rattle.std.proofs.Common.{subst}
use Rattle.cbm_channel.specs.Standing.{Kept}
use Rattle.cbm_channel.specs.Loosely.{ClaimsAt}
use Rattle.cbm_channel.proofs.Loosely.{claimed_call}
use Rattle.cbm_channel.proofs.dos.Dos.claim_at.Goals as goal

pub returns : goal.returns
returns g c =
    let seen = g.M.Medium.seen in
    let before : Kept _ = record { medium = c.self.inside.volume; channels = c.self.inside.channels.items; told = c.self.inside.telling; text = c.self.inside.text } in
    subst (λ (k : Kept _). ClaimsAt seen c.args.at c.claim_at.result k (record before { medium = c.claim_at.new.self })) c.self.view_is
    (claimed_call seen before c.claim_at.new.self c.args.at c.claim_at.result c.claim_at.ensures.only c.claim_at.ensures.done c.claim_at.ensures.refused c.claim_at.ensures.holds c.claim_at.ensures.err)
