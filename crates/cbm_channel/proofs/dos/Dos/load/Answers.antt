use Rattle.std.proofs.Common.{rules, ◌≡◌, subst}
use Rattle.std.specs.Prelude.{None}
use Rattle.cbm_channel.specs.Loaded.{channels_at}
use Rattle.cbm_channel.proofs.dos.Dos.load.Goals as goal

-- no channels follow
pub returns-in_err-channels : goal.returns-in_err-channels
returns-in_err-channels g c =
    let none : channels_at (g.M.Medium.seen c.args.medium).tracks 15 c.in_ok-text.rest.now ≡ None = subst (λ t. channels_at t 15 c.in_ok-text.rest.now ≡ None) c.tracks.ensures.value (search rules) in
    search rules
